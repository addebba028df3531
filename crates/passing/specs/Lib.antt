-- what is appended to an inbox and to series c
pub mod InboxAppend
pub mod CopiedAppend
pub mod Room
-- the copies, and the message
pub mod CopyLoop
pub mod Delivery
-- what a sender knows
pub mod SenderFacts
pub mod DeliveryCounts
