-- what the code computes of a part
pub mod Tests
-- messages
pub mod MessageTests
pub mod Messages
-- entities
pub mod Fields
pub mod Objects
pub mod Entities
pub mod Series
pub mod Queues
pub mod Orders
-- all of a part
pub mod Regions
pub mod PartContract
pub mod Sound
pub mod Complete
pub mod Bodies
-- what each way through the code returns
pub mod ValueLaws
pub mod MessageLaws
pub mod SlotLaws
pub mod PartLaws
