-- laws, one for each way to return
pub mod PartLaws
pub mod FormLaws
pub mod ArgumentLaws
pub mod LiteralLaws
pub mod MethodLaws
pub mod Cycle
-- lines and the whole text
pub mod Lines
pub mod TextLaws
