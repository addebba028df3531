-- expansion with what stands for `this`
pub mod Expanding
-- words put where 4,096 have room, and tests of a number in a range
pub mod Writer
pub mod Put
pub mod PutLaws
pub mod Ranges
-- the words of an expansion, and the code that puts them
pub mod ExpandedWords
pub mod EmitContract
pub mod FormLaws
pub mod EmitLaws
-- a script's words expand to those of its expansion
pub mod Expands
pub mod FormWords
pub mod ExpressionLaws
pub mod Lines
-- the first state
pub mod Start
-- what a caller learns
pub mod LoadContract
pub mod LoadLaws
pub mod LoadCall
