-- where a script stands, and its names
pub mod LinesAt
pub mod Names
-- limits
pub mod Depth
pub mod Size
-- the table
pub mod Narrow
pub mod TableWriteLaws
pub mod TableRegions
-- passes over trees
pub mod Trees
pub mod Operators
pub mod TreeFits
pub mod TreeContract
pub mod Lines
-- lists name a thing once
pub mod Single
pub mod SingleNames
pub mod SinglePut
pub mod SingleLines
-- variables are bound
pub mod Scope
pub mod Bound
pub mod Levels
pub mod BoundPut
pub mod BoundLines
