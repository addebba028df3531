-- where terms end
pub mod EndLaws
-- the laws of terms
pub mod ShapeLaws
pub mod FormLaws
pub mod ListLaws
pub mod LiteralLaws
