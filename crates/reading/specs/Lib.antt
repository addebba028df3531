pub mod Numbers
pub mod Items
pub mod Dictionary
pub mod Words
pub mod Sound
pub mod ReadBack
pub mod Complete
pub mod Exact
