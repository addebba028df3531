-- to be believed: the numbers of the layout, and how terms, states and tables stand in words
pub mod Numbers
pub mod Pack
pub mod Terms
pub mod Layout
pub mod Tables
