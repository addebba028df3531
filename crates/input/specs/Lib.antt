pub mod Digits
pub mod Known
pub mod Within
