pub mod Movable
pub mod Marks
pub mod Selected
pub mod Chosen
pub mod Within
pub mod Endings
pub mod Growing
pub mod Grown
