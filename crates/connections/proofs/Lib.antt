pub mod Lines
pub mod Marks
pub mod Courses
pub mod Pieces
