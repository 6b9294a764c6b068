pub mod KeyLaws
pub mod HeldLaws
pub mod ShelfLaws
pub mod MemoryLaws
