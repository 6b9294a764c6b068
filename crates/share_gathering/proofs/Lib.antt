pub mod OneByOne
pub mod Blocks
pub mod GroupSteps
pub mod Rows
pub mod ShareBlocks
pub mod FewBlocks
pub mod Sections
