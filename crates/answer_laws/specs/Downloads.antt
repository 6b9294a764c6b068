-- what public contracts rest on
pub mod Siblings
pub mod OwnParts
pub mod Answers
pub mod OwnReaders
pub mod FairBlame
pub mod Downloads
