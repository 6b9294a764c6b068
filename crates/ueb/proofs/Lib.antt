pub mod Text
pub mod Order
pub mod Walk
pub mod Verdicts
pub mod ValueTexts
pub mod Written
pub mod KeyOrder
pub mod Refusals
