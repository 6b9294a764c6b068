pub mod PieceLaws
pub mod NameLaws
pub mod LineLaws
pub mod HeadLaws
pub mod BelowLaws
pub mod WholeLaws
mod KnownLaws
pub mod OneLaws
mod PatternLaws
