mod PassingLaws
pub mod Same
pub mod CourseLaws
pub mod FrameLaws
pub mod NodeLaws
