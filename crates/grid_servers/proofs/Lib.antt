mod Left
mod Lines
mod Rising
pub mod Standing
