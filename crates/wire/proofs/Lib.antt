pub mod FieldLaws
pub mod ShareLaws
pub mod BodyLaws
pub mod MessageLaws
pub mod StreamLaws
pub mod HeldLaws
pub mod LengthLaws
pub mod SharesLoop
