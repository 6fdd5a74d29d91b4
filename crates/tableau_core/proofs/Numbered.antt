pub mod LabelLaws
pub mod KnownLaws
pub mod ClosingLaws
pub mod AheadLaws
