pub mod SpotView
pub mod PastView
pub mod NodeView
pub mod MadeView
pub mod AheadView
pub mod Pairs
pub mod RunView
