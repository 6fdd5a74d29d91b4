pub mod EntryView
pub mod NamesView
pub mod FormView
pub mod StepView
pub mod DerivationView
pub mod LeafView
pub mod ChildrenView
