pub mod Longer
pub mod Chains
pub mod LabelTable
