pub mod Folds
pub mod WeightForms
pub mod Examples
