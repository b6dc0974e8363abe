pub mod FieldChecks
pub mod FinAdmission
pub mod FinKinds
pub mod FinModes
pub mod FinRequirements
pub mod FinMeans
pub mod Ranges
pub mod Tried
