pub mod FieldChecks
pub mod HeaderAdmission
pub mod HeaderKinds
pub mod HeaderModes
pub mod HeaderRequirements
pub mod HeaderMeans
pub mod Ranges
pub mod Tried
