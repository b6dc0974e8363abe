pub mod Admission
pub mod Checked
pub mod Codes
pub mod Govern
pub mod Meaning
pub mod Modes
pub mod Sheets
pub mod Unmet
