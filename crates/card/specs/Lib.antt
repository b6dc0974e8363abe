pub mod Codes
pub mod Text
pub mod Kinds
pub mod Fins
pub mod Headers
pub mod Cards
pub mod Reference
pub mod InTurn
