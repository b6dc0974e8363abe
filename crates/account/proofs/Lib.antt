pub mod Told
pub mod Puts
