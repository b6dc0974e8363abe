pub mod Fronts
pub mod Goes
pub mod Stretches
