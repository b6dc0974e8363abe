pub mod Laws
pub mod Model
pub mod Replays
pub mod Runs
pub mod Steps
pub mod Table
