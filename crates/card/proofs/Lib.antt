pub mod OneLine
pub mod Steps
pub mod Laws
pub mod Spread
pub mod Joints
pub mod InTurn
