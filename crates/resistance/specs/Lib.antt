pub mod Exact
pub mod Expressions
pub mod Fractions
pub mod Groups
pub mod Roots
