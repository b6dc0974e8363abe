pub mod Accounts
pub mod Faults
pub mod Judged
