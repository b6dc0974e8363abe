pub mod DayRails
pub mod Days
pub mod Desks
pub mod Printed
pub mod Scripts
