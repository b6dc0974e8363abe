pub mod Bears
