pub mod BearParts
pub mod GroupRanges
pub mod Listed
pub mod Parts
pub mod Plates
