pub mod RecordsShort
pub mod ToldInParts
pub mod JobInParts
pub mod Turns
pub mod Whole
