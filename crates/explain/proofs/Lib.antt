pub mod ToldInParts
pub mod TurnsTold
pub mod Coming
