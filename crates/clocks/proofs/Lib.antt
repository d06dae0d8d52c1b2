pub mod Bounds
pub mod TurnsReport
pub mod Coming
