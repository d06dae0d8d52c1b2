pub mod Kept
pub mod Lines
pub mod Report
pub mod ClockLine
pub mod Parts
pub mod Inputs
pub mod Start
pub mod Job
