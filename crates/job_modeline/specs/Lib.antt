pub mod Job
pub mod OneLine
