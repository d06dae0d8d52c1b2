pub mod SetIsSet
pub mod Elsewhere
pub mod Empty
pub mod Turns
pub mod NotedNames
pub mod AllStore
pub mod MarkedRegisters
