pub mod Profile
pub mod Places
pub mod Lookup
pub mod EngineCells
