pub mod Typed
pub mod Counts
pub mod SummedOneByOne
pub mod NoneFull
pub mod LinesTold
