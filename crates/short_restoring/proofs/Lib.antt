pub mod ShortRunEnds
pub mod ShortPromiseKept
pub mod ShortDemand
