pub mod Parts
pub mod RegistersStored
pub mod PixelsTurned
pub mod Display
pub mod PlainPlaces
pub mod Packed
pub mod SlotsTold
