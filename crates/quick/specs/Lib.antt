pub mod Smalls
pub mod Said
pub mod Painting
pub mod Classes
pub mod Turned
pub mod Slots
