pub mod SetsInTurn
pub mod Lengths
pub mod Typed
pub mod SetsPut
pub mod PartsReported
pub mod BestOfAll
pub mod InParts
pub mod Codes
