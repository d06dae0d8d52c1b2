pub mod AsTheWhole
