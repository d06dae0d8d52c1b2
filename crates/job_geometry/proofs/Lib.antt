pub mod ShortLines
pub mod LinesPut
