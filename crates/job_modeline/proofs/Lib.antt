pub mod Starts
pub mod LinesPut
pub mod OutOfForm
pub mod AllLines
