pub mod Every
pub mod Store
pub mod Pieces
pub mod Numbers
pub mod Reach
pub mod Encoded
pub mod Words
