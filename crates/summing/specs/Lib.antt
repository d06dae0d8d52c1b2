pub mod Summed
pub mod OneByOne
pub mod Together
pub mod Closing
pub mod Told
