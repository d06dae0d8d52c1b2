pub mod Putting
pub mod Kept
pub mod Looks
pub mod InParts
pub mod WordsRead
pub mod WholeText
pub mod Examples
pub mod Standing
