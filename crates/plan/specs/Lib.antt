pub mod Promises
pub mod Appended
pub mod EngineRows
pub mod ShortAnswers
pub mod EngineEntries
pub mod ShortPromises
