pub mod ListRead
pub mod Lines
pub mod ListsWritten
pub mod Beyond
