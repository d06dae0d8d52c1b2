pub mod RunReaches
pub mod TimingMarked
pub mod AccessNamed
pub mod SetsKeepUp
