pub mod Signed
pub mod StoredBelow
pub mod CursorRange
pub mod CaptureRange
pub mod HandsBack
