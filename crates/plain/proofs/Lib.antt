pub mod KindsOfRecord
pub mod EitherChip
pub mod RowsSay
pub mod SeenWhole
pub mod LookedInOrder
pub mod AccessByRow
pub mod RunByItems
