pub mod Roads
pub mod RoadRecords
pub mod Plan
pub mod Restores
pub mod Refusals
pub mod RegisterStage
pub mod ColourStage
pub mod StageEnds
