pub mod StretchesNamed
pub mod ShortColoursRun
pub mod NamedRoads
pub mod ShortCount
pub mod ShortKinds
pub mod ShortServes
