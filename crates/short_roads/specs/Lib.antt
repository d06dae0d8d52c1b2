pub mod ShortPlan
pub mod Serves
