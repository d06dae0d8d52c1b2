pub mod SameEngines
