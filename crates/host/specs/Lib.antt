pub mod Numbers
pub mod Lists
pub mod Left
pub mod Calls
pub mod Runs
pub mod Quick
