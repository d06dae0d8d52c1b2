pub mod Things
pub mod Noted
pub mod Outside
