pub mod PairsListed
pub mod AlikeChecked
pub mod RoadsAgree
