pub mod RepliesCounted
pub mod CountedOneByOne
pub mod Lengths
pub mod Telling
