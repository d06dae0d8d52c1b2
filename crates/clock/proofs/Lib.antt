pub mod CommonDivisors
pub mod LowestTerms
pub mod RateRounds
pub mod ClocksNamed
pub mod ClockHandsBack
pub mod ClockExamples
