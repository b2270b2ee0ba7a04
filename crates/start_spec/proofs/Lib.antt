pub mod Fifty
pub mod Proper
pub mod Fits
pub mod Tidy
pub mod RowRound
pub mod Round
pub mod Lasts
