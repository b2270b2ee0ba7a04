-- Where lines start (Starts), the judgement in a room as its verdict and its place (InRoom).
pub mod Starts
pub mod InRoom
