-- When all of a paper is done (Done).
pub mod Done
