-- What is written of a candidate has room (Room).
pub mod Room
