-- What a row says of an answer (Row), how it is written and split (Text), and what is claimed of it (Claims).
pub mod Row
pub mod Text
pub mod Claims
