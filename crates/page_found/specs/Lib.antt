-- What a page says of an answer, by its row of the register (Found).
pub mod Found
