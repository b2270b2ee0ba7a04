-- What a writer promises.
pub mod Written
