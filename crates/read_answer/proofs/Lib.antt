-- What follows a verb (Numbers); that no other answer fits the promises (Once).
pub mod Numbers
pub mod Once
