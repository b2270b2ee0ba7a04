-- What document 003's definitions speak of (Model), the actions of a plan (Action), and the words that hold them (Words).
pub mod Model
pub mod Action
pub mod Words
