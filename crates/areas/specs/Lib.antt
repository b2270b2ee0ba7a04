-- What the words of a lent array say (Area).
pub mod Area
