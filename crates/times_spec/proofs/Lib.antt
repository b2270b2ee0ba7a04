-- What the text of times gives, or where it stops.
pub mod Read
