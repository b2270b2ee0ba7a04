-- What the program's own functions promise each other: numbers within the lent arrays (Within).
pub mod Within
