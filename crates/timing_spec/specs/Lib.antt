-- Request C-14 of 02: the clock (Clock), the mark (Mark), three texts and a lent buffer (Timed); then what is proved of them: the mark by its
-- meaning (Nearest), the room (Room), what is the judge's own (Same), cases (Cases), shams (Shams), that the order
-- of moves may alter it (Order), no other outcome (Once).
pub mod Clock
pub mod Mark
pub mod Nearest
pub mod Timed
pub mod Room
pub mod Same
pub mod Cases
pub mod Order
pub mod Once
pub mod Shams
