-- What the readers say (Items, Says), and what reading a start answers (Start).
pub mod Items
pub mod Says
pub mod Start
