-- The marked places that may be left, looked at alone (Marked); where nothing has ended nothing can be entered (Ended).
pub mod Marked
pub mod Ended
