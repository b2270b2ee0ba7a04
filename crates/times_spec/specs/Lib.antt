-- Request C-14 of 02, the text of times: its limits (Limits), its slots (View), a row (Row), its lines (Text), its limits kept (Lawful), its refusals' numbers (Refusal).
pub mod Limits
pub mod View
pub mod Row
pub mod Text
pub mod Lawful
pub mod Refusal
