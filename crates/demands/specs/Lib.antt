-- The board's demands of the rules, one file for each: ports (Safe), queues (Queues), exchanged moves (Exchange), answers that do the same (Agree).
-- Then the same demands of the two texts (OnTexts), what demand 3 alone would admit (Alone). Why each rule is as it is: crate needed.
pub mod Safe
pub mod Queues
pub mod Tickets
pub mod Exchange
pub mod Agree
pub mod OnTexts
pub mod TicketTexts
pub mod Alone
pub mod Again
