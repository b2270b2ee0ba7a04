-- What the readers of a start cite: items one after the other (Queues), slots and the length (Laws), the line of an instance (RowLines), that of a connection
-- (JoinLines), the queues shown (Shown); that no other outcome fits (Once).
pub mod Queues
pub mod Laws
pub mod RowLines
pub mod JoinLines
pub mod Shown
pub mod Once
