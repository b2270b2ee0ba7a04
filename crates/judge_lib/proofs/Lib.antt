-- The course by its order (Order), a paper alone (Alone), the room (Room), the judgement (Judgement), places within their texts (Places), the print (Printed), no other outcome (Once), where an answer ends as a start (Onward).
pub mod Order
pub mod Alone
pub mod Room
pub mod Judgement
pub mod Places
pub mod Printed
pub mod Once
pub mod Onward
