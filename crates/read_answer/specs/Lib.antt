-- What a step line's answer says (Says), and what reading an answer answers (Answer).
pub mod Says
pub mod Answer
