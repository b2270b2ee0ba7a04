-- What reading a text of times answers (Times), and what each answer says beside the two arrays (Says).
pub mod Says
pub mod Times
