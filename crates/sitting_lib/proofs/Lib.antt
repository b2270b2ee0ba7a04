-- Parts of texts (Parts), the seven lines of what the judges answer (Ends), and the length of what is written of a candidate (Room).
pub mod Parts
pub mod Ends
pub mod Room
