-- The port check by what is had before and after a move is the port check by the instance after it (Ports, by what each port is told: Told), and by the first port that fails (First); the provide ports in use, row by row (InUse).
pub mod Lowest
pub mod Told
pub mod Ports
pub mod First
pub mod InUse
