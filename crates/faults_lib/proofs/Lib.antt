-- What the readers answered, as the faults of crates/faults_spec, and what is printed of them (Told).
pub mod Told
