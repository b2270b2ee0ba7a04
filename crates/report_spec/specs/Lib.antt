-- Section 'The report and its program' of 01.
pub mod Report
pub mod Faults
pub mod Plain
pub mod Listed
