pub mod Cuts
pub mod Faults
pub mod Findings
pub mod License
pub mod Pieces
pub mod Premises
pub mod Views
