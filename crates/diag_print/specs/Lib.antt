pub mod Human
pub mod Json
pub mod JsonTokens
pub mod Places
pub mod Printed
pub mod Refusal
pub mod Findings
