mod Examples
pub mod NeededKeys
