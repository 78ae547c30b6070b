pub mod Names
pub mod Tables
pub mod Values
pub mod spec
pub mod entries
