pub mod Billed
pub mod Bills
pub mod Licences
pub mod Steps
