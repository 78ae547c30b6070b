pub mod Certificates
pub mod Choices
pub mod Laws
pub mod Machine
pub mod Marks
pub mod Rows
pub mod Stack
