pub mod Named
pub mod Given
pub mod Why
pub mod Steps
pub mod Laws
