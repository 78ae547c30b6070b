pub mod Laws
pub mod Map
pub mod Places
