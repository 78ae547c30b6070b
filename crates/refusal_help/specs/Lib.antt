pub mod Again
pub mod Help
pub mod Laws
pub mod Told
pub mod Unknown
pub mod Words
