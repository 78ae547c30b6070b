pub mod Keys
pub mod Laws
pub mod Notice
pub mod Numbers
pub mod Sources
pub mod Steps
pub mod Written
