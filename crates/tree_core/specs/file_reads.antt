pub mod Answered
pub mod Heard
pub mod Read
pub mod Rising
pub mod Views
