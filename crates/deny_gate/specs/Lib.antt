pub mod Behind
pub mod Named
pub mod Start
