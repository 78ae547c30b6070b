pub mod Krates
