pub mod Dedup
