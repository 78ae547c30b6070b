pub mod AddedLemmas
mod AddressLemmas
mod Clarified
mod Examples
pub mod JudgedLemmas
mod OrderLemmas
mod SortLemmas
