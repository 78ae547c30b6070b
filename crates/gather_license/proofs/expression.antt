pub mod KeptLemmas
pub mod ScannedLemmas
pub mod TakenLemmas
