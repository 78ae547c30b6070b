pub mod PlaceLemmas
pub mod PartLemmas
pub mod Borders
pub mod SpecPlaces
pub mod EntryPlaces
pub mod PolicyPlaces
