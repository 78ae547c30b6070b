pub mod FaultLemmas
pub mod ImpreciseLemmas
pub mod ItemBorders
pub mod ItemCover
pub mod ItemLemmas
pub mod ItemSpans
pub mod LicenseeLemmas
pub mod WordLemmas
