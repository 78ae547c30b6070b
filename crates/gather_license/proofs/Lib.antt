pub mod ApartLemmas
pub mod CallLemmas
mod Examples
pub mod LookedLemmas
pub mod NotesLemmas
pub mod OwnTextLemmas
pub mod SeenLemmas
pub mod TriedLemmas
