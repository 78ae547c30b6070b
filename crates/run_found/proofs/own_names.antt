mod FoundLemmas
mod HeardLemmas
