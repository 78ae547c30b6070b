mod HeardLemmas
mod SearchLemmas
