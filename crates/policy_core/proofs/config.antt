mod PlaceLemmas
mod RootLemmas
