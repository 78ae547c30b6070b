mod CallLemmas
mod Examples
mod HeardLemmas
mod LoadLemmas
mod PlaceLemmas
mod StageLemmas
