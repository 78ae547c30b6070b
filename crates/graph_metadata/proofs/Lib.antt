pub mod Drops
pub mod EachLemmas
mod EntryLemmas
mod FeatureLemmas
mod FloatLemmas
mod FloatWalks
mod FoldLemmas
mod KnownLemmas
mod LeftLemmas
mod OrderLemmas
pub mod RisingLemmas
mod SoundLemmas
