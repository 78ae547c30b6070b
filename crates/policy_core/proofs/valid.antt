pub mod SatisfiedLemmas
