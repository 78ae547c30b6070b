pub mod MakingLemmas
pub mod NoticeLemmas
pub mod OwnLemmas
pub mod WritingLemmas
