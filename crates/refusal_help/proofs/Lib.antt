mod AgainLemmas
mod LineLemmas
mod ListLemmas
mod TableLemmas
