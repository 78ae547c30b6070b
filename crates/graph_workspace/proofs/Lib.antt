pub mod KratesLemmas
