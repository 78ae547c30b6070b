pub mod FlatLemmas
pub mod JsonLemmas
pub mod PrintedLemmas
mod FindingsLemmas
