mod Examples
mod GroupLemmas
mod JsonLemmas
mod ListLemmas
mod MarkLemmas
mod PendingLemmas
