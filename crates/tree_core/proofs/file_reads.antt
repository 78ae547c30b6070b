mod AnsweredLemmas
mod Examples
pub mod ReadLemmas
pub mod RisingLemmas
pub mod TextLemmas
mod ToldLemmas
