mod AnswerLemmas
pub mod ExceptionLemmas
mod Examples
pub mod LoadLemmas
mod MapLemmas
pub mod PlaceLemmas
pub mod KeptLemmas
