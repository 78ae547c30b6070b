pub mod RecordLemmas
pub mod VerifyLemmas
pub mod YesLemmas
