mod WarningLemmas
