use Rattle.spdx_core.proofs.laws.printed_terms_read_back.Goals as goal
use Rattle.spdx_core.proofs.PrintedTerms.{printed_reads}
use Rattle.spdx_core.proofs.TermsOf.{terms_of, licensee_of}

pub returns-clause-reads : goal.returns-clause-reads
returns-clause-reads c = printed_reads

pub returns-clause-terms : goal.returns-clause-terms
returns-clause-terms c = λ mode lists text tree terms spells. terms_of mode lists text tree terms spells

pub returns-clause-licensees : goal.returns-clause-licensees
returns-clause-licensees c = λ mode lists text req is. licensee_of mode lists text req is
