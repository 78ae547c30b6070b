use Rattle.diag_core.proofs.source_file.SourceFile.license_span.Goals as goal

pub returns-in-Some-clause-found : goal.returns-in-Some-clause-found
returns-in-Some-clause-found c = rw (← c.self.view_is) (c.self.invariant.searched c.in-Some.found c.in-Some.is)
