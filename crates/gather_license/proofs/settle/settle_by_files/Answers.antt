use Rattle.std.proofs.Common.{refl, sym, map}
use Rattle.graph_core.specs.Krate.{record_of}
use Rattle.gather_license.proofs.files.CallLemmas.{on_err}
use Rattle.gather_license.specs.declared.settle.SettledLicense.{SettledLicense}
use Rattle.gather_license.specs.Clarification.{lent_clarification}
use Rattle.gather_license.specs.Settled.{scanner_of_scan}
use Rattle.gather_license.proofs.CallLemmas.{starves_looked}
use Rattle.gather_license.proofs.LookedLemmas.{ordered}
use Rattle.gather_license.proofs.settle.settle_by_files.Goals as goal

pub returns-clause-answered : goal.returns-clause-answered
returns-clause-answered g c =
    let krate = record_of c.args.krate.now in
    let pack = c.in_ok-clarified.clarified.pack in
    let looked = c.in_ok-clarified.ensures.looked in
    let made = c.in_ok-clarified.ensures.made in
    let settled : SettledLicense = record { by = c.in_ok-by.by; missing = c.in_ok-clarified.clarified.missing; pack = pack; reads_made = c.reads_made-reads_made.result } in
    record {
      reads = made.reads;
      records = sym made.is.records;
      made = made.made;
      is_so = record {
        folder = looked.folder;
        made = c.reads_made-reads_made.ensures.number;
        agrees = made.is.agrees;
        by_any = ordered (scanner_of_scan g.C.Catalog.lists g.I.Identifier.match_of c.args.scan.now) krate (map lent_clarification c.args.clarifications.now)
            c.in_ok-clarified.clarified.held c.in_ok-clarified.clarified.missing c.args.field settled looked
            c.reads_made-reads_made.ensures.sorted c.requires c.in_ok-by.ensures refl;
      };
    }

pub returns-in_err-clarified-clause-no_memory : goal.returns-in_err-clarified-clause-no_memory
returns-in_err-clarified-clause-no_memory g c = on_err c.from_residual.result _ c.in_err-clarified.ensures.no_memory

pub returns-in_err-by-clause-no_memory : goal.returns-in_err-by-clause-no_memory
returns-in_err-by-clause-no_memory g c =
    on_err c.from_residual-in_err-by.result _
    (starves_looked (record_of c.args.krate.now) (map lent_clarification c.args.clarifications.now) c.in_ok-clarified.clarified.pack c.in_ok-clarified.clarified.held c.in_ok-clarified.clarified.missing
    c.in_ok-clarified.ensures.looked c.in_ok-clarified.ensures.made)
