use Rattle.std.proofs.Common.{◌≡◌, ◌∙◌, true, false, [], map, sym, ap, rules}
use Rattle.std.proofs.lemmas.Result.{IfOk-weaker, on_err_weaker}
use Rattle.graph_core.specs.Krate.{record_of}
use Rattle.gather_license.specs.files.KnownReads.{known_reads_by}
use Rattle.tree_core.proofs.file_reads.ReadLemmas.{no_reads}
use Rattle.gather_license.specs.declared.settle.SettledLicense.{SettledLicense}
use Rattle.gather_license.specs.Clarification.{lent_clarification}
use Rattle.gather_license.specs.Priority.{folder_of}
use Rattle.gather_license.specs.Settled.{scanner_of_scan}
use Rattle.gather_license.proofs.files.CallLemmas.{on_err, starves_unasked}
use Rattle.gather_license.proofs.CallLemmas.{starves_at_files}
use Rattle.gather_license.proofs.LookedLemmas.{looks_for_none, looks_for_some, settled_by_files, settled_unread}
use Rattle.gather_license.proofs.settle.settle_license.Goals as goal

pub returns-then-not-is_nothing-clause-answered : goal.returns-then-not-is_nothing-clause-answered
returns-then-not-is_nothing-clause-answered g c =
    let scanner = scanner_of_scan g.C.Catalog.lists g.I.Identifier.match_of c.args.scan.now in
    let krate = record_of c.args.krate.now in
    let all = map lent_clarification c.args.clarifications.now in
    let off : c.is_nothing.result ≡ false = search rules in
    IfOk-weaker c.settle_by_files.result _ _
    (λ settled by. record {
      reads = by.reads;
      records = by.records;
      made = by.made;
      is_so = settled_by_files scanner all krate (known_reads_by by.reads) settled (looks_for_some scanner all krate (sym c.is_nothing.ensures ∙ off)) by.is_so;
    })
    c.settle_by_files.ensures.answered

pub returns-then-not-is_nothing-clause-no_memory : goal.returns-then-not-is_nothing-clause-no_memory
returns-then-not-is_nothing-clause-no_memory g c =
    let scanner = scanner_of_scan g.C.Catalog.lists g.I.Identifier.match_of c.args.scan.now in
    let krate = record_of c.args.krate.now in
    let all = map lent_clarification c.args.clarifications.now in
    let off : c.is_nothing.result ≡ false = search rules in
    on_err_weaker c.settle_by_files.result (starves_at_files scanner all krate (looks_for_some scanner all krate (sym c.is_nothing.ensures ∙ off))) c.settle_by_files.ensures.no_memory

pub returns-in-None-clause-answered : goal.returns-in-None-clause-answered
returns-in-None-clause-answered g c =
    let scanner = scanner_of_scan g.C.Catalog.lists g.I.Identifier.match_of c.args.scan.now in
    let krate = record_of c.args.krate.now in
    let all = map lent_clarification c.args.clarifications.now in
    IfOk-weaker c.settle_by_files-in-None.result _ _
    (λ settled by. record {
      reads = by.reads;
      records = by.records;
      made = by.made;
      is_so = settled_by_files scanner all krate (known_reads_by by.reads) settled (looks_for_none scanner all krate (sym c.in-None.is ∙ c.requires)) by.is_so;
    })
    c.settle_by_files-in-None.ensures.answered

pub returns-in-None-clause-no_memory : goal.returns-in-None-clause-no_memory
returns-in-None-clause-no_memory g c =
    let scanner = scanner_of_scan g.C.Catalog.lists g.I.Identifier.match_of c.args.scan.now in
    let krate = record_of c.args.krate.now in
    let all = map lent_clarification c.args.clarifications.now in
    on_err_weaker c.settle_by_files-in-None.result (starves_at_files scanner all krate (looks_for_none scanner all krate (sym c.in-None.is ∙ c.requires))) c.settle_by_files-in-None.ensures.no_memory

-- no file is looked at, and no call is made
pub returns-in-Some-clause-answered : goal.returns-in-Some-clause-answered
returns-in-Some-clause-answered g c =
    let krate = record_of c.args.krate.now in
    let on : c.is_nothing.result ≡ true = search rules in
    IfOk-weaker c.settle_by_field.result _ _
    (λ settled is. record {
      reads = [];
      records = sym (ap (λ (s : SettledLicense). s.pack.reads) is);
      made = no_reads _ _ _ (folder_of krate);
      is_so = settled_unread (scanner_of_scan g.C.Catalog.lists g.I.Identifier.match_of c.args.scan.now) (map lent_clarification c.args.clarifications.now) krate
          settled c.in-Some.expression (sym c.is_nothing.ensures ∙ on) (sym c.in-Some.is ∙ c.requires) is;
    })
    c.settle_by_field.ensures

pub returns-in-Some-clause-no_memory : goal.returns-in-Some-clause-no_memory
returns-in-Some-clause-no_memory g c = on_err c.settle_by_field.result _ (starves_unasked _ _ _ (folder_of (record_of c.args.krate.now)) _)
