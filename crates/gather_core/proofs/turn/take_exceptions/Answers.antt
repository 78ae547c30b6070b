use Rattle.std.proofs.Common.{ℕ, ◌∙◌, List, ap, subst}
use Rattle.std.specs.List.{fold}
use Rattle.tree_core.specs.declared.reads.ReadRecord.{ReadRecord}
use Rattle.tree_core.specs.file_reads.Read.{records_of_reads}
use Rattle.graph_core.specs.Krate.{record_of}
use Rattle.gather_license.specs.files.Calls.{IsFront}
use Rattle.gather_license.specs.files.Pack.{in_path_order}
use Rattle.gather_license.specs.files.Steps.{with_path}
use Rattle.gather_license.specs.files.View.{paths_read}
use Rattle.gather_license.proofs.files.CallLemmas.{front_itself, on_err, starves_behind}
use Rattle.gather_license.proofs.expression.KeptLemmas.{kept_by_reads}
use Rattle.gather_license.specs.Settled.{scanner_of_scan}
use Rattle.gather_core.specs.Exceptions.{named_for}
use Rattle.gather_core.proofs.CountedLemmas.{place_inside, placed_manifest}
use Rattle.gather_core.proofs.turn.take_exceptions.Goals as goal

pub returns-clause-counted : goal.returns-clause-counted
returns-clause-counted g c =
    let goes = c.in_ok-counted.ensures.goes in
    record {
      left = c.in_ok-counted.counted.pack;
      goes = goes;
      counted = c.in_ok-counted.ensures.places;
      paths = c.in_ok-counted.ensures.paths;
      kept = λ known_reads agrees.
          c.in_ok-kept.ensures
          ∙ kept_by_reads (scanner_of_scan g.C.Catalog.lists g.I.Identifier.match_of c.args.scan.now) known_reads c.in_ok-counted.counted.pack agrees
          (c.into_reads.ensures.sorted ∙ ap (λ (reads : List ReadRecord). in_path_order (paths_read reads)) c.into_reads.ensures.reads);
      reads =
          c.in_ok-reads.ensures
          ∙ placed_manifest c.args.manifest_first c.args.located.manifest c.args.located.pack.reads (records_of_reads goes.reads) c.into_reads.result c.args.located.reads_made c.manifest_place-place.result
          c.requires c.manifest_place-place.ensures (c.into_reads.ensures.reads ∙ goes.takes.adds);
    }

pub returns-in_err-counted-clause-no_memory : goal.returns-in_err-counted-clause-no_memory
returns-in_err-counted-clause-no_memory g c = on_err c.from_residual.result _ c.in_err-counted.ensures.no_memory

pub returns-in_err-reads-clause-no_memory : goal.returns-in_err-reads-clause-no_memory
returns-in_err-reads-clause-no_memory g c =
    let pack = c.args.located.pack in
    let krate = record_of c.args.krate.now in
    let rules_are = c.args.exceptions.now in
    on_err c.from_residual-in_err-reads.result _
    (starves_behind pack c.in_ok-counted.counted.pack (λ known_reads. fold with_path (paths_read pack.reads) (named_for rules_are krate known_reads)) c.in_ok-counted.ensures.goes
    (λ known_reads agrees.
    subst (λ (all : List (List ℕ)). IsFront (paths_read c.in_ok-counted.counted.pack.reads) all) (c.in_ok-counted.ensures.paths known_reads agrees) (front_itself (paths_read c.in_ok-counted.counted.pack.reads))))

pub returns-in_err-kept-clause-no_memory : goal.returns-in_err-kept-clause-no_memory
returns-in_err-kept-clause-no_memory g c =
    let pack = c.args.located.pack in
    let krate = record_of c.args.krate.now in
    let rules_are = c.args.exceptions.now in
    on_err c.from_residual-in_err-kept.result _
    (starves_behind pack c.in_ok-counted.counted.pack (λ known_reads. fold with_path (paths_read pack.reads) (named_for rules_are krate known_reads)) c.in_ok-counted.ensures.goes
    (λ known_reads agrees.
    subst (λ (all : List (List ℕ)). IsFront (paths_read c.in_ok-counted.counted.pack.reads) all) (c.in_ok-counted.ensures.paths known_reads agrees) (front_itself (paths_read c.in_ok-counted.counted.pack.reads))))

pub with_manifest-requires : goal.with_manifest-requires
with_manifest-requires g c =
    place_inside c.args.manifest_first c.args.located.pack.reads (records_of_reads c.in_ok-counted.ensures.goes.reads) c.into_reads.result c.args.located.reads_made c.manifest_place-place.result
    c.requires c.manifest_place-place.ensures (c.into_reads.ensures.reads ∙ c.in_ok-counted.ensures.goes.takes.adds)
