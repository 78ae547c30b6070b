use Rattle.std.proofs.Common.{◌≡◌, ◌+◌, ◌∷◌, ◌++◌, List, true, false, Some, map, drop, refl, sym, ap, ◌∙◌, rules}
use Rattle.std.specs.Prelude.{Option, option_map}
use Rattle.std.proofs.lemmas.List.{at_drop_more}
use Rattle.std.specs.List.{fold}
use Rattle.std.specs.Option.{option_to_list}
use Rattle.diag_core.specs.declared.label.Coord.{Coord}
use Rattle.gather_license.specs.files.KnownReads.{holds, looked_of, missing_from}
use Rattle.gather_license.specs.files.Steps.{with_path}
use Rattle.gather_license.specs.files.View.{paths_read}
use Rattle.gather_license.proofs.files.CallLemmas.{agrees_before, goes_itself, goes_then, on_err}
use Rattle.gather_license.specs.declared.clarification.HeldClarification.{HeldClarification}
use Rattle.gather_license.specs.Clarification.{PlacedFile, lent_clarification, held_in, place_of}
use Rattle.gather_license.specs.Priority.{holding_clarification}
use Rattle.gather_license.specs.Settled.{missing_of}
use Rattle.gather_license.proofs.CallLemmas.{starves_tried, starves_trying}
use Rattle.gather_license.proofs.TriedLemmas.{held_here, held_on, looks, looks_last, looks_on, missing_last, missing_on}
use Rattle.gather_license.proofs.settle.try_all.Goals as goal

pub all-preserved : goal.all-preserved
all-preserved g c =
    let so_far = c.all.invariant in
    let place = c.all.clarification-index in
    let item = c.clarification-item.result in
    let rest = drop (place + 1) c.args.clarifications.now in
    let new = c.in_ok-tried.tried.pack in
    let files_are = ap (map (λ (file : PlacedFile). file.named)) c.files.ensures in
    let differs : c.in_ok-tried.tried.holds ≡ false = search rules in
    let so_long : List Coord = c.all.missing in
    record {
      goes_by = goes_then c.args.pack c.all.pack new so_far.goes_by c.in_ok-tried.ensures.goes;
      looks_rest = λ known_reads agrees.
          so_far.looks_rest known_reads (agrees_before _ _ _ known_reads c.in_ok-tried.ensures.goes.takes agrees)
          ∙ at_drop_more (λ all. looks known_reads (paths_read c.all.pack.reads) (map lent_clarification all)) c.args.clarifications.now place item c.all-test.true
          ∙ ap (λ one. looks known_reads (paths_read c.all.pack.reads) (map lent_clarification (one ∷ rest))) (sym c.clarification-item.is)
          ∙ looks_on known_reads (paths_read c.all.pack.reads) (lent_clarification item) (map lent_clarification rest) c.in_ok-tried.tried.holds
          (c.in_ok-tried.ensures.holds known_reads agrees ∙ ap (holds known_reads) files_are) differs
          ∙ ap (λ paths. looks known_reads paths (map lent_clarification rest))
          (ap (λ files. fold with_path (paths_read c.all.pack.reads) (looked_of known_reads files)) (sym files_are) ∙ sym (c.in_ok-tried.ensures.paths known_reads agrees));
      held_rest = λ known_reads agrees.
          so_far.held_rest known_reads (agrees_before _ _ _ known_reads c.in_ok-tried.ensures.goes.takes agrees)
          ∙ at_drop_more (λ all. option_map held_in (holding_clarification known_reads (map lent_clarification all))) c.args.clarifications.now place item c.all-test.true
          ∙ ap (λ one. option_map held_in (holding_clarification known_reads (map lent_clarification (one ∷ rest)))) (sym c.clarification-item.is)
          ∙ held_on known_reads (lent_clarification item) (map lent_clarification rest) c.in_ok-tried.tried.holds
          (c.in_ok-tried.ensures.holds known_reads agrees ∙ ap (holds known_reads) files_are) differs;
      missing_rest = λ known_reads agrees.
          so_far.missing_rest known_reads (agrees_before _ _ _ known_reads c.in_ok-tried.ensures.goes.takes agrees)
          ∙ at_drop_more (λ all. so_long ++ missing_of known_reads (map lent_clarification all)) c.args.clarifications.now place item c.all-test.true
          ∙ ap (λ one. so_long ++ missing_of known_reads (map lent_clarification (one ∷ rest))) (sym c.clarification-item.is)
          ∙ missing_on known_reads so_long (lent_clarification item) (map lent_clarification rest) c.in_ok-tried.tried.holds
          (c.in_ok-tried.ensures.holds known_reads agrees ∙ ap (holds known_reads) files_are) differs
          ∙ ap (λ (front : List Coord). front ++ missing_of known_reads (map lent_clarification rest))
          (sym (c.in_ok-push_missing.ensures
          ∙ ap (λ (place : Option Coord). so_long ++ option_to_list place) c.place_of.ensures
          ∙ ap (λ number. so_long ++ option_to_list (place_of (lent_clarification item) number))
          (c.in_ok-tried.ensures.missing known_reads agrees ∙ ap (missing_from known_reads 0) files_are)));
    }

pub returns-then-tried-clause-paths : goal.returns-then-tried-clause-paths
returns-then-tried-clause-paths g c = λ known_reads agrees.
    let place = c.all.clarification-index in
    let item = c.clarification-item.result in
    let rest = drop (place + 1) c.args.clarifications.now in
    let files_are = ap (map (λ (file : PlacedFile). file.named)) c.files.ensures in
    let passed : c.in_ok-tried.tried.holds ≡ true = search rules in
    c.in_ok-tried.ensures.paths known_reads agrees
    ∙ ap (λ files. fold with_path (paths_read c.all.pack.reads) (looked_of known_reads files)) files_are
    ∙ sym (c.all.invariant.looks_rest known_reads (agrees_before _ _ _ known_reads c.in_ok-tried.ensures.goes.takes agrees)
    ∙ at_drop_more (λ all. looks known_reads (paths_read c.all.pack.reads) (map lent_clarification all)) c.args.clarifications.now place item c.all-test.true
    ∙ ap (λ one. looks known_reads (paths_read c.all.pack.reads) (map lent_clarification (one ∷ rest))) (sym c.clarification-item.is)
    ∙ looks_last known_reads (paths_read c.all.pack.reads) (lent_clarification item) (map lent_clarification rest) c.in_ok-tried.tried.holds
    (c.in_ok-tried.ensures.holds known_reads agrees ∙ ap (holds known_reads) files_are) passed)

pub returns-then-tried-clause-held : goal.returns-then-tried-clause-held
returns-then-tried-clause-held g c = λ known_reads agrees.
    let place = c.all.clarification-index in
    let item = c.clarification-item.result in
    let rest = drop (place + 1) c.args.clarifications.now in
    let files_are = ap (map (λ (file : PlacedFile). file.named)) c.files.ensures in
    let passed : c.in_ok-tried.tried.holds ≡ true = search rules in
    ap (λ (one : HeldClarification). Some one) c.in_ok-held.ensures
    ∙ sym (c.all.invariant.held_rest known_reads (agrees_before _ _ _ known_reads c.in_ok-tried.ensures.goes.takes agrees)
    ∙ at_drop_more (λ all. option_map held_in (holding_clarification known_reads (map lent_clarification all))) c.args.clarifications.now place item c.all-test.true
    ∙ ap (λ one. option_map held_in (holding_clarification known_reads (map lent_clarification (one ∷ rest)))) (sym c.clarification-item.is)
    ∙ held_here known_reads (lent_clarification item) (map lent_clarification rest) c.in_ok-tried.tried.holds
    (c.in_ok-tried.ensures.holds known_reads agrees ∙ ap (holds known_reads) files_are) passed)

pub returns-then-tried-clause-missing : goal.returns-then-tried-clause-missing
returns-then-tried-clause-missing g c = λ known_reads agrees.
    let place = c.all.clarification-index in
    let item = c.clarification-item.result in
    let rest = drop (place + 1) c.args.clarifications.now in
    let files_are = ap (map (λ (file : PlacedFile). file.named)) c.files.ensures in
    let passed : c.in_ok-tried.tried.holds ≡ true = search rules in
    let so_long : List Coord = c.all.missing in
    c.in_ok-push_missing.ensures
    ∙ ap (λ (place : Option Coord). so_long ++ option_to_list place) c.place_of.ensures
    ∙ ap (λ number. so_long ++ option_to_list (place_of (lent_clarification item) number))
    (c.in_ok-tried.ensures.missing known_reads agrees ∙ ap (missing_from known_reads 0) files_are)
    ∙ sym (c.all.invariant.missing_rest known_reads (agrees_before _ _ _ known_reads c.in_ok-tried.ensures.goes.takes agrees)
    ∙ at_drop_more (λ all. so_long ++ missing_of known_reads (map lent_clarification all)) c.args.clarifications.now place item c.all-test.true
    ∙ ap (λ one. so_long ++ missing_of known_reads (map lent_clarification (one ∷ rest))) (sym c.clarification-item.is)
    ∙ missing_last known_reads so_long (lent_clarification item) (map lent_clarification rest) c.in_ok-tried.tried.holds
    (c.in_ok-tried.ensures.holds known_reads agrees ∙ ap (holds known_reads) files_are) passed)

pub returns-then-tried-clause-goes : goal.returns-then-tried-clause-goes
returns-then-tried-clause-goes g c = goes_then c.args.pack c.all.pack c.in_ok-tried.tried.pack c.all.invariant.goes_by c.in_ok-tried.ensures.goes

pub returns-in_err-tried-clause-no_memory : goal.returns-in_err-tried-clause-no_memory
returns-in_err-tried-clause-no_memory g c =
    let place = c.all.clarification-index in
    let item = c.clarification-item.result in
    let rest = drop (place + 1) c.args.clarifications.now in
    let files_are = ap (map (λ (file : PlacedFile). file.named)) c.files.ensures in
    on_err c.from_residual.result _
    (starves_trying c.args.pack c.all.pack (map lent_clarification c.args.clarifications.now) (map lent_clarification rest) (lent_clarification item) (map (λ (file : PlacedFile). file.named) c.files.result.now) files_are
    c.all.invariant.goes_by c.in_err-tried.ensures.no_memory
    (λ known_reads agrees.
    c.all.invariant.looks_rest known_reads agrees
    ∙ at_drop_more (λ all. looks known_reads (paths_read c.all.pack.reads) (map lent_clarification all)) c.args.clarifications.now place item c.all-test.true
    ∙ ap (λ one. looks known_reads (paths_read c.all.pack.reads) (map lent_clarification (one ∷ rest))) (sym c.clarification-item.is)))

pub returns-in_err-push_missing-clause-no_memory : goal.returns-in_err-push_missing-clause-no_memory
returns-in_err-push_missing-clause-no_memory g c =
    let place = c.all.clarification-index in
    let item = c.clarification-item.result in
    let rest = drop (place + 1) c.args.clarifications.now in
    let files_are = ap (map (λ (file : PlacedFile). file.named)) c.files.ensures in
    on_err c.from_residual-in_err-push_missing.result _
    (starves_tried c.args.pack c.all.pack (map lent_clarification c.args.clarifications.now) (map lent_clarification rest) (lent_clarification item) (map (λ (file : PlacedFile). file.named) c.files.result.now) c.in_ok-tried.tried.pack files_are
    c.all.invariant.goes_by c.in_ok-tried.ensures.goes c.in_ok-tried.ensures.paths
    (λ known_reads agrees.
    c.all.invariant.looks_rest known_reads agrees
    ∙ at_drop_more (λ all. looks known_reads (paths_read c.all.pack.reads) (map lent_clarification all)) c.args.clarifications.now place item c.all-test.true
    ∙ ap (λ one. looks known_reads (paths_read c.all.pack.reads) (map lent_clarification (one ∷ rest))) (sym c.clarification-item.is)))

pub returns-in_err-held-clause-no_memory : goal.returns-in_err-held-clause-no_memory
returns-in_err-held-clause-no_memory g c =
    let place = c.all.clarification-index in
    let item = c.clarification-item.result in
    let rest = drop (place + 1) c.args.clarifications.now in
    let files_are = ap (map (λ (file : PlacedFile). file.named)) c.files.ensures in
    on_err c.from_residual-in_err-held.result _
    (starves_tried c.args.pack c.all.pack (map lent_clarification c.args.clarifications.now) (map lent_clarification rest) (lent_clarification item) (map (λ (file : PlacedFile). file.named) c.files.result.now) c.in_ok-tried.tried.pack files_are
    c.all.invariant.goes_by c.in_ok-tried.ensures.goes c.in_ok-tried.ensures.paths
    (λ known_reads agrees.
    c.all.invariant.looks_rest known_reads agrees
    ∙ at_drop_more (λ all. looks known_reads (paths_read c.all.pack.reads) (map lent_clarification all)) c.args.clarifications.now place item c.all-test.true
    ∙ ap (λ one. looks known_reads (paths_read c.all.pack.reads) (map lent_clarification (one ∷ rest))) (sym c.clarification-item.is)))

pub all-init : goal.all-init
all-init g c =
    let count = g.T.Tree.fault_count c.args.tree.now in
    record {
      goes_by = goes_itself (g.T.Tree.content c.args.tree.now) count (g.T.Tree.trace c.args.tree.now) c.args.pack;
      looks_rest = λ known_reads agrees. refl;
      held_rest = λ known_reads agrees. refl;
      missing_rest = λ known_reads agrees. ap (λ (front : List Coord). front ++ missing_of known_reads (map lent_clarification c.args.clarifications.now)) (sym c.new-missing.ensures);
    }
