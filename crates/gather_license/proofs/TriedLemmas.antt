-- Clarifications that are tried one after another.
use Rattle.std.proofs.Common.{◌≡◌, ◌∙◌, ℕ, Bool, true, false, cond, List, [], ◌∷◌, ◌++◌, Some, sym, ap, append-nil, append_assoc}
use Rattle.std.specs.Prelude.{option_map}
use Rattle.std.specs.List.{flat_map, fold}
use Rattle.std.specs.Option.{option_to_list}
use Rattle.std.proofs.lemmas.List.Sums.{fold-append}
use Rattle.diag_core.specs.declared.label.Coord.{Coord}
use Rattle.gather_license.specs.files.KnownReads.{FolderReads, holds, looked_of, tried_of}
use Rattle.gather_license.specs.files.Steps.{with_path}
use Rattle.gather_license.specs.Clarification.{ClarificationView, named_files, held_in, named_in}
use Rattle.gather_license.specs.Priority.{holding_clarification}
use Rattle.gather_license.specs.Settled.{missing_in, missing_of}

-- what is looked up of clarifications, onto some paths
abbrev pub looks : FolderReads → List (List ℕ) → List ClarificationView → List (List ℕ)
looks known_reads paths clarifications = fold with_path paths (flat_map (looked_of known_reads) (tried_of known_reads (named_files clarifications)))

-- ---- the first does not hold

pub looks_on : (known_reads : FolderReads) (paths : List (List ℕ)) (one : ClarificationView) (rest : List ClarificationView) (here : Bool) → here ≡ holds known_reads (named_in one) → here ≡ false
    → looks known_reads paths (one ∷ rest) ≡ looks known_reads (fold with_path paths (looked_of known_reads (named_in one))) rest
looks_on known_reads paths one rest here is differs =
    let more = flat_map (looked_of known_reads) (tried_of known_reads (named_files rest)) in
    ap (λ b. fold with_path paths (flat_map (looked_of known_reads) (named_in one ∷ cond b [] (tried_of known_reads (named_files rest))))) (sym is ∙ differs)
    ∙ fold-append with_path paths (looked_of known_reads (named_in one)) more

pub held_on : (known_reads : FolderReads) (one : ClarificationView) (rest : List ClarificationView) (here : Bool) → here ≡ holds known_reads (named_in one) → here ≡ false
    → option_map held_in (holding_clarification known_reads (one ∷ rest)) ≡ option_map held_in (holding_clarification known_reads rest)
held_on known_reads one rest here is differs = ap (λ b. option_map held_in (cond b (Some one) (holding_clarification known_reads rest))) (sym is ∙ differs)

pub missing_on : (known_reads : FolderReads) (front : List Coord) (one : ClarificationView) (rest : List ClarificationView) (here : Bool) → here ≡ holds known_reads (named_in one) → here ≡ false
    → front ++ missing_of known_reads (one ∷ rest) ≡ (front ++ option_to_list (missing_in known_reads one)) ++ missing_of known_reads rest
missing_on known_reads front one rest here is differs =
    ap (λ b. front ++ (option_to_list (missing_in known_reads one) ++ cond b [] (missing_of known_reads rest))) (sym is ∙ differs)
    ∙ sym (append_assoc front (option_to_list (missing_in known_reads one)) (missing_of known_reads rest))

-- ---- the first holds

pub looks_last : (known_reads : FolderReads) (paths : List (List ℕ)) (one : ClarificationView) (rest : List ClarificationView) (here : Bool) → here ≡ holds known_reads (named_in one) → here ≡ true
    → looks known_reads paths (one ∷ rest) ≡ fold with_path paths (looked_of known_reads (named_in one))
looks_last known_reads paths one rest here is passed =
    ap (λ b. fold with_path paths (flat_map (looked_of known_reads) (named_in one ∷ cond b [] (tried_of known_reads (named_files rest))))) (sym is ∙ passed)
    ∙ ap (fold with_path paths) (append-nil (looked_of known_reads (named_in one)))

pub held_here : (known_reads : FolderReads) (one : ClarificationView) (rest : List ClarificationView) (here : Bool) → here ≡ holds known_reads (named_in one) → here ≡ true
    → option_map held_in (holding_clarification known_reads (one ∷ rest)) ≡ Some (held_in one)
held_here known_reads one rest here is passed = ap (λ b. option_map held_in (cond b (Some one) (holding_clarification known_reads rest))) (sym is ∙ passed)

pub missing_last : (known_reads : FolderReads) (front : List Coord) (one : ClarificationView) (rest : List ClarificationView) (here : Bool) → here ≡ holds known_reads (named_in one) → here ≡ true
    → front ++ missing_of known_reads (one ∷ rest) ≡ front ++ option_to_list (missing_in known_reads one)
missing_last known_reads front one rest here is passed =
    ap (λ b. front ++ (option_to_list (missing_in known_reads one) ++ cond b [] (missing_of known_reads rest))) (sym is ∙ passed)
    ∙ ap (λ (last : List Coord). front ++ last) (append-nil (option_to_list (missing_in known_reads one)))
