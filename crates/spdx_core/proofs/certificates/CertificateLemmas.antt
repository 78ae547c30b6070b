-- What the walks find shows the verdict.
use Rattle.std.proofs.Common.{◌≡◌, ◌∙◌, refl, sym, ap, subst, ℕ, true, false, List, [], ◌∷◌, map, reverse, Option, Some, None, is_some, eqb, eq-eqb}
use Rattle.std.specs.Prelude.{filter_map, All}
use Rattle.std.specs.List.{list_all, cons_option}
use Rattle.std.proofs.lemmas.Bool.{ne_eqb, and_parts, false≢true}
use Rattle.spdx_core.specs.declared.node.ExprNode.{ExprNode}
use Rattle.spdx_core.specs.Grammar.{ExpressionTree}
use Rattle.spdx_core.specs.Reading.{postfix, numbered_from}
use Rattle.spdx_core.specs.declared.certificates.verdict.Hit.{Hit}
use Rattle.spdx_core.specs.declared.certificates.mark.NodeMark.{NodeMark}
use Rattle.spdx_core.specs.declared.certificates.walk.Walk.{Walk}
use Rattle.spdx_core.specs.certificates.Certificates.{hit_at, has_hit, ShowsAccepted, ShowsRejected}
use Rattle.spdx_core.specs.certificates.Choices.{choices_of, is_accepted, blocks_of, IsFirstLeast, MeetEach, EachAlone}
use Rattle.spdx_core.specs.certificates.Marks.{fewest_misses, taken_places}
use Rattle.spdx_core.specs.certificates.Machine.{MarkingView, marks_after, no_marks, marks_of, walked_over, walk_start, of_and, of_or}
use Rattle.spdx_core.proofs.certificates.LeastLemmas.{first_least, least_taken}
use Rattle.spdx_core.proofs.certificates.ChoiceLemmas.{all_met, accepted, first_taken, least_is_taken}
use Rattle.spdx_core.proofs.certificates.BlockLemmas.{blocks_taken, meet_each, blocks_have_none}
use Rattle.spdx_core.proofs.certificates.AloneLemmas.{each_alone}
use Rattle.spdx_core.proofs.certificates.MarkLemmas.{marked_whole}
use Rattle.spdx_core.proofs.certificates.WalkLemmas.{walked_whole}

hit_first : (found : Option Hit) (hits : List Hit) → is_some found ≡ true → map Some (cons_option found hits) ≡ found ∷ map Some hits
hit_first (Some hit) hits h = refl
hit_first None hits h = absurd (false≢true h)

-- places that all have a hit have these hits, in order
hits_in_order : (kept : List (Option Hit)) (choice : List ℕ) → list_all (has_hit kept) choice ≡ true → map Some (filter_map (hit_at kept) choice) ≡ map (hit_at kept) choice
hits_in_order kept [] h = refl
hits_in_order kept (place ∷ choice) h =
    let parts = and_parts (has_hit kept place) (list_all (has_hit kept) choice) h in
    hit_first (hit_at kept place) (filter_map (hit_at kept) choice) parts.0 ∙ ap (λ hits. hit_at kept place ∷ hits) (hits_in_order kept choice parts.1)

pub shows_accepted : (kept : List (Option Hit)) (tree : ExpressionTree) (choice : List ℕ) (hits : List Hit) → fewest_misses (has_hit kept) tree ≡ 0
    → choice ≡ taken_places (has_hit kept) true false tree → hits ≡ filter_map (hit_at kept) choice → ShowsAccepted kept tree choice hits
shows_accepted kept tree choice hits none is found =
    let has = has_hit kept in
    let least = least_taken has tree in
    let met : list_all (has_hit kept) choice ≡ true =
    ap (list_all has) is ∙ all_met has (taken_places has true false tree) ∙ ap (λ n. eqb n 0) (least.has ∙ none) in
    record {
      first = first_taken has tree (eq-eqb (fewest_misses has tree) 0 none) ∙ ap Some (sym is);
      place_by_place = ap (map Some) found ∙ hits_in_order kept choice met;
    }

pub shows_rejected : (kept : List (Option Hit)) (tree : ExpressionTree) (count : ℕ) (least blocks : List ℕ) → numbered_from 0 tree ≡ Some count → (fewest_misses (has_hit kept) tree ≡ 0 → ⊥)
    → least ≡ taken_places (has_hit kept) true false tree → blocks ≡ taken_places (has_hit kept) false true tree → ShowsRejected kept tree least blocks
shows_rejected kept tree count least blocks numbered some is are =
    let has = has_hit kept in
    let refused : is_accepted (has_hit kept) tree ≡ false = accepted has tree ∙ ne_eqb (fewest_misses has tree) 0 some in
    let same : blocks_of (has_hit kept) tree ≡ blocks = blocks_taken has tree ∙ sym are in
    record {
      not_accepted = refused;
      least_is = least_is_taken has tree ∙ ap Some (sym is);
      first_least = subst (λ (choice : List ℕ). IsFirstLeast (has_hit kept) (choices_of tree) choice) (sym is) (first_least has tree);
      blocks_are = sym same;
      without_hit = subst (λ (places : List ℕ). All (λ place. has_hit kept place ≡ false) places) same (blocks_have_none has tree refused);
      meet_each = subst (λ (places : List ℕ). MeetEach places (choices_of tree)) same (meet_each has tree refused);
      each_alone = subst (λ (places : List ℕ). EachAlone places (choices_of tree)) same (each_alone has count tree numbered);
    }

-- what the walk over the nodes leaves
pub marked_nodes : (kept : List (Option Hit)) (tree : ExpressionTree) (nodes : List ExprNode) (marked : MarkingView) → nodes ≡ postfix tree → marked ≡ marks_after (has_hit kept) no_marks nodes
    → marked ≡ record { counts = fewest_misses (has_hit kept) tree ∷ []; marks = marks_of (has_hit kept) tree }
marked_nodes kept tree nodes marked are is = is ∙ ap (marks_after (has_hit kept) no_marks) are ∙ marked_whole (has_hit kept) tree

pub walked_marks : (kept : List (Option Hit)) (walk : Walk) (tree : ExpressionTree) (marks : List NodeMark) (places : List ℕ) → reverse marks ≡ marks_of (has_hit kept) tree → places ≡ (walked_over walk walk_start (reverse marks)).places
    → places ≡ taken_places (has_hit kept) (of_and walk) (of_or walk) tree
walked_marks kept walk tree marks places are is = is ∙ ap (λ all. (walked_over walk walk_start all).places) are ∙ walked_whole (has_hit kept) walk tree
