-- Where a joined path leads.
use Rattle.std.proofs.Common.{◌≡◌, ℕ, true, false, cond, List, [], ◌∷◌, refl, sym, ap, ◌∙◌, subst, inl, inr, eqb, codes}
use Rattle.std.specs.List.{fold, slice_index}
use Rattle.std.specs.Str.{bytes_eq}
use Rattle.std.specs.Path.{slash, path_components, path_names}
use Rattle.std.proofs.lemmas.Bool.Decides.{eqb_tells}
use Rattle.std.proofs.lemmas.List.Sums.{fold-append}
use Rattle.std.proofs.lemmas.Slice.Eq.{bytes_eq-Decides}
use Rattle.deny_text.specs.Path.{JoinsByParts, join_of, components_of, without_dot}
use Rattle.tree_core.specs.Content.{Place, step, resolve}

-- the root begins anew
at_root : (at : Place) (path : List ℕ) → eqb (slice_index path 0) slash ≡ true → fold step at (components_of path) ≡ fold step [] (path_names path)
unfolding path_components
at_root at path absolute = rw absolute refl

-- a `.` stays
past_dot : (at : Place) (parts : List (List ℕ)) → fold step at (without_dot parts) ≡ fold step at parts
past_dot at [] = refl
past_dot at (part ∷ parts) =
    elim (bytes_eq part (codes ".")) as (λ dotted. bytes_eq part (codes ".") ≡ dotted → fold step at (cond dotted parts (part ∷ parts)) ≡ fold step at (part ∷ parts)) [
      | true ↦ λ is. subst (λ (p : List ℕ). fold step at parts ≡ fold step (step at p) parts) (sym ((bytes_eq-Decides part (codes ".")).0 is)) refl
      | false ↦ λ _. refl
    ] refl

below : JoinsByParts → (folder path : List ℕ) → eqb (slice_index path 0) slash ≡ false → ¬ (slice_index path 0 ≡ slash) → resolve (join_of folder path) ≡ fold step (resolve folder) (components_of path)
unfolding path_components path_names
below law [] path same relative = ap (fold step []) (law.behind_nothing path)
below law (byte ∷ folder) path same relative =
    ap (fold step []) (law.relative (byte ∷ folder) path (λ e. cc) relative)
    ∙ fold-append step [] (components_of (byte ∷ folder)) (without_dot (components_of path))
    ∙ past_dot (resolve (byte ∷ folder)) (components_of path)

pub resolve-join : JoinsByParts → (folder path : List ℕ) → resolve (join_of folder path) ≡ fold step (resolve folder) (components_of path)
resolve-join law folder path =
    elim (eqb_tells (slice_index path 0) slash) [
      | inl absolute ↦ ap (fold step []) (law.absolute folder path absolute.1) ∙ at_root [] path absolute.0 ∙ sym (at_root (resolve folder) path absolute.0)
      | inr relative ↦ below law folder path relative.0 relative.1
    ]
