-- Crates are found behind one walk, in the order of their places: what holds of the walks still does, and each has a walk then
-- that is not after this one.
use Rattle.std.proofs.Common.{◌≡◌, ◌≢◌, ℕ, ◌+◌, ◌<◌, ◌≤◌, ◌⊎◌, List, [], ◌∷◌, ◌++◌, length, slice_set, Option, Some, None, refl, sym, ◌∙◌, ap, subst, inl, inr, arith}
use Rattle.std.specs.Prelude.{⊤}
use Rattle.std.specs.List.{AllByRecursion}
use Rattle.std.proofs.lemmas.Bool.{cases_eq}
use Rattle.std.proofs.lemmas.List.{length-append, get_or-set_same, get_or-set_other, get_or_append_left, get_or_push}
use Rattle.std.proofs.lemmas.Option.{none-some}
use Rattle.graph_core.specs.declared.edge.DepKind.{DepKind}
use Rattle.graph_core.specs.Metadata.{Graph}
use Rattle.graph_core.specs.selection.Choice.{Choice}
use Rattle.graph_walk.specs.Search.{SearchView, best_at, end_of, put, put_if, put_all}
use Rattle.graph_walk.proofs.Backwards.{IsBefore, IsUpTo}
use Rattle.graph_walk.proofs.UnderWay.{AreWalks, IsKept, IsListed, IsWalked, behind_of, walk_found, walks-more}

-- each is not above those after it
abbrev pub AreAscending : List ℕ → Type 0
AreAscending [] = ⊤
AreAscending (place ∷ places) = AllByRecursion (λ next. place ≤ next) places × AreAscending places

-- A walk was found behind an earlier one than this, or behind this one, and then at a place not above these.
abbrev pub IsEarlier : List ℕ → List ℕ → List ℕ → Type 0
IsEarlier behind places walk =
    IsBefore (behind_of walk) behind ⊎ ((behind_of walk ≡ behind) × AllByRecursion (λ place. end_of walk ≤ place) places)

abbrev pub AreEarlier : List ℕ → List ℕ → SearchView → Type 0
AreEarlier behind places seen = (i : ℕ) → i < length seen.order → IsEarlier behind places (walk_found seen.order i)

-- a walk is kept for the place that is not after the one over this walk
pub record IsFound (best : List (Option (List ℕ))) (behind : List ℕ) (place : ℕ) : Type 0 where
  pub walk : List ℕ
  pub is : best_at best place ≡ Some walk
  pub upto : IsUpTo walk (place ∷ behind)

cases_option : (o : Option (List ℕ)) → (o ≡ None) ⊎ ((walk : List ℕ) × (o ≡ Some walk))
cases_option None = inl refl
cases_option (Some walk) = inr (walk, refl)

earlier-tail : (behind : List ℕ) (place : ℕ) (places : List ℕ) (walk : List ℕ) → IsEarlier behind (place ∷ places) walk
    → IsEarlier behind places walk
earlier-tail behind place places walk h =
    elim h [
      | inl before ↦ inl before
      | inr same ↦ inr (same.0, same.1.1)
    ]

module _ (graph : Graph) (choice : Choice) (named : Option DepKind) (behind : List ℕ) where
  -- what may be found behind the walk
  abbrev pub IsReady : ℕ → Type 0
  IsReady place = (place < length graph.nodes) × IsWalked graph choice named (place ∷ behind)

  -- a walk that is kept for a place that is still to come is not after the one over this walk
  pub old-upto : (seen : SearchView) (place : ℕ) (places : List ℕ) (walk : List ℕ) → AreWalks graph choice named seen
      → AreEarlier behind places seen → best_at seen.best place ≡ Some walk → IsUpTo walk (place ∷ behind)
  old-upto seen place places walk walks earlier is =
      let one : IsKept seen.order place walk = walks.kept place walk is in
      let listed : IsListed graph choice named seen.best walk =
      subst (IsListed graph choice named seen.best) one.is (walks.listed one.at one.below) in
      let parts : walk ≡ place ∷ behind_of walk = listed.parts ∙ ap (λ q. q ∷ behind_of walk) one.ends in
      let how : IsEarlier behind places walk = subst (IsEarlier behind places) one.is (earlier one.at one.below) in
      elim how [
        | inl before ↦ subst (λ (some : List ℕ). IsUpTo some (place ∷ behind)) (sym parts) (inl (inl before))
        | inr same ↦ inr (parts ∙ ap (λ rest. place ∷ rest) same.0)
      ]

  module _ (seen : SearchView) (place : ℕ) (places : List ℕ) (walks : AreWalks graph choice named seen)
      (earlier : AreEarlier behind (place ∷ places) seen) (ascend : AllByRecursion (λ next. place ≤ next) places) where
    -- all walks so far are before the new one
    before-new : best_at seen.best place ≡ None → (i : ℕ) → i < length seen.order → IsBefore (walk_found seen.order i) (place ∷ behind)
    before-new free i below =
        let listed : IsListed graph choice named seen.best (walk_found seen.order i) = walks.listed i below in
        subst (λ (some : List ℕ). IsBefore some (place ∷ behind)) (sym listed.parts)
        (elim (earlier i below) [
          | inl before ↦ inl before
          | inr same ↦
              let upto : end_of (walk_found seen.order i) ≤ place = same.1.0 in
              let apart : end_of (walk_found seen.order i) ≢ place =
              λ (e : end_of (walk_found seen.order i) ≡ place). none-some (walk_found seen.order i)
              (sym free ∙ (ap (best_at seen.best) (sym e) ∙ listed.kept)) in
              inr (same.0, omega arith)
        ])

    abbrev more : SearchView
    more = record { order = seen.order ++ (place ∷ behind) ∷ []; best = slice_set seen.best place (Some (place ∷ behind)) }

    earlier-more : AreEarlier behind places more
    earlier-more i below =
        elim (cases_eq i (length seen.order)) [
          | inl same ↦ subst (IsEarlier behind places) (sym (get_or_push seen.order (place ∷ behind) [] i (sym same))) (inr (refl, ascend))
          | inr apart ↦
              let longer : length (seen.order ++ (place ∷ behind) ∷ []) ≡ length seen.order + 1 = length-append seen.order ((place ∷ behind) ∷ []) in
              let old : i < length seen.order = omega arith in
              subst (IsEarlier behind places) (sym (get_or_append_left seen.order ((place ∷ behind) ∷ []) [] i old))
              (earlier-tail behind place places (walk_found seen.order i) (earlier i old))
        ]

    keeps-more : best_at seen.best place ≡ None → (other : ℕ) (walk : List ℕ) → best_at seen.best other ≡ Some walk
        → best_at more.best other ≡ Some walk
    keeps-more free other walk is =
        get_or-set_other seen.best place other (Some (place ∷ behind)) None
        (λ same. none-some walk (sym free ∙ (ap (best_at seen.best) (sym same) ∙ is)))
        ∙ is

  -- what one step and all steps give
  pub record IsPut (places : List ℕ) (seen after : SearchView) : Type 0 where
    pub walks : AreWalks graph choice named after
    pub earlier : AreEarlier behind places after
    pub keeps : (other : ℕ) (walk : List ℕ) → best_at seen.best other ≡ Some walk → best_at after.best other ≡ Some walk
    pub longer : length seen.order ≤ length after.order
    pub same : (i : ℕ) → i < length seen.order → walk_found after.order i ≡ walk_found seen.order i

  put-by : (seen : SearchView) (place : ℕ) (places : List ℕ) (o : Option (List ℕ)) → best_at seen.best place ≡ o
      → AreWalks graph choice named seen → AreEarlier behind (place ∷ places) seen → AllByRecursion (λ next. place ≤ next) places
      → IsReady place → IsPut places seen (put_if o place behind seen) × IsFound (put_if o place behind seen).best behind place
  put-by seen place places (Some walk) is walks earlier ascend ready = (
    record {
      walks = walks;
      earlier = λ i below. earlier-tail behind place places (walk_found seen.order i) (earlier i below);
      keeps = λ other some kept. kept;
      longer = omega arith;
      same = λ i below. refl;
    },
    record { walk = walk; is = is; upto = old-upto seen place (place ∷ places) walk walks earlier is },
  )
  put-by seen place places None is walks earlier ascend ready =
      let longer : length (seen.order ++ (place ∷ behind) ∷ []) ≡ length seen.order + 1 = length-append seen.order ((place ∷ behind) ∷ []) in (
        record {
          walks = walks-more graph choice named seen place behind walks ready.0 is ready.1 (before-new seen place places walks earlier ascend is);
          earlier = earlier-more seen place places walks earlier ascend;
          keeps = keeps-more seen place places walks earlier ascend is;
          longer = omega arith;
          same = λ i below. get_or_append_left seen.order ((place ∷ behind) ∷ []) [] i below;
        },
        record {
          walk = place ∷ behind;
          is = get_or-set_same seen.best place (Some (place ∷ behind)) None (subst (λ n. place < n) (sym walks.counted) ready.0);
          upto = inr refl;
        },
      )

  abbrev pub HasFound : List ℕ → SearchView → Type 0
  HasFound places after = AllByRecursion (IsFound after.best behind) places

  found-keeps : (best later : List (Option (List ℕ))) (place : ℕ)
      → ((other : ℕ) (walk : List ℕ) → best_at best other ≡ Some walk → best_at later other ≡ Some walk)
      → IsFound best behind place → IsFound later behind place
  found-keeps best later place keeps found = record { walk = found.walk; is = keeps place found.walk found.is; upto = found.upto }

  pub put-all : (places : List ℕ) (seen : SearchView) → AreWalks graph choice named seen → AreEarlier behind places seen
      → AreAscending places → AllByRecursion IsReady places
      → IsPut [] seen (put_all behind places seen) × HasFound places (put_all behind places seen)
  put-all [] seen walks earlier ascend ready = (
    record {
      walks = walks;
      earlier = earlier;
      keeps = λ other walk kept. kept;
      longer = omega arith;
      same = λ i below. refl;
    },
    tt,
  )
  put-all (place ∷ places) seen walks earlier ascend ready =
      let one : IsPut places seen (put place behind seen) × IsFound (put place behind seen).best behind place =
      put-by seen place places (best_at seen.best place) refl walks earlier ascend.0 ready.0 in
      let all : IsPut [] (put place behind seen) (put_all behind places (put place behind seen))
      × HasFound places (put_all behind places (put place behind seen)) =
      put-all places (put place behind seen) one.0.walks one.0.earlier ascend.1 ready.1 in (
        record {
          walks = all.0.walks;
          earlier = all.0.earlier;
          keeps = λ other walk kept. all.0.keeps other walk (one.0.keeps other walk kept);
          longer = (let first : length seen.order ≤ length (put place behind seen).order = one.0.longer in
              let rest : length (put place behind seen).order ≤ length (put_all behind places (put place behind seen)).order = all.0.longer in
              omega arith);
          same = λ i below.
              all.0.same i (let first : length seen.order ≤ length (put place behind seen).order = one.0.longer in omega arith)
              ∙ one.0.same i below;
        },
        (
          found-keeps (put place behind seen).best (put_all behind places (put place behind seen)).best place all.0.keeps one.1,
          all.1,
        ),
      )
