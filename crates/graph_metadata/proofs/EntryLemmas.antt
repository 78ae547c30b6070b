-- Maps from texts by their entries: what holds of all of them, what a look-up finds, and the order of the keys.
use Rattle.std.proofs.Common.{◌≡◌, ℕ, zero, suc, List, [], ◌∷◌, map, slice_get, Bool, true, false, cond, ◌&&◌, T, Some, None, is_some, unwrap_or, refl, sym, ◌∙◌, ap, subst, nat_cmp}
use Rattle.std.specs.List.{AllByRecursion}
use Rattle.std.specs.List.Sorted.{IsStrictlySortedBy}
use Rattle.std.specs.Ordering.{is_lt, is_eq, eq_by_cmp}
use Rattle.std.specs.declared.cmp.Ordering.{Ordering}
use Rattle.std.specs.declared.cmp.Ordering.TheVariants.{Less, Equal, Greater}
use Rattle.std.specs.Cmp.{tied_itself}
use Rattle.std.specs.Cmp.Lexicographic.{slice_cmp, nat_list_cmp_total}
use Rattle.std.specs.FinMap.{find, put, is_sorted, slice_cmp-IsAntisymmetric, nat_cmp-IsAntisymmetric}
use Rattle.std.specs.FinMap.Entries.{by_order, below_all}
use Rattle.graph_metadata.specs.Sound.{HasIdAt, AreApart}

abbrev pub by_bytes : List ℕ → List ℕ → Ordering
by_bytes = slice_cmp nat_cmp

pub same_text : (x y : List ℕ) → by_bytes x y ≡ Equal → x ≡ y
same_text = slice_cmp-IsAntisymmetric nat_cmp-IsAntisymmetric

equal : (r : Ordering) → is_eq r ≡ true → r ≡ Equal
equal Less e = absurd (subst T (sym e) tt)
equal Equal e = refl
equal Greater e = absurd (subst T (sym e) tt)

less : (r : Ordering) → T (is_lt r) → r ≡ Less
less Less h = refl
less Equal h = absurd h
less Greater h = absurd h

pub same_some : {A : Type 0} (x y : A) → Some x ≡ Some y → x ≡ y
same_some x y e = ap (λ o. unwrap_or o x) e

pub none_some : {A : Type 0} (x : A) → None ≡ Some x → ⊥
none_some x e = subst T (sym (ap is_some e)) tt

left : (a b : Bool) → T (a && b) → T a
left true b h = tt
left false b h = h

right : (a b : Bool) → T (a && b) → T b
right true b h = h
right false b h = absurd h

-- what holds of each key with its value
abbrev pub AllEntries : {V : Type 0} → (List ℕ → V → Type 0) → List (List ℕ × V) → Type 0
AllEntries Q entries = AllByRecursion (λ entry. Q entry.0 entry.1) entries

module _ {V : Type 0} (Q : List ℕ → V → Type 0) where
  pub all-put : (k : List ℕ) (v : V) (es : List (List ℕ × V)) → Q k v → AllEntries Q es → AllEntries Q (put by_bytes k v es)
  all-put k v [] q h = (q, tt)
  all-put k v (e ∷ es) q h =
      elim (by_bytes k e.0) as (λ r. by_bytes k e.0 ≡ r → AllEntries Q (by_order r ((k, v) ∷ e ∷ es) ((e.0, v) ∷ es) (e ∷ put by_bytes k v es))) [
        | Less ↦ λ p. (q, h)
        | Equal ↦ λ p. (subst (λ key. Q key v) (same_text k e.0 p) q, h.1)
        | Greater ↦ λ p. (h.0, all-put k v es q h.1)
      ] refl

  pub all-find : (q : List ℕ) (v : V) (es : List (List ℕ × V)) → AllEntries Q es → find by_bytes q es ≡ Some v → Q q v
  all-find q v [] h e = absurd (none_some v e)
  all-find q v (x ∷ es) h e =
      elim (eq_by_cmp by_bytes q x.0) as (λ b. eq_by_cmp by_bytes q x.0 ≡ b → cond b (Some x.1) (find by_bytes q es) ≡ Some v → Q q v) [
        | true ↦ λ t is. subst (λ key. Q key v) (sym (same_text q x.0 (equal _ t))) (subst (Q x.0) (same_some x.1 v is) h.0)
        | false ↦ λ t is. all-find q v es h.1 is
      ] refl e

pub find-place : {V : Type 0} (q : List ℕ) (v : V) (es : List (List ℕ × V)) → find by_bytes q es ≡ Some v
    → (i : ℕ) × (slice_get (map (λ e. e.1) es) i ≡ Some v)
find-place q v [] e = absurd (none_some v e)
find-place q v (x ∷ es) e =
    elim (eq_by_cmp by_bytes q x.0) as (λ b. cond b (Some x.1) (find by_bytes q es) ≡ Some v → (i : ℕ) × (slice_get (map (λ e. e.1) (x ∷ es)) i ≡ Some v)) [
      | true ↦ λ is. (zero, is)
      | false ↦ λ is. let rest = find-place q v es is in (suc rest.0, rest.1)
    ] e

below-keys : {V : Type 0} (x : List ℕ) (es : List (List ℕ × V)) → T (below_all by_bytes x es)
    → AllByRecursion (λ y. by_bytes x y ≡ Less) (map (λ e. e.0) es)
below-keys x [] h = tt
below-keys x (e ∷ es) h = (less _ (left _ _ h), below-keys x es (right _ _ h))

pub keys-rise : {V : Type 0} (es : List (List ℕ × V)) → T (is_sorted by_bytes es) → IsStrictlySortedBy by_bytes (map (λ e. e.0) es)
unfolding IsStrictlySortedBy
keys-rise [] h = tt
keys-rise (e ∷ es) h = (below-keys e.0 es (left _ _ h), keys-rise es (right _ _ h))

-- ---- entries whose keys are at their values in a list of keys: no two have one value

module _ (ids : List (List ℕ)) where
  apart : (e f : List ℕ × ℕ) → T (is_lt (by_bytes e.0 f.0)) → HasIdAt ids e.0 e.1 → HasIdAt ids f.0 f.1 → f.1 ≡ e.1 → ⊥
  apart e f h a b same =
      let keys : e.0 ≡ f.0 = same_some e.0 f.0 (sym a ∙ (ap (slice_get ids) (sym same) ∙ b)) in
      subst (λ r. T (is_lt r)) (ap (by_bytes e.0) (sym keys) ∙ tied_itself nat_list_cmp_total e.0) h

  apart-from : (e : List ℕ × ℕ) (es : List (List ℕ × ℕ)) → T (below_all by_bytes e.0 es) → HasIdAt ids e.0 e.1
      → AllEntries (HasIdAt ids) es → AllByRecursion (λ q. q ≡ e.1 → ⊥) (map (λ f. f.1) es)
  apart-from e [] h a all = tt
  apart-from e (f ∷ es) h a all = (apart e f (left _ _ h) a all.0, apart-from e es (right _ _ h) a all.1)

  pub values-apart : (es : List (List ℕ × ℕ)) → T (is_sorted by_bytes es) → AllEntries (HasIdAt ids) es
      → AreApart (map (λ f. f.1) es)
  values-apart [] h all = tt
  values-apart (e ∷ es) h all = (apart-from e es (left _ _ h) all.0 all.1, values-apart es (right _ _ h) all.1)

pub all-weaker : {V : Type 0} (P Q : List ℕ → V → Type 0) → ((k : List ℕ) (v : V) → P k v → Q k v) → (es : List (List ℕ × V))
    → AllEntries P es → AllEntries Q es
all-weaker P Q step [] all = tt
all-weaker P Q step (e ∷ es) all = (step e.0 e.1 all.0, all-weaker P Q step es all.1)
