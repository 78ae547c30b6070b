-- An id that has a place keeps it.
use Rattle.std.proofs.Common.{◌≡◌, ℕ, List, Bool, true, false, cond, Option, Some, None, is_some, refl, sym, ◌∙◌, ap}
use Rattle.std.specs.declared.cmp.Ordering.{Ordering}
use Rattle.std.specs.declared.cmp.Ordering.TheVariants.{Less, Equal, Greater}
use Rattle.std.specs.Ordering.{nat_cmp, is_eq, eq_by_cmp}
use Rattle.std.specs.Cmp.Lexicographic.{slice_cmp, nat_list_cmp_total}
use Rattle.std.specs.FinMap as finmap
use Rattle.std.specs.FinMap.{nat_cmp-IsAntisymmetric, slice_cmp-IsAntisymmetric}
use Rattle.graph_metadata.specs.Known.{given_back}
use Rattle.graph_metadata.specs.Shape.{IdPlaces, with_place}

is_equal : (r : Ordering) → is_eq r ≡ true → r ≡ Equal
is_equal Less e = cc
is_equal Equal e = refl
is_equal Greater e = cc

at_key : (known : IdPlaces) (id q : List ℕ) (index first : ℕ) → finmap.get known id ≡ Some first → (tied : Bool)
    → eq_by_cmp (slice_cmp nat_cmp) q id ≡ tied
    → cond tied (Some first) (cond tied (Some index) (finmap.get known q)) ≡ finmap.get known q
at_key known id q index first e true is =
    sym (ap (finmap.get known) (slice_cmp-IsAntisymmetric nat_cmp-IsAntisymmetric q id (is_equal _ is)) ∙ e)
at_key known id q index first e false is = refl

-- to set another place and then the first again changes nothing
again : (known : IdPlaces) (id : List ℕ) (index first : ℕ) → finmap.get known id ≡ Some first
    → finmap.insert (finmap.insert known id index) id first ≡ known
again known id index first e =
    finmap.same_map nat_list_cmp_total (slice_cmp-IsAntisymmetric nat_cmp-IsAntisymmetric) _ known
    (λ q. finmap.get-insert nat_list_cmp_total (finmap.insert known id index) id first q
    ∙ (ap (cond (eq_by_cmp (slice_cmp nat_cmp) q id) (Some first)) (finmap.get-insert nat_list_cmp_total known id index q)
    ∙ at_key known id q index first e _ refl))

pub first_stays : (known : IdPlaces) (id : List ℕ) (index : ℕ) (first : Option ℕ) → first ≡ finmap.get known id
    → given_back (finmap.insert known id index) id first ≡ with_place known index (Some id)
first_stays known id index None e = ap (λ found. cond (is_some found) known (finmap.insert known id index)) e
first_stays known id index (Some first) e =
    again known id index first (sym e)
    ∙ ap (λ found. cond (is_some found) known (finmap.insert known id index)) e
