-- What is found by numbers is what is found by walking.
use Rattle.std.proofs.Common.{◌≡◌, ◌⊎◌, inl, inr, ℕ, zero, suc, ◌<◌, ◌==◌, eqb, Bool, true, false, IsTrue, ◌||◌, cond, List, [], ◌∷◌, ◌++◌, length, map, codes, slice_get, Some, unwrap_or, option_map, refl, sym, ap, subst, ◌∙◌, arith, slice_index_or, Any}
use Rattle.std.specs.List.{list_any}
use Rattle.std.specs.Option.{option_map_or}
use Rattle.std.specs.Str.{bytes_eq}
use Rattle.std.proofs.lemmas.Bool.Decides.{nat_tests}
use Rattle.std.proofs.lemmas.Slice.Eq.{bytes_eq-Decides}
use Rattle.url.specs.Host.{host_text}
use Rattle.url.specs.Parts.{Parts, nonempty_host}
use Rattle.graph_core.specs.Krate.{has_text}
use Rattle.graph_core.specs.source.Matching.{AddressMatches, IsAt, IsCratesIo}
use Rattle.policy_parts.specs.spec.Index.{name_number, places_from, places_of}
use Rattle.policy_parts.proofs.spec.IndexLemmas.{passes_at}
use Rattle.check_core.specs.evaluate.Private.{Holds, address_number, is_at, site_number}

equal : (n : ℕ) → eqb n n ≡ true
equal n = grind (arith, nat_tests)

same : (n m : ℕ) → n ≡ m → eqb n m ≡ true
same n m is = ap (eqb n) (sym is) ∙ equal n

at_front : {A : Type 0} (before : List A) (x : A) (more : List A) → slice_get (before ++ x ∷ more) (length before) ≡ Some x
at_front [] x more = refl
at_front (y ∷ before) x more = at_front before x more

behind : {A : Type 0} (before : List A) (x : A) (more : List A) → (before ++ x ∷ []) ++ more ≡ before ++ x ∷ more
behind [] x more = refl
behind (y ∷ before) x more = ap (λ l. y ∷ l) (behind before x more)

one_longer : {A : Type 0} (before : List A) (x : A) → length (before ++ x ∷ []) ≡ suc (length before)
one_longer [] x = refl
one_longer (y ∷ before) x = ap suc (one_longer before x)

-- ---- what a test tells

kept : (test : ℕ → Bool) (numbered fits : Bool) (n : ℕ) (places : List ℕ) (found : Bool) → test n ≡ fits → (fits ≡ true → numbered ≡ true) → list_any test places ≡ found
    → list_any test (cond numbered (n ∷ places) places) ≡ (fits || found)
kept test true fits n places found here means more = ap (λ b. b || list_any test places) here ∙ ap (λ b. fits || b) more
kept test false true n places found here means more = absurd (let no : false ≡ true = means refl in cc)
kept test false false n places found here means more = more

module _ {A : Type 0} (number : A → ℕ) (test : A → Bool) (meant : ℕ) (means : (x : A) → test x ≡ true → eqb meant (number x) ≡ true) where
  any_walked : (before rest : List A) → list_any (passes_at test (before ++ rest)) (places_from (length before) (λ n. meant == n) (map number rest)) ≡ list_any test rest
  any_walked before [] = refl
  any_walked before (x ∷ rest) =
      let n = length before in
      let more = subst (λ m. list_any (passes_at test ((before ++ x ∷ []) ++ rest)) (places_from m (λ n. meant == n) (map number rest)) ≡ list_any test rest) (one_longer before x) (any_walked (before ++ x ∷ []) rest) in
      let moved = subst (λ items. list_any (passes_at test items) (places_from (suc n) (λ n. meant == n) (map number rest)) ≡ list_any test rest) (behind before x rest) more in
      kept (passes_at test (before ++ x ∷ rest)) (eqb meant (number x)) (test x) n (places_from (suc n) (λ n. meant == n) (map number rest)) (list_any test rest)
      (ap (λ o. option_map_or test o false) (at_front before x rest)) (means x) moved

-- a name is one of a list exactly where it is at a place of its number
pub named : (names : List (List ℕ)) (name : List ℕ) → list_any (is_at names name) (places_of (name_number name) (map name_number names)) ≡ has_text names name
named names name =
    any_walked name_number (λ other. bytes_eq other name) (name_number name)
    (λ other is. same (name_number name) (name_number other) (ap name_number (sym ((bytes_eq-Decides other name).0 is)))) [] names

-- ---- what holds of an item

any_here : {A : Type 0} (P : A → Type 0) (x : A) (xs : List A) → P x → Any P (x ∷ xs)
any_here P x xs is = (0, x, omega arith, refl, is)

any_more : {A : Type 0} (P : A → Type 0) (x : A) (xs : List A) → Any P xs → Any P (x ∷ xs)
any_more P x xs some = (suc some.0, some.1, (let less = some.2 in omega (arith, less)), some.3, some.4)

-- what holds of the item at a place holds of some item
holds_somewhere : {A : Type 0} (P : A → Type 0) (items : List A) (place : ℕ) → Holds P (slice_get items place) → Any P items
holds_somewhere P [] place is = absurd is
holds_somewhere P (x ∷ items) zero is = any_here P x items is
holds_somewhere P (x ∷ items) (suc place) is = any_more P x items (holds_somewhere P items place is)

pub from_places : {A : Type 0} (P : A → Type 0) (items : List A) (places : List ℕ) → Any (λ place. Holds P (slice_get items place)) places → Any P items
from_places P items places some = holds_somewhere P items some.1 some.4

in_either : (b : Bool) (P : ℕ → Type 0) (n : ℕ) (places : List ℕ) → Any P places → Any P (cond b (n ∷ places) places)
in_either true P n places some = any_more P n places some
in_either false P n places some = some

in_here : (b : Bool) (P : ℕ → Type 0) (n : ℕ) (places : List ℕ) → b ≡ true → P n → Any P (cond b (n ∷ places) places)
in_here true P n places is here = any_here P n places here
in_here false P n places is here = absurd (cc)

module _ {A : Type 0} (number : A → ℕ) (P : A → Type 0) (one other : ℕ) (means : (x : A) → P x → (eqb one (number x) ≡ true) ⊎ (eqb other (number x) ≡ true)) where
  abbrev PlacesOf : ℕ → ℕ → List A → List A → Type 0
  PlacesOf meant n items rest = Any (λ place. Holds P (slice_get items place)) (places_from n (λ m. meant == m) (map number rest))

  abbrev Either : ℕ → List A → List A → Type 0
  Either n items rest = PlacesOf one n items rest ⊎ PlacesOf other n items rest

  put : (before : List A) (x : A) (rest : List A) → Either (suc (length before)) (before ++ x ∷ rest) rest → Either (length before) (before ++ x ∷ rest) (x ∷ rest)
  put before x rest (inl some) = inl (in_either (eqb one (number x)) _ (length before) _ some)
  put before x rest (inr some) = inr (in_either (eqb other (number x)) _ (length before) _ some)

  first : (before : List A) (x : A) (rest : List A) → P x → (eqb one (number x) ≡ true) ⊎ (eqb other (number x) ≡ true) → Either (length before) (before ++ x ∷ rest) (x ∷ rest)
  first before x rest is (inl numbered) = inl (in_here (eqb one (number x)) _ (length before) _ numbered (subst (Holds P) (sym (at_front before x rest)) is))
  first before x rest is (inr numbered) = inr (in_here (eqb other (number x)) _ (length before) _ numbered (subst (Holds P) (sym (at_front before x rest)) is))

  to_places : (before rest : List A) (k : ℕ) (x : A) → k < length rest → slice_index_or rest k x ≡ x → P x → Either (length before) (before ++ rest) rest
  to_places before [] k x less is holds = absurd (omega (arith, less))
  to_places before (y ∷ rest) zero x less is holds = first before y rest (subst P (sym is) holds) (means y (subst P (sym is) holds))
  to_places before (y ∷ rest) (suc k) x less is holds =
      let more : Either (length (before ++ y ∷ [])) ((before ++ y ∷ []) ++ rest) rest = to_places (before ++ y ∷ []) rest k x (omega (arith, less)) is holds in
      put before y rest (subst (λ items. Either (suc (length before)) items rest) (behind before y rest) (subst (λ n. Either n ((before ++ y ∷ []) ++ rest) rest) (one_longer before y) more))

-- ---- addresses

-- what holds of some address, found by a number
abbrev Found : (Parts → Type 0) → List Parts → List ℕ → ℕ → Type 0
Found P addresses numbers number = Any (λ place. Holds P (slice_get addresses place)) (places_of number numbers)

both_ways : {A : Type 0} → A ⊎ A → A
both_ways (inl is) = is
both_ways (inr is) = is

-- those of a host and a path
pub site_found : (P : Parts → Type 0) (own : Parts) (means : (address : Parts) → P address → AddressMatches true own address) (addresses : List Parts) (numbers : List ℕ) (number : ℕ)
    → map address_number addresses ≡ numbers → number ≡ address_number own → Any P addresses → Found P addresses numbers number
site_found P own means addresses numbers number all is some =
    subst (Found P addresses numbers) (sym is) (subst (λ held. Found P addresses held (address_number own)) all
    (both_ways (to_places address_number P (address_number own) (address_number own)
    (λ address holds. let matches = means address holds in inl (same (address_number own) (address_number address)
    (ap (λ host. site_number (unwrap_or (option_map host_text host) []) own.path) matches.0
    ∙ ap (site_number (unwrap_or (option_map host_text (nonempty_host address)) [])) matches.1)))
    [] addresses some.0 some.1 some.2 some.3 some.4)))

at_site : (domain path : List ℕ) (address : Parts) → IsAt domain path address → eqb (site_number domain path) (address_number address) ≡ true
at_site domain path address is =
    same (site_number domain path) (address_number address)
    (sym (ap (λ host. site_number (unwrap_or (option_map host_text host) []) address.path) is.0 ∙ ap (site_number domain) is.1))

either_site : (address : Parts) → IsCratesIo address
    → (eqb (site_number (codes "github.com") (codes "/rust-lang/crates.io-index")) (address_number address) ≡ true)
    ⊎ (eqb (site_number (codes "index.crates.io") (codes "/")) (address_number address) ≡ true)
either_site address (inl is) = inl (at_site (codes "github.com") (codes "/rust-lang/crates.io-index") address is)
either_site address (inr is) = inr (at_site (codes "index.crates.io") (codes "/") address is)

-- those of crates.io
pub two_found : (P : Parts → Type 0) (means : (address : Parts) → P address → IsCratesIo address) (addresses : List Parts) (numbers : List ℕ) (one other : ℕ)
    → map address_number addresses ≡ numbers → one ≡ site_number (codes "github.com") (codes "/rust-lang/crates.io-index") → other ≡ site_number (codes "index.crates.io") (codes "/")
    → Any P addresses → Found P addresses numbers one ⊎ Found P addresses numbers other
two_found P means addresses numbers one other all one_is other_is some =
    subst (λ number. Found P addresses numbers number ⊎ Found P addresses numbers other) (sym one_is)
    (subst (λ number. Found P addresses numbers (site_number (codes "github.com") (codes "/rust-lang/crates.io-index")) ⊎ Found P addresses numbers number) (sym other_is)
    (subst (λ held. Found P addresses held (site_number (codes "github.com") (codes "/rust-lang/crates.io-index")) ⊎ Found P addresses held (site_number (codes "index.crates.io") (codes "/"))) all
    (to_places address_number P (site_number (codes "github.com") (codes "/rust-lang/crates.io-index")) (site_number (codes "index.crates.io") (codes "/"))
    (λ address holds. either_site address (means address holds)) [] addresses some.0 some.1 some.2 some.3 some.4)))

-- one of two answers, where one is reported
pub either_told : (one : Bool) (A B : Type 0) → one ≡ false → (A → IsTrue one) → A ⊎ B → B
either_told one A B is told (inl a) = absurd (let yes = told a in cc)
either_told one A B is told (inr b) = b
