-- The longest imprecise text that begins a text.
use Rattle.std.proofs.Common.{◌≡◌, ◌∙◌, refl, sym, ap, subst, ℕ, ◌≤◌, zero, suc, Bool, true, false, not, ◌&&◌, ◌||◌, cond, nat_le, List, [], ◌∷◌, Option, Some, None, length, take, drop, arith}
use Rattle.std.proofs.lemmas.List.{length-map, length-take}
use Rattle.std.proofs.lemmas.Bool.{false≢true}
use Rattle.std.proofs.lemmas.Bool.Decides.{nat_tests}
use Rattle.std.proofs.lemmas.Slice.Eq.{bytes_eq-Decides}
use Rattle.std.specs.Prelude.{IfSome, IfNone, Contains}
use Rattle.std.specs.Option.{option_map}
use Rattle.std.specs.List.{list_any}
use Rattle.std.specs.Char.{to_ascii_lowercase}
use Rattle.std.specs.Str.{bytes_eq, str_eq_ignore_ascii_case, str_to_ascii_lowercase}
use Rattle.spdx_terms.specs.declared.catalog.catalog.Imprecise.{Imprecise}
use Rattle.spdx_terms.specs.catalog.Catalog.{CatalogLists, IsCatalog, IsLongestImprecise, BeginsNone, BeginsText, names_of, all_distinct}
use Rattle.spdx_terms.specs.catalog.Words.{ends_word}
use Rattle.spdx_terms.specs.Items.{begins, longest_match, longer_match, imprecise_of}

abbrev pub Pairs : Type 0
Pairs = List (List ℕ × List ℕ)

pub both_true : (a b : Bool) → (a && b) ≡ true → (a ≡ true) × (b ≡ true)
both_true true b h = (refl, h)
both_true false b h = absurd (false≢true h)

pub and_true : (a b : Bool) → a ≡ true → b ≡ true → (a && b) ≡ true
and_true a b p q = ap (λ x. x && b) p ∙ q

begins_from : (imprecise text : List ℕ) → BeginsText imprecise text → begins imprecise text ≡ true
begins_from imprecise text h = and_true _ _ h.letters h.ends

pub to_begins : (imprecise text : List ℕ) → begins imprecise text ≡ true → BeginsText imprecise text
to_begins imprecise text h =
    let parts = both_true (str_eq_ignore_ascii_case imprecise (take (length imprecise) text)) (ends_word (drop (length imprecise) text)) h in
    record { letters = parts.0; ends = parts.1 }

pub same_letters : (a b : List ℕ) → str_eq_ignore_ascii_case a b ≡ true → str_to_ascii_lowercase a ≡ str_to_ascii_lowercase b
same_letters a b h = (bytes_eq-Decides (str_to_ascii_lowercase a) (str_to_ascii_lowercase b)).0 h

-- two that begin a text and are equally long are the same but for case
two_begin : (a b text : List ℕ) → begins a text ≡ true → begins b text ≡ true → length b ≡ length a → str_eq_ignore_ascii_case a b ≡ true
two_begin a b text this that same =
    (bytes_eq-Decides (str_to_ascii_lowercase a) (str_to_ascii_lowercase b)).1
    (same_letters a (take (length a) text) (to_begins a text this).letters
    ∙ ap (λ n. str_to_ascii_lowercase (take n text)) (sym same)
    ∙ sym (same_letters b (take (length b) text) (to_begins b text that).letters))

pub record Sound (listed : Pairs) (text : List ℕ) (found : ℕ × List ℕ) : Type 0 where
  pub one : List ℕ × List ℕ
  pub is_listed : Contains listed one
  pub begun : begins one.0 text ≡ true
  pub len : length one.0 ≡ found.0
  pub name : one.1 ≡ found.1

later : (first : List ℕ × List ℕ) (rest : Pairs) (one : List ℕ × List ℕ) → Contains rest one → Contains (first ∷ rest) one
later first rest one (k, inside, is) = (suc k, omega arith, is)

sound_later : (first : List ℕ × List ℕ) (rest : Pairs) (text : List ℕ) (found : ℕ × List ℕ) → Sound rest text found → Sound (first ∷ rest) text found
sound_later first rest text found s = record { one = s.one; is_listed = later first rest s.one s.is_listed; begun = s.begun; len = s.len; name = s.name }

pub some_same : {X : Type 0} (x y : X) → Some x ≡ Some y → x ≡ y
some_same x y h = cc

sound_here : (first : List ℕ × List ℕ) (rest : Pairs) (text : List ℕ) (found : ℕ × List ℕ) → begins first.0 text ≡ true → (length first.0, first.1) ≡ found → Sound (first ∷ rest) text found
sound_here first rest text found begun is =
    record { one = first; is_listed = (0, omega arith, refl); begun = begun; len = ap (λ f. f.0) is; name = ap (λ f. f.1) is }

sound_longer : (first : List ℕ × List ℕ) (rest : Pairs) (text : List ℕ) (found : ℕ × List ℕ) (other : Option (ℕ × List ℕ)) → begins first.0 text ≡ true
    → ((best : ℕ × List ℕ) → other ≡ Some best → Sound rest text best) → longer_match (length first.0, first.1) other ≡ Some found → Sound (first ∷ rest) text found
sound_longer first rest text found None begun sound h = sound_here first rest text found begun (some_same _ _ h)
sound_longer first rest text found (Some best) begun sound h =
    elim (nat_le (length first.0) best.0) as (λ (t : Bool). cond t (Some best) (Some (length first.0, first.1)) ≡ Some found → Sound (first ∷ rest) text found) [
      | true ↦ λ e. sound_later first rest text found (sound found e)
      | false ↦ λ e. sound_here first rest text found begun (some_same _ _ e)
    ]
    h

pub longest_sound : (listed : Pairs) (text : List ℕ) (found : ℕ × List ℕ) → longest_match listed text ≡ Some found → Sound listed text found
longest_sound [] text found h = cc
longest_sound (first ∷ rest) text found h =
    elim (begins first.0 text) as (λ (t : Bool). begins first.0 text ≡ t → cond t (longer_match (length first.0, first.1) (longest_match rest text)) (longest_match rest text) ≡ Some found → Sound (first ∷ rest) text found) [
      | true ↦ λ is e. sound_longer first rest text found (longest_match rest text) is (λ best b. longest_sound rest text best b) e
      | false ↦ λ is e. sound_later first rest text found (longest_sound rest text found e)
    ]
    refl h

none_longest : (listed : Pairs) (text : List ℕ) (found : Option (ℕ × List ℕ)) → longest_match listed text ≡ found → BeginsNone listed text → found ≡ None
none_longest listed text None h none = refl
none_longest listed text (Some found) h none =
    let s = longest_sound listed text found h in
    absurd (none s.one s.is_listed (to_begins s.one.0 text s.begun))

any_from : (a : List ℕ) (rest : Pairs) (one : List ℕ × List ℕ) → Contains rest one → str_eq_ignore_ascii_case a one.0 ≡ true → list_any (str_eq_ignore_ascii_case a) (names_of rest) ≡ true
any_from a [] one (k, inside, is) same = absurd (omega arith)
any_from a (first ∷ rest) one (zero, inside, is) same = ap (λ b. b || list_any (str_eq_ignore_ascii_case a) (names_of rest)) (ap (λ p. str_eq_ignore_ascii_case a p.0) is ∙ same)
any_from a (first ∷ rest) one (suc k, inside, is) same =
    elim (str_eq_ignore_ascii_case a first.0) as (λ (t : Bool). (t || list_any (str_eq_ignore_ascii_case a) (names_of rest)) ≡ true)
    [ true ↦ refl | false ↦ any_from a rest one (k, omega arith, is) same ]

not_true : (b : Bool) → not b ≡ true → b ≡ true → ⊥
not_true true h e = false≢true h
not_true false h e = false≢true e

abbrev LongestLen : Pairs → List ℕ → ℕ → Type 0
LongestLen listed text len = (other : List ℕ × List ℕ) → Contains listed other → begins other.0 text ≡ true → length other.0 ≤ len

wins : (first : List ℕ × List ℕ) (rest : Pairs) (text : List ℕ) (other : Option (ℕ × List ℕ)) → longest_match rest text ≡ other → begins first.0 text ≡ true
    → not (list_any (str_eq_ignore_ascii_case first.0) (names_of rest)) ≡ true → LongestLen rest text (length first.0)
    → longer_match (length first.0, first.1) other ≡ Some (length first.0, first.1)
wins first rest text None is begun apart least = refl
wins first rest text (Some best) is begun apart least =
    let s = longest_sound rest text best is in
    let at_most : best.0 ≤ length first.0 = subst (λ n. n ≤ length first.0) s.len (least s.one s.is_listed s.begun) in
    elim (nat_le (length first.0) best.0) as (λ (t : Bool). nat_le (length first.0) best.0 ≡ t → cond t (Some best) (Some (length first.0, first.1)) ≡ Some (length first.0, first.1)) [
      | true ↦ λ le.
          let from : length first.0 ≤ best.0 = grind (arith, nat_tests) in
          let same : best.0 ≡ length first.0 = omega arith in
          absurd (not_true _ apart (any_from first.0 rest s.one s.is_listed (two_begin first.0 s.one.0 text begun s.begun (s.len ∙ same))))
      | false ↦ λ le. refl
    ]
    refl

longest_is_there : (listed : Pairs) (text : List ℕ) (one : List ℕ × List ℕ) → Contains listed one → begins one.0 text ≡ true → all_distinct str_eq_ignore_ascii_case (names_of listed) ≡ true
    → LongestLen listed text (length one.0) → longest_match listed text ≡ Some (length one.0, one.1)
longest_is_there [] text one (k, inside, is) begun apart least = absurd (omega arith)
longest_is_there (first ∷ rest) text one (zero, inside, is) begun apart least =
    let here : begins first.0 text ≡ true = ap (λ p. begins p.0 text) is ∙ begun in
    let least_first : LongestLen rest text (length first.0) = λ other listed b. subst (λ p. length other.0 ≤ length p.0) (sym is) (least other (later first rest other listed) b) in
    ap (λ t. cond t (longer_match (length first.0, first.1) (longest_match rest text)) (longest_match rest text)) here
    ∙ wins first rest text (longest_match rest text) refl here (both_true _ _ apart).0 least_first
    ∙ ap (λ p. Some (length p.0, p.1)) is
longest_is_there (first ∷ rest) text one (suc k, inside, is) begun apart least =
    let found : longest_match rest text ≡ Some (length one.0, one.1) = longest_is_there rest text one (k, omega arith, is) begun (both_true _ _ apart).1 (λ other listed b. least other (later first rest other listed) b) in
    elim (begins first.0 text) as (λ (t : Bool). begins first.0 text ≡ t → cond t (longer_match (length first.0, first.1) (longest_match rest text)) (longest_match rest text) ≡ Some (length one.0, one.1)) [
      | true ↦ λ b.
          let shorter : length first.0 ≤ length one.0 = least first (0, omega arith, refl) b in
          let test : nat_le (length first.0) (length one.0) ≡ true = grind (arith, nat_tests) in
          ap (longer_match (length first.0, first.1)) found ∙ ap (λ t. cond t (Some (length one.0, one.1)) (Some (length first.0, first.1))) test
      | false ↦ λ b. found
    ]
    refl

-- what a catalogue answers is the longest text that begins the text
pub longest_is : (lists : CatalogLists) → IsCatalog lists → (text : List ℕ) (found : Option Imprecise)
    → IfSome found (λ f. IsLongestImprecise lists.imprecise text f.len f.name.now) → IfNone found (BeginsNone lists.imprecise text)
    → option_map imprecise_of found ≡ longest_match lists.imprecise text
longest_is lists laws text None some none = sym (none_longest lists.imprecise text (longest_match lists.imprecise text) refl none)
longest_is lists laws text (Some found) some none =
    ap (λ n. Some (n, found.name.now)) (sym some.is_len)
    ∙ sym (longest_is_there lists.imprecise text (some.imprecise, found.name.now) some.is_listed (begins_from some.imprecise text some.begins) laws.imprecise_once
    (λ other listed b. subst (λ n. length other.0 ≤ n) (sym some.is_len) (some.longest other listed (to_begins other.0 text b))))

-- a name that is listed is found
pub any_contained : (word : List ℕ) (names : List (List ℕ)) → Contains names word → list_any (bytes_eq word) names ≡ true
any_contained word [] (k, inside, is) = absurd (omega arith)
any_contained word (first ∷ rest) (zero, inside, is) = ap (λ b. b || list_any (bytes_eq word) rest) ((bytes_eq-Decides word first).1 (sym is))
any_contained word (first ∷ rest) (suc k, inside, is) =
    elim (bytes_eq word first) as (λ (t : Bool). (t || list_any (bytes_eq word) rest) ≡ true)
    [ true ↦ refl | false ↦ any_contained word rest (k, omega arith, is) ]

-- texts that are the same but for case are equally long
pub same_length : (a b : List ℕ) → str_to_ascii_lowercase a ≡ str_to_ascii_lowercase b → length a ≡ length b
same_length a b h = sym (length-map a to_ascii_lowercase) ∙ ap length h ∙ length-map b to_ascii_lowercase

-- what begins a text is no longer than it
begins_within : (imprecise text : List ℕ) → begins imprecise text ≡ true → length imprecise ≤ length text
begins_within imprecise text h =
    let same = same_length imprecise (take (length imprecise) text) (same_letters imprecise (take (length imprecise) text) (to_begins imprecise text h).letters) in
    omega (arith, same, length-take (length imprecise) text)

pub within_text : (lists : CatalogLists) (text : List ℕ) (found : Option Imprecise) → IfSome found (λ f. IsLongestImprecise lists.imprecise text f.len f.name.now) → IfSome found (λ f. f.len ≤ length text)
within_text lists text None some = tt
within_text lists text (Some found) some = subst (λ n. n ≤ length text) some.is_len (begins_within some.imprecise text (begins_from some.imprecise text some.begins))
