-- The longest imprecise text that begins a text, by texts in order.
use Rattle.std.proofs.Common.{◌≡◌, ◌<◌, ◌≤◌, ◌+◌, ◌⊎◌, inl, inr, ℕ, Bool, true, false, List, [], ◌∷◌, map, length, length-take, length-take-le, take, drop, take_all, get_or, leb, leb-true, All, Contains, IsTrue, Option, Some, None, IfNone, IfSome, Result, Err, refl, sym, ap, subst, ◌∙◌, arith}
use Rattle.std.specs.List.{HoldsAt}
use Rattle.std.specs.List.Sorted.{IsBinarySearchResult, IsNonDecreasingBy, IsPartitionPoint, IsPermutation}
use Rattle.std.specs.Ordering.{nat_cmp, is_eq, ordering_index}
use Rattle.std.specs.Cmp.Lexicographic.{slice_cmp, nat_list_cmp_total}
use Rattle.std.specs.Str.{str_to_ascii_lowercase}
use Rattle.std.specs.Char.{to_ascii_lowercase}
use Rattle.std.specs.declared.cmp.Ordering.TheVariants.{Less, Equal, Greater}
use Rattle.std.proofs.lemmas.Bool.Decides.{nat_tests}
use Rattle.std.proofs.lemmas.Cmp.{tied_itself}
use Rattle.std.proofs.lemmas.List.{get_or-map, length-map}
use Rattle.std.proofs.lemmas.List.Elements.{All-contains, All-map, All-more, All-weaker, Contains-get_or}
use Rattle.std.proofs.lemmas.List.Sorted.{Contains-permutation, IsPermutation-sym, searchable_from_sorted}
use Rattle.std.proofs.lemmas.Map.Text.{is_eq-slice_cmp}
use Rattle.std.proofs.lemmas.Slice.Eq.{bytes_eq-Decides}
use Rattle.spdx_terms.specs.catalog.Catalog.{BeginsNone, BeginsText, IsLongestImprecise}
use Rattle.spdx_terms.specs.catalog.Words.{ends_word}
use Rattle.spdx_own_names.specs.IndexView.{meanings_listed}
use Rattle.spdx_own_names.specs.Ordered.{AreInOrder, AreSorted, IsLastUpto, IsLaterOf, Means, MeansNothing, MeansNothingUpto, MeansSome, lower_pair}
use Rattle.spdx_own_names.specs.declared.meanings.Meaning.{Meaning}

-- ---- what a search finds

abbrev pair_of : Meaning → List ℕ × List ℕ
pair_of meaning = (meaning.text, meaning.name)

equal_texts : (a b : List ℕ) → slice_cmp nat_cmp a b ≡ Equal → a ≡ b
equal_texts a b is = (bytes_eq-Decides a b).0 (sym (is_eq-slice_cmp a b) ∙ ap is_eq is)

pub found_at : (ordered : List Meaning) (key : List ℕ) (place : ℕ) (one : Meaning) → place < length ordered → HoldsAt (λ meaning. slice_cmp nat_cmp meaning.text key ≡ Equal) ordered place
    → Contains (meanings_listed ordered) (key, (get_or ordered place one).name)
found_at ordered key place one inside equal =
    let own = get_or ordered place one in (
      place,
      subst (λ n. place < n) (sym (length-map ordered pair_of)) inside,
      get_or-map pair_of ordered place one (key, own.name) inside ∙ ap (λ (text : List ℕ). (text, own.name)) (equal_texts own.text key (equal one)),
    )

pub found_none : (ordered : List Meaning) (key : List ℕ) (place : ℕ) → AreSorted ordered
    → (IsNonDecreasingBy (λ meaning. ordering_index (slice_cmp nat_cmp meaning.text key)) ordered → IsPartitionPoint (λ meaning. slice_cmp nat_cmp meaning.text key ≡ Less) (λ meaning. slice_cmp nat_cmp meaning.text key ≡ Greater) ordered place)
    → (name : List ℕ) → ¬ Contains (meanings_listed ordered) (key, name)
found_none [] key place sorted parts name (k, inside, is) = absurd (omega (arith, inside))
found_none (first ∷ rest) key place sorted parts name (k, inside, is) = by (leb place k) refl
  where
    all : List Meaning
    all = first ∷ rest

    within : k < length all
    within = subst (λ n. k < n) (length-map all pair_of) inside

    here : (get_or all k first).text ≡ key
    here = ap (λ (pair : List ℕ × List ℕ). pair.0) (sym (get_or-map pair_of all k first (key, name) within) ∙ is)

    equal : slice_cmp nat_cmp (get_or all k first).text key ≡ Equal
    equal = ap (λ (text : List ℕ). slice_cmp nat_cmp text key) here ∙ tied_itself nat_list_cmp_total key

    split : IsPartitionPoint (λ meaning. slice_cmp nat_cmp meaning.text key ≡ Less) (λ meaning. slice_cmp nat_cmp meaning.text key ≡ Greater) all place
    split = parts (searchable_from_sorted nat_list_cmp_total (λ (meaning : Meaning). meaning.text) all key sorted)

    by : (b : Bool) → leb place k ≡ b → ⊥
    by true is =
        let here_too : slice_cmp nat_cmp (get_or all k first).text key ≡ Equal = equal in
        let greater : slice_cmp nat_cmp (get_or all k first).text key ≡ Greater = split.1 k first (leb-true place k is) within in absurd (cc)
    by false is =
        let early : k < place = grind (arith, nat_tests) in
        let here_too : slice_cmp nat_cmp (get_or all k first).text key ≡ Equal = equal in
        let less : slice_cmp nat_cmp (get_or all k first).text key ≡ Less = split.0 k first (omega arith) early in absurd (cc)

-- ---- the longest

pub longest_more : (listed : List Meaning) (i : ℕ) (one : Meaning) (before new : ℕ) → i < length listed → one ≡ get_or listed i one → All (λ (meaning : Meaning). length meaning.text ≤ before) (take i listed) → before ≤ new → length one.text ≤ new
    → All (λ (meaning : Meaning). length meaning.text ≤ new) (take (i + 1) listed)
longest_more listed i one before new inside is all upto fits =
    All-more (λ (meaning : Meaning). length meaning.text ≤ new) listed i one inside
    (All-weaker (λ (meaning : Meaning). length meaning.text ≤ before) (λ (meaning : Meaning). length meaning.text ≤ new) (λ meaning within. omega (arith, within, upto)) (take i listed) all)
    (subst (λ (meaning : Meaning). length meaning.text ≤ new) is fits)

pub longest_all : (listed : List Meaning) (i longest : ℕ) → length listed ≤ i → All (λ (meaning : Meaning). length meaning.text ≤ longest) (take i listed) → All (λ (meaning : Meaning). length meaning.text ≤ longest) listed
longest_all listed i longest over all = subst (λ (those : List Meaning). All (λ (meaning : Meaning). length meaning.text ≤ longest) those) (take_all i listed over) all

pub in_order : (listed ordered : List Meaning) (longest : ℕ) → IsPermutation (map lower_pair (meanings_listed listed)) (meanings_listed ordered) → AreSorted ordered → All (λ (meaning : Meaning). length meaning.text ≤ longest) listed
    → AreInOrder (meanings_listed listed) ordered longest
in_order listed ordered longest same sorted all = record { same = same; sorted = sorted; within = All-map (λ (pair : List ℕ × List ℕ). length pair.0 ≤ longest) pair_of listed all }

pub none_by : (ordered : List Meaning) (key : List ℕ) (found : Result ℕ ℕ) (place : ℕ) → AreSorted ordered → found ≡ Err place → IsBinarySearchResult (λ meaning. slice_cmp nat_cmp meaning.text key) ordered found
    → (name : List ℕ) → ¬ Contains (meanings_listed ordered) (key, name)
none_by ordered key found place sorted is position =
    found_none ordered key place sorted (subst (λ (answer : Result ℕ ℕ). IsBinarySearchResult (λ meaning. slice_cmp nat_cmp meaning.text key) ordered answer) is position)

pub none_weaker : {X : Type 0} (found : Option X) (P Q : Type 0) → (P → Q) → IfNone found P → IfNone found Q
none_weaker None P Q weaker none = weaker none
none_weaker (Some x) P Q weaker none = none

pub some_weaker : {X : Type 0} (found : Option X) (P Q : X → Type 0) → ((x : X) → P x → Q x) → IfSome found P → IfSome found Q
some_weaker None P Q weaker some = some
some_weaker (Some x) P Q weaker some = weaker x some

-- ---- so many bytes

module _ {ordered : List Meaning} {text start : List ℕ} {len : ℕ} (front : start ≡ take len text) where
  pub means_one : (rest name : List ℕ) → rest ≡ drop len text → ends_word rest ≡ true → Contains (meanings_listed ordered) (str_to_ascii_lowercase start, name) → Means ordered text len name
  means_one rest name behind ends listed = record {
    is_listed = subst (λ (those : List ℕ). Contains (meanings_listed ordered) (str_to_ascii_lowercase those, name)) front listed;
    ends = ap ends_word (sym behind) ∙ ends;
  }

  pub means_none : ((name : List ℕ) → ¬ Contains (meanings_listed ordered) (str_to_ascii_lowercase start, name)) → MeansNothing ordered text len
  means_none none = λ name means. none name (subst (λ (those : List ℕ). Contains (meanings_listed ordered) (str_to_ascii_lowercase those, name)) (sym front) means.is_listed)

pub goes_on : (ordered : List Meaning) (text rest : List ℕ) (len : ℕ) → rest ≡ drop len text → ends_word rest ≡ false → MeansNothing ordered text len
goes_on ordered text rest len behind inside = λ name means. let yes : ends_word rest ≡ true = ap ends_word behind ∙ means.ends in absurd (cc)

-- ---- length after length

pub last_none : (ordered : List Meaning) (text : List ℕ) → IsLastUpto ordered text 0 0
last_none ordered text = record { within = omega arith; longer = λ len above upto. absurd (omega (arith, above, upto)); stands = inr refl }

module _ (ordered : List Meaning) (text : List ℕ) (len last later : ℕ) (so_far : IsLastUpto ordered text len last) where
  none_longer : MeansNothing ordered text (len + 1) → (longer : ℕ) → last < longer → longer ≤ len + 1 → MeansNothing ordered text longer
  none_longer nothing longer above upto = by (leb longer len) refl
    where
      by : (b : Bool) → leb longer len ≡ b → MeansNothing ordered text longer
      by true is = so_far.longer longer above (leb-true longer len is)
      by false is =
          let same : len + 1 ≡ longer = grind (arith, nat_tests) in
          subst (λ n. MeansNothing ordered text n) same nothing

  pub last_on : IsLaterOf ordered text last (len + 1) later → IsLastUpto ordered text (len + 1) later
  last_on (inl (some, is)) = record {
    within = omega (arith, is);
    longer = λ longer above upto. absurd (omega (arith, is, above, upto));
    stands = inl (subst (λ n. MeansSome ordered text n) (sym is) some);
  }
  last_on (inr (nothing, is)) = record {
    within = let within = so_far.within in omega (arith, is, within);
    longer = λ longer above upto. none_longer nothing longer (omega (arith, is, above)) upto;
    stands = subst (λ n. MeansSome ordered text n ⊎ (n ≡ 0)) (sym is) so_far.stands;
  }

pub upto_none : (ordered : List Meaning) (text : List ℕ) (most last : ℕ) → IsLastUpto ordered text most last → MeansNothing ordered text last → MeansNothingUpto ordered text most
upto_none ordered text most last upto nothing = λ len within. elim upto.stands as (λ _. MeansNothing ordered text len) [
  | inl some ↦ absurd (nothing some.0 some.1)
  | inr zero_is ↦ by len within zero_is (leb len 0) refl
]
  where
    by : (len : ℕ) → len ≤ most → last ≡ 0 → (b : Bool) → leb len 0 ≡ b → MeansNothing ordered text len
    by len within zero_is true is =
        let low : len ≤ 0 = leb-true len 0 is in
        let same : last ≡ len = omega (arith, low, zero_is) in
        subst (λ n. MeansNothing ordered text n) same nothing
    by len within zero_is false is =
        let above : last < len = grind (arith, nat_tests) in
        upto.longer len above within

-- ---- of all texts

length-lower : (text : List ℕ) → length (str_to_ascii_lowercase text) ≡ length text
length-lower text = length-map text to_ascii_lowercase

same_lower : (a b : List ℕ) → str_to_ascii_lowercase a ≡ str_to_ascii_lowercase b → length a ≡ length b
same_lower a b is = sym (length-lower a) ∙ ap length is ∙ length-lower b

fits : (imprecise text : List ℕ) → BeginsText imprecise text → length imprecise ≤ length text
fits imprecise text begins =
    let same : length imprecise ≡ length (take (length imprecise) text) =
    same_lower imprecise (take (length imprecise) text) ((bytes_eq-Decides (str_to_ascii_lowercase imprecise) (str_to_ascii_lowercase (take (length imprecise) text))).0 begins.letters) in
    let taken = length-take (length imprecise) text in
    grind (arith, nat_tests)

module _ {listed : List (List ℕ × List ℕ)} {ordered : List Meaning} {longest : ℕ} (text : List ℕ) (most : ℕ) (order : AreInOrder listed ordered longest)
    (below : most ≤ length text)
    (all : (len : ℕ) → len ≤ longest → len ≤ length text → len ≤ most)
  where
    begins_means : (other : List ℕ × List ℕ) → Contains listed other → BeginsText other.0 text → Means ordered text (length other.0) other.1
    begins_means other (k, inside, is) begins =
        let lowered : Contains (map lower_pair listed) (lower_pair other) = (
          k,
          subst (λ n. k < n) (sym (length-map listed lower_pair)) inside,
          get_or-map lower_pair listed k other (lower_pair other) inside ∙ ap lower_pair is,
        ) in
        let same : str_to_ascii_lowercase other.0 ≡ str_to_ascii_lowercase (take (length other.0) text) =
        (bytes_eq-Decides (str_to_ascii_lowercase other.0) (str_to_ascii_lowercase (take (length other.0) text))).0 begins.letters in record {
          is_listed = subst (λ (key : List ℕ). Contains (meanings_listed ordered) (key, other.1)) same (Contains-permutation (map lower_pair listed) (meanings_listed ordered) (lower_pair other) order.same lowered);
          ends = begins.ends;
        }

    within_most : (other : List ℕ × List ℕ) → Contains listed other → BeginsText other.0 text → length other.0 ≤ most
    within_most other contained begins =
        all (length other.0) (All-contains (λ (pair : List ℕ × List ℕ). length pair.0 ≤ longest) listed other order.within contained) (fits other.0 text begins)

    pub none_begins : MeansNothingUpto ordered text most → BeginsNone listed text
    none_begins nothing = λ one contained begins. nothing (length one.0) (within_most one contained begins) one.1 (begins_means one contained begins)

    -- the text that is meant, as it is listed
    record IsListedAs (len : ℕ) (name : List ℕ) : Type 0 where
      pair : List ℕ × List ℕ
      contained : Contains listed pair
      lowers : str_to_ascii_lowercase pair.0 ≡ str_to_ascii_lowercase (take len text)
      means : pair.1 ≡ name

    listed_as : (len : ℕ) (name : List ℕ) → Means ordered text len name → IsListedAs len name
    listed_as len name means =
        let key : List ℕ × List ℕ = (str_to_ascii_lowercase (take len text), name) in
        let lowered : Contains (map lower_pair listed) key =
        Contains-permutation (meanings_listed ordered) (map lower_pair listed) key (IsPermutation-sym (map lower_pair listed) (meanings_listed ordered) order.same) means.is_listed in
        let none : List ℕ × List ℕ = ([], []) in
        let inside : lowered.0 < length listed = subst (λ n. lowered.0 < n) (length-map listed lower_pair) lowered.1 in
        let is : lower_pair (get_or listed lowered.0 none) ≡ key = sym (get_or-map lower_pair listed lowered.0 none key inside) ∙ lowered.2 in record {
          pair = get_or listed lowered.0 none;
          contained = Contains-get_or listed lowered.0 none inside;
          lowers = ap (λ (pair : List ℕ × List ℕ). pair.0) is;
          means = ap (λ (pair : List ℕ × List ℕ). pair.1) is;
        }

    none_longer_begins : (len : ℕ) → IsLastUpto ordered text most len → (other : List ℕ × List ℕ) → Contains listed other → BeginsText other.0 text → length other.0 ≤ len
    none_longer_begins len last other contained begins = by (leb (length other.0) len) refl
      where
        by : (b : Bool) → leb (length other.0) len ≡ b → length other.0 ≤ len
        by true is = leb-true (length other.0) len is
        by false is =
            let above : len < length other.0 = grind (arith, nat_tests) in
            absurd (last.longer (length other.0) above (within_most other contained begins) other.1 (begins_means other contained begins))

    pub longest_begins : (len : ℕ) (name : List ℕ) → IsLastUpto ordered text most len → Means ordered text len name → IsLongestImprecise listed text len name
    longest_begins len name last means =
        let own = listed_as len name means in
        let upto = last.within in
        let lens : length own.pair.0 ≡ len = same_lower own.pair.0 (take len text) own.lowers ∙ length-take-le len text (omega (arith, upto, below)) in record {
          imprecise = own.pair.0;
          is_listed = subst (λ (name : List ℕ). Contains listed (own.pair.0, name)) own.means own.contained;
          begins = record {
            letters = (bytes_eq-Decides (str_to_ascii_lowercase own.pair.0) (str_to_ascii_lowercase (take (length own.pair.0) text))).1 (own.lowers ∙ ap (λ (n : ℕ). str_to_ascii_lowercase (take n text)) (sym lens));
            ends = subst (λ (n : ℕ). IsTrue (ends_word (drop n text))) (sym lens) means.ends;
          };
          is_len = lens;
          longest = none_longer_begins len last;
        }
