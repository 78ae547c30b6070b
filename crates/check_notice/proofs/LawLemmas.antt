-- In each notice the numbers lead to the texts of their terms, no text is there twice, and each is cited.
use Rattle.std.proofs.Common.{◌≡◌, ◌∙◌, ◌⊎◌, inl, inr, ℕ, zero, suc, ◌+◌, ◌-◌, ◌<◌, Bool, true, false, not, cond, ◌||◌, List, [], ◌∷◌, ◌++◌, length, map, find, slice_get, Option, Some, None, is_none, refl, sym, ap, subst, arith, Any}
use Rattle.std.specs.List.{AllZip, cons_option, flat_map, fold, position_or_len}
use Rattle.std.specs.Option.{option_map, option_or}
use Rattle.std.specs.Str.{bytes_eq}
use Rattle.std.proofs.lemmas.List.{map-append}
use Rattle.std.proofs.lemmas.Slice.Eq.{bytes_eq-Decides}
use Rattle.spdx_terms.specs.declared.term.LicenseReq.{LicenseReq}
use Rattle.gather_license.specs.declared.texts.OwnText.{OwnText}
use Rattle.graph_core.specs.Krate.{has_text}
use Rattle.check_notice.specs.declared.notice.KeyNumber.{KeyNumber}
use Rattle.check_notice.specs.declared.notice.NoticeCrate.{NoticeCrate}
use Rattle.check_notice.specs.Keys.{key_of}
use Rattle.check_notice.specs.Laws.{AreDistinct, CitesTerm, IsCited, LeadsTo, NoticesLead, TellsCrate}
use Rattle.check_notice.specs.Notice.{Cite, NoticedCrate, accepted_in, cite_as, cites_of, first_missing, is_accepted, missing_of, numbered, text_in, texts_of, told_of, used_terms}
use Rattle.check_notice.specs.Numbers.{number_in, with_text}
use Rattle.check_notice.specs.Sources.{TextSources, text_for}
use Rattle.check_notice.proofs.NumberLemmas.{AreThere, are_there, same_text, swapped}
use Rattle.check_notice.proofs.StepLemmas.{cites_in, lacks, uses_of}

-- ---- a number leads to its text

found_text : (texts : List (List ℕ)) (text : List ℕ) → has_text texts text ≡ true → slice_get texts (position_or_len (λ one. bytes_eq one text) texts) ≡ Some text
found_text [] text there = absurd (cc)
found_text (x ∷ xs) text there = by (bytes_eq x text) refl (found_text xs text)
  where
    at : Bool → Option (List ℕ)
    at b = slice_get (x ∷ xs) (cond (not b) (1 + position_or_len (λ one. bytes_eq one text) xs) 0)

    by : (b : Bool) → bytes_eq x text ≡ b → (has_text xs text ≡ true → slice_get xs (position_or_len (λ one. bytes_eq one text) xs) ≡ Some text) → at (bytes_eq x text) ≡ Some text
    by true here rest = ap at here ∙ ap Some ((bytes_eq-Decides x text).0 here)
    by false here rest =
        let next : 1 + position_or_len (λ one. bytes_eq one text) xs ≡ suc (position_or_len (λ one. bytes_eq one text) xs) = omega arith in
        ap at here
        ∙ ap (slice_get (x ∷ xs)) next
        ∙ rest (sym (ap (λ b. b || has_text xs text) here) ∙ there)

pub leads : (texts : List (List ℕ)) (text : List ℕ) → has_text texts text ≡ true → LeadsTo texts (number_in texts text) text
leads texts text there =
    let place = position_or_len (λ one. bytes_eq one text) texts in
    let less : (place + 1) - 1 ≡ place = omega arith in
    record { from_one = omega arith; there = ap (slice_get texts) less ∙ found_text texts text there }

-- ---- the terms of a crate

terms_cited : (by : TextSources) (own : List OwnText) (texts : List (List ℕ)) (reqs : List LicenseReq) → find (lacks by own) reqs ≡ None → AreThere texts (cites_in by own reqs)
    → AllZip (CitesTerm by own texts) reqs (map (numbered texts) (cites_in by own reqs))
terms_cited by own texts [] whole there = tt
terms_cited by own texts (req ∷ reqs) whole there = step (text_for by own req) refl (terms_cited by own texts reqs)
  where
    rest : List Cite
    rest = cites_in by own reqs

    Goal : Option (List ℕ) → Type 0
    Goal found = AreThere texts (cons_option (option_map (cite_as req) found) rest) → AllZip (CitesTerm by own texts) (req ∷ reqs) (map (numbered texts) (cons_option (option_map (cite_as req) found) rest))

    step : (found : Option (List ℕ)) → text_for by own req ≡ found → (find (lacks by own) reqs ≡ None → AreThere texts rest → AllZip (CitesTerm by own texts) reqs (map (numbered texts) rest))
        → AllZip (CitesTerm by own texts) (req ∷ reqs) (map (numbered texts) (cites_in by own (req ∷ reqs)))
    step None has others = let never : Some req ≡ None = sym (ap (λ (found : Option (List ℕ)). cond (is_none found) (Some req) (find (lacks by own) reqs)) has) ∙ whole in absurd (cc)
    step (Some text) has others =
        subst Goal (sym has)
        (λ there. (
          record { called = refl; text = text; is = has; leads = leads texts text there.0 },
          others (sym (ap (λ (found : Option (List ℕ)). cond (is_none found) (Some req) (find (lacks by own) reqs)) has) ∙ whole) there.1,
        ))
        there

-- ---- crates

abbrev AreWhole : TextSources → List NoticedCrate → Type 0
AreWhole by [] = Unit {0}
AreWhole by (one ∷ crates) = (find (lacks by one.own) (used_terms one) ≡ None) × AreWhole by crates

none_both : {A : Type 0} (one other : Option A) → option_or one other ≡ None → (one ≡ None) × (other ≡ None)
none_both None other both = (refl, both)
none_both (Some x) other both = absurd (cc)

none_mapped : {A B : Type 0} (f : A → B) (found : Option A) → option_map f found ≡ None → found ≡ None
none_mapped f None none = refl
none_mapped f (Some x) none = absurd (cc)

whole_crates : (by : TextSources) (crates : List NoticedCrate) → first_missing by crates ≡ None → AreWhole by (accepted_in crates)
whole_crates by [] whole = tt
whole_crates by (one ∷ crates) whole = step (is_accepted one.verdict) refl (whole_crates by crates both.1)
  where
    both : (missing_of by one ≡ None) × (first_missing by crates ≡ None)
    both = none_both (missing_of by one) (first_missing by crates) whole

    step : (accepted : Bool) → is_accepted one.verdict ≡ accepted → AreWhole by (accepted_in crates) → AreWhole by (accepted_in (one ∷ crates))
    step true accepted rest =
        subst (λ b. AreWhole by (cond b (one ∷ accepted_in crates) (accepted_in crates))) (sym accepted)
        (none_mapped key_of (find (lacks by one.own) (used_terms one)) (none_mapped (λ (key : List ℕ). record { id = one.krate.id; key = key }) (option_map key_of (find (lacks by one.own) (used_terms one))) both.0), rest)
    step false accepted rest = subst (λ b. AreWhole by (cond b (one ∷ accepted_in crates) (accepted_in crates))) (sym accepted) rest

there_parts : (texts : List (List ℕ)) (cites more : List Cite) → AreThere texts (cites ++ more) → AreThere texts cites × AreThere texts more
there_parts texts [] more there = (tt, there)
there_parts texts (cite ∷ cites) more there = let parts = there_parts texts cites more there.1 in ((there.0, parts.0), parts.1)

crates_told : (by : TextSources) (texts : List (List ℕ)) (crates : List NoticedCrate) → AreWhole by crates → AreThere texts (flat_map (cites_of by) crates)
    → AllZip (TellsCrate by texts) crates (map (told_of by texts) crates)
crates_told by texts [] whole there = tt
crates_told by texts (one ∷ crates) whole there =
    let parts = there_parts texts (cites_of by one) (flat_map (cites_of by) crates) there in
    (record { id = refl; terms = terms_cited by one.own texts (used_terms one) whole.0 parts.0 }, crates_told by texts crates whole.1 parts.1)

-- ---- no text is there twice

abbrev Apart : List (List ℕ) → Type 0
Apart [] = Unit {0}
Apart (x ∷ xs) = (has_text xs x ≡ false) × Apart xs

or_parts : (a b : Bool) → (a || b) ≡ false → (a ≡ false) × (b ≡ false)
or_parts true b none = absurd (cc)
or_parts false b none = (refl, none)

has_behind : (xs : List (List ℕ)) (y text : List ℕ) → has_text xs text ≡ false → bytes_eq y text ≡ false → has_text (xs ++ y ∷ []) text ≡ false
has_behind [] y text none last = ap (λ b. b || false) last
has_behind (x ∷ xs) y text none last =
    let parts = or_parts (bytes_eq x text) (has_text xs text) none in
    ap (λ b. b || has_text (xs ++ y ∷ []) text) parts.0 ∙ has_behind xs y text parts.1 last

apart_behind : (xs : List (List ℕ)) (y : List ℕ) → Apart xs → has_text xs y ≡ false → Apart (xs ++ y ∷ [])
apart_behind [] y apart none = (refl, tt)
apart_behind (x ∷ xs) y apart none =
    let parts = or_parts (bytes_eq x y) (has_text xs y) none in
    (has_behind xs y x apart.0 (swapped y x ∙ parts.0), apart_behind xs y apart.1 parts.1)

apart_with : (texts : List (List ℕ)) (text : List ℕ) → Apart texts → Apart (with_text texts text)
apart_with texts text apart = by (has_text texts text) refl
  where
    by : (b : Bool) → has_text texts text ≡ b → Apart (cond (has_text texts text) texts (texts ++ text ∷ []))
    by true there = subst (λ b. Apart (cond b texts (texts ++ text ∷ []))) (sym there) apart
    by false there = subst (λ b. Apart (cond b texts (texts ++ text ∷ []))) (sym there) (apart_behind texts text apart there)

apart_all : (texts more : List (List ℕ)) → Apart texts → Apart (fold with_text texts more)
apart_all texts [] apart = apart
apart_all texts (text ∷ more) apart = apart_all (with_text texts text) more (apart_with texts text apart)

same_some : {A : Type 0} {x y : A} → Some x ≡ Some y → x ≡ y
same_some e = cc

at_has : (texts : List (List ℕ)) (place : ℕ) (text : List ℕ) → slice_get texts place ≡ Some text → has_text texts text ≡ true
at_has [] place text there = absurd (cc)
at_has (x ∷ xs) zero text there = ap (λ b. b || has_text xs text) (ap (λ one. bytes_eq one text) (same_some there) ∙ same_text text)
at_has (x ∷ xs) (suc place) text there = by (bytes_eq x text) refl (at_has xs place text there)
  where
    by : (b : Bool) → bytes_eq x text ≡ b → has_text xs text ≡ true → (bytes_eq x text || has_text xs text) ≡ true
    by true here rest = ap (λ b. b || has_text xs text) here
    by false here rest = ap (λ b. b || has_text xs text) here ∙ rest

-- what is behind the first is another text
other_first : (x : List ℕ) (xs : List (List ℕ)) (place : ℕ) (text : List ℕ) → has_text xs x ≡ false → slice_get xs place ≡ Some text → bytes_eq x text ≡ false
other_first x xs place text apart there = by (bytes_eq x text) refl
  where
    by : (b : Bool) → bytes_eq x text ≡ b → bytes_eq x text ≡ false
    by true here =
        let never : true ≡ false = sym (at_has xs place text there) ∙ sym (ap (has_text xs) ((bytes_eq-Decides x text).0 here)) ∙ apart in absurd (cc)
    by false here = here

-- so a text is at its first place
at_first : (texts : List (List ℕ)) (place : ℕ) (text : List ℕ) → Apart texts → slice_get texts place ≡ Some text → position_or_len (λ one. bytes_eq one text) texts ≡ place
at_first [] place text apart there = absurd (cc)
at_first (x ∷ xs) zero text apart there = ap (λ b. cond (not b) (1 + position_or_len (λ one. bytes_eq one text) xs) 0) (ap (λ one. bytes_eq one text) (same_some there) ∙ same_text text)
at_first (x ∷ xs) (suc place) text apart there =
    let so_far = at_first xs place text apart.1 there in
    ap (λ b. cond (not b) (1 + position_or_len (λ one. bytes_eq one text) xs) 0) (other_first x xs place text apart.0 there) ∙ omega (arith, so_far)

distinct : (texts : List (List ℕ)) → Apart texts → AreDistinct texts
distinct texts apart one other text there again = sym (at_first texts one text apart there) ∙ at_first texts other text apart again

-- ---- each is cited

any_here : {A : Type 0} (P : A → Type 0) (x : A) (xs : List A) → P x → Any P (x ∷ xs)
any_here P x xs is = (0, x, omega arith, refl, is)

any_more : {A : Type 0} (P : A → Type 0) (x : A) (xs : List A) → Any P xs → Any P (x ∷ xs)
any_more P x xs some = (suc some.0, some.1, (let less = some.2 in omega (arith, less)), some.3, some.4)

or_later : (a b : Bool) → b ≡ true → (a || b) ≡ true
or_later true b there = refl
or_later false b there = there

or_first : (a none more : Bool) → (a || none) ≡ true → (none ≡ true → (a || more) ≡ true) → (a || more) ≡ true
or_first true none more some never = refl
or_first false none more some never = never some

or_true : (a b : Bool) → (a || b) ≡ true → (a ≡ true) ⊎ (b ≡ true)
or_true true b some = inl refl
or_true false b some = inr some

has_parts : (xs ys : List (List ℕ)) (text : List ℕ) → has_text (xs ++ ys) text ≡ true → (has_text xs text ≡ true) ⊎ (has_text ys text ≡ true)
has_parts [] ys text some = inr some
has_parts (x ∷ xs) ys text some = by (or_true (bytes_eq x text) (has_text (xs ++ ys) text) some) (has_parts xs ys text)
  where
    more : (has_text xs text ≡ true) ⊎ (has_text ys text ≡ true) → (has_text (x ∷ xs) text ≡ true) ⊎ (has_text ys text ≡ true)
    more (inl there) = inl (or_later (bytes_eq x text) (has_text xs text) there)
    more (inr there) = inr there

    by : (bytes_eq x text ≡ true) ⊎ (has_text (xs ++ ys) text ≡ true) → (has_text (xs ++ ys) text ≡ true → (has_text xs text ≡ true) ⊎ (has_text ys text ≡ true))
        → (has_text (x ∷ xs) text ≡ true) ⊎ (has_text ys text ≡ true)
    by (inl here) rest = inl (ap (λ b. b || has_text xs text) here)
    by (inr there) rest = more (rest there)

-- what is among texts with further ones was there, or came
came_from : (texts more : List (List ℕ)) (text : List ℕ) → has_text (fold with_text texts more) text ≡ true → (has_text texts text ≡ true) ⊎ (has_text more text ≡ true)
came_from texts [] text there = inl there
came_from texts (one ∷ more) text there = by (came_from (with_text texts one) more text there)
  where
    last : has_text (texts ++ one ∷ []) text ≡ true → (has_text texts text ≡ true) ⊎ (has_text (one ∷ more) text ≡ true)
    last some = cases (has_parts texts (one ∷ []) text some)
      where
        cases : (has_text texts text ≡ true) ⊎ (has_text (one ∷ []) text ≡ true) → (has_text texts text ≡ true) ⊎ (has_text (one ∷ more) text ≡ true)
        cases (inl there) = inl there
        cases (inr here) = inr (or_first (bytes_eq one text) false (has_text more text) here (λ never. absurd (cc)))

    with_one : (b : Bool) → has_text texts one ≡ b → has_text (cond (has_text texts one) texts (texts ++ one ∷ [])) text ≡ true → (has_text texts text ≡ true) ⊎ (has_text (one ∷ more) text ≡ true)
    with_one true known there = inl (sym (ap (λ b. has_text (cond b texts (texts ++ one ∷ [])) text) known) ∙ there)
    with_one false new there = last (sym (ap (λ b. has_text (cond b texts (texts ++ one ∷ [])) text) new) ∙ there)

    by : (has_text (with_text texts one) text ≡ true) ⊎ (has_text more text ≡ true) → (has_text texts text ≡ true) ⊎ (has_text (one ∷ more) text ≡ true)
    by (inl there) = with_one (has_text texts one) refl there
    by (inr there) = inr (or_later (bytes_eq one text) (has_text more text) there)

key_cites : (texts : List (List ℕ)) (text : List ℕ) (cites : List Cite) → has_text (map text_in cites) text ≡ true → Any (λ (key : KeyNumber). key.number ≡ number_in texts text) (map (numbered texts) cites)
key_cites texts text [] some = absurd (cc)
key_cites texts text (cite ∷ cites) some = by (or_true (bytes_eq cite.text text) (has_text (map text_in cites) text) some) (key_cites texts text cites)
  where
    P : KeyNumber → Type 0
    P key = key.number ≡ number_in texts text

    by : (bytes_eq cite.text text ≡ true) ⊎ (has_text (map text_in cites) text ≡ true) → (has_text (map text_in cites) text ≡ true → Any P (map (numbered texts) cites)) → Any P (map (numbered texts) (cite ∷ cites))
    by (inl here) rest = any_here P (numbered texts cite) (map (numbered texts) cites) (ap (number_in texts) ((bytes_eq-Decides cite.text text).0 here))
    by (inr there) rest = any_more P (numbered texts cite) (map (numbered texts) cites) (rest there)

crate_cites : (by : TextSources) (texts : List (List ℕ)) (text : List ℕ) (crates : List NoticedCrate) → has_text (uses_of by crates) text ≡ true → IsCited (map (told_of by texts) crates) (number_in texts text)
crate_cites by texts text [] some = absurd (cc)
crate_cites by texts text (one ∷ crates) some =
    step (has_parts (map text_in (cites_of by one)) (uses_of by crates) text (sym (ap (λ uses. has_text uses text) (map-append text_in (cites_of by one) (flat_map (cites_of by) crates))) ∙ some)) (crate_cites by texts text crates)
  where
    P : NoticeCrate → Type 0
    P told = Any (λ (key : KeyNumber). key.number ≡ number_in texts text) told.keys

    step : (has_text (map text_in (cites_of by one)) text ≡ true) ⊎ (has_text (uses_of by crates) text ≡ true) → (has_text (uses_of by crates) text ≡ true → Any P (map (told_of by texts) crates))
        → Any P (map (told_of by texts) (one ∷ crates))
    step (inl here) rest = any_here P (told_of by texts one) (map (told_of by texts) crates) (key_cites texts text (cites_of by one) here)
    step (inr there) rest = any_more P (told_of by texts one) (map (told_of by texts) crates) (rest there)

get_some : (texts : List (List ℕ)) (place : ℕ) → place < length texts → (text : List ℕ) × (slice_get texts place ≡ Some text)
get_some [] place within = absurd (omega (arith, within))
get_some (x ∷ xs) zero within = (x, refl)
get_some (x ∷ xs) (suc place) within = get_some xs place (omega (arith, within))

cited : (by : TextSources) (crates : List NoticedCrate) (place : ℕ) → place < length (fold with_text [] (uses_of by crates))
    → IsCited (map (told_of by (fold with_text [] (uses_of by crates))) crates) (place + 1)
cited by crates place within =
    let texts = fold with_text [] (uses_of by crates) in
    let at = get_some texts place within in
    let number : number_in texts at.0 ≡ place + 1 = ap (λ n. n + 1) (at_first texts place at.0 (apart_all [] (uses_of by crates) tt) at.1) in
    subst (IsCited (map (told_of by texts) crates)) number (crate_cites by texts at.0 crates (used at.0 (came_from [] (uses_of by crates) at.0 (at_has texts place at.0 at.1))))
  where
    used : (text : List ℕ) → (has_text [] text ≡ true) ⊎ (has_text (uses_of by crates) text ≡ true) → has_text (uses_of by crates) text ≡ true
    used text (inl never) = absurd (cc)
    used text (inr there) = there

-- ---- the law

pub notices_lead : NoticesLead
notices_lead by crates whole =
    let accepted = accepted_in crates in
    let texts = texts_of by crates in
    record {
      told = crates_told by texts accepted (whole_crates by crates whole) (are_there [] (flat_map (cites_of by) accepted));
      distinct = distinct texts (apart_all [] (uses_of by accepted) tt);
      cited = cited by accepted;
    }
