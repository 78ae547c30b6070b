-- Texts that are cut at the first of some bytes, and the pieces between those bytes.
use Rattle.std.proofs.Common.{◌≡◌, ◌<◌, ◌≤◌, ◌+◌, ◌-◌, ℕ, suc, nat_lt, Bool, true, false, not, cond, List, [], ◌∷◌, length, Option, Some, None, refl, sym, ap, ◌∙◌, arith}
use Rattle.std.proofs.lemmas.Bool.{ltb-false, ltb-true}
use Rattle.std.proofs.Common.{length-drop, take_all}
use Rattle.std.proofs.lemmas.List.Splits.{slice_split_first, slice_split-cons_no}
use Rattle.std.specs.List.{slice_split, onto_first, position_or_len, before_first, after_first}
use Rattle.deny_text.specs.Cut.{cut_at}

-- a text is cut there: its first piece, and the pieces of what is behind
pub record IsCut (p : ℕ → Bool) (text before behind : List ℕ) : Type 0 where
  pub pieces : slice_split p text ≡ before ∷ slice_split p behind
  pub shorter : length behind < length text

abbrev cut_if : Bool → List ℕ → List ℕ → Option (List ℕ × List ℕ)
cut_if within before behind = cond within (Some (before, behind)) None

abbrev front_of : Option (List ℕ × List ℕ) → List ℕ
front_of None = []
front_of (Some cut) = cut.0

abbrev back_of : Option (List ℕ × List ℕ) → List ℕ
back_of None = []
back_of (Some cut) = cut.1

cut_some : (p : ℕ → Bool) (text before behind : List ℕ) (within : Bool) → nat_lt (position_or_len p text) (length text) ≡ within
    → cut_if within (before_first p text) (after_first p text) ≡ Some (before, behind) → IsCut p text before behind
cut_some p text before behind true e is =
    let inside : position_or_len p text < length text = ltb-true (position_or_len p text) (length text) e in
    let front : before_first p text ≡ before = ap front_of is in
    let back : after_first p text ≡ behind = ap back_of is in
    let long : length behind ≡ length text - (position_or_len p text + 1) = ap (λ (bytes : List ℕ). length bytes) (sym back) ∙ length-drop (position_or_len p text + 1) text in
    record {
      pieces = slice_split_first p text 0 inside ∙ ap (λ piece. piece ∷ slice_split p (after_first p text)) front ∙ ap (λ rest. before ∷ slice_split p rest) back;
      shorter = omega arith;
    }
cut_some p text before behind false e is = absurd (cc)

pub cut_is : (p : ℕ → Bool) (text before behind : List ℕ) → cut_at p text ≡ Some (before, behind) → IsCut p text before behind
cut_is p text before behind is = cut_some p text before behind (nat_lt (position_or_len p text) (length text)) refl is

-- where there is no such byte, the text is one piece
one_piece : (p : ℕ → Bool) (text : List ℕ) → length text ≤ position_or_len p text → slice_split p text ≡ text ∷ []
one_piece p [] none = refl
one_piece p (byte ∷ text) none = by (p byte) refl none (one_piece p text)
  where
    by : (b : Bool) → p byte ≡ b → suc (length text) ≤ cond (not b) (1 + position_or_len p text) 0 → (length text ≤ position_or_len p text → slice_split p text ≡ text ∷ []) → slice_split p (byte ∷ text) ≡ (byte ∷ text) ∷ []
    by true is less rest = absurd (omega arith)
    by false is less rest = slice_split-cons_no p byte text is ∙ ap (onto_first byte) (rest (omega arith))

cut_none : (p : ℕ → Bool) (text : List ℕ) (within : Bool) → nat_lt (position_or_len p text) (length text) ≡ within
    → cut_if within (before_first p text) (after_first p text) ≡ None → length text ≤ position_or_len p text
cut_none p text true e is = absurd (cc)
cut_none p text false e is = ltb-false (position_or_len p text) (length text) e

none_there : (p : ℕ → Bool) (text : List ℕ) → cut_at p text ≡ None → length text ≤ position_or_len p text
none_there p text is = cut_none p text (nat_lt (position_or_len p text) (length text)) refl is

pub uncut : (p : ℕ → Bool) (text : List ℕ) → cut_at p text ≡ None → slice_split p text ≡ text ∷ []
uncut p text is = one_piece p text (none_there p text is)

-- what is before the first such byte: all, where there is none
pub before_uncut : (p : ℕ → Bool) (text : List ℕ) → cut_at p text ≡ None → before_first p text ≡ text
before_uncut p text is = take_all (position_or_len p text) text (none_there p text is)

before_some : (within : Bool) (front back before behind : List ℕ) → cut_if within front back ≡ Some (before, behind) → front ≡ before
before_some true front back before behind is = ap front_of is
before_some false front back before behind is = absurd (cc)

pub before_cut : (p : ℕ → Bool) (text before behind : List ℕ) → cut_at p text ≡ Some (before, behind) → before_first p text ≡ before
before_cut p text before behind is = before_some (nat_lt (position_or_len p text) (length text)) (before_first p text) (after_first p text) before behind is

-- there is always a piece
pub some_piece : (p : ℕ → Bool) (text : List ℕ) → (first : List ℕ) × ((rest : List (List ℕ)) × (slice_split p text ≡ first ∷ rest))
some_piece p [] = ([], ([], refl))
some_piece p (byte ∷ text) = by (p byte) refl (some_piece p text)
  where
    by : (b : Bool) → p byte ≡ b → ((first : List ℕ) × ((rest : List (List ℕ)) × (slice_split p text ≡ first ∷ rest)))
        → (first : List ℕ) × ((rest : List (List ℕ)) × (slice_split p (byte ∷ text) ≡ first ∷ rest))
    by true is some = ([], (slice_split p text, ap (λ b. cond b ([] ∷ slice_split p text) (onto_first byte (slice_split p text))) is))
    by false is some =
        (byte ∷ some.0, (some.1.0, ap (λ b. cond b ([] ∷ slice_split p text) (onto_first byte (slice_split p text))) is ∙ ap (onto_first byte) some.1.1))
