-- How far the lines of a text were read.
use Rattle.std.proofs.Common.{◌≡◌, ◌<◌, ◌≤◌, ◌+◌, ℕ, Bool, true, false, cond, List, [], ◌∷◌, ◌++◌, append_assoc, length, length-append, Some, None, refl, sym, ap, subst, ◌∙◌, arith}
use Rattle.std.specs.Str.{IsUtf8, is_utf8}
use Rattle.std.proofs.lemmas.Str.{IsUtf8-from_is_utf8, is_utf8-from_IsUtf8}
use Rattle.std.specs.Str.Lossy.{utf8_valid_len}
use Rattle.spdx_terms.specs.catalog.Catalog.{CatalogLists}
use Rattle.spdx_terms.specs.catalog.TextWords.{is_line_end, has_some}
use Rattle.spdx_own_names.specs.File.{fault_behind, fault_in, first_fault, has_fault, line_at, lines_of, lists_of, catalog_of, unless_fault, TellsFault, TellsLine}
use Rattle.spdx_own_names.specs.Form.{nothing, form_of}
use Rattle.spdx_own_names.specs.ListsView.{no_lists, with_form}
use Rattle.spdx_own_names.specs.declared.error.ListingError.{ListingError}
use Rattle.spdx_own_names.specs.declared.error.ListingError.TheVariants.{Syntax, Memory}
use Rattle.spdx_own_names.proofs.CutLemmas.{IsCut, some_piece}
use Rattle.spdx_own_names.proofs.ListsLemmas.{lists_of-nil, lists_of-push}

-- These lines were read and have no fault, and this is what they list: the first fault of the text is that of the rest behind them.
pub record IsReadTo (names : List (List ℕ)) (text rest : List ℕ) (lists : CatalogLists) (before : ℕ) : Type 0 where
  pub lines : List (List ℕ)
  pub listed : lists ≡ lists_of lines
  pub whole : lines_of text ≡ lines ++ lines_of rest
  pub faults : fault_behind names [] (lines_of text) ≡ fault_behind names lines (lines_of rest)
  pub counts : before ≡ length lines
  pub room : before + length rest ≤ length text

pub read_none : (names : List (List ℕ)) (text : List ℕ) (lists : CatalogLists) → lists ≡ no_lists → IsReadTo names text text lists 0
read_none names text lists none = record {
  lines = [];
  listed = none ∙ sym lists_of-nil;
  whole = refl;
  faults = refl;
  counts = refl;
  room = omega arith;
}

-- the fault of a line that others follow
fault_here : (names lines : List (List ℕ)) (line : List ℕ) (more : List (List ℕ)) (first : List ℕ) (others : List (List ℕ)) → more ≡ first ∷ others
    → fault_behind names lines (line ∷ more) ≡ cond (has_fault names (lists_of lines) (form_of line)) (Some (length lines + 1)) (fault_behind names (lines ++ line ∷ []) more)
fault_here names lines line more first others is =
    subst (λ (those : List (List ℕ)). fault_behind names lines (line ∷ those) ≡ cond (has_fault names (lists_of lines) (form_of line)) (Some (length lines + 1)) (fault_behind names (lines ++ line ∷ []) those)) (sym is) refl

module _ {names : List (List ℕ)} {text rest : List ℕ} {lists : CatalogLists} {before : ℕ} (line behind : List ℕ) (to : IsReadTo names text rest lists before) (cut : IsCut is_line_end rest line behind) where
  fault_next : fault_behind names [] (lines_of text)
      ≡ cond (has_fault names (lists_of to.lines) (form_of line)) (Some (length to.lines + 1)) (fault_behind names (to.lines ++ line ∷ []) (lines_of behind))
  fault_next =
      let some = some_piece is_line_end behind in
      to.faults ∙ ap (fault_behind names to.lines) cut.pieces ∙ fault_here names to.lines line (lines_of behind) some.0 some.1.0 some.1.1

  -- the next line has a fault
  pub read_fault : has_fault names lists (form_of line) ≡ true → fault_behind names [] (lines_of text) ≡ Some (before + 1)
  read_fault is =
      fault_next
      ∙ ap (λ b. cond b (Some (length to.lines + 1)) (fault_behind names (to.lines ++ line ∷ []) (lines_of behind))) (ap (λ l. has_fault names l (form_of line)) (sym to.listed) ∙ is)
      ∙ ap (λ n. Some (n + 1)) (sym to.counts)

  pub read_told : (error : ListingError) → TellsLine (has_fault names lists (form_of line)) before error → TellsFault (fault_behind names [] (lines_of text)) error
  read_told (Syntax number) tells = read_fault tells.0 ∙ ap Some (sym tells.1)
  read_told Memory tells = tt

  -- it has none
  pub read_on : (new : CatalogLists) → has_fault names lists (form_of line) ≡ false → new ≡ with_form lists (form_of line) → IsReadTo names text behind new (before + 1)
  read_on new is added = record {
    lines = to.lines ++ line ∷ [];
    listed = added ∙ ap (λ l. with_form l (form_of line)) to.listed ∙ sym (lists_of-push to.lines line);
    whole = to.whole ∙ ap (λ lines. to.lines ++ lines) cut.pieces ∙ sym (append_assoc to.lines (line ∷ []) (lines_of behind));
    faults = fault_next
        ∙ ap (λ b. cond b (Some (length to.lines + 1)) (fault_behind names (to.lines ++ line ∷ []) (lines_of behind))) (ap (λ l. has_fault names l (form_of line)) (sym to.listed) ∙ is);
    counts = ap (λ n. n + 1) to.counts ∙ sym (length-append to.lines (line ∷ []));
    room = let less = cut.shorter in let fits = to.room in omega arith;
  }

nothing_said : form_of [] ≡ Some nothing
unfolding form_of
nothing_said = refl

nothing_more : (lines : List (List ℕ)) (bytes : List ℕ) → bytes ≡ [] → lists_of (lines ++ bytes ∷ []) ≡ lists_of lines
nothing_more lines bytes is = lists_of-push lines bytes ∙ ap (λ (line : List ℕ). with_form (lists_of lines) (form_of line)) is ∙ ap (with_form (lists_of lines)) nothing_said

has_one : (bytes : List ℕ) → 0 < length bytes → has_some bytes ≡ true
has_one [] some = absurd (omega arith)
has_one (byte ∷ bytes) some = refl

no_more : (bytes : List ℕ) → length bytes ≡ 0 → bytes ≡ []
no_more [] none = refl
no_more (byte ∷ bytes) none = absurd (omega arith)

module _ {names : List (List ℕ)} {text rest : List ℕ} {lists : CatalogLists} {before : ℕ} (to : IsReadTo names text rest lists before) (end : lines_of rest ≡ rest ∷ []) where
  fault_last : fault_behind names [] (lines_of text) ≡ cond (has_some rest) (Some (length to.lines + 1)) None
  fault_last = to.faults ∙ ap (fault_behind names to.lines) end

  -- the last line has no end
  pub read_unended : 0 < length rest → fault_behind names [] (lines_of text) ≡ Some (before + 1)
  read_unended some = fault_last ∙ ap (λ b. cond b (Some (length to.lines + 1)) None) (has_one rest some) ∙ ap (λ n. Some (n + 1)) (sym to.counts)

  -- nothing follows the last line feed
  pub read_ended : length rest ≡ 0 → (fault_behind names [] (lines_of text) ≡ None) × (lists ≡ lists_of (lines_of text))
  read_ended none =
      let empty = no_more rest none in (
        fault_last ∙ ap (λ bytes. cond (has_some bytes) (Some (length to.lines + 1)) None) empty,
        to.listed ∙ sym (nothing_more to.lines rest empty) ∙ ap lists_of (ap (λ lines. to.lines ++ lines) (sym end) ∙ sym to.whole),
      )

-- ---- by the bytes

pub fault_of_text : (bytes : List ℕ) → is_utf8 bytes ≡ true → first_fault bytes ≡ fault_in (lines_of bytes)
unfolding first_fault
fault_of_text bytes is = ap (λ b. cond b (fault_in (lines_of bytes)) (Some (line_at bytes (utf8_valid_len bytes)))) is

pub fault_of_bytes : (bytes : List ℕ) → is_utf8 bytes ≡ false → first_fault bytes ≡ Some (line_at bytes (utf8_valid_len bytes))
unfolding first_fault
fault_of_bytes bytes is = ap (λ b. cond b (fault_in (lines_of bytes)) (Some (line_at bytes (utf8_valid_len bytes)))) is

pub catalog_is : (bytes : List ℕ) (lists : CatalogLists) → first_fault bytes ≡ None → lists ≡ lists_of (lines_of bytes) → catalog_of bytes ≡ Some lists
catalog_is bytes lists none is = ap (λ fault. unless_fault fault (lists_of (lines_of bytes))) none ∙ ap Some (sym is)

not_true : (b : Bool) → ¬ (b ≡ true) → b ≡ false
not_true true fails = absurd (fails refl)
not_true false fails = refl

-- a text has the faults of its bytes
pub text_fault : (bytes text : List ℕ) → text ≡ bytes → IsUtf8 bytes → fault_in (lines_of text) ≡ first_fault bytes
text_fault bytes text same utf8 = ap (λ (those : List ℕ). fault_in (lines_of those)) same ∙ sym (fault_of_text bytes (is_utf8-from_IsUtf8 bytes utf8))

pub text_catalog : (bytes text : List ℕ) (lists : CatalogLists) → text ≡ bytes → IsUtf8 bytes → fault_in (lines_of text) ≡ None → lists ≡ lists_of (lines_of text) → catalog_of bytes ≡ Some lists
text_catalog bytes text lists same utf8 none is =
    catalog_is bytes lists (sym (text_fault bytes text same utf8) ∙ none) (is ∙ ap (λ (those : List ℕ). lists_of (lines_of those)) same)

-- bytes that are no text
pub bytes_fault : (bytes : List ℕ) (place number : ℕ) → ¬ (IsUtf8 bytes) → place ≡ utf8_valid_len bytes → number ≡ line_at bytes place → first_fault bytes ≡ Some number
bytes_fault bytes place number bad there is =
    fault_of_bytes bytes (not_true (is_utf8 bytes) (λ holds. bad (IsUtf8-from_is_utf8 bytes holds))) ∙ ap (λ (n : ℕ). Some (line_at bytes n)) (sym there) ∙ ap (λ (n : ℕ). Some n) (sym is)
