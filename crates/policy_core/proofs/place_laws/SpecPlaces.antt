-- Package specs keep places.
use Rattle.std.proofs.Common.{◌≡◌, ◌∙◌, refl, sym, subst, ap, ℕ, Bool, true, false, cond, ◌+◌, ◌-◌, ◌<◌, List, length, drop, Option, Some, None, Ok, Err, arith}
use Rattle.std.specs.Prelude.{⊤, codes, nat_lt, option_map, Result, slice_range}
use Rattle.std.specs.List.{position_or_len, before_first, after_first}
use Rattle.std.specs.Str.{IsUtf8, IsCharBoundary}
use Rattle.std.proofs.lemmas.Bool.{ltb-true, eqb-true}
use Rattle.std.proofs.lemmas.List.{length-drop}
use Rattle.deny_text.specs.declared.span.Span.{Span}
use Rattle.deny_text.specs.declared.span.Spanned.{Spanned}
use Rattle.semver.specs.Parse.{Held, req_of}
use Rattle.semver.specs.declared.error.Error.{Error}
use Rattle.deny_text.specs.Spans.{LiesBetween}
use Rattle.toml_subset.specs.text_laws.Placed.{IsSpelled, IsPlaced, IsContentPlaced, AreEntriesPlaced}
use Rattle.toml_subset.specs.Data.{TomlContent, Entries, Toml, string, integer, decimal, boolean, array, table}
use Rattle.toml_subset.specs.Written.{WrittenString}
use Rattle.toml_value.specs.Lookup.{value_at}
use Rattle.toml_value.specs.Taken.{string_of}
use Rattle.policy_toml.specs.Readings.{text_of, spanned_of}
use Rattle.policy_core.specs.place_laws.Places.{StaysIn, KeepsPlacesIn, keeps_nothing, keeps_its_span}
use Rattle.policy_core.proofs.place_laws.PlaceLemmas.{IsPlacedWhere, map_stays, then_stays, text_stays, spanned_stays, found_placed, without_placed}
use Rattle.deny_text.specs.Cut.{cut_at, is_at_sign, is_colon}
use Rattle.policy_parts.specs.spec.Grammar.{Split, or_at_colon, split_by, split_of, exact_first_where, requirement_at, end_of, rest_span, spec_of_split, spec_of_string}
use Rattle.policy_parts.specs.spec.Reading.{string_spec, requirement_of, with_version, named_spec, table_spec_by, entries_left_by, spec_of, rest_of_spec}
use Rattle.policy_core.specs.place_laws.Entries.{spec_keeps}
use Rattle.policy_core.proofs.place_laws.Borders.{part_is_text, part_length, inner_border, behind_first}

-- ---- strings

abbrev pub keeps_spelling : Span → List ℕ → WrittenString → Type 0
keeps_spelling span text written = IsSpelled text span written

string_by : (text expected : List ℕ) (span : Span) (content : TomlContent) → LiesBetween text span → IsContentPlaced text span content
    → StaysIn (keeps_spelling span) text (string_of expected (record { content = content; span = span }))
string_by text expected span (string w) lies placed = placed
string_by text expected span (integer z) lies placed = (lies, tt)
string_by text expected span (decimal z) lies placed = (lies, tt)
string_by text expected span (boolean b) lies placed = (lies, tt)
string_by text expected span (array items) lies placed = (lies, tt)
string_by text expected span (table entries) lies placed = (lies, tt)

-- a string that is taken out is spelled at the place of its value
pub spelled_string : (text expected : List ℕ) (value : Toml) → IsPlaced text value → StaysIn (keeps_spelling value.span) text (string_of expected value)
spelled_string text expected value placed = string_by text expected value.span value.content placed.0 placed.1

-- ---- the part behind the split

-- it is what is behind a border of the string
abbrev CutStands : List ℕ → Option (List ℕ × List ℕ) → Type 0
CutStands said None = ⊤
CutStands said (Some cut) = (i : ℕ) × IsCharBoundary said i × (cut.1 ≡ drop i said)

abbrev SplitStands : List ℕ → Option Split → Type 0
SplitStands said None = ⊤
SplitStands said (Some split) = (i : ℕ) × IsCharBoundary said i × (split.rest ≡ drop i said)

cut_stands : (said : List ℕ) (is_mark : ℕ → Bool) → ((c : ℕ) → is_mark c ≡ true → c < 128) → IsUtf8 said → CutStands said (cut_at is_mark said)
cut_stands said is_mark low utf8 =
    elim (nat_lt (position_or_len is_mark said) (length said)) as (λ b. nat_lt (position_or_len is_mark said) (length said) ≡ b
    → CutStands said (cond b (Some (before_first is_mark said, after_first is_mark said)) None)) [
      | true ↦ λ found. (position_or_len is_mark said + 1, behind_first said is_mark low utf8 (ltb-true (position_or_len is_mark said) (length said) found), refl)
      | false ↦ λ e. tt
    ] refl

at_sign_low : (c : ℕ) → is_at_sign c ≡ true → c < 128
at_sign_low c is = let e = eqb-true c 64 is in omega arith

colon_low : (c : ℕ) → is_colon c ≡ true → c < 128
colon_low c is = let e = eqb-true c 58 is in omega arith

at_colon : (said : List ℕ) (cut : Option (List ℕ × List ℕ)) → CutStands said cut → SplitStands said (option_map (split_by false) cut)
at_colon said None stands = tt
at_colon said (Some cut) stands = stands

split_by_cut : (said : List ℕ) (cut : Option (List ℕ × List ℕ)) → IsUtf8 said → CutStands said cut → SplitStands said (or_at_colon said cut)
split_by_cut said None utf8 stands = at_colon said (cut_at is_colon said) (cut_stands said is_colon colon_low utf8)
split_by_cut said (Some cut) utf8 stands = stands

split_stands : (said : List ℕ) → IsUtf8 said → SplitStands said (split_of said)
split_stands said utf8 = split_by_cut said (cut_at is_at_sign said) utf8 (cut_stands said is_at_sign at_sign_low utf8)

module _ (text : List ℕ) (utf8 : IsUtf8 text) where
  -- as many bytes at the end of a place as are behind a border
  end_lies : (span : Span) (rest : List ℕ) → LiesBetween text span → (i : ℕ) → IsCharBoundary (slice_range text span.start span.end) i
      → rest ≡ drop i (slice_range text span.start span.end) → LiesBetween text (end_of span rest)
  end_lies span rest lies i border is =
      let len = part_length text span lies in
      let behind : length rest ≡ length (slice_range text span.start span.end) - i = ap length is ∙ length-drop i (slice_range text span.start span.end) in
      let low = border.0 in
      let ordered = lies.ordered in
      let place : span.start + i ≡ span.end - length rest = omega arith in
      record {
        ordered = omega arith;
        start_border = subst (IsCharBoundary text) place (inner_border text span lies i border);
        end_border = lies.end_border;
      }

  plain_rest : (written : WrittenString) (span : Span) (rest : List ℕ) → LiesBetween text span → written.text ≡ slice_range text span.start span.end
      → (i : ℕ) × IsCharBoundary written.text i × (rest ≡ drop i written.text) → LiesBetween text (end_of span rest)
  plain_rest written span rest lies spelled stands =
      end_lies span rest lies stands.0 (subst (λ (s : List ℕ). IsCharBoundary s stands.0) spelled stands.1) (stands.2 ∙ ap (drop stands.0) spelled)

  rest_lies : (written : WrittenString) (span : Span) (rest : List ℕ) → LiesBetween text span → IsSpelled text span written
      → (written.escaped ≡ false → (i : ℕ) × IsCharBoundary written.text i × (rest ≡ drop i written.text)) → LiesBetween text (rest_span written span rest)
  rest_lies written span rest lies spelled stands =
      elim written.escaped as (λ b. written.escaped ≡ b → LiesBetween text (cond b span (end_of span rest))) [
        | true ↦ λ e. lies
        | false ↦ λ e. plain_rest written span rest lies (spelled e) (stands e)
      ] refl

  requirement_stays : (place : Span) (read : Result (List Held) Error) → LiesBetween text place → StaysIn keeps_nothing text (requirement_at place read)
  requirement_stays place (Ok comparators) lies = tt
  requirement_stays place (Err error) lies = (lies, tt)

  string_utf8 : (written : WrittenString) (span : Span) → LiesBetween text span → written.text ≡ slice_range text span.start span.end → IsUtf8 written.text
  string_utf8 written span lies spelled = subst IsUtf8 (sym spelled) (part_is_text text span utf8 lies)

  split_stays : (written : WrittenString) (span : Span) (split : Option Split) → LiesBetween text span → IsSpelled text span written
      → (written.escaped ≡ false → SplitStands written.text split) → StaysIn spec_keeps text (spec_of_split written span split)
  split_stays written span None lies spelled stands = lies
  split_stays written span (Some split) lies spelled stands =
      map_stays text keeps_nothing spec_keeps
      (λ (comparators : List Held). record { name = split.name; span = span; requirement = Some (exact_first_where split.exact comparators) })
      (requirement_at (rest_span written span split.rest) (req_of split.rest)) (λ comparators h. lies)
      (requirement_stays (rest_span written span split.rest) (req_of split.rest) (rest_lies written span split.rest lies spelled stands))

  spec_string_stays : (written : WrittenString) (span : Span) → LiesBetween text span → IsSpelled text span written → StaysIn spec_keeps text (spec_of_string written span)
  spec_string_stays written span lies spelled =
      split_stays written span (split_of written.text) lies spelled (λ plain. split_stands written.text (string_utf8 written span lies (spelled plain)))

  string_spec_stays : (wanted : List ℕ) → KeepsPlacesIn text spec_keeps (string_spec wanted)
  string_spec_stays wanted value placed =
      then_stays text (keeps_spelling value.span) spec_keeps (λ (written : WrittenString). spec_of_string written value.span) (string_of wanted value)
      (λ written spelled. spec_string_stays written value.span placed.0 spelled) (spelled_string text wanted value placed)

  -- ---- tables

  version_stays : KeepsPlacesIn text keeps_nothing requirement_of
  version_stays value placed =
      then_stays text keeps_nothing keeps_nothing (λ (said : List ℕ). requirement_at value.span (req_of said)) (text_of value)
      (λ said h. requirement_stays value.span (req_of said) placed.0) (text_stays text value placed)

  with_version_stays : (name : Spanned (List ℕ)) (version : Option Toml) → LiesBetween text name.span → IsPlacedWhere text version
      → StaysIn spec_keeps text (with_version name version)
  with_version_stays name None lies placed = lies
  with_version_stays name (Some version) lies placed =
      map_stays text keeps_nothing spec_keeps (λ (comparators : List Held). record { name = name.value; span = name.span; requirement = Some comparators })
      (requirement_of version) (λ comparators h. lies) (version_stays version placed)

  named_stays : (span : Span) (name version : Option Toml) → LiesBetween text span → IsPlacedWhere text name → IsPlacedWhere text version
      → StaysIn spec_keeps text (named_spec span name version)
  named_stays span None version lies placed there = (lies, tt)
  named_stays span (Some name) version lies placed there =
      then_stays text keeps_its_span spec_keeps (λ (said : Spanned (List ℕ)). with_version said version) (spanned_of text_of name)
      (λ said here. with_version_stays said version here there) (spanned_stays text keeps_nothing text_of (text_stays text) name placed)

  table_by : (entries : Entries) (span : Span) (written : Option Toml) → LiesBetween text span → AreEntriesPlaced text entries → IsPlacedWhere text written
      → StaysIn spec_keeps text (table_spec_by entries span written)
  table_by entries span (Some written) lies placed there = string_spec_stays (codes "a crate spec") written there
  table_by entries span None lies placed there =
      named_stays span (value_at (codes "name") entries) (value_at (codes "version") entries) lies (found_placed text (codes "name") entries placed)
      (found_placed text (codes "version") entries placed)

  spec_content : (span : Span) (content : TomlContent) → LiesBetween text span → IsContentPlaced text span content
      → StaysIn spec_keeps text (spec_of (record { content = content; span = span }))
  spec_content span (string w) lies placed = string_spec_stays (codes "a string or table") (record { content = string w; span = span }) (lies, placed)
  spec_content span (integer z) lies placed = (lies, tt)
  spec_content span (decimal z) lies placed = (lies, tt)
  spec_content span (boolean b) lies placed = (lies, tt)
  spec_content span (array items) lies placed = (lies, tt)
  spec_content span (table entries) lies placed =
      table_by entries span (value_at (codes "crate") entries) lies placed (found_placed text (codes "crate") entries placed)

  pub spec_stays : KeepsPlacesIn text spec_keeps spec_of
  spec_stays value placed = spec_content value.span value.content placed.0 placed.1

-- ---- what is left of a value

module _ (text : List ℕ) where
  left_placed : (b : Bool) (entries : Entries) → AreEntriesPlaced text entries → AreEntriesPlaced text (entries_left_by b entries)
  left_placed true entries placed = without_placed text (codes "crate") entries placed
  left_placed false entries placed = without_placed text (codes "version") _ (without_placed text (codes "name") entries placed)

  left_content : (span : Span) (content : TomlContent) → LiesBetween text span → IsContentPlaced text span content
      → IsPlaced text (rest_of_spec (record { content = content; span = span }))
  left_content span (string w) lies placed = (lies, tt)
  left_content span (integer z) lies placed = (lies, tt)
  left_content span (decimal z) lies placed = (lies, tt)
  left_content span (boolean b) lies placed = (lies, tt)
  left_content span (array items) lies placed = (lies, placed)
  left_content span (table entries) lies placed = (lies, left_placed _ entries placed)

  pub left_stands : (value : Toml) → IsPlaced text value → IsPlaced text (rest_of_spec value)
  left_stands value placed = left_content value.span value.content placed.0 placed.1
