-- Keys and values, as they are written, lie in the text.
use Rattle.std.proofs.Common.{◌≡◌, ℕ, ◌+◌, ◌-◌, ◌<◌, ◌≤◌, ⊎_elim, inl, inr, Bool, true, false, eqb, List, [], ◌∷◌, length, get_or, take, drop, Some, option_map, option_and_then, refl, ap, sym, subst, ◌∙◌, eqb-true, arith, length-take, length-drop}
use Rattle.std.proofs.lemmas.Bool.Decides.{nat_tests}
use Rattle.std.proofs.lemmas.List.{get_or-take, get_or-drop}
use Rattle.std.proofs.lemmas.Str.{IsCharBoundary-before_ascii, IsCharBoundary-after_ascii}
use Rattle.std.specs.List.{prefix_len}
use Rattle.std.specs.Str.{IsCharBoundary, IsUtf8}
use Rattle.deny_text.specs.declared.span.Span.{Span}
use Rattle.toml_subset.specs.Bytes.{open_bracket, close_bracket, open_brace, close_brace, is_bare, is_run, begins_run}
use Rattle.toml_subset.specs.Data as «data»
use Rattle.toml_subset.specs.Data.{TomlContent, Items}
use Rattle.toml_subset.specs.Keys.{IsKey, AreKeys}
use Rattle.toml_subset.specs.Numbers.{Class, integer, decimal}
use Rattle.toml_subset.specs.Places.{from_to, stands, run_end, run_at, after_blanks, after_space}
use Rattle.toml_subset.specs.Raw.{Raw, RawItems, RawEntries, raw_text, raw_integer, raw_decimal, raw_boolean, raw_array, raw_table, raw_none, raw_item, raw_empty, raw_entry, IsNumber, word_of, IsWord, IsValue, AreItems, AreItemsBehind, AreEntries, AreEntriesBehind}
use Rattle.toml_subset.specs.Strings.{basic, literal}
use Rattle.toml_subset.specs.Tables.{Branches, unbranched, closed, branches_with_value, entries_of, meant, items_meant, entries_meant}
use Rattle.toml_subset.specs.declared.string.Key.{Key}
use Rattle.toml_subset.proofs.Escapes.{behind_byte, digit_ascii}
use Rattle.toml_subset.proofs.Law.Basics.{map_some, then_some, is_some}
use Rattle.toml_subset.proofs.Law.Forward.{value_goes}
use Rattle.toml_subset.proofs.Law.Fronts.{passes_inside}
use Rattle.toml_subset.proofs.PlainRuns.{passes_is}
use Rattle.toml_subset.proofs.PlainStrings.{plain_string}
use Rattle.toml_subset.proofs.text_laws.Borders.{run_low, low_run_border}
use Rattle.toml_subset.proofs.text_laws.Parts.{IsSpanFrom, string_span, key_span}
use Rattle.deny_text.specs.Spans.{LiesBetween}
use Rattle.toml_subset.specs.text_laws.Placed.{IsSpelled, IsKeyPlaced, IsContentPlaced, AreItemsPlaced}
use Rattle.toml_subset.proofs.text_laws.Edits.{put_placed}
use Rattle.toml_subset.proofs.text_laws.Trees.{ArePartsPlaced, AreBranchesPlaced, branches_entries}

module _ (text : List ℕ) (utf8 : IsUtf8 text) where
  lies : (i : ℕ) (span : Span) → IsSpanFrom text utf8 i span → LiesBetween text span
  lies i span is = record { ordered = is.ordered; start_border = is.start_border; end_border = is.end_border }

  pub from_places : (i next : ℕ) (span : Span) → i ≤ next → IsCharBoundary text i → IsCharBoundary text next → span ≡ from_to i next → LiesBetween text span
  from_places i next span le start end is = subst (LiesBetween text) (sym is) (record { ordered = le; start_border = start; end_border = end })

  -- where an ASCII byte is
  pub at_byte : (i c : ℕ) → c < 128 → stands text i c ≡ true → IsCharBoundary text i
  at_byte i c low h =
      let inside = passes_inside (λ b. eqb b c) text i h in
      let same = eqb-true (get_or text i 0) c (sym (passes_is (λ b. eqb b c) text i inside) ∙ h) in
      IsCharBoundary-before_ascii text i inside (omega arith)

  -- behind a closing byte
  pub closes : (i c next : ℕ) → c < 128 → stands text i c ≡ true → next ≡ i + 1 → IsCharBoundary text next
  closes i c next low h ends = subst (IsCharBoundary text) (sym ends) (behind_byte text utf8 i c low h).1

  -- keys

  bare_spelled : (i : ℕ) (key : Key) (next : ℕ) → next ≡ run_end is_bare text i → key ≡ record { name = record { text = run_at is_bare text i; escaped = false }; span = from_to i next }
      → IsSpelled text key.span key.name
  bare_spelled i key next ends is =
      let size : prefix_len is_bare (drop i text) ≡ next - i = omega arith in
      subst (λ (k : Key). IsSpelled text k.span k.name) (sym is) (λ plain. ap (λ n. take n (drop i text)) size)

  pub key_placed : (i : ℕ) (key : Key) (next : ℕ) → IsKey text i key next → IsKeyPlaced text key
  key_placed i key next (inl bare) = (lies i key.span (key_span text utf8 i key next (inl bare)), bare_spelled i key next bare.ends bare.is)
  key_placed i key next (inr (inl is)) = (lies i key.span (key_span text utf8 i key next (inr (inl is))), plain_string text i basic key.name key.span next is)
  key_placed i key next (inr (inr is)) = (lies i key.span (key_span text utf8 i key next (inr (inr is))), plain_string text i literal key.name key.span next is)

  pub keys_placed : (i : ℕ) (keys : List Key) (next : ℕ) → AreKeys text i keys next → ArePartsPlaced text keys
  keys_placed i [] next is = absurd is
  keys_placed i (key ∷ more) next is = (
    key_placed i key is.0 is.1,
    ⊎_elim (λ dotted. keys_placed (after_blanks text (after_blanks text is.0 + 1)) more next dotted.1) (λ only. subst (ArePartsPlaced text) (sym only.1) tt) is.2,
  )

  -- values without items and entries

  run_begins : (c : ℕ) → begins_run c ≡ true → c < 128
  run_begins c h = grind (arith, nat_tests, digit_ascii)

  number_placed : (i : ℕ) (class : Class) (span : Span) (next : ℕ) → IsNumber text i class span next → LiesBetween text span
  number_placed i class span next is =
      let inside = passes_inside begins_run text i is.begins in
      let begins : begins_run (get_or text i 0) ≡ true = sym (passes_is begins_run text i inside) ∙ is.begins in
      let start = IsCharBoundary-before_ascii text i inside (run_begins (get_or text i 0) begins) in
      from_places i next span (let ends = is.ends in omega arith) start (subst (IsCharBoundary text) (sym is.ends) (low_run_border text utf8 is_run run_low i start)) is.spans

  -- a byte of a word
  byte_of : (i n k c : ℕ) (word : List ℕ) → take n (drop i text) ≡ word → k < n → get_or word k 0 ≡ c → get_or text (i + k) 0 ≡ c
  byte_of i n k c word is within at = sym (sym (ap (λ s. get_or s k 0) is) ∙ get_or-take n (drop i text) k 0 within ∙ get_or-drop i text k 0) ∙ at

  word_between : (i n next : ℕ) (span : Span) → n ≤ length (take n (drop i text)) → 0 < n → get_or text (i + 0) 0 < 128 → get_or text (i + (n - 1)) 0 < 128
      → next ≡ i + n → span ≡ from_to i next → LiesBetween text span
  word_between i n next span long some first end ends is =
      let least = length-take n (drop i text) in
      let rest = length-drop i text in
      let begins : i + 0 ≡ i = omega arith in
      let back : i + (n - 1) + 1 ≡ next = omega arith in
      let inside : i + (n - 1) < length text = omega arith in
      from_places i next span (omega arith) (subst (IsCharBoundary text) begins (IsCharBoundary-before_ascii text (i + 0) (omega arith) first))
      (subst (IsCharBoundary text) back (IsCharBoundary-after_ascii text (i + (n - 1)) utf8 inside end)) is

  word_placed : (i : ℕ) (b : Bool) (span : Span) (next : ℕ) → IsWord text i b span next → LiesBetween text span
  word_placed i true span next is =
      let whole = ap length is.is in
      let first = byte_of i 4 0 116 (word_of true) is.is (omega arith) refl in
      let end = byte_of i 4 3 101 (word_of true) is.is (omega arith) refl in
      word_between i 4 next span (omega arith) (omega arith) (omega arith) (omega arith) is.ends is.spans
  word_placed i false span next is =
      let whole = ap length is.is in
      let first = byte_of i 5 0 102 (word_of false) is.is (omega arith) refl in
      let end = byte_of i 5 4 101 (word_of false) is.is (omega arith) refl in
      word_between i 5 next span (omega arith) (omega arith) (omega arith) (omega arith) is.ends is.spans

  -- a value and its content, and behind which place it ends

  mutual
    pub value_placed : (i : ℕ) (span : Span) (raw : Raw) (next : ℕ) (content : TomlContent) → IsValue text i span raw next → meant raw ≡ Some content
        → LiesBetween text span × IsContentPlaced text span content
    value_placed i span (raw_text w) next content is e =
        let key : Key = record { name = w; span = span } in (
          lies i span (string_span text utf8 i is.0 key next is.1),
          subst (IsContentPlaced text span) (is_some (data.string w) content e) (plain_string text i is.0 w span next is.1),
        )
    value_placed i span (raw_integer z) next content is e = (number_placed i (integer z) span next is, subst (IsContentPlaced text span) (is_some (data.integer z) content e) tt)
    value_placed i span (raw_decimal z) next content is e = (number_placed i (decimal z) span next is, subst (IsContentPlaced text span) (is_some (data.decimal z) content e) tt)
    value_placed i span (raw_boolean b) next content is e = (word_placed i b span next is, subst (IsContentPlaced text span) (is_some (data.boolean b) content e) tt)
    value_placed i span (raw_array items) next content is e =
        let inner = map_some data.array (items_meant items) content e in
        let placed = items_placed (after_space text (i + 1)) items next inner.0 is.1 inner.1 in
        let goes = value_goes text i span (raw_array items) next is in (
          from_places i next span (omega arith) (at_byte i open_bracket (omega arith) is.0) placed.1 is.2,
          subst (IsContentPlaced text span) inner.2 placed.0,
        )
    value_placed i span (raw_table entries) next content is e =
        let inner = map_some (λ branches. data.table (entries_of branches)) (entries_meant entries unbranched) content e in
        let placed = entries_placed (after_blanks text (i + 1)) entries next unbranched inner.0 is.1 tt inner.1 in
        let goes = value_goes text i span (raw_table entries) next is in (
          from_places i next span (omega arith) (at_byte i open_brace (omega arith) is.0) placed.1 is.2,
          subst (IsContentPlaced text span) inner.2 (branches_entries text inner.0 placed.0),
        )

    items_placed : (i : ℕ) (items : RawItems) (next : ℕ) (are : Items) → AreItems text i items next → items_meant items ≡ Some are → AreItemsPlaced text are × IsCharBoundary text next
    items_placed i raw_none next are is e = (subst (AreItemsPlaced text) (is_some data.no_item are e) tt, closes i close_bracket next (omega arith) is.0 is.1)
    items_placed i (raw_item span value more) next are is e =
        let first = then_some (λ content. option_map (data.item span content) (items_meant more)) (meant value) are e in
        let rest = map_some (data.item span first.0) (items_meant more) are first.2 in
        let here = value_placed i span value is.0 first.0 is.1 first.1 in
        let further = behind_placed (after_space text is.0) more next rest.0 is.2 rest.1 in
        (subst (AreItemsPlaced text) rest.2 (here.0, here.1, further.0), further.1)

    behind_placed : (i : ℕ) (items : RawItems) (next : ℕ) (are : Items) → AreItemsBehind text i items next → items_meant items ≡ Some are → AreItemsPlaced text are × IsCharBoundary text next
    behind_placed i raw_none next are (inl only) e = (subst (AreItemsPlaced text) (is_some data.no_item are e) tt, closes i close_bracket next (omega arith) only.0 only.1)
    behind_placed i raw_none next are (inr further) e =
        (subst (AreItemsPlaced text) (is_some data.no_item are e) tt, closes (after_space text (i + 1)) close_bracket next (omega arith) further.1 further.2)
    behind_placed i (raw_item span value more) next are is e =
        let first = then_some (λ content. option_map (data.item span content) (items_meant more)) (meant value) are e in
        let rest = map_some (data.item span first.0) (items_meant more) are first.2 in
        let here = value_placed (after_space text (i + 1)) span value is.1.0 first.0 is.1.1 first.1 in
        let further = behind_placed (after_space text is.1.0) more next rest.0 is.1.2 rest.1 in
        (subst (AreItemsPlaced text) rest.2 (here.0, here.1, further.0), further.1)

    entries_placed : (i : ℕ) (entries : RawEntries) (next : ℕ) (branches new : Branches) → AreEntries text i entries next → AreBranchesPlaced text branches
        → entries_meant entries branches ≡ Some new → AreBranchesPlaced text new × IsCharBoundary text next
    entries_placed i raw_empty next branches new is are e = (subst (AreBranchesPlaced text) (is_some branches new e) are, closes i close_brace next (omega arith) is.0 is.1)
    entries_placed i (raw_entry keys span value more) next branches new is are e =
        let first = then_some (λ content. option_and_then (entries_meant more) (branches_with_value keys (closed span content) branches)) (meant value) new e in
        let rest = then_some (entries_meant more) (branches_with_value keys (closed span first.0) branches) new first.2 in
        let pair = is.1 in
        let here = value_placed (after_blanks text (after_blanks text pair.0 + 1)) span value is.0 first.0 pair.3 first.1 in
        let made = put_placed text keys (closed span first.0) (keys_placed i keys pair.0 pair.1) here branches rest.0 are rest.1 in
        entries_behind_placed (after_blanks text is.0) more next rest.0 new is.2 made rest.2

    entries_behind_placed : (i : ℕ) (entries : RawEntries) (next : ℕ) (branches new : Branches) → AreEntriesBehind text i entries next → AreBranchesPlaced text branches
        → entries_meant entries branches ≡ Some new → AreBranchesPlaced text new × IsCharBoundary text next
    entries_behind_placed i raw_empty next branches new is are e = (subst (AreBranchesPlaced text) (is_some branches new e) are, closes i close_brace next (omega arith) is.0 is.1)
    entries_behind_placed i (raw_entry keys span value more) next branches new is are e =
        let first = then_some (λ content. option_and_then (entries_meant more) (branches_with_value keys (closed span content) branches)) (meant value) new e in
        let rest = then_some (entries_meant more) (branches_with_value keys (closed span first.0) branches) new first.2 in
        let pair = is.1.1 in
        let here = value_placed (after_blanks text (after_blanks text pair.0 + 1)) span value is.1.0 first.0 pair.3 first.1 in
        let made = put_placed text keys (closed span first.0) (keys_placed (after_blanks text (i + 1)) keys pair.0 pair.1) here branches rest.0 are rest.1 in
        entries_behind_placed (after_blanks text is.1.0) more next rest.0 new is.1.2 made rest.2
