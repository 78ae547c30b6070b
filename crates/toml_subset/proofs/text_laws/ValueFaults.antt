-- Faults of values.
use Rattle.std.proofs.Common.{◌≡◌, ℕ, zero, suc, ◌+◌, ◌-◌, ◌<◌, ◌≤◌, ◌⊎◌, ⊎_elim, inl, inr, Bool, true, false, cond, eqb, nat_lt, not, ◌&&◌, ◌||◌, List, [], ◌∷◌, length, get_or, drop, Option, Some, None, true≢false, refl, ap, sym, subst, ◌∙◌, eqb-true, arith, length-drop}
use Rattle.std.proofs.lemmas.Bool.Decides.{nat_tests}
use Rattle.std.proofs.lemmas.List.{get_or-drop}
use Rattle.std.specs.List.{list_all}
use Rattle.std.specs.Str.{IsCharBoundary, IsUtf8}
use Rattle.toml_subset.specs.Bytes.{quote, apostrophe, hash, comma, open_bracket, close_bracket, open_brace, close_brace, line_feed, carriage_return, is_run, may_stand}
use Rattle.toml_subset.specs.Data.{depth_limit}
use Rattle.toml_subset.specs.Faults.{begins_number, IsSyntaxFault}
use Rattle.toml_subset.specs.Numbers.{Class, unsupported, number_form, number_range, integer, decimal, class_of}
use Rattle.toml_subset.specs.Places.{stands, run_end, run_at, after_blanks, after_blanks_and_comment, lines_over, after_lines_of, after_space, in_comment, behind_line_end}
use Rattle.toml_subset.specs.Raw.{word_of}
use Rattle.toml_subset.specs.Reading.{ValueFound, ItemsFound, EntriesFound, number_read, shared_len, word_read, read_scalar, cut_in_comment, space_fault, array_items_behind, edit_reading, entries_behind, entry_put, array_read, table_read, table_from, read_value, read_items, read_entries}
use Rattle.toml_subset.specs.StringReading.{StringFound, KeysFound, read_string, read_left}
use Rattle.toml_subset.specs.TableFaults.{put_fault}
use Rattle.toml_subset.specs.Tables.{Branches, closed, unbranched, branches_with_value}
use Rattle.toml_subset.proofs.Escapes.{behind_byte}
use Rattle.toml_subset.proofs.Law.Basics.{if_true}
use Rattle.toml_subset.proofs.Law.Forward.{Past, comment_goes, space_goes, line_end_past}
use Rattle.toml_subset.proofs.Law.Fronts.{false_from, passes_inside}
use Rattle.toml_subset.proofs.Law.Texts.{left_sound}
use Rattle.toml_subset.proofs.PlainRuns.{passes_is}
use Rattle.toml_subset.proofs.Runs.{run_end_stops, control_ascii}
use Rattle.toml_subset.proofs.text_laws.Borders.{run_low, behind_low, low_run_border, blanks_border, space_border}
use Rattle.toml_subset.proofs.text_laws.Stuck.{Fine, weaker, then_fine, if_fine, if_fault, unless_fine, fault_from, stuck_from, stuck_at, string_fine}
use Rattle.toml_subset.proofs.text_laws.Parts.{left_fine, put_is}

both : (a b : Bool) → (a && b) ≡ true → (a ≡ true) × (b ≡ true)
both true b h = (refl, h)
both false b h = absurd (true≢false (sym h))

not_so : (b : Bool) → b ≡ false → not b ≡ true
not_so true h = absurd (true≢false h)
not_so false h = refl

-- what words share with a text is ASCII
abbrev all_low : List ℕ → Bool
all_low ws = list_all (λ c. nat_lt c 128) ws

shared_step : (c : ℕ) (cs : List ℕ) (d : ℕ) (ds : List ℕ) (k : ℕ) → c ≡ d → nat_lt c 128 ≡ true → ((j : ℕ) → j < shared_len cs ds → get_or ds j 0 < 128)
    → k < suc (shared_len cs ds) → get_or (d ∷ ds) k 0 < 128
shared_step c cs d ds zero same low rest within = let first : c < 128 = grind (arith, nat_tests) in omega arith
shared_step c cs d ds (suc k) same low rest within = rest k (omega arith)

shared_low : (ws s : List ℕ) (k : ℕ) → all_low ws ≡ true → k < shared_len ws s → get_or s k 0 < 128
shared_low [] s k all inside = absurd (omega arith)
shared_low (c ∷ cs) [] k all inside = absurd (omega arith)
shared_low (c ∷ cs) (d ∷ ds) k all inside =
    elim (eqb c d) as (λ b. eqb c d ≡ b → k < cond b (suc (shared_len cs ds)) 0 → get_or (d ∷ ds) k 0 < 128) [
      | true ↦ λ same within.
          let low = both (nat_lt c 128) (all_low cs) all in shared_step c cs d ds k (eqb-true c d same) low.0 (λ j h. shared_low cs ds j low.1 h) within
      | false ↦ λ other within. absurd (omega arith)
    ] refl inside

word_low : (b : Bool) → all_low (word_of b) ≡ true
word_low true = refl
word_low false = refl

shared_least : (ws s : List ℕ) → shared_len ws s ≤ length s
shared_least [] s = omega arith
shared_least (c ∷ cs) [] = omega arith
shared_least (c ∷ cs) (d ∷ ds) = elim (eqb c d) as (λ b. cond b (suc (shared_len cs ds)) 0 ≤ suc (length ds)) [ true ↦ (let rest = shared_least cs ds in omega arith) | false ↦ omega arith ]

no_line_past : (text : List ℕ) (i : ℕ) → length text ≤ i → behind_line_end text i ≡ None
no_line_past text i past =
    let lf : stands text i line_feed ≡ false = false_from (stands text i line_feed) (λ h. let inside = passes_inside (λ b. eqb b line_feed) text i h in absurd (omega arith)) in
    let cr : stands text i carriage_return ≡ false = false_from (stands text i carriage_return) (λ h. let inside = passes_inside (λ b. eqb b carriage_return) text i h in absurd (omega arith)) in
    ap (λ (b : Bool). cond b (Some (i + 1)) (cond (stands text i carriage_return && stands text (i + 1) line_feed) (Some (i + 2)) None)) lf
    ∙ ap (λ (b : Bool). cond (b && stands text (i + 1) line_feed) (Some (i + 2)) None) cr

past_of : (text : List ℕ) (i next : ℕ) → behind_line_end text (after_blanks_and_comment text i) ≡ Some next → after_blanks_and_comment text i < next
past_of text i next is = subst (Past (after_blanks_and_comment text i)) is (line_end_past text (after_blanks_and_comment text i))

-- the last line of a gap has no end that the gap goes over
lines_stop : (text : List ℕ) (n i : ℕ) → length text ≤ i + n
    → behind_line_end text (after_blanks_and_comment text (lines_over after_blanks_and_comment n text i)) ≡ None
lines_stop text zero i past = no_line_past text (after_blanks_and_comment text i) (let goes = comment_goes text i in omega arith)
lines_stop text (suc n) i past =
    elim (behind_line_end text (after_blanks_and_comment text i)) as (λ o. behind_line_end text (after_blanks_and_comment text i) ≡ o
    → behind_line_end text (after_blanks_and_comment text (elim o [ Some next ↦ lines_over after_blanks_and_comment n text next | None ↦ i ])) ≡ None) [
      | Some next ↦ λ is. lines_stop text n next (let goes = comment_goes text i in let further = past_of text i next is in omega arith)
      | None ↦ λ is. is
    ] refl

module _ (text : List ℕ) (utf8 : IsUtf8 text) where
  abbrev value_end : ValueFound → ℕ
  value_end v = v.2

  number_fine : (i : ℕ) → IsCharBoundary text i → begins_number text i ≡ true → (class : Class) → class_of (run_at is_run text i) ≡ class
      → Fine text utf8 value_end i (number_read text i class)
  number_fine i at begins unsupported is =
      record { begins = omega arith; ordered = omega arith; start_border = at; end_border = low_run_border text utf8 is_run run_low i at; there = record { begins = begins; ends = refl; is = is } }
  number_fine i at begins number_form is =
      record { begins = omega arith; ordered = omega arith; start_border = at; end_border = low_run_border text utf8 is_run run_low i at; there = record { begins = begins; ends = refl; is = is } }
  number_fine i at begins number_range is =
      record { begins = omega arith; ordered = omega arith; start_border = at; end_border = low_run_border text utf8 is_run run_low i at; there = record { begins = begins; ends = refl; is = is } }
  number_fine i at begins (integer z) is = (omega arith, low_run_border text utf8 is_run run_low i at)
  number_fine i at begins (decimal z) is = (omega arith, low_run_border text utf8 is_run run_low i at)

  word_border : (b : Bool) (i : ℕ) → IsCharBoundary text i → IsCharBoundary text (i + shared_len (word_of b) (drop i text))
  word_border b i at =
      let shared = shared_len (word_of b) (drop i text) in
      let least = shared_least (word_of b) (drop i text) in
      let rest = length-drop i text in
      let inside_text = at.0 in
      elim (eqb shared 0) as (λ t. eqb shared 0 ≡ t → IsCharBoundary text (i + shared)) [
        | true ↦ λ is. let none = eqb-true shared 0 is in let same : i ≡ i + shared = omega arith in subst (IsCharBoundary text) same at
        | false ↦ λ is.
            let some : 0 < shared = grind (arith, nat_tests) in
            let k = shared - 1 in
            let low = rw get_or-drop at (shared_low (word_of b) (drop i text) k (word_low b) (omega arith)) in
            let back : i + k + 1 ≡ i + shared = omega arith in
            subst (IsCharBoundary text) back (behind_low text utf8 (i + k) (omega arith) low)
      ] refl

  word_fine : (b : Bool) (i : ℕ) → IsCharBoundary text i → Fine text utf8 value_end i (word_read b text i)
  word_fine b i at =
      let shared = shared_len (word_of b) (drop i text) in
      let border = word_border b i at in
      if_fine text utf8 value_end i (eqb shared (length (word_of b))) _ _ (λ h. (omega arith, border)) (λ h. stuck_from text utf8 i (i + shared) at.0 (omega arith) (λ inside. border))

  scalar_fine : (i : ℕ) → IsCharBoundary text i → Fine text utf8 value_end i (read_scalar text i)
  scalar_fine i at =
      if_fine text utf8 value_end i (begins_number text i) _ _ (λ h. number_fine i at h (class_of (run_at is_run text i)) refl)
      (λ h.
      if_fine text utf8 value_end i (stands text i quote || stands text i apostrophe) _ _
      (λ k. then_fine text utf8 (λ (r : StringFound). r.2) value_end i _ (read_string text i) (string_fine text utf8 i at) (λ x e past border. (past, border)))
      (λ k.
      if_fine text utf8 value_end i (stands text i 116) _ _ (λ l. word_fine true i at)
      (λ l. if_fine text utf8 value_end i (stands text i 102) _ _ (λ m. word_fine false i at) (λ m. stuck_at text utf8 i at))))

  -- behind the space in an array

  space_is : (i : ℕ) → IsCharBoundary text i → IsSyntaxFault text i (space_fault text i)
  space_is i at =
      let j = after_space text i in
      let line = after_lines_of after_blanks_and_comment text i in
      let b = after_blanks text line in
      let border = space_border text utf8 i at in
      let goes = space_goes text i in
      if_fault text utf8 i (cut_in_comment text i) _ _
      (λ h.
      let parts = both (in_comment text i) (nat_lt j (length text)) h in
      let begins = parts.0 in
      let less = parts.1 in
      let inside : j < length text = grind (arith, nat_tests) in
      let hash_inside = passes_inside (λ c. eqb c hash) text b begins in
      let comment : j ≡ run_end may_stand text (b + 1) = if_true (stands text b hash) (run_end may_stand text (b + 1)) b begins in
      let stops = run_end_stops may_stand text (b + 1) (omega arith) (omega arith) in
      let fails : may_stand (get_or text j 0) ≡ false = ap (λ (n : ℕ). may_stand (get_or text n 0)) comment ∙ stops in
      record {
        begins = goes;
        ordered = omega arith;
        start_border = border;
        end_border = behind_low text utf8 j inside (control_ascii (get_or text j 0) (not_so (may_stand (get_or text j 0)) fails));
        there = (
          inr (record { place = b; begins = begins; ends = comment; cut = lines_stop text (length text) i (omega arith) }),
          passes_is (λ c. not (may_stand c)) text j inside ∙ not_so (may_stand (get_or text j 0)) fails,
          refl,
        );
      })
      (λ h. stuck_from text utf8 i j at.0 goes (λ inside. border))

  made_fine : {A : Type 0} (from : ℕ) (o : Option A) (end : ℕ) → from ≤ end → IsCharBoundary text end → from ≤ length text → Fine text utf8 (λ (x : A). end) from (edit_reading text o)
  made_fine from (Some x) end le at room = (le, at)
  made_fine from None end le at room = stuck_from text utf8 from (length text) room room (λ inside. absurd (omega arith))

  abbrev items_end : ItemsFound → ℕ
  items_end r = r.1

  abbrev entries_end : EntriesFound → ℕ
  entries_end r = r.1

  which_of : (a b : Bool) → (a || b) ≡ true → (a ≡ true) ⊎ (b ≡ true)
  which_of true b h = inl refl
  which_of false b h = inr h

  which : (i : ℕ) → (stands text i open_bracket || stands text i open_brace) ≡ true → (stands text i open_bracket ≡ true) ⊎ (stands text i open_brace ≡ true)
  which i opens = which_of (stands text i open_bracket) (stands text i open_brace) opens

  opening_border : (i : ℕ) → (stands text i open_bracket || stands text i open_brace) ≡ true → IsCharBoundary text (i + 1)
  opening_border i opens =
      ⊎_elim (λ h. (behind_byte text utf8 i open_bracket (omega arith) h).1) (λ h. (behind_byte text utf8 i open_brace (omega arith) h).1) (which i opens)

  mutual
    pub value_fine : (n above i : ℕ) → IsCharBoundary text i → Fine text utf8 value_end i (read_value n text above i)
    value_fine zero above i at = stuck_at text utf8 i at
    value_fine (suc n) above i at =
        let j = after_blanks text (i + 1) in
        if_fine text utf8 value_end i (stands text i open_bracket || stands text i open_brace) _ _
        (λ opens.
        let behind = opening_border i opens in
        if_fine text utf8 value_end i (eqb above depth_limit) _ _
        (λ deep. record { begins = omega arith; ordered = omega arith; start_border = at; end_border = behind; there = inl (which i opens, refl) })
        (λ shallow.
        if_fine text utf8 value_end i (stands text i open_bracket) _ _
        (λ array. then_fine text utf8 items_end value_end i (array_read i) (read_items n text (above + 1) (i + 1))
        (weaker text utf8 items_end i (i + 1) (read_items n text (above + 1) (i + 1)) (omega arith) (items_fine n (above + 1) (i + 1) behind)) (λ x e past border. (past, border)))
        (λ table.
        let inner = blanks_border text utf8 (i + 1) behind in
        then_fine text utf8 entries_end value_end i (table_read i) (table_from (read_entries n text (above + 1) unbranched) text i)
        (if_fine text utf8 entries_end i (stands text j close_brace) _ _ (λ none. (omega arith, (behind_byte text utf8 j close_brace (omega arith) none).1))
        (λ some. weaker text utf8 entries_end i j (read_entries n text (above + 1) unbranched j) (omega arith) (entries_fine n (above + 1) unbranched j inner)))
        (λ x e past border. (past, border)))))
        (λ scalar. scalar_fine i at)

    items_fine : (n above i : ℕ) → IsCharBoundary text i → Fine text utf8 items_end i (read_items n text above i)
    items_fine zero above i at = stuck_at text utf8 i at
    items_fine (suc n) above i at =
        let j = after_space text i in
        let goes = space_goes text i in
        let border = space_border text utf8 i at in
        if_fine text utf8 items_end i (cut_in_comment text i) _ _ (λ cut. space_is i at)
        (λ go_on. if_fine text utf8 items_end i (stands text j close_bracket) _ _ (λ closed_here. (omega arith, (behind_byte text utf8 j close_bracket (omega arith) closed_here).1))
        (λ further. then_fine text utf8 value_end items_end i (array_items_behind (read_items n text above) text) (read_value n text above j)
        (weaker text utf8 value_end i j (read_value n text above j) goes (value_fine n above j border))
        (λ v is past at_end.
        let k = after_space text v.2 in
        let on = space_goes text v.2 in
        if_fine text utf8 items_end i (stands text k close_bracket) _ _ (λ last_one. (omega arith, (behind_byte text utf8 k close_bracket (omega arith) last_one).1))
        (λ more. if_fine text utf8 items_end i (stands text k comma) _ _
        (λ here. then_fine text utf8 items_end items_end i _ (read_items n text above (k + 1))
        (weaker text utf8 items_end i (k + 1) (read_items n text above (k + 1)) (omega arith) (items_fine n above (k + 1) (behind_byte text utf8 k comma (omega arith) here).1))
        (λ x found beyond there. (beyond, there)))
        (λ none. fault_from text utf8 i v.2 (space_fault text v.2) past (space_is v.2 at_end))))))

    entries_fine : (n above : ℕ) (branches : Branches) (i : ℕ) → IsCharBoundary text i → Fine text utf8 entries_end i (read_entries n text above branches i)
    entries_fine zero above branches i at = stuck_at text utf8 i at
    entries_fine (suc n) above branches i at =
        then_fine text utf8 (λ (r : KeysFound). r.1) entries_end i _ (read_left text i) (left_fine text utf8 i at)
        (λ left is_left past border.
        let stood = left_sound text i left is_left in
        let high = above + (length left.0 - 1) in
        unless_fine text utf8 entries_end i (put_fault left.0 branches above) _ (put_is text utf8 i i stood.0 left.0 (omega arith) stood.1 stood.2 branches above)
        (λ free. then_fine text utf8 value_end entries_end i (entry_put (read_entries n text above) text left.0 branches) (read_value n text high left.1)
        (weaker text utf8 value_end i left.1 (read_value n text high left.1) past (value_fine n high left.1 border))
        (λ v is on at_end.
        then_fine text utf8 (λ (x : Branches). v.2) entries_end i (entries_behind (read_entries n text above) text v.2) (edit_reading text (branches_with_value left.0 (closed v.0 v.1) branches))
        (made_fine i (branches_with_value left.0 (closed v.0 v.1) branches) v.2 on at_end at.0)
        (λ new is_new beyond there.
        let k = after_blanks text v.2 in
        let blanks = blanks_border text utf8 v.2 at_end in
        if_fine text utf8 entries_end i (stands text k close_brace) _ _ (λ last_one. (omega arith, (behind_byte text utf8 k close_brace (omega arith) last_one).1))
        (λ more. if_fine text utf8 entries_end i (stands text k comma) _ _
        (λ here.
        let next = after_blanks text (k + 1) in
        let after = blanks_border text utf8 (k + 1) (behind_byte text utf8 k comma (omega arith) here).1 in
        weaker text utf8 entries_end i next (read_entries n text above new next) (omega arith) (entries_fine n above new next after))
        (λ none. stuck_from text utf8 i k at.0 (omega arith) (λ inside. blanks)))))))
