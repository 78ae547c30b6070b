-- Faults of lines and of whole texts.
use Rattle.std.proofs.Common.{◌≡◌, ℕ, zero, suc, ◌+◌, ◌-◌, ◌<◌, ◌≤◌, ⊎_elim, inr, Bool, true, false, cond, eqb, nat_lt, not, ◌&&◌, List, length, get_or, Option, Some, None, Ok, Err, true≢false, refl, ap, sym, subst, ◌∙◌, eqb-true, arith}
use Rattle.std.proofs.lemmas.Bool.Decides.{nat_tests}
use Rattle.std.proofs.lemmas.Str.{IsCharBoundary-start}
use Rattle.std.specs.Str.{IsCharBoundary, IsUtf8}
use Rattle.toml_subset.specs.Answer.{TomlReading, fault_at, stop_error, then_read, fault_or}
use Rattle.toml_subset.specs.Bytes.{hash, open_bracket, close_bracket, line_feed, carriage_return, may_stand}
use Rattle.toml_subset.specs.Faults.{LineBegins, IsSyntaxFault}
use Rattle.toml_subset.specs.Lines.{Document, no_lines}
use Rattle.toml_subset.specs.Places.{stands, run_end, after_blanks, after_comment, behind_line_end, next_line}
use Rattle.toml_subset.specs.Reading.{ValueFound, LineFound, call_bound, value_at, section_of, line_rest, with_root, pair_put, pair_from, header_from, array_header_from, is_blank_line, line_from, read_lines, root_value, read_text}
use Rattle.toml_subset.specs.StringReading.{KeysFound, keys_at, read_left}
use Rattle.toml_subset.specs.TableFaults.{put_fault, header_fault, array_header_fault}
use Rattle.toml_subset.specs.Tables.{Branches}
use Rattle.toml_subset.specs.declared.error.SyntaxError.{SyntaxError}
use Rattle.toml_subset.specs.declared.error.SyntaxReason.TheVariants.{ControlCharacter}
use Rattle.toml_subset.specs.declared.string.Key.{Key}
use Rattle.toml_subset.proofs.Escapes.{behind_byte}
use Rattle.toml_subset.proofs.Law.Basics.{is_some, if_is, if_true, if_false}
use Rattle.toml_subset.proofs.Law.Forward.{next_line_goes}
use Rattle.toml_subset.proofs.Law.Fronts.{false_from, passes_inside}
use Rattle.toml_subset.proofs.Law.Texts.{left_sound, keys_sound}
use Rattle.toml_subset.proofs.PlainRuns.{passes_is}
use Rattle.toml_subset.proofs.Runs.{run_end_stops, control_ascii}
use Rattle.toml_subset.proofs.text_laws.Borders.{behind_low, blanks_border, comment_border, next_border}
use Rattle.toml_subset.proofs.text_laws.Stuck.{Fine, weaker, SomeFault, fault_from, stuck_from, stuck_at}
use Rattle.toml_subset.proofs.text_laws.Parts.{all_keys_fine, left_fine, put_is, header_is, array_header_is}
use Rattle.toml_subset.proofs.text_laws.ValueFaults.{value_fine}

both : (a b : Bool) → (a && b) ≡ true → (a ≡ true) × (b ≡ true)
both true b h = (refl, h)
both false b h = absurd (true≢false (sym h))

not_so : (b : Bool) → b ≡ false → not b ≡ true
not_so true h = absurd (true≢false h)
not_so false h = refl

-- behind a line's end a line begins
ends_line : (text : List ℕ) (j next : ℕ) → behind_line_end text j ≡ Some next → LineBegins text next
ends_line text j next e =
    ⊎_elim (λ h. let at : suc j ≡ next = (let same = is_some (j + 1) next h.1 in omega arith) in subst (LineBegins text) at h.0)
    (λ h.
    ⊎_elim
    (λ k. let at : suc (j + 1) ≡ next = (let same = is_some (j + 2) next k.1 in omega arith) in subst (LineBegins text) at (both (stands text j carriage_return) (stands text (j + 1) line_feed) k.0).1)
    (λ k. let none : None ≡ Some next = k.1 in absurd (cc))
    (if_is (stands text j carriage_return && stands text (j + 1) line_feed) (Some (j + 2)) None (Some next) h.1))
    (if_is (stands text j line_feed) (Some (j + 1)) (cond (stands text j carriage_return && stands text (j + 1) line_feed) (Some (j + 2)) None) (Some next) e)

next_begins : (text : List ℕ) (i next : ℕ) → next_line text i ≡ Some next → next < length text → LineBegins text next
next_begins text i next e inside =
    let j = after_comment text (after_blanks text i) in
    ⊎_elim (λ h. let at = eqb-true j (length text) h.0 in let same = is_some j next h.1 in absurd (omega arith)) (λ h. ends_line text j next h.1)
    (if_is (eqb j (length text)) (Some j) (behind_line_end text j) (Some next) e)

module _ (text : List ℕ) (utf8 : IsUtf8 text) where
  -- A line that is read leads to the next one, or has its fault.
  abbrev pub Line : ℕ → TomlReading LineFound → Type 0
  Line from (Ok r) = (from ≤ r.1) × IsCharBoundary text r.1 × (r.1 < length text → LineBegins text r.1)
  Line from (Err fault) = IsSyntaxFault text from fault

  line_later : (from later : ℕ) (o : TomlReading LineFound) → from ≤ later → Line later o → Line from o
  line_later from later (Ok r) le is = (let past = is.0 in omega arith, is.1, is.2)
  line_later from later (Err fault) le is = fault_from text utf8 from later fault le is

  then_line : {A : Type 0} (end : A → ℕ) (from : ℕ) (f : A → TomlReading LineFound) (o : TomlReading A) → Fine text utf8 end from o
      → ((x : A) → o ≡ Ok x → from ≤ end x → IsCharBoundary text (end x) → Line from (f x)) → Line from (then_read f o)
  then_line end from f (Ok x) here further = further x refl here.0 here.1
  then_line end from f (Err fault) here further = here

  if_line : (from : ℕ) (b : Bool) (x y : TomlReading LineFound) → (b ≡ true → Line from x) → (b ≡ false → Line from y) → Line from (cond b x y)
  if_line from true x y first second = first refl
  if_line from false x y first second = second refl

  unless_line : (from : ℕ) (fault : Option SyntaxError) (o : TomlReading LineFound) → SomeFault text utf8 from fault → Line from o → Line from (fault_or fault o)
  unless_line from (Some fault) o here further = here
  unless_line from None o here further = further

  comment_forward : (b : ℕ) → b ≤ after_comment text b
  comment_forward b = elim (stands text b hash) as (λ t. b ≤ cond t (run_end may_stand text (b + 1)) b) [ true ↦ omega arith | false ↦ omega arith ]

  on : (i next : ℕ) → next_line text i ≡ Some next → i ≤ next
  on i next is = ⊎_elim (λ h. omega arith) (λ h. h.1) (next_line_goes text i next is)

  -- where no next line begins, the text has not ended
  not_whole : (i : ℕ) → next_line text i ≡ None → eqb (after_comment text (after_blanks text i)) (length text) ≡ false
  not_whole i is =
      let j = after_comment text (after_blanks text i) in
      false_from (eqb j (length text)) (λ h. let here = sym (if_true (eqb j (length text)) (Some j) (behind_line_end text j) h) ∙ is in absurd (cc))

  -- the rest of a line

  rest_line : (i : ℕ) → IsCharBoundary text i → (document : Document) → Line i (line_rest text i document)
  rest_line i at document =
      let b = after_blanks text i in
      let j = after_comment text b in
      let blanks = blanks_border text utf8 i at in
      let border = comment_border text utf8 b blanks in
      let goes = comment_forward b in
      elim (next_line text i) as (λ o. next_line text i ≡ o → Line i (elim o [
        | Some next ↦ Ok (document, next)
        | None ↦ cond (stands text b hash) (Err (fault_at ControlCharacter j (j + 1))) (Err (stop_error text j))
      ])) [
        | Some next ↦ λ is. (on i next is, next_border text utf8 i next is, next_begins text i next is)
        | None ↦ λ is.
            if_line i (stands text b hash) _ _
            (λ h.
            let hash_inside = passes_inside (λ c. eqb c hash) text b h in
            let comment : j ≡ run_end may_stand text (b + 1) = if_true (stands text b hash) (run_end may_stand text (b + 1)) b h in
            let least = border.0 in
            let differs = not_whole i is in
            let inside : j < length text = grind (arith, nat_tests) in
            let stops = run_end_stops may_stand text (b + 1) (omega arith) (omega arith) in
            let fails : may_stand (get_or text j 0) ≡ false = ap (λ (n : ℕ). may_stand (get_or text n 0)) comment ∙ stops in
            record {
              begins = omega arith;
              ordered = omega arith;
              start_border = border;
              end_border = behind_low text utf8 j inside (control_ascii (get_or text j 0) (not_so (may_stand (get_or text j 0)) fails));
              there = (
                inr (record { place = b; begins = h; ends = comment; cut = sym (if_false (eqb j (length text)) (Some j) (behind_line_end text j) differs) ∙ is }),
                passes_is (λ c. not (may_stand c)) text j inside ∙ not_so (may_stand (get_or text j 0)) fails,
                refl,
              );
            })
            (λ h. stuck_from text utf8 i j at.0 (omega arith) (λ inside. border))
      ] refl

  root_line : (from i : ℕ) → from ≤ i → from ≤ length text → IsCharBoundary text i → (section : List Key) (root : Option Branches) → Line from (with_root text i section root)
  root_line from i le room at section (Some root) = line_later from i (line_rest text i (record { root = root; section = section })) le (rest_line i at (record { root = root; section = section }))
  root_line from i le room at section None = stuck_from text utf8 from (length text) room room (λ inside. absurd (omega arith))

  -- statements

  pair_line : (i : ℕ) → IsCharBoundary text i → (document : Document) → Line i (then_read (pair_from text document) (read_left text i))
  pair_line i at document =
      then_line (λ (r : KeysFound). r.1) i (pair_from text document) (read_left text i) (left_fine text utf8 i at)
      (λ left is_left past border.
      let here = section_of document.section document.root 0 in
      let stood = left_sound text i left is_left in
      unless_line i (put_fault left.0 here.0 here.1) _ (put_is text utf8 i i stood.0 left.0 (omega arith) stood.1 stood.2 here.0 here.1)
      (then_line (λ (v : ValueFound). v.2) i (pair_put text left.0 document) (value_at text (here.1 + (length left.0 - 1)) left.1)
      (weaker text utf8 (λ (v : ValueFound). v.2) i left.1 (value_at text (here.1 + (length left.0 - 1)) left.1) past (value_fine text utf8 (call_bound text) (here.1 + (length left.0 - 1)) left.1 border))
      (λ v is on_to at_end. root_line i v.2 on_to at.0 at_end document.section _)))

  module _ (line : ℕ) (begins : LineBegins text line) (border : IsCharBoundary text line) where
    abbrev bracket : ℕ
    bracket = after_blanks text line

    header_line : stands text bracket open_bracket ≡ true → stands text (bracket + 1) open_bracket ≡ false → (document : Document)
        → Line line (then_read (header_from text bracket document) (keys_at text (after_blanks text (bracket + 1))))
    header_line opens alone document =
        let place = after_blanks text (bracket + 1) in
        let at = blanks_border text utf8 (bracket + 1) (behind_byte text utf8 bracket open_bracket (omega arith) opens).1 in
        let from : line ≤ place = omega arith in
        then_line (λ (r : KeysFound). r.1) line (header_from text bracket document) (keys_at text place)
        (weaker text utf8 (λ (r : KeysFound). r.1) line place (keys_at text place) from (all_keys_fine text utf8 place at))
        (λ keys is past there.
        let j = after_blanks text keys.1 in
        let close_border = blanks_border text utf8 keys.1 there in
        let are = keys_sound (suc (length text)) text place keys is in
        if_line line (stands text j close_bracket) _ _
        (λ h.
        unless_line line (header_fault keys.0 document.root) _
        (header_is text utf8 line place keys.1 keys.0 from are (line, begins, opens, alone, refl, h) document.root)
        (root_line line (j + 1) (omega arith) border.0 (behind_byte text utf8 j close_bracket (omega arith) h).1 keys.0 _))
        (λ h. stuck_from text utf8 line j border.0 (omega arith) (λ inside. close_border)))

    array_header_line : stands text bracket open_bracket ≡ true → stands text (bracket + 1) open_bracket ≡ true → (document : Document)
        → Line line (then_read (array_header_from text bracket document) (keys_at text (after_blanks text (bracket + 2))))
    array_header_line opens again document =
        let place = after_blanks text (bracket + 2) in
        let two : bracket + 1 + 1 ≡ bracket + 2 = omega arith in
        let at = blanks_border text utf8 (bracket + 2) (subst (IsCharBoundary text) two (behind_byte text utf8 (bracket + 1) open_bracket (omega arith) again).1) in
        let from : line ≤ place = omega arith in
        then_line (λ (r : KeysFound). r.1) line (array_header_from text bracket document) (keys_at text place)
        (weaker text utf8 (λ (r : KeysFound). r.1) line place (keys_at text place) from (all_keys_fine text utf8 place at))
        (λ keys is past there.
        let j = after_blanks text keys.1 in
        let close_border = blanks_border text utf8 keys.1 there in
        let are = keys_sound (suc (length text)) text place keys is in
        if_line line (stands text j close_bracket) _ _
        (λ h.
        let first = (behind_byte text utf8 j close_bracket (omega arith) h).1 in
        if_line line (stands text (j + 1) close_bracket) _ _
        (λ k.
        let both_behind : j + 1 + 1 ≡ j + 2 = omega arith in
        unless_line line (array_header_fault keys.0 document.root) _
        (array_header_is text utf8 line place keys.1 keys.0 from are (line, begins, opens, again, refl, h, k) document.root)
        (root_line line (j + 2) (omega arith) border.0 (subst (IsCharBoundary text) both_behind (behind_byte text utf8 (j + 1) close_bracket (omega arith) k).1) keys.0 _))
        (λ k. stuck_from text utf8 line (j + 1) border.0 (omega arith) (λ inside. first)))
        (λ h. stuck_from text utf8 line j border.0 (omega arith) (λ inside. close_border)))

  pub a_line : (line : ℕ) → LineBegins text line → IsCharBoundary text line → (document : Document) → Line line (line_from text document (after_blanks text line))
  a_line line begins border document =
      let i = after_blanks text line in
      let at = blanks_border text utf8 line border in
      let le : line ≤ i = omega arith in
      if_line line (is_blank_line text i) _ _ (λ h. line_later line i (line_rest text i document) le (rest_line i at document))
      (λ h.
      if_line line (stands text i open_bracket) _ _
      (λ k.
      if_line line (stands text (i + 1) open_bracket) _ _ (λ l. array_header_line line begins border k l document) (λ l. header_line line begins border k l document))
      (λ k. line_later line i (then_read (pair_from text document) (read_left text i)) le (pair_line i at document)))

  -- all lines from one on

  abbrev pub Lines : {A : Type 0} → ℕ → TomlReading A → Type 0
  Lines from (Ok x) = Unit {0}
  Lines from (Err fault) = IsSyntaxFault text from fault

  lines_later : {A : Type 0} (from later : ℕ) (o : TomlReading A) → from ≤ later → Lines later o → Lines from o
  lines_later from later (Ok x) le is = tt
  lines_later from later (Err fault) le is = fault_from text utf8 from later fault le is

  lines_on : (i n : ℕ) (o : TomlReading LineFound) → Line i o → ((r : LineFound) → IsCharBoundary text r.1 → (r.1 < length text → LineBegins text r.1) → Lines r.1 (read_lines n text r.1 r.0))
      → Lines i (then_read (λ (r : LineFound). read_lines n text r.1 r.0) o)
  lines_on i n (Ok r) is further = lines_later i r.1 (read_lines n text r.1 r.0) is.0 (further r is.1 is.2)
  lines_on i n (Err fault) is further = is

  lines_if : {A : Type 0} (from : ℕ) (b : Bool) (x y : TomlReading A) → (b ≡ true → Lines from x) → (b ≡ false → Lines from y) → Lines from (cond b x y)
  lines_if from true x y first second = first refl
  lines_if from false x y first second = second refl

  pub lines_are : (n i : ℕ) (document : Document) → IsCharBoundary text i → (i < length text → LineBegins text i) → Lines i (read_lines n text i document)
  lines_are zero i document at begins = stuck_at text utf8 i at
  lines_are (suc n) i document at begins =
      lines_if i (nat_lt i (length text)) _ (Ok document)
      (λ h.
      let inside : i < length text = grind (arith, nat_tests) in
      lines_on i n (line_from text document (after_blanks text i)) (a_line i (begins inside) at document) (λ r border more. lines_are n r.1 r.0 border more))
      (λ h. tt)

  whole_lines : (o : TomlReading Document) → Lines 0 o → Lines 0 (then_read (λ (document : Document). Ok (root_value text document)) o)
  whole_lines (Ok document) is = tt
  whole_lines (Err fault) is = is

  pub text_fault : (fault : SyntaxError) → read_text text ≡ Err fault → IsSyntaxFault text 0 fault
  text_fault fault e =
      let all = lines_are (suc (length text)) 0 no_lines (IsCharBoundary-start text utf8) (λ inside. tt) in
      subst (Lines 0) e (whole_lines (read_lines (suc (length text)) text 0 no_lines) all)
