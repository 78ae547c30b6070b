-- Faults of tokens: where they are, and what is there.
use Rattle.std.proofs.Common.{◌≡◌, ℕ, zero, suc, ◌+◌, ◌-◌, ◌<◌, ◌≤◌, ⊎_elim, inl, Bool, true, false, cond, eqb, nat_lt, nat_le, not, ◌&&◌, ◌||◌, List, [], ◌∷◌, ◌++◌, length, get_or, slice_get, take, drop, Option, Some, None, Ok, Err, true≢false, refl, ap, sym, subst, ◌∙◌, eqb-true, arith, length-drop}
use Rattle.std.proofs.lemmas.Bool.Decides.{nat_tests}
use Rattle.std.proofs.lemmas.List.Sums.{prefix_len-le-length}
use Rattle.std.proofs.lemmas.Str.{IsCharBoundary-end}
use Rattle.std.specs.List.{prefix_len}
use Rattle.std.specs.Prelude.{is_some as option_is_some}
use Rattle.std.specs.Str.{IsCharBoundary, IsUtf8}
use Rattle.toml_subset.specs.Answer.{TomlReading, fault_at, stop_error, then_read, fault_or}
use Rattle.toml_subset.specs.Bytes.{backslash, may_stand}
use Rattle.toml_subset.specs.Faults.{ArePiecesTo, BreaksOff, escape_end, digits_end, IsSyntaxFault}
use Rattle.toml_subset.specs.Numbers.{is_digit_in}
use Rattle.toml_subset.specs.Places.{stands, behind_line_end, char_end}
use Rattle.toml_subset.specs.StringReading.{scalar_fault, escape_is_cut, escape_fault, part_fault, Pieces, after_part, read_pieces, StringFound, string_from, read_string}
use Rattle.toml_subset.specs.StringViews.{is_plain_part}
use Rattle.toml_subset.specs.Strings.{Quoting, mark_of, is_long, has_escapes, marks_in_row, StringPiece, StringPart, piece, closing, broken, opening, plain_piece, escape_at, mark_at, plain_at, part_at}
use Rattle.toml_subset.specs.declared.error.SyntaxError.{SyntaxError}
use Rattle.toml_subset.specs.declared.error.SyntaxReason.TheVariants.{UnexpectedEnd, Unexpected, InvalidEscape, ControlCharacter}
use Rattle.toml_subset.proofs.Escapes.{behind_byte}
use Rattle.toml_subset.proofs.Law.Basics.{if_is, if_true, if_false}
use Rattle.toml_subset.proofs.Law.Forward.{piece_goes, closing_goes, opening_goes}
use Rattle.toml_subset.proofs.Law.Fronts.{passes_inside}
use Rattle.toml_subset.proofs.PlainRuns.{passes_is, prefix_take, plain_border}
use Rattle.toml_subset.proofs.Runs.{run_end_passes, control_ascii}
use Rattle.toml_subset.proofs.text_laws.Borders.{behind_low, hex_low, char_border, marks_border, closing_border}

byte_there : (text : List ℕ) (i : ℕ) → i < length text → slice_get text i ≡ Some (get_or text i 0)
byte_there [] i inside = absurd (omega arith)
byte_there (x ∷ xs) zero inside = refl
byte_there (x ∷ xs) (suc i) inside = byte_there xs i (omega arith)

or_none : (a b : Bool) → (a || b) ≡ false → a ≡ false
or_none true b h = absurd (true≢false h)
or_none false b h = refl

both : (a b : Bool) → (a && b) ≡ true → (a ≡ true) × (b ≡ true)
both true b h = (refl, h)
both false b h = absurd (true≢false (sym h))

not_so : (b : Bool) → b ≡ false → not b ≡ true
not_so true h = absurd (true≢false h)
not_so false h = refl

-- a piece behind others
pub pieces_on : (kind : Quoting) (text : List ℕ) (first i k : ℕ) (ps : List StringPiece) (p : StringPiece) → ArePiecesTo kind text first ps i → part_at kind text i ≡ piece p k
    → ArePiecesTo kind text first (ps ++ p ∷ []) k
pieces_on kind text first i k [] p at e = (k, subst (λ j. part_at kind text j ≡ piece p k) at e, refl)
pieces_on kind text first i k (q ∷ qs) p at e = (at.0, at.1, pieces_on kind text at.0 i k qs p at.2 e)

module _ (text : List ℕ) (utf8 : IsUtf8 text) where
  -- What reading answers from a place on: a border behind it, or a fault from there on.
  abbrev pub Fine : {A : Type 0} → (A → ℕ) → ℕ → TomlReading A → Type 0
  Fine end from (Ok x) = (from ≤ end x) × IsCharBoundary text (end x)
  Fine end from (Err fault) = IsSyntaxFault text from fault

  pub fault_from : (from later : ℕ) (fault : SyntaxError) → from ≤ later → IsSyntaxFault text later fault → IsSyntaxFault text from fault
  fault_from from later fault le is = record {
    begins = let begins = is.begins in omega arith;
    ordered = is.ordered;
    start_border = is.start_border;
    end_border = is.end_border;
    there = is.there;
  }

  pub weaker : {A : Type 0} (end : A → ℕ) (from later : ℕ) (o : TomlReading A) → from ≤ later → Fine end later o → Fine end from o
  weaker end from later (Ok x) le is = (let past = is.0 in omega arith, is.1)
  weaker end from later (Err fault) le is = fault_from from later fault le is

  pub then_fine : {A B : Type 0} (end : A → ℕ) (last : B → ℕ) (from : ℕ) (f : A → TomlReading B) (o : TomlReading A) → Fine end from o
      → ((x : A) → o ≡ Ok x → from ≤ end x → IsCharBoundary text (end x) → Fine last from (f x)) → Fine last from (then_read f o)
  then_fine end last from f (Ok x) here further = further x refl here.0 here.1
  then_fine end last from f (Err fault) here further = here

  pub if_fine : {A : Type 0} (end : A → ℕ) (from : ℕ) (b : Bool) (x y : TomlReading A) → (b ≡ true → Fine end from x) → (b ≡ false → Fine end from y) → Fine end from (cond b x y)
  if_fine end from true x y first second = first refl
  if_fine end from false x y first second = second refl

  pub if_fault : (from : ℕ) (b : Bool) (x y : SyntaxError) → (b ≡ true → IsSyntaxFault text from x) → (b ≡ false → IsSyntaxFault text from y) → IsSyntaxFault text from (cond b x y)
  if_fault from true x y first second = first refl
  if_fault from false x y first second = second refl

  abbrev pub SomeFault : ℕ → Option SyntaxError → Type 0
  SomeFault from (Some fault) = IsSyntaxFault text from fault
  SomeFault from None = Unit {0}

  pub unless_fine : {A : Type 0} (end : A → ℕ) (from : ℕ) (fault : Option SyntaxError) (o : TomlReading A) → SomeFault from fault → (fault ≡ None → Fine end from o) → Fine end from (fault_or fault o)
  unless_fine end from (Some fault) o here further = here
  unless_fine end from None o here further = further refl

  -- nothing can go on

  pub ended : (from : ℕ) → from ≤ length text → IsSyntaxFault text from (fault_at UnexpectedEnd (length text) (length text))
  ended from room = record { begins = room; ordered = omega arith; start_border = IsCharBoundary-end text; end_border = IsCharBoundary-end text; there = refl }

  unexpected : (i : ℕ) → i < length text → IsCharBoundary text i → IsSyntaxFault text i (fault_at Unexpected i (char_end text i))
  unexpected i inside at = record { begins = omega arith; ordered = omega arith; start_border = at; end_border = char_border text utf8 i inside; there = (inside, refl) }

  pub stuck_from : (from i : ℕ) → from ≤ length text → from ≤ i → (i < length text → IsCharBoundary text i) → IsSyntaxFault text from (stop_error text i)
  stuck_from from i room le at =
      if_fault from (nat_lt i (length text)) (fault_at Unexpected i (char_end text i)) (fault_at UnexpectedEnd (length text) (length text))
      (λ h. let inside : i < length text = grind (arith, nat_tests) in fault_from from i (fault_at Unexpected i (char_end text i)) le (unexpected i inside (at inside)))
      (λ h. ended from room)

  pub stuck_at : (i : ℕ) → IsCharBoundary text i → IsSyntaxFault text i (stop_error text i)
  stuck_at i at = stuck_from i i at.0 (omega arith) (λ inside. at)

  -- strings

  module _ (kind : Quoting) (from i : ℕ) (room : from ≤ length text) (le : from ≤ i) (breaks : BreaksOff kind text i) where
    -- where a string breaks off a character begins
    broken_border : i < length text → IsCharBoundary text i
    broken_border inside = plain_border kind text i (omega arith) (ap is_plain_part breaks.breaks)

    many_marks : stands text i (mark_of kind) ≡ true → 5 < marks_in_row (mark_of kind) text i
    many_marks h =
        let marks = marks_in_row (mark_of kind) text i in
        let here : mark_at kind text i ≡ broken =
        sym (if_true (stands text i (mark_of kind)) (mark_at kind text i) (cond (has_escapes kind && stands text i backslash) (escape_at kind text i) (plain_at kind text i)) h) ∙ breaks.breaks in
        ⊎_elim
        (λ long.
        ⊎_elim (λ three. let never : closing (i + 3) ≡ broken = three.1 in absurd (cc))
        (λ other.
        ⊎_elim (λ few. let never : plain_piece (mark_of kind ∷ []) (i + 1) ≡ broken = few.1 in absurd (cc)) (λ many. let test = many.0 in grind (arith, nat_tests))
        (if_is (nat_le marks 5) (plain_piece (mark_of kind ∷ []) (i + 1)) broken broken other.1))
        (if_is (eqb marks 3) (closing (i + 3)) (cond (nat_le marks 5) (plain_piece (mark_of kind ∷ []) (i + 1)) broken) broken long.1))
        (λ short. let never : closing (i + 1) ≡ broken = short.1 in absurd (cc))
        (if_is (is_long kind) (cond (eqb marks 3) (closing (i + 3)) (cond (nat_le marks 5) (plain_piece (mark_of kind ∷ []) (i + 1)) broken)) (closing (i + 1)) broken here)

    marks_fault : stands text i (mark_of kind) ≡ true → IsSyntaxFault text from (stop_error text (i + 5))
    marks_fault h =
        let many = many_marks h in
        let back : i + 4 + 1 ≡ i + 5 = omega arith in
        stuck_from from (i + 5) room (omega arith) (λ inside. subst (IsCharBoundary text) back (marks_border text utf8 kind i 4 (omega arith)))

    -- a wrong escape, from its backslash up to a border
    wrong_escape : has_escapes kind ≡ true → stands text i backslash ≡ true → (end : ℕ) → i ≤ end → IsCharBoundary text end → end ≡ escape_end text i
        → IsSyntaxFault text from (fault_at InvalidEscape i end)
    wrong_escape has here end ordered at is =
        let inside = passes_inside (λ b. eqb b backslash) text i here in
        record { begins = le; ordered = ordered; start_border = broken_border inside; end_border = at; there = ((kind, has, breaks), here, is) }

    scalar_is : has_escapes kind ≡ true → stands text i backslash ≡ true → (digits letter : ℕ) → 0 < digits → stands text (i + 1) letter ≡ true → letter < 128
        → escape_end text i ≡ digits_end digits text (i + 2) → IsSyntaxFault text from (scalar_fault digits text i)
    scalar_is has here digits letter some by low end_is =
        let found = prefix_len (is_digit_in 16) (take digits (drop (i + 2) text)) in
        let fewer = prefix_take (is_digit_in 16) digits (drop (i + 2) text) in
        let least = prefix_len-le-length (is_digit_in 16) (drop (i + 2) text) in
        let rest = length-drop (i + 2) text in
        let next = behind_byte text utf8 (i + 1) letter low by in
        let within : i + 2 ≤ length text = (let inside = next.0 in omega arith) in
        let most : found ≤ prefix_len (is_digit_in 16) (drop (i + 2) text) = grind (arith, nat_tests) in
        if_fault from (eqb found digits) _ _
        (λ h.
        let same = eqb-true found digits h in
        let last = i + 2 + digits - 1 in
        let ascii = hex_low (get_or text last 0) (run_end_passes (is_digit_in 16) text (i + 2) last (omega arith) (omega arith)) in
        let back : last + 1 ≡ i + 2 + digits = omega arith in
        wrong_escape has here (i + 2 + digits) (omega arith) (subst (IsCharBoundary text) back (behind_low text utf8 last (omega arith) ascii))
        (sym (end_is ∙ if_true (eqb found digits) (i + 2 + digits) (char_end text (i + 2 + found)) h)))
        (λ h.
        if_fault from (nat_lt (i + 2 + found) (length text)) _ _
        (λ k.
        let inside : i + 2 + found < length text = grind (arith, nat_tests) in
        wrong_escape has here (char_end text (i + 2 + found)) (omega arith) (char_border text utf8 (i + 2 + found) inside)
        (sym (end_is ∙ if_false (eqb found digits) (i + 2 + digits) (char_end text (i + 2 + found)) h)))
        (λ k. stuck_from from (length text) room room (λ inside. absurd (omega arith))))

    escape_is : has_escapes kind ≡ true → stands text i backslash ≡ true → IsSyntaxFault text from (escape_fault kind text i)
    escape_is has here =
        if_fault from (stands text (i + 1) 117) _ _
        (λ h. scalar_is has here 4 117 (omega arith) h (omega arith)
        (if_true (stands text (i + 1) 117) (digits_end 4 text (i + 2)) (cond (stands text (i + 1) 85) (digits_end 8 text (i + 2)) (char_end text (i + 1))) h))
        (λ h.
        if_fault from (stands text (i + 1) 85) _ _
        (λ k. scalar_is has here 8 85 (omega arith) k (omega arith)
        (if_false (stands text (i + 1) 117) (digits_end 4 text (i + 2)) (cond (stands text (i + 1) 85) (digits_end 8 text (i + 2)) (char_end text (i + 1))) h
        ∙ if_true (stands text (i + 1) 85) (digits_end 8 text (i + 2)) (char_end text (i + 1)) k))
        (λ k.
        if_fault from (escape_is_cut kind text i) _ _ (λ cut. stuck_from from (length text) room room (λ inside. absurd (omega arith)))
        (λ whole_escape.
        let other = or_none (eqb (i + 1) (length text)) _ whole_escape in
        let here_inside = passes_inside (λ b. eqb b backslash) text i here in
        let inside : i + 1 < length text = grind (arith, nat_tests) in
        wrong_escape has here (char_end text (i + 1)) (omega arith) (char_border text utf8 (i + 1) inside)
        (sym (if_false (stands text (i + 1) 117) (digits_end 4 text (i + 2)) (cond (stands text (i + 1) 85) (digits_end 8 text (i + 2)) (char_end text (i + 1))) h
        ∙ if_false (stands text (i + 1) 85) (digits_end 8 text (i + 2)) (char_end text (i + 1)) k)))))

    -- a byte that may not are in a string
    cannot_stand : stands text i (mark_of kind) ≡ false → (has_escapes kind && stands text i backslash) ≡ false → i < length text → may_stand (get_or text i 0) ≡ false
    cannot_stand mark escape inside =
        let c = get_or text i 0 in
        let ends = is_long kind && option_is_some (behind_line_end text i) in
        let plain : plain_at kind text i ≡ broken =
        sym (if_false (stands text i (mark_of kind)) (mark_at kind text i) (cond (has_escapes kind && stands text i backslash) (escape_at kind text i) (plain_at kind text i)) mark
        ∙ if_false (has_escapes kind && stands text i backslash) (escape_at kind text i) (plain_at kind text i) escape) ∙ breaks.breaks in
        let here = sym (ap (λ o. elim o [ Some b ↦ cond (may_stand b || ends) (plain_piece (b ∷ []) (i + 1)) broken | None ↦ broken ]) (byte_there text i inside)) ∙ plain in
        ⊎_elim (λ h. let never : plain_piece (c ∷ []) (i + 1) ≡ broken = h.1 in absurd (cc)) (λ h. or_none (may_stand c) ends h.0)
        (if_is (may_stand c || ends) (plain_piece (c ∷ []) (i + 1)) broken broken here)

    control_is : stands text i (mark_of kind) ≡ false → (has_escapes kind && stands text i backslash) ≡ false → i < length text
        → IsSyntaxFault text from (fault_at ControlCharacter i (i + 1))
    control_is mark escape inside =
        let fails = not_so (may_stand (get_or text i 0)) (cannot_stand mark escape inside) in
        record {
          begins = le;
          ordered = omega arith;
          start_border = broken_border inside;
          end_border = behind_low text utf8 i inside (control_ascii (get_or text i 0) fails);
          there = (inl (kind, breaks), passes_is (λ c. not (may_stand c)) text i inside ∙ fails, refl);
        }

    pub part_is : IsSyntaxFault text from (part_fault kind text i)
    part_is =
        if_fault from (stands text i (mark_of kind)) _ _ (λ h. marks_fault h)
        (λ h.
        if_fault from (has_escapes kind && stands text i backslash) _ _
        (λ k. let parts = both (has_escapes kind) (stands text i backslash) k in escape_is parts.0 parts.1)
        (λ k.
        if_fault from (nat_lt i (length text)) _ _ (λ l. let inside : i < length text = grind (arith, nat_tests) in control_is h k inside)
        (λ l. stuck_from from i room le (λ inside. absurd (let less : i < length text = inside in let test : nat_lt i (length text) ≡ true = grind (arith, nat_tests) in true≢false (sym test ∙ l))))))

  -- the pieces of a string that begins at a place

  module _ (kind : Quoting) (place first : ℕ) (opens : opening text place ≡ Some (kind, first)) (room : place ≤ length text) where
    abbrev pieces_end : Pieces → ℕ
    pieces_end r = r.2

    part_fine : (n i : ℕ) (ps : List StringPiece) → place ≤ i → ArePiecesTo kind text first ps i
        → ((k : ℕ) (p : StringPiece) → i < k → part_at kind text i ≡ piece p k → Fine pieces_end place (read_pieces n kind text k))
        → (q : StringPart) → part_at kind text i ≡ q → Fine pieces_end place (after_part kind text i (read_pieces n kind text) q)
    part_fine n i ps le are further (piece p k) e =
        then_fine pieces_end pieces_end place (λ (r : Pieces). Ok (p ∷ r.0, r.1, r.2)) (read_pieces n kind text k) (further k p (piece_goes kind text i p k e) e) (λ x is past at. (past, at))
    part_fine n i ps le are further (closing k) e = (let goes = closing_goes kind text i k e in omega arith, closing_border text utf8 kind i k e)
    part_fine n i ps le are further broken e =
        part_is kind place i room le (record { place = place; first = first; pieces = ps; opens = opens; body = are; breaks = e })

    pub pieces_fine : (n i : ℕ) (ps : List StringPiece) → place ≤ i → length text < i + n → ArePiecesTo kind text first ps i → Fine pieces_end place (read_pieces n kind text i)
    pieces_fine zero i ps le enough are = stuck_from place i room le (λ inside. absurd (omega arith))
    pieces_fine (suc n) i ps le enough are =
        part_fine n i ps le are
        (λ k p goes e. pieces_fine n k (ps ++ p ∷ []) (omega arith) (omega arith) (pieces_on kind text first i k ps p are e))
        (part_at kind text i) refl

  pub string_fine : (i : ℕ) → IsCharBoundary text i → Fine (λ (r : StringFound). r.2) i (read_string text i)
  string_fine i at =
      elim (opening text i) as (λ o. opening text i ≡ o → Fine (λ (r : StringFound). r.2) i (elim o [ Some first ↦ string_from text first | None ↦ Err (stop_error text i) ])) [
        | Some first ↦ λ is.
            let goes = opening_goes text i first is in
            then_fine (λ (r : Pieces). r.2) (λ (r : StringFound). r.2) i _ (read_pieces (suc (length text)) first.0 text first.1)
            (pieces_fine first.0 i first.1 is at.0 (suc (length text)) first.1 [] (omega arith) (omega arith) refl) (λ x e past border. (past, border))
        | None ↦ λ is. stuck_at i at
      ] refl
