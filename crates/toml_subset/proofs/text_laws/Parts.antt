-- Faults of keys: in them, and at a part that the table rules refuse.
use Rattle.std.proofs.Common.{◌≡◌, ℕ, zero, suc, ◌+◌, ◌<◌, ◌≤◌, ◌⊎◌, ⊎_elim, inl, inr, Bool, true, false, cond, eqb, nat_lt, nat_le, ◌||◌, List, [], ◌∷◌, ◌++◌, append_assoc, length, Option, Some, None, Ok, refl, ap, sym, subst, ◌∙◌, arith}
use Rattle.std.proofs.lemmas.Bool.Decides.{nat_tests}
use Rattle.std.specs.Str.{IsCharBoundary, IsUtf8}
use Rattle.deny_text.specs.declared.span.Span.{Span}
use Rattle.toml_subset.specs.Bytes.{quote, apostrophe, dot, equals, is_bare}
use Rattle.toml_subset.specs.Data.{depth_limit}
use Rattle.toml_subset.specs.Faults.{Role, of_pair, of_header, of_array_header, IsKeyOf, IsKeyPart, IsLastPart, IsTablePart, IsSyntaxFault}
use Rattle.toml_subset.specs.Keys.{IsKey, AreKeys}
use Rattle.toml_subset.specs.Places.{passes_at, stands, after_blanks}
use Rattle.toml_subset.specs.StringReading.{StringFound, read_string, begins_long, KeyFound, bare_key, quoted_key, read_key, KeysFound, keys_behind, read_keys, keys_at, equals_behind, read_left}
use Rattle.toml_subset.specs.StringViews.{is_plain_part}
use Rattle.toml_subset.specs.Strings.{Quoting, basic, literal, marks_in_row, StringPiece, ArePieces, IsString}
use Rattle.toml_subset.specs.TableFaults.{Inside, table_node_at, inside_any, inside_dotted, fault_at_key, way_fault, new_key_fault, put_fault, taken_over_fault, open_table_fault, header_fault, appended_fault, open_array_fault, array_header_fault}
use Rattle.toml_subset.specs.Tables.{Node, Branches, by_header, implicit, dotted, closed, growing, tables, unbranched, has_key}
use Rattle.toml_subset.specs.declared.error.SyntaxError.{SyntaxError}
use Rattle.toml_subset.specs.declared.error.SyntaxReason.{SyntaxReason}
use Rattle.toml_subset.specs.declared.error.SyntaxReason.TheVariants.{DuplicateKey, RedefinedTable, TooDeep}
use Rattle.toml_subset.specs.declared.string.Key.{Key}
use Rattle.toml_subset.proofs.Escapes.{opening_border}
use Rattle.toml_subset.proofs.KeyRuns.{bare_borders}
use Rattle.toml_subset.proofs.Law.Forward.{piece_goes, closing_goes, opening_goes, key_goes}
use Rattle.toml_subset.proofs.Law.Fronts.{run_some}
use Rattle.toml_subset.proofs.Law.Inside.{pieces_in}
use Rattle.toml_subset.proofs.PlainRuns.{plain_border}
use Rattle.toml_subset.proofs.text_laws.Borders.{bare_low, low_run_border, blanks_border, marks_border, closing_border}
use Rattle.toml_subset.proofs.text_laws.Stuck.{Fine, weaker, then_fine, if_fine, SomeFault, stuck_from, stuck_at, string_fine}
use Rattle.toml_subset.proofs.Escapes.{behind_byte}

either : (a b : Bool) → (a || b) ≡ true → (a ≡ true) ⊎ (b ≡ true)
either true b h = inl refl
either false b h = inr h

-- the pieces up to the closing, in order
pieces_order : (kind : Quoting) (text : List ℕ) (i : ℕ) (ps : List StringPiece) (close next : ℕ) → ArePieces kind text i ps close next → (i ≤ close) × (close < next)
pieces_order kind text i [] close next is = let at = is.1 in let goes = closing_goes kind text i next is.0 in (omega arith, omega arith)
pieces_order kind text i (p ∷ ps) close next is =
    let goes = piece_goes kind text i p is.0 is.1 in let rest = pieces_order kind text is.0 ps close next is.2 in let le = rest.0 in (omega arith, rest.1)

module _ (text : List ℕ) (utf8 : IsUtf8 text) where
  -- where a span of a key lies
  pub record IsSpanFrom (from : ℕ) (span : Span) : Type 0 where
    pub begins : from ≤ span.start
    pub ordered : span.start ≤ span.end
    pub start_border : IsCharBoundary text span.start
    pub end_border : IsCharBoundary text span.end

  close_border : (kind : Quoting) (i : ℕ) (ps : List StringPiece) (close next : ℕ) → ArePieces kind text i ps close next → IsCharBoundary text close
  close_border kind i [] close next is =
      let goes = closing_goes kind text i next is.0 in
      let inside = pieces_in kind text i [] close next is in
      subst (IsCharBoundary text) (sym is.1) (plain_border kind text i (omega arith) (ap is_plain_part is.0))
  close_border kind i (p ∷ ps) close next is = close_border kind is.0 ps close next is.2

  end_border_of : (kind : Quoting) (i : ℕ) (ps : List StringPiece) (close next : ℕ) → ArePieces kind text i ps close next → IsCharBoundary text next
  end_border_of kind i [] close next is = closing_border text utf8 kind i next is.0
  end_border_of kind i (p ∷ ps) close next is = end_border_of kind is.0 ps close next is.2

  pub string_span : (i : ℕ) (kind : Quoting) (key : Key) (next : ℕ) → IsString text i kind key.name key.span next → IsSpanFrom i key.span
  string_span i kind key next is =
      let order = pieces_order kind text is.first is.pieces is.close next is.body in
      let le = order.0 in
      let goes = opening_goes text i (kind, is.first) is.opens in
      subst (IsSpanFrom i) (sym is.spans) (record {
        begins = omega arith;
        ordered = omega arith;
        start_border = opening_border text utf8 i (kind, is.first) is.opens;
        end_border = close_border kind is.first is.pieces is.close next is.body;
      })

  pub key_span : (i : ℕ) (key : Key) (next : ℕ) → IsKey text i key next → IsSpanFrom i key.span
  key_span i key next (inl bare) =
      let some = bare.some in
      let ends = bare.ends in
      let borders = bare_borders text utf8 i (run_some is_bare text i (omega arith)) in
      subst (λ (x : Key). IsSpanFrom i x.span) (sym bare.is)
      (record { begins = omega arith; ordered = omega arith; start_border = borders.1; end_border = subst (IsCharBoundary text) (sym ends) borders.2 })
  key_span i key next (inr (inl is)) = string_span i basic key next is
  key_span i key next (inr (inr is)) = string_span i literal key next is

  later_span : (from later : ℕ) (span : Span) → from ≤ later → IsSpanFrom later span → IsSpanFrom from span
  later_span from later span le is =
      record { begins = (let begins = is.begins in omega arith); ordered = is.ordered; start_border = is.start_border; end_border = is.end_border }

  no_part : (xs : List Key) (key : Key) (behind : List Key) → xs ++ key ∷ behind ≡ [] → ⊥
  no_part [] key behind e = cc
  no_part (x ∷ xs) key behind e = cc

  -- a part among others
  pub part_span : (i : ℕ) (before : List Key) (key : Key) (behind : List Key) (next : ℕ) → AreKeys text i (before ++ key ∷ behind) next → IsSpanFrom i key.span
  part_span i [] key behind next is = key_span i key is.0 is.1
  part_span i (x ∷ xs) key behind next is =
      let goes = key_goes text i x is.0 is.1 in
      let from : i ≤ after_blanks text (after_blanks text is.0 + 1) = omega arith in
      ⊎_elim (λ dotted. later_span i _ key.span from (part_span (after_blanks text (after_blanks text is.0 + 1)) xs key behind next dotted.1))
      (λ only. let none : xs ++ key ∷ behind ≡ [] = only.1 in absurd (no_part xs key behind none)) is.2

  -- reading keys

  key_fine : (i : ℕ) → IsCharBoundary text i → Fine text utf8 (λ (r : KeyFound). r.1) i (read_key text i)
  key_fine i at =
      if_fine text utf8 (λ (r : KeyFound). r.1) i (passes_at is_bare text i) (Ok (bare_key text i)) (quoted_key text i) (λ h. (omega arith, low_run_border text utf8 is_bare bare_low i at))
      (λ h.
      if_fine text utf8 (λ (r : KeyFound). r.1) i (begins_long text i) _ _
      (λ k. stuck_from text utf8 i (i + 2) at.0 (omega arith)
      (λ inside.
      let back : i + 1 + 1 ≡ i + 2 = omega arith in
      ⊎_elim
      (λ q. let three : 3 ≤ marks_in_row quote text i = grind (arith, nat_tests) in subst (IsCharBoundary text) back (marks_border text utf8 basic i 1 (omega arith)))
      (λ q. let three : 3 ≤ marks_in_row apostrophe text i = grind (arith, nat_tests) in subst (IsCharBoundary text) back (marks_border text utf8 literal i 1 (omega arith)))
      (either (nat_le 3 (marks_in_row quote text i)) (nat_le 3 (marks_in_row apostrophe text i)) k)))
      (λ k. then_fine text utf8 (λ (r : StringFound). r.2) (λ (r : KeyFound). r.1) i _ (read_string text i) (string_fine text utf8 i at) (λ x e past border. (past, border))))

  keys_fine : (n i : ℕ) → IsCharBoundary text i → Fine text utf8 (λ (r : KeysFound). r.1) i (read_keys n text i)
  keys_fine zero i at = stuck_at text utf8 i at
  keys_fine (suc n) i at =
      then_fine text utf8 (λ (r : KeyFound). r.1) (λ (r : KeysFound). r.1) i (keys_behind (read_keys n text) text) (read_key text i) (key_fine i at)
      (λ key e past border.
      let blanks = blanks_border text utf8 key.1 border in
      if_fine text utf8 (λ (r : KeysFound). r.1) i (stands text (after_blanks text key.1) dot) _ _
      (λ h.
      let j = after_blanks text (after_blanks text key.1 + 1) in
      let dot_border = behind_byte text utf8 (after_blanks text key.1) dot (omega arith) h in
      let from : i ≤ j = omega arith in
      then_fine text utf8 (λ (r : KeysFound). r.1) (λ (r : KeysFound). r.1) i _ (read_keys n text j)
      (weaker text utf8 (λ (r : KeysFound). r.1) i j (read_keys n text j) from (keys_fine n j (blanks_border text utf8 _ dot_border.1))) (λ x found on there. (on, there)))
      (λ h. (past, border)))

  pub all_keys_fine : (i : ℕ) → IsCharBoundary text i → Fine text utf8 (λ (r : KeysFound). r.1) i (keys_at text i)
  all_keys_fine i at = keys_fine (suc (length text)) i at

  pub left_fine : (i : ℕ) → IsCharBoundary text i → Fine text utf8 (λ (r : KeysFound). r.1) i (read_left text i)
  left_fine i at =
      then_fine text utf8 (λ (r : KeysFound). r.1) (λ (r : KeysFound). r.1) i (equals_behind text) (keys_at text i) (all_keys_fine i at)
      (λ keys e past border.
      let blanks = blanks_border text utf8 keys.1 border in
      if_fine text utf8 (λ (r : KeysFound). r.1) i (stands text (after_blanks text keys.1) equals) _ _
      (λ h.
      let behind = behind_byte text utf8 (after_blanks text keys.1) equals (omega arith) h in
      (omega arith, blanks_border text utf8 _ behind.1))
      (λ h. stuck_from text utf8 i (after_blanks text keys.1) at.0 (omega arith) (λ inside. blanks)))

  -- the parts of a key that the table rules refuse

  module _ (role : Role) (from place next : ℕ) (all : List Key) (le : from ≤ place) (are : AreKeys text place all next) (role_is : IsKeyOf role text place next) where
    abbrev pub PartFault : SyntaxReason → Key → Type 0
    PartFault reason key = IsSyntaxFault text from (record { reason = reason; span = key.span })

    pub a_part : (before : List Key) (key : Key) (behind : List Key) → all ≡ before ++ key ∷ behind → IsKeyPart role behind text key.span
    a_part before key behind is =
        record { before = before; key = key; place = place; next = next; stands_there = subst (λ ks. AreKeys text place ks next) is are; role_is = role_is; spans = refl }

    span_of_part : (before : List Key) (key : Key) (behind : List Key) → all ≡ before ++ key ∷ behind → IsSpanFrom place key.span
    span_of_part before key behind is = part_span place before key behind next (subst (λ ks. AreKeys text place ks next) is are)

    pub duplicate : (before : List Key) (key : Key) (behind : List Key) → all ≡ before ++ key ∷ behind → IsLastPart text key.span → PartFault DuplicateKey key
    duplicate before key behind is there =
        let span = span_of_part before key behind is in
        record { begins = (let begins = span.begins in omega arith); ordered = span.ordered; start_border = span.start_border; end_border = span.end_border; there = there }

    pub redefined : (before : List Key) (key : Key) (behind : List Key) → all ≡ before ++ key ∷ behind → IsTablePart text key.span → PartFault RedefinedTable key
    redefined before key behind is there =
        let span = span_of_part before key behind is in
        record { begins = (let begins = span.begins in omega arith); ordered = span.ordered; start_border = span.start_border; end_border = span.end_border; there = there }

    pub deep : (before : List Key) (key : Key) (behind : List Key) → all ≡ before ++ key ∷ behind → IsTablePart text key.span → PartFault TooDeep key
    deep before key behind is there =
        let span = span_of_part before key behind is in
        record { begins = (let begins = span.begins in omega arith); ordered = span.ordered; start_border = span.start_border; end_border = span.end_border; there = inr there }

    pub some_fault : (b : Bool) (x y : Option SyntaxError) → (b ≡ true → SomeFault text utf8 from x) → (b ≡ false → SomeFault text utf8 from y) → SomeFault text utf8 from (cond b x y)
    some_fault true x y first second = first refl
    some_fault false x y first second = second refl

    -- a way: what its parts before the last are, and what its last part refuses
    pub way_is : (inside : Node → Option Inside) (end : Key → Branches → ℕ → Option SyntaxError)
        → ((before : List Key) (key next_key : Key) (behind : List Key) → all ≡ before ++ key ∷ next_key ∷ behind → IsTablePart text key.span)
        → ((before : List Key) (key : Key) → all ≡ before ++ key ∷ [] → (branches : Branches) (above : ℕ) → SomeFault text utf8 from (end key branches above))
        → (before keys : List Key) → all ≡ before ++ keys → (branches : Branches) (above : ℕ) → SomeFault text utf8 from (way_fault inside end keys branches above)
    way_is inside end middle ends before [] is branches above = tt
    way_is inside end middle ends before (key ∷ []) is branches above = ends before key is branches above
    way_is inside end middle ends before (key ∷ x ∷ more) is branches above =
        let there = middle before key x more is in
        let on : all ≡ (before ++ key ∷ []) ++ x ∷ more = is ∙ sym (append_assoc before (key ∷ []) (x ∷ more)) in
        elim (table_node_at key branches) as (λ o. SomeFault text utf8 from (elim o [
          | Some node ↦ elim (inside node) [ Some found ↦ way_fault inside end (x ∷ more) found.0 (above + found.1) | None ↦ fault_at_key RedefinedTable key ]
          | None ↦ cond (eqb above depth_limit) (fault_at_key TooDeep key) (way_fault inside end (x ∷ more) unbranched (above + 1))
        ])) [
          | Some node ↦ elim (inside node) as (λ o. SomeFault text utf8 from (elim o [ Some found ↦ way_fault inside end (x ∷ more) found.0 (above + found.1) | None ↦ fault_at_key RedefinedTable key ])) [
            | Some found ↦ way_is inside end middle ends (before ++ key ∷ []) (x ∷ more) on found.0 (above + found.1)
            | None ↦ redefined before key (x ∷ more) is there
          ]
          | None ↦ some_fault (eqb above depth_limit) (fault_at_key TooDeep key) (way_fault inside end (x ∷ more) unbranched (above + 1)) (λ h. deep before key (x ∷ more) is there)
              (λ h. way_is inside end middle ends (before ++ key ∷ []) (x ∷ more) on unbranched (above + 1))
        ]

  -- the key of a pair, on a line or in an inline table
  pub put_is : (from place next : ℕ) (keys : List Key) → from ≤ place → AreKeys text place keys next → stands text (after_blanks text next) equals ≡ true
      → (branches : Branches) (above : ℕ) → SomeFault text utf8 from (put_fault keys branches above)
  put_is from place next keys le are equals_there branches above =
      way_is of_pair from place next keys le are equals_there inside_dotted new_key_fault
      (λ before key x behind is. inl (x ∷ behind, omega arith, a_part of_pair from place next keys le are equals_there before key (x ∷ behind) is))
      (λ before key is bs n. some_fault of_pair from place next keys le are equals_there (has_key key bs) (fault_at_key DuplicateKey key) None
      (λ h. duplicate of_pair from place next keys le are equals_there before key [] is (a_part of_pair from place next keys le are equals_there before key [] is)) (λ h. tt))
      [] keys refl branches above

  -- the key of a header
  module _ (from place next : ℕ) (keys : List Key) (le : from ≤ place) (are : AreKeys text place keys next) (role_is : IsKeyOf of_header text place next) where
    header_part : (before : List Key) (key : Key) (behind : List Key) → keys ≡ before ++ key ∷ behind → IsTablePart text key.span
    header_part before key behind is = inr (behind, inl (a_part of_header from place next keys le are role_is before key behind is))

    taken_is : (before : List Key) (key : Key) → keys ≡ before ++ key ∷ [] → (node : Node) → SomeFault text utf8 from (taken_over_fault key node)
    taken_is before key is (closed span content) = redefined of_header from place next keys le are role_is before key [] is (header_part before key [] is)
    taken_is before key is (growing span by_header branches) = redefined of_header from place next keys le are role_is before key [] is (header_part before key [] is)
    taken_is before key is (growing span implicit branches) = tt
    taken_is before key is (growing span dotted branches) = redefined of_header from place next keys le are role_is before key [] is (header_part before key [] is)
    taken_is before key is (tables span bodies) = redefined of_header from place next keys le are role_is before key [] is (header_part before key [] is)

    open_is : (before : List Key) (key : Key) → keys ≡ before ++ key ∷ [] → (branches : Branches) (above : ℕ) → SomeFault text utf8 from (open_table_fault key branches above)
    open_is before key is branches above =
        elim (table_node_at key branches) as (λ o. SomeFault text utf8 from (elim o [ Some node ↦ taken_over_fault key node | None ↦ cond (eqb above depth_limit) (fault_at_key TooDeep key) None ])) [
          | Some node ↦ taken_is before key is node
          | None ↦ some_fault of_header from place next keys le are role_is (eqb above depth_limit) (fault_at_key TooDeep key) None
              (λ h. deep of_header from place next keys le are role_is before key [] is (header_part before key [] is)) (λ h. tt)
        ]

    pub header_is : (root : Branches) → SomeFault text utf8 from (header_fault keys root)
    header_is root =
        way_is of_header from place next keys le are role_is inside_any open_table_fault (λ before key x behind is. header_part before key (x ∷ behind) is) open_is [] keys refl root 0

  -- the key of an array header
  module _ (from place next : ℕ) (keys : List Key) (le : from ≤ place) (are : AreKeys text place keys next) (role_is : IsKeyOf of_array_header text place next) where
    array_part : (before : List Key) (key : Key) (behind : List Key) → keys ≡ before ++ key ∷ behind → IsTablePart text key.span
    array_part before key behind is = inr (behind, inr (a_part of_array_header from place next keys le are role_is before key behind is))

    appended_is : (before : List Key) (key : Key) → keys ≡ before ++ key ∷ [] → (node : Node) → SomeFault text utf8 from (appended_fault key node)
    appended_is before key is (closed span content) = redefined of_array_header from place next keys le are role_is before key [] is (array_part before key [] is)
    appended_is before key is (growing span mark branches) = redefined of_array_header from place next keys le are role_is before key [] is (array_part before key [] is)
    appended_is before key is (tables span bodies) = tt

    open_array_is : (before : List Key) (key : Key) → keys ≡ before ++ key ∷ [] → (branches : Branches) (above : ℕ) → SomeFault text utf8 from (open_array_fault key branches above)
    open_array_is before key is branches above =
        elim (table_node_at key branches) as (λ o. SomeFault text utf8 from (elim o [ Some node ↦ appended_fault key node | None ↦ cond (nat_lt (above + 1) depth_limit) None (fault_at_key TooDeep key) ])) [
          | Some node ↦ appended_is before key is node
          | None ↦ some_fault of_array_header from place next keys le are role_is (nat_lt (above + 1) depth_limit) None (fault_at_key TooDeep key) (λ h. tt)
              (λ h. deep of_array_header from place next keys le are role_is before key [] is (array_part before key [] is))
        ]

    pub array_header_is : (root : Branches) → SomeFault text utf8 from (array_header_fault keys root)
    array_header_is root =
        way_is of_array_header from place next keys le are role_is inside_any open_array_fault (λ before key x behind is. array_part before key (x ∷ behind) is) open_array_is [] keys refl root 0
