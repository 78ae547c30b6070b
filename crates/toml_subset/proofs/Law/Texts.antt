-- Strings and keys are read exactly where they are.
use Rattle.std.proofs.Common.{◌≡◌, ℕ, zero, suc, ◌+◌, ◌<◌, ◌≤◌, ◌⊎◌, inl, inr, ⊎_elim, Bool, true, false, cond, eqb, ◌||◌, nat_le, List, [], ◌∷◌, length, drop, Option, Some, None, Ok, Err, unwrap_or, true≢false, refl, ap, sym, subst, ◌∙◌, arith}
use Rattle.std.proofs.lemmas.Bool.Decides.{nat_tests}
use Rattle.std.specs.List.{prefix_len}
use Rattle.deny_text.specs.declared.span.Span.{Span}
use Rattle.toml_subset.specs.Answer.{TomlReading, stop_error, then_read}
use Rattle.toml_subset.specs.Bytes.{quote, apostrophe, dot, equals, is_bare}
use Rattle.toml_subset.specs.Keys.{IsKey, AreKeys}
use Rattle.toml_subset.specs.Places.{front_is, from_to, passes_at, stands, run_at, after_blanks, behind_line_end}
use Rattle.toml_subset.specs.StringReading.{Pieces, after_part, part_fault, read_pieces, StringFound, string_from, read_string, begins_long, KeyFound, bare_key, read_key, KeysFound, keys_behind, read_keys, keys_at, equals_behind, read_left}
use Rattle.toml_subset.specs.Strings.{Quoting, basic, literal, long_basic, long_literal, StringPiece, StringPart, piece, closing, broken, marks_in_row, opening, opening_of, part_at, written_of, ArePieces, IsString}
use Rattle.toml_subset.specs.Written.{WrittenString}
use Rattle.toml_subset.specs.declared.string.Key.{Key}
use Rattle.toml_subset.proofs.Law.Basics.{is_ok, not_ok, then_ok, if_is, if_true, if_false}
use Rattle.toml_subset.proofs.Law.Forward.{piece_goes, pieces_go, key_goes, keys_go}
use Rattle.toml_subset.proofs.Law.Fronts.{stands_other, passes_other, run_some, opening_front}

-- strings

abbrev PiecesAt : Quoting → List ℕ → ℕ → Pieces → Type 0
PiecesAt kind text i r = ArePieces kind text i r.0 r.1 r.2

part_sound : (kind : Quoting) (text : List ℕ) (i : ℕ) (rest : ℕ → TomlReading Pieces) (r : Pieces) → ((k : ℕ) (x : Pieces) → rest k ≡ Ok x → PiecesAt kind text k x)
    → (q : StringPart) → part_at kind text i ≡ q → after_part kind text i rest q ≡ Ok r → PiecesAt kind text i r
part_sound kind text i rest r all (piece p k) here e =
    let found = then_ok (λ (x : Pieces). Ok (p ∷ x.0, x.1, x.2)) (rest k) r e in
    subst (PiecesAt kind text i) (is_ok _ r found.2) (k, here, all k found.0 found.1)
part_sound kind text i rest r all (closing next) here e = subst (PiecesAt kind text i) (is_ok ([], i, next) r e) (here, refl)
part_sound kind text i rest r all broken here e = absurd (not_ok (part_fault kind text i) r e)

pub pieces_sound : (n : ℕ) (kind : Quoting) (text : List ℕ) (i : ℕ) (r : Pieces) → read_pieces n kind text i ≡ Ok r → PiecesAt kind text i r
pieces_sound zero kind text i r e = absurd (not_ok (stop_error text i) r e)
pieces_sound (suc n) kind text i r e = part_sound kind text i (read_pieces n kind text) r (pieces_sound n kind text) (part_at kind text i) refl e

abbrev string_by : List ℕ → ℕ → Option (Quoting × ℕ) → TomlReading StringFound
string_by text i (Some first) = string_from text first
string_by text i None = Err (stop_error text i)

string_step : (text : List ℕ) (i : ℕ) → read_string text i ≡ string_by text i (opening text i)
string_step text i =
    elim (opening text i) as (λ o. elim o [ Some first ↦ string_from text first | None ↦ Err (stop_error text i) ] ≡ string_by text i o) [ Some first ↦ refl | None ↦ refl ]

-- a string that is at a place, with its kind
abbrev pub StringAt : List ℕ → ℕ → StringFound → Type 0
StringAt text i r = (first : Quoting × ℕ) × (opening text i ≡ Some first) × IsString text i first.0 r.0 r.1 r.2

string_by_sound : (text : List ℕ) (i : ℕ) (o : Option (Quoting × ℕ)) (r : StringFound) → opening text i ≡ o → string_by text i o ≡ Ok r → StringAt text i r
string_by_sound text i None r is e = absurd (not_ok (stop_error text i) r e)
string_by_sound text i (Some first) r is e =
    let body = then_ok (λ (x : Pieces). Ok (written_of x.0, from_to first.1 x.1, x.2)) (read_pieces (suc (length text)) first.0 text first.1) r e in
    subst (StringAt text i) (is_ok _ r body.2) (
      first,
      is,
      record {
        pieces = body.0.0;
        first = first.1;
        close = body.0.1;
        opens = is;
        body = pieces_sound (suc (length text)) first.0 text first.1 body.0 body.1;
        stands_for = refl;
        spans = refl;
      },
    )

pub string_sound : (text : List ℕ) (i : ℕ) (r : StringFound) → read_string text i ≡ Ok r → StringAt text i r
string_sound text i r e = string_by_sound text i (opening text i) r refl (sym (string_step text i) ∙ e)

pub pieces_read : (n : ℕ) (kind : Quoting) (text : List ℕ) (i : ℕ) (ps : List StringPiece) (close next : ℕ) → ArePieces kind text i ps close next → next ≤ i + n
    → read_pieces n kind text i ≡ Ok (ps, close, next)
pieces_read zero kind text i ps close next is room = let goes = pieces_go kind text i ps close next is in absurd (omega arith)
pieces_read (suc n) kind text i [] close next is room =
    ap (after_part kind text i (read_pieces n kind text)) is.0 ∙ ap (λ (c : ℕ). Ok ([], c, next)) (sym is.1)
pieces_read (suc n) kind text i (p ∷ ps) close next is room =
    let goes = piece_goes kind text i p is.0 is.1 in
    ap (after_part kind text i (read_pieces n kind text)) is.1
    ∙ ap (then_read (λ (x : Pieces). Ok (p ∷ x.0, x.1, x.2))) (pieces_read n kind text is.0 ps close next is.2 (omega arith))

pub string_read : (text : List ℕ) (i : ℕ) (kind : Quoting) (w : WrittenString) (span : Span) (next : ℕ) → IsString text i kind w span next → next ≤ length text
    → read_string text i ≡ Ok (w, span, next)
string_read text i kind w span next is inside =
    string_step text i ∙ ap (string_by text i) is.opens
    ∙ ap (then_read (λ (x : Pieces). Ok (written_of x.0, from_to is.first x.1, x.2)))
    (pieces_read (suc (length text)) kind text is.first is.pieces is.close next is.body (omega arith))
    ∙ ap (λ (x : WrittenString). Ok (x, from_to is.first is.close, next)) (sym is.stands_for) ∙ ap (λ (x : Span). Ok (w, x, next)) (sym is.spans)

-- three marks begin a long string, and no key

front_none : (p : ℕ → Bool) (s : List ℕ) → front_is p s ≡ false → prefix_len p s ≡ 0
front_none p [] h = refl
front_none p (c ∷ cs) h = ap (λ b. cond b (1 + prefix_len p cs) 0) h

few_marks : (mark : ℕ) (text : List ℕ) (i : ℕ) → stands text i mark ≡ false → nat_le 3 (marks_in_row mark text i) ≡ false
few_marks mark text i h = let none = front_none (λ c. eqb c mark) (drop i text) h in grind (arith, nat_tests)

abbrev opened : Quoting → Quoting → ℕ → List ℕ → ℕ → Quoting × ℕ
opened short long mark text i = opening_of short long mark text i

short_of : (short long : Quoting) (mark : ℕ) (text : List ℕ) (i : ℕ) (o : Quoting × ℕ) → nat_le 3 (marks_in_row mark text i) ≡ false → opening_of short long mark text i ≡ o → o.0 ≡ short
short_of short long mark text i o few e =
    ap (λ (x : Quoting × ℕ). x.0) (sym e)
    ∙ ap (λ (x : Quoting × ℕ). x.0) (if_false (nat_le 3 (marks_in_row mark text i)) (long, unwrap_or (behind_line_end text (i + 3)) (i + 3)) (short, i + 1) few)

or_false : (a b : Bool) → (a || b) ≡ false → (a ≡ false) × (b ≡ false)
or_false true b h = absurd (true≢false h)
or_false false b h = (refl, h)

or_both : (a b : Bool) → a ≡ false → b ≡ false → (a || b) ≡ false
or_both true b h k = absurd (true≢false h)
or_both false b h k = k

some_same : (x y : Quoting × ℕ) → Some x ≡ Some y → x ≡ y
some_same x y e = cc

short_kind : (text : List ℕ) (i : ℕ) (o : Quoting × ℕ) → opening text i ≡ Some o → begins_long text i ≡ false → (o.0 ≡ basic) ⊎ (o.0 ≡ literal)
short_kind text i o opens short =
    let few = or_false (nat_le 3 (marks_in_row quote text i)) (nat_le 3 (marks_in_row apostrophe text i)) short in
    ⊎_elim (λ h. inl (short_of basic long_basic quote text i o few.0 (some_same _ o h.1)))
    (λ h.
    ⊎_elim (λ k. inr (short_of literal long_literal apostrophe text i o few.1 (some_same _ o k.1))) (λ k. let other = k.1 in absurd (cc))
    (if_is (stands text i apostrophe) (Some (opening_of literal long_literal apostrophe text i)) None (Some o) h.1))
    (if_is (stands text i quote) (Some (opening_of basic long_basic quote text i))
    (cond (stands text i apostrophe) (Some (opening_of literal long_literal apostrophe text i)) None) (Some o) opens)

-- an opening of a short kind has few marks
few_of : (short long : Quoting) (mark : ℕ) (text : List ℕ) (i : ℕ) (o : Quoting × ℕ) → (o.0 ≡ long → ⊥) → opening_of short long mark text i ≡ o → nat_le 3 (marks_in_row mark text i) ≡ false
few_of short long mark text i o other e =
    ⊎_elim (λ h. absurd (other (ap (λ (x : Quoting × ℕ). x.0) (sym h.1)))) (λ h. h.0)
    (if_is (nat_le 3 (marks_in_row mark text i)) (long, unwrap_or (behind_line_end text (i + 3)) (i + 3)) (short, i + 1) o e)

short_begins : (text : List ℕ) (i : ℕ) (o : Quoting × ℕ) → opening text i ≡ Some o → (o.0 ≡ long_basic → ⊥) → (o.0 ≡ long_literal → ⊥) → begins_long text i ≡ false
short_begins text i o opens not_basic not_literal =
    ⊎_elim
    (λ h.
    or_both _ _ (few_of basic long_basic quote text i o not_basic (some_same _ o h.1))
    (few_marks apostrophe text i (stands_other (λ b. eqb b apostrophe) quote refl text i h.0)))
    (λ h.
    ⊎_elim (λ k. or_both _ _ (few_marks quote text i h.0) (few_of literal long_literal apostrophe text i o not_literal (some_same _ o k.1))) (λ k. let other = k.1 in absurd (cc))
    (if_is (stands text i apostrophe) (Some (opening_of literal long_literal apostrophe text i)) None (Some o) h.1))
    (if_is (stands text i quote) (Some (opening_of basic long_basic quote text i))
    (cond (stands text i apostrophe) (Some (opening_of literal long_literal apostrophe text i)) None) (Some o) opens)

-- keys

pub front_run : (p : ℕ → Bool) (s : List ℕ) → front_is p s ≡ true → 0 < prefix_len p s
front_run p [] h = absurd (true≢false (sym h))
front_run p (c ∷ cs) h = let one = ap (λ b. cond b (1 + prefix_len p cs) 0) h in omega arith

abbrev pub KeyAt : List ℕ → ℕ → KeyFound → Type 0
KeyAt text i r = IsKey text i r.0 r.1

abbrev key_of : StringFound → KeyFound
key_of r = (record { name = r.0; span = r.1 }, r.2)

quoted_sound : (text : List ℕ) (i : ℕ) (r : StringFound) → StringAt text i r → begins_long text i ≡ false → KeyAt text i (key_of r)
quoted_sound text i r is short =
    ⊎_elim (λ k. inr (inl (subst (λ kind. IsString text i kind r.0 r.1 r.2) k is.2))) (λ k. inr (inr (subst (λ kind. IsString text i kind r.0 r.1 r.2) k is.2)))
    (short_kind text i is.0 is.1 short)

abbrev quoted_read : List ℕ → ℕ → TomlReading KeyFound
quoted_read text i = then_read (λ (r : StringFound). Ok (key_of r)) (read_string text i)

pub key_sound : (text : List ℕ) (i : ℕ) (r : KeyFound) → read_key text i ≡ Ok r → KeyAt text i r
key_sound text i r e =
    ⊎_elim
    (λ h. let some = front_run is_bare (drop i text) h.0 in subst (KeyAt text i) (is_ok (bare_key text i) r h.1) (inl (record { some = omega arith; ends = refl; is = refl })))
    (λ h.
    ⊎_elim (λ k. absurd (not_ok _ r k.1))
    (λ k.
    let found = then_ok (λ (x : StringFound). Ok (key_of x)) (read_string text i) r k.1 in
    subst (KeyAt text i) (is_ok _ r found.2) (quoted_sound text i found.0 (string_sound text i found.0 found.1) k.0))
    (if_is (begins_long text i) (Err (stop_error text (i + 2))) (quoted_read text i) (Ok r) h.1))
    (if_is (passes_at is_bare text i) (Ok (bare_key text i)) (cond (begins_long text i) (Err (stop_error text (i + 2))) (quoted_read text i)) (Ok r) e)

quoted_key_read : (text : List ℕ) (i : ℕ) (kind : Quoting) (key : Key) (next : ℕ) → IsString text i kind key.name key.span next → next ≤ length text
    → (kind ≡ long_basic → ⊥) → (kind ≡ long_literal → ⊥) → read_key text i ≡ Ok (key, next)
quoted_key_read text i kind key next is inside not_basic not_literal =
    let other : passes_at is_bare text i ≡ false =
    ⊎_elim (λ q. stands_other is_bare quote refl text i q) (λ q. stands_other is_bare apostrophe refl text i q) (opening_front text i (kind, is.first) is.opens) in
    if_false (passes_at is_bare text i) (Ok (bare_key text i)) (cond (begins_long text i) (Err (stop_error text (i + 2))) (quoted_read text i)) other
    ∙ if_false (begins_long text i) (Err (stop_error text (i + 2))) (quoted_read text i) (short_begins text i (kind, is.first) is.opens not_basic not_literal)
    ∙ ap (then_read (λ (r : StringFound). Ok (key_of r))) (string_read text i kind key.name key.span next is inside)

pub key_read : (text : List ℕ) (i : ℕ) (key : Key) (next : ℕ) → IsKey text i key next → next ≤ length text → read_key text i ≡ Ok (key, next)
key_read text i key next (inl bare) inside =
    let some = bare.some in
    let ends = bare.ends in
    let made : bare_key text i ≡ (key, next) =
    ap (λ (k : ℕ). (record { name = record { text = run_at is_bare text i; escaped = false }; span = from_to i k }, k)) (sym ends)
    ∙ ap (λ (x : Key). (x, next)) (sym bare.is) in
    if_true (passes_at is_bare text i) (Ok (bare_key text i)) (cond (begins_long text i) (Err (stop_error text (i + 2))) (quoted_read text i)) (run_some is_bare text i (omega arith))
    ∙ ap (λ (x : KeyFound). Ok x) made
key_read text i key next (inr (inl is)) inside = quoted_key_read text i basic key next is inside (λ e. cc) (λ e. cc)
key_read text i key next (inr (inr is)) inside = quoted_key_read text i literal key next is inside (λ e. cc) (λ e. cc)

abbrev pub KeysAt : List ℕ → ℕ → KeysFound → Type 0
KeysAt text i r = AreKeys text i r.0 r.1

behind_sound : (text : List ℕ) (i : ℕ) (rest : ℕ → TomlReading KeysFound) (first : KeyFound) (r : KeysFound)
    → ((k : ℕ) (x : KeysFound) → rest k ≡ Ok x → KeysAt text k x) → KeyAt text i first → keys_behind rest text first ≡ Ok r → KeysAt text i r
behind_sound text i rest first r all is e =
    ⊎_elim
    (λ h.
    let found = then_ok (λ (more : KeysFound). Ok (first.0 ∷ more.0, more.1)) (rest (after_blanks text (after_blanks text first.1 + 1))) r h.1 in
    subst (KeysAt text i) (is_ok _ r found.2) (first.1, is, inl (h.0, all _ found.0 found.1)))
    (λ h. subst (KeysAt text i) (is_ok (first.0 ∷ [], first.1) r h.1) (first.1, is, inr (h.0, refl, refl)))
    (if_is (stands text (after_blanks text first.1) dot)
    (then_read (λ (more : KeysFound). Ok (first.0 ∷ more.0, more.1)) (rest (after_blanks text (after_blanks text first.1 + 1)))) (Ok (first.0 ∷ [], first.1)) (Ok r) e)

pub keys_sound : (n : ℕ) (text : List ℕ) (i : ℕ) (r : KeysFound) → read_keys n text i ≡ Ok r → KeysAt text i r
keys_sound zero text i r e = absurd (not_ok (stop_error text i) r e)
keys_sound (suc n) text i r e =
    let first = then_ok (keys_behind (read_keys n text) text) (read_key text i) r e in
    behind_sound text i (read_keys n text) first.0 r (keys_sound n text) (key_sound text i first.0 first.1) first.2

pub keys_read : (n : ℕ) (text : List ℕ) (i : ℕ) (keys : List Key) (next : ℕ) → AreKeys text i keys next → next ≤ length text → next ≤ i + n
    → read_keys n text i ≡ Ok (keys, next)
keys_read zero text i keys next is inside room = let goes = keys_go text i keys next is in absurd (omega arith)
keys_read (suc n) text i [] next is inside room = absurd is
keys_read (suc n) text i (key ∷ more) next (k, is, inl dotted) inside room =
    let goes = key_goes text i key k is in
    let j = after_blanks text (after_blanks text k + 1) in
    let after = keys_go text j more next dotted.1 in
    ap (then_read (keys_behind (read_keys n text) text)) (key_read text i key k is (omega arith))
    ∙ if_true (stands text (after_blanks text k) dot) (then_read (λ (x : KeysFound). Ok (key ∷ x.0, x.1)) (read_keys n text j)) (Ok (key ∷ [], k)) dotted.0
    ∙ ap (then_read (λ (x : KeysFound). Ok (key ∷ x.0, x.1))) (keys_read n text j more next dotted.1 inside (omega arith))
keys_read (suc n) text i (key ∷ more) next (k, is, inr only) inside room =
    let goes = key_goes text i key k is in
    let ends = only.2 in
    let j = after_blanks text (after_blanks text k + 1) in
    ap (then_read (keys_behind (read_keys n text) text)) (key_read text i key k is (omega arith))
    ∙ if_false (stands text (after_blanks text k) dot) (then_read (λ (x : KeysFound). Ok (key ∷ x.0, x.1)) (read_keys n text j)) (Ok (key ∷ [], k)) only.0
    ∙ ap (λ (x : List Key). Ok (key ∷ x, k)) (sym only.1) ∙ ap (λ (x : ℕ). Ok (key ∷ more, x)) (sym only.2)

-- what a key begins with
pub key_begins : (text : List ℕ) (i : ℕ) (key : Key) (next : ℕ) → IsKey text i key next
    → (passes_at is_bare text i ≡ true) ⊎ ((stands text i quote ≡ true) ⊎ (stands text i apostrophe ≡ true))
key_begins text i key next (inl bare) = let some = bare.some in let ends = bare.ends in inl (run_some is_bare text i (omega arith))
key_begins text i key next (inr (inl is)) = inr (opening_front text i (basic, is.first) is.opens)
key_begins text i key next (inr (inr is)) = inr (opening_front text i (literal, is.first) is.opens)

pub keys_begin : (text : List ℕ) (i : ℕ) (keys : List Key) (next : ℕ) → AreKeys text i keys next
    → (passes_at is_bare text i ≡ true) ⊎ ((stands text i quote ≡ true) ⊎ (stands text i apostrophe ≡ true))
keys_begin text i [] next is = absurd is
keys_begin text i (key ∷ more) next is = key_begins text i key is.0 is.1

-- no key begins with a byte that begins none
pub keys_other : (a : ℕ) → is_bare a ≡ false → eqb quote a ≡ false → eqb apostrophe a ≡ false → (text : List ℕ) (i : ℕ) (keys : List Key) (next : ℕ)
    → AreKeys text i keys next → stands text i a ≡ false
keys_other a bare q s text i keys next is =
    ⊎_elim (λ h. passes_other is_bare a bare text i h)
    (λ h. ⊎_elim (λ k. stands_other (λ b. eqb b a) quote q text i k) (λ k. stands_other (λ b. eqb b a) apostrophe s text i k) h) (keys_begin text i keys next is)

-- a key and `=`, and the value's place
abbrev pub LeftAt : List ℕ → ℕ → KeysFound → Type 0
LeftAt text i r = (k : ℕ) × AreKeys text i r.0 k × (stands text (after_blanks text k) equals ≡ true) × (after_blanks text (after_blanks text k + 1) ≡ r.1)

pub left_sound : (text : List ℕ) (i : ℕ) (r : KeysFound) → read_left text i ≡ Ok r → LeftAt text i r
left_sound text i r e =
    let keys = then_ok (equals_behind text) (keys_at text i) r e in
    ⊎_elim
    (λ h. subst (LeftAt text i) (is_ok _ r h.1) (keys.0.1, keys_sound (suc (length text)) text i keys.0 keys.1, h.0, refl))
    (λ h. absurd (not_ok _ r h.1))
    (if_is (stands text (after_blanks text keys.0.1) equals) (Ok (keys.0.0, after_blanks text (after_blanks text keys.0.1 + 1)))
    (Err (stop_error text (after_blanks text keys.0.1))) (Ok r) keys.2)

pub left_read : (text : List ℕ) (i : ℕ) (keys : List Key) (k : ℕ) → AreKeys text i keys k → stands text (after_blanks text k) equals ≡ true → k ≤ length text
    → read_left text i ≡ Ok (keys, after_blanks text (after_blanks text k + 1))
left_read text i keys k is at inside =
    ap (then_read (equals_behind text)) (keys_read (suc (length text)) text i keys k is inside (omega arith))
    ∙ if_true (stands text (after_blanks text k) equals) (Ok (keys, after_blanks text (after_blanks text k + 1))) (Err (stop_error text (after_blanks text k))) at
