-- What a byte at a place rules out there.
use Rattle.std.proofs.Common.{◌≡◌, ℕ, ◌+◌, ◌<◌, ◌≤◌, ◌⊎◌, ⊎_elim, inl, inr, Bool, true, false, cond, eqb, ◌||◌, ◌&&◌, List, [], ◌∷◌, length, take, drop, Option, Some, None, true≢false, refl, ap, sym, ◌∙◌, eqb-true, eq-eqb, arith, length-drop}
use Rattle.std.specs.List.{prefix_len}
use Rattle.toml_subset.proofs.Law.Basics.{is_some, if_is}
use Rattle.toml_subset.specs.Bytes.{may_stand as may, quote, apostrophe, is_blank, is_bare, hash, line_feed, carriage_return}
use Rattle.toml_subset.specs.Places.{front_is, passes_at, stands, run_end, after_blanks, after_comment, behind_line_end, next_line}
use Rattle.toml_subset.specs.Raw.{word_of}
use Rattle.toml_subset.specs.Strings.{Quoting, basic, long_basic, literal, long_literal, opening, opening_of}

pub false_from : (b : Bool) → (b ≡ true → ⊥) → b ≡ false
false_from true fails = absurd (fails refl)
false_from false fails = refl

-- where one test passes at the front, another that it rules out does not
pub front_other : (p q : ℕ → Bool) → ((c : ℕ) → p c ≡ true → q c ≡ false) → (s : List ℕ) → front_is p s ≡ true → front_is q s ≡ false
front_other p q other [] h = refl
front_other p q other (c ∷ cs) h = other c h

-- where a byte is, no test passes that fails at it
pub stands_other : (q : ℕ → Bool) (a : ℕ) → q a ≡ false → (text : List ℕ) (i : ℕ) → stands text i a ≡ true → passes_at q text i ≡ false
stands_other q a fails text i h = front_other (λ b. eqb b a) q (λ c same. ap q (eqb-true c a same) ∙ fails) (drop i text) h

-- where a test passes, no byte is at which it fails
pub passes_other : (p : ℕ → Bool) (a : ℕ) → p a ≡ false → (text : List ℕ) (i : ℕ) → passes_at p text i ≡ true → stands text i a ≡ false
passes_other p a fails text i h =
    front_other p (λ b. eqb b a) (λ c yes. false_from (eqb c a) (λ same. true≢false (sym yes ∙ ap p (eqb-true c a same) ∙ fails))) (drop i text) h

front_none : (p : ℕ → Bool) (s : List ℕ) → front_is p s ≡ false → prefix_len p s ≡ 0
front_none p [] h = refl
front_none p (c ∷ cs) h = ap (λ b. cond b (1 + prefix_len p cs) 0) h

-- a run ends where it begins if nothing of it is there
pub run_none : (p : ℕ → Bool) (text : List ℕ) (i : ℕ) → passes_at p text i ≡ false → run_end p text i ≡ i
run_none p text i h = let none = front_none p (drop i text) h in omega arith

front_some : (p : ℕ → Bool) (s : List ℕ) → 0 < prefix_len p s → front_is p s ≡ true
front_some p [] h = absurd (omega arith)
front_some p (c ∷ cs) h =
    elim (p c) as (λ b. 0 < cond b (1 + prefix_len p cs) 0 → b ≡ true) [ true ↦ λ some. refl | false ↦ λ some. absurd (omega arith) ] h

pub run_some : (p : ℕ → Bool) (text : List ℕ) (i : ℕ) → i < run_end p text i → passes_at p text i ≡ true
run_some p text i h = front_some p (drop i text) (omega arith)

-- a byte is within the text
front_inside : (p : ℕ → Bool) (s : List ℕ) → front_is p s ≡ true → 0 < length s
front_inside p [] h = absurd (true≢false (sym h))
front_inside p (c ∷ cs) h = omega arith

pub passes_inside : (p : ℕ → Bool) (text : List ℕ) (i : ℕ) → passes_at p text i ≡ true → i < length text
passes_inside p text i h = let some = front_inside p (drop i text) h in omega (arith, length-drop i text)

-- a string begins with a quotation mark or an apostrophe
opens_by : (a b : Bool) (x y : Quoting × ℕ) (r : Quoting × ℕ) → (cond a (Some x) (cond b (Some y) None)) ≡ Some r → (a ≡ true) ⊎ (b ≡ true)
opens_by true b x y r e = inl refl
opens_by false true x y r e = inr refl
opens_by false false x y r e = absurd (cc)

pub opening_front : (text : List ℕ) (i : ℕ) (r : Quoting × ℕ) → opening text i ≡ Some r → (stands text i quote ≡ true) ⊎ (stands text i apostrophe ≡ true)
opening_front text i r e =
    opens_by (stands text i quote) (stands text i apostrophe) (opening_of basic long_basic quote text i) (opening_of literal long_literal apostrophe text i) r e

-- the words begin with their letters
abbrev pub letter_of : Bool → ℕ
letter_of true = 116
letter_of false = 102

word_front_by : (b : Bool) (s : List ℕ) → take (length (word_of b)) s ≡ word_of b → front_is (λ c. eqb c (letter_of b)) s ≡ true
word_front_by true [] e = absurd (cc)
word_front_by true (c ∷ cs) e = let same : c ≡ 116 = cc in eq-eqb c 116 same
word_front_by false [] e = absurd (cc)
word_front_by false (c ∷ cs) e = let same : c ≡ 102 = cc in eq-eqb c 102 same

pub word_front : (b : Bool) (text : List ℕ) (i : ℕ) → take (length (word_of b)) (drop i text) ≡ word_of b → stands text i (letter_of b) ≡ true
word_front b text i e = word_front_by b (drop i text) e

-- a byte that begins a key or a header is at a place, and so no line ends there
pub record BeginsLine (text : List ℕ) (i : ℕ) : Type 0 where
  pub blank : passes_at is_blank text i ≡ false
  pub comment : stands text i hash ≡ false
  pub lf : stands text i line_feed ≡ false
  pub cr : stands text i carriage_return ≡ false
  pub inside : i < length text

pub begins_line_byte : (a : ℕ) → is_blank a ≡ false → eqb a hash ≡ false → eqb a line_feed ≡ false → eqb a carriage_return ≡ false
    → (text : List ℕ) (i : ℕ) → stands text i a ≡ true → BeginsLine text i
begins_line_byte a blank comment lf cr text i h = record {
  blank = stands_other is_blank a blank text i h;
  comment = stands_other (λ b. eqb b hash) a comment text i h;
  lf = stands_other (λ b. eqb b line_feed) a lf text i h;
  cr = stands_other (λ b. eqb b carriage_return) a cr text i h;
  inside = passes_inside (λ b. eqb b a) text i h;
}

blank_by : (a b : Bool) → a ≡ false → b ≡ false → (a || b) ≡ false
blank_by true b h k = absurd (true≢false h)
blank_by false b h k = k

bare_blank : (c : ℕ) → is_bare c ≡ true → is_blank c ≡ false
bare_blank c h =
    blank_by (eqb c 32) (eqb c 9)
    (false_from (eqb c 32) (λ same. true≢false (sym h ∙ ap is_bare (eqb-true c 32 same))))
    (false_from (eqb c 9) (λ same. true≢false (sym h ∙ ap is_bare (eqb-true c 9 same))))

pub begins_line_bare : (text : List ℕ) (i : ℕ) → passes_at is_bare text i ≡ true → BeginsLine text i
begins_line_bare text i h = record {
  blank = front_other is_bare is_blank bare_blank (drop i text) h;
  comment = passes_other is_bare hash refl text i h;
  lf = passes_other is_bare line_feed refl text i h;
  cr = passes_other is_bare carriage_return refl text i h;
  inside = passes_inside is_bare text i h;
}

line_end_none : (text : List ℕ) (i : ℕ) → stands text i line_feed ≡ false → stands text i carriage_return ≡ false → behind_line_end text i ≡ None
line_end_none text i lf cr =
    ap (λ (b : Bool). cond b (Some (i + 1)) (cond (stands text i carriage_return && stands text (i + 1) line_feed) (Some (i + 2)) None)) lf
    ∙ ap (λ (b : Bool). cond (b && stands text (i + 1) line_feed) (Some (i + 2)) None) cr

abbrev line_from : List ℕ → ℕ → Option ℕ
line_from text j = cond (eqb j (length text)) (Some j) (behind_line_end text j)

pub no_line_end : (text : List ℕ) (i : ℕ) → BeginsLine text i → next_line text i ≡ None
no_line_end text i begins =
    let blanks : after_blanks text i ≡ i = run_none is_blank text i begins.blank in
    let comment : after_comment text i ≡ i = ap (λ (b : Bool). cond b (run_end may text (i + 1)) i) begins.comment in
    let differs : eqb i (length text) ≡ false = false_from (eqb i (length text)) (λ same. let e = eqb-true i (length text) same in absurd (omega (arith, begins.inside))) in
    ap (λ j. line_from text (after_comment text j)) blanks ∙ ap (line_from text) comment
    ∙ ap (λ (b : Bool). cond b (Some i) (behind_line_end text i)) differs ∙ line_end_none text i begins.lf begins.cr

pub and_last : (a b : Bool) → (a && b) ≡ true → b ≡ true
and_last true b h = h
and_last false b h = absurd (true≢false (sym h))

-- a line end and the next line lie in the text
pub line_end_inside : (text : List ℕ) (i next : ℕ) → behind_line_end text i ≡ Some next → next ≤ length text
line_end_inside text i next e =
    ⊎_elim (λ h. let same = is_some (i + 1) next h.1 in let inside = passes_inside (λ b. eqb b line_feed) text i h.0 in omega arith)
    (λ h.
    ⊎_elim
    (λ k.
    let same = is_some (i + 2) next k.1 in
    let inside = passes_inside (λ b. eqb b line_feed) text (i + 1) (and_last _ _ k.0) in
    omega arith)
    (λ k. let none = k.1 in absurd (cc))
    (if_is (stands text i carriage_return && stands text (i + 1) line_feed) (Some (i + 2)) None (Some next) h.1))
    (if_is (stands text i line_feed) (Some (i + 1)) (cond (stands text i carriage_return && stands text (i + 1) line_feed) (Some (i + 2)) None) (Some next) e)

pub next_line_inside : (text : List ℕ) (i next : ℕ) → next_line text i ≡ Some next → next ≤ length text
next_line_inside text i next e =
    let j = after_comment text (after_blanks text i) in
    ⊎_elim (λ h. let at = eqb-true j (length text) h.0 in let same = is_some j next h.1 in omega arith) (λ h. line_end_inside text j next h.1)
    (if_is (eqb j (length text)) (Some j) (behind_line_end text j) (Some next) e)
