-- The text of a line, where it has a form.
use Rattle.std.proofs.Common.{◌≡◌, ◌∙◌, refl, sym, ap, subst, ℕ, zero, suc, ◌+◌, ◌<◌, Bool, true, false, true≢false, not, ◌&&◌, cond, eqb, eqb-true, List, [], ◌∷◌, ◌++◌, length, get_or, take, drop, take_at, drop_at, take-append-drop, Some, None, IsUtf8, codes, arith}
use Rattle.std.specs.Char.{is_ascii_digit}
use Rattle.std.specs.List.{list_all, prefix_len}
use Rattle.std.specs.Str.{is_utf8}
use Rattle.std.proofs.lemmas.Bool.Decides.{nat_tests}
use Rattle.std.proofs.lemmas.Str.{IsUtf8-from_is_utf8, is_utf8-from_IsUtf8, IsUtf8-from_ascii}
use Rattle.check_bill.specs.declared.forms.TextForm.{TextForm}
use Rattle.check_bill.specs.declared.forms.TextForm.TheVariants.{Word, Moment, Line}
use Rattle.check_bill.specs.Bills.{has_some, is_visible, is_word, is_in_line, stands_for, has_form, has_day, has_time, is_moment, is_of}
use Rattle.check_bill.specs.Reading.{◌>>=◌, behind_text, stays, text_at, field_at}
use Rattle.check_bill.proofs.StepLemmas.{some_is, bind_some, passes, both, and_true, behind_text_is, behind_text_again}

-- ---- UTF-8

utf8_by : (bytes : List ℕ) (b : Bool) → is_utf8 bytes ≡ b → (IsUtf8 bytes → ⊥) → is_utf8 bytes ≡ false
utf8_by bytes true is other = absurd (other (IsUtf8-from_is_utf8 bytes is))
utf8_by bytes false is other = is

pub no_utf8 : (bytes : List ℕ) → (IsUtf8 bytes → ⊥) → is_utf8 bytes ≡ false
no_utf8 bytes other = utf8_by bytes (is_utf8 bytes) refl other

pub is_utf8_of : (bytes : List ℕ) → IsUtf8 bytes → is_utf8 bytes ≡ true
is_utf8_of bytes utf8 = is_utf8-from_IsUtf8 bytes utf8

-- ---- forms

visible_ascii : (b : ℕ) → is_visible b ≡ true → b < 128
visible_ascii b h = grind (arith, nat_tests)

visible_stays : (b : ℕ) → is_visible b ≡ true → stays b ≡ true
visible_stays b h = grind (arith, nat_tests)

digit_visible : (b : ℕ) → is_ascii_digit b ≡ true → is_visible b ≡ true
digit_visible b h = grind (arith, nat_tests)

are_ascii : (text : List ℕ) → list_all is_visible text ≡ true → (i : ℕ) → get_or text i 0 < 128
are_ascii [] all i = omega arith
are_ascii (b ∷ text) all zero = visible_ascii b (both (is_visible b) (list_all is_visible text) all).0
are_ascii (b ∷ text) all (suc i) = are_ascii text (both (is_visible b) (list_all is_visible text) all).1 i

pub visible_utf8 : (text : List ℕ) → list_all is_visible text ≡ true → IsUtf8 text
visible_utf8 text all = IsUtf8-from_ascii text (λ i. are_ascii text all i)

visible_line : (text : List ℕ) → list_all is_visible text ≡ true → list_all stays text ≡ true
visible_line [] all = refl
visible_line (b ∷ text) all =
    let parts = both (is_visible b) (list_all is_visible text) all in
    and_true (stays b) (list_all stays text) (visible_stays b parts.0) (visible_line text parts.1)

line_stays : (text : List ℕ) → list_all is_in_line text ≡ true → list_all stays text ≡ true
line_stays [] all = refl
line_stays (b ∷ text) all =
    let parts = both (is_in_line b) (list_all is_in_line text) all in
    and_true (stays b) (list_all stays text) (both (stays b) (not (eqb b 13)) parts.0).0 (line_stays text parts.1)

-- what stands for a visible character is one
stand_visible : (form b : ℕ) (digit : Bool) → eqb form 100 ≡ digit → is_visible form ≡ true → stands_for form b ≡ true → is_visible b ≡ true
stand_visible form b true is visible stands = digit_visible b (ap (λ t. cond t (is_ascii_digit b) (eqb b form)) (sym is) ∙ stands)
stand_visible form b false is visible stands =
    ap is_visible (eqb-true b form (ap (λ t. cond t (is_ascii_digit b) (eqb b form)) (sym is) ∙ stands)) ∙ visible

form_visible : (forms text : List ℕ) → list_all is_visible forms ≡ true → has_form forms text ≡ true → list_all is_visible text ≡ true
form_visible [] [] all has = refl
form_visible [] (b ∷ text) all has = absurd (true≢false (sym has))
form_visible (form ∷ forms) [] all has = absurd (true≢false (sym has))
form_visible (form ∷ forms) (b ∷ text) all has =
    let visible = both (is_visible form) (list_all is_visible forms) all in
    let parts = both (stands_for form b) (has_form forms text) has in
    and_true (is_visible b) (list_all is_visible text) (stand_visible form b (eqb form 100) refl visible.0 parts.0) (form_visible forms text visible.1 parts.1)

pub word_visible : (text : List ℕ) → is_word text ≡ true → list_all is_visible text ≡ true
word_visible text is = (both (has_some text) (list_all is_visible text) is).1

pub moment_visible : (text : List ℕ) → is_moment text ≡ true → list_all is_visible text ≡ true
moment_visible text is =
    form_visible (codes "dddd-dd-ddTdd:dd:ddZ") text refl (both (has_form (codes "dddd-dd-ddTdd:dd:ddZ") text) (has_day text && has_time text) is).0

-- no form has an LF
form_stays : (form : TextForm) (text : List ℕ) → is_of form text ≡ true → list_all stays text ≡ true
form_stays Word text is = visible_line text (word_visible text is)
form_stays Moment text is = visible_line text (moment_visible text is)
form_stays Line text is = line_stays text (both (has_some text) (list_all is_in_line text) is).1

-- ---- texts

line_ends : (text rest : List ℕ) → list_all stays text ≡ true → prefix_len stays (text ++ 10 ∷ rest) ≡ length text
line_ends [] rest all = refl
line_ends (b ∷ text) rest all =
    let parts = both (stays b) (list_all stays text) all in
    ap (λ t. cond t (1 + prefix_len stays (text ++ 10 ∷ rest)) 0) parts.0
    ∙ ap (λ n. 1 + n) (line_ends text rest parts.1)
    ∙ (let e : 1 + length text ≡ suc (length text) = omega arith in e)

text_again : (text rest : List ℕ) → IsUtf8 text → list_all stays text ≡ true → text_at (text ++ 10 ∷ rest) ≡ Some (text, 10 ∷ rest)
unfolding text_at
text_again text rest utf8 all =
    rw (line_ends text rest all, take_at text (10 ∷ rest) (length text) refl, drop_at text (10 ∷ rest) (length text) refl, is_utf8-from_IsUtf8 text utf8) refl

abbrev pair : List ℕ → List ℕ → List ℕ × List ℕ
pair text rest = (text, rest)

record TakesText (bytes text rest : List ℕ) : Type 0 where
  parts : bytes ≡ text ++ rest
  utf8 : IsUtf8 text

text_takes : (bytes text rest : List ℕ) → text_at bytes ≡ Some (text, rest) → TakesText bytes text rest
unfolding text_at
text_takes bytes text rest e =
    let n = prefix_len stays bytes in
    let p = passes (is_utf8 (take n bytes)) (Some (take n bytes, drop n bytes)) (text, rest) e in
    subst (λ (q : List ℕ × List ℕ). TakesText bytes q.0 q.1) (some_is (pair (take n bytes) (drop n bytes)) (pair text rest) p.1)
    (record { parts = sym (take-append-drop n bytes); utf8 = IsUtf8-from_is_utf8 (take n bytes) p.0 })

-- ---- fields

pub field_again : (form : TextForm) (front text rest : List ℕ) → is_of form text ≡ true → IsUtf8 text → field_at form front (front ++ (text ++ 10 ∷ rest)) ≡ Some (text, 10 ∷ rest)
unfolding field_at
field_again form front text rest is utf8 =
    rw (behind_text_again front (text ++ 10 ∷ rest), text_again text rest utf8 (form_stays form text is), is) refl

-- a text and what is behind it
pub record TakesField (form : TextForm) (front bytes text rest : List ℕ) : Type 0 where
  pub parts : bytes ≡ front ++ (text ++ rest)
  pub is : is_of form text ≡ true
  pub utf8 : IsUtf8 text

pub field_takes : (form : TextForm) (front bytes text rest : List ℕ) → field_at form front bytes ≡ Some (text, rest) → TakesField form front bytes text rest
unfolding field_at
field_takes form front bytes text rest e =
    let f = bind_some (behind_text front bytes) (λ left. text_at left >>= λ found. cond (is_of form found.0) (Some found) None) (text, rest) e in
    let t = bind_some (text_at f.0) (λ found. cond (is_of form found.0) (Some found) None) (text, rest) f.2 in
    let p = passes (is_of form t.0.0) (Some t.0) (text, rest) t.2 in
    let taken = text_takes f.0 t.0.0 t.0.1 t.1 in
    subst (λ (q : List ℕ × List ℕ). TakesField form front bytes q.0 q.1) (some_is t.0 (pair text rest) p.1)
    (record { parts = behind_text_is front bytes f.0 f.1 ∙ ap (λ (r : List ℕ). front ++ r) taken.parts; is = p.0; utf8 = taken.utf8 })
