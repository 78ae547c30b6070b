-- Numbers, words and strings are read exactly where they are as values.
use Rattle.std.proofs.Common.{◌≡◌, ℕ, zero, suc, ◌+◌, ◌≤◌, ⊎_elim, Bool, true, false, cond, eqb, ◌||◌, List, [], ◌∷◌, length, take, drop, Some, Ok, Err, true≢false, refl, ap, sym, subst, ◌∙◌, eqb-true, eq-eqb, arith}
use Rattle.std.specs.List.{prefix_len}
use Rattle.deny_text.specs.declared.span.Span.{Span}
use Rattle.toml_subset.specs.Answer.{TomlReading, stop_error, then_read}
use Rattle.toml_subset.specs.Bytes.{quote, apostrophe, is_run, begins_run}
use Rattle.toml_subset.specs.Data as «data»
use Rattle.toml_subset.specs.Data.{TomlContent, depth_of}
use Rattle.toml_subset.specs.Faults.{begins_number}
use Rattle.toml_subset.specs.Numbers.{Class, unsupported, number_form, number_range, integer, decimal, class_of, is_special}
use Rattle.toml_subset.specs.Places.{front_is, from_to, stands, run_end, run_at}
use Rattle.toml_subset.specs.Raw.{Raw, raw_text, raw_integer, raw_decimal, raw_boolean, IsNumber, IsWord, IsValue, word_of}
use Rattle.toml_subset.specs.Reading.{ValueFound, number_read, shared_len, word_read, read_scalar}
use Rattle.toml_subset.specs.StringReading.{StringFound, read_string}
use Rattle.toml_subset.specs.Strings.{Quoting, IsString}
use Rattle.toml_subset.specs.Tables.{meant}
use Rattle.toml_subset.specs.Written.{WrittenString}
use Rattle.toml_subset.proofs.Law.Basics.{is_ok, not_ok, then_ok, if_is, if_true, if_false}
use Rattle.toml_subset.proofs.Law.Fronts.{stands_other, opening_front, word_front}
use Rattle.toml_subset.proofs.Law.Texts.{string_sound, string_read}
use Rattle.toml_subset.proofs.NumberRuns.{begins_read, or_left}

-- a value that is no array and no table
abbrev pub ScalarAt : List ℕ → ℕ → ValueFound → Type 0
ScalarAt text i r = (raw : Raw) × IsValue text i r.0 raw r.2 × (meant raw ≡ Some r.1) × (depth_of r.1 ≡ 0)

class_other : (run : List ℕ) (class : Class) → class_of run ≡ class → (class ≡ unsupported → ⊥) → class_of run ≡ unsupported → ⊥
class_other run class is other e = other (sym is ∙ e)

number_sound : (text : List ℕ) (i : ℕ) (r : ValueFound) → begins_number text i ≡ true
    → (class : Class) → class_of (run_at is_run text i) ≡ class → number_read text i class ≡ Ok r → ScalarAt text i r
number_sound text i r begins unsupported is e = absurd (not_ok _ r e)
number_sound text i r begins number_form is e = absurd (not_ok _ r e)
number_sound text i r begins number_range is e = absurd (not_ok _ r e)
number_sound text i r begins (integer z) is e =
    let starts = begins_read text i begins (class_other (run_at is_run text i) (integer z) is (λ h. cc)) in
    subst (ScalarAt text i) (is_ok _ r e) (raw_integer z, record { begins = starts; ends = refl; is = is; spans = refl }, refl, refl)
number_sound text i r begins (decimal z) is e =
    let starts = begins_read text i begins (class_other (run_at is_run text i) (decimal z) is (λ h. cc)) in
    subst (ScalarAt text i) (is_ok _ r e) (raw_decimal z, record { begins = starts; ends = refl; is = is; spans = refl }, refl, refl)

-- words

shared_cons : (c d : ℕ) (cs ds : List ℕ) → shared_len (c ∷ cs) (d ∷ ds) ≡ length (c ∷ cs) → (c ≡ d) × (shared_len cs ds ≡ length cs)
shared_cons c d cs ds e =
    ⊎_elim (λ h. let same = h.1 in (eqb-true c d h.0, omega arith)) (λ h. let none = h.1 in absurd (omega arith))
    (if_is (eqb c d) (suc (shared_len cs ds)) 0 (length (c ∷ cs)) e)

take_cons : (d : ℕ) (ds : List ℕ) (n m : ℕ) → m ≡ suc n → take m (d ∷ ds) ≡ d ∷ take n ds
take_cons d ds n m e = ap (λ k. take k (d ∷ ds)) e

shared_whole : (w s : List ℕ) → shared_len w s ≡ length w → take (length w) s ≡ w
shared_whole [] s e = refl
shared_whole (c ∷ cs) [] e = absurd (omega arith)
shared_whole (c ∷ cs) (d ∷ ds) e =
    let both = shared_cons c d cs ds e in
    take_cons d ds (length cs) (length (c ∷ cs)) (omega arith) ∙ ap (λ (x : ℕ). x ∷ take (length cs) ds) (sym both.0) ∙ ap (λ (x : List ℕ). c ∷ x) (shared_whole cs ds both.1)

whole_shared : (w s : List ℕ) → take (length w) s ≡ w → shared_len w s ≡ length w
whole_shared [] s e = refl
whole_shared (c ∷ cs) [] e = absurd (cc)
whole_shared (c ∷ cs) (d ∷ ds) e =
    let all : d ∷ take (length cs) ds ≡ c ∷ cs = sym (take_cons d ds (length cs) (length (c ∷ cs)) (omega arith)) ∙ e in
    let same : c ≡ d = cc in
    let rest : take (length cs) ds ≡ cs = cc in
    let more = whole_shared cs ds rest in
    if_true (eqb c d) (suc (shared_len cs ds)) 0 (eq-eqb c d same) ∙ omega arith

word_sound : (b : Bool) (text : List ℕ) (i : ℕ) (r : ValueFound) → word_read b text i ≡ Ok r → ScalarAt text i r
word_sound b text i r e =
    let shared = shared_len (word_of b) (drop i text) in
    ⊎_elim
    (λ h.
    let size = eqb-true shared (length (word_of b)) h.0 in
    subst (ScalarAt text i) (is_ok (from_to i (i + shared), data.boolean b, i + shared) r h.1)
    (raw_boolean b, record { ends = ap (λ n. i + n) size; is = shared_whole (word_of b) (drop i text) size; spans = refl }, refl, refl))
    (λ h. absurd (not_ok _ r h.1))
    (if_is (eqb shared (length (word_of b))) (Ok (from_to i (i + shared), data.boolean b, i + shared)) (Err (stop_error text (i + shared))) (Ok r) e)

word_is_read : (b : Bool) (text : List ℕ) (i : ℕ) (span : Span) (next : ℕ) → IsWord text i b span next → word_read b text i ≡ Ok (span, data.boolean b, next)
word_is_read b text i span next is =
    let shared = shared_len (word_of b) (drop i text) in
    let size : shared ≡ length (word_of b) = whole_shared (word_of b) (drop i text) is.is in
    let ends : i + shared ≡ next = ap (λ n. i + n) size ∙ sym is.ends in
    if_true (eqb shared (length (word_of b))) (Ok (from_to i (i + shared), data.boolean b, i + shared)) (Err (stop_error text (i + shared))) (eq-eqb shared (length (word_of b)) size)
    ∙ ap (λ (k : ℕ). Ok (from_to i k, data.boolean b, k)) ends ∙ ap (λ (x : Span). Ok (x, data.boolean b, next)) (sym is.spans)

-- all scalars

abbrev false_from : List ℕ → ℕ → TomlReading ValueFound
false_from text i = cond (stands text i 102) (word_read false text i) (Err (stop_error text i))

abbrev true_from : List ℕ → ℕ → TomlReading ValueFound
true_from text i = cond (stands text i 116) (word_read true text i) (false_from text i)

abbrev string_value : List ℕ → ℕ → TomlReading ValueFound
string_value text i = then_read (λ (r : StringFound). Ok (r.1, data.string r.0, r.2)) (read_string text i)

abbrev string_from : List ℕ → ℕ → TomlReading ValueFound
string_from text i = cond (stands text i quote || stands text i apostrophe) (string_value text i) (true_from text i)

abbrev number_from : List ℕ → ℕ → TomlReading ValueFound
number_from text i = number_read text i (class_of (run_at is_run text i))

pub scalar_sound : (text : List ℕ) (i : ℕ) (r : ValueFound) → read_scalar text i ≡ Ok r → ScalarAt text i r
scalar_sound text i r e =
    ⊎_elim (λ h. number_sound text i r h.0 (class_of (run_at is_run text i)) refl h.1)
    (λ h.
    ⊎_elim
    (λ k.
    let found = then_ok (λ (x : StringFound). Ok (x.1, data.string x.0, x.2)) (read_string text i) r k.1 in
    let is = string_sound text i found.0 found.1 in
    subst (ScalarAt text i) (is_ok _ r found.2) (raw_text found.0.0, (is.0.0, is.2), refl, refl))
    (λ k.
    ⊎_elim (λ l. word_sound true text i r l.1)
    (λ l.
    ⊎_elim (λ m. word_sound false text i r m.1) (λ m. absurd (not_ok _ r m.1))
    (if_is (stands text i 102) (word_read false text i) (Err (stop_error text i)) (Ok r) l.1))
    (if_is (stands text i 116) (word_read true text i) (false_from text i) (Ok r) k.1))
    (if_is (stands text i quote || stands text i apostrophe) (string_value text i) (true_from text i) (Ok r) h.1))
    (if_is (begins_number text i) (number_from text i) (string_from text i) (Ok r) e)

-- what is at the front

front_cons : (c : ℕ) (s : List ℕ) → front_is (λ b. eqb b c) s ≡ true → (cs : List ℕ) × (s ≡ c ∷ cs)
front_cons c [] h = absurd (true≢false (sym h))
front_cons c (d ∷ ds) h = (ds, ap (λ x. x ∷ ds) (eqb-true d c h))

abbrev begins_by : List ℕ → Bool
begins_by s = front_is begins_run s || is_special (take (prefix_len is_run s) s)

no_number : (c : ℕ) → begins_run c ≡ false → ((n : ℕ) (cs : List ℕ) → is_special (take n (c ∷ cs)) ≡ false) → (text : List ℕ) (i : ℕ) → stands text i c ≡ true
    → begins_number text i ≡ false
no_number c begins special text i h =
    let cons = front_cons c (drop i text) h in
    ap begins_by cons.1 ∙ ap (λ b. b || is_special (take (prefix_len is_run (c ∷ cons.0)) (c ∷ cons.0))) begins ∙ special (prefix_len is_run (c ∷ cons.0)) cons.0

quote_special : (n : ℕ) (cs : List ℕ) → is_special (take n (quote ∷ cs)) ≡ false
quote_special zero cs = refl
quote_special (suc n) cs = refl

apostrophe_special : (n : ℕ) (cs : List ℕ) → is_special (take n (apostrophe ∷ cs)) ≡ false
apostrophe_special zero cs = refl
apostrophe_special (suc n) cs = refl

t_special : (n : ℕ) (cs : List ℕ) → is_special (take n (116 ∷ cs)) ≡ false
t_special zero cs = refl
t_special (suc n) cs = refl

f_special : (n : ℕ) (cs : List ℕ) → is_special (take n (102 ∷ cs)) ≡ false
f_special zero cs = refl
f_special (suc n) cs = refl

or_right : (a b : Bool) → b ≡ true → (a || b) ≡ true
or_right true b h = refl
or_right false b h = h

or_none : (a b : Bool) → a ≡ false → b ≡ false → (a || b) ≡ false
or_none true b h k = absurd (true≢false h)
or_none false b h k = k

pub text_read : (text : List ℕ) (i : ℕ) (kind : Quoting) (w : WrittenString) (span : Span) (next : ℕ) → IsString text i kind w span next → next ≤ length text
    → read_scalar text i ≡ Ok (span, data.string w, next)
text_read text i kind w span next is inside =
    let front = opening_front text i (kind, is.first) is.opens in
    let number : begins_number text i ≡ false =
    ⊎_elim (λ q. no_number quote refl quote_special text i q) (λ q. no_number apostrophe refl apostrophe_special text i q) front in
    let either : (stands text i quote || stands text i apostrophe) ≡ true = ⊎_elim (λ q. or_left _ _ q) (λ q. or_right _ _ q) front in
    if_false (begins_number text i) (number_from text i) (string_from text i) number
    ∙ if_true (stands text i quote || stands text i apostrophe) (string_value text i) (true_from text i) either
    ∙ ap (then_read (λ (x : StringFound). Ok (x.1, data.string x.0, x.2))) (string_read text i kind w span next is inside)

no_mark : (c : ℕ) → eqb c quote ≡ false → eqb c apostrophe ≡ false → (text : List ℕ) (i : ℕ) → stands text i c ≡ true → (stands text i quote || stands text i apostrophe) ≡ false
no_mark c q a text i h = or_none _ _ (stands_other (λ b. eqb b quote) c q text i h) (stands_other (λ b. eqb b apostrophe) c a text i h)

pub boolean_read : (text : List ℕ) (i : ℕ) (b : Bool) (span : Span) (next : ℕ) → IsWord text i b span next → read_scalar text i ≡ Ok (span, data.boolean b, next)
boolean_read text i true span next is =
    let front = word_front true text i is.is in
    if_false (begins_number text i) (number_from text i) (string_from text i) (no_number 116 refl t_special text i front)
    ∙ if_false (stands text i quote || stands text i apostrophe) (string_value text i) (true_from text i) (no_mark 116 refl refl text i front)
    ∙ if_true (stands text i 116) (word_read true text i) (false_from text i) front ∙ word_is_read true text i span next is
boolean_read text i false span next is =
    let front = word_front false text i is.is in
    if_false (begins_number text i) (number_from text i) (string_from text i) (no_number 102 refl f_special text i front)
    ∙ if_false (stands text i quote || stands text i apostrophe) (string_value text i) (true_from text i) (no_mark 102 refl refl text i front)
    ∙ if_false (stands text i 116) (word_read true text i) (false_from text i) (stands_other (λ b. eqb b 116) 102 refl text i front)
    ∙ if_true (stands text i 102) (word_read false text i) (Err (stop_error text i)) front ∙ word_is_read false text i span next is

pub number_is_read : (text : List ℕ) (i : ℕ) (class : Class) (content : TomlContent) (span : Span) (next : ℕ) → IsNumber text i class span next
    → number_read text i class ≡ Ok (from_to i (run_end is_run text i), content, run_end is_run text i) → read_scalar text i ≡ Ok (span, content, next)
number_is_read text i class content span next is found =
    if_true (begins_number text i) (number_from text i) (string_from text i) (or_left _ _ is.begins) ∙ ap (number_read text i) is.is ∙ found
    ∙ ap (λ (k : ℕ). Ok (from_to i k, content, k)) (sym is.ends) ∙ ap (λ (x : Span). Ok (x, content, next)) (sym is.spans)
