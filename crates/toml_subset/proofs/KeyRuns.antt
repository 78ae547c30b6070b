-- Keys, read part by part.
use Rattle.std.proofs.Common.{◌≡◌, ℕ, zero, suc, ◌+◌, ◌-◌, ◌<◌, ◌≤◌, true, false, List, [], ◌∷◌, ◌++◌, length, get_or, drop, Ok, Err, refl, ap, sym, subst, ◌∙◌, append_assoc, arith, length-drop}
use Rattle.std.proofs.lemmas.Bool.Decides.{nat_tests}
use Rattle.std.proofs.lemmas.List.Sums.{prefix_len-le-length}
use Rattle.std.proofs.lemmas.Str.{IsCharBoundary-before_ascii, IsCharBoundary-after_ascii}
use Rattle.std.specs.Str.{IsCharBoundary, IsUtf8}
use Rattle.toml_subset.specs.Answer.{TomlReading, then_read, AnswersToml}
use Rattle.toml_subset.specs.Bytes.{dot, is_bare}
use Rattle.toml_subset.specs.Places.{passes_at, stands, run_end, after_blanks}
use Rattle.toml_subset.specs.StringReading.{KeyFound, KeysFound, read_key, keys_behind, read_keys, keys_at}
use Rattle.toml_subset.specs.declared.error.SyntaxError.{SyntaxError}
use Rattle.toml_subset.specs.declared.error.TomlError.{TomlError}
use Rattle.toml_subset.specs.declared.error.TomlError.TheVariants.{Syntax, Memory}
use Rattle.toml_subset.specs.declared.string.Key.{Key}
use Rattle.toml_subset.proofs.Escapes.{letter_ascii, digit_ascii}
use Rattle.toml_subset.proofs.Law.Basics.{if_true, if_false}
use Rattle.toml_subset.proofs.Law.Forward.{key_goes}
use Rattle.toml_subset.proofs.Law.Texts.{key_sound, front_run}
use Rattle.toml_subset.proofs.Runs.{run_end_passes}

bare_ascii : (c : ℕ) → is_bare c ≡ true → c < 128
bare_ascii c h = grind (arith, nat_tests, letter_ascii, digit_ascii)

-- a bare key is between borders of characters
pub bare_borders : (text : List ℕ) → IsUtf8 text → (i : ℕ) → passes_at is_bare text i ≡ true
    → (i < run_end is_bare text i) × IsCharBoundary text i × IsCharBoundary text (run_end is_bare text i)
bare_borders text utf8 i begins =
    let end = run_end is_bare text i in
    let some = front_run is_bare (drop i text) begins in
    let least = prefix_len-le-length is_bare (drop i text) in
    let rest = length-drop i text in
    let first = bare_ascii (get_or text i 0) (run_end_passes is_bare text i i (omega arith) (omega arith)) in
    let last = bare_ascii (get_or text (end - 1) 0) (run_end_passes is_bare text i (end - 1) (omega arith) (omega arith)) in
    let back : end - 1 + 1 ≡ end = omega arith in
    (omega arith, IsCharBoundary-before_ascii text i (omega arith) first, subst (IsCharBoundary text) back (IsCharBoundary-after_ascii text (end - 1) utf8 (omega arith) last))

abbrev pub onto_keys : List Key → KeysFound → TomlReading KeysFound
onto_keys before r = Ok (before ++ r.0, r.1)

-- the parts of a key up to a place
pub record AreRead (text : List ℕ) (start : ℕ) (before : List Key) (i : ℕ) : Type 0 where
  pub left : ℕ
  pub room : length text < i + left
  pub is : keys_at text start ≡ then_read (onto_keys before) (read_keys left text i)

onto_none : (r : TomlReading KeysFound) → r ≡ then_read (onto_keys []) r
onto_none (Ok r) = refl
onto_none (Err fault) = refl

pub none_read : (text : List ℕ) (start : ℕ) → AreRead text start [] start
none_read text start = record { left = suc (length text); room = omega arith; is = onto_none (keys_at text start) }

onto_key : (before : List Key) (key : Key) (r : TomlReading KeysFound)
    → then_read (onto_keys before) (then_read (λ (x : KeysFound). Ok (key ∷ x.0, x.1)) r) ≡ then_read (onto_keys (before ++ key ∷ [])) r
onto_key before key (Err fault) = refl
onto_key before key (Ok r) = ap (λ (x : List Key). Ok (x, r.1)) (sym (append_assoc before (key ∷ []) r.0))

key_by : (text : List ℕ) (start : ℕ) (before : List Key) (i left : ℕ) → i ≤ length text → length text < i + left
    → keys_at text start ≡ then_read (onto_keys before) (read_keys left text i)
    → (n : ℕ) × (length text < i + suc n) × (keys_at text start ≡ then_read (onto_keys before) (then_read (keys_behind (read_keys n text) text) (read_key text i)))
key_by text start before i zero inside room e = absurd (omega arith)
key_by text start before i (suc n) inside room e = (n, room, e)

-- a part that is refused refuses the key
pub key_refused : (text : List ℕ) (start : ℕ) (before : List Key) (i : ℕ) (fault : SyntaxError) → i ≤ length text → AreRead text start before i
    → read_key text i ≡ Err fault → keys_at text start ≡ Err fault
key_refused text start before i fault inside are e =
    let step = key_by text start before i are.left inside are.room are.is in
    step.2 ∙ ap (λ x. then_read (onto_keys before) (then_read (keys_behind (read_keys step.0 text) text) x)) e

-- a part behind which no dot comes is the last
pub key_last : (text : List ℕ) (start : ℕ) (before : List Key) (i : ℕ) (key : Key) (end : ℕ) → i ≤ length text → AreRead text start before i
    → read_key text i ≡ Ok (key, end) → stands text (after_blanks text end) dot ≡ false → keys_at text start ≡ Ok (before ++ key ∷ [], end)
key_last text start before i key end inside are e none =
    let step = key_by text start before i are.left inside are.room are.is in
    let further = then_read (λ (x : KeysFound). Ok (key ∷ x.0, x.1)) (read_keys step.0 text (after_blanks text (after_blanks text end + 1))) in
    step.2 ∙ ap (λ x. then_read (onto_keys before) (then_read (keys_behind (read_keys step.0 text) text) x)) e
    ∙ ap (then_read (onto_keys before)) (if_false (stands text (after_blanks text end) dot) further (Ok (key ∷ [], end)) none)

-- and goes on behind a dot
pub key_more : (text : List ℕ) (start : ℕ) (before : List Key) (i : ℕ) (key : Key) (end : ℕ) → i ≤ length text → AreRead text start before i
    → read_key text i ≡ Ok (key, end) → stands text (after_blanks text end) dot ≡ true
    → (i < after_blanks text (after_blanks text end + 1)) × AreRead text start (before ++ key ∷ []) (after_blanks text (after_blanks text end + 1))
key_more text start before i key end inside are e some =
    let step = key_by text start before i are.left inside are.room are.is in
    let next = after_blanks text (after_blanks text end + 1) in
    let goes = key_goes text i key end (key_sound text i (key, end) e) in
    let room = step.1 in
    let further = then_read (λ (x : KeysFound). Ok (key ∷ x.0, x.1)) (read_keys step.0 text next) in (
      omega arith,
      record {
        left = step.0;
        room = omega arith;
        is = step.2 ∙ ap (λ x. then_read (onto_keys before) (then_read (keys_behind (read_keys step.0 text) text) x)) e
            ∙ ap (then_read (onto_keys before)) (if_true (stands text (after_blanks text end) dot) further (Ok (key ∷ [], end)) some)
            ∙ onto_key before key (read_keys step.0 text next);
      },
    )

-- the same as the program answers it
pub key_refused_so : (text : List ℕ) (start : ℕ) (before : List Key) (i : ℕ) → i ≤ length text → AreRead text start before i → (error : TomlError)
    → AnswersToml {A = KeyFound} {B = KeyFound} (λ found. found) (read_key text i) (Err error) → AnswersToml {A = KeysFound} {B = KeysFound} (λ found. found) (keys_at text start) (Err error)
key_refused_so text start before i inside are (Syntax fault) e = key_refused text start before i fault inside are e
key_refused_so text start before i inside are Memory e = tt
