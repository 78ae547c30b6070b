-- Where items begin and end.
use Rattle.std.proofs.Common.{◌≡◌, ◌∙◌, refl, sym, ap, subst, ℕ, ◌+◌, ◌-◌, ◌<◌, ◌≤◌, zero, suc, Bool, true, false, not, ◌&&◌, ◌||◌, cond, nat_lt, nat_eq, List, [], ◌∷◌, Option, Some, None, unwrap_or, length, take, drop, get_or, arith}
use Rattle.std.proofs.lemmas.List.{length-take, length-drop, get_or-take, get_or-drop, drop-drop}
use Rattle.std.proofs.Math.Seq.{drop-cons}
use Rattle.std.proofs.lemmas.Bool.{false≢true}
use Rattle.std.proofs.lemmas.Bool.Decides.{nat_tests}
use Rattle.std.proofs.lemmas.Str.{IsCharBoundary-after_ascii, IsUtf8-drop}
use Rattle.std.proofs.lemmas.List.Sums.{prefix_len_passes, prefix_len_stops, prefix_len-le-length}
use Rattle.std.specs.Prelude.{slice_get, Contains}
use Rattle.std.specs.Option.{option_map, option_or}
use Rattle.std.specs.List.{list_all, slice_split, onto_first, prefix_len}
use Rattle.std.specs.Char.{to_ascii_lowercase}
use Rattle.std.specs.Str.{IsUtf8, IsCharBoundary, str_to_ascii_lowercase}
use Rattle.spdx_terms.specs.declared.catalog.catalog.LicenseEntry.{LicenseEntry}
use Rattle.spdx_terms.specs.catalog.Catalog.{CatalogLists, IsCatalog, entry_of, names_of}
use Rattle.spdx_terms.specs.NextItem.{StandsNext}
use Rattle.spdx_terms.specs.catalog.Words.{is_word_byte, is_word, is_space, is_imprecise}
use Rattle.spdx_terms.specs.declared.mode.ParseMode.{ParseMode}
use Rattle.spdx_terms.specs.declared.item.Token.{Token}
use Rattle.spdx_terms.specs.declared.item.Token.TheVariants.{Word as a_word, Plus as a_plus, Open as an_open, Close as a_close, Slash as a_slash, Other as another}
use Rattle.spdx_terms.specs.declared.item.WantedItem.{WantedItem}
use Rattle.spdx_terms.specs.declared.item.WantedItem.TheVariants.{Term as wants_term, Exception as wants_exception, AfterTerm, AfterPart}
use Rattle.spdx_terms.specs.declared.item.ItemKind.{ItemKind}
use Rattle.spdx_terms.specs.declared.item.Item.{Item}
use Rattle.spdx_terms.specs.declared.term.LicenseItem.{LicenseItem}
use Rattle.deny_text.specs.Character.{goes_on}
use Rattle.spdx_terms.specs.Tokens.{in_word, is_white, token_of, rest_len, goes_on_over, reference_of}
use Rattle.spdx_terms.specs.Items.{item_at, term_of, license_of, license_at, reference_at, plus_behind, begins, longest_match, imprecise_at, imprecise_if, plain_item, word_item, token_item, first_item, has_reading, operator_of, items_from, item_here, with_item, wanted_behind, used_behind, wanted_after}
use Rattle.spdx_terms.proofs.ImpreciseLemmas.{both_true, same_letters, to_begins, same_length, Pairs, longest_sound}
use Rattle.spdx_terms.proofs.ItemLemmas.{items_at, passed, unused}

-- an item takes so many bytes of a text that is from a place on, up to a character border
pub record FitsAt (place : ℕ) (text : List ℕ) (it : Item) : Type 0 where
  pub start : it.span.start ≡ place
  pub len : ℕ
  pub end : it.span.end ≡ place + len
  pub some : 0 < len
  pub border : IsCharBoundary text len

abbrev pub FitsIf : ℕ → List ℕ → Option Item → Type 0
FitsIf place text None = Unit {0}
FitsIf place text (Some it) = FitsAt place text it

-- a word byte is ASCII
pub word_byte_ascii : (b : ℕ) → in_word b ≡ true → b < 128
word_byte_ascii b h = grind (arith, nat_tests)

fits_item : (what : ItemKind) (place len : ℕ) (text : List ℕ) → 0 < len → IsCharBoundary text len → FitsAt place text (item_at what place len)
fits_item what place len text some border = record { start = refl; len = len; end = refl; some = some; border = border }

fits_term_by : (plus : Bool) (item : LicenseItem) (later deprecated gnu : Bool) (place len : ℕ) (text : List ℕ) → 0 < len → IsCharBoundary text len → (plus ≡ true → IsCharBoundary text (len + 1))
    → FitsAt place text (term_of item (record { later = later; deprecated = deprecated; gnu = gnu; plus = plus }) place len)
fits_term_by true item later deprecated gnu place len text some border behind = record { start = refl; len = len + 1; end = refl; some = omega arith; border = behind refl }
fits_term_by false item later deprecated gnu place len text some border behind = record { start = refl; len = len; end = refl; some = some; border = border }

got : (text : List ℕ) (k : ℕ) → unwrap_or (option_map (λ b. nat_eq b 43) (slice_get text k)) false ≡ true → (k < length text) × (get_or text k 0 ≡ 43)
got [] k h = absurd (false≢true h)
got (b ∷ rest) zero h = (omega arith, grind (arith, nat_tests))
got (b ∷ rest) (suc k) h = let more = got rest k h in (omega arith, more.1)

-- behind a `+` is a border
plus_border : (text : List ℕ) (len : ℕ) → IsUtf8 text → plus_behind text len ≡ true → IsCharBoundary text (len + 1)
plus_border text len utf8 h = let at = got text len h in IsCharBoundary-after_ascii text len utf8 at.0 (omega (arith, at.1))

fits_license : (lists : CatalogLists) (name : List ℕ) (place : ℕ) (text : List ℕ) (len : ℕ) (entry : Option LicenseEntry) → IsUtf8 text → 0 < len → IsCharBoundary text len
    → FitsIf place text (option_map (λ entry. license_of name entry (plus_behind text len) place len) entry)
fits_license lists name place text len None utf8 some border = tt
fits_license lists name place text len (Some entry) utf8 some border =
    fits_term_by (plus_behind text len) _ entry.later entry.deprecated entry.gnu place len text some border (λ h. plus_border text len utf8 h)

fits_reference : (place : ℕ) (text : List ℕ) (len : ℕ) (found : Option LicenseItem) → 0 < len → IsCharBoundary text len
    → FitsIf place text (option_map (λ item. term_of item (record { later = false; deprecated = false; gnu = false; plus = false }) place len) found)
fits_reference place text len None some border = tt
fits_reference place text len (Some item) some border = fits_term_by false item false false false place len text some border (λ h. absurd (false≢true h))

fits_or : (place : ℕ) (text : List ℕ) (a b : Option Item) → FitsIf place text a → FitsIf place text b → FitsIf place text (option_or a b)
fits_or place text None b p q = q
fits_or place text (Some it) b p q = p

fits_unwrap : (place : ℕ) (text : List ℕ) (a : Option Item) (b : Item) → FitsIf place text a → FitsAt place text b → FitsAt place text (unwrap_or a b)
fits_unwrap place text None b p q = q
fits_unwrap place text (Some it) b p q = p

-- imprecise texts are ASCII
abbrev ascii : ℕ → Bool
ascii b = nat_lt b 128

abbrev plain : List ℕ → Bool
plain word = list_all is_word_byte word

word_plain : (word : List ℕ) → is_word word ≡ true → plain word ≡ true
word_plain [] h = refl
word_plain (b ∷ rest) h = h

words_plain : (words : List (List ℕ)) → list_all is_word words ≡ true → list_all plain words ≡ true
words_plain [] h = refl
words_plain (word ∷ rest) h =
    let parts = both_true (is_word word) (list_all is_word rest) h in
    ap (λ b. b && list_all plain rest) (word_plain word parts.0) ∙ words_plain rest parts.1

first_plain : (b : ℕ) (words : List (List ℕ)) → list_all plain (onto_first b words) ≡ true → (is_word_byte b ≡ true) × (list_all plain words ≡ true)
first_plain b [] h = ((both_true (is_word_byte b) true (both_true (is_word_byte b && true) true h).0).0, refl)
first_plain b (word ∷ rest) h =
    let parts = both_true (is_word_byte b && plain word) (list_all plain rest) h in
    let first = both_true (is_word_byte b) (plain word) parts.0 in
    (first.0, ap (λ t. t && list_all plain rest) first.1 ∙ parts.1)

space_ascii : (b : ℕ) → is_space b ≡ true → ascii b ≡ true
space_ascii b h = grind (arith, nat_tests)

letter_ascii : (b : ℕ) → is_word_byte b ≡ true → ascii b ≡ true
letter_ascii b h = grind (arith, nat_tests)

split_ascii : (text : List ℕ) → list_all plain (slice_split is_space text) ≡ true → list_all ascii text ≡ true
split_ascii [] h = refl
split_ascii (b ∷ rest) h =
    elim (is_space b) as (λ (t : Bool). is_space b ≡ t → list_all plain (cond t ([] ∷ slice_split is_space rest) (onto_first b (slice_split is_space rest))) ≡ true → (ascii b && list_all ascii rest) ≡ true) [
      | true ↦ λ is e. ap (λ t. t && list_all ascii rest) (space_ascii b is) ∙ split_ascii rest e
      | false ↦ λ is e.
          let parts = first_plain b (slice_split is_space rest) e in
          ap (λ t. t && list_all ascii rest) (letter_ascii b parts.0) ∙ split_ascii rest parts.1
    ]
    refl h

imprecise_ascii : (imprecise : List ℕ) → is_imprecise imprecise ≡ true → list_all ascii imprecise ≡ true
imprecise_ascii imprecise h = split_ascii imprecise (words_plain (slice_split is_space imprecise) (both_true (list_all is_word (slice_split is_space imprecise)) _ h).0)

lower_ascii : (a b : ℕ) → a < 128 → to_ascii_lowercase a ≡ to_ascii_lowercase b → b < 128
lower_ascii a b small h = grind (arith, nat_tests)

-- what is the same but for case is ASCII too
ascii_at : (xs ys : List ℕ) (k : ℕ) → list_all ascii xs ≡ true → str_to_ascii_lowercase xs ≡ str_to_ascii_lowercase ys → k < length ys → get_or ys k 0 < 128
ascii_at xs [] k a h inside = absurd (omega arith)
ascii_at [] (y ∷ ys) k a h inside = cc
ascii_at (x ∷ xs) (y ∷ ys) zero a h inside =
    let small : ascii x ≡ true = (both_true (ascii x) (list_all ascii xs) a).0 in
    let lt : x < 128 = grind (arith, nat_tests) in
    let same : to_ascii_lowercase x ≡ to_ascii_lowercase y = cc in
    lower_ascii x y lt same
ascii_at (x ∷ xs) (y ∷ ys) (suc k) a h inside =
    let same : str_to_ascii_lowercase xs ≡ str_to_ascii_lowercase ys = cc in
    ascii_at xs ys k (both_true (ascii x) (list_all ascii xs) a).1 same (omega arith)

one_border : (imprecise text : List ℕ) → is_imprecise imprecise ≡ true → begins imprecise text ≡ true → IsUtf8 text → (0 < length imprecise) × IsCharBoundary text (length imprecise)
one_border [] text h begun utf8 = absurd (false≢true h)
one_border (x ∷ xs) text h begun utf8 =
    let n : ℕ = length xs in
    let front : List ℕ = take (length (x ∷ xs)) text in
    let letters : str_to_ascii_lowercase (x ∷ xs) ≡ str_to_ascii_lowercase front = same_letters (x ∷ xs) front (to_begins (x ∷ xs) text begun).letters in
    let same : length (x ∷ xs) ≡ length front = same_length (x ∷ xs) front letters in
    let shorter : length front ≤ length text = omega (arith, length-take (length (x ∷ xs)) text) in
    let small : get_or front n 0 < 128 = ascii_at (x ∷ xs) front n (imprecise_ascii (x ∷ xs) h) letters (omega arith) in
    let inside : n < length (x ∷ xs) = omega arith in
    let last : get_or text n 0 < 128 = subst (λ k. k < 128) (get_or-take (length (x ∷ xs)) text n 0 inside) small in
    let end : n + 1 ≡ length (x ∷ xs) = omega arith in
    (omega arith, subst (λ k. IsCharBoundary text k) end (IsCharBoundary-after_ascii text n utf8 (omega arith) last))

all_imprecise : (listed : Pairs) (one : List ℕ × List ℕ) → list_all is_imprecise (names_of listed) ≡ true → Contains listed one → is_imprecise one.0 ≡ true
all_imprecise [] one h (k, inside, is) = absurd (omega arith)
all_imprecise (first ∷ rest) one h (zero, inside, is) = ap (λ p. is_imprecise p.0) (sym is) ∙ (both_true (is_imprecise first.0) (list_all is_imprecise (names_of rest)) h).0
all_imprecise (first ∷ rest) one h (suc k, inside, is) =
    all_imprecise rest one (both_true (is_imprecise first.0) (list_all is_imprecise (names_of rest)) h).1 (k, omega arith, is)

longest_border : (lists : CatalogLists) → IsCatalog lists → (text : List ℕ) (found : ℕ × List ℕ) → IsUtf8 text → longest_match lists.imprecise text ≡ Some found → (0 < found.0) × IsCharBoundary text found.0
longest_border lists laws text found utf8 h =
    let s = longest_sound lists.imprecise text found h in
    let at = one_border s.one.0 text (all_imprecise lists.imprecise s.one laws.imprecise_texts s.is_listed) s.begun utf8 in
    subst (λ n. (0 < n) × IsCharBoundary text n) s.len at

fits_cond : (t : Bool) (place : ℕ) (text : List ℕ) (a : Option Item) → FitsIf place text a → FitsIf place text (cond t a None)
fits_cond true place text a h = h
fits_cond false place text a h = tt

fits_imprecise : (lists : CatalogLists) → IsCatalog lists → (place : ℕ) (text : List ℕ) (len : ℕ) (found : Option (ℕ × List ℕ)) → IsUtf8 text → longest_match lists.imprecise text ≡ found
    → FitsIf place text (imprecise_at lists place text len found)
fits_imprecise lists laws place text len None utf8 h = tt
fits_imprecise lists laws place text len (Some found) utf8 h =
    let at = longest_border lists laws text found utf8 h in
    fits_cond (nat_lt len found.0 || not (has_reading lists (take len text))) place text (license_at lists found.1 place text found.0)
    (fits_license lists found.1 place text found.0 (entry_of lists.licenses found.1) utf8 at.0 at.1)

fits_imprecise_if : (allowed : Bool) (lists : CatalogLists) → IsCatalog lists → (place : ℕ) (text : List ℕ) (len : ℕ) → IsUtf8 text → FitsIf place text (imprecise_if allowed lists place text len)
fits_imprecise_if true lists laws place text len utf8 = fits_imprecise lists laws place text len (longest_match lists.imprecise text) utf8 refl
fits_imprecise_if false lists laws place text len utf8 = tt

fits_plain : (lists : CatalogLists) (place : ℕ) (text : List ℕ) (len : ℕ) → IsUtf8 text → 0 < len → IsCharBoundary text len → FitsAt place text (plain_item lists place text len)
fits_plain lists place text len utf8 some border =
    fits_unwrap place text (option_or (reference_at (take len text) place len) (license_at lists (take len text) place text len)) (item_at (operator_of (take len text)) place len)
    (fits_or place text (reference_at (take len text) place len) (license_at lists (take len text) place text len)
    (fits_reference place text len (reference_of (take len text)) some border)
    (fits_license lists (take len text) place text len (entry_of lists.licenses (take len text)) utf8 some border))
    (fits_item (operator_of (take len text)) place len text some border)

fits_word : (mode : ParseMode) (lists : CatalogLists) → IsCatalog lists → (wanted : WantedItem) (place : ℕ) (text : List ℕ) (len : ℕ) → IsUtf8 text → 0 < len → IsCharBoundary text len
    → FitsAt place text (word_item mode lists wanted place text len)
fits_word mode lists laws wants_term place text len utf8 some border =
    fits_unwrap place text (imprecise_if mode.allow_imprecise_license_names lists place text len) (plain_item lists place text len)
    (fits_imprecise_if mode.allow_imprecise_license_names lists laws place text len utf8) (fits_plain lists place text len utf8 some border)
fits_word mode lists laws wants_exception place text len utf8 some border = fits_item _ place len text some border
fits_word mode lists laws AfterTerm place text len utf8 some border = fits_item _ place len text some border
fits_word mode lists laws AfterPart place text len utf8 some border = fits_item _ place len text some border

-- behind a run of ASCII bytes is a border
last_small : (p : ℕ → Bool) → ((c : ℕ) → p c ≡ true → c < 128) → (b : ℕ) (rest : List ℕ) (n : ℕ) → b < 128 → n ≡ prefix_len p rest → get_or (b ∷ rest) n 0 < 128
last_small p small b rest zero first is = first
last_small p small b rest (suc n) first is = small (get_or rest n 0) (prefix_len_passes p rest n 0 (omega arith))

pub run_border : (p : ℕ → Bool) → ((c : ℕ) → p c ≡ true → c < 128) → (b : ℕ) (rest : List ℕ) → IsUtf8 (b ∷ rest) → b < 128 → IsCharBoundary (b ∷ rest) (1 + prefix_len p rest)
run_border p small b rest utf8 first =
    let n : ℕ = prefix_len p rest in
    let inside : prefix_len p rest ≤ length rest = prefix_len-le-length p rest in
    let end : prefix_len p rest + 1 ≡ 1 + prefix_len p rest = omega arith in
    subst (λ k. IsCharBoundary (b ∷ rest) k) end (IsCharBoundary-after_ascii (b ∷ rest) (prefix_len p rest) utf8 (omega arith) (last_small p small b rest (prefix_len p rest) first refl))

-- behind a character is a border
begins_character : (c : ℕ) → goes_on c ≡ false → 128 ≤ c → 192 ≤ c
begins_character c other high = grind (arith, nat_tests)

char_border : (b : ℕ) (rest : List ℕ) → IsCharBoundary (b ∷ rest) (1 + prefix_len goes_on rest)
char_border b rest =
    let inside : prefix_len goes_on rest ≤ length rest = prefix_len-le-length goes_on rest in
    let end : suc (prefix_len goes_on rest) ≡ 1 + prefix_len goes_on rest = omega arith in
    subst (λ k. IsCharBoundary (b ∷ rest) k) end
    (omega arith, λ below high. begins_character (get_or rest (prefix_len goes_on rest) 0) (prefix_len_stops goes_on rest 0 (omega arith)) high)

-- the first byte of a token
abbrev First : Token → ℕ → Type 0
First a_word b = in_word b ≡ true
First a_plus b = b < 128
First an_open b = b < 128
First a_close b = b < 128
First a_slash b = b < 128
First another b = Unit {0}

is_byte : (b c : ℕ) → c < 128 → nat_eq b c ≡ true → b < 128
is_byte b c small h = grind (arith, nat_tests)

first_slash : (slash : Bool) (b : ℕ) → First (cond (slash && nat_eq b 47) a_slash another) b
first_slash slash b =
    elim (slash && nat_eq b 47) as (λ (t : Bool). (slash && nat_eq b 47) ≡ t → First (cond t a_slash another) b)
    [ true ↦ λ is. is_byte b 47 (omega arith) (both_true slash (nat_eq b 47) is).1 | false ↦ λ is. tt ] refl

first_close : (slash : Bool) (b : ℕ) → First (cond (nat_eq b 41) a_close (cond (slash && nat_eq b 47) a_slash another)) b
first_close slash b =
    elim (nat_eq b 41) as (λ (t : Bool). nat_eq b 41 ≡ t → First (cond t a_close (cond (slash && nat_eq b 47) a_slash another)) b)
    [ true ↦ λ is. is_byte b 41 (omega arith) is | false ↦ λ is. first_slash slash b ] refl

first_open : (slash : Bool) (b : ℕ) → First (cond (nat_eq b 40) an_open (cond (nat_eq b 41) a_close (cond (slash && nat_eq b 47) a_slash another))) b
first_open slash b =
    elim (nat_eq b 40) as (λ (t : Bool). nat_eq b 40 ≡ t → First (cond t an_open (cond (nat_eq b 41) a_close (cond (slash && nat_eq b 47) a_slash another))) b)
    [ true ↦ λ is. is_byte b 40 (omega arith) is | false ↦ λ is. first_close slash b ] refl

first_plus : (slash : Bool) (b : ℕ) → First (cond (nat_eq b 43) a_plus (cond (nat_eq b 40) an_open (cond (nat_eq b 41) a_close (cond (slash && nat_eq b 47) a_slash another)))) b
first_plus slash b =
    elim (nat_eq b 43) as (λ (t : Bool). nat_eq b 43 ≡ t → First (cond t a_plus (cond (nat_eq b 40) an_open (cond (nat_eq b 41) a_close (cond (slash && nat_eq b 47) a_slash another)))) b)
    [ true ↦ λ is. is_byte b 43 (omega arith) is | false ↦ λ is. first_open slash b ] refl

token_first : (slash : Bool) (b : ℕ) → First (token_of slash b) b
token_first slash b =
    elim (in_word b) as (λ (t : Bool). in_word b ≡ t → First (cond t a_word (cond (nat_eq b 43) a_plus (cond (nat_eq b 40) an_open (cond (nat_eq b 41) a_close (cond (slash && nat_eq b 47) a_slash another))))) b)
    [ true ↦ λ is. is | false ↦ λ is. first_plus slash b ] refl

-- a token ends at a border
pub token_border : (token : Token) (b : ℕ) (rest : List ℕ) → IsUtf8 (b ∷ rest) → First token b → IsCharBoundary (b ∷ rest) (1 + rest_len token rest)
token_border a_word b rest utf8 first = run_border (goes_on_over a_word) (λ c h. word_byte_ascii c h) b rest utf8 (word_byte_ascii b first)
token_border a_plus b rest utf8 first = run_border (goes_on_over a_plus) (λ c h. absurd (false≢true h)) b rest utf8 first
token_border an_open b rest utf8 first = run_border (goes_on_over an_open) (λ c h. absurd (false≢true h)) b rest utf8 first
token_border a_close b rest utf8 first = run_border (goes_on_over a_close) (λ c h. absurd (false≢true h)) b rest utf8 first
token_border a_slash b rest utf8 first = run_border (goes_on_over a_slash) (λ c h. absurd (false≢true h)) b rest utf8 first
token_border another b rest utf8 first = char_border b rest

pub first_border : (slash : Bool) (b : ℕ) (rest : List ℕ) → IsUtf8 (b ∷ rest) → IsCharBoundary (b ∷ rest) (1 + rest_len (token_of slash b) rest)
first_border slash b rest utf8 = token_border (token_of slash b) b rest utf8 (token_first slash b)

fits_token : (mode : ParseMode) (lists : CatalogLists) → IsCatalog lists → (wanted : WantedItem) (place : ℕ) (text : List ℕ) (len : ℕ) (token : Token) → IsUtf8 text → 0 < len → IsCharBoundary text len
    → FitsAt place text (token_item mode lists wanted place text len token)
fits_token mode lists laws wanted place text len a_word utf8 some border = fits_word mode lists laws wanted place text len utf8 some border
fits_token mode lists laws wanted place text len a_plus utf8 some border = fits_item _ place len text some border
fits_token mode lists laws wanted place text len an_open utf8 some border = fits_item _ place len text some border
fits_token mode lists laws wanted place text len a_close utf8 some border = fits_item _ place len text some border
fits_token mode lists laws wanted place text len a_slash utf8 some border = fits_item _ place len text some border
fits_token mode lists laws wanted place text len another utf8 some border = fits_item _ place len text some border

-- the item at the start of a text
pub first_fits : (mode : ParseMode) (lists : CatalogLists) → IsCatalog lists → (wanted : WantedItem) (place b : ℕ) (rest : List ℕ) → IsUtf8 (b ∷ rest) → FitsAt place (b ∷ rest) (first_item mode lists wanted place b rest)
first_fits mode lists laws wanted place b rest utf8 =
    let token = token_of mode.allow_slash_as_or_operator b in
    fits_token mode lists laws wanted place (b ∷ rest) (1 + rest_len token rest) token utf8 (omega arith) (first_border mode.allow_slash_as_or_operator b rest utf8)

pub white_ascii : (b : ℕ) → is_white b ≡ true → b < 128
white_ascii b h = grind (arith, nat_tests)

-- white space is passed over
pub step_white : (mode : ParseMode) (lists : CatalogLists) (wanted : WantedItem) (place b : ℕ) (rest : List ℕ) → is_white b ≡ true
    → items_from mode lists wanted place place (b ∷ rest) ≡ items_from mode lists wanted (place + 1) (place + 1) rest
step_white mode lists wanted place b rest white =
    items_at mode lists wanted place b rest
    ∙ ap (λ (t : Bool). let found = item_here t mode lists wanted place b rest in with_item found (items_from mode lists (wanted_behind wanted found) (place + 1) (used_behind place found) rest)) white
    ∙ unused mode lists wanted (place + 1) place rest (omega arith)

-- an item is read, and what it uses is passed over
pub step_item : (mode : ParseMode) (lists : CatalogLists) → IsCatalog lists → (wanted : WantedItem) (place b : ℕ) (rest : List ℕ) → IsUtf8 (b ∷ rest) → is_white b ≡ false
    → (let it = first_item mode lists wanted place b rest in
    items_from mode lists wanted place place (b ∷ rest) ≡ it ∷ items_from mode lists (wanted_after wanted it.what) it.span.end it.span.end (drop (it.span.end - place) (b ∷ rest)))
step_item mode lists laws wanted place b rest utf8 dark =
    let it = first_item mode lists wanted place b rest in
    let fits : FitsAt place (b ∷ rest) it = first_fits mode lists laws wanted place b rest utf8 in
    let end : it.span.end ≡ place + fits.len = fits.end in
    let some : 0 < fits.len = fits.some in
    let inside : fits.len ≤ length (b ∷ rest) = fits.border.0 in
    let back : suc (it.span.end - (place + 1)) ≡ it.span.end - place = omega arith in
    items_at mode lists wanted place b rest
    ∙ ap (λ (t : Bool). let found = item_here t mode lists wanted place b rest in with_item found (items_from mode lists (wanted_behind wanted found) (place + 1) (used_behind place found) rest)) dark
    ∙ ap (λ items. it ∷ items)
    (passed mode lists (wanted_after wanted it.what) (place + 1) it.span.end rest (omega arith) (omega arith)
    ∙ ap (λ k. items_from mode lists (wanted_after wanted it.what) it.span.end it.span.end (drop k (b ∷ rest))) back)

-- a border of what is from a place on is one of the text
pub border_behind : (text : List ℕ) (place len : ℕ) → place ≤ length text → IsCharBoundary (drop place text) len → IsCharBoundary text (place + len)
border_behind text place len inside border =
    let total : length (drop place text) ≡ length text - place = length-drop place text in
    let short : len ≤ length (drop place text) = border.0 in
    let at : get_or (drop place text) len 0 ≡ get_or text (place + len) 0 = get_or-drop place text len 0 in
    (omega arith, λ below high. subst (λ b. 192 ≤ b) at (border.1 (omega arith) (subst (λ b. 128 ≤ b) (sym at) high)))

-- a step of the reader at white space
pub white_step : (mode : ParseMode) (lists : CatalogLists) (wanted : WantedItem) (place : ℕ) (text : List ℕ) → place < length text → is_white (get_or text place 0) ≡ true
    → items_from mode lists wanted place place (drop place text) ≡ items_from mode lists wanted (place + 1) (place + 1) (drop (place + 1) text)
white_step mode lists wanted place text inside white =
    let next : suc place ≡ place + 1 = omega arith in
    ap (λ rest. items_from mode lists wanted place place rest) (drop-cons text place 0 inside)
    ∙ step_white mode lists wanted place (get_or text place 0) (drop (suc place) text) white
    ∙ ap (λ k. items_from mode lists wanted (place + 1) (place + 1) (drop k text)) next

pub white_border : (text : List ℕ) (place : ℕ) → IsUtf8 text → place < length text → is_white (get_or text place 0) ≡ true → IsCharBoundary text (place + 1)
white_border text place utf8 inside white = IsCharBoundary-after_ascii text place utf8 inside (white_ascii (get_or text place 0) white)

-- a step at an item
step_there : (mode : ParseMode) (lists : CatalogLists) → IsCatalog lists → (wanted : WantedItem) (place : ℕ) (text : List ℕ) (b : ℕ) (rest : List ℕ) → IsUtf8 (b ∷ rest) → place < length text → drop place text ≡ b ∷ rest
    → is_white b ≡ false → StandsNext mode lists wanted place text (first_item mode lists wanted place b rest)
step_there mode lists laws wanted place text b rest utf8 inside is dark =
    let it = first_item mode lists wanted place b rest in
    let fits : FitsAt place (b ∷ rest) it = first_fits mode lists laws wanted place b rest utf8 in
    let end : it.span.end ≡ place + fits.len = fits.end in
    let some : 0 < fits.len = fits.some in
    let border : IsCharBoundary text (place + fits.len) = border_behind text place fits.len (omega arith) (subst (λ all. IsCharBoundary all fits.len) (sym is) fits.border) in
    let back : place + (it.span.end - place) ≡ it.span.end = omega arith in
    record {
      later = omega arith;
      border = subst (λ k. IsCharBoundary text k) (sym end) border;
      items =
          ap (λ all. items_from mode lists wanted place place all) is
          ∙ step_item mode lists laws wanted place b rest utf8 dark
          ∙ ap (λ all. it ∷ items_from mode lists (wanted_after wanted it.what) it.span.end it.span.end all)
          (ap (drop (it.span.end - place)) (sym is) ∙ drop-drop (it.span.end - place) place text ∙ ap (λ k. drop k text) back);
    }

pub item_step : (mode : ParseMode) (lists : CatalogLists) → IsCatalog lists → (wanted : WantedItem) (place : ℕ) (text : List ℕ) → IsUtf8 text → IsCharBoundary text place → place < length text
    → is_white (get_or text place 0) ≡ false → (it : Item) → it ≡ first_item mode lists wanted place (get_or text place 0) (drop 1 (drop place text)) → StandsNext mode lists wanted place text it
item_step mode lists laws wanted place text utf8 border inside dark it is =
    let b : ℕ = get_or text place 0 in
    let all : drop place text ≡ b ∷ drop (suc place) text = drop-cons text place 0 inside in
    let rest : drop 1 (drop place text) ≡ drop (suc place) text = ap (drop 1) all in
    let there : StandsNext mode lists wanted place text (first_item mode lists wanted place b (drop (suc place) text)) =
    step_there mode lists laws wanted place text b (drop (suc place) text) (subst (λ t. IsUtf8 t) all (IsUtf8-drop text place utf8 border)) inside all dark in
    subst (λ found. StandsNext mode lists wanted place text found) (sym (is ∙ ap (λ r. first_item mode lists wanted place b r) rest)) there
