-- The item that a name of the catalogue is, where a term is wanted.
use Rattle.std.proofs.Common.{◌≡◌, ◌∙◌, refl, sym, ap, ℕ, ◌+◌, ◌-◌, ◌<◌, ◌≤◌, suc, Bool, true, false, not, ◌&&◌, ◌||◌, cond, nat_eq, List, [], ◌∷◌, ◌++◌, append-nil, Some, None, unwrap_or, length, drop, arith}
use Rattle.std.proofs.Math.Seq.{take-append_seam, drop-append_seam}
use Rattle.std.proofs.lemmas.Bool.{false≢true, true≢false}
use Rattle.std.proofs.lemmas.Bool.Decides.{nat_tests}
use Rattle.std.proofs.lemmas.Slice.Eq.{bytes_eq-Decides}
use Rattle.std.specs.Prelude.{codes}
use Rattle.std.specs.Option.{option_map, option_or}
use Rattle.std.specs.List.{list_all, prefix_len, starts_with}
use Rattle.std.specs.Str.{bytes_eq}
use Rattle.spdx_terms.specs.declared.catalog.catalog.LicenseEntry.{LicenseEntry}
use Rattle.spdx_terms.specs.catalog.Catalog.{CatalogLists, IsCatalog, entry_of, names_of}
use Rattle.spdx_terms.specs.catalog.Words.{is_word_byte, is_word, is_name, is_operator, is_reference, ends_word}
use Rattle.spdx_terms.specs.declared.mode.ParseMode.{ParseMode}
use Rattle.spdx_terms.specs.declared.item.Token.TheVariants.{Word as a_word, Plus as a_plus, Open as an_open, Close as a_close, Slash as a_slash, Other as another}
use Rattle.spdx_terms.specs.declared.item.WantedItem.{WantedItem}
use Rattle.spdx_terms.specs.declared.item.WantedItem.TheVariants.{Term as wants_term, AfterTerm}
use Rattle.spdx_terms.specs.declared.item.Item.{Item}
use Rattle.spdx_terms.specs.declared.term.LicenseItem.{LicenseItem}
use Rattle.spdx_terms.specs.Tokens.{in_word, is_white, token_of, rest_len, after_prefix, own_license, in_document, or_else, reference_of}
use Rattle.spdx_terms.specs.Items.{item_at, term_of, license_of, license_at, plus_behind, imprecise_if, plain_item, word_item, token_item, first_item, operator_of, items_of, items_from, item_here, with_item, wanted_behind, used_behind, wanted_after}
use Rattle.spdx_terms.proofs.ImpreciseLemmas.{both_true, and_true}
use Rattle.spdx_terms.proofs.ItemLemmas.{items_at, passed}

-- ---- words

-- a run goes as far as all of its bytes are of a kind and the next one is not
abbrev pub stop : (p : ℕ → Bool) → List ℕ → Bool
stop p [] = true
stop p (b ∷ rest) = not (p b)

not_true : (t : Bool) → not t ≡ true → t ≡ false
not_true true h = absurd (false≢true h)
not_true false h = refl

pub run_all : (p : ℕ → Bool) (run rest : List ℕ) → list_all p run ≡ true → stop p rest ≡ true → prefix_len p (run ++ rest) ≡ length run
run_all p [] [] all stops = refl
run_all p [] (b ∷ rest) all stops = ap (λ t. cond t (1 + prefix_len p rest) 0) (not_true (p b) stops)
run_all p (b ∷ run) rest all stops =
    let parts = both_true (p b) (list_all p run) all in
    let more : prefix_len p (run ++ rest) ≡ length run = run_all p run rest parts.1 stops in
    ap (λ t. cond t (1 + prefix_len p (run ++ rest)) 0) parts.0 ∙ ap (λ n. 1 + n) more ∙ (let e : 1 + length run ≡ suc (length run) = omega arith in e)

-- a word of an expression: bytes of words and colons, at least one
abbrev pub is_run : List ℕ → Bool
is_run [] = false
is_run (b ∷ rest) = in_word b && list_all in_word rest

letter_in_word : (b : ℕ) → is_word_byte b ≡ true → in_word b ≡ true
letter_in_word b h = ap (λ t. t || nat_eq b 58) h

pub letters_in_word : (bs : List ℕ) → list_all is_word_byte bs ≡ true → list_all in_word bs ≡ true
letters_in_word [] h = refl
letters_in_word (b ∷ bs) h =
    let parts = both_true (is_word_byte b) (list_all is_word_byte bs) h in
    and_true (in_word b) (list_all in_word bs) (letter_in_word b parts.0) (letters_in_word bs parts.1)

pub word_is_run : (word : List ℕ) → is_word word ≡ true → is_run word ≡ true
word_is_run [] h = h
word_is_run (b ∷ bs) h = letters_in_word (b ∷ bs) h

ends_stop : (rest : List ℕ) → ends_word rest ≡ true → stop in_word rest ≡ true
ends_stop [] h = refl
ends_stop (b ∷ rest) h = h

dark : (b : ℕ) → in_word b ≡ true → is_white b ≡ false
dark b h = grind (arith, nat_tests)

-- the item that a word begins
word_first : (mode : ParseMode) (lists : CatalogLists) (wanted : WantedItem) (place b : ℕ) (bs rest : List ℕ) → in_word b ≡ true → list_all in_word bs ≡ true → ends_word rest ≡ true
    → first_item mode lists wanted place b (bs ++ rest) ≡ word_item mode lists wanted place (b ∷ bs ++ rest) (length (b ∷ bs))
word_first mode lists wanted place b bs rest is all ends =
    let token : token_of mode.allow_slash_as_or_operator b ≡ a_word =
    ap (λ t. cond t a_word (cond (nat_eq b 43) a_plus (cond (nat_eq b 40) an_open (cond (nat_eq b 41) a_close (cond (mode.allow_slash_as_or_operator && nat_eq b 47) a_slash another))))) is in
    let long : 1 + prefix_len in_word (bs ++ rest) ≡ length (b ∷ bs) =
    ap (λ n. 1 + n) (run_all in_word bs rest all (ends_stop rest ends)) ∙ (let e : 1 + length bs ≡ suc (length bs) = omega arith in e) in
    ap (λ t. token_item mode lists wanted place (b ∷ bs ++ rest) (1 + rest_len t (bs ++ rest)) t) token
    ∙ ap (λ n. word_item mode lists wanted place (b ∷ bs ++ rest) n) long

-- a word is read, and so is what is behind its item
pub word_step : (mode : ParseMode) (lists : CatalogLists) (wanted : WantedItem) (place : ℕ) (word rest : List ℕ) (it : Item) (len : ℕ) → is_run word ≡ true → ends_word rest ≡ true
    → word_item mode lists wanted place (word ++ rest) (length word) ≡ it → it.span.end ≡ place + len → 0 < len → len ≤ length (word ++ rest)
    → items_from mode lists wanted place place (word ++ rest) ≡ it ∷ items_from mode lists (wanted_after wanted it.what) (place + len) (place + len) (drop len (word ++ rest))
word_step mode lists wanted place [] rest it len run ends is end some inside = absurd (false≢true run)
word_step mode lists wanted place (b ∷ bs) rest it len run ends is end some inside =
    let parts = both_true (in_word b) (list_all in_word bs) run in
    let first : first_item mode lists wanted place b (bs ++ rest) ≡ it = word_first mode lists wanted place b bs rest parts.0 parts.1 ends ∙ is in
    let back : suc (place + len - (place + 1)) ≡ len = omega arith in
    items_at mode lists wanted place b (bs ++ rest)
    ∙ ap (λ (t : Bool). let found = item_here t mode lists wanted place b (bs ++ rest) in with_item found (items_from mode lists (wanted_behind wanted found) (place + 1) (used_behind place found) (bs ++ rest))) (dark b parts.0)
    ∙ ap (λ (found : Item). found ∷ items_from mode lists (wanted_after wanted found.what) (place + 1) found.span.end (bs ++ rest)) first
    ∙ ap (λ (used : ℕ). it ∷ items_from mode lists (wanted_after wanted it.what) (place + 1) used (bs ++ rest)) end
    ∙ ap (λ items. it ∷ items)
    (passed mode lists (wanted_after wanted it.what) (place + 1) (place + len) (bs ++ rest) (omega arith) (omega arith)
    ∙ ap (λ k. items_from mode lists (wanted_after wanted it.what) (place + len) (place + len) (drop k (b ∷ bs ++ rest))) back)

-- ---- names of the catalogue

both_false : (a b : Bool) → (a || b) ≡ false → (a ≡ false) × (b ≡ false)
both_false true b h = absurd (true≢false h)
both_false false b h = (refl, h)

-- a word that begins like no reference is none
pub no_reference : (word : List ℕ) → is_reference word ≡ false → reference_of word ≡ None
no_reference word h =
    let parts = both_false (starts_with nat_eq word (codes "LicenseRef-")) (starts_with nat_eq word (codes "DocumentRef-")) h in
    let own : after_prefix (codes "LicenseRef-") word ≡ None = ap (λ t. cond t (Some (drop 11 word)) None) parts.0 in
    let document : after_prefix (codes "DocumentRef-") word ≡ None = ap (λ t. cond t (Some (drop 12 word)) None) parts.1 in
    ap (λ found. or_else (own_license None found) (in_document (after_prefix (codes "DocumentRef-") word))) own ∙ ap in_document document

-- what the catalogue says is beside a name
pub record IsNamed (name : List ℕ) : Type 0 where
  pub run : is_run name ≡ true
  pub no_operator : is_operator name ≡ false
  pub no_reference : is_reference name ≡ false

pub name_parts : (name : List ℕ) → is_name name ≡ true → IsNamed name
name_parts name h =
    let first = both_true (is_word name && not (is_operator name)) (not (is_reference name)) h in
    let second = both_true (is_word name) (not (is_operator name)) first.0 in
    record { run = word_is_run name second.0; no_operator = not_true (is_operator name) second.1; no_reference = not_true (is_reference name) first.1 }

listed_name : (licenses : List (List ℕ × LicenseEntry)) (name : List ℕ) (entry : LicenseEntry) → list_all is_name (names_of licenses) ≡ true → entry_of licenses name ≡ Some entry → is_name name ≡ true
listed_name [] name entry all h = cc
listed_name (one ∷ rest) name entry all h =
    let parts = both_true (is_name one.0) (list_all is_name (names_of rest)) all in
    elim (bytes_eq name one.0) as (λ (t : Bool). bytes_eq name one.0 ≡ t → cond t (Some one.1) (entry_of rest name) ≡ Some entry → is_name name ≡ true) [
      | true ↦ λ is e. ap is_name ((bytes_eq-Decides name one.0).0 is) ∙ parts.0
      | false ↦ λ is e. listed_name rest name entry parts.1 e
    ]
    refl h

pub entry_named : (lists : CatalogLists) (name : List ℕ) (entry : LicenseEntry) → IsCatalog lists → entry_of lists.licenses name ≡ Some entry → IsNamed name
entry_named lists name entry laws h = name_parts name (listed_name lists.licenses name entry laws.license_names h)

-- a reference as an item
referred : ℕ → ℕ → LicenseItem → Item
referred place len item = term_of item (record { later = false; deprecated = false; gnu = false; plus = false }) place len

-- a name is its licence, with the `+` directly behind it
pub named_item : (mode : ParseMode) (lists : CatalogLists) (place : ℕ) (name rest : List ℕ) (entry : LicenseEntry) → mode.allow_imprecise_license_names ≡ false → is_reference name ≡ false → entry_of lists.licenses name ≡ Some entry
    → word_item mode lists wants_term place (name ++ rest) (length name) ≡ license_of name entry (plus_behind (name ++ rest) (length name)) place (length name)
unfolding referred
named_item mode lists place name rest entry off own known =
    let text : List ℕ = name ++ rest in
    let len : ℕ = length name in
    let plain : plain_item lists place (name ++ rest) (length name) ≡ license_of name entry (plus_behind text len) place len =
    ap (λ (word : List ℕ). unwrap_or (option_or (option_map (referred place len) (reference_of word)) (license_at lists word place text len)) (item_at (operator_of word) place len)) (take-append_seam name rest)
    ∙ ap (λ found. unwrap_or (option_or (option_map (referred place len) found) (license_at lists name place text len)) (item_at (operator_of name) place len)) (no_reference name own)
    ∙ ap (λ found. unwrap_or (option_map (λ entry. license_of name entry (plus_behind text len) place len) found) (item_at (operator_of name) place len)) known in
    ap (λ t. unwrap_or (imprecise_if t lists place text len) (plain_item lists place text len)) off ∙ plain

-- what is behind a name
behind_name : (name rest : List ℕ) → plus_behind (name ++ rest) (length name) ≡ plus_behind rest 0
behind_name [] rest = refl
behind_name (b ∷ name) rest = behind_name name rest

pub some_bytes : (name : List ℕ) → is_run name ≡ true → 0 < length name
some_bytes [] h = absurd (false≢true h)
some_bytes (b ∷ rest) h = omega arith

-- a name and its item, with the `+` directly behind it
pub name_step : (mode : ParseMode) (lists : CatalogLists) (place : ℕ) (name rest : List ℕ) (entry : LicenseEntry) (plus : Bool) → IsCatalog lists → mode.allow_imprecise_license_names ≡ false → entry_of lists.licenses name ≡ Some entry
    → ends_word rest ≡ true → plus_behind rest 0 ≡ plus → (len : ℕ) → (license_of name entry plus place (length name)).span.end ≡ place + len → length name ≤ len → len ≤ length (name ++ rest)
    → items_from mode lists wants_term place place (name ++ rest) ≡ license_of name entry plus place (length name) ∷ items_from mode lists AfterTerm (place + len) (place + len) (drop len (name ++ rest))
name_step mode lists place name rest entry plus laws off known ends is_plus len end from to =
    let named : IsNamed name = entry_named lists name entry laws known in
    let some : 0 < length name = some_bytes name named.run in
    let is : word_item mode lists wants_term place (name ++ rest) (length name) ≡ license_of name entry plus place (length name) =
    named_item mode lists place name rest entry off named.no_reference known ∙ ap (λ one. license_of name entry one place (length name)) (behind_name name rest ∙ is_plus) in
    word_step mode lists wants_term place name rest (license_of name entry plus place (length name)) len named.run ends is end (omega arith) to

-- a name alone is one item
pub lone_name : (mode : ParseMode) (lists : CatalogLists) (name : List ℕ) (entry : LicenseEntry) → IsCatalog lists → mode.allow_imprecise_license_names ≡ false → entry_of lists.licenses name ≡ Some entry
    → items_of mode lists name ≡ license_of name entry false 0 (length name) ∷ []
lone_name mode lists name entry laws off known =
    let it : Item = license_of name entry false 0 (length name) in
    let whole : length (name ++ []) ≡ length name = ap length (append-nil name) in
    ap (λ (text : List ℕ). items_from mode lists wants_term 0 0 text) (sym (append-nil name))
    ∙ name_step mode lists 0 name [] entry false laws off known refl refl (length name) refl (omega arith) (omega arith)
    ∙ ap (λ (rest : List ℕ). it ∷ items_from mode lists AfterTerm (0 + length name) (0 + length name) rest) (drop-append_seam name [])
