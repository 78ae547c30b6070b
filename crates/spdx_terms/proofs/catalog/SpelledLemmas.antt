-- Words with a space after each are the same bytes exactly where they are the same words.
use Rattle.std.proofs.Common.{◌≡◌, ◌∙◌, ◌<◌, ℕ, nat_eq, Bool, true, false, cond, ◌&&◌, List, [], ◌∷◌, ◌++◌, filter, refl, ap, arith, codes}
use Rattle.std.proofs.Common.{lit<}
use Rattle.std.proofs.lemmas.Str.{IsAscii-append, IsUtf8-from_ascii}
use Rattle.std.proofs.lemmas.Str.Ascii.{IsAscii-nil, IsAscii-cons}
use Rattle.std.specs.Prelude.{IsAscii, IsUtf8}
use Rattle.std.specs.Char.{is_ascii_alphanumeric, to_ascii_lowercase}
use Rattle.std.specs.Str.{bytes_eq}
use Rattle.std.specs.List.{flat_map, slice_split, onto_first}
use Rattle.std.specs.Cmp.Lexicographic.{pointwise}
use Rattle.spdx_terms.specs.catalog.TextWords.{has_some, is_between, is_copyright, is_line_end, runs_of, lower_of, words_kept, line_words, words_of, words_with_spaces}

-- ASCII, and no space
abbrev pub Spaceless : List ℕ → Type 0
Spaceless [] = Unit {0}
Spaceless (b ∷ bs) = (nat_eq b 32 ≡ false) × (nat_eq 32 b ≡ false) × Spaceless bs × (b < 128)

abbrev pub AllSpaceless : List (List ℕ) → Type 0
AllSpaceless [] = Unit {0}
AllSpaceless (word ∷ words) = Spaceless word × AllSpaceless words

false_and : (b rest : Bool) → b ≡ false → false ≡ (b && rest)
false_and b rest e = rw e refl

-- two words and what follows each
word_eq : (word other rest others : List ℕ) → Spaceless word → Spaceless other → (bytes_eq word other && bytes_eq rest others) ≡ bytes_eq ((word ++ codes " ") ++ rest) ((other ++ codes " ") ++ others)
word_eq [] [] rest others clean others_clean = refl
word_eq [] (y ∷ ys) rest others clean others_clean = false_and (nat_eq 32 y) _ others_clean.1
word_eq (x ∷ xs) [] rest others clean others_clean = false_and (nat_eq x 32) _ clean.0
word_eq (x ∷ xs) (y ∷ ys) rest others clean others_clean =
    elim (nat_eq x y) as (λ b. ((b && bytes_eq xs ys) && bytes_eq rest others) ≡ (b && bytes_eq ((xs ++ codes " ") ++ rest) ((ys ++ codes " ") ++ others)))
    [ true ↦ word_eq xs ys rest others clean.2 others_clean.2 | false ↦ refl ]

nothing : (word rest : List ℕ) → false ≡ bytes_eq [] ((word ++ codes " ") ++ rest)
nothing [] rest = refl
nothing (x ∷ xs) rest = refl

something : (word rest : List ℕ) → false ≡ bytes_eq ((word ++ codes " ") ++ rest) []
something [] rest = refl
something (x ∷ xs) rest = refl

pub same_spelled : (words others : List (List ℕ)) → AllSpaceless words → AllSpaceless others → pointwise bytes_eq words others ≡ bytes_eq (words_with_spaces words) (words_with_spaces others)
same_spelled [] [] clean others_clean = refl
same_spelled [] (other ∷ others) clean others_clean = nothing other (words_with_spaces others)
same_spelled (word ∷ words) [] clean others_clean = something word (words_with_spaces words)
same_spelled (word ∷ words) (other ∷ others) clean others_clean =
    ap (λ same. bytes_eq word other && same) (same_spelled words others clean.1 others_clean.1)
    ∙ word_eq word other (words_with_spaces words) (words_with_spaces others) clean.0 others_clean.0

-- a letter or a digit is no space in lower case
lower_no_space : (b : ℕ) → is_ascii_alphanumeric b ≡ true → (nat_eq (to_ascii_lowercase b) 32 ≡ false) × (nat_eq 32 (to_ascii_lowercase b) ≡ false)
lower_no_space b is = let h : (nat_eq (to_ascii_lowercase b) 32 ≡ false) × (nat_eq 32 (to_ascii_lowercase b) ≡ false) = grind arith in h

lower_ascii : (b : ℕ) → is_ascii_alphanumeric b ≡ true → to_ascii_lowercase b < 128
lower_ascii b is = let h : to_ascii_lowercase b < 128 = grind arith in h

abbrev AllParts : List (List ℕ) → Type 0
AllParts parts = AllSpaceless (lower_of parts)

onto : (b : ℕ) (parts : List (List ℕ)) → is_ascii_alphanumeric b ≡ true → AllParts parts → AllParts (onto_first b parts)
onto b [] is clean = let h = lower_no_space b is in ((h.0, h.1, tt, lower_ascii b is), tt)
onto b (part ∷ parts) is clean = let h = lower_no_space b is in ((h.0, h.1, clean.0, lower_ascii b is), clean.1)

part_at : (b : ℕ) (bs : List ℕ) (is : Bool) → is_ascii_alphanumeric b ≡ is → AllParts (slice_split is_between bs) → AllParts (slice_split is_between (b ∷ bs))
part_at b bs true e clean = rw e (onto b (slice_split is_between bs) e clean)
part_at b bs false e clean = rw e (tt, clean)

split_parts : (line : List ℕ) → AllParts (slice_split is_between line)
split_parts [] = (tt, tt)
split_parts (b ∷ bs) = part_at b bs (is_ascii_alphanumeric b) refl (split_parts bs)

with_some : (parts : List (List ℕ)) → AllParts parts → AllParts (filter has_some parts)
with_some [] clean = tt
with_some ([] ∷ parts) clean = with_some parts clean.1
with_some ((b ∷ bs) ∷ parts) clean = (clean.0, with_some parts clean.1)

of_line : (words : List (List ℕ)) → AllSpaceless words → AllSpaceless (words_kept words)
of_line words clean =
    elim (is_copyright words) as (λ b. AllSpaceless (cond b [] words)) [ true ↦ tt | false ↦ clean ]

both : (words others : List (List ℕ)) → AllSpaceless words → AllSpaceless others → AllSpaceless (words ++ others)
both [] others clean others_clean = others_clean
both (word ∷ words) others clean others_clean = (clean.0, both words others clean.1 others_clean)

of_lines : (lines : List (List ℕ)) → AllSpaceless (flat_map line_words lines)
of_lines [] = tt
of_lines (line ∷ lines) =
    both (line_words line) (flat_map line_words lines)
    (of_line (lower_of (runs_of line)) (with_some (slice_split is_between line) (split_parts line)))
    (of_lines lines)

-- the words of a text have no spaces
pub words_spaceless : (text : List ℕ) → AllSpaceless (words_of text)
words_spaceless text = of_lines (slice_split is_line_end text)

ascii_word : (word : List ℕ) → Spaceless word → IsAscii word
ascii_word [] clean = IsAscii-nil
ascii_word (b ∷ bs) clean = IsAscii-cons b bs clean.3 (ascii_word bs clean.2)

ascii_words : (words : List (List ℕ)) → AllSpaceless words → IsAscii (words_with_spaces words)
ascii_words [] clean = IsAscii-nil
ascii_words (word ∷ words) clean =
    IsAscii-append (word ++ codes " ") (words_with_spaces words) (IsAscii-append word (codes " ") (ascii_word word clean.0) (IsAscii-cons 32 [] (lit< tt) IsAscii-nil)) (ascii_words words clean.1)

-- so their spelling is a text
pub words_text : (text : List ℕ) → IsUtf8 (words_with_spaces (words_of text))
words_text text = IsUtf8-from_ascii (words_with_spaces (words_of text)) (ascii_words (words_of text) (words_spaceless text))
