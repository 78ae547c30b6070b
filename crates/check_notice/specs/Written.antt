-- A notice as it is written.
use Rattle.std.specs.Prelude.{ℕ, ◌+◌, List, [], ◌∷◌, ◌++◌, codes, decimal}
use Rattle.std.specs.List.{flat_map}
use Rattle.check_notice.specs.declared.notice.KeyNumber.{KeyNumber}
use Rattle.check_notice.specs.declared.notice.Notice.{Notice}
use Rattle.check_notice.specs.declared.notice.NoticeCrate.{NoticeCrate}

-- `{key} [{number}]`
abbrev pub key_text : KeyNumber → List ℕ
key_text key = key.key ++ (codes " [" ++ (decimal key.number ++ codes "]"))

-- keys, each behind a comma and a blank
abbrev pub keys_behind : List KeyNumber → List ℕ
keys_behind keys = flat_map (λ key. codes ", " ++ key_text key) keys

-- keys with these between
abbrev pub keys_text : List KeyNumber → List ℕ
keys_text [] = []
keys_text (key ∷ keys) = key_text key ++ keys_behind keys

-- the line of a crate
abbrev pub crate_text : NoticeCrate → List ℕ
crate_text told = told.name ++ (codes ": " ++ (keys_text told.keys ++ codes "\n"))

-- an empty line, and the number of a text
abbrev pub text_head : ℕ → List ℕ
text_head number = codes "\n[" ++ (decimal number ++ codes "]\n")

-- texts that are numbered from a number on, each behind its number
abbrev pub texts_from : ℕ → List (List ℕ) → List ℕ
texts_from number [] = []
texts_from number (text ∷ texts) = text_head number ++ (text ++ texts_from (number + 1) texts)

-- the lines of the crates, and then the texts
abbrev pub notice_text : Notice → List ℕ
notice_text notice = flat_map crate_text notice.crates ++ texts_from 1 notice.texts
