-- What the rows of a command line say of an option.
use Rattle.std.specs.Prelude.{◌≡◌, ◌⊎◌, ◌==◌, ℕ, Bool, false, List, [], ◌∷◌, Option, None, Some, Result, Ok, Err}
use Rattle.std.specs.Prelude.{unwrap_or, codes}
use Rattle.std.specs.Option.{option_map_or, ok_or}
use Rattle.std.specs.Str.{bytes_eq}
use Rattle.clap.specs.Words.{Text, Row, first_of, all_of}
use Rattle.run_request.specs.declared.error.ArgsError.{ArgsError}
use Rattle.run_request.specs.declared.error.ArgsError.TheVariants.{BadValue, Memory}

-- the answer is the expected one, or memory was refused
abbrev pub AnswersArgs : {T : Type 0} → Result T ArgsError → Result T ArgsError → Type 0
AnswersArgs expected (Ok value) = expected ≡ Ok value
AnswersArgs expected (Err error) = (error ≡ Memory) ⊎ (expected ≡ Err error)

-- what follows a value that was read; the first refusal is the answer
abbrev pub and_then : {T U : Type 0} → (T → Result U ArgsError) → Result T ArgsError → Result U ArgsError
and_then next (Ok value) = next value
and_then next (Err error) = Err error

-- the value that a word stands for, or the refusal that tells the option and the word
abbrev pub option_value : {T : Type 0} → (Text → Option T) → Text → Text → Result T ArgsError
option_value read option word = ok_or (read word) (BadValue option word)

-- the value of the word, where there is a word
abbrev pub maybe_read : {T : Type 0} → (Text → Option T) → Text → Option Text → Result (Option T) ArgsError
maybe_read read option None = Ok None
maybe_read read option (Some word) = and_then (λ value. Ok (Some value)) (option_value read option word)

-- the value of an option
abbrev pub first_read : {T : Type 0} → (Text → Option T) → Text → List Row → Result (Option T) ArgsError
first_read read option rows = maybe_read read option (first_of option rows)

-- the values of words in their order, or the refusal of the first word that stands for none
abbrev pub words_read : {T : Type 0} → (Text → Option T) → Text → List Text → Result (List T) ArgsError
words_read read option [] = Ok []
words_read read option (word ∷ words) =
    and_then (λ value. and_then (λ values. Ok (value ∷ values)) (words_read read option words))
    (option_value read option word)

-- the words of an option, of all its uses
abbrev pub option_words : Text → List Row → List Text
option_words option rows = unwrap_or (all_of option rows) []

-- the values of an option, of all its uses
abbrev pub all_read : {T : Type 0} → (Text → Option T) → Text → List Row → Result (List T) ArgsError
all_read read option rows = words_read read option (option_words option rows)

-- an option without a value was used
abbrev pub is_set : Text → List Row → Bool
is_set option rows = option_map_or (λ word. bytes_eq word (codes "true")) (first_of option rows) false

-- a comma
abbrev pub is_comma : ℕ → Bool
is_comma byte = byte == 44
