-- What reading answers: what is at a place, or the first fault.
use Rattle.std.specs.Prelude.{◌≡◌, ℕ, nat_lt, if◌then◌else◌, List, Option, Some, None, Result, Ok, Err, length, ⊤}
use Rattle.toml_subset.specs.Places.{from_to, char_end}
use Rattle.toml_subset.specs.declared.error.SyntaxError.{SyntaxError}
use Rattle.toml_subset.specs.declared.error.SyntaxReason.{SyntaxReason}
use Rattle.toml_subset.specs.declared.error.SyntaxReason.TheVariants.{UnexpectedEnd, Unexpected}
use Rattle.toml_subset.specs.declared.error.TomlError.{TomlError}
use Rattle.toml_subset.specs.declared.error.TomlError.TheVariants.{Syntax, Memory}

abbrev pub TomlReading : Type 0 → Type 0
TomlReading A = Result A SyntaxError

abbrev pub fault_at : SyntaxReason → ℕ → ℕ → SyntaxError
fault_at reason i j = record { reason = reason; span = from_to i j }

-- Nothing can go on at a place: another character is there, or the text ends.
abbrev pub stop_error : List ℕ → ℕ → SyntaxError
stop_error text i =
    if nat_lt i (length text) then fault_at Unexpected i (char_end text i)
    else fault_at UnexpectedEnd (length text) (length text)

-- reading on behind what was read
abbrev pub then_read : {A B : Type 0} → (A → TomlReading B) → TomlReading A → TomlReading B
then_read rest (Ok x) = rest x
then_read rest (Err fault) = Err fault

-- a fault that is found before anything further is read
abbrev pub fault_or : {A : Type 0} → Option SyntaxError → TomlReading A → TomlReading A
fault_or (Some fault) answer = Err fault
fault_or None answer = answer

-- what the program answers, seen by `view`, is what reading answers
abbrev pub AnswersSyntax : {A B : Type 0} → (B → A) → TomlReading A → Result B SyntaxError → Type 0
AnswersSyntax view wanted (Ok x) = wanted ≡ Ok (view x)
AnswersSyntax view wanted (Err fault) = wanted ≡ Err fault

-- the same of a call that takes memory, which may end anywhere
abbrev pub AnswersToml : {A B : Type 0} → (B → A) → TomlReading A → Result B TomlError → Type 0
AnswersToml view wanted (Ok x) = wanted ≡ Ok (view x)
AnswersToml view wanted (Err (Syntax fault)) = wanted ≡ Err fault
AnswersToml view wanted (Err Memory) = ⊤
