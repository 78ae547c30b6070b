-- Values with their places, and faults of values, each as reading computes it (place 0 is the value's first byte).
use Rattle.std.proofs.Common.{◌≡◌, ℕ, ◌+◌, Bool, true, false, List, [], ◌∷◌, Ok, Err, pos, replicate, refl, codes}
use Rattle.toml_subset.specs.Answer.{fault_at}
use Rattle.toml_subset.specs.Data as «data»
use Rattle.toml_subset.specs.Places.{from_to}
use Rattle.toml_subset.specs.Reading.{value_at}
use Rattle.toml_subset.specs.declared.error.SyntaxReason.{SyntaxReason}
use Rattle.toml_subset.specs.declared.error.SyntaxReason.TheVariants.{UnexpectedEnd, Unexpected, InvalidEscape, ControlCharacter, NumberForm, DuplicateKey, RedefinedTable, TooDeep}
use Rattle.toml_subset.specs.declared.string.Key.{Key}

abbrev ReadsText : List ℕ → List ℕ → Bool → ℕ → ℕ → ℕ → Type 0
ReadsText s text escaped i j next = value_at s 0 0 ≡ Ok (from_to i j, data.string (record { text = text; escaped = escaped }), next)

abbrev FaultOf : List ℕ → SyntaxReason → ℕ → ℕ → Type 0
FaultOf s reason i j = value_at s 0 0 ≡ Err (fault_at reason i j)

long_marks : ReadsText (codes "\"\"\"\np\"\"\"\"") (codes "p\"") false 4 6 9
long_marks = refl

long_apostrophes : ReadsText (codes "'''''q'''''") (codes "''q''") false 3 8 11
long_apostrophes = refl

trimmed : ReadsText (codes "\"\"\"m\\\n\n  n\"\"\"") (codes "mn") true 3 10 13
trimmed = refl

last_scalar : ReadsText (codes "\"\\U0010FFFF\"") (244 ∷ 143 ∷ 191 ∷ 191 ∷ []) true 1 11 12
unfolding lib.Utf8.encode
last_scalar = refl

surrogate : FaultOf (codes "\"\\uDBFF\"") InvalidEscape 1 7
surrogate = refl

past_the_last_scalar : FaultOf (codes "\"\\U00110000\"") InvalidEscape 1 11
past_the_last_scalar = refl

escape_of_two_bytes : FaultOf (34 ∷ 92 ∷ 195 ∷ 169 ∷ 34 ∷ []) InvalidEscape 1 4
escape_of_two_bytes = refl

digit_missing : FaultOf (codes "\"\\u0q\"") InvalidEscape 1 5
digit_missing = refl

digits_cut : FaultOf (codes "\"\\u0") UnexpectedEnd 4 4
digits_cut = refl

sixth_mark : FaultOf (codes "\"\"\"k\"\"\"\"\"\"") Unexpected 9 10
sixth_mark = refl

entry_twice : FaultOf (codes "{k=1,k=@") DuplicateKey 5 6
entry_twice = refl

entry_cut : FaultOf (codes "{k=1,k") UnexpectedEnd 6 6
entry_cut = refl

entry_into_an_inline_table : FaultOf (codes "{k={},k.m=1}") RedefinedTable 6 7
entry_into_an_inline_table = refl

entry_over_a_dotted_one : FaultOf (codes "{k.m=1,k=2}") DuplicateKey 7 8
entry_over_a_dotted_one = refl

control_in_an_array_comment : FaultOf (91 ∷ 49 ∷ 32 ∷ 35 ∷ 1 ∷ []) ControlCharacter 4 5
control_in_an_array_comment = refl

control_in_an_array : FaultOf (91 ∷ 49 ∷ 32 ∷ 1 ∷ []) Unexpected 3 4
control_in_an_array = refl

bracket_129 : FaultOf (replicate 129 91) TooDeep 128 129
bracket_129 = refl

escape_cut : FaultOf (codes "\"\"\"\\  ") UnexpectedEnd 6 6
escape_cut = refl

blank_behind_a_backslash : FaultOf (codes "\"\"\"\\ k\"\"\"") InvalidEscape 3 5
blank_behind_a_backslash = refl

word_cut : FaultOf (codes "fals") UnexpectedEnd 4 4
word_cut = refl

sign_alone : FaultOf (codes "+") NumberForm 0 1
sign_alone = refl

word_other : FaultOf (codes "nano") Unexpected 0 1
word_other = refl

key : List ℕ → ℕ → Key
key s i = record { name = record { text = s; escaped = false }; span = from_to i (i + 1) }

-- one entry `p`, whose table is at it
dotted_entries : value_at (codes "{p.q=[1,],p.r={}}") 0 0 ≡ Ok (
  from_to 0 17,
  data.table
      (data.entry (key (codes "p") 1) (from_to 1 2) (data.table
      (data.entry (key (codes "q") 3) (from_to 5 9) (data.array (data.item (from_to 6 7) (data.integer (pos 1)) data.no_item))
      (data.entry (key (codes "r") 12) (from_to 14 16) (data.table data.no_entry) data.no_entry))) data.no_entry),
  17,
)
unfolding key
dotted_entries = refl
