-- One item more behind others, and one pair more.
use Rattle.std.proofs.Common.{◌≡◌, refl, ℕ, zero, suc, ◌<◌, Bool, true, false, cond, List, [], ◌∷◌, ◌++◌, length, get_or, Option, None, Some, arith}
use Rattle.std.specs.Prelude.{unwrap_or}
use Rattle.std.specs.Option.{option_or}
use Rattle.diag_core.specs.Overrides.{first_output_of}
use Rattle.diag_core.specs.Severity.{is_same_severity}
use Rattle.diag_core.specs.declared.overrides.LevelPair.{LevelPair}
use Rattle.diag_core.specs.declared.severity.Severity.{Severity}
use Rattle.run_request.specs.declared.level.CodeOrLevel.{CodeOrLevel}
use Rattle.run_overrides.specs.declared.items.LevelItem.{LevelItem}
use Rattle.run_overrides.specs.Items.{asked_of}
use Rattle.run_overrides.specs.Put.{output_of}

pub or_none : (told : Option Severity) → option_or told None ≡ told
or_none None = refl
or_none (Some severity) = refl

-- ---- items

-- what one item sets
abbrev pub one_asked : (CodeOrLevel → Bool) → LevelItem → Option Severity
one_asked test item = cond (test item.subject) (Some item.severity) None

behind : (here : Bool) (severity : Severity) (more old rest : Option Severity) → more ≡ option_or old rest → cond here (Some severity) more ≡ option_or (cond here (Some severity) old) rest
behind true severity more old rest e = refl
behind false severity more old rest e = e

pub asked-push : (test : CodeOrLevel → Bool) (items : List LevelItem) (item : LevelItem) → asked_of test (items ++ item ∷ []) ≡ option_or (asked_of test items) (one_asked test item)
asked-push test [] item = refl
asked-push test (first ∷ items) item = behind (test first.subject) first.severity _ _ _ (asked-push test items item)

-- ---- pairs

-- what one pair sets
abbrev pub one_output : LevelPair → Severity → Option Severity
one_output pair input = cond (is_same_severity pair.input input) (Some pair.output) None

pub output-push : (pairs : List LevelPair) (pair : LevelPair) (input : Severity) → output_of (pairs ++ pair ∷ []) input ≡ option_or (output_of pairs input) (one_output pair input)
output-push [] pair input = refl
output-push (first ∷ pairs) pair input = behind (is_same_severity first.input input) first.output _ _ _ (output-push pairs pair input)

missed : (here : Bool) (severity : Severity) (rest : Option Severity) → cond here (Some severity) rest ≡ None → (here ≡ false) × (rest ≡ None)
missed true severity rest e = absurd (cc)
missed false severity rest e = (refl, e)

-- where nothing is set for an input, no pair has it
pub none_there : (pairs : List LevelPair) (input : Severity) → output_of pairs input ≡ None → (k : ℕ) (d : LevelPair) → k < length pairs → is_same_severity (get_or pairs k d).input input ≡ false
none_there [] input none k d within = absurd (omega arith)
none_there (pair ∷ pairs) input none zero d within = (missed (is_same_severity pair.input input) pair.output (output_of pairs input) none).0
none_there (pair ∷ pairs) input none (suc k) d within = none_there pairs input (missed (is_same_severity pair.input input) pair.output (output_of pairs input) none).1 k d (omega arith)

-- the output of pairs, as a look-up
either_output : (here : Bool) (output severity rest : Severity) (more : Option Severity) → rest ≡ unwrap_or more severity → cond here output rest ≡ unwrap_or (cond here (Some output) more) severity
either_output true output severity rest more e = refl
either_output false output severity rest more e = e

pub first_output-output : (pairs : List LevelPair) (severity : Severity) → first_output_of pairs severity ≡ unwrap_or (output_of pairs severity) severity
first_output-output [] severity = refl
first_output-output (pair ∷ pairs) severity = either_output (is_same_severity pair.input severity) pair.output severity _ _ (first_output-output pairs severity)
