-- What a run of the program comes to.
use Rattle.std.specs.Prelude.{◌≡◌, ◌≤◌, ◌⊎◌, ℕ, Bool, true, false, ◌&&◌, ◌||◌, List, [], ◌∷◌, ◌++◌, map, codes}
use Rattle.std.specs.Prelude.{Option, Result, Ok, Err, string_bytes}
use Rattle.std.specs.Str.{bytes_eq}
use Rattle.std.specs.declared.string.String.{String}
use Rattle.tree_core.specs.Call.{Call}
use Rattle.tree_core.specs.Faults.{Gained, GainedPrefix}
use Rattle.tree_core.specs.Script.{LineWritten, SinkTexts}
use Rattle.licence_hash.specs.Told.{AreTold, IsCaused, IsCutAmong, SinkFaults, sink_faults}
use Rattle.licence_hash.specs.declared.told.TellError.{TellError}
use Rattle.licence_hash.specs.declared.told.TellError.TheVariants.{Memory, Write, Words}

-- the words as texts
abbrev pub texts : {A : Type 0} → List (String A) → List (List ℕ)
texts words = map string_bytes words

-- how the program is used
unfoldable pub usage : List ℕ
usage =
    codes "usage: licence-hash FILE..\n"
    ++ codes "Writes for each file the entry that `license-files` of a clarification or of an exception takes. "
    ++ codes "Run it in the crate's folder,\n"
    ++ codes "since such an entry names a file from there on. Status 1: a file is not there, or is no text.\n"

-- what is asked for: all words but the first, which is the program's name
abbrev pub behind_name : List (List ℕ) → List (List ℕ)
behind_name [] = []
behind_name (name ∷ asked) = asked

abbrev pub has_none : List (List ℕ) → Bool
has_none [] = true
has_none (word ∷ more) = false

abbrev pub is_help : List ℕ → Bool
is_help word = bytes_eq word (codes "--help") || bytes_eq word (codes "-h")

-- one word is there, and asks for help
abbrev pub asks_help : List (List ℕ) → Bool
asks_help [] = false
asks_help (word ∷ more) = has_none more && is_help word

-- the calls of a tree, what was written to two sinks and their counts of faults, before a run and behind it
pub record HashSeen : Type 0 where
  pub old : List Call
  pub new : List Call
  pub before : SinkTexts
  pub after : SinkTexts
  pub faults : SinkFaults

abbrev pub hash_seen : {A B C : Type 0} → (A → List Call) → (B → Option (List ℕ)) → (B → ℕ) → (C → Option (List ℕ))
    → (C → ℕ) → A → B → C → A → B → C → HashSeen
hash_seen calls out out_count err err_count tree_old out_old err_old tree_new out_new err_new = record {
  old = calls tree_old;
  new = calls tree_new;
  before = record { out = out out_old; err = err err_old };
  after = record { out = out out_new; err = err err_new };
  faults = sink_faults out_count err_count out_old err_old out_new err_new;
}

-- Without a word the usage is on standard error, and that is not what was to be done. Where help is asked for it is on
-- standard output. All other words are files, and each of them is asked; it is done where each has its entry.
abbrev pub DoesBy : Bool → Bool → List (List ℕ) → HashSeen → Bool → Type 0
DoesBy true help asked seen is_done =
    (is_done ≡ false) × (seen.new ≡ seen.old) × (seen.after.out ≡ seen.before.out)
    × Gained seen.before.err seen.after.err usage
DoesBy false true asked seen is_done =
    (is_done ≡ true) × (seen.new ≡ seen.old) × (seen.after.err ≡ seen.before.err)
    × Gained seen.before.out seen.after.out usage
DoesBy false false asked seen is_done = AreTold asked seen.old seen.new seen.before seen.after is_done

abbrev pub Does : List (List ℕ) → HashSeen → Bool → Type 0
Does asked seen is_done = DoesBy (has_none asked) (asks_help asked) asked seen is_done

-- It did what some words ask for, all of them but the first. Which words a process is given no clause says.
pub record DoesSome (seen : HashSeen) (is_done : Bool) : Type 0 where
  pub words : List (List ℕ)
  pub does : Does (behind_name words) seen is_done

-- Where it is given up, a prefix of the usage is written, or the files are written up to one of them.
abbrev pub IsCutBy : Bool → Bool → List (List ℕ) → HashSeen → TellError → Type 0
IsCutBy true help asked seen error =
    (seen.new ≡ seen.old) × (seen.after.out ≡ seen.before.out) × GainedPrefix seen.before.err seen.after.err usage
IsCutBy false true asked seen error =
    (seen.new ≡ seen.old) × (seen.after.err ≡ seen.before.err) × GainedPrefix seen.before.out seen.after.out usage
IsCutBy false false asked seen error = IsCutAmong error asked seen.old seen.new seen.before seen.after

-- what these words ask for was given up, by its cause
pub record GivesUp (asked : List (List ℕ)) (seen : HashSeen) (error : TellError) : Type 0 where
  pub cause : IsCaused seen.faults error
  pub cut : IsCutBy (has_none asked) (asks_help asked) asked seen error

-- what some words ask for was given up, of all of them but the first
pub record GivesUpSome (seen : HashSeen) (error : TellError) : Type 0 where
  pub words : List (List ℕ)
  pub gives_up : GivesUp (behind_name words) seen error

-- what can keep words from being read
abbrev pub IsOfWords : TellError → Type 0
IsOfWords Memory = Unit {0}
IsOfWords Write = ⊥
IsOfWords Words = Unit {0}

-- no call was made, and nothing was written
pub record IsStill (seen : HashSeen) : Type 0 where
  pub calls : seen.new ≡ seen.old
  pub out : seen.after.out ≡ seen.before.out
  pub err : seen.after.err ≡ seen.before.err

-- the words were not read, so nothing was done; or what they ask for was given up
abbrev pub StopsSome : HashSeen → TellError → Type 0
StopsSome seen error = (IsOfWords error × IsStill seen) ⊎ GivesUpSome seen error

-- the line that says why it was given up
unfoldable pub why_line : TellError → List ℕ
why_line Memory = codes "licence-hash: out of memory\n"
why_line Write = codes "licence-hash: writing failed\n"
why_line Words = codes "licence-hash: the words could not be read\n"

-- the same run up to a moment at which so much was on standard error, and its count of faults was this
abbrev pub up_to : HashSeen → Option (List ℕ) → ℕ → HashSeen
up_to seen written count = record seen {
  after = record seen.after { err = written };
  faults = record seen.faults { err_after = count };
}

-- The run stopped, and behind that its line is on standard error; a prefix of the line where its write was refused.
pub record StopsWithLine (seen : HashSeen) (error : TellError) : Type 0 where
  pub written : Option (List ℕ)
  pub count : ℕ
  pub stops : StopsSome (up_to seen written count) error
  pub later : count ≤ seen.faults.err_after
  pub line : LineWritten written seen.after.err count seen.faults.err_after (why_line error)

-- The number that the process ends with: 0 only where all was done, so each write was taken whole.
abbrev pub ending_of : Result Bool TellError → ℕ
ending_of (Ok true) = 0
ending_of (Ok false) = 1
ending_of (Err error) = 1
