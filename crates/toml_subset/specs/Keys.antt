-- Bare, quoted and dotted keys (TOML 1.0: Keys).
use Rattle.std.specs.Prelude.{◌≡◌, ℕ, ◌+◌, ◌<◌, false, ◌⊎◌, IsTrue, IsFalse, List, [], ◌∷◌}
use Rattle.toml_subset.specs.Bytes.{dot, is_bare}
use Rattle.toml_subset.specs.Places.{from_to, stands, run_end, run_at, after_blanks}
use Rattle.toml_subset.specs.Strings.{IsString, basic, literal}
use Rattle.toml_subset.specs.declared.string.Key.{Key}

-- a bare key is the longest run of letters, digits, `_` and `-`, and is not empty
pub record IsBareKey (text : List ℕ) (i : ℕ) (key : Key) (next : ℕ) : Type 0 where
  pub some : i < next
  pub ends : next ≡ run_end is_bare text i
  pub is : key ≡ record { name = record { text = run_at is_bare text i; escaped = false }; span = from_to i next }

-- a quoted key is a string of one line
abbrev pub IsQuotedKey : List ℕ → ℕ → Key → ℕ → Type 0
IsQuotedKey text i key next =
    IsString text i basic key.name key.span next ⊎ IsString text i literal key.name key.span next

-- a key, or a part of a dotted key
abbrev pub IsKey : List ℕ → ℕ → Key → ℕ → Type 0
IsKey text i key next = IsBareKey text i key next ⊎ IsQuotedKey text i key next

-- The parts of a key from a place on, with blanks around the dots between them. It goes on as long as a dot follows.
abbrev pub AreKeys : List ℕ → ℕ → List Key → ℕ → Type 0
AreKeys text i [] next = ⊥
AreKeys text i (key ∷ more) next =
    (k : ℕ) × IsKey text i key k
    × ((IsTrue (stands text (after_blanks text k) dot)
    × AreKeys text (after_blanks text (after_blanks text k + 1)) more next)
    ⊎ (IsFalse (stands text (after_blanks text k) dot) × (more ≡ []) × (next ≡ k)))
