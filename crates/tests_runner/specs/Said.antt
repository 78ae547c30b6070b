-- What the identifiers of cases say of a text.
use Rattle.std.specs.Prelude.{ℕ, ◌≤◌, min, List, codes, Option, Some, None}
use Rattle.std.proofs.Math.Nat.{min-le_right}
use Rattle.spdx_terms.specs.declared.catalog.identifier.Match.{Match}
use Rattle.spdx_terms.specs.catalog.Store as store
use Rattle.tests_files.specs.Said as said
use Rattle.tests_runner.specs.declared.identifiers.CaseIdentifier.{CaseIdentifier}
use Rattle.tests_runner.specs.declared.identifiers.CaseIdentifier.TheVariants.{Stored, Named, Mit}

-- what each says of a text
abbrev pub match_of_text : CaseIdentifier → List ℕ → Match
match_of_text (Stored texts) text = store.match_of texts text
match_of_text Named text = said.match_with text (said.name_in text)
match_of_text (Mit score) text = record { name = Some (codes "MIT"); score = min score 100 }

-- the text that each keeps under a name
abbrev pub kept_text : CaseIdentifier → List ℕ → Option (List ℕ)
kept_text (Stored texts) name = store.text_of_store texts name
kept_text Named name = None
kept_text (Mit score) name = None

pub is_within : (known : CaseIdentifier) (text : List ℕ) → (match_of_text known text).score ≤ 100
is_within (Stored texts) text = store.score_within (store.stored_for texts text)
is_within Named text = said.is_within text (said.name_in text)
is_within (Mit score) text = min-le_right score 100
