-- A request of which all is carried, and one of which nothing was read.
use Rattle.std.proofs.Common.{◌≡◌, ◌∙◌, refl, ap, ℕ, Bool, true, false, cond, List, [], ◌∷◌, Option, Some, None, Ok}
use Rattle.std.specs.Prelude.{find, is_none, option_map}
use Rattle.std.specs.List.{list_any}
use Rattle.graph_core.specs.selection.Choice.{is_unsupported}
use Rattle.graph_workspace.specs.declared.error.UnsupportedPart.{UnsupportedPart}
use Rattle.policy_core.specs.Policy.{PolicyFound}
use Rattle.policy_core.specs.declared.load.LoadedPolicy.{LoadedPolicy}
use Rattle.policy_load.specs.Answer.{IsPolicyOf}
use Rattle.policy_parts.specs.declared.graph.GraphConfig.{GraphConfig}
use Rattle.run_found.specs.Found.{HearsNothing, policy_found}
use Rattle.run_found.specs.Given.{RequestArguments}
use Rattle.run_found.specs.Hearing.{RequestHearing}
use Rattle.run_found.proofs.ByteLemmas.{bytes_of_found}

-- no part of the list is so
abbrev pub AreNone : List (Bool × UnsupportedPart) → Type 0
AreNone [] = Unit {0}
AreNone (part ∷ parts) = (part.0 ≡ false) × AreNone parts

by_test : (test : Bool) (part : Bool × UnsupportedPart) (rest : Option (Bool × UnsupportedPart)) → option_map (λ (one : Bool × UnsupportedPart). one.1) (cond test (Some part) rest) ≡ None
    → (test ≡ false) × (option_map (λ (one : Bool × UnsupportedPart). one.1) rest ≡ None)
by_test true part rest e = absurd (cc)
by_test false part rest e = (refl, e)

pub all_none : (parts : List (Bool × UnsupportedPart)) → option_map (λ (one : Bool × UnsupportedPart). one.1) (find (λ (one : Bool × UnsupportedPart). one.0) parts) ≡ None → AreNone parts
all_none [] e = tt
all_none (part ∷ parts) e =
    let both = by_test part.0 part (find (λ (one : Bool × UnsupportedPart). one.0) parts) e in (both.0, all_none parts both.1)

-- a path that is there
pub path_there : (path : Option (List ℕ)) → is_none path ≡ false → (own : List ℕ) × (path ≡ Some own)
path_there None e = absurd (cc)
path_there (Some path) e = (path, refl)

-- the specs of a policy that is found are carried
pub specs_carried : (given : RequestArguments) (hearing : RequestHearing) (found : PolicyFound) (policy : LoadedPolicy) → policy_found given hearing ≡ Ok found → IsPolicyOf found policy
    → list_any is_unsupported policy.graph.exclude ≡ false
specs_carried given hearing found policy is valid =
    let at = bytes_of_found given hearing found is in
    ap (λ (graph : GraphConfig). list_any is_unsupported graph.exclude) (valid.graph ∙ ap (λ (one : PolicyFound). one.graph) at.is.is) ∙ at.is.carried

-- nothing was read
abbrev pub nothing_heard : ℕ → RequestHearing
nothing_heard count = record { begun = count; sought = []; looks = []; policy = None; exceptions = None; metadata = None; crates = [] }

pub hears_nothing : (count : ℕ) → HearsNothing (nothing_heard count)
hears_nothing count = record { sought = refl; looks = refl; policy = refl; exceptions = refl; metadata = refl }
