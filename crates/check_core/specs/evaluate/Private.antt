-- The numbers by which it is found whether a policy passes over a crate.
use Rattle.std.specs.Prelude.{ℕ, Bool, true, false, List, [], map, Option, Some, None, unwrap_or, option_map}
use Rattle.std.specs.Prelude.{slice_get}
use Rattle.std.specs.Option.{option_map_or}
use Rattle.std.specs.Str.{bytes_eq}
use Rattle.url.specs.Host.{host_text}
use Rattle.url.specs.Parts.{Parts, nonempty_host}
use Rattle.graph_core.specs.source.Matching.{Matches}
use Rattle.graph_core.specs.declared.source.source.Source.{Source}
use Rattle.policy_parts.specs.spec.Index.{mixed_number, name_number}
use Rattle.policy_core.specs.valid.Policy.{Policy}

-- the number of a host and a path
abbrev pub site_number : List ℕ → List ℕ → ℕ
site_number host path = mixed_number (name_number host) (name_number path)

-- that of an address's host, or of no text, and of its path
abbrev pub address_number : Parts → ℕ
address_number address = site_number (unwrap_or (option_map host_text (nonempty_host address)) []) address.path

-- those of the registries and of the addresses that make a crate private
pub record PrivateNumbers : Type 0 where
  pub registries : List ℕ
  pub addresses : List ℕ

abbrev pub private_numbers : Policy → PrivateNumbers
private_numbers policy =
    record { registries = map name_number policy.registries; addresses = map address_number policy.ignore_sources }

-- whether the name at a place is this one
abbrev pub is_at : List (List ℕ) → List ℕ → ℕ → Bool
is_at names name place = option_map_or (λ other. bytes_eq other name) (slice_get names place) false

-- what is said of the item at a place, which is there
abbrev pub Holds : {A : Type 0} → (A → Type 0) → Option A → Type 0
Holds P None = ⊥
Holds P (Some x) = P x

-- the source matches the address at a place exactly
abbrev pub MatchesAt : Source → List Parts → ℕ → Type 0
MatchesAt source addresses place = Holds (Matches true source) (slice_get addresses place)
