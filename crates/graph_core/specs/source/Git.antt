-- Addresses of git repositories: their normal form, and the branch, tag or revision that their query names.
use Rattle.std.specs.Prelude.{◌≡◌, ◌⊎◌, ℕ, ◌-◌, ◌==◌, Bool, not, ◌&&◌, ◌||◌, List, [], ◌∷◌, ◌++◌, map, filter, take}
use Rattle.std.specs.Prelude.{length, slice_get, codes, bytes_eq, Option, Some, None, is_some, unwrap_or, option_map}
use Rattle.std.specs.Prelude.{option_and_then, if◌then◌else◌}
use Rattle.std.specs.List.{list_any, join_with_byte, ends_with}
use Rattle.std.specs.Str.Lossy.{utf8_lossy}
use Rattle.form_urlencoded.specs.Form.{raw_pairs, decode}
use Rattle.url.specs.Parts.{Parts, cannot_be_a_base}
use Rattle.url.specs.Setters.{set_path, set_query, pop_empty_segment}
use Rattle.graph_core.specs.declared.source.source.GitSpec.{GitSpec}
use Rattle.graph_core.specs.declared.source.source.GitSpec.TheVariants.{Any, Branch, Tag, Rev}

-- ---- the path

abbrev pub ends_with_git : List ℕ → Bool
ends_with_git path = ends_with (λ x y. x == y) path (codes ".git")

-- the address without `.git` at the end of its path, read anew
abbrev pub without_extension : Parts → Parts
without_extension address =
    if ends_with_git address.path && not (cannot_be_a_base address)
    then set_path address (take (length address.path - 4) address.path) else address

-- the address without one `/` at the end of its path, unless that is `/` alone
abbrev pub without_last_slash : Parts → Parts
without_last_slash address = if cannot_be_a_base address then address else pop_empty_segment address

-- The path loses `.git` at its end, and then one `/`. A path that is no base keeps both.
abbrev pub with_normal_path : Parts → Parts
with_normal_path address = without_last_slash (without_extension address)

-- what an address may be on the way to its normal form, before its query is changed: the address itself, without
-- `.git`, or with the normal path
abbrev pub IsPathOnTheWay : Parts → Parts → Type 0
IsPathOnTheWay old new = (new ≡ old) ⊎ ((new ≡ without_extension old) ⊎ (new ≡ with_normal_path old))

-- ---- the query

-- a name and its value
abbrev pub Pair : Type 0
Pair = List ℕ × List ℕ

abbrev pub decoded_pair : Pair → Pair
decoded_pair (name, value) = (utf8_lossy (decode name), utf8_lossy (decode value))

-- the pairs of the query, decoded
abbrev pub query_of : Parts → List Pair
query_of address = map decoded_pair (raw_pairs (unwrap_or address.query []))

-- what a name in a query stands for
abbrev pub spec_named : List ℕ → Option GitSpec
spec_named name =
    if bytes_eq name (codes "branch") || bytes_eq name (codes "ref") then Some Branch
    else (if bytes_eq name (codes "tag") then Some Tag else (if bytes_eq name (codes "rev") then Some Rev else None))

abbrev pub names_spec : Pair → Bool
names_spec pair = is_some (spec_named pair.0)

-- the last item of a list
abbrev pub last_of : List Pair → Option Pair
last_of pairs = slice_get pairs (length pairs - 1)

-- the last pair that names a branch, a tag or a revision
abbrev pub last_spec : List Pair → Option Pair
last_spec pairs = last_of (filter names_spec pairs)

-- the pair where it names one of these, else the one found before
abbrev pub last_spec_pair : Option Pair → Pair → Option Pair
last_spec_pair found pair = if names_spec pair then Some pair else found

-- what the last such pair stands for, and its value
abbrev pub spec_in : List Pair → GitSpec
spec_in pairs = unwrap_or (option_and_then (λ pair. spec_named pair.0) (last_spec pairs)) Any

abbrev pub value_in : List Pair → Option (List ℕ)
value_in pairs = option_map (λ pair. pair.1) (last_spec pairs)

-- the pair `branch=master`
abbrev pub is_master : Pair → Bool
is_master (name, value) = bytes_eq name (codes "branch") && bytes_eq value (codes "master")

abbrev pub is_kept : Pair → Bool
is_kept pair = not (is_master pair)

-- a pair as `name=value`
abbrev pub pair_text : Pair → List ℕ
pair_text (name, value) = name ++ 61 ∷ value

-- a text with one more pair, behind an `&` where it has one
abbrev pub with_pair : List ℕ → Pair → List ℕ
with_pair [] pair = pair_text pair
with_pair (byte ∷ bytes) pair = byte ∷ bytes ++ 38 ∷ pair_text pair

-- a text with one more pair, unless that is `branch=master`
abbrev pub with_kept : List ℕ → Pair → List ℕ
with_kept text pair = if is_master pair then text else with_pair text pair

-- the pairs as they are written, with `&` between them
abbrev pub query_text : List Pair → List ℕ
query_text pairs = join_with_byte 38 (map pair_text pairs)

-- the pairs but `branch=master`, as a query
abbrev pub text_without_master : List Pair → List ℕ
text_without_master pairs = query_text (filter is_kept pairs)

-- what is left of pairs with `branch=master`; no query where it is alone
abbrev pub query_without_master : List Pair → Option (List ℕ)
query_without_master pairs = if length pairs == 1 then None else Some (text_without_master pairs)

-- the address without `branch=master` in its query
abbrev pub without_master : List Pair → Parts → Parts
without_master pairs address =
    if list_any is_master pairs then set_query address (query_without_master pairs) else address

-- ---- the whole

-- The normal form of the address of a git repository.
abbrev pub normal_address : Parts → Parts
normal_address address = without_master (query_of address) (with_normal_path address)

-- what the address names in the repository, and its value
abbrev pub git_spec_of : Parts → GitSpec
git_spec_of address = spec_in (query_of address)

abbrev pub value_of : Parts → Option (List ℕ)
value_of address = value_in (query_of address)
