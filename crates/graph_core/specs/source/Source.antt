-- Sources of crates: what is reported of one, its text, and the order of sources.
use Rattle.std.specs.Prelude.{◌≡◌, ℕ, Bool, true, false, not, List, [], ◌++◌, codes, Option, Some, None, bytes_eq}
use Rattle.std.specs.Ordering.{on, then_cmp, nat_cmp}
use Rattle.std.specs.Option.{option_cmp}
use Rattle.std.specs.declared.cmp.Ordering.{Ordering}
use Rattle.std.specs.Cmp.{IsTotalOrder, on_total, then_total, nat_cmp_total}
use Rattle.std.specs.Cmp.Lexicographic.{slice_cmp, nat_list_cmp_total, options_total}
use Rattle.url.specs.Parts.{Parts, serialize}
use Rattle.graph_core.specs.declared.source.source.Source.{Source}
use Rattle.graph_core.specs.declared.source.source.Source.TheVariants.{CratesIo, Git, Registry, Sparse}
use Rattle.graph_core.specs.declared.source.source.GitSpec.{GitSpec}
use Rattle.graph_core.specs.declared.source.source.GitSpec.TheVariants.{Any, Branch, Tag, Rev}

abbrev pub is_git : Source → Bool
is_git (CratesIo is_sparse) = false
is_git (Git spec address value) = true
is_git (Registry address) = false
is_git (Sparse address) = false

abbrev pub is_registry : Source → Bool
is_registry (CratesIo is_sparse) = true
is_registry (Git spec address value) = false
is_registry (Registry address) = true
is_registry (Sparse address) = true

abbrev pub is_crates_io : Source → Bool
is_crates_io (CratesIo is_sparse) = true
is_crates_io (Git spec address value) = false
is_crates_io (Registry address) = false
is_crates_io (Sparse address) = false

-- what is named in a git repository; none for another source
abbrev pub git_spec : Source → Option GitSpec
git_spec (CratesIo is_sparse) = None
git_spec (Git spec address value) = Some spec
git_spec (Registry address) = None
git_spec (Sparse address) = None

-- every source is one of a registry or one of a git repository, and none is both
abbrev pub RegistryIsNotGit : Type 0
RegistryIsNotGit = (source : Source) → is_registry source ≡ not (is_git source)

-- two addresses have one text
abbrev pub same_address : Parts → Parts → Bool
same_address x y = bytes_eq (serialize x) (serialize y)

-- two registries of one kind with one address; without a second source, that the first is crates.io
abbrev pub matches_rustsec : Source → Option Source → Bool
matches_rustsec source None = is_crates_io source
matches_rustsec (Registry x) (Some (Registry y)) = same_address x y
matches_rustsec (Sparse x) (Some (Sparse y)) = same_address x y
matches_rustsec _ (Some _) = false

-- the text of a source
abbrev pub source_text_of : Source → List ℕ
source_text_of (CratesIo is_sparse) = codes "registry+https://github.com/rust-lang/crates.io-index"
source_text_of (Git spec address value) = codes "git+" ++ serialize address
source_text_of (Registry address) = codes "registry+" ++ serialize address
source_text_of (Sparse address) = serialize address

-- ---- the order: by variant and by what is said of it, then by the text of the address, then by the git value

abbrev pub git_rank : GitSpec → ℕ
git_rank Any = 2
git_rank Branch = 3
git_rank Tag = 4
git_rank Rev = 5

abbrev pub rank_of : Source → ℕ
rank_of (CratesIo false) = 0
rank_of (CratesIo true) = 1
rank_of (Git spec address value) = git_rank spec
rank_of (Registry address) = 6
rank_of (Sparse address) = 7

-- crates.io is reported without an address
abbrev pub address_text : Source → List ℕ
address_text (CratesIo is_sparse) = []
address_text (Git spec address value) = serialize address
address_text (Registry address) = serialize address
address_text (Sparse address) = serialize address

abbrev pub git_value : Source → Option (List ℕ)
git_value (CratesIo is_sparse) = None
git_value (Git spec address value) = value
git_value (Registry address) = None
git_value (Sparse address) = None

-- no value is less than any
abbrev pub source_order : Source → Source → Ordering
source_order =
    then_cmp (on rank_of nat_cmp)
    (then_cmp (on address_text (slice_cmp nat_cmp)) (on git_value (option_cmp (slice_cmp nat_cmp))))

pub source_order_total : IsTotalOrder source_order
source_order_total =
    then_total (on_total rank_of nat_cmp_total)
    (then_total (on_total address_text nat_list_cmp_total) (on_total git_value (options_total nat_list_cmp_total)))
