-- The source that a text in metadata tells of.
use Rattle.std.specs.Prelude.{◌≡◌, ◌⊎◌, ℕ, ◌==◌, nat_lt, Bool, true, false, List, length, slice_get, codes, bytes_eq}
use Rattle.std.specs.Prelude.{Option, Some, None, option_and_then, Result, Ok, Err, MatchResult, if◌then◌else◌}
use Rattle.std.specs.Option.{option_map_or}
use Rattle.std.specs.List.{position_or_len, before_first, after_first}
use Rattle.deny_text.specs.Path.{ancestors_of, file_name_of}
use Rattle.url.specs.Parts.{Parts}
use Rattle.url.specs.Parser.{Parsed, parse_url}
use Rattle.graph_core.specs.declared.source.source.Source.{Source}
use Rattle.graph_core.specs.declared.source.source.Source.TheVariants.{CratesIo, Git, Registry, Sparse}
use Rattle.graph_core.specs.declared.source.source.SourceError.{SourceError}
use Rattle.graph_core.specs.declared.source.source.SourceError.TheVariants.{NoPlus, UnknownKind, BadUrl, Memory}
use Rattle.graph_core.specs.source.Git.{normal_address, git_spec_of, value_of}

abbrev pub SourceReading : Type 0 → Type 0
SourceReading T = Result T SourceError

-- a result is the expected one, unless memory was refused
abbrev pub AnswersSource : {T : Type 0} → SourceReading T → SourceReading T → Type 0
AnswersSource result expected =
    MatchResult result (λ value. expected ≡ Ok value) (λ error. (error ≡ Memory) ⊎ (expected ≡ Err error))

-- bytes of an address at most
abbrev pub address_limit : ℕ
address_limit = 65536

abbrev pub address_from : Parsed Parts → SourceReading Parts
address_from (Ok address) = Ok address
address_from (Err refused) = Err BadUrl

-- the address that a text is read as
abbrev pub address_of : List ℕ → SourceReading Parts
address_of text = if nat_lt address_limit (length text) then Err BadUrl else address_from (parse_url None text)

abbrev pub source_at : (Parts → Source) → SourceReading Parts → SourceReading Source
source_at made (Ok address) = Ok (made address)
source_at made (Err refused) = Err refused

-- the name of the second path above the manifest, which is its own first ancestor
abbrev pub folder_above : List ℕ → Option (List ℕ)
folder_above manifest = option_and_then file_name_of (slice_get (ancestors_of manifest) 2)

-- whether crates.io counts as sparse: without a manifest, or where the folder above the manifest's has this name
abbrev pub is_sparse_at : Option (List ℕ) → List ℕ → Bool
is_sparse_at None sparse_dir = true
is_sparse_at (Some manifest) sparse_dir = option_map_or (bytes_eq sparse_dir) (folder_above manifest) false

-- Each kind of source. A sparse one keeps its kind in its address.
abbrev pub sparse_source : List ℕ → SourceReading Source
sparse_source text =
    if bytes_eq text (codes "sparse+https://index.crates.io/") then Ok (CratesIo true)
    else source_at Sparse (address_of text)

abbrev pub registry_source : Bool → List ℕ → SourceReading Source
registry_source is_sparse rest =
    if bytes_eq rest (codes "https://github.com/rust-lang/crates.io-index") then Ok (CratesIo is_sparse)
    else source_at Registry (address_of rest)

abbrev pub git_source : List ℕ → SourceReading Source
git_source rest =
    source_at (λ address. Git (git_spec_of address) (normal_address address) (value_of address)) (address_of rest)

-- the source of a text, by its kind and by the rest of it
abbrev pub source_of_kind : List ℕ → List ℕ → List ℕ → Bool → SourceReading Source
source_of_kind text kind rest is_sparse =
    if bytes_eq kind (codes "sparse") then sparse_source text
    else (if bytes_eq kind (codes "registry") then registry_source is_sparse rest
    else (if bytes_eq kind (codes "git") then git_source rest else Err UnknownKind))

abbrev pub is_plus : ℕ → Bool
is_plus byte = byte == 43

-- what is before the first `+`, and what is behind it; none without one
abbrev pub cut_at_plus : List ℕ → Option (List ℕ × List ℕ)
cut_at_plus text =
    if nat_lt (position_or_len is_plus text) (length text)
    then Some (before_first is_plus text, after_first is_plus text) else None

abbrev pub source_of_cut : List ℕ → Bool → Option (List ℕ × List ℕ) → SourceReading Source
source_of_cut text is_sparse (Some (kind, rest)) = source_of_kind text kind rest is_sparse
source_of_cut text is_sparse None = Err NoPlus

-- The source that a text tells of, for a crate with this manifest. The kind is before the first `+`, and the
-- rest behind it.
unfoldable pub source_of : List ℕ → Option (List ℕ) → List ℕ → SourceReading Source
source_of text manifest sparse_dir = source_of_cut text (is_sparse_at manifest sparse_dir) (cut_at_plus text)
