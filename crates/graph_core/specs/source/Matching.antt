-- Which addresses a source matches.
use Rattle.std.specs.Prelude.{◌≡◌, ◌⊎◌, ℕ, ◌==◌, Bool, true, false, List, codes, Some}
use Rattle.std.specs.List.{starts_with}
use Rattle.url.specs.declared.host.Host.TheVariants.{Domain}
use Rattle.url.specs.Parts.{Parts, nonempty_host}
use Rattle.graph_core.specs.declared.source.source.Source.{Source}
use Rattle.graph_core.specs.declared.source.source.Source.TheVariants.{CratesIo, Git, Registry, Sparse}

-- the address has this domain and this path
abbrev pub IsAt : List ℕ → List ℕ → Parts → Type 0
IsAt domain path address = (nonempty_host address ≡ Some (Domain domain)) × (address.path ≡ path)

-- the host and the path are those of one of the two addresses of crates.io
abbrev pub IsCratesIo : Parts → Type 0
IsCratesIo address =
    IsAt (codes "github.com") (codes "/rust-lang/crates.io-index") address
    ⊎ IsAt (codes "index.crates.io") (codes "/") address

-- the second path is the first, or where it need not be exact a prefix of it, in bytes
abbrev pub PathMatches : Bool → List ℕ → List ℕ → Type 0
PathMatches true own path = own ≡ path
PathMatches false own path = starts_with (λ x y. x == y) own path ≡ true

-- The hosts are equal, and the paths agree. No host equals no host.
abbrev pub AddressMatches : Bool → Parts → Parts → Type 0
AddressMatches exact own address = (nonempty_host own ≡ nonempty_host address) × PathMatches exact own.path address.path

-- A source matches an address.
abbrev pub Matches : Bool → Source → Parts → Type 0
Matches exact (CratesIo is_sparse) address = IsCratesIo address
Matches exact (Git spec own value) address = AddressMatches exact own address
Matches exact (Registry own) address = AddressMatches exact own address
Matches exact (Sparse own) address = AddressMatches exact own address
