-- Addresses that are judged by how they are read.
use Rattle.std.proofs.Common.{◌≡◌, ap, ℕ, Some, Ok, Err}
use Rattle.std.specs.Result.{result_ok}
use Rattle.deny_text.specs.declared.span.Span.{Span}
use Rattle.url.specs.Parts.{Parts}
use Rattle.graph_core.specs.source.Git.{normal_address}
use Rattle.graph_core.specs.source.Reading.{SourceReading}
use Rattle.policy_core.specs.validate.Valid.{ItemOrFinding, address_judged_by}

same_some : (one other : Parts) → Some one ≡ Some other → one ≡ other
same_some one other is = cc

-- an address that was read is kept in normal form
pub judged_read : (file : ℕ) (place : Span) (read : SourceReading Parts) (address : Parts) → Some address ≡ result_ok read
    → (let kept : ItemOrFinding Parts = Ok (normal_address address) in kept) ≡ address_judged_by file place read
judged_read file place (Ok own) address is = ap (λ one. Ok (normal_address one)) (same_some address own is)
judged_read file place (Err refused) address is = cc
