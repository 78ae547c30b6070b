-- Reads that rise compose, and rise from earlier and up to later counts.
use Rattle.std.proofs.Common.{ℕ, ◌≤◌, [], ◌∷◌, ◌++◌, arith}
use Rattle.tree_core.specs.declared.reads.ReadAnswer.{ReadAnswer}
use Rattle.tree_core.specs.declared.reads.ReadAnswer.TheVariants.{Got, Absent, WrongKind, NotUtf8, Failed}
use Rattle.tree_core.specs.file_reads.Rising.{RiseFrom, RiseInOrder, RisesCompose, RisesWiden}

-- what holds of the rest holds of another rest that follows from it
from_rest : (low : ℕ) (answer : ReadAnswer) (P Q : ℕ → Type 0) → ((from : ℕ) → P from → Q from) → RiseFrom low answer P → RiseFrom low answer Q
from_rest low Got P Q more rises = more low rises
from_rest low Absent P Q more rises = more low rises
from_rest low WrongKind P Q more rises = more low rises
from_rest low NotUtf8 P Q more rises = more low rises
from_rest low (Failed before after) P Q more rises = (rises.0, rises.1, more after rises.2)

from_lower : (lower low : ℕ) (answer : ReadAnswer) (P Q : ℕ → Type 0) → lower ≤ low → (P low → Q lower) → ((from : ℕ) → P from → Q from)
    → RiseFrom low answer P → RiseFrom lower answer Q
from_lower lower low Got P Q first here more rises = here rises
from_lower lower low Absent P Q first here more rises = here rises
from_lower lower low WrongKind P Q first here more rises = here rises
from_lower lower low NotUtf8 P Q first here more rises = here rises
from_lower lower low (Failed before after) P Q first here more rises = let later = rises.0 in (omega arith, rises.1, more after rises.2)

pub rises_widen : RisesWiden
rises_widen lower low high higher [] first rises last = omega arith
rises_widen lower low high higher (read ∷ reads) first rises last =
    from_lower lower low read.answer (λ from. RiseInOrder from reads high) (λ from. RiseInOrder from reads higher) first
    (λ rest. rises_widen lower low high higher reads first rest last)
    (λ from rest. rises_widen from from high higher reads (omega arith) rest last) rises

pub rises_compose : RisesCompose
rises_compose low middle high [] more rises later = rises_widen low middle high high more rises later (omega arith)
rises_compose low middle high (read ∷ reads) more rises later =
    from_rest low read.answer (λ from. RiseInOrder from reads middle) (λ from. RiseInOrder from (reads ++ more) high)
    (λ from rest. rises_compose from middle high reads more rest later) rises
