-- Calls that are answered alike: those that a lawful run makes, and those that a tree was asked.
use Rattle.std.proofs.Common.{◌≡◌, ◌∙◌, refl, sym, ap, subst, ℕ, ◌≤◌, List, [], ◌∷◌, ◌++◌, All}
use Rattle.std.specs.List.{AllByRecursion}
use Rattle.std.proofs.lemmas.List.Elements.{All-from_recursion, recursion_from_All}
use Rattle.tree_core.specs.Call as call
use Rattle.tree_core.specs.Call.{CallAnswer, Call}
use Rattle.tree_core.specs.Content.{Content}
use Rattle.tree_core.specs.Faults.{Rose, next_count}
use Rattle.tree_core.specs.Trace.{IsUnlessLost, Says, content_answer, fault_behind, faults_after}
use Rattle.tree_core.proofs.MadeLemmas.{faults_after-later}
use Rattle.tree_core.proofs.file_reads.ReadLemmas.{rose_counted}
use Rattle.run_found.specs.Hearing.{TellsContent}

-- behind some of them
pub all_behind : {X : Type 0} (P : X → Type 0) (front more : List X) → All P (front ++ more) → All P more
all_behind P [] more all = all
all_behind P (one ∷ front) more all = all_behind P front more (All-from_recursion P (front ++ more) (recursion_from_All P (one ∷ (front ++ more)) all).1)

-- two lists of calls, of which the second ones are those that a tree was asked: where the first of each ask the same, and memory was not
-- wanting, they are answered alike, and so are those behind
abbrev pub IsAlike : (List Call → List Call → Type 0) → Type 0
IsAlike Same =
    (one other : Call) (more rest : List Call) → Same (one ∷ more) (other ∷ rest) → one.asked ≡ other.asked → one.path ≡ other.path → (other.answer ≡ call.no_memory → ⊥)
    → (one.answer ≡ other.answer) × Same more rest

-- the same calls
abbrev pub IsSameTrace : List Call → List Call → Type 0
IsSameTrace calls others = calls ≡ others

pub trace_alike : IsAlike IsSameTrace
trace_alike one other more rest same asked path lost = (ap (λ (own : Call). own.answer) (first same), behind same)
  where
    first : one ∷ more ≡ other ∷ rest → one ≡ other
    first e = cc

    behind : one ∷ more ≡ other ∷ rest → more ≡ rest
    behind e = cc

-- calls whose answers are what a content has, and those that a tree with that content was asked, of which none failed
pub record IsSameContent (content : Content) (count after : ℕ) (calls others : List Call) : Type 0 where
  pub tells : AllByRecursion (TellsContent content) calls
  pub says : AllByRecursion (Says content) others
  pub counts : after ≡ faults_after count others

unless_lost : (there answer : CallAnswer) → (answer ≡ call.no_memory → ⊥) → (answer ≡ call.failed → ⊥) → IsUnlessLost there answer → answer ≡ there
unless_lost there (call.bytes items) lost bound says = says
unless_lost there (call.entries items) lost bound says = says
unless_lost there (call.told own) lost bound says = says
unless_lost there call.absent lost bound says = says
unless_lost there call.wrong_kind lost bound says = says
unless_lost there call.failed lost bound says = absurd (bound refl)
unless_lost there call.no_memory lost bound says = absurd (lost refl)

unfailed_count : (count : ℕ) (answer : CallAnswer) → (answer ≡ call.failed → ⊥) → fault_behind count answer ≡ count
unfailed_count count (call.bytes items) bound = refl
unfailed_count count (call.entries items) bound = refl
unfailed_count count (call.told own) bound = refl
unfailed_count count call.absent bound = refl
unfailed_count count call.wrong_kind bound = refl
unfailed_count count call.failed bound = absurd (bound refl)
unfailed_count count call.no_memory bound = refl

pub content_alike : (content : Content) (count after : ℕ) → ¬ (Rose count after) → IsAlike (IsSameContent content count after)
content_alike content count after quiet one other more rest same asked path lost = (
  same.tells.0 ∙ ap (λ kind. content_answer content kind one.path) asked ∙ ap (content_answer content other.asked) path ∙ sym own,
  record { tells = same.tells.1; says = same.says.1; counts = same.counts ∙ ap (λ n. faults_after n rest) (unfailed_count count other.answer failed_apart) },
)
  where
    failed_apart : other.answer ≡ call.failed → ⊥
    failed_apart e =
        let counts_failed : after ≡ faults_after (next_count count) rest = same.counts ∙ ap (λ answer. faults_after (fault_behind count answer) rest) e in
        quiet (rose_counted count after (subst (λ n. next_count count ≤ n) (sym counts_failed) (faults_after-later (next_count count) rest)))

    own : other.answer ≡ content_answer content other.asked other.path
    own = unless_lost (content_answer content other.asked other.path) other.answer lost failed_apart same.says.0
