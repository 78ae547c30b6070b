-- Calls that are answered alike: the same calls, and calls on one content of which none failed.
use Rattle.std.proofs.Common.{◌≡◌, ◌∙◌, ◌⊎◌, ℕ, ◌≤◌, List, [], ◌∷◌, inl, inr, sym, ap, subst, refl}
use Rattle.std.specs.List.{AllByRecursion}
use Rattle.tree_core.specs.Call as call
use Rattle.tree_core.specs.Call.{CallKind, CallAnswer, Call}
use Rattle.tree_core.specs.Content.{Content}
use Rattle.tree_core.specs.Faults.{Rose}
use Rattle.tree_core.specs.Trace.{Says, fault_behind, faults_after}
use Rattle.tree_core.proofs.MadeLemmas.{faults_after-later}
use Rattle.tree_core.proofs.file_reads.ReadLemmas.{rose_counted}
use Rattle.run_found.specs.Hearing.{TellsContent}

-- ---- the same calls

-- two lists of calls are the same one
abbrev pub IsSame : List Call → List Call → Type 0
IsSame X Y = X ≡ Y

-- the answer of the first one
first_answer : List Call → CallAnswer
first_answer [] = call.no_memory
first_answer (one ∷ calls) = one.answer

pub same_step : (asked : CallKind) (path : List ℕ) (one other : CallAnswer) (X Y : List Call)
    → IsSame (record { asked = asked; path = path; answer = one } ∷ X) (record { asked = asked; path = path; answer = other } ∷ Y)
    → ((one ≡ other) ⊎ (other ≡ call.no_memory)) × IsSame X Y
unfolding first_answer
same_step asked path one other X Y e = (inl (ap first_answer e), cc)

-- ---- the same content

-- the answer of a call is what the content has, or memory was wanting
abbrev pub Fair : Content → Call → Type 0
Fair content one = (one.answer ≡ call.no_memory) ⊎ TellsContent content one

-- where no count rose
fair_one : (content : Content) (asked : CallKind) (path : List ℕ) (answer : CallAnswer) (count after : ℕ) → Says content (record { asked = asked; path = path; answer = answer })
    → fault_behind count answer ≤ after → ¬ (Rose count after) → Fair content (record { asked = asked; path = path; answer = answer })
fair_one content asked path (call.bytes items) count after says later quiet = inr says
fair_one content asked path (call.entries items) count after says later quiet = inr says
fair_one content asked path (call.told answer) count after says later quiet = inr says
fair_one content asked path call.absent count after says later quiet = inr says
fair_one content asked path call.wrong_kind count after says later quiet = inr says
fair_one content asked path call.failed count after says later quiet = absurd (quiet (rose_counted count after later))
fair_one content asked path call.no_memory count after says later quiet = inl refl

-- the count is the same behind an answer where it did not rise
quiet_behind : (answer : CallAnswer) (count after : ℕ) → fault_behind count answer ≤ after → ¬ (Rose count after) → fault_behind count answer ≡ count
quiet_behind (call.bytes items) count after later quiet = refl
quiet_behind (call.entries items) count after later quiet = refl
quiet_behind (call.told answer) count after later quiet = refl
quiet_behind call.absent count after later quiet = refl
quiet_behind call.wrong_kind count after later quiet = refl
quiet_behind call.failed count after later quiet = absurd (quiet (rose_counted count after later))
quiet_behind call.no_memory count after later quiet = refl

pub all_fair : (content : Content) (calls : List Call) (count : ℕ) → AllByRecursion (Says content) calls → ¬ (Rose count (faults_after count calls)) → AllByRecursion (Fair content) calls
all_fair content [] count says quiet = tt
all_fair content (one ∷ calls) count says quiet =
    let later = faults_after-later (fault_behind count one.answer) calls in
    let same = quiet_behind one.answer count (faults_after count (one ∷ calls)) later quiet in (
      fair_one content one.asked one.path one.answer count (faults_after count (one ∷ calls)) says.0 later quiet,
      all_fair content calls count says.1 (subst (λ n. ¬ (Rose count (faults_after n calls))) same quiet),
    )

-- what the first calls are answered is what the content has, and the second ones too where memory was not wanting
abbrev pub IsToldBy : Content → List Call → List Call → Type 0
IsToldBy content X Y = AllByRecursion (TellsContent content) X × AllByRecursion (Fair content) Y

pub told_step : (content : Content) (asked : CallKind) (path : List ℕ) (one other : CallAnswer) (X Y : List Call)
    → IsToldBy content (record { asked = asked; path = path; answer = one } ∷ X) (record { asked = asked; path = path; answer = other } ∷ Y)
    → ((one ≡ other) ⊎ (other ≡ call.no_memory)) × IsToldBy content X Y
told_step content asked path one other X Y both = (answered both.0.0 both.1.0, (both.0.1, both.1.1))
  where
    answered : TellsContent content (record { asked = asked; path = path; answer = one }) → Fair content (record { asked = asked; path = path; answer = other }) → (one ≡ other) ⊎ (other ≡ call.no_memory)
    answered tells (inl lost) = inr lost
    answered tells (inr own) = inl (tells ∙ sym own)
