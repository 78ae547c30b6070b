-- Frames that are in one another, and one more of them.
use Rattle.std.proofs.Common.{◌≡◌, ℕ, ◌+◌, ◌≤◌, List, [], ◌∷◌, ◌++◌, length, Ok, Err, refl, ap, sym, ◌∙◌, arith}
use Rattle.toml_subset.specs.Answer.{TomlReading, then_read}
use Rattle.toml_subset.specs.Data.{depth_of, depth_limit}
use Rattle.toml_subset.specs.Reading.{ValueFound, value_at}
use Rattle.toml_subset.specs.declared.error.SyntaxError.{SyntaxError}
use Rattle.toml_subset.specs.frames.Frames.{Frame, depth_around, depth_within, IsShallowFrame, on_with, resume, AreNested, ValueStep, read, waits, turn_place, turn_answer, IsShallowTurn, IsValueStep}
use Rattle.toml_subset.proofs.frames.Goings.{inside_shallow}

pub resume_one_more : (text : List ℕ) (frames : List Frame) (frame : Frame) (answer : TomlReading ValueFound)
    → resume text (frames ++ frame ∷ []) answer ≡ resume text frames (then_read (on_with text frame) answer)
resume_one_more text [] frame answer = refl
resume_one_more text (other ∷ more) frame answer = ap (then_read (on_with text other)) (resume_one_more text more frame answer)

pub resume_fault : (text : List ℕ) (frames : List Frame) (fault : SyntaxError) → resume text frames (Err fault) ≡ Err fault
resume_fault text [] fault = refl
resume_fault text (frame ∷ more) fault = ap (then_read (on_with text frame)) (resume_fault text more fault)

pub nested_one_more : (above : ℕ) (frames : List Frame) (frame : Frame) (last : ℕ) → AreNested above frames last → depth_around frame ≡ last → IsShallowFrame frame
    → AreNested above (frames ++ frame ∷ []) (depth_within frame)
nested_one_more above [] frame last are is shallow = (is ∙ sym are, shallow, refl)
nested_one_more above (other ∷ more) frame last are is shallow = (are.0, are.1, nested_one_more (depth_within other) more frame last are.2 is shallow)

pub record WithoutLast (above : ℕ) (frames : List Frame) (frame : Frame) (last : ℕ) : Type 0 where
  pub nested : AreNested above frames (depth_around frame)
  pub shallow : IsShallowFrame frame
  pub around : depth_within frame ≡ last

pub nested_without : (above : ℕ) (frames : List Frame) (frame : Frame) (last : ℕ) → AreNested above (frames ++ frame ∷ []) last → WithoutLast above frames frame last
nested_without above [] frame last are = record { nested = sym are.0; shallow = are.1; around = are.2 }
nested_without above (other ∷ more) frame last are =
    let rest = nested_without (depth_within other) more frame last are.2 in
    record { nested = (are.0, are.1, rest.nested); shallow = rest.shallow; around = rest.around }

-- A value is being read: what is wanted is what the turn gives, read on from each frame.
pub record IsReading (text : List ℕ) (above i : ℕ) (frames : List Frame) (turn : ValueStep) : Type 0 where
  pub last : ℕ
  pub nested : AreNested above frames last
  pub answers : value_at text above i ≡ resume text frames (turn_answer text turn)
  pub shallow : IsShallowTurn last turn
  pub within : turn_place turn ≤ length text

pub reading_begins : (text : List ℕ) (above i from : ℕ) (turn : ValueStep) → IsValueStep text from above (value_at text above i) turn → IsReading text above i [] turn
reading_begins text above i from turn is = record { last = above; nested = refl; answers = is.answers; shallow = is.shallow; within = is.within }

-- what a waiting frame asks for
pub waits_shallow : (text : List ℕ) (above i : ℕ) (frames : List Frame) (frame : Frame) (place : ℕ) → IsReading text above i frames (waits frame place) → IsShallowFrame frame × (depth_within frame ≤ depth_limit)
waits_shallow text above i frames frame place is = (is.shallow.1, inside_shallow frame is.shallow.1)

pub waits_on : (text : List ℕ) (above i : ℕ) (frames : List Frame) (frame : Frame) (place from : ℕ) (turn : ValueStep) → IsReading text above i frames (waits frame place)
    → IsValueStep text from (depth_within frame) (value_at text (depth_within frame) place) turn → IsReading text above i (frames ++ frame ∷ []) turn
waits_on text above i frames frame place from turn is next = record {
  last = depth_within frame;
  nested = nested_one_more above frames frame is.last is.nested is.shallow.0 is.shallow.1;
  answers =
      is.answers ∙ ap (λ answer. resume text frames (then_read (on_with text frame) answer)) next.answers
      ∙ sym (resume_one_more text frames frame (turn_answer text turn));
  shallow = next.shallow;
  within = next.within;
}

pub waits_refused : (text : List ℕ) (above i : ℕ) (frames : List Frame) (frame : Frame) (place : ℕ) (fault : SyntaxError) → IsReading text above i frames (waits frame place)
    → value_at text (depth_within frame) place ≡ Err fault → value_at text above i ≡ Err fault
waits_refused text above i frames frame place fault is refused =
    is.answers ∙ ap (λ answer. resume text frames (then_read (on_with text frame) answer)) refused ∙ resume_fault text frames fault

-- what a value that was read leads to
pub reads_shallow : (text : List ℕ) (above i : ℕ) (frames : List Frame) (frame : Frame) (v : ValueFound) → IsReading text above i (frames ++ frame ∷ []) (read v)
    → IsShallowFrame frame × (depth_within frame + depth_of v.1 ≤ depth_limit)
reads_shallow text above i frames frame v is =
    let without = nested_without above frames frame is.last is.nested in
    let low = is.shallow in
    let around = without.around in
    (without.shallow, omega arith)

pub reads_on : (text : List ℕ) (above i : ℕ) (frames : List Frame) (frame : Frame) (v : ValueFound) (from : ℕ) (turn : ValueStep) → IsReading text above i (frames ++ frame ∷ []) (read v)
    → IsValueStep text from (depth_around frame) (on_with text frame v) turn → IsReading text above i frames turn
reads_on text above i frames frame v from turn is next =
    let without = nested_without above frames frame is.last is.nested in
    record {
      last = depth_around frame;
      nested = without.nested;
      answers = is.answers ∙ resume_one_more text frames frame (Ok v) ∙ ap (resume text frames) next.answers;
      shallow = next.shallow;
      within = next.within;
    }

pub reads_refused : (text : List ℕ) (above i : ℕ) (frames : List Frame) (frame : Frame) (v : ValueFound) (fault : SyntaxError) → IsReading text above i (frames ++ frame ∷ []) (read v)
    → on_with text frame v ≡ Err fault → value_at text above i ≡ Err fault
reads_refused text above i frames frame v fault is refused =
    is.answers ∙ resume_one_more text frames frame (Ok v) ∙ ap (resume text frames) refused ∙ resume_fault text frames fault
