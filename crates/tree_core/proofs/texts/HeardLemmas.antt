-- What is read of a file, by what a tree answers and what its bytes are.
use Rattle.std.proofs.Common.{◌≡◌, ℕ, List, [], ◌∷◌, ◌++◌, Some, Result, Ok, Err, Bool, true, false, cond, refl, sym, ap, ◌∙◌}
use Rattle.std.specs.Str.{IsUtf8, is_utf8}
use Rattle.std.specs.Str.Lossy.{utf8_valid_len}
use Rattle.std.proofs.lemmas.Str.{is_utf8-from_IsUtf8, IsUtf8-from_is_utf8}
use Rattle.tree_core.specs.Call as call
use Rattle.tree_core.specs.Call.{Call}
use Rattle.tree_core.specs.Content.{file}
use Rattle.tree_core.specs.Trace.{read_call, refusal_answer}
use Rattle.tree_core.specs.declared.tree.TreeError.{TreeError}
use Rattle.tree_core.specs.declared.tree.TreeError.TheVariants as tree
use Rattle.tree_core.specs.declared.texts.fault.ReadFault.{ReadFault}
use Rattle.tree_core.specs.declared.texts.fault.ReadFault.TheVariants.{Failed, Absent, Folder, NotUtf8}
use Rattle.tree_core.specs.texts.Cause.{ReadCounts, heard_cause}
use Rattle.tree_core.specs.texts.Heard.{IsTextRead, heard_of, read_of, text_answered}

pub heard_text : (bytes : List ℕ) → IsUtf8 bytes → heard_of (Some (file bytes)) ≡ Ok bytes
unfolding heard_of
heard_text bytes utf8 = ap (λ b. cond b (Ok bytes) (Err (NotUtf8 (utf8_valid_len bytes)))) (is_utf8-from_IsUtf8 bytes utf8)

not_true : (b : Bool) → ¬ (b ≡ true) → b ≡ false
not_true true fails = absurd (fails refl)
not_true false fails = refl

pub heard_bad : (bytes : List ℕ) (at : ℕ) → ¬ (IsUtf8 bytes) → at ≡ utf8_valid_len bytes → heard_of (Some (file bytes)) ≡ Err (NotUtf8 at)
unfolding heard_of
heard_bad bytes at bad is =
    ap (λ b. cond b (Ok bytes) (Err (NotUtf8 (utf8_valid_len bytes)))) (not_true (is_utf8 bytes) (λ holds. bad (IsUtf8-from_is_utf8 bytes holds)))
    ∙ ap (λ n. Err (NotUtf8 n)) (sym is)

-- bytes that were read are no failed read
read_by : (utf8 : Bool) (bytes : List ℕ) (at first last : ℕ) → cond utf8 (Ok bytes) (Err (NotUtf8 at)) ≡ Err (Failed first last) → ⊥
read_by true bytes at first last e = cc
read_by false bytes at first last e = cc

never_failed : (bytes : List ℕ) (first last : ℕ) → heard_of (Some (file bytes)) ≡ Err (Failed first last) → ⊥
unfolding heard_of
never_failed bytes first last e = read_by (is_utf8 bytes) bytes (utf8_valid_len bytes) first last e

pub file_counts : (begun before after : ℕ) (bytes : List ℕ) (heard : Result (List ℕ) ReadFault) → heard ≡ heard_of (Some (file bytes)) → ReadCounts begun before after (heard_cause heard)
file_counts begun before after bytes (Ok text) is = tt
file_counts begun before after bytes (Err (Failed first last)) is = absurd (never_failed bytes first last (sym is))
file_counts begun before after bytes (Err Absent) is = tt
file_counts begun before after bytes (Err Folder) is = tt
file_counts begun before after bytes (Err (NotUtf8 at)) is = tt

-- ---- by the answer of the one call that was made

module _ (begun after : ℕ) (old new : List Call) (path : List ℕ) where
  pub file_read : (bytes : List ℕ) (heard : Result (List ℕ) ReadFault) → new ≡ old ++ read_call path (Ok bytes) ∷ [] → heard ≡ heard_of (Some (file bytes)) → IsTextRead begun after old new path heard
  file_read bytes heard made is = record { answer = call.bytes bytes; made = made; hears = ap Some (sym is) }

  -- what a refusal says
  refused_read : (error : TreeError) (fault : ReadFault) → new ≡ old ++ read_call path (Err error) ∷ [] → text_answered begun after (refusal_answer error) ≡ Some (Err fault) → IsTextRead begun after old new path (Err fault)
  refused_read error fault made hears = record { answer = refusal_answer error; made = made; hears = hears }

  pub absent_read : (error : TreeError) → error ≡ tree.Absent → new ≡ old ++ read_call path (Err error) ∷ [] → IsTextRead begun after old new path (Err Absent)
  absent_read error is made = refused_read error Absent made (ap (λ one. text_answered begun after (refusal_answer one)) is)

  pub folder_read : (error : TreeError) → error ≡ tree.WrongKind → new ≡ old ++ read_call path (Err error) ∷ [] → IsTextRead begun after old new path (Err Folder)
  folder_read error is made = refused_read error Folder made (ap (λ one. text_answered begun after (refusal_answer one)) is)

  pub failure_read : (error : TreeError) (now : ℕ) → error ≡ tree.Failed → now ≡ after → new ≡ old ++ read_call path (Err error) ∷ [] → IsTextRead begun after old new path (Err (Failed begun now))
  failure_read error now is same made =
      refused_read error (Failed begun now) made (ap (λ one. text_answered begun after (refusal_answer one)) is ∙ ap (λ count. Some (Err (Failed begun count))) (sym same))

  pub memory_read : (error : TreeError) → error ≡ tree.Memory → new ≡ old ++ read_call path (Err error) ∷ [] → new ≡ old ++ read_of path call.no_memory ∷ []
  memory_read error is made = made ∙ ap (λ one. old ++ read_call path (Err one) ∷ []) is
