-- What is read by the one call that was made.
use Rattle.std.proofs.Common.{◌≡◌, ℕ, List, [], ◌∷◌, ◌++◌, map, Some, Ok, Err, refl, sym, ap, ◌∙◌}
use Rattle.tree_core.specs.Answer.{listed_entry}
use Rattle.tree_core.specs.Call as call
use Rattle.tree_core.specs.Call.{Call}
use Rattle.tree_core.specs.Content.{file}
use Rattle.tree_core.specs.Trace.{list_call, read_call, refusal_answer}
use Rattle.tree_core.specs.declared.tree.Entry.{Entry}
use Rattle.tree_core.specs.declared.tree.TreeError.{TreeError}
use Rattle.tree_core.specs.declared.tree.TreeError.TheVariants as tree
use Rattle.tree_core.specs.file_reads.Answered.{IsListed, IsFileRead, call_of, file_answered, folder_answered}
use Rattle.tree_core.specs.file_reads.Heard.{ReadResult, failed, absent, wrong_kind, entries, file_heard}

module _ (before after : ℕ) (old new : List Call) (path : List ℕ) where
  pub bytes_read : (bytes : List ℕ) (heard : ReadResult) → new ≡ old ++ read_call path (Ok bytes) ∷ [] → heard ≡ file_heard (Some (file bytes)) → IsFileRead before after old new path heard
  bytes_read bytes heard made is = record { answer = call.bytes bytes; made = made; hears = ap Some (sym is) }

  pub absent_read : (error : TreeError) → error ≡ tree.Absent → new ≡ old ++ read_call path (Err error) ∷ [] → IsFileRead before after old new path absent
  absent_read error is made = record { answer = refusal_answer error; made = made; hears = ap (λ one. file_answered before after (refusal_answer one)) is }

  pub folder_read : (error : TreeError) → error ≡ tree.WrongKind → new ≡ old ++ read_call path (Err error) ∷ [] → IsFileRead before after old new path wrong_kind
  folder_read error is made = record { answer = refusal_answer error; made = made; hears = ap (λ one. file_answered before after (refusal_answer one)) is }

  pub failure_read : (error : TreeError) (first last : ℕ) → error ≡ tree.Failed → first ≡ before → last ≡ after → new ≡ old ++ read_call path (Err error) ∷ [] → IsFileRead before after old new path (failed first last)
  failure_read error first last is begins ends made = record {
    answer = refusal_answer error;
    made = made;
    hears = ap (λ one. file_answered before after (refusal_answer one)) is ∙ ap (λ low. Some (failed low after)) (sym begins) ∙ ap (λ high. Some (failed first high)) (sym ends);
  }

  pub memory_read : (error : TreeError) → error ≡ tree.Memory → new ≡ old ++ read_call path (Err error) ∷ [] → new ≡ old ++ call_of call.read path call.no_memory ∷ []
  memory_read error is made = made ∙ ap (λ one. old ++ read_call path (Err one) ∷ []) is

  -- ---- listings

  pub entries_listed : (listing : List Entry) → new ≡ old ++ list_call path (Ok listing) ∷ [] → IsListed before after old new path (entries (map listed_entry listing))
  entries_listed listing made = record { answer = call.entries (map listed_entry listing); made = made; hears = refl }

  pub absent_listed : (error : TreeError) → error ≡ tree.Absent → new ≡ old ++ list_call path (Err error) ∷ [] → IsListed before after old new path absent
  absent_listed error is made = record { answer = refusal_answer error; made = made; hears = ap (λ one. folder_answered before after (refusal_answer one)) is }

  pub file_listed : (error : TreeError) → error ≡ tree.WrongKind → new ≡ old ++ list_call path (Err error) ∷ [] → IsListed before after old new path wrong_kind
  file_listed error is made = record { answer = refusal_answer error; made = made; hears = ap (λ one. folder_answered before after (refusal_answer one)) is }

  pub failure_listed : (error : TreeError) (first last : ℕ) → error ≡ tree.Failed → first ≡ before → last ≡ after → new ≡ old ++ list_call path (Err error) ∷ [] → IsListed before after old new path (failed first last)
  failure_listed error first last is begins ends made = record {
    answer = refusal_answer error;
    made = made;
    hears = ap (λ one. folder_answered before after (refusal_answer one)) is ∙ ap (λ low. Some (failed low after)) (sym begins) ∙ ap (λ high. Some (failed first high)) (sym ends);
  }

  pub memory_listed : (error : TreeError) → error ≡ tree.Memory → new ≡ old ++ list_call path (Err error) ∷ [] → new ≡ old ++ call_of call.list path call.no_memory ∷ []
  memory_listed error is made = made ∙ ap (λ one. old ++ list_call path (Err one) ∷ []) is
