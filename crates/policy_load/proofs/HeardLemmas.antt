-- The exceptions file of a load: which file its path finds, and what is read of it.
use Rattle.std.proofs.Common.{◌≡◌, ◌∙◌, refl, sym, ap, subst, inl, inr, ℕ, suc, ◌+◌, true, false, cond, List, [], ◌∷◌, ◌++◌, length, Option, Some, None, Result, Ok, Err, arith}
use Rattle.std.specs.Prelude.{is_some, OnErr}
use Rattle.std.specs.List.{position_from}
use Rattle.std.proofs.lemmas.Iterator.Adapters.{position_from-zero}
use Rattle.std.specs.Option.{ForSome}
use Rattle.tree_core.specs.Call.{CallAnswer, Call}
use Rattle.diag_core.specs.File.{File, file_id_at, is_at}
use Rattle.tree_core.specs.texts.Heard.{IsTextRead, read_of as call_of}
use Rattle.tree_core.specs.declared.texts.fault.ReadFault.{ReadFault}
use Rattle.tree_core.specs.declared.texts.fault.ReadFault.TheVariants.{Absent}
use Rattle.policy_core.specs.declared.exceptions.ExceptionsHeard.{ExceptionsHeard}
use Rattle.policy_core.specs.declared.exceptions.ExceptionsHeard.TheVariants.{NoPath, ThePolicy, Heard}
use Rattle.policy_load.specs.Heard.{IsReadAt, IsReadOf, MayReadAt, MayReadOf, exceptions_at, exceptions_heard}

-- a file behind others that the path does not find is found where its own path is equal
last_from : (path : List ℕ) (file : File) (old : List File) (i : ℕ) → position_from (is_at path) i old ≡ None
    → position_from (is_at path) i (old ++ file ∷ []) ≡ cond (is_at path file) (Some (i + length old)) None
last_from path file [] i none = ap (λ n. cond (is_at path file) (Some n) None) (omega arith)
last_from path file (first ∷ old) i none =
    elim (is_at path first) as (λ b. cond b (Some i) (position_from (is_at path) (i + 1) old) ≡ None
    → cond b (Some i) (position_from (is_at path) (i + 1) (old ++ file ∷ [])) ≡ cond (is_at path file) (Some (i + suc (length old))) None) [
      | true ↦ λ some. absurd (cc)
      | false ↦ λ rest. last_from path file old (i + 1) rest ∙ ap (λ n. cond (is_at path file) (Some n) None) (omega arith)
    ] none

id_at-last : (old : List File) (file : File) (path : List ℕ) → file_id_at old path ≡ None → file_id_at (old ++ file ∷ []) path ≡ cond (is_at path file) (Some (length old)) None
id_at-last old file path none =
    position_from-zero (is_at path) (old ++ file ∷ [])
    ∙ last_from path file old 0 (sym (position_from-zero (is_at path) old) ∙ none)
    ∙ ap (λ n. cond (is_at path file) (Some n) None) (omega arith)

-- so what the path finds is the last file
pub last_alone : (old : List File) (file : File) (path : List ℕ) → file_id_at old path ≡ None → ForSome (file_id_at (old ++ file ∷ []) path) (λ id. id ≡ length old)
last_alone old file path none id found =
    elim (is_at path file) as (λ b. cond b (Some (length old)) None ≡ Some id → id ≡ length old) [
      | true ↦ λ e. cc
      | false ↦ λ e. absurd (cc)
    ] (sym (id_at-last old file path none) ∙ found)

-- the text that is read of it, or why there is none
pub text_of : ExceptionsHeard → Result (List ℕ) ReadFault
text_of NoPath = Err Absent
text_of (ThePolicy path) = Err Absent
text_of (Heard path found) = found

-- by the answer of its read the same is read
pub read_so : (known : List File) (path : Option (List ℕ)) (before after : ℕ) (calls more : List Call) (exceptions : ExceptionsHeard) → IsReadOf before after calls more known path exceptions
    → exceptions_heard known path (text_of exceptions) ≡ exceptions
unfolding text_of
read_so known None before after calls more exceptions (same, still) = sym same
read_so known (Some path) before after calls more exceptions reads =
    elim (file_id_at known path) as (λ found. IsReadAt before after calls more found path exceptions → exceptions_at found path (text_of exceptions) ≡ exceptions) [
      | Some id ↦ λ (same, still). sym same
      | None ↦ λ (found, same, read). ap (λ one. Heard path (text_of one)) same ∙ sym same
    ] reads

-- ---- the calls of its read, by the file that its path finds

-- nothing is read of the policy
pub itself_unread : (before after : ℕ) (calls : List Call) (at : Option ℕ) (path : List ℕ) → is_some at ≡ true → IsReadAt before after calls calls at path (ThePolicy path)
itself_unread before after calls None path is = cc
itself_unread before after calls (Some file) path is = (refl, refl)

-- another file is read
pub other_read : (before after begun : ℕ) (calls more : List Call) (at : Option ℕ) (path : List ℕ) (text : Result (List ℕ) ReadFault) → is_some at ≡ false → begun ≡ before
    → IsTextRead begun after calls more path text → IsReadAt before after calls more at path (Heard path text)
other_read before after begun calls more None path text is same read = (text, refl, subst (λ n. IsTextRead n after calls more path text) same read)
other_read before after begun calls more (Some file) path text is same read = cc

-- ---- where memory was wanting

-- what holds, holds of a refusal
pub on_err : {A E : Type 0} (result : Result A E) (P : Type 0) → P → OnErr result P
on_err (Ok value) P holds = tt
on_err (Err error) P holds = holds

unread_at : (calls : List Call) (at : Option ℕ) (path : List ℕ) → MayReadAt calls calls at path
unread_at calls (Some file) path = refl
unread_at calls None path = inl refl

-- no call was made
pub unread_of : (calls : List Call) (files : List File) (path : Option (List ℕ)) → MayReadOf calls calls files path
unread_of calls files None = refl
unread_of calls files (Some path) = unread_at calls (file_id_at files path) path

-- the call was made
pub one_read_at : (calls more : List Call) (at : Option ℕ) (path : List ℕ) (answer : CallAnswer) → is_some at ≡ false → more ≡ calls ++ call_of path answer ∷ [] → MayReadAt calls more at path
one_read_at calls more (Some file) path answer is made = cc
one_read_at calls more None path answer is made = inr (answer, made)

may_at : (before after : ℕ) (calls more : List Call) (at : Option ℕ) (path : List ℕ) (hearing : ExceptionsHeard) → IsReadAt before after calls more at path hearing → MayReadAt calls more at path
may_at before after calls more (Some file) path hearing is = is.1
may_at before after calls more None path hearing is = inr (is.2.answer, is.2.made)

-- what was read may have been
pub may_of : (before after : ℕ) (calls more : List Call) (files : List File) (path : Option (List ℕ)) (hearing : ExceptionsHeard) → IsReadOf before after calls more files path hearing → MayReadOf calls more files path
may_of before after calls more files None hearing is = is.1
may_of before after calls more files (Some path) hearing is = may_at before after calls more (file_id_at files path) path hearing is
