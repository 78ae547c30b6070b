-- The one call of locating a field.
use Rattle.std.proofs.Common.{◌≡◌, ◌∙◌, ℕ, true, false, List, [], ◌∷◌, ◌++◌, append-nil, Option, None, Some, ◌⊎◌, inl, inr, Result, Ok, Err, OnErr, refl, sym, ap, subst, cond}
use Rattle.std.specs.Prelude.{slice_index, ◌==◌}
use Rattle.std.specs.Option.{option_to_list}
use Rattle.std.specs.Path.{path_join, slash}
use Rattle.deny_text.specs.Path.{join_of}
use Rattle.tree_core.specs.Call as call
use Rattle.tree_core.specs.Call.{Call}
use Rattle.tree_core.specs.Content.{Content}
use Rattle.tree_core.specs.Hearing.{MadeSome}
use Rattle.tree_core.proofs.MadeLemmas.{made_these}
use Rattle.tree_core.specs.declared.reads.ReadKind.TheVariants.{Manifest}
use Rattle.tree_core.specs.file_reads.Answered.{IsFileRead, call_of}
use Rattle.tree_core.specs.file_reads.Heard.{ReadResult, absent}
use Rattle.tree_core.specs.file_reads.Read.{AnsweredRead}
use Rattle.tree_core.proofs.file_reads.ReadLemmas.{heard_recorded, lacked_behind, no_reads, one_read, read_with}
use Rattle.diag_core.specs.File.{File, file_id_at}
use Rattle.gather_license.specs.declared.location.location.LocatedField.{LocatedField}
use Rattle.gather_license.specs.location.Calls.{IsLocatedBy, StarvesLocating, manifest_by}
use Rattle.gather_license.specs.location.Location.{IsLocated, files_with_manifest, in_heard, field_in_table, located_by, manifest_record}
use Rattle.gather_license.proofs.location.HeardLemmas.{located_heard, located_there}

pub on_err : {A E : Type 0} (result : Result A E) (P : Type 0) → P → OnErr result P
on_err (Ok x) P holds = tt
on_err (Err e) P holds = holds

-- a path behind an empty folder is the path
pub join_nothing : (path : List ℕ) → join_of [] path ≡ path
unfolding path_join
join_nothing path = elim (slice_index path 0 == slash) as (λ b. cond b path path ≡ path) [ true ↦ refl | false ↦ refl ]

abbrev read_by : List ℕ → ReadResult → call.CallAnswer → AnsweredRead
read_by path heard answer = read_with Manifest path heard answer

-- a file of the table has the path, and nothing is read
pub located_in_table : (told : Option Content) (count : ℕ) (calls : List Call) (path field : List ℕ) (files : List File) (id : ℕ) (located : LocatedField) → Some id ≡ file_id_at files path
    → located ≡ field_in_table field files id → IsLocatedBy told told count count calls calls path field files located files
located_in_table told count calls path field files id located found is = record {
  reads = [];
  records = sym (ap (λ (l : LocatedField). option_to_list l.read) is);
  made = λ folder. no_reads told count calls folder;
  is = located_there path field files (manifest_by []) id located found is;
}

module _ {told tells : Option Content} {before after : ℕ} {old new : List Call} (path field : List ℕ) (files : List File) where
  -- it was read
  pub located_read : (heard : ReadResult) (located : LocatedField) (joined : List File) → None ≡ file_id_at files path → located ≡ in_heard path field files heard → joined ≡ files_with_manifest path field files heard
      → IsFileRead before after old new path heard → MadeSome told tells before after old new → IsLocatedBy told tells before after old new path field files located joined
  located_read heard located joined none is are read some = record {
    reads = read_by path heard read.answer ∷ [];
    records = sym (ap (λ (l : LocatedField). option_to_list l.read) is);
    made = λ folder. one_read folder Manifest path heard read.answer (made_these some read.made) read.hears;
    is = subst (λ (manifest : ReadResult). IsLocated path field files manifest located joined) (sym (heard_recorded Manifest path before after read.answer heard read.hears))
        (located_heard path field files heard located joined none is are);
  }

  -- memory was wanting behind the read
  pub starves_read : (heard : ReadResult) → None ≡ file_id_at files path → IsFileRead before after old new path heard → MadeSome told tells before after old new
      → StarvesLocating told tells before after old new path field files
  starves_read heard none read some = record {
    reads = read_by path heard read.answer ∷ [];
    next = None;
    made = λ folder. lacked_behind folder (read_by path heard read.answer ∷ []) (one_read folder Manifest path heard read.answer (made_these some read.made) read.hears);
    rest = [];
    front =
        ap (λ (o : Option ℕ). option_to_list (located_by path field files (manifest_by (read_by path heard read.answer ∷ [])) o).read) (sym none)
        ∙ ap (λ (one : ReadResult). manifest_record path one ∷ []) (heard_recorded Manifest path before after read.answer heard read.hears);
  }

  -- memory was wanting before it, or in it
  pub starves_unread : None ≡ file_id_at files path → (new ≡ old) ⊎ (new ≡ old ++ call_of call.read path call.no_memory ∷ []) → MadeSome told tells before after old new
      → StarvesLocating told tells before after old new path field files
  starves_unread none (inl same) some = record {
    reads = [];
    next = None;
    made = λ folder. record { made = made_these some (same ∙ sym (append-nil old)); are = tt };
    rest = manifest_record path absent ∷ [];
    front = ap (λ (o : Option ℕ). option_to_list (located_by path field files absent o).read) (sym none);
  }
  starves_unread none (inr called) some = record {
    reads = [];
    next = Some (manifest_record path absent);
    made = λ folder. record { made = made_these some called; are = tt };
    rest = [];
    front = ap (λ (o : Option ℕ). option_to_list (located_by path field files absent o).read) (sym none);
  }
