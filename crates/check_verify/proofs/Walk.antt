-- From one crate to the next.
use Rattle.std.proofs.Common.{◌≡◌, ◌∙◌, refl, sym, ap, subst, ℕ, suc, ◌+◌, ◌<◌, Bool, true, false, ◌&&◌, cond, bytes_eq, List, [], ◌∷◌, ◌++◌, length, take, drop, get_or, Option, Some, None}
use Rattle.std.specs.Borrow.{Bor}
use Rattle.std.specs.List.{AllZip}
use Rattle.std.specs.Option.{option_or}
use Rattle.std.specs.Prelude.{option_map}
use Rattle.std.specs.Slice.{IsItemAt}
use Rattle.std.specs.Cmp.Lexicographic.{pointwise}
use Rattle.std.proofs.lemmas.List.{drop_all, drop_more, take_more}
use Rattle.spdx_terms.specs.declared.term.ExpressionReq.{ExpressionReq}
use Rattle.spdx_core.specs.declared.certificates.verdict.Hit.{Hit}
use Rattle.gather_core.specs.declared.summary.KrateLicense.{KrateLicense}
use Rattle.gather_core.specs.Gathered.{krate_of}
use Rattle.policy_core.specs.valid.Policy.{Policy}
use Rattle.check_record.specs.declared.items.RecordItem.{RecordItem}
use Rattle.check_record.specs.Items.{ids_of}
use Rattle.check_verify.specs.declared.answer.VerifyAnswer.TheVariants.{No}
use Rattle.check_verify.specs.declared.answer.VerdictFault.{VerdictFault}
use Rattle.check_verify.specs.declared.answer.NoReason.{NoReason}
use Rattle.check_verify.specs.declared.answer.NoReason.TheVariants.{Crates}
use Rattle.check_verify.specs.Crates.{SeenCrate, fault_of}
use Rattle.check_verify.specs.Reasons.{answer_by, first_reason, ids_seen, reason_with}
use Rattle.check_verify.specs.Terms.{are_allowed}
use Rattle.check_verify.specs.Verified.{IsFirst, IsFlagged, IsSeen, IsVerified, all_seen, all_steps, ids_gathered, seen_as, steps_at}

-- ---- lists

-- an item that was read
pub at_index : {A : Type 0} (xs : List A) (i : ℕ) (x : A) → i < length xs → x ≡ get_or xs i x → drop i xs ≡ x ∷ drop (i + 1) xs
at_index xs i x below is = drop_more xs i x below ∙ ap (λ y. y ∷ drop (i + 1) xs) (sym is)

pub at_item : {A : Type 0} (xs : List A) (i : ℕ) (x : Bor A) → IsItemAt xs i (Some x) → drop i xs ≡ x.now ∷ drop (i + 1) xs
at_item xs i x item = at_index xs i x.now item.3.0 item.1

-- there was none
pub past_items : {A : Type 0} (xs : List A) (i : ℕ) (r : Option (Bor A)) → IsItemAt xs i r → ((x : Bor A) → r ≡ Some x → ⊥) → drop i xs ≡ []
past_items xs i None item none = drop_all i xs item.3
past_items xs i (Some x) item none = absurd (none x refl)

-- ---- pairs

pub as_many : {A B : Type 0} (R : A → B → Type 0) (xs : List A) (ys : List B) → AllZip R xs ys → length xs ≡ length ys
as_many R [] [] each = refl
as_many R [] (y ∷ ys) each = absurd each
as_many R (x ∷ xs) [] each = absurd each
as_many R (x ∷ xs) (y ∷ ys) each = ap suc (as_many R xs ys each.1)

zip_push : {A B : Type 0} (R : A → B → Type 0) (xs : List A) (ys : List B) (x : A) (y : B) → AllZip R xs ys → R x y → AllZip R (xs ++ x ∷ []) (ys ++ y ∷ [])
zip_push R [] [] x y each one = (one, tt)
zip_push R [] (z ∷ ys) x y each one = absurd each
zip_push R (z ∷ xs) [] x y each one = absurd each
zip_push R (z ∷ xs) (w ∷ ys) x y each one = (each.0, zip_push R xs ys x y each.1 one)

pub zip_next : {A B : Type 0} (R : A → B → Type 0) (xs : List A) (ys zs : List B) (i : ℕ) (x : A) (y : B) → i < length xs → x ≡ get_or xs i x → AllZip R (take i xs) ys → R x y → zs ≡ ys ++ y ∷ []
    → AllZip R (take (i + 1) xs) zs
zip_next R xs ys zs i x y below is each one more =
    subst (AllZip R (take (i + 1) xs)) (sym more)
    (subst (λ front. AllZip R front (ys ++ y ∷ [])) (ap (λ z. take i xs ++ z ∷ []) is ∙ sym (take_more xs i x below)) (zip_push R (take i xs) ys x y each one))

-- ---- hits

and_false : (a b : Bool) → b ≡ false → (a && b) ≡ false
and_false true b e = e
and_false false b e = refl

-- there are more places than hits, or fewer
pub allowed_apart : (policy : Policy) (counted : List ℕ) (terms : List ExpressionReq) (places : List ℕ) (hits : List Hit) → (length places ≡ length hits → ⊥)
    → false ≡ are_allowed policy counted terms places hits
allowed_apart policy counted terms [] [] other = absurd (other refl)
allowed_apart policy counted terms [] (hit ∷ hits) other = refl
allowed_apart policy counted terms (place ∷ places) [] other = refl
allowed_apart policy counted terms (place ∷ places) (hit ∷ hits) other =
    sym (and_false _ (are_allowed policy counted terms places hits) (sym (allowed_apart policy counted terms places hits (λ same. other (ap suc same)))))

-- ---- reasons, crate after crate

none_without : (policy : Policy) (crates : List SeenCrate) → first_reason policy crates [] ≡ None
none_without policy [] = refl
none_without policy (seen ∷ crates) = refl

module _ (policy : Policy) (licenses : List KrateLicense) (flags : List Bool) (items : List RecordItem) (place : ℕ) where
  abbrev left : List KrateLicense → List Bool → List RecordItem → Option NoReason
  left some private more = first_reason policy (all_seen some private) more

  pub none_left : drop place items ≡ [] → left (drop place licenses) (drop place flags) (drop place items) ≡ None
  none_left none = ap (left (drop place licenses) (drop place flags)) none ∙ none_without policy (all_seen (drop place licenses) (drop place flags))

  pub one_left : (license : KrateLicense) (private : Bool) (item : RecordItem) → drop place licenses ≡ license ∷ drop (place + 1) licenses → drop place flags ≡ private ∷ drop (place + 1) flags
      → drop place items ≡ item ∷ drop (place + 1) items
      → left (drop place licenses) (drop place flags) (drop place items)
      ≡ option_or (option_map (reason_with (krate_of license).id) (fault_of policy (seen_as license private) item.verdict)) (left (drop (place + 1) licenses) (drop (place + 1) flags) (drop (place + 1) items))
  one_left license private item of_license of_flag of_item =
      ap (λ some. left some (drop place flags) (drop place items)) of_license
      ∙ ap (λ some. left (license ∷ drop (place + 1) licenses) some (drop place items)) of_flag
      ∙ ap (left (license ∷ drop (place + 1) licenses) (private ∷ drop (place + 1) flags)) of_item

  -- the crate has no fault
  pub none_here : (license : KrateLicense) (private : Bool) (item : RecordItem) → drop place licenses ≡ license ∷ drop (place + 1) licenses → drop place flags ≡ private ∷ drop (place + 1) flags
      → drop place items ≡ item ∷ drop (place + 1) items → None ≡ fault_of policy (seen_as license private) item.verdict
      → left (drop (place + 1) licenses) (drop (place + 1) flags) (drop (place + 1) items) ≡ left (drop place licenses) (drop place flags) (drop place items)
  none_here license private item of_license of_flag of_item none =
      ap (λ fault. option_or (option_map (reason_with (krate_of license).id) fault) (left (drop (place + 1) licenses) (drop (place + 1) flags) (drop (place + 1) items))) none
      ∙ sym (one_left license private item of_license of_flag of_item)

  -- the crate has one
  pub first_here : (license : KrateLicense) (private : Bool) (item : RecordItem) → drop place licenses ≡ license ∷ drop (place + 1) licenses → drop place flags ≡ private ∷ drop (place + 1) flags
      → drop place items ≡ item ∷ drop (place + 1) items → (fault : VerdictFault) → Some fault ≡ fault_of policy (seen_as license private) item.verdict
      → (reason : NoReason) → reason ≡ reason_with (krate_of license).id fault → Some reason ≡ left (drop place licenses) (drop place flags) (drop place items)
  first_here license private item of_license of_flag of_item fault is reason told =
      ap Some told
      ∙ ap (λ found. option_or (option_map (reason_with (krate_of license).id) found) (left (drop (place + 1) licenses) (drop (place + 1) flags) (drop (place + 1) items))) is
      ∙ sym (one_left license private item of_license of_flag of_item)

  pub steps_left : (license : KrateLicense) (item : RecordItem) → drop place licenses ≡ license ∷ drop (place + 1) licenses → drop place items ≡ item ∷ drop (place + 1) items
      → all_steps policy (drop place licenses) (drop place items) ≡ steps_at policy license item + all_steps policy (drop (place + 1) licenses) (drop (place + 1) items)
  steps_left license item of_license of_item =
      ap (λ some. all_steps policy some (drop place items)) of_license ∙ ap (all_steps policy (license ∷ drop (place + 1) licenses)) of_item

pub none_of : (found : Option VerdictFault) → ((fault : VerdictFault) → found ≡ Some fault → ⊥) → None ≡ found
none_of None other = refl
none_of (Some fault) other = absurd (other fault refl)

-- ---- the answer

module _ (policy : Policy) where
  seen_all : (licenses : List KrateLicense) (flags : List Bool) → AllZip (IsFlagged policy) licenses flags → AllZip (IsSeen policy) licenses (all_seen licenses flags)
  seen_all [] [] each = tt
  seen_all [] (private ∷ flags) each = absurd each
  seen_all (license ∷ licenses) [] each = absurd each
  seen_all (license ∷ licenses) (private ∷ flags) each = (record { krate = refl; exceptions = refl; private = each.0; expression = refl }, seen_all licenses flags each.1)

  ids_all : (licenses : List KrateLicense) (flags : List Bool) → AllZip (IsFlagged policy) licenses flags → ids_seen (all_seen licenses flags) ≡ ids_gathered licenses
  ids_all [] [] each = refl
  ids_all [] (private ∷ flags) each = absurd each
  ids_all (license ∷ licenses) [] each = absurd each
  ids_all (license ∷ licenses) (private ∷ flags) each = ap (λ ids. (krate_of license).id ∷ ids) (ids_all licenses flags each.1)

  module _ (licenses : List KrateLicense) (flags : List Bool) (items : List RecordItem) (each : AllZip (IsFlagged policy) licenses flags) where
    same_by : (same : Bool) → same ≡ pointwise bytes_eq (ids_gathered licenses) (ids_of items) → pointwise bytes_eq (ids_seen (all_seen licenses flags)) (ids_of items) ≡ same
    same_by same is = ap (λ ids. pointwise bytes_eq ids (ids_of items)) (ids_all licenses flags each) ∙ sym is

    -- the ids are the same
    pub verified_by : (same : Bool) → same ≡ pointwise bytes_eq (ids_gathered licenses) (ids_of items) → same ≡ true → (reason : Option NoReason) → IsFirst policy licenses flags items reason
        → IsVerified policy licenses items (answer_by reason)
    verified_by same is agree reason first = record {
      crates = all_seen licenses flags;
      seen = seen_all licenses flags each;
      is = ap answer_by (first ∙ sym (ap (λ b. cond b (first_reason policy (all_seen licenses flags) items) (Some Crates)) (same_by same is ∙ agree)));
    }

    -- they differ
    pub not_verified : (same : Bool) → same ≡ pointwise bytes_eq (ids_gathered licenses) (ids_of items) → same ≡ false → IsVerified policy licenses items (No Crates)
    not_verified same is apart = record {
      crates = all_seen licenses flags;
      seen = seen_all licenses flags each;
      is = ap answer_by (sym (ap (λ b. cond b (first_reason policy (all_seen licenses flags) items) (Some Crates)) (same_by same is ∙ apart)));
    }
