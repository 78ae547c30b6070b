-- There is one way to put a list in order.
use Rattle.std.proofs.Common.{◌≡◌, ◌∙◌, refl, sym, ap, subst, ℕ, suc, ◌+◌, ◌<◌, Bool, true, false, not, ◌&&◌, cond, List, [], ◌∷◌, get_or, length, arith}
use Rattle.std.specs.List.{filter, AllByRecursion, AllZip}
use Rattle.std.specs.List.Sorted.{IsSortedBy, ties}
use Rattle.std.specs.Ordering.{is_lt}
use Rattle.std.specs.declared.cmp.Ordering.{Ordering}
use Rattle.std.specs.Cmp.{IsTotalOrder, IsStrictWeakOrder}
use Rattle.std.proofs.lemmas.List.Sorted.{ranks_by, sorted_far}
use Rattle.policy_core.specs.validate.Laws.{OneOrder, OnePolicy}
use Rattle.policy_core.specs.validate.Order.{by_path, by_printed, PutsExceptionInOrder, PutsFilesInOrder}
use Rattle.policy_core.specs.declared.valid.policy.ValidClarification.{ValidClarification}
use Rattle.policy_core.specs.declared.valid.policy.ValidException.{ValidException}
use Rattle.deny_text.specs.Path.{path_order_total}
use Rattle.spdx_terms.specs.Licensee.{printed_order_total}
use Rattle.policy_parts.specs.declared.file_source.FileSource.{FileSource}
use Rattle.policy_parts.specs.declared.entries.licensee.Licensee.{Licensee}

first_same : {A : Type 0} (x y : A) (xs ys : List A) → x ∷ xs ≡ y ∷ ys → x ≡ y
first_same x y xs ys is = cc

rest_same : {A : Type 0} (x y : A) (xs ys : List A) → x ∷ xs ≡ y ∷ ys → xs ≡ ys
rest_same x y xs ys is = cc

-- what is left of two lists without their equal heads passes a test alike
rests_pass : {A : Type 0} (passes : Bool) (x y : A) (xs ys : List A) → x ≡ y → cond passes (x ∷ xs) xs ≡ cond passes (y ∷ ys) ys → xs ≡ ys
rests_pass true x y xs ys same is = rest_same x y xs ys is
rests_pass false x y xs ys same is = is

-- the first of a list that passes a test is one of its items
first_by : {A : Type 0} (P : A → Type 0) (passes : Bool) (x y : A) (xs ys : List A) → P x → (xs ≡ y ∷ ys → P y) → cond passes (x ∷ xs) xs ≡ y ∷ ys → P y
first_by P true x y xs ys holds later is = subst P (first_same x y xs ys is) holds
first_by P false x y xs ys holds later is = later is

first_holds : {A : Type 0} (P : A → Type 0) (test : A → Bool) (xs : List A) (y : A) (rest : List A) → AllByRecursion P xs → filter test xs ≡ y ∷ rest → P y
first_holds P test [] y rest all is = cc
first_holds P test (x ∷ xs) y rest all is = first_by P (test x) x y (filter test xs) rest all.0 (λ e. first_holds P test xs y rest all.1 e) is

module _ {X : Type 0} (lt : X → X → Bool) (o : IsStrictWeakOrder lt) where
  not_self_by : (b : Bool) → (b ≡ true → b ≡ false) → b ≡ false
  not_self_by true h = h refl
  not_self_by false h = refl

  not_self : (x : X) → lt x x ≡ false
  not_self x = not_self_by (lt x x) (o.one_way x x)

  ties_self : (x : X) → ties lt x x ≡ true
  ties_self x = ap (λ b. not b && not b) (not_self x)

  above_of : (x : X) (xs : List X) → ((k : ℕ) → k < length xs → lt (get_or xs k x) x ≡ false) → AllByRecursion (λ y. lt y x ≡ false) xs
  above_of x [] h = tt
  above_of x (y ∷ ys) h = (h 0 (omega arith), above_of x ys (λ k p. h (suc k) (omega arith)))

  -- nothing in a sorted list is less than its head
  above_head : (x : X) (xs : List X) → IsSortedBy lt (x ∷ xs) → AllByRecursion (λ y. lt y x ≡ false) (x ∷ xs)
  above_head x xs up = (not_self x, above_of x xs (λ k p. sorted_far lt o (x ∷ xs) up 0 (suc k) x (omega arith) (omega arith)))

  sorted_tail : (x : X) (xs : List X) → IsSortedBy lt (x ∷ xs) → IsSortedBy lt xs
  sorted_tail x xs up k d low high =
      let next : suc k + 1 ≡ suc (k + 1) = omega arith in
      subst (λ n. lt (get_or (x ∷ xs) n d) (get_or xs k d) ≡ false) next (up (suc k) d (omega arith) (omega arith))

  -- the head of a list is the first that ties with it
  own_first : (x : X) (xs : List X) → filter (ties lt x) (x ∷ xs) ≡ x ∷ filter (ties lt x) xs
  own_first x xs = ap (λ b. cond b (x ∷ filter (ties lt x) xs) (filter (ties lt x) xs)) (ties_self x)

  -- sorted lists that have the same items for each that they tie with are the same
  pub one_list : (xs ys : List X) → IsSortedBy lt xs → IsSortedBy lt ys → ((z : X) → filter (ties lt z) xs ≡ filter (ties lt z) ys) → xs ≡ ys
  one_list [] [] up other same = refl
  one_list [] (y ∷ ys) up other same = absurd (let e : [] ≡ y ∷ filter (ties lt y) ys = same y ∙ own_first y ys in cc)
  one_list (x ∷ xs) [] up other same = absurd (let e : x ∷ filter (ties lt x) xs ≡ [] = sym (own_first x xs) ∙ same x in cc)
  one_list (x ∷ xs) (y ∷ ys) up other same =
      let below : lt x y ≡ false =
      first_holds (λ w. lt w y ≡ false) (ties lt x) (y ∷ ys) x (filter (ties lt x) xs) (above_head y ys other) (sym (same x) ∙ own_first x xs) in
      let above : lt y x ≡ false =
      first_holds (λ w. lt w x ≡ false) (ties lt y) (x ∷ xs) y (filter (ties lt y) ys) (above_head x xs up) (same y ∙ own_first y ys) in
      let tie : ties lt x y ≡ true = ap (λ b. not b && not (lt y x)) below ∙ ap (λ b. true && not b) above in
      let heads : x ≡ y =
      first_same x y (filter (ties lt x) xs) (filter (ties lt x) ys)
      (sym (own_first x xs) ∙ same x ∙ ap (λ b. cond b (y ∷ filter (ties lt x) ys) (filter (ties lt x) ys)) tie) in
      let tails : xs ≡ ys =
      one_list xs ys (sorted_tail x xs up) (sorted_tail y ys other)
      (λ z. rests_pass (ties lt z x) x y (filter (ties lt z) xs) (filter (ties lt z) ys) heads
      (same z ∙ ap (λ w. cond (ties lt z w) (y ∷ filter (ties lt z) ys) (filter (ties lt z) ys)) (sym heads))) in
      ap (λ h. h ∷ xs) heads ∙ ap (λ t. y ∷ t) tails

-- by the order of a key
pub one_order : {K X : Type 0} {order : K → K → Ordering} → IsTotalOrder order → (key : X → K) → OneOrder (λ (x y : X). order (key x) (key y))
one_order {order} total key written one other puts_one puts_other =
    one_list (λ x y. is_lt (order (key x) (key y))) (ranks_by total key) one other puts_one.rises puts_other.rises
    (λ z. puts_one.stable z ∙ sym (puts_other.stable z))

-- ---- policies

pub licensees_one : OneOrder by_printed
licensees_one = one_order printed_order_total (λ (licensee : Licensee). licensee.0.value)

pub files_one : OneOrder by_path
files_one = one_order path_order_total (λ (file : FileSource). file.path.value)

clarification_one : (written one other : ValidClarification) → PutsFilesInOrder written one → PutsFilesInOrder written other → one ≡ other
clarification_one written one other puts_one puts_other =
    puts_one.rest
    ∙ ap (λ files. record written { license_files = files })
    (files_one written.license_files one.license_files other.license_files puts_one.files puts_other.files)
    ∙ sym puts_other.rest

exception_one : (written one other : ValidException) → PutsExceptionInOrder written one → PutsExceptionInOrder written other → one ≡ other
exception_one written one other puts_one puts_other =
    puts_one.rest
    ∙ ap (λ files. record written { license_files = files })
    (files_one written.license_files one.license_files other.license_files puts_one.files puts_other.files)
    ∙ sym puts_other.rest

-- each of a list in its one way
each_one : {A B : Type 0} (R : A → B → Type 0) → ((written : A) (one other : B) → R written one → R written other → one ≡ other)
    → (written : List A) (one other : List B) → AllZip R written one → AllZip R written other → one ≡ other
each_one R law [] [] [] puts_one puts_other = refl
each_one R law [] [] (y ∷ ys) puts_one puts_other = absurd puts_other
each_one R law [] (x ∷ xs) other puts_one puts_other = absurd puts_one
each_one R law (w ∷ ws) [] other puts_one puts_other = absurd puts_one
each_one R law (w ∷ ws) (x ∷ xs) [] puts_one puts_other = absurd puts_other
each_one R law (w ∷ ws) (x ∷ xs) (y ∷ ys) puts_one puts_other =
    ap (λ h. h ∷ xs) (law w x y puts_one.0 puts_other.0)
    ∙ ap (λ t. y ∷ t) (each_one R law ws xs ys puts_one.1 puts_other.1)

pub policies_one : OnePolicy
policies_one written one other puts_one puts_other =
    puts_one.rest
    ∙ ap (λ allowed. record written { allowed = allowed; clarifications = one.clarifications; exceptions = one.exceptions })
    (licensees_one written.allowed one.allowed other.allowed puts_one.allowed puts_other.allowed)
    ∙ ap (λ clarifications. record written { allowed = other.allowed; clarifications = clarifications; exceptions = one.exceptions })
    (each_one PutsFilesInOrder clarification_one written.clarifications one.clarifications other.clarifications puts_one.clarifications puts_other.clarifications)
    ∙ ap (λ exceptions. record written { allowed = other.allowed; clarifications = other.clarifications; exceptions = exceptions })
    (each_one PutsExceptionInOrder exception_one written.exceptions one.exceptions other.exceptions puts_one.exceptions puts_other.exceptions)
    ∙ sym puts_other.rest
