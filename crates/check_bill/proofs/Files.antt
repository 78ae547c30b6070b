-- A whole bill.
use Rattle.std.proofs.Common.{◌≡◌, ◌∙◌, refl, sym, ap, subst, inl, inr, ℕ, zero, suc, ◌+◌, ◌≤◌, List, [], ◌∷◌, ◌++◌, append_assoc, append-nil, length, length-append, Option, Some, None, Ok, Err, arith}
use Rattle.std.specs.List.{AllByRecursion}
use Rattle.check_bill.specs.declared.bill.Bill.{Bill}
use Rattle.check_bill.specs.declared.bill.BillPackage.{BillPackage}
use Rattle.check_bill.specs.declared.error.BillError.{BillError}
use Rattle.check_bill.specs.declared.error.BillError.TheVariants.{Syntax, Memory}
use Rattle.check_bill.specs.Answers.{AnswersRead, Spells}
use Rattle.check_bill.specs.Bills.{IsBill, IsBillPackage}
use Rattle.check_bill.specs.Laws.{BillsReadBack, ReadIsWritten}
use Rattle.check_bill.specs.Lines.{head_before, lines_of, package_before, packages_from}
use Rattle.check_bill.specs.Reading.{◌>>=◌, HeadTexts, Misses, Read, bill_with, head_at, package_at, packages_on, whole_at}
use Rattle.check_bill.proofs.Packages.{head_again, head_takes, package_again, package_longer, package_takes}
use Rattle.check_bill.proofs.StepLemmas.{bind_some, some_is}

-- ---- packages

one_more : (front : List BillPackage) (krate : BillPackage) → length (front ++ krate ∷ []) ≡ length front + 1
one_more front krate = length-append front (krate ∷ [])

packages_again : (packages front : List BillPackage) (most : ℕ) → AllByRecursion IsBillPackage packages → length packages ≤ most
    → packages_on most front (packages_from (length front + 1) packages) ≡ Some (front ++ packages)
unfolding packages_on
packages_again [] front zero each enough = ap (λ (p : List BillPackage). Some p) (sym (append-nil front))
packages_again [] front (suc most) each enough = ap (λ (p : List BillPackage). Some p) (sym (append-nil front))
packages_again (krate ∷ packages) front zero each enough = absurd (omega arith)
packages_again (krate ∷ packages) front (suc most) each enough =
    let number : ℕ = length front + 1 in
    ap (λ (read : Read BillPackage). read >>= λ (next : BillPackage × List ℕ). packages_on most (front ++ next.0 ∷ []) next.1) (package_again number krate (packages_from (number + 1) packages) each.0)
    ∙ ap (λ (n : ℕ). packages_on most (front ++ krate ∷ []) (packages_from (n + 1) packages)) (sym (one_more front krate))
    ∙ packages_again packages (front ++ krate ∷ []) most each.1 (omega arith)
    ∙ ap (λ (p : List BillPackage). Some p) (append_assoc front (krate ∷ []) packages)

packages_count : (packages : List BillPackage) (number : ℕ) → length packages ≤ length (packages_from number packages)
packages_count [] number = omega arith
packages_count (krate ∷ packages) number =
    let others = packages_count packages (number + 1) in
    let longer = package_longer number krate (packages_from (number + 1) packages) in
    omega arith

-- the packages behind others
record TakesPackages (front : List BillPackage) (bytes : List ℕ) (all : List BillPackage) : Type 0 where
  packages : List BillPackage
  all_are : all ≡ front ++ packages
  parts : bytes ≡ packages_from (length front + 1) packages
  each : AllByRecursion IsBillPackage packages

no_packages : (front : List BillPackage) (all : List BillPackage) → front ≡ all → TakesPackages front [] all
no_packages front all is = subst (λ (a : List BillPackage). TakesPackages front [] a) is (record { packages = []; all_are = sym (append-nil front); parts = refl; each = tt })

packages_take : (most : ℕ) (front : List BillPackage) (bytes : List ℕ) (all : List BillPackage) → packages_on most front bytes ≡ Some all → TakesPackages front bytes all
unfolding packages_on
packages_take zero front [] all e = no_packages front all (some_is front all e)
packages_take zero front (b ∷ bytes) all e = absurd cc
packages_take (suc most) front [] all e = no_packages front all (some_is front all e)
packages_take (suc most) front (b ∷ bytes) all e =
    let number : ℕ = length front + 1 in
    let s = bind_some (package_at number (b ∷ bytes)) (λ next. packages_on most (front ++ next.0 ∷ []) next.1) all e in
    let p = package_takes number (b ∷ bytes) s.0.0 s.0.1 s.1 in
    let t = packages_take most (front ++ s.0.0 ∷ []) s.0.1 all s.2 in
    record {
      packages = s.0.0 ∷ t.packages;
      all_are = t.all_are ∙ append_assoc front (s.0.0 ∷ []) t.packages;
      parts = p.parts ∙ ap (λ (r : List ℕ). package_before number s.0.0 r) (t.parts ∙ ap (λ (n : ℕ). packages_from (n + 1) t.packages) (one_more front s.0.0));
      each = (p.is, t.each);
    }

-- ---- all of the bytes

abbrev last_of_whole : HeadTexts → List BillPackage → Option Bill
last_of_whole head packages = Some (bill_with head packages)

abbrev behind_head : HeadTexts × List ℕ → Option Bill
behind_head head = packages_on (length head.1) [] head.1 >>= λ packages. last_of_whole head.0 packages

whole_again : (bill : Bill) → IsBill bill → whole_at (lines_of bill) ≡ Some bill
unfolding whole_at
whole_again bill is =
    let rest : List ℕ = packages_from 1 bill.packages in
    let head : HeadTexts = record { name = bill.name; namespace = bill.namespace; created = bill.created } in
    ap (λ (read : Read HeadTexts). read >>= behind_head) (head_again bill rest is)
    ∙ ap (λ (read : Option (List BillPackage)). read >>= λ packages. last_of_whole head packages) (packages_again bill.packages [] (length rest) is.packages (packages_count bill.packages 1))

pub whole_takes : (bytes : List ℕ) (bill : Bill) → whole_at bytes ≡ Some bill → Spells bytes bill
unfolding whole_at
whole_takes bytes bill e =
    let h = bind_some (head_at bytes) behind_head bill e in
    let p = bind_some (packages_on (length h.0.1) [] h.0.1) (λ packages. last_of_whole h.0.0 packages) bill h.2 in
    let head = head_takes bytes h.0.0 h.0.1 h.1 in
    let t = packages_take (length h.0.1) [] h.0.1 p.0 p.1 in
    let rest : h.0.1 ≡ packages_from 1 p.0 = t.parts ∙ ap (λ (all : List BillPackage). packages_from 1 all) (sym t.all_are) in
    subst (λ (b : Bill). Spells bytes b) (some_is (bill_with h.0.0 p.0) bill p.2)
    (record {
      is = record { name = head.name; namespace = head.namespace; created = head.created; packages = subst (λ (all : List BillPackage). AllByRecursion IsBillPackage all) (sym t.all_are) t.each };
      spelled = head.parts ∙ ap (λ (r : List ℕ). head_before (bill_with h.0.0 []) r) rest;
    })

nothing_is : (bill : Bill) → None ≡ Some bill → ⊥
nothing_is bill same = absurd cc

-- bytes of which nothing is read are the lines of no bill
pub whole_misses : (bytes : List ℕ) → whole_at bytes ≡ None → (bill : Bill) → Spells bytes bill → ⊥
whole_misses bytes none bill spells = nothing_is bill (sym none ∙ ap whole_at spells.spelled ∙ whole_again bill spells.is)

-- what is answered where nothing is read
pub read_fails : (error : BillError) (bytes : List ℕ) → Misses error (whole_at bytes) → AnswersRead bytes (Err error)
read_fails Syntax bytes none = whole_misses bytes none
read_fails Memory bytes none = tt

-- ---- laws

pub bills_read_back : BillsReadBack
bills_read_back bill (Ok other) is answers =
    let same : other ≡ bill = some_is other bill (sym (whole_again other answers.is) ∙ ap whole_at (sym answers.spelled) ∙ whole_again bill is) in
    inl (ap (λ (b : Bill). Ok b) same)
bills_read_back bill (Err Syntax) is answers = absurd (answers bill (record { is = is; spelled = refl }))
bills_read_back bill (Err Memory) is answers = inr refl

pub read_is_written : ReadIsWritten
read_is_written bytes bill spells = (spells.is, sym spells.spelled)
