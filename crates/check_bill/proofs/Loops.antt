-- One turn of the loop over packages, and its end.
use Rattle.std.proofs.Common.{◌≡◌, ◌∙◌, refl, sym, ℕ, zero, suc, ◌+◌, ◌<◌, ◌≤◌, Bool, true, false, true≢false, List, [], ◌∷◌, ◌++◌, length, Option, Some, None, arith}
use Rattle.check_bill.specs.declared.bill.BillPackage.{BillPackage}
use Rattle.check_bill.specs.declared.error.BillError.{BillError}
use Rattle.check_bill.specs.declared.error.BillError.TheVariants.{Syntax, Memory}
use Rattle.check_bill.specs.Reading.{Misses, Read, has_more, package_at, packages_on}
use Rattle.check_bill.proofs.Packages.{package_shortens}

packages_end : (most : ℕ) (packages : List BillPackage) (bytes : List ℕ) → has_more bytes ≡ false → packages_on most packages bytes ≡ Some packages
unfolding packages_on
packages_end zero packages bytes other = rw other refl
packages_end (suc most) packages bytes other = rw other refl

packages_step : (most : ℕ) (packages : List BillPackage) (bytes : List ℕ) (krate : BillPackage) (after : List ℕ) → has_more bytes ≡ true → package_at (length packages + 1) bytes ≡ Some (krate, after)
    → packages_on (suc most) packages bytes ≡ packages_on most (packages ++ krate ∷ []) after
unfolding packages_on
packages_step most packages bytes krate after first e = rw (first, e) refl

packages_missing : (most : ℕ) (packages : List BillPackage) (bytes : List ℕ) → has_more bytes ≡ true → package_at (length packages + 1) bytes ≡ None → packages_on most packages bytes ≡ None
unfolding packages_on
packages_missing zero packages bytes first e = rw first refl
packages_missing (suc most) packages bytes first e = rw (first, e) refl

pub package_smaller : (number : ℕ) (bytes : List ℕ) (krate : BillPackage) (after : List ℕ) → package_at number bytes ≡ Some (krate, after) → length after < length bytes
package_smaller number bytes krate after e = package_shortens number bytes krate after e

-- what is read does not depend on the count, where that is not less than the bytes
packages_same : (m n : ℕ) (packages : List BillPackage) (bytes : List ℕ) (b : Bool) (read : Read BillPackage) → has_more bytes ≡ b → package_at (length packages + 1) bytes ≡ read → length bytes ≤ m → length bytes ≤ n
    → packages_on m packages bytes ≡ packages_on n packages bytes
packages_same m n packages bytes false read first e low high = packages_end m packages bytes first ∙ sym (packages_end n packages bytes first)
packages_same m n packages bytes true None first e low high = packages_missing m packages bytes first e ∙ sym (packages_missing n packages bytes first e)
packages_same zero n packages bytes true (Some next) first e low high = let less = package_smaller (length packages + 1) bytes next.0 next.1 e in absurd (omega arith)
packages_same (suc m) zero packages bytes true (Some next) first e low high = let less = package_smaller (length packages + 1) bytes next.0 next.1 e in absurd (omega arith)
packages_same (suc m) (suc n) packages bytes true (Some next) first e low high =
    let less = package_smaller (length packages + 1) bytes next.0 next.1 e in
    packages_step m packages bytes next.0 next.1 first e
    ∙ packages_same m n (packages ++ next.0 ∷ []) next.1 (has_more next.1) (package_at (length (packages ++ next.0 ∷ []) + 1) next.1) refl refl (omega arith) (omega arith)
    ∙ sym (packages_step n packages bytes next.0 next.1 first e)

pub packages_more : (packages : List BillPackage) (bytes : List ℕ) (krate : BillPackage) (after : List ℕ) → has_more bytes ≡ true → package_at (length packages + 1) bytes ≡ Some (krate, after)
    → packages_on (length after) (packages ++ krate ∷ []) after ≡ packages_on (length bytes) packages bytes
packages_more packages [] krate after first e = absurd (true≢false (sym first))
packages_more packages (byte ∷ bytes) krate after first e =
    let less = package_smaller (length packages + 1) (byte ∷ bytes) krate after e in
    packages_same (length after) (length bytes) (packages ++ krate ∷ []) after (has_more after) (package_at (length (packages ++ krate ∷ []) + 1) after) refl refl (omega arith) (omega arith)
    ∙ sym (packages_step (length bytes) packages (byte ∷ bytes) krate after first e)

pub packages_last : (packages : List BillPackage) (bytes : List ℕ) → has_more bytes ≡ false → packages_on (length bytes) packages bytes ≡ Some packages
packages_last packages bytes other = packages_end (length bytes) packages bytes other

pub packages_fail : (error : BillError) (packages : List BillPackage) (bytes : List ℕ) (all : Option (List BillPackage)) → has_more bytes ≡ true → Misses error (package_at (length packages + 1) bytes)
    → packages_on (length bytes) packages bytes ≡ all → Misses error all
packages_fail Syntax packages bytes all first e same = sym same ∙ packages_missing (length bytes) packages bytes first e
packages_fail Memory packages bytes all first e same = tt
