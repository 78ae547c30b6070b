-- Packages and lists of packages that are the same.
use Rattle.std.proofs.Common.{◌≡◌, ◌∙◌, ◌↔◌, ap, List, ◌∷◌}
use Rattle.check_bill.specs.declared.bill.BillPackage.{BillPackage}

-- packages are the same where their parts are
pub same_package : (one other : BillPackage) → one.name ≡ other.name → one.version ≡ other.version → one.concluded ≡ other.concluded → one.declared ≡ other.declared → one ≡ other
same_package one other name version concluded declared =
    ap (λ n. let p : BillPackage = record { name = n; version = one.version; concluded = one.concluded; declared = one.declared } in p) name
    ∙ ap (λ v. let p : BillPackage = record { name = other.name; version = v; concluded = one.concluded; declared = one.declared } in p) version
    ∙ ap (λ c. let p : BillPackage = record { name = other.name; version = other.version; concluded = c; declared = one.declared } in p) concluded
    ∙ ap (λ d. let p : BillPackage = record { name = other.name; version = other.version; concluded = other.concluded; declared = d } in p) declared

-- behind a same first package lists are the same exactly where the rest is
pub same_behind : (one other : BillPackage) (some others : List BillPackage) → one ≡ other → (some ≡ others) ↔ ((one ∷ some) ≡ (other ∷ others))
same_behind one other some others is = (λ e. cc, λ e. cc)
