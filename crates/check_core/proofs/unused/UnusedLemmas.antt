-- The items that are no hit, one after another.
use Rattle.std.proofs.Common.{◌≡◌, ◌∙◌, refl, sym, ap, ℕ, suc, ◌+◌, ◌<◌, Bool, true, false, cond, List, [], ◌∷◌, ◌++◌, length, map, None, append-nil, arith}
use Rattle.std.specs.Option.{option_map_or}
use Rattle.std.proofs.lemmas.List.{map-id}
use Rattle.spdx_core.specs.declared.certificates.verdict.Hit.{Hit}
use Rattle.diag_core.specs.declared.pack.Check.TheVariants.{Licenses}
use Rattle.diag_core.specs.declared.pack.Diag.{Diag}
use Rattle.diag_core.specs.Pack.{PackOf, with_crate}
use Rattle.policy_parts.specs.declared.entries.licensee.Licensee.{Licensee}
use Rattle.policy_core.specs.declared.valid.policy.ValidConfig.{ValidConfig}
use Rattle.policy_core.specs.declared.valid.policy.ValidException.{ValidException}
use Rattle.check_core.specs.unused.Flags.{flag_at, flags_by, flags_of, unused_pack, with_more}
use Rattle.check_core.specs.unused.Unused.{exception_findings, is_exception_hit, is_license_hit, last_pack, own_findings, license_findings, severity_asked, items_without_hit, unused_license}
use Rattle.check_core.proofs.unused.FlagLemmas.{flag_is}

-- ---- packs that gain findings

pub nothing_more : (pack : PackOf) → with_more pack [] ≡ pack
nothing_more pack = ap (λ (findings : List Diag). record { check = pack.check; kid = pack.kid; findings = findings }) (append-nil pack.findings)

-- ---- all items, by flags that say what is a hit

same_unhit : {A : Type 0} (f g : ℕ → Bool) (place n : ℕ) (items : List A) → place + length items ≡ n → ((k : ℕ) → k < n → f k ≡ g k) → items_without_hit f place items ≡ items_without_hit g place items
same_unhit f g place n [] long same = refl
same_unhit {A} f g place n (item ∷ items) long same =
    let here : place < n = omega arith in
    let rest : suc place + length items ≡ n = omega arith in
    ap (λ (b : Bool). cond b [] (item ∷ []) ++ items_without_hit f (suc place) items) (same place here)
    ∙ ap (λ (l : List A). cond (g place) [] (item ∷ []) ++ l) (same_unhit f g (suc place) n items rest same)

unhit_is : {A : Type 0} (test : ℕ → Bool) (items : List A) → items_without_hit (flag_at (flags_of (length items) test)) 0 items ≡ items_without_hit test 0 items
unhit_is test items =
    same_unhit (flag_at (flags_of (length items) test)) test 0 (length items) items (omega arith) (λ k below. flag_is (length items) test k below)

about_none : (findings : List Diag) → map (with_crate None) findings ≡ findings
about_none findings = map-id findings

pub pack_is : (policy : ValidConfig) (hits : List Hit) → unused_pack policy (flags_by policy hits) ≡ last_pack policy hits
pack_is policy hits =
    ap (λ (findings : List Diag). record { check = Licenses; kid = None; findings = findings })
    (ap (λ (l : List Licensee). option_map_or (λ severity. map (unused_license severity policy.file_id) l) (severity_asked policy.unused_allowed_license) []
    ++ exception_findings policy (flag_at (flags_of (length policy.exceptions) (is_exception_hit hits)))) (unhit_is (is_license_hit hits) policy.allowed)
    ∙ ap (λ (l : List ValidException). license_findings policy (is_license_hit hits)
    ++ option_map_or (λ severity. own_findings severity policy.file_id l) (severity_asked policy.unused_license_exception) [])
    (unhit_is (is_exception_hit hits) policy.exceptions))

-- ---- steps

-- of one that is a hit nothing is reported, of another its finding
pub unless_hit : {A : Type 0} (pack new : PackOf) (tell : List A → List Diag) (item : A) (is_hit : Bool) → is_hit ≡ false → new ≡ with_more pack (tell (item ∷ []))
    → new ≡ with_more pack (tell (cond is_hit [] (item ∷ [])))
unless_hit pack new tell item is_hit free is = is ∙ sym (ap (λ (b : Bool). with_more pack (tell (cond b [] (item ∷ [])))) free)

pub if_hit : {A : Type 0} (pack : PackOf) (tell : List A → List Diag) (item : A) (is_hit : Bool) → is_hit ≡ true → tell [] ≡ [] → pack ≡ with_more pack (tell (cond is_hit [] (item ∷ [])))
if_hit pack tell item is_hit hit none =
    sym (nothing_more pack) ∙ ap (with_more pack) (sym none) ∙ sym (ap (λ (b : Bool). with_more pack (tell (cond b [] (item ∷ [])))) hit)

-- one finding is pushed
pub pushed : (pack new : PackOf) (told meant : Diag) → new ≡ record { check = pack.check; kid = pack.kid; findings = pack.findings ++ with_crate pack.kid told ∷ [] } → told ≡ meant → new ≡ with_more pack (meant ∷ [])
pushed pack new told meant push is =
    push ∙ ap (λ (one : Diag). record { check = pack.check; kid = pack.kid; findings = pack.findings ++ with_crate pack.kid one ∷ [] }) is

-- both after one another, about no crate
pub both_told : (pack first second : PackOf) (some more : List Diag) → pack ≡ record { check = Licenses; kid = None; findings = [] } → first ≡ with_more pack some → second ≡ with_more first more
    → second ≡ record { check = Licenses; kid = None; findings = some ++ more }
both_told pack first second some more empty one two =
    two ∙ ap (λ (p : PackOf). with_more p more) (one ∙ ap (λ (p : PackOf). with_more p some) empty)
    ∙ ap (λ (l : List Diag). record { check = Licenses; kid = None; findings = l ++ map (with_crate None) more }) (about_none some)
    ∙ ap (λ (l : List Diag). record { check = Licenses; kid = None; findings = some ++ l }) (about_none more)
