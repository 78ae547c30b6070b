-- Rows of policies and crates, with the judgement, the hits and what is reported, worked out by hand from the rules.
use Rattle.std.specs.Prelude.{ℕ, Bool, true, false, List, [], ◌∷◌, map, codes, Option, Some, None}
use Rattle.spdx_terms.specs.declared.term.ExpressionReq.{ExpressionReq}
use Rattle.spdx_terms.specs.declared.term.LicenseReq.{LicenseReq}
use Rattle.spdx_core.specs.Grammar.{leaf, both, either}
use Rattle.spdx_core.specs.Reading.{ExpressionView}
use Rattle.spdx_core.specs.declared.certificates.verdict.Hit.{Hit}
use Rattle.spdx_core.specs.declared.certificates.verdict.Hit.TheVariants.{Allowed, Exception}
use Rattle.diag_core.specs.declared.licenses.Code.TheVariants.{GatherFailure}
use Rattle.diag_core.specs.declared.pack.Diag.{Diag}
use Rattle.diag_core.specs.declared.severity.Severity.TheVariants.{Warning}
use Rattle.gather_core.specs.declared.findings.license.LicenseExprSource.TheVariants.{UserOverride}
use Rattle.gather_core.specs.declared.findings.license.LicenseInfo.{LicenseInfo}
use Rattle.gather_core.specs.declared.findings.license.LicenseInfo.TheVariants.{SpdxExpression, Unlicensed}
use Rattle.policy_core.specs.valid.Policy.{Grant, Policy}
use Rattle.policy_core.specs.valid.Rows.{crate_a, grant, isc, mit, policy, zlib}
use Rattle.check_core.specs.findings.Findings.{finding}
use Rattle.check_core.specs.Turns.{GatheredCrate, expression_of, findings_by, hits_by}
use Rattle.check_core.specs.Verdicts.{Judgement, skipped, unlicensed, accepted, rejected, verdict_of}

-- ---- terms

abbrev term : LicenseReq → ℕ → ℕ → ExpressionReq
term req start end = record { req = req; span = record { start = start; end = end } }

abbrev clarified_license : ExpressionView → LicenseInfo
clarified_license expression =
    SpdxExpression expression (record { file_id = 0; offset = 50; whole = None; source = UserOverride })

abbrev one_term : LicenseInfo
one_term = clarified_license (record { text = codes "MIT"; terms = term mit 0 3 ∷ []; tree = leaf 0 })

abbrev either_term : LicenseInfo
either_term = clarified_license
    (record { text = codes "MIT OR Zlib"; terms = term mit 0 3 ∷ term zlib 7 11 ∷ []; tree = either (leaf 0) (leaf 1) })

abbrev both_terms : LicenseInfo
both_terms = clarified_license
    (record { text = codes "MIT AND ISC"; terms = term mit 0 3 ∷ term isc 8 11 ∷ []; tree = both (leaf 0) (leaf 1) })

-- ---- the crate `a`

-- a finding by its code and its notes
pub record CodeAndNotes : Type 0 where
  pub code : Option (List ℕ)
  pub notes : List (List ℕ)

abbrev seen_of : Diag → CodeAndNotes
seen_of finding = record { code = finding.diag.code; notes = finding.diag.notes }

abbrev code_and_notes : List ℕ → List (List ℕ) → CodeAndNotes
code_and_notes code notes = record { code = Some code; notes = notes }

pub record CheckRow : Type 0 where
  pub skips : Bool
  pub policy : Policy
  pub counted : List ℕ
  pub info : LicenseInfo
  pub judgement : Judgement
  pub hits : List Hit
  pub findings : List CodeAndNotes

-- with a finding and a note that were gathered
abbrev gathered_crate : List ℕ → LicenseInfo → GatheredCrate
gathered_crate counted info = record {
  krate = crate_a;
  exceptions = counted;
  info = info;
  gathered = finding Warning GatherFailure [] [] [] ∷ [];
  notes = codes "a note" ∷ [];
}

-- what the definitions make of a row
abbrev pub judged_row : CheckRow → CheckRow
judged_row row = record {
  skips = row.skips;
  policy = row.policy;
  counted = row.counted;
  info = row.info;
  judgement = verdict_of row.skips row.policy row.counted (expression_of row.info);
  hits = hits_by row.skips row.policy (gathered_crate row.counted row.info);
  findings = map seen_of (findings_by row.skips row.policy (gathered_crate row.counted row.info));
}

-- of a crate that is not passed over, by the exceptions at some places
abbrev row_by : List ℕ → List LicenseReq → List Grant → LicenseInfo → Judgement → List ℕ → List Hit → CheckRow
row_by counted licensees grants info judgement code hits = record {
  skips = false;
  policy = policy licensees grants;
  counted = counted;
  info = info;
  judgement = judgement;
  hits = hits;
  findings = code_and_notes (codes "gather-failure") [] ∷ code_and_notes code (codes "a note" ∷ []) ∷ [];
}

-- of one for which no exception counts
abbrev row : List LicenseReq → List Grant → LicenseInfo → Judgement → List ℕ → List Hit → CheckRow
row licensees grants info judgement code hits = row_by [] licensees grants info judgement code hits

-- of one that is passed over
abbrev accepted_row : LicenseInfo → CheckRow
accepted_row info = record {
  skips = true;
  policy = policy (mit ∷ []) [];
  counted = [];
  info = info;
  judgement = skipped;
  hits = [];
  findings = code_and_notes (codes "skipped-private-workspace-crate") [] ∷ [];
}

abbrev pub rows : List CheckRow
rows =
    row (mit ∷ []) [] one_term accepted (codes "accepted") (Allowed 0 ∷ [])
    -- a term that the choice passes by counts as a hit
    ∷ row (mit ∷ zlib ∷ []) [] either_term accepted (codes "accepted") (Allowed 0 ∷ Allowed 1 ∷ [])
    ∷ row (zlib ∷ []) [] either_term accepted (codes "accepted") (Allowed 0 ∷ [])
    -- and so does a term of a crate that is rejected
    ∷ row (mit ∷ []) [] both_terms rejected (codes "rejected") (Allowed 0 ∷ [])
    ∷ row [] [] one_term rejected (codes "rejected") []
    -- of two equal entries the second is no hit
    ∷ row (mit ∷ mit ∷ []) [] one_term accepted (codes "accepted") (Allowed 0 ∷ [])
    -- the exceptions that count are asked, each of them and no other, before what is allowed
    ∷ row_by (0 ∷ []) [] (grant (codes "a") (isc ∷ []) ∷ grant (codes "a") (mit ∷ []) ∷ []) one_term rejected
    (codes "rejected") []
    ∷ row_by (0 ∷ 1 ∷ []) [] (grant (codes "a") (isc ∷ []) ∷ grant (codes "a") (mit ∷ []) ∷ []) one_term accepted
    (codes "accepted") (Exception 1 0 ∷ [])
    ∷ row_by (1 ∷ []) (mit ∷ []) (grant (codes "b") (mit ∷ []) ∷ grant (codes "a") (isc ∷ mit ∷ []) ∷ []) one_term
    accepted (codes "accepted") (Exception 1 1 ∷ [])
    -- each term by its own exception, and a crate that is rejected since one of two does not count
    ∷ row_by (0 ∷ 1 ∷ []) [] (grant (codes "a") (isc ∷ []) ∷ grant (codes "a") (mit ∷ []) ∷ []) both_terms accepted
    (codes "accepted") (Exception 1 0 ∷ Exception 0 0 ∷ [])
    ∷ row_by (0 ∷ []) [] (grant (codes "a") (isc ∷ []) ∷ grant (codes "a") (mit ∷ []) ∷ []) both_terms rejected
    (codes "rejected") (Exception 0 0 ∷ [])
    -- without an expression
    ∷ row (mit ∷ []) [] Unlicensed unlicensed (codes "unlicensed") []
    -- passed over, also without an expression
    ∷ accepted_row one_term
    ∷ accepted_row Unlicensed
    ∷ []
