-- What is printed of the sample: how many crates there are, and how many of each verdict.
use Rattle.std.specs.Prelude.{ℕ, Bool, true, false, List, ◌++◌, length, codes, count_by, decimal}
use Rattle.spdx_core.specs.declared.certificates.verdict.Verdict.{Verdict}
use Rattle.check_core.specs.declared.report.CrateReport.{CrateReport}
use Rattle.spdx_core.specs.declared.certificates.verdict.Verdict.TheVariants.{Skipped, Unlicensed, Accepted, Rejected}

abbrev pub is_accepted : Verdict → Bool
is_accepted Skipped = false
is_accepted Unlicensed = false
is_accepted (Accepted choice hits) = true
is_accepted (Rejected least blocks) = false

abbrev pub is_rejected : Verdict → Bool
is_rejected Skipped = false
is_rejected Unlicensed = false
is_rejected (Accepted choice hits) = false
is_rejected (Rejected least blocks) = true

abbrev pub is_unlicensed : Verdict → Bool
is_unlicensed Skipped = false
is_unlicensed Unlicensed = true
is_unlicensed (Accepted choice hits) = false
is_unlicensed (Rejected least blocks) = false

-- a word, a number and a line feed
abbrev pub count_line : List ℕ → ℕ → List ℕ
count_line word count = word ++ (decimal count ++ codes "\n")

-- four lines of some crates: how many there are, and how many have each verdict
abbrev pub sample_lines : List CrateReport → List ℕ
sample_lines crates =
    count_line (codes "crates ") (length crates)
    ++ (count_line (codes "accepted ") (count_by (λ krate. is_accepted krate.verdict) crates)
    ++ (count_line (codes "rejected ") (count_by (λ krate. is_rejected krate.verdict) crates)
    ++ count_line (codes "unlicensed ") (count_by (λ krate. is_unlicensed krate.verdict) crates)))
