-- What the identifier of names says of a text.
use Rattle.std.specs.Prelude.{ℕ, ◌≤◌, Bool, true, false, cond, List, codes, Option, Some, None, bytes_eq, if◌then◌else◌}
use Rattle.std.proofs.Common.{lit≤}
use Rattle.spdx_terms.specs.declared.catalog.identifier.Match.{Match}

-- the licence that a text is said to be, of these texts
abbrev pub name_in : List ℕ → Option (List ℕ)
name_in text =
    if bytes_eq text (codes "MIT\n") then Some (codes "MIT")
    else if bytes_eq text (codes "MIT at 79\n") then Some (codes "MIT")
    else if bytes_eq text (codes "MIT at 49\n") then Some (codes "MIT")
    else if bytes_eq text (codes "ISC\n") then Some (codes "ISC")
    else if bytes_eq text (codes "Pixar\n") then Some (codes "Pixar")
    else if bytes_eq text (codes "Apache 2.0 License\n") then Some (codes "Pixar")
    else if bytes_eq text (codes "\n\nModified Apache 2.0 License\n") then Some (codes "Pixar")
    else if bytes_eq text (codes "GPL-2.0\n") then Some (codes "GPL-2.0")
    else if bytes_eq text (codes "Nobody\n") then Some (codes "Nobody")
    else None

-- how surely
abbrev pub score_in : List ℕ → ℕ
score_in text =
    if bytes_eq text (codes "MIT at 79\n") then 79
    else if bytes_eq text (codes "MIT at 49\n") then 49
    else if bytes_eq text (codes "Apache 2.0 License\n") then 90
    else if bytes_eq text (codes "\n\nModified Apache 2.0 License\n") then 90
    else 80

abbrev pub match_with : List ℕ → Option (List ℕ) → Match
match_with text None = record { name = None; score = 0 }
match_with text (Some name) = record { name = Some name; score = score_in text }

either_within : (test : Bool) (one other : ℕ) → one ≤ 100 → other ≤ 100 → cond test one other ≤ 100
either_within true one other first second = first
either_within false one other first second = second

score_within : (text : List ℕ) → score_in text ≤ 100
score_within text =
    either_within (bytes_eq text (codes "MIT at 79\n")) 79 _ (lit≤ tt)
    (either_within (bytes_eq text (codes "MIT at 49\n")) 49 _ (lit≤ tt)
    (either_within (bytes_eq text (codes "Apache 2.0 License\n")) 90 _ (lit≤ tt)
    (either_within (bytes_eq text (codes "\n\nModified Apache 2.0 License\n")) 90 80 (lit≤ tt) (lit≤ tt))))

pub is_within : (text : List ℕ) (name : Option (List ℕ)) → (match_with text name).score ≤ 100
is_within text None = lit≤ tt
is_within text (Some name) = score_within text
