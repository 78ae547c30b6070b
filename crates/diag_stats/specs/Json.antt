-- The summary for a program: one JSON object (RFC 8259), compact, its keys sorted.
use Rattle.std.specs.Prelude.{ℕ, List, [], ◌∷◌, ◌++◌, codes}
use Rattle.json.specs.Token.{Token, key}
use Rattle.serde_json.specs.Data.{Data, number, unsigned, string, object, Members, member, no_members}
use Rattle.serde_json.specs.Written.{compact_text}
use Rattle.diag_print.specs.JsonTokens.{data_tokens}
use Rattle.diag_stats.specs.declared.checks.CheckStats.{CheckStats}
use Rattle.diag_stats.specs.declared.stats.Stats.{Stats}
use Rattle.diag_stats.specs.Checks.{check_word}

-- the numbers of findings
abbrev pub stats_data : Stats → Data
stats_data stats =
    object (member (codes "errors") (number (unsigned stats.errors))
    (member (codes "helps") (number (unsigned stats.helps))
    (member (codes "notes") (number (unsigned stats.notes))
    (member (codes "warnings") (number (unsigned stats.warnings)) no_members))))

-- a member for each check
abbrev pub checks_members : List CheckStats → Members
checks_members [] = no_members
checks_members (one ∷ checks) = member (check_word one.check) (stats_data one.stats) (checks_members checks)

abbrev pub checks_data : List CheckStats → Data
checks_data checks = object (checks_members checks)

-- the whole object
abbrev pub summary_data : List CheckStats → Data
summary_data checks =
    object (member (codes "fields") (checks_data checks)
    (member (codes "type") (string (codes "summary")) no_members))

-- its text, and a line feed
abbrev pub json_text : List CheckStats → List ℕ
json_text checks = compact_text (summary_data checks) ++ codes "\n"

-- what is written of one member
abbrev pub check_tokens : CheckStats → List Token
check_tokens one = key (check_word one.check) ∷ data_tokens (stats_data one.stats)
