-- What is printed behind a run.
use Rattle.std.specs.Prelude.{ℕ, ◌-◌, ◌^◌, ◌==◌, ◌&&◌, nat_lt, Bool, true, false, Option, Some, None}
use Rattle.run_request.specs.declared.request.Request.{Request}
use Rattle.deny_run.specs.declared.outcome.RunEnd.{RunEnd}
use Rattle.deny_run.specs.declared.outcome.RunEnd.TheVariants.{Refused}
use Rattle.refusal_help.specs.Told.{IsStill, TellsHelp, ToldBetween}

-- Standard error refused nothing that the run wrote to it: the count of its faults is as it was, and is not the last
-- number, at which it stops.
abbrev pub is_whole : ℕ → ℕ → Bool
is_whole before after = (before == after) && nat_lt after (2 ^ 64 - 1)

-- behind a refusal its help is printed, and behind no other end anything
abbrev pub TellsEnd : Request → ToldBetween → RunEnd → Type 0
TellsEnd request told (Refused error) = TellsHelp request error told
TellsEnd request told _ = IsStill told

abbrev pub TellsRequest : Option Request → ToldBetween → RunEnd → Type 0
TellsRequest (Some request) told ended = TellsEnd request told ended
TellsRequest None told ended = IsStill told

-- where the run's own text was cut nothing more is reported
abbrev pub TellsBehind : Bool → Option Request → ToldBetween → RunEnd → Type 0
TellsBehind true request told ended = TellsRequest request told ended
TellsBehind false request told ended = IsStill told
