-- What a tree and two sinks reported before a run and behind it.
use Rattle.std.specs.Prelude.{◌≡◌, ◌≤◌, ℕ, List, Option, Result, Ok, Err}
use Rattle.tree_core.specs.Faults.{Rose}
use Rattle.tree_core.specs.Script.{LineWritten}
use Rattle.run_found.specs.Error.{fault_line}
use Rattle.run_found.specs.declared.error.Error.{Error}
use Rattle.run_found.specs.Hearing.{HasMade, TreeSeen}
use Rattle.run_found.specs.Written.{IsSilent, SinkSeen, sink_seen}

pub record RunSeen : Type 0 where
  pub tree : TreeSeen
  pub out : SinkSeen
  pub err : SinkSeen

abbrev pub run_seen : TreeSeen → SinkSeen → SinkSeen → RunSeen
run_seen tree out err = record { tree = tree; out = out; err = err }

-- no count rose
pub record IsWithoutFault (seen : RunSeen) : Type 0 where
  pub tree : Rose seen.tree.count_before seen.tree.count_after → ⊥
  pub out : Rose seen.out.before seen.out.after → ⊥
  pub err : Rose seen.err.before seen.err.after → ⊥

-- calls were made on the tree, and nothing else came of it, and no count of a sink fell
pub record IsLater (seen : RunSeen) : Type 0 where
  pub made : HasMade seen.tree
  pub out : seen.out.before ≤ seen.out.after
  pub err : seen.err.before ≤ seen.err.after

-- ---- a line on `err`

-- it was written, or a prefix of it where the sink's count rose
abbrev pub HasLine : SinkSeen → List ℕ → Type 0
HasLine sink line = LineWritten sink.old sink.new sink.before sink.after line

-- the sink up to a moment, at which so much was written to it and it had this count, and from there on
abbrev pub sink_to : SinkSeen → Option (List ℕ) → ℕ → SinkSeen
sink_to sink written count = sink_seen sink.old written sink.before count

abbrev pub sink_from : SinkSeen → Option (List ℕ) → ℕ → SinkSeen
sink_from sink written count = sink_seen written sink.new count sink.after

-- nothing was written to it, and nothing refused
pub record IsStill (sink : SinkSeen) : Type 0 where
  pub silent : IsSilent sink
  pub count : sink.after ≡ sink.before

-- behind a refusal there is its line, and behind anything else nothing
abbrev pub EndsLine : {X : Type 0} → Result X Error → SinkSeen → Type 0
EndsLine {X} (Ok value) sink = IsStill sink
EndsLine {X} (Err error) sink = HasLine sink (fault_line error)
