-- What a sink reported before a step and behind it, and what it gained of a text.
use Rattle.std.specs.Prelude.{◌≡◌, ℕ, List, Option}
use Rattle.tree_core.specs.Faults.{Rose, Gained, GainedPrefix}
use Rattle.tree_core.specs.texts.Cause.{Cause, no_memory, refused_write}

-- What `err` gained of what is printed of the load, before a summary: all of it, or a front where memory was wanting or
-- where `err` refused, whose counts are reported.
abbrev pub TextWritten : List ℕ → Option (List ℕ) → Option (List ℕ) → ℕ → ℕ → Cause → Type 0
TextWritten text old new before after no_memory = GainedPrefix old new text
TextWritten text old new before after (refused_write first last) =
    (first ≡ before) × (last ≡ after) × Rose before after × GainedPrefix old new text
TextWritten text old new before after _ = Gained old new text

-- what a sink reported before a step and behind it: what was written, and its count of faults
pub record SinkSeen : Type 0 where
  pub old : Option (List ℕ)
  pub new : Option (List ℕ)
  pub before : ℕ
  pub after : ℕ

abbrev pub sink_seen : Option (List ℕ) → Option (List ℕ) → ℕ → ℕ → SinkSeen
sink_seen old new before after = record { old = old; new = new; before = before; after = after }

-- the same from one state of a sink to another one, by what was written to it and its count of faults
abbrev pub sink_between : {A : Type 0} → (A → Option (List ℕ)) → (A → ℕ) → A → A → SinkSeen
sink_between {A} written count old new = sink_seen (written old) (written new) (count old) (count new)

-- nothing was written to it
abbrev pub IsSilent : SinkSeen → Type 0
IsSilent sink = sink.new ≡ sink.old

-- a prefix of a text was written, and then a write was refused; these are the sink's counts
pub record IsRefusedIn (sink : SinkSeen) (text : List ℕ) (first last : ℕ) : Type 0 where
  pub before : first ≡ sink.before
  pub after : last ≡ sink.after
  pub rose : Rose sink.before sink.after
  pub front : GainedPrefix sink.old sink.new text
