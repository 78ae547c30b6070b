-- A tree of which nothing came.
use Rattle.std.proofs.Common.{ℕ, List, [], ◌∙◌, Option, append-nil, sym}
use Rattle.std.proofs.lemmas.List.Elements.{All-nil}
use Rattle.tree_core.specs.Call.{Call}
use Rattle.tree_core.specs.Content.{Content}
use Rattle.tree_core.specs.Hearing.{MadeSome}
use Rattle.tree_core.specs.Trace.{Says}
use Rattle.run_found.specs.Hearing.{tree_seen}
use Rattle.deny_gate.specs.Start.{IsKept}

-- no call was made on it
pub kept_made : (told tells : Option Content) (before after : ℕ) (old new : List Call) → IsKept (tree_seen told tells before after old new) → MadeSome told tells before after old new
kept_made told tells before after old new kept = record {
  calls = [];
  made = record {
    content = kept.0;
    counts = kept.1;
    traced = kept.2 ∙ sym (append-nil old);
    says = λ content is. All-nil (Says content);
  };
}
