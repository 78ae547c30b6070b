-- Which calls were made on a tree.
use Rattle.std.specs.Prelude.{◌≡◌, ℕ, List, ◌++◌, Option}
use Rattle.std.specs.List.{All}
use Rattle.std.specs.Option.{ForSome}
use Rattle.tree_core.specs.Call.{Call}
use Rattle.tree_core.specs.Content.{Content}
use Rattle.tree_core.specs.Trace.{Says, faults_after}

-- These calls, and no other, were made on a tree: they are at the end of its trace; its count of faults rose by those
-- that failed; what it tells of its content is as before; and where it tells it, each call says what is so.
pub record Made (told tells : Option Content) (before after : ℕ) (old new calls : List Call) : Type 0 where
  pub content : tells ≡ told
  pub counts : after ≡ faults_after before calls
  pub traced : new ≡ old ++ calls
  pub says : ForSome told (λ content. All (Says content) calls)

-- some calls were made on a tree, whichever they were
pub record MadeSome (told tells : Option Content) (before after : ℕ) (old new : List Call) : Type 0 where
  pub calls : List Call
  pub made : Made told tells before after old new calls
