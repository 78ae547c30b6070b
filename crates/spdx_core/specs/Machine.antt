-- The reader of expressions, step by step. Only the contracts of its private calls cite it.
use Rattle.std.specs.Prelude.{Bool, true, false, List, [], ◌∷◌, ◌++◌, None, length}
use Rattle.deny_text.specs.declared.span.Span.{Span}
use Rattle.spdx_terms.specs.declared.term.ExpressionReq.{ExpressionReq}
use Rattle.spdx_terms.specs.declared.item.ItemKind.{ItemKind}
use Rattle.spdx_terms.specs.declared.item.ItemKind.TheVariants.{Term, Exception, And, Or, With, Open, Close, Plus, Word}
use Rattle.spdx_terms.specs.declared.item.ItemKind.TheVariants.{Other}
use Rattle.spdx_terms.specs.declared.item.Item.{Item}
use Rattle.spdx_core.specs.declared.node.ExprNode.{ExprNode}
use Rattle.spdx_core.specs.declared.node.ExprNode.TheVariants.{Term as term_node, And as and_node, Or as or_node}
use Rattle.spdx_core.specs.declared.reader.OpenOperators.{OpenOperators}
use Rattle.spdx_core.specs.declared.reader.Reader.{Reader}
use Rattle.spdx_core.specs.Grammar.{term}
use Rattle.spdx_core.specs.Reading.{with_exception}

pub record Machine : Type 0 where
  pub outer : List OpenOperators
  pub level : OpenOperators
  pub nodes : List ExprNode
  pub terms : List ExpressionReq

abbrev pub machine_of : Reader → Machine
machine_of reader =
    record { outer = reader.outer; level = reader.level; nodes = reader.nodes.items; terms = reader.terms.items }

abbrev pub nothing_waits : OpenOperators
nothing_waits = record { or = false; and = false }

abbrev pub no_machine : Machine
no_machine = record { outer = []; level = nothing_waits; nodes = []; terms = [] }

-- an operator that waits is written
abbrev pub nodes_with : Bool → ExprNode → List ExprNode → List ExprNode
nodes_with true node nodes = nodes ++ node ∷ []
nodes_with false node nodes = nodes

abbrev pub after_part : Machine → Machine
after_part m = record {
  outer = m.outer;
  level = record { or = m.level.or; and = true };
  nodes = nodes_with m.level.and and_node m.nodes;
  terms = m.terms;
}

abbrev pub after_or : Machine → Machine
after_or m = record {
  outer = m.outer;
  level = record { or = true; and = false };
  nodes = nodes_with m.level.or or_node m.nodes;
  terms = m.terms;
}

abbrev pub after_open : Machine → Machine
after_open m = record { outer = m.level ∷ m.outer; level = nothing_waits; nodes = m.nodes; terms = m.terms }

abbrev pub after_close : List OpenOperators → Machine → Machine
after_close [] m = m
after_close (last ∷ outer) m =
    after_part (record { outer = outer; level = last; nodes = nodes_with m.level.or or_node m.nodes; terms = m.terms })

abbrev pub machine_after : Machine → ItemKind → Span → Machine
machine_after m (Term named) span =
    after_part (record {
      outer = m.outer;
      level = m.level;
      nodes = m.nodes ++ term_node (length m.terms) ∷ [];
      terms = m.terms ++ term named.item None span.start span.end ∷ [];
    })
machine_after m (Exception name) span =
    record { outer = m.outer; level = m.level; nodes = m.nodes; terms = with_exception m.terms name span.end }
machine_after m And span = m
machine_after m Or span = after_or m
machine_after m With span = m
machine_after m Open span = after_open m
machine_after m Close span = after_close m.outer m
machine_after m Plus span = m
machine_after m Word span = m
machine_after m Other span = m

abbrev pub run : Machine → List Item → Machine
run m [] = m
run m (item ∷ items) = run (machine_after m item.what item.span) items
