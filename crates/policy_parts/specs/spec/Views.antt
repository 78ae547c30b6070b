-- What the pieces of a string stand for.
use Rattle.policy_parts.specs.spec.Grammar as grammar
use Rattle.policy_parts.specs.declared.spec.text.Split.{Split}

abbrev pub split_view : Split → grammar.Split
split_view split = record { name = split.name.now; rest = split.rest.now; exact = split.exact }
