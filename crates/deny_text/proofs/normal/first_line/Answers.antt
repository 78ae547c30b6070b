use Rattle.std.proofs.Common.{Some, None, lit<}
use Rattle.std.proofs.lemmas.Str.Pattern.{split_parts}
use Rattle.deny_text.specs.Normal.{line_feed}
use Rattle.deny_text.proofs.NormalLemmas.{normal_of-feed, normal_of-last}
use Rattle.deny_text.proofs.normal.first_line.Goals as goal

pub returns-in-Some-clause-lines : goal.returns-in-Some-clause-lines
returns-in-Some-clause-lines c =
    let parts = split_parts line_feed c.args.text.now (Some (c.in-Some.line, c.in-Some.rest)) c.in-Some.ensures.cases (lit< tt) in
    normal_of-feed c.args.text.now c.in-Some.line.now c.in-Some.rest.now parts.0 parts.1

pub returns-in-None-clause-lines : goal.returns-in-None-clause-lines
returns-in-None-clause-lines c = normal_of-last c.args.text.now c.requires (split_parts line_feed c.args.text.now None c.in-None.ensures.cases (lit< tt))
