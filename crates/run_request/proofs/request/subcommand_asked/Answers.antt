use Rattle.std.specs.Box.{box_value}
use Rattle.clap.specs.Words.{found_of, rows_of}
use Rattle.clap.specs.declared.parser.matches.ArgMatches.TheViews.{out-ArgMatches, out-SubCommand}
use Rattle.run_request.proofs.NamedLemmas.{asked_named}
use Rattle.run_request.proofs.request.subcommand_asked.Goals as goal

pub returns-in-Some : goal.returns-in-Some
returns-in-Some c =
    asked_named (λ entered. (out-SubCommand (box_value entered)).name.now) (λ entered. rows_of (found_of (out-SubCommand (box_value entered)).matches))
    (out-ArgMatches c.args.matches.now).subcommand c.in-Some.name.now (rows_of (found_of c.in-Some.below.now)) c.args.cwd.now c.subcommand_named.result
    c.in-Some.ensures.name c.in-Some.ensures.rows c.subcommand_named.ensures
