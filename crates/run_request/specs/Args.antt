-- What the options of each subcommand ask for.
use Rattle.std.specs.Prelude.{ℕ, pos, ◌&&◌, List, Option, None, Some, is_some, Result, Ok, Err, unwrap_or, codes}
use Rattle.std.specs.Prelude.{if◌then◌else◌}
use Rattle.clap.specs.Words.{Row, first_of}
use Rattle.run_request.specs.declared.error.ArgsError.{ArgsError}
use Rattle.run_request.specs.declared.error.ArgsError.TheVariants.{DepthWithHide}
use Rattle.run_request.specs.declared.level.LintLevels.{LintLevels}
use Rattle.run_request.specs.declared.level.WhichCheck.{WhichCheck}
use Rattle.run_request.specs.declared.check.CheckArgs.{CheckArgs}
use Rattle.run_request.specs.declared.list.ListArgs.{ListArgs}
use Rattle.run_request.specs.declared.number.Threshold.{Threshold}
use Rattle.run_request.specs.declared.output.OutputFormat.TheVariants.{Human}
use Rattle.run_request.specs.declared.output.Layout.TheVariants.{License}
use Rattle.run_request.specs.Named.{named_in}
use Rattle.run_request.specs.Names.{which_names, output_names, layout_names, code_or_level_named}
use Rattle.run_request.specs.Number.{number_of, threshold_read}
use Rattle.run_request.specs.Reading.{and_then, first_read, all_read, is_set}

-- the codes and levels of each kind, in the order of their words
abbrev pub lint_levels_of : List Row → Result LintLevels ArgsError
lint_levels_of rows =
    and_then (λ warn. and_then (λ allow. and_then (λ deny. Ok (record { warn = warn; allow = allow; deny = deny }))
    (all_read code_or_level_named (codes "deny") rows))
    (all_read code_or_level_named (codes "allow") rows))
    (all_read code_or_level_named (codes "warn") rows)

-- the request, where a depth is not beside graphs that are hidden
abbrev pub check_args_with : List Row → LintLevels → Option ℕ → List WhichCheck → Result CheckArgs ArgsError
check_args_with rows levels depth which =
    if is_some depth && is_set (codes "hide-inclusion-graph") rows then Err DepthWithHide
    else Ok (record {
      graph = first_of (codes "graph") rows;
      hide_inclusion_graph = is_set (codes "hide-inclusion-graph") rows;
      audit_compatible_output = is_set (codes "audit-compatible-output") rows;
      show_stats = is_set (codes "show-stats") rows;
      lint_levels = levels;
      feature_depth = depth;
      which = which;
    })

-- what the options of `check` ask for; the first refusal in the order of the options
abbrev pub check_args_of : List Row → Result CheckArgs ArgsError
check_args_of rows =
    and_then (λ levels. and_then (λ depth. and_then (λ which. check_args_with rows levels depth which)
    (all_read (named_in which_names) (codes "WHICH") rows))
    (first_read number_of (codes "feature-depth") rows))
    (lint_levels_of rows)

-- eight tenths, where no threshold is given
abbrev pub hundredths_in : Option Threshold → ℕ
hundredths_in None = 80
hundredths_in (Some threshold) = threshold.0

-- what the options of `list` ask for
abbrev pub list_args_of : List Row → Result ListArgs ArgsError
list_args_of rows =
    and_then (λ threshold. and_then (λ format. and_then (λ layout. Ok (record {
      threshold = pos (hundredths_in threshold);
      format = unwrap_or format Human;
      layout = unwrap_or layout License;
    }))
    (first_read (named_in layout_names) (codes "layout") rows))
    (first_read (named_in output_names) (codes "format") rows))
    (first_read threshold_read (codes "threshold") rows)
