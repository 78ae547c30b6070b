-- What the options of `bill` ask for.
use Rattle.std.specs.Prelude.{List, [], Option, None, Some, Result, Ok, Err, codes, if◌then◌else◌}
use Rattle.clap.specs.Words.{Text, Row, first_of}
use Rattle.check_bill.specs.declared.forms.TextForm.{TextForm}
use Rattle.check_bill.specs.declared.forms.TextForm.TheVariants.{Word, Moment}
use Rattle.check_bill.specs.Bills.{is_of}
use Rattle.run_request.specs.declared.bill.BillArgs.{BillArgs}
use Rattle.run_request.specs.declared.error.ArgsError.{ArgsError}
use Rattle.run_request.specs.declared.error.ArgsError.TheVariants.{BadValue}
use Rattle.run_request.specs.Reading.{and_then}

-- a word of a form, or the refusal that tells the option and the word
abbrev pub of_form : TextForm → Text → Text → Result Text ArgsError
of_form form option word = if is_of form word then Ok word else Err (BadValue option word)

-- the same of the word of an option, which is required
abbrev pub formed_word : TextForm → Text → Option Text → Result Text ArgsError
formed_word form option None = Err (BadValue option [])
formed_word form option (Some word) = of_form form option word

abbrev pub formed : TextForm → Text → List Row → Result Text ArgsError
formed form option rows = formed_word form option (first_of option rows)

-- what the options of `bill` ask for, beside the bill that is compared with; the first refusal in the order of the
-- options
abbrev pub bill_args_of : List Row → Option Text → Result BillArgs ArgsError
bill_args_of rows against =
    and_then (λ name. and_then (λ namespace. and_then (λ created. Ok (record {
      name = name;
      namespace = namespace;
      created = created;
      against = against;
    }))
    (formed Moment (codes "created") rows))
    (formed Word (codes "namespace") rows))
    (formed Word (codes "name") rows)
