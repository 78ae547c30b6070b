use Rattle.std.proofs.Common.{◌≡◌, ◌∙◌, sym, ap, Some, None}
use Rattle.std.specs.Option.{option_copied}
use Rattle.std.specs.Path.{path_components, components_remaining}
use Rattle.deny_text.specs.Path.{components_of}
use Rattle.deny_text.proofs.PathLemmas.{file_name_of-last, name_of, name_of-other, name_of-Normal}
use Rattle.deny_text.proofs.path.file_name.Goals as goal

pub returns-in_err-name : goal.returns-in_err-name
returns-in_err-name c =
    let whole : components_remaining c.components.result ≡ components_of c.args.path.now = c.components.ensures ∙ ap path_components c.new.ensures in
    ap option_copied c.from_residual.ensures ∙ sym (file_name_of-last c.args.path.now _ (components_remaining c.next_back.new.self) None whole c.in_err-name.ensures.steps)

pub returns-in-Normal : goal.returns-in-Normal
returns-in-Normal c =
    let whole : components_remaining c.components.result ≡ components_of c.args.path.now = c.components.ensures ∙ ap path_components c.new.ensures in
    sym (file_name_of-last c.args.path.now _ (components_remaining c.next_back.new.self) (Some c.in_ok-name.field-0) whole c.in_ok-name.ensures.steps ∙ ap name_of c.in-Normal.is ∙ name_of-Normal c.in-Normal.name)

pub returns-in_default : goal.returns-in_default
returns-in_default c =
    let whole : components_remaining c.components.result ≡ components_of c.args.path.now = c.components.ensures ∙ ap path_components c.new.ensures in
    sym (file_name_of-last c.args.path.now _ (components_remaining c.next_back.new.self) (Some c.in_ok-name.field-0) whole c.in_ok-name.ensures.steps ∙ name_of-other c.in_ok-name.field-0 c.in_default.not-Normal)
