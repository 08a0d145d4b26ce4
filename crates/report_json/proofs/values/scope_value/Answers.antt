-- What is written of a path is text.
use Rattle.std.proofs.Common.{◌++◌, ◌∙◌, ap, subst, sym}
use Rattle.std.specs.Str.{IsAscii}
use Rattle.instance_text.specs.Names.{path_of}
use Rattle.report_json.proofs.Ascii.{path_is_ascii}
use Rattle.report_json.proofs.values.scope_value.Goals as goal

pub text_value-requires : goal.text_value-requires
text_value-requires c =
    let shown = path_of c.args.clafers.now c.args.clafer in
    subst IsAscii (sym (c.as_slice.ensures ∙ c.in_ok-push_path.ensures ∙ ap (λ l. l ++ shown) c.new-path.ensures))
    (path_is_ascii c.args.clafers.now c.requires c.args.clafer)
