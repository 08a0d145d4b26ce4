-- What is written of a node is text.
use Rattle.std.proofs.Common.{◌<◌, ◌^◌, ◌++◌, ◌∙◌, ap, subst, sym, rules}
use Rattle.std.specs.Str.{IsAscii}
use Rattle.instance_text.specs.Names.{shown_node}
use Rattle.report_json.proofs.Ascii.{node_is_ascii}
use Rattle.report_json.proofs.values.node_value.Goals as goal

pub text_value-requires : goal.text_value-requires
text_value-requires c =
    let small : c.args.node.number < 2 ^ 64 = search rules in
    let shown = shown_node c.args.clafers.now c.args.node in
    subst IsAscii (sym (c.as_slice.ensures ∙ c.in_ok-push_node.ensures ∙ ap (λ l. l ++ shown) c.new-name.ensures))
    (node_is_ascii c.args.clafers.now c.requires c.args.node small)
