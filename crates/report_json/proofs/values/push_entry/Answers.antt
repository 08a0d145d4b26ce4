-- The text of a node's value.
use Rattle.std.proofs.Common.{◌++◌, ◌∙◌, ap}
use Rattle.serde_json.specs.Written.{has_float, compact_text}
use Rattle.report_json.proofs.Texts.{entry_text, entry_no_float}
use Rattle.report_json.proofs.values.push_entry.Goals as goal

pub push_value-requires : goal.push_value-requires
push_value-requires c = ap has_float c.in_ok-value.ensures ∙ entry_no_float c.args.clafers.now c.args.entry.now

pub returns : goal.returns
returns c =
    c.in_ok-push_value.ensures
    ∙ ap (λ l. c.args.text.now ++ l) (ap compact_text c.in_ok-value.ensures ∙ entry_text c.args.clafers.now c.args.entry.now)
