-- One more node, with its comma.
use Rattle.std.proofs.Common.{◌<◌, length, rules}
use Rattle.report_json.specs.Json.{entry_json}
use Rattle.report_json.proofs.Parts.{part_more}
use Rattle.report_json.proofs.lists.push_entries.Goals as goal

pub loop-at-preserved : goal.loop-at-preserved
loop-at-preserved c =
    let entries = c.args.entries.now in
    let less : c.loop-at.at < length entries = search rules in
    part_more (entry_json c.args.clafers.now) entries c.loop-at.at _ c.args.text.now c.loop-at.text c.push_comma.new.text
    c.push_entry.new.text less c.loop-at.invariant c.in_ok-push_comma.ensures c.in_ok-push_entry.ensures
