use Rattle.shape_encoder.proofs.Tabling.{child_more}
use Rattle.shape_encoder.proofs.children.add_child.Goals as goal

pub returns-clause-added : goal.returns-clause-added
returns-clause-added c = λ edges h.
    child_more c.args.slots.now edges c.args.by_slot.now.items c.args.edge c.get.result.now c.index_mut.result.now c.push.new.self c.get.ensures c.requires.to_in c.index_mut.ensures.value c.in_ok-push.ensures.ok h
