use Rattle.std.proofs.Common.{rules, ◌+◌, get_or, ◌∙◌, sym}
use Rattle.std.proofs.lemmas.List.Sorted.{answers_always}
use Rattle.instance_text.proofs.Rising.{before_is_less}
use Rattle.instance_text.proofs.entries.sorted.Goals as goal

pub returns-clause-sorted : goal.returns-clause-sorted
returns-clause-sorted c = λ k d low more.
    let es = c.sort_unstable_by_key.new.self.items in
    sym (before_is_less (get_or es (k + 1) d).node (get_or es k d).node)
    ∙ c.sort_unstable_by_key.ensures.sorted (λ e. (e.node.clafer, e.node.number)) (answers_always _ _ _ (λ f a r g h. search rules)) k d low more
