use Rattle.std.proofs.Common.{refl}
use Rattle.cdcl_search.proofs.Open_steps.{open_whole}
use Rattle.cdcl_search.proofs.opening.open.Goals as goal

pub returns-clause-whole : goal.returns-clause-whole
returns-clause-whole c = open_whole _ c.args.variables c.in_ok-bytes.ensures.zero c.in_ok-bytes.ensures.len c.in_ok-words.ensures.len c.in_ok-words-2.ensures.len c.in_ok-words-3.ensures.len
    refl c.new.ensures.items c.new-6.ensures.items c.in_ok-bytes-2.ensures.len c.in_ok-bytes-2.ensures.zero c.len-2.ensures c.requires.within c.requires.few c.requires.room c.in_ok-watches.ensures.covered c.in_ok-watches.ensures.done c.in_ok-watches.ensures.lists
