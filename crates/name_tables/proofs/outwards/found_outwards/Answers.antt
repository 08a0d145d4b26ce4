use Rattle.std.proofs.Common.{sym, ◌∙◌, arith}
use Rattle.name_resolver.proofs.Meanings.{smaller, parent_before, means_top, means_from}
use Rattle.name_tables.proofs.outwards.found_outwards.Goals as goal

pub loop-current-smaller : goal.loop-current-smaller
loop-current-smaller c =
    let here = c.loop-current.invariant.within c.in-Some.clafer c.in-Some.is in
    smaller c.args.clafers.now c.in-Some.clafer c.parent_of-current.result c.loop-current.current c.in-Some.is c.parent_of-current.ensures here.0 c.requires.parents_first

pub loop-current-preserved : goal.loop-current-preserved
loop-current-preserved c =
    let clafers = c.args.clafers.now in
    let k = c.in-Some.clafer in
    let here = c.loop-current.invariant.within k c.in-Some.is in
    record {
      leads = λ name r is m. c.loop-current.invariant.leads name r is
          (means_from clafers name k c.loop-current.out c.loop-current.current c.parent_of-current.result r c.in-Some.is
          (rw c.in_default-2.is at (c.in_ok-found.ensures name is)) c.parent_of-current.ensures m);
      within = λ q e.
          let before = parent_before clafers k q here.0 c.requires.parents_first (sym c.parent_of-current.ensures ∙ e) in
          (omega (arith, before, here.0), omega (arith, before, here.1));
    }

pub returns : goal.returns
returns c = λ name is.
    c.loop-current.invariant.leads name c.at_top.result is
    (means_top c.args.clafers.now name c.loop-current.out c.loop-current.current c.at_top.result c.in_default.is (c.at_top.ensures name is))
