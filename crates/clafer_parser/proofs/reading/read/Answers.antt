use Rattle.std.proofs.Common.{refl, sym, ◌∙◌}
use Rattle.std.proofs.lemmas.Result.{err_from_is_err_and}
use Rattle.clafer_parser.proofs.Runs.{Laws, begins, step_holds, refused_at, all_holds, finished, module_spelled, module_refused}
use Rattle.clafer_parser.proofs.Steps.{ok_kept, err_kept}
use Rattle.clafer_parser.proofs.reading.read.Goals as goal

pub loop-token-init : goal.loop-token-init
loop-token-init c = begins _ c.start.ensures

pub loop-token-preserved : goal.loop-token-preserved
loop-token-preserved c =
    let laws : Laws = record { begun = c.states_are_exact.ensures.begun; reached = c.states_are_exact.ensures.reached; spelled = c.states_are_exact.ensures.spelled } in
    step_holds laws _ _ _ _ _ c.token-item.is c.loop-token-test.true c.loop-token.invariant c.in_ok-reader.ensures.ok

pub returns-in_err-reader-clause-refused : goal.returns-in_err-reader-clause-refused
returns-in_err-reader-clause-refused c =
    let e = err_from_is_err_and c.from_residual.result c.from_residual.ensures.1 in
    rw (e.1, e.2) (refused_at _ _ _ _ _ c.token-item.is c.loop-token-test.true c.loop-token.invariant c.in_err-reader.ensures.err)

pub module_of-requires : goal.module_of-requires
module_of-requires c = record { done = finished _ _ c.requires.ended (all_holds _ _ _ c.loop-token-test.false c.loop-token.invariant) }

pub returns-clause-spelled : goal.returns-clause-spelled
returns-clause-spelled c =
    let laws : Laws = record { begun = c.states_are_exact.ensures.begun; reached = c.states_are_exact.ensures.reached; spelled = c.states_are_exact.ensures.spelled } in
    let h = all_holds _ _ _ c.loop-token-test.false c.loop-token.invariant in
    ok_kept c.module_of.result c.module_of.ensures.ok (λ read d. (module_spelled laws _ _ _ _ h d.1).1)

pub returns-clause-fine : goal.returns-clause-fine
returns-clause-fine c =
    let laws : Laws = record { begun = c.states_are_exact.ensures.begun; reached = c.states_are_exact.ensures.reached; spelled = c.states_are_exact.ensures.spelled } in
    let h = all_holds _ _ _ c.loop-token-test.false c.loop-token.invariant in
    ok_kept c.module_of.result c.module_of.ensures.ok (λ read d. (module_spelled laws _ _ _ _ h d.1).0)

pub returns-clause-refused : goal.returns-clause-refused
returns-clause-refused c =
    let h = all_holds _ _ _ c.loop-token-test.false c.loop-token.invariant in
    err_kept c.module_of.result c.module_of.ensures.err (λ why d. module_refused _ _ _ _ h d.1 d.2)
