use Rattle.std.proofs.Common.{arith, ap, length, ◌≡◌, take, subst, List, ℕ}
use Rattle.std.proofs.lemmas.List.{length_push, take_all}
use Rattle.bool_circuit.specs.declared.gate.Gate.TheVariants.{Input}
use Rattle.bool_circuit.specs.Circuit.{inputs}
use Rattle.instance_encoder.proofs.Wiring.{one_more, IsMore}
use Rattle.instance_encoder.proofs.edges.push_edges.Goals as goal

pub loop-at-preserved : goal.loop-at-preserved
loop-at-preserved c = record {
  room = omega (arith, c.loop-at.invariant.room, ap length c.in_ok-here.ensures.gates, length_push c.loop-at.circuit (Input (inputs c.loop-at.circuit)));
  more = one_more c.args.from c.loop-at.at c.get-to.result.now c.args.near.now c.args.circuit.now c.loop-at.circuit c.input.new.self c.args.edges.now c.loop-at.edges c.push.new.self c.in_ok-here.here
      c.get-to.ensures (omega (arith, c.len-at-end.ensures)) c.loop-at.invariant.more c.in_ok-here.ensures.gates c.in_ok-here.ensures.last c.in_ok-push.ensures.ok;
}

pub returns : goal.returns
returns c =
    let e : take c.loop-at.at c.args.near.now ≡ c.args.near.now = take_all c.loop-at.at c.args.near.now (omega (arith, c.len-at-end.ensures)) in
    record {
      more = subst (λ (ks : List ℕ). IsMore c.args.from ks c.args.circuit.now c.args.edges.now c.loop-at.circuit c.loop-at.edges) e c.loop-at.invariant.more;
      few = omega (arith, c.loop-at.invariant.room, c.len-at-end.ensures);
    }
