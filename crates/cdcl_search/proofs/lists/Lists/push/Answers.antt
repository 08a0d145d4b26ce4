use Rattle.std.proofs.Common.{◌≡◌, ◌<◌, ◌++◌, [], ◌∷◌, length, get_or, set, arith, sym, ◌∙◌, ap}
use Rattle.std.proofs.lemmas.Grind.{common_steps}
use Rattle.std.proofs.lemmas.List.{length-map, map-set, get_or-map}
use Rattle.std.proofs.Math.Seq.{map-set_same}
use Rattle.cdcl_search.proofs.lists.Lists.push.Goals as goal
use Rattle.cdcl_search.proofs.lists.Lists.push.Goals.{in-Ok, in-Err}

pub returns-clause-failed : goal.returns-clause-failed
returns-clause-failed c = elim c.match-push.branch [
  | in-Ok w ↦ rw w.result-is tt
  | in-Err w ↦ rw w.result-is (
      let n = length-map c.self.inside.rows.items (λ r. r.items) in
      let b : c.args.literal < length c.self.inside.rows.items = omega (arith, n, c.requires, ap length c.self.view_is) in
      let r : c.index_mut.result.now ≡ get_or c.self.inside.rows.items c.args.literal c.index_mut.result.now = grind (arith, common_steps) in
      map-set_same (λ r. r.items) c.self.inside.rows.items c.args.literal c.push.new.self c.index_mut.result.now (ap (λ x. x.items) w.in-Err.ensures.err ∙ ap (λ x. x.items) r) ∙ c.self.view_is)
]

pub returns-clause-pushed : goal.returns-clause-pushed
returns-clause-pushed c = elim c.match-push.branch [
  | in-Err w ↦ rw w.result-is tt
  | in-Ok w ↦ rw w.result-is (
      let n = length-map c.self.inside.rows.items (λ r. r.items) in
      let b : c.args.literal < length c.self.inside.rows.items = omega (arith, n, c.requires, ap length c.self.view_is) in
      let r : c.index_mut.result.now ≡ get_or c.self.inside.rows.items c.args.literal c.index_mut.result.now = grind (arith, common_steps) in
      let g = get_or-map (λ r. r.items) c.self.inside.rows.items c.args.literal c.index_mut.result.now [] b in
      let e : c.push.new.self.items ≡ get_or c.args.self.now c.args.literal [] ++ c.args.number ∷ [] =
      w.in-Ok.ensures.ok ∙ ap (λ x. x ++ c.args.number ∷ []) (ap (λ x. x.items) r ∙ sym g ∙ ap (λ x. get_or x c.args.literal []) c.self.view_is) in
      map-set (λ r. r.items) c.self.inside.rows.items c.args.literal c.push.new.self ∙ ap (λ x. set x c.args.literal c.push.new.self.items) c.self.view_is ∙ ap (set c.args.self.now c.args.literal) e)
]
