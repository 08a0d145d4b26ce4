use Rattle.std.proofs.Common.{◌≡◌, ℕ, Bool, ◌&&◌, ◌<◌, List, ◌++◌, ◌∷◌, [], Some, length, get_or, sym, ap, ◌∙◌, arith}
use Rattle.std.specs.Prelude.{is_some}
use Rattle.std.proofs.lemmas.List.Folds.{list_all_more}
use Rattle.clf_tree.specs.Hierarchy.{target_of}
use Rattle.clf_tree.proofs.Found.{filter_map_more}
use Rattle.clf_tree.proofs.references.targets_of.Goals as goal

pub loop-k-preserved : goal.loop-k-preserved
loop-k-preserved c =
    let clafers = c.args.clafers.now in
    let ks = c.args.ks.now in
    let i = c.loop-k.k-index in
    let test = λ (k : ℕ). is_some (target_of clafers k) in
    let item : get_or ks i 0 ≡ get_or c.as_slice-k-items.result.now i 0 = ap (λ (zs : List ℕ). get_or zs i 0) (sym c.as_slice-k-items.ensures) in
    let target : target_of clafers (get_or ks i 0) ≡ Some c.in-Some.target = ap (target_of clafers) item ∙ sym c.target_of.ensures ∙ c.in-Some.is in
    let within : i < length ks = omega (arith, ap length c.as_slice-k-items.ensures) in
    record {
      found = c.in_ok-push-in-Some.ensures.ok ∙ ap (λ (ts : List ℕ). ts ++ c.in-Some.target ∷ []) c.loop-k.invariant.found ∙ sym (filter_map_more (target_of clafers) ks i 0 c.in-Some.target within target);
      all = list_all_more test ks i 0 within ∙ ap (λ (b : Bool). b && test (get_or ks i 0)) c.loop-k.invariant.all ∙ ap is_some target;
    }
