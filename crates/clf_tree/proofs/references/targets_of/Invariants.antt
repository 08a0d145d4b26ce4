use Rattle.std.proofs.Common.{◌≡◌, take, true}
use Rattle.std.specs.Prelude.{is_some}
use Rattle.std.specs.List.{filter_map, list_all}
use Rattle.clf_tree.specs.Hierarchy.{target_of}
use Rattle.clf_tree.proofs.references.targets_of.Given as goal

abbrev pub invariant-loop-k : goal.invariant-loop-k
invariant-loop-k l = record {
  found : l.targets ≡ filter_map (target_of l.clafers) (take l.k-index l.ks);
  all : list_all (λ c. is_some (target_of l.clafers c)) (take l.k-index l.ks) ≡ true;
}
