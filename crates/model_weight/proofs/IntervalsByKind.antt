-- The interval of an expression by its kind.
use Rattle.std.proofs.Common.{◌≡◌, List, refl}
use Rattle.clf_tree.specs.declared.model.Clafer.{Clafer}
use Rattle.clf_tree.specs.declared.scopes.Scopes.{Scopes}
use Rattle.clf_tree.specs.declared.kind.Within.{Within}
use Rattle.clf_tree.specs.Tree as e
use Rattle.clf_tree.specs.Tree.{Tree}
use Rattle.clf_tree.specs.Kinds.{kind}
use Rattle.clf_tree.specs.Intervals.{interval}
use Rattle.model_weight.specs.Measures.{nodes_in, kind_interval, interval_by}

pub by_kind : (clafers : List Clafer) (scopes : Scopes) (t : Tree) (w : Within) → interval_by clafers scopes t w (kind clafers t w) ≡ interval clafers scopes t w
unfolding kind_interval nodes_in
by_kind clafers scopes (e.Literal at n) w = refl
by_kind clafers scopes (e.Card at a) w = refl
by_kind clafers scopes (e.Sum _ a) w = refl
by_kind clafers scopes (e.Neg at a) w = refl
by_kind clafers scopes (e.Add at a b) w = refl
by_kind clafers scopes (e.Sub at a b) w = refl
by_kind clafers scopes (e.Mul at a b) w = refl
by_kind clafers scopes (e.If at t a b) w = refl
by_kind clafers scopes _ w = refl
