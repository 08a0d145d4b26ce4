-- Operations that do not look at the clafers.
use Rattle.std.proofs.Common.{◌≡◌, ℕ, ◌||◌, Bool, List, [], ◌∷◌, map, Option, Some, None, refl, ap, ◌∙◌}
use Rattle.std.specs.Ordering.{int_eq}
use Rattle.clf_tree.specs.declared.model.Clafer.{Clafer}
use Rattle.clf_tree.specs.declared.instance.Node.{Node}
use Rattle.clf_tree.specs.declared.instance.Entry.{Entry}
use Rattle.clf_tree.specs.declared.kind.Kind.{Kind}
use Rattle.clf_tree.specs.declared.kind.Kind.TheVariants as kinds
use Rattle.clf_tree.specs.declared.kind.Reading.{Reading}
use Rattle.clf_tree.specs.declared.kind.Reading.TheVariants.{ByValues, ByNodes}
use Rattle.clf_tree.specs.Meaning.{Value, Truth, Integer, Nodes, integers, number, total, equal, part, taken_as, dref, same_set, all_in, children, nodes_where, quantified}
use Rattle.clf_tree.specs.declared.token.Word.{Word}
use Rattle.clf_tree.specs.declared.kind.Within.{Within}
use Rattle.clf_tree.specs.Nodes.{has_node}
use Rattle.model_evaluator.specs.Parts.{stepped, joined, asked}
use Rattle.model_evaluator.proofs.BooleanTests.{both}

module _ (clafers : List Clafer) (entries : List Entry) where
  pub same_integers : (v : Value) → integers [] entries v ≡ integers clafers entries v
  same_integers (Truth b) = refl
  same_integers (Integer z) = refl
  same_integers (Nodes ns) = refl

  pub same_number : (v : Value) → number [] entries v ≡ number clafers entries v
  same_number v = ap total (same_integers v)

  pub same_equal : (r : Option Reading) (u v : Value) → equal [] entries r u v ≡ equal clafers entries r u v
  same_equal None u v = refl
  same_equal (Some ByValues) u v = both (λ a b. same_set int_eq a b) (same_integers u) (same_integers v)
  same_equal (Some (ByNodes left right)) u v = refl

  pub same_part : (r : Option Reading) (u v : Value) → part [] entries r u v ≡ part clafers entries r u v
  same_part None u v = refl
  same_part (Some ByValues) u v = both (λ a b. all_in int_eq a b) (same_integers u) (same_integers v)
  same_part (Some (ByNodes left right)) u v = refl

  pub same_taken : (k : Option Kind) (v : Value) → taken_as [] entries k v ≡ taken_as clafers entries k v
  same_taken (Some kinds.Truth) v = refl
  same_taken (Some kinds.Integer) v = ap Integer (same_number v)
  same_taken (Some (kinds.Nodes ks)) v = refl
  same_taken (Some (kinds.Numbers ks)) v = refl
  same_taken None v = refl

  pub same_dref : (k : Option Kind) (ns : List Node) → dref [] entries k ns ≡ dref clafers entries k ns
  same_dref (Some kinds.Truth) ns = refl
  same_dref (Some kinds.Integer) ns = refl
  same_dref (Some (kinds.Nodes ks)) ns = refl
  same_dref (Some (kinds.Numbers ks)) ns = refl
  same_dref None ns = refl

pub stepped_is : (clafers : List Clafer) (entries : List Entry) (into : List ℕ) (ns : List Node) → stepped clafers entries into ns ≡ children clafers entries into ns
unfolding stepped
stepped_is clafers entries into ns = refl

pub joined_is : (clafers : List Clafer) (entries : List Entry) (left right : List Node) → joined entries left right ≡ nodes_where clafers entries (λ x. has_node left x.node || has_node right x.node)
unfolding joined
joined_is clafers entries left right = refl

pub asked_is : (w : Word) (test : Within → List Node → Bool) (i : Within) (ts : List (List Node)) → asked w test i ts ≡ quantified w (test i) ts
unfolding asked
asked_is w test i ts = refl
