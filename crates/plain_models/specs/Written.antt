-- What is known of the plain model of a text before its names are looked up.
use Rattle.std.specs.Prelude.{ℕ, ◌&&◌, Bool, true, false, List, [], IsTrue}
use Rattle.std.specs.List.{list_all}
use Rattle.clf_tree.specs.declared.model.Rule.{Rule}
use Rattle.clf_tree.specs.declared.model.Goal.{Goal}
use Rattle.clf_tree.specs.declared.plain.PlainClafer.{PlainClafer}
use Rattle.clf_tree.specs.declared.plain.Plain.{Plain}
use Rattle.clf_tree.specs.Lists.{each_two}
use Rattle.clf_tree.specs.Named.{is_name, is_quantifier, are_names, differ}
use Rattle.clf_tree.specs.Tree as form
use Rattle.clf_tree.specs.Tree.{Tree, tree}
use Rattle.plain_models.specs.Known.{IsPlain}

-- whether it has nothing yet that look-up puts in place of names, and each quantifier has a quantifier's word and names of its own
-- (the clafers that `is_quantifier` stands beside play no part in it)
abbrev pub is_written : Tree → Bool
is_written (form.Literal at n) = true
is_written (form.This at) = true
is_written (form.Variable at i) = false
is_written (form.Clafer at c) = false
is_written (form.Name at n) = true
is_written (form.Join at a n) = is_written a
is_written (form.Step at of into follow) = false
is_written (form.Parent at a) = is_written a
is_written (form.Dref at a) = is_written a
is_written (form.Union at a b) = is_written a && is_written b
is_written (form.Minus at a b) = is_written a && is_written b
is_written (form.Meet at a b) = is_written a && is_written b
is_written (form.If at c a b) = is_written c && is_written a && is_written b
is_written (form.Not at a) = is_written a
is_written (form.And at a b) = is_written a && is_written b
is_written (form.Or at a b) = is_written a && is_written b
is_written (form.Xor at a b) = is_written a && is_written b
is_written (form.Implies at a b) = is_written a && is_written b
is_written (form.Iff at a b) = is_written a && is_written b
is_written (form.Card at a) = is_written a
is_written (form.Sum at a) = is_written a
is_written (form.Neg at a) = is_written a
is_written (form.Add at a b) = is_written a && is_written b
is_written (form.Sub at a b) = is_written a && is_written b
is_written (form.Mul at a b) = is_written a && is_written b
is_written (form.Less at a b) = is_written a && is_written b
is_written (form.LessEqual at a b) = is_written a && is_written b
is_written (form.Greater at a b) = is_written a && is_written b
is_written (form.GreaterEqual at a b) = is_written a && is_written b
is_written (form.Equal at a b) = is_written a && is_written b
is_written (form.In at a b) = is_written a && is_written b
is_written (form.Some at a) = is_written a
is_written (form.No at a) = is_written a
is_written (form.One at a) = is_written a
is_written (form.Lone at a) = is_written a
is_written (form.Quant at word disj names over body) = is_quantifier [] word && are_names names && each_two differ names && is_written over && is_written body

-- whether the clafer's own name is a name
abbrev pub is_titled : PlainClafer → Bool
is_titled k = is_name k.title.name

abbrev pub rule_is_written : Rule → Bool
rule_is_written r = is_written (tree r.body)

abbrev pub goal_is_written : Goal → Bool
goal_is_written g = is_written (tree g.body)

-- what is known of the plain model of a text that nothing refuses
pub record IsWritten (plain : Plain) : Type 0 where
  -- parents first, contexts there, no low bound above its high one, no name twice, no abstract clafer below a clafer
  pub known : IsPlain plain
  -- names are names, and nothing in an expression is looked up yet
  pub named : IsTrue (list_all is_titled plain.clafers)
  pub rules : IsTrue (list_all rule_is_written plain.rules)
  pub goals : IsTrue (list_all goal_is_written plain.goals)
