-- What is known of the plain model of a text of which nothing is refused.
use Rattle.std.specs.Prelude.{ℕ, ◌≡◌, Bool, List, [], length, IsTrue}
use Rattle.std.specs.List.{list_all}
use Rattle.clf_tree.specs.declared.model.Rule.{Rule}
use Rattle.clf_tree.specs.declared.model.Clafer.{Clafer}
use Rattle.clf_tree.specs.declared.plain.Plain.{Plain}
use Rattle.clf_tree.specs.Lists.{each_two}
use Rattle.clf_tree.specs.Named.{has_bounds, is_placed, are_told_apart}
use Rattle.clf_tree.specs.Hierarchy.{is_below}
use Rattle.clafer_desugar.specs.Refusals.{plain_refusals}
use Rattle.super_linker.specs.Supers.{parents_first}

-- whether the context of each rule is one of the first n clafers
abbrev pub contexts_in : ℕ → List Rule → Bool
contexts_in n rules = list_all (λ r. is_below n r.context) rules

pub record IsPlain (plain : Plain) : Type 0 where
  -- the parent of each clafer stands before it, and the context of each rule is there
  pub parents : IsTrue (parents_first 0 plain.clafers)
  pub contexts : IsTrue (contexts_in (length plain.clafers) plain.rules)
  -- no low bound is above its high one, no name repeats beside its like, no clafer below a clafer is abstract
  pub unrefused : plain_refusals plain ≡ []

-- what is known of its clafers with their supers linked
pub record StandsWell (clafers : List Clafer) : Type 0 where
  pub bounded : IsTrue (list_all has_bounds clafers)
  pub placed : IsTrue (list_all is_placed clafers)
  pub told_apart : IsTrue (each_two are_told_apart clafers)
