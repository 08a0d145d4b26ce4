-- What is known of a model once the question for any instance is answered.
use Rattle.std.specs.Prelude.{◌<◌, ◌^◌, ℕ, List, IsTrue}
use Rattle.clf_tree.specs.declared.instance.Entry.{Entry}
use Rattle.clf_tree.specs.declared.model.Model.{Model}
use Rattle.clf_tree.specs.declared.scopes.Scopes.{Scopes}
use Rattle.clf_tree.specs.Nodes.{is_ordered}
use Rattle.clf_tree.specs.Satisfies.{satisfies}
use Rattle.model_reader.specs.declared.reader.Read.{Read}
use Rattle.question_space.specs.declared.spending.Spending.{Spending}
use Rattle.question_space.specs.Asking.{HasNoVectors}
use Rattle.question_space.specs.Spendings.{IsSpending, IsClosing}
use Rattle.any_instance.specs.declared.Known.{Known}
use Rattle.any_instance.specs.declared.Known.TheVariants.{Instance, Closed, Spent}

-- an instance: entries in the order of their nodes that satisfy the model within the scopes
pub record IsInstance (model : Model) (scopes : Scopes) (entries : List Entry) : Type 0 where
  pub ordered : IsTrue (is_ordered entries)
  pub satisfied : IsTrue (satisfies model scopes entries)

abbrev pub HasNone : Model → Scopes → Type 0
HasNone model scopes = (entries : List Entry) → IsInstance model scopes entries → ⊥

-- there is none, and what is handed back refutes the question for any instance
pub record IsRefuted (read : Read) (closed : Spending) : Type 0 where
  pub none : HasNone read.model read.scopes
  pub closing : IsClosing read.model read.scopes closed
  pub any : HasNoVectors closed.question

-- the budget is spent on the question for any instance, which comes only where it is below 3 to the power of the weight
pub record IsSpentOn (read : Read) (budget : ℕ) (spent : Spending) : Type 0 where
  pub spending : IsSpending read.model read.scopes budget spent
  pub any : HasNoVectors spent.question
  pub short : budget < 3 ^ read.weight

-- an instance; or that there is none, with a closing; or a spent budget, with a spending
abbrev pub IsKnown : Read → ℕ → Known → Type 0
IsKnown read budget (Instance instance) = IsInstance read.model read.scopes instance.entries
IsKnown read budget (Closed closed) = IsRefuted read closed
IsKnown read budget (Spent spent) = IsSpentOn read budget spent
