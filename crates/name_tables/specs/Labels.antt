-- What is known of shortest ways, and how it is put together.
use Rattle.std.specs.Prelude.{ℕ, zero, suc, ◌==◌, List, [], ◌∷◌, length, get_or, Option, Some, None, min, nat_lt, nat_eq, if◌then◌else◌}
use Rattle.std.specs.Option.{option_and_then, option_map_or}
use Rattle.std.specs.HashMap.{HashMap, get}
use Rattle.clf_tree.specs.declared.model.Clafer.{Clafer}
use Rattle.clf_tree.specs.Kinds.{is_child as is_declared_under}
use Rattle.clf_tree.specs.Hierarchy.{super_of}
use Rattle.name_tables.specs.declared.label.Label.{Label}
use Rattle.name_tables.specs.declared.label.Nearby.{Nearby}

abbrev pub same : Option ℕ → Option ℕ → Option ℕ
same (Some d) (Some e) = if d == e then Some d else None
same _ _ = None

-- the shorter ones of two kinds of ways, or both where they are equally long
abbrev pub shorter : Label → Label → Label
shorter a b = if nat_lt a.steps b.steps then a else if nat_lt b.steps a.steps then b else record { steps = a.steps; only = same a.only b.only; next = min a.next b.next }

abbrev pub shortest : Option Label → Option Label → Option Label
shortest a None = a
shortest None (Some b) = Some b
shortest (Some a) (Some b) = Some (shorter a b)

abbrev pub label_at : {S : Type 0} → HashMap ℕ Label S → ℕ → Option Label
label_at labels p = get nat_eq labels p

abbrev pub only_at : {S : Type 0} → HashMap ℕ Label S → ℕ → Nearby
only_at labels p = record { clafer = p; only = option_and_then (λ l. l.only) (label_at labels p) }

module _ (clafers : List Clafer) where
  -- what is known at p, once it is known that so many steps lead on by this child
  abbrev pub reached : ℕ → ℕ → Option ℕ → ℕ → Option Label → Option Label
  reached child steps only p known = if is_declared_under clafers p child then shortest known (Some (record { steps = steps; only = only; next = child })) else known

  -- by each of these children
  abbrev pub reached_all : List ℕ → ℕ → Option ℕ → ℕ → Option Label → Option Label
  reached_all [] steps only p known = known
  reached_all (m ∷ ms) steps only p known = reached_all ms steps only p (reached m steps only p known)

  -- by one step to each of the named clafers
  abbrev pub reached_first : List ℕ → ℕ → Option Label → Option Label
  reached_first [] p known = known
  reached_first (d ∷ ds) p known = reached_first ds p (reached d 1 (Some d) p known)

  -- by a step more than from these clafers, through what is-a them
  abbrev pub reached_next : List (List ℕ) → List Nearby → ℕ → ℕ → Option Label → Option Label
  reached_next heirs [] steps p known = known
  reached_next heirs (r ∷ rs) steps p known = reached_next heirs rs steps p (reached_all (get_or heirs r.clafer []) steps r.only p known)

module _ {S : Type 0} (clafers : List Clafer) (labels : HashMap ℕ Label S) where
  -- what is known at a clafer and at those above it, for at most n steps up, beside what is known already
  abbrev pub label_up : ℕ → ℕ → Option Label → Option Label
  label_up zero c known = shortest known (label_at labels c)
  label_up (suc n) c known = option_map_or (λ s. label_up n s (shortest known (label_at labels c))) (super_of clafers c) (shortest known (label_at labels c))

  -- what is known of all ways down from a clafer
  abbrev pub label_below : ℕ → Option Label
  label_below c = label_up (length clafers) c None

  -- so many steps down, each to the child that the label tells
  abbrev pub way_down : ℕ → ℕ → List ℕ
  way_down zero c = []
  way_down (suc k) c = option_map_or (λ l. l.next ∷ way_down k l.next) (label_below c) []
