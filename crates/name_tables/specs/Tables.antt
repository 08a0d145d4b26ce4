-- What a table of names tells.
use Rattle.std.specs.Prelude.{ℕ, suc, ◌≡◌, ◌≢◌, ◌≤◌, ◌==◌, ◌&&◌, Bool, true, false, List, [], ◌∷◌, length, get_or, slice_get, bytes_eq, nat_lt, Option, Some, None, is_some, MatchOption}
use Rattle.std.specs.List.{filter}
use Rattle.std.specs.Option.{option_map_or}
use Rattle.std.specs.HashMap.{get_by}
use Rattle.clf_tree.specs.declared.model.Clafer.{Clafer}
use Rattle.clf_tree.specs.Kinds.{is_child as is_declared_under}
use Rattle.clf_tree.specs.Lists.{numbers_below, has}
use Rattle.clf_tree.specs.Hierarchy.{is_a, parent_of}
use Rattle.name_resolver.specs.Ways.{Way, is_named}
use Rattle.name_resolver.specs.Outwards.{is_at_top}
use Rattle.name_tables.specs.declared.label.Label.{Label}
use Rattle.name_tables.specs.declared.table.NameEntry.{NameEntry}
use Rattle.name_tables.specs.declared.table.NameTable.{NameTable}
use Rattle.name_tables.specs.Labels.{label_at}

-- a way to a clafer of the name that begins at a child declared directly under p
pub data OwnWay (clafers : List Clafer) (name : List ℕ) (p : ℕ) : List ℕ → ℕ → Type 0 where
  own : {m d : ℕ} {way : List ℕ} → is_declared_under clafers p m ≡ true → Way clafers m way d → is_named clafers name d ≡ true → OwnWay clafers name p (m ∷ way) d

-- where those of the given ways that have k steps lead: to one clafer, or to several
pub data Ends (ways : List ℕ → ℕ → Type 0) (k : ℕ) : Option ℕ → Type 0 where
  one : {d : ℕ} → ((way : List ℕ) (e : ℕ) → ways way e → length way ≡ k → e ≡ d) → Ends ways k (Some d)
  several : (d e : ℕ) (way other : List ℕ) → ways way d → ways other e → length way ≡ k → length other ≡ k → d ≢ e → Ends ways k None

-- the least number of steps of the given ways, and where the ways of so many steps lead
pub record Shortest (ways : List ℕ → ℕ → Type 0) (k : ℕ) (only : Option ℕ) : Type 0 where
  pub way : List ℕ
  pub end : ℕ
  pub there : ways way end
  pub long : length way ≡ k
  pub least : (other : List ℕ) (e : ℕ) → ways other e → k ≤ length other
  pub ends : Ends ways k only

-- the label tells of the shortest of the given ways, and goes to the first child that one of them goes to
pub record Labels (ways : List ℕ → ℕ → Type 0) (l : Label) : Type 0 where
  pub shortest : Shortest ways l.steps l.only
  pub rest : List ℕ
  pub end : ℕ
  pub goes : ways (l.next ∷ rest) end
  pub long : suc (length rest) ≡ l.steps
  pub first : (m : ℕ) (way : List ℕ) (e : ℕ) → ways (m ∷ way) e → suc (length way) ≡ l.steps → l.next ≤ m

-- without a label there is no such way
abbrev pub Tells : (List ℕ → ℕ → Type 0) → Option Label → Type 0
Tells ways None = (way : List ℕ) (d : ℕ) → ways way d → ⊥
Tells ways (Some l) = Labels ways l

-- those of the first n clafers that are-a each clafer and are declared under another one
abbrev pub AreHeirs : List Clafer → ℕ → List (List ℕ) → Type 0
AreHeirs clafers n heirs = (p m : ℕ) → has (get_or heirs p []) m ≡ (nat_lt m n && is_some (parent_of clafers m) && is_a clafers m p)

abbrev pub is_label_of : ℕ → Label → Bool
is_label_of steps l = l.steps == steps

-- the labels of all ways of at most so many steps, and the clafers with a way of so many and none of fewer
pub record IsLevel (clafers : List Clafer) (name : List ℕ) (steps : ℕ) (label : ℕ → Option Label) (last : List ℕ) : Type 0 where
  pub tells : (p : ℕ) → Tells (λ way d. OwnWay clafers name p way d × (length way ≤ steps)) (label p)
  pub reaches : (p : ℕ) → has last p ≡ option_map_or (is_label_of steps) (label p) false

-- the clafers of each name, among the first n
abbrev pub named_among : List Clafer → List ℕ → ℕ → List ℕ
named_among clafers name n = filter (is_named clafers name) (numbers_below n)

-- where the clafers of a name are reached from, and the first of them at top level
pub record IsEntry (clafers : List Clafer) (name : List ℕ) (entry : NameEntry) : Type 0 where
  pub labels : (p : ℕ) → Tells (OwnWay clafers name p) (label_at entry.labels p)
  pub top : entry.top ≡ slice_get (filter (is_at_top clafers name) (numbers_below (length clafers))) 0

-- the clafers that are listed for a name
abbrev pub listed : Option (List ℕ) → List ℕ
listed found = option_map_or (λ ds. ds) found []

-- an entry for each name that one of the first n clafers has, and for no other one
abbrev pub HasEntries : List Clafer → ℕ → (List ℕ → Option NameEntry) → Type 0
HasEntries clafers n entry = (name : List ℕ) → MatchOption (entry name) (named_among clafers name n ≡ []) (IsEntry clafers name)

-- the table of the clafers: an entry for each name, and for no other one
pub record IsTableOf (clafers : List Clafer) (table : NameTable) : Type 0 where
  pub entries : HasEntries clafers (length clafers) (λ name. get_by (λ k. bytes_eq name k.now) table.entries)
