-- The entries that bits tell make trees exactly where they have their parents.
use Rattle.std.proofs.Common.{◌≡◌, ℕ, ◌<◌, Bool, true, false, not, ◌&&◌, List, [], ◌∷◌, length, get_or, refl, sym, ◌∙◌, arith}
use Rattle.std.specs.Prelude.{nat_lt}
use Rattle.std.specs.List.{list_all}
use Rattle.std.proofs.lemmas.Bool.{true≢false}
use Rattle.clf_tree.specs.declared.model.Clafer.{Clafer}
use Rattle.clf_tree.specs.declared.instance.Node.{Node}
use Rattle.clf_tree.specs.declared.instance.Entry.{Entry}
use Rattle.clf_tree.specs.declared.scopes.Scopes.{Scopes}
use Rattle.clf_tree.specs.Hierarchy.{is_concrete}
use Rattle.clf_tree.specs.Named.{each, contains_itself}
use Rattle.clf_tree.specs.Nodes.{named_by, scope_of, has_its_parent, ends_within, is_within, is_tree}
use Rattle.set_bits.specs.declared.layout.Layout.{Layout}
use Rattle.set_bits.specs.Fitting.{Fits}
use Rattle.shown_instance.specs.Shown.{shown}
use Rattle.shown_instance.specs.Consistent.{abstract_are_empty, is_consistent}
use Rattle.shown_instance.specs.Placed.{have_parents}
use Rattle.shown_instance.proofs.Order.{both, together}
use Rattle.shown_instance.proofs.Adapting.{all_pass}
use Rattle.shown_instance.proofs.Belonging.{all_of}
use Rattle.shown_instance.proofs.Whole.{numbers_at, told_within}
use Rattle.shown_instance.proofs.Placing.{parents_told, same_truth}
use Rattle.shown_instance.proofs.Ending.{parents_end}

all_first : {X : Type 0} (a b : X → Bool) (xs : List X) → list_all (λ x. a x && b x) xs ≡ true → list_all a xs ≡ true
all_first a b [] h = refl
all_first a b (x ∷ xs) h =
    let p = both (a x && b x) (list_all (λ y. a y && b y) xs) h in
    together (a x) (list_all a xs) (both (a x) (b x) p.0).0 (all_first a b xs p.1)

tree_from : (clafers : List Clafer) (scopes : Scopes) (entries : List Entry) → is_within clafers scopes entries ≡ true → ((c : ℕ) → c < length clafers → contains_itself clafers c ≡ false) → list_all (has_its_parent clafers entries) entries ≡ true → is_tree clafers entries ≡ true
tree_from clafers scopes entries within free right =
    all_of (λ (e : Entry). list_all (λ (n : Node). is_concrete clafers n.clafer) (named_by e) && has_its_parent clafers entries e && ends_within (length entries) entries e.parent) entries (λ k d l.
    let e : Entry = get_or entries k d in
    together (list_all (λ (n : Node). is_concrete clafers n.clafer) (named_by e) && has_its_parent clafers entries e) (ends_within (length entries) entries e.parent)
    (together (list_all (λ (n : Node). is_concrete clafers n.clafer) (named_by e)) (has_its_parent clafers entries e)
    (all_first (λ (n : Node). is_concrete clafers n.clafer) (λ (n : Node). nat_lt n.number (scope_of scopes n.clafer)) (named_by e) (all_pass (λ (x : Entry). list_all (λ (n : Node). is_concrete clafers n.clafer && nat_lt n.number (scope_of scopes n.clafer)) (named_by x)) entries within k d l))
    (all_pass (has_its_parent clafers entries) entries right k d l))
    (parents_end clafers entries free (all_pass (has_its_parent clafers entries) entries right) k d l))

tree_parents : (clafers : List Clafer) (entries : List Entry) → is_tree clafers entries ≡ true → list_all (has_its_parent clafers entries) entries ≡ true
tree_parents clafers entries t =
    all_of (has_its_parent clafers entries) entries (λ k d l.
    let e : Entry = get_or entries k d in
    (both (list_all (λ (n : Node). is_concrete clafers n.clafer) (named_by e)) (has_its_parent clafers entries e)
    (both (list_all (λ (n : Node). is_concrete clafers n.clafer) (named_by e) && has_its_parent clafers entries e) (ends_within (length entries) entries e.parent)
    (all_pass (λ (x : Entry). list_all (λ (n : Node). is_concrete clafers n.clafer) (named_by x) && has_its_parent clafers entries x && ends_within (length entries) entries x.parent) entries t k d l)).0).1)

not_true : (b : Bool) → not b ≡ true → b ≡ false
not_true false h = refl
not_true true h = absurd (true≢false (sym h))

pub tree_told : (clafers : List Clafer) (scopes : Scopes) (layout : Layout) (bits : List Bool) → Fits clafers scopes layout → abstract_are_empty clafers scopes ≡ true → each clafers (λ c. not (contains_itself clafers c)) ≡ true → is_consistent scopes layout bits ≡ true
    → have_parents clafers layout bits ≡ is_tree clafers (shown layout bits)
tree_told clafers scopes layout bits f empty free c =
    same_truth (have_parents clafers layout bits) (is_tree clafers (shown layout bits))
    (λ t. tree_from clafers scopes (shown layout bits) (told_within clafers scopes layout bits f empty)
    (λ k l. not_true (contains_itself clafers k) (numbers_at (λ d. not (contains_itself clafers d)) 0 (length clafers) k free (omega arith) (omega (arith, l))))
    (sym (parents_told clafers scopes layout bits f c) ∙ t))
    (λ t. parents_told clafers scopes layout bits f c ∙ tree_parents clafers (shown layout bits) t)
