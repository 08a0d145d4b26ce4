-- The law of canonical instances.
use Rattle.std.proofs.Common.{◌≡◌, ℕ, ◌+◌, ◌<◌, Bool, true, false, ◌&&◌, List, [], ◌∷◌, map, refl, ap, sym, subst, ◌∙◌, arith}
use Rattle.std.specs.Prelude.{IsPermutation}
use Rattle.std.specs.List.{list_all}
use Rattle.std.proofs.lemmas.List.Sorted.{IsPermutation-map, list_any-IsPermutation}
use Rattle.clf_tree.specs.declared.model.Clafer.{Clafer}
use Rattle.clf_tree.specs.declared.instance.Node.{Node}
use Rattle.clf_tree.specs.declared.instance.Entry.{Entry}
use Rattle.clf_tree.specs.declared.scopes.Scopes.{Scopes}
use Rattle.clf_tree.specs.Lists.{each_two}
use Rattle.clf_tree.specs.Nodes.{same_node, is_before, has_node, nodes_of, is_ordered, is_within, is_tree}
use Rattle.clf_tree.specs.Renaming.{renamed}
use Rattle.clf_tree.specs.Satisfies.{laws_of, holds}
use Rattle.clf_tree.specs.Shape.{has_shape}
use Rattle.clf_tree.proofs.Items.{In, first, later, and_left, and_right, all_in, image}
use Rattle.instance_tables.proofs.Renamed.{renamed_apart, isomorphic}
use Rattle.isomorphic_instances.proofs.Agreement.{isomorphic_agree}
use Rattle.canonical_instances.specs.Canonical.{fills_numbers, keep_order, is_canonical}
use Rattle.canonical_instances.specs.Renumbering.{renumbering}
use Rattle.canonical_instances.specs.Exists.{HasCanonical, SatisfyingHaveCanonical, NewNumbersAreCanonical}
use Rattle.canonical_instances.proofs.Renamed.{all_range, keeps, fills}
use Rattle.canonical_instances.proofs.Renumbered.{renumbers, below_scopes}
use Rattle.canonical_instances.proofs.Contained.{in_permuted}
use Rattle.canonical_instances.proofs.Sorting.{arranged, arranged_permutes, arranged_ordered}

pub both : (a b : Bool) → a ≡ true → b ≡ true → (a && b) ≡ true
both true true p q = refl
both true false p q = q
both false b p q = p

pub all_from : {X : Type 0} (p : X → Bool) (xs : List X) → ((x : X) → In x xs → p x ≡ true) → list_all p xs ≡ true
all_from p [] h = refl
all_from p (x ∷ xs) h = both (p x) (list_all p xs) (h x first) (all_from p xs (λ y i. h y (later i)))

-- what holds of each two in their order
pub two_from : {X : Type 0} (s t : X → X → Bool) (xs : List X) → each_two s xs ≡ true
    → ((x y : X) → In x xs → In y xs → s x y ≡ true → t x y ≡ true) → each_two t xs ≡ true
two_from s t [] e h = refl
two_from s t (x ∷ xs) e h =
    both (list_all (t x) xs) (each_two t xs)
    (all_from (t x) xs (λ y i. h x y first (later i) (all_in (s x) xs y i (and_left (list_all (s x) xs) (each_two s xs) e))))
    (two_from s t xs (and_right (list_all (s x) xs) (each_two s xs) e) (λ y z i j. h y z (later i) (later j)))

module _ (clafers : List Clafer) (scopes : Scopes) (es : List Entry) (ordered : is_ordered es ≡ true)
    (within : is_within clafers scopes es ≡ true) (tree : is_tree clafers es ≡ true) where
  abbrev new : List Entry
  new = map (renamed (renumbering scopes es)) es

  -- the new entries, put in order
  module _ (others : List Entry) (permutes : IsPermutation new others) (sorted : is_ordered others ≡ true) where
    same_nodes : (n : Node) → has_node (nodes_of new) n ≡ has_node (nodes_of others) n
    same_nodes n = list_any-IsPermutation (same_node n) (nodes_of new) (nodes_of others)
        (IsPermutation-map (λ (e : Entry). e.node) new others permutes)

    fills_one : (z : Entry) → In z new → fills_numbers others z ≡ true
    fills_one z i =
        let o = image (renamed (renumbering scopes es)) es z i in
        let filled : fills_numbers others (renamed (renumbering scopes es) o.item) ≡ true =
        all_range (λ k. has_node (nodes_of others) (record { clafer = o.item.node.clafer; number = k }))
        (renamed (renumbering scopes es) o.item).node.number 0
        (λ k less. sym (same_nodes (record { clafer = o.item.node.clafer; number = k }))
        ∙ fills clafers scopes es ordered within tree o.item o.in_list k
        (number_below k (renamed (renumbering scopes es) o.item).node.number less)) in
        subst (λ (x : Entry). fills_numbers others x ≡ true) o.same filled
      where
        number_below : (a b : ℕ) → a < 0 + b → a < b
        number_below a b h = omega (arith, h)

    keeps_two : (x y : Entry) → In x others → In y others → is_before x.node y.node ≡ true → keep_order clafers x y ≡ true
    keeps_two x y i j before =
        let o = image (renamed (renumbering scopes es)) es x (in_permuted new others x permutes i) in
        let p = image (renamed (renumbering scopes es)) es y (in_permuted new others y permutes j) in
        let before' : is_before (renamed (renumbering scopes es) o.item).node (renamed (renumbering scopes es) p.item).node ≡ true =
        ap (λ (a : Entry). is_before a.node (renamed (renumbering scopes es) p.item).node) o.same
        ∙ ap (λ (b : Entry). is_before x.node b.node) p.same ∙ before in
        let kept = keeps clafers scopes es ordered within tree o.item p.item o.in_list p.in_list before' in
        subst (λ (b : Entry). keep_order clafers x b ≡ true) p.same
        (subst (λ (a : Entry). keep_order clafers a (renamed (renumbering scopes es) p.item) ≡ true) o.same kept)

    pub others_canonical : is_canonical clafers others ≡ true
    others_canonical =
        both (list_all (fills_numbers others) others) (each_two (keep_order clafers) others)
        (all_from (fills_numbers others) others (λ z i. fills_one z (in_permuted new others z permutes i)))
        (two_from (λ a b. is_before a.node b.node) (keep_order clafers) others sorted keeps_two)

  pub canonical_one : HasCanonical clafers scopes es
  canonical_one =
      let others : List Entry = arranged new in
      let sorted = arranged_ordered new
      (renamed_apart scopes (renumbering scopes es) (renumbers scopes es) es ordered (below_scopes clafers scopes es within)) in
      let iso = isomorphic scopes (renumbering scopes es) (renumbers scopes es) es others (arranged_permutes new) in
      record {
        others = others;
        ordered = sorted;
        isomorphic = iso;
        canonical = others_canonical others (arranged_permutes new) sorted;
        agree = λ model. isomorphic_agree model scopes es others ordered (below_scopes clafers scopes es within) iso;
      }

-- of an instance that satisfies a model
pub satisfying_one : SatisfyingHaveCanonical
satisfying_one model scopes es ordered h =
    let within = is_within model.clafers scopes es in
    let tree = is_tree model.clafers es in
    let shape = has_shape model.clafers scopes es in
    let laws = list_all (holds model.clafers es) (laws_of model) in
    let shaped = and_left (within && tree && shape) laws h in
    let planted = and_left (within && tree) shape shaped in
    let c = canonical_one model.clafers scopes es ordered (and_left within tree planted) (and_right within tree planted) in
    record {
      others = c.others;
      ordered = c.ordered;
      isomorphic = c.isomorphic;
      canonical = c.canonical;
      satisfied = sym (c.agree model).satisfy ∙ h;
      goals = (c.agree model).goals;
    }

-- of the entries that have the new numbers
pub renumbered : NewNumbersAreCanonical
renumbered clafers scopes es others ordered within tree permutes sorted =
    others_canonical clafers scopes es ordered within tree others permutes sorted
