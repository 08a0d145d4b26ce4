-- The new numbers are a renaming, and what they say of the order of nodes.
use Rattle.std.proofs.Common.{◌≡◌, ℕ, suc, ◌<◌, Bool, true, false, ◌&&◌, List, [], ◌∷◌, length, get_or, cond, Option, Some, None, Less, Equal, refl, ap, sym, subst, ◌∙◌, arith, true≢false}
use Rattle.std.specs.Prelude.{nat_lt, slice_get, IsPermutation}
use Rattle.std.specs.Ordering.{is_gt, nat_cmp}
use Rattle.std.specs.Option.{option_map_or}
use Rattle.std.specs.List.{list_all}
use Rattle.std.proofs.lemmas.Grind.{common_steps}
use Rattle.std.proofs.lemmas.List.FromFn.{length-map-range_with_len, get_or-map-range_with_len}
use Rattle.std.proofs.lemmas.Option.{slice_get_within}
use Rattle.clf_tree.specs.declared.model.Clafer.{Clafer}
use Rattle.clf_tree.specs.declared.instance.Node.{Node}
use Rattle.clf_tree.specs.declared.instance.Entry.{Entry}
use Rattle.clf_tree.specs.declared.scopes.Scopes.{Scopes}
use Rattle.clf_tree.specs.Lists.{numbers_below}
use Rattle.clf_tree.specs.Hierarchy.{is_concrete}
use Rattle.clf_tree.specs.Nodes.{has_node, nodes_of, scope_of, is_within, named_by}
use Rattle.clf_tree.specs.Renaming.{IsRenaming}
use Rattle.clf_tree.proofs.Items.{and_right}
use Rattle.instance_tables.specs.Below.{is_below_scope, are_below_scopes}
use Rattle.canonical_instances.specs.Renumbering.{compare_up, absence, compare_numbers, rank, new_numbers, renumbering}
use Rattle.canonical_instances.proofs.Ranks.{Reached, rank_below, rank_reflects, ranks_permute, rank_onto}
use Rattle.canonical_instances.proofs.Orders.{numbers_total, numbers_exact, then_first, then_second}

module _ (scopes : Scopes) (es : List Entry) where
  abbrev pub new_number : Node → ℕ
  new_number m = rank (compare_numbers es m.clafer) (scope_of scopes m.clafer) m.number

  listed : (c : ℕ) → c < length scopes.of → get_or (renumbering scopes es) c [] ≡ new_numbers es (scope_of scopes c) c
  listed c h = get_or-map-range_with_len (λ (d : ℕ). new_numbers es (scope_of scopes d) d) 0 (length scopes.of) c c [] h (omega arith)

  pub renumbers : IsRenaming scopes (renumbering scopes es)
  renumbers = record {
    one_each = length-map-range_with_len (λ (d : ℕ). new_numbers es (scope_of scopes d) d) 0 (length scopes.of);
    permutes = λ c h. subst (λ xs. IsPermutation xs (numbers_below (scope_of scopes c))) (sym (listed c h))
        (ranks_permute (compare_numbers es c) (numbers_total es c) (numbers_exact es c) (scope_of scopes c));
  }

  scope_listed : (c k : ℕ) (o : Option ℕ) → slice_get scopes.of c ≡ o → k < option_map_or (λ n. n) o 0 → c < length scopes.of
  scope_listed c k None e h = let no : ⊥ = omega (arith, h) in absurd no
  scope_listed c k (Some n) e h = slice_get_within scopes.of c n e

  pub number_is : (m : Node) → m.number < scope_of scopes m.clafer
      → get_or (get_or (renumbering scopes es) m.clafer []) m.number 0 ≡ new_number m
  number_is m h =
      ap (λ xs. get_or xs m.number 0) (listed m.clafer (scope_listed m.clafer m.number (slice_get scopes.of m.clafer) refl h))
      ∙ get_or-map-range_with_len (rank (compare_numbers es m.clafer) (scope_of scopes m.clafer)) 0
      (scope_of scopes m.clafer) m.number m.number 0 h (omega arith)

  -- each number below a new one is the new number of one that comes before it
  pub earlier : (c k i : ℕ) → k < scope_of scopes c → i < rank (compare_numbers es c) (scope_of scopes c) k
      → Reached (rank (compare_numbers es c) (scope_of scopes c)) 0 (scope_of scopes c) i
  earlier c k i h less =
      let below = rank_below (compare_numbers es c) (numbers_total es c) (numbers_exact es c) (scope_of scopes c) k h in
      rank_onto (compare_numbers es c) (numbers_total es c) (numbers_exact es c) (scope_of scopes c) i (omega (arith, below, less))

  pub comes_first : (c j k : ℕ) → k < scope_of scopes c
      → rank (compare_numbers es c) (scope_of scopes c) j < rank (compare_numbers es c) (scope_of scopes c) k
      → compare_numbers es c j k ≡ Less
  comes_first c j k h less = rank_reflects (compare_numbers es c) (numbers_total es c) (numbers_exact es c) (scope_of scopes c) j k h less

-- ---- nodes that are there

abbrev lateness : Bool → ℕ
lateness b = cond b 0 1

present : (b : Bool) → b ≡ true → lateness b ≡ 0
present true h = refl
present false h = absurd (true≢false (sym h))

pub is_absent : (es : List Entry) (m : Node) → has_node (nodes_of es) m ≡ true → absence es m ≡ 0
is_absent es m h = present (has_node (nodes_of es) m) h

both_there : (es : List Entry) (m n : Node) → has_node (nodes_of es) m ≡ true → has_node (nodes_of es) n ≡ true
    → nat_cmp (absence es m) (absence es n) ≡ Equal
both_there es m n h k =
    ap (λ x. nat_cmp x (absence es n)) (is_absent es m h) ∙ ap (nat_cmp 0) (is_absent es n k)

-- of two nodes of one clafer that are there, the one with the smaller new number comes first
pub node_first : (scopes : Scopes) (es : List Entry) (m n : Node) → m.clafer ≡ n.clafer → n.number < scope_of scopes n.clafer
    → has_node (nodes_of es) m ≡ true → has_node (nodes_of es) n ≡ true
    → new_number scopes es m < new_number scopes es n → compare_up (suc (length es)) es (Some m) (Some n) ≡ Less
node_first scopes es m n same below there there' less =
    let moved : Node = record { clafer = n.clafer; number = m.number } in
    let is : m ≡ moved = ap (λ c. record { clafer = c; number = m.number }) same in
    let first = comes_first scopes es n.clafer m.number n.number below
    (subst (λ (q : Node). new_number scopes es q < new_number scopes es n) is less) in
    let tied = both_there es moved n (subst (λ (q : Node). has_node (nodes_of es) q ≡ true) is there) there' in
    subst (λ (q : Node). compare_up (suc (length es)) es (Some q) (Some n) ≡ Less) (sym is)
    (then_second (nat_cmp (absence es moved) (absence es n)) (compare_up (suc (length es)) es (Some moved) (Some n)) tied first)

was_there : (b : Bool) → is_gt (nat_cmp (lateness b) 0) ≡ false → b ≡ true
was_there true h = refl
was_there false h = absurd (true≢false h)

-- what comes before a node that is there is there
pub there_first : (es : List Entry) (c j k : ℕ) → has_node (nodes_of es) (record { clafer = c; number = k }) ≡ true
    → compare_numbers es c j k ≡ Less → has_node (nodes_of es) (record { clafer = c; number = j }) ≡ true
there_first es c j k there less =
    let m : Node = record { clafer = c; number = j } in
    let n : Node = record { clafer = c; number = k } in
    let no_later = then_first (nat_cmp (absence es m) (absence es n)) (compare_up (suc (length es)) es (Some m) (Some n)) less in
    was_there (has_node (nodes_of es) m) (ap (λ x. is_gt (nat_cmp (absence es m) x)) (sym (is_absent es n there)) ∙ no_later)

-- ---- an instance within the scopes has numbers below them

less_from : (a b : ℕ) → nat_lt a b ≡ true → a < b
less_from a b h = grind (arith, common_steps)

both : (a b : Bool) → a ≡ true → b ≡ true → (a && b) ≡ true
both true true p q = refl
both true false p q = q
both false b p q = p

left : (a b : Bool) → (a && b) ≡ true → a ≡ true
left true b h = refl
left false b h = h

module _ (clafers : List Clafer) (scopes : Scopes) where
  abbrev placed : Node → Bool
  placed n = is_concrete clafers n.clafer && nat_lt n.number (scope_of scopes n.clafer)

  numbers_fit : (ns : List Node) → list_all placed ns ≡ true → list_all (is_below_scope scopes) ns ≡ true
  numbers_fit [] h = refl
  numbers_fit (n ∷ ns) h =
      both (is_below_scope scopes n) (list_all (is_below_scope scopes) ns)
      (and_right (is_concrete clafers n.clafer) (is_below_scope scopes n) (left (placed n) (list_all placed ns) h))
      (numbers_fit ns (and_right (placed n) (list_all placed ns) h))

  pub below_scopes : (es : List Entry) → is_within clafers scopes es ≡ true → are_below_scopes scopes es ≡ true
  below_scopes [] h = refl
  below_scopes (e ∷ es) h =
      both (list_all (is_below_scope scopes) (named_by e)) (are_below_scopes scopes es)
      (numbers_fit (named_by e) (left (list_all placed (named_by e)) (is_within clafers scopes es) h))
      (below_scopes es (and_right (list_all placed (named_by e)) (is_within clafers scopes es) h))
