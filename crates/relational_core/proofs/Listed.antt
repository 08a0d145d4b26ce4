-- The nodes of a relational expression are entries of its clafers.
use Rattle.std.proofs.Common.{◌≡◌, ℕ, Bool, true, false, not, cond, ◌&&◌, ◌||◌, List, [], ◌∷◌, ◌++◌, length, replicate, Option, Some, None, refl, ap, sym, ◌∙◌, ℤ}
use Rattle.std.specs.Prelude.{neg_ℤ, ◌+ℤ◌, ◌*ℤ◌}
use Rattle.std.specs.Option.{option_map_or}
use Rattle.std.specs.List.{filter, list_any, list_all}
use Rattle.std.proofs.lemmas.Bool.{true≢false}
use Rattle.std.proofs.lemmas.List.Folds.{list_all-map}
use Rattle.clf_tree.specs.declared.token.Word.{Word}
use Rattle.clf_tree.specs.declared.token.Word.TheVariants as word
use Rattle.clf_tree.specs.declared.model.Clafer.{Clafer}
use Rattle.clf_tree.specs.declared.scopes.Scopes.{Scopes}
use Rattle.clf_tree.specs.declared.bounds.Bounds.{Bounds}
use Rattle.clf_tree.specs.declared.instance.Node.{Node}
use Rattle.clf_tree.specs.declared.instance.Entry.{Entry}
use Rattle.clf_tree.specs.declared.kind.Within.{Within}
use Rattle.clf_tree.specs.declared.kind.Kind.{Kind}
use Rattle.clf_tree.specs.declared.kind.Kind.TheVariants as kinds
use Rattle.clf_tree.specs.declared.kind.Reading.{Reading}
use Rattle.clf_tree.specs.declared.kind.Reading.TheVariants.{ByValues, ByNodes}
use Rattle.clf_tree.specs.Tree as e
use Rattle.clf_tree.specs.Tree.{Tree}
use Rattle.clf_tree.specs.Lists.{from_end, has}
use Rattle.clf_tree.specs.Nodes.{same_node, has_node, has_some, nodes_of, target_node}
use Rattle.clf_tree.specs.Kinds.{kind, clafers_of, bind_kinds, reading_of}
use Rattle.clf_tree.specs.Meaning.{Integer, nodes}
use Rattle.clf_tree.specs.Core as c
use Rattle.clf_tree.specs.Core.{Core}
use Rattle.clf_tree.specs.CoreMeaning.{meaning, those}
use Rattle.clf_tree.specs.CoreMeaning as core
use Rattle.clf_tree.specs.CoreSoundness.{sort, clafers_in, is_entry_of, are_entries}
use Rattle.clf_tree.specs.Widths.{width}
use Rattle.clf_tree.specs.Intervals.{interval}
use Rattle.relational_core.specs.Lowered.{is_possible, can_hold, can_reach, instances_of, children_of, parents_of, targets_of, either_of, both_of, dref, through, same, part, choice, quant, negative, as_truth, as_number, negated, added, multiplied, lowered}
use Rattle.relational_core.proofs.Passing.{and_parts, and_all, or_left, or_right, some_passes, all_implied, any_shows, filter_all}
use Rattle.relational_core.proofs.Bindings.{pairs-end}
use Rattle.relational_core.proofs.Constants.{negated-means, added-means, multiplied-means}
use Rattle.relational_core.proofs.Possible.{has-possible}
use Rattle.relational_core.proofs.Instances.{same-equal, listed-has, fit, parent_fits, target_fits, entry-possible}

-- a node that is the same as one that may be missing
some-same : (n : Node) (o : Option Node) → option_map_or (same_node n) o false ≡ true → o ≡ Some n
some-same n None h = absurd (true≢false (sym h))
some-same n (Some m) h = ap Some (sym (same-equal n m h))

module _ (clafers : List Clafer) (scopes : Scopes) (entries : List Entry) (all : list_all (fit clafers scopes entries) entries ≡ true) where
  abbrev pub Listed : List ℕ → List Node → Type 0
  Listed ks ns = list_all (is_entry_of entries ks) ns ≡ true

  -- what an entry fits
  pub possible-entry : (x : Entry) → fit clafers scopes entries x ≡ true → is_possible clafers scopes x.node.clafer ≡ true
  possible-entry x h =
      (and_parts (is_possible clafers scopes x.node.clafer) (has_node (nodes_of entries) x.node)
      (and_parts (is_possible clafers scopes x.node.clafer && has_node (nodes_of entries) x.node) (parent_fits clafers scopes entries x && target_fits clafers scopes entries x) h).0).0

  pub there-entry : (x : Entry) → fit clafers scopes entries x ≡ true → has_node (nodes_of entries) x.node ≡ true
  there-entry x h =
      (and_parts (is_possible clafers scopes x.node.clafer) (has_node (nodes_of entries) x.node)
      (and_parts (is_possible clafers scopes x.node.clafer && has_node (nodes_of entries) x.node) (parent_fits clafers scopes entries x && target_fits clafers scopes entries x) h).0).1

  pub holding : (x : Entry) (p : Node) → fit clafers scopes entries x ≡ true → x.parent ≡ Some p → can_hold clafers p.clafer x.node.clafer ≡ true
  holding x p h e =
      let fits = (and_parts (parent_fits clafers scopes entries x) (target_fits clafers scopes entries x)
      (and_parts (is_possible clafers scopes x.node.clafer && has_node (nodes_of entries) x.node) (parent_fits clafers scopes entries x && target_fits clafers scopes entries x) h).1).0 in
      let here = ap (λ o. option_map_or (λ q. has_node (nodes_of entries) q && can_hold clafers q.clafer x.node.clafer) o true) (sym e) ∙ fits in
      (and_parts (has_node (nodes_of entries) p) (can_hold clafers p.clafer x.node.clafer) here).1

  reaching : (x : Entry) (t : Node) → fit clafers scopes entries x ≡ true → target_node x ≡ Some t → can_reach clafers x.node.clafer t.clafer ≡ true
  reaching x t h e =
      let fits = (and_parts (parent_fits clafers scopes entries x) (target_fits clafers scopes entries x)
      (and_parts (is_possible clafers scopes x.node.clafer && has_node (nodes_of entries) x.node) (parent_fits clafers scopes entries x && target_fits clafers scopes entries x) h).1).1 in
      let here = ap (λ o. option_map_or (λ q. has_node (nodes_of entries) q && can_reach clafers x.node.clafer q.clafer) o true) (sym e) ∙ fits in
      (and_parts (has_node (nodes_of entries) t) (can_reach clafers x.node.clafer t.clafer) here).1

  pub clafer-in : (ks : List ℕ) (ns : List Node) (n : Node) → Listed ks ns → has_node ns n ≡ true → has ks n.clafer ≡ true
  clafer-in ks ns n listed h = (and_parts (has ks n.clafer) (has_node (nodes_of entries) n) (listed-has (is_entry_of entries ks) ns n listed h)).0

  -- entries that pass a test
  pub those-listed : (ks : List ℕ) (test : Entry → Bool) → ((x : Entry) → fit clafers scopes entries x ≡ true → test x ≡ true → has ks x.node.clafer ≡ true) → Listed ks (those entries test)
  those-listed ks test step =
      list_all-map (is_entry_of entries ks) (λ (x : Entry). x.node) (filter test entries)
      ∙ filter_all (fit clafers scopes entries) test (λ x. is_entry_of entries ks x.node) entries all
      (λ x g h. and_all (has ks x.node.clafer) (has_node (nodes_of entries) x.node) (step x g h) (there-entry x g))

  every-listed : (ks : List ℕ) → Listed ks (those entries (λ x. has ks x.node.clafer))
  every-listed ks = those-listed ks (λ x. has ks x.node.clafer) (λ x g h. h)

  down-listed : (ks : List ℕ) (ns : List Node) → Listed ks (those entries (λ x. has ks x.node.clafer && has_some ns x.parent))
  down-listed ks ns = those-listed ks (λ x. has ks x.node.clafer && has_some ns x.parent) (λ x g h. (and_parts (has ks x.node.clafer) (has_some ns x.parent) h).0)

  up-listed : (ls : List ℕ) (ns : List Node) → Listed ls ns → Listed (parents_of clafers scopes ls) (core.parents_of entries ns)
  up-listed ls ns listed =
      let below : Entry → Entry → Bool = λ p x. has_node ns x.node && option_map_or (same_node p.node) x.parent false in
      those-listed (parents_of clafers scopes ls) (λ p. list_any (below p) entries)
      (λ p g h. has-possible clafers scopes (λ d. list_any (can_hold clafers d) ls) p.node.clafer (possible-entry p g)
      ∙ any_shows (fit clafers scopes entries) (below p) (list_any (can_hold clafers p.node.clafer) ls) entries all
      (λ x f k. let j = and_parts (has_node ns x.node) (option_map_or (same_node p.node) x.parent false) k in
      some_passes (can_hold clafers p.node.clafer) ls x.node.clafer (clafer-in ls ns x.node listed j.0) (holding x p.node f (some-same p.node x.parent j.1))) h)

  follow-listed : (ls : List ℕ) (ns : List Node) → Listed ls ns → Listed (targets_of clafers scopes ls) (core.targets_of entries ns)
  follow-listed ls ns listed =
      let from : Entry → Entry → Bool = λ t x. has_node ns x.node && option_map_or (same_node t.node) (target_node x) false in
      those-listed (targets_of clafers scopes ls) (λ t. list_any (from t) entries)
      (λ t g h. has-possible clafers scopes (λ d. list_any (λ x. can_reach clafers x d) ls) t.node.clafer (possible-entry t g)
      ∙ any_shows (fit clafers scopes entries) (from t) (list_any (λ x. can_reach clafers x t.node.clafer) ls) entries all
      (λ x f k. let j = and_parts (has_node ns x.node) (option_map_or (same_node t.node) (target_node x) false) k in
      some_passes (λ y. can_reach clafers y t.node.clafer) ls x.node.clafer (clafer-in ls ns x.node listed j.0) (reaching x t.node f (some-same t.node (target_node x) j.1))) h)

  -- a node of one of two lists is listed in both together
  left-listed : (ks ls : List ℕ) (n : Node) → is_entry_of entries ks n ≡ true → is_entry_of entries (either_of clafers scopes ks ls) n ≡ true
  left-listed ks ls n h =
      let j = and_parts (has ks n.clafer) (has_node (nodes_of entries) n) h in
      and_all (has (either_of clafers scopes ks ls) n.clafer) (has_node (nodes_of entries) n)
      (has-possible clafers scopes (λ d. has ks d || has ls d) n.clafer (entry-possible clafers scopes entries all n j.1) ∙ or_left (has ks n.clafer) (has ls n.clafer) j.0) j.1

  right-listed : (ks ls : List ℕ) (n : Node) → is_entry_of entries ls n ≡ true → is_entry_of entries (either_of clafers scopes ks ls) n ≡ true
  right-listed ks ls n h =
      let j = and_parts (has ls n.clafer) (has_node (nodes_of entries) n) h in
      and_all (has (either_of clafers scopes ks ls) n.clafer) (has_node (nodes_of entries) n)
      (has-possible clafers scopes (λ d. has ks d || has ls d) n.clafer (entry-possible clafers scopes entries all n j.1) ∙ or_right (has ks n.clafer) (has ls n.clafer) j.0) j.1

  union-listed : (ks ls : List ℕ) (ms ns : List Node) → Listed ks ms → Listed ls ns → Listed (either_of clafers scopes ks ls) (those entries (λ x. has_node ms x.node || has_node ns x.node))
  union-listed ks ls ms ns left right =
      those-listed (either_of clafers scopes ks ls) (λ x. has_node ms x.node || has_node ns x.node)
      (λ x g h. has-possible clafers scopes (λ d. has ks d || has ls d) x.node.clafer (possible-entry x g) ∙ pick x (has_node ms x.node) refl h)
    where
      pick : (x : Entry) (b : Bool) → has_node ms x.node ≡ b → (b || has_node ns x.node) ≡ true → (has ks x.node.clafer || has ls x.node.clafer) ≡ true
      pick x true f h = or_left (has ks x.node.clafer) (has ls x.node.clafer) (clafer-in ks ms x.node left f)
      pick x false f h = or_right (has ks x.node.clafer) (has ls x.node.clafer) (clafer-in ls ns x.node right h)

  minus-listed : (ks : List ℕ) (ms : List Node) (p : Node → Bool) → Listed ks ms → Listed ks (filter p ms)
  minus-listed ks ms p listed = filter_all (is_entry_of entries ks) p (is_entry_of entries ks) ms listed (λ n g h. g)

  meet-listed : (ks ls : List ℕ) (ms ns : List Node) → Listed ks ms → Listed ls ns → Listed (both_of clafers scopes ks ls) (filter (has_node ns) ms)
  meet-listed ks ls ms ns left right =
      filter_all (is_entry_of entries ks) (has_node ns) (is_entry_of entries (both_of clafers scopes ks ls)) ms left
      (λ n g h. let j = and_parts (has ks n.clafer) (has_node (nodes_of entries) n) g in
      and_all (has (both_of clafers scopes ks ls) n.clafer) (has_node (nodes_of entries) n)
      (has-possible clafers scopes (λ d. has ks d && has ls d) n.clafer (entry-possible clafers scopes entries all n j.1)
      ∙ and_all (has ks n.clafer) (has ls n.clafer) j.0 (clafer-in ls ns n right h)) j.1)

  chosen-listed : (ks ls : List ℕ) (b : Bool) (ms ns : List Node) → Listed ks ms → Listed ls ns → Listed (either_of clafers scopes ks ls) (cond b ms ns)
  chosen-listed ks ls true ms ns left right = all_implied (is_entry_of entries ks) (is_entry_of entries (either_of clafers scopes ks ls)) ms (left-listed ks ls) left
  chosen-listed ks ls false ms ns left right = all_implied (is_entry_of entries ls) (is_entry_of entries (either_of clafers scopes ks ls)) ns (right-listed ks ls) right

  bound-listed : (g : List (List ℕ)) (bound : List Node) (i : ℕ) (o : Option Node) → are_entries entries g bound ≡ true → from_end bound i ≡ o
      → Listed (option_map_or (λ ks. ks) (from_end g i) []) (option_map_or (λ n. n ∷ []) o [])
  bound-listed g bound i None are e = refl
  bound-listed g bound i (Some n) are e =
      let p = pairs-end (is_entry_of entries) g bound i n are e in
      and_all (is_entry_of entries (option_map_or (λ ks. ks) (from_end g i) []) n) true
      (ap (λ o. is_entry_of entries (option_map_or (λ ks. ks) o []) n) p.at ∙ p.pass) refl

  -- of a relational expression
  abbrev pub IsListed : Core → List Node → Type 0
  IsListed a bound = Listed (clafers_in (sort a)) (nodes (meaning entries a bound))

  follow-safe : (a : Core) (bound : List Node) → IsListed a bound → Listed (targets_of clafers scopes (clafers_in (sort a))) (core.targets_of entries (nodes (meaning entries a bound)))
  follow-safe a bound h = follow-listed (clafers_in (sort a)) (nodes (meaning entries a bound)) h

  dref-safe : (k : Option Kind) (a : Core) (bound : List Node) → IsListed a bound → IsListed (dref clafers scopes k a) bound
  dref-safe None a bound h = follow-safe a bound h
  dref-safe (Some kinds.Truth) a bound h = follow-safe a bound h
  dref-safe (Some kinds.Integer) a bound h = follow-safe a bound h
  dref-safe (Some (kinds.Nodes ks)) a bound h = follow-safe a bound h
  dref-safe (Some (kinds.Numbers ks)) a bound h = h

  pub through-safe : (follow : Bool) (a : Core) (bound : List Node) → IsListed a bound → IsListed (through clafers scopes follow a) bound
  through-safe true a bound h = follow-safe a bound h
  through-safe false a bound h = h

  same-safe : (r : Option Reading) (a b : Core) (bound : List Node) → IsListed (same clafers scopes r a b) bound
  same-safe None a b bound = refl
  same-safe (Some ByValues) a b bound = refl
  same-safe (Some (ByNodes left right)) a b bound = refl

  part-safe : (r : Option Reading) (a b : Core) (bound : List Node) → IsListed (part clafers scopes r a b) bound
  part-safe None a b bound = refl
  part-safe (Some ByValues) a b bound = refl
  part-safe (Some (ByNodes left right)) a b bound = refl

  quant-safe : (w : Word) (disj : Bool) (n : ℕ) (over body : Core) (bound : List Node) → IsListed (quant w disj n over body) bound
  quant-safe word.All disj n over body bound = refl
  quant-safe word.Some disj n over body bound = refl
  quant-safe word.No disj n over body bound = refl
  quant-safe word.One disj n over body bound = refl
  quant-safe word.Lone disj n over body bound = refl
  quant-safe _ disj n over body bound = refl

  choice-nodes : (t a b : Core) (bound : List Node) → IsListed a bound → IsListed b bound → IsListed (c.ChooseNodes (either_of clafers scopes (clafers_in (sort a)) (clafers_in (sort b))) t a b) bound
  choice-nodes t a b bound h k =
      chosen-listed (clafers_in (sort a)) (clafers_in (sort b)) (core.truth_in (meaning entries t bound)) (nodes (meaning entries a bound)) (nodes (meaning entries b bound)) h k

  choice-safe : (kind k l : Option Kind) (z x y : Bounds) (t a b : Core) (bound : List Node) → IsListed a bound → IsListed b bound → IsListed (choice clafers scopes kind z k l x y t a b) bound
  choice-safe (Some kinds.Truth) k l z x y t a b bound h j = refl
  choice-safe (Some kinds.Integer) k l z x y t a b bound h j = refl
  choice-safe None k l z x y t a b bound h j = choice-nodes t a b bound h j
  choice-safe (Some (kinds.Nodes ks)) k l z x y t a b bound h j = choice-nodes t a b bound h j
  choice-safe (Some (kinds.Numbers ks)) k l z x y t a b bound h j = choice-nodes t a b bound h j

  -- an integer has no nodes
  integer-safe : (a : Core) (bound : List Node) (z : ℤ) → meaning entries a bound ≡ Integer z → IsListed a bound
  integer-safe a bound z h = ap (λ v. list_all (is_entry_of entries (clafers_in (sort a))) (nodes v)) h

  abbrev as_integer : Tree → Within → List (List ℕ) → Core
  as_integer t w g = as_number (kind clafers t w) (interval clafers scopes t w) (lowered clafers scopes t w g)

  abbrev integer_of : Core → List Node → ℤ
  integer_of a bound = core.integer_in (meaning entries a bound)

  pub safe : (t : Tree) (w : Within) (g : List (List ℕ)) (bound : List Node) → are_entries entries g bound ≡ true → IsListed (lowered clafers scopes t w g) bound
  safe (e.This _) w g bound are = bound-listed g bound (length w.bound) (from_end bound (length w.bound)) are refl
  safe (e.Variable _ i) w g bound are = bound-listed g bound i (from_end bound i) are refl
  safe (e.Clafer _ k) w g bound are = every-listed (instances_of clafers scopes (k ∷ []))
  safe (e.Name _ _) w g bound are = every-listed (instances_of clafers scopes [])
  safe (e.Join _ _ _) w g bound are = every-listed (instances_of clafers scopes [])
  safe (e.Step _ of into follow) w g bound are =
      down-listed (children_of clafers scopes into (clafers_in (sort (through clafers scopes follow (lowered clafers scopes of w g)))))
      (nodes (meaning entries (through clafers scopes follow (lowered clafers scopes of w g)) bound))
  safe (e.Parent _ a) w g bound are = up-listed (clafers_in (sort (lowered clafers scopes a w g))) (nodes (meaning entries (lowered clafers scopes a w g) bound)) (safe a w g bound are)
  safe (e.Dref at a) w g bound are = dref-safe (kind clafers (e.Dref at a) w) (lowered clafers scopes a w g) bound (safe a w g bound are)
  safe (e.Union _ a b) w g bound are =
      union-listed (clafers_in (sort (lowered clafers scopes a w g))) (clafers_in (sort (lowered clafers scopes b w g)))
      (nodes (meaning entries (lowered clafers scopes a w g) bound)) (nodes (meaning entries (lowered clafers scopes b w g) bound)) (safe a w g bound are) (safe b w g bound are)
  safe (e.Minus _ a b) w g bound are =
      minus-listed (clafers_in (sort (lowered clafers scopes a w g))) (nodes (meaning entries (lowered clafers scopes a w g) bound))
      (λ n. not (has_node (nodes (meaning entries (lowered clafers scopes b w g) bound)) n)) (safe a w g bound are)
  safe (e.Meet _ a b) w g bound are =
      meet-listed (clafers_in (sort (lowered clafers scopes a w g))) (clafers_in (sort (lowered clafers scopes b w g)))
      (nodes (meaning entries (lowered clafers scopes a w g) bound)) (nodes (meaning entries (lowered clafers scopes b w g) bound)) (safe a w g bound are) (safe b w g bound are)
  safe (e.If at t a b) w g bound are =
      choice-safe (kind clafers (e.If at t a b) w) (kind clafers a w) (kind clafers b w) (interval clafers scopes (e.If at t a b) w) (interval clafers scopes a w) (interval clafers scopes b w)
      (as_truth (kind clafers t w) (lowered clafers scopes t w g)) (lowered clafers scopes a w g) (lowered clafers scopes b w g) bound (safe a w g bound are) (safe b w g bound are)
  safe (e.Equal _ a b) w g bound are = same-safe (reading_of clafers (kind clafers a w) (kind clafers b w)) (lowered clafers scopes a w g) (lowered clafers scopes b w g) bound
  safe (e.In _ a b) w g bound are = part-safe (reading_of clafers (kind clafers a w) (kind clafers b w)) (lowered clafers scopes a w g) (lowered clafers scopes b w g) bound
  safe (e.Quant _ word disj names over body) w g bound are =
      quant-safe word disj (length names) (lowered clafers scopes over w g)
      (as_truth (kind clafers body (bind_kinds (clafers_of (kind clafers over w)) (length names) w))
      (lowered clafers scopes body (bind_kinds (clafers_of (kind clafers over w)) (length names) w) (g ++ replicate (length names) (clafers_in (sort (lowered clafers scopes over w g)))))) bound
  safe (e.Neg at a) w g bound are =
      let bits = width (interval clafers scopes (e.Neg at a) w) in
      let x = as_integer a w g in
      integer-safe (negated bits x) bound (neg_ℤ (integer_of x bound)) (negated-means entries bound bits x)
  safe (e.Add at a b) w g bound are =
      let bits = width (interval clafers scopes (e.Add at a b) w) in
      let x = as_integer a w g in let y = as_integer b w g in
      integer-safe (added bits x y) bound (integer_of x bound +ℤ integer_of y bound) (added-means entries bound bits x y)
  safe (e.Sub at a b) w g bound are =
      let bits = width (interval clafers scopes (e.Sub at a b) w) in
      let x = as_integer a w g in let y = negated (width (negative (interval clafers scopes b w))) (as_integer b w g) in
      integer-safe (added bits x y) bound (integer_of x bound +ℤ integer_of y bound) (added-means entries bound bits x y)
  safe (e.Mul at a b) w g bound are =
      let bits = width (interval clafers scopes (e.Mul at a b) w) in
      let x = as_integer a w g in let y = as_integer b w g in
      integer-safe (multiplied bits x y) bound (integer_of x bound *ℤ integer_of y bound) (multiplied-means entries bound bits x y)
  safe _ w g bound are = refl
