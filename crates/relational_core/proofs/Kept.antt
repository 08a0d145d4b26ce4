-- The relational expression of an expression means the same.
use Rattle.std.proofs.Common.{◌≡◌, ℕ, Bool, true, false, not, cond, ◌&&◌, ◌||◌, ◌+◌, ◌<◌, List, [], ◌∷◌, ◌++◌, length, Option, Some, None, refl, ap, sym, subst, ◌∙◌, arith, ℤ, pos, negsuc, suc, ◌≤◌, ◌⊎◌, inl, inr, leb}
use Rattle.std.specs.Prelude.{◌==◌, is_some, nat_lt, nat_le, ◌+ℤ◌, ◌*ℤ◌, neg_ℤ, int_lt, int_le, replicate}
use Rattle.std.specs.Option.{option_map, option_map_or, option_to_list}
use Rattle.std.specs.List.{list_all, list_any, filter}
use Rattle.std.proofs.lemmas.List.{append_assoc, length-append, length-replicate}
use Rattle.std.proofs.lemmas.List.Folds.{list_all-map}
use Rattle.std.proofs.lemmas.Bool.{true≢false}
use Rattle.std.proofs.lemmas.Bool.Decides.{leb_tells}
use Rattle.clf_tree.specs.declared.token.Word.{Word}
use Rattle.clf_tree.specs.declared.token.Word.TheVariants as word
use Rattle.clf_tree.specs.declared.model.Clafer.{Clafer}
use Rattle.clf_tree.specs.declared.scopes.Scopes.{Scopes}
use Rattle.clf_tree.specs.declared.instance.Node.{Node}
use Rattle.clf_tree.specs.declared.instance.Entry.{Entry}
use Rattle.clf_tree.specs.declared.kind.Within.{Within}
use Rattle.clf_tree.specs.declared.kind.Kind.{Kind}
use Rattle.clf_tree.specs.declared.kind.Kind.TheVariants as kinds
use Rattle.clf_tree.specs.Tree as e
use Rattle.clf_tree.specs.Tree.{Tree}
use Rattle.clf_tree.specs.Lists.{from_end, has, tuples}
use Rattle.clf_tree.specs.Shape.{instances}
use Rattle.clf_tree.specs.Satisfies.{Law, outside, at_instance, holds, value_outside}
use Rattle.clf_tree.specs.Hierarchy.{is_one_of, is_a}
use Rattle.clf_tree.specs.Nodes.{has_node, has_some, nodes_of}
use Rattle.clf_tree.specs.Kinds.{kind, clafers_of, bind_kinds, reading_of}
use Rattle.clf_tree.specs.Typed.{is_typed, fits_truth, fits_number, fits_nodes, fits_sum, fit_together, fit_choice, fit_sides}
use Rattle.clf_tree.specs.Meaning.{Value, Truth, Integer, Nodes, Situation, value, is_true, nodes, number, nodes_where, parents, tried, quantified, bind}
use Rattle.clf_tree.specs.Meaning as source
use Rattle.clf_tree.specs.Widths.{width}
use Rattle.clf_tree.specs.Intervals.{interval}
use Rattle.clf_tree.specs.Core as c
use Rattle.clf_tree.specs.Core.{Core}
use Rattle.clf_tree.specs.CoreMeaning.{meaning, truth_in, integer_in, those}
use Rattle.clf_tree.specs.CoreSoundness.{sort, clafers_in, is_entry_of, are_entries}
use Rattle.int_widths.specs.Narrow.{within_context}
use Rattle.relational_core.specs.Conditions.{is_typed_law, is_typed_goal}
use Rattle.relational_core.specs.Lowered.{as_truth, as_number, negative, negated, quant, through, instances_of, children_of, can_hold, lowered, lowered_law, lowered_goal}
use Rattle.relational_core.proofs.Passing.{both, and_parts, and_all, or_false, and_false, and_true, some_passes, filter_all, filter_agree}
use Rattle.relational_core.proofs.Bindings.{from_end-this, from_end-within, bound_below, pairs-append}
use Rattle.relational_core.proofs.Constants.{negated-means, added-means, multiplied-means}
use Rattle.relational_core.proofs.Possible.{has-possible}
use Rattle.relational_core.proofs.Instances.{fit}
use Rattle.relational_core.proofs.Listed.{Listed, possible-entry, there-entry, holding, clafer-in, through-safe, safe}
use Rattle.relational_core.proofs.Quantifiers.{Fits, tried-fit, quantified-agree}
use Rattle.relational_core.proofs.Sorts.{sorted}
use Rattle.relational_core.proofs.Readings.{is-nodes, truth-reading, number-reading, through-reading, dref-reading, equal-reading, part-reading, choice-reading}

-- the bound nodes of a situation: that of `this`, then those of the variables
abbrev pub bound_in : Situation → List Node
bound_in s = option_to_list s.this ++ s.bound

iff : (a b : Bool) → not (cond a (not b) b) ≡ cond a b (not b)
iff true true = refl
iff true false = refl
iff false b = refl

not_below : (a b : ℕ) → not (nat_lt b a) ≡ nat_le a b
not_below a b = pick (leb_tells (suc b) a) (leb_tells a b)
  where
    pick : ((leb (suc b) a ≡ true) × (suc b ≤ a)) ⊎ ((leb (suc b) a ≡ false) × (a < suc b)) → ((leb a b ≡ true) × (a ≤ b)) ⊎ ((leb a b ≡ false) × (b < a)) → not (nat_lt b a) ≡ nat_le a b
    pick (inl h) (inl j) = absurd (omega (arith, h.1, j.1))
    pick (inl h) (inr j) = ap not h.0 ∙ sym j.0
    pick (inr h) (inl j) = ap not h.0 ∙ sym j.0
    pick (inr h) (inr j) = absurd (omega (arith, h.1, j.1))

not_less : (a b : ℤ) → not (int_lt b a) ≡ int_le a b
not_less (pos a) (pos b) = not_below a b
not_less (pos a) (negsuc b) = refl
not_less (negsuc a) (pos b) = refl
not_less (negsuc a) (negsuc b) = not_below b a

sum_nodes : (clafers : List Clafer) (k : Option Kind) → fits_sum clafers k ≡ true → fits_nodes k ≡ true
sum_nodes clafers (Some (kinds.Nodes ks)) f = refl
sum_nodes clafers None f = f
sum_nodes clafers (Some _) f = f

there_is : {X Y : Type 0} (f : X → Y) (o : Option X) → is_some (option_map f o) ≡ true → is_some o ≡ true
there_is f None h = h
there_is f (Some x) h = refl

-- the parts of a test of four, of three, and of five parts
pub four : (a b c d : Bool) → (a && b && c && d) ≡ true → (a ≡ true) × (b ≡ true) × (c ≡ true) × (d ≡ true)
four a b c d h =
    let i = and_parts (a && b && c) d h in let j = and_parts (a && b) c i.0 in let k = and_parts a b j.0 in (k.0, k.1, j.1, i.1)

pub three : (a b c : Bool) → (a && b && c) ≡ true → (a ≡ true) × (b ≡ true) × (c ≡ true)
three a b c h = let j = and_parts (a && b) c h in let k = and_parts a b j.0 in (k.0, k.1, j.1)

-- two operands, each with its kind, in either order of the tests
pub crossed : (a b f g : Bool) → (a && b && f && g) ≡ true → ((a && f) && (b && g)) ≡ true
crossed a b f g h = let j = four a b f g h in and_all (a && f) (b && g) (and_all a f j.0 j.2) (and_all b g j.1 j.3)

-- the situation within a quantifier has a node for each clafer
bind-length : (ks : List ℕ) (ns : List Node) (s : Situation) → length s.bound ≡ length s.within.bound → length (s.bound ++ ns) ≡ length (s.within.bound ++ replicate (length ns) ks)
bind-length ks ns s l = length-append s.bound ns ∙ ap (λ n. n + length ns) l ∙ ap (λ n. length s.within.bound + n) (sym (length-replicate (length ns) ks)) ∙ sym (length-append s.within.bound (replicate (length ns) ks))

-- items that pass a test with one other item, paired with copies of it
pub replicated : (entries : List Entry) (ks : List ℕ) (ns : List Node) → list_all (is_entry_of entries ks) ns ≡ true → are_entries entries (replicate (length ns) ks) ns ≡ true
replicated entries ks [] h = refl
replicated entries ks (n ∷ ns) h =
    let j = and_parts (is_entry_of entries ks n) (list_all (is_entry_of entries ks) ns) h in
    and_all (is_entry_of entries ks n) (are_entries entries (replicate (length ns) ks) ns) j.0 (replicated entries ks ns j.1)

-- the bound nodes of a situation are entries of the given clafers
pub record Placed (entries : List Entry) (g : List (List ℕ)) (s : Situation) : Type 0 where
  pub long : length s.bound ≡ length s.within.bound
  pub here : are_entries entries g (bound_in s) ≡ true

module _ (clafers : List Clafer) (scopes : Scopes) (entries : List Entry) (all : list_all (fit clafers scopes entries) entries ≡ true) where
  -- the relational expression has the value of the expression
  abbrev pub Kept : Tree → Situation → List (List ℕ) → Type 0
  Kept t s g = meaning entries (lowered clafers scopes t s.within g) (bound_in s) ≡ value clafers entries t s

  abbrev pub tested : Tree → Within → List (List ℕ) → Core
  tested t w g = as_truth (kind clafers t w) (lowered clafers scopes t w g)

  abbrev pub counted : Tree → Within → List (List ℕ) → Core
  counted t w g = as_number (kind clafers t w) (interval clafers scopes t w) (lowered clafers scopes t w g)

  abbrev pub IsTested : Tree → Situation → List (List ℕ) → Type 0
  IsTested t s g = meaning entries (tested t s.within g) (bound_in s) ≡ Truth (is_true (value clafers entries t s))

  abbrev pub IsCounted : Tree → Situation → List (List ℕ) → Type 0
  IsCounted t s g = meaning entries (counted t s.within g) (bound_in s) ≡ Integer (number clafers entries (value clafers entries t s))

  test : (t : Tree) (s : Situation) (g : List (List ℕ)) → (is_typed clafers t s.within && fits_truth (kind clafers t s.within)) ≡ true → (is_typed clafers t s.within ≡ true → Kept t s g) → IsTested t s g
  test t s g f law =
      let h = and_parts (is_typed clafers t s.within) (fits_truth (kind clafers t s.within)) f in
      truth-reading clafers scopes entries (bound_in s) (kind clafers t s.within) (lowered clafers scopes t s.within g) (value clafers entries t s) (law h.0) (sorted clafers entries t s) h.1

  pub count : (t : Tree) (s : Situation) (g : List (List ℕ)) → (is_typed clafers t s.within && fits_number clafers (kind clafers t s.within)) ≡ true → (is_typed clafers t s.within ≡ true → Kept t s g) → IsCounted t s g
  count t s g f law =
      let h = and_parts (is_typed clafers t s.within) (fits_number clafers (kind clafers t s.within)) f in
      number-reading clafers scopes entries (bound_in s) (kind clafers t s.within) (interval clafers scopes t s.within) (lowered clafers scopes t s.within g) (value clafers entries t s) (law h.0)
      (sorted clafers entries t s) h.1

  -- two parts in truth position, or in integer position
  tests : {Z : Type 0} (f : Value → Value → Z) (a b : Tree) (s : Situation) (g : List (List ℕ))
      → (is_typed clafers a s.within && is_typed clafers b s.within && fits_truth (kind clafers a s.within) && fits_truth (kind clafers b s.within)) ≡ true
      → (is_typed clafers a s.within ≡ true → Kept a s g) → (is_typed clafers b s.within ≡ true → Kept b s g)
      → f (meaning entries (tested a s.within g) (bound_in s)) (meaning entries (tested b s.within g) (bound_in s))
      ≡ f (Truth (is_true (value clafers entries a s))) (Truth (is_true (value clafers entries b s)))
  tests f a b s g typed left right =
      let h = and_parts (is_typed clafers a s.within && fits_truth (kind clafers a s.within)) (is_typed clafers b s.within && fits_truth (kind clafers b s.within))
      (crossed (is_typed clafers a s.within) (is_typed clafers b s.within) (fits_truth (kind clafers a s.within)) (fits_truth (kind clafers b s.within)) typed) in
      both f (test a s g h.0 left) (test b s g h.1 right)

  counts : {Z : Type 0} (f : Value → Value → Z) (a b : Tree) (s : Situation) (g : List (List ℕ))
      → ((is_typed clafers a s.within && fits_number clafers (kind clafers a s.within)) && (is_typed clafers b s.within && fits_number clafers (kind clafers b s.within))) ≡ true
      → (is_typed clafers a s.within ≡ true → Kept a s g) → (is_typed clafers b s.within ≡ true → Kept b s g)
      → f (meaning entries (counted a s.within g) (bound_in s)) (meaning entries (counted b s.within g) (bound_in s))
      ≡ f (Integer (number clafers entries (value clafers entries a s))) (Integer (number clafers entries (value clafers entries b s)))
  counts f a b s g typed left right =
      let h = and_parts (is_typed clafers a s.within && fits_number clafers (kind clafers a s.within)) (is_typed clafers b s.within && fits_number clafers (kind clafers b s.within)) typed in
      both f (count a s g h.0 left) (count b s g h.1 right)

  -- a part, or two, as they are
  plain : {Z : Type 0} (f : Value → Z) (a : Tree) (s : Situation) (g : List (List ℕ)) (p : Bool) → (is_typed clafers a s.within && p) ≡ true → (is_typed clafers a s.within ≡ true → Kept a s g)
      → f (meaning entries (lowered clafers scopes a s.within g) (bound_in s)) ≡ f (value clafers entries a s)
  plain f a s g p h law = ap f (law (and_parts (is_typed clafers a s.within) p h).0)

  plains : {Z : Type 0} (f : Value → Value → Z) (a b : Tree) (s : Situation) (g : List (List ℕ)) → is_typed clafers a s.within ≡ true → is_typed clafers b s.within ≡ true
      → (is_typed clafers a s.within ≡ true → Kept a s g) → (is_typed clafers b s.within ≡ true → Kept b s g)
      → f (meaning entries (lowered clafers scopes a s.within g) (bound_in s)) (meaning entries (lowered clafers scopes b s.within g) (bound_in s))
      ≡ f (value clafers entries a s) (value clafers entries b s)
  plains f a b s g h k left right = both f (left h) (right k)

  -- the instances of a clafer
  clafer-kept : (k : ℕ) → those entries (λ x. has (instances_of clafers scopes (k ∷ [])) x.node.clafer) ≡ nodes_where clafers entries (λ x. is_a clafers x.node.clafer k)
  clafer-kept k =
      ap nodes_of (filter_agree (fit clafers scopes entries) (λ x. has (instances_of clafers scopes (k ∷ [])) x.node.clafer) (λ x. is_a clafers x.node.clafer k) entries all
      (λ x f. has-possible clafers scopes (is_one_of clafers (k ∷ [])) x.node.clafer (possible-entry clafers scopes entries all x f) ∙ or_false (is_a clafers x.node.clafer k)))

  -- a listed clafer below a node is one that the node can hold
  child-agree : (into ls : List ℕ) (ns : List Node) → Listed clafers scopes entries all ls ns → (x : Entry) → fit clafers scopes entries x ≡ true
      → (has (children_of clafers scopes into ls) x.node.clafer && has_some ns x.parent) ≡ (is_one_of clafers into x.node.clafer && has_some ns x.parent)
  child-agree into ls ns listed x f =
      ap (λ b. b && has_some ns x.parent) (has-possible clafers scopes (λ d. is_one_of clafers into d && list_any (λ p. can_hold clafers p d) ls) x.node.clafer (possible-entry clafers scopes entries all x f))
      ∙ pick x.parent refl
    where
      pick : (o : Option Node) → x.parent ≡ o → ((is_one_of clafers into x.node.clafer && list_any (λ p. can_hold clafers p x.node.clafer) ls) && has_some ns o) ≡ (is_one_of clafers into x.node.clafer && has_some ns o)
      pick None e = and_false (is_one_of clafers into x.node.clafer && list_any (λ p. can_hold clafers p x.node.clafer) ls) ∙ sym (and_false (is_one_of clafers into x.node.clafer))
      pick (Some p) e = again (has_node ns p) refl
        where
          again : (b : Bool) → has_node ns p ≡ b → ((is_one_of clafers into x.node.clafer && list_any (λ q. can_hold clafers q x.node.clafer) ls) && b) ≡ (is_one_of clafers into x.node.clafer && b)
          again false h = and_false (is_one_of clafers into x.node.clafer && list_any (λ q. can_hold clafers q x.node.clafer) ls) ∙ sym (and_false (is_one_of clafers into x.node.clafer))
          again true h =
              ap (λ b. (is_one_of clafers into x.node.clafer && b) && true)
              (some_passes (λ q. can_hold clafers q x.node.clafer) ls p.clafer (clafer-in clafers scopes entries all ls ns p listed h) (holding clafers scopes entries all x p f e))
              ∙ ap (λ b. b && true) (and_true (is_one_of clafers into x.node.clafer))

  step-kept : (of : Tree) (into : List ℕ) (follow : Bool) (s : Situation) (g : List (List ℕ)) → are_entries entries g (bound_in s) ≡ true → Kept of s g
      → meaning entries (c.Down (children_of clafers scopes into (clafers_in (sort (through clafers scopes follow (lowered clafers scopes of s.within g))))) (through clafers scopes follow (lowered clafers scopes of s.within g))) (bound_in s)
      ≡ Nodes (source.children clafers entries into (source.through clafers entries follow (nodes (value clafers entries of s))))
  step-kept of into follow s g here law =
      let a = through clafers scopes follow (lowered clafers scopes of s.within g) in
      let ls = clafers_in (sort a) in
      let ns = nodes (meaning entries a (bound_in s)) in
      ap (λ xs. Nodes (nodes_of xs)) (filter_agree (fit clafers scopes entries) (λ x. has (children_of clafers scopes into ls) x.node.clafer && has_some ns x.parent) (λ x. is_one_of clafers into x.node.clafer && has_some ns x.parent) entries all
      (child-agree into ls ns (through-safe clafers scopes entries all follow (lowered clafers scopes of s.within g) (bound_in s) (safe clafers scopes entries all of s.within g (bound_in s) here))))
      ∙ ap (λ ms. Nodes (source.children clafers entries into ms))
      (through-reading clafers scopes entries (bound_in s) follow (lowered clafers scopes of s.within g) (value clafers entries of s) law)

  body-kept : (body : Tree) (ks ls : List ℕ) (ns : List Node) (n : ℕ) (s : Situation) (g : List (List ℕ))
      → (is_typed clafers body (bind_kinds ks n s.within) && fits_truth (kind clafers body (bind_kinds ks n s.within))) ≡ true
      → (is_typed clafers body (bind_kinds ks (length ns) s.within) ≡ true → Kept body (bind ks ns s) (g ++ replicate (length ns) ls)) → length ns ≡ n
      → truth_in (meaning entries (tested body (bind_kinds ks n s.within) (g ++ replicate n ls)) (bound_in s ++ ns))
      ≡ is_true (value clafers entries body (bind ks ns s))
  body-kept body ks ls ns n s g f law long =
      subst (λ m. (is_typed clafers body (bind_kinds ks m s.within) && fits_truth (kind clafers body (bind_kinds ks m s.within))) ≡ true
      → truth_in (meaning entries (tested body (bind_kinds ks m s.within) (g ++ replicate m ls)) (bound_in s ++ ns))
      ≡ is_true (value clafers entries body (bind ks ns s)))
      long
      (λ h. ap (λ b. truth_in (meaning entries (tested body (bind_kinds ks (length ns) s.within) (g ++ replicate (length ns) ls)) b)) (append_assoc (option_to_list s.this) s.bound ns)
      ∙ ap truth_in (test body (bind ks ns s) (g ++ replicate (length ns) ls) h law)) f

  quant-means : (w : Word) (disj : Bool) (n : ℕ) (over body : Core) (bound : List Node)
      → meaning entries (quant w disj n over body) bound
      ≡ Truth (quantified w (λ ns. truth_in (meaning entries body (bound ++ ns))) (tried disj n (nodes (meaning entries over bound))))
  quant-means word.All disj n over body bound = refl
  quant-means word.Some disj n over body bound = refl
  quant-means word.No disj n over body bound = refl
  quant-means word.One disj n over body bound = refl
  quant-means word.Lone disj n over body bound = refl
  quant-means _ disj n over body bound = ap (λ xs. Truth (nat_le 1 (length (nodes_of xs)))) (none entries)
    where
      none : (xs : List Entry) → filter (λ x. has [] x.node.clafer) xs ≡ []
      none [] = refl
      none (x ∷ xs) = none xs

  quant-kept : (w : Word) (disj : Bool) (n : ℕ) (over body : Tree) (ks : List ℕ) (s : Situation) (g : List (List ℕ)) → Placed entries g s → Kept over s g
      → (is_typed clafers body (bind_kinds ks n s.within) && fits_truth (kind clafers body (bind_kinds ks n s.within))) ≡ true
      → ((ns : List Node) → Placed entries (g ++ replicate (length ns) (clafers_in (sort (lowered clafers scopes over s.within g)))) (bind ks ns s)
      → is_typed clafers body (bind_kinds ks (length ns) s.within) ≡ true → Kept body (bind ks ns s) (g ++ replicate (length ns) (clafers_in (sort (lowered clafers scopes over s.within g)))))
      → meaning entries (quant w disj n (lowered clafers scopes over s.within g) (tested body (bind_kinds ks n s.within) (g ++ replicate n (clafers_in (sort (lowered clafers scopes over s.within g)))))) (bound_in s)
      ≡ Truth (quantified w (λ ns. is_true (value clafers entries body (bind ks ns s))) (tried disj n (nodes (value clafers entries over s))))
  quant-kept w disj n over body ks s g place law f below =
      let first = lowered clafers scopes over s.within g in
      let ls = clafers_in (sort first) in
      let inner = tested body (bind_kinds ks n s.within) (g ++ replicate n ls) in
      let listed = ap (λ v. list_all (is_entry_of entries ls) (nodes v)) (sym law) ∙ safe clafers scopes entries all over s.within g (bound_in s) place.here in
      quant-means w disj n first inner (bound_in s)
      ∙ ap (λ v. Truth (quantified w (λ ns. truth_in (meaning entries inner (bound_in s ++ ns))) (tried disj n (nodes v)))) law
      ∙ ap Truth (quantified-agree (Fits (is_entry_of entries ls) n) (λ ns. truth_in (meaning entries inner (bound_in s ++ ns))) (λ ns. is_true (value clafers entries body (bind ks ns s)))
      (λ ns fits. body-kept body ks ls ns n s g f (below ns (inside ns fits.1)) fits.0) w (tried disj n (nodes (value clafers entries over s)))
      (tried-fit (is_entry_of entries ls) disj n (nodes (value clafers entries over s)) listed))
    where
      inside : (ns : List Node) → list_all (is_entry_of entries (clafers_in (sort (lowered clafers scopes over s.within g)))) ns ≡ true
          → Placed entries (g ++ replicate (length ns) (clafers_in (sort (lowered clafers scopes over s.within g)))) (bind ks ns s)
      inside ns h = record {
        long = bind-length ks ns s place.long;
        here = ap (are_entries entries (g ++ replicate (length ns) (clafers_in (sort (lowered clafers scopes over s.within g))))) (sym (append_assoc (option_to_list s.this) s.bound ns))
            ∙ pairs-append (is_entry_of entries) g (bound_in s) (replicate (length ns) (clafers_in (sort (lowered clafers scopes over s.within g)))) ns place.here
            (replicated entries (clafers_in (sort (lowered clafers scopes over s.within g))) ns h);
      }

  pub law : (t : Tree) (s : Situation) (g : List (List ℕ)) → is_typed clafers t s.within ≡ true → Placed entries g s → Kept t s g
  law (e.Literal _ n) s g f p = refl
  law (e.This _) s g f p = ap (λ o. Nodes (option_map_or (λ n. n ∷ []) o [])) (from_end-this s.this s.bound (length s.within.bound) (sym p.long))
  law (e.Variable _ i) s g f p =
      ap (λ o. Nodes (option_map_or (λ n. n ∷ []) o []))
      (from_end-within s.this s.bound i (subst (λ n. i < n) (sym p.long) (bound_below s.within.bound i (from_end s.within.bound i) refl (there_is (λ ks. kinds.Nodes ks) (from_end s.within.bound i) f))))
  law (e.Clafer _ k) s g f p = ap Nodes (clafer-kept k)
  law (e.Name _ _) s g f p = absurd (true≢false (sym f))
  law (e.Join _ _ _) s g f p = absurd (true≢false (sym f))
  law (e.Step _ of into follow) s g f p =
      step-kept of into follow s g p.here (law of s g (and_parts (is_typed clafers of s.within) (fits_nodes (kind clafers of s.within)) f).0 p)
  law (e.Parent at a) s g f p =
      let h = three (is_typed clafers a s.within) (fits_nodes (kind clafers a s.within)) (is_some (kind clafers (e.Parent at a) s.within)) f in
      ap (λ v. Nodes (parents clafers entries (nodes v))) (law a s g h.0 p)
  law (e.Dref at a) s g f p =
      let h = three (is_typed clafers a s.within) (fits_nodes (kind clafers a s.within)) (is_some (kind clafers (e.Dref at a) s.within)) f in
      dref-reading clafers scopes entries (bound_in s) (kind clafers a s.within) (kind clafers (e.Dref at a) s.within) (lowered clafers scopes a s.within g) (value clafers entries a s) (law a s g h.0 p) (sorted clafers entries a s) h.1
  law (e.Union at a b) s g f p =
      let h = four (is_typed clafers a s.within) (is_typed clafers b s.within) (fits_nodes (kind clafers a s.within)) (fits_nodes (kind clafers b s.within)) f in
      plains (λ u v. Nodes (nodes_where clafers entries (λ x. has_node (nodes u) x.node || has_node (nodes v) x.node))) a b s g h.0 h.1 (λ k. law a s g k p) (λ k. law b s g k p)
  law (e.Minus at a b) s g f p =
      let h = three (is_typed clafers a s.within) (is_typed clafers b s.within) (fit_together clafers (kind clafers a s.within) (kind clafers b s.within)) f in
      plains (λ u v. Nodes (filter (λ n. not (has_node (nodes v) n)) (nodes u))) a b s g h.0 h.1 (λ k. law a s g k p) (λ k. law b s g k p)
  law (e.Meet at a b) s g f p =
      let h = three (is_typed clafers a s.within) (is_typed clafers b s.within) (fit_together clafers (kind clafers a s.within) (kind clafers b s.within)) f in
      plains (λ u v. Nodes (filter (has_node (nodes v)) (nodes u))) a b s g h.0 h.1 (λ k. law a s g k p) (λ k. law b s g k p)
  law (e.If at t a b) s g f p =
      let w = s.within in
      let k = kind clafers (e.If at t a b) w in
      let h = and_parts (is_typed clafers t w && fits_truth (kind clafers t w) && is_typed clafers a w && is_typed clafers b w) (fit_choice clafers k (kind clafers a w) (kind clafers b w)) f in
      let j = four (is_typed clafers t w) (fits_truth (kind clafers t w)) (is_typed clafers a w) (is_typed clafers b w) h.0 in
      choice-reading clafers scopes entries (bound_in s) (kind clafers a w) (kind clafers b w) (interval clafers scopes (e.If at t a b) w) (interval clafers scopes a w) (interval clafers scopes b w)
      (is_true (value clafers entries t s)) (tested t w g) (lowered clafers scopes a w g) (lowered clafers scopes b w g)
      (value clafers entries a s) (value clafers entries b s) (test t s g (and_all (is_typed clafers t w) (fits_truth (kind clafers t w)) j.0 j.1) (λ k. law t s g k p)) (law a s g j.2 p) (law b s g j.3 p)
      (sorted clafers entries a s) (sorted clafers entries b s) h.1
  law (e.Not _ a) s g f p = ap (λ v. Truth (not (truth_in v))) (test a s g f (λ k. law a s g k p))
  law (e.And _ a b) s g f p = tests (λ u v. Truth (truth_in u && truth_in v)) a b s g f (λ k. law a s g k p) (λ k. law b s g k p)
  law (e.Or _ a b) s g f p = tests (λ u v. Truth (truth_in u || truth_in v)) a b s g f (λ k. law a s g k p) (λ k. law b s g k p)
  law (e.Xor _ a b) s g f p = tests (λ u v. Truth (cond (truth_in u) (not (truth_in v)) (truth_in v))) a b s g f (λ k. law a s g k p) (λ k. law b s g k p)
  law (e.Implies _ a b) s g f p = tests (λ u v. Truth (not (truth_in u) || truth_in v)) a b s g f (λ k. law a s g k p) (λ k. law b s g k p)
  law (e.Iff _ a b) s g f p =
      tests (λ u v. Truth (not (cond (truth_in u) (not (truth_in v)) (truth_in v)))) a b s g f (λ k. law a s g k p) (λ k. law b s g k p)
      ∙ ap Truth (iff (is_true (value clafers entries a s)) (is_true (value clafers entries b s)))
  law (e.Card _ a) s g f p = plain (λ v. Integer (pos (length (nodes v)))) a s g (fits_nodes (kind clafers a s.within)) f (λ k. law a s g k p)
  law (e.Sum _ a) s g f p =
      let h = and_parts (is_typed clafers a s.within) (fits_sum clafers (kind clafers a s.within)) f in
      ap (λ v. Integer (number clafers entries (Nodes (nodes v)))) (law a s g h.0 p)
      ∙ ap (λ v. Integer (number clafers entries v)) (is-nodes clafers scopes entries (bound_in s) (kind clafers a s.within) (value clafers entries a s) (sorted clafers entries a s) (sum_nodes clafers (kind clafers a s.within) h.1))
  law (e.Neg at a) s g f p =
      negated-means entries (bound_in s) (width (interval clafers scopes (e.Neg at a) s.within)) (counted a s.within g)
      ∙ ap (λ v. Integer (neg_ℤ (integer_in v))) (count a s g f (λ k. law a s g k p))
  law (e.Add at a b) s g f p =
      added-means entries (bound_in s) (width (interval clafers scopes (e.Add at a b) s.within)) (counted a s.within g) (counted b s.within g)
      ∙ counts (λ u v. Integer (integer_in u +ℤ integer_in v)) a b s g f (λ k. law a s g k p) (λ k. law b s g k p)
  law (e.Sub at a b) s g f p =
      let opposite = negated (width (negative (interval clafers scopes b s.within))) (counted b s.within g) in
      added-means entries (bound_in s) (width (interval clafers scopes (e.Sub at a b) s.within)) (counted a s.within g) opposite
      ∙ ap (λ v. Integer (integer_in (meaning entries (counted a s.within g) (bound_in s)) +ℤ integer_in v))
      (negated-means entries (bound_in s) (width (negative (interval clafers scopes b s.within))) (counted b s.within g))
      ∙ counts (λ u v. Integer (integer_in u +ℤ neg_ℤ (integer_in v))) a b s g f (λ k. law a s g k p) (λ k. law b s g k p)
  law (e.Mul at a b) s g f p =
      multiplied-means entries (bound_in s) (width (interval clafers scopes (e.Mul at a b) s.within)) (counted a s.within g) (counted b s.within g)
      ∙ counts (λ u v. Integer (integer_in u *ℤ integer_in v)) a b s g f (λ k. law a s g k p) (λ k. law b s g k p)
  law (e.Less _ a b) s g f p = counts (λ u v. Truth (int_lt (integer_in u) (integer_in v))) a b s g f (λ k. law a s g k p) (λ k. law b s g k p)
  law (e.LessEqual _ a b) s g f p =
      counts (λ u v. Truth (not (int_lt (integer_in v) (integer_in u)))) a b s g f (λ k. law a s g k p) (λ k. law b s g k p)
      ∙ ap Truth (not_less (number clafers entries (value clafers entries a s)) (number clafers entries (value clafers entries b s)))
  law (e.Greater _ a b) s g f p = counts (λ u v. Truth (int_lt (integer_in v) (integer_in u))) a b s g f (λ k. law a s g k p) (λ k. law b s g k p)
  law (e.GreaterEqual _ a b) s g f p =
      counts (λ u v. Truth (not (int_lt (integer_in u) (integer_in v)))) a b s g f (λ k. law a s g k p) (λ k. law b s g k p)
      ∙ ap Truth (not_less (number clafers entries (value clafers entries b s)) (number clafers entries (value clafers entries a s)))
  law (e.Equal _ a b) s g f p =
      let k = kind clafers a s.within in let l = kind clafers b s.within in
      let h = three (is_typed clafers a s.within) (is_typed clafers b s.within) (fit_sides clafers k l) f in
      equal-reading clafers scopes entries (bound_in s) (reading_of clafers k l) k l (lowered clafers scopes a s.within g) (lowered clafers scopes b s.within g)
      (value clafers entries a s) (value clafers entries b s) (law a s g h.0 p) (law b s g h.1 p) h.2
  law (e.In _ a b) s g f p =
      let k = kind clafers a s.within in let l = kind clafers b s.within in
      let h = three (is_typed clafers a s.within) (is_typed clafers b s.within) (fit_sides clafers k l) f in
      part-reading clafers scopes entries (bound_in s) (reading_of clafers k l) k l (lowered clafers scopes a s.within g) (lowered clafers scopes b s.within g)
      (value clafers entries a s) (value clafers entries b s) (law a s g h.0 p) (law b s g h.1 p) h.2
  law (e.Some _ a) s g f p = plain (λ v. Truth (nat_le 1 (length (nodes v)))) a s g (fits_nodes (kind clafers a s.within)) f (λ k. law a s g k p)
  law (e.No _ a) s g f p = plain (λ v. Truth (length (nodes v) == 0)) a s g (fits_nodes (kind clafers a s.within)) f (λ k. law a s g k p)
  law (e.One _ a) s g f p = plain (λ v. Truth (length (nodes v) == 1)) a s g (fits_nodes (kind clafers a s.within)) f (λ k. law a s g k p)
  law (e.Lone _ a) s g f p = plain (λ v. Truth (nat_le (length (nodes v)) 1)) a s g (fits_nodes (kind clafers a s.within)) f (λ k. law a s g k p)
  law (e.Quant _ word disj names over body) s g f p =
      let ks = clafers_of (kind clafers over s.within) in
      let inner = bind_kinds ks (length names) s.within in
      let h = four (is_typed clafers over s.within) (fits_nodes (kind clafers over s.within)) (is_typed clafers body inner) (fits_truth (kind clafers body inner)) f in
      quant-kept word disj (length names) over body ks s g p (law over s g h.0 p) (and_all (is_typed clafers body inner) (fits_truth (kind clafers body inner)) h.2 h.3)
      (λ ns place k. law body (bind ks ns s) (g ++ replicate (length ns) (clafers_in (sort (lowered clafers scopes over s.within g)))) k place)

  singles : (f : List Node → Bool) (ns : List Node) → list_all f (tuples 1 ns) ≡ list_all (λ n. f (n ∷ [])) ns
  singles f [] = refl
  singles f (n ∷ ns) = ap (λ b. f (n ∷ []) && b) (singles f ns)

  all-agree : {X : Type 0} (given p q : X → Bool) (xs : List X) → list_all given xs ≡ true → ((x : X) → given x ≡ true → p x ≡ q x) → list_all p xs ≡ list_all q xs
  all-agree given p q [] h agree = refl
  all-agree given p q (x ∷ xs) h agree =
      let j = and_parts (given x) (list_all given xs) h in both (λ a b. a && b) (agree x j.0) (all-agree given p q xs j.1 agree)

  -- a constraint for each instance of its context
  pub law_kept : (l : Law) → is_typed_law clafers l ≡ true → truth_in (meaning entries (lowered_law clafers scopes l) []) ≡ holds clafers entries l
  law_kept (None, body) f = ap truth_in (test body outside [] f (λ k. law body outside [] k (record { long = refl; here = refl })))
  law_kept (Some k, body) f =
      let w = within_context (Some k) in
      let ls = instances_of clafers scopes (k ∷ []) in
      let passes = λ (ns : List Node). truth_in (meaning entries (tested body w (ls ∷ [])) ns) in
      let found = instances clafers entries k in
      ap (λ ns. list_all passes (tuples 1 ns)) (clafer-kept k) ∙ singles passes (nodes_of found)
      ∙ list_all-map (λ n. passes (n ∷ [])) (λ (x : Entry). x.node) found
      ∙ all-agree (λ x. is_entry_of entries ls x.node) (λ x. passes (x.node ∷ [])) (λ x. is_true (value clafers entries body (at_instance k x.node))) found
      (filter_all (fit clafers scopes entries) (λ x. is_a clafers x.node.clafer k) (λ x. is_entry_of entries ls x.node) entries all
      (λ x h j. and_all (has ls x.node.clafer) (has_node (nodes_of entries) x.node)
      (has-possible clafers scopes (is_one_of clafers (k ∷ [])) x.node.clafer (possible-entry clafers scopes entries all x h) ∙ or_false (is_a clafers x.node.clafer k) ∙ j)
      (there-entry clafers scopes entries all x h)))
      (λ x here. ap truth_in (test body (at_instance k x.node) (ls ∷ []) f
      (λ j. law body (at_instance k x.node) (ls ∷ []) j (record { long = refl; here = and_all (is_entry_of entries ls x.node) true here refl }))))

  pub goal_kept : (body : Tree) → is_typed_goal clafers body ≡ true → integer_in (meaning entries (lowered_goal clafers scopes body) []) ≡ value_outside clafers entries body
  goal_kept body f = ap integer_in (count body outside [] f (λ k. law body outside [] k (record { long = refl; here = refl })))
