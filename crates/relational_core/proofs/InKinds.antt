-- The clafers of a relational expression are-a clafer of the kind of its expression.
use Rattle.std.proofs.Common.{◌≡◌, ℕ, ◌<◌, Bool, true, false, cond, ◌&&◌, ◌||◌, List, [], ◌∷◌, ◌++◌, length, Option, Some, None, refl, ap, sym, ◌∙◌, arith}
use Rattle.std.specs.Prelude.{slice_get, ◌==◌, is_some, nat_lt}
use Rattle.std.specs.Option.{option_map, option_map_or, option_and_then, option_to_list}
use Rattle.std.specs.List.{list_all, list_any, filter, filter_map, cons_option}
use Rattle.std.proofs.lemmas.Bool.{true≢false}
use Rattle.std.proofs.lemmas.Grind.{common_steps}
use Rattle.std.proofs.lemmas.Option.{slice_get_within}
use Rattle.std.proofs.lemmas.List.Folds.{list_any-append}
use Rattle.clf_tree.specs.declared.model.Clafer.{Clafer}
use Rattle.clf_tree.specs.declared.model.Reference.{Reference}
use Rattle.clf_tree.specs.declared.scopes.Scopes.{Scopes}
use Rattle.clf_tree.specs.declared.bounds.Bounds.{Bounds}
use Rattle.clf_tree.specs.declared.kind.Within.{Within}
use Rattle.clf_tree.specs.declared.kind.Kind.{Kind}
use Rattle.clf_tree.specs.declared.kind.Kind.TheVariants as kinds
use Rattle.clf_tree.specs.declared.kind.Reading.{Reading}
use Rattle.clf_tree.specs.Tree as e
use Rattle.clf_tree.specs.Tree.{Tree}
use Rattle.clf_tree.specs.Lists.{from_end, each_pair, has, numbers_below}
use Rattle.clf_tree.specs.Hierarchy.{is_a, is_one_of, is_closed, names_below, is_below, parent_of, target_of, targets_of, reference_of, refer_to_int, share}
use Rattle.clf_tree.specs.Kinds.{kind, clafers_of, is_child, has_child_in, parent_kind, dref_kind, union_kind, left_kind, compared_kind, branch_kind, reading}
use Rattle.clf_tree.specs.Kinds as source
use Rattle.clf_tree.specs.Intervals.{interval}
use Rattle.clf_tree.specs.Core.{Core}
use Rattle.clf_tree.specs.CoreSoundness.{sort, clafers_in}
use Rattle.relational_core.specs.Lowered.{possible, is_possible, can_hold, can_reach, instances_of, children_of, parents_of, either_of, both_of, dref, through, choice, as_truth, lowered}
use Rattle.relational_core.specs.Lowered as lower
use Rattle.relational_core.proofs.Passing.{both, and_parts, and_all, or_left, or_right, any_shows, some_passes}
use Rattle.relational_core.proofs.Numbers.{any-some}
use Rattle.relational_core.proofs.Bindings.{pairs-end, from_end-this, from_end-within, bound_below}
use Rattle.relational_core.proofs.Possible.{all-possible, has-within}
use Rattle.relational_core.proofs.Made.{all-get}

-- the clafers of `this`, then those of the variables
abbrev pub kinds_in : Within → List (List ℕ)
kinds_in w = option_to_list (option_map (λ c. c ∷ []) w.this) ++ w.bound

-- an inherited reference is that of the clafer above
abbrev pub Inherited : List Clafer → Type 0
Inherited clafers = (low high : ℕ) (own above : Reference) → is_a clafers low high ≡ true → reference_of clafers low ≡ Some own → reference_of clafers high ≡ Some above → own ≡ above

none_false : (xs : List ℕ) (p : ℕ → Bool) → list_any (λ c. p c && false) xs ≡ false
none_false [] p = refl
none_false (x ∷ xs) p = both (λ a b. a || b) (right (p x)) (none_false xs p)
  where
    right : (b : Bool) → (b && false) ≡ false
    right true = refl
    right false = refl

nothing_left : (p : ℕ → Bool) (xs : List ℕ) → ((x : ℕ) → p x ≡ false) → filter p xs ≡ []
nothing_left p [] h = refl
nothing_left p (x ∷ xs) h = ap (λ b. cond b (x ∷ filter p xs) (filter p xs)) (h x) ∙ nothing_left p xs h

same-refl : (n : ℕ) → (n == n) ≡ true
same-refl n = grind arith

module _ (clafers : List Clafer) (scopes : Scopes) (closed : is_closed clafers ≡ true) (inherited : Inherited clafers) where
  abbrev pub in_kind : Option Kind → List ℕ → Bool
  in_kind (Some (kinds.Nodes ks)) ls = list_all (is_one_of clafers ks) ls
  in_kind (Some (kinds.Numbers ks)) ls = list_all (is_one_of clafers ks) ls
  in_kind _ ls = true

  abbrev pub lists_fit : List (List ℕ) → List (List ℕ) → Bool
  lists_fit ks ls = each_pair (λ k l. list_all (is_one_of clafers k) l) ks ls

  bound-in : (kss g : List (List ℕ)) (i : ℕ) (ks : List ℕ) (o : Option (List ℕ)) → lists_fit kss g ≡ true → from_end kss i ≡ Some ks → from_end g i ≡ o
      → list_all (is_one_of clafers ks) (option_map_or (λ l. l) o []) ≡ true
  bound-in kss g i ks None h e f = refl
  bound-in kss g i ks (Some l) h e f =
      let p = pairs-end (λ k l. list_all (is_one_of clafers k) l) kss g i l h f in
      ap (λ k. list_all (is_one_of clafers k) l) (some_same p.other (sym e ∙ p.at)) ∙ p.pass
    where
      some_same : (k : List ℕ) → Some ks ≡ Some k → ks ≡ k
      some_same k q = (cc)

  this-in : (this : Option ℕ) (bound g : List (List ℕ)) → lists_fit (option_to_list (option_map (λ c. c ∷ []) this) ++ bound) g ≡ true
      → in_kind (option_map (λ c. kinds.Nodes (c ∷ [])) this) (option_map_or (λ l. l) (from_end g (length bound)) []) ≡ true
  this-in None bound g h = refl
  this-in (Some c) bound g h =
      bound-in ((c ∷ []) ∷ bound) g (length bound) (c ∷ []) (from_end g (length bound)) h (from_end-this (Some (c ∷ [])) bound (length bound) refl) refl

  variable-in : (this : Option (List ℕ)) (bound g : List (List ℕ)) (i : ℕ) (o : Option (List ℕ)) → lists_fit (option_to_list this ++ bound) g ≡ true → from_end bound i ≡ o
      → in_kind (option_map (λ ks. kinds.Nodes ks) o) (option_map_or (λ l. l) (from_end g i) []) ≡ true
  variable-in this bound g i None h e = refl
  variable-in this bound g i (Some ks) h e =
      bound-in (option_to_list this ++ bound) g i ks (from_end g i) h (from_end-within this bound i (bound_below bound i (Some ks) e refl) ∙ e) refl

  -- the parents
  parent-below : (e : ℕ) (o : Option Clafer) (q : ℕ) → slice_get clafers e ≡ o → option_and_then (λ (k : Clafer). k.parent) o ≡ Some q → (q < length clafers) × (e < length clafers)
  parent-below e None q f h = absurd (none_some h)
    where
      none_some : None ≡ Some q → ⊥
      none_some k = (cc)
  parent-below e (Some k) q f h =
      let named = all-get (names_below (length clafers)) clafers e k closed f in
      let first = and_parts (is_below (length clafers) k.parent && is_below (length clafers) k.above) (is_below (length clafers) (option_and_then (λ (r : Reference). r.to) k.reference)) named in
      let below = (and_parts (is_below (length clafers) k.parent) (is_below (length clafers) k.above) first.0).0 in
      (less q (length clafers) (ap (is_below (length clafers)) (sym h) ∙ below), slice_get_within clafers e k f)
    where
      less : (m n : ℕ) → nat_lt m n ≡ true → m < n
      less m n t = grind (arith, common_steps)

  parent-step : (ks : List ℕ) (d e : ℕ) (o : Option ℕ) → is_one_of clafers ks e ≡ true → parent_of clafers e ≡ o → option_map_or (is_a clafers d) o false ≡ true
      → is_one_of clafers (source.parents_of clafers ks) d ≡ true
  parent-step ks d e None one f h = absurd (true≢false (sym h))
  parent-step ks d e (Some q) one f h =
      let n = length clafers in
      let below = parent-below e (slice_get clafers e) q refl f in
      let child = ap (λ o. option_map_or (λ x. x == q) o false) f ∙ same-refl q in
      let holds = any-some (λ c. is_child clafers q c && is_one_of clafers ks c) n e below.1 (and_all (is_child clafers q e) (is_one_of clafers ks e) child one) in
      some_passes (is_a clafers d) (source.parents_of clafers ks) q (has-within (has_child_in clafers ks) n q below.0 ∙ holds) h

  kind-of-parents : (ps ls : List ℕ) → list_all (is_one_of clafers ps) ls ≡ true → in_kind (parent_kind ps) ls ≡ true
  kind-of-parents [] ls h = refl
  kind-of-parents (p ∷ ps) ls h = h

  no-parents : source.parents_of clafers [] ≡ []
  no-parents = nothing_left (has_child_in clafers []) (numbers_below (length clafers)) (λ p. none_false (numbers_below (length clafers)) (is_child clafers p))

  parents-in : (k : Option Kind) (ls : List ℕ) → in_kind k ls ≡ true → in_kind (parent_kind (source.parents_of clafers (clafers_of k))) (parents_of clafers scopes ls) ≡ true
  parents-in (Some (kinds.Nodes ks)) ls h =
      kind-of-parents (source.parents_of clafers ks) (parents_of clafers scopes ls)
      (all-possible clafers scopes (λ d. list_any (can_hold clafers d) ls) (is_one_of clafers (source.parents_of clafers ks))
      (λ d p held. any_shows (is_one_of clafers ks) (can_hold clafers d) (is_one_of clafers (source.parents_of clafers ks) d) ls h
      (λ e one holds. parent-step ks d e (parent_of clafers e) one refl holds) held))
  parents-in None ls h = ap (λ ps. in_kind (parent_kind ps) (parents_of clafers scopes ls)) no-parents
  parents-in (Some kinds.Truth) ls h = ap (λ ps. in_kind (parent_kind ps) (parents_of clafers scopes ls)) no-parents
  parents-in (Some kinds.Integer) ls h = ap (λ ps. in_kind (parent_kind ps) (parents_of clafers scopes ls)) no-parents
  parents-in (Some (kinds.Numbers ks)) ls h = ap (λ ps. in_kind (parent_kind ps) (parents_of clafers scopes ls)) no-parents

  -- the targets
  same-target : (x k : ℕ) (o p : Option Reference) → is_a clafers x k ≡ true → reference_of clafers x ≡ o → reference_of clafers k ≡ p
      → is_some (option_and_then (λ (r : Reference). r.to) o) ≡ true → is_some (option_and_then (λ (r : Reference). r.to) p) ≡ true
      → option_and_then (λ (r : Reference). r.to) p ≡ option_and_then (λ (r : Reference). r.to) o
  same-target x k None p up e f h j = absurd (true≢false (sym h))
  same-target x k (Some r) None up e f h j = absurd (true≢false (sym j))
  same-target x k (Some r) (Some q) up e f h j = ap (λ (s : Reference). s.to) (sym (inherited x k r q up e f))

  there : (p : ℕ → Bool) (o : Option ℕ) → option_map_or p o false ≡ true → is_some o ≡ true
  there p None h = h
  there p (Some t) h = refl

  -- a test that passes at what some item is mapped to
  any-mapped : (f : ℕ → Option ℕ) (given p q : ℕ → Bool) (xs : List ℕ) → list_all given xs ≡ true → ((x : ℕ) → given x ≡ true → p x ≡ true → option_map_or q (f x) false ≡ true)
      → list_any p xs ≡ true → list_any q (filter_map f xs) ≡ true
  any-mapped f given p q [] all step h = absurd (true≢false (sym h))
  any-mapped f given p q (x ∷ xs) all step h =
      let j = and_parts (given x) (list_all given xs) all in pick (p x) refl h j.0 (any-mapped f given p q xs j.1 step)
    where
      first : (o : Option ℕ) → option_map_or q o false ≡ true → list_any q (cons_option o (filter_map f xs)) ≡ true
      first None k = absurd (true≢false (sym k))
      first (Some y) k = or_left (q y) (list_any q (filter_map f xs)) k

      later : (o : Option ℕ) → list_any q (filter_map f xs) ≡ true → list_any q (cons_option o (filter_map f xs)) ≡ true
      later None k = k
      later (Some y) k = or_right (q y) (list_any q (filter_map f xs)) k

      pick : (b : Bool) → p x ≡ b → (b || list_any p xs) ≡ true → given x ≡ true → (list_any p xs ≡ true → list_any q (filter_map f xs) ≡ true) → list_any q (cons_option (f x) (filter_map f xs)) ≡ true
      pick true e k g rest = first (f x) (step x g e)
      pick false e k g rest = later (f x) (rest k)

  target-step : (ks : List ℕ) (d x : ℕ) → list_all (λ c. is_some (target_of clafers c)) ks ≡ true → is_one_of clafers ks x ≡ true → can_reach clafers x d ≡ true
      → is_one_of clafers (filter_map (target_of clafers) ks) d ≡ true
  target-step ks d x all one h =
      any-mapped (target_of clafers) (λ c. is_some (target_of clafers c)) (is_a clafers x) (is_a clafers d) ks all
      (λ k some up. ap (λ o. option_map_or (is_a clafers d) o false) (same-target x k (reference_of clafers x) (reference_of clafers k) up refl refl (there (is_a clafers d) (target_of clafers x) h) some) ∙ h) one

  pub found-in : (ks ls : List ℕ) (b : Bool) → list_all (λ c. is_some (target_of clafers c)) ks ≡ b → list_all (is_one_of clafers ks) ls ≡ true
      → in_kind (option_map (λ ts. kinds.Nodes ts) (cond b (Some (filter_map (target_of clafers) ks)) None)) (lower.targets_of clafers scopes ls) ≡ true
  found-in ks ls false all h = refl
  found-in ks ls true all h =
      all-possible clafers scopes (λ d. list_any (λ x. can_reach clafers x d) ls) (is_one_of clafers (filter_map (target_of clafers) ks))
      (λ d p held. any_shows (is_one_of clafers ks) (λ x. can_reach clafers x d) (is_one_of clafers (filter_map (target_of clafers) ks) d) ls h
      (λ x one reach. target-step ks d x all one reach) held)

  dref-pick : (ks : List ℕ) (b : Bool) (a : Core) → list_all (is_one_of clafers ks) (clafers_in (sort a)) ≡ true → (o : Option (List ℕ))
      → in_kind (option_map (λ ts. kinds.Nodes ts) o) (lower.targets_of clafers scopes (clafers_in (sort a))) ≡ true
      → in_kind (cond b (Some (kinds.Numbers ks)) (option_map (λ ts. kinds.Nodes ts) o)) (clafers_in (sort (dref clafers scopes (cond b (Some (kinds.Numbers ks)) (option_map (λ ts. kinds.Nodes ts) o)) a))) ≡ true
  dref-pick ks true a h o j = h
  dref-pick ks false a h None j = refl
  dref-pick ks false a h (Some ts) j = j

  dref-in : (k : Option Kind) (a : Core) → in_kind k (clafers_in (sort a)) ≡ true → in_kind (dref_kind clafers k) (clafers_in (sort (dref clafers scopes (dref_kind clafers k) a))) ≡ true
  dref-in (Some (kinds.Nodes ks)) a h =
      dref-pick ks (refer_to_int clafers ks) a h (targets_of clafers ks) (found-in ks (clafers_in (sort a)) (list_all (λ c. is_some (target_of clafers c)) ks) refl h)
  dref-in None a h = refl
  dref-in (Some kinds.Truth) a h = refl
  dref-in (Some kinds.Integer) a h = refl
  dref-in (Some (kinds.Numbers ks)) a h = refl

  -- two lists together
  one-left : (ks ls : List ℕ) (d : ℕ) → is_one_of clafers ks d ≡ true → is_one_of clafers (ks ++ ls) d ≡ true
  one-left ks ls d h = list_any-append (is_a clafers d) ks ls ∙ or_left (is_one_of clafers ks d) (is_one_of clafers ls d) h

  one-right : (ks ls : List ℕ) (d : ℕ) → is_one_of clafers ls d ≡ true → is_one_of clafers (ks ++ ls) d ≡ true
  one-right ks ls d h = list_any-append (is_a clafers d) ks ls ∙ or_right (is_one_of clafers ks d) (is_one_of clafers ls d) h

  -- what all listed pass, each that is listed passes
  pub has-pass : (p : ℕ → Bool) (xs : List ℕ) (d : ℕ) → list_all p xs ≡ true → has xs d ≡ true → p d ≡ true
  has-pass p xs d all h = any_shows p (λ x. d == x) (p d) xs all (λ x pass same. ap p (same-number d x same) ∙ pass) h
    where
      same-number : (m n : ℕ) → (m == n) ≡ true → m ≡ n
      same-number m n k = grind arith

  either-in : (ks ls xs ys : List ℕ) → list_all (is_one_of clafers ks) xs ≡ true → list_all (is_one_of clafers ls) ys ≡ true → list_all (is_one_of clafers (ks ++ ls)) (either_of clafers scopes xs ys) ≡ true
  either-in ks ls xs ys h j =
      all-possible clafers scopes (λ d. has xs d || has ys d) (is_one_of clafers (ks ++ ls)) (λ d p held. pick d (has xs d) refl held)
    where
      pick : (d : ℕ) (b : Bool) → has xs d ≡ b → (b || has ys d) ≡ true → is_one_of clafers (ks ++ ls) d ≡ true
      pick d true f held = one-left ks ls d (has-pass (is_one_of clafers ks) xs d h f)
      pick d false f held = one-right ks ls d (has-pass (is_one_of clafers ls) ys d j held)

  union-in : (k l : Option Kind) (xs ys : List ℕ) → in_kind k xs ≡ true → in_kind l ys ≡ true → in_kind (union_kind k l) (either_of clafers scopes xs ys) ≡ true
  union-in (Some (kinds.Nodes ks)) (Some (kinds.Nodes ls)) xs ys h j = either-in ks ls xs ys h j
  union-in (Some (kinds.Nodes ks)) None xs ys h j = refl
  union-in (Some (kinds.Nodes ks)) (Some kinds.Truth) xs ys h j = refl
  union-in (Some (kinds.Nodes ks)) (Some kinds.Integer) xs ys h j = refl
  union-in (Some (kinds.Nodes ks)) (Some (kinds.Numbers ls)) xs ys h j = refl
  union-in None l xs ys h j = refl
  union-in (Some kinds.Truth) l xs ys h j = refl
  union-in (Some kinds.Integer) l xs ys h j = refl
  union-in (Some (kinds.Numbers ks)) l xs ys h j = refl

  left-pick : (b : Bool) (ks ls : List ℕ) → list_all (is_one_of clafers ks) ls ≡ true → in_kind (cond b (Some (kinds.Nodes ks)) None) ls ≡ true
  left-pick true ks ls h = h
  left-pick false ks ls h = refl

  left-in : (k l : Option Kind) (xs : List ℕ) → in_kind k xs ≡ true → in_kind (left_kind clafers k l) xs ≡ true
  left-in (Some (kinds.Nodes ks)) (Some (kinds.Nodes ls)) xs h = left-pick (share clafers ks ls) ks xs h
  left-in (Some (kinds.Nodes ks)) None xs h = refl
  left-in (Some (kinds.Nodes ks)) (Some kinds.Truth) xs h = refl
  left-in (Some (kinds.Nodes ks)) (Some kinds.Integer) xs h = refl
  left-in (Some (kinds.Nodes ks)) (Some (kinds.Numbers ls)) xs h = refl
  left-in None l xs h = refl
  left-in (Some kinds.Truth) l xs h = refl
  left-in (Some kinds.Integer) l xs h = refl
  left-in (Some (kinds.Numbers ks)) l xs h = refl

  -- a part of a list
  both-in : (k : Option Kind) (xs ys : List ℕ) → in_kind k xs ≡ true → in_kind k (both_of clafers scopes xs ys) ≡ true
  both-in (Some (kinds.Nodes ks)) xs ys h =
      all-possible clafers scopes (λ d. has xs d && has ys d) (is_one_of clafers ks) (λ d p held. has-pass (is_one_of clafers ks) xs d h (and_parts (has xs d) (has ys d) held).0)
  both-in (Some (kinds.Numbers ks)) xs ys h =
      all-possible clafers scopes (λ d. has xs d && has ys d) (is_one_of clafers ks) (λ d p held. has-pass (is_one_of clafers ks) xs d h (and_parts (has xs d) (has ys d) held).0)
  both-in None xs ys h = refl
  both-in (Some kinds.Truth) xs ys h = refl
  both-in (Some kinds.Integer) xs ys h = refl

  compared-in : (k l : Option Kind) (xs : List ℕ) → in_kind (compared_kind clafers k l) xs ≡ true
  compared-in (Some (kinds.Nodes ks)) (Some (kinds.Nodes ls)) xs = option-in (reading clafers (kinds.Nodes ks) (kinds.Nodes ls))
    where
      option-in : (o : Option Reading) → in_kind (option_map (λ r. kinds.Truth) o) xs ≡ true
      option-in None = refl
      option-in (Some r) = refl
  compared-in (Some (kinds.Nodes ks)) None xs = refl
  compared-in (Some (kinds.Nodes ks)) (Some kinds.Truth) xs = refl
  compared-in (Some (kinds.Nodes ks)) (Some kinds.Integer) xs = refl
  compared-in (Some (kinds.Nodes ks)) (Some (kinds.Numbers ls)) xs = refl
  compared-in None l xs = refl
  compared-in (Some kinds.Truth) l xs = refl
  compared-in (Some kinds.Integer) l xs = refl
  compared-in (Some (kinds.Numbers ks)) l xs = refl

  abbrev kind_of_choice : Option Kind → Option Kind → Option Kind
  kind_of_choice k l = option_and_then (λ x. option_map (branch_kind x) l) k

  choice-in : (k l : Option Kind) (z x y : Bounds) (t a b : Core) → in_kind k (clafers_in (sort a)) ≡ true → in_kind l (clafers_in (sort b)) ≡ true
      → in_kind (kind_of_choice k l) (clafers_in (sort (choice clafers scopes (kind_of_choice k l) z k l x y t a b))) ≡ true
  choice-in None l z x y t a b h j = refl
  choice-in (Some m) None z x y t a b h j = refl
  choice-in (Some kinds.Truth) (Some n) z x y t a b h j = refl
  choice-in (Some kinds.Integer) (Some kinds.Truth) z x y t a b h j = refl
  choice-in (Some kinds.Integer) (Some kinds.Integer) z x y t a b h j = refl
  choice-in (Some kinds.Integer) (Some (kinds.Nodes ls)) z x y t a b h j = refl
  choice-in (Some kinds.Integer) (Some (kinds.Numbers ls)) z x y t a b h j = refl
  choice-in (Some (kinds.Numbers ks)) (Some kinds.Truth) z x y t a b h j = refl
  choice-in (Some (kinds.Numbers ks)) (Some kinds.Integer) z x y t a b h j = refl
  choice-in (Some (kinds.Numbers ks)) (Some (kinds.Nodes ls)) z x y t a b h j = refl
  choice-in (Some (kinds.Numbers ks)) (Some (kinds.Numbers ls)) z x y t a b h j = refl
  choice-in (Some (kinds.Nodes ks)) (Some kinds.Truth) z x y t a b h j = refl
  choice-in (Some (kinds.Nodes ks)) (Some kinds.Integer) z x y t a b h j = refl
  choice-in (Some (kinds.Nodes ks)) (Some (kinds.Numbers ls)) z x y t a b h j = refl
  choice-in (Some (kinds.Nodes ks)) (Some (kinds.Nodes ls)) z x y t a b h j = either-in ks ls (clafers_in (sort a)) (clafers_in (sort b)) h j

  pub in_kinds : (t : Tree) (w : Within) (g : List (List ℕ)) → lists_fit (kinds_in w) g ≡ true → in_kind (kind clafers t w) (clafers_in (sort (lowered clafers scopes t w g))) ≡ true
  in_kinds (e.This _) w g fit = this-in w.this w.bound g fit
  in_kinds (e.Variable _ i) w g fit = variable-in (option_map (λ c. c ∷ []) w.this) w.bound g i (from_end w.bound i) fit refl
  in_kinds (e.Clafer _ k) w g fit = all-possible clafers scopes (is_one_of clafers (k ∷ [])) (is_one_of clafers (k ∷ [])) (λ d p h. h)
  in_kinds (e.Step _ of into follow) w g fit =
      all-possible clafers scopes (λ d. is_one_of clafers into d && list_any (λ p. can_hold clafers p d) (clafers_in (sort (through clafers scopes follow (lowered clafers scopes of w g))))) (is_one_of clafers into)
      (λ d p h. (and_parts (is_one_of clafers into d) (list_any (λ p. can_hold clafers p d) (clafers_in (sort (through clafers scopes follow (lowered clafers scopes of w g))))) h).0)
  in_kinds (e.Parent _ a) w g fit = parents-in (kind clafers a w) (clafers_in (sort (lowered clafers scopes a w g))) (in_kinds a w g fit)
  in_kinds (e.Dref _ a) w g fit = dref-in (kind clafers a w) (lowered clafers scopes a w g) (in_kinds a w g fit)
  in_kinds (e.Union _ a b) w g fit =
      union-in (kind clafers a w) (kind clafers b w) (clafers_in (sort (lowered clafers scopes a w g))) (clafers_in (sort (lowered clafers scopes b w g))) (in_kinds a w g fit) (in_kinds b w g fit)
  in_kinds (e.Minus _ a b) w g fit = left-in (kind clafers a w) (kind clafers b w) (clafers_in (sort (lowered clafers scopes a w g))) (in_kinds a w g fit)
  in_kinds (e.Meet _ a b) w g fit =
      both-in (left_kind clafers (kind clafers a w) (kind clafers b w)) (clafers_in (sort (lowered clafers scopes a w g))) (clafers_in (sort (lowered clafers scopes b w g)))
      (left-in (kind clafers a w) (kind clafers b w) (clafers_in (sort (lowered clafers scopes a w g))) (in_kinds a w g fit))
  in_kinds (e.If at t a b) w g fit =
      choice-in (kind clafers a w) (kind clafers b w) (interval clafers scopes (e.If at t a b) w) (interval clafers scopes a w) (interval clafers scopes b w)
      (as_truth (kind clafers t w) (lowered clafers scopes t w g)) (lowered clafers scopes a w g) (lowered clafers scopes b w g) (in_kinds a w g fit) (in_kinds b w g fit)
  in_kinds (e.Equal at a b) w g fit = compared-in (kind clafers a w) (kind clafers b w) (clafers_in (sort (lowered clafers scopes (e.Equal at a b) w g)))
  in_kinds (e.In at a b) w g fit = compared-in (kind clafers a w) (kind clafers b w) (clafers_in (sort (lowered clafers scopes (e.In at a b) w g)))
  in_kinds _ w g fit = refl
