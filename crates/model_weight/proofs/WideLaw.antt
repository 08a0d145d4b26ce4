-- The first integer that is too wide, part by part and in the whole list.
use Rattle.std.proofs.Common.{◌≡◌, ℕ, Bool, true, false, cond, ◌==◌, ◌&&◌, ◌||◌, List, [], ◌∷◌, ◌++◌, length, Option, Some, None, refl, ap, sym, ◌∙◌, arith, nat_lt}
use Rattle.std.specs.List.{flat_map}
use Rattle.std.proofs.lemmas.Bool.Decides.{nat_tests}
use Rattle.clf_base.specs.declared.fault.Refusal.{Refusal}
use Rattle.clf_tree.specs.declared.model.Clafer.{Clafer}
use Rattle.clf_tree.specs.declared.model.Rule.{Rule}
use Rattle.clf_tree.specs.declared.model.Goal.{Goal}
use Rattle.clf_tree.specs.declared.model.Model.{Model}
use Rattle.clf_tree.specs.declared.scopes.Scopes.{Scopes}
use Rattle.clf_tree.specs.declared.kind.Within.{Within}
use Rattle.clf_tree.specs.Tree as e
use Rattle.clf_tree.specs.Tree.{Tree, tree}
use Rattle.clf_tree.specs.Kinds.{kind, clafers_of, bind_kinds, reading_of}
use Rattle.clf_tree.specs.Numerics.{Numeric, numeric, inside, and_itself, is_integer, by_values}
use Rattle.refusal_order.specs.Order.{is_before, with_refusal, with_refusals, first_refusal}
use Rattle.model_weight.specs.Refusals.{too_wide, wide_among, integers_of_rule, integers_of_goal, wide_refusal, first_of, own_refusal, with_own, where_integer, in_position, wide_inside}
use Rattle.model_weight.specs.Clafers as spec

-- ---- the order
abbrev before : ℕ → ℕ → ℕ → ℕ → ℕ → ℕ → Bool
before l c k m d j = nat_lt l m || (l == m && (nat_lt c d || (c == d && nat_lt k j)))

further : (l c k m d j n e i : ℕ) → before l c k m d j ≡ true → before m d j n e i ≡ true → before l c k n e i ≡ true
further l c k m d j n e i p q = grind (arith, nat_tests)

stepwise : (l c k m d j n e i : ℕ) → before l c k m d j ≡ false → before m d j n e i ≡ false → before l c k n e i ≡ false
stepwise l c k m d j n e i p q = grind (arith, nat_tests)

-- the first of three goes from either side
three : (a b c : Refusal) → with_refusal (with_refusal (Some a) b) c ≡ first_of (Some a) (with_refusal (Some b) c)
three a b c = pick (is_before b a) (is_before c b) (is_before c a) refl refl refl
  where
    pick : (ba cb ca : Bool) → is_before b a ≡ ba → is_before c b ≡ cb → is_before c a ≡ ca
        → with_refusal (cond ba (Some b) (Some a)) c ≡ first_of (Some a) (cond cb (Some c) (Some b))
    pick true true ca p q r =
        ap (λ z. cond z (Some c) (Some b)) q
        ∙ sym (ap (λ z. cond z (Some c) (Some a)) (further c.at.line c.at.column c.code b.at.line b.at.column b.code a.at.line a.at.column a.code q p))
    pick true false ca p q r = ap (λ z. cond z (Some c) (Some b)) q ∙ sym (ap (λ z. cond z (Some b) (Some a)) p)
    pick false true ca p q r = refl
    pick false false ca p q r =
        ap (λ z. cond z (Some c) (Some a)) (stepwise c.at.line c.at.column c.code b.at.line b.at.column b.code a.at.line a.at.column a.code q p)
        ∙ sym (ap (λ z. cond z (Some b) (Some a)) p)

regroup : (f : Option Refusal) (r : Refusal) (g : Option Refusal) → first_of (with_refusal f r) g ≡ first_of f (first_of (Some r) g)
regroup f r None = refl
regroup None r (Some s) = one (with_refusal (Some r) s)
  where
    one : (o : Option Refusal) → o ≡ first_of None o
    one None = refl
    one (Some x) = refl
regroup (Some a) r (Some s) = three a r s

-- going on from what was found so far
pub onward : (f : Option Refusal) (rs : List Refusal) → with_refusals f rs ≡ first_of f (first_refusal rs)
onward f [] = refl
onward f (r ∷ rs) = onward (with_refusal f r) rs ∙ regroup f r (first_refusal rs) ∙ ap (first_of f) (sym (onward (Some r) rs))

along : (f : Option Refusal) (xs ys : List Refusal) → with_refusals f (xs ++ ys) ≡ with_refusals (with_refusals f xs) ys
along f [] ys = refl
along f (x ∷ xs) ys = along (with_refusal f x) xs ys

pub joined : (xs ys : List Refusal) → first_refusal (xs ++ ys) ≡ first_of (first_refusal xs) (first_refusal ys)
joined xs ys = along None xs ys ∙ onward (with_refusals None xs) ys

wide-append : (xs ys : List Numeric) → wide_among (xs ++ ys) ≡ wide_among xs ++ wide_among ys
wide-append [] ys = refl
wide-append (x ∷ xs) ys = ap (λ zs. too_wide x ++ zs) (wide-append xs ys) ∙ sym (assoc (too_wide x) (wide_among xs) (wide_among ys))
  where
    assoc : (us vs ws : List Refusal) → (us ++ vs) ++ ws ≡ us ++ (vs ++ ws)
    assoc [] vs ws = refl
    assoc (u ∷ us) vs ws = ap (λ zs. u ∷ zs) (assoc us vs ws)

-- the first of those among a list
abbrev first_wide : List Numeric → Option Refusal
first_wide ns = first_refusal (wide_among ns)

both : (xs ys : List Numeric) (f g : Option Refusal) → f ≡ first_wide xs → g ≡ first_wide ys → first_of f g ≡ first_wide (xs ++ ys)
both xs ys f g p q = ap (λ z. first_of z g) p ∙ ap (first_of (first_wide xs)) q ∙ sym (ap first_refusal (wide-append xs ys) ∙ joined (wide_among xs) (wide_among ys))

own : (n : Numeric) (ns : List Numeric) (f : Option Refusal) → f ≡ first_wide ns → with_own n.at n.bounds f ≡ first_wide (n ∷ ns)
own n ns f p = ap (first_of (own_refusal n.at n.bounds)) p ∙ sym (joined (too_wide n) (wide_among ns))

positioned : (b : Bool) (n : Numeric) (ns : List Numeric) (f : Option Refusal) → f ≡ first_wide ns → where_integer b n.at n.bounds f ≡ first_wide (and_itself b n ns)
positioned true n ns f p = own n ns f p
positioned false n ns f p = p

module _ (clafers : List Clafer) (scopes : Scopes) where
  abbrev here : Bool → Tree → Within → Option Refusal
  here b t w = in_position clafers scopes b t w (wide_inside clafers scopes t w)

  in_place : (b : Bool) (t : Tree) (w : Within) → wide_inside clafers scopes t w ≡ first_wide (inside clafers scopes t w) → here b t w ≡ first_wide (and_itself b (numeric clafers scopes t w) (inside clafers scopes t w))
  in_place b t w p = positioned b (numeric clafers scopes t w) (inside clafers scopes t w) (wide_inside clafers scopes t w) p

  two : (a b : Tree) (w : Within) → wide_inside clafers scopes a w ≡ first_wide (inside clafers scopes a w) → wide_inside clafers scopes b w ≡ first_wide (inside clafers scopes b w)
      → first_of (wide_inside clafers scopes a w) (wide_inside clafers scopes b w) ≡ first_wide (inside clafers scopes a w ++ inside clafers scopes b w)
  two a b w p q = both (inside clafers scopes a w) (inside clafers scopes b w) (wide_inside clafers scopes a w) (wide_inside clafers scopes b w) p q

  two_at : (x : Bool) (a b : Tree) (w : Within) → wide_inside clafers scopes a w ≡ first_wide (inside clafers scopes a w) → wide_inside clafers scopes b w ≡ first_wide (inside clafers scopes b w)
      → first_of (here x a w) (here x b w) ≡ first_wide (and_itself x (numeric clafers scopes a w) (inside clafers scopes a w) ++ and_itself x (numeric clafers scopes b w) (inside clafers scopes b w))
  two_at x a b w p q =
      both (and_itself x (numeric clafers scopes a w) (inside clafers scopes a w)) (and_itself x (numeric clafers scopes b w) (inside clafers scopes b w)) (here x a w) (here x b w) (in_place x a w p) (in_place x b w q)

  pub wide_is : (t : Tree) (w : Within) → wide_inside clafers scopes t w ≡ first_wide (inside clafers scopes t w)
  wide_is (e.Step _ a into follow) w = wide_is a w
  wide_is (e.Parent _ a) w = wide_is a w
  wide_is (e.Dref _ a) w = wide_is a w
  wide_is (e.Union _ a b) w = two a b w (wide_is a w) (wide_is b w)
  wide_is (e.Minus _ a b) w = two a b w (wide_is a w) (wide_is b w)
  wide_is (e.Meet _ a b) w = two a b w (wide_is a w) (wide_is b w)
  wide_is (e.If at' t a b) w =
      let x = is_integer (kind clafers (e.If at' t a b) w) in
      both (inside clafers scopes t w ++ and_itself x (numeric clafers scopes a w) (inside clafers scopes a w)) (and_itself x (numeric clafers scopes b w) (inside clafers scopes b w))
      (first_of (wide_inside clafers scopes t w) (here x a w)) (here x b w)
      (both (inside clafers scopes t w) (and_itself x (numeric clafers scopes a w) (inside clafers scopes a w)) (wide_inside clafers scopes t w) (here x a w) (wide_is t w) (in_place x a w (wide_is a w)))
      (in_place x b w (wide_is b w))
  wide_is (e.Not _ a) w = wide_is a w
  wide_is (e.And _ a b) w = two a b w (wide_is a w) (wide_is b w)
  wide_is (e.Or _ a b) w = two a b w (wide_is a w) (wide_is b w)
  wide_is (e.Xor _ a b) w = two a b w (wide_is a w) (wide_is b w)
  wide_is (e.Implies _ a b) w = two a b w (wide_is a w) (wide_is b w)
  wide_is (e.Iff _ a b) w = two a b w (wide_is a w) (wide_is b w)
  wide_is (e.Card _ a) w = wide_is a w
  wide_is (e.Sum _ a) w = wide_is a w
  wide_is (e.Neg _ a) w = in_place true a w (wide_is a w)
  wide_is (e.Add _ a b) w = two_at true a b w (wide_is a w) (wide_is b w)
  wide_is (e.Sub _ a b) w = two_at true a b w (wide_is a w) (wide_is b w)
  wide_is (e.Mul _ a b) w = two_at true a b w (wide_is a w) (wide_is b w)
  wide_is (e.Less _ a b) w = two_at true a b w (wide_is a w) (wide_is b w)
  wide_is (e.LessEqual _ a b) w = two_at true a b w (wide_is a w) (wide_is b w)
  wide_is (e.Greater _ a b) w = two_at true a b w (wide_is a w) (wide_is b w)
  wide_is (e.GreaterEqual _ a b) w = two_at true a b w (wide_is a w) (wide_is b w)
  wide_is (e.Equal _ a b) w = two_at (by_values (reading_of clafers (kind clafers a w) (kind clafers b w))) a b w (wide_is a w) (wide_is b w)
  wide_is (e.In _ a b) w = two_at (by_values (reading_of clafers (kind clafers a w) (kind clafers b w))) a b w (wide_is a w) (wide_is b w)
  wide_is (e.Some _ a) w = wide_is a w
  wide_is (e.No _ a) w = wide_is a w
  wide_is (e.One _ a) w = wide_is a w
  wide_is (e.Lone _ a) w = wide_is a w
  wide_is (e.Quant _ word disj names over body) w =
      let inner = bind_kinds (clafers_of (kind clafers over w)) (length names) w in
      both (inside clafers scopes over w) (inside clafers scopes body inner) (wide_inside clafers scopes over w) (wide_inside clafers scopes body inner) (wide_is over w) (wide_is body inner)
  wide_is _ w = refl

  rules_are : (f : Option Refusal) (rules : List Rule) → spec.rules_wide clafers scopes f rules ≡ with_refusals f (wide_among (flat_map (integers_of_rule clafers scopes) rules))
  rules_are f [] = refl
  rules_are f (r ∷ rules) =
      rules_are (first_of f (spec.rule_wide clafers scopes r)) rules
      ∙ ap (λ o. with_refusals o (wide_among (flat_map (integers_of_rule clafers scopes) rules))) (ap (first_of f) (wide_is (tree r.body) (record { this = r.context; bound = [] })) ∙ sym (onward f (wide_among (integers_of_rule clafers scopes r))))
      ∙ sym (along f (wide_among (integers_of_rule clafers scopes r)) (wide_among (flat_map (integers_of_rule clafers scopes) rules)))
      ∙ ap (with_refusals f) (sym (wide-append (integers_of_rule clafers scopes r) (flat_map (integers_of_rule clafers scopes) rules)))

  goal_is : (g : Goal) → spec.goal_wide clafers scopes g ≡ first_wide (integers_of_goal clafers scopes g)
  goal_is g =
      let w : Within = record { this = None; bound = [] } in
      own (numeric clafers scopes (tree g.body) w) (inside clafers scopes (tree g.body) w) (wide_inside clafers scopes (tree g.body) w) (wide_is (tree g.body) w)

  goals_are : (f : Option Refusal) (goals : List Goal) → spec.goals_wide clafers scopes f goals ≡ with_refusals f (wide_among (flat_map (integers_of_goal clafers scopes) goals))
  goals_are f [] = refl
  goals_are f (g ∷ goals) =
      goals_are (first_of f (spec.goal_wide clafers scopes g)) goals
      ∙ ap (λ o. with_refusals o (wide_among (flat_map (integers_of_goal clafers scopes) goals))) (ap (first_of f) (goal_is g) ∙ sym (onward f (wide_among (integers_of_goal clafers scopes g))))
      ∙ sym (along f (wide_among (integers_of_goal clafers scopes g)) (wide_among (flat_map (integers_of_goal clafers scopes) goals)))
      ∙ ap (with_refusals f) (sym (wide-append (integers_of_goal clafers scopes g) (flat_map (integers_of_goal clafers scopes) goals)))

pub model_wide : (scopes : Scopes) (m : Model) → spec.wide_model scopes m ≡ wide_refusal scopes m
model_wide scopes m =
    goals_are m.clafers scopes (spec.rules_wide m.clafers scopes None m.rules) m.goals
    ∙ ap (λ f. with_refusals f (wide_among (flat_map (integers_of_goal m.clafers scopes) m.goals))) (rules_are m.clafers scopes None m.rules)
    ∙ sym (along None (wide_among (flat_map (integers_of_rule m.clafers scopes) m.rules)) (wide_among (flat_map (integers_of_goal m.clafers scopes) m.goals)))
    ∙ ap first_refusal (sym (wide-append (flat_map (integers_of_rule m.clafers scopes) m.rules) (flat_map (integers_of_goal m.clafers scopes) m.goals)))
