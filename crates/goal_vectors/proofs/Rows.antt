-- Fronts of small models, computed.
use Rattle.std.proofs.Common.{◌≡◌, ℕ, zero, suc, ◌≤◌, Bool, true, false, ◌&&◌, ◌⊎◌, inl, inr, List, [], ◌∷◌, map, length, Some, None, refl, sym, ap, subst, ◌∙◌, add-zero, arith, ℤ, pos}
use Rattle.std.specs.Prelude.{nat_le}
use Rattle.std.specs.List.{Contains, list_all}
use Rattle.std.proofs.lemmas.Bool.{true≢false}
use Rattle.std.proofs.lemmas.Grind.{common_steps}
use Rattle.std.proofs.lemmas.List.{length-map}
use Rattle.clf_base.specs.declared.fault.Span.{Span}
use Rattle.clf_tree.specs.declared.model.Clafer.{Clafer}
use Rattle.clf_tree.specs.declared.model.Goal.{Goal}
use Rattle.clf_tree.specs.declared.model.Model.{Model}
use Rattle.clf_tree.specs.declared.instance.Entry.{Entry}
use Rattle.clf_tree.specs.declared.scopes.Scopes.{Scopes}
use Rattle.clf_tree.specs.declared.expr.Expr.{Expr, roll-Expr, fold-roll-Expr}
use Rattle.clf_tree.specs.declared.expr.Form.{roll-Form}
use Rattle.clf_tree.specs.declared.expr.Form.TheOpen as opened
use Rattle.clf_tree.specs.declared.expr.Form.TheFolds.{fold-roll-Form}
use Rattle.clf_tree.specs.Lists.{each_two}
use Rattle.clf_tree.specs.Tree as e
use Rattle.clf_tree.specs.Tree.{Tree, tree, form_tree}
use Rattle.clf_tree.specs.Nodes.{is_within, is_tree}
use Rattle.clf_tree.specs.Shape.{instances, has_shape, meets_group, meets_reference, differ}
use Rattle.clf_tree.specs.Satisfies.{holds, satisfies, value_outside}
use Rattle.clf_tree.specs.Front.{dominates, Reaches, IsOptimal, IsFront}
use Rattle.goal_vectors.proofs.Truths.{and_left, and_right}
use Rattle.goal_vectors.proofs.Items.{none_in_nothing, first_in, later_in, in_cases}
use Rattle.goal_vectors.proofs.Fronts.{fronts_same}

abbrev here : Span
here = record { line = 1; column = 1 }

-- a ?
abbrev a : Clafer
a = record {
  title = record { name = 97 ∷ []; at = here };
  is_abstract = false;
  parent = None;
  above = None;
  group = record { low = 0; high = None };
  times = record { low = 0; high = Some 1 };
  reference = None;
}

-- # a
abbrev all_of_a : Expr
all_of_a = roll-Expr (record { at = here; form = roll-Form (opened.Clafer 0) })

abbrev number_of_a : Expr
number_of_a = roll-Expr (record { at = here; form = roll-Form (opened.Card all_of_a) })

number_tree : tree number_of_a ≡ e.Card here (e.Clafer here 0)
number_tree =
    fold-roll-Expr (Span → Tree) Tree form_tree (λ x. x.form x.at) (record { at = here; form = roll-Form (opened.Card all_of_a) })
    ∙ ap (λ (f : Span → Tree). f here) (fold-roll-Form (Span → Tree) Tree form_tree (λ x. x.form x.at) (opened.Card all_of_a))
    ∙ ap (λ (t : Tree). e.Card here t) (
    fold-roll-Expr (Span → Tree) Tree form_tree (λ x. x.form x.at) (record { at = here; form = roll-Form (opened.Clafer 0) })
    ∙ ap (λ (f : Span → Tree). f here) (fold-roll-Form (Span → Tree) Tree form_tree (λ x. x.form x.at) (opened.Clafer 0)))

-- the number of a is wanted, once for each of these ways
abbrev goals_for : List Bool → List Goal
goals_for ways = map (λ way. record { at = here; least = way; body = number_of_a }) ways

abbrev counting : List Bool → Model
counting ways = record { clafers = a ∷ []; rules = []; goals = goals_for ways }

abbrev at_most_one : Scopes
at_most_one = record { of = 1 ∷ []; low = pos 0; high = pos 10 }

abbrev count : List Entry → ℕ
count entries = length (instances (a ∷ []) entries 0)

counted : (entries : List Entry) → value_outside (a ∷ []) entries (tree number_of_a) ≡ pos (count entries)
counted entries =
    ap (λ (t : Tree). value_outside (a ∷ []) entries t) number_tree
    ∙ ap pos (add-zero (length (map (λ (x : Entry). x.node) (instances (a ∷ []) entries 0))) ∙ length-map (instances (a ∷ []) entries 0) (λ x. x.node))

each_counts : (entries : List Entry) (ways : List Bool) → map (λ g. value_outside (a ∷ []) entries (tree g.body)) (goals_for ways) ≡ map (λ way. pos (count entries)) ways
each_counts entries [] = refl
each_counts entries (way ∷ ways) =
    ap (λ (z : ℤ). z ∷ map (λ g. value_outside (a ∷ []) entries (tree g.body)) (goals_for ways)) (counted entries)
    ∙ ap (λ (zs : List ℤ). pos (count entries) ∷ zs) (each_counts entries ways)

shape_in : (w t s l : Bool) → (w && t && s && l) ≡ true → s ≡ true
shape_in w t s l h = and_right (w && t) s (and_left (w && t && s) l h)

high_in : (low high group rest references apart : Bool) → (((low && high) && group && rest) && references && apart) ≡ true → high ≡ true
high_in low high group rest references apart h =
    and_right low high (and_left (low && high) group (and_left (low && high && group) rest
    (and_left ((low && high) && group && rest) references (and_left (((low && high) && group && rest) && references) apart h))))

to_order : (m n : ℕ) → nat_le m n ≡ true → m ≤ n
to_order m n h = grind (arith, common_steps)

few : (ways : List Bool) (entries : List Entry) → satisfies (counting ways) at_most_one entries ≡ true → count entries ≤ 1
few ways entries h =
    let shape : has_shape (a ∷ []) at_most_one entries ≡ true =
    shape_in (is_within (a ∷ []) at_most_one entries) (is_tree (a ∷ []) entries) (has_shape (a ∷ []) at_most_one entries) true h in
    to_order (count entries) 1 (high_in (nat_le 0 (count entries)) (nat_le (count entries) 1) (meets_group (a ∷ []) entries 0 a) true
    (list_all (meets_reference (a ∷ []) entries at_most_one) entries) (each_two (differ (a ∷ []) entries) entries) shape)

none_or_one : (n : ℕ) → n ≤ 1 → (n ≡ 0) ⊎ (n ≡ 1)
none_or_one zero h = inl refl
none_or_one (suc n) h = inr (omega (arith, h))

-- the vector where there are n
abbrev every : List Bool → ℕ → List ℤ
every ways n = map (λ way. pos n) ways

reached_is : (ways : List Bool) (v : List ℤ) → Reaches (counting ways) at_most_one v → (v ≡ every ways 0) ⊎ (v ≡ every ways 1)
reached_is ways v r = by_count (none_or_one (count r.entries) (few ways r.entries r.satisfied))
  where
    is : v ≡ every ways (count r.entries)
    is = sym r.has_vector ∙ each_counts r.entries ways

    by_count : (count r.entries ≡ 0) ⊎ (count r.entries ≡ 1) → (v ≡ every ways 0) ⊎ (v ≡ every ways 1)
    by_count (inl e) = inl (is ∙ ap (every ways) e)
    by_count (inr e) = inr (is ∙ ap (every ways) e)

none_reached : (ways : List Bool) → Reaches (counting ways) at_most_one (every ways 0)
none_reached ways = record { entries = []; ordered = refl; satisfied = refl; has_vector = each_counts [] ways }

abbrev an_a : Entry
an_a = record { node = record { clafer = 0; number = 0 }; parent = None; target = None }

one_reached : (ways : List Bool) → Reaches (counting ways) at_most_one (every ways 1)
one_reached ways = record { entries = an_a ∷ []; ordered = refl; satisfied = refl; has_vector = each_counts (an_a ∷ []) ways }

by_vector : (ways : List Bool) (v w : List ℤ) → (w ≡ every ways 0) ⊎ (w ≡ every ways 1)
    → dominates ways (every ways 0) v ≡ false → dominates ways (every ways 1) v ≡ false → dominates ways w v ≡ false
by_vector ways v w (inl e) p q = subst (λ z. dominates ways z v ≡ false) (sym e) p
by_vector ways v w (inr e) p q = subst (λ z. dominates ways z v ≡ false) (sym e) q

-- the least and the greatest number of a: neither vector dominates the other
abbrev both_ways : List Bool
both_ways = true ∷ false ∷ []

abbrev none_there : List ℤ
none_there = pos 0 ∷ pos 0 ∷ []

abbrev one_there : List ℤ
one_there = pos 1 ∷ pos 1 ∷ []

none_optimal : IsOptimal (counting both_ways) at_most_one none_there
none_optimal = record {
  reached = none_reached both_ways;
  undominated = λ w r. by_vector both_ways none_there w (reached_is both_ways w r) refl refl;
}

one_optimal : IsOptimal (counting both_ways) at_most_one one_there
one_optimal = record {
  reached = one_reached both_ways;
  undominated = λ w r. by_vector both_ways one_there w (reached_is both_ways w r) refl refl;
}

pub two_points : IsFront (counting both_ways) at_most_one (none_there ∷ one_there ∷ [])
two_points = record {
  ordered = refl;
  members = λ v. ((λ i. optimal v (in_cases none_there (one_there ∷ []) v i)), (λ best. listed v (reached_is both_ways v best.reached)));
}
  where
    last : (v : List ℤ) → (one_there ≡ v) ⊎ Contains [] v → IsOptimal (counting both_ways) at_most_one v
    last v (inl e) = subst (λ z. IsOptimal (counting both_ways) at_most_one z) e one_optimal
    last v (inr i) = none_in_nothing v i

    optimal : (v : List ℤ) → (none_there ≡ v) ⊎ Contains (one_there ∷ []) v → IsOptimal (counting both_ways) at_most_one v
    optimal v (inl e) = subst (λ z. IsOptimal (counting both_ways) at_most_one z) e none_optimal
    optimal v (inr i) = last v (in_cases one_there [] v i)

    listed : (v : List ℤ) → (v ≡ none_there) ⊎ (v ≡ one_there) → Contains (none_there ∷ one_there ∷ []) v
    listed v (inl e) = subst (λ z. Contains (none_there ∷ one_there ∷ []) z) (sym e) (first_in none_there (one_there ∷ []))
    listed v (inr e) = subst (λ z. Contains (none_there ∷ one_there ∷ []) z) (sym e) (later_in none_there (one_there ∷ []) one_there (first_in one_there []))

-- out of order, and one of two
pub not_turned : IsFront (counting both_ways) at_most_one (one_there ∷ none_there ∷ []) → ⊥
not_turned f = true≢false (sym f.ordered)

pub not_half : IsFront (counting both_ways) at_most_one (none_there ∷ []) → ⊥
not_half f =
    let e = fronts_same (counting both_ways) at_most_one (none_there ∷ []) (none_there ∷ one_there ∷ []) f two_points in
    absurd (omega (arith, ap (λ (vs : List (List ℤ)). length vs) e))

-- the least number of a: the other vector is dominated
abbrev least_way : List Bool
least_way = true ∷ []

pub one_point : IsFront (counting least_way) at_most_one ((pos 0 ∷ []) ∷ [])
one_point = record {
  ordered = refl;
  members = λ v. ((λ i. optimal v (in_cases (pos 0 ∷ []) [] v i)), (λ best. listed v best (reached_is least_way v best.reached)));
}
  where
    least : IsOptimal (counting least_way) at_most_one (pos 0 ∷ [])
    least = record {
      reached = none_reached least_way;
      undominated = λ w r. by_vector least_way (pos 0 ∷ []) w (reached_is least_way w r) refl refl;
    }

    optimal : (v : List ℤ) → (pos 0 ∷ [] ≡ v) ⊎ Contains [] v → IsOptimal (counting least_way) at_most_one v
    optimal v (inl e) = subst (λ z. IsOptimal (counting least_way) at_most_one z) e least
    optimal v (inr i) = none_in_nothing v i

    listed : (v : List ℤ) → IsOptimal (counting least_way) at_most_one v → (v ≡ pos 0 ∷ []) ⊎ (v ≡ pos 1 ∷ []) → Contains ((pos 0 ∷ []) ∷ []) v
    listed v best (inl e) = subst (λ z. Contains ((pos 0 ∷ []) ∷ []) z) (sym e) (first_in (pos 0 ∷ []) [])
    listed v best (inr e) =
        absurd (true≢false (subst (λ z. dominates least_way (pos 0 ∷ []) z ≡ false) e (best.undominated (pos 0 ∷ []) (none_reached least_way))))

pub not_dominated_too : IsFront (counting least_way) at_most_one ((pos 0 ∷ []) ∷ (pos 1 ∷ []) ∷ []) → ⊥
not_dominated_too f =
    let e = fronts_same (counting least_way) at_most_one ((pos 0 ∷ []) ∷ []) ((pos 0 ∷ []) ∷ (pos 1 ∷ []) ∷ []) one_point f in
    absurd (omega (arith, ap (λ (vs : List (List ℤ)). length vs) e))

-- [ 1 < 1 ]
abbrev one : Expr
one = roll-Expr (record { at = here; form = roll-Form (opened.Literal 1) })

abbrev never : Expr
never = roll-Expr (record { at = here; form = roll-Form (opened.Less one one) })

one_tree : tree one ≡ e.Literal here 1
one_tree =
    fold-roll-Expr (Span → Tree) Tree form_tree (λ x. x.form x.at) (record { at = here; form = roll-Form (opened.Literal 1) })
    ∙ ap (λ (f : Span → Tree). f here) (fold-roll-Form (Span → Tree) Tree form_tree (λ x. x.form x.at) (opened.Literal 1))

never_tree : tree never ≡ e.Less here (e.Literal here 1) (e.Literal here 1)
never_tree =
    fold-roll-Expr (Span → Tree) Tree form_tree (λ x. x.form x.at) (record { at = here; form = roll-Form (opened.Less one one) })
    ∙ ap (λ (f : Span → Tree). f here) (fold-roll-Form (Span → Tree) Tree form_tree (λ x. x.form x.at) (opened.Less one one))
    ∙ ap (λ (t : Tree). e.Less here t t) one_tree

abbrev impossible : Model
impossible = record { clafers = a ∷ []; rules = record { context = None; body = never } ∷ []; goals = goals_for both_ways }

never_holds : (entries : List Entry) → list_all (holds (a ∷ []) entries) ((None, tree never) ∷ []) ≡ false
never_holds entries = ap (λ (t : Tree). list_all (holds (a ∷ []) entries) ((None, t) ∷ [])) never_tree

none_satisfies : (entries : List Entry) → satisfies impossible at_most_one entries ≡ true → ⊥
none_satisfies entries h = true≢false (
    sym (and_right (is_within (a ∷ []) at_most_one entries && is_tree (a ∷ []) entries && has_shape (a ∷ []) at_most_one entries)
    (list_all (holds (a ∷ []) entries) ((None, tree never) ∷ [])) h)
    ∙ never_holds entries)

pub no_point : IsFront impossible at_most_one []
no_point = record {
  ordered = refl;
  members = λ v. ((λ i. none_in_nothing v i), (λ best. absurd (none_satisfies best.reached.entries best.reached.satisfied)));
}
