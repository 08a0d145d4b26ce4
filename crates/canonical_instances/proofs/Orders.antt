-- The order of nodes by clafer, parent and number is total, and enough steps up are as good as more.
use Rattle.std.proofs.Common.{◌≡◌, ℕ, zero, suc, true, false, List, length, Option, Some, None, Ordering, Less, Equal, Greater, is_lt, refl, ap, sym, true≢false}
use Rattle.std.specs.Ordering.{is_gt, nat_cmp, on, ordering_then}
use Rattle.std.specs.Cmp.{IsTotalOrder}
use Rattle.std.specs.Cmp.Lexicographic.{options_total}
use Rattle.std.proofs.lemmas.Cmp.{nat_cmp_total, on_total, then_total, ranked}
use Rattle.clf_tree.specs.declared.instance.Node.{Node}
use Rattle.clf_tree.specs.declared.instance.Entry.{Entry}
use Rattle.clf_tree.specs.Nodes.{parent_in, ends_within}
use Rattle.canonical_instances.specs.Renumbering.{compare_up, absence, compare_numbers}

pub all_tied : IsTotalOrder (λ (m n : Node). Equal)
all_tied = record { antisymm = λ m n. refl; trans = λ l m n p q. p; congr = λ l m n p. refl }

by_clafer : IsTotalOrder (on (λ (m : Node). m.clafer) nat_cmp)
by_clafer = on_total (λ (m : Node). m.clafer) nat_cmp_total

by_number : IsTotalOrder (on (λ (m : Node). m.number) nat_cmp)
by_number = on_total (λ (m : Node). m.number) nat_cmp_total

pub up_total : (n : ℕ) (es : List Entry) → IsTotalOrder (compare_up n es)
up_total zero es = options_total all_tied
up_total (suc n) es = options_total (then_total by_clafer (then_total (on_total (parent_in es) (up_total n es)) by_number))

pub numbers_total : (es : List Entry) (c : ℕ) → IsTotalOrder (compare_numbers es c)
numbers_total es c =
    then_total (on_total (λ (k : ℕ). absence es (record { clafer = c; number = k })) nat_cmp_total)
    (on_total (λ (k : ℕ). Some (record { clafer = c; number = k })) (up_total (suc (length es)) es))

pub then_right : (a b : Ordering) → ordering_then a b ≡ Equal → b ≡ Equal
then_right Less b e = absurd (true≢false (ap is_lt e))
then_right Equal b e = e
then_right Greater b e = absurd (true≢false (ap is_gt e))

equal_is : (j k : ℕ) → nat_cmp j k ≡ Equal → j ≡ k
equal_is j k e = ranked j k Equal (sym e)

-- where two numbers tie they are one
pub numbers_exact : (es : List Entry) (c j k : ℕ) → compare_numbers es c j k ≡ Equal → j ≡ k
numbers_exact es c j k e =
    let m : Node = record { clafer = c; number = j } in
    let n : Node = record { clafer = c; number = k } in
    let up = compare_up (length es) es (parent_in es m) (parent_in es n) in
    let deep = then_right (nat_cmp (absence es m) (absence es n)) (compare_up (suc (length es)) es (Some m) (Some n)) e in
    let rest = then_right (nat_cmp c c) (ordering_then up (nat_cmp j k)) deep in
    equal_is j k (then_right up (nat_cmp j k) rest)

-- one step more tells no more where the ways up end
pub compare_more : (n : ℕ) (es : List Entry) (a b : Option Node) → ends_within n es a ≡ true → ends_within n es b ≡ true
    → compare_up (suc n) es a b ≡ compare_up n es a b
compare_more zero es None None h k = refl
compare_more zero es None (Some m) h k = absurd (true≢false (sym k))
compare_more zero es (Some m) b h k = absurd (true≢false (sym h))
compare_more (suc n) es None None h k = refl
compare_more (suc n) es None (Some m) h k = refl
compare_more (suc n) es (Some m) None h k = refl
compare_more (suc n) es (Some m) (Some l) h k =
    ap (λ r. ordering_then (nat_cmp m.clafer l.clafer) (ordering_then r (nat_cmp m.number l.number)))
    (compare_more n es (parent_in es m) (parent_in es l) h k)

-- what comes first by the first of two orders isn't later by it
pub then_first : (a b : Ordering) → ordering_then a b ≡ Less → is_gt a ≡ false
then_first Less b e = refl
then_first Equal b e = refl
then_first Greater b e = absurd (true≢false (ap is_gt e))

pub then_second : (a b : Ordering) → a ≡ Equal → ordering_then a b ≡ Less → b ≡ Less
then_second Less b t e = absurd (true≢false (ap is_lt t))
then_second Equal b t e = e
then_second Greater b t e = absurd (true≢false (ap is_gt t))

pub greater_first : (a b : Ordering) → a ≡ Greater → is_gt (ordering_then a b) ≡ true
greater_first Less b e = absurd (true≢false (ap is_lt e))
greater_first Equal b e = absurd (true≢false (sym (ap is_gt e)))
greater_first Greater b e = refl
