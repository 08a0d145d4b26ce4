-- Where nothing is refused, an expression is looked up.
use Rattle.std.proofs.Common.{◌≡◌, ℕ, zero, suc, ◌+◌, ◌<◌, ◌==◌, ◌&&◌, ◌||◌, not, Bool, true, false, List, [], ◌∷◌, length, cond, Option, Some, None, refl, ap, sym, subst, ◌∙◌, arith, ◌⊎◌, ◌≢◌, ◌≤◌, ◌^◌, inl, inr, length-append}
use Rattle.std.specs.Prelude.{slice_get, nat_lt, eqb, replicate, is_some, IsTrue, if◌then◌else◌, bytes_eq}
use Rattle.std.specs.Option.{option_map_or, option_map, option_or}
use Rattle.std.specs.List.{list_all, list_any, filter, range_with_len}
use Rattle.std.proofs.lemmas.Bool.{true≢false}
use Rattle.std.proofs.lemmas.Bool.Decides.{Decides-ltb, Decides-eqb, eqb_tells}
use Rattle.clf_base.specs.declared.fault.Span.{Span}
use Rattle.clf_base.specs.declared.fault.Refusal.{Refusal}
use Rattle.refusal_order.specs.Order.{is_before}
use Rattle.clf_tree.specs.declared.token.Title.{Title}
use Rattle.clf_tree.specs.declared.model.Clafer.{Clafer}
use Rattle.clf_tree.specs.declared.kind.Within.{Within}
use Rattle.clf_tree.specs.declared.kind.Kind.{Kind}
use Rattle.clf_tree.specs.declared.kind.Kind.TheVariants as kinds
use Rattle.clf_tree.specs.Lists.{numbers_below, has, each_two}
use Rattle.clf_tree.specs.Hierarchy.{parent_of, super_of, is_below, is_a, way_up, is_one_of}
use Rattle.clf_tree.specs.Kinds.{kind, clafers_of, parents_of, parent_kind, dref_kind, is_child, has_child_in}
use Rattle.clf_tree.specs.Named.{each, follows_parent, is_looked_up, is_nodes, is_quantifier, are_names, differ}
use Rattle.clf_tree.specs.Tree as form
use Rattle.clf_tree.specs.Tree.{Tree}
use Rattle.name_resolver.specs.declared.outside.Found.{Found}
use Rattle.name_resolver.specs.declared.outside.Found.TheVariants as found
use Rattle.name_resolver.specs.declared.steps.Meant.TheVariants as meant
use Rattle.name_resolver.specs.Ways as ways
use Rattle.name_resolver.specs.Levels.{step_down, is_child_of}
use Rattle.name_resolver.specs.Outwards.{Means, is_at_top, below, ambiguous, outside, top}
use Rattle.name_resolver.specs.Meaning.{meaning_of, MeansOne, is_there, MeansThere}
use Rattle.name_resolver.specs.Steps.{outwards, downwards, children_named}
use Rattle.expression_names.specs.declared.names.NamedStep.{NamedStep}
use Rattle.expression_names.specs.declared.scope.Scope.{Scope}
use Rattle.expression_names.specs.Scopes.{variable, bind}
use Rattle.expression_names.specs.LookedUp.{sooner, named_tree, name_refusal, this_refusal, some_into, joined_tree, join_refusal, has_nodes, parents_refusal, name_meaning, step_by, parent_refusal, looked_up, refusal}
use Rattle.expression_names.specs.Models.{from}
use Rattle.plain_models.specs.Written.{is_written}
use Rattle.model_resolver.specs.Leaving.{LeavesNothing}

both : (a b : Bool) → (a && b) ≡ true → (a ≡ true) × (b ≡ true)
both true b h = (refl, h)
both false b h = absurd (true≢false (sym h))

together : (a b : Bool) → a ≡ true → b ≡ true → (a && b) ≡ true
together a b p q = ap (λ z. z && b) p ∙ q

or_left : (a b : Bool) → a ≡ true → (a || b) ≡ true
or_left a b p = ap (λ z. z || b) p

or_right : (a b : Bool) → b ≡ true → (a || b) ≡ true
or_right true b p = refl
or_right false b p = p

-- ---- refusals

neither : (q r : Option Refusal) → sooner q r ≡ None → (q ≡ None) × (r ≡ None)
neither q None h = (h, refl)
neither None (Some r) h = (cc)
neither (Some f) (Some r) h = absurd (by_test (is_before r f) h)
  where
    by_test : (b : Bool) → (if b then Some r else Some f) ≡ None → ⊥
    by_test true h = (cc)
    by_test false h = (cc)

not_own : (q r : Option Refusal) → option_or q r ≡ None → (q ≡ None) × (r ≡ None)
not_own None r h = (refl, h)
not_own (Some f) r h = (cc)

-- ---- lists of numbers

data In (d : ℕ) : List ℕ → Type 0 where
  first : {xs : List ℕ} → In d (d ∷ xs)
  later : {x : ℕ} {xs : List ℕ} → In d xs → In d (x ∷ xs)

in_cond : (d x : ℕ) (xs : List ℕ) (b : Bool) → In d xs → In d (cond b (x ∷ xs) xs)
in_cond d x xs true i = later i
in_cond d x xs false i = i

in_filter : (p : ℕ → Bool) (d : ℕ) (xs : List ℕ) → p d ≡ true → In d xs → In d (filter p xs)
in_filter p d _ pass (first {xs = xs}) = subst (λ b. In d (cond b (d ∷ filter p xs) (filter p xs))) (sym pass) first
in_filter p d _ pass (later {x = x} {xs = xs} i) = in_cond d x (filter p xs) (p x) (in_filter p d xs pass i)

in_step : (a n d : ℕ) → ((eqb d a ≡ true) × (d ≡ a)) ⊎ ((eqb d a ≡ false) × (d ≢ a)) → a ≤ d → (a + 1 ≤ d → In d (range_with_len (a + 1) n)) → In d (a ∷ range_with_len (a + 1) n)
in_step a n d (inl h) low rest = subst (λ z. In z (a ∷ range_with_len (a + 1) n)) (sym h.1) first
in_step a n d (inr h) low rest = later (rest (omega (arith, low, h.1)))

in_range : (n a d : ℕ) → a ≤ d → d < a + n → In d (range_with_len a n)
in_range zero a d low high = absurd (omega (arith, low, high))
in_range (suc n) a d low high = in_step a n d (eqb_tells d a) low (λ l. in_range n (a + 1) d l (omega (arith, high)))

any_in : (p : ℕ → Bool) (d : ℕ) (xs : List ℕ) → p d ≡ true → In d xs → list_any p xs ≡ true
any_in p d _ pass (first {xs = xs}) = or_left (p d) (list_any p xs) pass
any_in p d _ pass (later {x = x} {xs = xs} i) = or_right (p x) (list_any p xs) (any_in p d xs pass i)

all_range : (n a m : ℕ) → a + n ≤ m → list_all (λ d. nat_lt d m) (range_with_len a n) ≡ true
all_range zero a m le = refl
all_range (suc n) a m le = together (nat_lt a m) (list_all (λ d. nat_lt d m) (range_with_len (a + 1) n)) ((Decides-ltb a m).1 (omega (arith, le))) (all_range n (a + 1) m (omega (arith, le)))

all_cond : (p : ℕ → Bool) (x : ℕ) (ys : List ℕ) (b : Bool) → p x ≡ true → list_all p ys ≡ true → list_all p (cond b (x ∷ ys) ys) ≡ true
all_cond p x ys true one all = together (p x) (list_all p ys) one all
all_cond p x ys false one all = all

all_filter : (p q : ℕ → Bool) (xs : List ℕ) → list_all p xs ≡ true → list_all p (filter q xs) ≡ true
all_filter p q [] all = refl
all_filter p q (x ∷ xs) all =
    let parts = both (p x) (list_all p xs) all in
    all_cond p x (filter q xs) (q x) parts.0 (all_filter p q xs parts.1)

-- ---- variables

seen_by : (o : Option ℕ) (b : Bool) (k i : ℕ) → option_or o (if b then Some k else None) ≡ Some i → ((j : ℕ) → o ≡ Some j → j < k) → i < suc k
seen_by (Some j) b k i e rest = let same : j ≡ i = (cc) in let less = rest j refl in omega (arith, same, less)
seen_by None true k i e rest = let same : k ≡ i = (cc) in omega (arith, same)
seen_by None false k i e rest = (cc)

seen : (ts : List Title) (n : List ℕ) (i : ℕ) → variable ts n ≡ Some i → i < length ts
seen [] n i e = (cc)
seen (t ∷ ts) n i e = seen_by (variable ts n) (bytes_eq t.name n && nat_lt (length ts) (2 ^ 32)) (length ts) i e (seen ts n)

copies : {X : Type 0} (n : ℕ) (x : X) → length (replicate n x) ≡ n
copies zero x = refl
copies (suc n) x = ap suc (copies n x)

-- as many variables as kinds, and `this` is there
record Scoped (clafers : List Clafer) (s : Scope) : Type 0 where
  this_in : is_below (length clafers) s.within.this ≡ true
  as_many : length s.names ≡ length s.within.bound

scoped_within : (clafers : List Clafer) (s : Scope) (names : List Title) (k : Option Kind) → Scoped clafers s → Scoped clafers (bind names k s)
unfolding bind
scoped_within clafers s names k scoped =
    let left = length-append s.names names in
    let right = length-append s.within.bound (replicate (length names) (clafers_of k)) in
    let more = copies (length names) (clafers_of k) in
    let same = scoped.as_many in
    record { this_in = scoped.this_in; as_many = omega (arith, left, right, more, same) }

-- ---- parents

-- from c, so many parents up, to a
data Climbs (clafers : List Clafer) : ℕ → ℕ → ℕ → Type 0 where
  here : {c : ℕ} → Climbs clafers c 0 c
  up : {c p j a : ℕ} → parent_of clafers c ≡ Some p → Climbs clafers p j a → Climbs clafers c (suc j) a

-- what is found below a clafer is found as many parents up as there are
data Led (clafers : List Clafer) (context : Option ℕ) (out : ℕ) : Found → Type 0 where
  nowhere : Led clafers context out found.Nothing
  twice : Led clafers context out found.Several
  outer : (c : ℕ) → Led clafers context out (found.Means (meant.Top c))
  inner : (c a j k : ℕ) (way : List ℕ) → context ≡ Some c → Climbs clafers c j a → k ≡ out + j → Led clafers context out (found.Means (meant.Below k way))

further : (clafers : List Clafer) (c out : ℕ) (p : Option ℕ) (r : Found) → parent_of clafers c ≡ p → Led clafers p (out + 1) r → Led clafers (Some c) out r
further clafers c out p _ e nowhere = nowhere
further clafers c out p _ e twice = twice
further clafers c out p _ e (outer d) = outer d
further clafers c out p _ e (inner d a j k way at climbs same) = inner c a (suc j) k way refl (up (e ∙ at) climbs) (omega (arith, same))

top_led : (clafers : List Clafer) (context : Option ℕ) (out : ℕ) (o : Option ℕ) → Led clafers context out (option_map_or (λ c. found.Means (meant.Top c)) o found.Nothing)
top_led clafers context out None = nowhere
top_led clafers context out (Some c) = outer c

led : (clafers : List Clafer) (name : List ℕ) (context : Option ℕ) (out : ℕ) (r : Found) → Means clafers name context out r → Led clafers context out r
led clafers name _ out _ (below {c = c} {way = way} near taken) = inner c c 0 out way refl here (omega arith)
led clafers name _ out _ (ambiguous near) = twice
led clafers name _ out _ (outside {c = c} {p = p} {r = r} near e m) = further clafers c out p r e (led clafers name p (out + 1) r m)
led clafers name _ out _ top = top_led clafers None out (slice_get (filter (is_at_top clafers name) (numbers_below (length clafers))) 0)

itself : (clafers : List Clafer) (n c : ℕ) → has (way_up clafers n c) c ≡ true
itself clafers zero c = or_left (c == c) false ((Decides-eqb c c).1 refl)
itself clafers (suc n) c = or_left (c == c) (has (option_map_or (way_up clafers n) (super_of clafers c) []) c) ((Decides-eqb c c).1 refl)

-- an expression of nodes, c among their clafers
record Reaches (clafers : List Clafer) (w : Within) (t : Tree) (c : ℕ) : Type 0 where
  looked : is_looked_up clafers t w ≡ true
  ks : List ℕ
  of_kind : kind clafers t w ≡ Some (kinds.Nodes ks)
  there : In c ks

in_parents : (clafers : List Clafer) (ks : List ℕ) (c p : ℕ) → c < length clafers → p < length clafers → parent_of clafers c ≡ Some p → In c ks → In p (parents_of clafers ks)
in_parents clafers ks c p within low e i =
    in_filter (has_child_in clafers ks) p (numbers_below (length clafers))
    (any_in (λ d. is_child clafers p d && is_one_of clafers ks d) c (numbers_below (length clafers))
    (together (is_child clafers p c) (is_one_of clafers ks c)
    (ap (λ (o : Option ℕ). option_map_or (λ q. q == p) o false) e ∙ (Decides-eqb p p).1 refl)
    (any_in (is_a clafers c) c ks (itself clafers (length clafers) c) i))
    (in_range (length clafers) 0 c (omega arith) (omega (arith, within))))
    (in_range (length clafers) 0 p (omega arith) (omega (arith, low)))

some_kind : (p : ℕ) (ps : List ℕ) → In p ps → parent_kind ps ≡ Some (kinds.Nodes ps)
some_kind p _ first = refl
some_kind p _ (later i) = refl

parent_reaches : (clafers : List Clafer) (w : Within) (at : Span) (t : Tree) (c p : ℕ) → c < length clafers → p < length clafers → parent_of clafers c ≡ Some p → Reaches clafers w t c
    → Reaches clafers w (form.Parent at t) p
parent_reaches clafers w at t c p within low e r =
    let i = in_parents clafers r.ks c p within low e r.there in
    let k : kind clafers (form.Parent at t) w ≡ Some (kinds.Nodes (parents_of clafers r.ks)) =
    ap (λ (o : Option Kind). parent_kind (parents_of clafers (clafers_of o))) r.of_kind ∙ some_kind p (parents_of clafers r.ks) i in
    record {
      looked = together (is_looked_up clafers t w) (not (is_nodes clafers (kind clafers t w)) || is_some (kind clafers (form.Parent at t) w)) r.looked
          (or_right (not (is_nodes clafers (kind clafers t w))) (is_some (kind clafers (form.Parent at t) w)) (ap (λ (o : Option Kind). is_some o) k));
      ks = parents_of clafers r.ks;
      of_kind = k;
      there = i;
    }

-- each parent stands before its child
Before : List Clafer → Type 0
Before clafers = (c p : ℕ) → c < length clafers → parent_of clafers c ≡ Some p → p < length clafers

climb : (clafers : List Clafer) (w : Within) (at : Span) → Before clafers → (c j a : ℕ) → c < length clafers → Climbs clafers c j a → (t : Tree) → Reaches clafers w t c
    → is_looked_up clafers (outwards at j t) w ≡ true
unfolding Before
climb clafers w at before c _ _ within here t r = r.looked
climb clafers w at before c _ a within (up {p = p} {j = j} e rest) t r =
    let low = before c p within e in
    climb clafers w at before p j a low rest (form.Parent at t) (parent_reaches clafers w at t c p within low e r)

downs : (clafers : List Clafer) (w : Within) (at : Span) (way : List ℕ) (t : Tree) → list_all (λ d. nat_lt d (length clafers)) way ≡ true → is_looked_up clafers t w ≡ true
    → is_looked_up clafers (downwards at way t) w ≡ true
downs clafers w at [] t all looked = looked
downs clafers w at (d ∷ ds) t all looked =
    let parts = both (nat_lt d (length clafers)) (list_all (λ x. nat_lt x (length clafers)) ds) all in
    downs clafers w at ds (form.Step at t (d ∷ []) false) parts.1
    (together (is_looked_up clafers t w && (nat_lt d (length clafers) && true)) true
    (together (is_looked_up clafers t w) (nat_lt d (length clafers) && true) looked (together (nat_lt d (length clafers)) true parts.0 refl)) refl)

-- ---- names

named_looked : (clafers : List Clafer) → Before clafers → (s : Scope) (at : Span) (n : List ℕ) (f : Found) → is_below (length clafers) s.within.this ≡ true
    → is_there (length clafers) f ≡ true → Led clafers s.within.this 0 f → name_refusal at f ≡ None → is_looked_up clafers (named_tree at n f) s.within ≡ true
named_looked clafers before s at n _ this_in there nowhere h = (cc)
named_looked clafers before s at n _ this_in there twice h = (cc)
named_looked clafers before s at n _ this_in there (outer c) h = there
named_looked clafers before s at n _ this_in there (inner c a j k way e climbs same) h =
    let within : c < length clafers = (Decides-ltb c (length clafers)).0 (ap (is_below (length clafers)) (sym e) ∙ this_in) in
    let start : Reaches clafers s.within (form.This at) c = record {
      looked = ap (λ (o : Option ℕ). is_some o) e;
      ks = c ∷ [];
      of_kind = ap (λ (o : Option ℕ). option_map (λ d. kinds.Nodes (d ∷ [])) o) e;
      there = first;
    } in
    let level : k ≡ j = omega (arith, same) in
    subst (λ m. is_looked_up clafers (downwards at way (outwards at m (form.This at))) s.within ≡ true) (sym level)
    (downs clafers s.within at way (outwards at j (form.This at)) there (climb clafers s.within at before c j a within climbs (form.This at) start))

name_looked : MeansOne → MeansThere → (clafers : List Clafer) → Before clafers → IsTrue (each clafers (follows_parent clafers)) → (s : Scope) (at : Span) (n : List ℕ) → Scoped clafers s
    → name_refusal at (name_meaning clafers n s) ≡ None → is_looked_up clafers (named_tree at n (name_meaning clafers n s)) s.within ≡ true
unfolding name_meaning
name_looked one there clafers before all s at n scoped = by_variable (variable s.names n) refl
  where
    by_variable : (o : Option ℕ) → variable s.names n ≡ o → name_refusal at (option_map_or (λ i. found.Means (meant.Variable i)) o (meaning_of clafers s.within.this n)) ≡ None
        → is_looked_up clafers (named_tree at n (option_map_or (λ i. found.Means (meant.Variable i)) o (meaning_of clafers s.within.this n))) s.within ≡ true
    by_variable (Some i) e h =
        let less = seen s.names n i e in
        let same = scoped.as_many in
        (Decides-ltb i (length s.within.bound)).1 (omega (arith, less, same))
    by_variable None e h =
        let m : Means clafers n s.within.this 0 (meaning_of clafers s.within.this n) = (one clafers s.within.this n (meaning_of clafers s.within.this n) scoped.this_in all).1 refl in
        named_looked clafers before s at n (meaning_of clafers s.within.this n) scoped.this_in (there clafers n s.within.this 0 (meaning_of clafers s.within.this n) m)
        (led clafers n s.within.this 0 (meaning_of clafers s.within.this n) m) h

-- ---- steps by names

children_in : (clafers : List Clafer) (n : List ℕ) (k : Option Kind) → list_all (λ d. nat_lt d (length clafers)) (children_named clafers n k) ≡ true
children_in clafers n (Some (kinds.Nodes ks)) =
    all_filter (λ d. nat_lt d (length clafers)) (ways.is_named clafers n) (step_down clafers ks)
    (all_filter (λ d. nat_lt d (length clafers)) (is_child_of clafers ks) (numbers_below (length clafers)) (all_range (length clafers) 0 (length clafers) (omega arith)))
children_in clafers n (Some kinds.Truth) = refl
children_in clafers n (Some kinds.Integer) = refl
children_in clafers n (Some (kinds.Numbers ks)) = refl
children_in clafers n None = refl

nodes_have : (clafers : List Clafer) (n : List ℕ) (k : Option Kind) (y : ℕ) (ys : List ℕ) → children_named clafers n k ≡ y ∷ ys → is_nodes clafers k ≡ true
nodes_have clafers n (Some (kinds.Nodes ks)) y ys e = refl
nodes_have clafers n (Some kinds.Truth) y ys e = (cc)
nodes_have clafers n (Some kinds.Integer) y ys e = (cc)
nodes_have clafers n (Some (kinds.Numbers ks)) y ys e = (cc)
nodes_have clafers n None y ys e = (cc)

abbrev step_to : List ℕ → Bool → NamedStep
step_to ds follow = record { into = ds; follow = follow }

Fits : List Clafer → Option Kind → NamedStep → Type 0
Fits clafers k step = (list_all (λ d. nat_lt d (length clafers)) step.into ≡ true) × ((not step.follow || is_nodes clafers (dref_kind clafers k)) ≡ true)

step_fits : (clafers : List Clafer) (k : Option Kind) (n : List ℕ) (step : NamedStep) → step_by clafers k n ≡ Some step → Fits clafers k step
unfolding step_by Fits
step_fits clafers k n step = by_lists (children_named clafers n k) (children_named clafers n (dref_kind clafers k)) refl refl
  where
    by_lists : (xs ys : List ℕ) → children_named clafers n k ≡ xs → children_named clafers n (dref_kind clafers k) ≡ ys → option_or (some_into false xs) (some_into true ys) ≡ Some step
        → (list_all (λ d. nat_lt d (length clafers)) step.into ≡ true) × ((not step.follow || is_nodes clafers (dref_kind clafers k)) ≡ true)
    by_lists (x ∷ xs) ys p q e =
        let same : step_to (x ∷ xs) false ≡ step = (cc) in
        subst (λ (z : NamedStep). (list_all (λ d. nat_lt d (length clafers)) z.into ≡ true) × ((not z.follow || is_nodes clafers (dref_kind clafers k)) ≡ true)) same
        (subst (λ zs. list_all (λ d. nat_lt d (length clafers)) zs ≡ true) p (children_in clafers n k), refl)
    by_lists [] (y ∷ ys) p q e =
        let same : step_to (y ∷ ys) true ≡ step = (cc) in
        subst (λ (z : NamedStep). (list_all (λ d. nat_lt d (length clafers)) z.into ≡ true) × ((not z.follow || is_nodes clafers (dref_kind clafers k)) ≡ true)) same
        (subst (λ zs. list_all (λ d. nat_lt d (length clafers)) zs ≡ true) q (children_in clafers n (dref_kind clafers k)), nodes_have clafers n (dref_kind clafers k) y ys q)
    by_lists [] [] p q e = (cc)

join_looked : (clafers : List Clafer) (w : Within) (at : Span) (t : Tree) (n : List ℕ) (o : Option NamedStep) → ((step : NamedStep) → o ≡ Some step → Fits clafers (kind clafers t w) step)
    → is_looked_up clafers t w ≡ true → join_refusal at o ≡ None → is_looked_up clafers (joined_tree at t n o) w ≡ true
unfolding Fits
join_looked clafers w at t n None fits looked h = (cc)
join_looked clafers w at t n (Some step) fits looked h =
    let f = fits step refl in
    together (is_looked_up clafers t w && list_all (λ d. nat_lt d (length clafers)) step.into) (not step.follow || is_nodes clafers (dref_kind clafers (kind clafers t w)))
    (together (is_looked_up clafers t w) (list_all (λ d. nat_lt d (length clafers)) step.into) looked f.0) f.1

has_parents : (at : Span) (nodes : Bool) (ps : List ℕ) → parents_refusal at nodes ps ≡ None → (not nodes || is_some (parent_kind ps)) ≡ true
has_parents at false ps h = refl
has_parents at true [] h = (cc)
has_parents at true (p ∷ ps) h = refl

same_nodes : (clafers : List Clafer) (k : Option Kind) → has_nodes k ≡ is_nodes clafers k
same_nodes clafers (Some (kinds.Nodes ks)) = refl
same_nodes clafers (Some kinds.Truth) = refl
same_nodes clafers (Some kinds.Integer) = refl
same_nodes clafers (Some (kinds.Numbers ks)) = refl
same_nodes clafers None = refl

this_looked : (at : Span) (o : Option ℕ) → this_refusal at o ≡ None → is_some o ≡ true
this_looked at None h = (cc)
this_looked at (Some c) h = refl

-- ---- expressions

looks : (one : MeansOne) (there : MeansThere) (clafers : List Clafer) (before : Before clafers) (all : IsTrue (each clafers (follows_parent clafers))) (t : Tree) (s : Scope) → Scoped clafers s → is_written t ≡ true → refusal clafers t s ≡ None → is_looked_up clafers (looked_up clafers t s) s.within ≡ true
unfolding bind
looks one there clafers before all (form.Literal at n) s scoped w h = refl
looks one there clafers before all (form.This at) s scoped w h = this_looked at s.within.this h
looks one there clafers before all (form.Variable at i) s scoped w h = absurd (true≢false (sym w))
looks one there clafers before all (form.Clafer at c) s scoped w h = absurd (true≢false (sym w))
looks one there clafers before all (form.Name at n) s scoped w h = name_looked one there clafers before all s at n scoped h
looks one there clafers before all (form.Join at a n) s scoped w h =
    let x = looked_up clafers a s in
    let k = kind clafers x s.within in
    let parts = not_own (refusal clafers a s) (join_refusal at (step_by clafers k n)) h in
    join_looked clafers s.within at x n (step_by clafers k n) (step_fits clafers k n) (looks one there clafers before all a s scoped w parts.0) parts.1
looks one there clafers before all (form.Step at of into follow) s scoped w h = absurd (true≢false (sym w))
looks one there clafers before all (form.Parent at a) s scoped w h =
    let x = looked_up clafers a s in
    let k = kind clafers x s.within in
    let parts = not_own (refusal clafers a s) (parent_refusal clafers at k) h in
    together (is_looked_up clafers x s.within) (not (is_nodes clafers k) || is_some (parent_kind (parents_of clafers (clafers_of k)))) (looks one there clafers before all a s scoped w parts.0)
    (ap (λ b. not b || is_some (parent_kind (parents_of clafers (clafers_of k)))) (sym (same_nodes clafers k)) ∙ has_parents at (has_nodes k) (parents_of clafers (clafers_of k)) parts.1)
looks one there clafers before all (form.Dref at a) s scoped w h = looks one there clafers before all a s scoped w h
looks one there clafers before all (form.Union at a b) s scoped w h =
    let written = both (is_written a) (is_written b) w in
    let parts = neither (refusal clafers a s) (refusal clafers b s) h in
    together (is_looked_up clafers (looked_up clafers a s) s.within) (is_looked_up clafers (looked_up clafers b s) s.within)
    (looks one there clafers before all a s scoped written.0 parts.0) (looks one there clafers before all b s scoped written.1 parts.1)
looks one there clafers before all (form.Minus at a b) s scoped w h =
    let written = both (is_written a) (is_written b) w in
    let parts = neither (refusal clafers a s) (refusal clafers b s) h in
    together (is_looked_up clafers (looked_up clafers a s) s.within) (is_looked_up clafers (looked_up clafers b s) s.within)
    (looks one there clafers before all a s scoped written.0 parts.0) (looks one there clafers before all b s scoped written.1 parts.1)
looks one there clafers before all (form.Meet at a b) s scoped w h =
    let written = both (is_written a) (is_written b) w in
    let parts = neither (refusal clafers a s) (refusal clafers b s) h in
    together (is_looked_up clafers (looked_up clafers a s) s.within) (is_looked_up clafers (looked_up clafers b s) s.within)
    (looks one there clafers before all a s scoped written.0 parts.0) (looks one there clafers before all b s scoped written.1 parts.1)
looks one there clafers before all (form.If at c a b) s scoped w h =
    let written = both (is_written c && is_written a) (is_written b) w in
    let first_two = both (is_written c) (is_written a) written.0 in
    let parts = neither (sooner (refusal clafers c s) (refusal clafers a s)) (refusal clafers b s) h in
    let left = neither (refusal clafers c s) (refusal clafers a s) parts.0 in
    let x = looked_up clafers c s in
    let y = looked_up clafers a s in
    let z = looked_up clafers b s in
    together (is_looked_up clafers x s.within && is_looked_up clafers y s.within) (is_looked_up clafers z s.within)
    (together (is_looked_up clafers x s.within) (is_looked_up clafers y s.within) (looks one there clafers before all c s scoped first_two.0 left.0)
    (looks one there clafers before all a s scoped first_two.1 left.1))
    (looks one there clafers before all b s scoped written.1 parts.1)
looks one there clafers before all (form.Not at a) s scoped w h = looks one there clafers before all a s scoped w h
looks one there clafers before all (form.And at a b) s scoped w h =
    let written = both (is_written a) (is_written b) w in
    let parts = neither (refusal clafers a s) (refusal clafers b s) h in
    together (is_looked_up clafers (looked_up clafers a s) s.within) (is_looked_up clafers (looked_up clafers b s) s.within)
    (looks one there clafers before all a s scoped written.0 parts.0) (looks one there clafers before all b s scoped written.1 parts.1)
looks one there clafers before all (form.Or at a b) s scoped w h =
    let written = both (is_written a) (is_written b) w in
    let parts = neither (refusal clafers a s) (refusal clafers b s) h in
    together (is_looked_up clafers (looked_up clafers a s) s.within) (is_looked_up clafers (looked_up clafers b s) s.within)
    (looks one there clafers before all a s scoped written.0 parts.0) (looks one there clafers before all b s scoped written.1 parts.1)
looks one there clafers before all (form.Xor at a b) s scoped w h =
    let written = both (is_written a) (is_written b) w in
    let parts = neither (refusal clafers a s) (refusal clafers b s) h in
    together (is_looked_up clafers (looked_up clafers a s) s.within) (is_looked_up clafers (looked_up clafers b s) s.within)
    (looks one there clafers before all a s scoped written.0 parts.0) (looks one there clafers before all b s scoped written.1 parts.1)
looks one there clafers before all (form.Implies at a b) s scoped w h =
    let written = both (is_written a) (is_written b) w in
    let parts = neither (refusal clafers a s) (refusal clafers b s) h in
    together (is_looked_up clafers (looked_up clafers a s) s.within) (is_looked_up clafers (looked_up clafers b s) s.within)
    (looks one there clafers before all a s scoped written.0 parts.0) (looks one there clafers before all b s scoped written.1 parts.1)
looks one there clafers before all (form.Iff at a b) s scoped w h =
    let written = both (is_written a) (is_written b) w in
    let parts = neither (refusal clafers a s) (refusal clafers b s) h in
    together (is_looked_up clafers (looked_up clafers a s) s.within) (is_looked_up clafers (looked_up clafers b s) s.within)
    (looks one there clafers before all a s scoped written.0 parts.0) (looks one there clafers before all b s scoped written.1 parts.1)
looks one there clafers before all (form.Card at a) s scoped w h = looks one there clafers before all a s scoped w h
looks one there clafers before all (form.Sum at a) s scoped w h = looks one there clafers before all a s scoped w h
looks one there clafers before all (form.Neg at a) s scoped w h = looks one there clafers before all a s scoped w h
looks one there clafers before all (form.Add at a b) s scoped w h =
    let written = both (is_written a) (is_written b) w in
    let parts = neither (refusal clafers a s) (refusal clafers b s) h in
    together (is_looked_up clafers (looked_up clafers a s) s.within) (is_looked_up clafers (looked_up clafers b s) s.within)
    (looks one there clafers before all a s scoped written.0 parts.0) (looks one there clafers before all b s scoped written.1 parts.1)
looks one there clafers before all (form.Sub at a b) s scoped w h =
    let written = both (is_written a) (is_written b) w in
    let parts = neither (refusal clafers a s) (refusal clafers b s) h in
    together (is_looked_up clafers (looked_up clafers a s) s.within) (is_looked_up clafers (looked_up clafers b s) s.within)
    (looks one there clafers before all a s scoped written.0 parts.0) (looks one there clafers before all b s scoped written.1 parts.1)
looks one there clafers before all (form.Mul at a b) s scoped w h =
    let written = both (is_written a) (is_written b) w in
    let parts = neither (refusal clafers a s) (refusal clafers b s) h in
    together (is_looked_up clafers (looked_up clafers a s) s.within) (is_looked_up clafers (looked_up clafers b s) s.within)
    (looks one there clafers before all a s scoped written.0 parts.0) (looks one there clafers before all b s scoped written.1 parts.1)
looks one there clafers before all (form.Less at a b) s scoped w h =
    let written = both (is_written a) (is_written b) w in
    let parts = neither (refusal clafers a s) (refusal clafers b s) h in
    together (is_looked_up clafers (looked_up clafers a s) s.within) (is_looked_up clafers (looked_up clafers b s) s.within)
    (looks one there clafers before all a s scoped written.0 parts.0) (looks one there clafers before all b s scoped written.1 parts.1)
looks one there clafers before all (form.LessEqual at a b) s scoped w h =
    let written = both (is_written a) (is_written b) w in
    let parts = neither (refusal clafers a s) (refusal clafers b s) h in
    together (is_looked_up clafers (looked_up clafers a s) s.within) (is_looked_up clafers (looked_up clafers b s) s.within)
    (looks one there clafers before all a s scoped written.0 parts.0) (looks one there clafers before all b s scoped written.1 parts.1)
looks one there clafers before all (form.Greater at a b) s scoped w h =
    let written = both (is_written a) (is_written b) w in
    let parts = neither (refusal clafers a s) (refusal clafers b s) h in
    together (is_looked_up clafers (looked_up clafers a s) s.within) (is_looked_up clafers (looked_up clafers b s) s.within)
    (looks one there clafers before all a s scoped written.0 parts.0) (looks one there clafers before all b s scoped written.1 parts.1)
looks one there clafers before all (form.GreaterEqual at a b) s scoped w h =
    let written = both (is_written a) (is_written b) w in
    let parts = neither (refusal clafers a s) (refusal clafers b s) h in
    together (is_looked_up clafers (looked_up clafers a s) s.within) (is_looked_up clafers (looked_up clafers b s) s.within)
    (looks one there clafers before all a s scoped written.0 parts.0) (looks one there clafers before all b s scoped written.1 parts.1)
looks one there clafers before all (form.Equal at a b) s scoped w h =
    let written = both (is_written a) (is_written b) w in
    let parts = neither (refusal clafers a s) (refusal clafers b s) h in
    together (is_looked_up clafers (looked_up clafers a s) s.within) (is_looked_up clafers (looked_up clafers b s) s.within)
    (looks one there clafers before all a s scoped written.0 parts.0) (looks one there clafers before all b s scoped written.1 parts.1)
looks one there clafers before all (form.In at a b) s scoped w h =
    let written = both (is_written a) (is_written b) w in
    let parts = neither (refusal clafers a s) (refusal clafers b s) h in
    together (is_looked_up clafers (looked_up clafers a s) s.within) (is_looked_up clafers (looked_up clafers b s) s.within)
    (looks one there clafers before all a s scoped written.0 parts.0) (looks one there clafers before all b s scoped written.1 parts.1)
looks one there clafers before all (form.Some at a) s scoped w h = looks one there clafers before all a s scoped w h
looks one there clafers before all (form.No at a) s scoped w h = looks one there clafers before all a s scoped w h
looks one there clafers before all (form.One at a) s scoped w h = looks one there clafers before all a s scoped w h
looks one there clafers before all (form.Lone at a) s scoped w h = looks one there clafers before all a s scoped w h
looks one there clafers before all (form.Quant at word disj names over body) s scoped w h =
    let w1 = both (is_quantifier [] word && are_names names && each_two differ names && is_written over) (is_written body) w in
    let w2 = both (is_quantifier [] word && are_names names && each_two differ names) (is_written over) w1.0 in
    let k = kind clafers (looked_up clafers over s) s.within in
    let deeper = bind names k s in
    let parts = neither (refusal clafers over s) (refusal clafers body deeper) h in
    let x = looked_up clafers over s in
    let y = looked_up clafers body deeper in
    together (is_quantifier clafers word && are_names names && each_two differ names && is_looked_up clafers x s.within) (is_looked_up clafers y deeper.within)
    (together (is_quantifier clafers word && are_names names && each_two differ names) (is_looked_up clafers x s.within) w2.0 (looks one there clafers before all over s scoped w2.1 parts.0))
    (looks one there clafers before all body deeper (scoped_within clafers s names k scoped) w1.1 parts.1)

all_of : (p : ℕ → Bool) (d : ℕ) (xs : List ℕ) → list_all p xs ≡ true → In d xs → p d ≡ true
all_of p d _ all (first {xs = xs}) = (both (p d) (list_all p xs) all).0
all_of p d _ all (later {x = x} {xs = xs} i) = all_of p d xs (both (p x) (list_all p xs) all).1 i

before_child : (clafers : List Clafer) → IsTrue (each clafers (follows_parent clafers)) → Before clafers
unfolding Before
before_child clafers all c p within e =
    let one : follows_parent clafers c ≡ true =
    all_of (follows_parent clafers) c (numbers_below (length clafers)) all (in_range (length clafers) 0 c (omega arith) (omega (arith, within))) in
    let low : p < c = (Decides-ltb p c).0 (ap (is_below c) (sym e) ∙ one) in
    omega (arith, low, within)

pub leaves_nothing : MeansOne → MeansThere → LeavesNothing
leaves_nothing one there clafers context t all this_in written none =
    looks one there clafers (before_child clafers all) all t (from context) (record { this_in = this_in; as_many = refl }) written none
