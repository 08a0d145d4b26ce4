-- From where a name is reached, by one step more.
use Rattle.std.proofs.Common.{◌≡◌, ℕ, zero, suc, ◌+◌, ◌<◌, ◌≤◌, ◌&&◌, Bool, true, false, List, [], ◌∷◌, length, get_or, map, Option, Some, None, refl, ap, sym, subst, ◌∙◌, arith, ◌⊎◌, inl, inr}
use Rattle.std.specs.Prelude.{◌==◌, nat_lt, slice_get, is_some, is_none, if◌then◌else◌}
use Rattle.std.specs.Option.{option_map_or, option_and_then}
use Rattle.std.specs.HashMap.{HashMap}
use Rattle.std.proofs.lemmas.Bool.Decides.{eqb_tells, leb_tells, Decides-ltb, Decides-eqb}
use Rattle.std.proofs.lemmas.Bool.{true≢false}
use Rattle.clf_tree.specs.declared.model.Clafer.{Clafer}
use Rattle.clf_tree.specs.Kinds.{is_child as is_declared_under}
use Rattle.clf_tree.specs.Lists.{numbers_below, has}
use Rattle.clf_tree.specs.Hierarchy.{is_a, parent_of}
use Rattle.name_resolver.specs.Ways.{is_child, is_named, Way, here, down}
use Rattle.name_resolver.proofs.Members.{In, first, later, in_filter, from_filter, in_numbers, nothing_in, head_or_later, got_below}
use Rattle.name_resolver.proofs.FirstWays.{has_in, in_has}
use Rattle.name_resolver.proofs.Straight.{short}
use Rattle.name_tables.specs.declared.label.Label.{Label}
use Rattle.name_tables.specs.Labels.{shortest, label_at, only_at, reached, reached_all, reached_first, reached_next}
use Rattle.name_tables.specs.Tables.{OwnWay, own, Ends, one, several, Shortest, Labels, Tells, AreHeirs, IsLevel, is_label_of, named_among}
use Rattle.name_tables.proofs.Summing.{Within, Covers, more_tells, same_tells, Either, shortest_tells}

-- ---- one child

-- a way that begins at a child declared directly under p and goes on by one of the given ways
data Step (clafers : List Clafer) (m : ℕ) (ways : List ℕ → ℕ → Type 0) (p : ℕ) : List ℕ → ℕ → Type 0 where
  step : {d : ℕ} {way : List ℕ} → is_declared_under clafers p m ≡ true → ways way d → Step clafers m ways p (m ∷ way) d

step_ends : (clafers : List Clafer) (m : ℕ) (ways : List ℕ → ℕ → Type 0) (p k : ℕ) (only : Option ℕ) → is_declared_under clafers p m ≡ true → Ends ways k only → Ends (Step clafers m ways p) (suc k) only
step_ends clafers m ways p k _ under (one {d = d} all) = one one_end
  where
    one_end : (way : List ℕ) (e : ℕ) → Step clafers m ways p way e → length way ≡ suc k → e ≡ d
    one_end _ e (step {way = way} u w) long = all way e w (omega (arith, long))
step_ends clafers m ways p k _ under (several d e way other w o l n differ) =
    several d e (m ∷ way) (m ∷ other) (step under w) (step under o) (ap suc l) (ap suc n) differ

step_labels : (clafers : List Clafer) (m : ℕ) (ways : List ℕ → ℕ → Type 0) (p k : ℕ) (only : Option ℕ) → is_declared_under clafers p m ≡ true → Shortest ways k only
    → Labels (Step clafers m ways p) (record { steps = suc k; only = only; next = m })
step_labels clafers m ways p k only under s = record {
  shortest = record {
    way = m ∷ s.way;
    end = s.end;
    there = step under s.there;
    long = ap suc s.long;
    least = least;
    ends = step_ends clafers m ways p k only under s.ends;
  };
  rest = s.way;
  end = s.end;
  goes = step under s.there;
  long = ap suc s.long;
  first = first_child;
}
  where
    least : (other : List ℕ) (e : ℕ) → Step clafers m ways p other e → suc k ≤ length other
    least _ e (step {way = way} u w) = let low = s.least way e w in omega (arith, low)

    first_child : (n : ℕ) (way : List ℕ) (e : ℕ) → Step clafers m ways p (n ∷ way) e → suc (length way) ≡ suc k → m ≤ n
    first_child _ _ e (step u w) long = omega arith

not_step : (clafers : List Clafer) (m : ℕ) (ways : List ℕ → ℕ → Type 0) (p : ℕ) (way : List ℕ) (d : ℕ) → is_declared_under clafers p m ≡ false → Step clafers m ways p way d → ⊥
not_step clafers m ways p _ d fails (step under w) = true≢false (sym under ∙ fails)

reached_tells : (clafers : List Clafer) (m : ℕ) (ways known : List ℕ → ℕ → Type 0) (p k : ℕ) (only : Option ℕ) (o : Option Label) → Shortest ways k only → Tells known o
    → Tells (Either known (Step clafers m ways p)) (reached clafers m (suc k) only p o)
reached_tells clafers m ways known p k only o s t = by (is_declared_under clafers p m) refl
  where
    by : (b : Bool) → is_declared_under clafers p m ≡ b
        → Tells (Either known (Step clafers m ways p)) (if b then shortest o (Some (record { steps = suc k; only = only; next = m })) else o)
    by true e = shortest_tells known (Step clafers m ways p) o (Some (record { steps = suc k; only = only; next = m })) t (step_labels clafers m ways p k only e s)
    by false e = same_tells known (Either known (Step clafers m ways p)) o (λ way d w. inl w)
        (λ way d w. elim w [ inl v ↦ v | inr v ↦ absurd (not_step clafers m ways p way d e v) ]) t

-- ---- several children

data Through (clafers : List Clafer) (ms : List ℕ) (ways : List ℕ → ℕ → Type 0) (p : ℕ) : List ℕ → ℕ → Type 0 where
  through : {m d : ℕ} {way : List ℕ} → In m ms → is_declared_under clafers p m ≡ true → ways way d → Through clafers ms ways p (m ∷ way) d

no_through : (clafers : List Clafer) (ways : List ℕ → ℕ → Type 0) (p : ℕ) (way : List ℕ) (d : ℕ) → Through clafers [] ways p way d → ⊥
no_through clafers ways p _ d (through {m = m} i u w) = nothing_in m [] refl i

through_more : (clafers : List Clafer) (m : ℕ) (ms : List ℕ) (ways known : List ℕ → ℕ → Type 0) (p : ℕ) (way : List ℕ) (d : ℕ)
    → Either (Either known (Step clafers m ways p)) (Through clafers ms ways p) way d → Either known (Through clafers (m ∷ ms) ways p) way d
through_more clafers m ms ways known p way d (inl (inl w)) = inl w
through_more clafers m ms ways known p _ d (inl (inr (step u w))) = inr (through first u w)
through_more clafers m ms ways known p _ d (inr (through i u w)) = inr (through (later i) u w)

through_back : (clafers : List Clafer) (m : ℕ) (ms : List ℕ) (ways known : List ℕ → ℕ → Type 0) (p : ℕ) (way : List ℕ) (d : ℕ)
    → Either known (Through clafers (m ∷ ms) ways p) way d → Either (Either known (Step clafers m ways p)) (Through clafers ms ways p) way d
through_back clafers m ms ways known p way d (inl w) = inl (inl w)
through_back clafers m ms ways known p _ d (inr (through {m = n} {way = way} i u w)) = elim (head_or_later i) [
  | inl same ↦ inl (inr (subst (λ (z : ℕ). Step clafers m ways p (z ∷ way) d) (sym same) (step (subst (λ (z : ℕ). is_declared_under clafers p z ≡ true) same u) w)))
  | inr j ↦ inr (through j u w)
]

reached_all_tells : (clafers : List Clafer) (ms : List ℕ) (ways known : List ℕ → ℕ → Type 0) (p k : ℕ) (only : Option ℕ) (o : Option Label) → Shortest ways k only → Tells known o
    → Tells (Either known (Through clafers ms ways p)) (reached_all clafers ms (suc k) only p o)
reached_all_tells clafers [] ways known p k only o s t =
    same_tells known (Either known (Through clafers [] ways p)) o (λ way d w. inl w) (λ way d w. elim w [ inl v ↦ v | inr v ↦ absurd (no_through clafers ways p way d v) ]) t
reached_all_tells clafers (m ∷ ms) ways known p k only o s t =
    same_tells (Either (Either known (Step clafers m ways p)) (Through clafers ms ways p)) (Either known (Through clafers (m ∷ ms) ways p)) _
    (through_more clafers m ms ways known p) (through_back clafers m ms ways known p)
    (reached_all_tells clafers ms ways (Either known (Step clafers m ways p)) p k only (reached clafers m (suc k) only p o) s (reached_tells clafers m ways known p k only o s t))

-- ---- the first step

data ByOne (clafers : List Clafer) (ds : List ℕ) (p : ℕ) : List ℕ → ℕ → Type 0 where
  by_one : {d : ℕ} → In d ds → is_declared_under clafers p d ≡ true → ByOne clafers ds p (d ∷ []) d

abbrev AtOnce : ℕ → List ℕ → ℕ → Type 0
AtOnce d way e = (way ≡ []) × (e ≡ d)

at_once : (d : ℕ) → Shortest (AtOnce d) 0 (Some d)
at_once d = record {
  way = [];
  end = d;
  there = (refl, refl);
  long = refl;
  least = λ way e w. omega arith;
  ends = one (λ way e w long. w.1);
}

no_one : (clafers : List Clafer) (p : ℕ) (way : List ℕ) (d : ℕ) → ByOne clafers [] p way d → ⊥
no_one clafers p _ d (by_one i u) = nothing_in d [] refl i

one_more : (clafers : List Clafer) (n : ℕ) (ds : List ℕ) (known : List ℕ → ℕ → Type 0) (p : ℕ) (way : List ℕ) (d : ℕ)
    → Either (Either known (Step clafers n (AtOnce n) p)) (ByOne clafers ds p) way d → Either known (ByOne clafers (n ∷ ds) p) way d
one_more clafers n ds known p way d (inl (inl w)) = inl w
one_more clafers n ds known p _ d (inl (inr (step {way = way} u w))) =
    inr (subst (λ (e : ℕ). ByOne clafers (n ∷ ds) p (n ∷ way) e) (sym w.1) (subst (λ (v : List ℕ). ByOne clafers (n ∷ ds) p (n ∷ v) n) (sym w.0) (by_one first u)))
one_more clafers n ds known p _ d (inr (by_one i u)) = inr (by_one (later i) u)

one_back : (clafers : List Clafer) (n : ℕ) (ds : List ℕ) (known : List ℕ → ℕ → Type 0) (p : ℕ) (way : List ℕ) (d : ℕ)
    → Either known (ByOne clafers (n ∷ ds) p) way d → Either (Either known (Step clafers n (AtOnce n) p)) (ByOne clafers ds p) way d
one_back clafers n ds known p way d (inl w) = inl (inl w)
one_back clafers n ds known p _ d (inr (by_one i u)) = elim (head_or_later i) [
  | inl same ↦ inl (inr (subst (λ (z : ℕ). Step clafers n (AtOnce n) p (z ∷ []) z) (sym same) (step (subst (λ (z : ℕ). is_declared_under clafers p z ≡ true) same u) (refl, refl))))
  | inr j ↦ inr (by_one j u)
]

reached_first_tells : (clafers : List Clafer) (ds : List ℕ) (known : List ℕ → ℕ → Type 0) (p : ℕ) (o : Option Label) → Tells known o → Tells (Either known (ByOne clafers ds p)) (reached_first clafers ds p o)
reached_first_tells clafers [] known p o t =
    same_tells known (Either known (ByOne clafers [] p)) o (λ way d w. inl w) (λ way d w. elim w [ inl v ↦ v | inr v ↦ absurd (no_one clafers p way d v) ]) t
reached_first_tells clafers (n ∷ ds) known p o t =
    same_tells (Either (Either known (Step clafers n (AtOnce n) p)) (ByOne clafers ds p)) (Either known (ByOne clafers (n ∷ ds) p)) _
    (one_more clafers n ds known p) (one_back clafers n ds known p)
    (reached_first_tells clafers ds (Either known (Step clafers n (AtOnce n) p)) p (reached clafers n 1 (Some n) p o) (reached_tells clafers n (AtOnce n) known p 0 (Some n) o (at_once n) t))

-- ---- a step more

-- a way that begins at a child which is-a one of ps, and goes on by one of that one's ways
data ByNext (clafers : List Clafer) (heirs : List (List ℕ)) (ps : List ℕ) (ways : ℕ → List ℕ → ℕ → Type 0) (p : ℕ) : List ℕ → ℕ → Type 0 where
  by_next : {r m d : ℕ} {way : List ℕ} → In r ps → In m (get_or heirs r []) → is_declared_under clafers p m ≡ true → ways r way d → ByNext clafers heirs ps ways p (m ∷ way) d

no_next : (clafers : List Clafer) (heirs : List (List ℕ)) (ways : ℕ → List ℕ → ℕ → Type 0) (p : ℕ) (way : List ℕ) (d : ℕ) → ByNext clafers heirs [] ways p way d → ⊥
no_next clafers heirs ways p _ d (by_next {r = r} i j u w) = nothing_in r [] refl i

next_more : (clafers : List Clafer) (heirs : List (List ℕ)) (r : ℕ) (ps : List ℕ) (ways : ℕ → List ℕ → ℕ → Type 0) (known : List ℕ → ℕ → Type 0) (p : ℕ) (way : List ℕ) (d : ℕ)
    → Either (Either known (Through clafers (get_or heirs r []) (ways r) p)) (ByNext clafers heirs ps ways p) way d → Either known (ByNext clafers heirs (r ∷ ps) ways p) way d
next_more clafers heirs r ps ways known p way d (inl (inl w)) = inl w
next_more clafers heirs r ps ways known p _ d (inl (inr (through j u w))) = inr (by_next {r = r} first j u w)
next_more clafers heirs r ps ways known p _ d (inr (by_next {r = q} i j u w)) = inr (by_next {r = q} (later i) j u w)

next_back : (clafers : List Clafer) (heirs : List (List ℕ)) (r : ℕ) (ps : List ℕ) (ways : ℕ → List ℕ → ℕ → Type 0) (known : List ℕ → ℕ → Type 0) (p : ℕ) (way : List ℕ) (d : ℕ)
    → Either known (ByNext clafers heirs (r ∷ ps) ways p) way d → Either (Either known (Through clafers (get_or heirs r []) (ways r) p)) (ByNext clafers heirs ps ways p) way d
next_back clafers heirs r ps ways known p way d (inl w) = inl (inl w)
next_back clafers heirs r ps ways known p _ d (inr (by_next {r = q} {m = m} {way = way} i j u w)) = elim (head_or_later i) [
  | inl same ↦ inl (inr (through (subst (λ (z : ℕ). In m (get_or heirs z [])) same j) u (subst (λ (z : ℕ). ways z way d) same w)))
  | inr k ↦ inr (by_next {r = q} k j u w)
]

reached_next_tells : {S : Type 0} (clafers : List Clafer) (heirs : List (List ℕ)) (labels : HashMap ℕ Label S) (ps : List ℕ) (ways : ℕ → List ℕ → ℕ → Type 0) (k : ℕ)
    → ((r : ℕ) → In r ps → Shortest (ways r) k (only_at labels r).only) → (known : List ℕ → ℕ → Type 0) (p : ℕ) (o : Option Label) → Tells known o
    → Tells (Either known (ByNext clafers heirs ps ways p)) (reached_next clafers heirs (map (only_at labels) ps) (suc k) p o)
reached_next_tells clafers heirs labels [] ways k each known p o t =
    same_tells known (Either known (ByNext clafers heirs [] ways p)) o (λ way d w. inl w) (λ way d w. elim w [ inl v ↦ v | inr v ↦ absurd (no_next clafers heirs ways p way d v) ]) t
reached_next_tells clafers heirs labels (r ∷ ps) ways k each known p o t =
    same_tells (Either (Either known (Through clafers (get_or heirs r []) (ways r) p)) (ByNext clafers heirs ps ways p)) (Either known (ByNext clafers heirs (r ∷ ps) ways p)) _
    (next_more clafers heirs r ps ways known p) (next_back clafers heirs r ps ways known p)
    (reached_next_tells clafers heirs labels ps ways k (λ q i. each q (later i)) (Either known (Through clafers (get_or heirs r []) (ways r) p)) p
    (reached_all clafers (get_or heirs r []) (suc k) (only_at labels r).only p o)
    (reached_all_tells clafers (get_or heirs r []) (ways r) known p k (only_at labels r).only o (each r first) t))

-- ---- levels

-- the ways of a name from p by at most so many steps
abbrev Few : List Clafer → List ℕ → ℕ → ℕ → List ℕ → ℕ → Type 0
Few clafers name k p way d = OwnWay clafers name p way d × (length way ≤ k)

-- a new label is one of so many steps
fresh_label : (clafers : List Clafer) (name : List ℕ) (k p : ℕ) (old new : Option Label) → Tells (Few clafers name k p) old → Tells (Few clafers name (suc k) p) new
    → (is_some new && is_none old) ≡ option_map_or (is_label_of (suc k)) new false
fresh_label clafers name k p None None s t = refl
fresh_label clafers name k p (Some l) None s t = absurd (t s.shortest.way s.shortest.end (s.shortest.there.0, let low = s.shortest.there.1 in omega (arith, low)))
fresh_label clafers name k p None (Some l) s t = sym ((Decides-eqb l.steps (suc k)).1 exact)
  where
    exact : l.steps ≡ suc k
    exact = elim (leb_tells (length t.shortest.way) k) [
      | inl low ↦ absurd (s t.shortest.way t.shortest.end (t.shortest.there.0, low.1))
      | inr high ↦ let top = t.shortest.there.1 in let long = t.shortest.long in omega (arith, high.1, top, long)
    ]
fresh_label clafers name k p (Some l) (Some m) s t = sym (differs (t.shortest.least s.shortest.way s.shortest.end (s.shortest.there.0, let low = s.shortest.there.1 in omega (arith, low))) s.shortest.there.1)
  where
    differs : m.steps ≤ length s.shortest.way → length s.shortest.way ≤ k → (m.steps == suc k) ≡ false
    differs a b = elim (eqb_tells m.steps (suc k)) [
      | inl h ↦ absurd (omega (arith, a, b, h.1))
      | inr h ↦ h.0
    ]

own_parts : (clafers : List Clafer) (name : List ℕ) (p : ℕ) (way : List ℕ) (d : ℕ) → OwnWay clafers name p way d → 1 ≤ length way
own_parts clafers name p _ d (own u w named) = omega arith

no_ways : (clafers : List Clafer) (name : List ℕ) (p : ℕ) → Tells (Few clafers name 0 p) None
no_ways clafers name p = λ way d w. let some = own_parts clafers name p way d w.0 in let none = w.1 in absurd (omega (arith, some, none))

one_into : (clafers : List Clafer) (name : List ℕ) (p : ℕ) (way : List ℕ) (d : ℕ) → Either (Few clafers name 0 p) (ByOne clafers (named_among clafers name (length clafers)) p) way d → Few clafers name 1 p way d
one_into clafers name p way d (inl w) = absurd (no_ways clafers name p way d w)
one_into clafers name p _ d (inr (by_one i u)) = (own u here (from_filter (is_named clafers name) d (numbers_below (length clafers)) i).passes, omega arith)

declared_below : (clafers : List Clafer) (p m : ℕ) → is_declared_under clafers p m ≡ true → m < length clafers
declared_below clafers p m u = by (slice_get clafers m) refl u
  where
    by : (o : Option Clafer) → slice_get clafers m ≡ o → option_map_or (λ q. q == p) (option_and_then (λ k. k.parent) o) false ≡ true → m < length clafers
    by None e v = absurd (true≢false (sym v))
    by (Some k) e v = got_below clafers m k e

one_out : (clafers : List Clafer) (name : List ℕ) (p : ℕ) (way : List ℕ) (d : ℕ) → Few clafers name 1 p way d → Either (Few clafers name 0 p) (ByOne clafers (named_among clafers name (length clafers)) p) way d
one_out clafers name p _ d (own u here named, low) = inr (by_one (in_filter (is_named clafers name) d (numbers_below (length clafers)) named (in_numbers (length clafers) d (declared_below clafers p d u))) u)
one_out clafers name p _ d (own u (down child w) named, low) = absurd (omega (arith, low))

pub first_level : (clafers : List Clafer) (name ds : List ℕ) (label : ℕ → Option Label) (last : List ℕ) → ds ≡ named_among clafers name (length clafers)
    → ((p : ℕ) → label p ≡ reached_first clafers ds p None) → ((p : ℕ) → has last p ≡ (is_some (label p) && true)) → IsLevel clafers name 1 label last
first_level clafers name ds label last e found fresh = record {
  tells = tells;
  reaches = λ p. fresh p ∙ fresh_label clafers name 0 p None (label p) (no_ways clafers name p) (tells p);
}
  where
    tells : (p : ℕ) → Tells (Few clafers name 1 p) (label p)
    tells p = subst (λ (o : Option Label). Tells (Few clafers name 1 p) o) (sym (found p ∙ ap (λ (z : List ℕ). reached_first clafers z p None) e))
        (same_tells (Either (Few clafers name 0 p) (ByOne clafers (named_among clafers name (length clafers)) p)) (Few clafers name 1 p) _ (one_into clafers name p) (one_out clafers name p)
        (reached_first_tells clafers (named_among clafers name (length clafers)) (Few clafers name 0 p) p None (no_ways clafers name p)))

-- ---- one level after the other

under_by : (p : ℕ) (o : Option ℕ) → option_map_or (λ q. q == p) o false ≡ true → o ≡ Some p
under_by p None u = absurd (true≢false (sym u))
under_by p (Some q) u = ap Some ((Decides-eqb q p).0 u)

under_is : (clafers : List Clafer) (p m : ℕ) → is_declared_under clafers p m ≡ true → parent_of clafers m ≡ Some p
under_is clafers p m u = under_by p (parent_of clafers m) u

pub record Declared (clafers : List Clafer) (c m : ℕ) : Type 0 where
  pub parent : ℕ
  pub above : is_a clafers c parent ≡ true
  pub under : is_declared_under clafers parent m ≡ true

pub declared : (clafers : List Clafer) (c m : ℕ) → is_child clafers c m ≡ true → Declared clafers c m
declared clafers c m child = by (parent_of clafers m) refl child
  where
    by : (o : Option ℕ) → parent_of clafers m ≡ o → option_map_or (is_a clafers c) o false ≡ true → Declared clafers c m
    by None e h = absurd (true≢false (sym h))
    by (Some p) e h = record { parent = p; above = h; under = ap (λ (o : Option ℕ). option_map_or (λ q. q == p) o false) e ∙ (Decides-eqb p p).1 refl }

pub lifted : (clafers : List Clafer) (name : List ℕ) (c s : ℕ) (way : List ℕ) (d : ℕ) → is_a clafers c s ≡ true → OwnWay clafers name s way d → Way clafers c way d × (is_named clafers name d ≡ true)
lifted clafers name c s _ d above (own {m = m} u w named) = (down (ap (λ (o : Option ℕ). option_map_or (is_a clafers c) o false) (under_is clafers s m u) ∙ above) w, named)

record Behind (clafers : List Clafer) (name last : List ℕ) (m : ℕ) (way : List ℕ) (d : ℕ) : Type 0 where
  parent : ℕ
  among : In parent last
  above : is_a clafers m parent ≡ true
  owns : OwnWay clafers name parent way d

-- a shorter label of what is above m leads from p
by_label : (clafers : List Clafer) (name : List ℕ) (p m s k : ℕ) (l : Label) → is_declared_under clafers p m ≡ true → is_a clafers m s ≡ true → Labels (Few clafers name k s) l → l.steps < k
    → Within (OwnWay clafers name p) k
by_label clafers name p m s k l u above t less =
    let w = lifted clafers name m s (l.next ∷ t.rest) t.end above t.goes.0 in
    record { way = m ∷ l.next ∷ t.rest; end = t.end; there = own u w.0 w.1; short = let long = t.long in omega (arith, long, less) }

last_at : (clafers : List Clafer) (name last : List ℕ) (k : ℕ) (label : ℕ → Option Label) (s : ℕ) (l : Label) → IsLevel clafers name k label last → label s ≡ Some l → l.steps ≡ k → In s last
last_at clafers name last k label s l level e same =
    in_has last s (level.reaches s ∙ ap (λ (o : Option Label). option_map_or (is_label_of k) o false) e ∙ (Decides-eqb l.steps k).1 same)

behind_by : (clafers : List Clafer) (name last : List ℕ) (k : ℕ) (label : ℕ → Option Label) (p m s : ℕ) (way : List ℕ) (d : ℕ) → IsLevel clafers name k label last
    → is_declared_under clafers p m ≡ true → is_a clafers m s ≡ true → OwnWay clafers name s way d → length way ≡ k → (o : Option Label) → label s ≡ o → Tells (Few clafers name k s) o
    → Within (OwnWay clafers name p) k ⊎ Behind clafers name last m way d
behind_by clafers name last k label p m s way d level u above w long None e t = absurd (t way d (w, omega (arith, long)))
behind_by clafers name last k label p m s way d level u above w long (Some l) e t = elim (eqb_tells l.steps k) [
  | inl h ↦ inr (record { parent = s; among = last_at clafers name last k label s l level e h.1; above = above; owns = w })
  | inr h ↦ inl (by_label clafers name p m s k l u above t (let low = t.shortest.least way d (w, omega (arith, long)) in omega (arith, low, long, h.1)))
]

behind : (clafers : List Clafer) (name last : List ℕ) (k : ℕ) (label : ℕ → Option Label) (p m : ℕ) (way : List ℕ) (d : ℕ) → 1 ≤ k → IsLevel clafers name k label last
    → is_declared_under clafers p m ≡ true → Way clafers m way d → is_named clafers name d ≡ true → length way ≡ k → Within (OwnWay clafers name p) k ⊎ Behind clafers name last m way d
behind clafers name last k label p m _ d some level u here named long = absurd (omega (arith, some, long))
behind clafers name last k label p m _ d some level u (down {m = x} {ms = xs} child w) named long =
    let by = declared clafers m x child in
    behind_by clafers name last k label p m by.parent (x ∷ xs) d level u by.above (own by.under w named) long (label by.parent) refl (level.tells by.parent)

and_three : (a b c : Bool) → a ≡ true → b ≡ true → c ≡ true → (a && b && c) ≡ true
and_three true true true e f g = refl
and_three true true false e f g = g
and_three true false c e f g = absurd (true≢false (sym f))
and_three false b c e f g = absurd (true≢false (sym e))

third_of : (a b c : Bool) → (a && b && c) ≡ true → c ≡ true
third_of true true true e = refl
third_of true true false e = e
third_of true false c e = absurd (true≢false (sym e))
third_of false b c e = absurd (true≢false (sym e))

next_into : (clafers : List Clafer) (name last : List ℕ) (heirs : List (List ℕ)) (k p : ℕ) → AreHeirs clafers (length clafers) heirs → (way : List ℕ) (d : ℕ)
    → Either (Few clafers name k p) (ByNext clafers heirs last (Few clafers name k) p) way d → Few clafers name (suc k) p way d
next_into clafers name last heirs k p are way d (inl w) = (w.0, let low = w.1 in omega (arith, low))
next_into clafers name last heirs k p are _ d (inr (by_next {r = r} {m = m} {way = way} i j u w)) =
    let above = third_of (nat_lt m (length clafers)) (is_some (parent_of clafers m)) (is_a clafers m r) (sym (are r m) ∙ has_in (get_or heirs r []) m j) in
    let on = lifted clafers name m r way d above w.0 in
    (own u on.0 on.1, let low = w.1 in omega (arith, low))

next_out : (clafers : List Clafer) (name last : List ℕ) (heirs : List (List ℕ)) (k p : ℕ) (label : ℕ → Option Label) → 1 ≤ k → AreHeirs clafers (length clafers) heirs → IsLevel clafers name k label last
    → Covers (Either (Few clafers name k p) (ByNext clafers heirs last (Few clafers name k) p)) (Few clafers name (suc k) p)
next_out clafers name last heirs k p label some are level _ d (own {m = m} {way = way} u w named, low) = elim (leb_tells (length (m ∷ way)) k) [
  | inl h ↦ inl (inl (own u w named, h.1))
  | inr h ↦
      let long : length way ≡ k = omega (arith, h.1, low) in
      elim (behind clafers name last k label p m way d some level u w named long) [
        | inl b ↦ inr (k, (ap suc long, record { way = b.way; end = b.end; there = inl (b.there, b.short); short = b.short }))
        | inr b ↦
            let here : nat_lt m (length clafers) ≡ true = (Decides-ltb m (length clafers)).1 (declared_below clafers p m u) in
            let inside : has (get_or heirs b.parent []) m ≡ true =
            are b.parent m ∙ and_three (nat_lt m (length clafers)) (is_some (parent_of clafers m)) (is_a clafers m b.parent) here (ap is_some (under_is clafers p m u)) b.above in
            inl (inr (by_next {r = b.parent} b.among (in_has (get_or heirs b.parent []) m inside) u (b.owns, omega (arith, long))))
      ]
]

each_shortest : {S : Type 0} (clafers : List Clafer) (name last : List ℕ) (k : ℕ) (labels : HashMap ℕ Label S) → IsLevel clafers name k (label_at labels) last
    → (r : ℕ) → In r last → Shortest (Few clafers name k r) k (only_at labels r).only
each_shortest clafers name last k labels level r i =
    by (label_at labels r) (level.tells r) (sym (level.reaches r) ∙ has_in last r i)
  where
    by : (o : Option Label) → Tells (Few clafers name k r) o → option_map_or (is_label_of k) o false ≡ true → Shortest (Few clafers name k r) k (option_and_then (λ l. l.only) o)
    by None t e = absurd (true≢false (sym e))
    by (Some l) t e = subst (λ (z : ℕ). Shortest (Few clafers name k r) z l.only) ((Decides-eqb l.steps k).0 e) t.shortest

pub next_level : {S : Type 0} (clafers : List Clafer) (name last fresh : List ℕ) (heirs : List (List ℕ)) (k : ℕ) (labels : HashMap ℕ Label S) (new : ℕ → Option Label) → 1 ≤ k
    → AreHeirs clafers (length clafers) heirs → ((p : ℕ) → new p ≡ reached_next clafers heirs (map (only_at labels) last) (k + 1) p (label_at labels p))
    → ((p : ℕ) → has fresh p ≡ (is_some (new p) && is_none (label_at labels p))) → IsLevel clafers name k (label_at labels) last → IsLevel clafers name (k + 1) new fresh
next_level clafers name last fresh heirs k labels new some are found more level =
    subst (λ (z : ℕ). IsLevel clafers name z new fresh) (sym one)
    (record {
      tells = tells;
      reaches = λ p. more p ∙ fresh_label clafers name k p (label_at labels p) (new p) (level.tells p) (tells p);
    })
  where
    one : k + 1 ≡ suc k
    one = omega arith

    tells : (p : ℕ) → Tells (Few clafers name (suc k) p) (new p)
    tells p = subst (λ (o : Option Label). Tells (Few clafers name (suc k) p) o)
        (sym (found p ∙ ap (λ (z : ℕ). reached_next clafers heirs (map (only_at labels) last) z p (label_at labels p)) one))
        (more_tells (Either (Few clafers name k p) (ByNext clafers heirs last (Few clafers name k) p)) (Few clafers name (suc k) p) _
        (next_into clafers name last heirs k p are) (next_out clafers name last heirs k p (label_at labels) some are level)
        (reached_next_tells clafers heirs labels last (Few clafers name k) k (each_shortest clafers name last k labels level) (Few clafers name k p) p (label_at labels p) (level.tells p)))

-- ---- the last level

all_ways : (clafers : List Clafer) (name : List ℕ) (k p : ℕ) (o : Option Label) → ((way : List ℕ) (d : ℕ) → OwnWay clafers name p way d → Within (OwnWay clafers name p) k) → Tells (Few clafers name k p) o
    → Tells (OwnWay clafers name p) o
all_ways clafers name k p o inside t = more_tells (Few clafers name k p) (OwnWay clafers name p) o (λ way d w. w.0) covers t
  where
    covers : Covers (Few clafers name k p) (OwnWay clafers name p)
    covers way d w = elim (leb_tells (length way) k) [
      | inl h ↦ inl (w, h.1)
      | inr h ↦ let i = inside way d w in shorter_one way h.1 i
    ]
      where
        shorter_one : (v : List ℕ) → k < length v → Within (OwnWay clafers name p) k → Few clafers name k p v d ⊎ ((j : ℕ) × ((length v ≡ suc j) × Within (Few clafers name k p) j))
        shorter_one [] high i = absurd (omega (arith, high))
        shorter_one (x ∷ xs) high i = inr (length xs, (refl, record { way = i.way; end = i.end; there = (i.there, i.short); short = let low = i.short in omega (arith, low, high) }))

pub far_enough : (clafers : List Clafer) (name last : List ℕ) (k : ℕ) (label : ℕ → Option Label) → length clafers ≤ k → IsLevel clafers name k label last → (p : ℕ) → Tells (OwnWay clafers name p) (label p)
far_enough clafers name last k label far level p = all_ways clafers name k p (label p) inside (level.tells p)
  where
    inside : (way : List ℕ) (d : ℕ) → OwnWay clafers name p way d → Within (OwnWay clafers name p) k
    inside _ d (own {m = m} {way = way} u w named) =
        let s = short clafers m way d (declared_below clafers p m u) w in
        record { way = m ∷ s.tail; end = d; there = own u s.way named; short = let low = s.few in omega (arith, low, far) }

inside_by : (clafers : List Clafer) (name : List ℕ) (k : ℕ) (label : ℕ → Option Label) (p m s : ℕ) → IsLevel clafers name k label [] → is_declared_under clafers p m ≡ true → is_a clafers m s ≡ true
    → Within (OwnWay clafers name s) k → (o : Option Label) → label s ≡ o → Tells (Few clafers name k s) o → Within (OwnWay clafers name p) k
inside_by clafers name k label p m s level u above i None e t = absurd (t i.way i.end (i.there, i.short))
inside_by clafers name k label p m s level u above i (Some l) e t = elim (eqb_tells l.steps k) [
  | inl h ↦ absurd (nothing_in s [] refl (last_at clafers name [] k label s l level e h.1))
  | inr h ↦ by_label clafers name p m s k l u above t (let low = t.shortest.least i.way i.end (i.there, i.short) in let top = i.short in omega (arith, low, top, h.1))
]

inside_end : (clafers : List Clafer) (name : List ℕ) (k : ℕ) (label : ℕ → Option Label) → 1 ≤ k → IsLevel clafers name k label [] → (t p : ℕ) (way : List ℕ) (d : ℕ) → OwnWay clafers name p way d → length way ≤ t
    → Within (OwnWay clafers name p) k
inside_end clafers name k label some level zero p way d w low = let one = own_parts clafers name p way d w in absurd (omega (arith, one, low))
inside_end clafers name k label some level (suc t) p _ d (own {m = m} u here named) low = record { way = m ∷ []; end = d; there = own u here named; short = some }
inside_end clafers name k label some level (suc t) p _ d (own {m = m} u (down {m = x} {ms = xs} child w) named) low =
    let by = declared clafers m x child in
    inside_by clafers name k label p m by.parent level u by.above
    (inside_end clafers name k label some level t by.parent (x ∷ xs) d (own by.under w named) (omega (arith, low))) (label by.parent) refl (level.tells by.parent)

pub nothing_new : (clafers : List Clafer) (name last : List ℕ) (k : ℕ) (label : ℕ → Option Label) → 1 ≤ k → last ≡ [] → IsLevel clafers name k label last → (p : ℕ) → Tells (OwnWay clafers name p) (label p)
nothing_new clafers name last k label some none level p =
    all_ways clafers name k p (label p)
    (λ way d w. inside_end clafers name k label some (subst (λ (ls : List ℕ). IsLevel clafers name k label ls) none level) (length way) p way d w (omega arith)) (level.tells p)
