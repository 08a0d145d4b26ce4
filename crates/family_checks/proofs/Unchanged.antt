-- Targets change nothing of inheritance, containment and names.
use Rattle.std.proofs.Common.{◌≡◌, ℕ, zero, suc, Bool, true, false, not, ◌&&◌, ◌||◌, List, [], ◌∷◌, map, length, Option, Some, None, refl, ap, sym, ◌∙◌}
use Rattle.std.proofs.Math.Path.{fun_ext}
use Rattle.std.specs.Prelude.{slice_get, eqb, is_some, is_none, bytes_eq}
use Rattle.std.specs.Option.{option_map, option_map_or, option_and_then}
use Rattle.std.specs.List.{filter, list_any, list_all}
use Rattle.std.proofs.lemmas.List.{length-map}
use Rattle.clf_tree.specs.declared.model.Reference.{Reference}
use Rattle.clf_tree.specs.declared.model.Clafer.{Clafer}
use Rattle.clf_tree.specs.Lists.{has, numbers_below}
use Rattle.clf_tree.specs.Hierarchy.{super_of, parent_of, is_concrete, way_up, is_a, concrete_below, owners, own_reference, is_below, is_closed}
use Rattle.clf_tree.specs.Named.{each, follows_parent, has_right_super, inherits_itself, owners_of, is_outside, contains_itself, have_one_name, stands_beside_inherited, repeats_inherited}
use Rattle.clf_tree.specs.IntervalsHold.{refers_once}
use Rattle.super_linker.specs.Supers.{InheritsWell}
use Rattle.family_checks.specs.Families.{IsFamily, untargeted, without_target}

abbrev bare : List Clafer → List Clafer
bare cs = map without_target cs

get-map : {X Y : Type 0} (f : X → Y) (xs : List X) (i : ℕ) → slice_get (map f xs) i ≡ option_map f (slice_get xs i)
get-map f [] i = refl
get-map f (x ∷ xs) zero = refl
get-map f (x ∷ xs) (suc i) = get-map f xs i

length_same : (cs : List Clafer) → length (bare cs) ≡ length cs
length_same cs = length-map cs without_target

-- ---- one clafer

super_by : (k : Option Clafer) → option_and_then (λ z. z.above) (option_map without_target k) ≡ option_and_then (λ z. z.above) k
super_by None = refl
super_by (Some k) = refl

super_same : (cs : List Clafer) (c : ℕ) → super_of (bare cs) c ≡ super_of cs c
super_same cs c = ap (option_and_then (λ z. z.above)) (get-map without_target cs c) ∙ super_by (slice_get cs c)

parent_by : (k : Option Clafer) → option_and_then (λ z. z.parent) (option_map without_target k) ≡ option_and_then (λ z. z.parent) k
parent_by None = refl
parent_by (Some k) = refl

parent_same : (cs : List Clafer) (c : ℕ) → parent_of (bare cs) c ≡ parent_of cs c
parent_same cs c = ap (option_and_then (λ z. z.parent)) (get-map without_target cs c) ∙ parent_by (slice_get cs c)

concrete_by : (k : Option Clafer) → option_map_or (λ z. not z.is_abstract) (option_map without_target k) false ≡ option_map_or (λ z. not z.is_abstract) k false
concrete_by None = refl
concrete_by (Some k) = refl

concrete_same : (cs : List Clafer) (c : ℕ) → is_concrete (bare cs) c ≡ is_concrete cs c
concrete_same cs c = ap (λ (k : Option Clafer). option_map_or (λ z. not z.is_abstract) k false) (get-map without_target cs c) ∙ concrete_by (slice_get cs c)

reference_there : (r : Option Reference) → is_some (option_map untargeted r) ≡ is_some r
reference_there None = refl
reference_there (Some r) = refl

reference_by : (k : Option Clafer) → is_some (option_and_then (λ z. z.reference) (option_map without_target k)) ≡ is_some (option_and_then (λ z. z.reference) k)
reference_by None = refl
reference_by (Some k) = reference_there k.reference

reference_same : (cs : List Clafer) (c : ℕ) → is_some (own_reference (bare cs) c) ≡ is_some (own_reference cs c)
reference_same cs c = ap (λ (k : Option Clafer). is_some (option_and_then (λ z. z.reference) k)) (get-map without_target cs c) ∙ reference_by (slice_get cs c)

-- ---- inheritance and owners

way_same : (cs : List Clafer) (n c : ℕ) → way_up (bare cs) n c ≡ way_up cs n c
way_same cs zero c = refl
way_same cs (suc n) c =
    ap (λ (s : Option ℕ). c ∷ option_map_or (way_up (bare cs) n) s []) (super_same cs c)
    ∙ ap (λ (f : ℕ → List ℕ). c ∷ option_map_or f (super_of cs c) []) (fun_ext (way_same cs n))

is_a_same : (cs : List Clafer) (x y : ℕ) → is_a (bare cs) x y ≡ is_a cs x y
is_a_same cs x y = ap (λ (n : ℕ). has (way_up (bare cs) n x) y) (length_same cs) ∙ ap (λ (w : List ℕ). has w y) (way_same cs (length cs) x)

both_same : (a b c d : Bool) → a ≡ c → b ≡ d → (a && b) ≡ (c && d)
both_same a b c d p q = ap (λ z. z && b) p ∙ ap (λ z. c && z) q

below_same : (cs : List Clafer) (p : ℕ) → concrete_below (bare cs) p ≡ concrete_below cs p
below_same cs p =
    ap (λ (n : ℕ). filter (λ d. is_concrete (bare cs) d && is_a (bare cs) d p) (numbers_below n)) (length_same cs)
    ∙ ap (λ (f : ℕ → Bool). filter f (numbers_below (length cs)))
    (fun_ext (λ d. both_same (is_concrete (bare cs) d) (is_a (bare cs) d p) (is_concrete cs d) (is_a cs d p) (concrete_same cs d) (is_a_same cs d p)))

owners_same : (cs : List Clafer) (c : ℕ) → owners (bare cs) c ≡ owners cs c
owners_same cs c =
    ap (λ (p : Option ℕ). option_map_or (concrete_below (bare cs)) p []) (parent_same cs c)
    ∙ ap (λ (f : ℕ → List ℕ). option_map_or f (parent_of cs c) []) (fun_ext (below_same cs))

owners_of_same : (cs : List Clafer) (ds : List ℕ) → owners_of (bare cs) ds ≡ owners_of cs ds
owners_of_same cs ds =
    ap (λ (n : ℕ). filter (λ o. list_any (λ d. has (owners (bare cs) d) o) ds) (numbers_below n)) (length_same cs)
    ∙ ap (λ (f : ℕ → List ℕ). filter (λ o. list_any (λ d. has (f d) o) ds) (numbers_below (length cs))) (fun_ext (owners_same cs))

outside_same : (cs : List Clafer) (c n : ℕ) (ds : List ℕ) → is_outside (bare cs) n ds c ≡ is_outside cs n ds c
outside_same cs c zero ds = refl
outside_same cs c (suc n) ds =
    ap (λ b. has ds c || b) (ap (λ (es : List ℕ). is_outside (bare cs) n es c) (owners_of_same cs ds) ∙ outside_same cs c n (owners_of cs ds))

contains_same : (cs : List Clafer) (c : ℕ) → contains_itself (bare cs) c ≡ contains_itself cs c
contains_same cs c =
    ap (λ (n : ℕ). is_outside (bare cs) n (owners (bare cs) c) c) (length_same cs)
    ∙ ap (λ (ds : List ℕ). is_outside (bare cs) (length cs) ds c) (owners_same cs c)
    ∙ outside_same cs c (length cs) (owners cs c)

inherits_same : (cs : List Clafer) (c : ℕ) → inherits_itself (bare cs) c ≡ inherits_itself cs c
inherits_same cs c =
    ap (λ (s : Option ℕ). option_map_or (λ x. is_a (bare cs) x c) s false) (super_same cs c)
    ∙ ap (λ (f : ℕ → Bool). option_map_or f (super_of cs c) false) (fun_ext (λ x. is_a_same cs x c))

right_same : (cs : List Clafer) (c : ℕ) → has_right_super (bare cs) c ≡ has_right_super cs c
right_same cs c =
    ap (λ (s : Option ℕ). option_map_or (λ x. not (is_concrete (bare cs) x) && is_none (parent_of (bare cs) x)) s true) (super_same cs c)
    ∙ ap (λ (f : ℕ → Bool). option_map_or f (super_of cs c) true)
    (fun_ext (λ x. both_same (not (is_concrete (bare cs) x)) (is_none (parent_of (bare cs) x)) (not (is_concrete cs x)) (is_none (parent_of cs x)) (ap not (concrete_same cs x)) (ap is_none (parent_same cs x))))

follows_same : (cs : List Clafer) (c : ℕ) → follows_parent (bare cs) c ≡ follows_parent cs c
follows_same cs c = ap (is_below c) (parent_same cs c)

-- ---- names

named_by : (f : Clafer → Bool) → ((k : Clafer) → f (without_target k) ≡ f k) → (k : Option Clafer) → option_map_or f (option_map without_target k) false ≡ option_map_or f k false
named_by f same None = refl
named_by f same (Some k) = same k

has_name_same : (cs : List Clafer) (d : ℕ) (k : Clafer) → option_map_or (λ l. bytes_eq k.title.name l.title.name) (slice_get (bare cs) d) false ≡ option_map_or (λ l. bytes_eq k.title.name l.title.name) (slice_get cs d) false
has_name_same cs d k =
    ap (λ (z : Option Clafer). option_map_or (λ l. bytes_eq k.title.name l.title.name) z false) (get-map without_target cs d)
    ∙ named_by (λ l. bytes_eq k.title.name l.title.name) (λ l. refl) (slice_get cs d)

name_same : (cs : List Clafer) (c d : ℕ) → have_one_name (bare cs) c d ≡ have_one_name cs c d
name_same cs c d =
    ap (λ (z : Option Clafer). option_map_or (λ k. option_map_or (λ l. bytes_eq k.title.name l.title.name) (slice_get (bare cs) d) false) z false) (get-map without_target cs c)
    ∙ named_by (λ k. option_map_or (λ l. bytes_eq k.title.name l.title.name) (slice_get (bare cs) d) false) (λ k. refl) (slice_get cs c)
    ∙ ap (λ (f : Clafer → Bool). option_map_or f (slice_get cs c) false) (fun_ext (has_name_same cs d))

beside_same : (cs : List Clafer) (c d : ℕ) → stands_beside_inherited (bare cs) c d ≡ stands_beside_inherited cs c d
beside_same cs c d =
    let under : (s : ℕ) → option_map_or (is_a (bare cs) s) (parent_of (bare cs) d) false ≡ option_map_or (is_a cs s) (parent_of cs d) false =
    λ s. ap (λ (p : Option ℕ). option_map_or (is_a (bare cs) s) p false) (parent_same cs d) ∙ ap (λ (f : ℕ → Bool). option_map_or f (parent_of cs d) false) (fun_ext (is_a_same cs s)) in
    let above : (p : ℕ) → option_map_or (λ s. option_map_or (is_a (bare cs) s) (parent_of (bare cs) d) false) (super_of (bare cs) p) false ≡ option_map_or (λ s. option_map_or (is_a cs s) (parent_of cs d) false) (super_of cs p) false =
    λ p. ap (λ (s : Option ℕ). option_map_or (λ x. option_map_or (is_a (bare cs) x) (parent_of (bare cs) d) false) s false) (super_same cs p)
    ∙ ap (λ (f : ℕ → Bool). option_map_or f (super_of cs p) false) (fun_ext under) in
    ap (λ (p : Option ℕ). option_map_or (λ x. option_map_or (λ s. option_map_or (is_a (bare cs) s) (parent_of (bare cs) d) false) (super_of (bare cs) x) false) p false) (parent_same cs c)
    ∙ ap (λ (f : ℕ → Bool). option_map_or f (parent_of cs c) false) (fun_ext above)

repeats_same : (cs : List Clafer) (c : ℕ) → repeats_inherited (bare cs) c ≡ repeats_inherited cs c
repeats_same cs c =
    ap (λ (n : ℕ). list_any (λ d. have_one_name (bare cs) c d && stands_beside_inherited (bare cs) c d) (numbers_below n)) (length_same cs)
    ∙ ap (λ (f : ℕ → Bool). list_any f (numbers_below (length cs)))
    (fun_ext (λ d. both_same (have_one_name (bare cs) c d) (stands_beside_inherited (bare cs) c d) (have_one_name cs c d) (stands_beside_inherited cs c d) (name_same cs c d) (beside_same cs c d)))

pair_same : (cs : List Clafer) (z y : ℕ)
    → (not (is_a (bare cs) z y && is_some (own_reference (bare cs) z) && is_some (own_reference (bare cs) y)) || (eqb z y))
    ≡ (not (is_a cs z y && is_some (own_reference cs z) && is_some (own_reference cs y)) || (eqb z y))
pair_same cs z y =
    ap (λ b. not (b && is_some (own_reference (bare cs) z) && is_some (own_reference (bare cs) y)) || (eqb z y)) (is_a_same cs z y)
    ∙ ap (λ b. not (is_a cs z y && b && is_some (own_reference (bare cs) y)) || (eqb z y)) (reference_same cs z)
    ∙ ap (λ b. not (is_a cs z y && is_some (own_reference cs z) && b) || (eqb z y)) (reference_same cs y)

refers_same : (cs : List Clafer) → refers_once (bare cs) ≡ refers_once cs
refers_same cs =
    ap (λ (n : ℕ). list_all (λ z. list_all (λ y. not (is_a (bare cs) z y && is_some (own_reference (bare cs) z) && is_some (own_reference (bare cs) y)) || (eqb z y)) (numbers_below n)) (numbers_below n)) (length_same cs)
    ∙ ap (λ (f : ℕ → ℕ → Bool). list_all (λ z. list_all (f z) (numbers_below (length cs))) (numbers_below (length cs))) (fun_ext (λ z. fun_ext (pair_same cs z)))

-- ---- all of it

each_same : (cs : List Clafer) (f g : ℕ → Bool) → ((c : ℕ) → f c ≡ g c) → each (bare cs) f ≡ true → each cs g ≡ true
each_same cs f g same h = ap (λ (t : ℕ → Bool). list_all t (numbers_below (length cs))) (sym (fun_ext same)) ∙ ap (λ (n : ℕ). list_all f (numbers_below n)) (sym (length_same cs)) ∙ h

pub inherits_well : (cs : List Clafer) → is_closed cs ≡ true → InheritsWell (bare cs) → InheritsWell cs
inherits_well cs closed known = record {
  closed = closed;
  parents_first = each_same cs (follows_parent (bare cs)) (follows_parent cs) (follows_same cs) known.parents_first;
  inherits_abstract = each_same cs (has_right_super (bare cs)) (has_right_super cs) (right_same cs) known.inherits_abstract;
  inherits_no_cycle = each_same cs (λ c. not (inherits_itself (bare cs) c)) (λ c. not (inherits_itself cs c)) (λ c. ap not (inherits_same cs c)) known.inherits_no_cycle;
}

pub is_family : (cs : List Clafer) → IsFamily (bare cs) → IsFamily cs
is_family cs known = record {
  contains_no_cycle = each_same cs (λ c. not (contains_itself (bare cs) c)) (λ c. not (contains_itself cs c)) (λ c. ap not (contains_same cs c)) known.contains_no_cycle;
  refers = sym (refers_same cs) ∙ known.refers;
  inherits_apart = each_same cs (λ c. not (repeats_inherited (bare cs) c)) (λ c. not (repeats_inherited cs c)) (λ c. ap not (repeats_same cs c)) known.inherits_apart;
}
