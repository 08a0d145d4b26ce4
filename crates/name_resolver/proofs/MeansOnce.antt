-- A name means one thing.
use Rattle.std.proofs.Common.{◌≡◌, ℕ, zero, suc, ◌+◌, ◌<◌, ◌==◌, ◌&&◌, ◌||◌, Bool, true, false, List, [], ◌∷◌, length, Option, Some, None, refl, ap, sym, subst, ◌∙◌, arith, nat_lt}
use Rattle.std.specs.Prelude.{IsTrue, IfSome}
use Rattle.std.proofs.lemmas.Bool.Decides.{Decides-ltb, nat_tests}
use Rattle.clf_tree.specs.declared.model.Clafer.{Clafer}
use Rattle.clf_tree.specs.Hierarchy.{parent_of, is_below}
use Rattle.clf_tree.specs.Named.{each, follows_parent}
use Rattle.name_resolver.specs.declared.nearest.Nearest.{Nearest}
use Rattle.name_resolver.specs.declared.nearest.Nearest.TheVariants as nearest
use Rattle.name_resolver.specs.declared.outside.Found.{Found}
use Rattle.name_resolver.specs.declared.outside.Found.TheVariants as found
use Rattle.name_resolver.specs.declared.steps.Meant.TheVariants as meant
use Rattle.name_resolver.specs.Ways.{children}
use Rattle.name_resolver.specs.LookUp.{IsNearest, nothing, only, several}
use Rattle.name_resolver.specs.Levels.{first_level}
use Rattle.name_resolver.specs.FirstWay.{goes_earlier, IsTaken, way_taken}
use Rattle.name_resolver.specs.Outwards.{Means, below, ambiguous, outside, top}
use Rattle.name_resolver.specs.Meaning.{or_outwards, from_context, meaning_of, MeansOne}
use Rattle.name_resolver.proofs.Depths.{nearest_by_levels}
use Rattle.name_resolver.proofs.WayTaken.{way_taken-is}
use Rattle.name_resolver.proofs.Meanings.{means_below, means_several, means_outside, parent_before}

-- ---- what the function gives is meant

from_nearest : (clafers : List Clafer) (name : List ℕ) (c out : ℕ) (outer : Found) → c < length clafers → (r : Nearest) → IsNearest clafers c name r
    → Means clafers name (parent_of clafers c) (out + 1) outer → Means clafers name (Some c) out (or_outwards clafers c out r outer)
from_nearest clafers name c out outer within nearest.Nothing near rest = means_outside clafers c name out (parent_of clafers c) outer near refl rest
from_nearest clafers name c out outer within (nearest.Only d) near rest =
    means_below clafers c name out d (way_taken clafers c d) near (λ other leads some. way_taken-is clafers c other d within leads some)
from_nearest clafers name c out outer within nearest.Several near rest = means_several clafers c name out near

from_all : (clafers : List Clafer) (name : List ℕ) (n : ℕ) (context : Option ℕ) (out : ℕ) → ((c : ℕ) → context ≡ Some c → (c < n) × (c < length clafers))
    → IsTrue (each clafers (follows_parent clafers)) → Means clafers name context out (from_context clafers name context n out)
from_all clafers name n None out within all = top
from_all clafers name zero (Some c) out within all = let h = within c refl in absurd (omega (arith, h.0))
from_all clafers name (suc n) (Some c) out within all =
    let h = within c refl in
    from_nearest clafers name c out (from_context clafers name (parent_of clafers c) n (out + 1)) h.1
    (first_level clafers name (length clafers) (children clafers c)) (nearest_by_levels clafers c name _ refl)
    (from_all clafers name n (parent_of clafers c) (out + 1)
    (λ p e. let before = parent_before clafers c p h.1 all e in (omega (arith, before, h.0), omega (arith, before, h.1))) all)

context_in : (clafers : List Clafer) (context : Option ℕ) → is_below (length clafers) context ≡ true → (c : ℕ) → context ≡ Some c → (c < length clafers) × (c < length clafers)
context_in clafers context met c e =
    let low : c < length clafers = (Decides-ltb c (length clafers)).0 (ap (is_below (length clafers)) (sym e) ∙ met) in (low, low)

-- ---- at most one thing is meant

one_step : (x y : ℕ) (r s : Bool) → (nat_lt x y || (x == y && r)) ≡ true → (nat_lt y x || (y == x && s)) ≡ true → (x ≡ y) × ((r ≡ true) × (s ≡ true))
one_step x y true true p q = (grind (arith, nat_tests), (refl, refl))
one_step x y true false p q = absurd (grind (arith, nat_tests))
one_step x y false true p q = absurd (grind (arith, nat_tests))
one_step x y false false p q = absurd (grind (arith, nat_tests))

both_earlier : (xs ys : List ℕ) → length xs ≡ length ys → goes_earlier xs ys ≡ true → goes_earlier ys xs ≡ true → xs ≡ ys
both_earlier [] [] long p q = refl
both_earlier [] (y ∷ ys) long p q = absurd (omega (arith, long))
both_earlier (x ∷ xs) [] long p q = absurd (omega (arith, long))
both_earlier (x ∷ xs) (y ∷ ys) long p q =
    let one = one_step x y (goes_earlier xs ys) (goes_earlier ys xs) p q in
    ap (λ z. z ∷ xs) one.0 ∙ ap (λ zs. y ∷ zs) (both_earlier xs ys (omega (arith, long)) one.1.0 one.1.1)

taken_once : (clafers : List Clafer) (c d : ℕ) (v w : List ℕ) → IsTaken clafers c v d → IsTaken clafers c w d → v ≡ w
taken_once clafers c d v w a b =
    let up = a.shortest w b.leads b.some_step in
    let down = b.shortest v a.leads a.some_step in
    let long : length v ≡ length w = omega (arith, up, down) in
    both_earlier v w long (a.first w b.leads (sym long)) (b.first v a.leads long)

nearest_once : (clafers : List Clafer) (c : ℕ) (name : List ℕ) (r q : Nearest) → IsNearest clafers c name r → IsNearest clafers c name q → r ≡ q
nearest_once clafers c name _ _ (nothing none) (nothing other) = refl
nearest_once clafers c name _ _ (nothing none) (only way hit short one) = absurd (none way _ hit)
nearest_once clafers c name _ _ (nothing none) (several d e way other hit short again long differ) = absurd (none way d hit)
nearest_once clafers c name _ _ (only way hit short one) (nothing none) = absurd (none way _ hit)
nearest_once clafers c name _ _ (only {d = d} v hit short one) (only {d = e} w met least other) =
    let up = short w e met in
    let down = least v d hit in
    let long : length w ≡ length v = omega (arith, up, down) in
    ap nearest.Only (sym (one w e met long))
nearest_once clafers c name _ _ (only {d = d} v hit short one) (several x y w u met least again long differ) =
    let up = short w x met in
    let down = least v d hit in
    let same : length w ≡ length v = omega (arith, up, down) in
    absurd (differ (one w x met same ∙ sym (one u y again (long ∙ same))))
nearest_once clafers c name _ _ (several d e way other hit short again long differ) (nothing none) = absurd (none way d hit)
nearest_once clafers c name _ _ (several x y w u met least again long differ) (only {d = d} v hit short one) =
    let up = short w x met in
    let down = least v d hit in
    let same : length w ≡ length v = omega (arith, up, down) in
    absurd (differ (one w x met same ∙ sym (one u y again (long ∙ same))))
nearest_once clafers c name _ _ (several d e way other hit short again long differ) (several x y w u met least more same apart) = refl

one_way : (clafers : List Clafer) (c out d e : ℕ) (v w : List ℕ) → nearest.Only d ≡ nearest.Only e → IsTaken clafers c v d → IsTaken clafers c w e
    → found.Means (meant.Below out v) ≡ found.Means (meant.Below out w)
one_way clafers c out d e v w same a b =
    let number : d ≡ e = (cc) in
    ap (λ (u : List ℕ). found.Means (meant.Below out u)) (taken_once clafers c e v w (subst (λ z. IsTaken clafers c v z) number a) b)

pub means_once : (clafers : List Clafer) (name : List ℕ) (context : Option ℕ) (out : ℕ) (r q : Found) → Means clafers name context out r → Means clafers name context out q → r ≡ q
means_once clafers name _ out _ _ (below {c = c} {d = d} {way = v} near taken) (below {d = e} {way = w} close also) =
    one_way clafers c out d e v w (nearest_once clafers c name _ _ near close) taken also
means_once clafers name _ out _ _ (below {c = c} near taken) (ambiguous close) = let no = nearest_once clafers c name _ _ near close in (cc)
means_once clafers name _ out _ _ (below {c = c} near taken) (outside close e m) = let no = nearest_once clafers c name _ _ near close in (cc)
means_once clafers name _ out _ _ (ambiguous {c = c} near) (below close also) = let no = nearest_once clafers c name _ _ near close in (cc)
means_once clafers name _ out _ _ (ambiguous near) (ambiguous close) = refl
means_once clafers name _ out _ _ (ambiguous {c = c} near) (outside close e m) = let no = nearest_once clafers c name _ _ near close in (cc)
means_once clafers name _ out _ _ (outside {c = c} near e m) (below close also) = let no = nearest_once clafers c name _ _ near close in (cc)
means_once clafers name _ out _ _ (outside {c = c} near e m) (ambiguous close) = let no = nearest_once clafers c name _ _ near close in (cc)
means_once clafers name _ out _ _ (outside {c = c} {p = p} {r = r} near e m) (outside {p = o} {r = q} close f n) =
    means_once clafers name p (out + 1) r q m (subst (λ (z : Option ℕ). Means clafers name z (out + 1) q) (sym f ∙ e) n)
means_once clafers name _ out _ _ top top = refl

pub there : (n : ℕ) (context : Option ℕ) → IfSome context (λ c. c < n) → IsTrue (is_below n context)
there n None h = refl
there n (Some c) h = (Decides-ltb c n).1 h

pub means_one : MeansOne
unfolding meaning_of
means_one clafers context name found within all =
    let is : Means clafers name context 0 (meaning_of clafers context name) =
    from_all clafers name (length clafers) context 0 (context_in clafers context within) all in (
      λ m. means_once clafers name context 0 found (meaning_of clafers context name) m is,
      λ e. subst (λ (f : Found). Means clafers name context 0 f) (sym e) is,
    )
