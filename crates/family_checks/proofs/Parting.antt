-- Where a clafer is apart from all of its name, it hasn't the name of an inherited child.
use Rattle.std.proofs.Common.{◌≡◌, ◌≢◌, ℕ, zero, suc, ◌+◌, ◌<◌, ◌≤◌, Bool, true, false, ◌&&◌, ◌||◌, List, [], ◌∷◌, ◌++◌, length, take, set, get_or, cond, Option, Some, None, refl, ap, sym, subst, ◌∙◌, arith, ◌⊎◌, inl, inr}
use Rattle.std.specs.Prelude.{slice_get, eqb, nat_le, bytes_eq, is_some}
use Rattle.std.specs.Option.{option_map_or, option_and_then}
use Rattle.std.specs.Cmp.Lexicographic.{nat_list_eq_equiv}
use Rattle.std.proofs.lemmas.Bool.Decides.{eqb_tells, nat_tests}
use Rattle.std.proofs.lemmas.Bool.{true≢false, cases_eq, cases_lt, or_cases, eqb-true}
use Rattle.std.proofs.lemmas.List.{get_or-set_same, get_or-set_other, get_or_past}
use Rattle.std.proofs.lemmas.List.Folds.{list_any-append}
use Rattle.clf_tree.specs.declared.model.Clafer.{Clafer}
use Rattle.clf_tree.specs.Lists.{has, numbers_below}
use Rattle.clf_tree.specs.Hierarchy.{super_of, way_up, is_a}
use Rattle.clf_tree.specs.Named.{have_one_name, stands_beside_inherited, repeats_inherited}
use Rattle.family_checks.specs.Marks.{is_marked, MarkRepeats}
use Rattle.family_checks.specs.Tours.{turn_of, NestsAt, Nest, MetAt, Met, IsTour, kept_turn, Visited, Apart, AllApart}
use Rattle.family_checks.proofs.Found.{any_at, has_at}
use Rattle.family_checks.proofs.Rising.{past, not_some}

-- ---- what is above is entered before and left after

record Around (enter leave : List ℕ) (low high : ℕ) : Type 0 where
  before : turn_of enter high ≤ turn_of enter low
  after : turn_of leave low ≤ turn_of leave high

at_first : (enter leave : List ℕ) (low high : ℕ) (b : Bool) → ((eqb high low ≡ true) × (high ≡ low)) ⊎ ((eqb high low ≡ false) × (high ≢ low)) → (b ≡ true → Around enter leave low high)
    → (eqb high low || b) ≡ true → Around enter leave low high
at_first enter leave low high b (inl h) rest met =
    let e : turn_of enter high ≡ turn_of enter low = ap (turn_of enter) h.1 in
    let f : turn_of leave high ≡ turn_of leave low = ap (turn_of leave) h.1 in
    record { before = omega (arith, e); after = omega (arith, f) }
at_first enter leave low high b (inr h) rest met = rest (ap (λ z. z || b) (sym h.0) ∙ met)

on_way : (clafers : List Clafer) (enter leave : List ℕ) (low high n : ℕ) (next : Option ℕ) → Nest clafers enter leave → super_of clafers low ≡ next
    → ((mid : ℕ) → has (way_up clafers n mid) high ≡ true → Around enter leave mid high) → has (option_map_or (way_up clafers n) next []) high ≡ true → Around enter leave low high
on_way clafers enter leave low high n None nest e rest met = absurd (true≢false (sym met))
on_way clafers enter leave low high n (Some mid) nest e rest met =
    let r = rest mid met in
    let a = r.before in
    let b = r.after in
    let c = (nest low).later mid e in
    let d = (nest low).inside mid e in
    record { before = omega (arith, a, c); after = omega (arith, b, d) }

around : (clafers : List Clafer) (enter leave : List ℕ) (high n low : ℕ) → Nest clafers enter leave → has (way_up clafers n low) high ≡ true → Around enter leave low high
around clafers enter leave high zero low nest met = at_first enter leave low high false (eqb_tells high low) (λ e. absurd (true≢false (sym e))) met
around clafers enter leave high (suc n) low nest met =
    at_first enter leave low high (has (option_map_or (way_up clafers n) (super_of clafers low) []) high) (eqb_tells high low)
    (on_way clafers enter leave low high n (super_of clafers low) nest refl (λ mid m. around clafers enter leave high n mid nest m)) met

-- ---- a child of the name of an inherited one

record Repeats (clafers : List Clafer) (c : ℕ) : Type 0 where
  child : Clafer
  parent : ℕ
  above : ℕ
  other : ℕ
  inherited : Clafer
  owner : ℕ
  at : slice_get clafers c ≡ Some child
  declared : child.parent ≡ Some parent
  inherits : super_of clafers parent ≡ Some above
  other_at : slice_get clafers other ≡ Some inherited
  owned : inherited.parent ≡ Some owner
  under : is_a clafers above owner ≡ true
  named : bytes_eq child.title.name inherited.title.name ≡ true

from_owner : (clafers : List Clafer) (c p s d : ℕ) (k l : Clafer) (q : Option ℕ) → slice_get clafers c ≡ Some k → k.parent ≡ Some p → super_of clafers p ≡ Some s → slice_get clafers d ≡ Some l
    → bytes_eq k.title.name l.title.name ≡ true → l.parent ≡ q → option_map_or (is_a clafers s) q false ≡ true → Repeats clafers c
from_owner clafers c p s d k l None at declared above other named e met = absurd (true≢false (sym met))
from_owner clafers c p s d k l (Some q) at declared above other named e met =
    record { child = k; parent = p; above = s; other = d; inherited = l; owner = q; at = at; declared = declared; inherits = above; other_at = other; owned = e; under = met; named = named }

from_super : (clafers : List Clafer) (c p d : ℕ) (k l : Clafer) (s : Option ℕ) → slice_get clafers c ≡ Some k → k.parent ≡ Some p → super_of clafers p ≡ s → slice_get clafers d ≡ Some l
    → bytes_eq k.title.name l.title.name ≡ true → option_map_or (λ x. option_map_or (is_a clafers x) l.parent false) s false ≡ true → Repeats clafers c
from_super clafers c p d k l None at declared e other named met = absurd (true≢false (sym met))
from_super clafers c p d k l (Some s) at declared e other named met = from_owner clafers c p s d k l l.parent at declared e other named refl met

from_parent : (clafers : List Clafer) (c d : ℕ) (k l : Clafer) (p : Option ℕ) → slice_get clafers c ≡ Some k → k.parent ≡ p → slice_get clafers d ≡ Some l → bytes_eq k.title.name l.title.name ≡ true
    → option_map_or (λ y. option_map_or (λ x. option_map_or (is_a clafers x) l.parent false) (super_of clafers y) false) p false ≡ true → Repeats clafers c
from_parent clafers c d k l None at e other named met = absurd (true≢false (sym met))
from_parent clafers c d k l (Some p) at e other named met = from_super clafers c p d k l (super_of clafers p) at e refl other named met

both : (a b : Bool) → (a && b) ≡ true → (a ≡ true) × (b ≡ true)
both true b h = (refl, h)
both false b h = absurd (true≢false (sym h))

from_clafers : (clafers : List Clafer) (c d : ℕ) (k l : Option Clafer) → slice_get clafers c ≡ k → slice_get clafers d ≡ l
    → (option_map_or (λ x. option_map_or (λ y. bytes_eq x.title.name y.title.name) l false) k false
    && option_map_or (λ y. option_map_or (λ x. option_map_or (is_a clafers x) (option_and_then (λ z. z.parent) l) false) (super_of clafers y) false) (option_and_then (λ z. z.parent) k) false) ≡ true
    → Repeats clafers c
from_clafers clafers c d None l at other met = absurd (true≢false (sym met))
from_clafers clafers c d (Some k) None at other met = absurd (true≢false (sym met))
from_clafers clafers c d (Some k) (Some l) at other met =
    let parts = both (bytes_eq k.title.name l.title.name) (option_map_or (λ y. option_map_or (λ x. option_map_or (is_a clafers x) l.parent false) (super_of clafers y) false) k.parent false) met in
    from_parent clafers c d k l k.parent at refl other parts.0 parts.1

repeats : (clafers : List Clafer) (c : ℕ) → repeats_inherited clafers c ≡ true → Repeats clafers c
repeats clafers c met =
    let a = any_at (λ d. have_one_name clafers c d && stands_beside_inherited clafers c d) (numbers_below (length clafers)) met in
    from_clafers clafers c a.item (slice_get clafers c) (slice_get clafers a.item) refl refl a.passes

nested : (p : Option ℕ) (q : ℕ) → p ≡ Some q → is_some p ≡ true
nested p q e = ap is_some e

clash : (clafers : List Clafer) (enter leave : List ℕ) (c : ℕ) (r : Repeats clafers c) → Nest clafers enter leave → Apart clafers enter leave c r.other → ⊥
clash clafers enter leave c r nest parted =
    let w = around clafers enter leave r.owner (length clafers) r.above nest r.under in
    let a = w.before in
    let b = w.after in
    let l = (nest r.parent).later r.above r.inherits in
    let i = (nest r.parent).inside r.above r.inherits in
    let e = (nest r.parent).ends in
    elim (parted r.child r.inherited r.parent r.owner r.at r.declared r.other_at r.owned r.named) [
      | inl left ↦ omega (arith, b, i, e, left)
      | inr level ↦ omega (arith, a, l, level)
    ]

by_mark : (clafers : List Clafer) (enter leave order : List ℕ) (marks : List Bool) (c : ℕ) (b : Bool) → IsTour clafers enter leave order → AllApart clafers enter leave order marks
    → Repeats clafers c → is_marked marks c ≡ b → b ≡ true
by_mark clafers enter leave order marks c true tour parted r e = refl
by_mark clafers enter leave order marks c false tour parted r e =
    absurd (clash clafers enter leave c r tour.nest
    (parted c r.other (tour.met c r.child r.at (nested r.child.parent r.parent r.declared)) (tour.met r.other r.inherited r.other_at (nested r.inherited.parent r.owner r.owned)) e))

pub mark_repeats : (clafers : List Clafer) (enter leave order : List ℕ) (marks : List Bool) → IsTour clafers enter leave order → AllApart clafers enter leave order marks → MarkRepeats clafers marks
mark_repeats clafers enter leave order marks tour parted c met = by_mark clafers enter leave order marks c (is_marked marks c) tour parted (repeats clafers c met) refl

-- ---- visit by visit

-- for each clafer that was visited is kept when its parent was left or a later turn, and its parent was entered no later than `turn`
pub record Behind (clafers : List Clafer) (enter leave done : List ℕ) (turn : ℕ) (last : List ℕ → ℕ) : Type 0 where
  pub kept : (d : ℕ) (l : Clafer) (q : ℕ) → has done d ≡ true → slice_get clafers d ≡ Some l → l.parent ≡ Some q → turn_of leave q ≤ last l.title.name
  pub entered : (d : ℕ) (l : Clafer) (q : ℕ) → has done d ≡ true → slice_get clafers d ≡ Some l → l.parent ≡ Some q → turn_of enter q ≤ turn

pub record SoFar (clafers : List Clafer) (enter leave done : List ℕ) (turn : ℕ) (last : List ℕ → ℕ) (marks : List Bool) : Type 0 where
  pub behind : Behind clafers enter leave done turn last
  pub parted : AllApart clafers enter leave done marks

pub nothing_yet : (clafers : List Clafer) (enter leave : List ℕ) (last : List ℕ → ℕ) (marks : List Bool) → SoFar clafers enter leave [] 0 last marks
nothing_yet clafers enter leave last marks = record {
  behind = record { kept = λ d l q among. absurd (true≢false (sym among)); entered = λ d l q among. absurd (true≢false (sym among)) };
  parted = λ c d among. absurd (true≢false (sym among));
}

in_done : (done : List ℕ) (c d : ℕ) → has (done ++ c ∷ []) d ≡ true → (has done d ≡ true) ⊎ (d ≡ c)
in_done done c d among = elim (or_cases (has done d) (eqb d c || false) (sym (list_any-append (eqb d) done (c ∷ [])) ∙ among)) [
  | inl old ↦ inl old
  | inr new ↦ inr (eqb-true d c (or_none (eqb d c) ∙ new))
]
  where
    or_none : (b : Bool) → b ≡ (b || false)
    or_none true = refl
    or_none false = refl

-- equal bytes
nat_list_same : (xs ys : List ℕ) → bytes_eq xs ys ≡ true → xs ≡ ys
nat_list_same [] [] e = refl
nat_list_same [] (y ∷ ys) e = absurd (true≢false (sym e))
nat_list_same (x ∷ xs) [] e = absurd (true≢false (sym e))
nat_list_same (x ∷ xs) (y ∷ ys) e =
    let parts = both (eqb x y) (bytes_eq xs ys) e in
    let head : x ≡ y = eqb-true x y parts.0 in
    ap (λ (z : ℕ). z ∷ xs) head ∙ ap (λ zs. y ∷ zs) (nat_list_same xs ys parts.1)

-- the clafer that is visited, however it is named
record Named (clafers : List Clafer) (enter leave : List ℕ) (c turn next : ℕ) (before after : List ℕ → ℕ) (old new : List Bool) (k : Clafer) (p : ℕ) : Type 0 where
  now : next ≡ turn_of enter p
  in_order : turn ≤ next
  comes_after : is_marked new c ≡ false → before k.title.name < next
  own : turn_of leave p ≤ after k.title.name

module _ (clafers : List Clafer) (enter leave : List ℕ) (c turn next : ℕ) (before after : List ℕ → ℕ) (old new : List Bool) (v : Visited clafers enter leave c turn next before after old new) where
  visited_as : (k : Clafer) (p : ℕ) → slice_get clafers c ≡ Some k → k.parent ≡ Some p → Named clafers enter leave c turn next before after old new k p
  visited_as k p at declared =
      let both_clafers : Some v.clafer ≡ Some k = sym v.at ∙ at in
      let same : v.clafer ≡ k = (cc) in
      let both_parents : Some v.parent ≡ Some p = sym v.declared ∙ ap (λ (z : Clafer). z.parent) same ∙ declared in
      let owner : v.parent ≡ p = (cc) in
      let own = v.own k.title.name (ap (λ (z : Clafer). bytes_eq z.title.name k.title.name) same ∙ nat_list_eq_equiv.refl k.title.name) in
      let left : turn_of leave v.parent ≡ turn_of leave p = ap (turn_of leave) owner in
      record {
        now = v.now ∙ ap (turn_of enter) owner;
        in_order = v.in_order;
        comes_after = λ none. subst (λ (z : Clafer). before z.title.name < next) same (v.comes_after none);
        own = omega (arith, own, left);
      }

  kept_more : (done : List ℕ) → Behind clafers enter leave done turn before → Behind clafers enter leave (done ++ c ∷ []) next after
  kept_more done behind = record {
    kept = λ d l q among at declared. elim (in_done done c d among) [
      | inl was ↦ let a = behind.kept d l q was at declared in let b = v.later l.title.name in omega (arith, a, b)
      | inr same ↦ (visited_as l q (ap (slice_get clafers) (sym same) ∙ at) declared).own
    ];
    entered = λ d l q among at declared. elim (in_done done c d among) [
      | inl was ↦ let a = behind.entered d l q was at declared in let b = v.in_order in omega (arith, a, b)
      | inr same ↦ let a = (visited_as l q (ap (slice_get clafers) (sym same) ∙ at) declared).now in omega (arith, a)
    ];
  }

  -- the one that is visited, against one that was visited before
  new_apart : (done : List ℕ) (d : ℕ) → Behind clafers enter leave done turn before → has done d ≡ true → is_marked new c ≡ false → Apart clafers enter leave c d
  new_apart done d behind among none k l p q at declared other owned named =
      let w = visited_as k p at declared in
      let below = w.comes_after none in
      let kept = behind.kept d l q among other owned in
      let names : before k.title.name ≡ before l.title.name = ap before (nat_list_same k.title.name l.title.name named) in
      let now = w.now in
      inl (omega (arith, below, kept, names, now))

  -- one that was visited before, against the one that is visited
  old_apart : (done : List ℕ) (d : ℕ) → Behind clafers enter leave done turn before → has done d ≡ true → Apart clafers enter leave d c
  old_apart done d behind among k l p q at declared other owned named =
      let w = visited_as l q other owned in
      let entered = behind.entered d k p among at declared in
      let now = w.now in
      let order = w.in_order in
      inr (omega (arith, entered, now, order))

  itself_apart : Apart clafers enter leave c c
  itself_apart k l p q at declared other owned named =
      let a = (visited_as k p at declared).now in
      let b = (visited_as l q other owned).now in
      inr (omega (arith, a, b))

  parted_more : (done : List ℕ) → Behind clafers enter leave done turn before → AllApart clafers enter leave done old → AllApart clafers enter leave (done ++ c ∷ []) new
  parted_more done behind parted x y in_x in_y none = elim (in_done done c x in_x) [
    | inl old_x ↦ elim (in_done done c y in_y) [
      | inl old_y ↦ parted x y old_x old_y (v.marks_stay x none)
      | inr new_y ↦ subst (λ (z : ℕ). Apart clafers enter leave x z) (sym new_y) (old_apart done x behind old_x)
    ]
    | inr new_x ↦
        let unmarked : is_marked new c ≡ false = ap (is_marked new) (sym new_x) ∙ none in
        subst (λ (z : ℕ). Apart clafers enter leave z y) (sym new_x)
        (elim (in_done done c y in_y) [
          | inl old_y ↦ new_apart done y behind old_y unmarked
          | inr new_y ↦ subst (λ (z : ℕ). Apart clafers enter leave c z) (sym new_y) itself_apart
        ])
  ]

done_suc : (xs : List ℕ) (i : ℕ) (x : ℕ) → slice_get xs i ≡ Some x → take (suc i) xs ≡ take i xs ++ x ∷ []
done_suc [] i x e = (cc)
done_suc (y ∷ xs) zero x e = let same : y ≡ x = (cc) in ap (λ (z : ℕ). z ∷ []) same
done_suc (y ∷ xs) (suc i) x e = ap (λ ys. y ∷ ys) (done_suc xs i x e)

-- one more visit
pub visited_more : (clafers : List Clafer) (enter leave order : List ℕ) (i c turn next : ℕ) (before after : List ℕ → ℕ) (old new : List Bool) → slice_get order i ≡ Some c
    → Visited clafers enter leave c turn next before after old new → SoFar clafers enter leave (take i order) turn before old → SoFar clafers enter leave (take (i + 1) order) next after new
visited_more clafers enter leave order i c turn next before after old new at v so =
    let step : suc i ≡ i + 1 = omega arith in
    let done : take (i + 1) order ≡ take i order ++ c ∷ [] = ap (λ (j : ℕ). take j order) (sym step) ∙ done_suc order i c at in
    subst (λ (xs : List ℕ). SoFar clafers enter leave xs next after new) (sym done)
    (record {
      behind = kept_more clafers enter leave c turn next before after old new v (take i order) so.behind;
      parted = parted_more clafers enter leave c turn next before after old new v (take i order) so.behind so.parted;
    })

-- ---- looked at clafer by clafer

nest_none : (clafers : List Clafer) (enter leave : List ℕ) (c : ℕ) → length clafers ≤ c → turn_of enter c ≤ turn_of leave c → NestsAt clafers enter leave c
nest_none clafers enter leave c le ends =
    let none = past clafers c le in
    let top : super_of clafers c ≡ None = ap (option_and_then (λ k. k.above)) none in
    record { ends = ends; later = λ s e. absurd (not_some (super_of clafers c) s top e); inside = λ s e. absurd (not_some (super_of clafers c) s top e) }

get_past : (xs : List ℕ) (i : ℕ) → length xs ≤ i → get_or xs i 0 ≡ 0
get_past [] i le = refl
get_past (x ∷ xs) zero le = absurd (omega (arith, le))
get_past (x ∷ xs) (suc i) le = get_past xs i (omega (arith, le))

pub nest_more : (clafers : List Clafer) (enter leave : List ℕ) (n : ℕ) → ((c : ℕ) → c < n → NestsAt clafers enter leave c) → NestsAt clafers enter leave n → (c : ℕ) → c < n + 1 → NestsAt clafers enter leave c
nest_more clafers enter leave n before here c within = elim (cases_eq c n) [
  | inl same ↦ subst (NestsAt clafers enter leave) (sym same) here
  | inr apart ↦ before c (omega (arith, within, apart))
]

pub nest_all : (clafers : List Clafer) (enter leave : List ℕ) (n : ℕ) → length clafers ≤ n → length enter ≤ n → ((c : ℕ) → c < n → NestsAt clafers enter leave c) → Nest clafers enter leave
nest_all clafers enter leave n all sized below c = elim (cases_lt c n) [
  | inl within ↦ below c within
  | inr past_end ↦
      let zero_there : turn_of enter c ≡ 0 = get_past enter c (omega (arith, past_end, sized)) in
      nest_none clafers enter leave c (omega (arith, past_end, all)) (omega (arith, zero_there))
]

pub met_more : (clafers : List Clafer) (order : List ℕ) (n : ℕ) → ((c : ℕ) → c < n → MetAt clafers order c) → MetAt clafers order n → (c : ℕ) → c < n + 1 → MetAt clafers order c
met_more clafers order n before here c within = elim (cases_eq c n) [
  | inl same ↦ subst (MetAt clafers order) (sym same) here
  | inr apart ↦ before c (omega (arith, within, apart))
]

pub met_all : (clafers : List Clafer) (order : List ℕ) (n : ℕ) → length clafers ≤ n → ((c : ℕ) → c < n → MetAt clafers order c) → Met clafers order
met_all clafers order n all below c k at = elim (cases_lt c n) [
  | inl within ↦ below c within k at
  | inr past_end ↦ let none = past clafers c (omega (arith, past_end, all)) in absurd (none_some (slice_get clafers c) k none at)
]
  where
    none_some : (o : Option Clafer) (z : Clafer) → o ≡ None → o ≡ Some z → ⊥
    none_some None z none some = (cc)
    none_some (Some y) z none some = (cc)

-- a clafer at a place of the order is in it
pub placed : (clafers : List Clafer) (order : List ℕ) (c i x : ℕ) → slice_get order i ≡ Some x → x ≡ c → MetAt clafers order c
placed clafers order c i x at same k found nests = has_at order i c (at ∙ ap (λ (z : ℕ). Some z) same)

pub top_met : (clafers : List Clafer) (order : List ℕ) (c : ℕ) (r : Bool) → r ≡ option_map_or (λ k. is_some k.parent) (slice_get clafers c) false → r ≡ false → MetAt clafers order c
top_met clafers order c r is none k found nests =
    absurd (true≢false (sym nests ∙ ap (λ (z : Option Clafer). option_map_or (λ x. is_some x.parent) z false) (sym found) ∙ sym is ∙ none))

pub ruleset met_facts = (placed, top_met)

-- ---- marks

pub mark_more : (marks : List Bool) (c d : ℕ) → c < length marks → is_marked (set marks c true) d ≡ false → is_marked marks d ≡ false
mark_more marks c d within none = elim (cases_eq d c) [
  | inl same ↦ absurd (true≢false (sym (get_or-set_same marks c true true within) ∙ ap (is_marked (set marks c true)) (sym same) ∙ none))
  | inr other ↦ sym (get_or-set_other marks c d true true other) ∙ none
]

pub now_marked : (marks : List Bool) (c : ℕ) (met : Bool) → c < length marks → is_marked (set marks c true) c ≡ false → met ≡ false
now_marked marks c met within none = absurd (true≢false (sym (get_or-set_same marks c true true within) ∙ none))

-- what is behind the marks is marked
pub behind_marks : (marks : List Bool) (c : ℕ) (met : Bool) → length marks ≤ c → is_marked marks c ≡ false → met ≡ false
behind_marks marks c met le none = absurd (true≢false (sym (get_or_past marks c true le) ∙ none))

pub no_marks : (clafers : List Clafer) (marks : List Bool) → marks ≡ [] → MarkRepeats clafers marks
no_marks clafers marks e c met = ap (λ (ms : List Bool). is_marked ms c) e

pub ruleset mark_facts = (mark_more, now_marked, behind_marks)

-- the visit that the code makes
pub made_visit : (clafers : List Clafer) (enter leave : List ℕ) (c turn next : ℕ) (k : Clafer) (p u left : ℕ) (name : List ℕ) (before after : List ℕ → Option ℕ) (old new : List Bool) → slice_get clafers c ≡ Some k
    → k.parent ≡ Some p → name ≡ k.title.name → next ≡ turn_of enter p → turn ≤ next → left ≡ kept_turn (before name) → left ≤ u → turn_of leave p ≤ u
    → ((n : List ℕ) → after n ≡ cond (bytes_eq name n) (Some u) (before n)) → (is_marked new c ≡ false → left < next) → ((d : ℕ) → is_marked new d ≡ false → is_marked old d ≡ false)
    → Visited clafers enter leave c turn next (λ n. kept_turn (before n)) (λ n. kept_turn (after n)) old new
made_visit clafers enter leave c turn next k p u left name before after old new at declared called now in_order found most own updates unmarked stay = record {
  clafer = k;
  parent = p;
  at = at;
  declared = declared;
  now = now;
  in_order = in_order;
  comes_after = λ none. let below = unmarked none in let same : left ≡ kept_turn (before k.title.name) = found ∙ ap (λ n. kept_turn (before n)) called in omega (arith, below, same);
  marks_stay = stay;
  own = λ n same.
      let is : kept_turn (after n) ≡ u = ap kept_turn (updates n ∙ ap (λ b. cond b (Some u) (before n)) (ap (λ (m : List ℕ). bytes_eq m n) called ∙ same)) in
      omega (arith, own, is);
  later = λ n. by_name n (bytes_eq name n) refl;
}
  where
    by_name : (n : List ℕ) (b : Bool) → bytes_eq name n ≡ b → kept_turn (before n) ≤ kept_turn (after n)
    by_name n true same =
        let is : kept_turn (after n) ≡ u = ap kept_turn (updates n ∙ ap (λ b. cond b (Some u) (before n)) same) in
        let was : left ≡ kept_turn (before n) = found ∙ ap (λ m. kept_turn (before m)) (nat_list_same name n same) in
        omega (arith, is, was, most)
    by_name n false differ =
        let is : kept_turn (after n) ≡ kept_turn (before n) = ap kept_turn (updates n ∙ ap (λ b. cond b (Some u) (before n)) differ) in
        omega (arith, is)

pub same_turn : (a b : ℕ) → Some a ≡ Some b → a ≡ b
same_turn a b e = (cc)

pub above_kept : (turn left next : ℕ) → turn ≡ next → nat_le turn left ≡ false → left < next
above_kept turn left next same above = let below : left < turn = grind (arith, nat_tests, above) in omega (arith, below, same)
