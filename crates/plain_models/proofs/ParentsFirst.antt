-- In a plain model each parent stands before its child, and each context is there.
use Rattle.std.proofs.Common.{◌≡◌, ℕ, ◌+◌, ◌<◌, ◌≤◌, Bool, true, false, ◌&&◌, List, [], ◌∷◌, ◌++◌, length, Option, Some, None, refl, ap, sym, ◌∙◌, subst, arith, length-append}
use Rattle.std.proofs.lemmas.Bool.{true≢false}
use Rattle.std.proofs.lemmas.Bool.Decides.{Decides-ltb}
use Rattle.clf_tree.specs.declared.token.Title.{Title}
use Rattle.clf_tree.specs.declared.expr.Expr.{Expr}
use Rattle.clf_tree.specs.declared.model.Rule.{Rule}
use Rattle.clf_tree.specs.declared.model.Goal.{Goal}
use Rattle.clf_tree.specs.declared.module.Start.{Start}
use Rattle.clf_tree.specs.declared.plain.Plain.{Plain}
use Rattle.clf_tree.specs.declared.plain.PlainClafer.{PlainClafer}
use Rattle.clf_tree.specs.Hierarchy.{is_below}
use Rattle.clf_tree.specs.declared.module.Item.TheOpen as item
use Rattle.clf_tree.specs.declared.module.Item.TheOpen.{Item-F, Declared-F}
use Rattle.clafer_desugar.specs.PlainModel.{Adds, item_step, declared_step, any, group_of, times_of, is_grouping, one_by_one, with_clafer, with_rule, with_rules, with_start, starts_with, with_goal, enum_clafer, member_clafer, with_members}
use Rattle.super_linker.specs.Supers.{parents_first}
use Rattle.plain_models.specs.Known.{contexts_in}

together : (a b : Bool) → a ≡ true → b ≡ true → (a && b) ≡ true
together a b p q = ap (λ z. z && b) p ∙ q

both : (a b : Bool) → (a && b) ≡ true → (a ≡ true) × (b ≡ true)
both true b h = (refl, h)
both false b h = absurd (true≢false (sym h))

-- a number below n is below more
wider : (n m : ℕ) (c : Option ℕ) → n ≤ m → is_below n c ≡ true → is_below m c ≡ true
wider n m None le h = refl
wider n m (Some d) le h = let low : d < n = (Decides-ltb d n).0 h in (Decides-ltb d m).1 (omega (arith, low, le))

pub record Good (plain : Plain) : Type 0 where
  pub parents : parents_first 0 plain.clafers ≡ true
  pub contexts : contexts_in (length plain.clafers) plain.rules ≡ true

pub record Goes (old new : Plain) : Type 0 where
  pub good : Good new
  pub longer : length old.clafers ≤ length new.clafers

parents-push : (c : ℕ) (ks : List PlainClafer) (k : PlainClafer) → parents_first c ks ≡ true → is_below (c + length ks) k.parent ≡ true → parents_first c (ks ++ k ∷ []) ≡ true
parents-push c [] k h below =
    let same : c + 0 ≡ c = omega arith in
    together (is_below c k.parent) true (subst (λ (n : ℕ). is_below n k.parent ≡ true) same below) refl
parents-push c (x ∷ ks) k h below =
    let parts = both (is_below c x.parent) (parents_first (c + 1) ks) h in
    let same : c + length (x ∷ ks) ≡ c + 1 + length ks = omega arith in
    together (is_below c x.parent) (parents_first (c + 1) (ks ++ k ∷ [])) parts.0
    (parents-push (c + 1) ks k parts.1 (subst (λ (n : ℕ). is_below n k.parent ≡ true) same below))

contexts-wider : (n m : ℕ) (rules : List Rule) → n ≤ m → contexts_in n rules ≡ true → contexts_in m rules ≡ true
contexts-wider n m [] le h = refl
contexts-wider n m (r ∷ rs) le h =
    let parts = both (is_below n r.context) (contexts_in n rs) h in
    together (is_below m r.context) (contexts_in m rs) (wider n m r.context le parts.0) (contexts-wider n m rs le parts.1)

pub good_clafer : (k : PlainClafer) (plain : Plain) → Good plain → is_below (length plain.clafers) k.parent ≡ true → Goes plain (with_clafer k plain)
good_clafer k plain g below =
    let longer : length (with_clafer k plain).clafers ≡ length plain.clafers + 1 = length-append plain.clafers (k ∷ []) in
    record {
      good = record {
        parents = parents-push 0 plain.clafers k g.parents (let same : length plain.clafers ≡ 0 + length plain.clafers = omega arith in subst (λ (n : ℕ). is_below n k.parent ≡ true) same below);
        contexts = contexts-wider (length plain.clafers) (length (with_clafer k plain).clafers) plain.rules (omega (arith, longer)) g.contexts;
      };
      longer = omega (arith, longer);
    }

contexts-push : (n : ℕ) (rules : List Rule) (r : Rule) → contexts_in n rules ≡ true → is_below n r.context ≡ true → contexts_in n (rules ++ r ∷ []) ≡ true
contexts-push n [] r h below = together (is_below n r.context) true below refl
contexts-push n (x ∷ rs) r h below =
    let parts = both (is_below n x.context) (contexts_in n rs) h in
    together (is_below n x.context) (contexts_in n (rs ++ r ∷ [])) parts.0 (contexts-push n rs r parts.1 below)

pub good_rule : (context : Option ℕ) (body : Expr) (plain : Plain) → Good plain → is_below (length plain.clafers) context ≡ true → Good (with_rule context body plain)
good_rule context body plain g below = record { parents = g.parents; contexts = contexts-push (length plain.clafers) plain.rules (record { context = context; body = body }) g.contexts below }

pub good_rules : (context : Option ℕ) (bodies : List Expr) (plain : Plain) → Good plain → is_below (length plain.clafers) context ≡ true → Goes plain (with_rules context bodies plain)
good_rules context [] plain g below = record { good = g; longer = omega arith }
good_rules context (b ∷ bs) plain g below =
    let one = good_rule context b plain g below in
    let rest = good_rules context bs (with_rule context b plain) one below in
    let longer = rest.longer in
    record { good = rest.good; longer = omega (arith, longer) }

pub good_start : (context : Option ℕ) (start : Option Start) (plain : Plain) → Good plain → is_below (length plain.clafers) context ≡ true → Goes plain (with_start context start plain)
good_start context None plain g below = record { good = g; longer = omega arith }
good_start context (Some start) plain g below = record { good = good_rule context (starts_with start) plain g below; longer = omega arith }

pub good_goal : (goal : Goal) (plain : Plain) → Good plain → Goes plain (with_goal goal plain)
good_goal goal plain g = record { good = record { parents = g.parents; contexts = g.contexts }; longer = omega arith }

pub goes_on : (a b c : Plain) → Goes a b → Goes b c → Goes a c
goes_on a b c p q = let le = p.longer in let more = q.longer in record { good = q.good; longer = omega (arith, le, more) }

pub good_members : (enum : Title) (titles : List Title) (plain : Plain) → Good plain → Goes plain (with_members enum titles plain)
good_members enum [] plain g = record { good = g; longer = omega arith }
good_members enum (t ∷ ts) plain g =
    let one : Goes plain (member_clafer enum t plain) = good_clafer _ plain g refl in
    goes_on plain (member_clafer enum t plain) (with_members enum ts (member_clafer enum t plain)) one (good_members enum ts (member_clafer enum t plain) one.good)

-- what adds to a model keeps it so
pub Keeps : Adds → Type 0
Keeps adds = (parent : Option ℕ) (grouped : Bool) (plain : Plain) → Good plain → is_below (length plain.clafers) parent ≡ true → Goes plain (adds parent grouped plain)

pub data AllKeep : List Adds → Type 0 where
  none : AllKeep []
  more : {add : Adds} {adds : List Adds} → Keeps add → AllKeep adds → AllKeep (add ∷ adds)

pub keeps_all : (adds : List Adds) → AllKeep adds → Keeps (one_by_one adds)
unfolding Keeps
keeps_all _ none parent grouped plain g below = record { good = g; longer = omega arith }
keeps_all _ (more {add = add} {adds = adds} k rest) parent grouped plain g below =
    let one = k parent grouped plain g below in
    goes_on plain (add parent grouped plain) (one_by_one adds parent grouped (add parent grouped plain)) one
    (keeps_all adds rest parent grouped (add parent grouped plain) one.good (wider (length plain.clafers) (length (add parent grouped plain).clafers) parent one.longer below))

-- a clafer of the model, its `=` rule, and its items
pub keeps_declared : (d : Declared-F Adds Adds) → AllKeep d.items → Keeps (declared_step d)
unfolding Keeps
keeps_declared d items parent grouped plain g below =
    let k : PlainClafer = record { at = d.at; title = d.title; is_abstract = d.is_abstract; parent = parent; above = d.above; group = group_of d.group; times = times_of d.times d.is_abstract grouped; reference = d.reference } in
    let first = with_clafer k plain in
    let a = good_clafer k plain g below in
    let longer : length first.clafers ≡ length plain.clafers + 1 = length-append plain.clafers (k ∷ []) in
    let here : is_below (length first.clafers) (Some (length plain.clafers)) ≡ true = (Decides-ltb (length plain.clafers) (length first.clafers)).1 (omega (arith, longer)) in
    let second = with_start (Some (length plain.clafers)) d.start first in
    let b = good_start (Some (length plain.clafers)) d.start first a.good here in
    let there : is_below (length second.clafers) (Some (length plain.clafers)) ≡ true = wider (length first.clafers) (length second.clafers) (Some (length plain.clafers)) b.longer here in
    let third = one_by_one d.items (Some (length plain.clafers)) (is_grouping (group_of d.group)) second in
    goes_on plain first third a (goes_on first second third b (keeps_all d.items items (Some (length plain.clafers)) (is_grouping (group_of d.group)) second b.good there))

pub keeps_item : (x : Item-F Adds Adds) → ((d : Adds) → x ≡ item.Clafer d → Keeps d) → Keeps (item_step x)
unfolding Keeps
keeps_item (item.Clafer d) inner parent grouped plain g below = inner d refl parent grouped plain g below
keeps_item (item.Enum at title members) inner parent grouped plain g below =
    let one = good_clafer (record { at = at; title = title; is_abstract = true; parent = None; above = None; group = any; times = any; reference = None }) plain g refl in
    goes_on plain (enum_clafer at title plain) (with_members title members (enum_clafer at title plain)) one (good_members title members (enum_clafer at title plain) one.good)
keeps_item (item.Constraint at parts) inner parent grouped plain g below = good_rules parent parts plain g below
keeps_item (item.Goal at least body) inner parent grouped plain g below = good_goal (record { at = at; least = least; body = body }) plain g

-- at top level
pub good_at_top : (adds : Adds) (plain : Plain) → Keeps adds → Good plain → Good (adds None false plain)
unfolding Keeps
good_at_top adds plain k g = (k None false plain g refl).good
