-- A list of tokens has at most one first refusal, and none where each token is fine.
use Rattle.std.proofs.Common.{◌≡◌, ℕ, Bool, true, false, refl, sym, ◌∙◌, ap, subst, arith, Option, Some, None, List, [], ◌∷◌, ◌++◌}
use Rattle.std.proofs.Math.Seq.{append_snoc}
use Rattle.std.proofs.lemmas.List.{append-nil}
use Rattle.clf_base.specs.declared.fault.Refusal.{Refusal}
use Rattle.clf_base.specs.declared.fault.Span.{Span}
use Rattle.clafer_grammar.specs.Modules.{BeginsModule}
use Rattle.clafer_grammar.specs.Symbols.{Symbol}
use Rattle.clafer_parser.specs.Limits.{over_behind, is_left_out, refusal, IsKept, AreFine, Passes, MayStand, GoesElsewhere, IsFirstRefusal}
use Rattle.clafer_parser.proofs.Runs.{fine_of}

-- ---- lists with a last token

first_same : {x y : Symbol} {xs ys : List Symbol} → x ∷ xs ≡ y ∷ ys → x ≡ y
first_same e = cc

rest_same : {x y : Symbol} {xs ys : List Symbol} → x ∷ xs ≡ y ∷ ys → xs ≡ ys
rest_same e = cc

cons_same : {x y : Symbol} {xs ys : List Symbol} → x ≡ y → xs ≡ ys → x ∷ xs ≡ y ∷ ys
cons_same e f = cc

no_cons : {x : Symbol} {xs : List Symbol} → [] ≡ x ∷ xs → ⊥
no_cons e = cc

no_push : (xs : List Symbol) (x : Symbol) → [] ≡ xs ++ x ∷ [] → ⊥
no_push [] x e = no_cons e
no_push (y ∷ xs) x e = no_cons e

front_same : (xs ys : List Symbol) (x y : Symbol) → xs ++ x ∷ [] ≡ ys ++ y ∷ [] → xs ≡ ys
front_same [] [] x y e = refl
front_same [] (b ∷ ys) x y e = absurd (no_push ys y (rest_same e))
front_same (a ∷ xs) [] x y e = absurd (no_push xs x (sym (rest_same e)))
front_same (a ∷ xs) (b ∷ ys) x y e = cons_same (first_same e) (front_same xs ys x y (rest_same e))

last_same : (xs ys : List Symbol) (x y : Symbol) → xs ++ x ∷ [] ≡ ys ++ y ∷ [] → x ≡ y
last_same [] [] x y e = first_same e
last_same [] (b ∷ ys) x y e = absurd (no_push ys y (rest_same e))
last_same (a ∷ xs) [] x y e = absurd (no_push xs x (sym (rest_same e)))
last_same (a ∷ xs) (b ∷ ys) x y e = last_same xs ys x y (rest_same e)

-- ---- tokens that pass

record Last (before : List Symbol) (token : Symbol) : Type 0 where
  fine : AreFine before
  kept : IsKept before token
  begins : BeginsModule (before ++ token ∷ [])

same_last : (xs ys : List Symbol) (x y : Symbol) → xs ≡ ys → x ≡ y → Last xs x → Last ys y
same_last xs ys x y e g h = subst (λ t. Last ys t) g (subst (λ l. Last l x) e h)

fine_last : (tokens before : List Symbol) (token : Symbol) → AreFine tokens → tokens ≡ before ++ token ∷ [] → Last before token
fine_last _ before token AreFine.none e = absurd (no_push before token e)
fine_last _ before token (AreFine.more {before = front} last f k b) e =
    same_last front before last token (front_same front before last token e) (last_same front before last token e) (record { fine = f; kept = k; begins = b })

-- where no module goes on, it is at the place of the last token
record Stuck (tokens : List Symbol) (at : Span) : Type 0 where
  before : List Symbol
  token : Symbol
  cut : tokens ≡ before ++ token ∷ []
  place : at ≡ token.at

stuck : (tokens : List Symbol) (at : Span) → Passes tokens (Some at) → Stuck tokens at
stuck _ _ (Passes.stuck {before} token f k none) = record { before = before; token = token; cut = refl; place = refl }
stuck _ _ (Passes.same {before} token h k) = record { before = before; token = token; cut = refl; place = refl }

stuck_once : (tokens : List Symbol) (a b : Span) → Stuck tokens a → Stuck tokens b → a ≡ b
stuck_once tokens a b s t = s.place ∙ ap (λ (token : Symbol). token.at) (last_same s.before t.before s.token t.token (sym s.cut ∙ t.cut)) ∙ sym t.place

fine_moves : (tokens others : List Symbol) (at : Span) → AreFine tokens → Passes others (Some at) → tokens ≡ others → ⊥
fine_moves tokens _ _ f (Passes.stuck {before} token g k none) e = none (fine_last tokens before token f e).begins
fine_moves tokens _ _ f (Passes.same {before} token h k) e = fine_moves before before token.at (fine_last tokens before token f e).fine h refl

passes_once : (tokens : List Symbol) (p q : Option Span) → Passes tokens p → Passes tokens q → p ≡ q
passes_once tokens None None h g = refl
passes_once tokens None (Some b) h g = absurd (fine_moves tokens tokens b (fine_of tokens h) g refl)
passes_once tokens (Some a) None h g = absurd (fine_moves tokens tokens a (fine_of tokens g) h refl)
passes_once tokens (Some a) (Some b) h g = ap (λ (at : Span). Some at) (stuck_once tokens a b (stuck tokens a h) (stuck tokens b g))

-- ---- tokens at whose front others pass

record Front (before : List Symbol) (token : Symbol) : Type 0 where
  place : Option Span
  passes : Passes before place
  kept : IsKept before token
  stays : MayStand place token.at

same_front : (xs ys : List Symbol) (x y : Symbol) → xs ≡ ys → x ≡ y → Front xs x → Front ys y
same_front xs ys x y e g h = subst (λ t. Front ys t) g (subst (λ l. Front l x) e h)

front_of : (tokens : List Symbol) (p : Option Span) → Passes tokens p → (before : List Symbol) (token : Symbol) → tokens ≡ before ++ token ∷ [] → Front before token
front_of tokens _ (Passes.fine f) before token e =
    let l = fine_last tokens before token f e in
    record { place = None; passes = Passes.fine l.fine; kept = l.kept; stays = tt }
front_of _ _ (Passes.stuck {before = front} last f k dead) before token e =
    same_front front before last token (front_same front before last token e) (last_same front before last token e)
    (record { place = None; passes = Passes.fine f; kept = k; stays = tt })
front_of _ _ (Passes.same {before = front} last h k) before token e =
    same_front front before last token (front_same front before last token e) (last_same front before last token e)
    (record { place = Some last.at; passes = h; kept = k; stays = refl })

front_at : (rest before : List Symbol) (token : Symbol) (p : Option Span) → Passes (before ++ token ∷ rest) p → Front before token
front_at [] before token p h = front_of (before ++ token ∷ []) p h before token refl
front_at (next ∷ rest) before token p h =
    let later = front_at rest (before ++ token ∷ []) next p (subst (λ l. Passes l p) (sym (append_snoc before token (next ∷ rest))) h) in
    front_of (before ++ token ∷ []) later.place later.passes before token refl

-- ---- why the tokens behind others are refused

-- the last token to be read has no place in the limits, or is left out, or a token goes elsewhere than one with which no module goes on
data Reason (before : List Symbol) (place : Option Span) (after : List Symbol) (why : Refusal) : Type 0 where
  too_deep : (token : Symbol) (rest : List Symbol) → after ≡ token ∷ rest → MayStand place token.at → over_behind before token.kind ≡ 65 →
      why ≡ refusal 41 token.at 65 → Reason before place after why
  too_long : (token : Symbol) (rest : List Symbol) → after ≡ token ∷ rest → MayStand place token.at → over_behind before token.kind ≡ 1001 →
      why ≡ refusal 41 token.at 1001 → Reason before place after why
  left_out : (token : Symbol) (rest : List Symbol) → after ≡ token ∷ rest → MayStand place token.at → over_behind before token.kind ≡ 0 →
      is_left_out token.kind ≡ true → why ≡ refusal 42 token.at 0 → Reason before place after why
  unexpected : (at : Span) → place ≡ Some at → GoesElsewhere after at → why ≡ refusal 40 at 0 → Reason before place after why

record Refused (tokens : List Symbol) (why : Refusal) : Type 0 where
  before : List Symbol
  after : List Symbol
  place : Option Span
  cut : before ++ after ≡ tokens
  passes : Passes before place
  reason : Reason before place after why

refused : (tokens : List Symbol) (why : Refusal) → IsFirstRefusal tokens why → Refused tokens why
refused _ _ (IsFirstRefusal.too_deep {before} {place} token after h may o) =
    record { before = before; after = token ∷ after; place = place; cut = refl; passes = h; reason = Reason.too_deep token after refl may o refl }
refused _ _ (IsFirstRefusal.too_long {before} {place} token after h may o) =
    record { before = before; after = token ∷ after; place = place; cut = refl; passes = h; reason = Reason.too_long token after refl may o refl }
refused _ _ (IsFirstRefusal.left_out {before} {place} token after h may o u) =
    record { before = before; after = token ∷ after; place = place; cut = refl; passes = h; reason = Reason.left_out token after refl may o u refl }
refused _ _ (IsFirstRefusal.unexpected {before} {at} after h elsewhere) =
    record { before = before; after = after; place = Some at; cut = refl; passes = h; reason = Reason.unexpected at refl elsewhere refl }

-- ---- numbers and tests that differ

zero_deep : (n : ℕ) → n ≡ 0 → n ≡ 65 → ⊥
zero_deep n e g = omega arith

zero_long : (n : ℕ) → n ≡ 0 → n ≡ 1001 → ⊥
zero_long n e g = omega arith

deep_long : (n : ℕ) → n ≡ 65 → n ≡ 1001 → ⊥
deep_long n e g = omega arith

no_test : {b : Bool} → b ≡ false → b ≡ true → ⊥
no_test e g = cc

may_same : (p q : Option Span) (at : Span) → p ≡ q → MayStand p at → MayStand q at
may_same p q at e m = subst (λ o. MayStand o at) e m

-- ---- one first refusal

-- no token that passes is refused
passed : (before : List Symbol) (place : Option Span) (token : Symbol) (rest others : List Symbol) (why : Refusal) (p : Option Span) → Passes before place →
    Reason before place (token ∷ rest) why → Passes (before ++ token ∷ others) p → ⊥
passed before place token rest others why p h reason g = go reason
  where
    its : Front before token
    its = front_at others before token p g

    go : Reason before place (token ∷ rest) why → ⊥
    go (Reason.too_deep t ts e may o w) = zero_deep (over_behind before token.kind) its.kept.within (ap (λ (t : Symbol). over_behind before t.kind) (first_same e) ∙ o)
    go (Reason.too_long t ts e may o w) = zero_long (over_behind before token.kind) its.kept.within (ap (λ (t : Symbol). over_behind before t.kind) (first_same e) ∙ o)
    go (Reason.left_out t ts e may o u w) = no_test its.kept.used (ap (λ (t : Symbol). is_left_out t.kind) (first_same e) ∙ u)
    go (Reason.unexpected at e elsewhere w) = elsewhere (may_same its.place (Some at) token.at (passes_once before its.place place its.passes h ∙ e) its.stays)

place_same : {a b : Span} → ◌≡◌ {A = Option Span} (Some a) (Some b) → a ≡ b
place_same e = cc

-- a token that stays isn't one that goes elsewhere
stays_there : (place : Option Span) (after : List Symbol) (token : Symbol) (rest : List Symbol) (at : Span) → after ≡ token ∷ rest → MayStand place token.at →
    place ≡ Some at → GoesElsewhere after at → ⊥
stays_there place after token rest at e may p elsewhere =
    subst (λ l. GoesElsewhere l at) e elsewhere (may_same place (Some at) token.at p may)

module _ (before : List Symbol) (place : Option Span) (after : List Symbol) (some other : Refusal) where
  same_token : (s t : Symbol) (ss ts : List Symbol) → after ≡ s ∷ ss → after ≡ t ∷ ts → s ≡ t
  same_token s t ss ts e g = first_same (sym e ∙ g)

  one_reason : Reason before place after some → Reason before place after other → some ≡ other
  one_reason (Reason.too_deep s ss e may o w) (Reason.too_deep t ts e2 may2 o2 w2) = w ∙ ap (λ (t : Symbol). refusal 41 t.at 65) (same_token s t ss ts e e2) ∙ sym w2
  one_reason (Reason.too_deep s ss e may o w) (Reason.too_long t ts e2 may2 o2 w2) =
      absurd (deep_long (over_behind before t.kind) (ap (λ (t : Symbol). over_behind before t.kind) (same_token t s ts ss e2 e) ∙ o) o2)
  one_reason (Reason.too_deep s ss e may o w) (Reason.left_out t ts e2 may2 o2 u2 w2) =
      absurd (zero_deep (over_behind before t.kind) o2 (ap (λ (t : Symbol). over_behind before t.kind) (same_token t s ts ss e2 e) ∙ o))
  one_reason (Reason.too_deep s ss e may o w) (Reason.unexpected at p elsewhere w2) = absurd (stays_there place after s ss at e may p elsewhere)
  one_reason (Reason.too_long s ss e may o w) (Reason.too_deep t ts e2 may2 o2 w2) =
      absurd (deep_long (over_behind before t.kind) o2 (ap (λ (t : Symbol). over_behind before t.kind) (same_token t s ts ss e2 e) ∙ o))
  one_reason (Reason.too_long s ss e may o w) (Reason.too_long t ts e2 may2 o2 w2) = w ∙ ap (λ (t : Symbol). refusal 41 t.at 1001) (same_token s t ss ts e e2) ∙ sym w2
  one_reason (Reason.too_long s ss e may o w) (Reason.left_out t ts e2 may2 o2 u2 w2) =
      absurd (zero_long (over_behind before t.kind) o2 (ap (λ (t : Symbol). over_behind before t.kind) (same_token t s ts ss e2 e) ∙ o))
  one_reason (Reason.too_long s ss e may o w) (Reason.unexpected at p elsewhere w2) = absurd (stays_there place after s ss at e may p elsewhere)
  one_reason (Reason.left_out s ss e may o u w) (Reason.too_deep t ts e2 may2 o2 w2) =
      absurd (zero_deep (over_behind before t.kind) (ap (λ (t : Symbol). over_behind before t.kind) (same_token t s ts ss e2 e) ∙ o) o2)
  one_reason (Reason.left_out s ss e may o u w) (Reason.too_long t ts e2 may2 o2 w2) =
      absurd (zero_long (over_behind before t.kind) (ap (λ (t : Symbol). over_behind before t.kind) (same_token t s ts ss e2 e) ∙ o) o2)
  one_reason (Reason.left_out s ss e may o u w) (Reason.left_out t ts e2 may2 o2 u2 w2) = w ∙ ap (λ (t : Symbol). refusal 42 t.at 0) (same_token s t ss ts e e2) ∙ sym w2
  one_reason (Reason.left_out s ss e may o u w) (Reason.unexpected at p elsewhere w2) = absurd (stays_there place after s ss at e may p elsewhere)
  one_reason (Reason.unexpected at p elsewhere w) (Reason.too_deep t ts e2 may2 o2 w2) = absurd (stays_there place after t ts at e2 may2 p elsewhere)
  one_reason (Reason.unexpected at p elsewhere w) (Reason.too_long t ts e2 may2 o2 w2) = absurd (stays_there place after t ts at e2 may2 p elsewhere)
  one_reason (Reason.unexpected at p elsewhere w) (Reason.left_out t ts e2 may2 o2 u2 w2) = absurd (stays_there place after t ts at e2 may2 p elsewhere)
  one_reason (Reason.unexpected at p elsewhere w) (Reason.unexpected at2 p2 elsewhere2 w2) =
      w ∙ ap (λ (place : Span). refusal 40 place 0) (place_same (sym p ∙ p2)) ∙ sym w2

-- two cuts of one list: the same, or one before the other
data Cuts (xs us ys vs : List Symbol) : Type 0 where
  even : xs ≡ ys → us ≡ vs → Cuts xs us ys vs
  ahead : (t : Symbol) (ts : List Symbol) → us ≡ t ∷ (ts ++ vs) → ys ≡ xs ++ t ∷ ts → Cuts xs us ys vs
  behind : (t : Symbol) (ts : List Symbol) → vs ≡ t ∷ (ts ++ us) → xs ≡ ys ++ t ∷ ts → Cuts xs us ys vs

cuts : (xs us ys vs : List Symbol) → xs ++ us ≡ ys ++ vs → Cuts xs us ys vs
cuts [] us [] vs e = Cuts.even refl e
cuts [] us (y ∷ ys) vs e = Cuts.ahead y ys e refl
cuts (x ∷ xs) us [] vs e = Cuts.behind x xs (sym e) refl
cuts (x ∷ xs) us (y ∷ ys) vs e = go (cuts xs us ys vs (rest_same e)) (first_same e)
  where
    go : Cuts xs us ys vs → x ≡ y → Cuts (x ∷ xs) us (y ∷ ys) vs
    go (Cuts.even a b) g = Cuts.even (cons_same g a) b
    go (Cuts.ahead t ts a b) g = Cuts.ahead t ts a (cons_same (sym g) b)
    go (Cuts.behind t ts a b) g = Cuts.behind t ts a (cons_same g b)

compare : (tokens : List Symbol) (some other : Refusal) → Refused tokens some → Refused tokens other → some ≡ other
compare tokens some other a b = by_cuts (cuts a.before a.after b.before b.after (a.cut ∙ sym b.cut))
  where
    by_cuts : Cuts a.before a.after b.before b.after → some ≡ other
    by_cuts (Cuts.even e f) =
        let same = passes_once a.before b.place a.place (subst (λ l. Passes l b.place) (sym e) b.passes) a.passes in
        one_reason a.before a.place a.after some other a.reason
        (subst (λ l. Reason a.before a.place l other) (sym f)
        (subst (λ q. Reason a.before q b.after other) same (subst (λ l. Reason l b.place b.after other) (sym e) b.reason)))
    by_cuts (Cuts.ahead t ts e f) =
        absurd (passed a.before a.place t (ts ++ b.after) ts some b.place a.passes (subst (λ l. Reason a.before a.place l some) e a.reason)
        (subst (λ l. Passes l b.place) f b.passes))
    by_cuts (Cuts.behind t ts e f) =
        absurd (passed b.before b.place t (ts ++ a.after) ts other a.place b.passes (subst (λ l. Reason b.before b.place l other) e b.reason)
        (subst (λ l. Passes l a.place) f a.passes))

pub refused_once : (tokens : List Symbol) (some other : Refusal) → IsFirstRefusal tokens some → IsFirstRefusal tokens other → some ≡ other
refused_once tokens some other h g = compare tokens some other (refused tokens some h) (refused tokens other g)

pub fine_or_refused : (tokens : List Symbol) (why : Refusal) → AreFine tokens → IsFirstRefusal tokens why → ⊥
fine_or_refused tokens why f h = go (refused tokens why h)
  where
    none_left : (before : List Symbol) (place : Option Span) → Passes before place → before ++ [] ≡ tokens → Reason before place [] why → ⊥
    none_left before place p e (Reason.too_deep t ts g may o w) = no_cons g
    none_left before place p e (Reason.too_long t ts g may o w) = no_cons g
    none_left before place p e (Reason.left_out t ts g may o u w) = no_cons g
    none_left before place p e (Reason.unexpected at g elsewhere w) =
        fine_moves tokens before at f (subst (λ q. Passes before q) g p) (sym e ∙ append-nil before)

    by_after : (before after : List Symbol) (place : Option Span) → Passes before place → before ++ after ≡ tokens → Reason before place after why → ⊥
    by_after before [] place p e reason = none_left before place p e reason
    by_after before (t ∷ ts) place p e reason = passed before place t ts ts why None p reason (subst (λ l. Passes l None) (sym e) (Passes.fine f))

    go : Refused tokens why → ⊥
    go a = by_after a.before a.after a.place a.passes a.cut a.reason
