-- Labels that are filled in, child by child.
use Rattle.std.proofs.Common.{◌≡◌, ℕ, ◌+◌, ◌<◌, ◌&&◌, ◌||◌, Bool, true, false, List, [], ◌∷◌, length, drop, get_or, Option, Some, None, refl, ap, sym, ◌∙◌}
use Rattle.std.specs.Prelude.{is_some, is_none, if◌then◌else◌}
use Rattle.std.proofs.lemmas.List.{at_drop_more}
use Rattle.clf_tree.specs.declared.model.Clafer.{Clafer}
use Rattle.clf_tree.specs.Kinds.{is_child as is_declared_under}
use Rattle.name_tables.specs.declared.label.Label.{Label}
use Rattle.name_tables.specs.declared.label.Nearby.{Nearby}
use Rattle.std.specs.HashMap.{HashMap}
use Rattle.name_tables.specs.Labels.{label_at, shortest, reached, reached_all, reached_next}

or_mid : (a b : Bool) → (a || b) ≡ ((a || b) || false)
or_mid true b = refl
or_mid false true = refl
or_mid false false = refl

or_none : (a : Bool) → a ≡ (a || false)
or_none true = refl
or_none false = refl

pub fresh_none : (h : Bool) (o : Option Label) → h ≡ (h || (is_some o && is_none o))
fresh_none h None = or_none h
fresh_none h (Some l) = or_none h

or_true : (a : Bool) → true ≡ (a || true)
or_true true = refl
or_true false = refl

true_false : true ≡ false → ⊥
true_false e = (cc)

pub fresh_on : (h i j : Bool) (o n m : Option Label) → i ≡ (h || (is_some n && is_none o)) → j ≡ (i || (is_some m && is_none n)) → (is_some o ≡ true → is_some n ≡ true) → (is_some n ≡ true → is_some m ≡ true)
    → j ≡ (h || (is_some m && is_none o))
fresh_on h i j None None m e f a b = f ∙ ap (λ z. z || (is_some m && true)) (e ∙ sym (or_none h))
fresh_on h i j None (Some n) None e f a b = absurd (true_false (sym (b refl)))
fresh_on h i j None (Some n) (Some m) e f a b = f ∙ sym (or_none i) ∙ e
fresh_on h i j (Some o) None m e f a b = absurd (true_false (sym (a refl)))
fresh_on h i j (Some o) (Some n) None e f a b = absurd (true_false (sym (b refl)))
fresh_on h i j (Some o) (Some n) (Some m) e f a b = f ∙ sym (or_none i) ∙ e

shortest_kept : (o b : Option Label) → is_some o ≡ true → is_some (shortest o b) ≡ true
shortest_kept None b e = absurd (true_false (sym e))
shortest_kept (Some a) None e = refl
shortest_kept (Some a) (Some b) e = refl

pub reached_kept : (clafers : List Clafer) (m k : ℕ) (only : Option ℕ) (p : ℕ) (o : Option Label) → is_some o ≡ true → is_some (reached clafers m k only p o) ≡ true
reached_kept clafers m k only p o e = by (is_declared_under clafers p m)
  where
    by : (b : Bool) → is_some (if b then shortest o (Some (record { steps = k; only = only; next = m })) else o) ≡ true
    by true = shortest_kept o (Some (record { steps = k; only = only; next = m })) e
    by false = e

pub reached_all_kept : (clafers : List Clafer) (ms : List ℕ) (k : ℕ) (only : Option ℕ) (p : ℕ) (o : Option Label) → is_some o ≡ true → is_some (reached_all clafers ms k only p o) ≡ true
reached_all_kept clafers [] k only p o e = e
reached_all_kept clafers (m ∷ ms) k only p o e = reached_all_kept clafers ms k only p (reached clafers m k only p o) (reached_kept clafers m k only p o e)

pub now_some : (old new : Option Label) → new ≡ old → is_some old ≡ true → is_some new ≡ true
now_some old new e s = ap is_some e ∙ s

abbrev pub nobody : Nearby
nobody = record { clafer = 0; only = None }

pub next_on : (clafers : List Clafer) (heirs : List (List ℕ)) (last : List Nearby) (i k p : ℕ) (ms : List ℕ) (old new : Option Label) → i < length last → ms ≡ get_or heirs (get_or last i nobody).clafer []
    → new ≡ reached_all clafers ms k (get_or last i nobody).only p old → reached_next clafers heirs (drop (i + 1) last) k p new ≡ reached_next clafers heirs (drop i last) k p old
next_on clafers heirs last i k p ms old new within is e =
    ap (λ (o : Option Label). reached_next clafers heirs (drop (i + 1) last) k p o) (e ∙ ap (λ (zs : List ℕ). reached_all clafers zs k (get_or last i nobody).only p old) is)
    ∙ sym (at_drop_more (λ rs. reached_next clafers heirs rs k p old) last i nobody within)

pub after_all : (clafers : List Clafer) (ms : List ℕ) (k : ℕ) (only : Option ℕ) (p : ℕ) (old new : Option Label) → new ≡ reached_all clafers ms k only p old → is_some old ≡ true → is_some new ≡ true
after_all clafers ms k only p old new e s = ap is_some e ∙ reached_all_kept clafers ms k only p old s

pub empty_label : {S : Type 0} (labels : HashMap ℕ Label S) → labels.entries ≡ [] → (p : ℕ) → label_at labels p ≡ None
empty_label labels e p = rw e refl
