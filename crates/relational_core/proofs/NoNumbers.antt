-- Without integers in an expression there are no numbers in its relational expression.
use Rattle.std.proofs.Common.{◌≡◌, ℕ, zero, suc, Bool, true, false, cond, ◌&&◌, List, [], ◌∷◌, ◌++◌, length, reverse, replicate, Option, Some, None, refl, ap, sym, ◌∙◌}
use Rattle.std.specs.Prelude.{slice_get, is_some, is_none}
use Rattle.std.specs.Option.{option_map, option_map_or, option_and_then}
use Rattle.std.specs.List.{list_all, filter_map, cons_option}
use Rattle.std.proofs.lemmas.Bool.{true≢false}
use Rattle.std.proofs.lemmas.List.Folds.{list_all-append}
use Rattle.clf_tree.specs.declared.token.Word.{Word}
use Rattle.clf_tree.specs.declared.token.Word.TheVariants as word
use Rattle.clf_tree.specs.declared.model.Clafer.{Clafer}
use Rattle.clf_tree.specs.declared.model.Reference.{Reference}
use Rattle.clf_tree.specs.declared.scopes.Scopes.{Scopes}
use Rattle.clf_tree.specs.declared.bounds.Bounds.{Bounds}
use Rattle.clf_tree.specs.declared.kind.Within.{Within}
use Rattle.clf_tree.specs.declared.kind.Kind.{Kind}
use Rattle.clf_tree.specs.declared.kind.Kind.TheVariants as kinds
use Rattle.clf_tree.specs.declared.kind.Reading.{Reading}
use Rattle.clf_tree.specs.declared.kind.Reading.TheVariants.{ByValues, ByNodes}
use Rattle.clf_tree.specs.Tree as e
use Rattle.clf_tree.specs.Tree.{Tree}
use Rattle.clf_tree.specs.Lists.{from_end}
use Rattle.clf_tree.specs.Hierarchy.{own_reference, refers_to_int, refer_to_int, target_of, targets_of, with_supers, share}
use Rattle.clf_tree.specs.Kinds.{kind, clafers_of, bind_kinds, parent_kind, parents_of, dref_kind, union_kind, left_kind, compared_kind, branch_kind, reading, reading_of}
use Rattle.clf_tree.specs.Typed.{is_typed, fits_truth, fits_number, fits_nodes, fit_together, fit_choice, fit_reading, fit_sides}
use Rattle.clf_tree.specs.Intervals.{interval}
use Rattle.clf_tree.specs.Satisfies.{Law}
use Rattle.clf_tree.specs.Core.{Core}
use Rattle.clf_tree.specs.CoreSoundness.{sort, clafers_in}
use Rattle.int_widths.specs.Narrow.{within_context}
use Rattle.relational_core.specs.Conditions.{is_typed_law}
use Rattle.relational_core.specs.Numberless.{has_no_number, refers_to_no_int, is_no_number, some_clafer, no_integers, no_integers_in}
use Rattle.relational_core.specs.Lowered.{dref, through, same, part, choice, quant, as_truth, lowered, lowered_law}
use Rattle.relational_core.specs.Lowered as lower
use Rattle.relational_core.proofs.Passing.{and_parts, and_all}
use Rattle.relational_core.proofs.Made.{all-get, all-reverse}
use Rattle.relational_core.proofs.Kept.{three, four}

-- a kind of nodes has some clafer
abbrev has_clafer : Option Kind → Bool
has_clafer (Some (kinds.Nodes ks)) = some_clafer ks
has_clafer _ = true

some-append : (ks ls : List ℕ) → some_clafer ks ≡ true → some_clafer (ks ++ ls) ≡ true
some-append [] ls h = absurd (true≢false (sym h))
some-append (k ∷ ks) ls h = refl

copies-pass : (n : ℕ) (ks : List ℕ) → some_clafer ks ≡ true → list_all some_clafer (replicate n ks) ≡ true
copies-pass zero ks h = refl
copies-pass (suc n) ks h = and_all (some_clafer ks) (list_all some_clafer (replicate n ks)) h (copies-pass n ks h)

module _ (clafers : List Clafer) (scopes : Scopes) (none : refers_to_no_int clafers ≡ true) where
  -- no clafer refers to integers
  own-none : (c : ℕ) (o : Option Clafer) (r : Reference) → slice_get clafers c ≡ o → option_and_then (λ (k : Clafer). k.reference) o ≡ Some r → is_none r.to ≡ false
  own-none c None r e h = absurd (none_some h)
    where
      none_some : None ≡ Some r → ⊥
      none_some q = (cc)
  own-none c (Some k) r e h =
      turn r.to (ap (λ o. option_map_or (λ (q : Reference). is_some q.to) o true) (sym h) ∙ all-get (λ (k : Clafer). option_map_or (λ (q : Reference). is_some q.to) k.reference true) clafers c k none e)
    where
      turn : (o : Option ℕ) → is_some o ≡ true → is_none o ≡ false
      turn None q = absurd (true≢false (sym q))
      turn (Some x) q = refl

  first-none : (xs : List ℕ) → option_map_or (λ (r : Reference). is_none r.to) (slice_get (filter_map (own_reference clafers) xs) 0) false ≡ false
  first-none [] = refl
  first-none (x ∷ xs) = pick (own_reference clafers x) refl (first-none xs)
    where
      pick : (o : Option Reference) → own_reference clafers x ≡ o → option_map_or (λ (r : Reference). is_none r.to) (slice_get (filter_map (own_reference clafers) xs) 0) false ≡ false
          → option_map_or (λ (r : Reference). is_none r.to) (slice_get (cons_option o (filter_map (own_reference clafers) xs)) 0) false ≡ false
      pick None e rest = rest
      pick (Some r) e rest = own-none x (slice_get clafers x) r refl e

  no-int : (ks : List ℕ) → some_clafer ks ≡ true → refer_to_int clafers ks ≡ true → ⊥
  no-int [] h j = true≢false (sym h)
  no-int (k ∷ ks) h j = true≢false (sym (and_parts (refers_to_int clafers k) (refer_to_int clafers ks) j).0 ∙ first-none (with_supers clafers k))

  no-number : (k : Option Kind) → is_no_number k ≡ true → has_clafer k ≡ true → fits_number clafers k ≡ true → ⊥
  no-number None h j f = true≢false (sym f)
  no-number (Some kinds.Truth) h j f = true≢false (sym f)
  no-number (Some kinds.Integer) h j f = true≢false (sym h)
  no-number (Some (kinds.Nodes ks)) h j f = no-int ks j f
  no-number (Some (kinds.Numbers ks)) h j f = true≢false (sym h)

  -- ---- kinds have some clafer
  targets-some : (ks : List ℕ) → some_clafer ks ≡ true → list_all (λ c. is_some (target_of clafers c)) ks ≡ true → some_clafer (filter_map (target_of clafers) ks) ≡ true
  targets-some [] h j = h
  targets-some (k ∷ ks) h j = pick (target_of clafers k) (and_parts (is_some (target_of clafers k)) (list_all (λ c. is_some (target_of clafers c)) ks) j).0
    where
      pick : (o : Option ℕ) → is_some o ≡ true → some_clafer (cons_option o (filter_map (target_of clafers) ks)) ≡ true
      pick None q = absurd (true≢false (sym q))
      pick (Some t) q = refl

  found-some : (ks : List ℕ) (b : Bool) → list_all (λ c. is_some (target_of clafers c)) ks ≡ b → some_clafer ks ≡ true
      → has_clafer (option_map (λ ts. kinds.Nodes ts) (cond b (Some (filter_map (target_of clafers) ks)) None)) ≡ true
  found-some ks true e h = targets-some ks h e
  found-some ks false e h = refl

  dref-pick : (b : Bool) (ks : List ℕ) (o : Option Kind) → has_clafer o ≡ true → has_clafer (cond b (Some (kinds.Numbers ks)) o) ≡ true
  dref-pick true ks o h = refl
  dref-pick false ks o h = h

  dref-some : (k : Option Kind) → has_clafer k ≡ true → has_clafer (dref_kind clafers k) ≡ true
  dref-some (Some (kinds.Nodes ks)) h =
      dref-pick (refer_to_int clafers ks) ks (option_map (λ ts. kinds.Nodes ts) (targets_of clafers ks)) (found-some ks (list_all (λ c. is_some (target_of clafers c)) ks) refl h)
  dref-some None h = refl
  dref-some (Some kinds.Truth) h = refl
  dref-some (Some kinds.Integer) h = refl
  dref-some (Some (kinds.Numbers ks)) h = refl

  parents-some : (ps : List ℕ) → has_clafer (parent_kind ps) ≡ true
  parents-some [] = refl
  parents-some (p ∷ ps) = refl

  union-some : (k l : Option Kind) → has_clafer k ≡ true → has_clafer (union_kind k l) ≡ true
  union-some (Some (kinds.Nodes ks)) (Some (kinds.Nodes ls)) h = some-append ks ls h
  union-some (Some (kinds.Nodes ks)) None h = refl
  union-some (Some (kinds.Nodes ks)) (Some kinds.Truth) h = refl
  union-some (Some (kinds.Nodes ks)) (Some kinds.Integer) h = refl
  union-some (Some (kinds.Nodes ks)) (Some (kinds.Numbers ls)) h = refl
  union-some None l h = refl
  union-some (Some kinds.Truth) l h = refl
  union-some (Some kinds.Integer) l h = refl
  union-some (Some (kinds.Numbers ks)) l h = refl

  left-pick : (b : Bool) (ks : List ℕ) → some_clafer ks ≡ true → has_clafer (cond b (Some (kinds.Nodes ks)) None) ≡ true
  left-pick true ks h = h
  left-pick false ks h = refl

  left-some : (k l : Option Kind) → has_clafer k ≡ true → has_clafer (left_kind clafers k l) ≡ true
  left-some (Some (kinds.Nodes ks)) (Some (kinds.Nodes ls)) h = left-pick (share clafers ks ls) ks h
  left-some (Some (kinds.Nodes ks)) None h = refl
  left-some (Some (kinds.Nodes ks)) (Some kinds.Truth) h = refl
  left-some (Some (kinds.Nodes ks)) (Some kinds.Integer) h = refl
  left-some (Some (kinds.Nodes ks)) (Some (kinds.Numbers ls)) h = refl
  left-some None l h = refl
  left-some (Some kinds.Truth) l h = refl
  left-some (Some kinds.Integer) l h = refl
  left-some (Some (kinds.Numbers ks)) l h = refl

  compared-some : (k l : Option Kind) → (has_clafer (compared_kind clafers k l) ≡ true) × (is_no_number (compared_kind clafers k l) ≡ true)
  compared-some (Some (kinds.Nodes ks)) (Some (kinds.Nodes ls)) = pick (reading clafers (kinds.Nodes ks) (kinds.Nodes ls))
    where
      pick : (o : Option Reading) → (has_clafer (option_map (λ r. kinds.Truth) o) ≡ true) × (is_no_number (option_map (λ r. kinds.Truth) o) ≡ true)
      pick None = (refl, refl)
      pick (Some r) = (refl, refl)
  compared-some (Some (kinds.Nodes ks)) None = (refl, refl)
  compared-some (Some (kinds.Nodes ks)) (Some kinds.Truth) = (refl, refl)
  compared-some (Some (kinds.Nodes ks)) (Some kinds.Integer) = (refl, refl)
  compared-some (Some (kinds.Nodes ks)) (Some (kinds.Numbers ls)) = (refl, refl)
  compared-some None l = (refl, refl)
  compared-some (Some kinds.Truth) l = (refl, refl)
  compared-some (Some kinds.Integer) l = (refl, refl)
  compared-some (Some (kinds.Numbers ks)) l = (refl, refl)

  choice-some : (k l : Option Kind) → has_clafer k ≡ true → has_clafer (option_and_then (λ x. option_map (branch_kind x) l) k) ≡ true
  choice-some None l h = refl
  choice-some (Some j) None h = refl
  choice-some (Some kinds.Truth) (Some j) h = refl
  choice-some (Some kinds.Integer) (Some kinds.Truth) h = refl
  choice-some (Some kinds.Integer) (Some kinds.Integer) h = refl
  choice-some (Some kinds.Integer) (Some (kinds.Nodes ls)) h = refl
  choice-some (Some kinds.Integer) (Some (kinds.Numbers ls)) h = refl
  choice-some (Some (kinds.Numbers ks)) (Some kinds.Truth) h = refl
  choice-some (Some (kinds.Numbers ks)) (Some kinds.Integer) h = refl
  choice-some (Some (kinds.Numbers ks)) (Some (kinds.Nodes ls)) h = refl
  choice-some (Some (kinds.Numbers ks)) (Some (kinds.Numbers ls)) h = refl
  choice-some (Some (kinds.Nodes ks)) (Some kinds.Truth) h = refl
  choice-some (Some (kinds.Nodes ks)) (Some kinds.Integer) h = refl
  choice-some (Some (kinds.Nodes ks)) (Some (kinds.Numbers ls)) h = refl
  choice-some (Some (kinds.Nodes ks)) (Some (kinds.Nodes ls)) h = some-append ks ls h

  variable-some : (bound : List (List ℕ)) (i : ℕ) (o : Option (List ℕ)) → list_all some_clafer bound ≡ true → from_end bound i ≡ o → has_clafer (option_map (λ ks. kinds.Nodes ks) o) ≡ true
  variable-some bound i None h e = refl
  variable-some bound i (Some ks) h e = all-get some_clafer (reverse bound) i ks (all-reverse some_clafer bound h) e

  this-some : (this : Option ℕ) → has_clafer (option_map (λ c. kinds.Nodes (c ∷ [])) this) ≡ true
  this-some None = refl
  this-some (Some c) = refl

  kind-some : (t : Tree) (w : Within) → no_integers clafers t w ≡ true → list_all some_clafer w.bound ≡ true → has_clafer (kind clafers t w) ≡ true
  kind-some (e.This _) w h b = this-some w.this
  kind-some (e.Variable _ i) w h b = variable-some w.bound i (from_end w.bound i) b refl
  kind-some (e.Step _ of into follow) w h b = (and_parts (some_clafer into) (no_integers clafers of w) h).0
  kind-some (e.Parent _ a) w h b = parents-some (parents_of clafers (clafers_of (kind clafers a w)))
  kind-some (e.Dref at a) w h b = dref-some (kind clafers a w) (kind-some a w (and_parts (is_no_number (kind clafers (e.Dref at a) w)) (no_integers clafers a w) h).1 b)
  kind-some (e.Union _ a b) w h bound = union-some (kind clafers a w) (kind clafers b w) (kind-some a w (and_parts (no_integers clafers a w) (no_integers clafers b w) h).0 bound)
  kind-some (e.Minus _ a b) w h bound = left-some (kind clafers a w) (kind clafers b w) (kind-some a w (and_parts (no_integers clafers a w) (no_integers clafers b w) h).0 bound)
  kind-some (e.Meet _ a b) w h bound = left-some (kind clafers a w) (kind clafers b w) (kind-some a w (and_parts (no_integers clafers a w) (no_integers clafers b w) h).0 bound)
  kind-some (e.If at t a b) w h bound =
      let i = and_parts (is_no_number (kind clafers (e.If at t a b) w)) (no_integers clafers t w && (no_integers clafers a w && no_integers clafers b w)) h in
      let j = and_parts (no_integers clafers t w) (no_integers clafers a w && no_integers clafers b w) i.1 in
      choice-some (kind clafers a w) (kind clafers b w) (kind-some a w (and_parts (no_integers clafers a w) (no_integers clafers b w) j.1).0 bound)
  kind-some (e.Equal _ a b) w h bound = (compared-some (kind clafers a w) (kind clafers b w)).0
  kind-some (e.In _ a b) w h bound = (compared-some (kind clafers a w) (kind clafers b w)).0
  kind-some _ w h b = refl

  -- ---- kinds are no numbers
  plain-this : (this : Option ℕ) → is_no_number (option_map (λ c. kinds.Nodes (c ∷ [])) this) ≡ true
  plain-this None = refl
  plain-this (Some c) = refl

  plain-variable : (o : Option (List ℕ)) → is_no_number (option_map (λ ks. kinds.Nodes ks) o) ≡ true
  plain-variable None = refl
  plain-variable (Some ks) = refl

  plain-parents : (ps : List ℕ) → is_no_number (parent_kind ps) ≡ true
  plain-parents [] = refl
  plain-parents (p ∷ ps) = refl

  plain-union : (k l : Option Kind) → is_no_number (union_kind k l) ≡ true
  plain-union (Some (kinds.Nodes ks)) (Some (kinds.Nodes ls)) = refl
  plain-union (Some (kinds.Nodes ks)) None = refl
  plain-union (Some (kinds.Nodes ks)) (Some kinds.Truth) = refl
  plain-union (Some (kinds.Nodes ks)) (Some kinds.Integer) = refl
  plain-union (Some (kinds.Nodes ks)) (Some (kinds.Numbers ls)) = refl
  plain-union None l = refl
  plain-union (Some kinds.Truth) l = refl
  plain-union (Some kinds.Integer) l = refl
  plain-union (Some (kinds.Numbers ks)) l = refl

  plain-pick : (b : Bool) (ks : List ℕ) → is_no_number (cond b (Some (kinds.Nodes ks)) None) ≡ true
  plain-pick true ks = refl
  plain-pick false ks = refl

  plain-left : (k l : Option Kind) → is_no_number (left_kind clafers k l) ≡ true
  plain-left (Some (kinds.Nodes ks)) (Some (kinds.Nodes ls)) = plain-pick (share clafers ks ls) ks
  plain-left (Some (kinds.Nodes ks)) None = refl
  plain-left (Some (kinds.Nodes ks)) (Some kinds.Truth) = refl
  plain-left (Some (kinds.Nodes ks)) (Some kinds.Integer) = refl
  plain-left (Some (kinds.Nodes ks)) (Some (kinds.Numbers ls)) = refl
  plain-left None l = refl
  plain-left (Some kinds.Truth) l = refl
  plain-left (Some kinds.Integer) l = refl
  plain-left (Some (kinds.Numbers ks)) l = refl

  plain-kind : (t : Tree) (w : Within) → no_integers clafers t w ≡ true → is_no_number (kind clafers t w) ≡ true
  plain-kind (e.Literal _ n) w h = h
  plain-kind (e.This _) w h = plain-this w.this
  plain-kind (e.Variable _ i) w h = plain-variable (from_end w.bound i)
  plain-kind (e.Parent _ a) w h = plain-parents (parents_of clafers (clafers_of (kind clafers a w)))
  plain-kind (e.Dref at a) w h = (and_parts (is_no_number (kind clafers (e.Dref at a) w)) (no_integers clafers a w) h).0
  plain-kind (e.Union _ a b) w h = plain-union (kind clafers a w) (kind clafers b w)
  plain-kind (e.Minus _ a b) w h = plain-left (kind clafers a w) (kind clafers b w)
  plain-kind (e.Meet _ a b) w h = plain-left (kind clafers a w) (kind clafers b w)
  plain-kind (e.If at t a b) w h = (and_parts (is_no_number (kind clafers (e.If at t a b) w)) (no_integers clafers t w && (no_integers clafers a w && no_integers clafers b w)) h).0
  plain-kind (e.Card _ a) w h = h
  plain-kind (e.Sum _ a) w h = h
  plain-kind (e.Neg _ a) w h = h
  plain-kind (e.Add _ a b) w h = h
  plain-kind (e.Sub _ a b) w h = h
  plain-kind (e.Mul _ a b) w h = h
  plain-kind (e.Equal _ a b) w h = (compared-some (kind clafers a w) (kind clafers b w)).1
  plain-kind (e.In _ a b) w h = (compared-some (kind clafers a w) (kind clafers b w)).1
  plain-kind _ w h = refl

  -- ---- forms
  truth-plain : (k : Option Kind) (a : Core) → has_no_number a ≡ true → has_no_number (as_truth k a) ≡ true
  truth-plain (Some kinds.Truth) a h = h
  truth-plain None a h = h
  truth-plain (Some kinds.Integer) a h = h
  truth-plain (Some (kinds.Nodes ks)) a h = h
  truth-plain (Some (kinds.Numbers ks)) a h = h

  dref-plain : (k : Option Kind) (a : Core) → has_no_number a ≡ true → has_no_number (dref clafers scopes k a) ≡ true
  dref-plain (Some (kinds.Numbers ks)) a h = h
  dref-plain None a h = h
  dref-plain (Some kinds.Truth) a h = h
  dref-plain (Some kinds.Integer) a h = h
  dref-plain (Some (kinds.Nodes ks)) a h = h

  through-plain : (f : Bool) (a : Core) → has_no_number a ≡ true → has_no_number (through clafers scopes f a) ≡ true
  through-plain true a h = h
  through-plain false a h = h

  same-plain : (r : Option Reading) (k l : Option Kind) (a b : Core) → fit_reading clafers r k l ≡ true → (fits_number clafers k ≡ true → ⊥) → has_no_number a ≡ true → has_no_number b ≡ true
      → has_no_number (same clafers scopes r a b) ≡ true
  same-plain None k l a b f free h j = absurd (true≢false (sym f))
  same-plain (Some ByValues) k l a b f free h j = absurd (free (and_parts (fits_number clafers k) (fits_number clafers l) f).0)
  same-plain (Some (ByNodes x y)) k l a b f free h j =
      and_all (has_no_number (through clafers scopes x a)) (has_no_number (through clafers scopes y b)) (through-plain x a h) (through-plain y b j)

  part-plain : (r : Option Reading) (k l : Option Kind) (a b : Core) → fit_reading clafers r k l ≡ true → (fits_number clafers k ≡ true → ⊥) → has_no_number a ≡ true → has_no_number b ≡ true
      → has_no_number (part clafers scopes r a b) ≡ true
  part-plain None k l a b f free h j = absurd (true≢false (sym f))
  part-plain (Some ByValues) k l a b f free h j = absurd (free (and_parts (fits_number clafers k) (fits_number clafers l) f).0)
  part-plain (Some (ByNodes x y)) k l a b f free h j =
      and_all (has_no_number (through clafers scopes x a)) (has_no_number (through clafers scopes y b)) (through-plain x a h) (through-plain y b j)

  choice-plain : (kind k l : Option Kind) (z x y : Bounds) (t a b : Core) → is_no_number kind ≡ true → has_no_number t ≡ true → has_no_number a ≡ true → has_no_number b ≡ true
      → has_no_number (choice clafers scopes kind z k l x y t a b) ≡ true
  choice-plain (Some kinds.Truth) k l z x y t a b n h i j =
      and_all (has_no_number t) (has_no_number (as_truth k a) && has_no_number (as_truth l b)) h (and_all (has_no_number (as_truth k a)) (has_no_number (as_truth l b)) (truth-plain k a i) (truth-plain l b j))
  choice-plain (Some kinds.Integer) k l z x y t a b n h i j = absurd (true≢false (sym n))
  choice-plain None k l z x y t a b n h i j = and_all (has_no_number t) (has_no_number a && has_no_number b) h (and_all (has_no_number a) (has_no_number b) i j)
  choice-plain (Some (kinds.Nodes ks)) k l z x y t a b n h i j = and_all (has_no_number t) (has_no_number a && has_no_number b) h (and_all (has_no_number a) (has_no_number b) i j)
  choice-plain (Some (kinds.Numbers ks)) k l z x y t a b n h i j = absurd (true≢false (sym n))

  quant-plain : (v : Word) (disj : Bool) (n : ℕ) (over body : Core) → has_no_number over ≡ true → has_no_number body ≡ true → has_no_number (quant v disj n over body) ≡ true
  quant-plain word.All disj n over body h j = and_all (has_no_number over) (has_no_number body) h j
  quant-plain word.Some disj n over body h j = and_all (has_no_number over) (has_no_number body) h j
  quant-plain word.No disj n over body h j = and_all (has_no_number over) (has_no_number body) h j
  quant-plain word.One disj n over body h j = and_all (has_no_number over) (has_no_number body) h j
  quant-plain word.Lone disj n over body h j = and_all (has_no_number over) (has_no_number body) h j
  quant-plain _ disj n over body h j = refl

  -- an operand in integer position
  no-operand : (a : Tree) (w : Within) → no_integers clafers a w ≡ true → list_all some_clafer w.bound ≡ true → fits_number clafers (kind clafers a w) ≡ true → ⊥
  no-operand a w h b f = no-number (kind clafers a w) (plain-kind a w h) (kind-some a w h b) f

  no-order : (a b : Tree) (w : Within) → (no_integers clafers a w && no_integers clafers b w) ≡ true → list_all some_clafer w.bound ≡ true
      → ((is_typed clafers a w && fits_number clafers (kind clafers a w)) && (is_typed clafers b w && fits_number clafers (kind clafers b w))) ≡ true → ⊥
  no-order a b w h bound f =
      let i = and_parts (no_integers clafers a w) (no_integers clafers b w) h in
      let j = and_parts (is_typed clafers a w && fits_number clafers (kind clafers a w)) (is_typed clafers b w && fits_number clafers (kind clafers b w)) f in
      no-operand a w i.0 bound (and_parts (is_typed clafers a w) (fits_number clafers (kind clafers a w)) j.0).1

  connective : (a b : Tree) (w : Within) (g : List (List ℕ)) → (is_typed clafers a w && is_typed clafers b w && fits_truth (kind clafers a w) && fits_truth (kind clafers b w)) ≡ true
      → (no_integers clafers a w && no_integers clafers b w) ≡ true → list_all some_clafer w.bound ≡ true
      → (is_typed clafers a w ≡ true → no_integers clafers a w ≡ true → has_no_number (lowered clafers scopes a w g) ≡ true)
      → (is_typed clafers b w ≡ true → no_integers clafers b w ≡ true → has_no_number (lowered clafers scopes b w g) ≡ true)
      → (has_no_number (as_truth (kind clafers a w) (lowered clafers scopes a w g)) && has_no_number (as_truth (kind clafers b w) (lowered clafers scopes b w g))) ≡ true
  connective a b w g f h bound left right =
      let t = four (is_typed clafers a w) (is_typed clafers b w) (fits_truth (kind clafers a w)) (fits_truth (kind clafers b w)) f in
      let n = and_parts (no_integers clafers a w) (no_integers clafers b w) h in
      and_all (has_no_number (as_truth (kind clafers a w) (lowered clafers scopes a w g))) (has_no_number (as_truth (kind clafers b w) (lowered clafers scopes b w g)))
      (truth-plain (kind clafers a w) (lowered clafers scopes a w g) (left t.0 n.0)) (truth-plain (kind clafers b w) (lowered clafers scopes b w g) (right t.1 n.1))

  pub plain : (t : Tree) (w : Within) (g : List (List ℕ)) → is_typed clafers t w ≡ true → no_integers clafers t w ≡ true → list_all some_clafer w.bound ≡ true → has_no_number (lowered clafers scopes t w g) ≡ true
  plain (e.Literal _ n) w g f h bound = absurd (true≢false (sym h))
  plain (e.This _) w g f h bound = refl
  plain (e.Variable _ i) w g f h bound = refl
  plain (e.Clafer _ k) w g f h bound = refl
  plain (e.Name _ _) w g f h bound = refl
  plain (e.Join _ _ _) w g f h bound = refl
  plain (e.Step _ of into follow) w g f h bound =
      through-plain follow (lowered clafers scopes of w g) (plain of w g (and_parts (is_typed clafers of w) (fits_nodes (kind clafers of w)) f).0 (and_parts (some_clafer into) (no_integers clafers of w) h).1 bound)
  plain (e.Parent at a) w g f h bound = plain a w g (three (is_typed clafers a w) (fits_nodes (kind clafers a w)) (is_some (kind clafers (e.Parent at a) w)) f).0 h bound
  plain (e.Dref at a) w g f h bound =
      dref-plain (kind clafers (e.Dref at a) w) (lowered clafers scopes a w g)
      (plain a w g (three (is_typed clafers a w) (fits_nodes (kind clafers a w)) (is_some (kind clafers (e.Dref at a) w)) f).0 (and_parts (is_no_number (kind clafers (e.Dref at a) w)) (no_integers clafers a w) h).1 bound)
  plain (e.Union _ a b) w g f h bound =
      let t = four (is_typed clafers a w) (is_typed clafers b w) (fits_nodes (kind clafers a w)) (fits_nodes (kind clafers b w)) f in
      let n = and_parts (no_integers clafers a w) (no_integers clafers b w) h in
      and_all (has_no_number (lowered clafers scopes a w g)) (has_no_number (lowered clafers scopes b w g)) (plain a w g t.0 n.0 bound) (plain b w g t.1 n.1 bound)
  plain (e.Minus _ a b) w g f h bound =
      let t = three (is_typed clafers a w) (is_typed clafers b w) (fit_together clafers (kind clafers a w) (kind clafers b w)) f in
      let n = and_parts (no_integers clafers a w) (no_integers clafers b w) h in
      and_all (has_no_number (lowered clafers scopes a w g)) (has_no_number (lowered clafers scopes b w g)) (plain a w g t.0 n.0 bound) (plain b w g t.1 n.1 bound)
  plain (e.Meet _ a b) w g f h bound =
      let t = three (is_typed clafers a w) (is_typed clafers b w) (fit_together clafers (kind clafers a w) (kind clafers b w)) f in
      let n = and_parts (no_integers clafers a w) (no_integers clafers b w) h in
      and_all (has_no_number (lowered clafers scopes a w g)) (has_no_number (lowered clafers scopes b w g)) (plain a w g t.0 n.0 bound) (plain b w g t.1 n.1 bound)
  plain (e.If at t a b) w g f h bound =
      let k = kind clafers a w in let l = kind clafers b w in
      let i = and_parts (is_typed clafers t w && fits_truth (kind clafers t w) && is_typed clafers a w && is_typed clafers b w) (fit_choice clafers (kind clafers (e.If at t a b) w) k l) f in
      let j = four (is_typed clafers t w) (fits_truth (kind clafers t w)) (is_typed clafers a w) (is_typed clafers b w) i.0 in
      let m = and_parts (is_no_number (kind clafers (e.If at t a b) w)) (no_integers clafers t w && (no_integers clafers a w && no_integers clafers b w)) h in
      let n = and_parts (no_integers clafers t w) (no_integers clafers a w && no_integers clafers b w) m.1 in
      let o = and_parts (no_integers clafers a w) (no_integers clafers b w) n.1 in
      choice-plain (kind clafers (e.If at t a b) w) k l (interval clafers scopes (e.If at t a b) w) (interval clafers scopes a w) (interval clafers scopes b w) (as_truth (kind clafers t w) (lowered clafers scopes t w g))
      (lowered clafers scopes a w g) (lowered clafers scopes b w g) m.0 (truth-plain (kind clafers t w) (lowered clafers scopes t w g) (plain t w g j.0 n.0 bound)) (plain a w g j.2 o.0 bound) (plain b w g j.3 o.1 bound)
  plain (e.Not _ a) w g f h bound = truth-plain (kind clafers a w) (lowered clafers scopes a w g) (plain a w g (and_parts (is_typed clafers a w) (fits_truth (kind clafers a w)) f).0 h bound)
  plain (e.And _ a b) w g f h bound = connective a b w g f h bound (λ t n. plain a w g t n bound) (λ t n. plain b w g t n bound)
  plain (e.Or _ a b) w g f h bound = connective a b w g f h bound (λ t n. plain a w g t n bound) (λ t n. plain b w g t n bound)
  plain (e.Xor _ a b) w g f h bound = connective a b w g f h bound (λ t n. plain a w g t n bound) (λ t n. plain b w g t n bound)
  plain (e.Implies _ a b) w g f h bound = connective a b w g f h bound (λ t n. plain a w g t n bound) (λ t n. plain b w g t n bound)
  plain (e.Iff _ a b) w g f h bound = connective a b w g f h bound (λ t n. plain a w g t n bound) (λ t n. plain b w g t n bound)
  plain (e.Card _ a) w g f h bound = absurd (true≢false (sym h))
  plain (e.Sum _ a) w g f h bound = absurd (true≢false (sym h))
  plain (e.Neg _ a) w g f h bound = absurd (true≢false (sym h))
  plain (e.Add _ a b) w g f h bound = absurd (true≢false (sym h))
  plain (e.Sub _ a b) w g f h bound = absurd (true≢false (sym h))
  plain (e.Mul _ a b) w g f h bound = absurd (true≢false (sym h))
  plain (e.Less _ a b) w g f h bound = absurd (no-order a b w h bound f)
  plain (e.LessEqual _ a b) w g f h bound = absurd (no-order a b w h bound f)
  plain (e.Greater _ a b) w g f h bound = absurd (no-order a b w h bound f)
  plain (e.GreaterEqual _ a b) w g f h bound = absurd (no-order a b w h bound f)
  plain (e.Equal _ a b) w g f h bound =
      let k = kind clafers a w in let l = kind clafers b w in
      let t = three (is_typed clafers a w) (is_typed clafers b w) (fit_sides clafers k l) f in
      let n = and_parts (no_integers clafers a w) (no_integers clafers b w) h in
      same-plain (reading_of clafers k l) k l (lowered clafers scopes a w g) (lowered clafers scopes b w g) t.2 (no-operand a w n.0 bound) (plain a w g t.0 n.0 bound) (plain b w g t.1 n.1 bound)
  plain (e.In _ a b) w g f h bound =
      let k = kind clafers a w in let l = kind clafers b w in
      let t = three (is_typed clafers a w) (is_typed clafers b w) (fit_sides clafers k l) f in
      let n = and_parts (no_integers clafers a w) (no_integers clafers b w) h in
      part-plain (reading_of clafers k l) k l (lowered clafers scopes a w g) (lowered clafers scopes b w g) t.2 (no-operand a w n.0 bound) (plain a w g t.0 n.0 bound) (plain b w g t.1 n.1 bound)
  plain (e.Some _ a) w g f h bound = plain a w g (and_parts (is_typed clafers a w) (fits_nodes (kind clafers a w)) f).0 h bound
  plain (e.No _ a) w g f h bound = plain a w g (and_parts (is_typed clafers a w) (fits_nodes (kind clafers a w)) f).0 h bound
  plain (e.One _ a) w g f h bound = plain a w g (and_parts (is_typed clafers a w) (fits_nodes (kind clafers a w)) f).0 h bound
  plain (e.Lone _ a) w g f h bound = plain a w g (and_parts (is_typed clafers a w) (fits_nodes (kind clafers a w)) f).0 h bound
  plain (e.Quant _ v disj names over body) w g f h bound =
      let ks = clafers_of (kind clafers over w) in
      let inner = bind_kinds ks (length names) w in
      let lists = g ++ replicate (length names) (clafers_in (sort (lowered clafers scopes over w g))) in
      let t = four (is_typed clafers over w) (fits_nodes (kind clafers over w)) (is_typed clafers body inner) (fits_truth (kind clafers body inner)) f in
      let n = and_parts (no_integers clafers over w) (no_integers clafers body inner) h in
      quant-plain v disj (length names) (lowered clafers scopes over w g) (as_truth (kind clafers body inner) (lowered clafers scopes body inner lists)) (plain over w g t.0 n.0 bound)
      (truth-plain (kind clafers body inner) (lowered clafers scopes body inner lists)
      (plain body inner lists t.2 n.1 (list_all-append some_clafer w.bound (replicate (length names) ks)
      ∙ and_all (list_all some_clafer w.bound) (list_all some_clafer (replicate (length names) ks)) bound (copies-pass (length names) ks (nodes-some (kind clafers over w) t.1 (kind-some over w n.0 bound))))))
    where
      nodes-some : (k : Option Kind) → fits_nodes k ≡ true → has_clafer k ≡ true → some_clafer (clafers_of k) ≡ true
      nodes-some (Some (kinds.Nodes ks)) q s = s
      nodes-some None q s = absurd (true≢false (sym q))
      nodes-some (Some kinds.Truth) q s = absurd (true≢false (sym q))
      nodes-some (Some kinds.Integer) q s = absurd (true≢false (sym q))
      nodes-some (Some (kinds.Numbers ks)) q s = absurd (true≢false (sym q))

  pub law-plain : (l : Law) → is_typed_law clafers l ≡ true → no_integers_in clafers l ≡ true → has_no_number (lowered_law clafers scopes l) ≡ true
  law-plain (None, body) f h =
      let w = within_context None in
      let t = and_parts (is_typed clafers body w) (fits_truth (kind clafers body w)) f in
      truth-plain (kind clafers body w) (lowered clafers scopes body w []) (plain body w [] t.0 h refl)
  law-plain (Some k, body) f h =
      let w = within_context (Some k) in
      let t = and_parts (is_typed clafers body w) (fits_truth (kind clafers body w)) f in
      truth-plain (kind clafers body w) (lowered clafers scopes body w (lower.instances_of clafers scopes (k ∷ []) ∷ [])) (plain body w (lower.instances_of clafers scopes (k ∷ []) ∷ []) t.0 h refl)
