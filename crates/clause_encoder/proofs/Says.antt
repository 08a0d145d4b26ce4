-- Clauses that come in, one after another.
use Rattle.std.proofs.Common.{◌≡◌, ℕ, ◌+◌, ◌*◌, ◌<◌, ◌/◌, ◌%◌, Bool, true, false, not, ◌&&◌, ◌||◌, if◌then◌else◌, List, [], ◌∷◌, ◌++◌, length, refl, sym, ap, ◌∙◌, subst, arith, Result, Ok, Err, OnOk}
use Rattle.std.specs.List.{All}
use Rattle.std.proofs.lemmas.List.{length_push}
use Rattle.std.proofs.lemmas.List.Elements.{All-nil, All-cons, All-push}
use Rattle.std.proofs.lemmas.List.Folds.{list_all-append}
use Rattle.std.proofs.lemmas.List.Kept.{AllPairs-cons}
use Rattle.bool_circuit.specs.declared.gate.Wire.{Wire}
use Rattle.bool_circuit.specs.declared.gate.Gate.{Gate}
use Rattle.bool_circuit.specs.declared.gate.Gate.TheVariants.{Not, And, Or, Xor, Choose}
use Rattle.bool_circuit.specs.Circuit.{bool_xor}
use Rattle.clause_store.specs.declared.clause.Literal.{Literal}
use Rattle.clause_store.specs.Literals.{IsAscending, HasVariablesBelow, variable_of}
use Rattle.clause_store.specs.Satisfaction.{value_at}
use Rattle.clause_store.specs.Store.{Store}
use Rattle.clause_encoder.specs.Encoding.{literal_value, clause_value, all_true, AreLiteralsOf, IsClauseOf, SaysMore, same_bool, is_gate_kept}

and_true : (x y : Bool) → (x && (y && true)) ≡ (x && y)
and_true true true = refl
and_true true false = refl
and_true false y = refl

or_false : (x : Bool) → (x || false) ≡ x
or_false true = refl
or_false false = refl

or_two : (x y : Bool) → (x || (y || false)) ≡ (x || y)
or_two true y = refl
or_two false true = refl
or_two false false = refl

or_three : (x y z : Bool) → (x || (y || (z || false))) ≡ ((x || y) || z)
or_three true y z = refl
or_three false true z = refl
or_three false false true = refl
or_three false false false = refl

-- ---- clauses of one, two and three literals

pub ascending_one : (a : Literal) → IsAscending (a ∷ [])
ascending_one a = λ i j d h l. absurd (omega arith)

pub ascending_two : (a b : Literal) → a.code < b.code → IsAscending (a ∷ b ∷ [])
ascending_two a b h = AllPairs-cons (λ x y. x.code < y.code) a (b ∷ []) (All-cons (λ y. a.code < y.code) b [] h (All-nil (λ y. a.code < y.code))) (ascending_one b)

pub ascending_three : (a b c : Literal) → a.code < b.code → b.code < c.code → IsAscending (a ∷ b ∷ c ∷ [])
ascending_three a b c h k =
    let far : a.code < c.code = omega arith in
    AllPairs-cons (λ x y. x.code < y.code) a (b ∷ c ∷ []) (All-cons (λ y. a.code < y.code) b (c ∷ []) h (All-cons (λ y. a.code < y.code) c [] far (All-nil (λ y. a.code < y.code)))) (ascending_two b c k)

below_one : (a : Literal) (n : ℕ) → a.code < 2 * n → HasVariablesBelow n (a ∷ [])
below_one a n h = All-cons (λ l. variable_of l < n) a [] (omega arith) (All-nil (λ l. variable_of l < n))

pub unit_clause : (a : Literal) (c : List Literal) → c ≡ a ∷ [] → IsClauseOf c a.code (λ v. literal_value v a)
unit_clause a c e = rw e (record { says = λ v. or_false (literal_value v a); below = λ n h. below_one a n h })

pub two_clause : (a b : Literal) (c : List Literal) → a.code < b.code → c ≡ a ∷ b ∷ [] → IsClauseOf c b.code (λ v. literal_value v a || literal_value v b)
two_clause a b c l e = rw e (record {
  says = λ v. or_two (literal_value v a) (literal_value v b);
  below = λ n h. All-cons (λ l. variable_of l < n) a (b ∷ []) (omega arith) (below_one b n h);
})

pub three_clause : (a b d : Literal) (c : List Literal) → a.code < b.code → b.code < d.code → c ≡ a ∷ b ∷ d ∷ [] → IsClauseOf c d.code (λ v. literal_value v a || literal_value v b || literal_value v d)
three_clause a b d c k l e = rw e (record {
  says = λ v. or_three (literal_value v a) (literal_value v b) (literal_value v d);
  below = λ n h. All-cons (λ l. variable_of l < n) a (b ∷ d ∷ []) (omega arith) (All-cons (λ l. variable_of l < n) b (d ∷ []) (omega arith) (below_one d n h));
})

-- ---- a clause at the end of a store

pub says_push : (old new : Store) (c : List Literal) (code : ℕ) (told : (ℕ → Bool) → Bool) → new.clauses ≡ old.clauses ++ c ∷ [] → new.live ≡ old.live ++ true ∷ [] → IsClauseOf c code told → SaysMore old new 1 code told
says_push old new c code told e live is = record {
  few = omega (arith, ap length e, length_push old.clauses c);
  says = λ v. ap (all_true v) e ∙ list_all-append (clause_value v) old.clauses (c ∷ []) ∙ and_true (all_true v old.clauses) (clause_value v c) ∙ ap (λ b. all_true v old.clauses && b) (is.says v);
  below = λ n h all. subst (λ cs. All (HasVariablesBelow n) cs) (sym e) (All-push (HasVariablesBelow n) old.clauses c all (is.below n h));
  live = λ all. subst (λ bs. All (λ b. b ≡ true) bs) (sym live) (All-push (λ b. b ≡ true) old.live true all refl);
}

-- the clauses of each operation, as a table
pub not_table : (o n x : Bool) → ((o && (x || x || n)) && (not x || not x || not n)) ≡ (o && same_bool n (not x))
not_table true true true = refl
not_table true true false = refl
not_table true false true = refl
not_table true false false = refl
not_table false n x = refl

pub and_table : (o n x y : Bool) → (((o && (x || x || not n)) && (y || y || not n)) && (not x || not y || n)) ≡ (o && same_bool n (x && y))
and_table true true true true = refl
and_table true true true false = refl
and_table true true false true = refl
and_table true true false false = refl
and_table true false true true = refl
and_table true false true false = refl
and_table true false false true = refl
and_table true false false false = refl
and_table false n x y = refl

pub or_table : (o n x y : Bool) → (((o && (not x || not x || n)) && (not y || not y || n)) && (x || y || not n)) ≡ (o && same_bool n (x || y))
or_table true true true true = refl
or_table true true true false = refl
or_table true true false true = refl
or_table true true false false = refl
or_table true false true true = refl
or_table true false true false = refl
or_table true false false true = refl
or_table true false false false = refl
or_table false n x y = refl

pub xor_table : (o n x y : Bool) → ((((o && (not x || not y || not n)) && (x || y || not n)) && (x || not y || n)) && (not x || y || n)) ≡ (o && same_bool n (bool_xor x y))
xor_table true true true true = refl
xor_table true true true false = refl
xor_table true true false true = refl
xor_table true true false false = refl
xor_table true false true true = refl
xor_table true false true false = refl
xor_table true false false true = refl
xor_table true false false false = refl
xor_table false n x y = refl

pub choose_table : (o n p x y : Bool) → ((((o && (not p || not x || n)) && (not p || x || not n)) && (p || not y || n)) && (p || y || not n)) ≡ (o && same_bool n (if p then x else y))
choose_table true true true true true = refl
choose_table true true true true false = refl
choose_table true true true false true = refl
choose_table true true true false false = refl
choose_table true true false true true = refl
choose_table true true false true false = refl
choose_table true true false false true = refl
choose_table true true false false false = refl
choose_table true false true true true = refl
choose_table true false true true false = refl
choose_table true false true false true = refl
choose_table true false true false false = refl
choose_table true false false true true = refl
choose_table true false false true false = refl
choose_table true false false false true = refl
choose_table true false false false false = refl
choose_table false n p x y = refl

-- ---- gates

both_and : (a b c d : Bool) → a ≡ b → c ≡ d → (a && c) ≡ (b && d)
both_and a b c d e f = cc

some_or : (a b c d e f : Bool) → a ≡ b → c ≡ d → e ≡ f → (a || c || e) ≡ (b || d || f)
some_or a b c d e f p q r = cc

pub not_says : (s0 s1 s2 : Store) (n : ℕ) (g : Gate) (a : Wire) (own pa : Literal × Literal) → g ≡ Not a → AreLiteralsOf own n → AreLiteralsOf pa a.number
    → SaysMore s0 s1 1 own.0.code (λ v. literal_value v pa.0 || literal_value v pa.0 || literal_value v own.0)
    → SaysMore s1 s2 1 own.1.code (λ v. literal_value v pa.1 || literal_value v pa.1 || literal_value v own.1)
    → SaysMore s0 s2 4 (2 * n + 1) (λ v. is_gate_kept v n g)
not_says s0 s1 s2 n g a own pa e own_is pa_is m1 m2 = record {
  few = omega (arith, m1.few, m2.few);
  says = λ v. m2.says v ∙ both_and _ _ _ _ (m1.says v ∙ both_and _ _ _ _ refl (some_or _ _ _ _ _ _ (pa_is.on v) (pa_is.on v) (own_is.on v))) (some_or _ _ _ _ _ _ (pa_is.off v) (pa_is.off v) (own_is.off v)) ∙ not_table (all_true v s0.clauses) (v n) (v a.number) ∙ ap (λ h. all_true v s0.clauses && is_gate_kept v n h) (sym e);
  below = λ k h all. m2.below k (omega (arith, own_is.off_code, h)) (m1.below k (omega (arith, own_is.on_code, h)) all);
  live = λ all. m2.live (m1.live all);
}

pub and_says : (s0 s1 s2 s3 : Store) (n : ℕ) (g : Gate) (a b : Wire) (own pa pb : Literal × Literal) → g ≡ And a b → AreLiteralsOf own n → AreLiteralsOf pa a.number → AreLiteralsOf pb b.number
    → SaysMore s0 s1 1 own.1.code (λ v. literal_value v pa.0 || literal_value v pa.0 || literal_value v own.1)
    → SaysMore s1 s2 1 own.1.code (λ v. literal_value v pb.0 || literal_value v pb.0 || literal_value v own.1)
    → SaysMore s2 s3 1 own.0.code (λ v. literal_value v pa.1 || literal_value v pb.1 || literal_value v own.0)
    → SaysMore s0 s3 4 (2 * n + 1) (λ v. is_gate_kept v n g)
and_says s0 s1 s2 s3 n g a b own pa pb e own_is pa_is pb_is m1 m2 m3 = record {
  few = omega (arith, m1.few, m2.few, m3.few);
  says = λ v. m3.says v ∙ both_and _ _ _ _ (m2.says v ∙ both_and _ _ _ _ (m1.says v ∙ both_and _ _ _ _ refl (some_or _ _ _ _ _ _ (pa_is.on v) (pa_is.on v) (own_is.off v))) (some_or _ _ _ _ _ _ (pb_is.on v) (pb_is.on v) (own_is.off v))) (some_or _ _ _ _ _ _ (pa_is.off v) (pb_is.off v) (own_is.on v)) ∙ and_table (all_true v s0.clauses) (v n) (v a.number) (v b.number) ∙ ap (λ h. all_true v s0.clauses && is_gate_kept v n h) (sym e);
  below = λ k h all. m3.below k (omega (arith, own_is.on_code, h)) (m2.below k (omega (arith, own_is.off_code, h)) (m1.below k (omega (arith, own_is.off_code, h)) all));
  live = λ all. m3.live (m2.live (m1.live all));
}

pub or_says : (s0 s1 s2 s3 : Store) (n : ℕ) (g : Gate) (a b : Wire) (own pa pb : Literal × Literal) → g ≡ Or a b → AreLiteralsOf own n → AreLiteralsOf pa a.number → AreLiteralsOf pb b.number
    → SaysMore s0 s1 1 own.0.code (λ v. literal_value v pa.1 || literal_value v pa.1 || literal_value v own.0)
    → SaysMore s1 s2 1 own.0.code (λ v. literal_value v pb.1 || literal_value v pb.1 || literal_value v own.0)
    → SaysMore s2 s3 1 own.1.code (λ v. literal_value v pa.0 || literal_value v pb.0 || literal_value v own.1)
    → SaysMore s0 s3 4 (2 * n + 1) (λ v. is_gate_kept v n g)
or_says s0 s1 s2 s3 n g a b own pa pb e own_is pa_is pb_is m1 m2 m3 = record {
  few = omega (arith, m1.few, m2.few, m3.few);
  says = λ v. m3.says v ∙ both_and _ _ _ _ (m2.says v ∙ both_and _ _ _ _ (m1.says v ∙ both_and _ _ _ _ refl (some_or _ _ _ _ _ _ (pa_is.off v) (pa_is.off v) (own_is.on v))) (some_or _ _ _ _ _ _ (pb_is.off v) (pb_is.off v) (own_is.on v))) (some_or _ _ _ _ _ _ (pa_is.on v) (pb_is.on v) (own_is.off v)) ∙ or_table (all_true v s0.clauses) (v n) (v a.number) (v b.number) ∙ ap (λ h. all_true v s0.clauses && is_gate_kept v n h) (sym e);
  below = λ k h all. m3.below k (omega (arith, own_is.off_code, h)) (m2.below k (omega (arith, own_is.on_code, h)) (m1.below k (omega (arith, own_is.on_code, h)) all));
  live = λ all. m3.live (m2.live (m1.live all));
}

pub xor_says : (s0 s1 s2 s3 s4 : Store) (n : ℕ) (g : Gate) (a b : Wire) (own pa pb : Literal × Literal) → g ≡ Xor a b → AreLiteralsOf own n → AreLiteralsOf pa a.number → AreLiteralsOf pb b.number
    → SaysMore s0 s1 1 own.1.code (λ v. literal_value v pa.1 || literal_value v pb.1 || literal_value v own.1)
    → SaysMore s1 s2 1 own.1.code (λ v. literal_value v pa.0 || literal_value v pb.0 || literal_value v own.1)
    → SaysMore s2 s3 1 own.0.code (λ v. literal_value v pa.0 || literal_value v pb.1 || literal_value v own.0)
    → SaysMore s3 s4 1 own.0.code (λ v. literal_value v pa.1 || literal_value v pb.0 || literal_value v own.0)
    → SaysMore s0 s4 4 (2 * n + 1) (λ v. is_gate_kept v n g)
xor_says s0 s1 s2 s3 s4 n g a b own pa pb e own_is pa_is pb_is m1 m2 m3 m4 = record {
  few = omega (arith, m1.few, m2.few, m3.few, m4.few);
  says = λ v. m4.says v ∙ both_and _ _ _ _ (m3.says v ∙ both_and _ _ _ _ (m2.says v ∙ both_and _ _ _ _ (m1.says v ∙ both_and _ _ _ _ refl (some_or _ _ _ _ _ _ (pa_is.off v) (pb_is.off v) (own_is.off v))) (some_or _ _ _ _ _ _ (pa_is.on v) (pb_is.on v) (own_is.off v))) (some_or _ _ _ _ _ _ (pa_is.on v) (pb_is.off v) (own_is.on v))) (some_or _ _ _ _ _ _ (pa_is.off v) (pb_is.on v) (own_is.on v)) ∙ xor_table (all_true v s0.clauses) (v n) (v a.number) (v b.number) ∙ ap (λ h. all_true v s0.clauses && is_gate_kept v n h) (sym e);
  below = λ k h all. m4.below k (omega (arith, own_is.on_code, h)) (m3.below k (omega (arith, own_is.on_code, h)) (m2.below k (omega (arith, own_is.off_code, h)) (m1.below k (omega (arith, own_is.off_code, h)) all)));
  live = λ all. m4.live (m3.live (m2.live (m1.live all)));
}

pub choose_says : (s0 s1 s2 s3 s4 : Store) (n : ℕ) (g : Gate) (p a b : Wire) (own pp pa pb : Literal × Literal) → g ≡ Choose p a b → AreLiteralsOf own n → AreLiteralsOf pp p.number → AreLiteralsOf pa a.number → AreLiteralsOf pb b.number
    → SaysMore s0 s1 1 own.0.code (λ v. literal_value v pp.1 || literal_value v pa.1 || literal_value v own.0)
    → SaysMore s1 s2 1 own.1.code (λ v. literal_value v pp.1 || literal_value v pa.0 || literal_value v own.1)
    → SaysMore s2 s3 1 own.0.code (λ v. literal_value v pp.0 || literal_value v pb.1 || literal_value v own.0)
    → SaysMore s3 s4 1 own.1.code (λ v. literal_value v pp.0 || literal_value v pb.0 || literal_value v own.1)
    → SaysMore s0 s4 4 (2 * n + 1) (λ v. is_gate_kept v n g)
choose_says s0 s1 s2 s3 s4 n g p a b own pp pa pb e own_is pp_is pa_is pb_is m1 m2 m3 m4 = record {
  few = omega (arith, m1.few, m2.few, m3.few, m4.few);
  says = λ v. m4.says v ∙ both_and _ _ _ _ (m3.says v ∙ both_and _ _ _ _ (m2.says v ∙ both_and _ _ _ _ (m1.says v ∙ both_and _ _ _ _ refl (some_or _ _ _ _ _ _ (pp_is.off v) (pa_is.off v) (own_is.on v))) (some_or _ _ _ _ _ _ (pp_is.off v) (pa_is.on v) (own_is.off v))) (some_or _ _ _ _ _ _ (pp_is.on v) (pb_is.off v) (own_is.on v))) (some_or _ _ _ _ _ _ (pp_is.on v) (pb_is.on v) (own_is.off v)) ∙ choose_table (all_true v s0.clauses) (v n) (v p.number) (v a.number) (v b.number) ∙ ap (λ h. all_true v s0.clauses && is_gate_kept v n h) (sym e);
  below = λ k h all. m4.below k (omega (arith, own_is.off_code, h)) (m3.below k (omega (arith, own_is.on_code, h)) (m2.below k (omega (arith, own_is.off_code, h)) (m1.below k (omega (arith, own_is.on_code, h)) all)));
  live = λ all. m4.live (m3.live (m2.live (m1.live all)));
}

-- what holds where a call was Ok leads to what holds there
pub on_ok : {T E : Type 0} (r : Result T E) (P Q : Type 0) → (P → Q) → OnOk r P → OnOk r Q
on_ok (Ok x) P Q f h = f h
on_ok (Err e) P Q f h = h

-- ---- the literals of a wire

even_rest : (n : ℕ) → (2 * n) % 2 ≡ 0
even_rest n = omega arith

odd_rest : (n : ℕ) → (2 * n + 1) % 2 ≡ 1
odd_rest n = omega arith

even_half : (n : ℕ) → (2 * n) / 2 ≡ n
even_half n = omega arith

odd_half : (n : ℕ) → (2 * n + 1) / 2 ≡ n
odd_half n = omega arith

value_at-even : (v : ℕ → Bool) (n : ℕ) → value_at v (2 * n) ≡ v n
value_at-even v n = rw (even_rest n, even_half n) refl

value_at-odd : (v : ℕ → Bool) (n : ℕ) → value_at v (2 * n + 1) ≡ not (v n)
value_at-odd v n = rw (odd_rest n, odd_half n) refl

pub literals_are : (own : Literal × Literal) (wire : ℕ) → own.0.code ≡ 2 * wire + (if true then 0 else 1) → own.1.code ≡ 2 * wire + (if false then 0 else 1) → AreLiteralsOf own wire
literals_are own wire on off =
    let on_code : own.0.code ≡ 2 * wire = omega (arith, on) in
    record {
      on_code = on_code;
      off_code = off;
      on = λ v. ap (value_at v) on_code ∙ value_at-even v wire;
      off = λ v. ap (value_at v) off ∙ value_at-odd v wire;
    }
