-- The literals of wires as unit clauses beside the clauses of a circuit.
use Rattle.std.proofs.Common.{◌≡◌, ℕ, ◌-◌, ◌*◌, ◌/◌, ◌%◌, Bool, true, false, ◌&&◌, ◌||◌, List, [], ◌∷◌, ◌++◌, length, map, take, refl, sym, ap, subst, ◌∙◌, arith}
use Rattle.std.specs.Prelude.{◌↔◌}
use Rattle.std.specs.List.{list_all}
use Rattle.std.proofs.lemmas.Bool.{false≢true}
use Rattle.std.proofs.Math.Seq.{take-append_seam}
use Rattle.std.proofs.lemmas.List.{length-append, length-map, get_or-map, get_or_append_left}
use Rattle.std.proofs.lemmas.List.Elements.{All-head, All-tail, All-nil, All-cons, All-append}
use Rattle.std.proofs.lemmas.List.Folds.{Any-from_list_any, list_any-from_Any}
use Rattle.bool_circuit.specs.declared.gate.Gate.{Gate}
use Rattle.bool_circuit.specs.declared.gate.Wire.{Wire}
use Rattle.bool_circuit.specs.Circuit.{input_wires, inputs, wire_value, wire_values, IsWireOf, AreWiresOf}
use Rattle.clause_encoder.specs.Encoding.{Encodes}
use Rattle.clause_store.specs.declared.clause.Literal.{Literal}
use Rattle.clause_store.specs.Satisfaction.{value_at, Satisfies, SatisfiesAll, IsAbove, IsSatisfiableAbove}
use Rattle.clause_store.specs.Store.{Store}
use Rattle.question_space.specs.Encoding.{literal_of}
use Rattle.question_space.specs.Posing.{IsSatisfiable, but_last, unit}

even_rest : (n : ℕ) → (2 * n) % 2 ≡ 0
even_rest n = omega arith

even_half : (n : ℕ) → (2 * n) / 2 ≡ n
even_half n = omega arith

-- the literal of a wire has the value of its variable
value_of : (v : ℕ → Bool) (w : Wire) → value_at v (literal_of w).code ≡ v w.number
value_of v w = rw (even_rest w.number, even_half w.number) refl

or_false : (x : Bool) → (x || false) ≡ x
or_false true = refl
or_false false = refl

unit_true : (v : ℕ → Bool) (l : Literal) → Satisfies v (unit l) → value_at v l.code ≡ true
unit_true v l h = sym (or_false (value_at v l.code)) ∙ list_any-from_Any (λ (m : Literal). value_at v m.code) (unit l) h

true_unit : (v : ℕ → Bool) (l : Literal) → value_at v l.code ≡ true → Satisfies v (unit l)
true_unit v l h = Any-from_list_any (λ (m : Literal). value_at v m.code) (unit l) (or_false (value_at v l.code) ∙ h)

-- a conjunction of two, and its sides
pub both : (a b : Bool) → a ≡ true → b ≡ true → (a && b) ≡ true
both a b e f = rw (e, f) refl

pub left : (a b : Bool) → (a && b) ≡ true → a ≡ true
left true b e = refl
left false b e = e

pub right : (a b : Bool) → (a && b) ≡ true → b ≡ true
right true b e = e
right false b e = absurd (false≢true e)

-- units of wires are satisfied exactly where each variable is true
units_true : (v : ℕ → Bool) (ws : List Wire) → SatisfiesAll v (map unit (map literal_of ws)) → list_all (λ w. v w.number) ws ≡ true
units_true v [] h = refl
units_true v (w ∷ ws) h =
    both (v w.number) (list_all (λ x. v x.number) ws)
    (sym (value_of v w) ∙ unit_true v (literal_of w) (All-head (Satisfies v) (unit (literal_of w)) (map unit (map literal_of ws)) h))
    (units_true v ws (All-tail (Satisfies v) (unit (literal_of w)) (map unit (map literal_of ws)) h))

true_units : (v : ℕ → Bool) (ws : List Wire) → list_all (λ w. v w.number) ws ≡ true → SatisfiesAll v (map unit (map literal_of ws))
true_units v [] h = All-nil (Satisfies v)
true_units v (w ∷ ws) h =
    All-cons (Satisfies v) (unit (literal_of w)) (map unit (map literal_of ws))
    (true_unit v (literal_of w) (value_of v w ∙ left (v w.number) (list_all (λ x. v x.number) ws) h))
    (true_units v ws (right (v w.number) (list_all (λ x. v x.number) ws) h))

-- where each variable has the value of its wire, all variables are true exactly where all wires are
values_agree : (gates : List Gate) (v : ℕ → Bool) (bits : List Bool) (ws : List Wire) → AreWiresOf gates ws
    → ((w : Wire) → IsWireOf gates w → v w.number ≡ wire_value gates w bits)
    → list_all (λ w. v w.number) ws ≡ list_all (λ b. b) (wire_values gates ws bits)
values_agree gates v bits [] known same = refl
values_agree gates v bits (w ∷ ws) known same =
    let here = same w (All-head (IsWireOf gates) w ws known) in
    let rest = values_agree gates v bits ws (All-tail (IsWireOf gates) w ws known) same in
    rw (here, rest) refl

-- an assignment is above the values that it gives
pub above_own : (v : ℕ → Bool) (variables : List ℕ) → IsAbove variables (map v variables) v
above_own v variables k inside = sym (get_or-map v variables k 0 false inside)

SatisfiesAll-front : (v : ℕ → Bool) (xs ys : List (List Literal)) → SatisfiesAll v (xs ++ ys) → SatisfiesAll v xs
SatisfiesAll-front v xs ys h k d inside =
    subst (Satisfies v) (get_or_append_left xs ys d k inside) (h k d (omega (arith, inside, length-append xs ys)))

SatisfiesAll-behind : (v : ℕ → Bool) (xs ys : List (List Literal)) → SatisfiesAll v (xs ++ ys) → SatisfiesAll v ys
SatisfiesAll-behind v [] ys h = h
SatisfiesAll-behind v (x ∷ xs) ys h = SatisfiesAll-behind v xs ys (All-tail (Satisfies v) x (xs ++ ys) h)

but_last-push : {X : Type 0} (xs : List X) (x : X) → but_last (xs ++ x ∷ []) ≡ xs
but_last-push xs x =
    let count : length (xs ++ x ∷ []) - 1 ≡ length xs = omega (arith, length-append xs (x ∷ [])) in
    ap (λ n. take n (xs ++ x ∷ [])) count ∙ take-append_seam xs (x ∷ [])

-- the clauses of the literals of wires
abbrev units_of : List Wire → List (List Literal)
units_of ws = map unit (map literal_of ws)

-- some bits at which each of some wires is true
pub record HoldSomewhere (gates : List Gate) (ws : List Wire) : Type 0 where
  pub bits : List Bool
  pub size : length bits ≡ inputs gates
  pub hold : list_all (λ b. b) (wire_values gates ws bits) ≡ true

-- the clauses of a circuit without the root's, with wires as units, can be satisfied exactly where some bits make all of them true
pub units_decide : (gates : List Gate) (root : Wire) (store : Store) (ws : List Wire) → Encodes gates root store → AreWiresOf gates ws
    → IsSatisfiable (but_last store.clauses ++ map unit (map literal_of ws)) ↔ HoldSomewhere gates ws
units_decide gates root store ws encodes known = (solved, found)
  where
    front_is : but_last store.clauses ≡ encodes.front
    front_is = ap but_last encodes.root_last ∙ but_last-push encodes.front (record { code = 2 * root.number } ∷ [])

    solved : IsSatisfiable (but_last store.clauses ++ units_of ws) → HoldSomewhere gates ws
    solved (v, all) =
        let bits = map v (input_wires gates) in
        let count : length bits ≡ inputs gates = length-map (input_wires gates) v in
        let whole : SatisfiesAll v (encodes.front ++ units_of ws) = subst (λ cs. SatisfiesAll v (cs ++ units_of ws)) front_is all in
        let same = encodes.only_values bits count v (above_own v (input_wires gates))
        (SatisfiesAll-front v encodes.front (units_of ws) whole) in
        record {
          bits = bits;
          size = count;
          hold = sym (values_agree gates v bits ws known same) ∙ units_true v ws (SatisfiesAll-behind v encodes.front (units_of ws) whole);
        }

    found : HoldSomewhere gates ws → IsSatisfiable (but_last store.clauses ++ units_of ws)
    found h = met (encodes.satisfiable h.bits h.size)
      where
        met : IsSatisfiableAbove (input_wires gates) h.bits encodes.front → IsSatisfiable (but_last store.clauses ++ units_of ws)
        met (v, above, all) =
            let same = encodes.only_values h.bits h.size v above all in
            let trues = true_units v ws (values_agree gates v h.bits ws known same ∙ h.hold) in (
              v,
              subst (λ cs. SatisfiesAll v (cs ++ units_of ws)) (sym front_is)
                  (All-append (Satisfies v) encodes.front (units_of ws) all trues),
            )
