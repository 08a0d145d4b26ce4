-- What a search's parts say of the clauses that its callers see.
use Rattle.std.proofs.Common.{ℕ, suc, Bool, true, false, [], ◌∷◌, ◌++◌, ◌≡◌, ◌+◌, ◌-◌, ◌*◌, ◌/◌, ◌%◌, ◌<◌, ◌==◌, ◌||◌, List, All, Any, length, get_or, take, map, inl, inr, arith, refl, ap, sym, ◌∙◌, subst, length-append, get_or-append-add, length-take, get_or-take, zero-add}
use Rattle.std.proofs.lemmas.Bool.{cases_eq, false≢true, eq-eqb}
use Rattle.std.proofs.lemmas.Bool.Decides.{nat_tests}
use Rattle.std.proofs.lemmas.List.{length-map, take-map, get_or-map}
use Rattle.std.proofs.lemmas.List.Elements.{All-get_or, All-from_get_or}
use Rattle.std.proofs.lemmas.List.Quantifiers.{Any-push}
use Rattle.clause_store.specs.declared.clause.Literal.{Literal}
use Rattle.clause_store.specs.declared.derivation.Chain.{Chain}
use Rattle.clause_store.specs.Literals.{literals_of, variable_of, HasVariablesBelow}
use Rattle.clause_store.specs.Satisfaction.{value_at, Satisfies, SatisfiesAll}
use Rattle.clause_store.specs.Store.{clause_at}
use Rattle.clause_store.specs.Resolution.{known_clauses, Refutes}
use Rattle.cdcl_search.specs.Literals.{flip}
use Rattle.cdcl_search.specs.Derivations.{IsClauseOf, IsNamed, clause_of, codes_of}
use Rattle.cdcl_search.specs.States.{AreWithin}
use Rattle.cdcl_search.specs.Runs.{IsWhole, given_clauses, IsFresh, AreFresh, AreSatisfied, IsEnded, IsLonger}
use Rattle.cdcl_search.specs.Progress.{assignment_of, results_of, IsNewClause, AreNewResults, EndsEmpty, Continues, IsRunEnded}
use Rattle.cdcl_search.specs.declared.engine.Ended.TheVariants.{Refuted, Spent}
use Rattle.cdcl_search.specs.declared.engine.Engine.{Engine}
use Rattle.cdcl_search.proofs.Members.{Has-at, Has-index}
use Rattle.cdcl_search.proofs.Flips.{flip_positive, flip-odd}
use Rattle.cdcl_search.proofs.State_steps.{has_below}

-- a clause's codes give the clause again
clause_back : (c : List Literal) → clause_of (codes_of c) ≡ c
clause_back [] = refl
clause_back (l ∷ c) = ap (λ rest. l ∷ rest) (clause_back c)

pub clauses_back : (cs : List (List Literal)) → map clause_of (map codes_of cs) ≡ cs
clauses_back [] = refl
clauses_back (c ∷ cs) = ap (λ d. d ∷ map clause_of (map codes_of cs)) (clause_back c) ∙ ap (λ rest. c ∷ rest) (clauses_back cs)

code_at : (c : List Literal) (j : ℕ) (d : Literal) → j < length c → get_or (codes_of c) j 0 ≡ (get_or c j d).code
code_at c j d h = get_or-map (λ (l : Literal). l.code) c j d 0 h

-- the codes of clauses are below twice what their variables are below
pub loaded_within : (cs : List (List Literal)) (n : ℕ) → All (HasVariablesBelow n) cs → AreWithin (map codes_of cs) n
loaded_within cs n all i h j k =
    let within : i < length cs = omega (arith, length-map cs codes_of) in
    let e : get_or (map codes_of cs) i [] ≡ codes_of (get_or cs i []) = get_or-map codes_of cs i [] [] within in
    let m : j < length (codes_of (get_or cs i [])) = rw (← e) k in
    let b : j < length (get_or cs i []) = omega (arith, length-map (get_or cs i []) (λ (l : Literal). l.code)) in
    let o : Literal = record { code = 0 } in
    let v = All-get_or (HasVariablesBelow n) cs i [] within all j o b in
    rw (e, code_at (get_or cs i []) j o b) (omega (arith, v))

-- as many clauses have a number as the arena has
pub arena_length : (s : Engine) → IsWhole s → length s.arena ≡ length (given_clauses s) + length s.chains.items
arena_length s w = w.named.as_many ∙ length-append (given_clauses s) (results_of s.chains.items) ∙ ap (λ n. length (given_clauses s) + n) (length-map s.chains.items (λ (c : Chain). c.result))

ends_empty_any : (chains : List Chain) → EndsEmpty chains → Any (λ (c : Chain). c.result ≡ []) chains
ends_empty_any chains e = rw e.2 (Any-push (λ (c : Chain). c.result ≡ []) e.0 e.1 e.3)

pub refutes_whole : (s : Engine) → IsWhole s → EndsEmpty s.chains.items → Refutes (given_clauses s) s.chains.items
refutes_whole s w e = record { lawful = w.lawful; empty = ends_empty_any s.chains.items e }

take_past : {X : Type 0} (xs ys : List X) (n : ℕ) → take (length xs + n) (xs ++ ys) ≡ xs ++ take n ys
take_past [] ys n = rw (zero-add n) refl
take_past (x ∷ xs) ys n =
    let e : suc (length xs) + n ≡ suc (length xs + n) = omega arith in
    rw e (ap (λ rest. x ∷ rest) (take_past xs ys n))

-- the clause with a number among those before the results of later chains
known_take : (given : List (List Literal)) (chains : List Chain) (j : ℕ) → known_clauses given (take j chains) ≡ take (length given + j) (known_clauses given chains)
known_take given chains j = ap (λ rest. given ++ rest) (sym (take-map (λ (c : Chain). c.result) j chains)) ∙ sym (take_past given (results_of chains) j)

first_there : (x y : Bool) → x ≡ true → (x || y) ≡ true
first_there x y e = rw e refl

new_result : (store : List (List ℕ)) (given : List (List Literal)) (chains : List Chain) (j : ℕ) → IsNamed store (known_clauses given chains) → j < length chains → IsFresh store (length given + j)
    → IsNewClause (known_clauses given (take j chains)) (clause_at (results_of chains) j)
new_result store given chains j n h f =
    let known = known_clauses given chains in
    let i = length given + j in
    let results = results_of chains in
    let many : length store ≡ length given + length chains = n.as_many ∙ length-append given results ∙ ap (λ m. length given + m) (length-map chains (λ (c : Chain). c.result)) in
    let b : i < length store = omega (arith, many) in
    let e : clause_at known i ≡ clause_at results j = get_or-append-add given results j [] in
    let codes = get_or store i [] in
    let same : IsClauseOf codes (clause_at results j) = rw (← e) (n.same i b) in
    record {
      some = λ z.
          let first = (same (get_or codes 0 0)).0 (Has-at codes 0 f.some) in
          false≢true (rw z at first);
      no_tautology = λ t. f.no_tautology (2 * t.0) ((same (2 * t.0)).1 t.1) (rw (flip_positive t.0) ((same (2 * t.0 + 1)).1 t.2));
      not_known = λ k h q.
          let before : known_clauses given (take j chains) ≡ take i known = known_take given chains j in
          let short = length-take i known in
          let low : k < i = omega (arith, rw before at h) in
          let low_store : k < length store = omega arith in
          let low_take : k < length (take i store) = rw (length-take i store) (omega arith) in
          let at : clause_at (known_clauses given (take j chains)) k ≡ clause_at known k = ap (λ xs. get_or xs k []) before ∙ get_or-take i known k [] low in
          let there : IsClauseOf (get_or store k []) (clause_at known k) = n.same k low_store in
          let alike : (code : ℕ) → literals_of (clause_at known k) code ≡ literals_of (clause_at results j) code = λ code. ap (λ c. literals_of c code) (sym at) ∙ q code in
          f.new k low_take (rw (get_or-take i store k [] low) (λ l. (
            (λ x. (same l).1 (sym (alike l) ∙ (there l).0 x)),
            (λ x. (there l).1 (alike l ∙ (same l).0 x)),
          )));
    }

-- a clause without codes is empty
empty_clause : (c : List Literal) → IsClauseOf [] c → c ≡ []
empty_clause [] h = refl
empty_clause (l ∷ c) h = absurd ((h l.code).1 (first_there (l.code == l.code) (literals_of c l.code) (eq-eqb l.code l.code refl)))

empty_result : (store : List (List ℕ)) (given : List (List Literal)) (chains : List Chain) (j : ℕ) → IsNamed store (known_clauses given chains) → j < length chains → get_or store (length given + j) [] ≡ []
    → clause_at (results_of chains) j ≡ []
empty_result store given chains j n h z =
    let results = results_of chains in
    let many : length store ≡ length given + length chains = n.as_many ∙ length-append given results ∙ ap (λ m. length given + m) (length-map chains (λ (c : Chain). c.result)) in
    let e : clause_at (known_clauses given chains) (length given + j) ≡ clause_at results j = get_or-append-add given results j [] in
    let same : IsClauseOf (get_or store (length given + j) []) (clause_at results j) = rw (← e) (n.same (length given + j) (omega (arith, many))) in
    empty_clause (clause_at results j) (rw z at same)

pub continued : (old new : Engine) (p q : Bool) → IsWhole old → IsWhole new → given_clauses new ≡ given_clauses old → IsLonger old.arena old.chains.items new.arena new.chains.items
    → Continues (record { given = given_clauses old; chains = old.chains.items; is_satisfied = p }) (record { given = given_clauses new; chains = new.chains.items; is_satisfied = q })
continued old new p q w v g l =
    let before = arena_length old w in
    let after = arena_length new v in
    let same = ap length g in
    record {
      more = l.more;
      grown = l.grown;
      each = λ j a h. elim (l.each (length (given_clauses new) + j) (omega (arith, before, same, a)) (omega (arith, after, h))) [
        | inl x ↦ inl (new_result new.arena (given_clauses new) new.chains.items j v.named h x)
        | inr x ↦ inr (empty_result new.arena (given_clauses new) new.chains.items j v.named h x)
      ];
    }

pub new_results : (s : Engine) (from : ℕ) → IsWhole s → AreFresh (length (given_clauses s) + from) s.arena → AreNewResults (given_clauses s) from s.chains.items
new_results s from w f j a h =
    let many = arena_length s w in
    new_result s.arena (given_clauses s) s.chains.items j w.named h (f (length (given_clauses s) + j) (omega arith) (omega arith))

-- what the ends mean for a caller
pub run_refuted : (old new : Engine) (budget : ℕ) (p q : Bool) → IsWhole new → IsEnded old new budget Refuted
    → IsRunEnded (record { given = given_clauses old; chains = old.chains.items; is_satisfied = p }) (record { given = given_clauses new; chains = new.chains.items; is_satisfied = q }) budget Refuted
run_refuted old new budget p q v e = (refutes_whole new v e, e)

pub run_spent : (old new : Engine) (budget : ℕ) (p q : Bool) → IsWhole old → IsWhole new → given_clauses new ≡ given_clauses old → IsEnded old new budget Spent
    → IsRunEnded (record { given = given_clauses old; chains = old.chains.items; is_satisfied = p }) (record { given = given_clauses new; chains = new.chains.items; is_satisfied = q }) budget Spent
run_spent old new budget p q w v g e =
    let before = arena_length old w in
    let after = arena_length new v in
    let same = ap length g in
    let many : length old.arena ≡ length (given_clauses new) + length old.chains.items = omega arith in
    (omega (arith, before, after, same, e.0), new_results new (length old.chains.items) v (subst (λ n. AreFresh n new.arena) many e.1))

-- a value of a literal
value_even : (values : List Bool) (l : ℕ) → l % 2 ≡ 0 → get_or values (l / 2) false ≡ true → value_at (assignment_of values) l ≡ true
value_even values l e h = rw e h

value_odd : (values : List Bool) (l : ℕ) → l % 2 ≡ 1 → get_or values (l / 2) false ≡ false → value_at (assignment_of values) l ≡ true
value_odd values l e h = rw (e, h) refl

-- the values of the variables, read off those of the literals
pub record AreValues (literals : List ℕ) (n : ℕ) (values : List Bool) : Type 0 where
  pub as_many : length values ≡ n
  pub each : (k : ℕ) → k < n → get_or values k false ≡ (get_or literals (2 * k) 0 == 1)

true_literal : (s : Engine) (values : List Bool) (l : ℕ) → IsWhole s → AreValues s.trail.values.items (length s.trail.literals.items) values → l < 2 * length s.trail.literals.items → get_or s.trail.values.items l 0 ≡ 1
    → value_at (assignment_of values) l ≡ true
true_literal s values l w v b h =
    let half : l / 2 < length s.trail.literals.items = omega arith in
    let each = v.each (l / 2) half in
    elim (cases_eq (l % 2) 0) [
      | inl e ↦
          let d : 2 * (l / 2) ≡ l = omega arith in
          let here : get_or s.trail.values.items (2 * (l / 2)) 0 ≡ 1 = rw d h in
          value_even values l e (each ∙ grind (arith, nat_tests, here))
      | inr e ↦
          let d : 2 * (l / 2) ≡ l - 1 = omega arith in
          let o : get_or s.trail.values.items (flip l) 0 ≡ 2 = w.state.search.trail.true_opposite l h in
          let here : get_or s.trail.values.items (2 * (l / 2)) 0 ≡ 2 = rw (d, ← flip-odd l e) o in
          value_odd values l (omega arith) (each ∙ grind (arith, nat_tests, here))
    ]

clause_satisfied : (s : Engine) (values : List Bool) (i : ℕ) → IsWhole s → AreSatisfied s.arena s.trail.values.items → AreValues s.trail.values.items (length s.trail.literals.items) values → i < length s.arena
    → Satisfies (assignment_of values) (clause_of (get_or s.arena i []))
clause_satisfied s values i w a v h =
    let r = a i h in
    let codes = get_or s.arena i [] in
    let k = Has-index codes r.0 r.1 in
    let b : r.0 < 2 * length s.trail.literals.items = has_below s.arena (length s.trail.literals.items) i r.0 w.state.within h r.1 in
    let x : Literal = record { code = r.0 } in
    let there : get_or (clause_of codes) k.0 x ≡ x = get_or-map (λ (n : ℕ). let l : Literal = record { code = n } in l) codes k.0 0 x k.1 ∙ ap (λ (n : ℕ). let l : Literal = record { code = n } in l) k.2 in
    (k.0, x, rw (length-map codes (λ (n : ℕ). let l : Literal = record { code = n } in l)) k.1, there, true_literal s values r.0 w v b r.2)

pub all_satisfied : (s : Engine) (values : List Bool) → IsWhole s → AreSatisfied s.arena s.trail.values.items → AreValues s.trail.values.items (length s.trail.literals.items) values → SatisfiesAll (assignment_of values) (given_clauses s)
all_satisfied s values w a v = All-from_get_or (Satisfies (assignment_of values)) (given_clauses s) [] (λ i h.
    let front = take s.given s.arena in
    let short = length-take s.given s.arena in
    let m : i < length front = rw (length-map front clause_of) at h in
    let low : i < s.given = omega (arith, m) in
    let e : get_or (given_clauses s) i [] ≡ clause_of (get_or s.arena i []) = get_or-map clause_of front i [] [] m ∙ ap clause_of (get_or-take s.given s.arena i [] low) in
    rw e (clause_satisfied s values i w a v (omega (arith, w.given))))

-- codes below twice a number are of variables below it
codes_below : (codes : List ℕ) (n : ℕ) → ((j : ℕ) → j < length codes → get_or codes j 0 < 2 * n) → HasVariablesBelow n (clause_of codes)
codes_below codes n below = All-from_get_or (λ l. variable_of l < n) (clause_of codes) (record { code = 0 }) (λ j h.
    let literal : ℕ → Literal = λ c. record { code = c } in
    let k : j < length codes = rw (length-map codes literal) at h in
    let o : Literal = record { code = 0 } in
    let e : get_or (clause_of codes) j o ≡ record { code = get_or codes j 0 } = get_or-map literal codes j 0 o k in
    let b = below j k in
    rw e (omega (arith, b)))

-- the given clauses are of the search's variables
pub given_within : (s : Engine) (n : ℕ) → IsWhole s → n ≡ length s.trail.literals.items → All (HasVariablesBelow n) (given_clauses s)
given_within s n w many = All-from_get_or (HasVariablesBelow n) (given_clauses s) [] (λ i h.
    let front = take s.given s.arena in
    let short = length-take s.given s.arena in
    let m : i < length front = rw (length-map front clause_of) at h in
    let low : i < s.given = omega (arith, m) in
    let there : i < length s.arena = omega (arith, low, w.given) in
    let e : get_or (given_clauses s) i [] ≡ clause_of (get_or s.arena i []) = get_or-map clause_of front i [] [] m ∙ ap clause_of (get_or-take s.given s.arena i [] low) in
    rw e (codes_below (get_or s.arena i []) n (λ j k. let b = w.state.within i there j k in omega (arith, b, many))))
