-- A lawful chain speaks of no variable that the given clauses don't have.
use Rattle.std.proofs.Common.{ℕ, Bool, true, false, not, [], ◌∷◌, ◌++◌, ◌≡◌, ◌+◌, ◌*◌, ◌/◌, ◌<◌, ◌⊎◌, ◌||◌, ◌&&◌, ◌==◌, List, All, get_or, inl, inr, arith, refl, ◌∙◌}
use Rattle.std.proofs.lemmas.Bool.{false≢true}
use Rattle.std.proofs.lemmas.Bool.Decides.{nat_tests}
use Rattle.std.proofs.lemmas.List.Folds.{list_any_at, Any-from_list_any}
use Rattle.std.proofs.lemmas.List.Elements.{All-nil, All-cons, All-push, All-get_or}
use Rattle.clause_store.specs.declared.clause.Literal.{Literal}
use Rattle.clause_store.specs.declared.derivation.Step.{Step}
use Rattle.clause_store.specs.declared.derivation.Chain.{Chain}
use Rattle.clause_store.specs.Literals.{LiteralSet, literals_of, HasVariablesBelow}
use Rattle.clause_store.specs.Store.{clause_at}
use Rattle.clause_store.specs.Resolution.{Clashes, resolvent, ResolvesTo, IsLawfulChain, IsLawful}
use Rattle.proof_checker.specs.Checking.{IsChainWithin, IsWithin}

-- each literal of the set has a variable below a number
abbrev pub IsBelow : ℕ → LiteralSet → Type 0
IsBelow n s = (code : ℕ) → s code ≡ true → code / 2 < n

pub clause_below : (n : ℕ) (c : List Literal) → HasVariablesBelow n c → IsBelow n (literals_of c)
clause_below n c all code h =
    let a = Any-from_list_any (λ (l : Literal). l.code == code) c h in
    let e : a.1.code ≡ code = grind (arith, nat_tests) in
    let b = all a.0 a.1 a.2 in
    rw (← e) (rw a.3 at b)

below_clause : (n : ℕ) (c : List Literal) → IsBelow n (literals_of c) → HasVariablesBelow n c
below_clause n c b k d h =
    let l = get_or c k d in
    b l.code (list_any_at (λ (m : Literal). m.code == l.code) c k d h (grind (arith, nat_tests)))

either : (x y z : Bool) → ((x || y) && z) ≡ true → (x ≡ true) ⊎ (y ≡ true)
either true y z e = inl refl
either false true z e = inr refl
either false false z e = absurd (false≢true e)

resolvent_below : (n : ℕ) (c d : LiteralSet) (p : ℕ) → IsBelow n c → IsBelow n d → IsBelow n (resolvent c d p)
resolvent_below n c d p a b code h = elim (either (c code) (d code) (not (code / 2 == p)) h) [ inl x ↦ a code x | inr x ↦ b code x ]

pivot_below : (n : ℕ) (c d : LiteralSet) (p : ℕ) → IsBelow n c → Clashes c d p → p < n
pivot_below n c d p a (inl h) = let b = a (2 * p) h.0.there in omega arith
pivot_below n c d p a (inr h) = let b = a (2 * p + 1) h.0.there in omega arith

steps_below : (n : ℕ) (known : List (List Literal)) (c : LiteralSet) (steps : List Step) (r : LiteralSet) → All (HasVariablesBelow n) known → IsBelow n c → ResolvesTo known c steps r
    → All (λ step. step.pivot < n) steps × IsBelow n r
steps_below n known c [] r all a h = (All-nil (λ (s : Step). s.pivot < n), λ code x. a code (h code ∙ x))
steps_below n known c (s ∷ steps) r all a h =
    let d = literals_of (clause_at known s.clause) in
    let b = clause_below n (clause_at known s.clause) (All-get_or (HasVariablesBelow n) known s.clause [] h.0 all) in
    let rest = steps_below n known (resolvent c d s.pivot) steps r all (resolvent_below n c d s.pivot a b) h.2 in
    (All-cons (λ (t : Step). t.pivot < n) s steps (pivot_below n c d s.pivot a h.1) rest.0, rest.1)

chain_within : (n : ℕ) (known : List (List Literal)) (chain : Chain) → All (HasVariablesBelow n) known → IsLawfulChain known chain → IsChainWithin n chain
chain_within n known chain all h =
    let start = clause_at known chain.start in
    let a = clause_below n start (All-get_or (HasVariablesBelow n) known chain.start [] h.0 all) in
    let r = steps_below n known (literals_of start) chain.steps (literals_of chain.result) all a h.1 in
    record { pivots = r.0; result = below_clause n chain.result r.1 }

pub chains_within : (n : ℕ) (known : List (List Literal)) (chains : List Chain) → All (HasVariablesBelow n) known → IsLawful known chains → All (IsChainWithin n) chains
chains_within n known [] all h = All-nil (IsChainWithin n)
chains_within n known (c ∷ chains) all h =
    let w = chain_within n known c all h.0 in
    All-cons (IsChainWithin n) c chains w (chains_within n (known ++ c.result ∷ []) chains (All-push (HasVariablesBelow n) known c.result all w.result) h.1)

pub lawful_within : (given : List (List Literal)) (chains : List Chain) → IsLawful given chains → (n : ℕ) → All (HasVariablesBelow n) given → IsWithin n given chains
lawful_within given chains h n all = record { clauses_within = all; chains_within = chains_within n given chains all h }
