-- Two nodes that exchange their numbers.
use Rattle.std.proofs.Common.{◌≡◌, ℕ, zero, suc, ◌<◌, List, [], ◌∷◌, length, Some, None, map, refl, sym, subst, ◌∙◌, arith, ℤ, pos}
use Rattle.std.specs.Prelude.{get_or, IsPermutation}
use Rattle.clf_tree.specs.declared.instance.Entry.{Entry}
use Rattle.clf_tree.specs.declared.instance.Target.TheVariants as target
use Rattle.clf_tree.specs.declared.scopes.Scopes.{Scopes}
use Rattle.clf_tree.specs.Lists.{numbers_below}
use Rattle.clf_tree.specs.Nodes.{scope_of}
use Rattle.clf_tree.specs.Renaming.{renamed, IsRenaming}

abbrev pub exchange : List (List ℕ)
exchange = (1 ∷ 0 ∷ []) ∷ []

permutes : (scopes : Scopes) (ns : List ℕ) → scopes.of ≡ ns → ns ≡ 2 ∷ [] → (c : ℕ) → c < 1 → IsPermutation (get_or exchange c []) (numbers_below (scope_of scopes c))
permutes scopes ns e f zero h = subst (λ (ms : List ℕ). IsPermutation (1 ∷ 0 ∷ []) (numbers_below (scope_of (record scopes { of = ms }) 0))) (sym (e ∙ f)) (record { moves = (0, 1) ∷ []; below = (omega arith, omega arith, tt); is = refl })
permutes scopes ns e f (suc c) h = let no : ⊥ = omega (arith, h) in absurd no

pub exchanges : (scopes : Scopes) → scopes.of ≡ 2 ∷ [] → IsRenaming scopes exchange
exchanges scopes e = record {
  one_each = subst (λ (ms : List ℕ). 1 ≡ length ms) (sym e) refl;
  permutes = λ c h. permutes scopes scopes.of refl e c (subst (λ (ms : List ℕ). c < length ms) e h);
}

abbrev cost : ℕ → ℤ → Entry
cost number value = record { node = record { clafer = 0; number = number }; parent = None; target = Some (target.Int value) }

two_costs : map (renamed exchange) (cost 0 (pos 15) ∷ cost 1 (pos 12) ∷ []) ≡ cost 1 (pos 15) ∷ cost 0 (pos 12) ∷ []
two_costs = refl
