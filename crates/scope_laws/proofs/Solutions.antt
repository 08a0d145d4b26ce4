-- The scopes solve their equation, and nothing else does.
use Rattle.std.proofs.Common.{◌≡◌, ℕ, zero, suc, ◌*◌, ◌<◌, Bool, true, false, List, [], ◌∷◌, length, map, sum, refl, sym, ap, ◌∙◌, arith}
use Rattle.std.specs.Prelude.{not, slice_get, is_none, if◌then◌else◌}
use Rattle.std.specs.Option.{option_map_or}
use Rattle.std.proofs.lemmas.Bool.{true≢false}
use Rattle.clf_tree.specs.declared.model.Clafer.{Clafer}
use Rattle.clf_tree.specs.declared.scopes.Given.{Given}
use Rattle.clf_tree.specs.Hierarchy.{parent_of, is_concrete, owners}
use Rattle.clf_tree.specs.Named.{each, contains_itself}
use Rattle.scope_table.specs.Paths.{given_to}
use Rattle.scope_table.specs.Largest.{most_of, scope_over, scope_within, scope}
use Rattle.scope_laws.specs.Equation.{Solves}
use Rattle.scope_laws.proofs.Items.{In, first, later, none_in}
use Rattle.scope_laws.proofs.Chains.{tall, is_low}

map_same : (f g : ℕ → ℕ) (xs : List ℕ) → ((x : ℕ) → In x xs → f x ≡ g x) → map f xs ≡ map g xs
map_same f g [] same = refl
map_same f g (x ∷ xs) same = ap (λ y. y ∷ map f xs) (same x first) ∙ ap (λ ys. g x ∷ ys) (map_same f g xs (λ y i. same y (later i)))

-- a concrete clafer is there
get_there : (clafers : List Clafer) (c : ℕ) → option_map_or (λ (k : Clafer). not k.is_abstract) (slice_get clafers c) false ≡ true → c < length clafers
get_there [] c h = absurd (true≢false (sym h))
get_there (k ∷ clafers) zero h = omega arith
get_there (k ∷ clafers) (suc c) h = let less : c < length clafers = get_there clafers c h in omega (arith, less)

module _ (clafers : List Clafer) (given : Given) where
  is_there : (c : ℕ) (b : Bool) → is_concrete clafers c ≡ b → b ≡ true → c < length clafers
  is_there c b e t = get_there clafers c (e ∙ t)

  -- over the same scopes of its owners
  same_over : (f g : ℕ → ℕ) (c : ℕ) → ((o : ℕ) → In o (owners clafers c) → f o ≡ g o) → scope_over clafers given f c ≡ scope_over clafers given g c
  same_over f g c same =
      ap (λ (ns : List ℕ). if is_concrete clafers c
      then option_map_or (λ most. most) (given_to clafers given.scopes c) (most_of clafers given c * (if is_none (parent_of clafers c) then 1 else sum ns))
      else 0) (map_same f g (owners clafers c) same)

  none_over : (f : ℕ → ℕ) (c : ℕ) → is_concrete clafers c ≡ false → scope_over clafers given f c ≡ 0
  none_over f c e =
      ap (λ (b : Bool). if b
      then option_map_or (λ most. most) (given_to clafers given.scopes c) (most_of clafers given c * (if is_none (parent_of clafers c) then 1 else sum (map f (owners clafers c))))
      else 0) e

  none_within : (n c : ℕ) → is_concrete clafers c ≡ false → scope_within clafers given n c ≡ 0
  none_within zero c e = refl
  none_within (suc n) c e = none_over (scope_within clafers given n) c e

  -- where there are fewer than n owners above one another, n steps are enough
  settled : (g : ℕ → ℕ → ℕ) → ((n c : ℕ) → g (suc n) c ≡ scope_over clafers given (g n) c) → (n c : ℕ) → tall clafers n c ≡ false → scope_within clafers given n c ≡ g n c
  settled g step zero c low = absurd (true≢false low)
  settled g step (suc n) c low =
      same_over (scope_within clafers given n) (g n) c (λ o i. settled g step n o (none_in (tall clafers n) (owners clafers c) o i low)) ∙ sym (step n c)

  module _ (law : each clafers (λ c. not (contains_itself clafers c)) ≡ true) where
    by_kind : (g : ℕ → ℕ → ℕ) → ((n c : ℕ) → g (suc n) c ≡ scope_over clafers given (g n) c) → (c : ℕ) → (is_concrete clafers c ≡ false → g (length clafers) c ≡ 0)
        → (b : Bool) → is_concrete clafers c ≡ b → (b ≡ true → c < length clafers) → scope clafers given c ≡ g (length clafers) c
    by_kind g step c zeros true e there = settled g step (length clafers) c (is_low clafers law c (there refl))
    by_kind g step c zeros false e there = none_within (length clafers) c e ∙ sym (zeros e)

    pub solved : Solves clafers given (scope clafers given)
    solved c =
        by_kind (λ n. scope_within clafers given (suc n)) (λ n d. refl) c (none_over (scope clafers given) c) (is_concrete clafers c) refl (is_there c (is_concrete clafers c) refl)

    pub alone : (of : ℕ → ℕ) → Solves clafers given of → (c : ℕ) → of c ≡ scope clafers given c
    alone of solves c =
        sym (by_kind (λ n. of) (λ n d. solves d) c (λ e. solves c ∙ none_over of c e) (is_concrete clafers c) refl (is_there c (is_concrete clafers c) refl))
