use Rattle.std.proofs.Common.{ℕ, zero, suc, ◌≡◌, ◌*◌, ◌<◌, [], ◌∷◌, List, length, get_or, arith}
use Rattle.cdcl_search.proofs.Flips.{flip-below}
use Rattle.cdcl_search.proofs.Trail_steps.{opposite_open}
use Rattle.cdcl_search.proofs.decision.choose.Goals as goal

open_of_two : (v : List ℕ) (a b i : ℕ) → i < 2 → get_or v a 0 ≡ 0 → get_or v b 0 ≡ 0 → get_or v (get_or (a ∷ b ∷ []) i 0) 0 ≡ 0
open_of_two v a b zero h x y = x
open_of_two v a b (suc zero) h x y = y
open_of_two v a b (suc (suc i)) h x y = absurd (omega arith)

below_of_two : (a b i n : ℕ) → i < 2 → a < n → b < n → get_or (a ∷ b ∷ []) i 0 < n
below_of_two a b zero n h x y = x
below_of_two a b (suc zero) n h x y = y
below_of_two a b (suc (suc i)) n h x y = absurd (omega arith)

pub returns-clause-is_open : goal.returns-clause-is_open
returns-clause-is_open g c = open_of_two c.args.trail.now.values.items c.args.first c.flipped.result c.pick.result c.pick.ensures.in_range c.requires.is_open (rw c.flipped.ensures (opposite_open _ _ _ _ c.args.first c.requires.trail c.requires.is_open))

pub returns-clause-within : goal.returns-clause-within
returns-clause-within g c = below_of_two c.args.first c.flipped.result c.pick.result (2 * length c.args.trail.now.literals.items) c.pick.ensures.in_range c.requires.within (rw c.flipped.ensures (flip-below c.args.first (length c.args.trail.now.literals.items) c.requires.within))
