-- Texts by their endings.
use Rattle.std.proofs.Common.{◌≡◌, ◌≢◌, Bool, true, false, ℕ, List, ◌++◌, bytes_eq, Option, Some, None, MatchOption, refl, ap, sym, ◌∙◌}
use Rattle.std.specs.Option.{option_map_or}
use Rattle.std.proofs.lemmas.Slice.Eq.{bytes_eq-Decides}
use Rattle.std.proofs.lemmas.Bool.Decides.{same_from_decides}
use mathlib.Core.List.{append_cancel_right}
use denote.Ref.{Bor}

not_same : (s t : List ℕ) (b : Bool) → bytes_eq s t ≡ b → s ≢ t → b ≡ false
not_same s t true e ne = absurd (ne ((bytes_eq-Decides s t).0 e))
not_same s t false e ne = refl

pub before_is : (s p : List ℕ) (r : Option (Bor (List ℕ))) → MatchOption r ((front : List ℕ) → s ≢ front ++ p) (λ x. s ≡ x.now ++ p)
    → (q : List ℕ) → bytes_eq s (q ++ p) ≡ option_map_or (λ t. bytes_eq t.now q) r false
before_is s p None none q = not_same s (q ++ p) (bytes_eq s (q ++ p)) refl (none q)
before_is s p (Some x) some q =
    same_from_decides (bytes_eq s (q ++ p)) (bytes_eq x.now q) (bytes_eq-Decides s (q ++ p)) (
      λ e. some ∙ ap (λ t. t ++ p) ((bytes_eq-Decides x.now q).0 e),
      λ e. (bytes_eq-Decides x.now q).1 (append_cancel_right x.now q p (sym some ∙ e)),
    )
