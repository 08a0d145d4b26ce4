-- Lists that a loop fills, one item of another list after another.
use Rattle.std.proofs.Common.{◌≡◌, ℕ, ◌+◌, List, [], ◌∷◌, ◌++◌, map, take, Some, sym, ap, ◌∙◌}
use Rattle.std.specs.Prelude.{slice_get}
use Rattle.std.specs.List.{flat_map}
use Rattle.std.proofs.lemmas.List.{map-append, append-nil}
use Rattle.std.proofs.lemmas.List.Concat.{flat_map-append}
use Rattle.shape_encoder.proofs.Steps.{take_item}

pub mapped_more : {X Y : Type 0} (f : X → Y) (xs : List X) (i : ℕ) (x : X) (ys zs : List Y) (y : Y) → slice_get xs i ≡ Some x → ys ≡ map f (take i xs) → zs ≡ ys ++ y ∷ [] → y ≡ f x → zs ≡ map f (take (i + 1) xs)
mapped_more f xs i x ys zs y get e g h = g ∙ ap (λ us. us ++ y ∷ []) e ∙ ap (λ u. map f (take i xs) ++ u ∷ []) h ∙ sym (ap (map f) (take_item xs i x get) ∙ map-append f (take i xs) (x ∷ []))

pub flat_more : {X Y : Type 0} (f : X → List Y) (xs : List X) (i : ℕ) (x : X) (ys zs : List Y) → slice_get xs i ≡ Some x → ys ≡ flat_map f (take i xs) → zs ≡ ys ++ f x → zs ≡ flat_map f (take (i + 1) xs)
flat_more f xs i x ys zs get e g = g ∙ ap (λ us. us ++ f x) e ∙ sym (ap (flat_map f) (take_item xs i x get) ∙ flat_map-append f (take i xs) (x ∷ []) ∙ ap (λ us. flat_map f (take i xs) ++ us) (append-nil (f x)))
