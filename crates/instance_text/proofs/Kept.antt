-- One more item of a list, of which those that pass are written.
use Rattle.std.proofs.Common.{◌≡◌, Bool, true, false, List, [], ◌∷◌, ◌++◌, cond, ap, ◌∙◌, append-nil}
use Rattle.std.specs.List.{filter, flat_map}
use Rattle.std.proofs.lemmas.List.Elements.{filter-append}
use Rattle.std.proofs.lemmas.List.Concat.{flat_map-append}

pub kept-more : {X Y : Type 0} (f : X → List Y) (p : X → Bool) (xs : List X) (x : X) → p x ≡ true → flat_map f (filter p (xs ++ x ∷ [])) ≡ flat_map f (filter p xs) ++ f x
kept-more f p xs x pass =
    ap (flat_map f) (filter-append p xs (x ∷ [])) ∙ ap (λ b. flat_map f (filter p xs ++ cond b (x ∷ []) [])) pass ∙ flat_map-append f (filter p xs) (x ∷ [])
    ∙ ap (λ ys. flat_map f (filter p xs) ++ ys) (append-nil (f x))

pub dropped-more : {X Y : Type 0} (f : X → List Y) (p : X → Bool) (xs : List X) (x : X) → p x ≡ false → flat_map f (filter p (xs ++ x ∷ [])) ≡ flat_map f (filter p xs)
dropped-more f p xs x fail =
    ap (flat_map f) (filter-append p xs (x ∷ [])) ∙ ap (λ b. flat_map f (filter p xs ++ cond b (x ∷ []) [])) fail ∙ ap (flat_map f) (append-nil (filter p xs))

pub ruleset kept_steps = (kept-more, dropped-more)
