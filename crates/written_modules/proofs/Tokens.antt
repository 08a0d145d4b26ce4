-- The tokens of parts.
use Rattle.std.proofs.Common.{◌≡◌, ℕ, ◌+◌, true, List, [], ◌∷◌, ◌++◌, refl, arith}
use Rattle.std.proofs.lemmas.Bool.{and_parts, and_from}
use Rattle.clf_tree.specs.declared.token.TokenKind.{TokenKind}
use Rattle.clf_tree.specs.declared.token.TokenKind.TheVariants as t
use Rattle.clafer_grammar.specs.Symbols.{Symbol}
use Rattle.written_modules.specs.Names.{has_right_kind, have_names}

abbrev pub AllRight : List Symbol → Type 0
AllRight tokens = have_names tokens ≡ true

pub two_parts : (ts us : List Symbol) → AllRight (ts ++ us) → AllRight ts × AllRight us
two_parts [] us h = (refl, h)
two_parts (s ∷ ts) us h =
    let parts = and_parts (has_right_kind s) (have_names (ts ++ us)) h in
    let rest = two_parts ts us parts.1 in
    (and_from (has_right_kind s) (have_names ts) parts.0 rest.0, rest.1)

pub behind_first : (s : Symbol) (ts : List Symbol) → AllRight (s ∷ ts) → (has_right_kind s ≡ true) × AllRight ts
behind_first s ts h = and_parts (has_right_kind s) (have_names ts) h

-- what stands behind some tokens and one more
pub behind : (ts : List Symbol) (s : Symbol) (us : List Symbol) → AllRight (ts ++ s ∷ us) → AllRight ts × AllRight us
behind ts s us h = let parts = two_parts ts (s ∷ us) h in (parts.0, (behind_first s us parts.1).1)

-- ---- how many names are among them

abbrev pub is_one : TokenKind → ℕ
is_one (t.Name name) = 1
is_one _ = 0

abbrev pub names_in : List Symbol → ℕ
names_in [] = 0
names_in (s ∷ ts) = is_one s.kind + names_in ts

pub names_in-two : (ts us : List Symbol) → names_in (ts ++ us) ≡ names_in ts + names_in us
names_in-two [] us = omega arith
names_in-two (s ∷ ts) us = let rest = names_in-two ts us in omega (arith, rest)
