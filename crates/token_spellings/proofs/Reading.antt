-- A text is read as a word or a sign exactly where it is how that one is written.
use Rattle.std.proofs.Common.{◌≡◌, ℕ, Bool, true, false, ◌&&◌, cond, List, [], ◌∷◌, Some, ◌⊎◌, inl, inr, ⊎_elim, refl, sym, ap, ◌∙◌, arith}
use Rattle.std.specs.Prelude.{bytes_eq, unwrap_or}
use Rattle.std.specs.List.{list_all}
use Rattle.std.specs.Option.{option_map}
use Rattle.std.specs.Map.{lookup}
use Rattle.std.proofs.lemmas.Slice.Eq.{bytes_eq-Decides}
use Rattle.clf_tree.specs.declared.token.Sign.{Sign}
use Rattle.clf_tree.specs.declared.token.Sign.TheVariants as s
use Rattle.clf_tree.specs.declared.token.Word.{Word}
use Rattle.clf_tree.specs.declared.token.Word.TheVariants as w
use Rattle.clf_tree.specs.declared.spelling.TheConstants.{WORDS, SIGNS}
use Rattle.clf_tree.specs.Spelling.{spelled_word, spelled_sign}
use Rattle.token_spellings.specs.Written.{written_word, written_sign}

chosen : {A : Type 0} (b : Bool) (x y z : A) → cond b x y ≡ z → ((b ≡ true) × (x ≡ z)) ⊎ ((b ≡ false) × (y ≡ z))
chosen true x y z e = inl (refl, e)
chosen false x y z e = inr (refl, e)

both : (a b : Bool) → (a && b) ≡ true → (a ≡ true) × (b ≡ true)
both true true e = (refl, refl)
both true false e = cc
both false b e = cc

-- where each entry of a table has the text that its meaning is written in, what is found is written in the text that was sought
found_is_written : {K X : Type 0} (es : List (K × X)) (read : K → List ℕ) (written : X → List ℕ) (text : List ℕ) (x : X)
    → list_all (λ (e : K × X). bytes_eq (written e.1) (read e.0)) es ≡ true
    → lookup (λ k. bytes_eq (read k) text) es ≡ Some x → text ≡ written x
found_is_written [] read written text x all found = cc
found_is_written (e ∷ es) read written text x all found =
    let here = both (bytes_eq (written e.1) (read e.0)) (list_all (λ e. bytes_eq (written e.1) (read e.0)) es) all in
    let same : written e.1 ≡ read e.0 = grind (arith, bytes_eq-Decides (written e.1) (read e.0), here.0) in
    ⊎_elim
    (λ first.
    let sought : read e.0 ≡ text = grind (arith, bytes_eq-Decides (read e.0) text, first.0) in
    sym sought ∙ sym same ∙ ap (λ o. unwrap_or (option_map written o) (written x)) first.1)
    (λ later. found_is_written es read written text x here.1 later.1)
    (chosen (bytes_eq (read e.0) text) (Some e.1) (lookup (λ k. bytes_eq (read k) text) es) (Some x) found)

pub word_written : (text : List ℕ) (word : Word) → spelled_word text ≡ Some word → text ≡ written_word word
unfolding spelled_word
word_written text word found = found_is_written WORDS (λ k. k.now) written_word text word refl found

pub sign_written : (text : List ℕ) (sign : Sign) → spelled_sign text ≡ Some sign → text ≡ written_sign sign
unfolding spelled_sign
sign_written text sign found = found_is_written SIGNS (λ k. k.now) written_sign text sign refl found

word_read : (word : Word) → spelled_word (written_word word) ≡ Some word
unfolding spelled_word
word_read w.Abstract = refl
word_read w.All = refl
word_read w.Assert = refl
word_read w.Clafer = refl
word_read w.Disj = refl
word_read w.Double = refl
word_read w.Dref = refl
word_read w.Else = refl
word_read w.Enum = refl
word_read w.If = refl
word_read w.In = refl
word_read w.Int = refl
word_read w.Integer = refl
word_read w.Lone = refl
word_read w.Max = refl
word_read w.Maximize = refl
word_read w.Min = refl
word_read w.Minimize = refl
word_read w.Mux = refl
word_read w.No = refl
word_read w.Not = refl
word_read w.One = refl
word_read w.Opt = refl
word_read w.Or = refl
word_read w.Parent = refl
word_read w.Product = refl
word_read w.Real = refl
word_read w.Some = refl
word_read w.String = refl
word_read w.Sum = refl
word_read w.Then = refl
word_read w.This = refl
word_read w.Xor = refl

sign_read : (sign : Sign) → spelled_sign (written_sign sign) ≡ Some sign
unfolding spelled_sign
sign_read s.DotDot = refl
sign_read s.Dot = refl
sign_read s.BagArrow = refl
sign_read s.Arrow = refl
sign_read s.MinusMinus = refl
sign_read s.Minus = refl
sign_read s.PlusPlus = refl
sign_read s.Plus = refl
sign_read s.StarStar = refl
sign_read s.Star = refl
sign_read s.AndAnd = refl
sign_read s.OrOr = refl
sign_read s.Bar = refl
sign_read s.Implies = refl
sign_read s.Iff = refl
sign_read s.LessEqual = refl
sign_read s.GoalOpen = refl
sign_read s.Less = refl
sign_read s.GreaterEqual = refl
sign_read s.GoalClose = refl
sign_read s.Greater = refl
sign_read s.Equal = refl
sign_read s.NotEqual = refl
sign_read s.Not = refl
sign_read s.Hash = refl
sign_read s.Question = refl
sign_read s.Colon = refl
sign_read s.Semicolon = refl
sign_read s.BraceOpen = refl
sign_read s.BraceClose = refl
sign_read s.BracketOpen = refl
sign_read s.BracketClose = refl
sign_read s.ParenOpen = refl
sign_read s.ParenClose = refl

pub written_word_read : (text : List ℕ) (word : Word) → text ≡ written_word word → spelled_word text ≡ Some word
written_word_read text word same = ap spelled_word same ∙ word_read word

pub written_sign_read : (text : List ℕ) (sign : Sign) → text ≡ written_sign sign → spelled_sign text ≡ Some sign
written_sign_read text sign same = ap spelled_sign same ∙ sign_read sign
