-- The kind of a comparison by its reading.
use Rattle.std.proofs.Common.{◌≡◌, Bool, true, false, ◌&&◌, List, Option, Some, None, refl, ap, sym, ◌∙◌}
use Rattle.std.specs.Prelude.{is_none}
use Rattle.std.specs.Option.{option_map}
use Rattle.clf_tree.specs.declared.model.Clafer.{Clafer}
use Rattle.clf_tree.specs.declared.kind.Kind.{Kind}
use Rattle.clf_tree.specs.declared.kind.Kind.TheVariants as kinds
use Rattle.clf_tree.specs.declared.kind.Reading.{Reading}
use Rattle.clf_tree.specs.Kinds.{reading, reading_of, compared_kind}
use Rattle.model_weight.specs.Measures.{is_set_kind}

-- the kind, by whether there is a reading and whether both sides are sets
abbrev pub kind_compared : Bool → Option Kind
kind_compared true = None
kind_compared false = Some kinds.Truth

read : (o : Option Reading) → kind_compared (is_none o && true) ≡ option_map (λ r. kinds.Truth) o
read None = refl
read (Some r) = refl

unread : (o : Option Reading) → kind_compared (is_none o && false) ≡ Some kinds.Truth
unread None = refl
unread (Some r) = refl

left_only : (o : Option Reading) (b : Bool) → kind_compared (is_none o && (false && b)) ≡ Some kinds.Truth
left_only None b = refl
left_only (Some r) b = refl

pub comparing : (clafers : List Clafer) (k l : Option Kind) → kind_compared (is_none (reading_of clafers k l) && (is_set_kind k && is_set_kind l)) ≡ compared_kind clafers k l
comparing clafers (Some (kinds.Nodes ks)) (Some (kinds.Nodes ls)) = read (reading clafers (kinds.Nodes ks) (kinds.Nodes ls))
comparing clafers (Some (kinds.Nodes ks)) (Some kinds.Truth) = refl
comparing clafers (Some (kinds.Nodes ks)) (Some kinds.Integer) = refl
comparing clafers (Some (kinds.Nodes ks)) (Some (kinds.Numbers ls)) = refl
comparing clafers (Some (kinds.Nodes ks)) None = refl
comparing clafers None l = left_only (reading_of clafers None l) (is_set_kind l)
comparing clafers (Some kinds.Truth) l = left_only (reading_of clafers (Some kinds.Truth) l) (is_set_kind l)
comparing clafers (Some kinds.Integer) l = left_only (reading_of clafers (Some kinds.Integer) l) (is_set_kind l)
comparing clafers (Some (kinds.Numbers ks)) l = left_only (reading_of clafers (Some (kinds.Numbers ks)) l) (is_set_kind l)

pub none-compared : (clafers : List Clafer) (k l : Option Kind) (r : Option Reading) → r ≡ reading_of clafers k l → (is_none r && (is_set_kind k && is_set_kind l)) ≡ true → None ≡ compared_kind clafers k l
none-compared clafers k l r e h = sym (ap kind_compared (ap (λ o. is_none o && (is_set_kind k && is_set_kind l)) (sym e) ∙ h)) ∙ comparing clafers k l

pub truth-compared : (clafers : List Clafer) (k l : Option Kind) (r : Option Reading) → r ≡ reading_of clafers k l → (is_none r && (is_set_kind k && is_set_kind l)) ≡ false → Some kinds.Truth ≡ compared_kind clafers k l
truth-compared clafers k l r e h = sym (ap kind_compared (ap (λ o. is_none o && (is_set_kind k && is_set_kind l)) (sym e) ∙ h)) ∙ comparing clafers k l

pub ruleset compared = (none-compared, truth-compared)
