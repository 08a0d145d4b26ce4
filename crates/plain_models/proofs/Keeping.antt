-- Each item of a text keeps parents first and contexts there.
use Rattle.std.proofs.Common.{◌≡◌, Bool, true, false, List, [], ◌∷◌, ◌++◌, map, Some, None, refl, sym, subst}
use Rattle.std.specs.Prelude.{if◌then◌else◌}
use Rattle.clf_base.specs.declared.fault.Refusal.{Refusal}
use Rattle.refusal_order.specs.Order.{is_before, with_refusals, first_refusal}
use Rattle.clf_tree.specs.declared.module.Item.{Item, roll-Item, map-Item}
use Rattle.clf_tree.specs.declared.module.Declared.{Declared, roll-Declared, map-Declared, fold-roll-Declared}
use Rattle.clf_tree.specs.declared.module.Module.{Module}
use Rattle.clf_tree.specs.declared.module.Item.TheOpen as item
use Rattle.clf_tree.specs.declared.module.Item.TheOpen.{Item-F, Declared-F}
use Rattle.clf_tree.specs.declared.module.Item.TheFolds.{ind-Item, fold-roll-Item}
use Rattle.clafer_desugar.specs.PlainModel.{Adds, item_step, declared_step, add_item, add_declared, one_by_one, nothing, plain_of}
use Rattle.clafer_desugar.specs.Refusals.{items_refusals, plain_refusals, refusals}
use Rattle.plain_models.specs.Known.{IsPlain}
use Rattle.plain_models.proofs.ParentsFirst.{Keeps, Good, AllKeep, none, more, keeps_all, keeps_item, keeps_declared, good_at_top}

abbrev ItemHeld : Type 0
ItemHeld = (x : Item) × Keeps (add_item x)

abbrev DeclaredHeld : Type 0
DeclaredHeld = (d : Declared) × Keeps (add_declared d)

held : (ys : List ItemHeld) → AllKeep (map add_item (map (λ (e : ItemHeld). e.0) ys))
held [] = none
held (y ∷ ys) = more y.1 (held ys)

item_kept : (y : Item-F ItemHeld DeclaredHeld) → Keeps (add_item (roll-Item (map-Item ItemHeld DeclaredHeld Item Declared (λ e. e.0) (λ e. e.0) y)))
item_kept (item.Clafer d) = subst Keeps (sym (fold-roll-Item Adds Adds item_step declared_step (item.Clafer d.0))) d.1
item_kept (item.Enum at title members) =
    subst Keeps (sym (fold-roll-Item Adds Adds item_step declared_step (item.Enum at title members))) (keeps_item (item.Enum at title members) (λ d e. (cc)))
item_kept (item.Constraint at parts) =
    subst Keeps (sym (fold-roll-Item Adds Adds item_step declared_step (item.Constraint at parts))) (keeps_item (item.Constraint at parts) (λ d e. (cc)))
item_kept (item.Goal at least body) =
    subst Keeps (sym (fold-roll-Item Adds Adds item_step declared_step (item.Goal at least body))) (keeps_item (item.Goal at least body) (λ d e. (cc)))

declared_kept : (y : Declared-F ItemHeld DeclaredHeld) → Keeps (add_declared (roll-Declared (map-Declared ItemHeld DeclaredHeld Item Declared (λ e. e.0) (λ e. e.0) y)))
declared_kept y =
    let layer : Declared-F Item Declared = map-Declared ItemHeld DeclaredHeld Item Declared (λ e. e.0) (λ e. e.0) y in
    subst Keeps (sym (fold-roll-Declared Adds Adds item_step declared_step layer)) (keeps_declared (map-Declared Item Declared Adds Adds add_item add_declared layer) (held y.items))

pub keeps : (x : Item) → Keeps (add_item x)
keeps = ind-Item (λ x. Keeps (add_item x)) (λ d. Keeps (add_declared d))
    (λ x y is. subst (λ z. Keeps (add_item (roll-Item z))) is (item_kept y))
    (λ x y is. subst (λ z. Keeps (add_declared (roll-Declared z))) is (declared_kept y))

all_keep : (items : List Item) → AllKeep (map add_item items)
all_keep [] = none
all_keep (x ∷ items) = more (keeps x) (all_keep items)

good_nothing : Good nothing
good_nothing = record { parents = refl; contexts = refl }

good_text : (text : Module) → Good (plain_of text)
good_text text = good_at_top (one_by_one (map add_item text.items)) nothing (keeps_all (map add_item text.items) (all_keep text.items)) good_nothing

-- ---- nothing is refused

either : (x f : Refusal) (rs : List Refusal) (b : Bool) → ((y : Refusal) → with_refusals (Some y) rs ≡ None → ⊥) → with_refusals (if b then Some x else Some f) rs ≡ None → ⊥
either x f rs true go e = go x e
either x f rs false go e = go f e

stays : (rs : List Refusal) (f : Refusal) → with_refusals (Some f) rs ≡ None → ⊥
stays [] f e = (cc)
stays (x ∷ rs) f e = either x f rs (is_before x f) (λ y. stays rs y) e

none_refused : (rs : List Refusal) → first_refusal rs ≡ None → rs ≡ []
none_refused [] e = refl
none_refused (x ∷ rs) e = absurd (stays rs x e)

both_none : (xs ys : List Refusal) → xs ++ ys ≡ [] → (xs ≡ []) × (ys ≡ [])
both_none [] ys e = (refl, e)
both_none (x ∷ xs) ys e = (cc)

pub known : (text : Module) → first_refusal (refusals text) ≡ None → IsPlain (plain_of text)
known text none_first =
    let g = good_text text in
    record {
      parents = g.parents;
      contexts = g.contexts;
      unrefused = (both_none (items_refusals text.items false) (plain_refusals (plain_of text)) (none_refused (refusals text) none_first)).1;
    }
