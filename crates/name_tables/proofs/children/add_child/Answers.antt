use Rattle.std.proofs.Common.{ℕ, List, [], ◌∷◌, ◌++◌, sym, subst, append-nil}
use Rattle.name_resolver.specs.declared.nearest.Nearest.TheVariants.{Nothing, Only}
use Rattle.name_tables.specs.Children.{AreChildren}
use Rattle.name_tables.proofs.Stepping.{child_told, children_more}
use Rattle.name_tables.proofs.children.add_child.Goals as goal

pub returns-in-Nothing : goal.returns-in-Nothing
returns-in-Nothing c = λ all name ks entered so.
    let clafers = c.args.clafers.now in
    let found = c.args.found.now.items in
    let own : AreChildren clafers name (c.args.clafer ∷ []) [] =
    child_told clafers c.args.entry.now name c.args.clafer c.label_below.result c.told.result Nothing c.label_below.ensures c.told.ensures c.in-Nothing.is entered in
    subst (λ (ds : List ℕ). AreChildren clafers name (ks ++ c.args.clafer ∷ []) ds) (append-nil found) (children_more clafers name ks found [] c.args.clafer so own)

pub returns-in_ok-push-in-Only : goal.returns-in_ok-push-in-Only
returns-in_ok-push-in-Only c = λ all name ks entered so.
    let clafers = c.args.clafers.now in
    let child = c.in-Only.child in
    let own : AreChildren clafers name (c.args.clafer ∷ []) (child ∷ []) =
    child_told clafers c.args.entry.now name c.args.clafer c.label_below.result c.told.result (Only child) c.label_below.ensures c.told.ensures c.in-Only.is entered in
    subst (λ (ds : List ℕ). AreChildren clafers name (ks ++ c.args.clafer ∷ []) ds) (sym c.in_ok-push-in-Only.ensures.items)
    (children_more clafers name ks c.args.found.now.items (child ∷ []) c.args.clafer so own)
