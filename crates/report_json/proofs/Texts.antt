-- The texts of the values of JSON.
use Rattle.std.proofs.Common.{◌≡◌, ◌||◌, false, ℕ, List, [], ◌∷◌, ◌++◌, Option, Some, None, refl, sym, ap, ◌∙◌, append_assoc}
use Rattle.std.specs.Prelude.{codes, decimal, ℤ, pos, negsuc}
use Rattle.std.specs.Fmt.{signed_decimal}
use Rattle.std.specs.Option.{option_map_or}
use Rattle.json.specs.Print.{quoted}
use Rattle.serde_json.specs.Data.{null}
use Rattle.serde_json.proofs.OnLiterals.{serde_json_on_literals}
use Rattle.serde_json.specs.Find.{of_integer, is_float}
use Rattle.serde_json.specs.Written.{has_float, compact_text, number_text}
use Rattle.clf_tree.specs.declared.model.Clafer.{Clafer}
use Rattle.clf_tree.specs.declared.instance.Node.{Node}
use Rattle.clf_tree.specs.declared.instance.Target.{Target}
use Rattle.clf_tree.specs.declared.instance.Target.TheVariants as target
use Rattle.clf_tree.specs.declared.instance.Entry.{Entry}
use Rattle.clf_tree.specs.declared.scopes.Scopes.{Scopes}
use Rattle.clf_tree.specs.Nodes.{scope_of}
use Rattle.instance_text.specs.Names.{path_of, shown_node}
use Rattle.report_json.specs.Data.{node_data, target_data, entry_data, scope_data}
use Rattle.report_json.specs.Json.{null_json, target_json, entry_json, scope_json}

integer_text : (z : ℤ) → number_text (of_integer z) ≡ signed_decimal z
integer_text (pos n) = refl
integer_text (negsuc n) = refl

integer_no_float : (z : ℤ) → is_float (of_integer z) ≡ false
integer_no_float (pos n) = refl
integer_no_float (negsuc n) = refl

six : (a n b p c t d : List ℕ) → (((((a ++ n) ++ b) ++ p) ++ c) ++ t) ++ d ≡ a ++ (n ++ (b ++ (p ++ (c ++ (t ++ d)))))
six a n b p c t d = simp append_assoc

four : (a n b p d : List ℕ) → (((a ++ n) ++ b) ++ p) ++ d ≡ a ++ (n ++ (b ++ (p ++ d)))
four a n b p d = simp append_assoc

-- an object with three members, and an array of two
abbrev object_text : List ℕ → List ℕ → List ℕ → List ℕ
object_text n p t =
    123 ∷ (quoted (codes "name") ++ 58 ∷ (n ++ 44 ∷ (quoted (codes "parent") ++ 58 ∷ (p ++ 44 ∷ (quoted (codes "target")
    ++ 58 ∷ (t ++ 125 ∷ []))))))

entry_shape : (n p t : List ℕ) → object_text n p t
    ≡ codes "{\"name\":" ++ n ++ codes ",\"parent\":" ++ p ++ codes ",\"target\":" ++ t ++ codes "}"
unfolding serde_json_on_literals
entry_shape n p t = sym (six (codes "{\"name\":") n (codes ",\"parent\":") p (codes ",\"target\":") t (codes "}"))

scope_shape : (path scope : List ℕ) → 91 ∷ (path ++ 44 ∷ (scope ++ 93 ∷ [])) ≡ codes "[" ++ path ++ codes "," ++ scope ++ codes "]"
scope_shape path scope = sym (four (codes "[") path (codes ",") scope (codes "]"))

parent_text : (clafers : List Clafer) (parent : Option Node) → compact_text (option_map_or (node_data clafers) parent null)
    ≡ option_map_or (λ n. quoted (shown_node clafers n)) parent null_json
parent_text clafers None = refl
parent_text clafers (Some n) = refl

parent_no_float : (clafers : List Clafer) (parent : Option Node) → has_float (option_map_or (node_data clafers) parent null) ≡ false
parent_no_float clafers None = refl
parent_no_float clafers (Some n) = refl

target_text : (clafers : List Clafer) (to : Option Target) → compact_text (option_map_or (target_data clafers) to null)
    ≡ option_map_or (target_json clafers) to null_json
target_text clafers None = refl
target_text clafers (Some (target.Int z)) = integer_text z
target_text clafers (Some (target.Node n)) = refl

target_no_float : (clafers : List Clafer) (to : Option Target) → has_float (option_map_or (target_data clafers) to null) ≡ false
target_no_float clafers None = refl
target_no_float clafers (Some (target.Int z)) = integer_no_float z
target_no_float clafers (Some (target.Node n)) = refl

pub entry_text : (clafers : List Clafer) (e : Entry) → compact_text (entry_data clafers e) ≡ entry_json clafers e
entry_text clafers e =
    let name = quoted (shown_node clafers e.node) in
    let parent = option_map_or (λ n. quoted (shown_node clafers n)) e.parent null_json in
    let target = option_map_or (target_json clafers) e.target null_json in
    ap (λ p. object_text name p (compact_text (option_map_or (target_data clafers) e.target null))) (parent_text clafers e.parent)
    ∙ ap (λ t. object_text name parent t) (target_text clafers e.target)
    ∙ entry_shape name parent target

pub entry_no_float : (clafers : List Clafer) (e : Entry) → has_float (entry_data clafers e) ≡ false
entry_no_float clafers e =
    ap (λ p. p || (has_float (option_map_or (target_data clafers) e.target null) || false)) (parent_no_float clafers e.parent)
    ∙ ap (λ t. t || false) (target_no_float clafers e.target)

pub scope_text : (clafers : List Clafer) (scopes : Scopes) (c : ℕ)
    → compact_text (scope_data clafers scopes c) ≡ scope_json clafers scopes c
scope_text clafers scopes c = scope_shape (quoted (path_of clafers c)) (decimal (scope_of scopes c))

pub scope_no_float : (clafers : List Clafer) (scopes : Scopes) (c : ℕ) → has_float (scope_data clafers scopes c) ≡ false
scope_no_float clafers scopes c = refl
