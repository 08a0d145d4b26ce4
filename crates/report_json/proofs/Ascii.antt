-- What is shown of a model is text.
use Rattle.std.proofs.Common.{◌≡◌, ℕ, zero, suc, ◌<◌, ◌^◌, Bool, true, false, ◌&&◌, List, [], ◌∷◌, ◌++◌, length, Option, Some, None, refl, arith, subst}
use Rattle.std.specs.Prelude.{slice_get, slice_index, is_none, codes, decimal, if◌then◌else◌}
use Rattle.std.specs.Char.{is_ascii, is_ascii_alphabetic}
use Rattle.std.specs.Option.{option_map_or}
use Rattle.std.specs.List.{list_all}
use Rattle.std.specs.Str.{IsAscii}
use Rattle.std.proofs.lemmas.Grind.{common_steps}
use Rattle.std.proofs.lemmas.Str.Ascii.{IsAscii-nil, IsAscii-cons}
use Rattle.std.proofs.lemmas.Str.{IsAscii-append}
use Rattle.std.proofs.lemmas.Fmt.{IsAscii-decimal}
use Rattle.clf_tree.specs.declared.model.Clafer.{Clafer}
use Rattle.clf_tree.specs.declared.instance.Node.{Node}
use Rattle.clf_tree.specs.Hierarchy.{parent_of}
use Rattle.clf_tree.specs.Spelling.{spelled_word}
use Rattle.clf_tree.specs.Named.{is_name_byte, has_name}
use Rattle.instance_text.specs.Names.{name_of, path_within, path_of, has_namesake, shown_clafer, shown_node}
use Rattle.instance_text.proofs.Items.{and_left, and_right, and_both}

below : (b : ℕ) → is_ascii b ≡ true → b < 128
below b h = grind (arith, common_steps)

-- a test of each byte
pub by_test : (bytes : List ℕ) → list_all is_ascii bytes ≡ true → IsAscii bytes
by_test [] h = IsAscii-nil
by_test (b ∷ bs) h =
    IsAscii-cons b bs (below b (and_left (is_ascii b) (list_all is_ascii bs) h))
    (by_test bs (and_right (is_ascii b) (list_all is_ascii bs) h))

name_byte : (b : ℕ) → is_name_byte b ≡ true → is_ascii b ≡ true
name_byte b h = grind (arith, common_steps)

name_bytes : (bytes : List ℕ) → list_all is_name_byte bytes ≡ true → list_all is_ascii bytes ≡ true
name_bytes [] h = refl
name_bytes (b ∷ bs) h =
    and_both (is_ascii b) (list_all is_ascii bs) (name_byte b (and_left (is_name_byte b) (list_all is_name_byte bs) h))
    (name_bytes bs (and_right (is_name_byte b) (list_all is_name_byte bs) h))

joined : (xs ys : List ℕ) → list_all is_ascii xs ≡ true → list_all is_ascii ys ≡ true → list_all is_ascii (xs ++ ys) ≡ true
joined [] ys h k = k
joined (x ∷ xs) ys h k =
    and_both (is_ascii x) (list_all is_ascii (xs ++ ys)) (and_left (is_ascii x) (list_all is_ascii xs) h)
    (joined xs ys (and_right (is_ascii x) (list_all is_ascii xs) h) k)

item_passes : (clafers : List Clafer) (c : ℕ) (k : Clafer) → list_all has_name clafers ≡ true → slice_get clafers c ≡ Some k
    → has_name k ≡ true
item_passes [] c k h e = (cc)
item_passes (x ∷ xs) zero k h e = subst (λ z. has_name z ≡ true) (one x k e) (and_left (has_name x) (list_all has_name xs) h)
  where
    one : (a b : Clafer) → Some a ≡ Some b → a ≡ b
    one a b q = (cc)
item_passes (x ∷ xs) (suc c) k h e = item_passes xs c k (and_right (has_name x) (list_all has_name xs) h) e

module _ (clafers : List Clafer) (named : list_all has_name clafers ≡ true) where
  name_passes : (c : ℕ) → list_all is_ascii (name_of clafers c) ≡ true
  name_passes c = by (slice_get clafers c) refl
    where
      by : (k : Option Clafer) → slice_get clafers c ≡ k → list_all is_ascii (option_map_or (λ (x : Clafer). x.title.name) k []) ≡ true
      by None e = refl
      by (Some k) e =
          let bytes = k.title.name in
          name_bytes bytes (and_right (is_ascii_alphabetic (slice_index bytes 0)) (list_all is_name_byte bytes)
          (and_left (is_ascii_alphabetic (slice_index bytes 0) && list_all is_name_byte bytes) (is_none (spelled_word bytes))
          (item_passes clafers c k named e)))

  path_passes : (n c : ℕ) → list_all is_ascii (path_within clafers n c) ≡ true
  path_passes zero c = refl
  path_passes (suc n) c = by (parent_of clafers c) (λ p. path_passes n p)
    where
      by : (q : Option ℕ) → ((p : ℕ) → list_all is_ascii (path_within clafers n p) ≡ true)
          → list_all is_ascii (option_map_or (λ p. path_within clafers n p ++ 46 ∷ []) q [] ++ name_of clafers c) ≡ true
      by None h = name_passes c
      by (Some p) h =
          joined (path_within clafers n p ++ 46 ∷ []) (name_of clafers c) (joined (path_within clafers n p) (46 ∷ []) (h p) refl)
          (name_passes c)

  shown_passes : (c : ℕ) → list_all is_ascii (shown_clafer clafers c) ≡ true
  shown_passes c = by (has_namesake clafers c)
    where
      by : (b : Bool) → list_all is_ascii (if b then path_of clafers c else name_of clafers c) ≡ true
      by true = path_passes (length clafers) c
      by false = name_passes c

  pub path_is_ascii : (c : ℕ) → IsAscii (path_of clafers c)
  path_is_ascii c = by_test (path_of clafers c) (path_passes (length clafers) c)

  pub node_is_ascii : (n : Node) → n.number < 2 ^ 64 → IsAscii (shown_node clafers n)
  node_is_ascii n small =
      IsAscii-append (shown_clafer clafers n.clafer ++ codes "$") (decimal n.number)
      (IsAscii-append (shown_clafer clafers n.clafer) (codes "$") (by_test (shown_clafer clafers n.clafer) (shown_passes n.clafer))
      (by_test (codes "$") refl))
      (IsAscii-decimal n.number small)
