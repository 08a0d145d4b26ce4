-- How a text of lines is read, piece by piece. What is read here needn't be the text of an instance.
use Rattle.std.specs.Prelude.{ℕ, zero, suc, ◌+◌, ◌-◌, ◌*◌, ◌/◌, ◌^◌, ◌==◌, ◌&&◌, ◌||◌, Bool, true, not, List, [], ◌∷◌, length, take, drop, slice_index, bytes_eq, nat_eq, nat_lt, nat_le, codes, Option, Some, None, ℤ, pos, neg_ℤ, if◌then◌else◌}
use Rattle.std.specs.Option.{option_map, option_map_or, option_and_then}
use Rattle.std.specs.List.{prefix_len, starts_with, list_all}
use Rattle.std.specs.Char.{is_ascii_digit}
use Rattle.clf_tree.specs.declared.model.Model.{Model}
use Rattle.clf_tree.specs.declared.instance.Node.{Node}
use Rattle.clf_tree.specs.declared.instance.Target.{Target}
use Rattle.clf_tree.specs.declared.instance.Target.TheVariants as target
use Rattle.clf_tree.specs.declared.instance.Entry.{Entry}
use Rattle.clf_tree.specs.Nodes.{is_before}
use Rattle.instance_text.specs.declared.lines.Line.{Line}
use Rattle.instance_text.specs.Placed.{is_placed}
use Rattle.instance_text.specs.Show.{show}

-- the number of digits that follow those of n, where it is below 10 * 2 ^ 60
unfoldable pub number_after : ℕ → List ℕ → Option ℕ
number_after n [] = Some n
number_after n (c ∷ cs) = if is_ascii_digit c && nat_lt n (2 ^ 60) then number_after (n * 10 + (c - 48)) cs else None

-- an integer of 64 bits, with its sign
unfoldable pub negative : ℕ → Option ℤ
negative n = if nat_le n (2 ^ 63) then Some (neg_ℤ (pos n)) else None

unfoldable pub positive : ℕ → Option ℤ
positive n = if nat_lt n (2 ^ 63) then Some (pos n) else None

unfoldable pub integer : List ℕ → Option ℤ
integer text = if slice_index text 0 == 45 then option_and_then negative (number_after 0 (drop 1 text)) else option_and_then positive (number_after 0 text)

-- the first clafer that is shown so, from the clafer c on
unfoldable pub clafer_from : ℕ → List (List ℕ) → List ℕ → Option ℕ
clafer_from c [] name = None
clafer_from c (n ∷ ns) name = if bytes_eq n name then (if nat_lt c (2 ^ 32) then Some c else None) else clafer_from (c + 1) ns name

abbrev pub clafer_named : List (List ℕ) → List ℕ → Option ℕ
clafer_named names name = clafer_from 0 names name

-- a node, and how many bytes it takes
unfoldable pub numbered : ℕ → ℕ → Option ℕ → Option (Node × ℕ)
numbered clafer used number = option_and_then (λ n. if nat_lt n (2 ^ 32) then Some (record { clafer = clafer; number = n }, used) else None) number

unfoldable pub node_with : List ℕ → ℕ → ℕ → Option (Node × ℕ)
node_with text name clafer =
    let digits = prefix_len is_ascii_digit (drop (name + 1) text) in
    numbered clafer (name + 1 + digits) (number_after 0 (take digits (drop (name + 1) text)))

unfoldable pub node_at : List (List ℕ) → List ℕ → Option (Node × ℕ)
node_at names text =
    let name = prefix_len (λ b. not (b == 36)) text in
    if nat_lt name (length text) then option_and_then (node_with text name) (clafer_named names (take name text)) else None

-- what a node refers to, and how many bytes that takes
unfoldable pub target_at : List (List ℕ) → List ℕ → Option (Option Target × ℕ)
target_at names text =
    if starts_with nat_eq text (codes " = ")
    then (let digits = prefix_len (λ b. is_ascii_digit b || (b == 45)) (drop 3 text) in option_map (λ z. (Some (target.Int z), 3 + digits)) (integer (take digits (drop 3 text))))
    else if starts_with nat_eq text (codes " -> ")
    then option_map (λ r. (Some (target.Node r.0), 4 + r.1)) (node_at names (drop 4 text))
    else Some (None, 0)

-- a line, and how many bytes it takes
unfoldable pub line_end : List ℕ → ℕ → Line → Option (Line × ℕ)
line_end text used line = if nat_lt used (length text) && (slice_index text used == 10) then Some (line, used + 1) else None

unfoldable pub line_with : List (List ℕ) → List ℕ → ℕ → Node × ℕ → Option (Line × ℕ)
line_with names text blanks r =
    option_and_then (λ t. line_end text (blanks + r.1 + t.1) (record { depth = blanks / 2; node = r.0; target = t.0 })) (target_at names (drop (blanks + r.1) text))

unfoldable pub line_read : List (List ℕ) → List ℕ → Option (Line × ℕ)
line_read names text =
    let blanks = prefix_len (λ b. b == 32) text in
    option_and_then (line_with names text blanks) (node_at names (drop blanks text))

-- the lines of a text, n at most
abbrev pub lines_read : ℕ → List (List ℕ) → List ℕ → Option (List Line)
lines_read n names [] = Some []
lines_read zero names (b ∷ bs) = None
lines_read (suc n) names (b ∷ bs) = option_and_then (λ r. option_map (λ ls. r.0 ∷ ls) (lines_read n names (drop r.1 (b ∷ bs)))) (line_read names (b ∷ bs))

-- the entries whose nodes are above the last one that was kept
abbrev pub rises : Option Node → Node → Bool
rises last n = option_map_or (λ m. is_before m n) last true

abbrev pub rising : Option Node → List Entry → List Entry
rising last [] = []
rising last (e ∷ es) = if rises last e.node then e ∷ rising (Some e.node) es else rising last es

-- an instance whose entries can stand in a tree, and whose text it is
abbrev pub checked : Model → List ℕ → List Entry → Option (List Entry)
checked model text entries = if list_all (is_placed model.clafers) entries && bytes_eq (show model entries) text then Some entries else None
