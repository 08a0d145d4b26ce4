-- Pieces of a text are read as they are written.
use Rattle.std.proofs.Common.{◌≡◌, ℕ, zero, suc, ◌+◌, ◌-◌, ◌*◌, ◌/◌, ◌%◌, ◌^◌, ◌<◌, ◌≤◌, Bool, true, false, not, ◌&&◌, ◌||◌, List, [], ◌∷◌, ◌++◌, length, map, take, drop, cond, Option, Some, None, refl, ap, sym, subst, ◌∙◌, arith, ℤ, pos, negsuc, neg_ℤ, append-nil, append_assoc, true≢false}
use Rattle.std.specs.Prelude.{◌==◌, slice_get, slice_index, nat_lt, nat_le, nat_eq, bytes_eq, codes, decimal, int_le, int_lt, if◌then◌else◌}
use Rattle.std.specs.Fmt.{signed_decimal}
use Rattle.std.specs.Char.{is_ascii_digit}
use Rattle.std.specs.Option.{option_map, option_map_or, option_and_then}
use Rattle.std.specs.List.{prefix_len, starts_with, list_all, flat_map, AllByRecursion}
use Rattle.std.proofs.lemmas.Grind.{common_steps}
use Rattle.std.proofs.lemmas.Int.{ints}
use Rattle.std.proofs.lemmas.Fmt.{decimal_by_steps}
use Rattle.clf_tree.specs.declared.model.Clafer.{Clafer}
use Rattle.clf_tree.specs.declared.instance.Node.{Node}
use Rattle.clf_tree.specs.declared.instance.Target.{Target}
use Rattle.clf_tree.specs.declared.instance.Target.TheVariants as target
use Rattle.clf_tree.specs.declared.instance.Entry.{Entry}
use Rattle.instance_text.specs.declared.lines.Line.{Line}
use Rattle.instance_text.specs.Names.{shown_clafer, shown_node, shown_target}
use Rattle.instance_text.specs.Show.{indent, line}
use Rattle.instance_text.specs.Read.{is_held_node, is_held_target}
use Rattle.instance_text.specs.Reading.{number_after, negative, positive, integer, clafer_from, clafer_named, numbered, node_with, node_at, target_at, line_end, line_with, line_read, lines_read}
use Rattle.instance_text.proofs.Items.{and_left, and_right, and_both}
use Rattle.instance_text.proofs.Walk.{Place, line_of}

-- ---- fronts of texts

front : {X : Type 0} (xs ys : List X) → take (length xs) (xs ++ ys) ≡ xs
front [] ys = refl
front (x ∷ xs) ys = ap (λ zs. x ∷ zs) (front xs ys)

behind : {X : Type 0} (xs ys : List X) → drop (length xs) (xs ++ ys) ≡ ys
behind [] ys = refl
behind (x ∷ xs) ys = behind xs ys

-- a byte at which a run ends
abbrev Stops : (ℕ → Bool) → List ℕ → Type 0
Stops p [] = Unit {0}
Stops p (b ∷ bs) = p b ≡ false

stopped : (p : ℕ → Bool) (ys : List ℕ) → Stops p ys → prefix_len p ys ≡ 0
stopped p [] h = refl
stopped p (y ∷ ys) h = ap (λ b. cond b (1 + prefix_len p ys) 0) h

run : (p : ℕ → Bool) (xs ys : List ℕ) → list_all p xs ≡ true → Stops p ys → prefix_len p (xs ++ ys) ≡ length xs
run p [] ys all h = stopped p ys h
run p (x ∷ xs) ys all h =
    ap (λ b. cond b (1 + prefix_len p (xs ++ ys)) 0) (and_left (p x) (list_all p xs) all)
    ∙ (let e = run p xs ys (and_right (p x) (list_all p xs) all) h in omega (arith, e))

all_implied : (p q : ℕ → Bool) → ((b : ℕ) → p b ≡ true → q b ≡ true) → (xs : List ℕ) → list_all p xs ≡ true → list_all q xs ≡ true
all_implied p q h [] all = refl
all_implied p q h (x ∷ xs) all = and_both (q x) (list_all q xs) (h x (and_left (p x) (list_all p xs) all)) (all_implied p q h xs (and_right (p x) (list_all p xs) all))

all_two : (p : ℕ → Bool) (xs ys : List ℕ) → list_all p xs ≡ true → list_all p ys ≡ true → list_all p (xs ++ ys) ≡ true
all_two p [] ys h k = k
all_two p (x ∷ xs) ys h k = and_both (p x) (list_all p (xs ++ ys)) (and_left (p x) (list_all p xs) h) (all_two p xs ys (and_right (p x) (list_all p xs) h) k)

pub byte_same : (a b : ℕ) → nat_eq a b ≡ true → a ≡ b
byte_same a b h = grind (arith, common_steps)

byte_itself : (a : ℕ) → nat_eq a a ≡ true
byte_itself a = grind (arith, common_steps)

pub bytes_same : (xs ys : List ℕ) → bytes_eq xs ys ≡ true → xs ≡ ys
bytes_same [] [] h = refl
bytes_same [] (y ∷ ys) h = absurd (true≢false (sym h))
bytes_same (x ∷ xs) [] h = absurd (true≢false (sym h))
bytes_same (x ∷ xs) (y ∷ ys) h = ap (λ z. z ∷ xs) (byte_same x y (and_left (nat_eq x y) (bytes_eq xs ys) h)) ∙ ap (λ zs. y ∷ zs) (bytes_same xs ys (and_right (nat_eq x y) (bytes_eq xs ys) h))

pub bytes_itself : (xs : List ℕ) → bytes_eq xs xs ≡ true
bytes_itself [] = refl
bytes_itself (x ∷ xs) = and_both (nat_eq x x) (bytes_eq xs xs) (byte_itself x) (bytes_itself xs)

-- ---- numbers

digit_ok : (d : ℕ) → d < 10 → is_ascii_digit (48 + d) ≡ true
digit_ok d h = grind (arith, common_steps)

record IsDigits (n : ℕ) (ds : List ℕ) : Type 0 where
  all : list_all is_ascii_digit ds ≡ true
  value : n ≤ 2 ^ 63 → number_after 0 ds ≡ Some n

one_more : (m n c : ℕ) (ds : List ℕ) → number_after m ds ≡ Some n → is_ascii_digit c ≡ true → n < 2 ^ 60 → number_after m (ds ++ c ∷ []) ≡ Some (n * 10 + (c - 48))
unfolding number_after
one_more m n c [] h digit small =
    let e : m ≡ n = some_same m n h in
    ap (λ b. if b then Some (m * 10 + (c - 48)) else None) (and_both (is_ascii_digit c) (nat_lt m (2 ^ 60)) digit (less m (subst (λ z. z < 2 ^ 60) (sym e) small)))
    ∙ ap (λ z. Some (z * 10 + (c - 48))) e
  where
    some_same : (a b : ℕ) → Some a ≡ Some b → a ≡ b
    some_same a b q = (cc)

    less : (a : ℕ) → a < 2 ^ 60 → nat_lt a (2 ^ 60) ≡ true
    less a q = grind (arith, common_steps)
one_more m n c (d ∷ ds) h digit small = by (is_ascii_digit d && nat_lt m (2 ^ 60)) h (λ k. one_more (m * 10 + (d - 48)) n c ds k digit small)
  where
    by : (b : Bool) → (if b then number_after (m * 10 + (d - 48)) ds else None) ≡ Some n → (number_after (m * 10 + (d - 48)) ds ≡ Some n → number_after (m * 10 + (d - 48)) (ds ++ c ∷ []) ≡ Some (n * 10 + (c - 48)))
        → (if b then number_after (m * 10 + (d - 48)) (ds ++ c ∷ []) else None) ≡ Some (n * 10 + (c - 48))
    by true k rest = rest k
    by false k rest = (cc)

first_digit : (n : ℕ) → n < 10 → IsDigits n ((48 + n) ∷ [])
unfolding number_after
first_digit n h = record {
  all = and_both (is_ascii_digit (48 + n)) true (digit_ok n h) refl;
  value = λ small. ap (λ b. if b then Some (0 * 10 + (48 + n - 48)) else None) (and_both (is_ascii_digit (48 + n)) (nat_lt 0 (2 ^ 60)) (digit_ok n h) refl) ∙ ap (λ z. Some z) (omega arith);
}

next_digit : (n : ℕ) (ds : List ℕ) → 10 ≤ n → IsDigits (n / 10) ds → IsDigits n (ds ++ ((48 + n % 10) ∷ []))
next_digit n ds h d = record {
  all = all_two is_ascii_digit ds ((48 + n % 10) ∷ []) d.all (and_both (is_ascii_digit (48 + n % 10)) true (digit_ok (n % 10) (omega arith)) refl);
  value = λ small. one_more 0 (n / 10) (48 + n % 10) ds (d.value (omega (arith, small))) (digit_ok (n % 10) (omega arith)) (omega (arith, small)) ∙ ap (λ z. Some z) (omega arith);
}

written : (n : ℕ) → n < 2 ^ 64 → IsDigits n (decimal n)
written n h = decimal_by_steps IsDigits first_digit next_digit n h

small_positive : (n : ℕ) → is_held_target (target.Int (pos n)) ≡ true → n < 2 ^ 63
small_positive n h = above n (and_right (int_le (neg_ℤ (pos (2 ^ 63))) (pos n)) (int_lt (pos n) (pos (2 ^ 63))) h)
  where
    above : (m : ℕ) → int_lt (pos m) (pos (2 ^ 63)) ≡ true → m < 2 ^ 63
    above m k = grind (arith, ints)

small_negative : (n : ℕ) → is_held_target (target.Int (negsuc n)) ≡ true → suc n ≤ 2 ^ 63
small_negative n h = below n (and_left (int_le (neg_ℤ (pos (2 ^ 63))) (negsuc n)) (int_lt (negsuc n) (pos (2 ^ 63))) h)
  where
    below : (m : ℕ) → int_le (neg_ℤ (pos (2 ^ 63))) (negsuc m) ≡ true → suc m ≤ 2 ^ 63
    below m k = grind (arith, ints)

no_minus : (ds : List ℕ) → list_all is_ascii_digit ds ≡ true → (slice_index ds 0 == 45) ≡ false
no_minus [] h = refl
no_minus (d ∷ ds) h = other d (and_left (is_ascii_digit d) (list_all is_ascii_digit ds) h)
  where
    other : (c : ℕ) → is_ascii_digit c ≡ true → (c == 45) ≡ false
    other c k = grind (arith, common_steps)

integer_written : (z : ℤ) → is_held_target (target.Int z) ≡ true → integer (signed_decimal z) ≡ Some z
unfolding integer positive negative
integer_written (pos n) h =
    let small = small_positive n h in
    let d = written n (omega (arith, small)) in
    ap (λ b. if b then option_and_then negative (number_after 0 (drop 1 (decimal n))) else option_and_then positive (number_after 0 (decimal n))) (no_minus (decimal n) d.all)
    ∙ ap (option_and_then positive) (d.value (omega (arith, small))) ∙ ap (λ b. if b then Some (pos n) else None) (less n small)
  where
    less : (a : ℕ) → a < 2 ^ 63 → nat_lt a (2 ^ 63) ≡ true
    less a q = grind (arith, common_steps)
integer_written (negsuc n) h =
    let small = small_negative n h in
    let d = written (suc n) (omega (arith, small)) in
    ap (option_and_then negative) (d.value (omega (arith, small))) ∙ ap (λ b. if b then Some (neg_ℤ (pos (suc n))) else None) (less (suc n) small)
  where
    less : (a : ℕ) → a ≤ 2 ^ 63 → nat_le a (2 ^ 63) ≡ true
    less a q = grind (arith, common_steps)

abbrev is_integer_byte : ℕ → Bool
is_integer_byte b = is_ascii_digit b || (b == 45)

integer_bytes : (z : ℤ) → is_held_target (target.Int z) ≡ true → list_all is_integer_byte (signed_decimal z) ≡ true
integer_bytes (pos n) h = let small = small_positive n h in all_implied is_ascii_digit is_integer_byte digit (decimal n) (written n (omega (arith, small))).all
  where
    digit : (b : ℕ) → is_ascii_digit b ≡ true → (is_ascii_digit b || (b == 45)) ≡ true
    digit b k = ap (λ c. c || (b == 45)) k
integer_bytes (negsuc n) h = let small = small_negative n h in all_implied is_ascii_digit is_integer_byte digit (decimal (suc n)) (written (suc n) (omega (arith, small))).all
  where
    digit : (b : ℕ) → is_ascii_digit b ≡ true → (is_ascii_digit b || (b == 45)) ≡ true
    digit b k = ap (λ c. c || (b == 45)) k

-- ---- nodes

-- a byte of a shown clafer is no `$` and no blank
abbrev pub is_name_part : ℕ → Bool
is_name_part b = not (b == 36) && not (b == 32)

-- each clafer is found by how it is shown
pub record AreNames (clafers : List Clafer) (names : List (List ℕ)) : Type 0 where
  pub parts : (c : ℕ) → list_all is_name_part (shown_clafer clafers c) ≡ true
  pub found : (c : ℕ) → c < length clafers → c < 2 ^ 32 → clafer_named names (shown_clafer clafers c) ≡ Some c

-- a node of a listed clafer whose numbers have room
pub record IsGoodNode (clafers : List Clafer) (n : Node) : Type 0 where
  pub listed : n.clafer < length clafers
  pub clafer : n.clafer < 2 ^ 32
  pub number : n.number < 2 ^ 32

abbrev pub IsGoodTarget : List Clafer → Option Target → Type 0
IsGoodTarget clafers None = Unit {0}
IsGoodTarget clafers (Some (target.Int z)) = is_held_target (target.Int z) ≡ true
IsGoodTarget clafers (Some (target.Node n)) = IsGoodNode clafers n

pub record IsGood (clafers : List Clafer) (e : Entry) : Type 0 where
  pub node : IsGoodNode clafers e.node
  pub target : IsGoodTarget clafers e.target

no_dollar : (b : ℕ) → is_name_part b ≡ true → not (b == 36) ≡ true
no_dollar b h = and_left (not (b == 36)) (not (b == 32)) h

shorter_front : (xs ys : List ℕ) (y : ℕ) → nat_lt (length xs) (length (xs ++ y ∷ ys)) ≡ true
shorter_front [] ys y = less (length ys)
  where
    less : (n : ℕ) → nat_lt 0 (suc n) ≡ true
    less n = grind (arith, common_steps)
shorter_front (x ∷ xs) ys y = next (length xs) (length (xs ++ y ∷ ys)) (shorter_front xs ys y)
  where
    next : (m n : ℕ) → nat_lt m n ≡ true → nat_lt (suc m) (suc n) ≡ true
    next m n h = grind (arith, common_steps)

past : (xs ys : List ℕ) (y : ℕ) → drop (length xs + 1) (xs ++ y ∷ ys) ≡ ys
past [] ys y = refl
past (x ∷ xs) ys y = ap (λ n. drop n (x ∷ xs ++ y ∷ ys)) (shift (length xs)) ∙ past xs ys y
  where
    shift : (n : ℕ) → suc n + 1 ≡ suc (n + 1)
    shift n = omega arith

module _ (clafers : List Clafer) (names : List (List ℕ)) (are : AreNames clafers names) where
  -- after a clafer and `$`
  number_read : (s : List ℕ) (c n : ℕ) (more : List ℕ) → c < 2 ^ 32 → n < 2 ^ 32 → Stops is_ascii_digit more
      → node_with (s ++ 36 ∷ (decimal n ++ more)) (length s) c ≡ Some (record { clafer = c; number = n }, length s + 1 + length (decimal n))
  unfolding node_with numbered
  number_read s c n more low small stops =
      let d = written n (omega (arith, small)) in
      let rest : drop (length s + 1) (s ++ 36 ∷ (decimal n ++ more)) ≡ decimal n ++ more = past s (decimal n ++ more) 36 in
      let long : prefix_len is_ascii_digit (decimal n ++ more) ≡ length (decimal n) = run is_ascii_digit (decimal n) more d.all stops in
      ap (λ t. numbered c (length s + 1 + prefix_len is_ascii_digit t) (number_after 0 (take (prefix_len is_ascii_digit t) t))) rest
      ∙ ap (λ k. numbered c (length s + 1 + k) (number_after 0 (take k (decimal n ++ more)))) long
      ∙ ap (λ t. numbered c (length s + 1 + length (decimal n)) (number_after 0 t)) (front (decimal n) more)
      ∙ ap (numbered c (length s + 1 + length (decimal n))) (d.value (omega (arith, small)))
      ∙ ap (λ b. if b then Some (record { clafer = c; number = n }, length s + 1 + length (decimal n)) else None) (less n small)
    where
      less : (a : ℕ) → a < 2 ^ 32 → nat_lt a (2 ^ 32) ≡ true
      less a q = grind (arith, common_steps)

  shown_length : (s ds : List ℕ) → length s + 1 + length ds ≡ length ((s ++ 36 ∷ []) ++ ds)
  shown_length s ds = grind (arith, common_steps)

  node_text : (s ds more : List ℕ) → ((s ++ 36 ∷ []) ++ ds) ++ more ≡ s ++ 36 ∷ (ds ++ more)
  node_text s ds more = simp append_assoc

  node_read : (n : Node) (more : List ℕ) → IsGoodNode clafers n → Stops is_ascii_digit more
      → node_at names (shown_node clafers n ++ more) ≡ Some (n, length (shown_node clafers n))
  unfolding node_at
  node_read n more good stops =
      let s = shown_clafer clafers n.clafer in
      let text = s ++ 36 ∷ (decimal n.number ++ more) in
      let long : prefix_len (λ b. not (b == 36)) text ≡ length s = run (λ b. not (b == 36)) s (36 ∷ (decimal n.number ++ more)) (all_implied is_name_part (λ b. not (b == 36)) no_dollar s (are.parts n.clafer)) refl in
      ap (node_at names) (node_text s (decimal n.number) more)
      ∙ ap (λ k. if nat_lt k (length text) then option_and_then (node_with text k) (clafer_named names (take k text)) else None) long
      ∙ ap (λ b. if b then option_and_then (node_with text (length s)) (clafer_named names (take (length s) text)) else None) (shorter_front s (decimal n.number ++ more) 36)
      ∙ ap (λ t. option_and_then (node_with text (length s)) (clafer_named names t)) (front s (36 ∷ (decimal n.number ++ more)))
      ∙ ap (option_and_then (node_with text (length s))) (are.found n.clafer good.listed good.clafer)
      ∙ number_read s n.clafer n.number more good.clafer good.number stops
      ∙ ap (λ k. Some (n, k)) (shown_length s (decimal n.number))

  -- ---- targets

  target_read : (t : Option Target) (more : List ℕ) → IsGoodTarget clafers t → target_at names (shown_target clafers t ++ 10 ∷ more) ≡ Some (t, length (shown_target clafers t))
  unfolding target_at
  target_read None more good = refl
  target_read (Some (target.Int z)) more good =
      let long : prefix_len is_integer_byte (signed_decimal z ++ 10 ∷ more) ≡ length (signed_decimal z) = run is_integer_byte (signed_decimal z) (10 ∷ more) (integer_bytes z good) refl in
      ap (λ k. option_map (λ y. (Some (target.Int y), 3 + k)) (integer (take k (signed_decimal z ++ 10 ∷ more)))) long
      ∙ ap (λ l. option_map (λ y. (Some (target.Int y), 3 + length (signed_decimal z))) (integer l)) (front (signed_decimal z) (10 ∷ more))
      ∙ ap (option_map (λ y. (Some (target.Int y), 3 + length (signed_decimal z)))) (integer_written z good)
      ∙ ap (λ k. Some (Some (target.Int z), k)) (three (length (signed_decimal z)))
    where
      three : (k : ℕ) → 3 + k ≡ suc (suc (suc k))
      three k = omega arith
  target_read (Some (target.Node n)) more good =
      ap (option_map (λ r. (Some (target.Node r.0), 4 + r.1))) (node_read n (10 ∷ more) good refl) ∙ ap (λ k. Some (Some (target.Node n), k)) (four (length (shown_node clafers n)))
    where
      four : (k : ℕ) → 4 + k ≡ suc (suc (suc (suc k)))
      four k = omega arith

  target_stops : (t : Option Target) (more : List ℕ) → Stops is_ascii_digit (shown_target clafers t ++ 10 ∷ more)
  target_stops None more = refl
  target_stops (Some (target.Int z)) more = refl
  target_stops (Some (target.Node n)) more = refl

  -- ---- lines

  length_two : (xs ys : List ℕ) → length (xs ++ ys) ≡ length xs + length ys
  length_two xs ys = grind (arith, common_steps)

  double : (d : ℕ) → length (indent d) ≡ d * 2
  double zero = refl
  double (suc d) = length_two (indent d) (32 ∷ 32 ∷ []) ∙ two (length (indent d)) d (double d)
    where
      two : (m k : ℕ) → m ≡ k * 2 → m + 2 ≡ suc k * 2
      two m k e = omega (arith, e)

  all_blank : (d : ℕ) → list_all (λ b. b == 32) (indent d) ≡ true
  all_blank zero = refl
  all_blank (suc d) = all_two (λ b. b == 32) (indent d) (32 ∷ 32 ∷ []) (all_blank d) refl

  name_stops : (s ds more : List ℕ) → list_all is_name_part s ≡ true → Stops (λ b. b == 32) (((s ++ 36 ∷ []) ++ ds) ++ more)
  name_stops [] ds more h = refl
  name_stops (b ∷ bs) ds more h = other b (and_right (not (b == 36)) (not (b == 32)) (and_left (is_name_part b) (list_all is_name_part bs) h))
    where
      other : (c : ℕ) → not (c == 32) ≡ true → (c == 32) ≡ false
      other c k = grind (arith, common_steps)

  drop_two : (xs ys zs : List ℕ) → drop (length xs + length ys) (xs ++ (ys ++ zs)) ≡ zs
  drop_two [] ys zs = ap (λ n. drop n (ys ++ zs)) (zero_more (length ys)) ∙ behind ys zs
    where
      zero_more : (n : ℕ) → 0 + n ≡ n
      zero_more n = omega arith
  drop_two (x ∷ xs) ys zs = ap (λ n. drop n (x ∷ xs ++ (ys ++ zs))) (shift (length xs) (length ys)) ∙ drop_two xs ys zs
    where
      shift : (m n : ℕ) → suc m + n ≡ suc (m + n)
      shift m n = omega arith

  end_there : (xs ys : List ℕ) (k : ℕ) → k ≡ length xs → (nat_lt k (length (xs ++ 10 ∷ ys)) && (slice_index (xs ++ 10 ∷ ys) k == 10)) ≡ true
  end_there xs ys k e = ap (λ n. nat_lt n (length (xs ++ 10 ∷ ys)) && (slice_index (xs ++ 10 ∷ ys) n == 10)) e ∙ and_both _ _ (shorter_front xs ys 10) (there xs)
    where
      there : (zs : List ℕ) → (slice_index (zs ++ 10 ∷ ys) (length zs) == 10) ≡ true
      there [] = refl
      there (z ∷ zs) = there zs

  regroup : (a b c more : List ℕ) → (((a ++ b) ++ c) ++ 10 ∷ []) ++ more ≡ a ++ (b ++ (c ++ 10 ∷ more))
  regroup a b c more = simp append_assoc

  gather : (a b c more : List ℕ) → a ++ (b ++ (c ++ 10 ∷ more)) ≡ (a ++ (b ++ c)) ++ 10 ∷ more
  gather a b c more = simp append_assoc

  three_lengths : (a b c : List ℕ) → length a + length b + length c ≡ length (a ++ (b ++ c))
  three_lengths a b c = grind (arith, common_steps)

  line_length : (a b c : List ℕ) → length a + length b + length c + 1 ≡ length (((a ++ b) ++ c) ++ 10 ∷ [])
  line_length a b c = grind (arith, common_steps)

  line_read_back : (p : Place) (more : List ℕ) → IsGood clafers p.1 → line_read names (line clafers p.0 p.1 ++ more) ≡ Some (line_of p, length (line clafers p.0 p.1))
  unfolding line_read line_with line_end
  line_read_back p more good =
      let e = p.1 in
      let i = indent p.0 in
      let n = shown_node clafers e.node in
      let t = shown_target clafers e.target in
      let text = i ++ (n ++ (t ++ 10 ∷ more)) in
      let l : Line = record { depth = length i / 2; node = e.node; target = e.target } in
      let used = length i + length n + length t in
      let blank : prefix_len (λ b. b == 32) text ≡ length i = run (λ b. b == 32) i (n ++ (t ++ 10 ∷ more)) (all_blank p.0) (name_stops (shown_clafer clafers e.node.clafer) (decimal e.node.number) (t ++ 10 ∷ more) (are.parts e.node.clafer)) in
      ap (line_read names) (regroup i n t more)
      ∙ ap (λ k. option_and_then (line_with names text k) (node_at names (drop k text))) blank
      ∙ ap (λ z. option_and_then (line_with names text (length i)) (node_at names z)) (behind i (n ++ (t ++ 10 ∷ more)))
      ∙ ap (option_and_then (line_with names text (length i))) (node_read e.node (t ++ 10 ∷ more) good.node (target_stops e.target more))
      ∙ ap (λ z. option_and_then (λ r. line_end text (length i + length n + r.1) (record { depth = length i / 2; node = e.node; target = r.0 })) (target_at names z)) (drop_two i n (t ++ 10 ∷ more))
      ∙ ap (option_and_then (λ r. line_end text (length i + length n + r.1) (record { depth = length i / 2; node = e.node; target = r.0 }))) (target_read e.target more good.target)
      ∙ ap (λ z. if nat_lt used (length z) && (slice_index z used == 10) then Some (l, used + 1) else None) (gather i n t more)
      ∙ ap (λ b. if b then Some (l, used + 1) else None) (end_there (i ++ (n ++ t)) more used (three_lengths i n t))
      ∙ ap (λ k. Some (l, k)) (line_length i n t)
      ∙ ap (λ k. Some (with_depth k, length (line clafers p.0 e))) (half (length i) p.0 (double p.0))
    where
      with_depth : ℕ → Line
      with_depth k = record { depth = k; node = p.1.node; target = p.1.target }

      half : (m d : ℕ) → m ≡ d * 2 → m / 2 ≡ d
      half m d h = omega (arith, h)

  lines_step : (n : ℕ) (text : List ℕ) → 0 < length text → lines_read (suc n) names text ≡ option_and_then (λ r. option_map (λ ls. r.0 ∷ ls) (lines_read n names (drop r.1 text))) (line_read names text)
  lines_step n [] h = let no : ⊥ = omega (arith, h) in absurd no
  lines_step n (b ∷ bs) h = refl

  line_some : (p : Place) (more : List ℕ) → 0 < length (line clafers p.0 p.1 ++ more)
  line_some p more =
      let a = length_two (line clafers p.0 p.1) more in
      let b = line_length (indent p.0) (shown_node clafers p.1.node) (shown_target clafers p.1.target) in
      positive_sum (length (indent p.0) + length (shown_node clafers p.1.node) + length (shown_target clafers p.1.target)) (length (line clafers p.0 p.1)) (length more) (length (line clafers p.0 p.1 ++ more)) b a
    where
      positive_sum : (u v w x : ℕ) → u + 1 ≡ v → x ≡ v + w → 0 < x
      positive_sum u v w x e f = omega (arith, e, f)

  -- the lines of a text are read back
  pub lines_read_back : (ps : List Place) (n : ℕ) → AllByRecursion (λ p. IsGood clafers p.1) ps → length ps ≤ n → lines_read n names (flat_map (λ p. line clafers p.0 p.1) ps) ≡ Some (map line_of ps)
  lines_read_back [] n good h = refl
  lines_read_back (p ∷ ps) zero good h = let no : ⊥ = omega (arith, h) in absurd no
  lines_read_back (p ∷ ps) (suc n) good h =
      let rest = flat_map (λ q. line clafers q.0 q.1) ps in
      lines_step n (line clafers p.0 p.1 ++ rest) (line_some p rest)
      ∙ ap (option_and_then (λ r. option_map (λ ls. r.0 ∷ ls) (lines_read n names (drop r.1 (line clafers p.0 p.1 ++ rest))))) (line_read_back p rest good.0)
      ∙ ap (λ z. option_map (λ ls. line_of p ∷ ls) (lines_read n names z)) (behind (line clafers p.0 p.1) rest)
      ∙ ap (option_map (λ ls. line_of p ∷ ls)) (lines_read_back ps n good.1 (omega (arith, h)))

  pub enough_turns : (ps : List Place) → length ps ≤ length (flat_map (λ p. line clafers p.0 p.1) ps)
  enough_turns [] = omega arith
  enough_turns (p ∷ ps) =
      let rest = flat_map (λ q. line clafers q.0 q.1) ps in
      let a = length_two (line clafers p.0 p.1) rest in
      let b = line_length (indent p.0) (shown_node clafers p.1.node) (shown_target clafers p.1.target) in
      one_each (length (indent p.0) + length (shown_node clafers p.1.node) + length (shown_target clafers p.1.target)) (length (line clafers p.0 p.1)) (length rest) (length (line clafers p.0 p.1 ++ rest)) (length ps) b a (enough_turns ps)
    where
      one_each : (u v w x k : ℕ) → u + 1 ≡ v → x ≡ v + w → k ≤ w → suc k ≤ x
      one_each u v w x k e f h = omega (arith, e, f, h)

-- ---- what is read has room

-- whatever is found passes
abbrev pub Passes : {X : Type 0} → (X → Bool) → Option X → Type 0
Passes p o = option_map_or p o true ≡ true

passes_then : {X Y : Type 0} (p : Y → Bool) (f : X → Option Y) (o : Option X) → ((x : X) → o ≡ Some x → Passes p (f x)) → Passes p (option_and_then f o)
passes_then p f None h = refl
passes_then p f (Some x) h = h x refl

pub passes_map : {X Y : Type 0} (p : Y → Bool) (f : X → Y) (o : Option X) → ((x : X) → o ≡ Some x → p (f x) ≡ true) → Passes p (option_map f o)
passes_map p f None h = refl
passes_map p f (Some x) h = h x refl

passes_if : {X : Type 0} (p : X → Bool) (b : Bool) (x : X) → (b ≡ true → p x ≡ true) → Passes p (if b then Some x else None)
passes_if p true x h = h refl
passes_if p false x h = refl

passed : {X : Type 0} (p : X → Bool) (o : Option X) (x : X) → o ≡ Some x → Passes p o → p x ≡ true
passed p o x e h = ap (λ q. option_map_or p q true) (sym e) ∙ h

abbrev pub is_held_any : Target → Bool
is_held_any (target.Int z) = is_held_target (target.Int z)
is_held_any (target.Node n) = is_held_node n

abbrev pub is_held_line : Line → Bool
is_held_line l = is_held_node l.node && option_map_or is_held_any l.target true

node_room : (c used : ℕ) (o : Option ℕ) → nat_lt c (2 ^ 32) ≡ true → Passes (λ r. is_held_node r.0) (numbered c used o)
unfolding numbered
node_room c used o h =
    passes_then (λ r. is_held_node r.0) (λ n. if nat_lt n (2 ^ 32) then Some (record { clafer = c; number = n }, used) else None) o
    (λ n e. passes_if (λ r. is_held_node r.0) (nat_lt n (2 ^ 32)) (record { clafer = c; number = n }, used) (λ k. and_both (nat_lt c (2 ^ 32)) (nat_lt n (2 ^ 32)) h k))

room_from : (c : ℕ) (names : List (List ℕ)) (name : List ℕ) → Passes (λ c. nat_lt c (2 ^ 32)) (clafer_from c names name)
unfolding clafer_from
room_from c [] name = refl
room_from c (n ∷ ns) name = by (bytes_eq n name) (room_from (c + 1) ns name)
  where
    by : (b : Bool) → Passes (λ c. nat_lt c (2 ^ 32)) (clafer_from (c + 1) ns name) → Passes (λ c. nat_lt c (2 ^ 32)) (if b then (if nat_lt c (2 ^ 32) then Some c else None) else clafer_from (c + 1) ns name)
    by true rest = passes_if (λ c. nat_lt c (2 ^ 32)) (nat_lt c (2 ^ 32)) c (λ h. h)
    by false rest = rest

clafer_room : (names : List (List ℕ)) (name : List ℕ) → Passes (λ c. nat_lt c (2 ^ 32)) (clafer_named names name)
clafer_room names name = room_from 0 names name

node_with_room : (text : List ℕ) (name c : ℕ) → nat_lt c (2 ^ 32) ≡ true → Passes (λ r. is_held_node r.0) (node_with text name c)
unfolding node_with
node_with_room text name c h =
    let digits = prefix_len is_ascii_digit (drop (name + 1) text) in
    node_room c (name + 1 + digits) (number_after 0 (take digits (drop (name + 1) text))) h

nodes_room : (names : List (List ℕ)) (text : List ℕ) → Passes (λ r. is_held_node r.0) (node_at names text)
unfolding node_at
nodes_room names text = by (nat_lt name (length text))
  where
    name : ℕ
    name = prefix_len (λ b. not (b == 36)) text

    by : (b : Bool) → Passes (λ r. is_held_node r.0) (if b then option_and_then (node_with text name) (clafer_named names (take name text)) else None)
    by true =
        passes_then (λ r. is_held_node r.0) (node_with text name) (clafer_named names (take name text))
        (λ c e. node_with_room text name c (passed (λ k. nat_lt k (2 ^ 32)) (clafer_named names (take name text)) c e (clafer_room names (take name text))))
    by false = refl

negative_room : (n : ℕ) → Passes (λ z. is_held_target (target.Int z)) (negative n)
unfolding negative
negative_room n = passes_if (λ z. is_held_target (target.Int z)) (nat_le n (2 ^ 63)) (neg_ℤ (pos n)) (λ h. low n h)
  where
    low : (m : ℕ) → nat_le m (2 ^ 63) ≡ true → (int_le (neg_ℤ (pos (2 ^ 63))) (neg_ℤ (pos m)) && int_lt (neg_ℤ (pos m)) (pos (2 ^ 63))) ≡ true
    low m h = and_both _ _ (lower m h) (upper m)
      where
        lower : (k : ℕ) → nat_le k (2 ^ 63) ≡ true → int_le (neg_ℤ (pos (2 ^ 63))) (neg_ℤ (pos k)) ≡ true
        lower k g = grind (arith, ints, common_steps)

        upper : (k : ℕ) → int_lt (neg_ℤ (pos k)) (pos (2 ^ 63)) ≡ true
        upper k = grind (arith, ints)

positive_room : (n : ℕ) → Passes (λ z. is_held_target (target.Int z)) (positive n)
unfolding positive
positive_room n = passes_if (λ z. is_held_target (target.Int z)) (nat_lt n (2 ^ 63)) (pos n) (λ h. and_both _ _ (lower n) (upper n h))
  where
    lower : (k : ℕ) → int_le (neg_ℤ (pos (2 ^ 63))) (pos k) ≡ true
    lower k = grind (arith, ints)

    upper : (k : ℕ) → nat_lt k (2 ^ 63) ≡ true → int_lt (pos k) (pos (2 ^ 63)) ≡ true
    upper k g = grind (arith, ints, common_steps)

integer_room : (text : List ℕ) → Passes (λ z. is_held_target (target.Int z)) (integer text)
unfolding integer
integer_room text = by (slice_index text 0 == 45)
  where
    by : (b : Bool) → Passes (λ z. is_held_target (target.Int z)) (if b then option_and_then negative (number_after 0 (drop 1 text)) else option_and_then positive (number_after 0 text))
    by true = passes_then (λ z. is_held_target (target.Int z)) negative (number_after 0 (drop 1 text)) (λ n e. negative_room n)
    by false = passes_then (λ z. is_held_target (target.Int z)) positive (number_after 0 text) (λ n e. positive_room n)

abbrev is_held_found : Option Target × ℕ → Bool
is_held_found r = option_map_or is_held_any r.0 true

target_room : (names : List (List ℕ)) (text : List ℕ) → Passes is_held_found (target_at names text)
unfolding target_at
target_room names text = by (starts_with nat_eq text (codes " = ")) (starts_with nat_eq text (codes " -> "))
  where
    digits : ℕ
    digits = prefix_len (λ b. is_ascii_digit b || (b == 45)) (drop 3 text)

    by : (b c : Bool)
        → Passes is_held_found
        (if b then option_map (λ z. (Some (target.Int z), 3 + digits)) (integer (take digits (drop 3 text))) else if c then option_map (λ r. (Some (target.Node r.0), 4 + r.1)) (node_at names (drop 4 text)) else Some (None, 0))
    by true c =
        passes_map is_held_found (λ z. (Some (target.Int z), 3 + digits)) (integer (take digits (drop 3 text)))
        (λ z e. passed (λ y. is_held_target (target.Int y)) (integer (take digits (drop 3 text))) z e (integer_room (take digits (drop 3 text))))
    by false true =
        passes_map is_held_found (λ r. (Some (target.Node r.0), 4 + r.1)) (node_at names (drop 4 text)) (λ r e. passed (λ q. is_held_node q.0) (node_at names (drop 4 text)) r e (nodes_room names (drop 4 text)))
    by false false = refl

line_room : (names : List (List ℕ)) (text : List ℕ) → Passes (λ r. is_held_line r.0) (line_read names text)
unfolding line_read line_with line_end
line_room names text =
    let blanks = prefix_len (λ b. b == 32) text in
    passes_then (λ r. is_held_line r.0) (line_with names text blanks) (node_at names (drop blanks text))
    (λ n e. passes_then (λ r. is_held_line r.0) (λ t. line_end text (blanks + n.1 + t.1) (record { depth = blanks / 2; node = n.0; target = t.0 })) (target_at names (drop (blanks + n.1) text))
    (λ t f. passes_if (λ r. is_held_line r.0) (nat_lt (blanks + n.1 + t.1) (length text) && (slice_index text (blanks + n.1 + t.1) == 10)) (record { depth = blanks / 2; node = n.0; target = t.0 }, blanks + n.1 + t.1 + 1)
    (λ h. and_both _ _ (passed (λ q. is_held_node q.0) (node_at names (drop blanks text)) n e (nodes_room names (drop blanks text)))
    (passed is_held_found (target_at names (drop (blanks + n.1) text)) t f (target_room names (drop (blanks + n.1) text))))))

pub lines_room : (n : ℕ) (names : List (List ℕ)) (text : List ℕ) → Passes (list_all is_held_line) (lines_read n names text)
lines_room n names [] = refl
lines_room zero names (b ∷ bs) = refl
lines_room (suc n) names (b ∷ bs) =
    passes_then (list_all is_held_line) (λ r. option_map (λ ls. r.0 ∷ ls) (lines_read n names (drop r.1 (b ∷ bs)))) (line_read names (b ∷ bs))
    (λ r e. passes_map (list_all is_held_line) (λ ls. r.0 ∷ ls) (lines_read n names (drop r.1 (b ∷ bs)))
    (λ ls f. and_both _ _ (passed (λ q. is_held_line q.0) (line_read names (b ∷ bs)) r e (line_room names (b ∷ bs)))
    (passed (list_all is_held_line) (lines_read n names (drop r.1 (b ∷ bs))) ls f (lines_room n names (drop r.1 (b ∷ bs))))))

-- ---- one more line

pub turn_kept : (names : List (List ℕ)) (found found' : List Line) (rest rest' : List ℕ) (n k used : ℕ) (line : Line) (all : Option (List Line))
    → option_map (λ ls. found ++ ls) (lines_read n names rest) ≡ all → n ≡ suc k → (length rest ≡ 0 → ⊥) → line_read names rest ≡ Some (line, used) → rest' ≡ drop used rest → found' ≡ found ++ line ∷ []
    → option_map (λ ls. found' ++ ls) (lines_read k names rest') ≡ all
turn_kept names found found' [] rest' n k used line all is next some here left more = absurd (some refl)
turn_kept names found found' (b ∷ bs) rest' n k used line all is next some here left more =
    ap (λ z. option_map (λ ls. z ++ ls) (lines_read k names rest')) more
    ∙ ap (λ z. option_map (λ ls. (found ++ line ∷ []) ++ ls) (lines_read k names z)) left
    ∙ moved (lines_read k names (drop used (b ∷ bs)))
    ∙ ap (λ z. option_map (λ ls. found ++ ls) (option_and_then (λ r. option_map (λ ls. r.0 ∷ ls) (lines_read k names (drop r.1 (b ∷ bs)))) z)) (sym here)
    ∙ ap (λ z. option_map (λ ls. found ++ ls) (lines_read z names (b ∷ bs))) (sym next) ∙ is
  where
    moved : (o : Option (List Line)) → option_map (λ ls. (found ++ line ∷ []) ++ ls) o ≡ option_map (λ ls. found ++ ls) (option_map (λ ls. line ∷ ls) o)
    moved None = refl
    moved (Some ls) = ap (λ z. Some z) (append_assoc found (line ∷ []) ls)
