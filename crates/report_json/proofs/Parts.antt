-- One more part of a list.
use Rattle.std.proofs.Common.{◌≡◌, ℕ, zero, suc, ◌+◌, ◌<◌, Bool, true, false, cond, List, [], ◌∷◌, ◌++◌, length, map, take, get_or, flat_map, sym, ◌∙◌, ap, append_assoc, append-nil, arith}
use Rattle.std.specs.Prelude.{codes}
use Rattle.std.specs.List.{filter, range_with_len}
use Rattle.std.proofs.lemmas.Grind.{flat_map-append}
use Rattle.std.proofs.lemmas.List.{length-map, length-take-le, map-append}
use Rattle.std.proofs.Math.Seq.{take-suc}
use Rattle.std.proofs.Math.Dec.{eqb-suc-zero}
use Rattle.std.proofs.lemmas.List.Elements.{filter-append}
use Rattle.clf_tree.specs.Lists.{numbers_below}
use Rattle.report_json.specs.Commas.{comma}
use Rattle.report_json.specs.Json.{commas}

abbrev behind_comma : List ℕ → List ℕ
behind_comma y = codes "," ++ y

comma_later : (n : ℕ) → comma (suc n) ≡ codes ","
comma_later n = ap (λ b. cond b [] (codes ",")) (eqb-suc-zero n)

commas_push : (ys : List (List ℕ)) (y : List ℕ) → commas (ys ++ y ∷ []) ≡ commas ys ++ (comma (length ys) ++ y)
commas_push [] y = append-nil y
commas_push (x ∷ xs) y =
    ap (λ l. x ++ l)
    (flat_map-append behind_comma xs (y ∷ []) ∙ ap (λ l. flat_map behind_comma xs ++ l) (append-nil (behind_comma y)))
    ∙ sym (append_assoc x (flat_map behind_comma xs) (behind_comma y))
    ∙ ap (λ l. (x ++ flat_map behind_comma xs) ++ (l ++ y)) (sym (comma_later (length xs)))

regroup : (a b c d : List ℕ) → ((a ++ b) ++ c) ++ d ≡ a ++ (b ++ (c ++ d))
regroup a b c d = simp append_assoc

-- with the comma before it, and the part
pub part_more : {X : Type 0} (f : X → List ℕ) (xs : List X) (n : ℕ) (d : X) (start text with_comma next : List ℕ)
    → n < length xs
    → text ≡ start ++ commas (map f (take n xs)) → with_comma ≡ text ++ comma n → next ≡ with_comma ++ f (get_or xs n d)
    → next ≡ start ++ commas (map f (take (n + 1) xs))
part_more f xs n d start text with_comma next less h g k =
    let e : n + 1 ≡ suc n = omega arith in
    let more : take (n + 1) xs ≡ take n xs ++ get_or xs n d ∷ [] = ap (λ m. take m xs) e ∙ take-suc xs n d less in
    let parts = map f (take n xs) in
    let long : length parts ≡ n = length-map (take n xs) f ∙ length-take-le n xs (omega (arith, less)) in
    k ∙ ap (λ l. l ++ f (get_or xs n d)) (g ∙ ap (λ l. l ++ comma n) h)
    ∙ regroup start (commas parts) (comma n) (f (get_or xs n d))
    ∙ ap (λ l. start ++ l)
    (ap (λ m. commas parts ++ (comma m ++ f (get_or xs n d))) (sym long)
    ∙ sym (commas_push parts (f (get_or xs n d)))
    ∙ ap commas (sym (map-append f (take n xs) (get_or xs n d ∷ [])))
    ∙ ap (λ l. commas (map f l)) (sym more))

range_more : (a n : ℕ) → range_with_len a (suc n) ≡ range_with_len a n ++ (a + n) ∷ []
range_more a zero = let e : a ≡ a + 0 = omega arith in ap (λ k. k ∷ []) e
range_more a (suc n) =
    let e : (a + 1) + n ≡ a + suc n = omega arith in
    ap (λ l. a ∷ l) (range_more (a + 1) n ∙ ap (λ k. range_with_len (a + 1) n ++ k ∷ []) e)

number_more : (n : ℕ) → numbers_below (n + 1) ≡ numbers_below n ++ n ∷ []
number_more n =
    let e : n + 1 ≡ suc n = omega arith in
    let z : 0 + n ≡ n = omega arith in
    ap (range_with_len 0) e ∙ range_more 0 n ∙ ap (λ k. range_with_len 0 n ++ k ∷ []) z

-- a number that passes, and one that does not
pub number_kept : (p : ℕ → Bool) (n : ℕ) (list next : List ℕ) → p n ≡ true → list ≡ filter p (numbers_below n) → next ≡ list ++ n ∷ []
    → next ≡ filter p (numbers_below (n + 1))
number_kept p n list next t h g =
    g ∙ ap (λ l. l ++ n ∷ []) h
    ∙ ap (λ b. filter p (numbers_below n) ++ cond b (n ∷ []) []) (sym t)
    ∙ sym (filter-append p (numbers_below n) (n ∷ [])) ∙ ap (filter p) (sym (number_more n))

pub number_dropped : (p : ℕ → Bool) (n : ℕ) (list : List ℕ) → p n ≡ false → list ≡ filter p (numbers_below n)
    → list ≡ filter p (numbers_below (n + 1))
number_dropped p n list t h =
    h ∙ sym (append-nil (filter p (numbers_below n)))
    ∙ ap (λ b. filter p (numbers_below n) ++ cond b (n ∷ []) []) (sym t)
    ∙ sym (filter-append p (numbers_below n) (n ∷ [])) ∙ ap (filter p) (sym (number_more n))

-- nine parts one behind the other, the sixth of them in two
pub nine : {start t1 t2 t3 t4 t5 t6 t7 t8 t9 : List ℕ} (a b c d e f q g h i : List ℕ) → start ≡ [] → t1 ≡ start ++ a → t2 ≡ t1 ++ b
    → t3 ≡ t2 ++ c → t4 ≡ t3 ++ d → t5 ≡ t4 ++ e → t6 ≡ t5 ++ (f ++ q) → t7 ≡ t6 ++ g → t8 ≡ t7 ++ h → t9 ≡ t8 ++ i
    → t9 ≡ (((((((a ++ b) ++ c) ++ d) ++ (e ++ f)) ++ q) ++ g) ++ h) ++ i
nine a b c d e f q g h i p0 p1 p2 p3 p4 p5 p6 p7 p8 p9 =
    p9 ∙ ap (λ t. t ++ i) (p8 ∙ ap (λ t. t ++ h) (p7 ∙ ap (λ t. t ++ g) (p6 ∙ ap (λ t. t ++ (f ++ q))
    (p5 ∙ ap (λ t. t ++ e) (p4 ∙ ap (λ t. t ++ d) (p3 ∙ ap (λ t. t ++ c) (p2 ∙ ap (λ t. t ++ b)
    (p1 ∙ ap (λ t. t ++ a) p0)))))
    ∙ middle (((a ++ b) ++ c) ++ d) e f q)))
  where
    middle : (x y z w : List ℕ) → (x ++ y) ++ (z ++ w) ≡ (x ++ (y ++ z)) ++ w
    middle x y z w = simp append_assoc
