-- The clafers of each name, and the entries of names.
use Rattle.std.proofs.Common.{◌≡◌, ℕ, zero, suc, ◌+◌, ◌<◌, ◌&&◌, Bool, true, false, List, [], ◌∷◌, ◌++◌, length, cond, Option, Some, None, refl, ap, sym, subst, ◌∙◌, arith}
use Rattle.std.specs.Prelude.{slice_get, bytes_eq, is_some, is_none, IsTrue, IfSome, MatchOption}
use Rattle.std.specs.Option.{option_map_or}
use Rattle.std.specs.List.{filter}
use Rattle.std.specs.Cmp.Lexicographic.{nat_list_eq_equiv}
use Rattle.std.proofs.lemmas.Slice.Eq.{bytes_eq-Decides}
use Rattle.std.proofs.lemmas.Bool.{true≢false}
use Rattle.clf_tree.specs.declared.model.Clafer.{Clafer}
use Rattle.clf_tree.specs.Lists.{numbers_below}
use Rattle.clf_tree.specs.Hierarchy.{parent_of}
use Rattle.clf_tree.specs.Named.{each, follows_parent}
use Rattle.name_resolver.specs.declared.outside.Found.{Found}
use Rattle.name_resolver.specs.declared.outside.Found.TheVariants as found
use Rattle.name_resolver.specs.declared.steps.Meant.TheVariants as meant
use Rattle.name_resolver.specs.Ways.{is_named}
use Rattle.name_resolver.specs.LookUp as result
use Rattle.name_resolver.specs.Outwards.{Means, is_at_top, at_top}
use Rattle.name_resolver.specs.Outwards as means
use Rattle.name_resolver.proofs.Members.{in_filter, in_numbers, nothing_in, got_below}
use Rattle.name_resolver.proofs.Numbers.{filter-kept, filter-dropped}
use Rattle.name_resolver.proofs.Meanings.{parent_before}
use Rattle.name_tables.specs.declared.table.NameEntry.{NameEntry}
use Rattle.name_tables.specs.Tables.{listed, named_among, HasEntries, IsEntry}

same_bytes : (x y : List ℕ) → bytes_eq x y ≡ true → x ≡ y
same_bytes x y e = (bytes_eq-Decides x y).0 e

pub grouped : (q name : List ℕ) (old : List ℕ → Option (List ℕ)) (mid new : Option (List ℕ)) (g : List ℕ) (c : ℕ) → g ≡ listed (old name)
    → mid ≡ cond (bytes_eq name q) None (old q) → new ≡ cond (bytes_eq name q) (Some (g ++ c ∷ [])) mid
    → listed new ≡ cond (bytes_eq q name) (listed (old q) ++ c ∷ []) (listed (old q))
grouped q name old mid new g c is removed put = by (bytes_eq name q) refl
  where
    by : (b : Bool) → bytes_eq name q ≡ b → listed new ≡ cond (bytes_eq q name) (listed (old q) ++ c ∷ []) (listed (old q))
    by true e =
        ap listed (put ∙ ap (λ b. cond b (Some (g ++ c ∷ [])) mid) e) ∙ ap (λ (xs : List ℕ). xs ++ c ∷ []) (is ∙ ap (λ z. listed (old z)) (same_bytes name q e))
        ∙ sym (ap (λ b. cond b (listed (old q) ++ c ∷ []) (listed (old q))) (nat_list_eq_equiv.symm q name ∙ e))
    by false e =
        ap listed (put ∙ ap (λ b. cond b (Some (g ++ c ∷ [])) mid) e ∙ removed ∙ ap (λ b. cond b None (old q)) e)
        ∙ sym (ap (λ b. cond b (listed (old q) ++ c ∷ []) (listed (old q))) (nat_list_eq_equiv.symm q name ∙ e))

named_is : (clafers : List Clafer) (i : ℕ) (k : Clafer) (q : List ℕ) → slice_get clafers i ≡ Some k → is_named clafers q i ≡ bytes_eq k.title.name q
named_is clafers i k q e = ap (λ (o : Option Clafer). option_map_or (λ z. bytes_eq z.title.name q) o false) e

-- one more clafer among those of the name
pub group_more : (clafers : List Clafer) (i : ℕ) (k : Clafer) (name q g new : List ℕ) → slice_get clafers i ≡ Some k → name ≡ k.title.name → g ≡ named_among clafers q i
    → new ≡ cond (bytes_eq q name) (g ++ i ∷ []) g → new ≡ named_among clafers q (i + 1)
group_more clafers i k name q g new e called was is = by (is_named clafers q i) refl
  where
    test : bytes_eq q name ≡ is_named clafers q i
    test = nat_list_eq_equiv.symm q name ∙ ap (λ z. bytes_eq z q) called ∙ sym (named_is clafers i k q e)

    by : (b : Bool) → is_named clafers q i ≡ b → new ≡ named_among clafers q (i + 1)
    by true h = is ∙ ap (λ b. cond b (g ++ i ∷ []) g) (test ∙ h) ∙ ap (λ xs. xs ++ i ∷ []) was ∙ sym (filter-kept (is_named clafers q) i h)
    by false h = is ∙ ap (λ b. cond b (g ++ i ∷ []) g) (test ∙ h) ∙ was ∙ sym (filter-dropped (is_named clafers q) i h)

push : (p : ℕ → Bool) (b : Bool) (x : ℕ) (ys : List ℕ) → filter p (cond b (x ∷ ys) ys) ≡ cond b (cond (p x) (x ∷ filter p ys) (filter p ys)) (filter p ys)
push p true x ys = refl
push p false x ys = refl

join : (a b : Bool) (x : ℕ) (zs : List ℕ) → cond b (cond a (x ∷ zs) zs) zs ≡ cond (a && b) (x ∷ zs) zs
join true true x zs = refl
join true false x zs = refl
join false true x zs = refl
join false false x zs = refl

pub filter_both : (p r : ℕ → Bool) (xs : List ℕ) → filter p (filter r xs) ≡ filter (λ x. p x && r x) xs
filter_both p r [] = refl
filter_both p r (x ∷ xs) =
    push p (r x) x (filter r xs) ∙ ap (λ zs. cond (r x) (cond (p x) (x ∷ zs) zs) zs) (filter_both p r xs) ∙ join (p x) (r x) x (filter (λ z. p z && r z) xs)

pub first_of : (clafers : List Clafer) (name ds : List ℕ) (top : Option ℕ) → ds ≡ named_among clafers name (length clafers) → top ≡ slice_get (filter (λ c. is_none (parent_of clafers c)) ds) 0
    → top ≡ slice_get (filter (is_at_top clafers name) (numbers_below (length clafers))) 0
first_of clafers name ds top e is =
    is ∙ ap (λ (xs : List ℕ). slice_get (filter (λ c. is_none (parent_of clafers c)) xs) 0) e
    ∙ ap (λ (xs : List ℕ). slice_get xs 0) (filter_both (λ c. is_none (parent_of clafers c)) (is_named clafers name) (numbers_below (length clafers)))

-- ---- entries

none_more : (clafers : List Clafer) (name : List ℕ) (i : ℕ) → named_among clafers name i ≡ [] → is_named clafers name i ≡ false → named_among clafers name (i + 1) ≡ []
none_more clafers name i none fails = filter-dropped (is_named clafers name) i fails ∙ none

-- the name of the clafer has an entry already
pub entry_there : (clafers : List Clafer) (i : ℕ) (k : Clafer) (name : List ℕ) (entry : List ℕ → Option NameEntry) → slice_get clafers i ≡ Some k → name ≡ k.title.name → is_some (entry name) ≡ true
    → HasEntries clafers i entry → HasEntries clafers (i + 1) entry
entry_there clafers i k name entry e called there has q = by (entry q) refl (has q)
  where
    by : (o : Option NameEntry) → entry q ≡ o → MatchOption o (named_among clafers q i ≡ []) (IsEntry clafers q) → MatchOption o (named_among clafers q (i + 1) ≡ []) (IsEntry clafers q)
    by (Some z) h is = is
    by None h none = none_more clafers q i none (fails (is_named clafers q i) refl)
      where
        fails : (b : Bool) → is_named clafers q i ≡ b → b ≡ false
        fails false f = refl
        fails true f =
            let same : name ≡ q = called ∙ same_bytes k.title.name q (sym (named_is clafers i k q e) ∙ f) in
            absurd (true≢false (sym there ∙ ap (λ (z : List ℕ). is_some (entry z)) same ∙ ap is_some h))

pub entry_more : (clafers : List Clafer) (i : ℕ) (k : Clafer) (name : List ℕ) (old new : List ℕ → Option NameEntry) (made : NameEntry) → slice_get clafers i ≡ Some k → name ≡ k.title.name
    → ((q : List ℕ) → new q ≡ cond (bytes_eq name q) (Some made) (old q)) → IsEntry clafers name made → HasEntries clafers i old → HasEntries clafers (i + 1) new
entry_more clafers i k name old new made e called put is has q = by (bytes_eq name q) refl
  where
    by : (b : Bool) → bytes_eq name q ≡ b → MatchOption (new q) (named_among clafers q (i + 1) ≡ []) (IsEntry clafers q)
    by true h =
        subst (λ (o : Option NameEntry). MatchOption o (named_among clafers q (i + 1) ≡ []) (IsEntry clafers q)) (sym (put q ∙ ap (λ b. cond b (Some made) (old q)) h))
        (subst (λ (z : List ℕ). IsEntry clafers z made) (same_bytes name q h) is)
    by false h =
        subst (λ (o : Option NameEntry). MatchOption o (named_among clafers q (i + 1) ≡ []) (IsEntry clafers q)) (sym (put q ∙ ap (λ b. cond b (Some made) (old q)) h)) (kept (old q) (has q))
      where
        kept : (o : Option NameEntry) → MatchOption o (named_among clafers q i ≡ []) (IsEntry clafers q) → MatchOption o (named_among clafers q (i + 1) ≡ []) (IsEntry clafers q)
        kept (Some z) y = y
        kept None none = none_more clafers q i none (named_is clafers i k q e ∙ ap (λ z. bytes_eq z q) (sym called) ∙ h)

-- ---- a name of no clafer

pub not_named : (clafers : List Clafer) (name : List ℕ) (d : ℕ) → named_among clafers name (length clafers) ≡ [] → is_named clafers name d ≡ true → ⊥
not_named clafers name d none named = by (slice_get clafers d) refl named
  where
    by : (o : Option Clafer) → slice_get clafers d ≡ o → option_map_or (λ k. bytes_eq k.title.name name) o false ≡ true → ⊥
    by None e h = true≢false (sym h)
    by (Some k) e h = nothing_in d (named_among clafers name (length clafers)) none (in_filter (is_named clafers name) d (numbers_below (length clafers)) named (in_numbers (length clafers) d (got_below clafers d k e)))

top_nothing : (clafers : List Clafer) (name : List ℕ) → named_among clafers name (length clafers) ≡ [] → at_top clafers name ≡ found.Nothing
top_nothing clafers name none =
    ap (λ (xs : List ℕ). option_map_or (λ c. found.Means (meant.Top c)) (slice_get xs 0) found.Nothing)
    (sym (filter_both (λ c. is_none (parent_of clafers c)) (is_named clafers name) (numbers_below (length clafers))) ∙ ap (filter (λ c. is_none (parent_of clafers c))) none)

pub nothing_from : (clafers : List Clafer) (name : List ℕ) → named_among clafers name (length clafers) ≡ [] → IsTrue (each clafers (follows_parent clafers)) → (n : ℕ) (context : Option ℕ) (out : ℕ)
    → ((c : ℕ) → context ≡ Some c → (c < n) × (c < length clafers)) → Means clafers name context out found.Nothing
nothing_from clafers name none all n None out within = subst (λ (f : Found). Means clafers name None out f) (top_nothing clafers name none) means.top
nothing_from clafers name none all zero (Some c) out within = let h = within c refl in absurd (omega (arith, h.0))
nothing_from clafers name none all (suc n) (Some c) out within =
    let h = within c refl in
    means.outside (result.nothing (λ way d hit. not_named clafers name d none hit.named)) refl
    (nothing_from clafers name none all n (parent_of clafers c) (out + 1)
    (λ p e. let before = parent_before clafers c p h.1 all e in (omega (arith, before, h.0), omega (arith, before, h.1))))

pub nothing_meant : (clafers : List Clafer) (name : List ℕ) (context : Option ℕ) (entry : Option NameEntry) → entry ≡ None → MatchOption entry (named_among clafers name (length clafers) ≡ []) (IsEntry clafers name)
    → IsTrue (each clafers (follows_parent clafers)) → IfSome context (λ c. c < length clafers) → Means clafers name context 0 found.Nothing
nothing_meant clafers name context entry e is all within =
    nothing_from clafers name (subst (λ (o : Option NameEntry). MatchOption o (named_among clafers name (length clafers) ≡ []) (IsEntry clafers name)) e is) all (length clafers) context 0
    (λ c h. let low : c < length clafers = subst (λ (o : Option ℕ). IfSome o (λ z. z < length clafers)) h within in (low, low))

pub entry_meant : (clafers : List Clafer) (name : List ℕ) (entry : Option NameEntry) (one : NameEntry) → entry ≡ Some one → MatchOption entry (named_among clafers name (length clafers) ≡ []) (IsEntry clafers name)
    → IsEntry clafers name one
entry_meant clafers name entry one e is = subst (λ (o : Option NameEntry). MatchOption o (named_among clafers name (length clafers) ≡ []) (IsEntry clafers name)) e is

-- ---- at top level

pub top_is : (clafers : List Clafer) (name : List ℕ) (entry : NameEntry) (f : Found) → f ≡ option_map_or (λ c. found.Means (meant.Top c)) entry.top found.Nothing → IsEntry clafers name entry → f ≡ at_top clafers name
top_is clafers name entry f e is = e ∙ ap (λ (o : Option ℕ). option_map_or (λ c. found.Means (meant.Top c)) o found.Nothing) is.top

pub no_entries : (clafers : List Clafer) (entry : List ℕ → Option NameEntry) → ((name : List ℕ) → entry name ≡ None) → HasEntries clafers 0 entry
no_entries clafers entry none name = subst (λ (o : Option NameEntry). MatchOption o (named_among clafers name 0 ≡ []) (IsEntry clafers name)) (sym (none name)) refl
