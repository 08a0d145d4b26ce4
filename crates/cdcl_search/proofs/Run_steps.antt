-- What a conflict keeps of a search as a whole, and what the ends of a run mean.
use Rattle.std.proofs.Common.{ℕ, [], ◌∷◌, ◌++◌, ◌≡◌, ◌*◌, ◌<◌, ◌≤◌, ◌≢◌, ◌⊎◌, List, length, get_or, take, inl, inr, arith, refl, ap, sym, ◌∙◌, length-append, IsTrue}
use Rattle.std.proofs.Math.ListN.{get_or-append}
use Rattle.std.proofs.Math.Seq.{get_or-append_seam, take-append_seam}
use Rattle.std.proofs.lemmas.List.{take-append-le, append-nil, append_assoc}
use Rattle.std.proofs.lemmas.Bool.{cases_eq}
use Rattle.cdcl_search.specs.Literals.{Has}
use Rattle.cdcl_search.specs.States.{IsState, AreQuiet}
use Rattle.cdcl_search.specs.Watchings.{IsWatching}
use Rattle.cdcl_search.specs.Marks.{AreClear}
use Rattle.clause_store.specs.Resolution.{known_clauses}
use Rattle.cdcl_search.specs.Learnings.{IsNew, IsNoTautology}
use Rattle.cdcl_search.specs.Teachings.{Adds, IsTaught, IsRefuted}
use Rattle.cdcl_search.specs.Runs.{IsWhole, IsFresh, AreFresh, IsLonger, IsStep, given_clauses}
use Rattle.cdcl_search.specs.declared.engine.Engine.{Engine}
use Rattle.cdcl_search.specs.declared.trail.Trail.{Trail}
use Rattle.clause_store.specs.declared.derivation.Chain.{Chain}
use Rattle.cdcl_search.proofs.Members.{Has-at, Has-index}
use Rattle.cdcl_search.proofs.Resolution.{traced_lawful, known-push, named-push, IsLawful-push}
use Rattle.cdcl_search.proofs.Trail_steps.{false_placed}

pub given_stays : (g : ℕ) (store store' : List (List ℕ)) (c : List ℕ) → g ≤ length store → store' ≡ store ++ c ∷ [] → take g store' ≡ take g store
given_stays g store store' c h e = ap (take g) e ∙ take-append-le g store (c ∷ []) h

-- a search with one lawful chain more
more_whole : (old new : Engine) (chain : Chain) (codes : List ℕ) → IsWhole old → IsState new.arena new.trail → IsWatching new.arena new.trail new.watches → length new.analysis.marks.items ≡ length new.trail.literals.items → (IsTrue new.is_clear → AreClear new.analysis.marks.items) → new.given ≡ old.given
    → Adds old.arena old.chains.items new.arena new.chains.items chain codes → IsWhole new
more_whole old new chain codes w s h m z g a =
    let t : take new.given new.arena ≡ take old.given old.arena = ap (λ x. take x new.arena) g ∙ given_stays old.given old.arena new.arena codes w.given a.clause_added in
    let k = traced_lawful old.arena (known_clauses (given_clauses old) old.chains.items) chain codes w.named a.traced a.result_is in
    let n = named-push old.arena (known_clauses (given_clauses old) old.chains.items) codes chain.result w.named a.result_is in
    record {
      state = s;
      watching = h;
      marks = m;
      clear = z;
      given = rw (g, a.clause_added, length-append old.arena (codes ∷ [])) (omega (arith, w.given));
      named = rw (t, a.chain_added, known-push (given_clauses old) old.chains.items chain, a.clause_added) n;
      lawful = rw (t, a.chain_added) (IsLawful-push (given_clauses old) old.chains.items chain w.lawful k);
    }

pub taught_whole : (old new : Engine) → IsWhole old → IsState new.arena new.trail → IsWatching new.arena new.trail new.watches → length new.analysis.marks.items ≡ length new.trail.literals.items → (IsTrue new.is_clear → AreClear new.analysis.marks.items) → new.given ≡ old.given
    → IsTaught old.arena old.chains.items new.arena new.chains.items → IsWhole new
taught_whole old new w s h m z g t = more_whole old new t.chain t.codes w s h m z g t.adds

pub refuted_whole : (old new : Engine) → IsWhole old → IsState new.arena new.trail → IsWatching new.arena new.trail new.watches → length new.analysis.marks.items ≡ length new.trail.literals.items → (IsTrue new.is_clear → AreClear new.analysis.marks.items) → new.given ≡ old.given
    → IsRefuted old.arena old.chains.items new.arena new.chains.items → IsWhole new
refuted_whole old new w s h m z g t = more_whole old new t.chain [] w s h m z g t.adds

pub same_whole : (old new : Engine) → IsWhole old → IsState new.arena new.trail → IsWatching new.arena new.trail new.watches → length new.analysis.marks.items ≡ length new.trail.literals.items → (IsTrue new.is_clear → AreClear new.analysis.marks.items) → new.given ≡ old.given
    → new.arena ≡ old.arena → new.chains.items ≡ old.chains.items → IsWhole new
same_whole old new w s h m z g ea ec = record {
  state = s;
  watching = h;
  marks = m;
  clear = z;
  given = rw (g, ea) w.given;
  named = rw (g, ea, ec) w.named;
  lawful = rw (g, ea, ec) w.lawful;
}

-- a clause that comes changes no earlier one
fresh_kept : (store : List (List ℕ)) (c : List ℕ) (i : ℕ) → i < length store → IsFresh store i → IsFresh (store ++ c ∷ []) i
fresh_kept store c i h f = record {
  new = rw (take-append-le i store (c ∷ []) (omega arith), get_or-append store (c ∷ []) [] i h) f.new;
  no_tautology = rw (get_or-append store (c ∷ []) [] i h) f.no_tautology;
  some = rw (get_or-append store (c ∷ []) [] i h) f.some;
}

fresh_last : (store : List (List ℕ)) (c : List ℕ) → IsNew store c → IsNoTautology c → 0 < length c → IsFresh (store ++ c ∷ []) (length store)
fresh_last store c n t p = record {
  new = rw (take-append_seam store (c ∷ []), get_or-append_seam store c [] []) n;
  no_tautology = rw (get_or-append_seam store c [] []) t;
  some = rw (get_or-append_seam store c [] []) p;
}

pub AreFresh-push : (from : ℕ) (store store' : List (List ℕ)) (c : List ℕ) → AreFresh from store → store' ≡ store ++ c ∷ [] → IsNew store c → IsNoTautology c → 0 < length c → AreFresh from store'
AreFresh-push from store store' c a e n t p i h k = elim (cases_eq i (length store)) [
  | inl q ↦ rw (e, q) (fresh_last store c n t p)
  | inr q ↦
      let b : i < length store = omega (arith, k, ap length e, length-append store (c ∷ [])) in
      rw e (fresh_kept store c i b (a i h b))
]

pub longer_none : (store : List (List ℕ)) (chains : List Chain) → IsLonger store chains store chains
longer_none store chains = record {
  more = [];
  grown = sym (append-nil chains);
  longer = omega arith;
  each = λ i h k. absurd (omega arith);
}

longer_added : (store store1 store2 : List (List ℕ)) (chains chains1 chains2 : List Chain) (chain : Chain) (codes : List ℕ) → IsLonger store chains store1 chains1 → Adds store1 chains1 store2 chains2 chain codes
    → IsFresh (store1 ++ codes ∷ []) (length store1) ⊎ (codes ≡ []) → IsLonger store chains store2 chains2
longer_added store store1 store2 chains chains1 chains2 chain codes l a f =
    let many = ap length a.clause_added ∙ length-append store1 (codes ∷ []) in
    record {
      more = l.more ++ chain ∷ [];
      grown = a.chain_added ∙ ap (λ x. x ++ chain ∷ []) l.grown ∙ append_assoc chains l.more (chain ∷ []);
      longer = let o = l.longer in omega arith;
      each = λ i h k. elim (cases_eq i (length store1)) [
        | inl q ↦ rw (a.clause_added, q) (elim f [ inl x ↦ inl x | inr x ↦ inr (get_or-append_seam store1 codes [] [] ∙ x) ])
        | inr q ↦
            let b : i < length store1 = omega arith in
            rw a.clause_added (elim (l.each i h b) [ inl x ↦ inl (fresh_kept store1 codes i b x) | inr x ↦ inr (get_or-append store1 (codes ∷ []) [] i b ∙ x) ])
      ];
    }

-- a conflict makes the store and the chains longer
pub longer_step : (store store1 store2 : List (List ℕ)) (chains chains1 chains2 : List Chain) → IsLonger store chains store1 chains1 → IsStep store1 chains1 store2 chains2 → IsLonger store chains store2 chains2
longer_step store store1 store2 chains chains1 chains2 l s = elim s [
  | inl e ↦ rw (e.same_store, e.same_chains) l
  | inr r ↦ elim r [
    | inl t ↦ longer_added store store1 store2 chains chains1 chains2 t.chain t.codes l t.adds (inl (fresh_last store1 t.codes t.new t.no_tautology t.some))
    | inr t ↦ longer_added store store1 store2 chains chains1 chains2 t.chain [] l t.adds (inr refl)
  ]
]

-- some literal is true, or each is false
one_true : (v c : List ℕ) → ((l : ℕ) → Has c l → get_or v l 0 ≡ 2 ⊎ get_or v l 0 ≡ 1) → ((l : ℕ) × Has c l × (get_or v l 0 ≡ 1)) ⊎ ((l : ℕ) → Has c l → get_or v l 0 ≡ 2)
one_true v [] h = inr (λ l x. absurd x)
one_true v (y ∷ c) h = elim (h y (inl refl)) [
  | inr e ↦ inl (y, inl refl, e)
  | inl e ↦ elim (one_true v c (λ l x. h l (inr x))) [
    | inl r ↦ inl (r.0, inr r.1, r.2)
    | inr r ↦ inr (λ l x. elim x [ inl q ↦ rw (← q) e | inr q ↦ r l q ])
  ]
]

pub satisfied : (store : List (List ℕ)) (t : Trail) (i : ℕ) → IsState store t → AreQuiet store t → ((l : ℕ) → l < 2 * length t.literals.items → get_or t.values.items l 0 ≢ 0) → i < length store
    → (l : ℕ) × Has (get_or store i []) l × (get_or t.values.items l 0 ≡ 1)
satisfied store t i s q n h =
    let two : (l : ℕ) → Has (get_or store i []) l → get_or t.values.items l 0 ≡ 2 ⊎ get_or t.values.items l 0 ≡ 1 = λ l x.
    let r = Has-index (get_or store i []) l x in
    let b : l < 2 * length t.literals.items = rw (← r.2) (s.within i h r.0 r.1) in
    elim (cases_eq (get_or t.values.items l 0) 2) [ inl e ↦ inl e | inr e ↦ inr (omega (arith, n l b, s.search.trail.at_most_two l)) ] in
    elim (one_true t.values.items (get_or store i []) two) [
      | inl r ↦ r
      | inr r ↦
          let x = q i h 0 (λ j k. inr (false_placed t.values.items t.places.items t.literals.items t.count (get_or (get_or store i []) j 0) s.search.trail (r (get_or (get_or store i []) j 0) (Has-at (get_or store i []) j k)))) in
          absurd (omega (arith, r 0 x.0, x.1.value))
    ]
