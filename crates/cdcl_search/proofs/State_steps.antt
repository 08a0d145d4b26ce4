-- What the steps of a search do to its state.
use Rattle.std.proofs.Common.{ℕ, [], ◌∷◌, ◌++◌, ◌≡◌, ◌+◌, ◌*◌, ◌/◌, ◌<◌, List, length, get_or, set, arith, ap, ◌∙◌}
use Rattle.std.proofs.Math.ListN.{length-set}
use Rattle.cdcl_search.specs.Literals.{Has}
use Rattle.cdcl_search.specs.Trails.{zeros, with_true}
use Rattle.cdcl_search.specs.Searches.{Forces}
use Rattle.cdcl_search.specs.States.{IsAssigned, IsState, AreWithin, AreQuiet}
use Rattle.cdcl_search.specs.declared.trail.Trail.{Trail}
use Rattle.cdcl_search.proofs.Members.{Has-index}
use Rattle.cdcl_search.proofs.Trail_steps.{zeros-with_true, opposite_open}
use Rattle.cdcl_search.proofs.Search_steps.{forced, chosen}

pub has_below : (store : List (List ℕ)) (n r l : ℕ) → AreWithin store n → r < length store → Has (get_or store r []) l → l < 2 * n
has_below store n r l w h k = let x = Has-index (get_or store r []) l k in rw (← x.2) (w r h x.0 x.1)

pub forced_state : (store : List (List ℕ)) (old new : Trail) (l r : ℕ) → IsState store old → IsAssigned old new l r → get_or old.values.items l 0 ≡ 0
    → r < length store → Forces old.values.items old.places.items (get_or store r []) l old.count → IsState store new
forced_state store old new l r s a o h f =
    let b : l < 2 * length old.literals.items = has_below store (length old.literals.items) r l s.within h f.has in
    let x = forced 4294967295 store old.values.items old.places.items old.reasons.items old.literals.items old.count old.limits.items l r s.search b o (λ q. omega (arith, q, h, s.store_few)) h f in
    record {
      search = rw (a.values, a.places, a.reasons, a.literals, a.count, a.limits) x;
      within = rw (a.literals, length-set) s.within;
      few = rw (a.literals, length-set) s.few;
      store_few = s.store_few;
    }

pub size_stays : (old new : Trail) (l r : ℕ) → IsAssigned old new l r → length new.literals.items ≡ length old.literals.items
size_stays old new l r a = ap length a.literals ∙ length-set old.literals.items old.count l

pub zeros_fall : (store : List (List ℕ)) (old new : Trail) (l r : ℕ) → IsState store old → IsAssigned old new l r → get_or old.values.items l 0 ≡ 0 → l < 2 * length old.literals.items
    → zeros new.values.items + 2 ≡ zeros old.values.items
zeros_fall store old new l r s a o b = rw a.values (zeros-with_true old.values.items l (length old.literals.items) s.search.trail.values_len b o (opposite_open _ _ _ _ l s.search.trail o))

pub chosen_state : (store : List (List ℕ)) (old new : Trail) (l : ℕ) → IsState store old → AreQuiet store old → get_or old.values.items l 0 ≡ 0 → l < 2 * length old.literals.items
    → new.values.items ≡ with_true old.values.items l → new.places.items ≡ set old.places.items (l / 2) old.count → new.reasons.items ≡ set old.reasons.items (l / 2) 4294967295
    → new.literals.items ≡ set old.literals.items old.count l → new.count ≡ old.count + 1 → new.limits.items ≡ old.limits.items ++ old.count ∷ [] → IsState store new
chosen_state store old new l s q o h av aw ar al ac am =
    let all = chosen 4294967295 store old.values.items old.places.items old.reasons.items old.literals.items old.count old.limits.items l s.search h o q in
    record {
      search = rw (av, aw, ar, al, ac, am) all;
      within = rw (al, length-set) s.within;
      few = rw (al, length-set) s.few;
      store_few = s.store_few;
    }
