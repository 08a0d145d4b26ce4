-- A search before its first step.
use Rattle.std.proofs.Common.{ℕ, zero, suc, [], ◌∷◌, ◌++◌, ◌≡◌, ◌*◌, ◌<◌, inl, inr, List, length, map, get_or, take, arith, refl, ap, sym, ◌∙◌}
use Rattle.std.proofs.Math.Seq.{take-length}
use Rattle.cdcl_search.specs.Trails.{zeros, IsTrail}
use Rattle.cdcl_search.specs.States.{AreWithin}
use Rattle.cdcl_search.specs.Watchings.{IsWatching, IsCovered}
use Rattle.std.proofs.lemmas.List.{append-nil}
use Rattle.cdcl_search.specs.Derivations.{clause_of}
use Rattle.cdcl_search.proofs.Resolution.{named_given}
use Rattle.cdcl_search.specs.Runs.{IsWhole}
use Rattle.cdcl_search.specs.declared.engine.Engine.{Engine}
use Rattle.cdcl_search.specs.declared.trail.Trail.{Trail}
use Rattle.cdcl_search.specs.declared.watches.Watches.{Watches}

pub zero_push : (xs : List ℕ) → ((p : ℕ) → get_or xs p 0 ≡ 0) → (p : ℕ) → get_or (xs ++ 0 ∷ []) p 0 ≡ 0
zero_push [] h zero = refl
zero_push [] h (suc p) = refl
zero_push (x ∷ xs) h zero = h 0
zero_push (x ∷ xs) h (suc p) = zero_push xs (λ q. h (suc q)) p

pub zeros-all : (v : List ℕ) → ((p : ℕ) → get_or v p 0 ≡ 0) → zeros v ≡ length v
zeros-all [] h = refl
zeros-all (zero ∷ v) h = ap suc (zeros-all v (λ q. h (suc q)))
zeros-all (suc x ∷ v) h = absurd (let e : suc x ≡ 0 = h 0 in omega arith)

pub open_trail : (v w ls : List ℕ) → ((p : ℕ) → get_or v p 0 ≡ 0) → length v ≡ 2 * length ls → length w ≡ length ls → IsTrail v w ls 0
open_trail v w ls z a b = record {
  values_len = a;
  places_len = b;
  at_most_two = λ l. omega (arith, z l);
  is_true = λ k h. absurd (omega arith);
  placed = λ k h. absurd (omega arith);
  place_below = λ l h. absurd (omega (arith, z l, h));
  stands = λ l h. absurd (omega (arith, z l, h));
  true_opposite = λ l h. absurd (omega (arith, z l, h));
  false_opposite = λ l h. absurd (omega (arith, z l, h));
  open_count = omega (arith, zeros-all v z, a);
}

pub open_watching : (store : List (List ℕ)) (t : Trail) (w : Watches) (n : ℕ) → length t.literals.items ≡ n → t.count ≡ 0 → t.limits.items ≡ [] → ((p : ℕ) → get_or t.values.items p 0 ≡ 0)
    → IsCovered store w (length store) → w.done ≡ 0 → length w.lists ≡ 2 * n → IsWatching store t w
open_watching store t w n l c m z cov dn ll = record {
  room = record {
    firsts = cov.firsts;
    seconds = cov.seconds;
    lists = rw l ll;
    done = omega (arith, dn);
    limits = λ j h. absurd (omega (arith, h, ap length m));
  };
  covered = λ i h. elim (cov.covered i h) [
    | inl q ↦ inl q
    | inr q ↦ inr (
      q,
      record {
        here = record { first = λ f. absurd (omega (arith, z (get_or w.firsts.items i 0), f.value)); second = λ f. absurd (omega (arith, z (get_or w.seconds.items i 0), f.value)) };
        earlier = λ j k. absurd (omega (arith, k, ap length m));
      },
    )
  ];
}

pub open_whole : (s : Engine) (n : ℕ) → ((p : ℕ) → get_or s.trail.values.items p 0 ≡ 0) → length s.trail.values.items ≡ 2 * n → length s.trail.places.items ≡ n → length s.trail.reasons.items ≡ n → length s.trail.literals.items ≡ n
    → s.trail.count ≡ 0 → s.trail.limits.items ≡ [] → s.chains.items ≡ [] → length s.analysis.marks.items ≡ n → ((p : ℕ) → get_or s.analysis.marks.items p 0 ≡ 0) → s.given ≡ length s.arena → AreWithin s.arena n → 2 * n < 4294967296 → length s.arena < 2147483648 → IsCovered s.arena s.watches (length s.arena) → s.watches.done ≡ 0 → length s.watches.lists ≡ 2 * n → IsWhole s
open_whole s n z a b r l c m k q y g w f room cov dn ll =
    let t : take s.given s.arena ≡ s.arena = rw g (take-length s.arena) in
    record {
      state = record {
        search = record {
          trail = rw c (open_trail s.trail.values.items s.trail.places.items s.trail.literals.items z (omega (arith, a, l)) (b ∙ sym l));
          reasons_len = r ∙ sym l;
          reason_below = λ i h. absurd (omega (arith, h, c));
          forces = λ i h. absurd (omega (arith, h, c));
          decided = λ i h. absurd (omega (arith, h, c));
          limit_below = λ j h. absurd (omega (arith, h, ap length m));
          limits_rise = λ i j x h. absurd (omega (arith, h, ap length m));
          quiet = λ j h. absurd (omega (arith, h, ap length m));
        };
        within = rw l w;
        few = rw l f;
        store_few = omega (arith, room);
      };
      watching = open_watching s.arena s.trail s.watches n l c m z cov dn ll;
      marks = q ∙ sym l;
      clear = λ _. y;
      given = omega (arith, g);
      named = rw (t, k, append-nil (map clause_of s.arena)) (named_given s.arena);
      lawful = rw k tt;
    }
