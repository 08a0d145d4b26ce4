-- The reader at one token.
use Rattle.std.proofs.Common.{◌≡◌, ℕ, ◌+◌, ◌-◌, ◌≤◌, ◌==◌, ◌&&◌, not, if◌then◌else◌, Bool, true, false, refl, sym, ◌∙◌, ap, subst, arith, Result, Ok, Err, IfOk, IfErr}
use Rattle.std.proofs.lemmas.Bool.Decides.{nat_tests}
use Rattle.clf_base.specs.declared.fault.Fault.{Fault}
use Rattle.clf_base.specs.declared.fault.Fault.TheVariants as fault
use Rattle.clf_base.specs.declared.fault.Span.{Span}
use Rattle.clf_tree.specs.declared.token.TokenKind.{TokenKind}
use Rattle.clafer_grammar.specs.Symbols.{Symbol}
use Rattle.clafer_parser.specs.declared.reading.Progress.{Progress}
use Rattle.clafer_parser.specs.declared.reading.Progress.TheVariants as p
use Rattle.clafer_parser.specs.declared.reading.Reader.{Reader}
use Rattle.clafer_parser.specs.Limits.{opens, closes, is_mark, is_end, depth_after, since_after, over, is_left_out, refusal, MayStand, WhenRefused}
use Rattle.clafer_parser.specs.Progress.{reader, stuck_at, Moves, Advances, Stops}

-- ---- limits

-- the limits as they are computed from tests
abbrev limit : Bool → Bool → Bool → Bool → Bool → ℕ
limit opening full marking ending long = if opening && full then 65 else (if not marking && (not ending && long) then 1001 else 0)

limit_values : (opening full marking ending long : Bool) (P : ℕ → Type 0) → (limit opening full marking ending long ≡ 0 → ⊥) →
    (limit opening full marking ending long ≡ 65 → P 65) → (limit opening full marking ending long ≡ 1001 → P 1001) → P (limit opening full marking ending long)
limit_values true true marking ending long P low deep far = deep refl
limit_values true false true ending long P low deep far = absurd (low refl)
limit_values true false false true long P low deep far = absurd (low refl)
limit_values true false false false true P low deep far = far refl
limit_values true false false false false P low deep far = absurd (low refl)
limit_values false full true ending long P low deep far = absurd (low refl)
limit_values false full false true long P low deep far = absurd (low refl)
limit_values false full false false true P low deep far = far refl
limit_values false full false false false P low deep far = absurd (low refl)

depth_stays : (opening closing marking ending : Bool) (depth since : ℕ) → limit opening (depth == 64) marking ending (since == 1000) ≡ 0 → depth ≤ 64 →
    (if opening then depth + 1 else (if closing then depth - 1 else depth)) ≤ 64
depth_stays true closing true ending depth since h low = grind (arith, nat_tests)
depth_stays true closing false true depth since h low = grind (arith, nat_tests)
depth_stays true closing false false depth since h low = grind (arith, nat_tests)
depth_stays false true marking ending depth since h low = omega arith
depth_stays false false marking ending depth since h low = low

since_stays : (opening marking ending : Bool) (depth since : ℕ) → limit opening (depth == 64) marking ending (since == 1000) ≡ 0 → since ≤ 1000 →
    (if marking then 0 else (if ending then since else since + 1)) ≤ 1000
since_stays opening true ending depth since h low = omega arith
since_stays opening false true depth since h low = low
since_stays true false false depth since h low = grind (arith, nat_tests)
since_stays false false false depth since h low = grind (arith, nat_tests)

-- ---- a token is refused

pub stops_over : (r : Reader) (token : Symbol) (value : ℕ) (why : Fault) → why ≡ fault.Refused (refusal 41 token.at value) → value ≡ over r.depth r.since token.kind →
    (value ≡ 0 → ⊥) → MayStand (stuck_at r.progress) token.at → WhenRefused why (Stops r token)
stops_over r token value why e g nonzero may =
    subst (λ w. WhenRefused w (Stops r token)) (sym e)
    (subst (λ v. Stops r token (refusal 41 token.at v)) (sym g)
    (limit_values (opens token.kind) (r.depth == 64) (is_mark token.kind) (is_end token.kind) (r.since == 1000) (λ v. Stops r token (refusal 41 token.at v))
    (λ z. nonzero (g ∙ z)) (λ z. Stops.too_deep may z) (λ z. Stops.too_long may z)))

pub stops_left_out : (r : Reader) (token : Symbol) (value : ℕ) (unused : Bool) (why : Fault) → why ≡ fault.Refused (refusal 42 token.at 0) →
    value ≡ over r.depth r.since token.kind → value ≡ 0 → unused ≡ is_left_out token.kind → unused ≡ true → MayStand (stuck_at r.progress) token.at →
    WhenRefused why (Stops r token)
stops_left_out r token value unused why e g z u t may =
    subst (λ w. WhenRefused w (Stops r token)) (sym e) (Stops.left_out may (sym g ∙ z) (sym u ∙ t))

pub stops_elsewhere : (token : Symbol) (at : Span) (depth since : ℕ) (why : Fault) → why ≡ fault.Refused (refusal 40 at 0) → (at ≡ token.at → ⊥) →
    WhenRefused why (Stops (reader (p.Stuck at) depth since) token)
stops_elsewhere token at depth since why e other =
    subst (λ w. WhenRefused w (Stops (reader (p.Stuck at) depth since) token)) (sym e) (Stops.unexpected refl (λ s. other (sym s)))

-- ---- the reader goes on

pub advances : (progress next : Progress) (depth since value : ℕ) (unused : Bool) (token : Symbol) (made : Reader) → Moves progress token next →
    made ≡ reader next (depth_after depth token) (since_after since token) → value ≡ over depth since token.kind → value ≡ 0 →
    unused ≡ is_left_out token.kind → unused ≡ false → depth ≤ 64 → since ≤ 1000 → Advances (reader progress depth since) token made
advances progress next depth since value unused token made m e g z u f low few =
    subst (λ n. Advances (reader progress depth since) token n) (sym e) (record {
      moves = m;
      depth = refl;
      since = refl;
      within = sym g ∙ z;
      used = sym u ∙ f;
      depth_low = depth_stays (opens token.kind) (closes token.kind) (is_mark token.kind) (is_end token.kind) depth since (sym g ∙ z) low;
      since_low = since_stays (opens token.kind) (is_mark token.kind) (is_end token.kind) depth since (sym g ∙ z) few;
    })

-- ---- results

pub ok_kept : {A E : Type 0} {P Q : A → Type 0} (r : Result A E) → IfOk r P → ((x : A) → P x → Q x) → IfOk r Q
ok_kept (Ok x) h f = f x h
ok_kept (Err e) h f = tt

pub err_kept : {A E : Type 0} {P Q : E → Type 0} (r : Result A E) → IfErr r P → ((e : E) → P e → Q e) → IfErr r Q
err_kept (Ok x) h f = tt
err_kept (Err e) h f = f e h
