-- What the tests of a view rest on, and that a flush ended exactly where it is decided so.
use Rattle.std.proofs.Common.{◌≡◌, ℕ, zero, suc, ◌+◌, ◌<◌, ◌==◌, Bool, true, false, Option, Some, None, refl, arith}
use Rattle.std.specs.Int.{bit_at}
use Rattle.std.specs.Prelude.{◌&&◌, not, IsTrue, ◌↔◌}
use Rattle.std.specs.Option.{IfSome}
use Rattle.nm_base.specs.Geometry.{Geometry}
use Rattle.nm_view.specs.Views.{Op}
use Rattle.nm_view.specs.Operations.{are_seen, AreSeen, is_answered, is_flush_ended, IsFlushEnded}

pub are_seen_more : (p seen : ℕ) → are_seen p seen ≡ true → (bit_at seen p == 1) ≡ true → are_seen (p + 1) seen ≡ true
are_seen_more p seen h b = let e : p + 1 ≡ suc p = omega arith in rw e (grind arith)

pub are_seen_not : (n p seen : ℕ) → p < n → (bit_at seen p == 1) ≡ false → are_seen n seen ≡ false
are_seen_not zero p seen lt b = let bad : ⊥ = omega arith in absurd bad
are_seen_not (suc n) p seen lt b = grind (arith, are_seen_not n p seen)

one_seen : (n p seen : ℕ) (b : Bool) → (p == n) ≡ b → p < suc n → (bit_at seen n == 1) ≡ true → AreSeen n seen → bit_at seen p ≡ 1
one_seen n p seen true e lt last rest = grind arith
one_seen n p seen false e lt last rest = rest p (grind arith)

pub AreSeen-are_seen : (n seen : ℕ) → are_seen n seen ≡ true → AreSeen n seen
AreSeen-are_seen zero seen e = λ p lt. absurd (omega (arith, lt))
AreSeen-are_seen (suc n) seen e =
    let last : (bit_at seen n == 1) ≡ true = grind arith in
    let rest : are_seen n seen ≡ true = grind arith in
    λ p lt. one_seen n p seen (p == n) refl lt last (AreSeen-are_seen n seen rest)

pub are_seen-AreSeen : (n seen : ℕ) → AreSeen n seen → are_seen n seen ≡ true
are_seen-AreSeen zero seen h = refl
are_seen-AreSeen (suc n) seen h =
    let last : bit_at seen n ≡ 1 = h n (omega arith) in
    let rest : are_seen n seen ≡ true = are_seen-AreSeen n seen (λ p lt. h p (omega (arith, lt))) in
    grind arith

ended_parts : (g : Geometry) (due : Bool) (flush : Option ℕ) (seen : ℕ) → (not due && is_answered g flush seen) ≡ true → (due ≡ false) × IfSome flush (λ _. AreSeen g.cpus seen)
ended_parts g true flush seen e = absurd (cc)
ended_parts g false None seen e = (refl, tt)
ended_parts g false (Some f) seen e = (refl, AreSeen-are_seen g.cpus seen e)

ended_whole : (g : Geometry) (due : Bool) (flush : Option ℕ) (seen : ℕ) → due ≡ false → IfSome flush (λ _. AreSeen g.cpus seen) → (not due && is_answered g flush seen) ≡ true
ended_whole g true flush seen e h = absurd (cc)
ended_whole g false None seen e h = refl
ended_whole g false (Some f) seen e h = are_seen-AreSeen g.cpus seen h

-- the flush ended exactly where it is decided so
pub IsFlushEnded-is : (g : Geometry) (o : Op) → is_flush_ended g o ≡ true → IsFlushEnded g o
IsFlushEnded-is g o e = let h = ended_parts g o.due o.flush o.seen e in record { made = h.0; seen = h.1 }

pub is-IsFlushEnded : (g : Geometry) (o : Op) → IsFlushEnded g o → is_flush_ended g o ≡ true
is-IsFlushEnded g o h = ended_whole g o.due o.flush o.seen h.made h.seen

pub flush_ended_both : (g : Geometry) (o : Op) (b : Bool) → b ≡ is_flush_ended g o → IsTrue b ↔ IsFlushEnded g o
flush_ended_both g o b e = rw e (λ t. IsFlushEnded-is g o t, λ h. is-IsFlushEnded g o h)
