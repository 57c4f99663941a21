use Rattle.std.proofs.Common.{◌≡◌, ℕ, zero, suc, ◌<◌, ◌≤◌, ◌+◌, ◌-◌, ◌/◌, ◌%◌, ◌^◌, List, [], ◌∷◌, ◌++◌, drop, decimal, refl, sym, ap, ◌∙◌, arith, append_assoc}
use Rattle.std.proofs.lemmas.Fmt.{decimal_digit, decimal_step}
use Rattle.std.proofs.lemmas.Grind.{drop-set_at}
use Rattle.std.proofs.lemmas.List.{length-set}
use Rattle.nm_text.proofs.numbers.put_digits.Goals as goal

-- a number of two digits or more has one digit fewer when it is divided by 10
one_place_fewer : (k n : ℕ) → 10 ≤ n → n < 10 ^ k → (2 ≤ k) × (n / 10 < 10 ^ (k - 1))
one_place_fewer zero n h small = absurd (omega arith)
one_place_fewer (suc zero) n h small = absurd (omega arith)
one_place_fewer (suc (suc j)) n h small =
    let left : suc (suc j) - 1 ≡ suc j = omega arith in
    (omega arith, rw left (omega arith))

pub loop-rest-preserved : goal.loop-rest-preserved
loop-rest-preserved c =
    let l = c.loop-rest in
    let end = drop l.start l.digits in
    let room = one_place_fewer l.start l.rest c.loop-rest-test.true l.invariant.places in
    let next : l.start - 1 + 1 ≡ l.start = omega arith in
    let spelled : decimal (l.rest / 10) ++ (48 + l.rest % 10) ∷ end ≡ decimal c.args.n =
    sym (append_assoc (decimal (l.rest / 10)) ((48 + l.rest % 10) ∷ []) end)
    ∙ ap (λ (t : List ℕ). t ++ end) (sym (decimal_step l.rest c.loop-rest-test.true l.auto.rest-fits.fits))
    ∙ l.invariant.written in
    record {
      low = omega (arith, room.0);
      high = omega arith;
      places = room.1;
      len = omega (arith, length-set l.digits (l.start - 1) (48 + l.rest % 10));
      written = rw (drop-set_at l.digits (l.start - 1) (l.start - 1) (48 + l.rest % 10) refl (omega arith), next) spelled;
    }

pub returns-clause-value : goal.returns-clause-value
returns-clause-value c =
    let l = c.loop-rest in
    let end = drop l.start l.digits in
    let next : l.start - 1 + 1 ≡ l.start = omega arith in
    let spelled : (48 + l.rest) ∷ end ≡ decimal c.args.n = ap (λ (t : List ℕ). t ++ end) (sym (decimal_digit l.rest c.loop-rest-test.false)) ∙ l.invariant.written in
    rw (drop-set_at l.digits (l.start - 1) (l.start - 1) (48 + l.rest) refl (omega arith), next) spelled
