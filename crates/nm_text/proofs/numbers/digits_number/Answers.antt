use Rattle.std.proofs.Common.{◌≡◌, ℕ, ◌<◌, ◌+◌, ◌*◌, ◌-◌, List, length, take, get_or, sym, arith, below_more}
use Rattle.std.specs.Int.{IsInRange}
use Rattle.std.specs.Str.Parse.{AllDigits, digits_value}
use Rattle.std.proofs.lemmas.Int.Digits.{digits_value_more}
use Rattle.std.proofs.lemmas.List.{take_all}
use Rattle.std.proofs.lemmas.Str.{digit_value_digit}
use Rattle.std.proofs.lemmas.Str.Parse.{digit_at, digits_value-take-le, numerals_by_value, tells_by_index}
use Rattle.nm_text.proofs.numbers.digits_number.Goals as goal

-- the value of one digit more
one_more : (ds : List ℕ) (i : ℕ) → i < length ds → IsInRange 48 57 (get_or ds i 0) → digits_value 10 (take (i + 1) ds) ≡ digits_value 10 (take i ds) * 10 + (get_or ds i 0 - 48)
one_more ds i within digit = omega (arith, digits_value_more 10 ds i within, digit_value_digit (get_or ds i 0) digit)

pub returns-then-not-is_ascii_digit : goal.returns-then-not-is_ascii_digit
returns-then-not-is_ascii_digit c = λ p.
    let digit = digit_at c.args.digits.now c.loop-byte.byte-index p.0 c.loop-byte-test.true in
    let other = sym c.if-not-is_ascii_digit.ensures.value in
    grind arith

pub returns-in_err-checked_mul : goal.returns-in_err-checked_mul
returns-in_err-checked_mul c = rw c.from_residual.ensures (λ p.
    let ds = c.args.digits.now in
    let i = c.loop-byte.byte-index in
    let digit = digit_at ds i p.0 c.loop-byte-test.true in
    c.in_err-checked_mul.ensures (omega (arith, one_more ds i c.loop-byte-test.true digit, digits_value-take-le 10 ds (i + 1) (omega arith), p.1)))

pub returns-in_err-number : goal.returns-in_err-number
returns-in_err-number c = rw c.from_residual-in_err-number.ensures (λ p.
    let ds = c.args.digits.now in
    let i = c.loop-byte.byte-index in
    let digit = digit_at ds i p.0 c.loop-byte-test.true in
    c.in_err-number.ensures (omega (arith, one_more ds i c.loop-byte-test.true digit, digits_value-take-le 10 ds (i + 1) (omega arith), p.1, c.in_ok-checked_mul.ensures)))

pub loop-byte-preserved : goal.loop-byte-preserved
loop-byte-preserved c =
    let ds = c.args.digits.now in
    let i = c.loop-byte.byte-index in
    let digit : IsInRange 48 57 (get_or ds i 0) = let is = sym c.if-not-is_ascii_digit.ensures.value in grind arith in
    record {
      value = omega (arith, one_more ds i c.loop-byte-test.true digit, c.in_ok-checked_mul.ensures, c.in_ok-number.ensures);
      small = omega (arith, c.in_ok-number.ensures);
      digits = below_more _ _ c.loop-byte.invariant.digits digit;
    }

pub returns : goal.returns
returns c =
    let ds = c.args.digits.now in
    let all : AllDigits 10 ds = (numerals_by_value _ tells_by_index).to ds (λ k within. c.loop-byte.invariant.digits k (omega arith)) in
    let value : c.loop-byte.number ≡ digits_value 10 ds = rw (take_all c.loop-byte.byte-index ds (omega arith)) at c.loop-byte.invariant.value in
    ((all, omega (arith, value)), value)
