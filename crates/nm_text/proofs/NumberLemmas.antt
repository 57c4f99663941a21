-- The number that a field spells is one, and each number's text spells it.
use Rattle.std.proofs.Common.{◌≡◌, ℕ, zero, suc, ◌<◌, ◌^◌, false, nat_lt, ◌&&◌, List, [], ◌∷◌, length, get_or, Option, Some, None, decimal, refl, sym, ap, ◌∙◌, arith}
use Rattle.std.specs.Prelude.{IfSome, IfNone}
use Rattle.std.specs.Bool.{Decides}
use Rattle.std.specs.Option.{SomeIff}
use Rattle.std.specs.Char.{is_ascii_digit}
use Rattle.std.specs.Str.{bytes_eq}
use Rattle.std.specs.Str.Parse.{AllDigits, digits_value}
use Rattle.std.proofs.lemmas.Bool.Decides.{Decides-and, Decides-ltb}
use Rattle.std.proofs.lemmas.Fmt.{decimal_digit, decimal_is_IsNumeral, decimal_nonempty, decimal-digits_value, first_decimal}
use Rattle.std.proofs.lemmas.Option.{cond_some}
use Rattle.std.proofs.lemmas.Slice.Eq.{bytes_eq-Decides}
use Rattle.std.proofs.lemmas.Str.Parse.{numerals_by_value, tells_digits, digit_from_value}
use Rattle.nm_text.specs.Numbers.{IsNumber, number_of}
use Rattle.nm_text.specs.Cuts.{Lacks}
use Rattle.nm_text.proofs.CutLemmas.{Lacks-cons}

-- the test of number_of
spelled : (n : ℕ) (field : List ℕ) → Decides (nat_lt n (2 ^ 64) && bytes_eq (decimal n) field) ((n < 2 ^ 64) × (decimal n ≡ field))
spelled n field = Decides-and _ _ (Decides-ltb n (2 ^ 64)) (bytes_eq-Decides (decimal n) field)

-- the text of a number spells it
pub number_of-decimal : (n : ℕ) → n < 2 ^ 64 → number_of (decimal n) ≡ Some n
unfolding number_of
number_of-decimal n small = rw ((decimal_is_IsNumeral n small).1, (spelled n (decimal n)).1 (small, refl)) refl

-- the field of a number is its text
pub number_of-some : (field : List ℕ) (n : ℕ) → number_of field ≡ Some n → (field ≡ decimal n) × (n < 2 ^ 64)
unfolding number_of
number_of-some field n e =
    let found = cond_some (nat_lt (digits_value 10 field) (2 ^ 64) && bytes_eq (decimal (digits_value 10 field)) field) (digits_value 10 field) n e in
    let is = (spelled (digits_value 10 field) field).0 found.0 in
    (rw (← found.1) (sym is.1), rw (← found.1) is.0)

-- a field with no number is no number's text
pub number_of-none : (field : List ℕ) → number_of field ≡ None → (n : ℕ) → ¬ IsNumber field n
number_of-none field e n is = let found : number_of field ≡ Some n = rw is.1 (number_of-decimal n is.0) in cc

-- a field that is no number's text has no number
pub number_of-apart : (field : List ℕ) → ((n : ℕ) → ¬ IsNumber field n) → number_of field ≡ None
number_of-apart field apart = go (number_of field) refl
  where
    go : (r : Option ℕ) → number_of field ≡ r → number_of field ≡ None
    go None e = e
    go (Some n) e = let is = number_of-some field n e in absurd (apart n (is.1, is.0))

-- a number's text has a digit, and a zero first only alone
pub number_of-form : (field : List ℕ) (n : ℕ) → IsNumber field n → (0 < length field) × (get_or field 0 0 ≡ 48 → length field ≡ 1)
number_of-form field zero is = rw is.1 (rw (decimal_digit 0 (omega arith)) (omega arith, λ _. refl))
number_of-form field (suc m) is = rw is.1 (decimal_nonempty (suc m) is.0, λ e. absurd (omega (arith, first_decimal (suc m) (omega arith) is.0)))

-- digits with no zero before others spell their value, where it is below 2 ^ 64
pub number_of-digits : (field : List ℕ) → AllDigits 10 field → 0 < length field → (get_or field 0 0 ≡ 48 → length field ≡ 1) → digits_value 10 field < 2 ^ 64 → number_of field ≡ Some (digits_value 10 field)
number_of-digits field digits some lead small =
    let is : decimal (digits_value 10 field) ≡ field = decimal-digits_value (numerals_by_value _ tells_digits) field digits some lead small in
    ap number_of (sym is) ∙ number_of-decimal (digits_value 10 field) small

-- what a reader of digits gives is the number of the field, where no zero stands before other digits
pub number_of-read : (r : Option ℕ) (field : List ℕ) → 0 < length field → (get_or field 0 0 ≡ 48 → length field ≡ 1) → SomeIff r (AllDigits 10 field × (digits_value 10 field < 2 ^ 64)) (digits_value 10 field) → r ≡ number_of field
number_of-read None field some lead never = sym (number_of-apart field (λ n is. never (
  rw is.1 (decimal_is_IsNumeral n is.0).0.1,
  rw (is.1, (decimal_is_IsNumeral n is.0).1) is.0,
)))
number_of-read (Some v) field some lead read = ap (λ (n : ℕ). Some n) read.1 ∙ sym (number_of-digits field read.0.0 some lead read.0.1)

-- a field and its number, or that it has none
pub number_of-tells : (r : Option ℕ) (field : List ℕ) → r ≡ number_of field → IfSome r (IsNumber field) × IfNone r ((n : ℕ) → ¬ IsNumber field n)
number_of-tells None field e = (tt, number_of-none field (sym e))
number_of-tells (Some n) field e = let is = number_of-some field n (sym e) in ((is.1, is.0), tt)

digits-lack : (c : ℕ) (ds : List ℕ) → is_ascii_digit c ≡ false → AllDigits 10 ds → Lacks c ds
digits-lack c [] other all = refl
digits-lack c (d ∷ ds) other all =
    let digit = digit_from_value d all.0 in
    Lacks-cons c d ds (λ e. grind arith) (digits-lack c ds other all.1)

-- a number's text lacks every byte that is no digit: `refl` shows that of a byte that is written out
pub decimal-lacks : (n c : ℕ) → n < 2 ^ 64 → is_ascii_digit c ≡ false → Lacks c (decimal n)
decimal-lacks n c small other = digits-lack c (decimal n) other (decimal_is_IsNumeral n small).0.1
