-- That words in the layout of table words stay in it, and keep a frame in range, where flags are cleared, set or turned.
use Rattle.std.proofs.Common.{◌≡◌, ℕ, ◌+◌, ◌/◌, ◌%◌, ◌^◌, ◌<◌, ◌≤◌, Bool, true, false, bit_and, bit_or, bit_xor, sym, ap, ◌∙◌, inl, inr, arith}
use Rattle.std.specs.Int.{bit_at}
use Rattle.std.specs.Int.Bits.{or_zero_r, xor_zero_r}
use Rattle.std.proofs.lemmas.Nat.{pow-add, and_shr, and_le_l, or_shr, xor_shr}
use Rattle.std.proofs.lemmas.Nat.Bits.{bit_at-lt, bit_at-zero, bit_at_and, bit_at_or, bit_at_xor, bit_at_above, same_from_bits}
use Rattle.std.proofs.lemmas.Bool.{cases_lt}
use Rattle.std.proofs.Math.Nat.{div-div-eq-div-mul}
use Rattle.nm_base.specs.Geometry.{Geometry, frame_count}
use Rattle.nm_base.specs.PageWord.{IsPresentWord, frame_of, walk_mask, walked_word}
use Rattle.nm_base.specs.Ranges.{IsFrame}
use Rattle.nm_base.specs.TableWord.{HasLayout, IsTableInRange}

pub HasLayout-zero : HasLayout 0
HasLayout-zero k set = absurd (omega (arith, set, bit_at-zero k))

pub HasLayout-and : (n mask : ℕ) → HasLayout n → HasLayout (bit_and n mask)
HasLayout-and n mask h k set = h k (omega (arith, set, bit_at_and n mask k, bit_at-lt n k, bit_at-lt mask k))

pub HasLayout-or : (n flags : ℕ) → flags < 2 ^ 6 → HasLayout n → HasLayout (bit_or n flags)
HasLayout-or n flags low h k set =
    elim (cases_lt k 6) [
      | inl flag ↦ inl (omega (arith, flag))
      | inr over ↦ h k (omega (arith, set, bit_at_or n flags k, bit_at_above flags 6 k low over, bit_at-lt n k))
    ]

pub HasLayout-xor : (n flags : ℕ) → flags < 2 ^ 6 → HasLayout n → HasLayout (bit_xor n flags)
HasLayout-xor n flags low h k set =
    elim (cases_lt k 6) [
      | inl flag ↦ inl (omega (arith, flag))
      | inr over ↦ h k (omega (arith, set, bit_at_xor n flags k, bit_at_above flags 6 k low over, bit_at-lt n k))
    ]

high_bit : (word k : ℕ) → bit_at (word / 2 ^ 44) k ≡ bit_at word (44 + k)
high_bit word k = ap (λ n. n % 2) (div-div-eq-div-mul word (2 ^ 44) (2 ^ k) ∙ ap (λ n. word / n) (sym (pow-add 2 44 k)))

outside : (word k : ℕ) → HasLayout word → 44 ≤ k → bit_at word k ≡ 0
outside word k h high =
    elim (cases_lt (bit_at word k) 1) [
      | inl low ↦ omega arith
      | inr set ↦ absurd (elim (h k (omega (arith, set, bit_at-lt word k))) [ inl a ↦ omega (arith, a, high) | inr b ↦ omega (arith, b.1, high) ])
    ]

-- a word in the layout has 44 bits
pub HasLayout-lt : (n : ℕ) → HasLayout n → n < 2 ^ 44
HasLayout-lt n h =
    let high : n / 2 ^ 44 ≡ 0 = same_from_bits (n / 2 ^ 44) 0 (λ k. high_bit n k ∙ outside n (44 + k) h (omega arith) ∙ sym (bit_at-zero k)) in
    omega (arith, high)

pub IsTableInRange-zero : (g : Geometry) → 0 < frame_count g → IsTableInRange g 0
IsTableInRange-zero g some = record { frame = some; layout = HasLayout-zero }

pub IsTableInRange-and : (g : Geometry) (n mask : ℕ) → IsTableInRange g n → IsTableInRange g (bit_and n mask)
IsTableInRange-and g n mask h = record {
  frame = omega (arith, h.frame, and_shr n mask 12, and_le_l (n / 2 ^ 12) (mask / 2 ^ 12), HasLayout-lt n h.layout);
  layout = HasLayout-and n mask h.layout;
}

pub IsTableInRange-or : (g : Geometry) (n flags : ℕ) → flags < 2 ^ 6 → IsTableInRange g n → IsTableInRange g (bit_or n flags)
IsTableInRange-or g n flags low h =
    let none : flags / 2 ^ 12 ≡ 0 = omega (arith, low) in
    let e : bit_or n flags / 2 ^ 12 ≡ n / 2 ^ 12 = or_shr n flags 12 ∙ ap (bit_or (n / 2 ^ 12)) none ∙ or_zero_r (n / 2 ^ 12) in
    record { frame = omega (arith, h.frame, e); layout = HasLayout-or n flags low h.layout }

pub IsTableInRange-xor : (g : Geometry) (n flags : ℕ) → flags < 2 ^ 6 → IsTableInRange g n → IsTableInRange g (bit_xor n flags)
IsTableInRange-xor g n flags low h =
    let none : flags / 2 ^ 12 ≡ 0 = omega (arith, low) in
    let e : bit_xor n flags / 2 ^ 12 ≡ n / 2 ^ 12 = xor_shr n flags 12 ∙ ap (bit_xor (n / 2 ^ 12)) none ∙ xor_zero_r (n / 2 ^ 12) in
    record { frame = omega (arith, h.frame, e); layout = HasLayout-xor n flags low h.layout }

walk_low : (write : Bool) → walk_mask write < 2 ^ 6
walk_low true = omega arith
walk_low false = omega arith

pub IsTableInRange-walked : (g : Geometry) (n : ℕ) (write : Bool) → IsTableInRange g n → IsTableInRange g (walked_word n write)
IsTableInRange-walked g n write h = IsTableInRange-or g n (walk_mask write) (walk_low write) h

-- a word that maps a frame in range is a table word in range
pub IsTableInRange-present : (g : Geometry) (n : ℕ) → IsFrame g (frame_of n) → IsPresentWord n → IsTableInRange g n
IsTableInRange-present g n frame h = record { frame = frame; layout = h.layout }
