-- Which words map a frame, by the three tests that the code makes; what a word says is what was written into it.
use Rattle.std.proofs.Common.{◌≡◌, ℕ, ◌+◌, ◌*◌, ◌/◌, ◌%◌, ◌^◌, ◌<◌, ◌≤◌, Bool, true, false, bit_and, sym, refl, ap, ◌∙◌, inl, inr, arith}
use Rattle.std.specs.Int.{bit_at}
use Rattle.std.proofs.lemmas.Nat.{pow-add}
use Rattle.std.proofs.lemmas.Nat.Bits.{bit_at-lt, bit_at-zero, bit_at_and, and_high, bit_at_above, bit_at_mask_inside, bit_at_mask_below, bit_at_mask_above, same_from_bits}
use Rattle.std.proofs.lemmas.Bool.{cases_lt}
use Rattle.std.proofs.Math.Nat.{div-div-eq-div-mul}
use Rattle.nm_base.specs.declared.page_word.PageWord.{PageWord}
use Rattle.nm_base.specs.declared.page_word.PageWord.TheVariants.{Absent, Present}
use Rattle.nm_base.specs.PageWord.{IsLayoutBit, IsPresentWord, IsNarrow, flag, word_of}

-- the bits of the gap, 6 to 11, are those of the mask 0xfc0
gap_inside : (word k : ℕ) → bit_and word 4032 ≡ 0 → 6 ≤ k → k < 12 → bit_at word k ≡ 0
gap_inside word k h low high =
    let one : bit_at 4032 k ≡ 1 = bit_at_mask_inside 6 12 k low high in
    let both = bit_at_and word 4032 k in
    let none : bit_at (bit_and word 4032) k ≡ 0 = ap (λ n. bit_at n k) h ∙ bit_at-zero k in
    omega (arith, bit_at-lt word k, one, both, none)

above_frame : (word k : ℕ) → word / 2 ^ 44 ≡ 0 → 44 ≤ k → bit_at word k ≡ 0
above_frame word k h high = bit_at_above word 44 k (omega (arith, h)) high

layout_bit : (word k : ℕ) → bit_at word k ≡ 1 → (6 ≤ k → k < 12 → bit_at word k ≡ 0) → (44 ≤ k → bit_at word k ≡ 0) → IsLayoutBit k
layout_bit word k set gap high =
    elim (cases_lt k 6) [
      | inl low ↦ inl (omega arith)
      | inr over ↦ elim (cases_lt k 12) [
        | inl below ↦ absurd (omega (arith, gap over below))
        | inr frame ↦ elim (cases_lt k 44) [ inl within ↦ inr (frame, omega arith) | inr out ↦ absurd (omega (arith, high out)) ]
      ]
    ]

-- the three tests together say that a word maps a frame
pub IsPresentWord-from_tests : (word : ℕ) → bit_at word 0 ≡ 1 → bit_and word 4032 ≡ 0 → word / 2 ^ 44 ≡ 0 → IsPresentWord word
IsPresentWord-from_tests word present gap high = record {
  present = present;
  layout = λ k set. layout_bit word k set (gap_inside word k gap) (above_frame word k high);
}

outside_clear : (word k : ℕ) → IsPresentWord word → (IsLayoutBit k → ⊥) → bit_at word k ≡ 0
outside_clear word k h out =
    elim (cases_lt (bit_at word k) 1) [ inl low ↦ omega arith | inr set ↦ absurd (out (h.layout k (omega (arith, bit_at-lt word k)))) ]

gap_bit : (word k : ℕ) → IsPresentWord word → bit_at (bit_and word 4032) k ≡ 0
gap_bit word k h =
    let both = bit_at_and word 4032 k in
    elim (cases_lt k 6) [
      | inl low ↦ omega (arith, both, bit_at_mask_below 6 12 k low)
      | inr over ↦ elim (cases_lt k 12) [
        | inl below ↦ omega (arith, both, outside_clear word k h (λ l. elim l [ inl a ↦ omega arith | inr b ↦ omega (arith, b.0) ]))
        | inr above ↦ omega (arith, both, bit_at_mask_above 6 12 k above)
      ]
    ]

-- a word that maps a frame has no bit of the gap
pub gap_of-IsPresentWord : (word : ℕ) → IsPresentWord word → bit_and word 4032 ≡ 0
gap_of-IsPresentWord word h =
    same_from_bits (bit_and word 4032) 0 (λ k. gap_bit word k h ∙ sym (bit_at-zero k))

high_bit : (word k : ℕ) → bit_at (word / 2 ^ 44) k ≡ bit_at word (44 + k)
high_bit word k = ap (λ n. n % 2) (div-div-eq-div-mul word (2 ^ 44) (2 ^ k) ∙ ap (λ n. word / n) (sym (pow-add 2 44 k)))

-- a word that maps a frame has no bit above the frame number
pub high_of-IsPresentWord : (word : ℕ) → IsPresentWord word → word / 2 ^ 44 ≡ 0
high_of-IsPresentWord word h =
    same_from_bits (word / 2 ^ 44) 0 (λ k. high_bit word k ∙ outside_clear word (44 + k) h (λ l. elim l [ inl a ↦ omega arith | inr b ↦ omega (arith, b.1) ]) ∙ sym (bit_at-zero k))

flag_le : (b : Bool) → flag b ≤ 1
flag_le true = omega arith
flag_le false = omega arith

-- the word of a present entry maps a frame
pub IsPresentWord-written : (frame : ℕ) (hint writable dirty accessed saved : Bool) → frame < 2 ^ 32 → IsPresentWord (1 + 2 * flag hint + 4 * flag writable + 8 * flag dirty + 16 * flag accessed + 32 * flag saved + 4096 * frame)
IsPresentWord-written frame hint writable dirty accessed saved narrow =
    let word : ℕ = 1 + 2 * flag hint + 4 * flag writable + 8 * flag dirty + 16 * flag accessed + 32 * flag saved + 4096 * frame in
    let middle : word / 64 % 64 ≡ 0 = omega (arith, flag_le hint, flag_le writable, flag_le dirty, flag_le accessed, flag_le saved) in
    IsPresentWord-from_tests word
    (omega (arith, flag_le hint, flag_le writable, flag_le dirty, flag_le accessed, flag_le saved))
    (and_high word 6 6 ∙ ap (λ n. n * 64) middle)
    (omega (arith, flag_le hint, flag_le writable, flag_le dirty, flag_le accessed, flag_le saved))

-- a word that isn't 0 and doesn't map a frame was not written from a narrow value
pub no_word-written : (p : PageWord) → IsNarrow p → (word_of p ≡ 0 → ⊥) → (IsPresentWord (word_of p) → ⊥) → ⊥
no_word-written Absent narrow some none = some refl
no_word-written (Present frame hint writable dirty accessed saved) narrow some none =
    none (IsPresentWord-written frame hint writable dirty accessed saved narrow)
