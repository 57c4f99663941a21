-- Table words after flags were cleared, set or turned: what they agree with, and what stands on them.
use Rattle.std.proofs.Common.{◌≡◌, ◌≢◌, ℕ, ◌-◌, ◌/◌, ◌%◌, ◌^◌, ◌<◌, ◌==◌, true, false, IsTrue, bit_and, bit_or, bit_xor, refl, sym, ap, ◌∙◌, inl, inr, arith}
use Rattle.std.specs.Int.{bit_at}
use Rattle.std.specs.Int.Bits.{or_zero_r, xor_zero_r}
use Rattle.std.proofs.lemmas.Bool.{eqb-true, eq-eqb}
use Rattle.std.proofs.lemmas.Nat.{and_mask, and_le_l, and_shr, or_shr, xor_shr}
use Rattle.std.proofs.lemmas.Nat.Bits.{bit_at-lt, bit_at-zero, bit_at_and, bit_at_or, bit_at_xor}
use Rattle.nm_base.specs.PageWord.{IsPresentWord, IsPageWord, all_but, frame_of, grant_mask, granted_word, is_writable}
use Rattle.nm_permit.specs.Permitted.{IsSavedWord}
use Rattle.nm_event.specs.Fitting.{Agrees}
use Rattle.nm_view.specs.declared.view.CacheEntry.{CacheEntry}
use Rattle.nm_world.specs.Notions.{IsStanding}

-- flags lie below the frame

pub frame_and : (word flags : ℕ) → flags < 2 ^ 12 → frame_of (bit_and word (all_but flags)) ≡ frame_of word
frame_and word flags low =
    let rest : all_but flags / 2 ^ 12 ≡ 2 ^ 52 - 1 = omega arith in
    let high : bit_and word (all_but flags) / 2 ^ 12 ≡ word / 2 ^ 12 % 2 ^ 52 = and_shr word (all_but flags) 12 ∙ ap (bit_and (word / 2 ^ 12)) rest ∙ and_mask (word / 2 ^ 12) 52 in
    omega (arith, high)

pub frame_or : (word flags : ℕ) → flags < 2 ^ 12 → frame_of (bit_or word flags) ≡ frame_of word
frame_or word flags low =
    let none : flags / 2 ^ 12 ≡ 0 = omega (arith, low) in
    let high : bit_or word flags / 2 ^ 12 ≡ word / 2 ^ 12 = or_shr word flags 12 ∙ ap (bit_or (word / 2 ^ 12)) none ∙ or_zero_r (word / 2 ^ 12) in
    omega (arith, high)

pub frame_xor : (word flags : ℕ) → flags < 2 ^ 12 → frame_of (bit_xor word flags) ≡ frame_of word
frame_xor word flags low =
    let none : flags / 2 ^ 12 ≡ 0 = omega (arith, low) in
    let high : bit_xor word flags / 2 ^ 12 ≡ word / 2 ^ 12 = xor_shr word flags 12 ∙ ap (bit_xor (word / 2 ^ 12)) none ∙ xor_zero_r (word / 2 ^ 12) in
    omega (arith, high)

-- a bit that a mask keeps, and one that flags leave

pub bit_and_kept : (word mask k : ℕ) → bit_at mask k ≡ 1 → bit_at (bit_and word mask) k ≡ bit_at word k
bit_and_kept word mask k one = omega (arith, one, bit_at_and word mask k, bit_at-lt word k)

pub bit_or_kept : (word flags k : ℕ) → bit_at flags k ≡ 0 → bit_at (bit_or word flags) k ≡ bit_at word k
bit_or_kept word flags k none = omega (arith, none, bit_at_or word flags k)

pub bit_or_set : (word flags k : ℕ) → bit_at word k ≡ 1 → bit_at (bit_or word flags) k ≡ 1
bit_or_set word flags k one = omega (arith, one, bit_at_or word flags k, bit_at-lt flags k)

pub bit_xor_kept : (word flags k : ℕ) → bit_at flags k ≡ 0 → bit_at (bit_xor word flags) k ≡ bit_at word k
bit_xor_kept word flags k none = omega (arith, none, bit_at_xor word flags k, bit_at-lt word k)

same_flag : (a b : ℕ) → a ≡ b → (a == 1) ≡ (b == 1)
same_flag a b e = ap (λ n. n == 1) e

-- Agreeing.

-- a page word without its bit 0 is 0
pub absent_word : (word : ℕ) → IsPageWord word → bit_at word 0 ≡ 0 → word ≡ 0
absent_word word is none = elim is [ inl zero ↦ zero | inr present ↦ absurd (omega (arith, none, present.present)) ]

-- what agrees with a word agrees with it after flags were cleared, of those that the comparison leaves out
pub agrees_and : (old word flags : ℕ) → flags < 2 ^ 12 → bit_at (all_but flags) 0 ≡ 1 → bit_at (all_but flags) 2 ≡ 1 → bit_at (all_but flags) 5 ≡ 1 → IsPageWord word → Agrees old word → Agrees old (bit_and word (all_but flags))
agrees_and old word flags low zero two five page h = record {
  absent = (
    λ none. let w : word ≡ 0 = h.absent.0 none in omega (arith, w, and_le_l word (all_but flags)),
    λ none. let bit : bit_at word 0 ≡ 0 = sym (bit_and_kept word (all_but flags) 0 zero) ∙ ap (λ n. bit_at n 0) none ∙ bit_at-zero 0 in h.absent.1 (absent_word word page bit),
  );
  frame = frame_and word flags low ∙ h.frame;
  writable = same_flag _ _ (bit_and_kept word (all_but flags) 2 two) ∙ h.writable;
  saved = same_flag _ _ (bit_and_kept word (all_but flags) 5 five) ∙ h.saved;
}

-- the same after flags were set, on a word that maps a frame
pub agrees_or : (old word flags : ℕ) → flags < 2 ^ 12 → bit_at flags 2 ≡ 0 → bit_at flags 5 ≡ 0 → IsPresentWord word → Agrees old word → Agrees old (bit_or word flags)
agrees_or old word flags low two five present h = record {
  absent = (
    λ none. absurd (let w : word ≡ 0 = h.absent.0 none in let bit : bit_at word 0 ≡ 0 = ap (λ n. bit_at n 0) w ∙ bit_at-zero 0 in omega (arith, bit, present.present)),
    λ none. absurd (let bit : bit_at (bit_or word flags) 0 ≡ 0 = ap (λ n. bit_at n 0) none ∙ bit_at-zero 0 in omega (arith, bit, bit_or_set word flags 0 present.present)),
  );
  frame = frame_or word flags low ∙ h.frame;
  writable = same_flag _ _ (bit_or_kept word flags 2 two) ∙ h.writable;
  saved = same_flag _ _ (bit_or_kept word flags 5 five) ∙ h.saved;
}

-- Standing.

is_set : (n : ℕ) → IsTrue (n == 1) → n ≡ 1
is_set n h = eqb-true n 1 h

set_flag : (n : ℕ) → n ≡ 1 → IsTrue (n == 1)
set_flag n e = eq-eqb n 1 e

-- an entry stands on a word in which more flags are set
pub standing_or : (word flags : ℕ) (e : CacheEntry) → flags < 2 ^ 12 → IsStanding word e → IsStanding (bit_or word flags) e
standing_or word flags e low h = record {
  present = set_flag _ (bit_or_set word flags 0 (is_set _ h.present));
  frame = frame_or word flags low ∙ h.frame;
  writable = λ dirty. set_flag _ (bit_or_set word flags 2 (is_set _ (h.writable dirty)));
  dirty = λ dirty. set_flag _ (bit_or_set word flags 3 (is_set _ (h.dirty dirty)));
}

-- an entry stands on a word in which flags are cleared, of those that it does not need
pub standing_and : (word flags : ℕ) (e : CacheEntry) → flags < 2 ^ 12 → bit_at (all_but flags) 0 ≡ 1 → bit_at (all_but flags) 2 ≡ 1 → bit_at (all_but flags) 3 ≡ 1 → IsStanding word e → IsStanding (bit_and word (all_but flags)) e
standing_and word flags e low zero two three h = record {
  present = set_flag _ (bit_and_kept word (all_but flags) 0 zero ∙ is_set _ h.present);
  frame = frame_and word flags low ∙ h.frame;
  writable = λ dirty. set_flag _ (bit_and_kept word (all_but flags) 2 two ∙ is_set _ (h.writable dirty));
  dirty = λ dirty. set_flag _ (bit_and_kept word (all_but flags) 3 three ∙ is_set _ (h.dirty dirty));
}

-- an entry stands on a word to which the right to write was granted
pub standing_granted : (word : ℕ) (e : CacheEntry) → is_writable word ≡ false → IsStanding word e → IsStanding (granted_word word) e
standing_granted word e none h = record {
  present = set_flag _ (bit_xor_kept word grant_mask 0 refl ∙ is_set _ h.present);
  frame = frame_xor word grant_mask (omega arith) ∙ h.frame;
  writable = λ dirty. absurd (let on : is_writable word ≡ true = h.writable dirty in cc);
  dirty = λ dirty. set_flag _ (bit_xor_kept word grant_mask 3 refl ∙ is_set _ (h.dirty dirty));
}

-- a word with the saved right to write is not 0
pub saved_some : (word : ℕ) → IsSavedWord word → word ≢ 0
saved_some word saved none =
    let bit : bit_at word 5 ≡ 1 = eqb-true (bit_at word 5) 1 saved.saved in
    omega (arith, bit, ap (λ n. bit_at n 5) none ∙ bit_at-zero 5)
