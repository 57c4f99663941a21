-- Sets of numbers as bits.
use Rattle.std.proofs.Common.{◌≡◌, ◌≢◌, ℕ, suc, ◌+◌, ◌-◌, ◌*◌, ◌/◌, ◌%◌, ◌^◌, ◌<◌, ◌≤◌, ◌==◌, Bool, true, false, inl, inr, List, [], ◌∷◌, ◌++◌, length, replicate, get_or, set, refl, sym, ap, ◌∙◌, subst, arith, length-set}
use Rattle.std.proofs.lemmas.Bool.{cases_eq, cases_lt}
use Rattle.std.proofs.lemmas.List.{length-replicate, get_or-replicate, get_or-set_same, get_or-set_other, append-nil}
use Rattle.std.proofs.lemmas.Nat.{shr-shr, shr_le, mod_below, div-add-mod', div-mul-add, mod-mul-add, div_below}
use Rattle.std.proofs.lemmas.Nat.Bits.{bit_at-zero, bit_at_set_same, bit_at_set_other, bit_at-trailing_zeros, bit_at_above}
use Rattle.std.specs.Int.{bit_at, w64, trailing_zeros}
use Rattle.std.specs.Prelude.{bit_or}
use Rattle.nm_vpages.specs.Bits.{has_bit, members_from, members, IsNextSet, HasNoneSet}
use Rattle.nm_vpages.specs.VPages.{at_or_after, AreBelow}
use Rattle.nm_vpages.proofs.Numbers.{members-same, members-none, members-first, members-split, bit-holds, at-least-from, at-least-past, members-few}

-- No number.

zero-bit : (n u : ℕ) → u < 64 * n → has_bit (replicate n 0) u ≡ false
zero-bit n u lt =
    let low : u / 64 < n = div_below u 64 n (omega arith) (omega arith) in
    let word : get_or (replicate n 0) (u / 64) 0 ≡ 0 = get_or-replicate n (u / 64) 0 0 low in
    ap (λ (w : ℕ). bit_at w (u % 64) == 1) word ∙ ap (λ (b : ℕ). b == 1) (bit_at-zero (u % 64))

pub members-zero : (n : ℕ) → members (replicate n 0) ≡ []
unfolding members
members-zero n = members-none (replicate n 0) 0 (64 * length (replicate n 0)) (λ u ge lt. zero-bit n u (omega (arith, length-replicate {A = ℕ} n 0)))

-- One number more.

abbrev pub with_bit : List ℕ → ℕ → List ℕ
with_bit ws v = set ws (v / 64) (bit_or (get_or ws (v / 64) 0) (1 * 2 ^ (v % 64) % 2 ^ 64))

bit-same : (ws : List ℕ) (v : ℕ) → v < 64 * length ws → has_bit (with_bit ws v) v ≡ true
bit-same ws v lt =
    let low : v / 64 < length ws = div_below v 64 (length ws) (omega arith) (omega arith) in
    let word = get_or-set_same ws (v / 64) (bit_or (get_or ws (v / 64) 0) (1 * 2 ^ (v % 64) % 2 ^ 64)) 0 low in
    ap (λ (w : ℕ). bit_at w (v % 64) == 1) word ∙ ap (λ (b : ℕ). b == 1) (bit_at_set_same w64 (get_or ws (v / 64) 0) (v % 64) (mod_below v 64 (omega arith)))

bit-other : (ws : List ℕ) (v u : ℕ) → v < 64 * length ws → u ≢ v → has_bit (with_bit ws v) u ≡ has_bit ws u
bit-other ws v u lt ne =
    let low : v / 64 < length ws = div_below v 64 (length ws) (omega arith) (omega arith) in
    elim (cases_eq (u / 64) (v / 64)) [
      | inl same ↦
          let bits : u % 64 ≢ v % 64 = λ e. ne (omega (arith, div-add-mod' u 64, div-add-mod' v 64)) in
          let word : get_or (with_bit ws v) (u / 64) 0 ≡ bit_or (get_or ws (v / 64) 0) (1 * 2 ^ (v % 64) % 2 ^ 64) = ap (λ (i : ℕ). get_or (with_bit ws v) i 0) same ∙ get_or-set_same ws (v / 64) (bit_or (get_or ws (v / 64) 0) (1 * 2 ^ (v % 64) % 2 ^ 64)) 0 low in
          let kept = bit_at_set_other w64 (get_or ws (v / 64) 0) (v % 64) (mod_below v 64 (omega arith)) (u % 64) bits in
          ap (λ (w : ℕ). bit_at w (u % 64) == 1) word ∙ ap (λ (b : ℕ). b == 1) kept ∙ ap (λ (i : ℕ). bit_at (get_or ws i 0) (u % 64) == 1) (sym same)
      | inr other ↦ ap (λ (w : ℕ). bit_at w (u % 64) == 1) (get_or-set_other ws (v / 64) (u / 64) (bit_or (get_or ws (v / 64) 0) (1 * 2 ^ (v % 64) % 2 ^ 64)) 0 other)
    ]

bit-test : (b : Bool) → (b ≡ true → ⊥) → b ≡ false
bit-test true never = absurd (never refl)
bit-test false never = refl

-- from a number on no bit is set, where all numbers are below it
above-clear : (ws : List ℕ) (v all : ℕ) → AreBelow v (members_from ws 0 all) → (u : ℕ) → v ≤ u → u < all → has_bit ws u ≡ false
above-clear ws v all below u ge lt = bit-test (has_bit ws u) (λ is. let lower = bit-holds (λ n. n < v) ws 0 all below u (omega arith) (omega arith) is in omega (arith, lower))

push-all : (ws : List ℕ) (v all : ℕ) → all ≡ 64 * length ws → v < all → AreBelow v (members_from ws 0 all) → members_from (with_bit ws v) 0 all ≡ members_from ws 0 all ++ v ∷ []
push-all ws v all size lt below =
    let us : List ℕ = with_bit ws v in
    let more : ℕ = all - (v + 1) in
    let at : 0 + v ≡ v = omega arith in
    let rest : all - v ≡ suc more = omega arith in
    let clear = above-clear ws v all below in
    let front = members-same ws us 0 v (λ u ge low. bit-other ws v u (omega arith) (omega arith)) in
    let tail = members-none us (v + 1) more (λ u ge up. bit-other ws v u (omega arith) (omega arith) ∙ clear u (omega arith) (omega arith)) in
    let none = members-none ws v (all - v) (λ u ge up. clear u ge (omega arith)) in
    let old : members_from ws 0 all ≡ members_from ws 0 v = members-split ws 0 v (all - v) all (omega arith) ∙ ap (λ (n : ℕ). members_from ws 0 v ++ members_from ws n (all - v)) at ∙ ap (λ (l : List ℕ). members_from ws 0 v ++ l) none ∙ append-nil (members_from ws 0 v) in
    let new : members_from us v (all - v) ≡ v ∷ [] = ap (members_from us v) rest ∙ members-first us v more (bit-same ws v (omega arith)) ∙ ap (λ (l : List ℕ). v ∷ l) tail in
    members-split us 0 v (all - v) all (omega arith)
    ∙ ap (λ (n : ℕ). members_from us 0 v ++ members_from us n (all - v)) at
    ∙ ap (λ (l : List ℕ). members_from us 0 v ++ l) new
    ∙ ap (λ (l : List ℕ). l ++ v ∷ []) (front ∙ sym old)

pub members-push : (ws : List ℕ) (v : ℕ) → v < 64 * length ws → AreBelow v (members ws) → members (with_bit ws v) ≡ members ws ++ v ∷ []
unfolding members
members-push ws v lt below =
    let size : 64 * length (with_bit ws v) ≡ 64 * length ws = ap (λ (n : ℕ). 64 * n) (length-set ws (v / 64) (bit_or (get_or ws (v / 64) 0) (1 * 2 ^ (v % 64) % 2 ^ 64))) in
    ap (members_from (with_bit ws v) 0) size ∙ push-all ws v (64 * length ws) refl lt below

-- The least number that is at least one.

-- a bit that is set lies within the word
low-bit : (n k t : ℕ) → n < 2 ^ 64 → bit_at (n / 2 ^ k) t ≡ 1 → k + t < 64
low-bit n k t fits is = elim (cases_lt (k + t) 64) [
  | inl low ↦ low
  | inr up ↦
      let above : bit_at n (k + t) ≡ 0 = bit_at_above n 64 (k + t) fits up in
      let same : bit_at (n / 2 ^ k) t ≡ bit_at n (k + t) = ap (λ (m : ℕ). m % 2) (shr-shr n k t) in
      absurd (omega (arith, above, same, is))
]

-- bits of a word
pub none-shifted : (n k : ℕ) → n / 2 ^ k ≡ 0 → HasNoneSet n k
none-shifted n k e = record {
  none = λ j ge lt.
      let at : k + (j - k) ≡ j = omega arith in
      let here : bit_at n (k + (j - k)) ≡ 0 = ap (λ (m : ℕ). m % 2) (sym (shr-shr n k (j - k))) ∙ ap (λ (m : ℕ). bit_at m (j - k)) e ∙ bit_at-zero (j - k) in
      subst (λ (i : ℕ). bit_at n i ≡ 0) at here;
}

pub next-shifted : (n k : ℕ) → k < 64 → n < 2 ^ 64 → n / 2 ^ k ≢ 0 → IsNextSet n k (k + trailing_zeros w64 (n / 2 ^ k))
next-shifted n k small fits some =
    let word : ℕ = n / 2 ^ k in
    let t : ℕ = trailing_zeros w64 word in
    let z = bit_at-trailing_zeros w64 word (omega (arith, some)) (omega (arith, shr_le n k)) in
    let same : bit_at word t ≡ bit_at n (k + t) = ap (λ (m : ℕ). m % 2) (shr-shr n k t) in
    record {
      above = omega arith;
      within = low-bit n k t fits z.1;
      set = sym same ∙ z.1;
      least = λ j ge lt.
          let at : k + (j - k) ≡ j = omega arith in
          let here : bit_at n (k + (j - k)) ≡ 0 = ap (λ (m : ℕ). m % 2) (sym (shr-shr n k (j - k))) ∙ z.2 (j - k) (omega arith) in
          subst (λ (i : ℕ). bit_at n i ≡ 0) at here;
    }

-- the numbers of a word
place-bit : (ws : List ℕ) (at j : ℕ) → j < 64 → has_bit ws (at - at % 64 + j) ≡ (bit_at (get_or ws (at / 64) 0) j == 1)
place-bit ws at j lt =
    let split : at - at % 64 + j ≡ at / 64 * 64 + j = omega (arith, div-add-mod' at 64) in
    let word : (at - at % 64 + j) / 64 ≡ at / 64 = ap (λ (n : ℕ). n / 64) split ∙ div-mul-add (at / 64) 64 j lt in
    let bit : (at - at % 64 + j) % 64 ≡ j = ap (λ (n : ℕ). n % 64) split ∙ mod-mul-add (at / 64) 64 j lt in
    ap (λ (i : ℕ). bit_at (get_or ws i 0) ((at - at % 64 + j) % 64) == 1) word ∙ ap (λ (i : ℕ). bit_at (get_or ws (at / 64) 0) i == 1) bit

-- so many numbers of a word, from one on, are not set
word-clear : (ws : List ℕ) (at many : ℕ) → many ≤ 64 → ((j : ℕ) → at % 64 ≤ j → j < many → bit_at (get_or ws (at / 64) 0) j ≡ 0)
    → (u : ℕ) → at ≤ u → u < at - at % 64 + many → has_bit ws u ≡ false
word-clear ws at many most clear u ge lt =
    let low = div-add-mod' at 64 in
    let j : ℕ = u - (at - at % 64) in
    let e : at - at % 64 + j ≡ u = omega arith in
    let here : has_bit ws (at - at % 64 + j) ≡ false = place-bit ws at j (omega arith) ∙ ap (λ (b : ℕ). b == 1) (clear j (omega arith) (omega arith)) in
    subst (λ (n : ℕ). has_bit ws n ≡ false) e here

-- a word of which no bit is set from one on
pub none-more : (ws : List ℕ) (from at : ℕ) → HasNoneSet (get_or ws (at / 64) 0) (at % 64) → ((u : ℕ) → from ≤ u → u < at → has_bit ws u ≡ false)
    → (u : ℕ) → from ≤ u → u < at + (64 - at % 64) → has_bit ws u ≡ false
none-more ws from at word none u ge lt =
    elim (cases_lt u at) [
      | inl low ↦ none u ge low
      | inr up ↦ word-clear ws at 64 (omega arith) word.none u up (omega (arith, div-add-mod' at 64, mod_below at 64))
    ]

-- v is the least number, from one on, whose bit is set
pub record IsNextBit (ws : List ℕ) (from v : ℕ) : Type 0 where
  pub start : from ≤ v
  pub within : v < 64 * length ws
  pub is : has_bit ws v ≡ true
  pub none : (u : ℕ) → from ≤ u → u < v → has_bit ws u ≡ false

pub next-bit : (ws : List ℕ) (from at bit : ℕ) → from ≤ at → at < 64 * length ws → IsNextSet (get_or ws (at / 64) 0) (at % 64) bit
    → ((u : ℕ) → from ≤ u → u < at → has_bit ws u ≡ false) → IsNextBit ws from (at - at % 64 + bit)
next-bit ws from at bit start within next none =
    let last : at / 64 < length ws = div_below at 64 (length ws) (omega arith) (omega arith) in
    let low = div-add-mod' at 64 in
    record {
      start = omega (arith, next.above);
      within = omega (arith, next.within);
      is = place-bit ws at bit next.within ∙ ap (λ (b : ℕ). b == 1) next.set;
      none = λ u ge lt. elim (cases_lt u at) [
        | inl before ↦ none u ge before
        | inr up ↦ word-clear ws at bit (omega (arith, next.within)) next.least u up lt
      ];
    }

-- from it on there are itself, and the numbers after it
pub members-next : (ws : List ℕ) (from v : ℕ) → IsNextBit ws from v → at_or_after from (members ws) ≡ v ∷ at_or_after (v + 1) (members ws)
unfolding members
members-next ws from v h =
    let all : ℕ = 64 * length ws in
    let more : ℕ = all - (v + 1) in
    let w = h.within in
    let s = h.start in
    let at : from + (v - from) ≡ v = omega arith in
    let rest : all - v ≡ suc more = omega arith in
    at-least-from ws from all (omega arith)
    ∙ members-split ws from (v - from) (all - v) (all - from) (omega arith)
    ∙ ap (λ (l : List ℕ). l ++ members_from ws (from + (v - from)) (all - v)) (members-none ws from (v - from) (λ u ge lt. h.none u ge (omega arith)))
    ∙ ap (λ (n : ℕ). members_from ws n (all - v)) at
    ∙ ap (members_from ws v) rest
    ∙ members-first ws v more h.is
    ∙ ap (λ (l : List ℕ). v ∷ l) (sym (at-least-from ws (v + 1) all (omega arith)))

none-left : (ws : List ℕ) (from all : ℕ) → ((u : ℕ) → from ≤ u → u < all → has_bit ws u ≡ false) → at_or_after from (members_from ws 0 all) ≡ []
none-left ws from all none = elim (cases_lt from all) [
  | inl low ↦ at-least-from ws from all (omega arith) ∙ members-none ws from (all - from) (λ u ge lt. none u ge (omega arith))
  | inr past ↦ at-least-past ws from all past
]

-- from one on there are none
pub members-end : (ws : List ℕ) (from at : ℕ) → 64 * length ws ≤ at → ((u : ℕ) → from ≤ u → u < at → has_bit ws u ≡ false) → at_or_after from (members ws) ≡ []
unfolding members
members-end ws from at end none = none-left ws from (64 * length ws) (λ u ge lt. none u ge (omega arith))

pub members-most : (ws : List ℕ) → length (members ws) ≤ 64 * length ws
unfolding members
members-most ws = members-few ws 0 (64 * length ws)
