-- Own lists of pool tasks, and the frames that are free by some words.
use Rattle.std.proofs.Common.{◌≡◌, ℕ, suc, ◌+◌, ◌*◌, ◌<◌, ◌⊎◌, inl, inr, List, [], ◌∷◌, ◌++◌, length, get_or, take, count_ones, refl, ap, ◌∙◌, add-zero, zero-add, arith}
use Rattle.std.proofs.Math.Seq.{take-suc, get_or-append_seam}
use Rattle.std.proofs.Math.ListN.{get_or-append, get_or-eq_default}
use Rattle.std.proofs.lemmas.List.{length-append}
use Rattle.std.proofs.lemmas.List.Sums.{sum_by-append}
use Rattle.std.proofs.lemmas.Bool.{cases_lt}
use Rattle.std.proofs.lemmas.Nat.Bits.{bit_at-zero}
use Rattle.std.specs.Int.{bit_at}
use Rattle.nm_base.specs.Geometry.{Geometry, first_frame}
use Rattle.nm_action.specs.declared.action.Action.TheVariants.{TakeTurn, Scan}
use Rattle.nm_action.specs.declared.action.Reply.TheVariants.{Word, Busy}
use Rattle.nm_action.specs.Own.{Own}
use Rattle.nm_pool.specs.Pool.{refused, scanned, free_bits, IsFree}

pub refused-push : (tier : ℕ) (ws : List ℕ) (w : ℕ) → refused tier (ws ++ w ∷ []) ≡ refused tier ws ++ (TakeTurn tier, Busy w) ∷ []
refused-push tier [] w = refl
refused-push tier (x ∷ ws) w = ap (λ (l : Own). (TakeTurn tier, Busy x) ∷ l) (refused-push tier ws w)

pub scanned-push : (tier k n : ℕ) (ws : List ℕ) (w : ℕ) → n ≡ k + length ws → scanned tier k (ws ++ w ∷ []) ≡ scanned tier k ws ++ (Scan tier n, Word w) ∷ []
scanned-push tier k n [] w e = rw (e, add-zero k) refl
scanned-push tier k n (x ∷ ws) w e = ap (λ (l : Own). (Scan tier k, Word x) ∷ l) (scanned-push tier (k + 1) n ws w (omega (arith, e)))

pub count-push : (ws : List ℕ) (w : ℕ) → free_bits (ws ++ w ∷ []) ≡ free_bits ws + count_ones w
count-push ws w = sum_by-append count_ones ws (w ∷ []) ∙ ap (λ n. free_bits ws + n) (zero-add (count_ones w))

-- the tiers before the next one have this tier's frames more
pub first-next : (g : Geometry) (t : ℕ) → t < length g.tiers → first_frame g (t + 1) ≡ first_frame g t + get_or g.tiers t 0
first-next g t lt =
    let e : t + 1 ≡ suc t = omega arith in
    let s : take (suc t) g.tiers ≡ take t g.tiers ++ get_or g.tiers t 0 ∷ [] = take-suc g.tiers t 0 lt in
    rw (e, s) (sum_by-append (λ x. x) (take t g.tiers) (get_or g.tiers t 0 ∷ []) ∙ ap (λ n. first_frame g t + n) (zero-add (get_or g.tiers t 0)))

-- Free frames.

zero≢one : (n : ℕ) → n ≡ 0 → n ≡ 1 → ⊥
zero≢one n a b = omega (arith, a, b)

pub no_bit : (w bit : ℕ) → w ≡ 0 → bit_at w bit ≡ 1 → ⊥
no_bit w bit e h = let z : bit_at w bit ≡ 0 = rw e (bit_at-zero bit) in zero≢one (bit_at w bit) z h

-- a free frame has its word among the words
pub free-within : (g : Geometry) (tier : ℕ) (ws : List ℕ) (f : ℕ) → (h : IsFree g tier ws f) → h.index < length ws
free-within g tier ws f h = elim (cases_lt h.index (length ws)) [
  | inl lt ↦ lt
  | inr ge ↦ absurd (no_bit (get_or ws h.index 0) h.bit (get_or-eq_default ws 0 ge) h.set)
]

pub free-kept : (g : Geometry) (tier : ℕ) (ws : List ℕ) (w f : ℕ) → IsFree g tier ws f → IsFree g tier (ws ++ w ∷ []) f
free-kept g tier ws w f h = record {
  index = h.index;
  bit = h.bit;
  small = h.small;
  is = h.is;
  set = rw (get_or-append ws (w ∷ []) 0 h.index (free-within g tier ws f h)) h.set;
}

-- the frame of a bit of the word after these
pub record IsNewFree (g : Geometry) (tier n w f : ℕ) : Type 0 where
  pub bit : ℕ
  pub small : bit < 64
  pub set : bit_at w bit ≡ 1
  pub is : f ≡ first_frame g tier + 64 * n + bit

pub free-new : (g : Geometry) (tier : ℕ) (ws : List ℕ) (w f : ℕ) → IsNewFree g tier (length ws) w f → IsFree g tier (ws ++ w ∷ []) f
free-new g tier ws w f h = record {
  index = length ws;
  bit = h.bit;
  small = h.small;
  is = h.is;
  set = rw (get_or-append_seam ws w [] 0) h.set;
}

-- a frame that is free with one word more was free, or is one of the new word
pub free-cases : (g : Geometry) (tier : ℕ) (ws : List ℕ) (w f : ℕ) → IsFree g tier (ws ++ w ∷ []) f → IsFree g tier ws f ⊎ IsNewFree g tier (length ws) w f
free-cases g tier ws w f h = elim (cases_lt h.index (length ws)) [
  | inl lt ↦ inl (record { index = h.index; bit = h.bit; small = h.small; is = h.is; set = rw (get_or-append ws (w ∷ []) 0 h.index lt) at h.set })
  | inr ge ↦
      let most = free-within g tier (ws ++ w ∷ []) f h in
      let e : h.index ≡ length ws = omega (arith, most, ge, length-append ws (w ∷ [])) in
      inr (record { bit = h.bit; small = h.small; set = rw (e, get_or-append_seam ws w [] 0) at h.set; is = rw e at h.is })
]
