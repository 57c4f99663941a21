-- Which frames are free after a bit was cleared, or set.
use Rattle.std.proofs.Common.{◌≡◌, ◌≢◌, ℕ, ◌*◌, ◌%◌, ◌^◌, ◌<◌, ◌==◌, ◌&&◌, nat_lt, Bool, true, false, bit_and, bit_or, refl, ap, ◌∙◌, arith}
use Rattle.std.specs.Int.{bit_at, w64, bit_not}
use Rattle.std.proofs.lemmas.Bool.{ltb-true, lt-ltb, eq-eqb, ne_eqb}
use Rattle.std.proofs.lemmas.Nat.{pow_below}
use Rattle.std.proofs.lemmas.Nat.Bits.{bit_at-lt, bit_at_or, bit_at-pow_same, bit_at-pow_other, bit_at_clear_same, bit_at_clear_other}
use Rattle.nm_base.specs.Geometry.{Geometry, first_frame, tier_of, frame_count}
use Rattle.nm_base.specs.FreeWords.{free_index, free_bit}
use Rattle.nm_base.specs.PageWord.{all_but}
use Rattle.nm_base.specs.Ranges.{IsFrame}
use Rattle.nm_base.proofs.Tiers.{IsInTier-tier_of}
use Rattle.nm_words.specs.declared.names.Where.{Where}
use Rattle.nm_words.specs.declared.names.Where.TheVariants.{Free}
use Rattle.nm_step.specs.Table.{free_word_of}
use Rattle.nm_world.specs.Worlds.{written}
use Rattle.nm_world.specs.Sights.{WritesOne, free_in}
use Rattle.nm_world.proofs.Choose.{choose_name}

-- the mask of all bits but bit k
mask_is : (k : ℕ) → k < 64 → all_but (2 ^ k) ≡ bit_not w64 (1 * 2 ^ k % 2 ^ 64)
mask_is k low = let small : 2 ^ k < 2 ^ 64 = pow_below k 64 low in omega (arith, small)

clear_same : (n k : ℕ) → k < 64 → bit_at (bit_and n (all_but (2 ^ k))) k ≡ 0
clear_same n k low = ap (λ m. bit_at (bit_and n m) k) (mask_is k low) ∙ bit_at_clear_same w64 n k low

clear_other : (n k i : ℕ) → k < 64 → i < 64 → i ≢ k → bit_at (bit_and n (all_but (2 ^ k))) i ≡ bit_at n i
clear_other n k i low there other = ap (λ m. bit_at (bit_and n m) i) (mask_is k low) ∙ bit_at_clear_other w64 n k low i there other

set_same : (n k : ℕ) → bit_at (bit_or n (2 ^ k)) k ≡ 1
set_same n k = omega (arith, bit_at_or n (2 ^ k) k, bit_at-pow_same k, bit_at-lt n k)

set_other : (n k i : ℕ) → i ≢ k → bit_at (bit_or n (2 ^ k)) i ≡ bit_at n i
set_other n k i other = omega (arith, bit_at_or n (2 ^ k) i, bit_at-pow_other k i other)

bit_low : (g : Geometry) (f : ℕ) → free_bit g f < 64
bit_low g f = omega arith

name_parts : (t k u j : ℕ) → Free t k ≡ Free u j → (t ≡ u) × (k ≡ j)
name_parts t k u j e = (cc, cc)

-- two frames whose bits are in one word have different bits
bits_apart : (g : Geometry) (f j : ℕ) → IsFrame g f → IsFrame g j → j ≢ f → free_word_of g f ≡ free_word_of g j → free_bit g j ≢ free_bit g f
bits_apart g f j frame there other same bit =
    let parts = name_parts (tier_of g f) (free_index g f) (tier_of g j) (free_index g j) same in
    let first : first_frame g (tier_of g f) ≡ first_frame g (tier_of g j) = ap (first_frame g) parts.0 in
    let mine = IsInTier-tier_of g f frame in
    let theirs = IsInTier-tier_of g j there in
    other (omega (arith, bit, parts.1, first, mine.from, theirs.from))

at_frame : (g : Geometry) (word : Where → ℕ) (f x : ℕ) → written (free_word_of g f) x word (free_word_of g f) ≡ x
at_frame g word f x = choose_name (λ n. n ≡ x) (free_word_of g f) (free_word_of g f) x (word (free_word_of g f)) (λ s. refl) (λ n. absurd (n refl))

-- the bit of another frame, where a word keeps all bits but one
other_bit : (g : Geometry) (word : Where → ℕ) (f x j : ℕ) → IsFrame g f → IsFrame g j → j ≢ f → ((i : ℕ) → i < 64 → i ≢ free_bit g f → bit_at x i ≡ bit_at (word (free_word_of g f)) i) → bit_at (written (free_word_of g f) x word (free_word_of g j)) (free_bit g j) ≡ bit_at (word (free_word_of g j)) (free_bit g j)
other_bit g word f x j frame there other kept =
    choose_name (λ n. bit_at n (free_bit g j) ≡ bit_at (word (free_word_of g j)) (free_bit g j)) (free_word_of g f) (free_word_of g j) x (word (free_word_of g j))
    (λ same. kept (free_bit g j) (bit_low g j) (bits_apart g f j frame there other same) ∙ ap (λ (c : Where). bit_at (word c) (free_bit g j)) same)
    (λ apart. refl)

both : (s t u : Bool) → (s ≡ true → t ≡ u) → (s && t) ≡ (s && u)
both true t u e = e refl
both false t u e = refl

and_false : (s : Bool) → (s && false) ≡ false
and_false true = refl
and_false false = refl

other_free : (g : Geometry) (word : Where → ℕ) (f x j : ℕ) → IsFrame g f → j ≢ f → ((i : ℕ) → i < 64 → i ≢ free_bit g f → bit_at x i ≡ bit_at (word (free_word_of g f)) i) → free_in g (written (free_word_of g f) x word) j ≡ free_in g word j
other_free g word f x j frame other kept =
    both (nat_lt j (frame_count g)) _ _ (λ there. ap (λ n. n == 1) (other_bit g word f x j frame (ltb-true j (frame_count g) there) other kept))

-- a frame is given out: it is free no more
pub give_bit : (g : Geometry) (word : Where → ℕ) (f : ℕ) → IsFrame g f → WritesOne (free_in g word) (free_in g (written (free_word_of g f) (bit_and (word (free_word_of g f)) (all_but (2 ^ free_bit g f))) word)) f false
give_bit g word f frame =
    let x : ℕ = bit_and (word (free_word_of g f)) (all_but (2 ^ free_bit g f)) in
    let bit : bit_at (written (free_word_of g f) x word (free_word_of g f)) (free_bit g f) ≡ 0 =
    ap (λ n. bit_at n (free_bit g f)) (at_frame g word f x) ∙ clear_same (word (free_word_of g f)) (free_bit g f) (bit_low g f) in
    record {
      here = both (nat_lt f (frame_count g)) _ false (λ s. ne_eqb _ 1 (λ one. omega (arith, one, bit))) ∙ and_false (nat_lt f (frame_count g));
      rest = λ j other. other_free g word f x j frame other (λ i low apart. clear_other (word (free_word_of g f)) (free_bit g f) i (bit_low g f) low apart);
    }

-- a frame is put back: it is free
pub put_bit : (g : Geometry) (word : Where → ℕ) (f : ℕ) → IsFrame g f → WritesOne (free_in g word) (free_in g (written (free_word_of g f) (bit_or (word (free_word_of g f)) (2 ^ free_bit g f)) word)) f true
put_bit g word f frame =
    let x : ℕ = bit_or (word (free_word_of g f)) (2 ^ free_bit g f) in
    let bit : bit_at (written (free_word_of g f) x word (free_word_of g f)) (free_bit g f) ≡ 1 =
    ap (λ n. bit_at n (free_bit g f)) (at_frame g word f x) ∙ set_same (word (free_word_of g f)) (free_bit g f) in
    record {
      here = rw (lt-ltb f (frame_count g) frame) (eq-eqb _ 1 bit);
      rest = λ j other. other_free g word f x j frame other (λ i low apart. set_other (word (free_word_of g f)) (free_bit g f) i apart);
    }
