-- Where the words stand in the list of all words.
use Rattle.std.proofs.Common.{◌≡◌, ℕ, ◌+◌, ◌*◌, ◌^◌, ◌<◌, ◌≤◌, length, get_or, take_all, ap, arith}
use Rattle.std.specs.Prelude.{sum_by}
use Rattle.std.proofs.lemmas.List.Sums.{sum_by_more, sum_by_more_le}
use Rattle.std.proofs.Math.Nat.{mul-le-mul_left}
use Rattle.nm_base.specs.Geometry.{Geometry, IsGeometry, frame_count}
use Rattle.nm_base.specs.FreeWords.{words_for}
use Rattle.nm_base.proofs.Pages.{page_size}
use Rattle.nm_words.specs.declared.names.Where.{Where}
use Rattle.nm_words.specs.declared.names.Where.TheVariants.{Req, Pte, Stamp, Home, Shadow, Lock, Mark, Ack, Turn, Free, Mem}
use Rattle.nm_words.specs.Names.{IsPlace, first_free, free_word_count}
use Rattle.nm_words.specs.Flat.{total_words, at}
use Rattle.nm_words.proofs.Places.{free_few, free_place-lt, mem_place-lt}

-- each word has a place in the list
pub at-lt : (g : Geometry) (c : Where) → IsPlace g c → at g c < total_words g
at-lt g Req p = omega arith
at-lt g (Pte v) p = omega (arith, p)
at-lt g (Stamp v) p = omega (arith, p)
at-lt g (Home b) p = omega (arith, p)
at-lt g (Shadow m) p = omega (arith, p)
at-lt g (Lock b) p = omega (arith, p)
at-lt g (Mark b) p = omega (arith, p)
at-lt g (Ack c) p = omega (arith, p)
at-lt g (Turn t) p = omega (arith, p)
at-lt g (Free t k) p = omega (arith, free_place-lt g t k p.0 p.1)
at-lt g (Mem f i) p = omega (arith, mem_place-lt g f i p.0 p.1)

-- a machine has not too many words
pub few_words : (g : Geometry) → IsGeometry g → total_words g < 2 ^ 32
few_words g is =
    let free : free_word_count g ≤ 256 = free_few g.tiers is.ranges.1.1 (λ i d lt. let n = (is.ranges.1.2 i d lt).1 in omega (arith, n)) in
    let mem : frame_count g * g.words ≤ frame_count g * 512 = mul-le-mul_left (frame_count g) (page_size g.words is.ranges.0).1 in
    omega (arith, free, mem, is.ranges.1.1, is.ranges.1.3, is.ranges.2.1, is.ranges.3.0, is.ranges.3.2)

-- the words of the tiers before this one, and its own, are few
pub free_next : (g : Geometry) (t : ℕ) → IsGeometry g → t < length g.tiers → first_free g t + words_for (get_or g.tiers t 0) ≤ 256
free_next g t is lt =
    let free : free_word_count g ≤ 256 = free_few g.tiers is.ranges.1.1 (λ i d within. let n = (is.ranges.1.2 i d within).1 in omega (arith, n)) in
    omega (arith, free, sum_by_more_le words_for g.tiers t 0 lt)

pub free_more : (g : Geometry) (t : ℕ) → t < length g.tiers → first_free g t + words_for (get_or g.tiers t 0) ≡ first_free g (t + 1)
free_more g t lt = omega (arith, sum_by_more words_for g.tiers t 0 lt)

-- all tiers together have the words of the free frames
pub free_all : (g : Geometry) → first_free g (length g.tiers) ≡ free_word_count g
free_all g = ap (λ ns. sum_by words_for ns) (take_all (length g.tiers) g.tiers (omega arith))
