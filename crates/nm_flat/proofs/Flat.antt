-- The flat list of words and the memory that it has.
use Rattle.std.proofs.Common.{◌≡◌, ◌≢◌, ℕ, ◌<◌, List, length, get_or, set, replicate, sym, ◌∙◌, arith, get_or-set_same, get_or-set_other, inl, inr}
use Rattle.std.proofs.lemmas.Bool.Decides.{eqb_tells, nat_tests}
use Rattle.std.proofs.lemmas.List.{length-replicate, get_or-replicate, length-set}
use Rattle.std.specs.Prelude.{IsSome}
use Rattle.nm_base.specs.Geometry.{Geometry, page_count, backing_page}
use Rattle.nm_flat.specs.Memory.{Memory, empty_memory, with_stored, flat_size, mapped_page, place, IsMemory}
use Rattle.nm_flat.proofs.Places.{place-lt, place-same, page_of-lt}

-- a word that was written
pub with_word-same : (m : Memory) (b i x : ℕ) → with_stored m b i x b i ≡ x
with_word-same m b i x = grind (arith, nat_tests)

-- every other word stays
pub with_word-other : (m : Memory) (b i x c j : ℕ) → (c ≡ b → j ≢ i) → with_stored m b i x c j ≡ m c j
with_word-other m b i x c j other = grind (arith, nat_tests)

-- at first every word is 0
pub IsMemory-start : (g : Geometry) → IsMemory g (replicate (flat_size g) 0) empty_memory
IsMemory-start g = record {
  size = length-replicate (flat_size g) 0;
  same = λ b i page word. get_or-replicate (flat_size g) (place g b i) 0 0 (place-lt g b i page word);
}

-- a word of a virtual page is read at its place
pub IsMemory-read : (g : Geometry) (words : List ℕ) (m : Memory) (v i : ℕ) → IsMemory g words m → IsSome (backing_page g v) → i < g.words → get_or words (place g (mapped_page g v) i) 0 ≡ m (mapped_page g v) i
IsMemory-read g words m v i memory mapped word = memory.same (mapped_page g v) i (page_of-lt g v mapped) word

written : (g : Geometry) (words : List ℕ) (m : Memory) (b i x c j : ℕ) → b < page_count g → i < g.words → j < g.words → place g b i < length words → get_or words (place g c j) 0 ≡ m c j → get_or (set words (place g b i) x) (place g c j) 0 ≡ with_stored m b i x c j
written g words m b i x c j page word index within before =
    elim (eqb_tells (place g c j) (place g b i)) [
      | inl here ↦ let same = place-same g c j b i index word here.1 in rw (same.0, same.1) (get_or-set_same words (place g b i) x 0 within ∙ sym (with_word-same m b i x))
      | inr away ↦ get_or-set_other words (place g b i) (place g c j) x 0 away.1 ∙ before ∙ sym (with_word-other m b i x c j (λ p q. away.1 (cc)))
    ]

-- a word of a page is written at its place
pub IsMemory-set : (g : Geometry) (words : List ℕ) (m : Memory) (b i x : ℕ) → IsMemory g words m → b < page_count g → i < g.words → IsMemory g (set words (place g b i) x) (with_stored m b i x)
IsMemory-set g words m b i x memory page word = record {
  size = length-set words (place g b i) x ∙ memory.size;
  same = λ c j p w. written g words m b i x c j page word w (omega (arith, place-lt g b i page word, memory.size)) (memory.same c j p w);
}

-- a word of a virtual page is written at its place
pub IsMemory-write : (g : Geometry) (words : List ℕ) (m : Memory) (v i x : ℕ) → IsMemory g words m → IsSome (backing_page g v) → i < g.words → IsMemory g (set words (place g (mapped_page g v) i) x) (with_stored m (mapped_page g v) i x)
IsMemory-write g words m v i x memory mapped word = IsMemory-set g words m (mapped_page g v) i x memory (page_of-lt g v mapped) word
