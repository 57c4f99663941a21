-- The word that maps a virtual page to its new home, read by its bits.
use Rattle.std.proofs.Common.{◌≡◌, ℕ, ◌+◌, ◌*◌, ◌/◌, ◌%◌, ◌^◌, ◌<◌, ◌≤◌, ◌==◌, not, ◌||◌, Bool, true, false, IsTrue, refl, ap, ◌∙◌, arith}
use Rattle.std.specs.Int.{bit_at}
use Rattle.nm_base.specs.Geometry.{Geometry, tier_of}
use Rattle.nm_base.specs.PageWord.{IsPresentWord, flag, frame_of, is_writable, is_saved, is_dirty, is_accessed, word_of}
use Rattle.nm_base.specs.declared.page_word.PageWord.TheVariants.{Present}
use Rattle.nm_base.proofs.Words.{IsPresentWord-written}
use Rattle.nm_commit.specs.Deciding.{moved_word}

flag-most : (b : Bool) → flag b ≤ 1
flag-most true = omega arith
flag-most false = omega arith

-- a present word without the right to write and without the dirty bit
pub record IsClean (frame : ℕ) (saved : Bool) (word : ℕ) : Type 0 where
  pub present : IsPresentWord word
  pub frame_is : frame_of word ≡ frame
  pub unwritable : is_writable word ≡ false
  pub clean : is_dirty word ≡ false
  pub saved_is : is_saved word ≡ saved

one-flag : (b : Bool) → (flag b == 1) ≡ b
one-flag true = refl
one-flag false = refl

clean-go : (frame : ℕ) (hint accessed saved : Bool) (h a s : ℕ) → frame < 2 ^ 32 → h ≤ 1 → a ≤ 1 → s ≤ 1 → flag hint ≡ h → flag accessed ≡ a → flag saved ≡ s → IsClean frame saved (word_of (Present frame hint false false accessed saved))
clean-go frame hint accessed saved h a s narrow hl al sl he ae se =
    let word : ℕ = 1 + 2 * flag hint + 4 * 0 + 8 * 0 + 16 * flag accessed + 32 * flag saved + 4096 * frame in
    let f : (word / 4096) % 2 ^ 32 ≡ frame = omega arith in
    let w : bit_at word 2 ≡ 0 = omega arith in
    let d : bit_at word 3 ≡ 0 = omega arith in
    let v : bit_at word 5 ≡ flag saved = omega arith in
    record {
      present = IsPresentWord-written frame hint false false accessed saved narrow;
      frame_is = f;
      unwritable = ap (λ (n : ℕ). n == 1) w;
      clean = ap (λ (n : ℕ). n == 1) d;
      saved_is = ap (λ (n : ℕ). n == 1) v ∙ one-flag saved;
    }

pub moved-clean : (g : Geometry) (frame word : ℕ) → frame < 2 ^ 32 → IsClean frame (is_writable word || is_saved word) (moved_word g frame word)
moved-clean g frame word narrow =
    clean-go frame (not (tier_of g frame == 0)) (is_accessed word) (is_writable word || is_saved word) (flag (not (tier_of g frame == 0))) (flag (is_accessed word)) (flag (is_writable word || is_saved word)) narrow
    (flag-most (not (tier_of g frame == 0))) (flag-most (is_accessed word)) (flag-most (is_writable word || is_saved word)) refl refl refl

-- where the moved word is saved, so is one of two
pub or-cases : (P : Type 0) (a b : Bool) → IsTrue (a || b) → (IsTrue a → P) → (IsTrue b → P) → P
or-cases P true b h pa pb = pa refl
or-cases P false b h pa pb = pb h
