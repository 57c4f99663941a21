-- The bits of the words that map a page to its new home.
use Rattle.std.proofs.Common.{◌≡◌, ℕ, ◌^◌, ◌<◌, ◌≤◌, ◌==◌, ◌||◌, Bool, true, false, IsTrue, refl, sym, ap, ◌∙◌, arith}
use Rattle.std.specs.Int.{bit_at}
use Rattle.nm_base.specs.Geometry.{Geometry, IsWritable}
use Rattle.nm_base.specs.PageWord.{IsPresentWord, is_writable, is_dirty, is_accessed, is_saved, frame_of, flag, word_of}
use Rattle.nm_base.specs.declared.page_word.PageWord.TheVariants.{Present}
use Rattle.nm_base.proofs.Words.{IsPresentWord-written}
use Rattle.nm_event.specs.Fitting.{IsTableWord}
use Rattle.nm_transfer.specs.declared.transfer.Rights.{Rights}
use Rattle.nm_transfer.specs.declared.transfer.Rights.TheVariants.{Kept, Plain}
use Rattle.nm_transfer.specs.Words.{mapped_word}

flag-le : (b : Bool) → flag b ≤ 1
flag-le true = omega arith
flag-le false = omega arith

flag-test : (b : Bool) → (flag b == 1) ≡ b
flag-test true = refl
flag-test false = refl

-- a written word has the frame, the rights and the marks that were written
pub written-frame : (frame : ℕ) (h w d a s : Bool) → frame < 2 ^ 32 → frame_of (word_of (Present frame h w d a s)) ≡ frame
written-frame frame h w d a s lt = omega (arith, flag-le h, flag-le w, flag-le d, flag-le a, flag-le s)

pub written-writable : (frame : ℕ) (h w d a s : Bool) → is_writable (word_of (Present frame h w d a s)) ≡ w
written-writable frame h w d a s =
    let e : bit_at (word_of (Present frame h w d a s)) 2 ≡ flag w = omega (arith, flag-le h, flag-le w, flag-le d, flag-le a, flag-le s) in
    ap (λ (n : ℕ). n == 1) e ∙ flag-test w

pub written-dirty : (frame : ℕ) (h w d a s : Bool) → is_dirty (word_of (Present frame h w d a s)) ≡ d
written-dirty frame h w d a s =
    let e : bit_at (word_of (Present frame h w d a s)) 3 ≡ flag d = omega (arith, flag-le h, flag-le w, flag-le d, flag-le a, flag-le s) in
    ap (λ (n : ℕ). n == 1) e ∙ flag-test d

pub written-saved : (frame : ℕ) (h w d a s : Bool) → is_saved (word_of (Present frame h w d a s)) ≡ s
written-saved frame h w d a s =
    let e : bit_at (word_of (Present frame h w d a s)) 5 ≡ flag s = omega (arith, flag-le h, flag-le w, flag-le d, flag-le a, flag-le s) in
    ap (λ (n : ℕ). n == 1) e ∙ flag-test s

pub written-present : (frame : ℕ) (h w d a s : Bool) → frame < 2 ^ 32 → IsPresentWord (word_of (Present frame h w d a s))
written-present frame h w d a s lt = IsPresentWord-written frame h w d a s lt

-- a word maps v to a frame, with no more rights than v has
pub record IsMappingWord (g : Geometry) (v frame word : ℕ) : Type 0 where
  pub present : IsPresentWord word
  pub frame_is : frame_of word ≡ frame
  pub writable : IsTrue (is_writable word) → IsWritable g v
  pub saved : IsTrue (is_saved word) → IsWritable g v

either-true : (a b : Bool) (P : Type 0) → (IsTrue a → P) → (IsTrue b → P) → IsTrue (a || b) → P
either-true true b P f h t = f refl
either-true false b P f h t = h t

-- the words that map a page to its new home are such
pub mapped-word : (rights : Rights) (g : Geometry) (v frame : ℕ) (hint : Bool) (word : ℕ) → frame < 2 ^ 32 → IsTableWord g v word → IsMappingWord g v frame (mapped_word rights frame hint word)
mapped-word Kept g v frame hint word lt t = record {
  present = written-present frame hint (is_writable word) (is_dirty word) (is_accessed word) (is_saved word) lt;
  frame_is = written-frame frame hint (is_writable word) (is_dirty word) (is_accessed word) (is_saved word) lt;
  writable = λ w. t.writable (sym (written-writable frame hint (is_writable word) (is_dirty word) (is_accessed word) (is_saved word)) ∙ w);
  saved = λ s. t.saved (sym (written-saved frame hint (is_writable word) (is_dirty word) (is_accessed word) (is_saved word)) ∙ s);
}
mapped-word Plain g v frame hint word lt t = record {
  present = written-present frame hint (is_writable word || is_saved word) (is_dirty word) false false lt;
  frame_is = written-frame frame hint (is_writable word || is_saved word) (is_dirty word) false false lt;
  writable = λ w. either-true (is_writable word) (is_saved word) (IsWritable g v) t.writable t.saved (sym (written-writable frame hint (is_writable word || is_saved word) (is_dirty word) false false) ∙ w);
  saved = λ s. let none : false ≡ true = sym (written-saved frame hint (is_writable word || is_saved word) (is_dirty word) false false) ∙ s in cc;
}
