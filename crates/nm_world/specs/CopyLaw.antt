-- What is said of the words of owned frames is so.
use Rattle.std.specs.Prelude.{◌≡◌, ℕ, ◌<◌, ◌⊎◌, Bool, List, Option, Some, IsSome, true, false, All}
use Rattle.nm_base.specs.Geometry.{Geometry}
use Rattle.nm_base.specs.PageWord.{is_dirty}
use Rattle.nm_base.specs.Ranges.{IsIndex}
use Rattle.nm_view.specs.declared.view.CacheEntry.{CacheEntry}
use Rattle.nm_view.specs.declared.view.Fill.{Fill}
use Rattle.nm_view.specs.declared.view.Fill.TheVariants.{Zeroed, Copied, Equal}
use Rattle.nm_view.specs.Views.{Op}
use Rattle.nm_world.specs.Parts.{Copier, copier_of}
use Rattle.nm_world.specs.Sights.{Sight}
use Rattle.nm_world.specs.Notions.{IsOut, IsReadOnly, IsUndirtied, IsClean, page_value, fill_page}

-- what the copies of an operation rest on
pub record CopySight : Type 0 where
  pub pte : ℕ → ℕ
  pub home : ℕ → ℕ
  pub mem : ℕ → ℕ → ℕ
  pub fill : ℕ → ℕ → Option Fill
  pub entry : ℕ → ℕ → Option CacheEntry

abbrev pub copy_sight : Sight → CopySight
copy_sight m = record { pte = m.pte; home = m.home; mem = m.mem; fill = m.fill; entry = m.entry }

-- an actor has a frame that is copied of a page
pub record OwnsCopy (fill : ℕ → ℕ → Option Fill) (a b : ℕ) : Type 0 where
  pub frame : ℕ
  pub count : ℕ
  pub is : fill a frame ≡ Some (Copied b count)

-- an operation has loaded a word, or has a copy
abbrev pub HasCopies : (ℕ → ℕ → Option Fill) → ℕ → ℕ → Option ℕ → Type 0
HasCopies fill a b last = IsSome last ⊎ OwnsCopy fill a b

-- the copies of page b are not spoilt: where the operation names a virtual page, no table word of b is dirty and no taken one
pub record IsUnspoilt (g : Geometry) (pte : ℕ → ℕ) (b : ℕ) (naming : Bool) (pairs : List (ℕ × ℕ)) : Type 0 where
  pub table : naming ≡ true → IsUndirtied g pte b
  pub taken : naming ≡ true → All (λ p. is_dirty p.1 ≡ false) pairs

-- frame f is a twin of page b: it equals the page in all words, no table word of b is writable, no cache has a dirty entry
-- of b
pub record IsTwin (g : Geometry) (k : CopySight) (b f : ℕ) : Type 0 where
  pub equal : (i : ℕ) → IsIndex g i → k.mem f i ≡ page_value k.home k.mem b i
  pub unwritable : IsReadOnly g k.pte b
  pub clean : IsClean g k.entry b

-- the copies of actor a's operation on b: before the first flush ended there are none; unless they are spoilt, the loaded
-- word is the page's, and so are the first words of a copy; unless they are spoilt, no cache has a dirty entry of b once the
-- first flush ended, while the operation names a virtual page; where it names none and has copies, every table word of b
-- is 0 and no cache has a dirty entry of b; a frame that is Equal of b is a twin
pub record OpCopies (g : Geometry) (k : CopySight) (a b : ℕ) (o : Copier) : Type 0 where
  pub early : o.early ≡ true → ¬ HasCopies k.fill a b o.last
  pub last : (x : ℕ) → o.last ≡ Some x → IsIndex g o.copied → IsUnspoilt g k.pte b o.naming o.taken → x ≡ page_value k.home k.mem b o.copied
  pub copied : (f n : ℕ) → k.fill a f ≡ Some (Copied b n) → IsUnspoilt g k.pte b o.naming o.taken → (i : ℕ) → IsIndex g i → i < n → k.mem f i ≡ page_value k.home k.mem b i
  pub dirty : o.naming ≡ true → o.early ≡ false → IsUnspoilt g k.pte b o.naming o.taken → IsClean g k.entry b
  pub out : o.naming ≡ false → HasCopies k.fill a b o.last → IsOut g k.pte b
  pub out_clean : o.naming ≡ false → HasCopies k.fill a b o.last → IsClean g k.entry b
  pub equal : (f : ℕ) → k.fill a f ≡ Some (Equal b) → IsTwin g k b f

-- a frame that is Zeroed so far has so many words 0 in front; a frame that is Copied or Equal of a page is owned by an actor
-- with an operation on the page; the copies of each operation are true
pub record CopyLaw (g : Geometry) (m : Sight) : Type 0 where
  pub zeroed : (a f n : ℕ) → m.fill a f ≡ Some (Zeroed n) → (i : ℕ) → i < n → m.mem f i ≡ 0
  pub has_op : (a f b : ℕ) (fill : Fill) → m.fill a f ≡ Some fill → fill_page fill ≡ Some b → IsSome (m.op a b)
  pub ops : (a b : ℕ) (o : Op) → m.op a b ≡ Some o → OpCopies g (copy_sight m) a b (copier_of g o)
