-- What the laws of frames, copies and shadows read of a world: functions of numbers, and how one of them changes at a step.
use Rattle.std.specs.Prelude.{◌≡◌, ◌≢◌, ℕ, ◌==◌, ◌&&◌, nat_lt, Bool, Option}
use Rattle.std.specs.Int.{bit_at}
use Rattle.nm_base.specs.Geometry.{Geometry, frame_count}
use Rattle.nm_base.specs.FreeWords.{free_bit}
use Rattle.nm_view.specs.declared.view.CacheEntry.{CacheEntry}
use Rattle.nm_view.specs.declared.view.Fill.{Fill}
use Rattle.nm_view.specs.Lists.{find}
use Rattle.nm_view.specs.Views.{Op, View}
use Rattle.nm_view.specs.Operations.{op_on, fill_of, cached_page}
use Rattle.nm_words.specs.declared.names.Where.{Where}
use Rattle.nm_words.specs.declared.names.Where.TheVariants as words
use Rattle.nm_step.specs.Table.{free_word_of}
use Rattle.nm_world.specs.Worlds.{World}

-- the words by their numbers; the bits of free frames; operations by actor and page, fills by actor and frame, cached
-- translations by actor and virtual page
pub record Sight : Type 0 where
  pub pte : ℕ → ℕ
  pub home : ℕ → ℕ
  pub shadow : ℕ → ℕ
  pub free : ℕ → Bool
  pub mem : ℕ → ℕ → ℕ
  pub op : ℕ → ℕ → Option Op
  pub fill : ℕ → ℕ → Option Fill
  pub entry : ℕ → ℕ → Option CacheEntry

-- there is such a frame, and its bit is set
abbrev pub free_in : Geometry → (Where → ℕ) → ℕ → Bool
free_in g word f = nat_lt f (frame_count g) && (bit_at (word (free_word_of g f)) (free_bit g f) == 1)

abbrev pub sight_at : Geometry → (Where → ℕ) → (ℕ → View) → Sight
sight_at g word view = record {
  pte = λ v. word (words.Pte v);
  home = λ b. word (words.Home b);
  shadow = λ k. word (words.Shadow k);
  free = free_in g word;
  mem = λ f i. word (words.Mem f i);
  op = λ a b. op_on (view a) b;
  fill = λ a f. fill_of (view a) f;
  entry = λ a v. find cached_page v (view a).cache;
}

-- a world as these laws see it
abbrev pub sight_of : Geometry → World → Sight
sight_of g m = sight_at g m.word m.view

-- a function after one number was given a value: all else is as before
pub record WritesOne {A : Type 0} (f h : ℕ → A) (k : ℕ) (x : A) : Type 0 where
  pub here : h k ≡ x
  pub rest : (j : ℕ) → j ≢ k → h j ≡ f j

-- the same of a function of two numbers, as an actor and a page
pub record Sets {A : Type 0} (f h : ℕ → ℕ → A) (a k : ℕ) (x : A) : Type 0 where
  pub here : h a k ≡ x
  pub rest : (j : ℕ) → j ≢ k → h a j ≡ f a j
  pub others : (c j : ℕ) → c ≢ a → h c j ≡ f c j
