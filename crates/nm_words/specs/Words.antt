-- The words of a machine in groups: how each is read and written by its name, and what they are at first.
use Rattle.std.specs.Prelude.{◌≡◌, ℕ, ◌-◌, ◌*◌, ◌^◌, min, List, length, map, replicate, slice_index, slice_set}
use Rattle.std.specs.List.{range_with_len, flat_map}
use Rattle.nm_base.specs.Geometry.{Geometry, page_count, frame_count}
use Rattle.nm_view.specs.Views.{off_word}
use Rattle.nm_words.specs.declared.names.Where.{Where}
use Rattle.nm_words.specs.declared.names.Where.TheVariants.{Req, Pte, Stamp, Home, Shadow, Lock, Mark, Ack, Turn, Free, Mem}
use Rattle.nm_words.specs.declared.exchanges.Change.{Change}
use Rattle.nm_words.specs.declared.exchanges.Change.TheVariants.{Keep}
use Rattle.nm_base.specs.FreeWords.{words_for}
use Rattle.nm_words.specs.Names.{free_word_count, free_place, mem_place}
use Rattle.nm_words.specs.Exchanges.{changed}

-- the number of bumps; for each virtual page its table word and its number of raises; for each backing page its home,
-- its lock and its mark; for each frame its shadow word; for each processor its acknowledgement; for each tier its
-- turn; the words of the free frames, tier by tier; the words of the memory, frame by frame
pub record Words : Type 0 where
  pub req : ℕ
  pub pte : List ℕ
  pub stamp : List ℕ
  pub home : List ℕ
  pub shadow : List ℕ
  pub lock : List ℕ
  pub mark : List ℕ
  pub ack : List ℕ
  pub turn : List ℕ
  pub free : List ℕ
  pub mem : List ℕ

-- the word of a name
abbrev pub word_at : Geometry → Words → Where → ℕ
word_at g w Req = w.req
word_at g w (Pte v) = slice_index w.pte v
word_at g w (Stamp v) = slice_index w.stamp v
word_at g w (Home b) = slice_index w.home b
word_at g w (Shadow m) = slice_index w.shadow m
word_at g w (Lock b) = slice_index w.lock b
word_at g w (Mark b) = slice_index w.mark b
word_at g w (Ack p) = slice_index w.ack p
word_at g w (Turn t) = slice_index w.turn t
word_at g w (Free t k) = slice_index w.free (free_place g t k)
word_at g w (Mem f i) = slice_index w.mem (mem_place g f i)

-- the words with x written at a name
abbrev pub with_word : Geometry → Words → Where → ℕ → Words
with_word g w Req x = record w { req = x }
with_word g w (Pte v) x = record w { pte = slice_set w.pte v x }
with_word g w (Stamp v) x = record w { stamp = slice_set w.stamp v x }
with_word g w (Home b) x = record w { home = slice_set w.home b x }
with_word g w (Shadow m) x = record w { shadow = slice_set w.shadow m x }
with_word g w (Lock b) x = record w { lock = slice_set w.lock b x }
with_word g w (Mark b) x = record w { mark = slice_set w.mark b x }
with_word g w (Ack p) x = record w { ack = slice_set w.ack p x }
with_word g w (Turn t) x = record w { turn = slice_set w.turn t x }
with_word g w (Free t k) x = record w { free = slice_set w.free (free_place g t k) x }
with_word g w (Mem f i) x = record w { mem = slice_set w.mem (mem_place g f i) x }

-- the words after an exchange on the word of a name: a read leaves them
abbrev pub exchanged : Geometry → Where → Change → Words → Words
exchanged g c Keep w = w
exchanged g c change w = with_word g w c (changed change (word_at g w c))

-- each group has as many words as the geometry says
pub record HasSizes (g : Geometry) (w : Words) : Type 0 where
  pub pte : length w.pte ≡ length g.vpages
  pub stamp : length w.stamp ≡ length g.vpages
  pub home : length w.home ≡ page_count g
  pub shadow : length w.shadow ≡ frame_count g
  pub lock : length w.lock ≡ page_count g
  pub mark : length w.mark ≡ page_count g
  pub ack : length w.ack ≡ g.cpus
  pub turn : length w.turn ≡ length g.tiers
  pub free : length w.free ≡ free_word_count g
  pub mem : length w.mem ≡ frame_count g * g.words

-- word k of the free frames of a tier with so many frames, all free
abbrev pub full_word : ℕ → ℕ → ℕ
full_word frames k = 2 ^ min 64 (frames - 64 * k) - 1

-- the words of the free frames of a tier with so many frames, all free
abbrev pub full_words : ℕ → List ℕ
full_words frames = map (full_word frames) (range_with_len 0 (words_for frames))

-- at first every frame is free, every acknowledgement is Off, and every other word is 0
abbrev pub opening_words : Geometry → Words
opening_words g = record {
  req = 0;
  pte = replicate (length g.vpages) 0;
  stamp = replicate (length g.vpages) 0;
  home = replicate (page_count g) 0;
  shadow = replicate (frame_count g) 0;
  lock = replicate (page_count g) 0;
  mark = replicate (page_count g) 0;
  ack = replicate g.cpus off_word;
  turn = replicate (length g.tiers) 0;
  free = flat_map full_words g.tiers;
  mem = replicate (frame_count g * g.words) 0;
}
