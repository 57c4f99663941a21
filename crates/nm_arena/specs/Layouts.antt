-- Where the groups of words begin in the list of all words.
use Rattle.std.specs.Prelude.{◌≡◌, ℕ, ◌^◌, ◌<◌, take, sum}
use Rattle.nm_base.specs.Geometry.{Geometry}
use Rattle.nm_words.specs.Flat.{sizes_of, total_words}
use Rattle.nm_arena.specs.declared.layout.Layout.{Layout}

-- how many words stand before group k
abbrev pub base_of : Geometry → ℕ → ℕ
base_of g k = sum (take k (sizes_of g))

-- a layout is that of this machine: each group begins after those before it, and there are not too many words
pub record IsLayoutOf (g : Geometry) (l : Layout) : Type 0 where
  pub stamp : l.stamp ≡ base_of g 2
  pub home : l.home ≡ base_of g 3
  pub shadow : l.shadow ≡ base_of g 4
  pub lock : l.lock ≡ base_of g 5
  pub mark : l.mark ≡ base_of g 6
  pub ack : l.ack ≡ base_of g 7
  pub turn : l.turn ≡ base_of g 8
  pub free : l.free ≡ base_of g 9
  pub mem : l.mem ≡ base_of g 10
  pub end : l.end ≡ total_words g
  pub few : total_words g < 2 ^ 32
