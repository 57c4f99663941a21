-- The world of a state.
use Rattle.std.specs.Prelude.{ℕ, nat_lt, ◌&&◌, if◌then◌else◌, Bool, true, length}
use Rattle.nm_base.specs.Geometry.{Geometry, page_count, frame_count}
use Rattle.nm_base.specs.FreeWords.{free_words}
use Rattle.nm_words.specs.declared.names.Where.{Where}
use Rattle.nm_words.specs.declared.names.Where.TheVariants.{Req, Pte, Stamp, Home, Shadow, Lock, Mark, Ack, Turn, Free, Mem}
use Rattle.nm_words.specs.Words.{Words, word_at}
use Rattle.nm_core.specs.State.{State, view_of}
use Rattle.nm_world.specs.Worlds.{World}

-- whether a machine has the word
abbrev pub has_word : Geometry → Where → Bool
has_word g Req = true
has_word g (Pte v) = nat_lt v (length g.vpages)
has_word g (Stamp v) = nat_lt v (length g.vpages)
has_word g (Home b) = nat_lt b (page_count g)
has_word g (Shadow m) = nat_lt m (frame_count g)
has_word g (Lock b) = nat_lt b (page_count g)
has_word g (Mark b) = nat_lt b (page_count g)
has_word g (Ack p) = nat_lt p g.cpus
has_word g (Turn t) = nat_lt t (length g.tiers)
has_word g (Free t k) = nat_lt t (length g.tiers) && nat_lt k (free_words g t)
has_word g (Mem f i) = nat_lt f (frame_count g) && nat_lt i g.words

-- the word of a name, and 0 where the machine has no such word
abbrev pub seen_word : Geometry → Words → Where → ℕ
seen_word g w c = if has_word g c then word_at g w c else 0

-- the words and the views of a state, by name and by number
abbrev pub world_of : State → World
world_of s = record { word = seen_word s.geometry s.words; view = view_of s }
