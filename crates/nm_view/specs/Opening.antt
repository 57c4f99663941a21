-- Views and operations at their beginning.
use Rattle.std.specs.Prelude.{◌≡◌, ℕ, zero, suc, ◌+◌, ◌<◌, ◌==◌, max, Bool, false, List, [], length, count_by, slice_index, slice_set, Option, Some, None}
use Rattle.nm_base.specs.Geometry.{Geometry, page_count, frame_count}
use Rattle.nm_base.specs.declared.geometry.VPage.{VPage}
use Rattle.nm_view.specs.declared.view.Phase.TheVariants.{Held}
use Rattle.nm_view.specs.declared.view.Scanned.{Scanned}
use Rattle.nm_view.specs.declared.view.Room.{Room}
use Rattle.nm_view.specs.Views.{Op, View, off_word}

-- an operation in which nothing is known
abbrev pub opened : ℕ → ℕ → Op
opened page room = record {
  page = page;
  home = None;
  shadow = None;
  looked = [];
  taken = [];
  phase = Held;
  cleared = false;
  moved = false;
  due = false;
  flush = None;
  seen = 0;
  copied = 0;
  last = None;
  wet = [];
  raised = [];
  room = room;
}

-- nothing was scanned
abbrev pub unscanned : Scanned
unscanned = record { words = 0; sum = 0; least = None }

-- a virtual page is mapped to a backing page
abbrev pub is_mapped_to : ℕ → Option VPage → Bool
is_mapped_to page None = false
is_mapped_to page (Some p) = p.page == page

-- how many virtual pages of a list are mapped to a backing page
abbrev pub alias_count : List (Option VPage) → ℕ → ℕ
alias_count vs page = count_by (is_mapped_to page) vs

-- the most virtual pages that one of the backing pages below n has
abbrev pub most_below : List (Option VPage) → ℕ → ℕ
most_below vs zero = 0
most_below vs (suc n) = max (alias_count vs n) (most_below vs n)

-- the most virtual pages that one backing page has
abbrev pub most_aliases : Geometry → ℕ
most_aliases g = most_below g.vpages (page_count g)

-- for how much the lists of each view have room
abbrev pub room_of : Geometry → Room
room_of g = record { vpages = length g.vpages; aliases = most_aliases g; frames = frame_count g }

-- the view of an actor that has made no step
abbrev pub opening : Geometry → ℕ → View
opening g number = record {
  number = number;
  cache = [];
  req_seen = off_word;
  ops = [];
  owned = [];
  turn = None;
  scan = unscanned;
  bumps = 0;
  acked = off_word;
  peeked = [];
  raises = 0;
  room = room_of g;
}

-- there is such an actor: a processor, the migrator or the reclaimer
abbrev pub IsActor : Geometry → ℕ → Type 0
IsActor g number = number < g.cpus + 2

-- the counts with one more virtual page of a backing page, if there is such a page
abbrev pub counted_page : Option ℕ → List ℕ → List ℕ
counted_page None counts = counts
counted_page (Some page) counts = slice_set counts page (slice_index counts page + 1)

-- a count for each of so many backing pages: how many virtual pages of a list are mapped to it
pub record HasCounts (counts : List ℕ) (vs : List (Option VPage)) (pages : ℕ) : Type 0 where
  pub size : length counts ≡ pages
  pub each : (b : ℕ) → b < pages → slice_index counts b ≡ alias_count vs b
