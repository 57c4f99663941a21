-- The script that is generated from a number: random loads and stores, most of them to few of the pages.
use Rattle.std.specs.Prelude.{ℕ, zero, suc, ◌+◌, ◌*◌, ◌/◌, ◌%◌, ◌^◌, ◌==◌, nat_lt, true, if◌then◌else◌, List, [], ◌∷◌, map, filter, Option, Some, None}
use Rattle.std.specs.List.{range_with_len}
use Rattle.nm_base.specs.declared.geometry.VPage.{VPage}
use Rattle.nm_base.specs.Geometry.{Geometry, made}
use Rattle.nm_script.specs.declared.limits.TheConstants.{MOST_TURNS}
use Rattle.nm_script.specs.declared.script.Line.{Line}
use Rattle.nm_script.specs.declared.script.Line.TheVariants.{Load, Store}
use Rattle.nm_script.specs.declared.schedule.Schedule.TheVariants.{Shuffle}
use Rattle.nm_script.specs.Plain.{Script}

-- the random number after x
abbrev pub next_draw : ℕ → ℕ
next_draw x = (x * 6364136223846793005 + 1442695040888963407) % 2 ^ 64

-- the random number after i draws from n
unfoldable pub drawn : ℕ → ℕ → ℕ
drawn n zero = n
drawn n (suc i) = next_draw (drawn n i)

-- four of five accesses go to the first 80 pages, the others to the 160 behind them
abbrev pub page_drawn : ℕ → ℕ
page_drawn r = if nat_lt (r / 4 % 5) 4 then r / 32 % 80 else 80 + r / 32 % 160

abbrev pub word_drawn : ℕ → ℕ
word_drawn r = r / 8192 % 512

-- one of four accesses is a store, of the number of its draw
abbrev pub line_drawn : ℕ → ℕ → Line
line_drawn r i = if r % 4 == 0 then Store (page_drawn r) (word_drawn r) (i + 1) else Load (page_drawn r) (word_drawn r)

-- the line of draw i, counted from 0, by the upper bits of its random number
abbrev pub line_at : ℕ → ℕ → Line
line_at n i = line_drawn (drawn n (i + 1) / 2 ^ 33) i

-- of `size` draws processor p has every fourth, from draw p on
abbrev pub generated_program : ℕ → ℕ → ℕ → List Line
generated_program n size p = map (line_at n) (filter (λ i. i % 4 == p) (range_with_len 0 size))

abbrev pub programs_of : ℕ → ℕ → List (List Line)
programs_of n size = map (generated_program n size) (0 ∷ 1 ∷ 2 ∷ 3 ∷ [])

-- 240 virtual pages, each mapped to the backing page of its number
abbrev pub one_to_one : ℕ → Option VPage
one_to_one i = Some (record { page = i; writable = true })

abbrev pub geometry : Geometry
geometry = made 512 (64 ∷ 256 ∷ []) 4 (map one_to_one (range_with_len 0 240))

-- the script of the number n with this many draws
abbrev pub generated : ℕ → ℕ → Script
generated n size = record {
  version = 1;
  geometry = geometry;
  programs = programs_of n size;
  schedule = Shuffle n MOST_TURNS;
  nodes = [];
  retry = None;
}
