-- Flat memory: what a list of accesses leaves in the words of the backing pages, and when the list is legal.
use Rattle.std.specs.Prelude.{◌≡◌, ℕ, ◌+◌, ◌*◌, ◌%◌, ◌^◌, ◌<◌, ◌==◌, ◌&&◌, if◌then◌else◌, IsSome, unwrap_or, List, [], ◌∷◌, length, slice_index, All, filter}
use Rattle.nm_base.specs.Geometry.{Geometry, page_count, backing_page}
use Rattle.nm_flat.specs.declared.access.Access.{Access}
use Rattle.nm_flat.specs.declared.access.AccessKind.{AccessKind}
use Rattle.nm_flat.specs.declared.access.AccessKind.TheVariants.{Load, Store, Add}

-- a memory gives the number in each word, by backing page and index
abbrev pub Memory : Type 0
Memory = ℕ → ℕ → ℕ

-- at first every word is 0
abbrev pub empty_memory : Memory
empty_memory b i = 0

-- the memory after x was written to word i of page b: every other word stays
abbrev pub with_stored : Memory → ℕ → ℕ → ℕ → Memory
with_stored m b i x c j = if c == b && j == i then x else m c j

-- the backing page of a mapped virtual page (0 where it is not mapped, of which nothing is claimed)
abbrev pub mapped_page : Geometry → ℕ → ℕ
mapped_page g v = unwrap_or (backing_page g v) 0

-- what a memory has in the word of an access
abbrev pub accessed_word : Geometry → Memory → Access → ℕ
accessed_word g m a = m (mapped_page g a.vpage) a.word

-- the memory after an access of this kind to word i of page b: a load changes nothing, a store sets the word,
-- and an add sets it to what it was plus a number, modulo 2^64
abbrev pub with_kind : Memory → ℕ → ℕ → AccessKind → Memory
with_kind m b i (Load told) = m
with_kind m b i (Store value) = with_stored m b i value
with_kind m b i (Add gave plus) = with_stored m b i ((m b i + plus) % 2 ^ 64)

-- the memory after an access
abbrev pub with_access : Geometry → Memory → Access → Memory
with_access g m a = with_kind m (mapped_page g a.vpage) a.word a.kind

-- the memory after a list of accesses that begins in memory m
abbrev pub memory_from : Geometry → Memory → List Access → Memory
memory_from g m [] = m
memory_from g m (a ∷ list) = memory_from g (with_access g m a) list

-- the memory after a list of accesses, every word being 0 at first
abbrev pub memory_after : Geometry → List Access → Memory
memory_after g list = memory_from g empty_memory list

-- an access of this kind to a word that has x is true: a load gives x, an add gave x, and a store tells nothing
abbrev pub IsTrueAt : AccessKind → ℕ → Type 0
IsTrueAt (Load told) x = told ≡ x
IsTrueAt (Store value) x = Unit {0}
IsTrueAt (Add gave plus) x = gave ≡ x

-- an access tells what the memory has in its word
abbrev pub IsTrueOf : Geometry → Memory → Access → Type 0
IsTrueOf g m a = IsTrueAt a.kind (accessed_word g m a)

-- each access tells what its word has after the stores and adds before it, from memory m on
abbrev pub IsLegalFrom : Geometry → Memory → List Access → Type 0
IsLegalFrom g m [] = Unit {0}
IsLegalFrom g m (a ∷ list) = IsTrueOf g m a × IsLegalFrom g (with_access g m a) list

-- each access tells what its word has after the stores and adds before it, every word being 0 at first
abbrev pub IsLegal : Geometry → List Access → Type 0
IsLegal g list = IsLegalFrom g empty_memory list

-- an access lies in a mapped page, and its word is one of the page
pub record IsPlaced (g : Geometry) (a : Access) : Type 0 where
  pub mapped : IsSome (backing_page g a.vpage)
  pub within : a.word < g.words

-- every access of a list lies in a mapped page, and its word is one of the page
abbrev pub AllPlaced : Geometry → List Access → Type 0
AllPlaced g list = All (IsPlaced g) list

-- the accesses of one processor, in order
abbrev pub own_part_of : ℕ → List Access → List Access
own_part_of cpu list = filter (λ a. a.cpu == cpu) list

-- how many words the backing pages have in all
abbrev pub flat_size : Geometry → ℕ
flat_size g = page_count g * g.words

-- where word i of page b stands in the list of all words: page by page
abbrev pub place : Geometry → ℕ → ℕ → ℕ
place g b i = b * g.words + i

-- a list has the words of a memory, page by page
pub record IsMemory (g : Geometry) (words : List ℕ) (m : Memory) : Type 0 where
  pub size : length words ≡ flat_size g
  pub same : (b i : ℕ) → b < page_count g → i < g.words → slice_index words (place g b i) ≡ m b i

-- a flat memory as contracts see it: the list of its words
pub record FlatMemory : Type 0 where
  pub words : List ℕ
