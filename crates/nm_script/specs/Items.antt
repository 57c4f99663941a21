-- The lines of a script's text, and how each is spelled.
use Rattle.std.specs.Prelude.{ℕ, ◌==◌, nat_lt, if◌then◌else◌, Bool, true, false, List, [], ◌∷◌, ◌++◌, flat_map, codes}
use Rattle.std.specs.Fmt.{decimal}
use Rattle.nm_text.specs.Kinds.{kind_text}
use Rattle.nm_script.specs.declared.script.Line.{Line}
use Rattle.nm_script.specs.declared.script.Line.TheVariants.{Load, Store, Add, Await}
use Rattle.nm_script.specs.declared.item.Item.{Item}
use Rattle.nm_script.specs.declared.item.Item.TheVariants.{Version, Page, Tiers, Node, Cpus, Retry, Serial, Shuffle, Plan, Go, Map, Cpu, Access}

-- a line of the text: its bytes, and a newline
abbrev pub line : List ℕ → List ℕ
line bytes = bytes ++ 10 ∷ []

-- among this many processors an actor is c and its number, m for the migrator, or r for the reclaimer
abbrev pub actor_text : ℕ → ℕ → List ℕ
actor_text cpus actor = if nat_lt actor cpus then codes "c" ++ decimal actor else if actor == cpus then codes "m" else codes "r"

abbrev pub right_text : Bool → List ℕ
right_text true = codes "rw"
right_text false = codes "ro"

-- V.w, a virtual page and a word of it
abbrev pub place_text : ℕ → ℕ → List ℕ
place_text v w = decimal v ++ 46 ∷ decimal w

-- load V.w, store V.w X, add V.w X, or await V.w X N
abbrev pub access_text : Line → List ℕ
access_text (Load v w) = codes "load " ++ place_text v w
access_text (Store v w x) = codes "store " ++ (place_text v w ++ 32 ∷ decimal x)
access_text (Add v w x) = codes "add " ++ (place_text v w ++ 32 ∷ decimal x)
access_text (Await v w x n) = codes "await " ++ (place_text v w ++ 32 ∷ (decimal x ++ 32 ∷ decimal n))

-- the one spelling of a line, among this many processors
abbrev pub item_text : ℕ → Item → List ℕ
item_text cpus (Version n) = codes "nomad " ++ decimal n
item_text cpus (Page w) = codes "page " ++ decimal w
item_text cpus (Tiers f s) = codes "tiers " ++ (decimal f ++ 32 ∷ decimal s)
item_text cpus (Node n) = codes "node " ++ (decimal n.distance ++ 32 ∷ decimal n.frames)
item_text cpus (Cpus p) = codes "cpus " ++ decimal p
item_text cpus (Retry r) = codes "retry " ++ decimal r
item_text cpus (Serial t) = codes "serial turns " ++ decimal t
item_text cpus (Shuffle n t) = codes "shuffle " ++ (decimal n ++ (codes " turns " ++ decimal t))
item_text cpus (Plan t) = codes "plan turns " ++ decimal t
item_text cpus (Go g) = codes "go " ++ (actor_text cpus g.actor ++ 32 ∷ (kind_text g.kind ++ 32 ∷ decimal g.count))
item_text cpus (Map v p) = codes "map " ++ (decimal v ++ 32 ∷ (decimal p.page ++ 32 ∷ right_text p.writable))
item_text cpus (Cpu p) = codes "cpu " ++ decimal p
item_text cpus (Access l) = access_text l

-- some lines, each with its newline
abbrev pub lines_text : ℕ → List Item → List ℕ
lines_text cpus items = flat_map (λ i. line (item_text cpus i)) items
