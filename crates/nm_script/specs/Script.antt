-- Scripts: which values are scripts, and the one canonical text of each.
use Rattle.std.specs.Prelude.{◌≡◌, ℕ, ◌+◌, ◌^◌, ◌<◌, ◌≤◌, ◌==◌, ◌⊎◌, if◌then◌else◌, IsSome, IsSomeAnd, IsTrue, List, [], ◌∷◌, ◌++◌, length, map, slice_index_or, Option, Some, None, IfSome}
use Rattle.std.specs.List.{AllByRecursion}
use Rattle.nm_base.specs.declared.geometry.VPage.{VPage}
use Rattle.nm_base.specs.Geometry.{Geometry, IsGeometry}
use Rattle.nm_tiers.specs.declared.nodes.Node.{Node}
use Rattle.nm_tiers.specs.Tiers.{frames_of, tiers_of}
use Rattle.nm_script.specs.declared.limits.TheConstants.{MOST_FRAMES, MOST_TURNS}
use Rattle.nm_script.specs.declared.script.Line.{Line}
use Rattle.nm_script.specs.declared.script.Line.TheVariants.{Load, Store, Add, Await}
use Rattle.nm_script.specs.declared.schedule.PlanItem.{PlanItem}
use Rattle.nm_script.specs.declared.schedule.Schedule.{Schedule}
use Rattle.nm_script.specs.declared.schedule.Schedule.TheVariants as schedules
use Rattle.nm_script.specs.declared.item.Item.{Item}
use Rattle.nm_script.specs.declared.item.Item.TheVariants as items
use Rattle.nm_script.specs.Plain.{Script}
use Rattle.nm_script.specs.Items.{lines_text}

-- ---- the canonical text

-- the tiers: one line of two in version 1, a line for each node in version 2
abbrev pub tier_items : Script → List Item
tier_items s =
    if s.version == 1
    then items.Tiers (slice_index_or s.geometry.tiers 0 0) (slice_index_or s.geometry.tiers 1 0) ∷ []
    else map (λ n. items.Node n) s.nodes

-- a line where the script has a retry, else none
abbrev pub retry_items : Option ℕ → List Item
retry_items None = []
retry_items (Some r) = items.Retry r ∷ []

-- the schedule, and after a plan its items
abbrev pub schedule_items : Schedule → List Item
schedule_items (schedules.Serial t) = items.Serial t ∷ []
schedule_items (schedules.Shuffle n t) = items.Shuffle n t ∷ []
schedule_items (schedules.Plan t plan) = items.Plan t ∷ map (λ g. items.Go g) plan

-- a line where the virtual page is mapped, else none
abbrev pub map_item : ℕ → Option VPage → List Item
map_item v None = []
map_item v (Some p) = items.Map v p ∷ []

-- the mapped ones of the virtual pages from v on, in ascending order
abbrev pub map_items : ℕ → List (Option VPage) → List Item
map_items v [] = []
map_items v (o ∷ vs) = map_item v o ++ map_items (v + 1) vs

-- the line of a processor, and its program
abbrev pub cpu_items : ℕ → List Line → List Item
cpu_items p lines = items.Cpu p ∷ map (λ l. items.Access l) lines

-- the programs of the processors from p on
abbrev pub program_items : ℕ → List (List Line) → List Item
program_items p [] = []
program_items p (lines ∷ programs) = cpu_items p lines ++ program_items (p + 1) programs

-- the lines before the schedule, with this line of the page or none
abbrev pub head_with : Script → List Item → List Item
head_with s page = items.Version s.version ∷ page ++ tier_items s ++ items.Cpus s.geometry.cpus ∷ retry_items s.retry

-- the lines before the schedule
abbrev pub head_items : Script → List Item
head_items s = head_with s (items.Page s.geometry.words ∷ [])

-- every line of the script in its order, with these lines of the page, of the schedule and of the virtual pages
abbrev pub items_with : Script → List Item → List Item → List Item → List Item
items_with s page schedule maps = head_with s page ++ schedule ++ maps ++ program_items 0 s.programs

-- every line of the script in its order
abbrev pub items_of : Script → List Item
items_of s = items_with s (items.Page s.geometry.words ∷ []) (schedule_items s.schedule) (map_items 0 s.geometry.vpages)

-- the canonical text of a script
abbrev pub script_text : Script → List ℕ
script_text s = lines_text s.geometry.cpus (items_of s)

-- ---- which values are scripts

-- an access to a word of a page of this many words that is mapped, and that a store and an add may write
abbrev pub IsAccessTo : ℕ → List (Option VPage) → Line → Type 0
IsAccessTo words vs (Load v w) = IsSome (slice_index_or vs v None) × (w < words)
IsAccessTo words vs (Store v w x) = IsSomeAnd (slice_index_or vs v None) (λ p. IsTrue p.writable) × (w < words) × (x < 2 ^ 64)
IsAccessTo words vs (Add v w x) = IsSomeAnd (slice_index_or vs v None) (λ p. IsTrue p.writable) × (w < words) × (x < 2 ^ 64)
IsAccessTo words vs (Await v w x n) = IsSome (slice_index_or vs v None) × (w < words) × (x < 2 ^ 64) × (1 ≤ n) × (n ≤ 1000000000)

-- the same of the pages of a machine
abbrev pub IsAccess : Geometry → Line → Type 0
IsAccess g l = IsAccessTo g.words g.vpages l

-- an item of a plan: a processor, the migrator or the reclaimer, and 1 to 1,000,000 actions
abbrev pub IsPlanItem : ℕ → PlanItem → Type 0
IsPlanItem cpus g = (g.actor ≤ cpus + 1) × (1 ≤ g.count) × (g.count ≤ 1000000)

-- at most 8,000,000 turns
abbrev pub IsSchedule : ℕ → Schedule → Type 0
IsSchedule cpus (schedules.Serial t) = t ≤ MOST_TURNS
IsSchedule cpus (schedules.Shuffle n t) = (n < 2 ^ 64) × (t ≤ MOST_TURNS)
IsSchedule cpus (schedules.Plan t plan) = (t ≤ MOST_TURNS) × AllByRecursion (IsPlanItem cpus) plan

-- a node with a distance of at most 65,535 and 1 to 4,095 frames
abbrev pub IsNode : Node → Type 0
IsNode n = (n.distance ≤ 65535) × (1 ≤ n.frames) × (n.frames ≤ 4095)

-- the tiers are those of one to sixteen nodes with at most 4,096 frames in all
pub record AreNodes (tiers : List ℕ) (nodes : List Node) : Type 0 where
  pub some : 1 ≤ length nodes
  pub few : length nodes ≤ 16
  pub each : AllByRecursion IsNode nodes
  pub sum : frames_of nodes ≤ MOST_FRAMES
  pub formed : tiers ≡ tiers_of nodes

-- in version 1 two tiers, and neither nodes nor a retry; in version 2 the tiers of the nodes
abbrev pub HasVersion : ℕ → List ℕ → List Node → Option ℕ → Type 0
HasVersion version tiers nodes retry =
    ((version ≡ 1) × (length tiers ≡ 2) × (nodes ≡ []) × (retry ≡ None))
    ⊎ ((version ≡ 2) × AreNodes tiers nodes × IfSome retry (λ r. r ≤ 1000))

-- no empty place at the end
abbrev pub IsTrimmed : List (Option VPage) → Type 0
IsTrimmed [] = Unit {0}
IsTrimmed (o ∷ []) = IsSome o
IsTrimmed (o ∷ p ∷ vs) = IsTrimmed (p ∷ vs)

-- a value that the text of a script says
pub record IsScript (s : Script) : Type 0 where
  pub version : HasVersion s.version s.geometry.tiers s.nodes s.retry
  pub geometry : IsGeometry s.geometry
  pub trimmed : IsTrimmed s.geometry.vpages
  pub schedule : IsSchedule s.geometry.cpus s.schedule
  pub programs : length s.programs ≡ s.geometry.cpus
  pub lines : AllByRecursion (λ program. AllByRecursion (IsAccess s.geometry) program) s.programs
