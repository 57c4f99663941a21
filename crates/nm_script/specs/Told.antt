-- What the lines so far have told, and one line more.
use Rattle.std.specs.Prelude.{ℕ, ◌+◌, ◌-◌, ◌==◌, ◌&&◌, Bool, true, false, List, [], ◌∷◌, ◌++◌, length, replicate, slice_set, Option, Some, None}
use Rattle.nm_base.specs.declared.geometry.VPage.{VPage}
use Rattle.nm_base.specs.Geometry.{made}
use Rattle.nm_tiers.specs.declared.nodes.Node.{Node}
use Rattle.nm_tiers.specs.Tiers.{tiers_of}
use Rattle.nm_script.specs.declared.limits.TheConstants.{MOST_TURNS}
use Rattle.nm_script.specs.declared.script.Line.{Line}
use Rattle.nm_script.specs.declared.schedule.PlanItem.{PlanItem}
use Rattle.nm_script.specs.declared.schedule.Schedule.{Schedule}
use Rattle.nm_script.specs.declared.schedule.Schedule.TheVariants as schedules
use Rattle.nm_script.specs.declared.item.Item.{Item}
use Rattle.nm_script.specs.declared.item.Item.TheVariants.{Version, Page, Tiers, Node as NodeLine, Cpus, Retry, Serial, Shuffle, Plan, Go, Map, Cpu, Access}
use Rattle.nm_script.specs.declared.item.Place.{Place}
use Rattle.nm_script.specs.declared.item.Place.TheVariants as places
use Rattle.nm_script.specs.declared.item.Order.{Order}
use Rattle.nm_script.specs.declared.item.Order.TheVariants as orders
use Rattle.nm_script.specs.Plain.{Script}

-- what stood last, and what each line said
pub record Told : Type 0 where
  pub place : Place
  pub version : ℕ
  pub words : ℕ
  pub tiers : List ℕ
  pub frames : ℕ
  pub nodes : List Node
  pub cpus : ℕ
  pub retry : Option ℕ
  pub order : Order
  pub plan : List PlanItem
  pub vpages : List (Option VPage)
  pub programs : List (List Line)

-- before the first line: a page has 512 words and the schedule is serial with the most turns where no line says otherwise
abbrev pub nothing : Told
nothing = record { place = places.Begin; version = 0; words = 512; tiers = []; frames = 0; nodes = []; cpus = 0; retry = None; order = orders.Serial MOST_TURNS; plan = []; vpages = []; programs = [] }

-- at least n places, the new ones empty
abbrev pub with_places : ℕ → List (Option VPage) → List (Option VPage)
with_places n vs = vs ++ replicate (n - length vs) None

-- virtual page v mapped
abbrev pub with_page : List (Option VPage) → ℕ → VPage → List (Option VPage)
with_page vs v p = slice_set (with_places (v + 1) vs) v (Some p)

-- a line more of the last program
abbrev pub with_line : List (List Line) → Line → List (List Line)
with_line [] l = []
with_line (p ∷ []) l = (p ++ l ∷ []) ∷ []
with_line (p ∷ q ∷ ps) l = p ∷ with_line (q ∷ ps) l

-- what is told after one line more
abbrev pub with_item : Told → Item → Told
with_item s (Version n) = record s { place = places.Version; version = n }
with_item s (Page w) = record s { place = places.Page; words = w }
with_item s (Tiers f t) = record s { place = places.Tier; tiers = f ∷ t ∷ []; frames = f + t }
with_item s (NodeLine n) = record s { place = places.Tier; nodes = s.nodes ++ n ∷ []; tiers = tiers_of (s.nodes ++ n ∷ []); frames = s.frames + n.frames }
with_item s (Cpus p) = record s { place = places.Cpus; cpus = p }
with_item s (Retry r) = record s { place = places.Retry; retry = Some r }
with_item s (Serial t) = record s { place = places.Order; order = orders.Serial t }
with_item s (Shuffle n t) = record s { place = places.Order; order = orders.Shuffle n t }
with_item s (Plan t) = record s { place = places.Plan; order = orders.Plan t }
with_item s (Go g) = record s { plan = s.plan ++ g ∷ [] }
with_item s (Map v p) = record s { place = places.Map; vpages = with_page s.vpages v p }
with_item s (Cpu p) = record s { place = places.Program; programs = s.programs ++ [] ∷ [] }
with_item s (Access l) = record s { programs = with_line s.programs l }

abbrev pub is_program : Place → Bool
is_program places.Program = true
is_program _ = false

-- the text may end here: the last processor has its line
abbrev pub is_whole : Told → Bool
is_whole s = is_program s.place && length s.programs == s.cpus

abbrev pub schedule_of : Order → List PlanItem → Schedule
schedule_of (orders.Serial t) plan = schedules.Serial t
schedule_of (orders.Shuffle n t) plan = schedules.Shuffle n t
schedule_of (orders.Plan t) plan = schedules.Plan t plan

-- the script that was told
abbrev pub script_of : Told → Script
script_of s = record {
  version = s.version;
  geometry = made s.words s.tiers s.cpus s.vpages;
  programs = s.programs;
  schedule = schedule_of s.order s.plan;
  nodes = s.nodes;
  retry = s.retry;
}
