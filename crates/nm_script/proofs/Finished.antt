-- What a whole text told is a script.
use Rattle.std.proofs.Common.{◌≡◌, ℕ, zero, suc, ◌+◌, ◌<◌, ◌≤◌, ◌⊎◌, true, List, [], ◌∷◌, length, sum, get_or, Option, refl, sym, ap, ◌∙◌, subst, inl, inr, arith}
use Rattle.std.specs.List.{AllByRecursion}
use Rattle.std.proofs.lemmas.Bool.{and_parts, eqb-true}
use Rattle.std.proofs.lemmas.List.{length-map}
use Rattle.std.proofs.lemmas.List.Sums.{sum_by-cons}
use Rattle.nm_base.specs.declared.geometry.VPage.{VPage}
use Rattle.nm_base.specs.Geometry.{IsGeometry, AreTiers, pages_of, made}
use Rattle.nm_tiers.specs.declared.nodes.Node.{Node}
use Rattle.nm_tiers.specs.Tiers.{frames_at, quotients_of, tiers_of, tier_count}
use Rattle.nm_script.specs.declared.script.Line.{Line}
use Rattle.nm_script.specs.declared.schedule.PlanItem.{PlanItem}
use Rattle.nm_script.specs.declared.item.Place.{Place}
use Rattle.nm_script.specs.declared.item.Place.TheVariants as places
use Rattle.nm_script.specs.declared.item.Order.{Order}
use Rattle.nm_script.specs.declared.item.Order.TheVariants as orders
use Rattle.nm_script.specs.Script.{IsAccess, IsPlanItem, IsSchedule, HasVersion, IsScript}
use Rattle.nm_script.specs.Following.{IsReach}
use Rattle.nm_script.specs.Told.{Told, is_program, is_whole, schedule_of, script_of}
use Rattle.nm_script.specs.Holds.{IsPair, IsMachine, IsOrder, Stands, IsOpen, IsToldSoFar}
use Rattle.nm_script.proofs.FullTiers.{tiers_some}

-- ---- tiers

IsSum-cons : (x : ℕ) (xs : List ℕ) → sum (x ∷ xs) ≡ x + sum xs
IsSum-cons x xs = sum_by-cons (λ k. k) x xs

length-sum : (xs : List ℕ) → AllByRecursion (λ n. 1 ≤ n) xs → length xs ≤ sum xs
length-sum [] h = omega arith
length-sum (x ∷ xs) h = omega (arith, h.0, length-sum xs h.1, IsSum-cons x xs)

part : (xs : List ℕ) (k : ℕ) (d : ℕ) → AllByRecursion (λ n. 1 ≤ n) xs → k < length xs → (1 ≤ get_or xs k d) × (get_or xs k d + length xs ≤ sum xs + 1)
part [] k d h lt = absurd (omega (arith, lt))
part (x ∷ xs) zero d h lt = (h.0, omega (arith, length-sum xs h.1, IsSum-cons x xs))
part (x ∷ xs) (suc k) d h lt = let r = part xs k d h.1 (omega (arith, lt)) in (r.0, omega (arith, r.1, h.0, IsSum-cons x xs))

are_tiers : (tiers : List ℕ) → AllByRecursion (λ n. 1 ≤ n) tiers → 2 ≤ length tiers → length tiers ≤ 4 → sum tiers ≤ 4096 → AreTiers tiers
are_tiers tiers some low high total =
    (low, high, (λ k d lt. let p = part tiers k d some lt in (p.0, omega (arith, p.1, low, total))), total)

pair_some : (tiers : List ℕ) → 2 ≤ length tiers → (tiers ≡ []) ⊎ IsPair tiers → (length tiers ≡ 2) × AllByRecursion (λ n. 1 ≤ n) tiers
pair_some tiers low h = elim h [
  | inl none ↦ absurd (omega (arith, low, ap length none))
  | inr p ↦ subst (λ (ts : List ℕ). (length ts ≡ 2) × AllByRecursion (λ n. 1 ≤ n) ts) (sym p.are) (refl, (p.some.0, (p.some.2, tt)))
]

machine_tiers : (version : ℕ) (tiers : List ℕ) (frames : ℕ) (nodes : List Node) (retry : Option ℕ) → IsMachine version tiers frames nodes retry → 2 ≤ length tiers → AreTiers tiers
machine_tiers version tiers frames nodes retry m low =
    let total : sum tiers ≤ 4096 = omega (arith, m.sum, m.few) in
    elim m.parts [
      | inl q ↦ (let p = pair_some tiers low q.3 in are_tiers tiers p.1 low (omega (arith, p.0)) total)
      | inr t ↦ (
          let len : length tiers ≡ tier_count nodes = ap length t.1.tiers_are ∙ length-map (quotients_of nodes) (frames_at nodes) in
          are_tiers tiers (subst (λ (ts : List ℕ). AllByRecursion (λ n. 1 ≤ n) ts) (sym t.1.tiers_are) (tiers_some nodes t.1.each)) low (omega (arith, len, t.1.count)) total)
    ]

-- ---- the geometry

pub program_place : (p : Place) → is_program p ≡ true → p ≡ places.Program
program_place places.Begin e = absurd (cc)
program_place places.Version e = absurd (cc)
program_place places.Page e = absurd (cc)
program_place places.Tier e = absurd (cc)
program_place places.Cpus e = absurd (cc)
program_place places.Retry e = absurd (cc)
program_place places.Order e = absurd (cc)
program_place places.Plan e = absurd (cc)
program_place places.Map e = absurd (cc)
program_place places.Program e = refl

whole_open : (s : Told) → IsToldSoFar s → s.place ≡ places.Program → IsOpen s
whole_open s told e = elim told [ inl n ↦ absurd (begins (sym (ap (λ t. t.place) n) ∙ e)) | inr h ↦ h ]
  where
    begins : places.Begin ≡ places.Program → ⊥
    begins x = cc

open_geometry : (s : Told) → IsOpen s → s.place ≡ places.Program → IsGeometry (made s.words s.tiers s.cpus s.vpages)
open_geometry s h e =
    let st : Stands places.Program s = subst (λ p. Stands p s) e h.stands in
    let room : pages_of s.vpages + s.cpus + 9 ≤ s.frames = elim h.maps.room [ inl z ↦ absurd (omega (arith, z, st.1)) | inr r ↦ r ] in
    record {
      ranges = (h.words, machine_tiers s.version s.tiers s.frames s.nodes s.retry h.machine st.0.1, (st.0.0, h.few), (h.maps.few, st.1, omega (arith, room, h.machine.few)));
      room = omega (arith, room, h.machine.sum);
    }

-- a machine can have the geometry that a whole text told
pub told-geometry : (s : Told) → IsToldSoFar s → is_whole s ≡ true → IsGeometry (made s.words s.tiers s.cpus s.vpages)
told-geometry s told whole =
    let place = program_place s.place (and_parts _ _ whole).0 in
    open_geometry s (whole_open s told place) place

-- ---- the script

nodes_some : (nodes : List Node) → 2 ≤ length (tiers_of nodes) → 1 ≤ length nodes
nodes_some [] h = absurd (omega (arith, h))
nodes_some (n ∷ nodes) h = omega arith

has_version : (version : ℕ) (tiers : List ℕ) (frames : ℕ) (nodes : List Node) (retry : Option ℕ) → IsMachine version tiers frames nodes retry → 2 ≤ length tiers → HasVersion version tiers nodes retry
has_version version tiers frames nodes retry m low =
    elim m.parts [
      | inl q ↦ inl (q.0, (pair_some tiers low q.3).0, q.1, q.2)
      | inr t ↦ inr (
        t.0,
        record {
          some = nodes_some nodes (omega (arith, low, ap length t.1.tiers_are));
          few = t.1.few;
          each = t.1.each;
          sum = omega (arith, t.1.frames_are, m.few);
          formed = t.1.tiers_are;
        },
        t.2,
      )
    ]

is_schedule : (cpus : ℕ) (order : Order) (plan : List PlanItem) → IsOrder order → AllByRecursion (IsPlanItem cpus) plan → IsSchedule cpus (schedule_of order plan)
is_schedule cpus (orders.Serial t) plan h g = h
is_schedule cpus (orders.Shuffle n t) plan h g = h
is_schedule cpus (orders.Plan t) plan h g = (h, g)

reach_access : (words : ℕ) (tiers : List ℕ) (cpus : ℕ) (vs : List (Option VPage)) (l : Line) → IsReach words vs l → IsAccess (made words tiers cpus vs) l
reach_access words tiers cpus vs l h = h.0

-- what holds of each one
pub All-map : {X : Type 0} (P Q : X → Type 0) (xs : List X) → ((x : X) → P x → Q x) → AllByRecursion P xs → AllByRecursion Q xs
All-map P Q [] f h = tt
All-map P Q (x ∷ xs) f h = (f x h.0, All-map P Q xs f h.1)

open_script : (s : Told) → IsOpen s → s.place ≡ places.Program → length s.programs ≡ s.cpus → IsScript (script_of s)
open_script s h e count =
    let st : Stands places.Program s = subst (λ p. Stands p s) e h.stands in
    record {
      version = has_version s.version s.tiers s.frames s.nodes s.retry h.machine st.0.1;
      geometry = open_geometry s h e;
      trimmed = h.maps.trimmed;
      schedule = is_schedule s.cpus s.order s.plan h.order h.plan;
      programs = count;
      lines = All-map _ _ s.programs (λ q g. All-map _ _ q (reach_access s.words s.tiers s.cpus s.vpages) g) h.lines;
    }

-- a whole text told a script
pub told-script : (s : Told) → IsToldSoFar s → is_whole s ≡ true → IsScript (script_of s)
told-script s told whole =
    let both = and_parts _ _ whole in
    let place = program_place s.place both.0 in
    open_script s (whole_open s told place) place (eqb-true _ _ both.1)
