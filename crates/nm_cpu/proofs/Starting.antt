-- A processor that has given no turn.
use Rattle.std.proofs.Common.{◌≡◌, ◌≤◌, List, [], ◌∷◌, ◌++◌, length, vec_capacity, Some, None, refl, sym, ◌∙◌, subst}
use Rattle.nm_base.specs.Geometry.{Geometry, page_count}
use Rattle.nm_action.specs.declared.action.Action.{Action}
use Rattle.nm_action.specs.declared.action.Action.TheVariants.{Poll}
use Rattle.nm_action.specs.declared.action.Reply.{Reply}
use Rattle.nm_action.specs.declared.turn.Turn.TheVariants.{End}
use Rattle.nm_action.specs.Own.{Own}
use Rattle.nm_view.specs.Views.{View}
use Rattle.nm_tally.specs.Counts.{events_tally}
use Rattle.nm_tally.specs.Counting.{CountsEvents}
use Rattle.nm_actor.specs.Turns.{Turns}
use Rattle.nm_catchup.specs.CatchUp.{Kept, CatchesUp}
use Rattle.nm_access.specs.Turning.{action_turns}
use Rattle.nm_access.specs.Faults.{FaultKinds, ends_tally}
use Rattle.nm_access.specs.Moving.{IsFresh}
use Rattle.nm_cpu.specs.declared.actor.Processor.{Processor}
use Rattle.nm_cpu.specs.declared.actor.CpuStage.TheVariants.{New}
use Rattle.nm_script.specs.declared.script.Line.{Line}
use Rattle.nm_cpu.specs.Programs.{CpuEnd, fresh_kept, IsProgramMade, IsLineOf, IsCpu}
use Rattle.nm_cpu.specs.Parts.{IsSequenceBegun}
use Rattle.nm_cpu.specs.Agreeing.{geometry_of, made_program, IsAtNew, IsAtCpuStage, FollowsCpu}
use Rattle.nm_cpu.proofs.Running.{off-running}
use Rattle.nm_cpu.proofs.Followed.{followed-part}
use Rattle.nm_cpu.proofs.Lines.{some-loads}
use Rattle.nm_cpu.proofs.Ends.{program-can}
use Rattle.nm_cpu.proofs.Going.{sum-as}
use Rattle.nm_cpu.proofs.Opening.{first-of, between-first}

-- No whole sequence is empty.

front-none : {A : Type 0} (a b : List A) → [] ≡ a ++ b → a ≡ []
front-none [] b is = refl
front-none (x ∷ a) b is = cc

own-none : (own : Own) → [] ≡ action_turns own → own ≡ []
own-none [] is = refl
own-none (e ∷ own) is = cc

some-event : (e : Action × Reply) (own : Own) → [] ≡ e ∷ own → ⊥
some-event e own is = cc

-- a catch up has an action
catch-acts : (g : Geometry) (kept end : Kept) → CatchesUp g kept [] end → ⊥
catch-acts g kept end h = some-event (Poll, h.end) [] (sym (front-none h.front h.back h.is) ∙ h.shown.is)

never-empty : {M X : Type 0} (kinds : FaultKinds M X) (g : Geometry) (program : List Line) (outcome : CpuEnd X) → IsProgramMade kinds g program [] outcome → ⊥
never-empty kinds g program outcome w =
    let caught = w.shown in
    let none : caught.own ≡ [] = own-none caught.own (sym (front-none w.front w.back w.is) ∙ caught.is) in
    catch-acts g fresh_kept w.end (subst (λ (l : Own). CatchesUp g fresh_kept l w.end) none caught.shown)

some-begun : {M X : Type 0} (kinds : FaultKinds M X) (g : Geometry) (program : List Line) (turns : Turns) (outcome : CpuEnd X) → IsProgramMade kinds g program turns outcome → IsSequenceBegun kinds g program []
some-begun kinds g program [] outcome h = absurd (never-empty kinds g program outcome h)
some-begun kinds g program (t ∷ turns) outcome h = record { next = t.0; begun = record { heard = t.1; can = record { rest = turns; outcome = outcome; shown = h } } }

pub starts : {F M X : Type 0} (kinds : FaultKinds M X) (made_of : F → M) (awaits_of : F → Geometry → View → Own → Action → Type 0) (c : Processor F) → IsCpu (geometry_of c) c.made.number (made_program c) → c.stage ≡ New → IsFresh (geometry_of c) c.access → c.results.items ≡ [] → c.loads ≡ 0
    → length (made_program c) ≤ vec_capacity c.results → CountsEvents c.counter [] → length c.counter.locked.items ≡ page_count (geometry_of c) → FollowsCpu kinds made_of awaits_of c [] None
starts kinds made_of awaits_of c cpu at fresh results loads room events pages =
    let first = some-loads (geometry_of c) (made_program c) (first-of (IsLineOf (geometry_of c)) (made_program c) cpu.lines) in
    let between = between-first c first.0 [] results loads refl first.1 in
    let here : IsAtNew c [] None = record { none = refl; start = refl; fresh = fresh; results = results; loads = loads } in
    let can = program-can kinds (geometry_of c) (made_program c) in
    record {
      part = record {
        ends = [];
        sequence = some-begun kinds (geometry_of c) (made_program c) can.rest can.outcome can.shown;
        follows = followed-part c.made.number (made_program c) [] (made_program c) c.results.items c.loads first.0 [] between.is between.as_many between.loads between.follows;
        counted = sum-as c.counter.tally c.access.tally (events_tally []) (ends_tally kinds.counts []) events.tally fresh.counted;
      };
      at = record { cpu = cpu; room = room; next = refl; permitted = tt; left = off-running; at = subst (λ s. IsAtCpuStage kinds made_of awaits_of s c [] None) (sym at) here };
      events = events;
      pages = pages;
      kept = tt;
    }

-- a processor has not ended before its first turn
pub acts-first : {F M X : Type 0} (kinds : FaultKinds M X) (made_of : F → M) (awaits_of : F → Geometry → View → Own → Action → Type 0) (c : Processor F) → FollowsCpu kinds made_of awaits_of c [] (Some End) → ⊥
acts-first kinds made_of awaits_of c h = never-empty kinds (geometry_of c) (made_program c) (record { results = c.results.items; ends = h.part.ends }) h.part.sequence
