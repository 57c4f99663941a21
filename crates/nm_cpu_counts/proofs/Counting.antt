-- A processor has counted what its own list does.
use Rattle.std.proofs.Common.{◌≡◌, true, false, List, [], ◌++◌, Option, sym, ap, subst, ◌∙◌}
use Rattle.nm_base.specs.Geometry.{Geometry}
use Rattle.nm_action.specs.declared.action.AckTo.TheVariants as ack
use Rattle.nm_action.specs.declared.action.Action.{Action}
use Rattle.nm_action.specs.declared.action.Action.TheVariants.{Ack}
use Rattle.nm_action.specs.declared.action.Reply.TheVariants.{Done}
use Rattle.nm_action.specs.declared.tally.Tally.{Tally}
use Rattle.nm_action.specs.declared.turn.Turn.{Turn}
use Rattle.nm_action.specs.declared.turn.Turn.TheVariants.{Do}
use Rattle.nm_action.specs.declared.turn.Heard.TheVariants.{Answer}
use Rattle.nm_action.specs.Own.{Own}
use Rattle.nm_action.specs.Tally.{sum_of}
use Rattle.nm_view.specs.Views.{View}
use Rattle.nm_part.specs.Patterns.{Ends, Follows}
use Rattle.nm_part.proofs.Patterns.{can-ends, can-follow}
use Rattle.nm_tally.specs.Counts.{events_tally}
use Rattle.nm_actor.specs.Actors.{gave_end}
use Rattle.nm_actor.specs.Turns.{Turns, own_list}
use Rattle.nm_actor.proofs.TurnLists.{own-append}
use Rattle.nm_access.specs.Turning.{Hears}
use Rattle.nm_access.specs.Faults.{FaultKinds, ends_tally}
use Rattle.nm_access.specs.Accesses.{IsWholeAccess}
use Rattle.nm_access.proofs.Ends.{some-heard}
use Rattle.nm_access.proofs.TurnSteps.{own-turns}
use Rattle.nm_shadow_fault.specs.declared.fault.FaultEnd.{FaultEnd}
use Rattle.nm_fault.specs.Tasks.{FaultBegun}
use Rattle.nm_cpu_fault.specs.ProcessorFaults.{fault_counts, processor_faults}
use Rattle.nm_cpu.specs.declared.actor.Processor.{Processor}
use Rattle.nm_cpu.specs.declared.actor.CpuStage.{CpuStage}
use Rattle.nm_cpu.specs.declared.actor.CpuStage.TheVariants.{New, Opening, Accessing, Ending, Over}
use Rattle.nm_cpu.specs.Programs.{CpuEnd, IsProgramMade, line_access, fresh_kept}
use Rattle.nm_cpu.specs.Lines.{after_access, after_line, AccessLeft}
use Rattle.nm_cpu.specs.Parts.{IsCpuPart}
use Rattle.nm_cpu.specs.Agreeing.{geometry_of, made_program, cpu_view, IsAtNew, IsAtOpening, IsAtAccess, IsAtEnding, IsAtCpuStage, FollowsCpu}
use Rattle.nm_cpu.proofs.Ends.{access-can, after-access-can}
use Rattle.nm_fault_counts.specs.FaultTally.{faults_from, faults_in}
use Rattle.nm_fault_counts.specs.Counted.{AreFaultsCounted, end_counted, ends_counted}
use Rattle.nm_fault_counts.proofs.Lists.{homed_from, mapped_from, faults-append}
use Rattle.nm_fault_counts.proofs.Tallies.{counted-tally}
use Rattle.nm_fault_counts.proofs.Faults.{faults-counted}
use Rattle.nm_cpu_counts.specs.Counting.{processor_tally}
use Rattle.nm_cpu_counts.proofs.Turning.{silent-none, left-counts}
use Rattle.nm_cpu_counts.proofs.Lines.{program-counts, left-of-access, last-counts}
use Rattle.nm_cpu_counts.proofs.Beginning.{awaits-silent}
use Rattle.nm_cpu_counts.proofs.Awaiting.{stage-counts}

-- what the ends of faults count, of which those that count are read off a list
record AreEndsOf {X : Type 0} (counts : X → Tally) (counted : X → List FaultEnd) (tally : Tally) (own : Own) : Type 0 where
  ends : List X
  is : tally ≡ ends_tally counts ends
  same : ends_counted counted ends ≡ faults_in own

-- ---- by the stage

at-new : {F M X : Type 0} (kinds : FaultKinds M X) (counted : X → List FaultEnd) (c : Processor F) (turns : Turns) (last : Option Turn) → IsAtNew c turns last → AreEndsOf kinds.counts counted c.access.tally (own_list turns)
at-new kinds counted c turns last d = record { ends = []; is = d.fresh.counted; same = ap (λ (t : Turns). faults_in (own_list t)) (sym d.none) }

at-opening : {F M X : Type 0} (kinds : FaultKinds M X) (counted : X → List FaultEnd) (c : Processor F) (turns : Turns) (last : Option Turn) → IsAtOpening kinds c turns last → AreEndsOf kinds.counts counted c.access.tally (own_list turns)
at-opening kinds counted c turns last d =
    let own : own_list turns ≡ d.own = ap own_list d.is ∙ own-turns d.own in
    let none : faults_in d.own ≡ [] = silent-none false false d.own (awaits-silent c.access.cache fresh_kept (geometry_of c) _ d.own d.action d.awaited) in
    record { ends = []; is = d.counted; same = sym (ap (λ (l : Own). faults_in l) own ∙ none) }

at-access : {F M X : Type 0} (kinds : FaultKinds M X) (counted : X → List FaultEnd) (made_of : F → M) (awaits_of : F → Geometry → View → Own → Action → Type 0) (c : Processor F) (turns : Turns) (last : Option Turn) → AreFaultsCounted kinds.shape counted
    → IsAtAccess kinds made_of awaits_of c turns last → AreEndsOf kinds.counts counted c.access.tally (own_list turns)
at-access {F} {M} {X} kinds counted made_of awaits_of c turns last law d =
    let g = geometry_of c in
    let x = d.run in
    let a = d.awaited in
    let made = line_access g x.line in
    let after = after_access kinds g x.line c.loads x.more (after_line kinds g x.lines c.results.items) in
    let now : CpuEnd X → List X = λ end. end.ends in
    let front = own_list d.front in
    let inner = own_list d.inner in
    let before : ends_counted counted x.held.ends ≡ faults_in front =
    left-counts counted [] x.held.ends now (IsProgramMade kinds g (made_program c)) (AccessLeft kinds g x.line x.lines c.results.items c.loads x.more x.held) d.front false false
    (program-counts counted kinds g (made_program c) law) (left-of-access counted kinds g x.line x.lines c.results.items c.loads x.more x.held law) x.due
    (can-follow (IsWholeAccess kinds g made x.held) after (access-can kinds g made x.held) (after-access-can kinds g x.line x.lines c.results.items c.loads x.more (access-can kinds g made x.held).outcome)) in
    let since : ends_counted counted a.ends ≡ ends_counted counted x.held.ends ++ faults_from (homed_from false front) (mapped_from false front) inner =
    stage-counts counted kinds c.access.made c.access.stage c.access.hinted (made_of c.access.fault) (awaits_of c.access.fault) c.access.cache a.ends g x.held (cpu_view c d.front) d.inner d.turn law a.at (homed_from false front) (mapped_from false front) in
    let all : faults_in (own_list turns) ≡ faults_in front ++ faults_from (homed_from false front) (mapped_from false front) inner = ap (λ (t : Turns). faults_in (own_list t)) x.is ∙ ap (λ (l : Own). faults_in l) (own-append d.front d.inner) ∙ faults-append false false front inner in
    record { ends = a.ends; is = a.counted; same = since ∙ ap (λ (l : List FaultEnd). l ++ faults_from (homed_from false front) (mapped_from false front) inner) before ∙ sym all }

at-ending : {F M X : Type 0} (kinds : FaultKinds M X) (counted : X → List FaultEnd) (c : Processor F) (turns : Turns) (last : Option Turn) → AreFaultsCounted kinds.shape counted → IsAtEnding kinds c turns last → AreEndsOf kinds.counts counted c.access.tally (own_list turns)
at-ending {F} {M} {X} kinds counted c turns last law d =
    let g = geometry_of c in
    let end : CpuEnd X = record { results = c.results.items; ends = d.ends } in
    let now : CpuEnd X → List X = λ end. end.ends in
    record {
      ends = d.ends;
      is = d.counted;
      same = left-counts counted [] d.ends now (IsProgramMade kinds g (made_program c)) (Follows (Hears g (Do (Ack ack.End))) (λ heard. Ends end)) turns false false
          (program-counts counted kinds g (made_program c) law) (last-counts counted g c.results.items d.ends) d.due
          (can-follow (Hears g (Do (Ack ack.End))) (λ heard. Ends end) (some-heard g (Do (Ack ack.End)) (Answer Done) (λ view. tt)) (can-ends end));
    }

-- ---- with what the events count

-- a tally is what the events of an own list count, and what the ends of some faults do; those of them that count are read off the
-- list. `counts` says what an end counts, and `counted` whether it does.
pub record HasCountedFaults {X : Type 0} (counts : X → Tally) (counted : X → List FaultEnd) (tally : Tally) (own : Own) : Type 0 where
  pub ends : List X
  pub is : tally ≡ sum_of (events_tally own) (ends_tally counts ends)
  pub same : ends_counted counted ends ≡ faults_in own

with-events : {X : Type 0} (counts : X → Tally) (counted : X → List FaultEnd) (events access : Tally) (own : Own) → events ≡ events_tally own → AreEndsOf counts counted access own → HasCountedFaults counts counted (sum_of events access) own
with-events counts counted events access own is d = record {
  ends = d.ends;
  is = ap (λ (t : Tally). sum_of t access) is ∙ ap (λ (t : Tally). sum_of (events_tally own) t) d.is;
  same = d.same;
}

-- a processor that has ended has made a whole sequence
ended : {M X : Type 0} (kinds : FaultKinds M X) (counted : X → List FaultEnd) (g : Geometry) (number : _) (program : _) (turns : Turns) (results : _) (tally : Tally) → AreFaultsCounted kinds.shape counted
    → IsCpuPart kinds g number program turns true results tally → HasCountedFaults kinds.counts counted tally (own_list turns)
ended kinds counted g number program turns results tally law d = record {
  ends = d.ends;
  is = d.counted;
  same = program-counts counted kinds g program law false false turns (record { results = results; ends = d.ends }) d.sequence;
}

at-stage : {F M X : Type 0} (kinds : FaultKinds M X) (counted : X → List FaultEnd) (made_of : F → M) (awaits_of : F → Geometry → View → Own → Action → Type 0) (stage : CpuStage) (c : Processor F) (turns : Turns) (last : Option Turn) → AreFaultsCounted kinds.shape counted
    → FollowsCpu kinds made_of awaits_of c turns last → IsAtCpuStage kinds made_of awaits_of stage c turns last → HasCountedFaults kinds.counts counted (sum_of c.counter.tally c.access.tally) (own_list turns)
at-stage kinds counted made_of awaits_of New c turns last law d at = with-events kinds.counts counted c.counter.tally c.access.tally (own_list turns) d.events.tally (at-new kinds counted c turns last at)
at-stage kinds counted made_of awaits_of Opening c turns last law d at = with-events kinds.counts counted c.counter.tally c.access.tally (own_list turns) d.events.tally (at-opening kinds counted c turns last at)
at-stage kinds counted made_of awaits_of Accessing c turns last law d at = with-events kinds.counts counted c.counter.tally c.access.tally (own_list turns) d.events.tally (at-access kinds counted made_of awaits_of c turns last law at)
at-stage kinds counted made_of awaits_of Ending c turns last law d at = with-events kinds.counts counted c.counter.tally c.access.tally (own_list turns) d.events.tally (at-ending kinds counted c turns last law at)
at-stage kinds counted made_of awaits_of Over c turns last law d at =
    let L : Option Turn → Type 0 = λ l. IsCpuPart kinds (geometry_of c) c.made.number (made_program c) turns (gave_end l) c.results.items (sum_of c.counter.tally c.access.tally) in
    ended kinds counted (geometry_of c) c.made.number (made_program c) turns c.results.items (sum_of c.counter.tally c.access.tally) law (subst L at d.part)

-- whatever the faults are that count what their ends say
pub follows-counts : {F M X : Type 0} (kinds : FaultKinds M X) (counted : X → List FaultEnd) (made_of : F → M) (awaits_of : F → Geometry → View → Own → Action → Type 0) (c : Processor F) (turns : Turns) (last : Option Turn) → AreFaultsCounted kinds.shape counted
    → FollowsCpu kinds made_of awaits_of c turns last → HasCountedFaults kinds.counts counted (sum_of c.counter.tally c.access.tally) (own_list turns)
follows-counts kinds counted made_of awaits_of c turns last law d = at-stage kinds counted made_of awaits_of c.stage c turns last law d d.at.at

-- the faults of a processor
pub processor-counts : {F : Type 0} (made_of : F → FaultBegun) (awaits_of : F → Geometry → View → Own → Action → Type 0) (c : Processor F) (turns : Turns) (last : Option Turn)
    → FollowsCpu processor_faults made_of awaits_of c turns last → sum_of c.counter.tally c.access.tally ≡ processor_tally (own_list turns)
processor-counts made_of awaits_of c turns last d =
    let x = follows-counts processor_faults end_counted made_of awaits_of c turns last faults-counted d in
    x.is ∙ ap (λ (t : Tally). sum_of (events_tally (own_list turns)) t) (sym (counted-tally x.ends) ∙ ap (λ (l : List FaultEnd). ends_tally fault_counts l) x.same)
