-- The facts of a run of a script.
use Rattle.std.proofs.Common.{◌≡◌, ℕ, ◌<◌, List, [], ◌∷◌, ◌++◌, length, All, Option, Some, None, IfSome, subst}
use Rattle.std.specs.List.{cons_option}
use Rattle.std.proofs.lemmas.List.Elements.{All-nil, All-cons}
use Rattle.nm_base.specs.Geometry.{Geometry, IsGeometry}
use Rattle.nm_flat.specs.declared.access.Access.{Access}
use Rattle.nm_action.specs.declared.action.Event.{Event}
use Rattle.nm_core.specs.State.{State, start}
use Rattle.nm_core.specs.EndWords.{EndWords, HasEndRoom, IsEndOf}
use Rattle.nm_core.specs.Kept.{IsKept}
use Rattle.nm_core.specs.Runs.{IsRun, IsRunFrom, access_of, accesses_of, after_event, state_after}
use Rattle.nm_core.proofs.Starts.{IsKept-start}
use Rattle.nm_runs.proofs.EachRun.{kept_after, lawful_run}
use Rattle.nm_script.specs.Plain.{Script}
use Rattle.nm_report.specs.declared.line_result.LineResult.{LineResult}
use Rattle.nm_laws.specs.Facts.{HoldsOfRun}
use Rattle.nm_laws.proofs.Holding.{facts_in_run}
use Rattle.nm_crew.specs.Simulated.{IsTierCounted}
use Rattle.nm_crew.proofs.Ends.{room-of}
use Rattle.nm_crew.proofs.Simulating.{facts-at, tier-at}
use Rattle.nm_journal_text.specs.Journals.{IsJournalThatHolds}
use Rattle.nm_journal_text.proofs.Processors.{processor_of}
use Rattle.nm_run_facts.specs.RunFacts.{HasFollowed, HoldsAtStep, HoldsOfEvents, HoldsOfJournal}

-- ---- who makes the accesses

with_first : (cpus : ℕ) (x : Option Access) (list : List Access) → IfSome x (λ a. a.cpu < cpus) → All (λ a. a.cpu < cpus) list → All (λ a. a.cpu < cpus) (cons_option x list)
with_first cpus None list first rest = rest
with_first cpus (Some x) list first rest = All-cons (λ a. a.cpu < cpus) x list first rest

below_from : (s : State) (events : List Event) → IsKept s → IsRunFrom s events → All (λ a. a.cpu < s.geometry.cpus) (accesses_of events)
below_from s [] k run = All-nil (λ a. a.cpu < s.geometry.cpus)
below_from s (e ∷ events) k run =
    with_first s.geometry.cpus (access_of e) (accesses_of events) (processor_of s e k run.0)
    (below_from (after_event s e) events (kept_after s e.actor e.action k run.0.actor run.0.allowed) run.1)

-- each access of a run is of a processor
accesses_below : (g : Geometry) (events : List Event) → IsGeometry g → IsRun g events → All (λ a. a.cpu < g.cpus) (accesses_of events)
accesses_below g events is run = below_from (start g) events (IsKept-start g is) run

-- ---- each step, and the tiers

step_holds : (s : Script) (events : List Event) → IsGeometry s.geometry → IsRun s.geometry events → (front rest : List Event) → events ≡ front ++ rest → HoldsAtStep s front
step_holds s events is run front rest split =
    let h : HoldsOfRun s.geometry front = facts-at s.geometry events is run front rest split in
    record { shadows = h.shadows; roles = h.roles; held = h.held }

tier_counted : (g : Geometry) (events : List Event) (end : EndWords) (tier : ℕ) → IsGeometry g → IsRun g events → IsEndOf (state_after g events) end → tier < length g.tiers
    → IsTierCounted (state_after g events) end tier
tier_counted g events end tier is run ends lt =
    let lawful = lawful_run g events is run in
    let Room : Geometry → Type 0 = λ k. HasEndRoom k end in
    tier-at g events end tier is run lawful.machine ends (subst Room lawful.machine (room-of (state_after g events) end lawful.kept ends)) lt

-- ---- the run

pub run_holds : (s : Script) (results : List (List LineResult)) (end : EndWords) (events : List Event) → IsGeometry s.geometry → IsRun s.geometry events
    → ((cpu : ℕ) → cpu < s.geometry.cpus → HasFollowed s results events cpu) → IsEndOf (state_after s.geometry events) end → HoldsOfEvents s results end events
run_holds s results end events is run follows ends =
    let whole : HoldsOfRun s.geometry events = facts_in_run s.geometry events is run in
    record {
      own = follows;
      others = accesses_below s.geometry events is run;
      legal = whole.legal;
      transactions = whole.transactions;
      steps = step_holds s events is run;
      tiers = λ tier lt. tier_counted s.geometry events end tier is run ends lt;
      settled = ends.settled;
    }

pub journal_holds : (bytes : List ℕ) → IsJournalThatHolds bytes → HoldsOfJournal bytes
journal_holds bytes h = record {
  journal = h;
  facts = run_holds h.script h.holds.results h.holds.end h.holds.events h.says.is.geometry h.holds.tells.run
      (λ cpu there. record { ended = _; follows = h.holds.tells.follows cpu there }) h.holds.tells.ends;
}
