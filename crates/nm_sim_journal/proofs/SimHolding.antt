-- The journal of a simulation holds.
use Rattle.std.proofs.Common.{◌≡◌, ◌≢◌, ◌==◌, ℕ, ◌+◌, ◌<◌, Bool, true, false, List, [], ◌∷◌, ◌++◌, get_or, refl, sym, ap, subst, ◌∙◌, append_assoc, append-nil, eq-eqb, ne_eqb, arith}
use Rattle.std.specs.List.{AllByRecursion, flat_map}
use Rattle.nm_base.specs.Geometry.{Geometry}
use Rattle.nm_flat.specs.Memory.{own_part_of}
use Rattle.nm_action.specs.Own.{Own, own_of}
use Rattle.nm_action.specs.declared.action.Event.{Event}
use Rattle.nm_view.specs.Opening.{opening}
use Rattle.nm_view.specs.Views.{View, end_word}
use Rattle.nm_core.specs.Runs.{IsRun, accesses_of, state_after}
use Rattle.nm_core.specs.State.{State, view_of}
use Rattle.nm_event.specs.After.{view_after}
use Rattle.nm_core.proofs.Owns.{view_after-run}
use Rattle.nm_actor.specs.Turns.{own_list, turns_view}
use Rattle.nm_script.specs.declared.item.Item.{Item}
use Rattle.nm_script.specs.declared.item.Item.TheVariants as items
use Rattle.nm_script.specs.Items.{item_text, line, lines_text}
use Rattle.nm_script.specs.Plain.{Script}
use Rattle.nm_script.specs.Script.{IsScript, script_text, items_of, tier_items, retry_items, schedule_items, map_items, program_items}
use Rattle.nm_script.proofs.OneReading.{one-text}
use Rattle.nm_report.specs.Follows.{FollowsProgram}
use Rattle.nm_event_text.specs.Events.{FitsEvent}
use Rattle.nm_schedule.specs.Played.{turns_by, has_ended, events_of}
use Rattle.nm_play.proofs.Own.{own-turns}
use Rattle.nm_programs.specs.Runs.{IsLeftByCpu, results_of}
use Rattle.nm_sched.specs.Plain.{SimRun}
use Rattle.nm_sched.specs.Runs.{IsRunOfScript}
use Rattle.nm_journal_text.specs.Journals.{program_of, results_at, has_ended_in, TellsOfEvents, EndsLine, IsJournalThatHolds, body_text}
use Rattle.nm_journal_text.proofs.Lines.{acked_as_seen}
use Rattle.nm_sim_journal.specs.SimJournals.{journal_of}

-- ---- the script part ends with a newline

ends_lines : (cpus : ℕ) (i : Item) (items : List Item) → EndsLine (lines_text cpus (i ∷ items))
ends_lines cpus i [] = record { front = item_text cpus i; is = append-nil (line (item_text cpus i)) }
ends_lines cpus i (j ∷ items) =
    let more = ends_lines cpus j items in
    record {
      front = line (item_text cpus i) ++ more.front;
      is = ap (λ l. line (item_text cpus i) ++ l) more.is ∙ sym (append_assoc (line (item_text cpus i)) more.front (10 ∷ []));
    }

script_ends : (s : Script) → EndsLine (script_text s)
script_ends s = ends_lines s.geometry.cpus (items.Version s.version) (items.Page s.geometry.words ∷ (tier_items s ++ items.Cpus s.geometry.cpus ∷ retry_items s.retry ++ schedule_items s.schedule ++ map_items 0 s.geometry.vpages ++ program_items 0 s.programs))

-- ---- who has ended

ended_by : (ended : Bool) (view : View) (n : ℕ) → view.acked ≡ n → IsLeftByCpu ended view → (n == end_word) ≡ ended
ended_by true view n is left = eq-eqb n end_word (sym is ∙ left.acked)
ended_by false view n is left = ne_eqb n end_word (λ e. left (is ∙ e))

-- a processor has ended exactly where its acknowledgement is that of its end
ended_as_acked : (s : Script) (run : SimRun) (made : IsRunOfScript s run) → IsScript s → (cpu : ℕ) → cpu < s.geometry.cpus
    → has_ended_in (state_after s.geometry run.events) cpu ≡ has_ended made.played cpu
ended_as_acked s run made is cpu lt =
    let g = s.geometry in
    let played = made.played in
    let sim = made.simulated in
    let state = state_after g run.events in
    let own : own_of cpu run.events ≡ own_list (turns_by cpu played) = ap (own_of cpu) sim.listed ∙ own-turns cpu played in
    let view : view_of state cpu ≡ turns_view g cpu (turns_by cpu played) =
    view_after-run g run.events cpu (omega (arith, lt)) sim.run ∙ ap (view_after g (opening g cpu)) own in
    let Left : View → Type 0 = λ v. IsLeftByCpu (has_ended played cpu) v in
    ended_by (has_ended played cpu) (view_of state cpu) _ (acked_as_seen g run.events state is.geometry sim.run refl cpu lt) (subst Left (sym view) (made.cpus cpu lt).left)

-- ---- the journal

tells_of_run : (s : Script) (run : SimRun) → IsScript s → IsRunOfScript s run → AllByRecursion FitsEvent run.events → TellsOfEvents s run.events run.results run.end
tells_of_run s run is made fits = record {
  run = made.simulated.run;
  fits = fits;
  cpus = made.printable.results;
  follows = λ cpu lt. subst (λ (b : Bool). FollowsProgram cpu b (program_of s cpu) (results_at run.results cpu) (own_part_of cpu (accesses_of run.events)))
      (sym (ended_as_acked s run made is cpu lt)) (made.cpus cpu lt).follows;
  ends = made.simulated.ends;
}

pub journal_holds : (s : Script) (run : SimRun) → IsScript s → IsRunOfScript s run → AllByRecursion FitsEvent run.events → IsJournalThatHolds (journal_of s run)
journal_holds s run is made fits = record {
  part = script_text s;
  body = body_text s run.events run.results run.end;
  script = s;
  is = refl;
  whole = script_ends s;
  says = (one-text s is).again;
  holds = record { events = run.events; results = run.results; end = run.end; tells = tells_of_run s run is made fits; is = refl };
}
