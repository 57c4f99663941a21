-- Which event lines some journal that holds begins with, when the line report may stand behind them, and that its lines are determined.
use Rattle.std.proofs.Common.{◌≡◌, ◌≢◌, ℕ, zero, suc, ◌+◌, ◌<◌, ◌≤◌, Bool, true, false, IsTrue, List, [], ◌∷◌, ◌++◌, length, get_or, map, codes, refl, sym, ap, ◌∙◌, subst, arith, append_assoc, append-nil}
use Rattle.std.specs.Prelude.{flat_map}
use Rattle.std.specs.List.{AllByRecursion, filter}
use Rattle.std.proofs.lemmas.List.{same_lists, get_or-map, length-map}
use Rattle.std.proofs.lemmas.List.Elements.{filter_map-append, filter-append}
use Rattle.nm_base.specs.Geometry.{Geometry, IsGeometry}
use Rattle.nm_flat.specs.declared.access.Access.{Access}
use Rattle.nm_flat.specs.Memory.{own_part_of}
use Rattle.nm_action.specs.declared.action.Event.{Event}
use Rattle.nm_core.specs.Runs.{IsRun, access_of, accesses_of, state_after}
use Rattle.nm_core.specs.EndWords.{EndWords, IsEndOf}
use Rattle.nm_script.specs.Plain.{Script}
use Rattle.nm_script.specs.Items.{line}
use Rattle.nm_report.specs.declared.line_result.LineResult.{LineResult}
use Rattle.nm_report.specs.Follows.{AreMade, FollowsProgram}
use Rattle.nm_event_text.specs.Events.{event_text}
use Rattle.nm_follow.specs.Cursors.{Cursor, IsCursorAt, new_cursor}
use Rattle.nm_follow.proofs.Pieces.{one_result_list}
use Rattle.nm_follow.proofs.Steps.{made_so_far}
use Rattle.nm_journal_text.specs.Journals.{program_of, results_at, has_ended_in, told_text, events_text, body_text, TellsOfEvents, IsBody}
use Rattle.nm_journal_text.specs.Taken.{cursor_of, AreTaken, results_in, AreWhole}
use Rattle.nm_journal_text.specs.Verdicts.{joined, IsBegun}
use Rattle.nm_journal_text.proofs.Ends.{end_of, one_end}
use Rattle.nm_journal_text.proofs.Completing.{with_offs, completed, offs-accesses, offs-fit, longer}

pub results-at : (cursors : List Cursor) (cpu : ℕ) → cpu < length cursors → results_at (results_in cursors) cpu ≡ (cursor_of cursors cpu).results
results-at cursors cpu lt = get_or-map (λ c. c.results) cursors cpu new_cursor [] lt

-- the events, with what their cursors say and any end words of the state behind them, are told of in one way
pub taken_told : (script : Script) (events : List Event) (cursors : List Cursor) (end : EndWords) → AreTaken script events cursors → AreWhole script (state_after script.geometry events) cursors → IsEndOf (state_after script.geometry events) end → TellsOfEvents script events (results_in cursors) end
taken_told script events cursors end h whole ends = record {
  run = h.run;
  fits = h.fits;
  cpus = length-map cursors (λ c. c.results) ∙ h.cpus;
  follows = λ cpu lt.
      let there : cpu < length cursors = omega (arith, h.cpus, lt) in
      let same = results-at cursors cpu there in
      let c : Cursor = cursor_of cursors cpu in
      subst (λ r. FollowsProgram cpu (has_ended_in (state_after script.geometry events) cpu) (program_of script cpu) r (own_part_of cpu (accesses_of events))) (sym same)
      (record { pieces = made_so_far cpu (program_of script cpu) c.results c.tries (own_part_of cpu (accesses_of events)) (h.made cpu lt); whole = λ ended. whole cpu lt ended });
  ends = ends;
}

-- each journal that tells of these events tells this of them
pub record IsToldSo (script : Script) (events : List Event) (cursors : List Cursor) (results : List (List LineResult)) : Type 0 where
  pub same : results ≡ results_in cursors
  pub whole : AreWhole script (state_after script.geometry events) cursors

pub told_taken : (script : Script) (events : List Event) (cursors : List Cursor) (results : List (List LineResult)) (end : EndWords) → AreTaken script events cursors → TellsOfEvents script events results end → IsToldSo script events cursors results
told_taken script events cursors results end h k = record {
  same = same_lists results (results_in cursors) (k.cpus ∙ sym h.cpus ∙ sym (length-map cursors (λ c. c.results))) (λ cpu d lt. one cpu d (omega (arith, k.cpus, lt)));
  whole = λ cpu lt ended.
      let there : cpu < length cursors = omega (arith, h.cpus, lt) in
      ap length (sym (at cpu lt)) ∙ (k.follows cpu lt).whole ended;
}
  where
    at : (cpu : ℕ) → cpu < script.geometry.cpus → results_at results cpu ≡ (cursor_of cursors cpu).results
    at cpu lt =
        let c : Cursor = cursor_of cursors cpu in
        one_result_list cpu (program_of script cpu) (results_at results cpu) c.results (own_part_of cpu (accesses_of events)) (k.follows cpu lt).pieces
        (made_so_far cpu (program_of script cpu) c.results c.tries (own_part_of cpu (accesses_of events)) (h.made cpu lt))

    anywhere : (xs : List (List LineResult)) (i : ℕ) (d e : List LineResult) → i < length xs → get_or xs i d ≡ get_or xs i e
    anywhere [] i d e lt = absurd (omega (arith, lt))
    anywhere (x ∷ xs) zero d e lt = refl
    anywhere (x ∷ xs) (suc i) d e lt = anywhere xs i d e (omega (arith, lt))

    one : (cpu : ℕ) (d : List LineResult) → cpu < script.geometry.cpus → get_or results cpu d ≡ get_or (results_in cursors) cpu d
    one cpu d lt =
        let there : cpu < length cursors = omega (arith, h.cpus, lt) in
        let here : cpu < length results = omega (arith, k.cpus, lt) in
        let also : cpu < length (results_in cursors) = omega (arith, h.cpus, lt, length-map cursors (λ c. c.results)) in
        anywhere results cpu d [] here ∙ at cpu lt ∙ sym (results-at cursors cpu there) ∙ anywhere (results_in cursors) cpu [] d also

-- ---- completed

pub lines-events : (events : List Event) → joined (map event_text events) ≡ events_text events
lines-events [] = refl
lines-events (e ∷ events) = ap (λ t. line (event_text e) ++ t) (lines-events events)

pub events-more : (events more : List Event) → events_text (events ++ more) ≡ events_text events ++ events_text more
events-more [] more = refl
events-more (e ∷ events) more = ap (λ t. line (event_text e) ++ t) (events-more events more) ∙ sym (append_assoc (line (event_text e)) (events_text events) (events_text more))

-- events that are a run so far whose accesses follow the programs so far are the beginning of a journal that holds
pub begun_events : (script : Script) (events : List Event) (cursors : List Cursor) → IsGeometry script.geometry → script.geometry.cpus ≤ 16 → AreTaken script events cursors → IsBegun script (codes "events" ∷ map event_text events)
begun_events script events cursors is few h =
    let g = script.geometry in
    let n = g.cpus in
    let all = with_offs events n in
    let done = completed g events n is h.run (omega arith) in
    let end = end_of (state_after g all) in
    let accesses = offs-accesses events n in
    let taken : AreTaken script all cursors = record {
      run = done.run;
      fits = offs-fit events n (omega (arith, few)) h.fits;
      cpus = h.cpus;
      made = λ cpu lt. subst (λ (a : List Access). IsCursorAt cpu (program_of script cpu) (cursor_of cursors cpu) (own_part_of cpu a)) (sym accesses) (h.made cpu lt);
    } in
    let whole : AreWhole script (state_after g all) cursors = λ cpu lt ended. let off = done.off cpu lt in absurd (cc) in
    let long = longer events n in
    let tail : List ℕ = events_text long.more ++ (line (codes "report") ++ told_text script (results_in cursors) end.0) in
    record {
      more = tail;
      holds = record {
        events = all;
        results = results_in cursors;
        end = end.0;
        tells = taken_told script all cursors end.0 taken whole end.1;
        is = text (map event_text events) events long.more all (line (codes "report") ++ told_text script (results_in cursors) end.0) (lines-events events) long.is;
      };
    }
  where
    text : (lines : List (List ℕ)) (events more all : List Event) (rest : List ℕ) → joined lines ≡ events_text events → all ≡ events ++ more
        → joined (codes "events" ∷ lines) ++ (events_text more ++ rest) ≡ line (codes "events") ++ (events_text all ++ rest)
    text lines events more all rest same is =
        append_assoc (line (codes "events")) (joined lines) (events_text more ++ rest) ∙ ap (λ t. line (codes "events") ++ t)
        (ap (λ t. t ++ (events_text more ++ rest)) same ∙ sym (append_assoc (events_text events) (events_text more) rest) ∙ ap (λ t. t ++ rest) (sym (events-more events more) ∙ ap events_text (sym is)))
