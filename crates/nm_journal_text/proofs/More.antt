-- One event more: where it is taken the events go on, and where it is refused no journal that holds goes on with it.
use Rattle.std.proofs.Common.{◌≡◌, ◌≢◌, ℕ, ◌+◌, ◌<◌, ◌==◌, Bool, true, false, List, [], ◌∷◌, ◌++◌, length, get_or, set, Option, Some, None, refl, sym, ap, ◌∙◌, subst, arith, append_assoc, append-nil, length-set, get_or-set_same, get_or-set_other, eq-eqb, inl, inr}
use Rattle.std.specs.Prelude.{IfSome, IsSomeAnd}
use Rattle.std.specs.Bool.{if◌then◌else◌}
use Rattle.std.specs.List.{AllByRecursion, filter, cons_option}
use Rattle.std.proofs.lemmas.Bool.{eqb-true}
use Rattle.std.proofs.lemmas.List.Elements.{filter_map-append, filter-append}
use Rattle.nm_base.specs.Geometry.{Geometry, IsGeometry}
use Rattle.nm_flat.specs.declared.access.Access.{Access}
use Rattle.nm_flat.specs.Memory.{own_part_of}
use Rattle.nm_action.specs.declared.action.Event.{Event}
use Rattle.nm_core.specs.State.{State, start}
use Rattle.nm_core.specs.Runs.{IsStep, IsRun, IsRunFrom, after_event, access_of, accesses_of, state_from, state_after}
use Rattle.nm_core.specs.EndWords.{EndWords}
use Rattle.nm_runs.proofs.Longer.{state_from-more, run_from-more}
use Rattle.nm_script.specs.Plain.{Script}
use Rattle.nm_report.specs.declared.line_result.LineResult.{LineResult}
use Rattle.nm_report.specs.Follows.{AreMade}
use Rattle.nm_event_text.specs.Events.{FitsEvent}
use Rattle.nm_follow.specs.Cursors.{Cursor, IsCursorAt, new_cursor}
use Rattle.nm_journal_text.specs.Journals.{program_of, results_at, TellsOfEvents}
use Rattle.nm_journal_text.specs.Taken.{cursor_of, AreTaken, AreMoved, IsAccessRefused, IsEventTaken, IsEventRefused}
use Rattle.nm_journal_text.proofs.Completing.{fits-more}

-- ---- the accesses of one processor

own_more : (cpu : ℕ) (events : List Event) (e : Event) (more : List Event) → own_part_of cpu (accesses_of (events ++ e ∷ more)) ≡ own_part_of cpu (accesses_of events) ++ own_part_of cpu (cons_option (access_of e) (accesses_of more))
own_more cpu events e more = ap (own_part_of cpu) (filter_map-append access_of events (e ∷ more)) ∙ filter-append (λ a. a.cpu == cpu) (accesses_of events) (cons_option (access_of e) (accesses_of more))

own_first : (a : Access) (list : List Access) → own_part_of a.cpu (a ∷ list) ≡ a ∷ own_part_of a.cpu list
own_first a list = rw (eq-eqb a.cpu a.cpu refl) refl

own_other : (cpu : ℕ) (a : Access) (list : List Access) → a.cpu ≢ cpu → own_part_of cpu (a ∷ list) ≡ own_part_of cpu list
own_other cpu a list other = go (a.cpu == cpu) refl
  where
    go : (b : Bool) → (a.cpu == cpu) ≡ b → own_part_of cpu (a ∷ list) ≡ own_part_of cpu list
    go true e = absurd (other (eqb-true a.cpu cpu e))
    go false e = rw e refl

-- ---- taken

made_more : (script : Script) (old new : List Cursor) (events : List Event) (e : Event) (x : Option Access) → access_of e ≡ x → length old ≡ script.geometry.cpus → IfSome x (λ a. a.cpu < script.geometry.cpus) → AreMoved script old x new
    → ((cpu : ℕ) → cpu < script.geometry.cpus → IsCursorAt cpu (program_of script cpu) (cursor_of old cpu) (own_part_of cpu (accesses_of events)))
    → (length new ≡ script.geometry.cpus) × ((cpu : ℕ) → cpu < script.geometry.cpus → IsCursorAt cpu (program_of script cpu) (cursor_of new cpu) (own_part_of cpu (accesses_of (events ++ e ∷ []))))
made_more script old new events e None is cpus there moved made = (
  ap length moved ∙ cpus,
  λ cpu lt. subst (λ (l : List Access). IsCursorAt cpu (program_of script cpu) (cursor_of new cpu) l)
      (sym (own_more cpu events e [] ∙ ap (λ x. own_part_of cpu (accesses_of events) ++ own_part_of cpu (cons_option x [])) is ∙ append-nil (own_part_of cpu (accesses_of events))))
      (subst (λ (c : List Cursor). IsCursorAt cpu (program_of script cpu) (cursor_of c cpu) (own_part_of cpu (accesses_of events))) (sym moved) (made cpu lt)),
)
made_more script old new events e (Some a) is cpus there moved made = (
  ap length moved.1 ∙ length-set old a.cpu moved.0 ∙ cpus,
  λ cpu lt. go cpu lt (a.cpu == cpu) refl,
)
  where
    list : (cpu : ℕ) → own_part_of cpu (accesses_of (events ++ e ∷ [])) ≡ own_part_of cpu (accesses_of events) ++ own_part_of cpu (a ∷ [])
    list cpu = own_more cpu events e [] ∙ ap (λ x. own_part_of cpu (accesses_of events) ++ own_part_of cpu (cons_option x [])) is

    here : IsCursorAt a.cpu (program_of script a.cpu) (cursor_of new a.cpu) (own_part_of a.cpu (accesses_of (events ++ e ∷ [])))
    here =
        let at : cursor_of new a.cpu ≡ moved.0 = ap (λ c. cursor_of c a.cpu) moved.1 ∙ get_or-set_same old a.cpu moved.0 new_cursor (omega (arith, there, cpus)) in
        let took = moved.2 (own_part_of a.cpu (accesses_of events)) (made a.cpu there) in
        subst (λ (c : Cursor). IsCursorAt a.cpu (program_of script a.cpu) c (own_part_of a.cpu (accesses_of (events ++ e ∷ [])))) (sym at)
        (subst (λ (l : List Access). IsCursorAt a.cpu (program_of script a.cpu) moved.0 l) (sym (list a.cpu ∙ ap (λ l. own_part_of a.cpu (accesses_of events) ++ l) (own_first a []))) took)

    go : (cpu : ℕ) → cpu < script.geometry.cpus → (b : Bool) → (a.cpu == cpu) ≡ b → IsCursorAt cpu (program_of script cpu) (cursor_of new cpu) (own_part_of cpu (accesses_of (events ++ e ∷ [])))
    go cpu lt true same = subst (λ (q : ℕ). IsCursorAt q (program_of script q) (cursor_of new q) (own_part_of q (accesses_of (events ++ e ∷ [])))) (eqb-true a.cpu cpu same) here
    go cpu lt false miss =
        let other : a.cpu ≢ cpu = λ s. let hit : (a.cpu == cpu) ≡ true = eq-eqb a.cpu cpu s in cc in
        let at : cursor_of new cpu ≡ cursor_of old cpu = ap (λ c. cursor_of c cpu) moved.1 ∙ get_or-set_other old a.cpu cpu moved.0 new_cursor (λ s. other (sym s)) in
        subst (λ (c : Cursor). IsCursorAt cpu (program_of script cpu) c (own_part_of cpu (accesses_of (events ++ e ∷ [])))) (sym at)
        (subst (λ (l : List Access). IsCursorAt cpu (program_of script cpu) (cursor_of old cpu) l) (sym (list cpu ∙ ap (λ l. own_part_of cpu (accesses_of events) ++ l) (own_other cpu a [] other) ∙ append-nil (own_part_of cpu (accesses_of events)))) (made cpu lt))

-- the events go on
pub taken_more : (script : Script) (events : List Event) (s s' : State) (old new : List Cursor) (e : Event) → IfSome (access_of e) (λ a. a.cpu < script.geometry.cpus) → AreTaken script events old → s ≡ state_after script.geometry events → FitsEvent e → IsEventTaken script s old e s' new
    → AreTaken script (events ++ e ∷ []) new × (s' ≡ state_after script.geometry (events ++ e ∷ []))
taken_more script events s s' old new e there h is fits t =
    let g = script.geometry in
    let more = made_more script old new events e (access_of e) refl h.cpus there t.moved h.made in (
      record {
        run = run_from-more (start g) events e h.run (subst (λ (q : State). IsStep q e) is t.step);
        fits = fits-more events e h.fits fits;
        cpus = more.0;
        made = more.1;
      },
      t.after ∙ ap (λ q. after_event q e) is ∙ sym (state_from-more (start g) events e),
    )

-- ---- refused

step_at : (s : State) (events : List Event) (e : Event) (more : List Event) → IsRunFrom s (events ++ e ∷ more) → IsStep (state_from s events) e
step_at s [] e more run = run.0
step_at s (x ∷ events) e more run = step_at (after_event s x) events e more run.1

access_case : (script : Script) (events : List Event) (old : List Cursor) (e : Event) (more : List Event) (results : List (List LineResult)) (end : EndWords) (x : Option Access) → access_of e ≡ x → IfSome x (λ a. a.cpu < script.geometry.cpus) → AreTaken script events old → IsSomeAnd x (IsAccessRefused script old) → ¬ TellsOfEvents script (events ++ e ∷ more) results end
access_case script events old e more results end None is there h refuses k = elim refuses [ ]
access_case script events old e more results end (Some a) is there h refuses k =
    let list : own_part_of a.cpu (accesses_of (events ++ e ∷ more)) ≡ own_part_of a.cpu (accesses_of events) ++ a ∷ own_part_of a.cpu (accesses_of more)
    = own_more a.cpu events e more ∙ ap (λ x. own_part_of a.cpu (accesses_of events) ++ own_part_of a.cpu (cons_option x (accesses_of more))) is ∙ ap (λ l. own_part_of a.cpu (accesses_of events) ++ l) (own_first a (accesses_of more)) in
    refuses (own_part_of a.cpu (accesses_of events)) (own_part_of a.cpu (accesses_of more)) (results_at results a.cpu) (h.made a.cpu there)
    (subst (λ (l : List Access). AreMade a.cpu (program_of script a.cpu) (results_at results a.cpu) l) list (k.follows a.cpu there).pieces)

-- no journal that holds goes on with the event
pub refused_more : (script : Script) (events : List Event) (s : State) (old : List Cursor) (e : Event) (more : List Event) (results : List (List LineResult)) (end : EndWords) → AreTaken script events old → s ≡ state_after script.geometry events → (IsStep s e → IfSome (access_of e) (λ a. a.cpu < script.geometry.cpus)) → IsEventRefused script s old e → ¬ TellsOfEvents script (events ++ e ∷ more) results end
refused_more script events s old e more results end h is there refuses k =
    let made : IsStep s e = subst (λ (q : State). IsStep q e) (sym is) (step_at (start script.geometry) events e more k.run) in
    elim refuses as (λ _. ⊥) [ inl never ↦ never made | inr access ↦ access_case script events old e more results end (access_of e) refl (there made) h access k ]
