-- A piece of work hears a reply: it goes on, or is over.
use Rattle.std.proofs.Common.{◌≡◌, ℕ, [], ◌∷◌, ◌++◌, Some, None, refl, sym, ap, subst, ◌∙◌}
use Rattle.nm_base.specs.Geometry.{Geometry}
use Rattle.nm_action.specs.declared.action.Action.{Action}
use Rattle.nm_action.specs.declared.action.Reply.{Reply}
use Rattle.nm_action.specs.declared.spent.Spent.{Spent}
use Rattle.nm_action.specs.declared.tally.Tally.{Tally}
use Rattle.nm_action.specs.declared.turn.Turn.TheVariants as turn
use Rattle.nm_action.specs.declared.turn.Heard.TheVariants.{Answer}
use Rattle.nm_action.specs.declared.turn.Step.{Step}
use Rattle.nm_action.specs.declared.turn.Step.TheVariants.{Do, Over}
use Rattle.nm_action.specs.Own.{Own}
use Rattle.nm_view.specs.Views.{View}
use Rattle.nm_event.specs.Fitting.{Fits}
use Rattle.nm_event.specs.After.{after_of, view_after}
use Rattle.nm_part.specs.Parts.{IsEnded, IsPartStep, IsHeard}
use Rattle.nm_part.specs.Patterns.{IsLeft}
use Rattle.nm_part.proofs.Patterns.{left-after}
use Rattle.nm_actor.specs.Turns.{turns_view}
use Rattle.nm_worker.specs.declared.routine.Task.{Task}
use Rattle.nm_worker.specs.declared.routine.Task.TheVariants.{Run}
use Rattle.nm_worker.specs.declared.routine.Ended.{Ended}
use Rattle.nm_worker.specs.declared.routine.Ended.TheVariants as ended
use Rattle.nm_worker.specs.Notes.{Noted, Notes, noted_turns, uncounted, worked, IsTask}
use Rattle.nm_worker.specs.Routines.{task_data, IsWorkOver, IsTaskOver, IsDrawn, HasTaskOver}
use Rattle.nm_worker.specs.Workers.{IsAtWork, AwaitsTurn, IsTurnGiven, IsAnswerNoted, IsWorkHeard}
use Rattle.nm_worker.proofs.NoteLists.{own-uncounted, own-worked, view-more, uncounted-push, worked-push}
use Rattle.nm_worker.proofs.Giving.{work-given}

-- the task that runs is over after these notes
pub record IsTaskEnded {P M X O : Type 0} (made : P → M) (shape : M → Geometry → Own → X → Type 0) (leaves : M → Geometry → View → X → View → Type 0) (ends : P → Geometry → Own → X → Type 0) (knows : View → Task M → Type 0) (left : Ended X → Notes → O → Type 0) (whole : Notes → O → Type 0) (g : Geometry) (number : ℕ) (spent : Spent) (task : Task P) (notes : Notes) (end : Ended X) : Type 0 where
  pub now : View
  pub known : knows now (task_data made task)
  pub over : IsTaskOver made shape leaves ends g now (turns_view g number (noted_turns notes)) task end
  pub drawn : IsDrawn spent (turns_view g number (noted_turns notes))
  pub due : IsLeft whole notes (left end)

-- the routine can go on
pub ended-over : {P M X O : Type 0} (made : P → M) (shape : M → Geometry → Own → X → Type 0) (leaves : M → Geometry → View → X → View → Type 0) (ends : P → Geometry → Own → X → Type 0) (knows : View → Task M → Type 0) (left : Ended X → Notes → O → Type 0) (whole : Notes → O → Type 0) (g : Geometry) (number : ℕ) (spent : Spent) (task : Task P) (notes : Notes) (end : Ended X)
    → IsTaskEnded made shape leaves ends knows left whole g number spent task notes end → HasTaskOver made shape leaves ends knows g task end spent
ended-over made shape leaves ends knows left whole g number spent task notes end h = record { now = h.now; later = turns_view g number (noted_turns notes); known = h.known; over = h.over; drawn = h.drawn }

-- the view after the notes of a piece of work
work-view : (g : Geometry) (number : ℕ) (notes front : Notes) (inner : Own) → notes ≡ front ++ uncounted inner → turns_view g number (noted_turns notes) ≡ view_after g (turns_view g number (noted_turns front)) inner
work-view g number notes front inner is = ap (λ (l : Notes). turns_view g number (noted_turns l)) is ∙ view-more g number front (uncounted inner) inner (own-uncounted inner)

work-fits : (g : Geometry) (number : ℕ) (notes front : Notes) (inner : Own) (action : Action) (reply : Reply) → notes ≡ front ++ uncounted inner
    → Fits g (turns_view g number (noted_turns notes)) action reply → Fits g (view_after g (turns_view g number (noted_turns front)) inner) action reply
work-fits g number notes front inner action reply is f = let F : View → Type 0 = λ view. Fits g view action reply in subst F (work-view g number notes front inner is) f

-- where a piece of work runs
abbrev WorkAt : {P M X O : Type 0} → (P → M) → (P → Type 0) → (M → Geometry → View → Type 0) → (M → Geometry → Own → X → Type 0) → (P → Geometry → View → Own → Action → Type 0) → (X → Tally) → (View → Task M → Type 0) → (Ended X → Notes → O → Type 0) → O → (Notes → O → Type 0) → Geometry → ℕ → Action → Notes → Action → P → Type 0
WorkAt made is_new may_begin shape awaits counts knows left stop whole g number kept notes action piece = IsAtWork shape (awaits piece) counts knows left whole g number kept notes action (made piece)

at-work : {P M X O : Type 0} (made : P → M) (is_new : P → Type 0) (may_begin : M → Geometry → View → Type 0) (shape : M → Geometry → Own → X → Type 0) (awaits : P → Geometry → View → Own → Action → Type 0) (counts : X → Tally) (knows : View → Task M → Type 0) (left : Ended X → Notes → O → Type 0) (stop : O) (whole : Notes → O → Type 0) (g : Geometry) (number : ℕ) (kept : Action) (notes : Notes) (action : Action) (task : Task P) (piece : P)
    → task ≡ Run piece → AwaitsTurn made is_new may_begin shape awaits counts knows left stop whole g number kept notes (Some (turn.Do action)) task → WorkAt made is_new may_begin shape awaits counts knows left stop whole g number kept notes action piece
at-work {P} made is_new may_begin shape awaits counts knows left stop whole g number kept notes action task piece is at = let N : Task P → Type 0 = λ t. AwaitsTurn made is_new may_begin shape awaits counts knows left stop whole g number kept notes (Some (turn.Do action)) t in subst N is at

-- it hears the reply
pub work-heard : {P M X O : Type 0} (made : P → M) (is_new : P → Type 0) (may_begin : M → Geometry → View → Type 0) (shape : M → Geometry → Own → X → Type 0) (awaits : P → Geometry → View → Own → Action → Type 0) (counts : X → Tally) (knows : View → Task M → Type 0) (left : Ended X → Notes → O → Type 0) (stop : O) (whole : Notes → O → Type 0) (g : Geometry) (number : ℕ) (kept : Action) (task : Task P) (piece : P) (spent : Spent) (reply : Reply)
    → task ≡ Run piece → IsWorkHeard (λ notes last. AwaitsTurn made is_new may_begin shape awaits counts knows left stop whole g number kept notes last task) g number spent reply → IsHeard (awaits piece) reply
work-heard made is_new may_begin shape awaits counts knows left stop whole g number kept task piece spent reply is h =
    let at = at-work made is_new may_begin shape awaits counts knows left stop whole g number kept h.notes h.action task piece is h.here in
    record {
      geometry = g;
      view = turns_view g number (noted_turns at.front);
      own = at.inner;
      action = h.action;
      awaited = at.awaited;
      fits = work-fits g number h.notes at.front at.inner h.action reply at.is h.fits;
    }

-- it goes on
pub work-more : {P M X O : Type 0} (made : P → M) (is_new : P → Type 0) (may_begin : M → Geometry → View → Type 0) (shape : M → Geometry → Own → X → Type 0) (awaits : P → Geometry → View → Own → Action → Type 0) (leaves : M → Geometry → View → X → View → Type 0) (ends : P → Geometry → Own → X → Type 0) (counts : X → Tally) (knows : View → Task M → Type 0) (left : Ended X → Notes → O → Type 0) (stop : O) (whole : Notes → O → Type 0) (g : Geometry) (number : ℕ) (kept : Action) (task : Task P) (was piece : P) (given : Action) (reply : Reply) (result : Step X) (tally : Tally) (spent : Spent)
    → task ≡ Run was → made piece ≡ made was → result ≡ Do given
    → ((g : Geometry) (v : View) (own : Own) (action : Action) → awaits was g v own action → Fits g (view_after g v own) action reply → IsPartStep (awaits piece) (shape (made was)) (leaves (made was)) (ends piece) g v (own ++ (action, reply) ∷ []) result)
    → (notes : Notes) (action : Action) → AwaitsTurn made is_new may_begin shape awaits counts knows left stop whole g number kept notes (Some (turn.Do action)) task → Fits g (turns_view g number (noted_turns notes)) action reply → IsDrawn spent (after_of g (turns_view g number (noted_turns notes)) action reply)
    → IsAnswerNoted (IsTurnGiven made is_new may_begin shape awaits counts knows left stop whole g number given (Run piece) (turn.Do given)) tally tally notes (turn.Do action) (Answer reply)
work-more {P} {M} {X} made is_new may_begin shape awaits leaves ends counts knows left stop whole g number kept task was piece given reply result tally spent is same does after notes action here fits drawn =
    let at = at-work made is_new may_begin shape awaits counts knows left stop whole g number kept notes action task was is here in
    let view = turns_view g number (noted_turns at.front) in
    let step = after g view at.inner action at.awaited (work-fits g number notes at.front at.inner action reply at.is fits) in
    let S : Step X → Type 0 = λ s. IsPartStep (awaits piece) (shape (made was)) (leaves (made was)) (ends piece) g view (at.inner ++ (action, reply) ∷ []) s in
    let note : Noted = record { turn = turn.Do action; heard = Answer reply; counts = None } in
    let N : Notes → Type 0 = λ l. IsTurnGiven made is_new may_begin shape awaits counts knows left stop whole g number given (Run piece) (turn.Do given) l in
    record {
      counts = None;
      ends = refl;
      next = subst N (sym (ap (λ (l : Notes). l ++ note ∷ []) at.is ∙ uncounted-push at.front at.inner action reply))
          (work-given made is_new may_begin shape awaits counts knows left stop whole g number piece (made was) at.front (at.inner ++ (action, reply) ∷ []) given same at.run (subst S does step));
    }

-- it is over with this reply
pub work-over : {P M X O : Type 0} (made : P → M) (is_new : P → Type 0) (may_begin : M → Geometry → View → Type 0) (shape : M → Geometry → Own → X → Type 0) (awaits : P → Geometry → View → Own → Action → Type 0) (leaves : M → Geometry → View → X → View → Type 0) (ends : P → Geometry → Own → X → Type 0) (counts : X → Tally) (knows : View → Task M → Type 0) (left : Ended X → Notes → O → Type 0) (stop : O) (whole : Notes → O → Type 0) (g : Geometry) (number : ℕ) (kept : Action) (task : Task P) (was piece : P) (reply : Reply) (result : Step X) (end : X) (spent : Spent)
    → task ≡ Run was → made piece ≡ made was → result ≡ Over end
    → ((g : Geometry) (v : View) (own : Own) (action : Action) → awaits was g v own action → Fits g (view_after g v own) action reply → IsPartStep (awaits piece) (shape (made was)) (leaves (made was)) (ends piece) g v (own ++ (action, reply) ∷ []) result)
    → (notes : Notes) (action : Action) → AwaitsTurn made is_new may_begin shape awaits counts knows left stop whole g number kept notes (Some (turn.Do action)) task → Fits g (turns_view g number (noted_turns notes)) action reply → IsDrawn spent (after_of g (turns_view g number (noted_turns notes)) action reply)
    → IsTaskEnded made shape leaves ends knows left whole g number spent (Run piece) (notes ++ record { turn = turn.Do action; heard = Answer reply; counts = Some (counts end) } ∷ []) (ended.Run end)
work-over {P} {M} {X} made is_new may_begin shape awaits leaves ends counts knows left stop whole g number kept task was piece reply result end spent is same does after notes action here fits drawn =
    let at = at-work made is_new may_begin shape awaits counts knows left stop whole g number kept notes action task was is here in
    let view = turns_view g number (noted_turns at.front) in
    let more : Own = at.inner ++ (action, reply) ∷ [] in
    let S : Step X → Type 0 = λ s. IsPartStep (awaits piece) (shape (made was)) (leaves (made was)) (ends piece) g view more s in
    let done : IsEnded (shape (made was)) (leaves (made was)) (ends piece) g view more end = subst S does (after g view at.inner action at.awaited (work-fits g number notes at.front at.inner action reply at.is fits)) in
    let note : Noted = record { turn = turn.Do action; heard = Answer reply; counts = Some (counts end) } in
    let list : notes ++ note ∷ [] ≡ at.front ++ worked (counts end) more = ap (λ (l : Notes). l ++ note ∷ []) at.is ∙ worked-push (counts end) at.front at.inner action reply in
    let later = view-more g number at.front (worked (counts end) more) more (own-worked (counts end) more) in
    let V : View → Type 0 = λ v. leaves (made was) g view end v in
    let L : Notes → Type 0 = λ l. IsTaskEnded made shape leaves ends knows left whole g number spent (Run piece) l (ended.Run end) in
    let D : View → Type 0 = λ v. IsDrawn spent v in
    let N : Notes → Type 0 = λ l. IsDrawn spent (turns_view g number (noted_turns l)) in
    let K : M → Type 0 = λ m. knows view (Run m) in
    let W : M → Type 0 = λ m. IsWorkOver shape leaves (ends piece) m g view (turns_view g number (noted_turns (at.front ++ worked (counts end) more))) end in
    subst L (sym list) (record {
      now = view;
      known = subst K (sym same) at.run.known;
      over = subst W (sym same) (record { own = more; shown = done.shown; left = subst V (sym later) done.left; over = done.over });
      drawn = subst N list (subst D (sym (view-more g number notes (note ∷ []) ((action, reply) ∷ []) refl)) drawn);
      due = left-after whole at.front (worked (counts end) more) (IsTask shape counts g (Run (made was))) left (ended.Run end) at.run.due (record { own = more; shown = done.shown; is = refl });
    })
