-- The first turn of a task, and the next action of a piece of work.
use Rattle.std.proofs.Common.{◌≡◌, ℕ, false, [], ◌∷◌, ◌++◌, None, refl, sym, ap, subst, ◌∙◌, append_assoc}
use Rattle.std.proofs.lemmas.List.{append-nil}
use Rattle.nm_base.specs.Geometry.{Geometry}
use Rattle.nm_action.specs.declared.action.Action.{Action}
use Rattle.nm_action.specs.declared.action.Reply.{Reply}
use Rattle.nm_action.specs.declared.tally.Tally.{Tally}
use Rattle.nm_action.specs.declared.turn.Lane.{Lane}
use Rattle.nm_action.specs.declared.turn.Turn.TheVariants as turn
use Rattle.nm_action.specs.declared.turn.Heard.TheVariants.{Answer, PutDone, TookNone}
use Rattle.nm_action.specs.Own.{Own}
use Rattle.nm_view.specs.Views.{View}
use Rattle.nm_permit.specs.Permitted.{Allowed}
use Rattle.nm_part.specs.Parts.{IsBegunWith, IsAsked}
use Rattle.nm_part.specs.Patterns.{Follows, IsLeft, CanEnd}
use Rattle.nm_actor.specs.Turns.{turns_view}
use Rattle.nm_worker.specs.declared.routine.Task.{Task}
use Rattle.nm_worker.specs.declared.routine.Task.TheVariants.{Run, Put, Take, Stop}
use Rattle.nm_worker.specs.declared.routine.Ended.{Ended}
use Rattle.nm_worker.specs.declared.routine.Ended.TheVariants as ended
use Rattle.nm_worker.specs.Notes.{Noted, Notes, noted_turns, uncounted, counts_last, worked, IsTask}
use Rattle.nm_worker.specs.Routines.{IsTaskRun, IsWorkRun, IsStop, IsNextTask}
use Rattle.nm_worker.specs.Workers.{ComesNext, IsAtTask, IsAtWork, IsTurnGiven}
use Rattle.nm_worker.proofs.NoteLists.{own-uncounted, view-more, worked-with}

-- A piece of work.

comes-list : (counts : Tally) (front : Notes) (inner : Own) (action : Action) (reply : Reply) (rest : Own) (more : Notes)
    → front ++ (worked counts ((inner ++ (action, reply) ∷ []) ++ rest) ++ more) ≡ (front ++ uncounted inner) ++ record { turn = turn.Do action; heard = Answer reply; counts = counts_last counts rest } ∷ (worked counts rest ++ more)
comes-list counts front inner action reply rest more =
    let one : Noted = record { turn = turn.Do action; heard = Answer reply; counts = counts_last counts rest } in
    ap (λ (l : Own). front ++ (worked counts l ++ more)) (append_assoc inner ((action, reply) ∷ []) rest)
    ∙ ap (λ (l : Notes). front ++ (l ++ more)) (worked-with counts inner (action, reply) rest)
    ∙ ap (λ (l : Notes). front ++ l) (append_assoc (uncounted inner) (one ∷ worked counts rest) more)
    ∙ sym (append_assoc front (uncounted inner) (one ∷ (worked counts rest ++ more)))

-- an action that goes on with a list of the piece of work comes next in a whole sequence
work-comes : {M X O : Type 0} (shape : M → Geometry → Own → X → Type 0) (counts : X → Tally) (left : Ended X → Notes → O → Type 0) (whole : Notes → O → Type 0) (g : Geometry) (work : M) (front : Notes) (inner : Own) (action : Action)
    → ((notes : Notes) (end : Ended X) → IsTask shape counts g (Run work) notes end → CanEnd (left end))
    → IsLeft whole front (Follows (IsTask shape counts g (Run work)) left)
    → IsBegunWith (shape work g) inner action → ComesNext whole (front ++ uncounted inner) (turn.Do action)
work-comes {M} {X} shape counts left whole g work front inner action can due b =
    let own : Own = (inner ++ (action, b.reply) ∷ []) ++ b.begun.rest in
    let tally : Tally = counts b.begun.outcome in
    let end : Ended X = ended.Run b.begun.outcome in
    let done : IsTask shape counts g (Run work) (worked tally own) end = record { own = own; shown = b.begun.whole; is = refl } in
    let e : CanEnd (left end) = can (worked tally own) end done in
    let all = due.carry (worked tally own ++ e.rest) e.outcome (record { end = end; front = worked tally own; back = e.rest; shown = done; rest = e.shown; is = refl }) in
    let W : Notes → Type 0 = λ l. whole l e.outcome in
    record {
      heard = Answer b.reply;
      counts = counts_last tally b.begun.rest;
      rest = worked tally b.begun.rest ++ e.rest;
      outcome = e.outcome;
      shown = subst W (comes-list tally front inner action b.reply b.begun.rest e.rest) all;
    }

-- its action is the actor's turn
pub work-given : {P M X O : Type 0} (made : P → M) (is_new : P → Type 0) (may_begin : M → Geometry → View → Type 0) (shape : M → Geometry → Own → X → Type 0) (awaits : P → Geometry → View → Own → Action → Type 0) (counts : X → Tally) (knows : View → Task M → Type 0) (left : Ended X → Notes → O → Type 0) (stop : O) (whole : Notes → O → Type 0) (g : Geometry) (number : ℕ) (piece : P) (work : M) (front : Notes) (inner : Own) (action : Action)
    → made piece ≡ work
    → IsAtTask (knows (turns_view g number (noted_turns front)) (Run work)) (IsTask shape counts g (Run work)) left whole front
    → IsAsked (awaits piece) (shape work) g (turns_view g number (noted_turns front)) inner action
    → IsTurnGiven made is_new may_begin shape awaits counts knows left stop whole g number action (Run piece) (turn.Do action) (front ++ uncounted inner)
work-given {P} {M} made is_new may_begin shape awaits counts knows left stop whole g number piece work front inner action same run asked =
    let R : M → Type 0 = λ m. IsAtWork shape (awaits piece) counts knows left whole g number action (front ++ uncounted inner) action m in
    let A : View → Type 0 = λ view. Allowed g view action in
    let permitted = subst A (sym (view-more g number front (uncounted inner) inner (own-uncounted inner))) asked.permitted in
    record {
      next = work-comes shape counts left whole g work front inner action run.can run.due asked.begun;
      at = subst R (sym same) (record { front = front; inner = inner; is = refl; run = run; awaited = asked.awaited; same = refl; permitted = permitted });
      permitted = permitted;
    }

-- what is due after these notes
due-after : {X O : Type 0} (knows : Type 0) (done : Notes → Ended X → Type 0) (left : Ended X → Notes → O → Type 0) (whole : Notes → O → Type 0) (notes : Notes)
    → IsTaskRun knows done left (λ rest outcome. whole (notes ++ rest) outcome) → IsAtTask knows done left whole notes
due-after knows done left whole notes h = record { known = h.known; can = h.can; due = record { carry = h.fits } }

-- a piece of work that begins
pub start-given : {P M X O : Type 0} (made : P → M) (is_new : P → Type 0) (may_begin : M → Geometry → View → Type 0) (shape : M → Geometry → Own → X → Type 0) (awaits : P → Geometry → View → Own → Action → Type 0) (counts : X → Tally) (knows : View → Task M → Type 0) (left : Ended X → Notes → O → Type 0) (stop : O) (whole : Notes → O → Type 0) (g : Geometry) (number : ℕ) (task : Task P) (was piece : P) (action : Action)
    → task ≡ Run was → made piece ≡ made was
    → ((g : Geometry) (view : View) → may_begin (made was) g view → IsAsked (awaits piece) (shape (made was)) g view [] action)
    → (notes : Notes) → IsNextTask made is_new may_begin shape counts knows left stop (λ rest outcome. whole (notes ++ rest) outcome) g (turns_view g number (noted_turns notes)) task
    → IsTurnGiven made is_new may_begin shape awaits counts knows left stop whole g number action (Run piece) (turn.Do action) notes
start-given {P} {M} {X} made is_new may_begin shape awaits counts knows left stop whole g number task was piece action is same asked notes next =
    let view = turns_view g number (noted_turns notes) in
    let N : Task P → Type 0 = λ t. IsNextTask made is_new may_begin shape counts knows left stop (λ rest outcome. whole (notes ++ rest) outcome) g view t in
    let run : IsWorkRun (is_new was) (may_begin (made was) g view) (knows view (Run (made was))) (IsTask shape counts g (Run (made was))) left (λ rest outcome. whole (notes ++ rest) outcome) = subst N is next in
    let G : Notes → Type 0 = λ l. IsTurnGiven made is_new may_begin shape awaits counts knows left stop whole g number action (Run piece) (turn.Do action) l in
    subst G (append-nil notes) (work-given made is_new may_begin shape awaits counts knows left stop whole g number piece (made was) notes [] action same
    (due-after (knows view (Run (made was))) (IsTask shape counts g (Run (made was))) left whole notes run.run) (asked g view run.may_begin))

-- Lanes.

-- a turn with an answer with which its task can end comes next
lane-comes : {X O : Type 0} (done : Notes → Ended X → Type 0) (left : Ended X → Notes → O → Type 0) (whole : Notes → O → Type 0) (notes : Notes) (note : Noted) (end : Ended X)
    → ((notes : Notes) (end : Ended X) → done notes end → CanEnd (left end))
    → IsLeft whole notes (Follows done left) → done (note ∷ []) end → ComesNext whole notes note.turn
lane-comes done left whole notes note end can due shown =
    let e : CanEnd (left end) = can (note ∷ []) end shown in
    record {
      heard = note.heard;
      counts = note.counts;
      rest = e.rest;
      outcome = e.outcome;
      shown = due.carry (note ∷ e.rest) e.outcome (record { end = end; front = note ∷ []; back = e.rest; shown = shown; rest = e.shown; is = refl });
    }

-- a put
pub put-given : {P M X O : Type 0} (made : P → M) (is_new : P → Type 0) (may_begin : M → Geometry → View → Type 0) (shape : M → Geometry → Own → X → Type 0) (awaits : P → Geometry → View → Own → Action → Type 0) (counts : X → Tally) (knows : View → Task M → Type 0) (left : Ended X → Notes → O → Type 0) (stop : O) (whole : Notes → O → Type 0) (g : Geometry) (number : ℕ) (kept : Action) (task : Task P) (lane : Lane) (page : ℕ)
    → task ≡ Put lane page
    → (notes : Notes) → IsNextTask made is_new may_begin shape counts knows left stop (λ rest outcome. whole (notes ++ rest) outcome) g (turns_view g number (noted_turns notes)) task
    → IsTurnGiven made is_new may_begin shape awaits counts knows left stop whole g number kept (Put lane page) (turn.Put lane page) notes
put-given {P} {M} {X} made is_new may_begin shape awaits counts knows left stop whole g number kept task lane page is notes next =
    let view = turns_view g number (noted_turns notes) in
    let N : Task P → Type 0 = λ t. IsNextTask made is_new may_begin shape counts knows left stop (λ rest outcome. whole (notes ++ rest) outcome) g view t in
    let run = due-after (knows view (Put lane page)) (IsTask shape counts g (Put lane page)) left whole notes (subst N is next) in
    record {
      next = lane-comes (IsTask shape counts g (Put lane page)) left whole notes (record { turn = turn.Put lane page; heard = PutDone; counts = None }) (ended.Put false) run.can run.due (record { is = refl });
      at = record { same = refl; run = run };
      permitted = tt;
    }

-- a take
pub take-given : {P M X O : Type 0} (made : P → M) (is_new : P → Type 0) (may_begin : M → Geometry → View → Type 0) (shape : M → Geometry → Own → X → Type 0) (awaits : P → Geometry → View → Own → Action → Type 0) (counts : X → Tally) (knows : View → Task M → Type 0) (left : Ended X → Notes → O → Type 0) (stop : O) (whole : Notes → O → Type 0) (g : Geometry) (number : ℕ) (kept : Action) (task : Task P) (lane : Lane)
    → task ≡ Take lane
    → (notes : Notes) → IsNextTask made is_new may_begin shape counts knows left stop (λ rest outcome. whole (notes ++ rest) outcome) g (turns_view g number (noted_turns notes)) task
    → IsTurnGiven made is_new may_begin shape awaits counts knows left stop whole g number kept (Take lane) (turn.Take lane) notes
take-given {P} {M} {X} made is_new may_begin shape awaits counts knows left stop whole g number kept task lane is notes next =
    let view = turns_view g number (noted_turns notes) in
    let N : Task P → Type 0 = λ t. IsNextTask made is_new may_begin shape counts knows left stop (λ rest outcome. whole (notes ++ rest) outcome) g view t in
    let run = due-after (knows view (Take lane)) (IsTask shape counts g (Take lane)) left whole notes (subst N is next) in
    record {
      next = lane-comes (IsTask shape counts g (Take lane)) left whole notes (record { turn = turn.Take lane; heard = TookNone; counts = None }) (ended.Take None) run.can run.due (record { is = refl });
      at = record { same = refl; run = run };
      permitted = tt;
    }

-- The end.

-- nothing more is left
pub stop-given : {P M X O : Type 0} (made : P → M) (is_new : P → Type 0) (may_begin : M → Geometry → View → Type 0) (shape : M → Geometry → Own → X → Type 0) (awaits : P → Geometry → View → Own → Action → Type 0) (counts : X → Tally) (knows : View → Task M → Type 0) (left : Ended X → Notes → O → Type 0) (stop : O) (whole : Notes → O → Type 0) (g : Geometry) (number : ℕ) (kept : Action) (task : Task P)
    → task ≡ Stop
    → (notes : Notes) → IsNextTask made is_new may_begin shape counts knows left stop (λ rest outcome. whole (notes ++ rest) outcome) g (turns_view g number (noted_turns notes)) task
    → IsTurnGiven made is_new may_begin shape awaits counts knows left stop whole g number kept task turn.End notes
stop-given {P} {M} {X} made is_new may_begin shape awaits counts knows left stop whole g number kept task is notes next =
    let view = turns_view g number (noted_turns notes) in
    let N : Task P → Type 0 = λ t. IsNextTask made is_new may_begin shape counts knows left stop (λ rest outcome. whole (notes ++ rest) outcome) g view t in
    let G : Task P → Type 0 = λ t. IsTurnGiven made is_new may_begin shape awaits counts knows left stop whole g number kept t turn.End notes in
    let W : Notes → Type 0 = λ l. whole l stop in
    let over : IsStop (knows view Stop) stop (λ rest outcome. whole (notes ++ rest) outcome) = subst N is next in
    subst G (sym is) (record { next = subst W (append-nil notes) over.ended; at = over.known; permitted = tt })
