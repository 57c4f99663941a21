-- The turns of the actor: what it gives after Start, a reply, a put and a take.
use Rattle.std.proofs.Common.{◌≡◌, ℕ, [], ◌∷◌, ◌++◌, length, Option, Some, None, sym, ap, subst, ◌∙◌}
use Rattle.nm_base.specs.Geometry.{Geometry}
use Rattle.nm_action.specs.declared.action.Action.{Action}
use Rattle.nm_action.specs.declared.action.Reply.{Reply}
use Rattle.nm_action.specs.declared.spent.Spent.{Spent}
use Rattle.nm_action.specs.declared.tally.Tally.{Tally}
use Rattle.nm_action.specs.declared.turn.Turn.{Turn}
use Rattle.nm_action.specs.declared.turn.Turn.TheVariants as turn
use Rattle.nm_action.specs.declared.turn.Heard.{Heard}
use Rattle.nm_action.specs.declared.turn.Heard.TheVariants.{Start, Answer}
use Rattle.nm_action.specs.Own.{Own}
use Rattle.nm_view.specs.Views.{View}
use Rattle.nm_view.specs.Opening.{opening}
use Rattle.nm_event.specs.Fitting.{Fits}
use Rattle.nm_event.specs.After.{after_of, view_after}
use Rattle.nm_actor.specs.Turns.{Turns, own_list, turns_view}
use Rattle.nm_actor.specs.Actors.{answered, IsAnswerTo, HasHeard, IsPermittedTurn, IsTurn}
use Rattle.nm_actor.proofs.TurnLists.{own-push}
use Rattle.nm_tally.specs.declared.counter.Counter.{Counter}
use Rattle.nm_worker.specs.declared.routine.Task.{Task}
use Rattle.nm_worker.specs.declared.routine.Task.TheVariants.{Run, Put, Take, Stop}
use Rattle.nm_worker.specs.declared.routine.Ended.{Ended}
use Rattle.nm_worker.specs.Notes.{Noted, Notes, noted_turns, tally_with, notes_tally}
use Rattle.nm_worker.specs.Routines.{IsNextTask, IsDrawn}
use Rattle.nm_worker.specs.Workers.{AwaitsTurn, IsTurnGiven, IsFewDrawn, FollowsRoutine, IsAnswerNoted, IsWorkHeard}
use Rattle.nm_base.specs.Geometry.{page_count}
use Rattle.nm_tally.specs.Counts.{zero_tally}
use Rattle.nm_permit.specs.Permitted.{InRange}
use Rattle.nm_tally.specs.Counting.{IsCountable, CountsEvents}
use Rattle.nm_tally.proofs.Countable.{countable}
use Rattle.nm_action.specs.Spent.{counted}
use Rattle.nm_part.proofs.OwnLemmas.{view-push}
use Rattle.nm_worker.proofs.NoteLists.{turns-append, tally-append}
use Rattle.nm_worker.proofs.Drawing.{IsKept, drawn-after, few-after}

-- after an answered turn the actor agrees with it, and its next turn is permitted
pub turn-answered : {P M X R Q O : Type 0} (made : P → M) (is_new : P → Type 0) (may_begin : M → Geometry → View → Type 0) (shape : M → Geometry → Own → X → Type 0) (awaits : P → Geometry → View → Own → Action → Type 0) (counts : X → Tally) (knows : R → View → Task M → Type 0) (left : R → Ended X → Notes → O → Type 0) (stop : R → O) (data_of : R → Q) (whole : Q → Notes → O → Type 0) (geometry : Q → Geometry) (number : Q → ℕ) (old new : R) (later : Action) (next : Task P) (counting : Counter) (tally total : Tally) (spending : Spent) (result : Turn) (turns : Turns) (notes : Notes) (given : Turn) (heard : Heard)
    → data_of new ≡ data_of old → turns ≡ noted_turns notes → tally ≡ notes_tally notes
    → CountsEvents counting (own_list (turns ++ (given, heard) ∷ [])) → length counting.locked.items ≡ page_count (geometry (data_of old))
    → IsDrawn spending (turns_view (geometry (data_of old)) (number (data_of old)) (turns ++ (given, heard) ∷ [])) → IsFewDrawn spending
    → IsAnswerNoted (IsTurnGiven made is_new may_begin shape awaits counts (knows new) (left new) (stop new) (whole (data_of old)) (geometry (data_of old)) (number (data_of old)) later next result) tally total notes given heard
    → IsTurn (geometry (data_of old)) (number (data_of old)) (FollowsRoutine made is_new may_begin shape awaits counts (knows new) (left new) (stop new) (whole (data_of new)) (geometry (data_of new)) (number (data_of new)) later next counting total spending) (turns ++ (given, heard) ∷ []) result
turn-answered {P} {M} {X} {R} {Q} made is_new may_begin shape awaits counts knows left stop data_of whole geometry number old new later next counting tally total spending result turns notes given heard same is sums events pages drawn few h =
    let note : Noted = record { turn = given; heard = heard; counts = h.counts } in
    let list : turns ++ (given, heard) ∷ [] ≡ noted_turns (notes ++ note ∷ []) = ap (λ (l : Turns). l ++ (given, heard) ∷ []) is ∙ sym (turns-append notes (note ∷ [])) in
    let V : Turns → Type 0 = λ l. IsPermittedTurn (geometry (data_of old)) (turns_view (geometry (data_of old)) (number (data_of old)) l) result in
    let K : Q → Type 0 = λ q. IsTurn (geometry (data_of old)) (number (data_of old)) (FollowsRoutine made is_new may_begin shape awaits counts (knows new) (left new) (stop new) (whole q) (geometry q) (number q) later next counting total spending) (turns ++ (given, heard) ∷ []) result in
    subst K (sym same) (record {
      agreed = record {
        notes = notes ++ note ∷ [];
        is = list;
        next = h.next.next;
        events = events;
        ends = h.ends ∙ ap (λ (t : Tally). tally_with t h.counts) sums ∙ sym (tally-append zero_tally notes note);
        pages = pages;
        drawn = drawn;
        few = few;
        at = h.next.at;
      };
      permitted = subst V (sym list) h.next.permitted;
    })

-- Start.

-- the first turn
pub first-turn : {P M X R Q O : Type 0} (made : P → M) (is_new : P → Type 0) (may_begin : M → Geometry → View → Type 0) (shape : M → Geometry → Own → X → Type 0) (awaits : P → Geometry → View → Own → Action → Type 0) (counts : X → Tally) (knows : R → View → Task M → Type 0) (left : R → Ended X → Notes → O → Type 0) (stop : R → O) (data_of : R → Q) (whole : Q → Notes → O → Type 0) (geometry : Q → Geometry) (number : Q → ℕ) (old new : R) (kept later : Action) (task next : Task P) (counter counting : Counter) (tally total : Tally) (spent spending : Spent) (result : Turn)
    → new ≡ old → counting ≡ counter → total ≡ tally → spending ≡ spent
    → ((notes : Notes) → IsNextTask made is_new may_begin shape counts (knows old) (left old) (stop old) (λ rest outcome. (whole (data_of old)) (notes ++ rest) outcome) (geometry (data_of old)) (turns_view (geometry (data_of old)) (number (data_of old)) (noted_turns notes)) task → IsTurnGiven made is_new may_begin shape awaits counts (knows old) (left old) (stop old) (whole (data_of old)) (geometry (data_of old)) (number (data_of old)) later next result notes)
    → (turns : Turns) (last : Option Turn) → FollowsRoutine made is_new may_begin shape awaits counts (knows old) (left old) (stop old) (whole (data_of old)) (geometry (data_of old)) (number (data_of old)) kept task counter tally spent turns last → IsAnswerTo (geometry (data_of old)) (turns_view (geometry (data_of old)) (number (data_of old)) turns) last Start
    → IsTurn (geometry (data_of old)) (number (data_of old)) (FollowsRoutine made is_new may_begin shape awaits counts (knows new) (left new) (stop new) (whole (data_of new)) (geometry (data_of new)) (number (data_of new)) later next counting total spending) (answered last Start turns) result
first-turn {P} {M} {X} {R} {Q} made is_new may_begin shape awaits counts knows left stop data_of whole geometry number old new kept later task next counter counting tally total spent spending result is events sums draws given turns None h answer =
    let first = given h.notes h.at in
    let S : Spent → Type 0 = λ k. IsDrawn k (turns_view (geometry (data_of old)) (number (data_of old)) turns) in
    let T : Spent → Type 0 = λ k. IsFewDrawn k in
    let V : Turns → Type 0 = λ l. IsPermittedTurn (geometry (data_of old)) (turns_view (geometry (data_of old)) (number (data_of old)) l) result in
    let D : Counter → Type 0 = λ k. CountsEvents k (own_list turns) in
    let K : R → Type 0 = λ r. IsTurn (geometry (data_of old)) (number (data_of old)) (FollowsRoutine made is_new may_begin shape awaits counts (knows r) (left r) (stop r) (whole (data_of r)) (geometry (data_of r)) (number (data_of r)) later next counting total spending) turns result in
    subst K (sym is) (record {
      agreed = record {
        notes = h.notes;
        is = h.is;
        next = first.next;
        events = subst D (sym events) h.events;
        ends = sums ∙ h.ends;
        pages = ap (λ (k : Counter). length k.locked.items) events ∙ h.pages;
        drawn = subst S (sym draws) h.drawn;
        few = subst T (sym draws) h.few;
        at = first.at;
      };
      permitted = subst V (sym h.is) first.permitted;
    })
first-turn made is_new may_begin shape awaits counts knows left stop data_of whole geometry number old new kept later task next counter counting tally total spent spending result is events sums draws given turns (Some (turn.Do action)) h answer = absurd answer
first-turn made is_new may_begin shape awaits counts knows left stop data_of whole geometry number old new kept later task next counter counting tally total spent spending result is events sums draws given turns (Some (turn.Put into b)) h answer = absurd answer
first-turn made is_new may_begin shape awaits counts knows left stop data_of whole geometry number old new kept later task next counter counting tally total spent spending result is events sums draws given turns (Some (turn.Take from)) h answer = absurd answer
first-turn made is_new may_begin shape awaits counts knows left stop data_of whole geometry number old new kept later task next counter counting tally total spent spending result is events sums draws given turns (Some turn.End) h answer = absurd answer

-- A reply.

at-kept : {P M X O : Type 0} (made : P → M) (is_new : P → Type 0) (may_begin : M → Geometry → View → Type 0) (shape : M → Geometry → Own → X → Type 0) (awaits : P → Geometry → View → Own → Action → Type 0) (counts : X → Tally) (knows : View → Task M → Type 0) (left : Ended X → Notes → O → Type 0) (stop : O) (whole : Notes → O → Type 0) (g : Geometry) (number : ℕ) (kept : Action) (notes : Notes) (action : Action) (task : Task P)
    → AwaitsTurn made is_new may_begin shape awaits counts knows left stop whole g number kept notes (Some (turn.Do action)) task → IsKept g (turns_view g number (noted_turns notes)) kept action
at-kept made is_new may_begin shape awaits counts knows left stop whole g number kept notes action (Run piece) at = record { same = at.same; permitted = at.permitted }
at-kept made is_new may_begin shape awaits counts knows left stop whole g number kept notes action (Put lane page) at = absurd at
at-kept made is_new may_begin shape awaits counts knows left stop whole g number kept notes action (Take lane) at = absurd at
at-kept made is_new may_begin shape awaits counts knows left stop whole g number kept notes action Stop at = absurd at

noting : {P M X O : Type 0} (made : P → M) (is_new : P → Type 0) (may_begin : M → Geometry → View → Type 0) (shape : M → Geometry → Own → X → Type 0) (awaits : P → Geometry → View → Own → Action → Type 0) (counts : X → Tally) (knows : View → Task M → Type 0) (left : Ended X → Notes → O → Type 0) (stop : O) (whole : Notes → O → Type 0) (g : Geometry) (number : ℕ) (kept : Action) (task : Task P) (counter : Counter) (tally : Tally) (spent : Spent) (reply : Reply) (turns : Turns) (last : Option Turn)
    → FollowsRoutine made is_new may_begin shape awaits counts knows left stop whole g number kept task counter tally spent turns last → IsAnswerTo g (turns_view g number turns) last (Answer reply) → IsCountable (length counter.locked.items) kept
noting made is_new may_begin shape awaits counts knows left stop whole g number kept task counter tally spent reply turns None h answer = absurd answer
noting made is_new may_begin shape awaits counts knows left stop whole g number kept task counter tally spent reply turns (Some (turn.Do action)) h answer =
    let k = at-kept made is_new may_begin shape awaits counts knows left stop whole g number kept h.notes action task h.at in
    let R : Action → Type 0 = λ a. InRange g a in
    let N : ℕ → Type 0 = λ n. IsCountable n kept in
    subst N (sym h.pages) (countable g kept (subst R (sym k.same) k.permitted.range))
noting made is_new may_begin shape awaits counts knows left stop whole g number kept task counter tally spent reply turns (Some (turn.Put into b)) h answer = absurd answer
noting made is_new may_begin shape awaits counts knows left stop whole g number kept task counter tally spent reply turns (Some (turn.Take from)) h answer = absurd answer
noting made is_new may_begin shape awaits counts knows left stop whole g number kept task counter tally spent reply turns (Some turn.End) h answer = absurd answer

-- the action that was answered can be counted
pub action-counts : {P M X O : Type 0} (made : P → M) (is_new : P → Type 0) (may_begin : M → Geometry → View → Type 0) (shape : M → Geometry → Own → X → Type 0) (awaits : P → Geometry → View → Own → Action → Type 0) (counts : X → Tally) (knows : View → Task M → Type 0) (left : Ended X → Notes → O → Type 0) (stop : O) (whole : Notes → O → Type 0) (g : Geometry) (number : ℕ) (kept : Action) (task : Task P) (counter : Counter) (tally : Tally) (spent : Spent) (reply : Reply)
    → HasHeard g number (FollowsRoutine made is_new may_begin shape awaits counts knows left stop whole g number kept task counter tally spent) (Answer reply) → IsCountable (length counter.locked.items) kept
action-counts made is_new may_begin shape awaits counts knows left stop whole g number kept task counter tally spent reply h = noting made is_new may_begin shape awaits counts knows left stop whole g number kept task counter tally spent reply h.turns h.last h.agreed h.answer

-- the piece of work that runs is to hear the reply
hearing : {P M X O : Type 0} (made : P → M) (is_new : P → Type 0) (may_begin : M → Geometry → View → Type 0) (shape : M → Geometry → Own → X → Type 0) (awaits : P → Geometry → View → Own → Action → Type 0) (counts : X → Tally) (knows : View → Task M → Type 0) (left : Ended X → Notes → O → Type 0) (stop : O) (whole : Notes → O → Type 0) (g : Geometry) (number : ℕ) (kept : Action) (task : Task P) (counter : Counter) (tally : Tally) (spent spending : Spent) (reply : Reply) (turns : Turns) (last : Option Turn)
    → FollowsRoutine made is_new may_begin shape awaits counts knows left stop whole g number kept task counter tally spent turns last → IsAnswerTo g (turns_view g number turns) last (Answer reply) → spending ≡ counted kept spent
    → IsWorkHeard (λ notes last. AwaitsTurn made is_new may_begin shape awaits counts knows left stop whole g number kept notes last task) g number spending reply
hearing made is_new may_begin shape awaits counts knows left stop whole g number kept task counter tally spent spending reply turns None h answer draws = absurd answer
hearing made is_new may_begin shape awaits counts knows left stop whole g number kept task counter tally spent spending reply turns (Some (turn.Do action)) h answer draws =
    let F : Turns → Type 0 = λ l. Fits g (turns_view g number l) action reply in
    let at = at-kept made is_new may_begin shape awaits counts knows left stop whole g number kept h.notes action task h.at in
    let V : Turns → Type 0 = λ l. IsDrawn spent (turns_view g number l) in
    let fits = subst F h.is answer in
    record { notes = h.notes; action = action; here = h.at; fits = fits; drawn = drawn-after spent spending kept action reply g (turns_view g number (noted_turns h.notes)) draws at (subst V h.is h.drawn) fits }
hearing made is_new may_begin shape awaits counts knows left stop whole g number kept task counter tally spent spending reply turns (Some (turn.Put into b)) h answer draws = absurd answer
hearing made is_new may_begin shape awaits counts knows left stop whole g number kept task counter tally spent spending reply turns (Some (turn.Take from)) h answer draws = absurd answer
hearing made is_new may_begin shape awaits counts knows left stop whole g number kept task counter tally spent spending reply turns (Some turn.End) h answer draws = absurd answer

pub work-requires : {P M X O : Type 0} (made : P → M) (is_new : P → Type 0) (may_begin : M → Geometry → View → Type 0) (shape : M → Geometry → Own → X → Type 0) (awaits : P → Geometry → View → Own → Action → Type 0) (counts : X → Tally) (knows : View → Task M → Type 0) (left : Ended X → Notes → O → Type 0) (stop : O) (whole : Notes → O → Type 0) (g : Geometry) (number : ℕ) (kept : Action) (task : Task P) (counter : Counter) (tally : Tally) (spent spending : Spent) (reply : Reply)
    → HasHeard g number (FollowsRoutine made is_new may_begin shape awaits counts knows left stop whole g number kept task counter tally spent) (Answer reply) → spending ≡ counted kept spent
    → IsWorkHeard (λ notes last. AwaitsTurn made is_new may_begin shape awaits counts knows left stop whole g number kept notes last task) g number spending reply
work-requires made is_new may_begin shape awaits counts knows left stop whole g number kept task counter tally spent spending reply h draws = hearing made is_new may_begin shape awaits counts knows left stop whole g number kept task counter tally spent spending reply h.turns h.last h.agreed h.answer draws

-- the turn after it
pub work-turn : {P M X R Q O : Type 0} (made : P → M) (is_new : P → Type 0) (may_begin : M → Geometry → View → Type 0) (shape : M → Geometry → Own → X → Type 0) (awaits : P → Geometry → View → Own → Action → Type 0) (counts : X → Tally) (knows : R → View → Task M → Type 0) (left : R → Ended X → Notes → O → Type 0) (stop : R → O) (data_of : R → Q) (whole : Q → Notes → O → Type 0) (geometry : Q → Geometry) (number : Q → ℕ) (old new : R) (kept later : Action) (task next : Task P) (counter counting : Counter) (tally total : Tally) (spent spending : Spent) (result : Turn) (reply : Reply)
    → data_of new ≡ data_of old
    → spending ≡ counted kept spent
    → ((own : Own) → CountsEvents counter own → CountsEvents counting (own ++ (kept, reply) ∷ [])) → length counting.locked.items ≡ length counter.locked.items
    → ((notes : Notes) (action : Action) → AwaitsTurn made is_new may_begin shape awaits counts (knows old) (left old) (stop old) (whole (data_of old)) (geometry (data_of old)) (number (data_of old)) kept notes (Some (turn.Do action)) task → Fits (geometry (data_of old)) (turns_view (geometry (data_of old)) (number (data_of old)) (noted_turns notes)) action reply → IsDrawn spending (after_of (geometry (data_of old)) (turns_view (geometry (data_of old)) (number (data_of old)) (noted_turns notes)) action reply) → IsAnswerNoted (IsTurnGiven made is_new may_begin shape awaits counts (knows new) (left new) (stop new) (whole (data_of old)) (geometry (data_of old)) (number (data_of old)) later next result) tally total notes (turn.Do action) (Answer reply))
    → (turns : Turns) (last : Option Turn) → FollowsRoutine made is_new may_begin shape awaits counts (knows old) (left old) (stop old) (whole (data_of old)) (geometry (data_of old)) (number (data_of old)) kept task counter tally spent turns last → IsAnswerTo (geometry (data_of old)) (turns_view (geometry (data_of old)) (number (data_of old)) turns) last (Answer reply)
    → IsTurn (geometry (data_of old)) (number (data_of old)) (FollowsRoutine made is_new may_begin shape awaits counts (knows new) (left new) (stop new) (whole (data_of new)) (geometry (data_of new)) (number (data_of new)) later next counting total spending) (answered last (Answer reply) turns) result
work-turn made is_new may_begin shape awaits counts knows left stop data_of whole geometry number old new kept later task next counter counting tally total spent spending result reply same draws events pages given turns None h answer = absurd answer
work-turn made is_new may_begin shape awaits counts knows left stop data_of whole geometry number old new kept later task next counter counting tally total spent spending result reply same draws events pages given turns (Some (turn.Do action)) h answer =
    let k = at-kept made is_new may_begin shape awaits counts (knows old) (left old) (stop old) (whole (data_of old)) (geometry (data_of old)) (number (data_of old)) kept h.notes action task h.at in
    let F : Turns → Type 0 = λ l. Fits (geometry (data_of old)) (turns_view (geometry (data_of old)) (number (data_of old)) l) action reply in
    let C : Own → Type 0 = λ l. CountsEvents counting l in
    let E : Action → Type 0 = λ a. CountsEvents counting (own_list turns ++ (a, reply) ∷ []) in
    let U : Turns → Type 0 = λ l. IsDrawn spent (turns_view (geometry (data_of old)) (number (data_of old)) l) in
    let V : View → Type 0 = λ v. IsDrawn spending v in
    let P : Turns → Type 0 = λ l. IsKept (geometry (data_of old)) (turns_view (geometry (data_of old)) (number (data_of old)) l) kept action in
    let at = subst P (sym h.is) k in
    let view = ap (λ (l : Own). view_after (geometry (data_of old)) (opening (geometry (data_of old)) (number (data_of old))) l) (own-push turns (turn.Do action) (Answer reply)) ∙ view-push (geometry (data_of old)) (opening (geometry (data_of old)) (number (data_of old))) (own_list turns) action reply in
    turn-answered made is_new may_begin shape awaits counts knows left stop data_of whole geometry number old new later next counting tally total spending result turns h.notes (turn.Do action) (Answer reply) same h.is h.ends
    (subst C (sym (own-push turns (turn.Do action) (Answer reply))) (subst E k.same (events (own_list turns) h.events))) (pages ∙ h.pages)
    (subst V (sym view) (drawn-after spent spending kept action reply (geometry (data_of old)) (turns_view (geometry (data_of old)) (number (data_of old)) turns) draws at h.drawn answer)) (few-after spent spending kept action (geometry (data_of old)) (turns_view (geometry (data_of old)) (number (data_of old)) turns) draws at h.drawn h.few)
    (given h.notes action h.at (subst F h.is answer) (drawn-after spent spending kept action reply (geometry (data_of old)) (turns_view (geometry (data_of old)) (number (data_of old)) (noted_turns h.notes)) draws k (subst U h.is h.drawn) (subst F h.is answer)))
work-turn made is_new may_begin shape awaits counts knows left stop data_of whole geometry number old new kept later task next counter counting tally total spent spending result reply same draws events pages given turns (Some (turn.Put into b)) h answer = absurd answer
work-turn made is_new may_begin shape awaits counts knows left stop data_of whole geometry number old new kept later task next counter counting tally total spent spending result reply same draws events pages given turns (Some (turn.Take from)) h answer = absurd answer
work-turn made is_new may_begin shape awaits counts knows left stop data_of whole geometry number old new kept later task next counter counting tally total spent spending result reply same draws events pages given turns (Some turn.End) h answer = absurd answer
