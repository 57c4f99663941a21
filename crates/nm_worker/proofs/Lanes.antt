-- The turns of the actor after a put and after a take.
use Rattle.std.proofs.Common.{◌≡◌, ℕ, Bool, true, false, [], ◌∷◌, ◌++◌, length, Option, Some, None, refl, sym, ap, subst, ◌∙◌}
use Rattle.std.proofs.lemmas.List.{append-nil}
use Rattle.nm_base.specs.Geometry.{Geometry}
use Rattle.nm_action.specs.declared.action.Action.{Action}
use Rattle.nm_action.specs.declared.spent.Spent.{Spent}
use Rattle.nm_action.specs.declared.tally.Tally.{Tally}
use Rattle.nm_action.specs.declared.turn.Lane.{Lane}
use Rattle.nm_action.specs.declared.turn.Turn.{Turn}
use Rattle.nm_action.specs.declared.turn.Turn.TheVariants as turn
use Rattle.nm_action.specs.Own.{Own}
use Rattle.nm_view.specs.Views.{View}
use Rattle.nm_view.specs.Opening.{opening}
use Rattle.nm_event.specs.After.{view_after}
use Rattle.nm_part.specs.Patterns.{IsLeft}
use Rattle.nm_part.proofs.Patterns.{left-after}
use Rattle.nm_actor.specs.Turns.{Turns, own_list, own_turn, turns_view}
use Rattle.nm_actor.specs.Actors.{answered, IsAnswerTo, HasHeard, IsTurn}
use Rattle.nm_actor.proofs.TurnLists.{own-push}
use Rattle.nm_tally.specs.declared.counter.Counter.{Counter}
use Rattle.nm_worker.specs.declared.routine.Task.{Task}
use Rattle.nm_worker.specs.declared.routine.Task.TheVariants.{Run, Put, Take, Stop}
use Rattle.nm_worker.specs.declared.routine.Ended.{Ended}
use Rattle.nm_worker.specs.declared.routine.Ended.TheVariants as ended
use Rattle.nm_worker.specs.Notes.{Noted, Notes, noted_turns, put_heard, take_heard, IsTask}
use Rattle.nm_worker.specs.Routines.{task_data, IsTaskOver, IsDrawn, HasTaskOver}
use Rattle.nm_worker.specs.Workers.{AwaitsTurn, IsTurnGiven, IsFewDrawn, FollowsRoutine}
use Rattle.nm_tally.specs.Counting.{CountsEvents}
use Rattle.nm_worker.proofs.NoteLists.{view-more}
use Rattle.nm_worker.proofs.Working.{IsTaskEnded, ended-over}
use Rattle.nm_worker.proofs.Turning.{turn-answered}

-- A put.

abbrev IsPutTurn : Option Turn → Type 0
IsPutTurn (Some (turn.Put into b)) = Unit {0}
IsPutTurn last = ⊥

put-last : (g : Geometry) (view : View) (last : Option Turn) (full : Bool) → IsAnswerTo g view last (put_heard full) → IsPutTurn last
put-last g view None true h = absurd h
put-last g view (Some (turn.Do action)) true h = absurd h
put-last g view (Some (turn.Take from)) true h = absurd h
put-last g view (Some turn.End) true h = absurd h
put-last g view (Some (turn.Put into b)) true h = tt
put-last g view None false h = absurd h
put-last g view (Some (turn.Do action)) false h = absurd h
put-last g view (Some (turn.Take from)) false h = absurd h
put-last g view (Some turn.End) false h = absurd h
put-last g view (Some (turn.Put into b)) false h = tt

own-put : (into : Lane) (b : ℕ) (full : Bool) → own_turn (turn.Put into b) (put_heard full) ≡ []
own-put into b true = refl
own-put into b false = refl

put-ended : {P M X O : Type 0} (made : P → M) (is_new : P → Type 0) (may_begin : M → Geometry → View → Type 0) (shape : M → Geometry → Own → X → Type 0) (awaits : P → Geometry → View → Own → Action → Type 0) (leaves : M → Geometry → View → X → View → Type 0) (ends : P → Geometry → Own → X → Type 0) (counts : X → Tally) (knows : View → Task M → Type 0) (left : Ended X → Notes → O → Type 0) (stop : O) (whole : Notes → O → Type 0) (g : Geometry) (number : ℕ) (kept : Action) (notes : Notes) (into : Lane) (b : ℕ) (full : Bool) (spent : Spent) (task : Task P)
    → AwaitsTurn made is_new may_begin shape awaits counts knows left stop whole g number kept notes (Some (turn.Put into b)) task → IsDrawn spent (turns_view g number (noted_turns notes))
    → IsTaskEnded made shape leaves ends knows left whole g number spent task (notes ++ record { turn = turn.Put into b; heard = put_heard full; counts = None } ∷ []) (ended.Put full)
put-ended made is_new may_begin shape awaits leaves ends counts knows left stop whole g number kept notes into b full spent (Run piece) at drawn = absurd at
put-ended made is_new may_begin shape awaits leaves ends counts knows left stop whole g number kept notes into b full spent (Put lane page) at drawn =
    let note : Noted = record { turn = turn.Put into b; heard = put_heard full; counts = None } in
    let D : View → Type 0 = λ v. IsDrawn spent v in
    let later : turns_view g number (noted_turns (notes ++ note ∷ [])) ≡ turns_view g number (noted_turns notes) = view-more g number notes (note ∷ []) [] (append-nil (own_turn (turn.Put into b) (put_heard full)) ∙ own-put into b full) in
    record {
      now = turns_view g number (noted_turns notes);
      known = at.run.known;
      over = later;
      drawn = subst D (sym later) drawn;
      due = left-after whole notes (note ∷ []) (IsTask shape counts g (Put lane page)) left (ended.Put full) at.run.due (record { is = ap (λ (t : Turn). record { turn = t; heard = put_heard full; counts = None } ∷ []) at.same });
    }
put-ended made is_new may_begin shape awaits leaves ends counts knows left stop whole g number kept notes into b full spent (Take lane) at drawn = absurd at
put-ended made is_new may_begin shape awaits leaves ends counts knows left stop whole g number kept notes into b full spent Stop at drawn = absurd at

put-over : {P M X O : Type 0} (made : P → M) (is_new : P → Type 0) (may_begin : M → Geometry → View → Type 0) (shape : M → Geometry → Own → X → Type 0) (awaits : P → Geometry → View → Own → Action → Type 0) (leaves : M → Geometry → View → X → View → Type 0) (ends : P → Geometry → Own → X → Type 0) (counts : X → Tally) (knows : View → Task M → Type 0) (left : Ended X → Notes → O → Type 0) (stop : O) (whole : Notes → O → Type 0) (g : Geometry) (number : ℕ) (kept : Action) (notes : Notes) (full : Bool) (spent : Spent) (task : Task P) (last : Option Turn)
    → IsPutTurn last → AwaitsTurn made is_new may_begin shape awaits counts knows left stop whole g number kept notes last task → IsDrawn spent (turns_view g number (noted_turns notes)) → HasTaskOver made shape leaves ends knows g task (ended.Put full) spent
put-over made is_new may_begin shape awaits leaves ends counts knows left stop whole g number kept notes full spent task None is at drawn = absurd is
put-over made is_new may_begin shape awaits leaves ends counts knows left stop whole g number kept notes full spent task (Some (turn.Do action)) is at drawn = absurd is
put-over made is_new may_begin shape awaits leaves ends counts knows left stop whole g number kept notes full spent task (Some (turn.Take from)) is at drawn = absurd is
put-over made is_new may_begin shape awaits leaves ends counts knows left stop whole g number kept notes full spent task (Some turn.End) is at drawn = absurd is
put-over made is_new may_begin shape awaits leaves ends counts knows left stop whole g number kept notes full spent task (Some (turn.Put into b)) is at drawn =
    ended-over made shape leaves ends knows left whole g number spent task (notes ++ record { turn = turn.Put into b; heard = put_heard full; counts = None } ∷ []) (ended.Put full) (put-ended made is_new may_begin shape awaits leaves ends counts knows left stop whole g number kept notes into b full spent task at drawn)

put-answered : {P M X R Q O : Type 0} (made : P → M) (is_new : P → Type 0) (may_begin : M → Geometry → View → Type 0) (shape : M → Geometry → Own → X → Type 0) (awaits : P → Geometry → View → Own → Action → Type 0) (leaves : M → Geometry → View → X → View → Type 0) (ends : P → Geometry → Own → X → Type 0) (counts : X → Tally) (knows : R → View → Task M → Type 0) (left : R → Ended X → Notes → O → Type 0) (stop : R → O) (data_of : R → Q) (whole : Q → Notes → O → Type 0) (geometry : Q → Geometry) (number : Q → ℕ) (old new : R) (kept later : Action) (task next : Task P) (counter counting : Counter) (tally total : Tally) (spent spending : Spent) (result : Turn) (full : Bool)
    → data_of new ≡ data_of old → counting ≡ counter → total ≡ tally → spending ≡ spent
    → ((notes : Notes) (begun : View) → knows old begun (task_data made task) → IsTaskOver made shape leaves ends (geometry (data_of old)) begun (turns_view (geometry (data_of old)) (number (data_of old)) (noted_turns notes)) task (ended.Put full) → IsDrawn spent (turns_view (geometry (data_of old)) (number (data_of old)) (noted_turns notes)) → IsLeft (whole (data_of old)) notes (left old (ended.Put full)) → IsTurnGiven made is_new may_begin shape awaits counts (knows new) (left new) (stop new) (whole (data_of old)) (geometry (data_of old)) (number (data_of old)) later next result notes)
    → (turns : Turns) (last : Option Turn) → IsPutTurn last → FollowsRoutine made is_new may_begin shape awaits counts (knows old) (left old) (stop old) (whole (data_of old)) (geometry (data_of old)) (number (data_of old)) kept task counter tally spent turns last
    → IsTurn (geometry (data_of old)) (number (data_of old)) (FollowsRoutine made is_new may_begin shape awaits counts (knows new) (left new) (stop new) (whole (data_of new)) (geometry (data_of new)) (number (data_of new)) later next counting total spending) (answered last (put_heard full) turns) result
put-answered made is_new may_begin shape awaits leaves ends counts knows left stop data_of whole geometry number old new kept later task next counter counting tally total spent spending result full same events sums draws given turns None is h = absurd is
put-answered made is_new may_begin shape awaits leaves ends counts knows left stop data_of whole geometry number old new kept later task next counter counting tally total spent spending result full same events sums draws given turns (Some (turn.Do action)) is h = absurd is
put-answered made is_new may_begin shape awaits leaves ends counts knows left stop data_of whole geometry number old new kept later task next counter counting tally total spent spending result full same events sums draws given turns (Some (turn.Take from)) is h = absurd is
put-answered made is_new may_begin shape awaits leaves ends counts knows left stop data_of whole geometry number old new kept later task next counter counting tally total spent spending result full same events sums draws given turns (Some turn.End) is h = absurd is
put-answered made is_new may_begin shape awaits leaves ends counts knows left stop data_of whole geometry number old new kept later task next counter counting tally total spent spending result full same events sums draws given turns (Some (turn.Put into b)) is h =
    let note : Noted = record { turn = turn.Put into b; heard = put_heard full; counts = None } in
    let V : Turns → Type 0 = λ l. IsDrawn spent (turns_view (geometry (data_of old)) (number (data_of old)) l) in
    let over = put-ended made is_new may_begin shape awaits leaves ends counts (knows old) (left old) (stop old) (whole (data_of old)) (geometry (data_of old)) (number (data_of old)) kept h.notes into b full spent task h.at (subst V h.is h.drawn) in
    let own : own_list (turns ++ (turn.Put into b, put_heard full) ∷ []) ≡ own_list turns = own-push turns (turn.Put into b) (put_heard full) ∙ ap (λ (l : Own). own_list turns ++ l) (own-put into b full) ∙ append-nil (own_list turns) in
    let C : Own → Type 0 = λ l. CountsEvents counting l in
    let D : Counter → Type 0 = λ k. CountsEvents k (own_list turns) in
    let W : Own → Type 0 = λ l. IsDrawn spent (view_after (geometry (data_of old)) (opening (geometry (data_of old)) (number (data_of old))) l) in
    let S : Spent → Type 0 = λ k. IsDrawn k (turns_view (geometry (data_of old)) (number (data_of old)) (turns ++ (turn.Put into b, put_heard full) ∷ [])) in
    let T : Spent → Type 0 = λ k. IsFewDrawn k in
    turn-answered made is_new may_begin shape awaits counts knows left stop data_of whole geometry number old new later next counting tally total spending result turns h.notes (turn.Put into b) (put_heard full) same h.is h.ends
    (subst C (sym own) (subst D (sym events) h.events)) (ap (λ (k : Counter). length k.locked.items) events ∙ h.pages)
    (subst S (sym draws) (subst W (sym own) h.drawn)) (subst T (sym draws) h.few)
    (record { counts = None; ends = sums; next = given (h.notes ++ note ∷ []) over.now over.known over.over over.drawn over.due })

-- the routine can go on
pub put-requires : {P M X O : Type 0} (made : P → M) (is_new : P → Type 0) (may_begin : M → Geometry → View → Type 0) (shape : M → Geometry → Own → X → Type 0) (awaits : P → Geometry → View → Own → Action → Type 0) (leaves : M → Geometry → View → X → View → Type 0) (ends : P → Geometry → Own → X → Type 0) (counts : X → Tally) (knows : View → Task M → Type 0) (left : Ended X → Notes → O → Type 0) (stop : O) (whole : Notes → O → Type 0) (g : Geometry) (number : ℕ) (kept : Action) (task : Task P) (counter : Counter) (tally : Tally) (spent : Spent) (full : Bool)
    → HasHeard g number (FollowsRoutine made is_new may_begin shape awaits counts knows left stop whole g number kept task counter tally spent) (put_heard full) → HasTaskOver made shape leaves ends knows g task (ended.Put full) spent
put-requires made is_new may_begin shape awaits leaves ends counts knows left stop whole g number kept task counter tally spent full h =
    put-over made is_new may_begin shape awaits leaves ends counts knows left stop whole g number kept h.agreed.notes full spent task h.last (put-last g (turns_view g number h.turns) h.last full h.answer) h.agreed.at
    (let V : Turns → Type 0 = λ l. IsDrawn spent (turns_view g number l) in subst V h.agreed.is h.agreed.drawn)

-- the turn after it
pub put-turn : {P M X R Q O : Type 0} (made : P → M) (is_new : P → Type 0) (may_begin : M → Geometry → View → Type 0) (shape : M → Geometry → Own → X → Type 0) (awaits : P → Geometry → View → Own → Action → Type 0) (leaves : M → Geometry → View → X → View → Type 0) (ends : P → Geometry → Own → X → Type 0) (counts : X → Tally) (knows : R → View → Task M → Type 0) (left : R → Ended X → Notes → O → Type 0) (stop : R → O) (data_of : R → Q) (whole : Q → Notes → O → Type 0) (geometry : Q → Geometry) (number : Q → ℕ) (old new : R) (kept later : Action) (task next : Task P) (counter counting : Counter) (tally total : Tally) (spent spending : Spent) (result : Turn) (full : Bool)
    → data_of new ≡ data_of old → counting ≡ counter → total ≡ tally → spending ≡ spent
    → ((notes : Notes) (begun : View) → knows old begun (task_data made task) → IsTaskOver made shape leaves ends (geometry (data_of old)) begun (turns_view (geometry (data_of old)) (number (data_of old)) (noted_turns notes)) task (ended.Put full) → IsDrawn spent (turns_view (geometry (data_of old)) (number (data_of old)) (noted_turns notes)) → IsLeft (whole (data_of old)) notes (left old (ended.Put full)) → IsTurnGiven made is_new may_begin shape awaits counts (knows new) (left new) (stop new) (whole (data_of old)) (geometry (data_of old)) (number (data_of old)) later next result notes)
    → (turns : Turns) (last : Option Turn) → FollowsRoutine made is_new may_begin shape awaits counts (knows old) (left old) (stop old) (whole (data_of old)) (geometry (data_of old)) (number (data_of old)) kept task counter tally spent turns last → IsAnswerTo (geometry (data_of old)) (turns_view (geometry (data_of old)) (number (data_of old)) turns) last (put_heard full)
    → IsTurn (geometry (data_of old)) (number (data_of old)) (FollowsRoutine made is_new may_begin shape awaits counts (knows new) (left new) (stop new) (whole (data_of new)) (geometry (data_of new)) (number (data_of new)) later next counting total spending) (answered last (put_heard full) turns) result
put-turn made is_new may_begin shape awaits leaves ends counts knows left stop data_of whole geometry number old new kept later task next counter counting tally total spent spending result full same events sums draws given turns last h answer =
    put-answered made is_new may_begin shape awaits leaves ends counts knows left stop data_of whole geometry number old new kept later task next counter counting tally total spent spending result full same events sums draws given turns last (put-last (geometry (data_of old)) (turns_view (geometry (data_of old)) (number (data_of old)) turns) last full answer) h

-- A take.

abbrev IsTakeTurn : Option Turn → Type 0
IsTakeTurn (Some (turn.Take from)) = Unit {0}
IsTakeTurn last = ⊥

take-last : (g : Geometry) (view : View) (last : Option Turn) (page : Option ℕ) → IsAnswerTo g view last (take_heard page) → IsTakeTurn last
take-last g view None None h = absurd h
take-last g view (Some (turn.Do action)) None h = absurd h
take-last g view (Some (turn.Put into b)) None h = absurd h
take-last g view (Some turn.End) None h = absurd h
take-last g view (Some (turn.Take from)) None h = tt
take-last g view None (Some p) h = absurd h
take-last g view (Some (turn.Do action)) (Some p) h = absurd h
take-last g view (Some (turn.Put into b)) (Some p) h = absurd h
take-last g view (Some turn.End) (Some p) h = absurd h
take-last g view (Some (turn.Take from)) (Some p) h = tt

own-take : (from : Lane) (page : Option ℕ) → own_turn (turn.Take from) (take_heard page) ≡ []
own-take from None = refl
own-take from (Some p) = refl

take-ended : {P M X O : Type 0} (made : P → M) (is_new : P → Type 0) (may_begin : M → Geometry → View → Type 0) (shape : M → Geometry → Own → X → Type 0) (awaits : P → Geometry → View → Own → Action → Type 0) (leaves : M → Geometry → View → X → View → Type 0) (ends : P → Geometry → Own → X → Type 0) (counts : X → Tally) (knows : View → Task M → Type 0) (left : Ended X → Notes → O → Type 0) (stop : O) (whole : Notes → O → Type 0) (g : Geometry) (number : ℕ) (kept : Action) (notes : Notes) (from : Lane) (page : Option ℕ) (spent : Spent) (task : Task P)
    → AwaitsTurn made is_new may_begin shape awaits counts knows left stop whole g number kept notes (Some (turn.Take from)) task → IsDrawn spent (turns_view g number (noted_turns notes))
    → IsTaskEnded made shape leaves ends knows left whole g number spent task (notes ++ record { turn = turn.Take from; heard = take_heard page; counts = None } ∷ []) (ended.Take page)
take-ended made is_new may_begin shape awaits leaves ends counts knows left stop whole g number kept notes from page spent (Run piece) at drawn = absurd at
take-ended made is_new may_begin shape awaits leaves ends counts knows left stop whole g number kept notes from page spent (Put lane b) at drawn = absurd at
take-ended made is_new may_begin shape awaits leaves ends counts knows left stop whole g number kept notes from page spent (Take lane) at drawn =
    let note : Noted = record { turn = turn.Take from; heard = take_heard page; counts = None } in
    let D : View → Type 0 = λ v. IsDrawn spent v in
    let later : turns_view g number (noted_turns (notes ++ note ∷ [])) ≡ turns_view g number (noted_turns notes) = view-more g number notes (note ∷ []) [] (append-nil (own_turn (turn.Take from) (take_heard page)) ∙ own-take from page) in
    record {
      now = turns_view g number (noted_turns notes);
      known = at.run.known;
      over = later;
      drawn = subst D (sym later) drawn;
      due = left-after whole notes (note ∷ []) (IsTask shape counts g (Take lane)) left (ended.Take page) at.run.due (record { is = ap (λ (t : Turn). record { turn = t; heard = take_heard page; counts = None } ∷ []) at.same });
    }
take-ended made is_new may_begin shape awaits leaves ends counts knows left stop whole g number kept notes from page spent Stop at drawn = absurd at

take-over : {P M X O : Type 0} (made : P → M) (is_new : P → Type 0) (may_begin : M → Geometry → View → Type 0) (shape : M → Geometry → Own → X → Type 0) (awaits : P → Geometry → View → Own → Action → Type 0) (leaves : M → Geometry → View → X → View → Type 0) (ends : P → Geometry → Own → X → Type 0) (counts : X → Tally) (knows : View → Task M → Type 0) (left : Ended X → Notes → O → Type 0) (stop : O) (whole : Notes → O → Type 0) (g : Geometry) (number : ℕ) (kept : Action) (notes : Notes) (page : Option ℕ) (spent : Spent) (task : Task P) (last : Option Turn)
    → IsTakeTurn last → AwaitsTurn made is_new may_begin shape awaits counts knows left stop whole g number kept notes last task → IsDrawn spent (turns_view g number (noted_turns notes)) → HasTaskOver made shape leaves ends knows g task (ended.Take page) spent
take-over made is_new may_begin shape awaits leaves ends counts knows left stop whole g number kept notes page spent task None is at drawn = absurd is
take-over made is_new may_begin shape awaits leaves ends counts knows left stop whole g number kept notes page spent task (Some (turn.Do action)) is at drawn = absurd is
take-over made is_new may_begin shape awaits leaves ends counts knows left stop whole g number kept notes page spent task (Some (turn.Put into b)) is at drawn = absurd is
take-over made is_new may_begin shape awaits leaves ends counts knows left stop whole g number kept notes page spent task (Some turn.End) is at drawn = absurd is
take-over made is_new may_begin shape awaits leaves ends counts knows left stop whole g number kept notes page spent task (Some (turn.Take from)) is at drawn =
    ended-over made shape leaves ends knows left whole g number spent task (notes ++ record { turn = turn.Take from; heard = take_heard page; counts = None } ∷ []) (ended.Take page) (take-ended made is_new may_begin shape awaits leaves ends counts knows left stop whole g number kept notes from page spent task at drawn)

take-answered : {P M X R Q O : Type 0} (made : P → M) (is_new : P → Type 0) (may_begin : M → Geometry → View → Type 0) (shape : M → Geometry → Own → X → Type 0) (awaits : P → Geometry → View → Own → Action → Type 0) (leaves : M → Geometry → View → X → View → Type 0) (ends : P → Geometry → Own → X → Type 0) (counts : X → Tally) (knows : R → View → Task M → Type 0) (left : R → Ended X → Notes → O → Type 0) (stop : R → O) (data_of : R → Q) (whole : Q → Notes → O → Type 0) (geometry : Q → Geometry) (number : Q → ℕ) (old new : R) (kept later : Action) (task next : Task P) (counter counting : Counter) (tally total : Tally) (spent spending : Spent) (result : Turn) (page : Option ℕ)
    → data_of new ≡ data_of old → counting ≡ counter → total ≡ tally → spending ≡ spent
    → ((notes : Notes) (begun : View) → knows old begun (task_data made task) → IsTaskOver made shape leaves ends (geometry (data_of old)) begun (turns_view (geometry (data_of old)) (number (data_of old)) (noted_turns notes)) task (ended.Take page) → IsDrawn spent (turns_view (geometry (data_of old)) (number (data_of old)) (noted_turns notes)) → IsLeft (whole (data_of old)) notes (left old (ended.Take page)) → IsTurnGiven made is_new may_begin shape awaits counts (knows new) (left new) (stop new) (whole (data_of old)) (geometry (data_of old)) (number (data_of old)) later next result notes)
    → (turns : Turns) (last : Option Turn) → IsTakeTurn last → FollowsRoutine made is_new may_begin shape awaits counts (knows old) (left old) (stop old) (whole (data_of old)) (geometry (data_of old)) (number (data_of old)) kept task counter tally spent turns last
    → IsTurn (geometry (data_of old)) (number (data_of old)) (FollowsRoutine made is_new may_begin shape awaits counts (knows new) (left new) (stop new) (whole (data_of new)) (geometry (data_of new)) (number (data_of new)) later next counting total spending) (answered last (take_heard page) turns) result
take-answered made is_new may_begin shape awaits leaves ends counts knows left stop data_of whole geometry number old new kept later task next counter counting tally total spent spending result page same events sums draws given turns None is h = absurd is
take-answered made is_new may_begin shape awaits leaves ends counts knows left stop data_of whole geometry number old new kept later task next counter counting tally total spent spending result page same events sums draws given turns (Some (turn.Do action)) is h = absurd is
take-answered made is_new may_begin shape awaits leaves ends counts knows left stop data_of whole geometry number old new kept later task next counter counting tally total spent spending result page same events sums draws given turns (Some (turn.Put into b)) is h = absurd is
take-answered made is_new may_begin shape awaits leaves ends counts knows left stop data_of whole geometry number old new kept later task next counter counting tally total spent spending result page same events sums draws given turns (Some turn.End) is h = absurd is
take-answered made is_new may_begin shape awaits leaves ends counts knows left stop data_of whole geometry number old new kept later task next counter counting tally total spent spending result page same events sums draws given turns (Some (turn.Take from)) is h =
    let note : Noted = record { turn = turn.Take from; heard = take_heard page; counts = None } in
    let V : Turns → Type 0 = λ l. IsDrawn spent (turns_view (geometry (data_of old)) (number (data_of old)) l) in
    let over = take-ended made is_new may_begin shape awaits leaves ends counts (knows old) (left old) (stop old) (whole (data_of old)) (geometry (data_of old)) (number (data_of old)) kept h.notes from page spent task h.at (subst V h.is h.drawn) in
    let own : own_list (turns ++ (turn.Take from, take_heard page) ∷ []) ≡ own_list turns = own-push turns (turn.Take from) (take_heard page) ∙ ap (λ (l : Own). own_list turns ++ l) (own-take from page) ∙ append-nil (own_list turns) in
    let C : Own → Type 0 = λ l. CountsEvents counting l in
    let D : Counter → Type 0 = λ k. CountsEvents k (own_list turns) in
    let W : Own → Type 0 = λ l. IsDrawn spent (view_after (geometry (data_of old)) (opening (geometry (data_of old)) (number (data_of old))) l) in
    let S : Spent → Type 0 = λ k. IsDrawn k (turns_view (geometry (data_of old)) (number (data_of old)) (turns ++ (turn.Take from, take_heard page) ∷ [])) in
    let T : Spent → Type 0 = λ k. IsFewDrawn k in
    turn-answered made is_new may_begin shape awaits counts knows left stop data_of whole geometry number old new later next counting tally total spending result turns h.notes (turn.Take from) (take_heard page) same h.is h.ends
    (subst C (sym own) (subst D (sym events) h.events)) (ap (λ (k : Counter). length k.locked.items) events ∙ h.pages)
    (subst S (sym draws) (subst W (sym own) h.drawn)) (subst T (sym draws) h.few)
    (record { counts = None; ends = sums; next = given (h.notes ++ note ∷ []) over.now over.known over.over over.drawn over.due })

-- the routine can go on
pub take-requires : {P M X O : Type 0} (made : P → M) (is_new : P → Type 0) (may_begin : M → Geometry → View → Type 0) (shape : M → Geometry → Own → X → Type 0) (awaits : P → Geometry → View → Own → Action → Type 0) (leaves : M → Geometry → View → X → View → Type 0) (ends : P → Geometry → Own → X → Type 0) (counts : X → Tally) (knows : View → Task M → Type 0) (left : Ended X → Notes → O → Type 0) (stop : O) (whole : Notes → O → Type 0) (g : Geometry) (number : ℕ) (kept : Action) (task : Task P) (counter : Counter) (tally : Tally) (spent : Spent) (page : Option ℕ)
    → HasHeard g number (FollowsRoutine made is_new may_begin shape awaits counts knows left stop whole g number kept task counter tally spent) (take_heard page) → HasTaskOver made shape leaves ends knows g task (ended.Take page) spent
take-requires made is_new may_begin shape awaits leaves ends counts knows left stop whole g number kept task counter tally spent page h =
    take-over made is_new may_begin shape awaits leaves ends counts knows left stop whole g number kept h.agreed.notes page spent task h.last (take-last g (turns_view g number h.turns) h.last page h.answer) h.agreed.at
    (let V : Turns → Type 0 = λ l. IsDrawn spent (turns_view g number l) in subst V h.agreed.is h.agreed.drawn)

-- the turn after it
pub take-turn : {P M X R Q O : Type 0} (made : P → M) (is_new : P → Type 0) (may_begin : M → Geometry → View → Type 0) (shape : M → Geometry → Own → X → Type 0) (awaits : P → Geometry → View → Own → Action → Type 0) (leaves : M → Geometry → View → X → View → Type 0) (ends : P → Geometry → Own → X → Type 0) (counts : X → Tally) (knows : R → View → Task M → Type 0) (left : R → Ended X → Notes → O → Type 0) (stop : R → O) (data_of : R → Q) (whole : Q → Notes → O → Type 0) (geometry : Q → Geometry) (number : Q → ℕ) (old new : R) (kept later : Action) (task next : Task P) (counter counting : Counter) (tally total : Tally) (spent spending : Spent) (result : Turn) (page : Option ℕ)
    → data_of new ≡ data_of old → counting ≡ counter → total ≡ tally → spending ≡ spent
    → ((notes : Notes) (begun : View) → knows old begun (task_data made task) → IsTaskOver made shape leaves ends (geometry (data_of old)) begun (turns_view (geometry (data_of old)) (number (data_of old)) (noted_turns notes)) task (ended.Take page) → IsDrawn spent (turns_view (geometry (data_of old)) (number (data_of old)) (noted_turns notes)) → IsLeft (whole (data_of old)) notes (left old (ended.Take page)) → IsTurnGiven made is_new may_begin shape awaits counts (knows new) (left new) (stop new) (whole (data_of old)) (geometry (data_of old)) (number (data_of old)) later next result notes)
    → (turns : Turns) (last : Option Turn) → FollowsRoutine made is_new may_begin shape awaits counts (knows old) (left old) (stop old) (whole (data_of old)) (geometry (data_of old)) (number (data_of old)) kept task counter tally spent turns last → IsAnswerTo (geometry (data_of old)) (turns_view (geometry (data_of old)) (number (data_of old)) turns) last (take_heard page)
    → IsTurn (geometry (data_of old)) (number (data_of old)) (FollowsRoutine made is_new may_begin shape awaits counts (knows new) (left new) (stop new) (whole (data_of new)) (geometry (data_of new)) (number (data_of new)) later next counting total spending) (answered last (take_heard page) turns) result
take-turn made is_new may_begin shape awaits leaves ends counts knows left stop data_of whole geometry number old new kept later task next counter counting tally total spent spending result page same events sums draws given turns last h answer =
    take-answered made is_new may_begin shape awaits leaves ends counts knows left stop data_of whole geometry number old new kept later task next counter counting tally total spent spending result page same events sums draws given turns last (take-last (geometry (data_of old)) (turns_view (geometry (data_of old)) (number (data_of old)) turns) last page answer) h
