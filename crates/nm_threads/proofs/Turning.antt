-- Turns on a chair, one more.
use Rattle.std.proofs.Common.{◌≡◌, ◌≢◌, ℕ, false, [], ◌∷◌, ◌++◌, refl, sym, ap, ◌∙◌, subst, append_assoc, Option, Some, None}
use Rattle.std.proofs.lemmas.List.{append-nil}
use Rattle.nm_base.specs.Geometry.{Geometry}
use Rattle.nm_action.specs.declared.action.Action.{Action}
use Rattle.nm_action.specs.declared.action.Reply.{Reply}
use Rattle.nm_action.specs.declared.turn.Lane.{Lane}
use Rattle.nm_action.specs.declared.turn.Lane.TheVariants.{Candidates, Pending}
use Rattle.nm_action.specs.declared.turn.Turn.{Turn}
use Rattle.nm_action.specs.declared.turn.Turn.TheVariants.{Do, Put, Take, End}
use Rattle.nm_action.specs.declared.turn.Heard.{Heard}
use Rattle.nm_action.specs.declared.turn.Heard.TheVariants.{Start, Answer, PutDone, PutFull, Took, TookNone}
use Rattle.nm_view.specs.Views.{View}
use Rattle.nm_view.specs.Opening.{opening}
use Rattle.nm_event.specs.After.{view_after}
use Rattle.nm_part.proofs.OwnLemmas.{view-append}
use Rattle.nm_actor.specs.Turns.{Turns, own_turn, own_list, turns_view}
use Rattle.nm_actor.specs.Actors.{IsAnswer, IsAnswerTo, answered, HasHeard, IsTurn, IsPermittedTurn}
use Rattle.nm_actor.specs.Chairs.{ChairState, lane_of, with_lane}
use Rattle.nm_actor.specs.Lanes.{LaneState, IsPagePut, IsFull, IsPageTaken, IsEmpty}
use Rattle.nm_actor.proofs.TurnLists.{own-append}
use Rattle.nm_threads.specs.Driven.{IsActionMade, IsLaneTurn, IsTurnMade, AreMade, IsReady, IsDriving, is_end}

pub made-push : {N : Type 0} (old mid new : ChairState N) (turns : Turns) (turn : Turn) (heard : Heard)
    → AreMade old turns mid → IsTurnMade mid turn heard new → AreMade old (turns ++ (turn, heard) ∷ []) new
made-push {N} old mid new [] turn heard made more =
    let P : ChairState N → Type 0 = λ c. IsTurnMade c turn heard new in
    (new, subst P made more, refl)
made-push old mid new (t ∷ turns) turn heard made more = (made.0, made.1, made-push made.0 mid new turns turn heard made.2 more)

-- by the sort of a turn that was made
pub by-turn : {N : Type 0} (P : Turn → Heard → Type 0) (old new : ChairState N)
    → ((action : Action) (reply : Reply) → IsActionMade action reply old new → P (Do action) (Answer reply))
    → ((lane : Lane) (page : ℕ) → IsLaneTurn lane (IsPagePut page) old new → P (Put lane page) PutDone)
    → ((lane : Lane) (page : ℕ) → IsLaneTurn lane IsFull old new → P (Put lane page) PutFull)
    → ((lane : Lane) (page : ℕ) → IsLaneTurn lane (IsPageTaken page) old new → P (Take lane) (Took page))
    → ((lane : Lane) → IsLaneTurn lane IsEmpty old new → P (Take lane) TookNone)
    → (turn : Turn) (heard : Heard) → IsTurnMade old turn heard new → P turn heard
by-turn P old new act put full took none (Do action) (Answer reply) made = act action reply made
by-turn P old new act put full took none (Put lane page) PutDone made = put lane page made
by-turn P old new act put full took none (Put lane page) PutFull made = full lane page made
by-turn P old new act put full took none (Take lane) (Took page) made = took lane page made
by-turn P old new act put full took none (Take lane) TookNone made = none lane made
by-turn P old new act put full took none (Do action) Start made = elim made [ ]
by-turn P old new act put full took none (Do action) PutDone made = elim made [ ]
by-turn P old new act put full took none (Do action) PutFull made = elim made [ ]
by-turn P old new act put full took none (Do action) (Took page) made = elim made [ ]
by-turn P old new act put full took none (Do action) TookNone made = elim made [ ]
by-turn P old new act put full took none (Put _ page) Start made = elim made [ ]
by-turn P old new act put full took none (Put _ page) (Answer reply) made = elim made [ ]
by-turn P old new act put full took none (Put _ page) (Took _) made = elim made [ ]
by-turn P old new act put full took none (Put _ page) TookNone made = elim made [ ]
by-turn P old new act put full took none (Take _) Start made = elim made [ ]
by-turn P old new act put full took none (Take _) (Answer reply) made = elim made [ ]
by-turn P old new act put full took none (Take _) PutDone made = elim made [ ]
by-turn P old new act put full took none (Take _) PutFull made = elim made [ ]
by-turn P old new act put full took none End heard made = elim made [ ]

-- a turn in a lane keeps what is read off all of a chair but its lanes
lane-kept : {N A : Type 0} (f : ChairState N → A) → ((c : ChairState N) (lane : Lane) (l : LaneState) → f (with_lane lane l c) ≡ f c)
    → (lane : Lane) (said : LaneState → LaneState → Type 0) (old new : ChairState N) → IsLaneTurn lane said old new → f new ≡ f old
lane-kept f kept lane said old new made = ap f made.rest ∙ kept old lane (lane_of lane new)

geometry-kept : {N : Type 0} (c : ChairState N) (lane : Lane) (l : LaneState) → (with_lane lane l c).geometry ≡ c.geometry
geometry-kept c Candidates l = refl
geometry-kept c Pending l = refl

view-kept : {N : Type 0} (c : ChairState N) (lane : Lane) (l : LaneState) → (with_lane lane l c).view ≡ c.view
view-kept c Candidates l = refl
view-kept c Pending l = refl

-- a turn keeps the geometry, and changes the view as its action does
turn-geometry : {N : Type 0} (old new : ChairState N) (turn : Turn) (heard : Heard) → IsTurnMade old turn heard new → new.geometry ≡ old.geometry
turn-geometry {N} old new =
    let f : ChairState N → Geometry = λ c. c.geometry in
    by-turn (λ turn heard. new.geometry ≡ old.geometry) old new
    (λ action reply made. ap f made.is)
    (λ lane page made. lane-kept f geometry-kept lane _ old new made)
    (λ lane page made. lane-kept f geometry-kept lane _ old new made)
    (λ lane page made. lane-kept f geometry-kept lane _ old new made)
    (λ lane made. lane-kept f geometry-kept lane _ old new made)

turn-view : {N : Type 0} (old new : ChairState N) (turn : Turn) (heard : Heard) → IsTurnMade old turn heard new → new.view ≡ view_after old.geometry old.view (own_turn turn heard)
turn-view {N} old new =
    let f : ChairState N → View = λ c. c.view in
    by-turn (λ turn heard. new.view ≡ view_after old.geometry old.view (own_turn turn heard)) old new
    (λ action reply made. ap f made.is)
    (λ lane page made. lane-kept f view-kept lane _ old new made)
    (λ lane page made. lane-kept f view-kept lane _ old new made)
    (λ lane page made. lane-kept f view-kept lane _ old new made)
    (λ lane made. lane-kept f view-kept lane _ old new made)

pub made-geometry : {N : Type 0} (old new : ChairState N) (turns : Turns) → AreMade old turns new → new.geometry ≡ old.geometry
made-geometry old new [] made = ap (λ (c : ChairState _). c.geometry) made
made-geometry old new (t ∷ turns) made = made-geometry made.0 new turns made.2 ∙ turn-geometry old made.0 t.0 t.1 made.1

pub made-view : {N : Type 0} (old new : ChairState N) (turns : Turns) → AreMade old turns new → new.view ≡ view_after old.geometry old.view (own_list turns)
made-view old new [] made = ap (λ (c : ChairState _). c.view) made
made-view old new (t ∷ turns) made =
    made-view made.0 new turns made.2
    ∙ ap (λ g. view_after g made.0.view (own_list turns)) (turn-geometry old made.0 t.0 t.1 made.1)
    ∙ ap (λ v. view_after old.geometry v (own_list turns)) (turn-view old made.0 t.0 t.1 made.1)
    ∙ sym (view-append old.geometry old.view (own_turn t.0 t.1) (own_list turns))

pub turns_view-append : (g : Geometry) (number : ℕ) (before turns : Turns) → turns_view g number (before ++ turns) ≡ view_after g (turns_view g number before) (own_list turns)
turns_view-append g number before turns = ap (λ own. view_after g (opening g number) own) (own-append before turns) ∙ view-append g (opening g number) (own_list before) (own_list turns)

-- the chair's view is the one that the actor's turns led to
pub same-view : {N : Type 0} (g : Geometry) (number : ℕ) (old new : ChairState N) (before turns : Turns) → old.geometry ≡ g → AreMade old turns new
    → old.view ≡ turns_view g number before → new.view ≡ turns_view g number (before ++ turns)
same-view g number old new before turns machine made view =
    made-view old new turns made
    ∙ ap (λ h. view_after h old.view (own_list turns)) machine
    ∙ ap (λ v. view_after g v (own_list turns)) view
    ∙ sym (turns_view-append g number before turns)

-- a turn that was made was answered
turn-answer : {N : Type 0} (old new : ChairState N) (turn : Turn) (heard : Heard) → IsTurnMade old turn heard new → IsAnswer old.geometry old.view turn heard
turn-answer {N} old new =
    by-turn (λ turn heard. IsAnswer old.geometry old.view turn heard) old new
    (λ action reply made. made.fits)
    (λ lane page made. tt)
    (λ lane page made. tt)
    (λ lane page made. tt)
    (λ lane made. tt)

-- Driving.

pub first-heard : {N : Type 0} (g : Geometry) (number : ℕ) (agrees : Turns → Option Turn → Type 0) (chair : ChairState N) → IsReady g number agrees chair → HasHeard g number agrees Start
first-heard g number agrees chair ready = record { turns = ready.before; last = None; agreed = ready.agreed; answer = tt }

pub driving-first : {N : Type 0} (g : Geometry) (number : ℕ) (agrees agrees' : Turns → Option Turn → Type 0) (chair : ChairState N) (turn : Turn)
    → ((turns : Turns) (last : Option Turn) → agrees turns last → IsAnswerTo g (turns_view g number turns) last Start → IsTurn g number agrees' (answered last Start turns) turn)
    → IsDriving g number agrees agrees' chair chair turn
driving-first g number agrees agrees' chair turn next = record {
  turns = [];
  made = refl;
  agreed = λ before agreed view. subst (λ l. IsTurn g number agrees' l turn) (sym (append-nil before)) (next before None agreed tt);
}

pub driving-permits : {N : Type 0} (g : Geometry) (number : ℕ) (agrees agrees' : Turns → Option Turn → Type 0) (old new : ChairState N) (turn : Turn)
    → IsReady g number agrees old → IsDriving g number agrees agrees' old new turn → IsPermittedTurn new.geometry new.view turn
driving-permits {N} g number agrees agrees' old new turn ready d =
    let machine : new.geometry ≡ g = made-geometry old new d.turns d.made ∙ ready.machine in
    let view : new.view ≡ turns_view g number (ready.before ++ d.turns) = same-view g number old new ready.before d.turns ready.machine d.made ready.view in
    let permitted = (d.agreed ready.before ready.agreed ready.view).permitted in
    let P : Geometry → Type 0 = λ h. IsPermittedTurn h new.view turn in
    let Q : View → Type 0 = λ v. IsPermittedTurn g v turn in
    subst P (sym machine) (subst Q (sym view) permitted)

answer-seen : {N : Type 0} (g : Geometry) (number : ℕ) (agrees : Turns → Option Turn → Type 0) (old mid new : ChairState N) (before turns : Turns) (turn : Turn) (heard : Heard)
    → old.geometry ≡ g → old.view ≡ turns_view g number before → AreMade old turns mid → IsTurnMade mid turn heard new → IsAnswerTo g (turns_view g number (before ++ turns)) (Some turn) heard
answer-seen {N} g number agrees old mid new before turns turn heard machine view made more =
    let P : Geometry → Type 0 = λ h. IsAnswer h mid.view turn heard in
    let Q : View → Type 0 = λ v. IsAnswer g v turn heard in
    subst Q (same-view g number old mid before turns machine made view) (subst P (made-geometry old mid turns made ∙ machine) (turn-answer mid new turn heard more))

pub driving-heard : {N : Type 0} (g : Geometry) (number : ℕ) (agrees agrees' : Turns → Option Turn → Type 0) (old mid new : ChairState N) (turn : Turn) (heard : Heard)
    → IsReady g number agrees old → IsDriving g number agrees agrees' old mid turn → IsTurnMade mid turn heard new → HasHeard g number agrees' heard
driving-heard g number agrees agrees' old mid new turn heard ready d more = record {
  turns = ready.before ++ d.turns;
  last = Some turn;
  agreed = (d.agreed ready.before ready.agreed ready.view).agreed;
  answer = answer-seen g number agrees old mid new ready.before d.turns turn heard ready.machine ready.view d.made more;
}

pub driving-more : {N : Type 0} (g : Geometry) (number : ℕ) (agrees now next : Turns → Option Turn → Type 0) (old mid new : ChairState N) (turn turn' : Turn) (heard : Heard)
    → IsReady g number agrees old → IsDriving g number agrees now old mid turn → IsTurnMade mid turn heard new
    → ((turns : Turns) (last : Option Turn) → now turns last → IsAnswerTo g (turns_view g number turns) last heard → IsTurn g number next (answered last heard turns) turn')
    → IsDriving g number agrees next old new turn'
driving-more g number agrees now next old mid new turn turn' heard ready d more step = record {
  turns = d.turns ++ (turn, heard) ∷ [];
  made = made-push old mid new d.turns turn heard d.made more;
  agreed = λ before agreed view. subst (λ l. IsTurn g number next l turn') (append_assoc before d.turns ((turn, heard) ∷ []))
      (step (before ++ d.turns) (Some turn) (d.agreed before agreed view).agreed (answer-seen g number agrees old mid new before d.turns turn heard ready.machine view d.made more));
}

-- What the actor was made with stays the same.

abbrev GivesNext : {M : Type 0} → (M → Geometry) → (M → ℕ) → (Turns → Option Turn → Type 0) → (Turns → Option Turn → Type 0) → Heard → Turn → M → Type 0
GivesNext geometry number now next heard turn m = (turns : Turns) (last : Option Turn) → now turns last → IsAnswerTo (geometry m) (turns_view (geometry m) (number m) turns) last heard → IsTurn (geometry m) (number m) next (answered last heard turns) turn

pub heard-at : {M N : Type 0} (geometry : M → Geometry) (number : M → ℕ) (agrees agrees' : Turns → Option Turn → Type 0) (m made : M) (old mid new : ChairState N) (turn : Turn) (heard : Heard)
    → m ≡ made → IsReady (geometry made) (number made) agrees old → IsDriving (geometry made) (number made) agrees agrees' old mid turn → IsTurnMade mid turn heard new
    → HasHeard (geometry m) (number m) agrees' heard
heard-at {M} geometry number agrees agrees' m made old mid new turn heard same ready d more =
    let P : M → Type 0 = λ k. HasHeard (geometry k) (number k) agrees' heard in
    subst P (sym same) (driving-heard (geometry made) (number made) agrees agrees' old mid new turn heard ready d more)

pub more-at : {M N : Type 0} (geometry : M → Geometry) (number : M → ℕ) (agrees now next : Turns → Option Turn → Type 0) (m made : M) (old mid new : ChairState N) (turn turn' : Turn) (heard : Heard)
    → m ≡ made → IsReady (geometry made) (number made) agrees old → IsDriving (geometry made) (number made) agrees now old mid turn → IsTurnMade mid turn heard new
    → GivesNext geometry number now next heard turn' m
    → IsDriving (geometry made) (number made) agrees next old new turn'
more-at geometry number agrees now next m made old mid new turn turn' heard same ready d more step =
    driving-more (geometry made) (number made) agrees now next old mid new turn turn' heard ready d more (subst (GivesNext geometry number now next heard turn') same step)

pub not-end : (turn : Turn) → turn ≢ End → is_end turn ≡ false
not-end (Do action) ne = refl
not-end (Put lane page) ne = refl
not-end (Take lane) ne = refl
not-end End ne = elim (ne refl) [ ]
