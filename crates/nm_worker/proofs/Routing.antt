-- For routines: the patterns of tasks have lists, and what follows a task follows its piece of work, its put or its take.
use Rattle.std.proofs.Common.{ℕ, Bool, [], ◌∷◌, ◌++◌, Option, None, refl}
use Rattle.nm_base.specs.Geometry.{Geometry}
use Rattle.nm_action.specs.declared.tally.Tally.{Tally}
use Rattle.nm_action.specs.declared.turn.Lane.{Lane}
use Rattle.nm_action.specs.declared.turn.Turn.TheVariants as turn
use Rattle.nm_action.specs.Own.{Own}
use Rattle.nm_part.specs.Patterns.{Follows, CanEnd}
use Rattle.nm_compose.specs.declared.or.Or.{Or}
use Rattle.nm_compose.specs.declared.or.Or.TheVariants.{This, Other}
use Rattle.nm_compose.specs.Choices.{IsOr}
use Rattle.nm_worker.specs.declared.routine.Task.TheVariants.{Run, Put, Take}
use Rattle.nm_worker.specs.declared.routine.Ended.{Ended}
use Rattle.nm_worker.specs.declared.routine.Ended.TheVariants as ended
use Rattle.nm_worker.specs.Notes.{Notes, worked, put_heard, take_heard, IsWorkDone, IsPut, IsTake, IsTask}

-- Lists of tasks.

pub some-work : {M X : Type 0} (shape : M → Geometry → Own → X → Type 0) (counts : X → Tally) (work : M) (g : Geometry) → CanEnd (shape work g) → CanEnd (IsWorkDone shape counts work g)
some-work shape counts work g can = record {
  rest = worked (counts can.outcome) can.rest;
  outcome = can.outcome;
  shown = record { own = can.rest; shown = can.shown; is = refl };
}

pub some-put : (lane : Lane) (page : ℕ) (full : Bool) → CanEnd (IsPut lane page)
some-put lane page full = record { rest = record { turn = turn.Put lane page; heard = put_heard full; counts = None } ∷ []; outcome = full; shown = record { is = refl } }

pub some-take : (lane : Lane) (page : Option ℕ) → CanEnd (IsTake lane)
some-take lane page = record { rest = record { turn = turn.Take lane; heard = take_heard page; counts = None } ∷ []; outcome = page; shown = record { is = refl } }

-- What follows a task.

run-ends : {M X O : Type 0} (shape : M → Geometry → Own → X → Type 0) (counts : X → Tally) (g : Geometry) (work : M) (left : Ended X → Notes → O → Type 0) (end : Ended X) (front back : Notes) (outcome : O)
    → IsTask shape counts g (Run work) front end → left end back outcome → Follows (IsWorkDone shape counts work g) (λ x. left (ended.Run x)) (front ++ back) outcome
run-ends shape counts g work left (ended.Run x) front back outcome shown rest = record { end = x; front = front; back = back; shown = shown; rest = rest; is = refl }
run-ends shape counts g work left (ended.Put full) front back outcome shown rest = absurd shown
run-ends shape counts g work left (ended.Take page) front back outcome shown rest = absurd shown

pub run-follows : {M X O : Type 0} (shape : M → Geometry → Own → X → Type 0) (counts : X → Tally) (g : Geometry) (work : M) (left : Ended X → Notes → O → Type 0) (notes : Notes) (outcome : O)
    → Follows (IsTask shape counts g (Run work)) left notes outcome → Follows (IsWorkDone shape counts work g) (λ x. left (ended.Run x)) notes outcome
run-follows shape counts g work left notes outcome h = rw h.is (run-ends shape counts g work left h.end h.front h.back outcome h.shown h.rest)

put-ends : {M X O : Type 0} (shape : M → Geometry → Own → X → Type 0) (counts : X → Tally) (g : Geometry) (lane : Lane) (page : ℕ) (left : Ended X → Notes → O → Type 0) (end : Ended X) (front back : Notes) (outcome : O)
    → IsTask shape counts g (Put lane page) front end → left end back outcome → Follows (IsPut lane page) (λ full. left (ended.Put full)) (front ++ back) outcome
put-ends shape counts g lane page left (ended.Run x) front back outcome shown rest = absurd shown
put-ends shape counts g lane page left (ended.Put full) front back outcome shown rest = record { end = full; front = front; back = back; shown = shown; rest = rest; is = refl }
put-ends shape counts g lane page left (ended.Take b) front back outcome shown rest = absurd shown

pub put-follows : {M X O : Type 0} (shape : M → Geometry → Own → X → Type 0) (counts : X → Tally) (g : Geometry) (lane : Lane) (page : ℕ) (left : Ended X → Notes → O → Type 0) (notes : Notes) (outcome : O)
    → Follows (IsTask shape counts g (Put lane page)) left notes outcome → Follows (IsPut lane page) (λ full. left (ended.Put full)) notes outcome
put-follows shape counts g lane page left notes outcome h = rw h.is (put-ends shape counts g lane page left h.end h.front h.back outcome h.shown h.rest)

take-ends : {M X O : Type 0} (shape : M → Geometry → Own → X → Type 0) (counts : X → Tally) (g : Geometry) (lane : Lane) (left : Ended X → Notes → O → Type 0) (end : Ended X) (front back : Notes) (outcome : O)
    → IsTask shape counts g (Take lane) front end → left end back outcome → Follows (IsTake lane) (λ page. left (ended.Take page)) (front ++ back) outcome
take-ends shape counts g lane left (ended.Run x) front back outcome shown rest = absurd shown
take-ends shape counts g lane left (ended.Put full) front back outcome shown rest = absurd shown
take-ends shape counts g lane left (ended.Take page) front back outcome shown rest = record { end = page; front = front; back = back; shown = shown; rest = rest; is = refl }

pub take-follows : {M X O : Type 0} (shape : M → Geometry → Own → X → Type 0) (counts : X → Tally) (g : Geometry) (lane : Lane) (left : Ended X → Notes → O → Type 0) (notes : Notes) (outcome : O)
    → Follows (IsTask shape counts g (Take lane)) left notes outcome → Follows (IsTake lane) (λ page. left (ended.Take page)) notes outcome
take-follows shape counts g lane left notes outcome h = rw h.is (take-ends shape counts g lane left h.end h.front h.back outcome h.shown h.rest)

-- What follows a piece of work that was chosen from two kinds.

this-work-ends : {M N X Y O : Type 0} (shape_a : M → Geometry → Own → X → Type 0) (shape_b : N → Geometry → Own → Y → Type 0) (counts : Or X Y → Tally) (m : M) (g : Geometry) (left : Or X Y → Notes → O → Type 0) (end : Or X Y) (own : Own) (back : Notes) (outcome : O)
    → IsOr shape_a shape_b (This m) g own end → left end back outcome → Follows (IsWorkDone shape_a (λ x. counts (This x)) m g) (λ x. left (This x)) (worked (counts end) own ++ back) outcome
this-work-ends shape_a shape_b counts m g left (This x) own back outcome shown rest = record { end = x; front = worked (counts (This x)) own; back = back; shown = record { own = own; shown = shown; is = refl }; rest = rest; is = refl }
this-work-ends shape_a shape_b counts m g left (Other y) own back outcome shown rest = absurd shown

pub this-work : {M N X Y O : Type 0} (shape_a : M → Geometry → Own → X → Type 0) (shape_b : N → Geometry → Own → Y → Type 0) (counts : Or X Y → Tally) (m : M) (g : Geometry) (left : Or X Y → Notes → O → Type 0) (notes : Notes) (outcome : O)
    → Follows (IsWorkDone (IsOr shape_a shape_b) counts (This m) g) left notes outcome → Follows (IsWorkDone shape_a (λ x. counts (This x)) m g) (λ x. left (This x)) notes outcome
this-work shape_a shape_b counts m g left notes outcome h = rw (h.is, h.shown.is) (this-work-ends shape_a shape_b counts m g left h.end h.shown.own h.back outcome h.shown.shown h.rest)

other-work-ends : {M N X Y O : Type 0} (shape_a : M → Geometry → Own → X → Type 0) (shape_b : N → Geometry → Own → Y → Type 0) (counts : Or X Y → Tally) (n : N) (g : Geometry) (left : Or X Y → Notes → O → Type 0) (end : Or X Y) (own : Own) (back : Notes) (outcome : O)
    → IsOr shape_a shape_b (Other n) g own end → left end back outcome → Follows (IsWorkDone shape_b (λ y. counts (Other y)) n g) (λ y. left (Other y)) (worked (counts end) own ++ back) outcome
other-work-ends shape_a shape_b counts n g left (This x) own back outcome shown rest = absurd shown
other-work-ends shape_a shape_b counts n g left (Other y) own back outcome shown rest = record { end = y; front = worked (counts (Other y)) own; back = back; shown = record { own = own; shown = shown; is = refl }; rest = rest; is = refl }

pub other-work : {M N X Y O : Type 0} (shape_a : M → Geometry → Own → X → Type 0) (shape_b : N → Geometry → Own → Y → Type 0) (counts : Or X Y → Tally) (n : N) (g : Geometry) (left : Or X Y → Notes → O → Type 0) (notes : Notes) (outcome : O)
    → Follows (IsWorkDone (IsOr shape_a shape_b) counts (Other n) g) left notes outcome → Follows (IsWorkDone shape_b (λ y. counts (Other y)) n g) (λ y. left (Other y)) notes outcome
other-work shape_a shape_b counts n g left notes outcome h = rw (h.is, h.shown.is) (other-work-ends shape_a shape_b counts n g left h.end h.shown.own h.back outcome h.shown.shown h.rest)
