-- Two runs of a schedule, turn by turn.
use Rattle.std.proofs.Common.{◌≡◌, ◌≢◌, ℕ, ◌==◌, ◌||◌, ◌&&◌, ◌<◌, ◌⊎◌, inl, inr, Bool, true, false, cond, List, [], ◌∷◌, ◌++◌, length, map, Option, Some, None, refl, sym, ap, subst, ◌∙◌, arith, append_assoc, append-nil}
use Rattle.std.specs.List.{cons_option, filter, list_any}
use Rattle.std.proofs.lemmas.Bool.{eq-eqb, ne_eqb}
use Rattle.std.proofs.lemmas.List.{map-append}
use Rattle.std.proofs.lemmas.List.Elements.{filter-append}
use Rattle.std.proofs.lemmas.List.Folds.{list_any-append}
use Rattle.nm_base.specs.Geometry.{Geometry}
use Rattle.nm_action.specs.declared.action.Event.{Event}
use Rattle.nm_action.specs.declared.turn.Turn.{Turn}
use Rattle.nm_action.specs.declared.turn.Heard.{Heard}
use Rattle.nm_view.specs.Opening.{IsActor}
use Rattle.nm_core.specs.State.{State, actor_count, start}
use Rattle.nm_core.specs.Runs.{IsRunFrom, after_event}
use Rattle.nm_actor.specs.Turns.{Turns}
use Rattle.nm_script.specs.declared.schedule.Schedule.{Schedule}
use Rattle.nm_schedule.specs.declared.turn.Played.{Played}
use Rattle.nm_schedule.specs.Played.{active_actors, answered_turn, event_of, events_of, has_ended, is_end_of, is_of, turns_by}
use Rattle.nm_schedule.specs.Lanes.{IsLaneAnswer}
use Rattle.nm_schedule.specs.Picks.{most_turns}
use Rattle.nm_schedule.specs.Scheduled.{AreTurns}
use Rattle.nm_schedule.proofs.Actives.{is-among}
use Rattle.nm_one_run.specs.Single.{IsRunBy, LeaveNoChoice}
use Rattle.nm_one_run.proofs.Answering.{IsReplied, one_answer, replied}
use Rattle.nm_one_run.proofs.Picking.{picks_once}

-- ---- the turns of an actor, and whether it has ended

turns_append : (actor : ℕ) (xs ys : List Played) → turns_by actor (xs ++ ys) ≡ turns_by actor xs ++ turns_by actor ys
turns_append actor xs ys = ap (map answered_turn) (filter-append (is_of actor) xs ys) ∙ map-append answered_turn (filter (is_of actor) xs) (filter (is_of actor) ys)

turns_if : (actor : ℕ) (p : Played) (rest : List Played) (b : Bool) → (p.actor == actor) ≡ b → turns_by actor (p ∷ rest) ≡ map answered_turn (cond b (p ∷ filter (is_of actor) rest) (filter (is_of actor) rest))
turns_if actor p rest b e = ap (λ (c : Bool). map answered_turn (cond c (p ∷ filter (is_of actor) rest) (filter (is_of actor) rest))) e

turns_whole : (whole front rest : List Played) (p : Played) → whole ≡ front ++ p ∷ rest → turns_by p.actor whole ≡ turns_by p.actor front ++ (p.turn, p.heard) ∷ turns_by p.actor rest
turns_whole whole front rest p is =
    ap (turns_by p.actor) is ∙ turns_append p.actor front (p ∷ rest) ∙ ap (λ (t : Turns). turns_by p.actor front ++ t) (turns_if p.actor p rest true (eq-eqb p.actor p.actor refl))

ended_append : (xs ys : List Played) (actor : ℕ) → has_ended (xs ++ ys) actor ≡ (has_ended xs actor || has_ended ys actor)
ended_append xs ys actor = list_any-append (is_end_of actor) xs ys

ended_if : (actor : ℕ) (p : Played) (rest : List Played) (b e : Bool) → (p.actor == actor) ≡ b → p.ended ≡ e → has_ended (p ∷ rest) actor ≡ ((b && e) || has_ended rest actor)
ended_if actor p rest b e is ended =
    ap (λ (c : Bool). (c && p.ended) || has_ended rest actor) is ∙ ap (λ (c : Bool). (b && c) || has_ended rest actor) ended

-- after turns in which an actor had not ended
ended_behind : (front rest : List Played) (actor : ℕ) → has_ended front actor ≡ false → has_ended (front ++ rest) actor ≡ has_ended rest actor
ended_behind front rest actor active = ended_append front rest actor ∙ ap (λ (b : Bool). b || has_ended rest actor) active

-- who has ended makes no turn
none_after : (g : Geometry) (schedule : Schedule) (before p : List Played) (actor : ℕ) → AreTurns g schedule before p → has_ended before actor ≡ true → turns_by actor p ≡ []
none_after g schedule before [] actor turns ended = refl
none_after g schedule before (x ∷ p) actor turns ended =
    let other : x.actor ≢ actor = λ e. let bad : false ≡ true = sym turns.0.active ∙ ap (has_ended before) e ∙ ended in cc bad in
    let more : has_ended (before ++ x ∷ []) actor ≡ true = ended_append before (x ∷ []) actor ∙ ap (λ (b : Bool). b || has_ended (x ∷ []) actor) ended in
    turns_if actor x p false (ne_eqb x.actor actor other) ∙ none_after g schedule (before ++ x ∷ []) p actor turns.1 more

none_ended_by : (x : Played) (p : List Played) (actor : ℕ) (b : Bool) → (x.actor == actor) ≡ b → turns_by actor (x ∷ p) ≡ [] → (turns_by actor p ≡ [] → has_ended p actor ≡ false) → has_ended (x ∷ p) actor ≡ false
none_ended_by x p actor true e none rest =
    let bad : length (turns_by actor (x ∷ p)) ≡ 0 = ap length none in
    let some = ap length (turns_if actor x p true e) in absurd (omega (arith, bad, some))
none_ended_by x p actor false e none rest = ended_if actor x p false x.ended e refl ∙ rest (sym (turns_if actor x p false e) ∙ none)

none_ended : (p : List Played) (actor : ℕ) → turns_by actor p ≡ [] → has_ended p actor ≡ false
none_ended [] actor none = refl
none_ended (x ∷ p) actor none = none_ended_by x p actor (x.actor == actor) refl none (none_ended p actor)

-- ---- a run from a turn on

abbrev after_option : State → Option Event → State
after_option s None = s
after_option s (Some e) = after_event s e

run_tail : (s : State) (x : Option Event) (rest : List Event) → IsRunFrom s (cons_option x rest) → IsRunFrom (after_option s x) rest
run_tail s None rest run = run
run_tail s (Some e) rest run = run.1

-- a run whose turns are `front` and then `rest`, with the state between the two
record IsRest (g : Geometry) (schedule : Schedule) (part : ℕ → Turns → Bool → Type 0) (whole front rest : List Played) (s : State) : Type 0 where
  is : whole ≡ front ++ rest
  turns : AreTurns g schedule front rest
  run : IsRunFrom s (events_of rest)
  stops : (active_actors (actor_count g) whole ≡ []) ⊎ (length whole ≡ most_turns schedule)
  parts : (actor : ℕ) → IsActor g actor → part actor (turns_by actor whole) (has_ended whole actor)

rest_more : (g : Geometry) (schedule : Schedule) (part : ℕ → Turns → Bool → Type 0) (whole front rest : List Played) (a : Played) (s : State) → IsRest g schedule part whole front (a ∷ rest) s
    → IsRest g schedule part whole (front ++ a ∷ []) rest (after_option s (event_of a))
rest_more g schedule part whole front rest a s h = record {
  is = h.is ∙ sym (append_assoc front (a ∷ []) rest);
  turns = h.turns.1;
  run = run_tail s (event_of a) (events_of rest) h.run;
  stops = h.stops;
  parts = h.parts;
}

-- a run that has come to its end has no turn more
stops_by : (g : Geometry) (schedule : Schedule) (front : List Played) (b : Played) → IsActor g b.actor → has_ended front b.actor ≡ false → length front < most_turns schedule
    → (active_actors (actor_count g) front ≡ []) ⊎ (length front ≡ most_turns schedule) → ⊥
stops_by g schedule front b there active early (inl none) =
    let among : list_any (λ y. y == b.actor) (active_actors (actor_count g) front) ≡ true = is-among (actor_count g) front b.actor there active in
    let bad : false ≡ true = sym (ap (list_any (λ y. y == b.actor)) none) ∙ among in cc bad
stops_by g schedule front b there active early (inr full) = absurd (omega (arith, early, full))

no_more : (g : Geometry) (schedule : Schedule) (part : ℕ → Turns → Bool → Type 0) (whole other front rest : List Played) (b : Played) (s : State) → IsRest g schedule part whole front [] s
    → IsRest g schedule part other front (b ∷ rest) s → ⊥
no_more g schedule part whole other front rest b s h k =
    let turn = k.turns.0 in
    let end : (active_actors (actor_count g) front ≡ []) ⊎ (length front ≡ most_turns schedule) = subst (λ (l : List Played). (active_actors (actor_count g) l ≡ []) ⊎ (length l ≡ most_turns schedule)) (h.is ∙ append-nil front) h.stops in
    stops_by g schedule front b turn.exists turn.active turn.early end

-- what is said of the actor of the next turn
part_at : (g : Geometry) (schedule : Schedule) (part : ℕ → Turns → Bool → Type 0) (whole front rest : List Played) (b : Played) (s : State) (actor : ℕ) → IsRest g schedule part whole front (b ∷ rest) s
    → b.actor ≡ actor → part actor (turns_by actor front ++ (b.turn, b.heard) ∷ turns_by actor rest) (has_ended whole actor)
part_at g schedule part whole front rest b s actor h same =
    let own : part b.actor (turns_by b.actor front ++ (b.turn, b.heard) ∷ turns_by b.actor rest) (has_ended whole b.actor) = subst (λ (t : Turns). part b.actor t (has_ended whole b.actor)) (turns_whole whole front rest b h.is) (h.parts b.actor h.turns.0.exists) in
    subst (λ n. part n (turns_by n front ++ (b.turn, b.heard) ∷ turns_by n rest) (has_ended whole n)) same own

-- an actor that has ended after a turn makes none after it, and that is known of its turns
ends_by : (part : ℕ → Turns → Bool → Type 0) (actor : ℕ) (turns : Turns) (t : Turn × Heard) (more : Turns) (e : Bool) → LeaveNoChoice part → part actor (turns ++ t ∷ []) true → part actor (turns ++ t ∷ more) e
    → (more ≡ [] → e ≡ false) → ⊥
ends_by part actor turns t [] e choice first second none =
    let bad : true ≡ false = choice.same actor (turns ++ t ∷ []) true e first second ∙ none refl in cc bad
ends_by part actor turns t (u ∷ more) e choice first second none =
    choice.ends actor (turns ++ t ∷ []) u more e first (subst (λ (l : Turns). part actor l e) (sym (append_assoc turns (t ∷ []) (u ∷ more))) second)

-- of two runs with the same turn one can't end the actor alone
ends_alone : (g : Geometry) (schedule : Schedule) (part : ℕ → Turns → Bool → Type 0) (whole other front p q : List Played) (a b : Played) (s : State) → LeaveNoChoice part
    → IsRest g schedule part whole front (a ∷ p) s → IsRest g schedule part other front (b ∷ q) s → b.actor ≡ a.actor → b.turn ≡ a.turn → b.heard ≡ a.heard → a.ended ≡ true → b.ended ≡ false → ⊥
ends_alone g schedule part whole other front p q a b s choice h k same turn heard ended unended =
    let n = a.actor in
    let active : has_ended front n ≡ false = h.turns.0.active in
    let after : has_ended (front ++ a ∷ []) n ≡ true = ended_behind front (a ∷ []) n active ∙ ended_if n a [] true true (eq-eqb n n refl) ended in
    let last : turns_by n p ≡ [] = none_after g schedule (front ++ a ∷ []) p n h.turns.1 after in
    let over : has_ended whole n ≡ true = ap (λ (l : List Played). has_ended l n) h.is ∙ ended_behind front (a ∷ p) n active ∙ ended_if n a p true true (eq-eqb n n refl) ended in
    let first : part n (turns_by n front ++ (a.turn, a.heard) ∷ []) true = subst (λ (e : Bool). part n (turns_by n front ++ (a.turn, a.heard) ∷ []) e) over (subst (λ (t : Turns). part n (turns_by n front ++ (a.turn, a.heard) ∷ t) (has_ended whole n)) last (part_at g schedule part whole front p a s n h refl)) in
    let second : part n (turns_by n front ++ (a.turn, a.heard) ∷ turns_by n q) (has_ended other n) = subst (λ (t : Turn). part n (turns_by n front ++ (t, a.heard) ∷ turns_by n q) (has_ended other n)) turn (subst (λ (x : Heard). part n (turns_by n front ++ (b.turn, x) ∷ turns_by n q) (has_ended other n)) heard (part_at g schedule part other front q b s n k same)) in
    ends_by part n (turns_by n front) (a.turn, a.heard) (turns_by n q) (has_ended other n) choice first second
    (λ none. ap (λ (l : List Played). has_ended l n) k.is ∙ ended_behind front (b ∷ q) n active ∙ ended_if n b q true false (eq-eqb b.actor n same) unended ∙ none_ended q n none)

ended_same : (x y : Bool) → (x ≡ true → y ≡ false → ⊥) → (y ≡ true → x ≡ false → ⊥) → x ≡ y
ended_same true true h k = refl
ended_same true false h k = absurd (h refl refl)
ended_same false true h k = absurd (k refl refl)
ended_same false false h k = refl

played_same : (a b : Played) → a.actor ≡ b.actor → a.turn ≡ b.turn → a.heard ≡ b.heard → a.ended ≡ b.ended → a ≡ b
played_same a b p q r t = λ i. record { actor = p i; turn = q i; heard = r i; ended = t i }

-- the next turns of two runs are the same
turn_same : (g : Geometry) (schedule : Schedule) (part : ℕ → Turns → Bool → Type 0) (whole other front p q : List Played) (a b : Played) (s : State) → LeaveNoChoice part
    → IsRest g schedule part whole front (a ∷ p) s → IsRest g schedule part other front (b ∷ q) s → a ≡ b
turn_same g schedule part whole other front p q a b s choice h k =
    let actor : a.actor ≡ b.actor = picks_once schedule (actor_count g) front a.actor b.actor h.turns.0.picked k.turns.0.picked in
    let turn : a.turn ≡ b.turn = choice.next a.actor (turns_by a.actor front) (turns_by a.actor p) (turns_by a.actor q) (a.turn, a.heard) (b.turn, b.heard) (has_ended whole a.actor) (has_ended other a.actor) (part_at g schedule part whole front p a s a.actor h refl) (part_at g schedule part other front q b s a.actor k (sym actor)) in
    let lanes : IsLaneAnswer g front a.turn b.heard = subst (λ (t : Turn). IsLaneAnswer g front t b.heard) (sym turn) k.turns.0.lanes in
    let made : IsReplied s a.actor a.turn b.heard = subst (λ (t : Turn). IsReplied s a.actor t b.heard) (sym turn) (subst (λ n. IsReplied s n b.turn b.heard) (sym actor) (replied s b.actor b.turn b.heard (events_of q) k.run)) in
    let heard : a.heard ≡ b.heard = one_answer g s front a.actor a.turn a.heard b.heard h.turns.0.lanes lanes (replied s a.actor a.turn a.heard (events_of p) h.run) made in
    let ended : a.ended ≡ b.ended = ended_same a.ended b.ended (ends_alone g schedule part whole other front p q a b s choice h k (sym actor) (sym turn) (sym heard)) (ends_alone g schedule part other whole front q p b a s choice k h actor turn heard) in
    played_same a b actor turn heard ended

same_from : (g : Geometry) (schedule : Schedule) (part : ℕ → Turns → Bool → Type 0) (whole other front p q : List Played) (s : State) → LeaveNoChoice part → IsRest g schedule part whole front p s
    → IsRest g schedule part other front q s → p ≡ q
same_from g schedule part whole other front [] [] s choice h k = refl
same_from g schedule part whole other front [] (b ∷ q) s choice h k = absurd (no_more g schedule part whole other front q b s h k)
same_from g schedule part whole other front (a ∷ p) [] s choice h k = absurd (no_more g schedule part other whole front p a s k h)
same_from g schedule part whole other front (a ∷ p) (b ∷ q) s choice h k =
    let same : a ≡ b = turn_same g schedule part whole other front p q a b s choice h k in
    let there : IsRest g schedule part other front (a ∷ q) s = subst (λ (x : Played). IsRest g schedule part other front (x ∷ q) s) (sym same) k in
    let rest : p ≡ q = same_from g schedule part whole other (front ++ a ∷ []) p q (after_option s (event_of a)) choice (rest_more g schedule part whole front p a s h) (rest_more g schedule part other front q a s there) in
    λ i. same i ∷ rest i

begins : (g : Geometry) (schedule : Schedule) (part : ℕ → Turns → Bool → Type 0) (p : List Played) → IsRunBy g schedule part p → IsRest g schedule part p [] p (start g)
begins g schedule part p h = record { is = refl; turns = h.scheduled.turns; run = h.run; stops = h.scheduled.stops; parts = h.parts }

-- two runs of a schedule are the same
pub one_run : (g : Geometry) (schedule : Schedule) (part : ℕ → Turns → Bool → Type 0) (p q : List Played) → LeaveNoChoice part → IsRunBy g schedule part p → IsRunBy g schedule part q → p ≡ q
one_run g schedule part p q choice h k = same_from g schedule part p q [] p q (start g) choice (begins g schedule part p h) (begins g schedule part q k)
