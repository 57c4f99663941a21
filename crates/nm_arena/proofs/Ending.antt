-- The end of a running machine: the state that its words and views are, and the own lists that make it.
use Rattle.std.proofs.Common.{◌≡◌, ◌≢◌, ℕ, ◌+◌, ◌<◌, ◌≤◌, ◌==◌, if◌then◌else◌, Bool, true, false, List, [], ◌∷◌, ◌++◌, length, map, take, get_or, Option, Some, None, refl, sym, ap, subst, ◌∙◌, inl, inr, arith}
use Rattle.std.specs.Prelude.{IsSomeAnd}
use Rattle.std.proofs.lemmas.Bool.{cases_lt, ne_eqb}
use Rattle.std.proofs.lemmas.List.{length-map, get_or-map, get_or_past, take_more, take_all}
use Rattle.std.proofs.Math.ListN as seq
use mathlib.Core.List.{IsPrefix}
use Rattle.atomic_table.specs.Seated.{TableId}
use Rattle.atomic_table.specs.Table.{Final, Seen}
use Rattle.nm_base.specs.Geometry.{Geometry, IsGeometry}
use Rattle.nm_action.specs.Own.{Own, own_of, IsMerge}
use Rattle.nm_action.specs.declared.action.Action.{Action}
use Rattle.nm_action.specs.declared.action.Event.{Event}
use Rattle.nm_action.specs.declared.action.Reply.{Reply}
use Rattle.nm_view.specs.Views.{View}
use Rattle.nm_view.specs.Opening.{opening, IsActor}
use Rattle.nm_words.specs.Words.{Words, HasSizes}
use Rattle.nm_words.specs.Flat.{flat}
use Rattle.nm_core.specs.EndWords.{EndWords, IsEndOf}
use Rattle.nm_core.specs.Kept.{IsKept}
use Rattle.nm_core.specs.Runs.{IsRun, IsRunFrom, after_event, state_after}
use Rattle.nm_core.specs.State.{State, state_of, actor_count, start}
use Rattle.nm_runs.proofs.EachRun.{IsLawful, lawful_run}
use Rattle.nm_rule.specs.declared.known.Progress.{Progress}
use Rattle.nm_rule.specs.declared.known.ActorSeat.{ActorSeat}
use Rattle.nm_rule.specs.declared.known.ActorSeat.TheVariants.{Unsplit, Out, Back}
use Rattle.nm_rule.specs.declared.known.Knowledge.{Knowledge}
use Rattle.nm_rule.specs.Knows.{no_geometry, seat_of, progress_by}
use Rattle.nm_rule.specs.Shows.{IsProgress, Shows}
use Rattle.nm_rule.specs.Stands.{IsEnd}
use Rattle.nm_rule.proofs.Shared.{ends}
use Rattle.nm_arena.specs.declared.seat.Held.TheVariants.{First}
use Rattle.nm_arena.specs.Faces.{SeatFace}
use Rattle.nm_arena.specs.Mirrors.{own_by, view_in, seat_face}
use Rattle.nm_arena.specs.Seats.{IsSplitOut}
use Rattle.nm_arena.specs.Ends.{own_lists, IsEndOfRun}
use Rattle.nm_arena.specs.Views.{views_in}
use Rattle.nm_arena.proofs.Flats.{same_at_each, words_same}

-- Own lists.

drop_if : (b : Bool) (p : Action × Reply) (xs : Own) → b ≡ false → xs ≡ [] → (if b then p ∷ xs else xs) ≡ []
drop_if true p xs e none = absurd (cc)
drop_if false p xs e none = none

-- a number of no actor has no event in a run
own_none : (s : State) (events : List Event) (actor : ℕ) → IsRunFrom s events → actor_count s.geometry ≤ actor → own_of actor events ≡ []
own_none s [] actor run past = refl
own_none s (e ∷ events) actor run past =
    let there : e.actor < s.geometry.cpus + 2 = run.0.actor in
    let away : e.actor ≢ actor = λ same. omega (arith, there, past, same) in
    drop_if (e.actor == actor) (e.action, e.reply) (own_of actor events) (ne_eqb e.actor actor away) (own_none (after_event s e) events actor run.1 past)

-- an actor whose seat is not out is known to have come some way
known_in : (seat : ActorSeat) → ¬ IsSplitOut seat → (p : Progress) × (progress_by seat ≡ Some p)
known_in (Unsplit p) not = (p, refl)
known_in Out not = absurd (not tt)
known_in (Back p) not = (p, refl)

view_known : (seat : ActorSeat) (p : Progress) → progress_by seat ≡ Some p → view_in seat ≡ Some p.view
view_known (Unsplit q) p is = let e : q ≡ p = cc in ap (λ x. Some x.view) e
view_known Out p is = absurd (cc)
view_known (Back q) p is = let e : q ≡ p = cc in ap (λ x. Some x.view) e

merged : (g : Geometry) (seats : List ActorSeat) (run : List Event) → IsRun g run → length seats ≡ actor_count g → ((q : ℕ) (p : Progress) → progress_by (seat_of seats q) ≡ Some p → IsProgress g run q p) → ((q : ℕ) → IsActor g q → ¬ IsSplitOut (seat_of seats q)) → IsMerge (own_lists seats) run
merged g seats run is count known back actor = elim (cases_lt actor (actor_count g)) [
  | inl there ↦
      let has : (p : Progress) × (progress_by (seat_of seats actor) ≡ Some p) = known_in (seat_of seats actor) (back actor there) in
      (known actor has.0 has.1).own ∙ ap own_by (sym has.1) ∙ sym (seq.get_or-map (λ seat. own_by (progress_by seat)) seats actor Out)
  | inr past ↦
      own_none (start g) run actor is past ∙ sym (get_or_past (own_lists seats) actor [] (omega (arith, past, count, length-map seats (λ seat. own_by (progress_by seat)))))
]

-- The state.

-- all views are there, and are those of the state
kept_same : (g : Geometry) (seats : List ActorSeat) (run : List Event) (kept : List (Option View)) → IsLawful g (state_after g run) → length seats ≡ actor_count g → kept ≡ map view_in seats → ((q : ℕ) (p : Progress) → progress_by (seat_of seats q) ≡ Some p → IsProgress g run q p) → ((q : ℕ) → IsActor g q → ¬ IsSplitOut (seat_of seats q)) → kept ≡ map Some (state_after g run).views
kept_same g seats run kept law count are known back =
    let s : State = state_after g run in
    let size : length kept ≡ actor_count g = ap length are ∙ length-map seats view_in ∙ count in
    let many : length s.views ≡ actor_count g = law.kept.actors ∙ ap actor_count law.machine in
    same_at_each kept (map Some s.views) None (size ∙ sym many ∙ sym (length-map s.views Some)) (λ i lt.
    let there : i < actor_count g = omega (arith, lt, size) in
    let has : (p : Progress) × (progress_by (seat_of seats i) ≡ Some p) = known_in (seat_of seats i) (back i there) in
    ap (λ vs. get_or vs i None) are ∙ seq.get_or-map view_in seats i Out ∙ view_known (seat_of seats i) has.0 has.1 ∙ ap Some (sym (known i has.0 has.1).view) ∙ sym (get_or-map Some s.views i (opening s.geometry i) None (omega (arith, there, many))))

views_in-some : (vs : List View) → views_in (map Some vs) ≡ vs
views_in-some [] = refl
views_in-some (v ∷ vs) = ap (λ ws. v ∷ ws) (views_in-some vs)

-- the words and views of a machine that has stopped are those of the state after a run, of which the seat has seen a beginning,
-- and which merges the own lists that it holds
pub record IsGathered (g : Geometry) (k : Knowledge) (words : Words) (kept : List (Option View)) : Type 0 where
  pub run : List Event
  pub is_run : IsRun g run
  pub merge : IsMerge (own_lists k.seats) run
  pub seen : IsPrefix k.seen run
  pub state : state_of g words (views_in kept) ≡ state_after g run
  pub stands : IsKept (state_of g words (views_in kept))
  pub whole : kept ≡ map Some (views_in kept)

parts : {A B C D : Type 0} (f : A → B → C → D) {a b : A} {c d : B} {e h : C} → a ≡ b → c ≡ d → e ≡ h → f a c e ≡ f b d h
parts f p q r = cc

gathered_at : (g : Geometry) (k : Knowledge) (last : List ℕ) (words : Words) (kept : List (Option View)) → IsGeometry g → IsEnd g k last → HasSizes g words → flat words ≡ last → length k.seats ≡ actor_count g → kept ≡ map view_in k.seats → ((q : ℕ) → IsActor g q → ¬ IsSplitOut (seat_of k.seats q)) → IsGathered g k words kept
gathered_at g k last words kept is end sizes list count are back =
    let s : State = state_after g end.run in
    let law : IsLawful g s = lawful_run g end.run is end.is_run in
    let state_sizes : HasSizes g s.words = subst (λ m. HasSizes m s.words) law.machine law.kept.sizes in
    let same_words : words ≡ s.words = words_same g words s.words sizes state_sizes (list ∙ end.words) in
    let all : kept ≡ map Some s.views = kept_same g k.seats end.run kept law count are end.seats back in
    let same_views : views_in kept ≡ s.views = ap views_in all ∙ views_in-some s.views in
    let same : state_of g words (views_in kept) ≡ s = parts state_of (sym law.machine) same_words same_views in
    record {
      run = end.run;
      is_run = end.is_run;
      merge = merged g k.seats end.run end.is_run count end.seats back;
      seen = end.seen;
      state = same;
      stands = subst IsKept (sym same) law.kept;
      whole = all ∙ ap (map Some) (sym same_views);
    }

-- the same, of a closed table
pub gathered : (g key : Geometry) (seat : ℕ) (k : Knowledge) (last : List ℕ) (slots : List (Unit {0})) (words : Words) (kept : List (Option View)) → key ≡ g → IsGeometry g → Final (Seen (Shows key) seat k) last slots → HasSizes g words → flat words ≡ last → length k.seats ≡ actor_count g → kept ≡ map view_in k.seats → ((q : ℕ) → IsActor g q → ¬ IsSplitOut (seat_of k.seats q)) → IsGathered g k words kept
gathered g key seat k last slots words kept keys is final sizes list count are back =
    let end : IsEnd g k last = ends g seat k last slots (subst (λ m. Final (Seen (Shows m) seat k) last slots) keys final) in
    gathered_at g k last words kept is end sizes list count are back

-- The views, one after the other.

-- where all views are there, each is
pub there_in : (kept : List (Option View)) (i : ℕ) (view : Option View) → kept ≡ map Some (views_in kept) → i < length kept → view ≡ get_or kept i None → IsSomeAnd view (λ _. Unit {0})
there_in kept i view whole lt is =
    let size : length kept ≡ length (views_in kept) = ap length whole ∙ length-map (views_in kept) Some in
    let some : View = opening no_geometry 0 in
    let has : view ≡ Some (get_or (views_in kept) i some) = is ∙ ap (λ vs. get_or vs i None) whole ∙ get_or-map Some (views_in kept) i some None (omega (arith, lt, size)) in
    subst (λ v. IsSomeAnd v (λ _. Unit {0})) (sym has) tt

-- one view more
pub views_more : (kept : List (Option View)) (i : ℕ) (view : View) → kept ≡ map Some (views_in kept) → i < length kept → Some view ≡ get_or kept i None → take (i + 1) (views_in kept) ≡ take i (views_in kept) ++ view ∷ []
views_more kept i view whole lt is =
    let size : length kept ≡ length (views_in kept) = ap length whole ∙ length-map (views_in kept) Some in
    let within : i < length (views_in kept) = omega (arith, lt, size) in
    let some : View = opening no_geometry 0 in
    let has : Some view ≡ Some (get_or (views_in kept) i some) = is ∙ ap (λ vs. get_or vs i None) whole ∙ get_or-map Some (views_in kept) i some None within in
    let same : get_or (views_in kept) i some ≡ view = cc in
    take_more (views_in kept) i some within ∙ ap (λ v. take i (views_in kept) ++ v ∷ []) same

-- and they are all
pub views_all : (kept : List (Option View)) (i : ℕ) → kept ≡ map Some (views_in kept) → i ≡ length kept → take i (views_in kept) ≡ views_in kept
views_all kept i whole e =
    let size : length kept ≡ length (views_in kept) = ap length whole ∙ length-map (views_in kept) Some in
    take_all i (views_in kept) (omega (arith, e, size))

-- the end words are those of a run that merges the own lists of the first seat
pub end_of : (g other : Geometry) (k : Knowledge) (words : Words) (kept : List (Option View)) (views : _) (table : TableId) (s : SeatFace) (end : EndWords) → IsGathered g k words kept → IsEndOf (state_of g words (views_in kept)) end → g ≡ other → seat_face (First views) table k ≡ s → IsEndOfRun other s end
end_of g other k words kept views table s end done made machine face =
    let here : IsEndOfRun g (seat_face (First views) table k) end = record {
      run = done.run;
      is_run = done.is_run;
      merge = done.merge;
      seen = done.seen;
      words = subst (λ (x : State). IsEndOf x end) done.state made;
    } in
    subst (λ m. IsEndOfRun m s end) machine (subst (λ x. IsEndOfRun g x end) face here)
