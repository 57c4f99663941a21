-- The cooperative rule, turn by turn.
use Rattle.std.proofs.Common.{◌≡◌, ◌≤◌, ◌+◌, ℕ, List, [], ◌∷◌, ◌++◌, length, refl, sym, ap, subst, ◌∙◌, arith}
use Rattle.nm_schedule.specs.declared.turn.Played.{Played}
use Rattle.nm_schedule.specs.Played.{active_actors}
use Rattle.nm_schedule.specs.Stalls.{Yields}
use Rattle.nm_schedule.specs.Picks.{IsCooperative, first_from}
use Rattle.nm_schedule.proofs.Snoc.{length-snoc, snoc-same}

-- a list with a last item is not as short as its front
no-begin : (began : ℕ) (before front : List Played) (last : Played) → before ≡ front ++ last ∷ [] → began ≤ length front → length before ≡ began → ⊥
no-begin began before front last is since e = let l = ap length is in omega (arith, l, length-snoc front last, since, e)

same-yields : (front other : List Played) (last p : Played) → front ++ last ∷ [] ≡ other ++ p ∷ [] → Yields front last → Yields other p
same-yields front other last p e y =
    let s = snoc-same front other last p e in
    let A : Played → Type 0 = λ q. Yields front q in
    let B : List Played → Type 0 = λ l. Yields l p in
    subst B s.0 (subst A s.1 y)

-- the actor of the last turn goes on
pub keeps-on : (actors began : ℕ) (before front : List Played) (last : Played) → before ≡ front ++ last ∷ [] → began ≤ length front → (¬ Yields front last) → IsCooperative actors began before last.actor
keeps-on actors began before front last is since keeps = record {
  begins = λ e. absurd (no-begin began before front last is since e);
  goes_on = λ other p list from no. ap (λ (q : Played). q.actor) (snoc-same front other last p (sym is ∙ list)).1;
  goes_round = λ other p list from y. absurd (keeps (same-yields other front p last (sym list ∙ is) y));
}

-- the next actor, after a turn that yielded
pub goes-round : (actors began : ℕ) (before front : List Played) (last : Played) → before ≡ front ++ last ∷ [] → began ≤ length front → Yields front last
    → IsCooperative actors began before (first_from (last.actor + 1) (active_actors actors before))
goes-round actors began before front last is since yields = record {
  begins = λ e. absurd (no-begin began before front last is since e);
  goes_on = λ other p list from no. absurd (no (same-yields front other last p (sym is ∙ list) yields));
  goes_round = λ other p list from y. ap (λ (q : Played). first_from (q.actor + 1) (active_actors actors before)) (snoc-same front other last p (sym is ∙ list)).1;
}

-- the first actor
pub begins-here : (actors began : ℕ) (before : List Played) → length before ≡ began → IsCooperative actors began before (first_from 0 (active_actors actors before))
begins-here actors began before e = record {
  begins = λ f. refl;
  goes_on = λ front last list from no. absurd (no-begin began before front last list from e);
  goes_round = λ front last list from y. absurd (no-begin began before front last list from e);
}
