-- One event more is counted.
use Rattle.std.proofs.Common.{◌≡◌, ℕ, ◌<◌, Bool, false, List, [], ◌∷◌, ◌++◌, length, slice_index_or, refl, sym, ap, subst, ◌∙◌, arith}
use Rattle.nm_action.specs.declared.action.Action.{Action}
use Rattle.nm_action.specs.declared.action.Action.TheVariants.{Lock, Unlock}
use Rattle.nm_action.specs.declared.action.Reply.{Reply}
use Rattle.nm_action.specs.declared.tally.Tally.{Tally}
use Rattle.nm_action.specs.Own.{Own}
use Rattle.nm_action.specs.Tally.{capped_sum, sum_of}
use Rattle.nm_tally.specs.declared.counter.Counter.{Counter}
use Rattle.nm_tally.specs.declared.counter.Reclaiming.{Reclaiming}
use Rattle.nm_tally.specs.Counts.{zero_tally, locked_with, is_locked, is_inside, counts_with, event_counts, tally_from}
use Rattle.nm_tally.specs.Counting.{backwards, reclaiming_with, reclaiming_after, AreFlags, CountsEvents, CountsNothing}

backwards-push : (before own : Own) (action : Action) (reply : Reply) → backwards before (own ++ (action, reply) ∷ []) ≡ (action, reply) ∷ backwards before own
backwards-push before [] action reply = refl
backwards-push before (e ∷ own) action reply = backwards-push (e ∷ before) own action reply

tally-push : (tally : Tally) (before own : Own) (action : Action) (reply : Reply)
    → tally_from tally before (own ++ (action, reply) ∷ []) ≡ sum_of (tally_from tally before own) (event_counts (backwards before own) action reply)
tally-push tally before [] action reply = refl
tally-push tally before (e ∷ own) action reply = tally-push (sum_of tally (event_counts before e.0 e.1)) (e ∷ before) own action reply

-- an action that locks and unlocks no page leaves the flags as they are
pub flags-other : (action : Action) (reply : Reply) (flags : List Bool) → ((page : ℕ) → action ≡ Lock page → ⊥) → ((page : ℕ) → action ≡ Unlock page → ⊥) → AreFlags action reply flags flags
flags-other (Lock page) reply flags locks unlocks = absurd (locks page refl)
flags-other (Unlock page) reply flags locks unlocks = absurd (unlocks page refl)
flags-other action reply flags locks unlocks = record { flag = λ page within. refl; size = refl }

-- what an event counts, by what the counter knows
counts-same : (old : Counter) (inside : Bool) (action : Action) (reply : Reply) (own : Own) → inside ≡ is_inside action (backwards [] own) → CountsEvents old own
    → counts_with inside old.reclaiming.put_back action reply ≡ event_counts (backwards [] own) action reply
counts-same old inside action reply own is h =
    let back = ap (λ (r : Reclaiming). r.put_back) h.reclaiming in
    λ i. counts_with (is i) (back i) action reply

-- a counter that counted this list has counted it with one event more
counted-more-of : (old new : Counter) (action : Action) (reply : Reply) (inside : Bool) (own : Own) → inside ≡ is_inside action (backwards [] own)
    → new.tally ≡ sum_of old.tally (counts_with inside old.reclaiming.put_back action reply)
    → new.reclaiming ≡ reclaiming_with action old.reclaiming
    → AreFlags action reply old.locked.items new.locked.items
    → CountsEvents old own → CountsEvents new (own ++ (action, reply) ∷ [])
counted-more-of old new action reply inside own is tally reclaiming flags h = record {
  tally = tally ∙ ap (λ (t : Tally). sum_of old.tally t) (counts-same old inside action reply own is h) ∙ ap (λ (t : Tally). sum_of t (event_counts (backwards [] own) action reply)) h.tally ∙ sym (tally-push zero_tally [] own action reply);
  locked = λ page within.
      let old-within : page < length old.locked.items = subst (λ (n : ℕ). page < n) flags.size within in
      let B : Own → Type 0 = λ before. slice_index_or new.locked.items page false ≡ is_locked page before in
      subst B (sym (backwards-push [] own action reply)) (flags.flag page old-within ∙ ap (λ (b : Bool). locked_with page action reply b) (h.locked page old-within));
  reclaiming =
      let R : Own → Type 0 = λ before. new.reclaiming ≡ reclaiming_after before in
      subst R (sym (backwards-push [] own action reply)) (reclaiming ∙ ap (λ (r : Reclaiming). reclaiming_with action r) h.reclaiming);
}

-- so it has of each list
pub counted-more : (old new : Counter) (action : Action) (reply : Reply)
    → (inside : Bool) → ((own : Own) → CountsEvents old own → inside ≡ is_inside action (backwards [] own))
    → new.tally ≡ sum_of old.tally (counts_with inside old.reclaiming.put_back action reply)
    → new.reclaiming ≡ reclaiming_with action old.reclaiming
    → AreFlags action reply old.locked.items new.locked.items
    → (own : Own) → CountsEvents old own → CountsEvents new (own ++ (action, reply) ∷ [])
counted-more old new action reply inside is tally reclaiming flags own h = counted-more-of old new action reply inside own (is own h) tally reclaiming flags h

-- a count of a sum is at most 2^64 - 1, so nothing added leaves it as it is
cap-zero : (a b : ℕ) → capped_sum (capped_sum a b) 0 ≡ capped_sum a b
cap-zero a b = omega arith

sum-zero : (a b : Tally) → sum_of (sum_of a b) zero_tally ≡ sum_of a b
sum-zero a b = λ i. record { demand = cap-zero a.demand b.demand i; alias = cap-zero a.alias b.alias i; hint = cap-zero a.hint b.hint i; shadow = cap-zero a.shadow b.shadow i; marked = cap-zero a.marked b.marked i; spilled = cap-zero a.spilled b.spilled i; cold = cap-zero a.cold b.cold i; committed = cap-zero a.committed b.committed i; moved = cap-zero a.moved b.moved i; noframe = cap-zero a.noframe b.noframe i; gone = cap-zero a.gone b.gone i; worn = cap-zero a.worn b.worn i; aborted = cap-zero a.aborted b.aborted i; remapped = cap-zero a.remapped b.remapped i; copied = cap-zero a.copied b.copied i; words = cap-zero a.words b.words i; flushes = cap-zero a.flushes b.flushes i; reclaimed = cap-zero a.reclaimed b.reclaimed i }

tally-zero : (tally : Tally) (before own : Own) → sum_of tally zero_tally ≡ tally → sum_of (tally_from tally before own) zero_tally ≡ tally_from tally before own
tally-zero tally before [] is = is
tally-zero tally before (e ∷ own) is = tally-zero (sum_of tally (event_counts before e.0 e.1)) (e ∷ before) own (sum-zero tally (event_counts before e.0 e.1))

-- so it has with an event that counts nothing
pub counted-nothing : (old new : Counter) (action : Action) (reply : Reply) → CountsNothing action false → new.tally ≡ old.tally
    → new.reclaiming ≡ reclaiming_with action old.reclaiming → AreFlags action reply old.locked.items new.locked.items
    → (own : Own) → CountsEvents old own → CountsEvents new (own ++ (action, reply) ∷ [])
counted-nothing old new action reply nothing tally reclaiming flags own h =
    let inside = is_inside action (backwards [] own) in
    let zero = ap (λ t. sum_of old.tally t) (nothing inside old.reclaiming.put_back reply) in
    let kept = ap (λ t. sum_of t zero_tally) h.tally ∙ tally-zero zero_tally [] own refl ∙ sym h.tally in
    counted-more-of old new action reply inside own refl (tally ∙ sym kept ∙ sym zero) reclaiming flags h
