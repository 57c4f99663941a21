-- What one turn of a schedule does to the lane Pending.
use Rattle.std.proofs.Common.{◌≡◌, ◌≤◌, ◌+◌, ℕ, zero, suc, Bool, List, [], ◌∷◌, ◌++◌, length, drop, Some, None, refl, sym, ap, ◌∙◌, arith}
use Rattle.std.specs.List.{cons_option}
use Rattle.std.proofs.lemmas.List.{append-nil, drop-append-le, length-append}
use Rattle.std.proofs.lemmas.List.Elements.{filter_map-append}
use Rattle.nm_base.specs.Geometry.{Geometry}
use Rattle.nm_action.specs.declared.turn.Lane.TheVariants.{Candidates, Pending}
use Rattle.nm_action.specs.declared.turn.Turn.{Turn}
use Rattle.nm_action.specs.declared.turn.Turn.TheVariants.{Do, Put, Take, End}
use Rattle.nm_action.specs.declared.turn.Heard.{Heard}
use Rattle.nm_action.specs.declared.turn.Heard.TheVariants.{Answer, PutDone, PutFull, Took, TookNone}
use Rattle.nm_schedule.specs.declared.turn.Played.{Played}
use Rattle.nm_schedule.specs.Lanes.{put_by, took_by, puts_in, takes_in, pages_in, IsLaneAnswer}
use Rattle.nm_pending.specs.PendingTurns.{IsPendingStep, IsOffPending}

-- no more pages were taken than put
abbrev pub AreFewTaken : List Played → Type 0
AreFewTaken played = length (takes_in Pending played) ≤ length (puts_in Pending played)

-- a turn goes on so
pub record IsLaneStep (before : List Played) (p : Played) : Type 0 where
  pub step : IsPendingStep (pages_in Pending before) p.turn p.heard (pages_in Pending (before ++ p ∷ []))
  pub few : AreFewTaken (before ++ p ∷ [])

puts-push : (before : List Played) (p : Played) → puts_in Pending (before ++ p ∷ []) ≡ puts_in Pending before ++ cons_option (put_by Pending p.turn p.heard) []
puts-push before p = filter_map-append (λ (q : Played). put_by Pending q.turn q.heard) before (p ∷ [])

takes-push : (before : List Played) (p : Played) → takes_in Pending (before ++ p ∷ []) ≡ takes_in Pending before ++ cons_option (took_by Pending p.turn p.heard) []
takes-push before p = filter_map-append (λ (q : Played). took_by Pending q.turn q.heard) before (p ∷ [])

-- the pages that the lane holds after a turn, and that they are few
record After (before : List Played) (p : Played) (pages : List ℕ) : Type 0 where
  now : pages_in Pending (before ++ p ∷ []) ≡ pages
  few : AreFewTaken (before ++ p ∷ [])

-- a turn that leaves the lane alone
alone : (before : List Played) (p : Played) → AreFewTaken before → put_by Pending p.turn p.heard ≡ None → took_by Pending p.turn p.heard ≡ None → After before p (pages_in Pending before)
alone before p few put took =
    let puts : puts_in Pending (before ++ p ∷ []) ≡ puts_in Pending before = puts-push before p ∙ ap (λ o. puts_in Pending before ++ cons_option o []) put ∙ append-nil (puts_in Pending before) in
    let takes : takes_in Pending (before ++ p ∷ []) ≡ takes_in Pending before = takes-push before p ∙ ap (λ o. takes_in Pending before ++ cons_option o []) took ∙ append-nil (takes_in Pending before) in
    record {
      now = ap (λ l. drop (length (takes_in Pending (before ++ p ∷ []))) l) puts ∙ ap (λ l. drop (length l) (puts_in Pending before)) takes;
      few = let a = ap length puts in let b = ap length takes in omega (arith, a, b, few);
    }

-- a page was put
put-page : (before : List Played) (p : Played) (page : ℕ) → AreFewTaken before → put_by Pending p.turn p.heard ≡ Some page → took_by Pending p.turn p.heard ≡ None → After before p (pages_in Pending before ++ page ∷ [])
put-page before p page few put took =
    let puts : puts_in Pending (before ++ p ∷ []) ≡ puts_in Pending before ++ page ∷ [] = puts-push before p ∙ ap (λ o. puts_in Pending before ++ cons_option o []) put in
    let takes : takes_in Pending (before ++ p ∷ []) ≡ takes_in Pending before = takes-push before p ∙ ap (λ o. takes_in Pending before ++ cons_option o []) took ∙ append-nil (takes_in Pending before) in
    record {
      now = ap (λ l. drop (length (takes_in Pending (before ++ p ∷ []))) l) puts ∙ ap (λ l. drop (length l) (puts_in Pending before ++ page ∷ [])) takes
          ∙ drop-append-le (length (takes_in Pending before)) (puts_in Pending before) (page ∷ []) few;
      few = let a = ap length puts in let b = ap length takes in let l = length-append (puts_in Pending before) (page ∷ []) in omega (arith, a, b, few, l);
    }

drop-one : (n : ℕ) (xs : List ℕ) → drop 1 (drop n xs) ≡ drop (n + 1) xs
drop-one zero xs = refl
drop-one (suc n) [] = let e : suc n + 1 ≡ suc (n + 1) = omega arith in ap (λ k. drop k []) (sym e)
drop-one (suc n) (x ∷ xs) = let e : suc n + 1 ≡ suc (n + 1) = omega arith in drop-one n xs ∙ ap (λ k. drop k (x ∷ xs)) (sym e)

drop-some : (n : ℕ) (xs rest : List ℕ) (x : ℕ) → drop n xs ≡ x ∷ rest → n + 1 ≤ length xs
drop-some zero [] rest x e = cc e
drop-some zero (y ∷ xs) rest x e = omega arith
drop-some (suc n) [] rest x e = cc e
drop-some (suc n) (y ∷ xs) rest x e = let r = drop-some n xs rest x e in omega (arith, r)

-- the first page was taken
took-page : (before : List Played) (p : Played) (page : ℕ) (rest : List ℕ) → AreFewTaken before → pages_in Pending before ≡ page ∷ rest → put_by Pending p.turn p.heard ≡ None → took_by Pending p.turn p.heard ≡ Some page → After before p rest
took-page before p page rest few first put took =
    let puts : puts_in Pending (before ++ p ∷ []) ≡ puts_in Pending before = puts-push before p ∙ ap (λ o. puts_in Pending before ++ cons_option o []) put ∙ append-nil (puts_in Pending before) in
    let takes : takes_in Pending (before ++ p ∷ []) ≡ takes_in Pending before ++ page ∷ [] = takes-push before p ∙ ap (λ o. takes_in Pending before ++ cons_option o []) took in
    let many : length (takes_in Pending before ++ page ∷ []) ≡ length (takes_in Pending before) + 1 = length-append (takes_in Pending before) (page ∷ []) in
    record {
      now = ap (λ l. drop (length (takes_in Pending (before ++ p ∷ []))) l) puts ∙ ap (λ l. drop (length l) (puts_in Pending before)) takes ∙ ap (λ n. drop n (puts_in Pending before)) many
          ∙ sym (drop-one (length (takes_in Pending before)) (puts_in Pending before)) ∙ ap (λ l. drop 1 l) first;
      few = let a = ap length puts in let b = ap length takes in let s = drop-some (length (takes_in Pending before)) (puts_in Pending before) rest page first in omega (arith, a, b, many, s);
    }

-- ---- a turn and its answer

abbrev made : ℕ → Turn → Heard → Bool → Played
made actor turn heard ended = record { actor = actor; turn = turn; heard = heard; ended = ended }

pub lane-step : (g : Geometry) (before : List Played) (actor : ℕ) (turn : Turn) (heard : Heard) (ended : Bool) → IsLaneAnswer g before turn heard → AreFewTaken before → IsLaneStep before (record { actor = actor; turn = turn; heard = heard; ended = ended })
lane-step g before actor (Do action) (Answer reply) ended h few = let a = alone before (made actor (Do action) (Answer reply) ended) few refl refl in record { step = a.now; few = a.few }
lane-step g before actor (Put Candidates page) PutDone ended h few = let a = alone before (made actor (Put Candidates page) PutDone ended) few refl refl in record { step = a.now; few = a.few }
lane-step g before actor (Put Candidates page) PutFull ended h few = let a = alone before (made actor (Put Candidates page) PutFull ended) few refl refl in record { step = a.now; few = a.few }
lane-step g before actor (Put Pending page) PutDone ended h few = let a = put-page before (made actor (Put Pending page) PutDone ended) page few refl refl in record { step = a.now; few = a.few }
lane-step g before actor (Put Pending page) PutFull ended h few = let a = alone before (made actor (Put Pending page) PutFull ended) few refl refl in record { step = a.now; few = a.few }
lane-step g before actor (Take Candidates) (Took page) ended h few = let a = alone before (made actor (Take Candidates) (Took page) ended) few refl refl in record { step = a.now; few = a.few }
lane-step g before actor (Take Candidates) TookNone ended h few = let a = alone before (made actor (Take Candidates) TookNone ended) few refl refl in record { step = a.now; few = a.few }
lane-step g before actor (Take Pending) (Took page) ended h few =
    let a = took-page before (made actor (Take Pending) (Took page) ended) page h.0 few h.1 refl refl in
    record { step = h.1 ∙ ap (λ (l : List ℕ). page ∷ l) (sym a.now); few = a.few }
lane-step g before actor (Take Pending) TookNone ended h few = let a = alone before (made actor (Take Pending) TookNone ended) few refl refl in record { step = (h, a.now ∙ h); few = a.few }
lane-step g before actor turn heard ended h few = absurd h

-- a turn that leaves the lane alone
pub off-same : (pages later : List ℕ) (turn : Turn) (heard : Heard) → IsOffPending turn → IsPendingStep pages turn heard later → later ≡ pages
off-same pages later (Do action) heard off h = h
off-same pages later (Put Candidates page) heard off h = h
off-same pages later (Put Pending page) heard off h = absurd off
off-same pages later (Take Candidates) heard off h = h
off-same pages later (Take Pending) heard off h = absurd off
off-same pages later End heard off h = h
