-- What the lanes hold, turn by turn.
use Rattle.std.proofs.Common.{◌≡◌, ◌≤◌, ◌+◌, ℕ, zero, suc, Bool, List, [], ◌∷◌, ◌++◌, length, drop, Some, None, refl, sym, ap, ◌∙◌, arith}
use Rattle.std.specs.List.{cons_option}
use Rattle.std.proofs.lemmas.List.{append-nil, drop-append-le, length-append}
use Rattle.std.proofs.lemmas.List.Elements.{filter_map-append}
use Rattle.nm_base.specs.Geometry.{Geometry}
use Rattle.nm_action.specs.declared.turn.Lane.{Lane}
use Rattle.nm_action.specs.declared.turn.Lane.TheVariants.{Candidates, Pending}
use Rattle.nm_action.specs.declared.turn.Turn.{Turn}
use Rattle.nm_action.specs.declared.turn.Turn.TheVariants.{Do, Put, Take}
use Rattle.nm_action.specs.declared.turn.Heard.{Heard}
use Rattle.nm_action.specs.declared.turn.Heard.TheVariants.{Answer, PutDone, PutFull, Took, TookNone}
use Rattle.nm_core.specs.State.{State}
use Rattle.nm_actor.specs.Lanes.{Held, held_with}
use Rattle.nm_queue.specs.Ports.{PortLanes, held_in, with_held, without_first}
use Rattle.nm_schedule.specs.declared.turn.Played.{Played}
use Rattle.nm_schedule.specs.Lanes.{put_by, took_by, puts_in, takes_in, IsFirst, IsLaneAnswer}
use Rattle.nm_play.specs.Answered.{IsTurnAnswered}
use Rattle.nm_play.specs.Played.{IsLane}

-- ---- what is put and taken

puts-push : (lane : Lane) (before : List Played) (p : Played) → puts_in lane (before ++ p ∷ []) ≡ puts_in lane before ++ cons_option (put_by lane p.turn p.heard) []
puts-push lane before p = filter_map-append (λ (q : Played). put_by lane q.turn q.heard) before (p ∷ [])

takes-push : (lane : Lane) (before : List Played) (p : Played) → takes_in lane (before ++ p ∷ []) ≡ takes_in lane before ++ cons_option (took_by lane p.turn p.heard) []
takes-push lane before p = filter_map-append (λ (q : Played). took_by lane q.turn q.heard) before (p ∷ [])

-- a lane that a turn leaves alone
same-lane : (g : Geometry) (lanes after : PortLanes) (before : List Played) (p : Played) (lane : Lane) → IsLane g lanes before lane → held_in lane after ≡ held_in lane lanes
    → put_by lane p.turn p.heard ≡ None → took_by lane p.turn p.heard ≡ None → IsLane g after (before ++ p ∷ []) lane
same-lane g lanes after before p lane h same put took =
    let puts : puts_in lane (before ++ p ∷ []) ≡ puts_in lane before = puts-push lane before p ∙ ap (λ o. puts_in lane before ++ cons_option o []) put ∙ append-nil (puts_in lane before) in
    let takes : takes_in lane (before ++ p ∷ []) ≡ takes_in lane before = takes-push lane before p ∙ ap (λ o. takes_in lane before ++ cons_option o []) took ∙ append-nil (takes_in lane before) in
    record {
      capacity = ap (λ (k : Held). k.capacity) same ∙ h.capacity;
      pages = ap (λ (k : Held). k.pages) same ∙ h.pages ∙ ap (λ l. drop (length l) (puts_in lane before)) (sym takes) ∙ ap (λ l. drop (length (takes_in lane (before ++ p ∷ []))) l) (sym puts);
      taken = let a = ap length puts in let b = ap length takes in let t = h.taken in omega (arith, a, b, t);
    }

-- a lane into which a page was put
put-lane : (g : Geometry) (lanes after : PortLanes) (before : List Played) (p : Played) (lane : Lane) (page : ℕ) → IsLane g lanes before lane → held_in lane after ≡ held_with page (held_in lane lanes)
    → put_by lane p.turn p.heard ≡ Some page → took_by lane p.turn p.heard ≡ None → IsLane g after (before ++ p ∷ []) lane
put-lane g lanes after before p lane page h more put took =
    let puts : puts_in lane (before ++ p ∷ []) ≡ puts_in lane before ++ page ∷ [] = puts-push lane before p ∙ ap (λ o. puts_in lane before ++ cons_option o []) put in
    let takes : takes_in lane (before ++ p ∷ []) ≡ takes_in lane before = takes-push lane before p ∙ ap (λ o. takes_in lane before ++ cons_option o []) took ∙ append-nil (takes_in lane before) in
    record {
      capacity = ap (λ (k : Held). k.capacity) more ∙ h.capacity;
      pages = ap (λ (k : Held). k.pages) more ∙ ap (λ l. l ++ page ∷ []) h.pages
          ∙ sym (drop-append-le (length (takes_in lane before)) (puts_in lane before) (page ∷ []) h.taken)
          ∙ ap (λ l. drop (length l) (puts_in lane before ++ page ∷ [])) (sym takes) ∙ ap (λ l. drop (length (takes_in lane (before ++ p ∷ []))) l) (sym puts);
      taken = let a = ap length puts in let b = ap length takes in let t = h.taken in let l = length-append (puts_in lane before) (page ∷ []) in omega (arith, a, b, t, l);
    }

drop-one : {A : Type 0} (n : ℕ) (xs : List A) → drop 1 (drop n xs) ≡ drop (n + 1) xs
drop-one zero xs = refl
drop-one (suc n) [] = let e : suc n + 1 ≡ suc (n + 1) = omega arith in ap (λ k. drop k []) (sym e)
drop-one (suc n) (x ∷ xs) = let e : suc n + 1 ≡ suc (n + 1) = omega arith in drop-one n xs ∙ ap (λ k. drop k (x ∷ xs)) (sym e)

drop-some : {A : Type 0} (n : ℕ) (xs rest : List A) (x : A) → drop n xs ≡ x ∷ rest → n + 1 ≤ length xs
drop-some zero [] rest x e = cc e
drop-some zero (y ∷ xs) rest x e = omega arith
drop-some (suc n) [] rest x e = cc e
drop-some (suc n) (y ∷ xs) rest x e = let r = drop-some n xs rest x e in omega (arith, r)

-- a lane from which the first page was taken
take-lane : (g : Geometry) (lanes after : PortLanes) (before : List Played) (p : Played) (lane : Lane) (page : ℕ) → IsLane g lanes before lane → IsFirst page (held_in lane lanes).pages → held_in lane after ≡ without_first (held_in lane lanes)
    → put_by lane p.turn p.heard ≡ None → took_by lane p.turn p.heard ≡ Some page → IsLane g after (before ++ p ∷ []) lane
take-lane g lanes after before p lane page h first less put took =
    let puts : puts_in lane (before ++ p ∷ []) ≡ puts_in lane before = puts-push lane before p ∙ ap (λ o. puts_in lane before ++ cons_option o []) put ∙ append-nil (puts_in lane before) in
    let takes : takes_in lane (before ++ p ∷ []) ≡ takes_in lane before ++ page ∷ [] = takes-push lane before p ∙ ap (λ o. takes_in lane before ++ cons_option o []) took in
    let many : length (takes_in lane before ++ page ∷ []) ≡ length (takes_in lane before) + 1 = length-append (takes_in lane before) (page ∷ []) in
    record {
      capacity = ap (λ (k : Held). k.capacity) less ∙ h.capacity;
      pages = ap (λ (k : Held). k.pages) less ∙ ap (λ l. drop 1 l) h.pages ∙ drop-one (length (takes_in lane before)) (puts_in lane before)
          ∙ ap (λ n. drop n (puts_in lane before)) (sym many) ∙ ap (λ l. drop (length l) (puts_in lane before)) (sym takes) ∙ ap (λ l. drop (length (takes_in lane (before ++ p ∷ []))) l) (sym puts);
      taken = let a = ap length puts in let b = ap length takes in let s = drop-some (length (takes_in lane before)) (puts_in lane before) first.0 page (sym h.pages ∙ first.1) in omega (arith, a, b, many, s);
    }

-- ---- a turn and its answer

held-same : (lanes after : PortLanes) (lane : Lane) → after ≡ lanes → held_in lane after ≡ held_in lane lanes
held-same lanes after lane e = ap (λ (l : PortLanes). held_in lane l) e

-- a turn put a page into this lane or the other
put-lanes : (g : Geometry) (lanes after : PortLanes) (before : List Played) (actor : ℕ) (ended : Bool) (into : Lane) (page : ℕ) (lane : Lane) → IsLane g lanes before lane → after ≡ with_held into (held_with page (held_in into lanes)) lanes
    → IsLane g after (before ++ record { actor = actor; turn = Put into page; heard = PutDone; ended = ended } ∷ []) lane
put-lanes g lanes after before actor ended Candidates page Candidates h e = put-lane g lanes after before (record { actor = actor; turn = Put Candidates page; heard = PutDone; ended = ended }) Candidates page h (ap (λ (l : PortLanes). l.candidates) e) refl refl
put-lanes g lanes after before actor ended Candidates page Pending h e = same-lane g lanes after before (record { actor = actor; turn = Put Candidates page; heard = PutDone; ended = ended }) Pending h (ap (λ (l : PortLanes). l.pending) e) refl refl
put-lanes g lanes after before actor ended Pending page Candidates h e = same-lane g lanes after before (record { actor = actor; turn = Put Pending page; heard = PutDone; ended = ended }) Candidates h (ap (λ (l : PortLanes). l.candidates) e) refl refl
put-lanes g lanes after before actor ended Pending page Pending h e = put-lane g lanes after before (record { actor = actor; turn = Put Pending page; heard = PutDone; ended = ended }) Pending page h (ap (λ (l : PortLanes). l.pending) e) refl refl

take-lanes : (g : Geometry) (lanes after : PortLanes) (before : List Played) (actor : ℕ) (ended : Bool) (from : Lane) (page : ℕ) (lane : Lane) → IsLane g lanes before lane → IsFirst page (held_in from lanes).pages → after ≡ with_held from (without_first (held_in from lanes)) lanes
    → IsLane g after (before ++ record { actor = actor; turn = Take from; heard = Took page; ended = ended } ∷ []) lane
take-lanes g lanes after before actor ended Candidates page Candidates h first e = take-lane g lanes after before (record { actor = actor; turn = Take Candidates; heard = Took page; ended = ended }) Candidates page h first (ap (λ (l : PortLanes). l.candidates) e) refl refl
take-lanes g lanes after before actor ended Candidates page Pending h first e = same-lane g lanes after before (record { actor = actor; turn = Take Candidates; heard = Took page; ended = ended }) Pending h (ap (λ (l : PortLanes). l.pending) e) refl refl
take-lanes g lanes after before actor ended Pending page Candidates h first e = same-lane g lanes after before (record { actor = actor; turn = Take Pending; heard = Took page; ended = ended }) Candidates h (ap (λ (l : PortLanes). l.candidates) e) refl refl
take-lanes g lanes after before actor ended Pending page Pending h first e = take-lane g lanes after before (record { actor = actor; turn = Take Pending; heard = Took page; ended = ended }) Pending page h first (ap (λ (l : PortLanes). l.pending) e) refl refl

-- a lane after a turn
pub lanes-more : (g : Geometry) (state after : State) (lanes lanes' : PortLanes) (before : List Played) (actor : ℕ) (turn : Turn) (heard : Heard) (ended : Bool) → IsTurnAnswered state after lanes lanes' actor turn heard → (lane : Lane) → IsLane g lanes before lane
    → IsLane g lanes' (before ++ record { actor = actor; turn = turn; heard = heard; ended = ended } ∷ []) lane
lanes-more g state after lanes lanes' before actor (Do action) (Answer reply) ended a lane h = same-lane g lanes lanes' before (record { actor = actor; turn = Do action; heard = Answer reply; ended = ended }) lane h (held-same lanes lanes' lane a.kept) refl refl
lanes-more g state after lanes lanes' before actor (Put into page) PutDone ended a lane h = put-lanes g lanes lanes' before actor ended into page lane h a.changed
lanes-more g state after lanes lanes' before actor (Put into page) PutFull ended a lane h = same-lane g lanes lanes' before (record { actor = actor; turn = Put into page; heard = PutFull; ended = ended }) lane h (held-same lanes lanes' lane a.kept) refl refl
lanes-more g state after lanes lanes' before actor (Take from) (Took page) ended a lane h = take-lanes g lanes lanes' before actor ended from page lane h a.first a.changed
lanes-more g state after lanes lanes' before actor (Take from) TookNone ended a lane h = same-lane g lanes lanes' before (record { actor = actor; turn = Take from; heard = TookNone; ended = ended }) lane h (held-same lanes lanes' lane a.kept) refl refl
lanes-more g state after lanes lanes' before actor turn heard ended a lane h = absurd a

-- what a turn hears is what the lanes answer
pub lanes-answer : (g : Geometry) (state after : State) (lanes lanes' : PortLanes) (before : List Played) (actor : ℕ) (turn : Turn) (heard : Heard) → ((lane : Lane) → IsLane g lanes before lane) → IsTurnAnswered state after lanes lanes' actor turn heard → IsLaneAnswer g before turn heard
lanes-answer g state after lanes lanes' before actor (Do action) (Answer reply) h a = tt
lanes-answer g state after lanes lanes' before actor (Put into page) PutDone h a =
    let k = h into in let l = ap length k.pages in let c = k.capacity in let r = a.room in omega (arith, l, c, r)
lanes-answer g state after lanes lanes' before actor (Put into page) PutFull h a =
    let k = h into in sym (ap length k.pages) ∙ a.full ∙ k.capacity
lanes-answer g state after lanes lanes' before actor (Take from) (Took page) h a =
    let k = h from in let f = a.first in (f.0, sym k.pages ∙ f.1)
lanes-answer g state after lanes lanes' before actor (Take from) TookNone h a = let k = h from in sym k.pages ∙ a.empty
lanes-answer g state after lanes lanes' before actor turn heard h a = absurd a
