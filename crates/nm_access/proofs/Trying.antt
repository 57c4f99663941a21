-- Catching up before the translations are tried.
use Rattle.std.proofs.Common.{◌≡◌, ℕ, suc, Bool, true, false, List, [], ◌∷◌, ◌++◌, refl, sym, ap, ◌∙◌, subst, append_assoc}
use Rattle.std.proofs.lemmas.List.{append-nil}
use Rattle.nm_base.specs.Geometry.{Geometry}
use Rattle.nm_action.specs.declared.action.Action.{Action}
use Rattle.nm_action.specs.declared.action.Action.TheVariants.{Peek, Poll}
use Rattle.nm_action.specs.declared.action.Reply.{Reply}
use Rattle.nm_action.specs.declared.turn.Step.{Step}
use Rattle.nm_action.specs.declared.turn.Step.TheVariants as steps
use Rattle.nm_action.specs.declared.turn.Turn.{Turn}
use Rattle.nm_action.specs.declared.turn.Turn.TheVariants.{Do}
use Rattle.nm_action.specs.declared.turn.Heard.{Heard}
use Rattle.nm_action.specs.declared.turn.Heard.TheVariants.{Answer}
use Rattle.nm_action.specs.Own.{Own}
use Rattle.nm_view.specs.Views.{View}
use Rattle.nm_permit.specs.Permitted.{Allowed}
use Rattle.nm_event.specs.Fitting.{Fits}
use Rattle.nm_event.specs.After.{view_after}
use Rattle.nm_part.specs.Parts.{IsBegunWith}
use Rattle.nm_part.specs.Patterns.{Follows, Either, Sometimes, IsLeft, CanEnd}
use Rattle.nm_part.proofs.Patterns.{left-start, can-either, either-yes, either-other}
use Rattle.nm_actor.specs.Turns.{Turns}
use Rattle.nm_actor.specs.Actors.{IsAnswer}
use Rattle.nm_desk.specs.Desk.{desk}
use Rattle.nm_catchup.specs.CatchUp.{Kept, entry_of, CatchesUp}
use Rattle.nm_catchup.specs.Catching.{kept_of, IsKeptWith, IsCatching, AwaitsCatch, IsCatchAsked, IsCaughtUp, IsCatchStep, catch_left}
use Rattle.nm_catchup.specs.declared.cache.CatchStage.{CatchStage}
use Rattle.nm_catchup.specs.declared.cache.CatchStage.TheVariants.{Polling}
use Rattle.nm_catchup.specs.declared.cache.TranslationCache.{TranslationCache}
use Rattle.nm_catchup.proofs.Acts.{begun-acts}
use Rattle.nm_catchup.proofs.Loops.{left-can}
use Rattle.nm_access.specs.declared.made.AccessMade.{AccessMade}
use Rattle.nm_access.specs.declared.access.Access.{Access}
use Rattle.nm_access.specs.declared.access.AccessStage.{AccessStage}
use Rattle.nm_access.specs.declared.access.AccessStage.TheVariants.{CatchingUp, Peeking, Touching}
use Rattle.nm_access.specs.declared.access.AccessStep.TheVariants.{Give}
use Rattle.nm_access.specs.Turning.{Acts, Hears, action_turns, IsTurnBegun}
use Rattle.nm_access.specs.Faults.{FaultKinds, HasNothingOpen}
use Rattle.nm_access.specs.Accesses.{Carried, Accessed, serves, held_caught, Touches, Translates, IsWholeAccess}
use Rattle.nm_access.specs.Accessing.{IsAccessReady, access_turn, access_left, tried_stage, view_then, IsAtCatch, IsAtAccessStage}
use Rattle.nm_access.specs.Moving.{AwaitsOf, IsStepOf, held_of, IsBegunWell, IsTrying}
use Rattle.nm_access.proofs.TurnSteps.{tries-as, tries-after, turns-append, turns-push, then-own}
use Rattle.nm_access.proofs.Ends.{touches-can, translates-can}
use Rattle.nm_access.proofs.Running.{kept-running}
use Rattle.nm_access.proofs.Going.{goes}

-- Actions inside a piece of an access.

regroup : (front : Turns) (own more : Own) (action : Action) (reply : Reply) (back : Turns) → (front ++ action_turns ((own ++ (action, reply) ∷ []) ++ more)) ++ back ≡ ((front ++ action_turns own) ++ (Do action, Answer reply) ∷ []) ++ (action_turns more ++ back)
regroup front own more action reply back = simp (turns-append, append_assoc)

-- an action of a piece that is left begins a finished list
pub piece-begun : {X O : Type 0} (whole : Turns → O → Type 0) (front : Turns) (own : Own) (action : Action) (pattern : Own → X → Type 0) (after : ℕ → X → Turns → O → Type 0) (tries : ℕ)
    → IsLeft whole front (Sometimes (λ n. Follows (Acts pattern) (after n))) → IsBegunWith pattern own action → ((x : X) → CanEnd (after tries x)) → IsTurnBegun whole (front ++ action_turns own) (Do action)
piece-begun {X} {O} whole front own action pattern after tries due begun can =
    let more : Own = begun.begun.rest in
    let done : Own = (own ++ (action, begun.reply) ∷ []) ++ more in
    let x : X = begun.begun.outcome in
    let rest = can x in
    let left = tries-after whole front (action_turns done) (Acts pattern) after x due (record { own = done; is = refl; shown = begun.begun.whole }) in
    record {
      heard = Answer begun.reply;
      can = record {
        rest = action_turns more ++ rest.rest;
        outcome = rest.outcome;
        shown = subst (λ (l : Turns). whole l rest.outcome) (regroup front own more action begun.reply rest.rest) (left.carry rest.rest rest.outcome (record { tries = tries; is = rest.shown }));
      };
    }

-- what is heard after an action inside a piece fits it
pub answer-fits : (g : Geometry) (view : View) (front turns : Turns) (own : Own) (turn : Turn) (action : Action) (heard : Heard) (reply : Reply) → turns ≡ front ++ action_turns own → turn ≡ Do action → heard ≡ Answer reply
    → IsAnswer g (view_then g view turns) turn heard → Fits g (view_after g (view_then g view front) own) action reply
answer-fits g view front turns own turn action heard reply is given told answer =
    let T : Turns → Type 0 = λ l. IsAnswer g (view_then g view l) turn heard in
    let A : Turn → Type 0 = λ t. IsAnswer g (view_then g view (front ++ action_turns own)) t heard in
    let H : Heard → Type 0 = λ h. IsAnswer g (view_then g view (front ++ action_turns own)) (Do action) h in
    let V : View → Type 0 = λ v. Fits g v action reply in
    subst V (then-own g view front own) (subst H told (subst A given (subst T is answer)))

-- the turns with that action and what was heard
pub list-more : (front turns : Turns) (own : Own) (turn : Turn) (action : Action) (heard : Heard) (reply : Reply) → turns ≡ front ++ action_turns own → turn ≡ Do action → heard ≡ Answer reply
    → turns ++ (turn, heard) ∷ [] ≡ front ++ action_turns (own ++ (action, reply) ∷ [])
list-more front turns own turn action heard reply is given told = rw (is, given, told) (turns-push front own action reply)

-- The catch up.

-- a catch up has begun
pub poll-awaits : (cache : TranslationCache) (kept : Kept) (g : Geometry) (view : View) → cache.stage ≡ Polling → kept_of cache ≡ kept → IsKeptWith g kept view → AwaitsCatch cache kept g view [] Poll
poll-awaits cache kept g view at same h =
    let base : IsCatching Polling kept kept g view [] Poll = record { is = refl; due = left-start (CatchesUp g kept); known = h; seat = refl; running = λ began. began } in
    subst (λ (s : CatchStage). IsCatching s (kept_of cache) kept g view [] Poll) (sym at) (subst (λ (k : Kept). IsCatching Polling k kept g view [] Poll) (sym same) base)

pub poll-begun : (g : Geometry) (kept : Kept) → IsBegunWith (CatchesUp g kept) [] Poll
poll-begun g kept = begun-acts g (CatchesUp g kept) [] Poll (catch_left g Polling kept) (left-start (CatchesUp g kept)) (left-can g Polling kept)

-- what comes after the catch up
abbrev pub after_catch : {M X : Type 0} → FaultKinds M X → Geometry → AccessMade → Carried X → Bool → ℕ → Kept → Turns → Accessed X → Type 0
after_catch kinds g made held hinted tries kept = Either (serves made.touch (entry_of kept made.vpage)) (Touches g made (held_caught kept held)) (Translates kinds g made tries (held_caught kept held) hinted)

after-catch-can : {M X : Type 0} (kinds : FaultKinds M X) (g : Geometry) (made : AccessMade) (held : Carried X) (hinted : Bool) (kept : Kept) → CanEnd (after_catch kinds g made held hinted 1 kept)
after-catch-can kinds g made held hinted kept = can-either (serves made.touch (entry_of kept made.vpage)) (Touches g made (held_caught kept held)) (Translates kinds g made 1 (held_caught kept held) hinted)
    (touches-can g made (held_caught kept held)) (translates-can kinds g made (held_caught kept held) hinted)

pub trying-goes : {F M X : Type 0} (kinds : FaultKinds M X) (made_of : F → M) (awaits_of : F → Geometry → View → Own → Action → Type 0) (a : Access F) (cache : TranslationCache) (action : Action) (g : Geometry) (was : Carried X) (view : View) (turns : Turns)
    → kept_of cache ≡ kept_of a.cache → cache.stage ≡ Polling → action ≡ Poll → IsTrying kinds a g was view turns
    → IsStepOf kinds made_of awaits_of (record a { cache = cache; stage = CatchingUp }) g was view turns (Give (Do action))
trying-goes {F} {M} {X} kinds made_of awaits_of a cache action g was view turns same at polls h =
    let kept = kept_of a.cache in
    let held : Carried X = held_of a h.ends in
    let T : Turns → Type 0 = λ l. IsTurnBegun (IsWholeAccess kinds g a.made was) l (Do Poll) in
    let P : Action → Type 0 = λ x. IsStepOf kinds made_of awaits_of (record a { cache = cache; stage = CatchingUp }) g was view turns (Give (Do x)) in
    subst P (sym polls) (record {
      permitted = record { range = tt; permitted = h.ready.all.processor };
      awaited = record {
        same = h.well.same;
        may = h.well.may;
        ends = h.ends;
        counted = h.well.counted;
        at = record {
          before = kept;
          front = turns;
          own = [];
          action = Poll;
          given = refl;
          is = sym (append-nil turns);
          due = h.due;
          free = h.ready.free;
          running = kept-running g kept (view_then g view turns) h.ready.all h.ready.on;
          awaited = poll-awaits cache kept g (view_then g view turns) at same h.ready.all;
        };
      };
      begun = subst T (append-nil turns) (piece-begun (IsWholeAccess kinds g a.made was) turns [] Poll (CatchesUp g kept) (after_catch kinds g a.made held a.hinted) 1 h.due (poll-begun g kept) (after-catch-can kinds g a.made held a.hinted));
    })

-- an access that catches up
abbrev pub CatchOf : {F M X : Type 0} → FaultKinds M X → Access F → List X → Geometry → Carried X → View → Turns → Turn → Type 0
CatchOf kinds a ends g was view turns turn = IsAtCatch kinds a.made a.hinted a.cache ends g was view turns turn

pub at-catch : {F M X : Type 0} (kinds : FaultKinds M X) (made_of : F → M) (awaits_of : F → Geometry → View → Own → Action → Type 0) (a : Access F) (g : Geometry) (was : Carried X) (view : View) (turns : Turns) (turn : Turn)
    → a.stage ≡ CatchingUp → (h : AwaitsOf kinds made_of awaits_of a g was view turns turn) → CatchOf kinds a h.ends g was view turns turn
at-catch kinds made_of awaits_of a g was view turns turn at h =
    subst (λ (s : AccessStage). IsAtAccessStage kinds a.made s a.hinted (made_of a.fault) (awaits_of a.fault) a.cache h.ends g was view turns turn) at h.at

-- what the translations promise of a step
abbrev pub Catches : TranslationCache → TranslationCache → Reply → Step (Unit {0}) → Type 0
Catches cache later reply result = (was : Kept) (g : Geometry) (view : View) (own : Own) (action : Action) → AwaitsCatch cache was g view own action → Fits g (view_after g view own) action reply → IsCatchStep later was g view (own ++ (action, reply) ∷ []) result

pub catch-more : {F M X : Type 0} (kinds : FaultKinds M X) (made_of : F → M) (awaits_of : F → Geometry → View → Own → Action → Type 0) (a : Access F) (later : TranslationCache) (heard : Heard) (reply : Reply) (result : Step (Unit {0})) (next : Action) (g : Geometry) (was : Carried X) (view : View) (turns : Turns) (turn : Turn)
    → a.stage ≡ CatchingUp → heard ≡ Answer reply → result ≡ steps.Do next → Catches a.cache later reply result
    → AwaitsOf kinds made_of awaits_of a g was view turns turn → IsAnswer g (view_then g view turns) turn heard
    → IsStepOf kinds made_of awaits_of (record a { cache = later }) g was view (turns ++ (turn, heard) ∷ []) (Give (Do next))
catch-more {F} {M} {X} kinds made_of awaits_of a later heard reply result next g was view turns turn at told is catches h answer =
    let x = at-catch kinds made_of awaits_of a g was view turns turn at h in
    let fits = answer-fits g view x.front turns x.own turn x.action heard reply x.is x.given told answer in
    let own : Own = x.own ++ (x.action, reply) ∷ [] in
    let list = list-more x.front turns x.own turn x.action heard reply x.is x.given told in
    let S : Step (Unit {0}) → Type 0 = λ s. IsCatchStep later x.before g (view_then g view x.front) own s in
    let asked : IsCatchAsked later x.before g (view_then g view x.front) own next = subst S is (catches x.before g (view_then g view x.front) x.own x.action x.awaited fits) in
    let held : Carried X = record { kept = x.before; ends = h.ends } in
    let L : Turns → Type 0 = λ l. IsStepOf kinds made_of awaits_of (record a { cache = later; stage = CatchingUp }) g was view l (Give (Do next)) in
    let G : AccessStage → Type 0 = λ s. IsStepOf kinds made_of awaits_of (record a { cache = later; stage = s }) g was view (turns ++ (turn, heard) ∷ []) (Give (Do next)) in
    subst G (sym at) (subst L (sym list) (record {
      permitted = subst (λ (v : View). Allowed g v next) (sym (then-own g view x.front own)) asked.permitted;
      awaited = record {
        same = h.same;
        may = h.may;
        ends = h.ends;
        counted = h.counted;
        at = record { before = x.before; front = x.front; own = own; action = next; given = refl; is = refl; due = x.due; free = x.free; running = x.running; awaited = asked.awaited };
      };
      begun = piece-begun (IsWholeAccess kinds g a.made was) x.front own next (CatchesUp g x.before) (after_catch kinds g a.made held a.hinted) 1 x.due asked.begun (after-catch-can kinds g a.made held a.hinted);
    }))

-- a translation serves, or does not
tried-goes : {F M X : Type 0} (kinds : FaultKinds M X) (made_of : F → M) (awaits_of : F → Geometry → View → Own → Action → Type 0) (a : Access F) (served : Bool) (ends : List X) (g : Geometry) (was : Carried X) (view : View) (turns : Turns)
    → serves a.made.touch (entry_of (kept_of a.cache) a.made.vpage) ≡ served → IsBegunWell kinds a g ends
    → IsLeft (IsWholeAccess kinds g a.made was) turns (Sometimes (λ tries. after_catch kinds g a.made (held_of a ends) a.hinted tries (kept_of a.cache)))
    → IsAccessReady g (kept_of a.cache) (view_then g view turns) → IsStepOf kinds made_of awaits_of (record a { stage = tried_stage served }) g was view turns (Give (access_turn a.made (tried_stage served)))
tried-goes kinds made_of awaits_of a true ends g was view turns is well due ready = goes kinds made_of awaits_of a Touching ends g was view turns well
    (tries-as (IsWholeAccess kinds g a.made was) turns (λ tries. after_catch kinds g a.made (held_of a ends) a.hinted tries (kept_of a.cache)) (λ tries. Touches g a.made (held_of a ends)) (λ n. n) due
    (λ tries rest o r. either-yes (serves a.made.touch (entry_of (kept_of a.cache) a.made.vpage)) (Touches g a.made (held_of a ends)) (Translates kinds g a.made tries (held_of a ends) a.hinted) rest o is r))
    (record { ready = ready; served = is })
tried-goes kinds made_of awaits_of a false ends g was view turns is well due ready = goes kinds made_of awaits_of a Peeking ends g was view turns well
    (tries-as (IsWholeAccess kinds g a.made was) turns (λ tries. after_catch kinds g a.made (held_of a ends) a.hinted tries (kept_of a.cache)) (λ tries. Follows (Hears g (Do (Peek a.made.vpage))) (access_left kinds g a.made Peeking (held_of a ends) a.hinted tries)) (λ n. suc n) due
    (λ tries rest o r. either-other (serves a.made.touch (entry_of (kept_of a.cache) a.made.vpage)) (Touches g a.made (held_of a ends)) (Translates kinds g a.made (suc tries) (held_of a ends) a.hinted) rest o is r))
    ready

pub free-as : (g : Geometry) (view later : View) → desk g later ≡ desk g view → HasNothingOpen view → HasNothingOpen later
free-as g view later same h = record { ops = ap (λ (v : View). v.ops) same ∙ h.ops; owned = ap (λ (v : View). v.owned) same ∙ h.owned; turn = ap (λ (v : View). v.turn) same ∙ h.turn }

pub catch-over : {F M X : Type 0} (kinds : FaultKinds M X) (made_of : F → M) (awaits_of : F → Geometry → View → Own → Action → Type 0) (a : Access F) (later : TranslationCache) (heard : Heard) (reply : Reply) (result : Step (Unit {0})) (g : Geometry) (was : Carried X) (view : View) (turns : Turns) (turn : Turn)
    → a.stage ≡ CatchingUp → heard ≡ Answer reply → result ≡ steps.Over tt → Catches a.cache later reply result
    → AwaitsOf kinds made_of awaits_of a g was view turns turn → IsAnswer g (view_then g view turns) turn heard
    → IsStepOf kinds made_of awaits_of (record a { cache = later; stage = tried_stage (serves a.made.touch (entry_of (kept_of later) a.made.vpage)) }) g was view (turns ++ (turn, heard) ∷ [])
    (Give (access_turn a.made (tried_stage (serves a.made.touch (entry_of (kept_of later) a.made.vpage)))))
catch-over {F} {M} {X} kinds made_of awaits_of a later heard reply result g was view turns turn at told is catches h answer =
    let x = at-catch kinds made_of awaits_of a g was view turns turn at h in
    let fits = answer-fits g view x.front turns x.own turn x.action heard reply x.is x.given told answer in
    let own : Own = x.own ++ (x.action, reply) ∷ [] in
    let list = list-more x.front turns x.own turn x.action heard reply x.is x.given told in
    let S : Step (Unit {0}) → Type 0 = λ s. IsCatchStep later x.before g (view_then g view x.front) own s in
    let over : IsCaughtUp later x.before g (view_then g view x.front) own = subst S is (catches x.before g (view_then g view x.front) x.own x.action x.awaited fits) in
    let held : Carried X = record { kept = x.before; ends = h.ends } in
    let b : Access F = record a { cache = later } in
    let served : Bool = serves a.made.touch (entry_of (kept_of later) a.made.vpage) in
    let there = then-own g view x.front own in
    let L : Turns → Type 0 = λ l. IsStepOf kinds made_of awaits_of (record b { stage = tried_stage served }) g was view l (Give (access_turn a.made (tried_stage served))) in
    subst L (sym list) (tried-goes kinds made_of awaits_of b served h.ends g was view (x.front ++ action_turns own) refl (record { same = h.same; may = h.may; counted = h.counted })
    (tries-after (IsWholeAccess kinds g a.made was) x.front (action_turns own) (Acts (CatchesUp g x.before)) (after_catch kinds g a.made held a.hinted) (kept_of later) x.due (record { own = own; is = refl; shown = over.shown }))
    (record {
      all = subst (λ (v : View). IsKeptWith g (kept_of later) v) (sym there) over.all;
      on = over.on;
      free = free-as g (view_then g view x.front) (view_then g view (x.front ++ action_turns own)) (ap (λ (v : View). desk g v) there ∙ over.seat) x.free;
    }))
