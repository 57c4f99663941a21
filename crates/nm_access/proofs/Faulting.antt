-- A fault, with catch ups where it waits.
use Rattle.std.proofs.Common.{◌≡◌, ℕ, Bool, true, false, List, [], ◌∷◌, ◌++◌, IsSome, refl, sym, ap, ◌∙◌, subst, append_assoc}
use Rattle.std.proofs.lemmas.List.{append-nil}
use Rattle.nm_base.specs.Geometry.{Geometry}
use Rattle.nm_action.specs.declared.action.Action.{Action}
use Rattle.nm_action.specs.declared.action.Action.TheVariants.{Poll}
use Rattle.nm_action.specs.declared.action.Reply.{Reply}
use Rattle.nm_action.specs.declared.tally.Tally.{Tally}
use Rattle.nm_action.specs.Tally.{sum_of}
use Rattle.nm_action.specs.declared.turn.Step.{Step}
use Rattle.nm_action.specs.declared.turn.Step.TheVariants as steps
use Rattle.nm_action.specs.declared.turn.Turn.{Turn}
use Rattle.nm_action.specs.declared.turn.Turn.TheVariants.{Do}
use Rattle.nm_action.specs.declared.turn.Heard.{Heard}
use Rattle.nm_action.specs.declared.turn.Heard.TheVariants.{Answer}
use Rattle.nm_action.specs.Own.{Own}
use Rattle.nm_view.specs.Views.{View}
use Rattle.nm_permit.specs.Permitted.{Allowed}
use Rattle.nm_event.specs.Fitting.{Fits}
use Rattle.nm_event.specs.After.{after_of, view_after}
use Rattle.nm_part.specs.Parts.{IsQuiet, IsBegunWith, IsHeard, IsAsked, IsEnded, IsPartStep}
use Rattle.nm_part.specs.Patterns.{Ends, Sometimes, IsLeft, CanEnd}
use Rattle.nm_part.proofs.OwnLemmas.{view-push}
use Rattle.nm_actor.specs.Turns.{Turns}
use Rattle.nm_actor.specs.Actors.{IsAnswer}
use Rattle.nm_desk.specs.Desk.{desk}
use Rattle.nm_desk.specs.Woven.{CatchesWhere, Weaves, WeavesPart}
use Rattle.nm_desk.proofs.AtDesk.{desk-allows, desk-fits, desk-follows, quiet-keeps}
use Rattle.nm_desk.proofs.Weaving.{weaves-next, part-can}
use Rattle.nm_catchup.specs.CatchUp.{Kept, CatchesUp}
use Rattle.nm_catchup.specs.Catching.{kept_of, IsKeptWith, IsCatchAsked, IsCaughtUp, IsCatchStep, IsCatchHeard}
use Rattle.nm_catchup.specs.declared.cache.CatchStage.TheVariants.{Polling}
use Rattle.nm_catchup.specs.declared.cache.TranslationCache.{TranslationCache}
use Rattle.nm_catchup.proofs.Entries.{kept-as}
use Rattle.nm_catchup.proofs.Loops.{catches-up-can}
use Rattle.nm_access.specs.declared.made.AccessMade.{AccessMade}
use Rattle.nm_access.specs.declared.access.Access.{Access}
use Rattle.nm_access.specs.declared.access.AccessStage.{AccessStage}
use Rattle.nm_access.specs.declared.access.AccessStage.TheVariants.{CatchingUp, Faulting, Waiting}
use Rattle.nm_access.specs.declared.access.AccessStep.TheVariants.{Give}
use Rattle.nm_access.specs.Turning.{Acts, action_turns, IsTurnBegun}
use Rattle.nm_access.specs.Faults.{FaultKinds, HasNothingOpen, ends_after}
use Rattle.nm_access.specs.Accesses.{Carried, Accessed, held_faulted, Tries, Translates, IsWholeAccess}
use Rattle.nm_access.specs.Accessing.{view_then, IsInFault, IsFaultGiven, IsAtFault, IsAtWait, IsAtAccessStage, IsCatchingStage, IsAccessHeard}
use Rattle.nm_access.specs.Moving.{AwaitsOf, IsStepOf, IsBegunWell, IsTrying, IsFaulting, IsGiving}
use Rattle.nm_access.proofs.TurnSteps.{tries-after, turns-append, then-own}
use Rattle.nm_access.proofs.Ends.{tries-can}
use Rattle.nm_access.proofs.Trying.{at-catch, catch-more, piece-begun, answer-fits, list-more, poll-awaits, poll-begun, Catches}

-- a fault of this data gives an action
pub record GivesWith {F M X : Type 0} (kinds : FaultKinds M X) (awaits : Geometry → View → Own → Action → Type 0) (a : Access F) (fault : M) (ends : List X) (action : Action) (g : Geometry) (was : Carried X) (view : View) (turns : Turns) : Type 0 where
  pub inner : Own
  pub run : IsInFault kinds a.made a.hinted fault (kept_of a.cache) ends g was view inner turns
  pub gives : IsFaultGiven kinds fault awaits g run.first inner action

-- the translations agree with the view, and something was acknowledged
pub record IsReadyButFree (g : Geometry) (kept : Kept) (view : View) : Type 0 where
  pub all : IsKeptWith g kept view
  pub on : IsSome kept.acked

-- Lists of a fault that can be carried on.

-- with an action of the fault
woven-begun : {S X : Type 0} (catch : S → Own → S → Type 0) (waits : Own → Action → Bool) (shape : Own → X → Type 0) (inner own caught : Own) (kept middle now : S) (action : Action) → ((k : S) → CanEnd (catch k))
    → Weaves catch waits [] inner kept own middle → CatchesWhere catch (waits inner action) middle caught now → IsBegunWith shape inner action → IsBegunWith (WeavesPart catch waits shape kept) (own ++ caught) action
woven-begun {S} {X} catch waits shape inner own caught kept middle now action can woven catches begun =
    let next = weaves-next catch waits inner kept middle now own caught action begun.reply woven catches in
    let end = part-can catch waits shape (inner ++ (action, begun.reply) ∷ []) kept now (own ++ (caught ++ (action, begun.reply) ∷ [])) next begun.begun can in
    record {
      reply = begun.reply;
      begun = record { rest = end.rest; outcome = end.outcome; whole = subst (λ (l : Own). WeavesPart catch waits shape kept (l ++ end.rest) end.outcome) (sym (append_assoc own caught ((action, begun.reply) ∷ []))) end.shown };
    }

regroup : (own caught more back : Own) (action waiting : Action) (reply told : Reply)
    → ((own ++ ((caught ++ (action, reply) ∷ []) ++ more)) ++ (waiting, told) ∷ []) ++ back ≡ ((own ++ caught) ++ (action, reply) ∷ []) ++ (more ++ ((waiting, told) ∷ back))
regroup own caught more back action waiting reply told = simp append_assoc

-- with an action of a catch up that is made before an action of the fault
wait-begun : {S X : Type 0} (catch : S → Own → S → Type 0) (waits : Own → Action → Bool) (shape : Own → X → Type 0) (inner own caught : Own) (kept middle : S) (waiting action : Action) → ((k : S) → CanEnd (catch k))
    → Weaves catch waits [] inner kept own middle → waits inner waiting ≡ true → IsBegunWith (catch middle) caught action → IsBegunWith shape inner waiting → IsBegunWith (WeavesPart catch waits shape kept) (own ++ caught) action
wait-begun {S} {X} catch waits shape inner own caught kept middle waiting action can woven due c begun =
    let all : Own = (caught ++ (action, c.reply) ∷ []) ++ c.begun.rest in
    let catches : CatchesWhere catch (waits inner waiting) middle all c.begun.outcome = subst (λ (b : Bool). CatchesWhere catch b middle all c.begun.outcome) (sym due) c.begun.whole in
    let w = woven-begun catch waits shape inner own all kept middle c.begun.outcome waiting can woven catches begun in
    record {
      reply = c.reply;
      begun = record {
        rest = c.begun.rest ++ ((waiting, w.reply) ∷ w.begun.rest);
        outcome = w.begun.outcome;
        whole = subst (λ (l : Own). WeavesPart catch waits shape kept l w.begun.outcome) (regroup own caught c.begun.rest w.begun.rest action waiting c.reply w.reply) w.begun.whole;
      };
    }

-- An action of a fault is given.

-- what comes after a fault
abbrev pub after_fault : {M X : Type 0} → FaultKinds M X → Geometry → AccessMade → Carried X → Bool → ℕ → X × Kept → Turns → Accessed X → Type 0
after_fault kinds g made held hinted tries end = Tries g made (Translates kinds g made tries) (held_faulted end held) hinted

join-turns : (front turns : Turns) (own caught : Own) → turns ≡ front ++ action_turns own → front ++ action_turns (own ++ caught) ≡ turns ++ action_turns caught
join-turns front turns own caught is = rw is (simp (turns-append, append_assoc))

-- after the catch up, if there was one, an action of the fault is given
pub fault-goes : {F M X : Type 0} (kinds : FaultKinds M X) (made_of : F → M) (awaits_of : F → Geometry → View → Own → Action → Type 0) (a : Access F) (middle : Kept) (ends : List X) (inner caught : Own) (action : Action) (g : Geometry) (was : Carried X) (view : View) (turns : Turns)
    → IsBegunWell kinds a g ends → (run : IsInFault kinds a.made a.hinted (made_of a.fault) middle ends g was view inner turns) → CatchesWhere (CatchesUp g) (kinds.waits inner action) middle caught (kept_of a.cache)
    → desk g (view_then g view (turns ++ action_turns caught)) ≡ view_after g run.first inner → IsReadyButFree g (kept_of a.cache) (view_then g view (turns ++ action_turns caught))
    → IsFaultGiven kinds (made_of a.fault) (awaits_of a.fault) g run.first inner action
    → IsStepOf kinds made_of awaits_of (record a { stage = Faulting }) g was view (turns ++ action_turns caught) (Give (Do action))
fault-goes {F} {M} {X} kinds made_of awaits_of a middle ends inner caught action g was view turns well run catches seat ready gives =
    let held : Carried X = record { kept = run.before; ends = ends } in
    let now = view_then g view (turns ++ action_turns caught) in
    let T : Turns → Type 0 = λ l. IsTurnBegun (IsWholeAccess kinds g a.made was) l (Do action) in
    record {
      permitted = desk-allows g now action gives.quiet (subst (λ (v : View). Allowed g v action) (sym seat) gives.permitted);
      awaited = record {
        same = well.same;
        may = well.may;
        ends = ends;
        counted = well.counted;
        at = record { middle = middle; before = turns; inner = inner; run = run; caught = caught; action = action; given = refl; is = refl; catches = catches; seat = seat; all = ready.all; on = ready.on; gives = gives };
      };
      begun = subst T (join-turns run.front turns run.own caught run.is)
          (piece-begun (IsWholeAccess kinds g a.made was) run.front (run.own ++ caught) action (WeavesPart (CatchesUp g) kinds.waits (kinds.shape (made_of a.fault) g) run.before) (after_fault kinds g a.made held a.hinted) 1 run.due
          (woven-begun (CatchesUp g) kinds.waits (kinds.shape (made_of a.fault) g) inner run.own caught run.before middle (kept_of a.cache) action (catches-up-can g) run.woven catches gives.begun)
          (λ end. tries-can kinds g a.made (held_faulted end held) a.hinted));
    }

-- the fault does not wait
pub give-goes : {F M X : Type 0} (kinds : FaultKinds M X) (made_of : F → M) (awaits_of : F → Geometry → View → Own → Action → Type 0) (a : Access F) (action : Action) (waited : Bool) (g : Geometry) (was : Carried X) (view : View) (turns : Turns)
    → waited ≡ false → ((g : Geometry) (view : View) (own : Own) (x : Action) → awaits_of a.fault g view own x → waited ≡ kinds.waits own x)
    → IsGiving kinds made_of awaits_of a action g was view turns → IsStepOf kinds made_of awaits_of (record a { stage = Faulting }) g was view turns (Give (Do action))
give-goes {F} {M} {X} kinds made_of awaits_of a action waited g was view turns not tells h =
    let off : kinds.waits h.inner action ≡ false = sym (tells g h.run.first h.inner action h.gives.awaited) ∙ not in
    let L : Turns → Type 0 = λ l. IsStepOf kinds made_of awaits_of (record a { stage = Faulting }) g was view l (Give (Do action)) in
    let S : Turns → Type 0 = λ l. desk g (view_then g view l) ≡ view_after g h.run.first h.inner in
    let R : Turns → Type 0 = λ l. IsReadyButFree g (kept_of a.cache) (view_then g view l) in
    let none : Ends {E = Action × Reply} (kept_of a.cache) [] (kept_of a.cache) = record { none = refl; is = refl } in
    subst L (append-nil turns) (fault-goes kinds made_of awaits_of a (kept_of a.cache) h.ends h.inner [] action g was view turns h.well h.run
    (subst (λ (b : Bool). CatchesWhere (CatchesUp g) b (kept_of a.cache) [] (kept_of a.cache)) (sym off) none)
    (subst S (sym (append-nil turns)) h.run.seat) (subst R (sym (append-nil turns)) (record { all = h.run.all; on = h.run.on })) h.gives)

-- the fault waits: the processor catches up first
pub give-waits : {F M X : Type 0} (kinds : FaultKinds M X) (made_of : F → M) (awaits_of : F → Geometry → View → Own → Action → Type 0) (a : Access F) (cache : TranslationCache) (waiting poll : Action) (waited : Bool) (g : Geometry) (was : Carried X) (view : View) (turns : Turns)
    → kept_of cache ≡ kept_of a.cache → cache.stage ≡ Polling → poll ≡ Poll → waited ≡ true → ((g : Geometry) (view : View) (own : Own) (x : Action) → awaits_of a.fault g view own x → waited ≡ kinds.waits own x)
    → IsGiving kinds made_of awaits_of a waiting g was view turns → IsStepOf kinds made_of awaits_of (record a { cache = cache; stage = Waiting waiting }) g was view turns (Give (Do poll))
give-waits {F} {M} {X} kinds made_of awaits_of a cache waiting poll waited g was view turns same at polls waits_now tells h =
    let kept = kept_of a.cache in
    let run = h.run in
    let held : Carried X = record { kept = run.before; ends = h.ends } in
    let due : kinds.waits h.inner waiting ≡ true = sym (tells g run.first h.inner waiting h.gives.awaited) ∙ waits_now in
    let P : Action → Type 0 = λ x. IsStepOf kinds made_of awaits_of (record a { cache = cache; stage = Waiting waiting }) g was view turns (Give (Do x)) in
    let T : Turns → Type 0 = λ l. IsTurnBegun (IsWholeAccess kinds g a.made was) l (Do Poll) in
    subst P (sym polls) (record {
      permitted = record { range = tt; permitted = run.all.processor };
      awaited = record {
        same = h.well.same;
        may = h.well.may;
        ends = h.ends;
        counted = h.well.counted;
        at = record { middle = kept; before = turns; inner = h.inner; run = run; waits = due; gives = h.gives; own = []; action = Poll; given = refl; is = sym (append-nil turns); awaited = poll-awaits cache kept g (view_then g view turns) at same run.all };
      };
      begun = subst T (join-turns run.front turns run.own [] run.is ∙ append-nil turns)
          (piece-begun (IsWholeAccess kinds g a.made was) run.front (run.own ++ []) Poll (WeavesPart (CatchesUp g) kinds.waits (kinds.shape (made_of a.fault) g) run.before) (after_fault kinds g a.made held a.hinted) 1 run.due
          (wait-begun (CatchesUp g) kinds.waits (kinds.shape (made_of a.fault) g) h.inner run.own [] run.before kept waiting Poll (catches-up-can g) run.woven due (poll-begun g kept) h.gives.begun)
          (λ end. tries-can kinds g a.made (held_faulted end held) a.hinted));
    })

-- The catch up before an action of a fault.

at-wait : {F M X : Type 0} (kinds : FaultKinds M X) (made_of : F → M) (awaits_of : F → Geometry → View → Own → Action → Type 0) (a : Access F) (waiting : Action) (g : Geometry) (was : Carried X) (view : View) (turns : Turns) (turn : Turn)
    → a.stage ≡ Waiting waiting → (h : AwaitsOf kinds made_of awaits_of a g was view turns turn) → IsAtWait kinds a.made a.hinted (made_of a.fault) (awaits_of a.fault) waiting a.cache h.ends g was view turns turn
at-wait kinds made_of awaits_of a waiting g was view turns turn at h =
    subst (λ (s : AccessStage). IsAtAccessStage kinds a.made s a.hinted (made_of a.fault) (awaits_of a.fault) a.cache h.ends g was view turns turn) at h.at

pub wait-more : {F M X : Type 0} (kinds : FaultKinds M X) (made_of : F → M) (awaits_of : F → Geometry → View → Own → Action → Type 0) (a : Access F) (waiting : Action) (later : TranslationCache) (heard : Heard) (reply : Reply) (result : Step (Unit {0})) (next : Action) (g : Geometry) (was : Carried X) (view : View) (turns : Turns) (turn : Turn)
    → a.stage ≡ Waiting waiting → heard ≡ Answer reply → result ≡ steps.Do next → Catches a.cache later reply result
    → AwaitsOf kinds made_of awaits_of a g was view turns turn → IsAnswer g (view_then g view turns) turn heard
    → IsStepOf kinds made_of awaits_of (record a { cache = later }) g was view (turns ++ (turn, heard) ∷ []) (Give (Do next))
wait-more {F} {M} {X} kinds made_of awaits_of a waiting later heard reply result next g was view turns turn at told is catches h answer =
    let x = at-wait kinds made_of awaits_of a waiting g was view turns turn at h in
    let run = x.run in
    let fits = answer-fits g view x.before turns x.own turn x.action heard reply x.is x.given told answer in
    let own : Own = x.own ++ (x.action, reply) ∷ [] in
    let list = list-more x.before turns x.own turn x.action heard reply x.is x.given told in
    let S : Step (Unit {0}) → Type 0 = λ s. IsCatchStep later x.middle g (view_then g view x.before) own s in
    let asked : IsCatchAsked later x.middle g (view_then g view x.before) own next = subst S is (catches x.middle g (view_then g view x.before) x.own x.action x.awaited fits) in
    let held : Carried X = record { kept = run.before; ends = h.ends } in
    let T : Turns → Type 0 = λ l. IsTurnBegun (IsWholeAccess kinds g a.made was) l (Do next) in
    let L : Turns → Type 0 = λ l. IsStepOf kinds made_of awaits_of (record a { cache = later; stage = Waiting waiting }) g was view l (Give (Do next)) in
    let G : AccessStage → Type 0 = λ s. IsStepOf kinds made_of awaits_of (record a { cache = later; stage = s }) g was view (turns ++ (turn, heard) ∷ []) (Give (Do next)) in
    subst G (sym at) (subst L (sym list) (record {
      permitted = subst (λ (v : View). Allowed g v next) (sym (then-own g view x.before own)) asked.permitted;
      awaited = record {
        same = h.same;
        may = h.may;
        ends = h.ends;
        counted = h.counted;
        at = record { middle = x.middle; before = x.before; inner = x.inner; run = run; waits = x.waits; gives = x.gives; own = own; action = next; given = refl; is = refl; awaited = asked.awaited };
      };
      begun = subst T (join-turns run.front x.before run.own own run.is)
          (piece-begun (IsWholeAccess kinds g a.made was) run.front (run.own ++ own) next (WeavesPart (CatchesUp g) kinds.waits (kinds.shape (made_of a.fault) g) run.before) (after_fault kinds g a.made held a.hinted) 1 run.due
          (wait-begun (CatchesUp g) kinds.waits (kinds.shape (made_of a.fault) g) x.inner run.own own run.before x.middle waiting next (catches-up-can g) run.woven x.waits asked.begun x.gives.begun)
          (λ end. tries-can kinds g a.made (held_faulted end held) a.hinted));
    }))

pub wait-over : {F M X : Type 0} (kinds : FaultKinds M X) (made_of : F → M) (awaits_of : F → Geometry → View → Own → Action → Type 0) (a : Access F) (waiting : Action) (later : TranslationCache) (heard : Heard) (reply : Reply) (result : Step (Unit {0})) (g : Geometry) (was : Carried X) (view : View) (turns : Turns) (turn : Turn)
    → a.stage ≡ Waiting waiting → heard ≡ Answer reply → result ≡ steps.Over tt → Catches a.cache later reply result
    → AwaitsOf kinds made_of awaits_of a g was view turns turn → IsAnswer g (view_then g view turns) turn heard
    → IsStepOf kinds made_of awaits_of (record a { cache = later; stage = Faulting }) g was view (turns ++ (turn, heard) ∷ []) (Give (Do waiting))
wait-over {F} {M} {X} kinds made_of awaits_of a waiting later heard reply result g was view turns turn at told is catches h answer =
    let x = at-wait kinds made_of awaits_of a waiting g was view turns turn at h in
    let run = x.run in
    let fits = answer-fits g view x.before turns x.own turn x.action heard reply x.is x.given told answer in
    let own : Own = x.own ++ (x.action, reply) ∷ [] in
    let list = list-more x.before turns x.own turn x.action heard reply x.is x.given told in
    let S : Step (Unit {0}) → Type 0 = λ s. IsCatchStep later x.middle g (view_then g view x.before) own s in
    let over : IsCaughtUp later x.middle g (view_then g view x.before) own = subst S is (catches x.middle g (view_then g view x.before) x.own x.action x.awaited fits) in
    let there = then-own g view x.before own in
    let b : Access F = record a { cache = later } in
    let L : Turns → Type 0 = λ l. IsStepOf kinds made_of awaits_of (record b { stage = Faulting }) g was view l (Give (Do waiting)) in
    subst L (sym list) (fault-goes kinds made_of awaits_of b x.middle h.ends x.inner own waiting g was view x.before (record { same = h.same; may = h.may; counted = h.counted }) run
    (subst (λ (w : Bool). CatchesWhere (CatchesUp g) w x.middle own (kept_of later)) (sym x.waits) over.shown)
    (ap (λ (v : View). desk g v) there ∙ (over.seat ∙ run.seat))
    (record { all = subst (λ (v : View). IsKeptWith g (kept_of later) v) (sym there) over.all; on = over.on }) x.gives)

-- An action of a fault was answered.

at-fault : {F M X : Type 0} (kinds : FaultKinds M X) (made_of : F → M) (awaits_of : F → Geometry → View → Own → Action → Type 0) (a : Access F) (g : Geometry) (was : Carried X) (view : View) (turns : Turns) (turn : Turn)
    → a.stage ≡ Faulting → (h : AwaitsOf kinds made_of awaits_of a g was view turns turn) → IsAtFault kinds a.made a.hinted (made_of a.fault) (awaits_of a.fault) (kept_of a.cache) h.ends g was view turns turn
at-fault kinds made_of awaits_of a g was view turns turn at h =
    subst (λ (s : AccessStage). IsAtAccessStage kinds a.made s a.hinted (made_of a.fault) (awaits_of a.fault) a.cache h.ends g was view turns turn) at h.at

quiet-kept : (g : Geometry) (kept : Kept) (view : View) (action : Action) (reply : Reply) → IsQuiet action → IsKeptWith g kept view → IsKeptWith g kept (after_of g view action reply)
quiet-kept g kept view action reply quiet h =
    let k = quiet-keeps g view action reply quiet in
    kept-as g kept view (after_of g view action reply) (ap (λ (v : View). v.number) k) (ap (λ (v : View). v.cache) k) (ap (λ (v : View). v.acked) k) h

-- the answer to an action of a fault fits at the desk
fault-fits : {M X : Type 0} (kinds : FaultKinds M X) (made : AccessMade) (hinted : Bool) (fault : M) (awaits : Geometry → View → Own → Action → Type 0) (kept : Kept) (ends : List X) (heard : Heard) (reply : Reply) (g : Geometry) (was : Carried X) (view : View) (turns : Turns) (turn : Turn)
    → heard ≡ Answer reply → (x : IsAtFault kinds made hinted fault awaits kept ends g was view turns turn) → IsAnswer g (view_then g view turns) turn heard → Fits g (view_after g x.run.first x.inner) x.action reply
fault-fits kinds made hinted fault awaits kept ends heard reply g was view turns turn told x answer =
    let here = then-own g view x.before x.caught in
    let now = view_after g (view_then g view x.before) x.caught in
    let fits : Fits g now x.action reply = answer-fits g view x.before turns x.caught turn x.action heard reply x.is x.given told answer in
    let V : View → Type 0 = λ v. desk g v ≡ view_after g x.run.first x.inner in
    let T : Turns → Type 0 = λ l. V (view_then g view l) in
    let seat : desk g now ≡ view_after g x.run.first x.inner = subst V here (subst T x.is x.seat) in
    subst (λ (v : View). Fits g v x.action reply) seat (desk-fits g now x.action reply x.gives.quiet fits)

-- what the fault needs to hear
pub faulted-heard : {F M X : Type 0} (kinds : FaultKinds M X) (made_of : F → M) (awaits_of : F → Geometry → View → Own → Action → Type 0) (a : Access F) (reply : Reply)
    → a.stage ≡ Faulting → IsAccessHeard (AwaitsOf kinds made_of awaits_of a) (Answer reply) → IsHeard (awaits_of a.fault) reply
faulted-heard kinds made_of awaits_of a reply at h =
    let x = at-fault kinds made_of awaits_of a h.geometry h.was h.view h.turns h.turn at h.awaited in
    record { geometry = h.geometry; view = x.run.first; own = x.inner; action = x.action; awaited = x.gives.awaited; fits = fault-fits kinds a.made a.hinted (made_of a.fault) (awaits_of a.fault) (kept_of a.cache) h.awaited.ends (Answer reply) reply h.geometry h.was h.view h.turns h.turn refl x h.answer }

-- what is known then
pub record FaultHeard {F M X : Type 0} (kinds : FaultKinds M X) (awaits later : Geometry → View → Own → Action → Type 0) (ended : Geometry → Own → X → Type 0) (a : Access F) (fault : M) (ends : List X) (result : Step X) (g : Geometry) (was : Carried X) (view : View) (turns : Turns) : Type 0 where
  pub inner : Own
  pub run : IsInFault kinds a.made a.hinted fault (kept_of a.cache) ends g was view inner turns
  pub step : IsPartStep later (kinds.shape fault) (kinds.leaves fault) ended g run.first inner result

fault-list : (front before turns : Turns) (own caught : Own) (turn : Turn) (action : Action) (heard : Heard) (reply : Reply) → before ≡ front ++ action_turns own → turns ++ (turn, heard) ∷ [] ≡ before ++ action_turns (caught ++ (action, reply) ∷ [])
    → turns ++ (turn, heard) ∷ [] ≡ front ++ action_turns (own ++ (caught ++ (action, reply) ∷ []))
fault-list front before turns own caught turn action heard reply is list = list ∙ sym (join-turns front before own (caught ++ (action, reply) ∷ []) is)

pub fault-heard : {F M X : Type 0} (kinds : FaultKinds M X) (made_of : F → M) (awaits_of : F → Geometry → View → Own → Action → Type 0) (later : Geometry → View → Own → Action → Type 0) (ended : Geometry → Own → X → Type 0) (a : Access F) (heard : Heard) (reply : Reply) (result : Step X) (g : Geometry) (was : Carried X) (view : View) (turns : Turns) (turn : Turn)
    → a.stage ≡ Faulting → heard ≡ Answer reply
    → ((g : Geometry) (v : View) (own : Own) (action : Action) → awaits_of a.fault g v own action → Fits g (view_after g v own) action reply → IsPartStep later (kinds.shape (made_of a.fault)) (kinds.leaves (made_of a.fault)) ended g v (own ++ (action, reply) ∷ []) result)
    → (h : AwaitsOf kinds made_of awaits_of a g was view turns turn) → IsAnswer g (view_then g view turns) turn heard
    → FaultHeard kinds (awaits_of a.fault) later ended a (made_of a.fault) h.ends result g was view (turns ++ (turn, heard) ∷ [])
fault-heard {F} {M} {X} kinds made_of awaits_of later ended a heard reply result g was view turns turn at told after h answer =
    let x = at-fault kinds made_of awaits_of a g was view turns turn at h in
    let run = x.run in
    let here = then-own g view x.before x.caught in
    let now = view_after g (view_then g view x.before) x.caught in
    let fits : Fits g now x.action reply = answer-fits g view x.before turns x.caught turn x.action heard reply x.is x.given told answer in
    let V : View → Type 0 = λ v. desk g v ≡ view_after g run.first x.inner in
    let T : Turns → Type 0 = λ l. V (view_then g view l) in
    let seat : desk g now ≡ view_after g run.first x.inner = subst V here (subst T x.is x.seat) in
    let inside : Fits g (view_after g run.first x.inner) x.action reply = subst (λ (v : View). Fits g v x.action reply) seat (desk-fits g now x.action reply x.gives.quiet fits) in
    let list = list-more x.before turns x.caught turn x.action heard reply x.is x.given told in
    let later_view : view_then g view (turns ++ (turn, heard) ∷ []) ≡ after_of g now x.action reply =
    ap (λ (l : Turns). view_then g view l) list ∙ (then-own g view x.before (x.caught ++ (x.action, reply) ∷ []) ∙ view-push g (view_then g view x.before) x.caught x.action reply) in
    let all : IsKeptWith g (kept_of a.cache) now = subst (λ (v : View). IsKeptWith g (kept_of a.cache) v) here (subst (λ (l : Turns). IsKeptWith g (kept_of a.cache) (view_then g view l)) x.is x.all) in
    record {
      inner = x.inner ++ (x.action, reply) ∷ [];
      run = record {
        before = run.before;
        front = run.front;
        own = run.own ++ (x.caught ++ (x.action, reply) ∷ []);
        is = fault-list run.front x.before turns run.own x.caught turn x.action heard reply run.is list;
        due = run.due;
        frees = run.frees;
        woven = weaves-next (CatchesUp g) kinds.waits x.inner run.before x.middle (kept_of a.cache) run.own x.caught x.action reply run.woven x.catches;
        first = run.first;
        first_is = run.first_is;
        seat = ap (λ (v : View). desk g v) later_view ∙ (desk-follows g now x.action reply x.gives.quiet ∙ (ap (λ (v : View). after_of g v x.action reply) seat ∙ sym (view-push g run.first x.inner x.action reply)));
        all = subst (λ (v : View). IsKeptWith g (kept_of a.cache) v) (sym later_view) (quiet-kept g (kept_of a.cache) now x.action reply x.gives.quiet all);
        on = x.on;
      };
      step = after g run.first x.inner x.action x.gives.awaited inside;
    }

-- the fault goes on
pub fault-gives : {F M X : Type 0} (kinds : FaultKinds M X) (made_of : F → M) (awaits_of : F → Geometry → View → Own → Action → Type 0) (ended : Geometry → Own → X → Type 0) (a : Access F) (fault : F) (heard : Heard) (reply : Reply) (result : Step X) (next : Action) (g : Geometry) (was : Carried X) (view : View) (turns : Turns) (turn : Turn)
    → a.stage ≡ Faulting → heard ≡ Answer reply → result ≡ steps.Do next → made_of fault ≡ made_of a.fault
    → ((g : Geometry) (v : View) (own : Own) (action : Action) → awaits_of a.fault g v own action → Fits g (view_after g v own) action reply → IsPartStep (awaits_of fault) (kinds.shape (made_of a.fault)) (kinds.leaves (made_of a.fault)) ended g v (own ++ (action, reply) ∷ []) result)
    → AwaitsOf kinds made_of awaits_of a g was view turns turn → IsAnswer g (view_then g view turns) turn heard
    → IsGiving kinds made_of awaits_of (record a { fault = fault }) next g was view (turns ++ (turn, heard) ∷ [])
fault-gives {F} {M} {X} kinds made_of awaits_of ended a fault heard reply result next g was view turns turn at told is same after h answer =
    let x = fault-heard kinds made_of awaits_of (awaits_of fault) ended a heard reply result g was view turns turn at told after h answer in
    let l = turns ++ (turn, heard) ∷ [] in
    let S : Step X → Type 0 = λ s. IsPartStep (awaits_of fault) (kinds.shape (made_of a.fault)) (kinds.leaves (made_of a.fault)) ended g x.run.first x.inner s in
    let asked : IsAsked (awaits_of fault) (kinds.shape (made_of a.fault)) g x.run.first x.inner next = subst S is x.step in
    let R : M → Type 0 = λ m. GivesWith kinds (awaits_of fault) a m h.ends next g was view l in
    let all : GivesWith kinds (awaits_of fault) a (made_of fault) h.ends next g was view l = subst R (sym same) (record { inner = x.inner; run = x.run; gives = record { quiet = asked.quiet; permitted = asked.permitted; awaited = asked.awaited; begun = asked.begun } }) in
    record { ends = h.ends; well = record { same = h.same; may = h.may; counted = h.counted }; inner = all.inner; run = all.run; gives = all.gives }

ends-push : {X : Type 0} (counts : X → Tally) (tally : Tally) (ends : List X) (end : X) → ends_after counts tally (ends ++ end ∷ []) ≡ sum_of (ends_after counts tally ends) (counts end)
ends-push counts tally [] end = refl
ends-push counts tally (e ∷ ends) end = ends-push counts (sum_of tally (counts e)) ends end

-- the fault is over
pub fault-over : {F M X : Type 0} (kinds : FaultKinds M X) (made_of : F → M) (awaits_of : F → Geometry → View → Own → Action → Type 0) (ended : Geometry → Own → X → Type 0) (a : Access F) (fault : F) (tally : Tally) (heard : Heard) (reply : Reply) (result : Step X) (end : X) (g : Geometry) (was : Carried X) (view : View) (turns : Turns) (turn : Turn)
    → a.stage ≡ Faulting → heard ≡ Answer reply → result ≡ steps.Over end → tally ≡ sum_of a.tally (kinds.counts end)
    → ((g : Geometry) (v : View) (own : Own) (action : Action) → awaits_of a.fault g v own action → Fits g (view_after g v own) action reply → IsPartStep (awaits_of fault) (kinds.shape (made_of a.fault)) (kinds.leaves (made_of a.fault)) ended g v (own ++ (action, reply) ∷ []) result)
    → AwaitsOf kinds made_of awaits_of a g was view turns turn → IsAnswer g (view_then g view turns) turn heard
    → IsTrying kinds (record a { fault = fault; tally = tally }) g was view (turns ++ (turn, heard) ∷ [])
fault-over {F} {M} {X} kinds made_of awaits_of ended a fault tally heard reply result end g was view turns turn at told is counts after h answer =
    let x = fault-heard kinds made_of awaits_of (awaits_of fault) ended a heard reply result g was view turns turn at told after h answer in
    let run = x.run in
    let l = turns ++ (turn, heard) ∷ [] in
    let S : Step X → Type 0 = λ s. IsPartStep (awaits_of fault) (kinds.shape (made_of a.fault)) (kinds.leaves (made_of a.fault)) ended g run.first x.inner s in
    let over : IsEnded (kinds.shape (made_of a.fault)) (kinds.leaves (made_of a.fault)) ended g run.first x.inner end = subst S is x.step in
    let held : Carried X = record { kept = run.before; ends = h.ends } in
    let free : HasNothingOpen (view_after g run.first x.inner) = run.frees run.first (view_after g run.first x.inner) end over.left in
    let D : Turns → Type 0 = λ t. IsLeft (IsWholeAccess kinds g a.made was) t (Sometimes (λ tries. after_fault kinds g a.made held a.hinted tries (end, kept_of a.cache))) in
    record {
      ends = h.ends ++ end ∷ [];
      well = record { same = h.same; may = h.may; counted = counts ∙ (ap (λ (t : Tally). sum_of t (kinds.counts end)) h.counted ∙ sym (ends-push kinds.counts _ h.ends end)) };
      due = subst D (sym run.is) (tries-after (IsWholeAccess kinds g a.made was) run.front (action_turns run.own) (Acts (WeavesPart (CatchesUp g) kinds.waits (kinds.shape (made_of a.fault) g) run.before)) (after_fault kinds g a.made held a.hinted) (end, kept_of a.cache) run.due
          (record { own = run.own; is = refl; shown = record { inner = x.inner; shown = over.shown; woven = run.woven } }));
      ready = record {
        all = run.all;
        on = run.on;
        free = record { ops = ap (λ (v : View). v.ops) run.seat ∙ free.ops; owned = ap (λ (v : View). v.owned) run.seat ∙ free.owned; turn = ap (λ (v : View). v.turn) run.seat ∙ free.turn };
      };
    }

-- A fault begins.

pub fault-starts : {F M X : Type 0} (kinds : FaultKinds M X) (made_of : F → M) (awaits_of : F → Geometry → View → Own → Action → Type 0) (may_begin : M → Geometry → View → Type 0) (a : Access F) (fault started : F) (action : Action) (g : Geometry) (was : Carried X) (view : View) (turns : Turns)
    → made_of started ≡ made_of fault
    → ((g : Geometry) (view : View) → may_begin (made_of fault) g view → IsAsked (awaits_of started) (kinds.shape (made_of fault)) g view [] action)
    → IsFaulting kinds a (made_of fault) g was view turns → may_begin (made_of fault) g (desk g (view_then g view turns)) → ((now left : View) (end : X) → kinds.leaves (made_of fault) g now end left → HasNothingOpen left)
    → IsGiving kinds made_of awaits_of (record a { fault = started }) action g was view turns
fault-starts {F} {M} {X} kinds made_of awaits_of may_begin a fault started action g was view turns same starts h may frees =
    let asked = starts g (desk g (view_then g view turns)) may in
    let R : M → Type 0 = λ m. GivesWith kinds (awaits_of started) a m h.ends action g was view turns in
    let all : GivesWith kinds (awaits_of started) a (made_of started) h.ends action g was view turns = subst R (sym same) (record {
      inner = [];
      run = record {
        before = kept_of a.cache;
        front = turns;
        own = [];
        is = sym (append-nil turns);
        due = h.due;
        frees = frees;
        woven = record { none = refl; is = refl };
        first = desk g (view_then g view turns);
        first_is = refl;
        seat = refl;
        all = h.ready.all;
        on = h.ready.on;
      };
      gives = record { quiet = asked.quiet; permitted = asked.permitted; awaited = asked.awaited; begun = asked.begun };
    }) in
    record { ends = h.ends; well = record { same = h.well.same; may = h.well.may; counted = h.well.counted }; inner = all.inner; run = all.run; gives = all.gives }

-- The catch up of either kind.

caught-at : {F M X : Type 0} (kinds : FaultKinds M X) (made_of : F → M) (awaits_of : F → Geometry → View → Own → Action → Type 0) (a : Access F) (stage : AccessStage) (reply : Reply) → a.stage ≡ stage → IsCatchingStage stage
    → IsAccessHeard (AwaitsOf kinds made_of awaits_of a) (Answer reply) → IsCatchHeard a.cache reply
caught-at kinds made_of awaits_of a CatchingUp reply at may h =
    let x = at-catch kinds made_of awaits_of a h.geometry h.was h.view h.turns h.turn at h.awaited in
    record { was = x.before; geometry = h.geometry; view = view_then h.geometry h.view x.front; own = x.own; action = x.action; awaited = x.awaited; fits = answer-fits h.geometry h.view x.front h.turns x.own h.turn x.action (Answer reply) reply x.is x.given refl h.answer }
caught-at kinds made_of awaits_of a (Waiting waiting) reply at may h =
    let x = at-wait kinds made_of awaits_of a waiting h.geometry h.was h.view h.turns h.turn at h.awaited in
    record { was = x.middle; geometry = h.geometry; view = view_then h.geometry h.view x.before; own = x.own; action = x.action; awaited = x.awaited; fits = answer-fits h.geometry h.view x.before h.turns x.own h.turn x.action (Answer reply) reply x.is x.given refl h.answer }
caught-at kinds made_of awaits_of a stage reply at may h = absurd may

pub caught-heard : {F M X : Type 0} (kinds : FaultKinds M X) (made_of : F → M) (awaits_of : F → Geometry → View → Own → Action → Type 0) (a : Access F) (reply : Reply) → IsCatchingStage a.stage
    → IsAccessHeard (AwaitsOf kinds made_of awaits_of a) (Answer reply) → IsCatchHeard a.cache reply
caught-heard kinds made_of awaits_of a reply may h = caught-at kinds made_of awaits_of a a.stage reply refl may h

more-at : {F M X : Type 0} (kinds : FaultKinds M X) (made_of : F → M) (awaits_of : F → Geometry → View → Own → Action → Type 0) (a : Access F) (stage : AccessStage) (later : TranslationCache) (reply : Reply) (result : Step (Unit {0})) (next : Action) (g : Geometry) (was : Carried X) (view : View) (turns : Turns) (turn : Turn)
    → a.stage ≡ stage → IsCatchingStage stage → result ≡ steps.Do next → Catches a.cache later reply result
    → AwaitsOf kinds made_of awaits_of a g was view turns turn → IsAnswer g (view_then g view turns) turn (Answer reply)
    → IsStepOf kinds made_of awaits_of (record a { cache = later }) g was view (turns ++ (turn, Answer reply) ∷ []) (Give (Do next))
more-at kinds made_of awaits_of a CatchingUp later reply result next g was view turns turn at may is catches h answer = catch-more kinds made_of awaits_of a later (Answer reply) reply result next g was view turns turn at refl is catches h answer
more-at kinds made_of awaits_of a (Waiting waiting) later reply result next g was view turns turn at may is catches h answer = wait-more kinds made_of awaits_of a waiting later (Answer reply) reply result next g was view turns turn at refl is catches h answer
more-at kinds made_of awaits_of a stage later reply result next g was view turns turn at may is catches h answer = absurd may

pub caught-more : {F M X : Type 0} (kinds : FaultKinds M X) (made_of : F → M) (awaits_of : F → Geometry → View → Own → Action → Type 0) (a : Access F) (later : TranslationCache) (reply : Reply) (result : Step (Unit {0})) (next : Action) (g : Geometry) (was : Carried X) (view : View) (turns : Turns) (turn : Turn)
    → IsCatchingStage a.stage → result ≡ steps.Do next → Catches a.cache later reply result
    → AwaitsOf kinds made_of awaits_of a g was view turns turn → IsAnswer g (view_then g view turns) turn (Answer reply)
    → IsStepOf kinds made_of awaits_of (record a { cache = later }) g was view (turns ++ (turn, Answer reply) ∷ []) (Give (Do next))
caught-more kinds made_of awaits_of a later reply result next g was view turns turn may is catches h answer = more-at kinds made_of awaits_of a a.stage later reply result next g was view turns turn refl may is catches h answer
