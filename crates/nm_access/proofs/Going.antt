-- The stages of one turn.
use Rattle.std.proofs.Common.{◌≡◌, Bool, true, List, [], ◌∷◌, ◌++◌, refl, sym, subst}
use Rattle.nm_base.specs.Geometry.{Geometry}
use Rattle.nm_action.specs.declared.action.Action.{Action}
use Rattle.nm_action.specs.declared.action.Action.TheVariants.{Look, Walk, Peek, Soften, Mark}
use Rattle.nm_action.specs.declared.action.Bit.TheVariants.{Hint}
use Rattle.nm_action.specs.declared.action.Reply.TheVariants.{Done, Word, Lost}
use Rattle.nm_action.specs.declared.turn.Lane.TheVariants.{Candidates}
use Rattle.nm_action.specs.declared.turn.Turn.{Turn}
use Rattle.nm_action.specs.declared.turn.Turn.TheVariants.{Do, Put}
use Rattle.nm_action.specs.declared.turn.Heard.{Heard}
use Rattle.nm_action.specs.declared.turn.Heard.TheVariants.{Answer, PutDone}
use Rattle.nm_action.specs.Own.{Own}
use Rattle.nm_view.specs.Views.{View}
use Rattle.nm_event.specs.After.{view_after}
use Rattle.nm_part.specs.Patterns.{Follows, Sometimes, IsLeft}
use Rattle.nm_part.proofs.Patterns.{can-ends, can-follow}
use Rattle.nm_actor.specs.Turns.{Turns, own_turn}
use Rattle.nm_actor.specs.Actors.{IsAnswer}
use Rattle.nm_catchup.specs.CatchUp.{Kept}
use Rattle.nm_catchup.specs.Catching.{kept_of}
use Rattle.nm_catchup.specs.declared.cache.TranslationCache.{TranslationCache}
use Rattle.nm_access.specs.declared.made.AccessMade.{AccessMade}
use Rattle.nm_access.specs.declared.access.Access.{Access}
use Rattle.nm_access.specs.declared.access.AccessStage.{AccessStage}
use Rattle.nm_access.specs.declared.access.AccessStage.TheVariants.{Resting, CatchingUp, Peeking, Looking, Faulting, Waiting, Softening, Walking, Marking, Putting, Unmarking, Touching}
use Rattle.nm_access.specs.declared.access.AccessStep.{AccessStep}
use Rattle.nm_access.specs.declared.access.AccessStep.TheVariants.{Give}
use Rattle.nm_access.specs.Turning.{Hears, word_heard, IsTurnBegun}
use Rattle.nm_access.specs.Faults.{FaultKinds}
use Rattle.nm_access.specs.Accesses.{Carried, is_write, touch_action, AfterLook, Translates, IsWholeAccess}
use Rattle.nm_access.specs.Accessing.{KnownInAccess, access_turn, access_left, view_then, IsAtAccessTurn, IsAtAccessStage}
use Rattle.nm_access.specs.Moving.{AwaitsOf, IsStepOf, held_of, IsBegunWell}
use Rattle.nm_access.proofs.TurnSteps.{answer-kind, tries-heard, begun-heard, then-push}
use Rattle.nm_access.proofs.Ends.{some-heard, touch-heard, touches-can, put-can, mark-can, walk-can, plain, look-can, translates-can}
use Rattle.nm_access.proofs.Views.{permitted-turn}

-- A turn is given.

at-turn : {M X : Type 0} (kinds : FaultKinds M X) (made : AccessMade) (stage : AccessStage) (hinted : Bool) (fault : M) (awaits : Geometry → View → Own → Action → Type 0) (cache : TranslationCache) (ends : List X) (g : Geometry) (was : Carried X) (view : View) (turns : Turns) (turn : Turn)
    → KnownInAccess g made stage (kept_of cache) (view_then g view turns) → IsAtAccessTurn kinds made stage hinted (kept_of cache) ends g was view turns turn → IsAtAccessStage kinds made stage hinted fault awaits cache ends g was view turns turn
at-turn kinds made Resting hinted fault awaits cache ends g was view turns turn known h = known
at-turn kinds made CatchingUp hinted fault awaits cache ends g was view turns turn known h = absurd known
at-turn kinds made Faulting hinted fault awaits cache ends g was view turns turn known h = absurd known
at-turn kinds made (Waiting action) hinted fault awaits cache ends g was view turns turn known h = absurd known
at-turn kinds made stage hinted fault awaits cache ends g was view turns turn known h = h

stage-begun : {M X : Type 0} (kinds : FaultKinds M X) (made : AccessMade) (stage : AccessStage) (hinted : Bool) (held : Carried X) (kept : Kept) (now : View) (g : Geometry) (was : Carried X) (turns : Turns)
    → KnownInAccess g made stage kept now → IsLeft (IsWholeAccess kinds g made was) turns (Sometimes (λ tries. Follows (Hears g (access_turn made stage)) (access_left kinds g made stage held hinted tries)))
    → IsTurnBegun (IsWholeAccess kinds g made was) turns (access_turn made stage)
stage-begun kinds made Resting hinted held kept now g was turns known due = absurd known
stage-begun kinds made CatchingUp hinted held kept now g was turns known due = absurd known
stage-begun kinds made Faulting hinted held kept now g was turns known due = absurd known
stage-begun kinds made (Waiting action) hinted held kept now g was turns known due = absurd known
stage-begun kinds made Peeking hinted held kept now g was turns known due = begun-heard g (IsWholeAccess kinds g made was) turns (Do (Peek made.vpage)) (Answer (Word 0)) (access_left kinds g made Peeking held hinted) 1 due (λ view. tt)
    (can-follow (Hears g (Do (Look made.vpage))) (λ look. AfterLook kinds g made 0 (Translates kinds g made 1) held hinted (word_heard look)) (some-heard g (Do (Look made.vpage)) (Answer (Word plain)) (λ view. tt)) (look-can kinds g made 0 (Translates kinds g made 1) held hinted))
stage-begun kinds made (Looking stamp) hinted held kept now g was turns known due = begun-heard g (IsWholeAccess kinds g made was) turns (Do (Look made.vpage)) (Answer (Word plain)) (access_left kinds g made (Looking stamp) held hinted) 1 due (λ view. tt) (look-can kinds g made stamp (Translates kinds g made 1) held hinted)
stage-begun kinds made Softening hinted held kept now g was turns known due = begun-heard g (IsWholeAccess kinds g made was) turns (Do (Soften made.vpage Hint)) (Answer (Word 0)) (access_left kinds g made Softening held hinted) 1 due (λ view. tt) (translates-can kinds g made held true)
stage-begun kinds made (Walking stamp word) hinted held kept now g was turns known due = begun-heard g (IsWholeAccess kinds g made was) turns (Do (Walk made.vpage word (is_write made.touch))) (Answer Done) (access_left kinds g made (Walking stamp word) held hinted) 1 due (λ view. tt) (walk-can g made stamp word (Translates kinds g made 1) held hinted)
stage-begun kinds made Marking hinted held kept now g was turns known due = begun-heard g (IsWholeAccess kinds g made was) turns (Do (Mark made.page 0 1)) (Answer (Lost 0)) (access_left kinds g made Marking held hinted) 1 due (λ view. tt) (mark-can g made held)
stage-begun kinds made Putting hinted held kept now g was turns known due = begun-heard g (IsWholeAccess kinds g made was) turns (Put Candidates made.page) PutDone (access_left kinds g made Putting held hinted) 1 due tt (put-can g made held)
stage-begun kinds made Unmarking hinted held kept now g was turns known due = begun-heard g (IsWholeAccess kinds g made was) turns (Do (Mark made.page 1 0)) (Answer Done) (access_left kinds g made Unmarking held hinted) 1 due (λ view. tt) (touches-can g made held)
stage-begun kinds made Touching hinted held kept now g was turns known due = begun-heard g (IsWholeAccess kinds g made was) turns (Do (touch_action made made.touch)) (Answer (Word 0)) (access_left kinds g made Touching held hinted) 1 due (touch-heard g made made.touch) (can-ends (record { held = held; word = 0 }))

-- the access comes to a stage, and gives its turn
pub goes : {F M X : Type 0} (kinds : FaultKinds M X) (made_of : F → M) (awaits_of : F → Geometry → View → Own → Action → Type 0) (a : Access F) (stage : AccessStage) (ends : List X) (g : Geometry) (was : Carried X) (view : View) (turns : Turns)
    → IsBegunWell kinds a g ends → IsLeft (IsWholeAccess kinds g a.made was) turns (Sometimes (λ tries. Follows (Hears g (access_turn a.made stage)) (access_left kinds g a.made stage (held_of a ends) a.hinted tries)))
    → KnownInAccess g a.made stage (kept_of a.cache) (view_then g view turns) → IsStepOf kinds made_of awaits_of (record a { stage = stage }) g was view turns (Give (access_turn a.made stage))
goes kinds made_of awaits_of a stage ends g was view turns well due known = record {
  permitted = permitted-turn g a.made stage (kept_of a.cache) (view_then g view turns) well.may known;
  awaited = record {
    same = well.same;
    may = well.may;
    ends = ends;
    counted = well.counted;
    at = at-turn kinds a.made stage a.hinted (made_of a.fault) (awaits_of a.fault) a.cache ends g was view turns (access_turn a.made stage) known (record { is = refl; due = due; known = known });
  };
  begun = stage-begun kinds a.made stage a.hinted (held_of a ends) (kept_of a.cache) (view_then g view turns) g was turns known due;
}

-- A turn was answered.

-- what is known after the turn of a stage and what was heard
pub record Answered {F M X : Type 0} (kinds : FaultKinds M X) (a : Access F) (stage : AccessStage) (told : Heard) (g : Geometry) (was : Carried X) (view : View) (turns : Turns) : Type 0 where
  pub ends : List X
  pub well : IsBegunWell kinds a g ends
  pub known : KnownInAccess g a.made stage (kept_of a.cache) (view_then g view turns)
  pub answer : IsAnswer g (view_then g view turns) (access_turn a.made stage) told
  pub due : IsLeft (IsWholeAccess kinds g a.made was) (turns ++ (access_turn a.made stage, told) ∷ []) (Sometimes (λ tries. access_left kinds g a.made stage (held_of a ends) a.hinted tries told))
  pub then : view_then g view (turns ++ (access_turn a.made stage, told) ∷ []) ≡ view_after g (view_then g view turns) (own_turn (access_turn a.made stage) told)

pub by-turn : {F M X : Type 0} (kinds : FaultKinds M X) (made_of : F → M) (awaits_of : F → Geometry → View → Own → Action → Type 0) (a : Access F) (stage : AccessStage) (heard told : Heard) (g : Geometry) (was : Carried X) (view : View) (turns : Turns) (turn : Turn) (R : Turns → Type 0)
    → a.stage ≡ stage → heard ≡ told
    → ((ends : List X) → IsAtAccessStage kinds a.made stage a.hinted (made_of a.fault) (awaits_of a.fault) a.cache ends g was view turns turn → IsAtAccessTurn kinds a.made stage a.hinted (kept_of a.cache) ends g was view turns turn)
    → AwaitsOf kinds made_of awaits_of a g was view turns turn → IsAnswer g (view_then g view turns) turn heard
    → (Answered kinds a stage told g was view turns → R (turns ++ (access_turn a.made stage, told) ∷ [])) → R (turns ++ (turn, heard) ∷ [])
by-turn {F} {M} {X} kinds made_of awaits_of a stage heard told g was view turns turn R at is single h answer next =
    let S : AccessStage → Type 0 = λ s. IsAtAccessStage kinds a.made s a.hinted (made_of a.fault) (awaits_of a.fault) a.cache h.ends g was view turns turn in
    let here : IsAtAccessTurn kinds a.made stage a.hinted (kept_of a.cache) h.ends g was view turns turn = single h.ends (subst S at h.at) in
    let T : Turn → Heard → Type 0 = λ t x. IsAnswer g (view_then g view turns) t x → R (turns ++ (t, x) ∷ []) in
    (subst (λ t. T t heard) (sym here.is) (subst (λ x. T (access_turn a.made stage) x) (sym is) (λ fits. next (record {
      ends = h.ends;
      well = record { same = h.same; may = h.may; counted = h.counted };
      known = here.known;
      answer = fits;
      due = tries-heard g (IsWholeAccess kinds g a.made was) turns (access_turn a.made stage) told (access_left kinds g a.made stage (held_of a h.ends) a.hinted) here.due (answer-kind g (view_then g view turns) (access_turn a.made stage) told fits);
      then = then-push g view turns (access_turn a.made stage) told;
    })))) answer

-- the same of what the code has come to
pub gone : {F M X : Type 0} (kinds : FaultKinds M X) (made_of : F → M) (awaits_of : F → Geometry → View → Own → Action → Type 0) (now a : Access F) (result step : AccessStep) (g : Geometry) (was : Carried X) (view : View) (turns : Turns)
    → now ≡ a → result ≡ step → IsStepOf kinds made_of awaits_of a g was view turns step → IsStepOf kinds made_of awaits_of now g was view turns result
gone {F} kinds made_of awaits_of now a result step g was view turns same is h =
    subst (λ (b : Access F). IsStepOf kinds made_of awaits_of b g was view turns result) (sym same) (subst (λ (s : AccessStep). IsStepOf kinds made_of awaits_of a g was view turns s) (sym is) h)
