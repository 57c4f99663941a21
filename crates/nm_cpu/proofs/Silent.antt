-- Which turns of an access are accesses of the own list.
use Rattle.std.proofs.Common.{◌≡◌, ◌≢◌, ℕ, List, [], ◌∷◌, ◌++◌, None, refl, sym, ap, ◌∙◌, subst}
use Rattle.std.proofs.lemmas.List.Elements.{filter_map-append}
use Rattle.nm_base.specs.Geometry.{Geometry}
use Rattle.nm_action.specs.declared.action.Action.{Action}
use Rattle.nm_action.specs.declared.action.Action.TheVariants.{Load, Store, Add}
use Rattle.nm_action.specs.declared.action.Reply.{Reply}
use Rattle.nm_action.specs.declared.action.Reply.TheVariants.{Word}
use Rattle.nm_action.specs.declared.turn.Turn.{Turn}
use Rattle.nm_action.specs.declared.turn.Turn.TheVariants.{Do, Put}
use Rattle.nm_action.specs.declared.turn.Heard.{Heard}
use Rattle.nm_action.specs.declared.turn.Heard.TheVariants.{Start, Answer, PutDone, PutFull, Took, TookNone}
use Rattle.nm_action.specs.Own.{Own}
use Rattle.nm_core.specs.Runs.{access_by}
use Rattle.nm_view.specs.Views.{View}
use Rattle.nm_part.specs.Parts.{IsQuiet}
use Rattle.nm_actor.specs.Turns.{Turns, own_turn, own_list}
use Rattle.nm_actor.proofs.TurnLists.{own-push}
use Rattle.nm_catchup.specs.declared.cache.CatchStage.{CatchStage}
use Rattle.nm_catchup.specs.declared.cache.CatchStage.TheVariants as catches
use Rattle.nm_catchup.specs.declared.cache.TranslationCache.{TranslationCache}
use Rattle.nm_catchup.specs.Catching.{catch_action}
use Rattle.nm_access.specs.declared.made.AccessMade.{AccessMade}
use Rattle.nm_access.specs.declared.access.AccessStage.{AccessStage}
use Rattle.nm_access.specs.declared.access.AccessStage.TheVariants.{Resting, CatchingUp, Peeking, Looking, Faulting, Waiting, Softening, Walking, Marking, Putting, Unmarking, Touching}
use Rattle.nm_access.specs.Faults.{FaultKinds}
use Rattle.nm_access.specs.Accesses.{Carried, touch_action}
use Rattle.nm_access.specs.Accessing.{IsAtAccessStage}
use Rattle.nm_script.specs.declared.script.Line.{Line}
use Rattle.nm_script.specs.declared.script.Line.TheVariants as line
use Rattle.nm_cpu.specs.Programs.{line_access}
use Rattle.nm_cpu.specs.Lines.{access_in, own_accesses}
use Rattle.nm_cpu.specs.Agreeing.{line_touch}

-- Lists of accesses.

pub accesses-append : (p : ℕ) (a b : Own) → own_accesses p (a ++ b) ≡ own_accesses p a ++ own_accesses p b
accesses-append p a b = filter_map-append (access_in p) a b

-- the accesses with one turn more
pub accesses-push : (p : ℕ) (turns : Turns) (turn : Turn) (heard : Heard) → own_accesses p (own_list (turns ++ (turn, heard) ∷ [])) ≡ own_accesses p (own_list turns) ++ own_accesses p (own_turn turn heard)
accesses-push p turns turn heard = ap (λ (l : Own). own_accesses p l) (own-push turns turn heard) ∙ accesses-append p (own_list turns) (own_turn turn heard)

-- Turns that are no access.

-- an action is no access, whatever its reply
abbrev pub IsSilent : Action → Type 0
IsSilent action = (p : ℕ) (reply : Reply) → access_by p action reply ≡ None

-- a turn is no access, whatever is heard
abbrev pub IsSilentTurn : Turn → Type 0
IsSilentTurn turn = (p : ℕ) (heard : Heard) → own_accesses p (own_turn turn heard) ≡ []

no-access : (p : ℕ) (action : Action) (reply : Reply) → access_by p action reply ≡ None → own_accesses p ((action, reply) ∷ []) ≡ []
no-access p action reply none = rw none refl

pub silent-do : (action : Action) → IsSilent action → IsSilentTurn (Do action)
silent-do action silent p (Answer reply) = no-access p action reply (silent p reply)
silent-do action silent p Start = refl
silent-do action silent p PutDone = refl
silent-do action silent p PutFull = refl
silent-do action silent p (Took page) = refl
silent-do action silent p TookNone = refl

-- a quiet action
pub silent-quiet : (action : Action) → IsQuiet action → IsSilent action
silent-quiet (Load v w) quiet p reply = absurd quiet
silent-quiet (Store v w x) quiet p reply = absurd quiet
silent-quiet (Add v w x) quiet p reply = absurd quiet
silent-quiet action quiet p reply = refl

-- an action of a catch up
pub silent-catch : (stage : CatchStage) → IsSilent (catch_action stage)
silent-catch catches.Resting p reply = refl
silent-catch catches.Polling p reply = refl
silent-catch (catches.Peeking number page) p reply = refl
silent-catch (catches.Acknowledging number) p reply = refl

silent-put : (turn : Turn) → ((heard : Heard) → own_turn turn heard ≡ []) → IsSilentTurn turn
silent-put turn none p heard = ap (λ (l : Own). own_accesses p l) (none heard)

put-none : (lane : _) (page : ℕ) (heard : Heard) → own_turn (Put lane page) heard ≡ []
put-none lane page heard = refl

-- a turn that is an action of a catch up
caught-turn : (turn : Turn) (action : Action) (stage : CatchStage) → turn ≡ Do action → action ≡ catch_action stage → IsSilentTurn turn
caught-turn turn action stage given is =
    let A : Action → Type 0 = λ a. IsSilent a in
    subst (λ (t : Turn). IsSilentTurn t) (sym given) (silent-do action (subst A (sym is) (silent-catch stage)))

-- at every stage but the last the turn is no access
pub silent-stage : {M X : Type 0} (kinds : FaultKinds M X) (made : AccessMade) (stage : AccessStage) (hinted : _) (fault : M) (awaits : Geometry → View → Own → Action → Type 0) (cache : TranslationCache) (ends : List X) (g : Geometry) (was : Carried X) (view : View) (turns : Turns) (turn : Turn)
    → stage ≢ Touching → IsAtAccessStage kinds made stage hinted fault awaits cache ends g was view turns turn → IsSilentTurn turn
silent-stage kinds made Resting hinted fault awaits cache ends g was view turns turn not h = absurd h
silent-stage kinds made CatchingUp hinted fault awaits cache ends g was view turns turn not h = caught-turn turn h.action cache.stage h.given h.awaited.is
silent-stage kinds made Faulting hinted fault awaits cache ends g was view turns turn not h = subst (λ (t : Turn). IsSilentTurn t) (sym h.given) (silent-do h.action (silent-quiet h.action h.gives.quiet))
silent-stage kinds made (Waiting waiting) hinted fault awaits cache ends g was view turns turn not h = caught-turn turn h.action cache.stage h.given h.awaited.is
silent-stage kinds made Peeking hinted fault awaits cache ends g was view turns turn not h = subst (λ (t : Turn). IsSilentTurn t) (sym h.is) (silent-do _ (λ p reply. refl))
silent-stage kinds made (Looking stamp) hinted fault awaits cache ends g was view turns turn not h = subst (λ (t : Turn). IsSilentTurn t) (sym h.is) (silent-do _ (λ p reply. refl))
silent-stage kinds made Softening hinted fault awaits cache ends g was view turns turn not h = subst (λ (t : Turn). IsSilentTurn t) (sym h.is) (silent-do _ (λ p reply. refl))
silent-stage kinds made (Walking stamp word) hinted fault awaits cache ends g was view turns turn not h = subst (λ (t : Turn). IsSilentTurn t) (sym h.is) (silent-do _ (λ p reply. refl))
silent-stage kinds made Marking hinted fault awaits cache ends g was view turns turn not h = subst (λ (t : Turn). IsSilentTurn t) (sym h.is) (silent-do _ (λ p reply. refl))
silent-stage kinds made Putting hinted fault awaits cache ends g was view turns turn not h = subst (λ (t : Turn). IsSilentTurn t) (sym h.is) (λ p heard. refl)
silent-stage kinds made Unmarking hinted fault awaits cache ends g was view turns turn not h = subst (λ (t : Turn). IsSilentTurn t) (sym h.is) (silent-do _ (λ p reply. refl))
silent-stage kinds made Touching hinted fault awaits cache ends g was view turns turn not h = absurd (not refl)

-- The access.

touch-one : (p : ℕ) (g : Geometry) (l : Line) (word : ℕ) → own_accesses p (own_turn (Do (touch_action (line_access g l) (line_access g l).touch)) (Answer (Word word))) ≡ line_touch p l word ∷ []
touch-one p g (line.Load v w) word = refl
touch-one p g (line.Store v w x) word = refl
touch-one p g (line.Add v w x) word = refl
touch-one p g (line.Await v w x max) word = refl

-- the turn at the last stage is the access of the line
pub touched-stage : {M X : Type 0} (kinds : FaultKinds M X) (made : AccessMade) (stage : AccessStage) (hinted : _) (fault : M) (awaits : Geometry → View → Own → Action → Type 0) (cache : TranslationCache) (ends : List X) (g : Geometry) (was : Carried X) (view : View) (turns : Turns) (turn : Turn) (heard : Heard) (p word : ℕ) (l : Line)
    → stage ≡ Touching → heard ≡ Answer (Word word) → made ≡ line_access g l → IsAtAccessStage kinds made stage hinted fault awaits cache ends g was view turns turn → own_accesses p (own_turn turn heard) ≡ line_touch p l word ∷ []
touched-stage kinds made stage hinted fault awaits cache ends g was view turns turn heard p word l at told same h =
    let S : AccessStage → Type 0 = λ s. IsAtAccessStage kinds made s hinted fault awaits cache ends g was view turns turn in
    let T : Turn → Heard → Type 0 = λ t x. own_accesses p (own_turn t x) ≡ line_touch p l word ∷ [] in
    let M' : AccessMade → Type 0 = λ m. T (Do (touch_action m m.touch)) (Answer (Word word)) in
    subst (λ (t : Turn). T t heard) (sym ((subst S at h).is)) (subst (λ (x : Heard). T (Do (touch_action made made.touch)) x) (sym told) (subst M' (sym same) (touch-one p g l word)))
