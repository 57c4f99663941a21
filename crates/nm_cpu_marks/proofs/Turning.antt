-- Patterns over turns whose own lists have only such actions, and which leave the lane Pending alone, from those that they are joined of.
use Rattle.std.proofs.Common.{ℕ, Bool, true, false, [], ◌∷◌, ◌++◌, sym, ap, subst, ◌∙◌}
use Rattle.nm_base.specs.Geometry.{Geometry}
use Rattle.nm_action.specs.declared.action.Action.{Action}
use Rattle.nm_action.specs.declared.action.Reply.{Reply}
use Rattle.nm_action.specs.declared.turn.Heard.{Heard}
use Rattle.nm_action.specs.declared.turn.Heard.TheVariants.{Start, Answer, PutDone, PutFull, Took, TookNone}
use Rattle.nm_action.specs.declared.turn.Lane.TheVariants.{Candidates}
use Rattle.nm_action.specs.declared.turn.Turn.TheVariants.{Do, Put}
use Rattle.nm_action.specs.Own.{Own}
use Rattle.nm_part.specs.Patterns.{Ends, Follows, Either, Sometimes}
use Rattle.nm_actor.specs.Turns.{Turns, own_list}
use Rattle.nm_actor.proofs.TurnLists.{own-append}
use Rattle.nm_desk.specs.Woven.{CatchesWhere, IsEvent, Weaves, WeavesPart}
use Rattle.nm_access.specs.Turning.{Hears, Acts, action_turns}
use Rattle.nm_access.proofs.TurnSteps.{own-turns}
use Rattle.nm_marks.specs.Contents.{HasOnly, ListsOnly}
use Rattle.nm_marks.proofs.Contents.{only-both}
use Rattle.nm_marks.proofs.Patterns.{only-ends, only-follows}
use Rattle.nm_pending.specs.PendingTurns.{AreOffPending}
use Rattle.nm_pending.proofs.Off.{off-both}

-- each action of some turns is so, and none of them is a put into the lane Pending or a take from it
pub record AreTurnsOf (is : Action → Type 0) (turns : Turns) : Type 0 where
  pub only : HasOnly is (own_list turns)
  pub off : AreOffPending turns

-- each list of turns of a pattern is so
abbrev pub TurnsOnly : {O : Type 0} → (Action → Type 0) → (Turns → O → Type 0) → Type 0
TurnsOnly {O} is pattern = (turns : Turns) (outcome : O) → pattern turns outcome → AreTurnsOf is turns

pub turns-both : (P : Action → Type 0) (a b : Turns) → AreTurnsOf P a → AreTurnsOf P b → AreTurnsOf P (a ++ b)
turns-both P a b first then =
    let O : Own → Type 0 = λ l. HasOnly P l in
    record { only = subst O (sym (own-append a b)) (only-both P (own_list a) (own_list b) first.only then.only); off = off-both a b first.off then.off }

pub turn-follows : {X O : Type 0} (P : Action → Type 0) (first : Turns → X → Type 0) (after : X → Turns → O → Type 0) → TurnsOnly P first → ((end : X) → TurnsOnly P (after end)) → TurnsOnly P (Follows first after)
turn-follows P first after now then turns outcome h =
    let T : Turns → Type 0 = λ l. AreTurnsOf P l in
    subst T (sym h.is) (turns-both P h.front h.back (now h.front h.end h.shown) (then h.end h.back outcome h.rest))

pub turn-ends : {O : Type 0} (P : Action → Type 0) (end : O) → TurnsOnly P (Ends end)
turn-ends P end turns outcome h =
    let T : Turns → Type 0 = λ l. AreTurnsOf P l in
    subst T (sym h.none) (record { only = tt; off = tt })

pub turn-either : {O : Type 0} (P : Action → Type 0) (b : Bool) (held other : Turns → O → Type 0) → TurnsOnly P held → TurnsOnly P other → TurnsOnly P (Either b held other)
turn-either P true held other so then = so
turn-either P false held other so then = then

pub turn-sometimes : {O : Type 0} (P : Action → Type 0) (pattern : ℕ → Turns → O → Type 0) → ((tries : ℕ) → TurnsOnly P (pattern tries)) → TurnsOnly P (Sometimes pattern)
turn-sometimes P pattern each turns outcome h = each h.tries turns outcome h.is

off-turns : (own : Own) → AreOffPending (action_turns own)
off-turns [] = tt
off-turns (e ∷ own) = (tt, off-turns own)

-- turns that are actions
pub turn-acts : {O : Type 0} (P : Action → Type 0) (pattern : Own → O → Type 0) → ListsOnly P pattern → TurnsOnly P (Acts pattern)
turn-acts P pattern so turns outcome h =
    let O : Own → Type 0 = λ l. HasOnly P l in
    let T : Turns → Type 0 = λ l. AreOffPending l in
    record { only = subst O (sym (ap own_list h.is ∙ own-turns h.own)) (so h.own outcome h.shown); off = subst T (sym h.is) (off-turns h.own) }

one-heard : (P : Action → Type 0) (action : Action) (heard : Heard) → P action → HasOnly P (own_list ((Do action, heard) ∷ []))
one-heard P action Start so = tt
one-heard P action (Answer reply) so = (so, tt)
one-heard P action PutDone so = tt
one-heard P action PutFull so = tt
one-heard P action (Took page) so = tt
one-heard P action TookNone so = tt

-- one action
pub turn-does : (P : Action → Type 0) (g : Geometry) (action : Action) → P action → TurnsOnly P (Hears g (Do action))
turn-does P g action so turns heard h =
    let T : Turns → Type 0 = λ l. AreTurnsOf P l in
    subst T (sym h.is) (record { only = one-heard P action heard so; off = (tt, tt) })

-- one action, and what follows by what is heard
pub turn-then : {O : Type 0} (P : Action → Type 0) (g : Geometry) (action : Action) (after : Heard → Turns → O → Type 0) → P action → ((heard : Heard) → TurnsOnly P (after heard)) → TurnsOnly P (Follows (Hears g (Do action)) after)
turn-then P g action after so then = turn-follows P (Hears g (Do action)) after (turn-does P g action so) then

put-heard : (P : Action → Type 0) (page : ℕ) (heard : Heard) → HasOnly P (own_list ((Put Candidates page, heard) ∷ []))
put-heard P page Start = tt
put-heard P page (Answer reply) = tt
put-heard P page PutDone = tt
put-heard P page PutFull = tt
put-heard P page (Took b) = tt
put-heard P page TookNone = tt

-- a put into the candidates is no action
pub turn-puts : (P : Action → Type 0) (g : Geometry) (page : ℕ) → TurnsOnly P (Hears g (Put Candidates page))
turn-puts P g page turns heard h =
    let T : Turns → Type 0 = λ l. AreTurnsOf P l in
    subst T (sym h.is) (record { only = put-heard P page heard; off = (tt, tt) })

-- ---- lists into which something else is woven

event-only : (P : Action → Type 0) (event : Action × Reply) → P event.0 → ListsOnly P (IsEvent event)
event-only P event so own reply h =
    let O : Own → Type 0 = λ l. HasOnly P l in
    subst O (sym h.is) (so, tt)

where-only : {S : Type 0} (P : Action → Type 0) (catch : S → Own → S → Type 0) → ((kept : S) → ListsOnly P (catch kept)) → (waits : Bool) (kept : S) → ListsOnly P (CatchesWhere catch waits kept)
where-only P catch each true kept = each kept
where-only P catch each false kept = only-ends P kept

weaves-only : {S : Type 0} (P : Action → Type 0) (catch : S → Own → S → Type 0) → ((kept : S) → ListsOnly P (catch kept)) → (waits : Own → Action → Bool) (before inner : Own) (kept : S) → HasOnly P inner → ListsOnly P (Weaves catch waits before inner kept)
weaves-only P catch each waits before [] kept so = only-ends P kept
weaves-only P catch each waits before (event ∷ inner) kept so =
    only-follows P (CatchesWhere catch (waits before event.0) kept) (λ now. Follows (IsEvent event) (λ reply. Weaves catch waits (before ++ event ∷ []) inner now)) (where-only P catch each (waits before event.0) kept) (λ now.
    only-follows P (IsEvent event) (λ reply. Weaves catch waits (before ++ event ∷ []) inner now) (event-only P event so.0) (λ reply. weaves-only P catch each waits (before ++ event ∷ []) inner now so.1))

pub woven-only : {S X : Type 0} (P : Action → Type 0) (catch : S → Own → S → Type 0) → ((kept : S) → ListsOnly P (catch kept)) → (waits : Own → Action → Bool) (shape : Own → X → Type 0) → ListsOnly P shape → (kept : S) → ListsOnly P (WeavesPart catch waits shape kept)
woven-only P catch each waits shape so kept own end h = weaves-only P catch each waits [] h.inner kept (so h.inner end.0 h.shown) own end.1 h.woven
