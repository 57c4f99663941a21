-- Patterns over turns that count what the ends of their faults say, from those that they are joined of.
use Rattle.std.proofs.Common.{◌≡◌, ℕ, Bool, true, false, List, [], ◌∷◌, ◌++◌, sym, ap, subst, ◌∙◌, append_assoc}
use Rattle.std.proofs.lemmas.List.{append-nil, append_cancel_right}
use Rattle.nm_base.specs.Geometry.{Geometry}
use Rattle.nm_action.specs.declared.action.Action.{Action}
use Rattle.nm_action.specs.declared.turn.Heard.{Heard}
use Rattle.nm_action.specs.declared.turn.Heard.TheVariants.{Start, Answer, PutDone, PutFull, Took, TookNone}
use Rattle.nm_action.specs.declared.turn.Lane.{Lane}
use Rattle.nm_action.specs.declared.turn.Turn.TheVariants.{Do, Put}
use Rattle.nm_action.specs.Own.{Own}
use Rattle.nm_part.specs.Patterns.{Ends, Follows, Either, Sometimes, IsLeft, CanEnd}
use Rattle.nm_actor.specs.Turns.{Turns, own_list}
use Rattle.nm_actor.proofs.TurnLists.{own-append}
use Rattle.nm_desk.specs.Woven.{CatchesWhere, Weaves, WeavesPart}
use Rattle.nm_access.specs.Turning.{Hears, Acts}
use Rattle.nm_access.proofs.TurnSteps.{own-turns}
use Rattle.nm_shadow_fault.specs.declared.fault.FaultEnd.{FaultEnd}
use Rattle.nm_marks.specs.Contents.{HasOnly, ListsOnly}
use Rattle.nm_fault_counts.specs.FaultTally.{has_homed, has_mapped, ended_with, faults_from}
use Rattle.nm_fault_counts.specs.Counted.{ends_counted, IsFaultCounted}
use Rattle.nm_fault_counts.proofs.Lists.{IsSilent, homed_from, mapped_from, faults-append, ends-append, silent-list}

-- In all of these `was` are the ends of faults before a list of turns, and `now` those after it, by its outcome; `counted` says which
-- of an end count.

-- a list of turns counts what the ends of its faults say, whatever came before it
abbrev pub TurnsCount : {X O : Type 0} → (X → List FaultEnd) → List X → (O → List X) → (Turns → O → Type 0) → Type 0
TurnsCount {X} {O} counted was now pattern = (h m : Bool) (turns : Turns) (outcome : O) → pattern turns outcome → ends_counted counted (now outcome) ≡ ends_counted counted was ++ faults_from h m (own_list turns)

pub turn-follows : {X Y O : Type 0} (counted : X → List FaultEnd) (was : List X) (between : Y → List X) (now : O → List X) (first : Turns → Y → Type 0) (after : Y → Turns → O → Type 0)
    → TurnsCount counted was between first → ((end : Y) → TurnsCount counted (between end) now (after end)) → TurnsCount counted was now (Follows first after)
turn-follows {X} {Y} {O} counted was between now first after so then h m turns outcome d =
    let front = own_list d.front in
    let back = own_list d.back in
    let h' = homed_from h front in
    let m' = mapped_from m front in
    let all : faults_from h m (own_list turns) ≡ faults_from h m front ++ faults_from h' m' back = ap (λ (t : Turns). faults_from h m (own_list t)) d.is ∙ ap (λ (l : Own). faults_from h m l) (own-append d.front d.back) ∙ faults-append h m front back in
    then d.end h' m' d.back outcome d.rest ∙ ap (λ (l : List FaultEnd). l ++ faults_from h' m' back) (so h m d.front d.end d.shown)
    ∙ append_assoc (ends_counted counted was) (faults_from h m front) (faults_from h' m' back) ∙ ap (λ (l : List FaultEnd). ends_counted counted was ++ l) (sym all)

pub turn-ends : {X O : Type 0} (counted : X → List FaultEnd) (was : List X) (now : O → List X) (end : O) → now end ≡ was → TurnsCount counted was now (Ends end)
turn-ends {X} {O} counted was now end same h m turns outcome d =
    ap (λ (o : O). ends_counted counted (now o)) d.is ∙ ap (λ (l : List X). ends_counted counted l) same ∙ sym (append-nil (ends_counted counted was))
    ∙ ap (λ (t : Turns). ends_counted counted was ++ faults_from h m (own_list t)) (sym d.none)

pub turn-either : {X O : Type 0} (counted : X → List FaultEnd) (was : List X) (now : O → List X) (b : Bool) (held other : Turns → O → Type 0) → TurnsCount counted was now held → TurnsCount counted was now other → TurnsCount counted was now (Either b held other)
turn-either counted was now true held other so then = so
turn-either counted was now false held other so then = then

pub turn-sometimes : {X O : Type 0} (counted : X → List FaultEnd) (was : List X) (now : O → List X) (pattern : ℕ → Turns → O → Type 0) → ((tries : ℕ) → TurnsCount counted was now (pattern tries)) → TurnsCount counted was now (Sometimes pattern)
turn-sometimes counted was now pattern each h m turns outcome d = each d.tries h m turns outcome d.is

-- ---- turns that count nothing

pub silent-none : (h m : Bool) (own : Own) → HasOnly IsSilent own → faults_from h m own ≡ []
silent-none h m own so = ap (λ (l : Own). faults_from h m l) (sym (append-nil own)) ∙ silent-list h m own [] so

-- a list of such turns
nothing-counted : {X : Type 0} (counted : X → List FaultEnd) (was : List X) (h m : Bool) (turns : Turns) → HasOnly IsSilent (own_list turns) → ends_counted counted was ≡ ends_counted counted was ++ faults_from h m (own_list turns)
nothing-counted counted was h m turns so = sym (append-nil (ends_counted counted was)) ∙ ap (λ (l : List FaultEnd). ends_counted counted was ++ l) (sym (silent-none h m (own_list turns) so))

heard-silent : (action : Action) (heard : Heard) → IsSilent action → HasOnly IsSilent (own_list ((Do action, heard) ∷ []))
heard-silent action Start so = tt
heard-silent action (Answer reply) so = (so, tt)
heard-silent action PutDone so = tt
heard-silent action PutFull so = tt
heard-silent action (Took page) so = tt
heard-silent action TookNone so = tt

put-silent : (lane : Lane) (page : ℕ) (heard : Heard) → HasOnly IsSilent (own_list ((Put lane page, heard) ∷ []))
put-silent lane page Start = tt
put-silent lane page (Answer reply) = tt
put-silent lane page PutDone = tt
put-silent lane page PutFull = tt
put-silent lane page (Took b) = tt
put-silent lane page TookNone = tt

-- one such action
pub turn-does : {X : Type 0} (counted : X → List FaultEnd) (was : List X) (g : Geometry) (action : Action) → IsSilent action → TurnsCount counted was (λ heard. was) (Hears g (Do action))
turn-does counted was g action so h m turns heard d =
    let T : Turns → Type 0 = λ l. HasOnly IsSilent (own_list l) in
    nothing-counted counted was h m turns (subst T (sym d.is) (heard-silent action heard so))

-- a put is no action
pub turn-puts : {X : Type 0} (counted : X → List FaultEnd) (was : List X) (g : Geometry) (lane : Lane) (page : ℕ) → TurnsCount counted was (λ heard. was) (Hears g (Put lane page))
turn-puts counted was g lane page h m turns heard d =
    let T : Turns → Type 0 = λ l. HasOnly IsSilent (own_list l) in
    nothing-counted counted was h m turns (subst T (sym d.is) (put-silent lane page heard))

-- one such action, and what follows by what is heard
pub turn-then : {X O : Type 0} (counted : X → List FaultEnd) (was : List X) (now : O → List X) (g : Geometry) (action : Action) (after : Heard → Turns → O → Type 0) → IsSilent action → ((heard : Heard) → TurnsCount counted was now (after heard)) → TurnsCount counted was now (Follows (Hears g (Do action)) after)
turn-then counted was now g action after so then = turn-follows counted was (λ heard. was) now (Hears g (Do action)) after (turn-does counted was g action so) then

-- such actions
pub turn-acts : {X O : Type 0} (counted : X → List FaultEnd) (was : List X) (pattern : Own → O → Type 0) → ListsOnly IsSilent pattern → TurnsCount counted was (λ outcome. was) (Acts pattern)
turn-acts counted was pattern so h m turns outcome d =
    let O : Own → Type 0 = λ l. HasOnly IsSilent l in
    nothing-counted counted was h m turns (subst O (sym (ap own_list d.is ∙ own-turns d.own)) (so d.own outcome d.shown))

-- ---- lists into which actions that count nothing are woven

pub where-silent : {S : Type 0} (catch : S → Own → S → Type 0) → ((kept : S) → ListsOnly IsSilent (catch kept)) → (waits : Bool) (kept : S) → ListsOnly IsSilent (CatchesWhere catch waits kept)
where-silent catch each true kept = each kept
where-silent catch each false kept = λ own outcome d.
    let O : Own → Type 0 = λ l. HasOnly IsSilent l in
    subst O (sym d.none) tt

pub weaves-count : {S : Type 0} (catch : S → Own → S → Type 0) → ((kept : S) → ListsOnly IsSilent (catch kept)) → (waits : Own → Action → Bool) (before inner : Own) (kept : S) (h m : Bool) (own : Own) (now : S) → Weaves catch waits before inner kept own now → faults_from h m own ≡ faults_from h m inner
weaves-count catch each waits before [] kept h m own now d = ap (λ (l : Own). faults_from h m l) d.none
weaves-count catch each waits before (event ∷ inner) kept h m own now d =
    let x = d.rest in
    let is : own ≡ d.front ++ event ∷ x.back = d.is ∙ ap (λ (l : Own). d.front ++ l) (x.is ∙ ap (λ (l : Own). l ++ x.back) x.shown.is) in
    ap (λ (l : Own). faults_from h m l) is ∙ silent-list h m d.front (event ∷ x.back) (where-silent catch each (waits before event.0) kept d.front d.end d.shown)
    ∙ ap (λ (l : List FaultEnd). ended_with h m event.0 ++ l) (weaves-count catch each waits (before ++ event ∷ []) inner d.end (has_homed event.0 h) (has_mapped event.0 m) x.back now x.rest)

-- a part that counts what its end says
pub turn-weaves : {S X : Type 0} (counted : X → List FaultEnd) (was : List X) (catch : S → Own → S → Type 0) → ((kept : S) → ListsOnly IsSilent (catch kept)) → (waits : Own → Action → Bool) (shape : Own → X → Type 0) (kept : S)
    → ((h m : Bool) (own : Own) (end : X) → shape own end → IsFaultCounted h m own (counted end)) → TurnsCount counted was (λ end. was ++ end.0 ∷ []) (Acts (WeavesPart catch waits shape kept))
turn-weaves {S} {X} counted was catch each waits shape kept law h m turns end d =
    let own : own_list turns ≡ d.own = ap own_list d.is ∙ own-turns d.own in
    let here : faults_from h m (own_list turns) ≡ counted end.0 = ap (λ (l : Own). faults_from h m l) own ∙ weaves-count catch each waits [] d.shown.inner kept h m d.own end.1 d.shown.woven ∙ (law h m d.shown.inner end.0 d.shown.shown).counted in
    ends-append counted was (end.0 ∷ []) ∙ ap (λ (l : List FaultEnd). ends_counted counted was ++ l) (append-nil (counted end.0) ∙ sym here)

-- ---- turns after which something is left

-- where a whole pattern counts what its ends say, and so does what is left of it, the turns so far do
pub left-counts : {X O : Type 0} (counted : X → List FaultEnd) (was ends : List X) (now : O → List X) (whole left : Turns → O → Type 0) (turns : Turns) (h m : Bool)
    → TurnsCount counted was now whole → TurnsCount counted ends now left → IsLeft whole turns left → CanEnd left → ends_counted counted ends ≡ ends_counted counted was ++ faults_from h m (own_list turns)
left-counts {X} {O} counted was ends now whole left turns h m so then due can =
    let own = own_list turns in
    let rest = own_list can.rest in
    let h' = homed_from h own in
    let m' = mapped_from m own in
    let all : faults_from h m (own_list (turns ++ can.rest)) ≡ faults_from h m own ++ faults_from h' m' rest = ap (λ (l : Own). faults_from h m l) (own-append turns can.rest) ∙ faults-append h m own rest in
    append_cancel_right (ends_counted counted ends) (ends_counted counted was ++ faults_from h m own) (faults_from h' m' rest)
    (sym (then h' m' can.rest can.outcome can.shown) ∙ so h m (turns ++ can.rest) can.outcome (due.carry can.rest can.outcome can.shown)
    ∙ ap (λ (l : List FaultEnd). ends_counted counted was ++ l) all ∙ sym (append_assoc (ends_counted counted was) (faults_from h m own) (faults_from h' m' rest)))
