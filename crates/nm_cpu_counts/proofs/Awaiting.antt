-- An access of which an answer is awaited counts what the ends of its faults say.
use Rattle.std.proofs.Common.{◌≡◌, ℕ, Bool, true, List, [], ◌∷◌, ◌++◌, refl, sym, ap, ◌∙◌}
use Rattle.std.proofs.lemmas.List.{append-nil}
use Rattle.nm_base.specs.Geometry.{Geometry}
use Rattle.nm_action.specs.declared.action.Action.{Action}
use Rattle.nm_action.specs.declared.action.Action.TheVariants.{Look, Walk, Peek, Soften, Mark}
use Rattle.nm_action.specs.declared.action.Bit.TheVariants.{Hint}
use Rattle.nm_action.specs.declared.action.Reply.TheVariants.{Done, Word, Lost}
use Rattle.nm_action.specs.declared.turn.Lane.TheVariants.{Candidates}
use Rattle.nm_action.specs.declared.turn.Turn.{Turn}
use Rattle.nm_action.specs.declared.turn.Turn.TheVariants.{Do, Put}
use Rattle.nm_action.specs.declared.turn.Heard.{Heard}
use Rattle.nm_action.specs.declared.turn.Heard.TheVariants.{Answer, PutDone}
use Rattle.nm_action.specs.Own.{Own}
use Rattle.nm_view.specs.Views.{View}
use Rattle.nm_part.specs.Parts.{IsBegunWith}
use Rattle.nm_part.specs.Patterns.{Follows, Sometimes, CanEnd}
use Rattle.nm_part.proofs.Patterns.{can-ends, can-follow, can-sometimes}
use Rattle.nm_actor.specs.Turns.{Turns, own_list}
use Rattle.nm_actor.proofs.TurnLists.{own-append}
use Rattle.nm_desk.specs.Woven.{WeavesPart}
use Rattle.nm_desk.proofs.Weaving.{weaves-can}
use Rattle.nm_catchup.specs.CatchUp.{Kept, CatchesUp}
use Rattle.nm_catchup.specs.Catching.{kept_of}
use Rattle.nm_catchup.specs.declared.cache.TranslationCache.{TranslationCache}
use Rattle.nm_catchup.proofs.Loops.{catches-up-can}
use Rattle.nm_access.specs.declared.made.AccessMade.{AccessMade}
use Rattle.nm_access.specs.declared.access.AccessStage.{AccessStage}
use Rattle.nm_access.specs.declared.access.AccessStage.TheVariants.{Resting, CatchingUp, Peeking, Looking, Faulting, Waiting, Softening, Walking, Marking, Putting, Unmarking, Touching}
use Rattle.nm_access.specs.Turning.{Hears, Acts, action_turns, word_heard}
use Rattle.nm_access.specs.Faults.{FaultKinds}
use Rattle.nm_access.specs.Accesses.{Carried, Accessed, is_write, touch_action, held_faulted, AfterLook, Tries, Faults, Translates, IsWholeAccess}
use Rattle.nm_access.specs.Accessing.{access_turn, access_left, IsAtAccessTurn, IsInFault, IsAtCatch, IsAtFault, IsAtWait, IsAtAccessStage}
use Rattle.nm_access.proofs.TurnSteps.{own-turns}
use Rattle.nm_access.proofs.Ends.{some-heard, some-acts, touch-heard, touches-can, put-can, mark-can, walk-can, plain, look-can, translates-can, tries-can}
use Rattle.nm_shadow_fault.specs.declared.fault.FaultEnd.{FaultEnd}
use Rattle.nm_fault_counts.specs.FaultTally.{faults_from}
use Rattle.nm_fault_counts.specs.Counted.{AreFaultsCounted, ends_counted}
use Rattle.nm_fault_counts.proofs.Lists.{homed_from, mapped_from, faults-append}
use Rattle.nm_cpu_counts.proofs.Turning.{TurnsCount, turn-follows, turn-ends, turn-sometimes, turn-does, turn-then, turn-puts, silent-none, where-silent, weaves-count, left-counts}
use Rattle.nm_cpu_counts.proofs.Accessing.{AccessCounts, catches-silent, touch-is, touched, after-put, after-mark, after-walk, tries, faulted, after-look, translates, whole-access}
use Rattle.nm_cpu_counts.proofs.Beginning.{awaits-silent, begun-nothing}

-- the turns `turns` since an access began count what the ends `ends` say more than what was held
abbrev CountsSince : {X : Type 0} → (X → List FaultEnd) → Carried X → List X → Turns → Type 0
CountsSince counted was ends turns = (h m : Bool) → ends_counted counted ends ≡ ends_counted counted was.ends ++ faults_from h m (own_list turns)

-- actions that count nothing
nothing-more : {X : Type 0} (c : X → List FaultEnd) (was : Carried X) (ends : List X) (front turns : Turns) (own : Own) → turns ≡ front ++ action_turns own → ((h m : Bool) → faults_from h m own ≡ []) → CountsSince c was ends front → CountsSince c was ends turns
nothing-more {X} c was ends front turns own is none so h m =
    let before = own_list front in
    let rest = faults_from (homed_from h before) (mapped_from m before) own in
    let both : own_list turns ≡ before ++ own = ap own_list is ∙ own-append front (action_turns own) ∙ ap (λ (l : Own). before ++ l) (own-turns own) in
    let all : faults_from h m (own_list turns) ≡ faults_from h m before = ap (λ (l : Own). faults_from h m l) both ∙ faults-append h m before own ∙ ap (λ (l : List FaultEnd). faults_from h m before ++ l) (none (homed_from h before) (mapped_from m before)) ∙ append-nil (faults_from h m before) in
    so h m ∙ ap (λ (l : List FaultEnd). ends_counted c was.ends ++ l) (sym all)

-- ---- stages of one turn

left-after : {M X : Type 0} (c : X → List FaultEnd) (kinds : FaultKinds M X) (g : Geometry) (made : AccessMade) (stage : AccessStage) (held : Carried X) (hinted : Bool) (n : ℕ) (heard : Heard) → AreFaultsCounted kinds.shape c → AccessCounts c held (access_left kinds g made stage held hinted n heard)
left-after c kinds g made Resting held hinted n heard law = touched c g made held
left-after c kinds g made CatchingUp held hinted n heard law = touched c g made held
left-after {M} {X} c kinds g made Peeking held hinted n heard law =
    turn-then c held.ends (λ (end : Accessed X). end.held.ends) g (Look made.vpage) (λ look. AfterLook kinds g made (word_heard heard) (Translates kinds g made n) held hinted (word_heard look)) tt
    (λ look. after-look c kinds g made (word_heard heard) (Translates kinds g made n) held hinted (word_heard look) law (translates c kinds g made law n))
left-after c kinds g made (Looking stamp) held hinted n heard law = after-look c kinds g made stamp (Translates kinds g made n) held hinted (word_heard heard) law (translates c kinds g made law n)
left-after c kinds g made Faulting held hinted n heard law = touched c g made held
left-after c kinds g made (Waiting action) held hinted n heard law = touched c g made held
left-after c kinds g made Softening held hinted n heard law = translates c kinds g made law n held true
left-after c kinds g made (Walking stamp word) held hinted n heard law = after-walk c g made stamp word (Translates kinds g made n) held hinted heard (translates c kinds g made law n)
left-after c kinds g made Marking held hinted n heard law = after-mark c g made held heard
left-after c kinds g made Putting held hinted n heard law = after-put c g made held heard
left-after c kinds g made Unmarking held hinted n heard law = touched c g made held
left-after {M} {X} c kinds g made Touching held hinted n heard law = turn-ends c held.ends (λ (end : Accessed X). end.held.ends) (record { held = held; word = word_heard heard }) refl

-- the answer to the turn of a stage is awaited
at-turn : {M X : Type 0} (c : X → List FaultEnd) (kinds : FaultKinds M X) (made : AccessMade) (stage : AccessStage) (hinted : Bool) (kept : Kept) (ends : List X) (g : Geometry) (was : Carried X) (view : View) (turns : Turns) (turn : Turn) → AreFaultsCounted kinds.shape c
    → TurnsCount c ends (λ heard. ends) (Hears g (access_turn made stage)) → (some : CanEnd (Hears g (access_turn made stage))) → CanEnd (access_left kinds g made stage (record { kept = kept; ends = ends }) hinted 1 some.outcome)
    → IsAtAccessTurn kinds made stage hinted kept ends g was view turns turn → CountsSince c was ends turns
at-turn {M} {X} c kinds made stage hinted kept ends g was view turns turn law silent some can d h m =
    let held : Carried X = record { kept = kept; ends = ends } in
    let now : Accessed X → List X = λ end. end.held.ends in
    let left : ℕ → Turns → Accessed X → Type 0 = λ n. Follows (Hears g (access_turn made stage)) (access_left kinds g made stage held hinted n) in
    left-counts c was.ends ends now (IsWholeAccess kinds g made was) (Sometimes left) turns h m (whole-access c kinds g made was law)
    (turn-sometimes c ends now left (λ n. turn-follows c ends (λ (heard : Heard). ends) now (Hears g (access_turn made stage)) (access_left kinds g made stage held hinted n) silent (λ heard. left-after c kinds g made stage held hinted n heard law)))
    d.due (can-sometimes left 1 (can-follow (Hears g (access_turn made stage)) (access_left kinds g made stage held hinted 1) some can))

-- ---- catch ups

at-catch : {M X : Type 0} (c : X → List FaultEnd) (kinds : FaultKinds M X) (made : AccessMade) (hinted : Bool) (cache : TranslationCache) (ends : List X) (g : Geometry) (was : Carried X) (view : View) (turns : Turns) (turn : Turn) → AreFaultsCounted kinds.shape c
    → IsAtCatch kinds made hinted cache ends g was view turns turn → CountsSince c was ends turns
at-catch {M} {X} c kinds made hinted cache ends g was view turns turn law d =
    let held : Carried X = record { kept = d.before; ends = ends } in
    let now : Accessed X → List X = λ end. end.held.ends in
    let left : ℕ → Turns → Accessed X → Type 0 = λ n. Tries g made (Translates kinds g made n) held hinted in
    nothing-more c was ends d.front turns d.own d.is (λ h m. silent-none h m d.own (awaits-silent cache d.before g _ d.own d.action d.awaited)) (λ h m.
    left-counts c was.ends ends now (IsWholeAccess kinds g made was) (Sometimes left) d.front h m (whole-access c kinds g made was law)
    (turn-sometimes c ends now left (λ n. tries c g made (Translates kinds g made n) (translates c kinds g made law n) held hinted))
    d.due (can-sometimes left 1 (tries-can kinds g made held hinted)))

-- ---- faults

faults-can : {M X : Type 0} (kinds : FaultKinds M X) (g : Geometry) (made : AccessMade) (fault : M) (held : Carried X) (hinted : Bool) (own : Own) (end : X) → kinds.shape fault g own end → CanEnd (Faults kinds g made (Translates kinds g made 1) fault held hinted)
faults-can {M} {X} kinds g made fault held hinted own end shown =
    let w = weaves-can (CatchesUp g) kinds.waits [] own held.kept (catches-up-can g) in
    let part : CanEnd (WeavesPart (CatchesUp g) kinds.waits (kinds.shape fault g) held.kept) = record { rest = w.rest; outcome = (end, w.outcome); shown = record { inner = own; shown = shown; woven = w.shown } } in
    let acts = some-acts (WeavesPart (CatchesUp g) kinds.waits (kinds.shape fault g) held.kept) part in
    can-follow (Acts (WeavesPart (CatchesUp g) kinds.waits (kinds.shape fault g) held.kept)) (λ end. Tries g made (Translates kinds g made 1) (held_faulted end held) hinted)
    acts (tries-can kinds g made (held_faulted acts.outcome held) hinted)

-- a fault is under way, and is to give an action
in-fault : {M X : Type 0} (c : X → List FaultEnd) (kinds : FaultKinds M X) (made : AccessMade) (hinted : Bool) (fault : M) (kept : Kept) (ends : List X) (g : Geometry) (was : Carried X) (view : View) (inner : Own) (turns : Turns) (action : Action) → AreFaultsCounted kinds.shape c
    → IsInFault kinds made hinted fault kept ends g was view inner turns → IsBegunWith (kinds.shape fault g) inner action → CountsSince c was ends turns
in-fault {M} {X} c kinds made hinted fault kept ends g was view inner turns action law d begun =
    let held : Carried X = record { kept = d.before; ends = ends } in
    let now : Accessed X → List X = λ end. end.held.ends in
    let left : ℕ → Turns → Accessed X → Type 0 = λ n. Faults kinds g made (Translates kinds g made n) fault held hinted in
    let none : (h m : Bool) → faults_from h m d.own ≡ [] = λ h m.
    weaves-count (CatchesUp g) (catches-silent g) kinds.waits [] inner d.before h m d.own kept d.woven ∙ begun-nothing c (kinds.shape fault g) h m inner action (λ own end shown. law h m fault g own end shown) begun in
    nothing-more c was ends d.front turns d.own d.is none (λ h m.
    left-counts c was.ends ends now (IsWholeAccess kinds g made was) (Sometimes left) d.front h m (whole-access c kinds g made was law)
    (turn-sometimes c ends now left (λ n. faulted c kinds g made (Translates kinds g made n) fault held hinted law (translates c kinds g made law n)))
    d.due (can-sometimes left 1 (faults-can kinds g made fault held hinted ((inner ++ (action, begun.reply) ∷ []) ++ begun.begun.rest) begun.begun.outcome begun.begun.whole)))

at-fault : {M X : Type 0} (c : X → List FaultEnd) (kinds : FaultKinds M X) (made : AccessMade) (hinted : Bool) (fault : M) (awaits : Geometry → View → Own → Action → Type 0) (kept : Kept) (ends : List X) (g : Geometry) (was : Carried X) (view : View) (turns : Turns) (turn : Turn) → AreFaultsCounted kinds.shape c
    → IsAtFault kinds made hinted fault awaits kept ends g was view turns turn → CountsSince c was ends turns
at-fault c kinds made hinted fault awaits kept ends g was view turns turn law d =
    nothing-more c was ends d.before turns d.caught d.is (λ h m. silent-none h m d.caught (where-silent (CatchesUp g) (catches-silent g) (kinds.waits d.inner d.action) d.middle d.caught kept d.catches))
    (in-fault c kinds made hinted fault d.middle ends g was view d.inner d.before d.action law d.run d.gives.begun)

at-wait : {M X : Type 0} (c : X → List FaultEnd) (kinds : FaultKinds M X) (made : AccessMade) (hinted : Bool) (fault : M) (awaits : Geometry → View → Own → Action → Type 0) (waiting : Action) (cache : TranslationCache) (ends : List X) (g : Geometry) (was : Carried X) (view : View) (turns : Turns) (turn : Turn) → AreFaultsCounted kinds.shape c
    → IsAtWait kinds made hinted fault awaits waiting cache ends g was view turns turn → CountsSince c was ends turns
at-wait c kinds made hinted fault awaits waiting cache ends g was view turns turn law d =
    nothing-more c was ends d.before turns d.own d.is (λ h m. silent-none h m d.own (awaits-silent cache d.middle g _ d.own d.action d.awaited))
    (in-fault c kinds made hinted fault d.middle ends g was view d.inner d.before waiting law d.run d.gives.begun)

-- ---- every stage

pub stage-counts : {M X : Type 0} (c : X → List FaultEnd) (kinds : FaultKinds M X) (made : AccessMade) (stage : AccessStage) (hinted : Bool) (fault : M) (awaits : Geometry → View → Own → Action → Type 0) (cache : TranslationCache) (ends : List X) (g : Geometry) (was : Carried X) (view : View) (turns : Turns) (turn : Turn) → AreFaultsCounted kinds.shape c
    → IsAtAccessStage kinds made stage hinted fault awaits cache ends g was view turns turn → (h m : Bool) → ends_counted c ends ≡ ends_counted c was.ends ++ faults_from h m (own_list turns)
stage-counts c kinds made Resting hinted fault awaits cache ends g was view turns turn law d = absurd d
stage-counts c kinds made CatchingUp hinted fault awaits cache ends g was view turns turn law d = at-catch c kinds made hinted cache ends g was view turns turn law d
stage-counts c kinds made Faulting hinted fault awaits cache ends g was view turns turn law d = at-fault c kinds made hinted fault awaits (kept_of cache) ends g was view turns turn law d
stage-counts c kinds made (Waiting waiting) hinted fault awaits cache ends g was view turns turn law d = at-wait c kinds made hinted fault awaits waiting cache ends g was view turns turn law d
stage-counts {M} {X} c kinds made Peeking hinted fault awaits cache ends g was view turns turn law d =
    let held : Carried X = record { kept = kept_of cache; ends = ends } in
    at-turn c kinds made Peeking hinted (kept_of cache) ends g was view turns turn law (turn-does c ends g (Peek made.vpage) tt) (some-heard g (Do (Peek made.vpage)) (Answer (Word 0)) (λ view. tt))
    (can-follow (Hears g (Do (Look made.vpage))) (λ look. AfterLook kinds g made 0 (Translates kinds g made 1) held hinted (word_heard look)) (some-heard g (Do (Look made.vpage)) (Answer (Word plain)) (λ view. tt)) (look-can kinds g made 0 (Translates kinds g made 1) held hinted)) d
stage-counts {M} {X} c kinds made (Looking stamp) hinted fault awaits cache ends g was view turns turn law d =
    let held : Carried X = record { kept = kept_of cache; ends = ends } in
    at-turn c kinds made (Looking stamp) hinted (kept_of cache) ends g was view turns turn law (turn-does c ends g (Look made.vpage) tt) (some-heard g (Do (Look made.vpage)) (Answer (Word plain)) (λ view. tt)) (look-can kinds g made stamp (Translates kinds g made 1) held hinted) d
stage-counts {M} {X} c kinds made Softening hinted fault awaits cache ends g was view turns turn law d =
    let held : Carried X = record { kept = kept_of cache; ends = ends } in
    at-turn c kinds made Softening hinted (kept_of cache) ends g was view turns turn law (turn-does c ends g (Soften made.vpage Hint) tt) (some-heard g (Do (Soften made.vpage Hint)) (Answer (Word 0)) (λ view. tt)) (translates-can kinds g made held true) d
stage-counts {M} {X} c kinds made (Walking stamp word) hinted fault awaits cache ends g was view turns turn law d =
    let held : Carried X = record { kept = kept_of cache; ends = ends } in
    at-turn c kinds made (Walking stamp word) hinted (kept_of cache) ends g was view turns turn law (turn-does c ends g (Walk made.vpage word (is_write made.touch)) tt) (some-heard g (Do (Walk made.vpage word (is_write made.touch))) (Answer Done) (λ view. tt)) (walk-can g made stamp word (Translates kinds g made 1) held hinted) d
stage-counts {M} {X} c kinds made Marking hinted fault awaits cache ends g was view turns turn law d =
    let held : Carried X = record { kept = kept_of cache; ends = ends } in
    at-turn c kinds made Marking hinted (kept_of cache) ends g was view turns turn law (turn-does c ends g (Mark made.page 0 1) tt) (some-heard g (Do (Mark made.page 0 1)) (Answer (Lost 0)) (λ view. tt)) (mark-can g made held) d
stage-counts {M} {X} c kinds made Putting hinted fault awaits cache ends g was view turns turn law d =
    let held : Carried X = record { kept = kept_of cache; ends = ends } in
    at-turn c kinds made Putting hinted (kept_of cache) ends g was view turns turn law (turn-puts c ends g Candidates made.page) (some-heard g (Put Candidates made.page) PutDone tt) (put-can g made held) d
stage-counts {M} {X} c kinds made Unmarking hinted fault awaits cache ends g was view turns turn law d =
    let held : Carried X = record { kept = kept_of cache; ends = ends } in
    at-turn c kinds made Unmarking hinted (kept_of cache) ends g was view turns turn law (turn-does c ends g (Mark made.page 1 0) tt) (some-heard g (Do (Mark made.page 1 0)) (Answer Done) (λ view. tt)) (touches-can g made held) d
stage-counts {M} {X} c kinds made Touching hinted fault awaits cache ends g was view turns turn law d =
    let held : Carried X = record { kept = kept_of cache; ends = ends } in
    at-turn c kinds made Touching hinted (kept_of cache) ends g was view turns turn law (turn-does c ends g (touch_action made made.touch) (touch-is made made.touch)) (some-heard g (Do (touch_action made made.touch)) (Answer (Word 0)) (touch-heard g made made.touch)) (can-ends (record { held = held; word = 0 })) d
