-- What is given after the turn of a stage was answered.
use Rattle.std.proofs.Common.{◌≡◌, ◌≢◌, ℕ, suc, ◌&&◌, ◌||◌, Bool, true, false, IsTrue, List, [], ◌∷◌, ◌++◌, refl, sym, ap, ◌∙◌, subst}
use Rattle.std.proofs.lemmas.List.{append-nil}
use Rattle.nm_base.specs.Geometry.{Geometry}
use Rattle.nm_base.specs.PageWord.{is_present, is_writable, is_dirty, frame_of}
use Rattle.nm_base.specs.Ranges.{IsFrame}
use Rattle.nm_action.specs.declared.action.Action.{Action}
use Rattle.nm_action.specs.declared.action.Action.TheVariants.{Peek, Soften, Mark}
use Rattle.nm_action.specs.declared.action.Bit.TheVariants.{Hint}
use Rattle.nm_action.specs.declared.action.Reply.{Reply}
use Rattle.nm_action.specs.declared.action.Reply.TheVariants.{Done, Word, Lost}
use Rattle.nm_action.specs.declared.turn.Lane.TheVariants.{Candidates}
use Rattle.nm_action.specs.declared.turn.Turn.{Turn}
use Rattle.nm_action.specs.declared.turn.Turn.TheVariants.{Do, Put}
use Rattle.nm_action.specs.declared.turn.Heard.{Heard}
use Rattle.nm_action.specs.declared.turn.Heard.TheVariants.{Answer, PutDone, PutFull}
use Rattle.nm_action.specs.Own.{Own}
use Rattle.nm_view.specs.Views.{View}
use Rattle.nm_part.specs.Patterns.{Follows, Sometimes, IsLeft}
use Rattle.nm_part.proofs.Patterns.{either-yes, either-other, ends-now}
use Rattle.nm_actor.specs.Turns.{Turns}
use Rattle.nm_actor.specs.Actors.{IsAnswer}
use Rattle.nm_setcache.specs.SetAssociative.{put_in_set}
use Rattle.nm_catchup.specs.CatchUp.{Kept}
use Rattle.nm_catchup.specs.Catching.{kept_of}
use Rattle.nm_catchup.specs.declared.cache.TranslationCache.{TranslationCache}
use Rattle.nm_access.specs.declared.made.AccessMade.{AccessMade}
use Rattle.nm_access.specs.declared.access.Access.{Access}
use Rattle.nm_access.specs.declared.access.AccessStage.{AccessStage}
use Rattle.nm_access.specs.declared.access.AccessStage.TheVariants.{Resting, CatchingUp, Peeking, Looking, Faulting, Waiting, Softening, Walking, Marking, Putting, Unmarking, Touching}
use Rattle.nm_access.specs.declared.access.AccessStep.{AccessStep}
use Rattle.nm_access.specs.declared.access.AccessStep.TheVariants.{Give}
use Rattle.nm_access.specs.Turning.{Hears}
use Rattle.nm_access.specs.Faults.{FaultKinds}
use Rattle.nm_access.specs.Accesses.{Carried, Accessed, is_write, touch_action, is_marked, Touches, AfterMark, MarksCandidate, Translates, IsWholeAccess}
use Rattle.nm_access.specs.Accessing.{IsAccessReady, IsPeeked, IsAccessServed, access_turn, access_left, marked_stage, view_then, IsAccessOver, IsAtAccessStage}
use Rattle.nm_access.specs.Moving.{AwaitsOf, IsStepOf, held_of, IsBegunWell, IsAccessLooked}
use Rattle.nm_access.proofs.TurnSteps.{tries-as}
use Rattle.nm_access.proofs.Views.{peeked-then, looked-then, kept_walked, walked-then, touched-then}
use Rattle.nm_access.proofs.Going.{goes, by-turn}

-- In all of these the names are those of `goes` and `by-turn`.

absent : IsTrue (is_present 0) → ⊥
absent h = cc

-- a word that is present is not 0
present-some : (word : ℕ) → IsTrue (is_present word) → word ≢ 0
present-some word present is = absent (subst (λ n. IsTrue (is_present n)) is present)

pub after-peek : {F M X : Type 0} (kinds : FaultKinds M X) (made_of : F → M) (awaits_of : F → Geometry → View → Own → Action → Type 0) (a : Access F) (heard : Heard) (stamp : ℕ) (g : Geometry) (was : Carried X) (view : View) (turns : Turns) (turn : Turn)
    → a.stage ≡ Peeking → heard ≡ Answer (Word stamp) → AwaitsOf kinds made_of awaits_of a g was view turns turn → IsAnswer g (view_then g view turns) turn heard
    → IsStepOf kinds made_of awaits_of (record a { stage = Looking stamp }) g was view (turns ++ (turn, heard) ∷ []) (Give (access_turn a.made (Looking stamp)))
after-peek kinds made_of awaits_of a heard stamp g was view turns turn at is h answer =
    by-turn kinds made_of awaits_of a Peeking heard (Answer (Word stamp)) g was view turns turn (λ l. IsStepOf kinds made_of awaits_of (record a { stage = Looking stamp }) g was view l (Give (access_turn a.made (Looking stamp)))) at is (λ ends t. t) h answer
    (λ x. goes kinds made_of awaits_of a (Looking stamp) x.ends g was view (turns ++ (Do (Peek a.made.vpage), Answer (Word stamp)) ∷ []) x.well x.due
    (subst (λ (v : View). IsPeeked g a.made stamp (kept_of a.cache) v) (sym x.then) (peeked-then g a.made (kept_of a.cache) (view_then g view turns) stamp x.known)))

pub after-look : {F M X : Type 0} (kinds : FaultKinds M X) (made_of : F → M) (awaits_of : F → Geometry → View → Own → Action → Type 0) (a : Access F) (heard : Heard) (stamp word : ℕ) (g : Geometry) (was : Carried X) (view : View) (turns : Turns) (turn : Turn)
    → a.stage ≡ Looking stamp → heard ≡ Answer (Word word) → AwaitsOf kinds made_of awaits_of a g was view turns turn → IsAnswer g (view_then g view turns) turn heard
    → IsAccessLooked kinds a stamp word g was view (turns ++ (turn, heard) ∷ [])
after-look kinds made_of awaits_of a heard stamp word g was view turns turn at is h answer =
    by-turn kinds made_of awaits_of a (Looking stamp) heard (Answer (Word word)) g was view turns turn (λ l. IsAccessLooked kinds a stamp word g was view l) at is (λ ends t. t) h answer
    (λ x. record {
      ends = x.ends;
      well = x.well;
      due = x.due;
      known = subst (λ (v : View). IsPeeked g a.made stamp (kept_of a.cache) v) (sym x.then) (looked-then g a.made (kept_of a.cache) (view_then g view turns) stamp word x.well.may x.known);
      layout = x.answer.told.said.table.layout;
    })

-- the page is peeked again
peeks-again : {M X : Type 0} (kinds : FaultKinds M X) (g : Geometry) (made : AccessMade) (was held : Carried X) (hinted : Bool) (turns : Turns)
    → IsLeft (IsWholeAccess kinds g made was) turns (Sometimes (λ tries. Translates kinds g made tries held hinted))
    → IsLeft (IsWholeAccess kinds g made was) turns (Sometimes (λ tries. Follows (Hears g (Do (Peek made.vpage))) (access_left kinds g made Peeking held hinted tries)))
peeks-again kinds g made was held hinted turns due = tries-as (IsWholeAccess kinds g made was) turns (λ tries. Translates kinds g made tries held hinted) (λ tries. Follows (Hears g (Do (Peek made.vpage))) (access_left kinds g made Peeking held hinted tries)) (λ n. suc n) due (λ tries rest o r. r)

pub after-soften : {F M X : Type 0} (kinds : FaultKinds M X) (made_of : F → M) (awaits_of : F → Geometry → View → Own → Action → Type 0) (a : Access F) (heard : Heard) (reply : Reply) (g : Geometry) (was : Carried X) (view : View) (turns : Turns) (turn : Turn)
    → a.stage ≡ Softening → heard ≡ Answer reply → AwaitsOf kinds made_of awaits_of a g was view turns turn → IsAnswer g (view_then g view turns) turn heard
    → IsStepOf kinds made_of awaits_of (record a { hinted = true; stage = Peeking }) g was view (turns ++ (turn, heard) ∷ []) (Give (access_turn a.made Peeking))
after-soften kinds made_of awaits_of a heard reply g was view turns turn at is h answer =
    by-turn kinds made_of awaits_of a Softening heard (Answer reply) g was view turns turn (λ l. IsStepOf kinds made_of awaits_of (record a { hinted = true; stage = Peeking }) g was view l (Give (access_turn a.made Peeking))) at is (λ ends t. t) h answer
    (λ x. goes kinds made_of awaits_of (record a { hinted = true }) Peeking x.ends g was view (turns ++ (Do (Soften a.made.vpage Hint), Answer reply) ∷ []) (record { same = x.well.same; may = x.well.may; counted = x.well.counted })
    (peeks-again kinds g a.made was (held_of a x.ends) true (turns ++ (Do (Soften a.made.vpage Hint), Answer reply) ∷ []) x.due)
    (subst (λ (v : View). IsAccessReady g (kept_of a.cache) v) (sym x.then) x.known))

pub after-lost : {F M X : Type 0} (kinds : FaultKinds M X) (made_of : F → M) (awaits_of : F → Geometry → View → Own → Action → Type 0) (a : Access F) (heard : Heard) (stamp word found : ℕ) (g : Geometry) (was : Carried X) (view : View) (turns : Turns) (turn : Turn)
    → a.stage ≡ Walking stamp word → heard ≡ Answer (Lost found) → AwaitsOf kinds made_of awaits_of a g was view turns turn → IsAnswer g (view_then g view turns) turn heard
    → IsStepOf kinds made_of awaits_of (record a { stage = Peeking }) g was view (turns ++ (turn, heard) ∷ []) (Give (access_turn a.made Peeking))
after-lost kinds made_of awaits_of a heard stamp word found g was view turns turn at is h answer =
    by-turn kinds made_of awaits_of a (Walking stamp word) heard (Answer (Lost found)) g was view turns turn (λ l. IsStepOf kinds made_of awaits_of (record a { stage = Peeking }) g was view l (Give (access_turn a.made Peeking))) at is (λ ends t. t) h answer
    (λ x. goes kinds made_of awaits_of a Peeking x.ends g was view (turns ++ (access_turn a.made (Walking stamp word), Answer (Lost found)) ∷ []) x.well
    (peeks-again kinds g a.made was (held_of a x.ends) a.hinted (turns ++ (access_turn a.made (Walking stamp word), Answer (Lost found)) ∷ []) x.due)
    (subst (λ (v : View). IsAccessReady g (kept_of a.cache) v) (sym x.then) x.known.peeked.ready))

-- a page is marked, or is not
marks-goes : {F M X : Type 0} (kinds : FaultKinds M X) (made_of : F → M) (awaits_of : F → Geometry → View → Own → Action → Type 0) (a : Access F) (word : ℕ) (marked : Bool) (ends : List X) (g : Geometry) (was : Carried X) (view : View) (turns : Turns)
    → is_marked g a.hinted word ≡ marked → IsBegunWell kinds a g ends → IsLeft (IsWholeAccess kinds g a.made was) turns (Sometimes (λ tries. MarksCandidate g a.made word a.hinted (held_of a ends)))
    → IsAccessServed g a.made (kept_of a.cache) (view_then g view turns)
    → IsStepOf kinds made_of awaits_of (record a { stage = marked_stage marked }) g was view turns (Give (access_turn a.made (marked_stage marked)))
marks-goes {F} {M} {X} kinds made_of awaits_of a word true ends g was view turns is well due known = goes kinds made_of awaits_of a Marking ends g was view turns well
    (tries-as (IsWholeAccess kinds g a.made was) turns (λ tries. MarksCandidate g a.made word a.hinted (held_of a ends)) (λ tries. Follows (Hears g (Do (Mark a.made.page 0 1))) (AfterMark g a.made (held_of a ends))) (λ n. n) due
    (λ tries rest o r. either-yes (is_marked g a.hinted word) (Follows (Hears g (Do (Mark a.made.page 0 1))) (AfterMark g a.made (held_of a ends))) (Touches g a.made (held_of a ends)) rest o is r))
    known
marks-goes {F} {M} {X} kinds made_of awaits_of a word false ends g was view turns is well due known = goes kinds made_of awaits_of a Touching ends g was view turns well
    (tries-as (IsWholeAccess kinds g a.made was) turns (λ tries. MarksCandidate g a.made word a.hinted (held_of a ends)) (λ tries. Touches g a.made (held_of a ends)) (λ n. n) due
    (λ tries rest o r. either-other (is_marked g a.hinted word) (Follows (Hears g (Do (Mark a.made.page 0 1))) (AfterMark g a.made (held_of a ends))) (Touches g a.made (held_of a ends)) rest o is r))
    known

pub after-walk : {F M X : Type 0} (kinds : FaultKinds M X) (made_of : F → M) (awaits_of : F → Geometry → View → Own → Action → Type 0) (a : Access F) (cache : TranslationCache) (heard : Heard) (stamp word : ℕ) (g : Geometry) (was : Carried X) (view : View) (turns : Turns) (turn : Turn)
    → a.stage ≡ Walking stamp word → heard ≡ Answer Done → kept_of cache ≡ kept_walked a.made word stamp (kept_of a.cache)
    → AwaitsOf kinds made_of awaits_of a g was view turns turn → IsAnswer g (view_then g view turns) turn heard
    → IsStepOf kinds made_of awaits_of (record a { cache = cache; stage = marked_stage (is_marked a.geometry.now a.hinted word) }) g was view (turns ++ (turn, heard) ∷ []) (Give (access_turn a.made (marked_stage (is_marked a.geometry.now a.hinted word))))
after-walk {F} {M} {X} kinds made_of awaits_of a cache heard stamp word g was view turns turn at is kept h answer =
    by-turn kinds made_of awaits_of a (Walking stamp word) heard (Answer Done) g was view turns turn
    (λ l. IsStepOf kinds made_of awaits_of (record a { cache = cache; stage = marked_stage (is_marked a.geometry.now a.hinted word) }) g was view l (Give (access_turn a.made (marked_stage (is_marked a.geometry.now a.hinted word))))) at is (λ ends t. t) h answer
    (λ x. let l = turns ++ (access_turn a.made (Walking stamp word), Answer Done) ∷ [] in
    let D : Kept → Type 0 = λ k. IsLeft (IsWholeAccess kinds g a.made was) l (Sometimes (λ tries. MarksCandidate g a.made word a.hinted (record { kept = k; ends = x.ends }))) in
    let S : Kept → Type 0 = λ k. IsAccessServed g a.made k (view_then g view l) in
    let V : View → Type 0 = λ v. IsAccessServed g a.made (kept_walked a.made word stamp (kept_of a.cache)) v in
    marks-goes kinds made_of awaits_of (record a { cache = cache }) word (is_marked a.geometry.now a.hinted word) x.ends g was view l
    (ap (λ (n : Geometry). is_marked n a.hinted word) (sym x.well.same)) (record { same = x.well.same; may = x.well.may; counted = x.well.counted })
    (subst D (sym kept) x.due)
    (subst S (sym kept) (subst V (sym x.then) (walked-then g a.made (kept_of a.cache) (view_then g view turns) stamp word x.well.may x.known))))

-- the frame of a word that was walked is there
pub walked-frame : {F M X : Type 0} (kinds : FaultKinds M X) (made_of : F → M) (awaits_of : F → Geometry → View → Own → Action → Type 0) (a : Access F) (heard : Heard) (stamp word : ℕ) (g : Geometry) (was : Carried X) (view : View) (turns : Turns) (turn : Turn)
    → a.stage ≡ Walking stamp word → heard ≡ Answer Done → AwaitsOf kinds made_of awaits_of a g was view turns turn → IsAnswer g (view_then g view turns) turn heard
    → IsFrame a.geometry.now (frame_of word)
walked-frame kinds made_of awaits_of a heard stamp word g was view turns turn at is h answer =
    by-turn kinds made_of awaits_of a (Walking stamp word) heard (Answer Done) g was view turns turn (λ l. IsFrame a.geometry.now (frame_of word)) at is (λ ends t. t) h answer
    (λ x. subst (λ (n : Geometry). IsFrame n (frame_of word)) (sym x.well.same) (x.answer.told.table.frame (present-some word x.known.present)))

pub after-mark : {F M X : Type 0} (kinds : FaultKinds M X) (made_of : F → M) (awaits_of : F → Geometry → View → Own → Action → Type 0) (a : Access F) (heard : Heard) (g : Geometry) (was : Carried X) (view : View) (turns : Turns) (turn : Turn)
    → a.stage ≡ Marking → heard ≡ Answer Done → AwaitsOf kinds made_of awaits_of a g was view turns turn → IsAnswer g (view_then g view turns) turn heard
    → IsStepOf kinds made_of awaits_of (record a { stage = Putting }) g was view (turns ++ (turn, heard) ∷ []) (Give (access_turn a.made Putting))
after-mark kinds made_of awaits_of a heard g was view turns turn at is h answer =
    by-turn kinds made_of awaits_of a Marking heard (Answer Done) g was view turns turn (λ l. IsStepOf kinds made_of awaits_of (record a { stage = Putting }) g was view l (Give (access_turn a.made Putting))) at is (λ ends t. t) h answer
    (λ x. goes kinds made_of awaits_of a Putting x.ends g was view (turns ++ (Do (Mark a.made.page 0 1), Answer Done) ∷ []) x.well x.due (subst (λ (v : View). IsAccessServed g a.made (kept_of a.cache) v) (sym x.then) x.known))

pub after-unmarked : {F M X : Type 0} (kinds : FaultKinds M X) (made_of : F → M) (awaits_of : F → Geometry → View → Own → Action → Type 0) (a : Access F) (heard : Heard) (found : ℕ) (g : Geometry) (was : Carried X) (view : View) (turns : Turns) (turn : Turn)
    → a.stage ≡ Marking → heard ≡ Answer (Lost found) → AwaitsOf kinds made_of awaits_of a g was view turns turn → IsAnswer g (view_then g view turns) turn heard
    → IsStepOf kinds made_of awaits_of (record a { stage = Touching }) g was view (turns ++ (turn, heard) ∷ []) (Give (access_turn a.made Touching))
after-unmarked kinds made_of awaits_of a heard found g was view turns turn at is h answer =
    by-turn kinds made_of awaits_of a Marking heard (Answer (Lost found)) g was view turns turn (λ l. IsStepOf kinds made_of awaits_of (record a { stage = Touching }) g was view l (Give (access_turn a.made Touching))) at is (λ ends t. t) h answer
    (λ x. goes kinds made_of awaits_of a Touching x.ends g was view (turns ++ (Do (Mark a.made.page 0 1), Answer (Lost found)) ∷ []) x.well x.due (subst (λ (v : View). IsAccessServed g a.made (kept_of a.cache) v) (sym x.then) x.known))

pub after-put : {F M X : Type 0} (kinds : FaultKinds M X) (made_of : F → M) (awaits_of : F → Geometry → View → Own → Action → Type 0) (a : Access F) (heard : Heard) (g : Geometry) (was : Carried X) (view : View) (turns : Turns) (turn : Turn)
    → a.stage ≡ Putting → heard ≡ PutDone → AwaitsOf kinds made_of awaits_of a g was view turns turn → IsAnswer g (view_then g view turns) turn heard
    → IsStepOf kinds made_of awaits_of (record a { stage = Touching }) g was view (turns ++ (turn, heard) ∷ []) (Give (access_turn a.made Touching))
after-put kinds made_of awaits_of a heard g was view turns turn at is h answer =
    by-turn kinds made_of awaits_of a Putting heard PutDone g was view turns turn (λ l. IsStepOf kinds made_of awaits_of (record a { stage = Touching }) g was view l (Give (access_turn a.made Touching))) at is (λ ends t. t) h answer
    (λ x. goes kinds made_of awaits_of a Touching x.ends g was view (turns ++ (Put Candidates a.made.page, PutDone) ∷ []) x.well x.due (subst (λ (v : View). IsAccessServed g a.made (kept_of a.cache) v) (sym x.then) x.known))

pub after-full : {F M X : Type 0} (kinds : FaultKinds M X) (made_of : F → M) (awaits_of : F → Geometry → View → Own → Action → Type 0) (a : Access F) (heard : Heard) (g : Geometry) (was : Carried X) (view : View) (turns : Turns) (turn : Turn)
    → a.stage ≡ Putting → heard ≡ PutFull → AwaitsOf kinds made_of awaits_of a g was view turns turn → IsAnswer g (view_then g view turns) turn heard
    → IsStepOf kinds made_of awaits_of (record a { stage = Unmarking }) g was view (turns ++ (turn, heard) ∷ []) (Give (access_turn a.made Unmarking))
after-full kinds made_of awaits_of a heard g was view turns turn at is h answer =
    by-turn kinds made_of awaits_of a Putting heard PutFull g was view turns turn (λ l. IsStepOf kinds made_of awaits_of (record a { stage = Unmarking }) g was view l (Give (access_turn a.made Unmarking))) at is (λ ends t. t) h answer
    (λ x. goes kinds made_of awaits_of a Unmarking x.ends g was view (turns ++ (Put Candidates a.made.page, PutFull) ∷ []) x.well x.due (subst (λ (v : View). IsAccessServed g a.made (kept_of a.cache) v) (sym x.then) x.known))

pub after-unmark : {F M X : Type 0} (kinds : FaultKinds M X) (made_of : F → M) (awaits_of : F → Geometry → View → Own → Action → Type 0) (a : Access F) (heard : Heard) (reply : Reply) (g : Geometry) (was : Carried X) (view : View) (turns : Turns) (turn : Turn)
    → a.stage ≡ Unmarking → heard ≡ Answer reply → AwaitsOf kinds made_of awaits_of a g was view turns turn → IsAnswer g (view_then g view turns) turn heard
    → IsStepOf kinds made_of awaits_of (record a { stage = Touching }) g was view (turns ++ (turn, heard) ∷ []) (Give (access_turn a.made Touching))
after-unmark kinds made_of awaits_of a heard reply g was view turns turn at is h answer =
    by-turn kinds made_of awaits_of a Unmarking heard (Answer reply) g was view turns turn (λ l. IsStepOf kinds made_of awaits_of (record a { stage = Touching }) g was view l (Give (access_turn a.made Touching))) at is (λ ends t. t) h answer
    (λ x. goes kinds made_of awaits_of a Touching x.ends g was view (turns ++ (Do (Mark a.made.page 1 0), Answer reply) ∷ []) x.well x.due (subst (λ (v : View). IsAccessServed g a.made (kept_of a.cache) v) (sym x.then) x.known))

-- the access was made
pub after-touch : {F M X : Type 0} (kinds : FaultKinds M X) (made_of : F → M) (awaits_of : F → Geometry → View → Own → Action → Type 0) (a : Access F) (heard : Heard) (word : ℕ) (g : Geometry) (was : Carried X) (view : View) (turns : Turns) (turn : Turn)
    → a.stage ≡ Touching → heard ≡ Answer (Word word) → AwaitsOf kinds made_of awaits_of a g was view turns turn → IsAnswer g (view_then g view turns) turn heard
    → IsAccessOver kinds a.geometry.now a.made a.cache a.tally g was view (turns ++ (turn, heard) ∷ []) word
after-touch kinds made_of awaits_of a heard word g was view turns turn at is h answer =
    by-turn kinds made_of awaits_of a Touching heard (Answer (Word word)) g was view turns turn (λ l. IsAccessOver kinds a.geometry.now a.made a.cache a.tally g was view l word) at is (λ ends t. t) h answer
    (λ x. let l = turns ++ (Do (touch_action a.made a.made.touch), Answer (Word word)) ∷ [] in
    let o : Accessed _ = record { held = held_of a x.ends; word = word } in
    record {
      same = x.well.same;
      ends = x.ends;
      counted = x.well.counted;
      shown = subst (λ (t : Turns). IsWholeAccess kinds g a.made was t o) (append-nil l) (x.due.carry [] o (record { tries = 0; is = ends-now o }));
      ready = subst (λ (v : View). IsAccessReady g (kept_of a.cache) v) (sym (x.then ∙ touched-then g a.made a.made.touch (view_then g view turns) (Word word))) x.known.ready;
    })

-- the translations after the put of a page that was walked
pub walked-put : (made : AccessMade) (word stamp frame : ℕ) (dirty : Bool) (kept later : Kept) → later ≡ record kept { cache = put_in_set (record { page = made.vpage; entry = record { frame = frame; dirty = dirty; stamp = stamp } }) kept.cache }
    → frame ≡ frame_of word → dirty ≡ (is_writable word && (is_write made.touch || is_dirty word)) → later ≡ kept_walked made word stamp kept
walked-put made word stamp frame dirty kept later is frame_is dirty_is =
    let P : ℕ → Bool → Type 0 = λ f d. later ≡ record kept { cache = put_in_set (record { page = made.vpage; entry = record { frame = f; dirty = d; stamp = stamp } }) kept.cache } in
    subst (λ d. P (frame_of word) d) dirty_is (subst (λ f. P f dirty) frame_is is)

-- What is heard.

-- what holds of what was told holds of what was heard
pub heard-as : {F M X : Type 0} (kinds : FaultKinds M X) (made_of : F → M) (awaits_of : F → Geometry → View → Own → Action → Type 0) (later : Access F) (step : AccessStep) (heard told : Heard) (g : Geometry) (was : Carried X) (view : View) (turns : Turns) (turn : Turn)
    → heard ≡ told → IsAnswer g (view_then g view turns) turn heard → (IsAnswer g (view_then g view turns) turn told → IsStepOf kinds made_of awaits_of later g was view (turns ++ (turn, told) ∷ []) step)
    → IsStepOf kinds made_of awaits_of later g was view (turns ++ (turn, heard) ∷ []) step
heard-as kinds made_of awaits_of later step heard told g was view turns turn is answer h =
    let R : Heard → Type 0 = λ x. IsAnswer g (view_then g view turns) turn x → IsStepOf kinds made_of awaits_of later g was view (turns ++ (turn, x) ∷ []) step in
    (subst R (sym is) h) answer

-- only a Put is answered by what is no reply
no-do : (g : Geometry) (view : View) (turn : Turn) (action : Action) (told : Heard) → ((action : Action) → IsAnswer g view (Do action) told → ⊥) → turn ≡ Do action → IsAnswer g view turn told → ⊥
no-do g view turn action told none is answer = none action (subst (λ t. IsAnswer g view t told) is answer)

put-stage : {M X : Type 0} (kinds : FaultKinds M X) (made : AccessMade) (stage : AccessStage) (hinted : Bool) (fault : M) (awaits : Geometry → View → Own → Action → Type 0) (cache : TranslationCache) (ends : List X) (g : Geometry) (was : Carried X) (view : View) (turns : Turns) (turn : Turn) (now : View) (told : Heard)
    → ((action : Action) → IsAnswer g now (Do action) told → ⊥) → IsAtAccessStage kinds made stage hinted fault awaits cache ends g was view turns turn → IsAnswer g now turn told → stage ≡ Putting
put-stage kinds made Resting hinted fault awaits cache ends g was view turns turn now told none h answer = absurd h
put-stage kinds made CatchingUp hinted fault awaits cache ends g was view turns turn now told none h answer = absurd (no-do g now turn h.action told none h.given answer)
put-stage kinds made Faulting hinted fault awaits cache ends g was view turns turn now told none h answer = absurd (no-do g now turn h.action told none h.given answer)
put-stage kinds made (Waiting waiting) hinted fault awaits cache ends g was view turns turn now told none h answer = absurd (no-do g now turn h.action told none h.given answer)
put-stage kinds made Putting hinted fault awaits cache ends g was view turns turn now told none h answer = refl
put-stage kinds made Peeking hinted fault awaits cache ends g was view turns turn now told none h answer = absurd (no-do g now turn _ told none h.is answer)
put-stage kinds made (Looking stamp) hinted fault awaits cache ends g was view turns turn now told none h answer = absurd (no-do g now turn _ told none h.is answer)
put-stage kinds made Softening hinted fault awaits cache ends g was view turns turn now told none h answer = absurd (no-do g now turn _ told none h.is answer)
put-stage kinds made (Walking stamp word) hinted fault awaits cache ends g was view turns turn now told none h answer = absurd (no-do g now turn _ told none h.is answer)
put-stage kinds made Marking hinted fault awaits cache ends g was view turns turn now told none h answer = absurd (no-do g now turn _ told none h.is answer)
put-stage kinds made Unmarking hinted fault awaits cache ends g was view turns turn now told none h answer = absurd (no-do g now turn _ told none h.is answer)
put-stage kinds made Touching hinted fault awaits cache ends g was view turns turn now told none h answer = absurd (no-do g now turn _ told none h.is answer)

pub at-put : {F M X : Type 0} (kinds : FaultKinds M X) (made_of : F → M) (awaits_of : F → Geometry → View → Own → Action → Type 0) (a : Access F) (heard : Heard) (g : Geometry) (was : Carried X) (view : View) (turns : Turns) (turn : Turn)
    → heard ≡ PutDone → AwaitsOf kinds made_of awaits_of a g was view turns turn → IsAnswer g (view_then g view turns) turn heard → a.stage ≡ Putting
at-put kinds made_of awaits_of a heard g was view turns turn is h answer = put-stage kinds a.made a.stage a.hinted (made_of a.fault) (awaits_of a.fault) a.cache h.ends g was view turns turn (view_then g view turns) PutDone (λ action x. x) h.at
    (subst (λ x. IsAnswer g (view_then g view turns) turn x) is answer)

pub at-full : {F M X : Type 0} (kinds : FaultKinds M X) (made_of : F → M) (awaits_of : F → Geometry → View → Own → Action → Type 0) (a : Access F) (heard : Heard) (g : Geometry) (was : Carried X) (view : View) (turns : Turns) (turn : Turn)
    → heard ≡ PutFull → AwaitsOf kinds made_of awaits_of a g was view turns turn → IsAnswer g (view_then g view turns) turn heard → a.stage ≡ Putting
at-full kinds made_of awaits_of a heard g was view turns turn is h answer = put-stage kinds a.made a.stage a.hinted (made_of a.fault) (awaits_of a.fault) a.cache h.ends g was view turns turn (view_then g view turns) PutFull (λ action x. x) h.at
    (subst (λ x. IsAnswer g (view_then g view turns) turn x) is answer)
