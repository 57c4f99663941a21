-- What comes after a look, and how an access begins.
use Rattle.std.proofs.Common.{◌≡◌, ◌≢◌, inl, inr, ℕ, ◌==◌, ◌&&◌, not, Bool, true, false, IsTrue, [], refl, sym, ap, ◌∙◌, subst}
use Rattle.std.proofs.lemmas.Bool.{eq-eqb}
use Rattle.nm_base.specs.Geometry.{Geometry}
use Rattle.nm_base.specs.PageWord.{IsPageWord, is_present, has_hint, is_writable}
use Rattle.nm_action.specs.declared.action.Action.{Action}
use Rattle.nm_action.specs.declared.action.Action.TheVariants.{Soften, Walk}
use Rattle.nm_action.specs.declared.action.Bit.TheVariants.{Hint}
use Rattle.nm_action.specs.declared.turn.Turn.TheVariants.{Do}
use Rattle.nm_action.specs.Own.{Own}
use Rattle.nm_view.specs.Views.{View}
use Rattle.nm_part.specs.Parts.{HasBegin}
use Rattle.nm_part.specs.Patterns.{Follows, Sometimes, IsLeft}
use Rattle.nm_part.proofs.Patterns.{left-start, either-yes, either-other}
use Rattle.nm_actor.specs.Turns.{Turns}
use Rattle.nm_desk.specs.Desk.{desk}
use Rattle.nm_catchup.specs.CatchUp.{Kept}
use Rattle.nm_access.specs.declared.made.AccessMade.{AccessMade}
use Rattle.nm_access.specs.declared.access.Access.{Access}
use Rattle.nm_access.specs.declared.access.AccessStage.TheVariants.{Softening, Walking}
use Rattle.nm_access.specs.declared.access.AccessStep.TheVariants.{Give}
use Rattle.nm_access.specs.Turning.{Hears}
use Rattle.nm_access.specs.Faults.{FaultKinds, HasNothingOpen, MayFaultOn}
use Rattle.nm_access.specs.Accesses.{Carried, is_write, AfterLook, Faults, Tries, Translates, IsWholeAccess}
use Rattle.nm_access.specs.Accessing.{access_turn, access_left, view_then}
use Rattle.nm_access.specs.Moving.{IsStepOf, held_of, IsTrying, IsOpening, IsAccessLooked, IsFaulting}
use Rattle.nm_access.proofs.TurnSteps.{tries-as}
use Rattle.nm_access.proofs.Going.{goes}

-- (3), by the word.

-- a fault may begin, and is left
pub record FaultBegins {F M X : Type 0} (kinds : FaultKinds M X) (may_begin : M → Geometry → View → Type 0) (a : Access F) (fault : M) (g : Geometry) (was : Carried X) (view : View) (turns : Turns) : Type 0 where
  pub faulting : IsFaulting kinds a fault g was view turns
  pub begin : may_begin fault g (desk g (view_then g view turns))
  pub frees : (now left : View) (end : X) → kinds.leaves fault g now end left → HasNothingOpen left

begins-with : {F M X : Type 0} (kinds : FaultKinds M X) (may_begin : M → Geometry → View → Type 0) (pick : Geometry → ℕ → M) (a : Access F) (fault : M) (stamp word : ℕ) (g : Geometry) (was : Carried X) (view : View) (turns : Turns)
    → fault ≡ pick a.geometry.now a.made.vpage
    → ((view : View) → MayFaultOn a.geometry.now a.made.vpage view → may_begin (pick a.geometry.now a.made.vpage) a.geometry.now view)
    → ((now left : View) (end : X) → kinds.leaves (pick a.geometry.now a.made.vpage) a.geometry.now now end left → HasNothingOpen left)
    → (h : IsAccessLooked kinds a stamp word g was view turns)
    → IsLeft (IsWholeAccess kinds g a.made was) turns (Sometimes (λ tries. Faults kinds g a.made (Translates kinds g a.made tries) (pick g a.made.vpage) (held_of a h.ends) a.hinted))
    → FaultBegins kinds may_begin a fault g was view turns
begins-with {F} {M} {X} kinds may_begin pick a fault stamp word g was view turns is may leaves h due =
    let v = a.made.vpage in
    let now = view_then g view turns in
    let R : M → Type 0 = λ m. FaultBegins kinds may_begin a m g was view turns in
    let B : Geometry → Type 0 = λ n. (x : View) → MayFaultOn n v x → may_begin (pick n v) n x in
    let L : Geometry → Type 0 = λ n. (x left : View) (end : X) → kinds.leaves (pick n v) n x end left → HasNothingOpen left in
    let free : MayFaultOn g v (desk g now) = record { geometry = h.well.may.geometry; vpage = h.well.may.vpage; page = a.made.page; mapped = h.well.may.mapped; exists = h.well.may.page; free = record { ops = h.known.ready.free.ops; owned = h.known.ready.free.owned; turn = h.known.ready.free.turn } } in
    let same : fault ≡ pick g v = is ∙ ap (λ (n : Geometry). pick n v) h.well.same in
    subst R (sym same) (record {
      faulting = record { ends = h.ends; well = h.well; due = due; ready = h.known.ready };
      begin = (subst B h.well.same may) (desk g now) free;
      frees = subst L h.well.same leaves;
    })

pub missing-begins : {F M X : Type 0} (kinds : FaultKinds M X) (may_begin : M → Geometry → View → Type 0) (a : Access F) (fault : M) (stamp word : ℕ) (g : Geometry) (was : Carried X) (view : View) (turns : Turns)
    → (word == 0) ≡ true → fault ≡ kinds.missing a.geometry.now a.made.vpage
    → ((view : View) → MayFaultOn a.geometry.now a.made.vpage view → may_begin (kinds.missing a.geometry.now a.made.vpage) a.geometry.now view)
    → ((now left : View) (end : X) → kinds.leaves (kinds.missing a.geometry.now a.made.vpage) a.geometry.now now end left → HasNothingOpen left)
    → IsAccessLooked kinds a stamp word g was view turns → FaultBegins kinds may_begin a fault g was view turns
missing-begins {F} {M} {X} kinds may_begin a fault stamp word g was view turns zero_is is may leaves h =
    begins-with kinds may_begin kinds.missing a fault stamp word g was view turns is may leaves h
    (tries-as (IsWholeAccess kinds g a.made was) turns (λ tries. AfterLook kinds g a.made stamp (Translates kinds g a.made tries) (held_of a h.ends) a.hinted word) (λ tries. Faults kinds g a.made (Translates kinds g a.made tries) (kinds.missing g a.made.vpage) (held_of a h.ends) a.hinted) (λ n. n) h.due
    (λ tries rest o r. either-yes (word == 0) _ _ rest o zero_is r))

pub shadowed-begins : {F M X : Type 0} (kinds : FaultKinds M X) (may_begin : M → Geometry → View → Type 0) (a : Access F) (fault : M) (stamp word : ℕ) (g : Geometry) (was : Carried X) (view : View) (turns : Turns)
    → (word == 0) ≡ false → has_hint word ≡ false → (is_write a.made.touch && not (is_writable word)) ≡ true → fault ≡ kinds.shadowed a.geometry.now a.made.vpage
    → ((view : View) → MayFaultOn a.geometry.now a.made.vpage view → may_begin (kinds.shadowed a.geometry.now a.made.vpage) a.geometry.now view)
    → ((now left : View) (end : X) → kinds.leaves (kinds.shadowed a.geometry.now a.made.vpage) a.geometry.now now end left → HasNothingOpen left)
    → IsAccessLooked kinds a stamp word g was view turns → FaultBegins kinds may_begin a fault g was view turns
shadowed-begins {F} {M} {X} kinds may_begin a fault stamp word g was view turns zero_not hint_not write is may leaves h =
    begins-with kinds may_begin kinds.shadowed a fault stamp word g was view turns is may leaves h
    (tries-as (IsWholeAccess kinds g a.made was) turns (λ tries. AfterLook kinds g a.made stamp (Translates kinds g a.made tries) (held_of a h.ends) a.hinted word) (λ tries. Faults kinds g a.made (Translates kinds g a.made tries) (kinds.shadowed g a.made.vpage) (held_of a h.ends) a.hinted) (λ n. n) h.due
    (λ tries rest o r. either-other (word == 0) _ _ rest o zero_not (either-other (has_hint word) _ _ rest o hint_not (either-yes (is_write a.made.touch && not (is_writable word)) _ _ rest o write r))))

-- the requirement of the fault
pub has-begin : {F M X : Type 0} (kinds : FaultKinds M X) (may_begin : M → Geometry → View → Type 0) (a : Access F) (fault : M) (g : Geometry) (was : Carried X) (view : View) (turns : Turns) → FaultBegins kinds may_begin a fault g was view turns → HasBegin (may_begin fault)
has-begin kinds may_begin a fault g was view turns h = record { geometry = g; view = desk g (view_then g view turns); allowed = h.begin }

pub look-softens : {F M X : Type 0} (kinds : FaultKinds M X) (made_of : F → M) (awaits_of : F → Geometry → View → Own → Action → Type 0) (a : Access F) (stamp word : ℕ) (g : Geometry) (was : Carried X) (view : View) (turns : Turns)
    → (word == 0) ≡ false → has_hint word ≡ true → IsAccessLooked kinds a stamp word g was view turns
    → IsStepOf kinds made_of awaits_of (record a { stage = Softening }) g was view turns (Give (access_turn a.made Softening))
look-softens {F} {M} {X} kinds made_of awaits_of a stamp word g was view turns zero_not hint h = goes kinds made_of awaits_of a Softening h.ends g was view turns h.well
    (tries-as (IsWholeAccess kinds g a.made was) turns (λ tries. AfterLook kinds g a.made stamp (Translates kinds g a.made tries) (held_of a h.ends) a.hinted word) (λ tries. Follows (Hears g (Do (Soften a.made.vpage Hint))) (access_left kinds g a.made Softening (held_of a h.ends) a.hinted tries)) (λ n. n) h.due
    (λ tries rest o r. either-other (word == 0) _ _ rest o zero_not (either-yes (has_hint word) _ _ rest o hint r)))
    h.known.ready

true-false : true ≡ false → ⊥
true-false e = cc

present-if : (word : ℕ) → IsPageWord word → word ≢ 0 → IsTrue (is_present word)
present-if word (inl zero_is) some = absurd (some zero_is)
present-if word (inr word_is) some = eq-eqb _ 1 word_is.present

writable-if : (write writable : Bool) → (write && not writable) ≡ false → IsTrue write → IsTrue writable
writable-if true true h w = refl
writable-if true false h w = absurd (true-false h)
writable-if false true h w = refl
writable-if false false h w = w

pub look-walks : {F M X : Type 0} (kinds : FaultKinds M X) (made_of : F → M) (awaits_of : F → Geometry → View → Own → Action → Type 0) (a : Access F) (stamp word : ℕ) (g : Geometry) (was : Carried X) (view : View) (turns : Turns)
    → (word == 0) ≡ false → has_hint word ≡ false → (is_write a.made.touch && not (is_writable word)) ≡ false → IsAccessLooked kinds a stamp word g was view turns
    → IsStepOf kinds made_of awaits_of (record a { stage = Walking stamp word }) g was view turns (Give (access_turn a.made (Walking stamp word)))
look-walks {F} {M} {X} kinds made_of awaits_of a stamp word g was view turns zero_not hint_not write_not h = goes kinds made_of awaits_of a (Walking stamp word) h.ends g was view turns h.well
    (tries-as (IsWholeAccess kinds g a.made was) turns (λ tries. AfterLook kinds g a.made stamp (Translates kinds g a.made tries) (held_of a h.ends) a.hinted word) (λ tries. Follows (Hears g (Do (Walk a.made.vpage word (is_write a.made.touch)))) (access_left kinds g a.made (Walking stamp word) (held_of a h.ends) a.hinted tries)) (λ n. n) h.due
    (λ tries rest o r. either-other (word == 0) _ _ rest o zero_not (either-other (has_hint word) _ _ rest o hint_not (either-other (is_write a.made.touch && not (is_writable word)) _ _ rest o write_not r))))
    (record { peeked = h.known; present = present-if word h.layout (λ zero_is. true-false (sym (eq-eqb word 0 zero_is) ∙ zero_not)); hint = hint_not; writable = writable-if (is_write a.made.touch) (is_writable word) write_not })

-- The first catch up.

pub opens : {F M X : Type 0} (kinds : FaultKinds M X) (a : Access F) (made : AccessMade) (g : Geometry) (was : Carried X) (view : View) → IsOpening kinds a made g was view → IsTrying kinds (record a { made = made; hinted = false }) g was view []
opens {F} {M} {X} kinds a made g was view h =
    let K : Kept → Type 0 = λ k. IsLeft (IsWholeAccess kinds g made was) [] (Sometimes (λ tries. Tries g made (Translates kinds g made tries) (record { kept = k; ends = was.ends }) false)) in
    record {
      ends = was.ends;
      well = record { same = h.same; may = h.may; counted = h.counted };
      due = subst K h.kept (left-start (IsWholeAccess kinds g made was));
      ready = h.ready;
    }
