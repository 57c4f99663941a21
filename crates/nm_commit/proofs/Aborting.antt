-- A transaction aborts.
use Rattle.std.proofs.Common.{◌≡◌, ℕ, ◌==◌, if◌then◌else◌, Bool, true, List, [], ◌∷◌, Option, Some, None, option_map, IsSome, IsSomeAnd, inl, refl, sym, ap, ◌∙◌, subst, arith}
use Rattle.nm_base.specs.Geometry.{Geometry, backing_page}
use Rattle.nm_base.specs.PageWord.{is_dirty}
use Rattle.nm_action.specs.declared.action.Action.TheVariants.{Unlock, Map}
use Rattle.nm_action.specs.declared.action.Reply.{Reply}
use Rattle.nm_action.specs.declared.action.Reply.TheVariants.{Done}
use Rattle.nm_action.specs.Own.{Own}
use Rattle.nm_view.specs.declared.view.Fill.{Fill}
use Rattle.nm_view.specs.declared.view.Owned.{Owned}
use Rattle.nm_view.specs.Lists.{find, erase, first}
use Rattle.nm_view.specs.Views.{Op, View}
use Rattle.nm_view.specs.Opening.{unscanned}
use Rattle.nm_view.specs.Operations.{page_of, owned_frame, op_on}
use Rattle.nm_view.proofs.Finds.{find_map}
use Rattle.nm_permit.specs.Permitted.{IsWordBack, MayMap, MayUnlock}
use Rattle.nm_event.specs.After.{edit_under, mapped_at, spoiled_frame, spoiled_under, spoiled}
use Rattle.nm_part.specs.Patterns.{Ends}
use Rattle.nm_part.proofs.Patterns.{can-ends}
use Rattle.nm_compose.specs.Acts.{IsActed}
use Rattle.nm_pool.specs.Pool.{IsPool}
use Rattle.nm_pool.specs.Given.{pool_made, Leaves, released}
use Rattle.nm_pool.specs.declared.job.PoolJob.TheVariants.{Back}
use Rattle.nm_pool.specs.declared.job.PoolEnd.{PoolEnd}
use Rattle.nm_pool.specs.declared.job.PoolEnd.TheVariants as pools
use Rattle.nm_prepare.specs.Placing.{IsPlanPlaced}
use Rattle.nm_prepare.proofs.Held.{some-of}
use Rattle.nm_mappings.proofs.Lists.{vpage-there}
use Rattle.nm_commit.specs.declared.decide.DecideMade.{DecideMade}
use Rattle.nm_commit.specs.declared.decide.Decided.TheVariants.{Aborted}
use Rattle.nm_commit.specs.declared.decide.DecideStage.TheVariants.{MappingBack, UnlockingOld, PuttingBack}
use Rattle.nm_commit.specs.Deciding.{Aborts, UnlocksOld, GivesBack, IsSwapped, MayDecide, IsDecision}
use Rattle.nm_commit.specs.Stages.{decide_piece, DecideKnown, page_changed, IsAt}
use Rattle.nm_commit.proofs.Changed.{some-changed, some-more, erase-edit, spoil-twice, erase-spoiled}
use Rattle.nm_commit.proofs.Runs.{can-unlocks-old, can-gives-back, decide-act, decide-task, RunsDecide, done-acted}

-- One taken word.

pub found-one : (v word : ℕ) → find first v ((v, word) ∷ []) ≡ Some (v, word)
found-one v word = let t : (v == v) ≡ true = grind arith in ap (λ (b : Bool). if b then Some (v, word) else None) t

pub erased-one : (v word : ℕ) → erase first v ((v, word) ∷ []) ≡ []
erased-one v word = let t : (v == v) ≡ true = grind arith in let L : List (ℕ × ℕ) = [] in ap (λ (b : Bool). if b then L else (v, word) ∷ []) t

taken-found : (v word : ℕ) (taken : List (ℕ × ℕ)) → taken ≡ (v, word) ∷ [] → find first v taken ≡ Some (v, word)
taken-found v word taken e = ap (find first v) e ∙ found-one v word

pub taken-erased : (v word : ℕ) (taken : List (ℕ × ℕ)) → taken ≡ (v, word) ∷ [] → erase first v taken ≡ []
taken-erased v word taken e = ap (erase first v) e ∙ erased-one v word

swapped-word : (g : Geometry) (page v word home : ℕ) (o : Op) → IsSwapped g page v word home o → IsWordBack v word o
swapped-word g page v word home o h =
    let S : Option (ℕ × ℕ) → Type 0 = λ x. IsSomeAnd x (λ p. p.1 ≡ word) in
    record { taken = subst S (sym (taken-found v word o.taken h.taken)) refl; unmoved = h.moved; phase = h.phase }

may-map-back : (g : Geometry) (page v word home : ℕ) (o : Op) → is_dirty word ≡ true → IsSwapped g page v word home o → MayMap g v word o
may-map-back g page v word home o dirty h =
    let back = swapped-word g page v word home o h in
    record {
      phase = λ e. let t = h.phase in cc;
      flushed = h.flushed;
      fits = inl back;
      back = λ cleared unmoved. back;
      dirty = λ cleared unmoved. dirty;
    }

-- the taken word is mapped again
pub runs-mapping-back : (made : DecideMade) (g : Geometry) (view : View) → MayDecide g made g view → is_dirty made.word ≡ true → RunsDecide made MappingBack (Aborts g made) g view view
runs-mapping-back made g view may dirty =
    decide-act (IsPlanPlaced decide_piece DecideKnown g made MappingBack) (λ g. UnlocksOld g made) (Map made.vpage made.word) g view view
    tt
    (record {
      range = vpage-there g made.vpage made.page may.backing;
      permitted = some-of g made.page made.vpage view (MayMap g made.vpage made.word) may.backing
          (some-more (IsSwapped g made.page made.vpage made.word made.home) (MayMap g made.vpage made.word) (op_on view made.page) may.op (λ o h. may-map-back g made.page made.vpage made.word made.home o dirty h));
    })
    (record { geometry = refl; is = refl; holds = (record { may = may; same = refl }, dirty) })
    (can-unlocks-old g made)

-- a Map, by the page of its virtual page
pub mapped-view : (g : Geometry) (page v word : ℕ) (view : View) → backing_page g v ≡ Some page
    → record view { ops = edit_under (backing_page g v) (mapped_at v word) view.ops; owned = spoiled_under (backing_page g v) view.owned } ≡ page_changed page (mapped_at v word) (spoiled page view.owned) view
mapped-view g page v word view e = ap (λ (o : Option ℕ). record view { ops = edit_under o (mapped_at v word) view.ops; owned = spoiled_under o view.owned }) e

may-unlock-old : (g : Geometry) (page v word home : ℕ) (o : Op) → IsSwapped g page v word home o → MayUnlock g (mapped_at v word o)
may-unlock-old g page v word home o h = record {
  back = taken-erased v word o.taken h.taken;
  flushed = record { made = h.flushed.made; seen = h.flushed.seen };
  phase = λ e. let t = h.phase in cc;
}

-- after the Map: the page is unlocked
pub runs-unlocking-old : (made : DecideMade) (g : Geometry) (first now later : View) (reply : Reply) → IsAt made g first now first → IsActed g now (Map made.vpage made.word) reply later → RunsDecide made UnlockingOld (UnlocksOld g made) g first later
runs-unlocking-old made g first now later reply h acted =
    let V : View → Type 0 = λ v. IsActed g v (Map made.vpage made.word) Done later in
    let a = subst V h.same (done-acted (Map made.vpage made.word) g now later reply acted.fits.kind acted) in
    let is : later ≡ page_changed made.page (mapped_at made.vpage made.word) (spoiled made.page first.owned) first = a.is ∙ mapped-view g made.page made.vpage made.word first h.may.backing in
    decide-act (IsPlanPlaced decide_piece DecideKnown g made UnlockingOld) (λ g. GivesBack g made) (Unlock made.page) g first later
    tt
    (record {
      range = h.may.page;
      permitted = some-changed made.page (mapped_at made.vpage made.word) (spoiled made.page first.owned) first later (IsSwapped g made.page made.vpage made.word made.home) (MayUnlock g) is (λ o. refl) h.may.op
          (λ o s. may-unlock-old g made.page made.vpage made.word made.home o s);
    })
    (record { geometry = refl; is = refl; holds = record { may = h.may; same = is } })
    (can-gives-back g made)

-- an operation that was page_changed is closed
pub closed-view : (page : ℕ) (change : Op → Op) (owned : List Owned) (view now : View) → now ≡ page_changed page change (spoiled page owned) view → ((o : Op) → page_of (change o) ≡ page_of o)
    → record now { ops = erase page_of page now.ops; owned = spoiled page now.owned } ≡ record view { ops = erase page_of page view.ops; owned = spoiled page owned }
closed-view page change owned view now is same =
    ap (λ (v : View). record v { ops = erase page_of page v.ops; owned = spoiled page v.owned }) is
    ∙ (ap (λ (l : List Op). record view { ops = l; owned = spoiled page (spoiled page owned) }) (erase-edit page_of page change view.ops same)
    ∙ ap (λ (l : List Owned). record view { ops = erase page_of page view.ops; owned = l }) (spoil-twice page owned))

owned-there : (frame : ℕ) (owned : List Owned) (o : Option Owned) (fill : Fill) → find owned_frame frame owned ≡ o → option_map (λ (w : Owned). w.fill) o ≡ Some fill → IsSome (find owned_frame frame owned)
owned-there frame owned None fill e h = cc
owned-there frame owned (Some w) fill e h = let S : Option Owned → Type 0 = λ o. IsSome o in subst S (sym e) refl

some-map : {A B : Type 0} (f : A → B) (o : Option A) → IsSome o → IsSome (option_map f o)
some-map f None h = h
some-map f (Some x) h = refl

-- a frame that is owned is owned when the others are spoiled
spoiled-there : (page frame : ℕ) (owned : List Owned) → IsSome (find owned_frame frame owned) → IsSome (find owned_frame frame (spoiled page owned))
spoiled-there page frame owned h = let S : Option Owned → Type 0 = λ o. IsSome o in subst S (sym (find_map owned_frame (spoiled_frame page) frame owned (λ w. refl))) (some-map (spoiled_frame page) (find owned_frame frame owned) h)

-- after the Unlock: the new frame is put back
pub runs-putting-back : (made : DecideMade) (g : Geometry) (first now later : View) (reply : Reply) → IsAt made g first now (page_changed made.page (mapped_at made.vpage made.word) (spoiled made.page first.owned) first) → IsActed g now (Unlock made.page) reply later
    → RunsDecide made PuttingBack (GivesBack g made) g first later
runs-putting-back made g first now later reply h acted =
    let a = done-acted (Unlock made.page) g now later reply acted.fits.kind acted in
    let is = a.is ∙ closed-view made.page (mapped_at made.vpage made.word) first.owned first now h.same (λ o. refl) in
    let S : View → Type 0 = λ v. IsSome (find owned_frame made.frame v.owned) in
    decide-task (IsPlanPlaced decide_piece DecideKnown g made PuttingBack) (λ g. Ends (Aborted made.word)) (pool_made g (Back made.frame)) g first later
    (record {
      geometry = h.may.geometry;
      is = refl;
      work = (h.may.frame, subst S (sym is) (spoiled-there made.page made.frame first.owned (owned-there made.frame first.owned (find owned_frame made.frame first.owned) _ refl h.may.fill)));
      turn = ap (λ (v : View). v.turn) is ∙ h.may.turn;
    })
    (record { geometry = refl; is = refl; holds = record { may = h.may; same = is } })
    (can-ends (Aborted made.word))

-- after the frame was put back
pub aborted-left : (made : DecideMade) (g : Geometry) (first now later : View) (own : Own) (end : PoolEnd) → IsAt made g first now (record first { ops = erase page_of made.page first.ops; owned = spoiled made.page first.owned }) → Leaves g (Back made.frame) now end later → IsPool g (Back made.frame) own end
    → IsDecision made first later
aborted-left made g first now later own (pools.Got f) h left shown = absurd shown.work
aborted-left made g first now later own (pools.AtFloor n) h left shown = absurd shown.work
aborted-left made g first now later own (pools.Level n) h left shown = absurd shown.work
aborted-left made g first now later own pools.Back h left shown = record {
  scan = unscanned;
  is = left
      ∙ (ap (λ (v : View). record (released v) { owned = erase owned_frame made.frame v.owned }) h.same
      ∙ (ap (λ (l : List Owned). record first { ops = erase page_of made.page first.ops; owned = l; turn = None; scan = unscanned }) (erase-spoiled made.page made.frame first.owned)
      ∙ ap (λ (t : Option ℕ). record first { ops = erase page_of made.page first.ops; owned = spoiled made.page (erase owned_frame made.frame first.owned); turn = t; scan = unscanned }) (sym h.may.turn)));
}
