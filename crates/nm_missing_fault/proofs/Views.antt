-- The views along the fault on a virtual page that is not mapped.
use Rattle.std.proofs.Common.{◌≡◌, ◌≢◌, ℕ, zero, suc, ◌-◌, ◌<◌, ◌≤◌, ◌==◌, not, Bool, true, false, List, [], ◌∷◌, ◌++◌, Option, Some, None, option_map, refl, sym, ap, ◌∙◌, subst, arith}
use Rattle.nm_base.specs.Geometry.{Geometry, frame_count}
use Rattle.nm_base.specs.HomeWord.{home_word}
use Rattle.nm_action.specs.declared.action.Action.TheVariants.{Unlock, Look, Read, Map, SetHome}
use Rattle.nm_action.specs.declared.action.Cell.TheVariants.{Home, Shadow}
use Rattle.nm_action.specs.declared.action.Reply.TheVariants.{Done, Word}
use Rattle.nm_view.specs.declared.view.Fill.{Fill}
use Rattle.nm_view.specs.declared.view.Fill.TheVariants.{Raw, Zeroed}
use Rattle.nm_view.specs.declared.view.Owned.{Owned}
use Rattle.nm_view.specs.declared.view.Scanned.{Scanned}
use Rattle.nm_view.specs.Lists.{edit, erase}
use Rattle.nm_view.specs.Opening.{opened}
use Rattle.nm_view.specs.Operations.{owned_frame, fill_of}
use Rattle.nm_view.specs.Views.{Op, View}
use Rattle.nm_view.proofs.Finds.{find_join}
use Rattle.nm_event.specs.After.{after_of, filled, spoiled}
use Rattle.nm_event.specs.Fitting.{IsHomeRead}
use Rattle.nm_compose.specs.Acts.{IsActed}
use Rattle.nm_copying.specs.Zeroing.{zeroed_fill, IsZeroed}
use Rattle.nm_copying.proofs.Copied.{some-words}
use Rattle.nm_reclaim.specs.Swept.{IsForgotten, IsSwept}
use Rattle.nm_reclaim.proofs.Lasts.{edit_last, erase_last}
use Rattle.nm_reclaim.proofs.Forgetting.{forgets-all}
use Rattle.nm_reclaim.proofs.Views.{forgets-none, forgets-more}
use Rattle.nm_missing_fault.specs.Found.{IsFound}
use Rattle.nm_shadow_fault.specs.declared.fault.FaultMade.{FaultMade}
use Rattle.nm_shadow_fault.specs.Locking.{LeavesLocked}
use Rattle.nm_shadow_fault.specs.Granting.{fault_made, fault_op, with_op, IsAtLock, IsAtLook}
use Rattle.nm_shadow_fault.proofs.Granting.{same-number, erases-it, told-there, looked-view, read-view, read-shadow}
use Rattle.nm_missing_fault.specs.Stages.{IsMissing, IsAtShadowOf, with_scan, IsWithFrame, homed_op, IsAtMap, IsFaultMapped}

-- Steps.

-- the page was locked
pub locked-view : (made : FaultMade) (g : Geometry) (first now later : View) → IsAtLock (fault_made g made) g first now → LeavesLocked made.page now later → IsAtLook (fault_made g made) g first later
locked-view made g first now later at left = record {
  may = at.may;
  is = left.is ∙ (ap (λ (v : View). record v { ops = v.ops ++ opened made.page v.room.aliases ∷ [] }) at.is
      ∙ ap (λ (ops : List Op). record first { ops = ops ++ opened made.page first.room.aliases ∷ [] }) at.may.ops);
}

-- v was looked at as 0
pub looked-none : (made : FaultMade) (g : Geometry) (first now later : View) (word : ℕ) → word ≡ 0 → IsAtLook (fault_made g made) g first now → IsActed g now (Look made.vpage) (Word word) later
    → IsMissing made None None g first later
looked-none made g first now later word none at acted =
    let W : ℕ → Type 0 = λ w. later ≡ with_op first (fault_op made first w None None) first.owned in
    record { may = at.may; is = subst W none (looked-view (fault_made g made) g first now later word at acted) }

-- the home was read as none
pub home-none : (made : FaultMade) (g : Geometry) (first now later : View) (word : ℕ) → word ≡ 0 → IsMissing made None None g first now → IsActed g now (Read made.page (Home made.page)) (Word word) later
    → IsMissing made (Some 0) None g first later
home-none made g first now later word none at acted =
    let W : ℕ → Type 0 = λ w. later ≡ with_op first (fault_op made first 0 (Some w) None) first.owned in
    record { may = at.may; is = subst W none (read-view (fault_made g made) g first now later 0 word None None at.is acted) }

-- a home word that was read names a frame, or none
pub home-range : (made : FaultMade) (g : Geometry) (first now later : View) (word : ℕ) → IsMissing made None None g first now → IsActed g now (Read made.page (Home made.page)) (Word word) later → word ≤ frame_count g
home-range made g first now later word at acted =
    let told : IsHomeRead g now word (fault_op made first 0 None None) = told-there first (fault_op made first 0 None None) first.owned now made.page (λ x. IsHomeRead g now word x) at.is refl acted.fits.told.said in
    (told.news refl).range

-- the home was read
pub home-some : (made : FaultMade) (g : Geometry) (first now later : View) (word : ℕ) → word ≢ 0 → IsMissing made None None g first now → IsActed g now (Read made.page (Home made.page)) (Word word) later
    → IsAtShadowOf made (word - 1) g first later
home-some made g first now later word some at acted =
    let range : word ≤ frame_count g = home-range made g first now later word at acted in
    let named : word ≡ home_word (word - 1) = omega (arith, some) in
    let H : ℕ → Type 0 = λ h. later ≡ with_op first (fault_op made first 0 (Some h) None) first.owned in
    record {
      frame = omega (arith, range, some);
      missing = record { may = at.may; is = subst H named (read-view (fault_made g made) g first now later 0 word None None at.is acted) };
    }

-- the shadow word was read
pub shadow-told : (made : FaultMade) (home : ℕ) (g : Geometry) (first now later : View) (word : ℕ) → IsAtShadowOf made home g first now → IsActed g now (Read made.page (Shadow home)) (Word word) later
    → IsAtMap made home (not (word == 0)) g first later
shadow-told made home g first now later word at acted =
    let read = read-shadow (fault_made g made) g first now later 0 word home (Some (home_word home)) None at.missing.is acted in
    let V : View → Type 0 = λ v. IsAtMap made home (not (word == 0)) g first v in
    subst V (sym read) (record { may = at.missing.may; frame_is = at.frame; shadow = word; moved = false; known = refl; owned = forgets-none None first.owned; is = refl })

-- a frame was found
pub found-view : (made : FaultMade) (frame : ℕ) (g : Geometry) (first now later : View) → IsMissing made (Some 0) None g first now → IsFound (record { page = made.page }) g now frame later → IsWithFrame made frame Raw g first later
found-view made frame g first now later at found =
    let frames : now.owned ≡ first.owned = ap (λ (v : View). v.owned) at.is in
    record {
      may = at.may;
      before = found.before;
      owned = forgets-all (Some made.page) first.owned found.before (subst (λ (ws : List Owned). IsForgotten (Some made.page) ws found.before) frames found.owned);
      exists = found.exists;
      fresh = found.fresh;
      is = found.is ∙ ap (λ (v : View). record v { owned = found.before ++ record { frame = frame; fill = Raw } ∷ []; scan = later.scan }) at.is;
    }

all-zeroed : (words : ℕ) → 0 < words → zeroed_fill words ≡ Zeroed words
all-zeroed zero some = absurd (omega (arith, some))
all-zeroed (suc n) some = refl

-- its words were set to 0
pub zeroed-view : (made : FaultMade) (frame : ℕ) (g : Geometry) (first now later : View) → IsWithFrame made frame Raw g first now → IsZeroed (record { frame = frame; words = g.words }) now later → IsWithFrame made frame (Zeroed g.words) g first later
zeroed-view made frame g first now later at zeroed =
    let fill : zeroed_fill g.words ≡ Zeroed g.words = all-zeroed g.words (some-words g at.may.geometry) in
    let frames : edit owned_frame frame (filled (zeroed_fill g.words)) now.owned ≡ at.before ++ record { frame = frame; fill = Zeroed g.words } ∷ [] =
    ap (λ (v : View). edit owned_frame frame (filled (zeroed_fill g.words)) v.owned) at.is
    ∙ (edit_last owned_frame (filled (zeroed_fill g.words)) (record { frame = frame; fill = Raw }) at.before at.fresh
    ∙ ap (λ (f : Fill). at.before ++ record { frame = frame; fill = f } ∷ []) fill) in
    let is : later ≡ with_scan first (fault_op made first 0 (Some 0) None) (at.before ++ record { frame = frame; fill = Zeroed g.words } ∷ []) now.scan =
    zeroed.is ∙ (ap (λ (ws : List Owned). record now { owned = ws }) frames
    ∙ ap (λ (v : View). record v { owned = at.before ++ record { frame = frame; fill = Zeroed g.words } ∷ [] }) at.is) in
    record {
      may = at.may;
      before = at.before;
      owned = at.owned;
      exists = at.exists;
      fresh = at.fresh;
      is = is ∙ ap (λ (s : Scanned). with_scan first (fault_op made first 0 (Some 0) None) (at.before ++ record { frame = frame; fill = Zeroed g.words } ∷ []) s) (sym (ap (λ (v : View). v.scan) is));
    }

-- the frame's fill
pub fill-there : (made : FaultMade) (frame : ℕ) (fill : Fill) (g : Geometry) (first now : View) → IsWithFrame made frame fill g first now → fill_of now frame ≡ Some fill
fill-there made frame fill g first now at =
    ap (λ (v : View). fill_of v frame) at.is
    ∙ ap (λ (o : Option Owned). option_map (λ (w : Owned). w.fill) o) (find_join owned_frame (record { frame = frame; fill = fill }) at.before at.fresh)

-- the frame is the home
pub home-set : (made : FaultMade) (frame : ℕ) (g : Geometry) (first now later : View) → IsWithFrame made frame (Zeroed g.words) g first now → IsActed g now (SetHome made.page frame) Done later
    → IsAtMap made frame false g first later
home-set made frame g first now later at acted =
    let o : Op = fault_op made first 0 (Some 0) None in
    let frames : List Owned = at.before ++ record { frame = frame; fill = Zeroed g.words } ∷ [] in
    let gone : erase owned_frame frame frames ≡ at.before = erase_last owned_frame (record { frame = frame; fill = Zeroed g.words }) at.before at.fresh in
    let is : later ≡ with_scan first (homed_op made first 0 frame (Some 0) true) at.before now.scan =
    acted.is ∙ (ap (λ (v : View). after_of g v (SetHome made.page frame) Done) at.is
    ∙ rw (same-number made.page, gone) refl) in
    let V : View → Type 0 = λ v. IsAtMap made frame false g first v in
    subst V (sym is) (record { may = at.may; frame_is = at.exists; shadow = 0; moved = true; known = refl; owned = at.owned; is = refl })

-- v was mapped
pub mapped-view : (made : FaultMade) (frame : ℕ) (shadowed : Bool) (word : ℕ) (g : Geometry) (first now later : View) → IsAtMap made frame shadowed g first now → IsActed g now (Map made.vpage word) Done later
    → IsFaultMapped made g first later
mapped-view made frame shadowed word g first now later at acted =
    let is : later ≡ with_scan first (homed_op made first word frame (Some at.shadow) at.moved) (spoiled made.page now.owned) now.scan =
    acted.is ∙ (ap (λ (v : View). after_of g v (Map made.vpage word) Done) at.is
    ∙ rw (at.may.mapped, same-number made.page, same-number made.vpage) refl) in
    let V : View → Type 0 = λ v. IsFaultMapped made g first v in
    subst V (sym is) (record {
      may = at.may;
      look = word;
      frame = frame;
      shadow = Some at.shadow;
      moved = at.moved;
      owned = forgets-more None made.page first.owned now.owned refl at.owned;
      is = refl;
    })

-- the page was unlocked
pub unlocked-end : (made : FaultMade) (g : Geometry) (first now later : View) → IsFaultMapped made g first now → IsActed g now (Unlock made.page) Done later → IsSwept None first later
unlocked-end made g first now later at acted =
    let o : Op = homed_op made first at.look at.frame at.shadow at.moved in
    let is : later ≡ record first { owned = spoiled made.page now.owned; scan = now.scan } =
    acted.is ∙ (ap (λ (v : View). after_of g v (Unlock made.page) Done) at.is
    ∙ ap (λ (ops : List Op). record first { ops = ops; owned = spoiled made.page now.owned; scan = now.scan }) (erases-it o ∙ sym at.may.ops)) in
    let S : View → Type 0 = λ v. IsSwept None first v in
    subst S (sym is) (record { is = refl; owned = forgets-more None made.page first.owned now.owned refl at.owned })
