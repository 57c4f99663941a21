-- The views of a locked move, once the page is ready.
use Rattle.std.proofs.Common.{◌≡◌, ◌≢◌, ℕ, ◌+◌, ◌-◌, ◌<◌, ◌≤◌, ◌==◌, ◌||◌, nat_le, if◌then◌else◌, Bool, true, false, List, [], ◌∷◌, map, length, All, Option, Some, None, IsSome, IsSomeAnd, inl, inr, refl, sym, ap, ◌∙◌, subst, arith}
use Rattle.std.specs.Prelude.{option_map}
use Rattle.std.proofs.lemmas.Bool.Decides.{nat_tests}
use Rattle.nm_base.specs.Geometry.{Geometry, IsGeometry}
use Rattle.nm_base.specs.HomeWord.{home_word}
use Rattle.nm_action.specs.declared.spent.Spent.{Spent}
use Rattle.nm_action.specs.declared.action.Action.TheVariants.{Unlock, Mark}
use Rattle.nm_action.specs.declared.action.Reply.TheVariants.{Done, Word, Busy, Lost}
use Rattle.nm_view.specs.declared.view.Fill.{Fill}
use Rattle.nm_view.specs.declared.view.Fill.TheVariants.{Raw, Equal}
use Rattle.nm_view.specs.declared.view.Owned.{Owned}
use Rattle.nm_view.specs.declared.view.Scanned.{Scanned}
use Rattle.nm_view.specs.Lists.{find, erase, put}
use Rattle.nm_view.specs.Views.{Op, View, own_bumps, own_raises}
use Rattle.nm_view.specs.Opening.{unscanned}
use Rattle.nm_view.specs.Operations.{page_of, owned_frame, op_on, fill_of}
use Rattle.nm_view.proofs.Finds.{find_put, find_put_other}
use Rattle.nm_permit.specs.Permitted.{MayUnlock}
use Rattle.nm_event.specs.After.{after_of, owning, spoiled, spoiled_frame}
use Rattle.nm_event.specs.Fitting.{IsNotOwned}
use Rattle.nm_compose.specs.Acts.{MayAct, IsActed}
use Rattle.nm_pool.specs.Given.{pool_made, MayBegin, released}
use Rattle.nm_pool.specs.declared.job.PoolJob.TheVariants.{Back}
use Rattle.nm_vpages.specs.VPages.{most_vpages}
use Rattle.nm_transfer.specs.Moving.{MayTransfer, IsTransferred}
use Rattle.nm_transfer.proofs.Lists.{erase-put, spoiled-twice}
use Rattle.nm_prepare.specs.Worn.{is_worn, worn_bumps, worn_raises}
use Rattle.nm_locked.specs.declared.choose.ChooseMade.{ChooseMade}
use Rattle.nm_locked.specs.Chosen.{MayChoose, drawn_by, opened_view, move_looked_op, IsSlowHomeInMove, HasSeenInMove, HasReadyInMove}
use Rattle.nm_locked.specs.Moves.{locked_transfer}
use Rattle.nm_locked.specs.Places.{IsMovedNow, IsUnlockedNow}
use Rattle.nm_locked.proofs.Opened.{opened-on, erase-one}

-- The numbers that are left.

or-none : (a b : Bool) → (a || b) ≡ false → (a ≡ false) × (b ≡ false)
or-none true b e = cc
or-none false b e = (refl, e)

pub left-enough : (spent : Spent) → is_worn spent ≡ false → (spent.bumps + 2 ≤ own_bumps) × (spent.raises + most_vpages ≤ own_raises)
left-enough spent e =
    let both = or-none (nat_le worn_bumps spent.bumps) (nat_le worn_raises spent.raises) e in
    let bumps : spent.bumps < worn_bumps = grind (arith, nat_tests, both.0) in
    let raises : spent.raises < worn_raises = grind (arith, nat_tests, both.1) in
    (omega arith, omega arith)

-- The transfer.

pub transfer-may : (made : ChooseMade) (home frame : ℕ) (pages : List ℕ) (g : Geometry) (view now : View) → HasReadyInMove made g view home frame pages now → MayTransfer (locked_transfer g made home frame pages) g now
transfer-may made home frame pages g view now h =
    let may = h.slow.may in
    let enough = left-enough made.spent h.slow.left in
    let bumps : view.bumps + 2 ≤ own_bumps = subst (λ (s : Spent). s.bumps + 2 ≤ own_bumps) may.spent enough.0 in
    let raises : view.raises + most_vpages ≤ own_raises = subst (λ (s : Spent). s.raises + most_vpages ≤ own_raises) may.spent enough.1 in
    let o : Op = move_looked_op made.page view.room.aliases (Some (home_word home)) (Some 0) h.looked in
    let new : Owned = record { frame = frame; fill = Raw } in
    let owned : List Owned = owning frame Raw view.owned in
    let unowned : find owned_frame home owned ≡ None = find_put_other owned_frame new home view.owned h.new.other ∙ h.slow.unowned in
    let fill : option_map (λ (w : Owned). w.fill) (find owned_frame frame owned) ≡ Some Raw = ap (option_map (λ (w : Owned). w.fill)) (find_put owned_frame new view.owned) in
    let begin : MayTransfer (locked_transfer g made home frame pages) g (opened_view o owned h.scan view) = record {
      geometry = may.geometry;
      is = refl;
      page = may.page;
      home = h.slow.range;
      frame = h.new.range;
      unowned = unowned;
      of = h.seen.of;
      op = o;
      ops = refl;
      looked = record {
        page_is = refl;
        home_is = refl;
        over = h.seen.over;
        mapped = h.seen.mapped;
        found = h.seen.found;
        taken = refl;
        phase = refl;
        uncleared = refl;
        unmoved = refl;
        dry = refl;
        copied = refl;
        last = refl;
      };
      source = (fill, refl);
      bumps = omega arith;
      raises = omega (arith, h.seen.few);
    } in
    subst (λ (v : View). MayTransfer (locked_transfer g made home frame pages) g v) (sym h.is) begin

pub transfer-left : (made : ChooseMade) (home frame : ℕ) (pages : List ℕ) (taken : List (ℕ × ℕ)) (g : Geometry) (view now later : View) → HasReadyInMove made g view home frame pages now
    → IsTransferred (locked_transfer g made home frame pages) g now taken later → IsMovedNow made home g view later
transfer-left made home frame pages taken g view now later h t =
    let o : Op = move_looked_op made.page view.room.aliases (Some (home_word home)) (Some 0) h.looked in
    let new : Owned = record { frame = frame; fill = Raw } in
    let owned : List Owned = owning frame Raw view.owned in
    let rest : spoiled made.page (owning home (Equal made.page) (erase owned_frame frame owned)) ≡ spoiled made.page (owning home (Equal made.page) view.owned) =
    ap (λ (l : List Owned). spoiled made.page (owning home (Equal made.page) l)) (erase-put new view.owned h.new.fresh) in
    record {
      slow = h.slow;
      op = t.op;
      page_is = t.page_is;
      unlock = t.unlock;
      scan = h.scan;
      is = t.is
          ∙ ap (λ (v : View). record v { ops = t.op ∷ []; owned = spoiled made.page (owning home (Equal made.page) (erase owned_frame frame v.owned)); bumps = v.bumps + 1; raises = v.raises + length pages }) h.is
          ∙ ap (λ (l : List Owned). record view { ops = t.op ∷ []; owned = l; scan = h.scan; bumps = view.bumps + 1; raises = view.raises + length pages }) rest
          ∙ ap (λ (n : ℕ). record view { ops = t.op ∷ []; owned = spoiled made.page (owning home (Equal made.page) view.owned); scan = h.scan; bumps = view.bumps + 1; raises = view.raises + n }) h.seen.count;
    }

-- The end.

abbrev pub moved_view : Op → List Owned → Scanned → ℕ → View → View
moved_view op owned scan count view = record view { ops = op ∷ []; owned = owned; scan = scan; bumps = view.bumps + 1; raises = view.raises + count }

pub moved-on : (made : ChooseMade) (home : ℕ) (g : Geometry) (view now : View) → (h : IsMovedNow made home g view now) → op_on now made.page ≡ Some h.op
moved-on made home g view now h = ap (λ (v : View). op_on v made.page) h.is ∙ opened-on h.op (spoiled made.page (owning home (Equal made.page) view.owned)) h.scan made.page (record view { bumps = view.bumps + 1; raises = view.raises + made.count }) h.page_is

-- after the Unlock
pub unlocked-left : (made : ChooseMade) (home : ℕ) (g : Geometry) (view now later : View) → IsMovedNow made home g view now → later ≡ after_of g now (Unlock made.page) Done → IsUnlockedNow made home g view later
unlocked-left made home g view now later h is =
    let owned : List Owned = spoiled made.page (owning home (Equal made.page) view.owned) in
    record {
      slow = h.slow;
      scan = h.scan;
      is = is ∙ ap (λ (v : View). after_of g v (Unlock made.page) Done) h.is
          ∙ ap (λ (l : List Op). record view { ops = l; owned = spoiled made.page owned; scan = h.scan; bumps = view.bumps + 1; raises = view.raises + made.count }) (erase-one h.op made.page h.page_is ∙ sym h.slow.may.none)
          ∙ ap (λ (l : List Owned). record view { owned = l; scan = h.scan; bumps = view.bumps + 1; raises = view.raises + made.count }) (spoiled-twice made.page (owning home (Equal made.page) view.owned));
    }

spoiled-go : (page frame : ℕ) (w : Owned) (owned : List Owned) (t : Bool) → (IsSome (find owned_frame frame owned) → IsSome (find owned_frame frame (spoiled page owned))) → IsSome (if t then Some w else find owned_frame frame owned)
    → IsSome (if t then Some (spoiled_frame page w) else find owned_frame frame (spoiled page owned))
spoiled-go page frame w owned true rest h = refl
spoiled-go page frame w owned false rest h = rest h

erase-go : (page frame : ℕ) (w : Owned) (owned : List Owned) (t : Bool) → erase owned_frame frame (spoiled page owned) ≡ spoiled page (erase owned_frame frame owned)
    → (if t then spoiled page owned else spoiled_frame page w ∷ erase owned_frame frame (spoiled page owned)) ≡ spoiled page (if t then owned else w ∷ erase owned_frame frame owned)
erase-go page frame w owned true rest = refl
erase-go page frame w owned false rest = ap (λ (l : List Owned). spoiled_frame page w ∷ l) rest

-- frames of which nothing is known keep their numbers
pub spoiled-there : (page frame : ℕ) (owned : List Owned) → IsSome (find owned_frame frame owned) → IsSome (find owned_frame frame (spoiled page owned))
spoiled-there page frame [] h = h
spoiled-there page frame (w ∷ owned) h = spoiled-go page frame w owned (w.frame == frame) (spoiled-there page frame owned) h

pub erase-spoiled : (page frame : ℕ) (owned : List Owned) → erase owned_frame frame (spoiled page owned) ≡ spoiled page (erase owned_frame frame owned)
erase-spoiled page frame [] = refl
erase-spoiled page frame (w ∷ owned) = erase-go page frame w owned (w.frame == frame) (erase-spoiled page frame owned)

home-there : (made : ChooseMade) (home : ℕ) (view : View) → IsSome (find owned_frame home (spoiled made.page (owning home (Equal made.page) view.owned)))
home-there made home view =
    let new : Owned = record { frame = home; fill = Equal made.page } in
    spoiled-there made.page home (owning home (Equal made.page) view.owned) (subst (λ (x : Option Owned). IsSome x) (sym (find_put owned_frame new view.owned)) refl)

pub back-may : (made : ChooseMade) (home : ℕ) (g : Geometry) (view now : View) → IsUnlockedNow made home g view now → MayBegin (pool_made g (Back home)) g now
back-may made home g view now h = record {
  geometry = h.slow.may.geometry;
  is = refl;
  work = (h.slow.range, subst (λ (v : View). IsSome (find owned_frame home v.owned)) (sym h.is) (home-there made home view));
  turn = ap (λ (v : View). v.turn) h.is ∙ h.slow.may.turn;
}

pub back-left : (made : ChooseMade) (home : ℕ) (g : Geometry) (view now later : View) → IsUnlockedNow made home g view now → later ≡ record (released now) { owned = erase owned_frame home now.owned }
    → later ≡ record view { owned = spoiled made.page view.owned; scan = unscanned; bumps = view.bumps + 1; raises = view.raises + made.count }
back-left made home g view now later h is =
    let new : Owned = record { frame = home; fill = Equal made.page } in
    let owned : List Owned = spoiled made.page (owning home (Equal made.page) view.owned) in
    let rest : erase owned_frame home owned ≡ spoiled made.page view.owned = erase-spoiled made.page home (owning home (Equal made.page) view.owned) ∙ ap (spoiled made.page) (erase-put new view.owned h.slow.unowned) in
    is ∙ ap (λ (v : View). record (released v) { owned = erase owned_frame home v.owned }) h.is
    ∙ ap (λ (l : List Owned). record view { owned = l; turn = None; scan = unscanned; bumps = view.bumps + 1; raises = view.raises + made.count }) rest
    ∙ ap (λ (t : Option ℕ). record view { owned = spoiled made.page view.owned; turn = t; scan = unscanned; bumps = view.bumps + 1; raises = view.raises + made.count }) (sym h.slow.may.turn)
