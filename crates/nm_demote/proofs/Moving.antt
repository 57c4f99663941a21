-- The views of a demotion, once the page is ready.
use Rattle.std.proofs.Common.{◌≡◌, ◌≢◌, ℕ, ◌+◌, ◌<◌, ◌≤◌, ◌==◌, not, Bool, true, false, List, [], ◌∷◌, length, Option, Some, None, IsSome, refl, sym, ap, ◌∙◌, subst, arith}
use Rattle.std.specs.Prelude.{option_map}
use Rattle.nm_base.specs.Geometry.{Geometry, tier_of}
use Rattle.nm_base.specs.HomeWord.{home_word}
use Rattle.nm_action.specs.declared.spent.Spent.{Spent}
use Rattle.nm_action.specs.declared.action.Action.TheVariants.{Unlock}
use Rattle.nm_action.specs.declared.action.Reply.TheVariants.{Done}
use Rattle.nm_view.specs.declared.view.Fill.TheVariants.{Raw, Equal}
use Rattle.nm_view.specs.declared.view.Owned.{Owned}
use Rattle.nm_view.specs.Lists.{find, erase}
use Rattle.nm_view.specs.Views.{Op, View, own_bumps, own_raises}
use Rattle.nm_view.specs.Opening.{unscanned}
use Rattle.nm_view.specs.Operations.{owned_frame, op_on}
use Rattle.nm_view.proofs.Finds.{find_put, find_put_other}
use Rattle.nm_event.specs.After.{after_of, owning, spoiled}
use Rattle.nm_pool.specs.Given.{pool_made, MayBegin, released}
use Rattle.nm_pool.specs.declared.job.PoolJob.TheVariants.{Back}
use Rattle.nm_reclaim.proofs.Forgetting.{forgotten-fresh}
use Rattle.nm_vpages.specs.VPages.{most_vpages}
use Rattle.nm_transfer.specs.declared.transfer.Source.{Source}
use Rattle.nm_transfer.specs.declared.transfer.Source.TheVariants as sources
use Rattle.nm_transfer.specs.declared.transfer.Rights.TheVariants.{Plain}
use Rattle.nm_transfer.specs.declared.transfer.TransferMade.{TransferMade}
use Rattle.nm_transfer.specs.Transferring.{transfer_made}
use Rattle.nm_transfer.specs.Moving.{MayTransfer, IsTransferred, HasSource, still_owned}
use Rattle.nm_transfer.proofs.Lists.{erase-put, spoiled-twice}
use Rattle.nm_locked.specs.Chosen.{opened_view, move_looked_op}
use Rattle.nm_locked.proofs.Moving.{left-enough, spoiled-there, erase-spoiled}
use Rattle.nm_locked.proofs.Opened.{opened-on, erase-one}
use Rattle.nm_demote.specs.declared.select.DemoteMade.{DemoteMade}
use Rattle.nm_demote.specs.Selections.{IsNewHome, with_target, IsReadyToDemote}
use Rattle.nm_demote.specs.Demotions.{demote_transfer}
use Rattle.nm_demote.specs.Leaving.{HasDemoted}
use Rattle.nm_demote.specs.Places.{IsDemotedNow, IsUnlockedDown}

-- The transfer.

abbrev pub plain_transfer : Geometry → DemoteMade → ℕ → ℕ → Source → List ℕ → TransferMade
plain_transfer g made home frame source pages = transfer_made g made.page home frame source Plain pages

-- a slower tier is not tier 0: each table word has the hint
pub hint-on : (g : Geometry) (made : DemoteMade) (home frame : ℕ) (source : Source) (pages : List ℕ) → tier_of g home < tier_of g frame → plain_transfer g made home frame source pages ≡ demote_transfer g made home frame source pages
hint-on g made home frame source pages slower =
    let on : not (tier_of g frame == 0) ≡ true = (let slow : (tier_of g frame == 0) ≡ false = grind (arith, slower) in rw slow refl) in
    ap (λ (h : Bool). record (plain_transfer g made home frame source pages) { hint = h }) on

-- the new home is not the old one
other-home : (g : Geometry) (home frame : ℕ) → tier_of g home < tier_of g frame → frame ≢ home
other-home g home frame slower same =
    let e : tier_of g frame ≡ tier_of g home = ap (tier_of g) same in absurd (omega (arith, slower, e))

-- the old home is not owned
home-unowned : (source : Source) (home frame : ℕ) (owned : List Owned) → frame ≢ home → find owned_frame home owned ≡ None → find owned_frame home (with_target source frame owned) ≡ None
home-unowned sources.Copy home frame owned other unowned = find_put_other owned_frame (record { frame = frame; fill = Raw }) home owned other ∙ unowned
home-unowned sources.Shadow home frame owned other unowned = unowned

abbrev ready_op : DemoteMade → View → ℕ → ℕ → List (ℕ × ℕ) → Op
ready_op made view home shadow looked = move_looked_op made.page view.room.aliases (Some (home_word home)) (Some shadow) looked

has-source : (source : Source) (made : DemoteMade) (home frame shadow : ℕ) (pages : List ℕ) (g : Geometry) (view now : View) (before : List Owned) (looked : List (ℕ × ℕ)) → IsNewHome made g home frame shadow source before → now.owned ≡ with_target source frame before
    → HasSource source (plain_transfer g made home frame source pages) now (ready_op made view home shadow looked)
has-source sources.Copy made home frame shadow pages g view now before looked new owned =
    let w : Owned = record { frame = frame; fill = Raw } in
    let fill : option_map (λ (x : Owned). x.fill) (find owned_frame frame now.owned) ≡ Some Raw =
    ap (λ (l : List Owned). option_map (λ (x : Owned). x.fill) (find owned_frame frame l)) owned ∙ ap (option_map (λ (x : Owned). x.fill)) (find_put owned_frame w before) in
    (fill, ap (λ (s : ℕ). Some s) new.beside)
has-source sources.Shadow made home frame shadow pages g view now before looked new owned = (ap (λ (l : List Owned). find owned_frame frame l) owned ∙ new.fresh, ap (λ (s : ℕ). Some s) new.beside)

pub transfer-may : (made : DemoteMade) (home frame : ℕ) (source : Source) (pages : List ℕ) (g : Geometry) (view now : View) → IsReadyToDemote made g view home frame source pages now → MayTransfer (plain_transfer g made home frame source pages) g now
transfer-may made home frame source pages g view now h =
    let may = h.fast.may in
    let enough = left-enough made.spent h.fast.left in
    let bumps : view.bumps + 2 ≤ own_bumps = subst (λ (s : Spent). s.bumps + 2 ≤ own_bumps) may.spent enough.0 in
    let raises : view.raises + most_vpages ≤ own_raises = subst (λ (s : Spent). s.raises + most_vpages ≤ own_raises) may.spent enough.1 in
    let o : Op = ready_op made view home h.shadow h.looked in
    let then : View = opened_view o (with_target source frame h.before) h.scan view in
    let unowned = home-unowned source home frame h.before (other-home g home frame h.new.slower) (forgotten-fresh (Some made.page) home view.owned h.before h.forgotten h.fast.unowned) in
    let begin : MayTransfer (plain_transfer g made home frame source pages) g then = record {
      geometry = may.geometry;
      is = refl;
      page = may.page;
      home = h.fast.range;
      frame = h.new.range;
      unowned = unowned;
      of = h.seen.of;
      op = o;
      ops = refl;
      looked = record {
        page_is = refl;
        home_is = refl;
        over = h.seen.over;
        mapped = h.seen.mapped;
        found = h.seen.found;
        taken = refl;
        phase = refl;
        uncleared = refl;
        unmoved = refl;
        dry = refl;
        copied = refl;
        last = refl;
      };
      source = has-source source made home frame h.shadow pages g view then h.before h.looked h.new refl;
      bumps = omega arith;
      raises = omega (arith, h.seen.few);
    } in
    subst (λ (v : View). MayTransfer (plain_transfer g made home frame source pages) g v) (sym h.is) begin

still-owned : (source : Source) (frame : ℕ) (owned : List Owned) → find owned_frame frame owned ≡ None → still_owned source frame (with_target source frame owned) ≡ owned
still-owned sources.Copy frame owned fresh = erase-put (record { frame = frame; fill = Raw }) owned fresh
still-owned sources.Shadow frame owned fresh = refl

some-pages : (pages : List ℕ) → pages ≢ [] → 1 ≤ length pages
some-pages [] some = absurd (some refl)
some-pages (v ∷ vs) some = omega arith

pub transfer-left : (made : DemoteMade) (home frame : ℕ) (source : Source) (pages : List ℕ) (taken : List (ℕ × ℕ)) (g : Geometry) (view now later : View) → IsReadyToDemote made g view home frame source pages now
    → IsTransferred (plain_transfer g made home frame source pages) g now taken later → IsDemotedNow made home g view later
transfer-left made home frame source pages taken g view now later h t =
    let rest : spoiled made.page (owning home (Equal made.page) (still_owned source frame (with_target source frame h.before))) ≡ spoiled made.page (owning home (Equal made.page) h.before) =
    ap (λ (l : List Owned). spoiled made.page (owning home (Equal made.page) l)) (still-owned source frame h.before h.new.fresh) in
    record {
      before = h.before;
      raised = length pages;
      has = record {
        may = h.fast.may;
        range = h.fast.range;
        forgotten = h.forgotten;
        unowned = forgotten-fresh (Some made.page) home view.owned h.before h.forgotten h.fast.unowned;
        some = some-pages pages h.some;
        few = h.seen.few;
      };
      op = t.op;
      page_is = t.page_is;
      unlock = t.unlock;
      scan = h.scan;
      is = t.is
          ∙ ap (λ (v : View). record v { ops = t.op ∷ []; owned = spoiled made.page (owning home (Equal made.page) (still_owned source frame v.owned)); bumps = v.bumps + 1; raises = v.raises + length pages }) h.is
          ∙ ap (λ (l : List Owned). record view { ops = t.op ∷ []; owned = l; scan = h.scan; bumps = view.bumps + 1; raises = view.raises + length pages }) rest;
    }

-- The end.

pub moved-on : (made : DemoteMade) (home : ℕ) (g : Geometry) (view now : View) → (h : IsDemotedNow made home g view now) → op_on now made.page ≡ Some h.op
moved-on made home g view now h = ap (λ (v : View). op_on v made.page) h.is ∙ opened-on h.op (spoiled made.page (owning home (Equal made.page) h.before)) h.scan made.page (record view { bumps = view.bumps + 1; raises = view.raises + h.raised }) h.page_is

-- after the Unlock
pub unlocked-left : (made : DemoteMade) (home : ℕ) (g : Geometry) (view now later : View) → IsDemotedNow made home g view now → later ≡ after_of g now (Unlock made.page) Done → IsUnlockedDown made home g view later
unlocked-left made home g view now later h is =
    let owned : List Owned = spoiled made.page (owning home (Equal made.page) h.before) in
    record {
      before = h.before;
      raised = h.raised;
      has = h.has;
      scan = h.scan;
      is = is ∙ ap (λ (v : View). after_of g v (Unlock made.page) Done) h.is
          ∙ ap (λ (l : List Op). record view { ops = l; owned = spoiled made.page owned; scan = h.scan; bumps = view.bumps + 1; raises = view.raises + h.raised }) (erase-one h.op made.page h.page_is ∙ sym h.has.may.none)
          ∙ ap (λ (l : List Owned). record view { owned = l; scan = h.scan; bumps = view.bumps + 1; raises = view.raises + h.raised }) (spoiled-twice made.page (owning home (Equal made.page) h.before));
    }

home-there : (made : DemoteMade) (home : ℕ) (before : List Owned) → IsSome (find owned_frame home (spoiled made.page (owning home (Equal made.page) before)))
home-there made home before =
    let new : Owned = record { frame = home; fill = Equal made.page } in
    spoiled-there made.page home (owning home (Equal made.page) before) (subst (λ (x : Option Owned). IsSome x) (sym (find_put owned_frame new before)) refl)

pub back-may : (made : DemoteMade) (home : ℕ) (g : Geometry) (view now : View) → IsUnlockedDown made home g view now → MayBegin (pool_made g (Back home)) g now
back-may made home g view now h = record {
  geometry = h.has.may.geometry;
  is = refl;
  work = (h.has.range, subst (λ (v : View). IsSome (find owned_frame home v.owned)) (sym h.is) (home-there made home h.before));
  turn = ap (λ (v : View). v.turn) h.is ∙ h.has.may.turn;
}

pub back-left : (made : DemoteMade) (home : ℕ) (g : Geometry) (view now later : View) → IsUnlockedDown made home g view now → later ≡ record (released now) { owned = erase owned_frame home now.owned } → HasDemoted made view later
back-left made home g view now later h is =
    let new : Owned = record { frame = home; fill = Equal made.page } in
    let owned : List Owned = spoiled made.page (owning home (Equal made.page) h.before) in
    let rest : erase owned_frame home owned ≡ spoiled made.page h.before = erase-spoiled made.page home (owning home (Equal made.page) h.before) ∙ ap (spoiled made.page) (erase-put new h.before h.has.unowned) in
    record {
      before = h.before;
      forgotten = h.has.forgotten;
      scan = unscanned;
      raised = h.raised;
      some = h.has.some;
      few = h.has.few;
      is = is ∙ ap (λ (v : View). record (released v) { owned = erase owned_frame home v.owned }) h.is
          ∙ ap (λ (l : List Owned). record view { owned = l; turn = None; scan = unscanned; bumps = view.bumps + 1; raises = view.raises + h.raised }) rest
          ∙ ap (λ (t : Option ℕ). record view { owned = spoiled made.page h.before; turn = t; scan = unscanned; bumps = view.bumps + 1; raises = view.raises + h.raised }) (sym h.has.may.turn);
    }
