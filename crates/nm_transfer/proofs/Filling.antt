-- The shootdown, the copy or the shadow, and the new home.
use Rattle.std.proofs.Common.{◌≡◌, ◌≢◌, ℕ, zero, suc, ◌+◌, ◌-◌, ◌^◌, ◌<◌, ◌==◌, ◌&&◌, not, if◌then◌else◌, List, [], ◌∷◌, map, length, get_or, All, Bool, Option, Some, None, IsSome, IsSomeAnd, true, false, inl, inr, refl, sym, ap, ◌∙◌, subst, arith}
use Rattle.std.specs.Prelude.{option_map}
use Rattle.nm_base.specs.Geometry.{Geometry, IsGeometry}
use Rattle.nm_base.specs.Ranges.{IsFrame}
use Rattle.nm_base.specs.HomeWord.{home_word}
use Rattle.nm_base.specs.ShadowWord.{shadow_word, shadow_frame}
use Rattle.nm_base.proofs.ShadowWords.{shadow_frame-shadow_word}
use Rattle.nm_action.specs.declared.action.Action.{Action}
use Rattle.nm_action.specs.declared.action.Action.TheVariants.{SetShadow, SetHome}
use Rattle.nm_action.specs.declared.action.Reply.TheVariants.{Done, Word, Busy, Lost}
use Rattle.nm_view.specs.declared.view.Phase.{Phase}
use Rattle.nm_view.specs.declared.view.Phase.TheVariants.{Taken}
use Rattle.nm_view.specs.declared.view.Fill.{Fill}
use Rattle.nm_view.specs.declared.view.Fill.TheVariants.{Copied, Equal}
use Rattle.nm_view.specs.declared.view.Owned.{Owned}
use Rattle.nm_view.specs.Lists.{find, edit, erase, first, itself}
use Rattle.nm_view.specs.Views.{Op, View}
use Rattle.nm_view.specs.Operations.{owned_frame, fill_of, IsAllTaken, IsLookedOver, IsUnmapped, is_flush_ended}
use Rattle.nm_view.proofs.Finds.{find_put}
use Rattle.nm_view.proofs.Known.{is-IsFlushEnded}
use Rattle.nm_permit.specs.Permitted.{IsCopyingPhase, IsWhole, HasNewHome, MaySetHome, MayUnshade, AreDueDry}
use Rattle.nm_event.specs.After.{after_of, shaded, homed_at, filled, owning, let_go, unshaded, unshading, unshaded_fill, is_quiet, is_taken_phase}
use Rattle.nm_compose.specs.Acts.{MayAct}
use Rattle.nm_compose.specs.declared.or.Or.TheVariants.{This, Other}
use Rattle.nm_shoot.specs.Flushed.{MayShoot, IsFlushOf}
use Rattle.nm_copying.specs.declared.copies.CopiesMade.{CopiesMade}
use Rattle.nm_copying.specs.Copying.{copied_to, copied_fill, copying, MayCopyPage, MayCopies}
use Rattle.nm_copying.proofs.Copied.{some-words, fill-after}
use Rattle.nm_transfer.specs.declared.transfer.Source.{Source}
use Rattle.nm_transfer.specs.declared.transfer.Source.TheVariants as sources
use Rattle.nm_transfer.specs.declared.transfer.TransferMade.{TransferMade}
use Rattle.nm_transfer.specs.Transferring.{transfer_made}
use Rattle.nm_transfer.specs.Moving.{MayTransfer, HasSource, still_owned}
use Rattle.nm_transfer.specs.Stages.{TransferPieceEnd, TransferPieceLeaves, transfer_held, taken_op, HasTaken, IsFlushing, IsPageOut, KnowsShadow, IsFilling, IsHoming, homed_owned, IsMapped}
use Rattle.nm_transfer.proofs.Lists.{found-word, erase-filled, erase-put}
use Rattle.nm_transfer.proofs.Held.{edit-one, held-on, after-unshade, after-home}
use Rattle.nm_transfer.proofs.Taking.{taken-keeps}

-- What a transfer was made with.

cpus-of : (made : TransferMade) (g : Geometry) (view : View) → MayTransfer made g view → made.cpus ≡ g.cpus
cpus-of made g view may = ap (λ (m : TransferMade). m.cpus) may.is

copies-of : (made : TransferMade) (g : Geometry) (view : View) → MayTransfer made g view → made.copies.made ≡ record { page = made.page; frame = made.frame; words = g.words }
copies-of made g view may = ap (λ (m : TransferMade). m.copies.made) may.is

pub copies-new : (made : TransferMade) (g : Geometry) (view : View) → MayTransfer made g view → made.copies.stage ≡ (transfer_made g made.page made.home made.frame made.source made.rights made.pages).copies.stage
copies-new made g view may = ap (λ (m : TransferMade). m.copies.stage) may.is

-- The shootdown.

dry-at : (o : Op) → o.wet ≡ [] → (i : ℕ) (d : Op) → i ≡ 0 → (get_or (o ∷ []) i d).wet ≡ []
dry-at o dry zero d e = dry
dry-at o dry (suc i) d e = absurd (omega arith)

dry-one : (o : Op) → o.wet ≡ [] → AreDueDry (o ∷ [])
dry-one o dry = λ i d lt due. let e : i ≡ 0 = omega arith in dry-at o dry i d e

pub shoot-may : (made : TransferMade) (taken : List (ℕ × ℕ)) (g : Geometry) (view now : View) → IsFlushing made taken g view now → MayShoot made.cpus g now
shoot-may made taken g view now at =
    let begin : MayShoot made.cpus g (transfer_held (record (taken_op taken at.has.may.op) { wet = []; raised = at.raised }) view.owned view.bumps (view.raises + length made.pages) view) = record {
      all = cpus-of made g view at.has.may;
      bump = record { few = at.has.may.bumps; dry = dry-one (record (taken_op taken at.has.may.op) { wet = []; raised = at.raised }) refl };
    } in
    subst (λ (x : View). MayShoot made.cpus g x) (sym at.is) begin

-- all words of the page were taken
found-all : (pages : List ℕ) (taken looked : List (ℕ × ℕ)) → map first taken ≡ pages → All (λ p. p.1 ≢ 0 → IsSome (find itself p.0 pages)) looked → IsAllTaken looked taken
found-all pages taken looked same h = λ i d lt some.
    let v : ℕ = (get_or looked i d).0 in
    found-word v taken (subst (λ (l : List ℕ). IsSome (find itself v l)) (sym same) (h i d lt some))

taken-some : (o : Op) (taken : List (ℕ × ℕ)) → (taken ≡ [] → ⊥) → (taken_op taken o).taken ≡ taken
taken-some o [] some = absurd (some refl)
taken-some o (p ∷ taken) some = refl

taken-phase-is : (o : Op) (taken : List (ℕ × ℕ)) → (taken ≡ [] → ⊥) → (taken_op taken o).phase ≡ Taken
taken-phase-is o [] some = absurd (some refl)
taken-phase-is o (p ∷ taken) some = refl

taken-due : (o : Op) (taken : List (ℕ × ℕ)) → (taken ≡ [] → ⊥) → (taken_op taken o).due ≡ true
taken-due o [] some = absurd (some refl)
taken-due o (p ∷ taken) some = refl

flushed-out : (made : TransferMade) (taken : List (ℕ × ℕ)) (g : Geometry) (view : View) (has : HasTaken made taken g view) (raised : List (ℕ × ℕ)) (number : ℕ) (o : Op)
    → IsFlushOf g number (record (taken_op taken has.may.op) { wet = []; raised = raised }) o → IsPageOut made taken g o
flushed-out made taken g view has raised number o f =
    let keeps = taken-keeps has.may.op taken in
    let looked = has.may.looked in
    let sees : o.looked ≡ has.may.op.looked = ap (λ (x : Op). x.looked) f.same ∙ keeps.looked in
    let words : o.taken ≡ taken = ap (λ (x : Op). x.taken) f.same ∙ taken-some has.may.op taken has.some in
    record {
      page_is = ap (λ (x : Op). x.page) f.same ∙ keeps.page ∙ looked.page_is;
      home_is = ap (λ (x : Op). x.home) f.same ∙ keeps.home ∙ looked.home_is;
      over = subst (IsLookedOver g made.page) (sym sees) looked.over;
      all = subst (λ (l : List (ℕ × ℕ)). IsAllTaken l o.taken) (sym sees) (subst (IsAllTaken has.may.op.looked) (sym words) (found-all made.pages taken has.may.op.looked has.pages looked.found));
      taken_is = words;
      phase = ap (λ (x : Op). x.phase) f.same ∙ taken-phase-is has.may.op taken has.some;
      uncleared = ap (λ (x : Op). x.cleared) f.same ∙ keeps.cleared ∙ looked.uncleared;
      unmoved = ap (λ (x : Op). x.moved) f.same ∙ keeps.moved ∙ looked.unmoved;
      flushed = f.due (taken-due has.may.op taken has.some);
    }

shadow-known : (source : Source) (made : TransferMade) (view : View) (op o : Op) → o.shadow ≡ op.shadow → HasSource source made view op → KnowsShadow source made o
shadow-known sources.Copy made view op o same h = same ∙ h.1
shadow-known sources.Shadow made view op o same h = same ∙ h.1

pub shoot-ended : (made : TransferMade) (source : Source) (taken : List (ℕ × ℕ)) (g : Geometry) (view now : View) (end : TransferPieceEnd) (later : View) → (at : IsFlushing made taken g view now) → made.source ≡ source
    → TransferPieceLeaves (Other (Other (This made.cpus))) g now end later → IsFilling made source taken g view later
shoot-ended made source taken g view now (This x) later at is left = absurd left
shoot-ended made source taken g view now (Other (This x)) later at is left = absurd left
shoot-ended made source taken g view now (Other (Other (Other x))) later at is left = absurd left
shoot-ended made source taken g view now (Other (Other (This number))) later at is left =
    let t : Op = record (taken_op taken at.has.may.op) { wet = []; raised = at.raised } in
    let f = left.each t in
    let keeps = taken-keeps at.has.may.op taken in
    let o : Op = left.flushed t in
    record {
      has = at.has;
      source_is = is;
      op = o;
      out = flushed-out made taken g view at.has at.raised number o f;
      copied = ap (λ (x : Op). x.copied) f.same ∙ keeps.copied ∙ at.has.may.looked.copied;
      last = ap (λ (x : Op). x.last) f.same ∙ keeps.last ∙ at.has.may.looked.last;
      shadow = shadow-known source made view at.has.may.op o (ap (λ (x : Op). x.shadow) f.same ∙ keeps.shadow) (subst (λ (s : Source). HasSource s made view at.has.may.op) is at.has.may.source);
      is = left.is ∙ ap (λ (x : View). record x { bumps = x.bumps + 1; ops = map left.flushed x.ops }) at.is;
    }

-- The copy.

out-unmapped : (made : TransferMade) (taken : List (ℕ × ℕ)) (g : Geometry) (o : Op) → IsPageOut made taken g o → IsUnmapped g o
out-unmapped made taken g o out = record {
  phase = record { taken = out.phase; uncleared = out.uncleared };
  taken = out.all;
  over = subst (λ (p : ℕ). IsLookedOver g p o.looked) (sym out.page_is) out.over;
  flushed = out.flushed;
}

home-some : (made : TransferMade) (taken : List (ℕ × ℕ)) (g : Geometry) (o : Op) → IsPageOut made taken g o → IsSomeAnd o.home (λ h. h ≢ 0)
home-some made taken g o out = let some : home_word made.home ≢ 0 = λ e. omega arith in subst (λ (h : Option ℕ). IsSomeAnd h (λ h. h ≢ 0)) (sym out.home_is) some

pub copy-may : (made : TransferMade) (taken : List (ℕ × ℕ)) (g : Geometry) (view now : View) → IsFilling made sources.Copy taken g view now → MayCopies made.copies.made g now
copy-may made taken g view now at =
    let may = at.has.may in
    let on = held-on at.op view.owned (view.bumps + 1) (view.raises + length made.pages) made.page view at.out.page_is in
    let source = subst (λ (s : Source). HasSource s made view may.op) at.source_is may.source in
    let phase : IsCopyingPhase g at.op at.op.phase = subst (IsCopyingPhase g at.op) (sym at.out.phase) (record { unmapped = out-unmapped made taken g at.op at.out; unmoved = at.out.unmoved }) in
    let begin : MayCopies (record { page = made.page; frame = made.frame; words = g.words }) g (transfer_held at.op view.owned (view.bumps + 1) (view.raises + length made.pages) view) = record {
      geometry = may.geometry;
      words = refl;
      page = may.page;
      frame = may.frame;
      fill = source.0;
      op = subst (λ (x : Option Op). IsSomeAnd x (MayCopyPage g)) (sym on) (record { home = home-some made taken g at.op at.out; none = at.copied; last = at.last; flushed = at.out.flushed; phase = phase });
    } in
    subst (λ (x : View). MayCopies made.copies.made g x) (sym at.is) (subst (λ (m : CopiesMade). MayCopies m g (transfer_held at.op view.owned (view.bumps + 1) (view.raises + length made.pages) view)) (sym (copies-of made g view may)) begin)

whole-copy : (page words : ℕ) → 0 < words → copied_fill page words ≡ Copied page words
whole-copy page zero lt = absurd (omega arith)
whole-copy page (suc n) lt = refl

pub copy-ended : (made : TransferMade) (taken : List (ℕ × ℕ)) (g : Geometry) (view now : View) (end : TransferPieceEnd) (later : View) → (at : IsFilling made sources.Copy taken g view now)
    → TransferPieceLeaves (Other (Other (Other made.copies.made))) g now end later → IsHoming made taken g view later
copy-ended made taken g view now (This x) later at left = absurd left
copy-ended made taken g view now (Other (This x)) later at left = absurd left
copy-ended made taken g view now (Other (Other (This x))) later at left = absurd left
copy-ended made taken g view now (Other (Other (Other end))) later at left =
    let may = at.has.may in
    let source = subst (λ (s : Source). HasSource s made view may.op) at.source_is may.source in
    let fill : Fill = copied_fill made.page g.words in
    let o : Op = copied_to g.words None at.op in
    let owned : List Owned = edit owned_frame made.frame (filled fill) view.owned in
    let whole : option_map (λ (w : Owned). w.fill) (find owned_frame made.frame owned) ≡ Some fill = fill-after made.frame fill view.owned source.0 in
    let copied : IsWhole g made.page fill = inl (whole-copy made.page g.words (some-words g may.geometry)) in
    record {
      has = at.has;
      op = o;
      out = record { page_is = at.out.page_is; home_is = at.out.home_is; over = at.out.over; all = at.out.all; taken_is = at.out.taken_is; phase = at.out.phase; uncleared = at.out.uncleared; unmoved = at.out.unmoved; flushed = record { made = at.out.flushed.made; seen = at.out.flushed.seen } };
      shadow = at.shadow;
      owned = owned;
      whole = subst (λ (x : Option Fill). IsSomeAnd x (IsWhole g made.page)) (sym whole) copied;
      rest = erase-filled made.frame fill view.owned ∙ ap (λ (s : Source). still_owned s made.frame view.owned) (sym at.source_is);
      is = left.is
          ∙ ap (λ (m : CopiesMade). copying m m.words None now) (copies-of made g view may)
          ∙ ap (λ (x : View). copying (record { page = made.page; frame = made.frame; words = g.words }) g.words None x) at.is
          ∙ ap (λ (l : List Op). record view { ops = l; owned = owned; bumps = view.bumps + 1; raises = view.raises + length made.pages }) (edit-one (copied_to g.words None) at.op made.page at.out.page_is);
    }

-- The shadow.

pub unshade-may : (made : TransferMade) (taken : List (ℕ × ℕ)) (g : Geometry) (view now : View) → IsFilling made sources.Shadow taken g view now → MayAct g now (SetShadow made.page made.home None)
unshade-may made taken g view now at =
    let may = at.has.may in
    let on = held-on at.op view.owned (view.bumps + 1) (view.raises + length made.pages) made.page view at.out.page_is in
    let some : shadow_word made.page (Some made.frame) ≢ 0 = λ e. omega arith in
    let unshade : MayUnshade made.home at.op = record { home = at.out.home_is; some = subst (λ (s : Option ℕ). IsSomeAnd s (λ word. word ≢ 0)) (sym at.shadow) some } in
    let begin : MayAct g (transfer_held at.op view.owned (view.bumps + 1) (view.raises + length made.pages) view) (SetShadow made.page made.home None) = record {
      quiet = tt;
      allowed = record {
        range = record { page = may.page; master = may.home; shadow = tt };
        permitted = subst (λ (x : Option Op). IsSomeAnd x (MayUnshade made.home)) (sym on) unshade;
      };
    } in
    subst (λ (x : View). MayAct g x (SetShadow made.page made.home None)) (sym at.is) begin

-- how an action that only stores ends
pub record HasDone (g : Geometry) (now : View) (action : Action) (later : View) : Type 0 where
  pub is : later ≡ after_of g now action Done

pub unshade-done : (g : Geometry) (now : View) (page master : ℕ) (end : TransferPieceEnd) (later : View) → TransferPieceLeaves (This (SetShadow page master None)) g now end later → HasDone g now (SetShadow page master None) later
unshade-done g now page master (This Done) later h = record { is = h.is }
unshade-done g now page master (This (Word w)) later h = absurd h.fits.kind
unshade-done g now page master (This (Busy w)) later h = absurd h.fits.kind
unshade-done g now page master (This (Lost w)) later h = absurd h.fits.kind
unshade-done g now page master (Other x) later h = absurd h

quiet-out : (made : TransferMade) (taken : List (ℕ × ℕ)) (g : Geometry) (o : Op) → IsPageOut made taken g o → is_quiet g o ≡ true
quiet-out made taken g o out =
    let ended = is-IsFlushEnded g o out.flushed in
    ap (λ (p : Phase). is_taken_phase p && (not o.cleared && is_flush_ended g o)) out.phase
    ∙ ap (λ (c : Bool). not c && is_flush_ended g o) out.uncleared
    ∙ ended

pub frames-few : (g : Geometry) → IsGeometry g → (frame : ℕ) → IsFrame g frame → frame + 1 < 2 ^ 32
frames-few g geometry frame lt = let few = geometry.ranges.1.3 in omega arith

pub unshade-ended : (made : TransferMade) (taken : List (ℕ × ℕ)) (g : Geometry) (view now : View) (end : TransferPieceEnd) (later : View) → (at : IsFilling made sources.Shadow taken g view now)
    → TransferPieceLeaves (This (SetShadow made.page made.home None)) g now end later → IsHoming made taken g view later
unshade-ended made taken g view now end later at left =
    let may = at.has.may in
    let done = unshade-done g now made.page made.home end later left in
    let source = subst (λ (s : Source). HasSource s made view may.op) at.source_is may.source in
    let o : Op = shaded made.page None at.op in
    let frame : shadow_frame (shadow_word made.page (Some made.frame)) ≡ made.frame = shadow_frame-shadow_word made.page made.frame (frames-few g may.geometry made.frame may.frame) in
    let owned : List Owned = owning made.frame (Equal made.page) view.owned in
    let gives : unshaded g made.page (Some at.op) view.owned ≡ owned =
    ap (λ (q : Bool). unshading (unshaded_fill q made.page) at.op.shadow view.owned) (quiet-out made taken g at.op at.out)
    ∙ ap (λ (s : Option ℕ). unshading (Equal made.page) s view.owned) at.shadow
    ∙ ap (λ (f : ℕ). owning f (Equal made.page) view.owned) frame in
    let new : Owned = record { frame = made.frame; fill = Equal made.page } in
    let whole : find owned_frame made.frame owned ≡ Some new = find_put owned_frame new view.owned in
    let equal : IsWhole g made.page (Equal made.page) = inr refl in
    record {
      has = at.has;
      op = o;
      out = record { page_is = at.out.page_is; home_is = at.out.home_is; over = at.out.over; all = at.out.all; taken_is = at.out.taken_is; phase = at.out.phase; uncleared = at.out.uncleared; unmoved = at.out.unmoved; flushed = record { made = at.out.flushed.made; seen = at.out.flushed.seen } };
      shadow = refl;
      owned = owned;
      whole = subst (λ (x : Option Owned). IsSomeAnd (option_map (λ (w : Owned). w.fill) x) (IsWhole g made.page)) (sym whole) equal;
      rest = erase-put new view.owned source.0 ∙ ap (λ (s : Source). still_owned s made.frame view.owned) (sym at.source_is);
      is = done.is
          ∙ ap (λ (x : View). after_of g x (SetShadow made.page made.home None) Done) at.is
          ∙ after-unshade g at.op view.owned (view.bumps + 1) (view.raises + length made.pages) made.page made.home view at.out.page_is
          ∙ ap (λ (l : List Owned). transfer_held o l (view.bumps + 1) (view.raises + length made.pages) view) gives;
    }

-- The new home.

some-known : {A : Type 0} (P Q : A → Type 0) (o : Option A) → ((x : A) → P x → Q x) → IsSomeAnd o P → IsSomeAnd o Q
some-known P Q None all h = h
some-known P Q (Some x) all h = all x h

pub home-may : (made : TransferMade) (taken : List (ℕ × ℕ)) (g : Geometry) (view now : View) → IsHoming made taken g view now → MayAct g now (SetHome made.page made.frame)
home-may made taken g view now at =
    let may = at.has.may in
    let here : View = transfer_held at.op at.owned (view.bumps + 1) (view.raises + length made.pages) view in
    let on = held-on at.op at.owned (view.bumps + 1) (view.raises + length made.pages) made.page view at.out.page_is in
    let unmapped = out-unmapped made taken g at.op at.out in
    let fits : MaySetHome g (fill_of here made.frame) at.op = some-known (IsWhole g made.page) (λ fill. HasNewHome g fill at.op) (fill_of here made.frame)
    (λ fill w. inr (inr (record { unmapped = unmapped; shadow = at.shadow; filled = subst (λ (p : ℕ). IsWhole g p fill) (sym at.out.page_is) w }))) at.whole in
    let begin : MayAct g here (SetHome made.page made.frame) = record {
      quiet = tt;
      allowed = record {
        range = record { page = may.page; frame = may.frame };
        permitted = subst (λ (x : Option Op). IsSomeAnd x (MaySetHome g (fill_of here made.frame))) (sym on) fits;
      };
    } in
    subst (λ (x : View). MayAct g x (SetHome made.page made.frame)) (sym at.is) begin

home-done : (g : Geometry) (now : View) (page frame : ℕ) (end : TransferPieceEnd) (later : View) → TransferPieceLeaves (This (SetHome page frame)) g now end later → HasDone g now (SetHome page frame) later
home-done g now page frame (This Done) later h = record { is = h.is }
home-done g now page frame (This (Word w)) later h = absurd h.fits.kind
home-done g now page frame (This (Busy w)) later h = absurd h.fits.kind
home-done g now page frame (This (Lost w)) later h = absurd h.fits.kind
home-done g now page frame (Other x) later h = absurd h

goes-home : (page home : ℕ) (owned : List Owned) → let_go page (Some (home_word home)) owned ≡ owning home (Equal page) owned
goes-home page home owned =
    let some : (home_word home == 0) ≡ false = grind arith in
    let same : home_word home - 1 ≡ home = omega arith in
    ap (λ (t : Bool). if t then owned else owning (home_word home - 1) (Equal page) owned) some ∙ ap (λ (f : ℕ). owning f (Equal page) owned) same

pub home-ended : (made : TransferMade) (taken : List (ℕ × ℕ)) (g : Geometry) (view now : View) (end : TransferPieceEnd) (later : View) → IsHoming made taken g view now
    → TransferPieceLeaves (This (SetHome made.page made.frame)) g now end later → IsMapped made 0 taken g view later
home-ended made taken g view now end later at left =
    let done = home-done g now made.page made.frame end later left in
    let o : Op = homed_at made.frame at.op in
    let goes : let_go made.page at.op.home (erase owned_frame made.frame at.owned) ≡ homed_owned made view =
    ap (λ (h : Option ℕ). let_go made.page h (erase owned_frame made.frame at.owned)) at.out.home_is
    ∙ goes-home made.page made.home (erase owned_frame made.frame at.owned)
    ∙ ap (λ (l : List Owned). owning made.home (Equal made.page) l) at.rest in
    record {
      has = at.has;
      op = o;
      homed = record { page_is = at.out.page_is; home_is = refl; shadow = refl; taken_is = at.out.taken_is; phase = at.out.phase; uncleared = at.out.uncleared; moved = refl; flushed = record { made = at.out.flushed.made; seen = at.out.flushed.seen } };
      is = done.is
          ∙ ap (λ (x : View). after_of g x (SetHome made.page made.frame) Done) at.is
          ∙ after-home g at.op at.owned (view.bumps + 1) (view.raises + length made.pages) made.page made.frame view at.out.page_is
          ∙ ap (λ (l : List Owned). transfer_held o l (view.bumps + 1) (view.raises + length made.pages) view) goes;
    }
