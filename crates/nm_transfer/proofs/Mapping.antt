-- The virtual pages are mapped to the new home.
use Rattle.std.proofs.Common.{◌≡◌, ℕ, zero, suc, ◌+◌, ◌&&◌, List, [], ◌∷◌, map, drop, length, All, Bool, Option, Some, IsSome, IsSomeAnd, IsTrue, true, false, inl, inr, refl, sym, ap, ◌∙◌, subst, arith}
use Rattle.nm_base.specs.Geometry.{Geometry, backing_page}
use Rattle.nm_base.specs.HomeWord.{home_word}
use Rattle.nm_action.specs.declared.action.Action.TheVariants.{Map}
use Rattle.nm_action.specs.declared.action.Reply.TheVariants.{Done, Word, Busy, Lost}
use Rattle.nm_view.specs.declared.view.Phase.TheVariants.{Cleared, Taken}
use Rattle.nm_view.specs.declared.view.Owned.{Owned}
use Rattle.nm_view.specs.Lists.{find, erase, first}
use Rattle.nm_view.specs.Views.{Op, View}
use Rattle.nm_view.specs.Operations.{IsTaken}
use Rattle.nm_view.proofs.Items.{all_head, all_tail, more, none_left}
use Rattle.nm_permit.specs.Permitted.{MayMap}
use Rattle.nm_event.specs.After.{after_of, mapped_at, has_some, spoiled}
use Rattle.nm_compose.specs.Acts.{MayAct}
use Rattle.nm_compose.specs.declared.or.Or.TheVariants.{This, Other}
use Rattle.nm_mappings.proofs.Lists.{vpage-there}
use Rattle.nm_transfer.specs.declared.transfer.TransferMade.{TransferMade}
use Rattle.nm_transfer.specs.Words.{mapped_word}
use Rattle.nm_transfer.specs.Moving.{IsTransferred}
use Rattle.nm_transfer.specs.Stages.{TransferPieceEnd, TransferPieceLeaves, transfer_held, IsTakenWord, homed_owned, owned_after, IsMapped, IsMappingBack}
use Rattle.nm_transfer.proofs.Written.{mapped-word}
use Rattle.nm_transfer.proofs.Lists.{all-in, erase-head, find-head, spoiled-twice}
use Rattle.nm_transfer.proofs.Held.{held-of, after-map}
use Rattle.nm_transfer.proofs.Filling.{HasDone, frames-few}

all-firsts : (P : ℕ → Type 0) (taken : List (ℕ × ℕ)) → All P (map first taken) → All (λ p. P p.0) taken
all-firsts P [] h = none_left (λ p. P p.0)
all-firsts P (p ∷ taken) h = more (λ p. P p.0) p taken (all_head P p.0 (map first taken) h) (all-firsts P taken (all_tail P p.0 (map first taken) h))

map-backing : (made : TransferMade) (index v word : ℕ) (taken : List (ℕ × ℕ)) (g : Geometry) (view now : View) → IsMappingBack made index v word taken g view now → backing_page g v ≡ Some made.page
map-backing made index v word taken g view now at =
    let has = at.mapped.has in
    let all = all-firsts (λ u. backing_page g u ≡ Some made.page) taken (subst (All (λ u. backing_page g u ≡ Some made.page)) (sym has.pages) has.may.of) in
    all-in (λ p. backing_page g p.0 ≡ Some made.page) taken index (v, word) (drop (index + 1) taken) all at.next

untrue : (b : Bool) (P : Type 0) → b ≡ false → IsTrue b → P
untrue true P e t = cc
untrue false P e t = cc

-- it may be mapped
pub map-may : (made : TransferMade) (index v word : ℕ) (taken : List (ℕ × ℕ)) (g : Geometry) (view now : View) → IsMappingBack made index v word taken g view now → MayAct g now (Map v (mapped_word made.rights made.frame made.hint word))
map-may made index v word taken g view now at =
    let has = at.mapped.has in
    let o = at.mapped.op in
    let homed = at.mapped.homed in
    let of = map-backing made index v word taken g view now at in
    let known = all-in (IsTakenWord g) taken index (v, word) (drop (index + 1) taken) has.words at.next in
    let m : ℕ = mapped_word made.rights made.frame made.hint word in
    let new = mapped-word made.rights g v made.frame made.hint word (let few = frames-few g has.may.geometry made.frame has.may.frame in omega arith) known.table in
    let there : IsTaken o.taken v = subst (λ (l : List (ℕ × ℕ)). IsSome (find first v l)) (sym (homed.taken_is ∙ at.next)) (subst (λ (x : Option (ℕ × ℕ)). IsSome x) (sym (find-head (v, word) (drop (index + 1) taken))) refl) in
    let may : MayMap g v m o = record {
      phase = λ e. let h : Taken ≡ Cleared = sym homed.phase ∙ e in cc;
      flushed = homed.flushed;
      fits = inr (record {
        present = new.present;
        home = homed.home_is ∙ ap (λ (f : ℕ). Some (home_word f)) (sym new.frame_is);
        vacant = inl (record { taken = there; moved = homed.moved });
        writable = new.writable;
        unshadowed = λ w. homed.shadow;
        saved = new.saved;
        dirty = λ d. there;
      });
      back = λ c. untrue o.cleared _ homed.uncleared c;
      dirty = λ c. untrue o.cleared _ homed.uncleared c;
    } in
    let owned = owned_after made.page index (homed_owned made view) in
    let on = held-of g o owned (view.bumps + 1) (view.raises + length made.pages) made.page v view of homed.page_is in
    let begin : MayAct g (transfer_held o owned (view.bumps + 1) (view.raises + length made.pages) view) (Map v m) = record {
      quiet = tt;
      allowed = record { range = vpage-there g v made.page of; permitted = subst (λ (x : Option Op). IsSomeAnd x (MayMap g v m)) (sym on) may };
    } in
    subst (λ (x : View). MayAct g x (Map v m)) (sym at.mapped.is) begin

map-done : (g : Geometry) (now : View) (v m : ℕ) (end : TransferPieceEnd) (later : View) → TransferPieceLeaves (This (Map v m)) g now end later → HasDone g now (Map v m) later
map-done g now v m (This Done) later h = record { is = h.is }
map-done g now v m (This (Word w)) later h = absurd h.fits.kind
map-done g now v m (This (Busy w)) later h = absurd h.fits.kind
map-done g now v m (This (Lost w)) later h = absurd h.fits.kind
map-done g now v m (Other x) later h = absurd h

owned-next : (page index : ℕ) (owned : List Owned) → spoiled page (owned_after page index owned) ≡ owned_after page (index + 1) owned
owned-next page zero owned = refl
owned-next page (suc index) owned = let e : suc index + 1 ≡ suc (suc index) = omega arith in spoiled-twice page owned ∙ ap (λ (n : ℕ). owned_after page n owned) (sym e)

-- it was mapped
pub map-ended : (made : TransferMade) (index v word : ℕ) (taken : List (ℕ × ℕ)) (g : Geometry) (view now : View) (end : TransferPieceEnd) (later : View) → IsMappingBack made index v word taken g view now
    → TransferPieceLeaves (This (Map v (mapped_word made.rights made.frame made.hint word))) g now end later → IsMapped made (index + 1) taken g view later
map-ended made index v word taken g view now end later at left =
    let o = at.mapped.op in
    let homed = at.mapped.homed in
    let m : ℕ = mapped_word made.rights made.frame made.hint word in
    let done = map-done g now v m end later left in
    let of = map-backing made index v word taken g view now at in
    let rest : erase first v o.taken ≡ drop (index + 1) taken = ap (erase first v) (homed.taken_is ∙ at.next) ∙ erase-head (v, word) (drop (index + 1) taken) in
    let owned = owned_after made.page index (homed_owned made view) in
    record {
      has = at.mapped.has;
      op = mapped_at v m o;
      homed = record {
        page_is = homed.page_is;
        home_is = homed.home_is;
        shadow = homed.shadow;
        taken_is = rest;
        phase = homed.phase;
        uncleared = ap (λ (c : Bool). c && has_some (erase first v o.taken)) homed.uncleared;
        moved = homed.moved;
        flushed = record { made = homed.flushed.made; seen = homed.flushed.seen };
      };
      is = done.is
          ∙ ap (λ (x : View). after_of g x (Map v m) Done) at.mapped.is
          ∙ after-map g o owned (view.bumps + 1) (view.raises + length made.pages) made.page v m view of homed.page_is
          ∙ ap (λ (l : List Owned). transfer_held (mapped_at v m o) l (view.bumps + 1) (view.raises + length made.pages) view) (owned-next made.page index (homed_owned made view));
    }

-- all are mapped
pub map-over : (made : TransferMade) (index : ℕ) (taken : List (ℕ × ℕ)) (g : Geometry) (view now : View) → IsMapped made index taken g view now → drop index taken ≡ [] → IsTransferred made g view taken now
map-over made zero taken g view now at none = absurd (at.has.some none)
map-over made (suc index) taken g view now at none = record {
  op = at.op;
  page_is = at.homed.page_is;
  unlock = record {
    back = at.homed.taken_is ∙ none;
    flushed = at.homed.flushed;
    phase = λ e. let h : Taken ≡ Cleared = sym at.homed.phase ∙ e in cc;
  };
  is = at.is;
}
