-- The words of a page are taken, and its virtual pages raised.
use Rattle.std.proofs.Common.{◌≡◌, ◌≢◌, ℕ, ◌+◌, ◌<◌, List, [], ◌∷◌, ◌++◌, map, length, All, Option, Some, None, IsSome, IsSomeAnd, true, false, refl, sym, ap, ◌∙◌, subst, arith, append_assoc, length-append}
use Rattle.std.proofs.lemmas.List.{length-map, map-append}
use Rattle.std.proofs.lemmas.List.Elements.{All-append, All-nil, All-cons}
use Rattle.nm_base.specs.Geometry.{Geometry, backing_page}
use Rattle.nm_action.specs.declared.action.Action.TheVariants.{Unmap}
use Rattle.nm_action.specs.declared.action.Reply.TheVariants.{Done, Word, Busy, Lost}
use Rattle.nm_view.specs.declared.view.Phase.{Phase}
use Rattle.nm_view.specs.declared.view.Phase.TheVariants.{Held, Taken}
use Rattle.nm_view.specs.Lists.{find, edit, erase, put, first, itself}
use Rattle.nm_view.specs.Views.{Op, View}
use Rattle.nm_view.specs.Operations.{page_of}
use Rattle.nm_view.proofs.Finds.{once_join}
use Rattle.nm_permit.specs.Permitted.{IsTakingPhase, MayUnmap, IsWet}
use Rattle.nm_event.specs.After.{after_of, taken_at}
use Rattle.nm_compose.specs.Acts.{MayAct}
use Rattle.nm_compose.specs.declared.or.Or.TheVariants.{This, Other}
use Rattle.nm_vpages.specs.VPages.{most_vpages, at_or_after, AreBelow}
use Rattle.nm_vpages.proofs.Numbers.{at-least-zero}
use Rattle.nm_mappings.specs.declared.visits.Visit.TheVariants as visits
use Rattle.nm_mappings.specs.Visits.{MayVisit, raises_made, visited}
use Rattle.nm_mappings.proofs.Lists.{first-least, split-has, below-push, vpage-there, below-absent}
use Rattle.nm_mappings.proofs.Operations.{raised-dry, raised-same}
use Rattle.nm_transfer.specs.declared.transfer.TransferMade.{TransferMade}
use Rattle.nm_transfer.specs.Moving.{MayTransfer}
use Rattle.nm_transfer.specs.Stages.{TransferPieceEnd, TransferPieceLeaves, transfer_told, transfer_held, raised_without, taken_op, IsTakenWord, IsUnmapping, HasTaken, IsRaisingAll, IsFlushing}
use Rattle.nm_transfer.proofs.Lists.{put-last, all-found}
use Rattle.nm_transfer.proofs.Held.{edit-one, held-on, held-of, after-unmap}

-- The operation.

raised-push : (taken : List (ℕ × ℕ)) (v w : ℕ) (raised : List (ℕ × ℕ)) → erase first v (raised_without taken raised) ≡ raised_without (taken ++ (v, w) ∷ []) raised
raised-push [] v w raised = refl
raised-push (p ∷ taken) v w raised = raised-push taken v w (erase first p.0 raised)

abbrev taken_with : List (ℕ × ℕ) → List ℕ → List (ℕ × ℕ) → Op → Op
taken_with taken wet raised o = record o { taken = taken; phase = Taken; due = true; flush = None; wet = wet; raised = raised }

-- one word more
taken-push : (o : Op) (taken : List (ℕ × ℕ)) (v w : ℕ) → o.taken ≡ [] → o.wet ≡ [] → AreBelow v (map first taken) → taken_at v w (taken_op taken o) ≡ taken_op (taken ++ (v, w) ∷ []) o
taken-push o [] v w none dry below =
    ap (λ (l : List (ℕ × ℕ)). taken_with (l ++ (v, w) ∷ []) (put itself v o.wet) (erase first v o.raised) o) none
    ∙ ap (λ (l : List ℕ). taken_with ((v, w) ∷ []) (put itself v l) (erase first v o.raised) o) dry
taken-push o (p ∷ taken) v w none dry below =
    let wet : put itself v (map first (p ∷ taken)) ≡ map first (p ∷ (taken ++ (v, w) ∷ [])) = put-last v (map first (p ∷ taken)) below ∙ sym (map-append first (p ∷ taken) ((v, w) ∷ [])) in
    ap (λ (l : List ℕ). taken_with (p ∷ (taken ++ (v, w) ∷ [])) l (erase first v (raised_without (p ∷ taken) o.raised)) o) wet
    ∙ ap (λ (l : List (ℕ × ℕ)). taken_with (p ∷ (taken ++ (v, w) ∷ [])) (map first (p ∷ (taken ++ (v, w) ∷ []))) l o) (raised-push (p ∷ taken) v w o.raised)

-- what the taking of words keeps of an operation
pub record KeepsOp (o t : Op) : Type 0 where
  pub page : t.page ≡ o.page
  pub home : t.home ≡ o.home
  pub shadow : t.shadow ≡ o.shadow
  pub looked : t.looked ≡ o.looked
  pub cleared : t.cleared ≡ o.cleared
  pub moved : t.moved ≡ o.moved
  pub copied : t.copied ≡ o.copied
  pub last : t.last ≡ o.last

pub taken-keeps : (o : Op) (taken : List (ℕ × ℕ)) → KeepsOp o (taken_op taken o)
taken-keeps o [] = record { page = refl; home = refl; shadow = refl; looked = refl; cleared = refl; moved = refl; copied = refl; last = refl }
taken-keeps o (p ∷ taken) = record { page = refl; home = refl; shadow = refl; looked = refl; cleared = refl; moved = refl; copied = refl; last = refl }

taken-words : (o : Op) (taken : List (ℕ × ℕ)) → o.taken ≡ [] → (taken_op taken o).taken ≡ taken
taken-words o [] none = none
taken-words o (p ∷ taken) none = refl

taken-phase : (g : Geometry) (o : Op) (taken : List (ℕ × ℕ)) → o.phase ≡ Held → o.cleared ≡ false → IsTakingPhase g (taken_op taken o) (taken_op taken o).phase
taken-phase g o [] phase uncleared = let P : Phase → Type 0 = λ p. IsTakingPhase g o p in subst P (sym phase) tt
taken-phase g o (p ∷ taken) phase uncleared = uncleared

taken-wet : (o : Op) (taken : List (ℕ × ℕ)) → o.wet ≡ [] → (taken_op taken o).wet ≡ map first taken
taken-wet o [] dry = dry
taken-wet o (p ∷ taken) dry = refl

-- The first word.

pub unmap-first : (made : TransferMade) (g : Geometry) (view : View) (v : ℕ) → MayTransfer made g view → v < most_vpages → at_or_after 0 made.pages ≡ v ∷ at_or_after (v + 1) made.pages → IsUnmapping made v [] g view view
unmap-first made g view v may small next = record {
  may = may;
  split = sym (at-least-zero made.pages) ∙ next;
  small = small;
  below = All-nil _;
  few = omega arith;
  once = tt;
  words = All-nil _;
  is = ap (λ (l : List Op). record view { ops = l }) may.ops;
}

pub unmap-backing : (made : TransferMade) (v : ℕ) (taken : List (ℕ × ℕ)) (g : Geometry) (view now : View) → IsUnmapping made v taken g view now → backing_page g v ≡ Some made.page
unmap-backing made v taken g view now at = split-has (λ u. backing_page g u ≡ Some made.page) made.pages (map first taken) (at_or_after (v + 1) made.pages) v at.split at.may.of

-- it may be taken
pub unmap-may : (made : TransferMade) (v : ℕ) (taken : List (ℕ × ℕ)) (g : Geometry) (view now : View) → IsUnmapping made v taken g view now → MayAct g now (Unmap v)
unmap-may made v taken g view now at =
    let of = unmap-backing made v taken g view now at in
    let o = at.may.op in
    let t = taken_op taken o in
    let keeps = taken-keeps o taken in
    let page : t.page ≡ made.page = keeps.page ∙ at.may.looked.page_is in
    let words = taken-words o taken at.may.looked.taken in
    let mapped = split-has (λ u. IsSomeAnd (find first u o.looked) (λ p. p.1 ≢ 0)) made.pages (map first taken) (at_or_after (v + 1) made.pages) v at.split at.may.looked.mapped in
    let may : MayUnmap g v t = record {
      mapped = record {
        looked = subst (λ (l : List (ℕ × ℕ)). IsSomeAnd (find first v l) (λ p. p.1 ≢ 0)) (sym keeps.looked) mapped;
        there = subst (λ (l : List (ℕ × ℕ)). find first v l ≡ None) (sym words) (below-absent v taken at.below);
      };
      unmoved = keeps.moved ∙ at.may.looked.unmoved;
      phase = taken-phase g o taken at.may.looked.phase at.may.looked.uncleared;
    } in
    let on = held-of g t view.owned view.bumps view.raises made.page v view of page in
    let begin : MayAct g (transfer_held t view.owned view.bumps view.raises view) (Unmap v) = record {
      quiet = tt;
      allowed = record { range = vpage-there g v made.page of; permitted = subst (λ (x : Option Op). IsSomeAnd x (MayUnmap g v)) (sym on) may };
    } in
    subst (λ (x : View). MayAct g x (Unmap v)) (sym at.is) begin

-- how an Unmap ends
pub record HasUnmapped (g : Geometry) (now : View) (v : ℕ) (end : TransferPieceEnd) (later : View) : Type 0 where
  pub word : ℕ
  pub told_is : transfer_told end ≡ word
  pub taken : IsTakenWord g (v, word)
  pub is : later ≡ after_of g now (Unmap v) (Word word)

pub unmap-ended : (g : Geometry) (now : View) (v : ℕ) (end : TransferPieceEnd) (later : View) → TransferPieceLeaves (This (Unmap v)) g now end later → HasUnmapped g now v end later
unmap-ended g now v (This Done) later h = absurd h.fits.kind
unmap-ended g now v (This (Word w)) later h = record {
  word = w;
  told_is = refl;
  taken = record { bits = h.fits.told.bits; table = h.fits.told.said.carried.table; some = h.fits.told.said.mapped };
  is = h.is;
}
unmap-ended g now v (This (Busy w)) later h = absurd h.fits.kind
unmap-ended g now v (This (Lost w)) later h = absurd h.fits.kind
unmap-ended g now v (Other x) later h = absurd h

-- the view with it taken
unmap-view : (made : TransferMade) (v w : ℕ) (taken : List (ℕ × ℕ)) (g : Geometry) (view now later : View) → (at : IsUnmapping made v taken g view now) → later ≡ after_of g now (Unmap v) (Word w)
    → later ≡ transfer_held (taken_op (taken ++ (v, w) ∷ []) at.may.op) view.owned view.bumps view.raises view
unmap-view made v w taken g view now later at is =
    let o = at.may.op in
    let page : (taken_op taken o).page ≡ made.page = (taken-keeps o taken).page ∙ at.may.looked.page_is in
    is ∙ ap (λ (x : View). after_of g x (Unmap v) (Word w)) at.is
    ∙ after-unmap g (taken_op taken o) view.owned view.bumps view.raises made.page v w view (unmap-backing made v taken g view now at) page
    ∙ ap (λ (x : Op). transfer_held x view.owned view.bumps view.raises view) (taken-push o taken v w at.may.looked.taken at.may.looked.dry at.below)

split-next : (pages told more rest others : List ℕ) (v u : ℕ) → pages ≡ told ++ v ∷ rest → rest ≡ u ∷ others → more ≡ told ++ v ∷ [] → pages ≡ more ++ u ∷ others
split-next pages told more rest others v u split next push = rw (split, next, push) (sym (append_assoc told (v ∷ []) (u ∷ others)))

-- the next word
pub unmap-next : (made : TransferMade) (v u : ℕ) (taken : List (ℕ × ℕ)) (end : TransferPieceEnd) (g : Geometry) (view now later : View) → (at : IsUnmapping made v taken g view now) → TransferPieceLeaves (This (Unmap v)) g now end later
    → u < most_vpages → at_or_after (v + 1) made.pages ≡ u ∷ at_or_after (u + 1) made.pages → IsUnmapping made u (taken ++ (v, transfer_told end) ∷ []) g view later
unmap-next made v u taken end g view now later at left small next =
    let h = unmap-ended g now v end later left in
    let more : List (ℕ × ℕ) = taken ++ (v, h.word) ∷ [] in
    let pages : map first more ≡ map first taken ++ v ∷ [] = map-append first taken ((v, h.word) ∷ []) in
    let up = first-least (v + 1) u made.pages (at_or_after (u + 1) made.pages) next in
    let done : IsUnmapping made u more g view later = record {
      may = at.may;
      split = split-next made.pages (map first taken) (map first more) (at_or_after (v + 1) made.pages) (at_or_after (u + 1) made.pages) v u at.split next pages;
      small = small;
      below = subst (AreBelow u) (sym pages) (below-push v u (map first taken) (omega arith) at.below);
      few = omega (arith, length-append taken ((v, h.word) ∷ []), at.few);
      once = once_join first (v, h.word) taken at.once (below-absent v taken at.below);
      words = All-append (IsTakenWord g) taken ((v, h.word) ∷ []) at.words (All-cons (IsTakenWord g) (v, h.word) [] h.taken (All-nil _));
      is = unmap-view made v h.word taken g view now later at h.is;
    } in
    subst (λ (w : ℕ). IsUnmapping made u (taken ++ (v, w) ∷ []) g view later) (sym h.told_is) done

some-last : (taken : List (ℕ × ℕ)) (p : ℕ × ℕ) → taken ++ p ∷ [] ≡ [] → ⊥
some-last [] p e = cc
some-last (q ∷ taken) p e = cc

-- all words
pub unmap-all : (made : TransferMade) (v : ℕ) (taken : List (ℕ × ℕ)) (end : TransferPieceEnd) (g : Geometry) (view now later : View) → (at : IsUnmapping made v taken g view now) → TransferPieceLeaves (This (Unmap v)) g now end later
    → at_or_after (v + 1) made.pages ≡ [] → IsRaisingAll made (taken ++ (v, transfer_told end) ∷ []) g view later
unmap-all made v taken end g view now later at left none =
    let h = unmap-ended g now v end later left in
    let more : List (ℕ × ℕ) = taken ++ (v, h.word) ∷ [] in
    let done : IsRaisingAll made more g view later = record {
      has = record {
        may = at.may;
        pages = map-append first taken ((v, h.word) ∷ []) ∙ sym (at.split ∙ ap (λ (l : List ℕ). map first taken ++ v ∷ l) none);
        some = some-last taken (v, h.word);
        few = omega (arith, length-append taken ((v, h.word) ∷ []), at.few, at.small);
        once = once_join first (v, h.word) taken at.once (below-absent v taken at.below);
        words = All-append (IsTakenWord g) taken ((v, h.word) ∷ []) at.words (All-cons (IsTakenWord g) (v, h.word) [] h.taken (All-nil _));
      };
      is = unmap-view made v h.word taken g view now later at h.is;
    } in
    subst (λ (w : ℕ). IsRaisingAll made (taken ++ (v, w) ∷ []) g view later) (sym h.told_is) done

-- The raises.

-- there is a virtual page
pub pages-some : (made : TransferMade) (taken : List (ℕ × ℕ)) (g : Geometry) (view : View) → HasTaken made taken g view → made.pages ≡ [] → ⊥
pages-some made [] g view has e = has.some refl
pages-some made (p ∷ taken) g view has e = let h : p.0 ∷ map first taken ≡ [] = has.pages ∙ e in cc

pub raise-may : (made : TransferMade) (taken : List (ℕ × ℕ)) (g : Geometry) (view now : View) → IsRaisingAll made taken g view now → MayVisit (raises_made made.page made.pages) g now
raise-may made taken g view now at =
    let o = at.has.may.op in
    let t = taken_op taken o in
    let page : t.page ≡ made.page = (taken-keeps o taken).page ∙ at.has.may.looked.page_is in
    let wet : t.wet ≡ made.pages = taken-wet o taken at.has.may.looked.dry ∙ at.has.pages in
    let on = held-on t view.owned view.bumps view.raises made.page view page in
    let all : All (λ v. IsWet v t) made.pages = subst (λ (l : List ℕ). All (λ v. IsSome (find itself v l)) made.pages) (sym wet) (all-found made.pages) in
    let begin : MayVisit (raises_made made.page made.pages) g (transfer_held t view.owned view.bumps view.raises view) = record {
      of = at.has.may.of;
      each = record { wet = subst (λ (x : Option Op). IsSomeAnd x (λ o. All (λ v. IsWet v o) made.pages)) (sym on) all; few = at.has.may.raises };
    } in
    subst (λ (x : View). MayVisit (raises_made made.page made.pages) g x) (sym at.is) begin

pub raise-ended : (made : TransferMade) (taken : List (ℕ × ℕ)) (g : Geometry) (view now : View) (end : TransferPieceEnd) (later : View) → (at : IsRaisingAll made taken g view now)
    → TransferPieceLeaves (Other (This (raises_made made.page made.pages))) g now end later → IsFlushing made taken g view later
raise-ended made taken g view now (This x) later at left = absurd left
raise-ended made taken g view now (Other (Other x)) later at left = absurd left
raise-ended made taken g view now (Other (This found)) later at left =
    let o = at.has.may.op in
    let t = taken_op taken o in
    let page : t.page ≡ made.page = (taken-keeps o taken).page ∙ at.has.may.looked.page_is in
    let wet : t.wet ≡ map first left.told = taken-wet o taken at.has.may.looked.dry ∙ at.has.pages ∙ sym left.pages in
    let r : Op = visited visits.Raise left.told t in
    let count : view.raises + length left.told ≡ view.raises + length made.pages = ap (λ (n : ℕ). view.raises + n) (sym (length-map left.told first) ∙ ap length left.pages) in
    let same : r ≡ record t { wet = []; raised = r.raised } = raised-same left.told t ∙ ap (λ (l : List ℕ). record t { wet = l; raised = r.raised }) (raised-dry left.told t wet) in
    record {
      has = at.has;
      raised = r.raised;
      is = left.is
          ∙ ap (λ (x : View). record x { ops = edit page_of made.page (visited visits.Raise left.told) x.ops; raises = x.raises + length left.told }) at.is
          ∙ ap (λ (l : List Op). record view { ops = l; raises = view.raises + length left.told }) (edit-one (visited visits.Raise left.told) t made.page page)
          ∙ ap (λ (x : Op). transfer_held x view.owned view.bumps (view.raises + length left.told) view) same
          ∙ ap (λ (n : ℕ). transfer_held (record t { wet = []; raised = r.raised }) view.owned view.bumps n view) count;
    }
