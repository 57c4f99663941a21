-- The steps of a transaction.
use Rattle.std.proofs.Common.{◌≡◌, ◌≢◌, ℕ, ◌+◌, ◌-◌, ◌^◌, ◌<◌, ◌≤◌, false, List, [], ◌∷◌, ◌++◌, map, Option, Some, None, IsSomeAnd, refl, sym, ap, ◌∙◌, subst, arith}
use Rattle.nm_base.specs.Geometry.{Geometry, IsGeometry}
use Rattle.nm_action.specs.declared.spent.Spent.{Spent}
use Rattle.nm_action.specs.Own.{Own}
use Rattle.nm_view.specs.declared.view.Fill.{Fill}
use Rattle.nm_view.specs.declared.view.Fill.TheVariants.{Raw, Copied}
use Rattle.nm_view.specs.declared.view.Owned.{Owned}
use Rattle.nm_view.specs.declared.view.Scanned.{Scanned}
use Rattle.nm_view.specs.Lists.{find, edit, erase}
use Rattle.nm_view.specs.Views.{Op, View, own_bumps, own_raises}
use Rattle.nm_view.specs.Operations.{page_of, owned_frame, op_on, fill_of}
use Rattle.nm_permit.specs.Permitted.{AreDueDry, MayUnmap}
use Rattle.nm_event.specs.After.{filled, owning, spoiled}
use Rattle.nm_event.specs.Fitting.{IsNotOwned, IsMappedReply}
use Rattle.nm_part.specs.Patterns.{Ends}
use Rattle.nm_part.proofs.Patterns.{can-ends, ends-now}
use Rattle.nm_compose.specs.declared.or.Or.TheVariants.{This, Other}
use Rattle.nm_shoot.specs.Flushed.{MayShoot, IsFlushed}
use Rattle.nm_copying.specs.Copying.{copied_to, copied_fill, copying, MayCopyPage, MayCopies, IsCopied}
use Rattle.nm_copying.specs.declared.copies.CopiesMade.{CopiesMade}
use Rattle.nm_copying.proofs.Copied.{some-words}
use Rattle.nm_prepare.specs.Placing.{IsPlanPlaced}
use Rattle.nm_prepare.specs.Worn.{is_worn}
use Rattle.nm_prepare.specs.Ready.{MayPrepare, HasReady, IsReadyOp}
use Rattle.nm_prepare.specs.declared.prepare.PrepareMade.{PrepareMade}
use Rattle.nm_prepare.specs.declared.prepare.Prepared.TheVariants as prepared
use Rattle.nm_prepare.proofs.Lists.{owning-erased, owning-other, some-and}
use Rattle.nm_prepare.proofs.Clearing.{not-worn}
use Rattle.nm_commit.specs.Unmapping.{unmapped_at, MayUnmapping, IsUnmappedOne}
use Rattle.nm_commit.specs.Deciding.{IsSwapped, MayDecide, IsDecision}
use Rattle.nm_commit.specs.declared.unmap.UnmapMade.{UnmapMade}
use Rattle.nm_commit.specs.declared.decide.DecideMade.{DecideMade}
use Rattle.nm_commit.specs.declared.decide.Decided.{Decided}
use Rattle.nm_commit.specs.declared.decide.Decided.TheVariants as decided
use Rattle.nm_txn.specs.declared.end.TxnEnd.{TxnEnd}
use Rattle.nm_txn.specs.declared.txn.TxnStage.TheVariants.{Preparing, Flushing, Copying, Unmapping, FlushingAgain, Deciding}
use Rattle.nm_txn.specs.Transactions.{decided_end, Decides, FlushesAgain, Unmaps, Copies, FlushesFirst, AfterPrepare, IsTxn}
use Rattle.nm_txn.specs.Leaving.{MayTxn, HasDecided, IsTxnLeft}
use Rattle.nm_txn.specs.Stages.{deciding, txn_piece, TxnKnown, IsClearedOp, IsUncopiedOp, IsTakenOp, IsMoving, IsRightful, moving, IsMovingWith, IsTxnBegun, IsReadied}
use Rattle.nm_txn.proofs.Ending.{can-after-prepare, can-copies, can-unmaps, can-flushes-again, can-decides}
use Rattle.nm_txn.proofs.Ops.{find-only, edit-only, erase-only, dry-only, flushed-ready, flushed-taken, uncopied-may, copied-cleared, cleared-may, unmapped-taken}
use Rattle.nm_txn.proofs.Frames.{fill-owning, edit-owning, copied-all, apart-by-tiers}
use Rattle.nm_txn.proofs.Runs.{prepare-run, flush-run, copy-run, unmap-run, decide-run, RunsTxn}

-- 1 to 6.

-- the first steps run
pub runs-preparing : (made : PrepareMade) (g : Geometry) (view : View) → MayTxn g made g view → RunsTxn made Preparing (IsTxn made g) g view view
runs-preparing made g view may =
    prepare-run (IsPlanPlaced txn_piece TxnKnown g made Preparing) (λ g. AfterPrepare g made) (record { 0 = g; 1 = made }) g view view
    may.prepare (record { geometry = refl; is = refl; holds = record { may = may; begun = refl } }) (λ end. can-after-prepare g made end)

-- 7. The first flush.

bumps-few : (made : PrepareMade) (view : View) → is_worn made.spent ≡ false → made.spent.bumps ≡ view.bumps → view.bumps + 1 < own_bumps
bumps-few made view worn same = let n = (not-worn made.spent worn).0 in omega arith

raises-few : (made : PrepareMade) (view : View) → is_worn made.spent ≡ false → made.spent.raises ≡ view.raises → view.raises + 1 < own_raises
raises-few made view worn same = let n = (not-worn made.spent worn).1 in omega arith

spent-bumps : (made : PrepareMade) (g : Geometry) (view : View) → MayTxn g made g view → made.spent.bumps ≡ view.bumps
spent-bumps made g view may = ap (λ (s : Spent). s.bumps) may.prepare.spent

spent-raises : (made : PrepareMade) (g : Geometry) (view : View) → MayTxn g made g view → made.spent.raises ≡ view.raises
spent-raises made g view may = ap (λ (s : Spent). s.raises) may.prepare.spent

ready-ops : (made : PrepareMade) (g : Geometry) (first now : View) (home frame : ℕ) → (h : IsReadied made g first now home frame) → now ≡ record first { ops = h.ready.op ∷ []; owned = owning frame Raw first.owned; scan = h.ready.scan; raises = first.raises + 1 }
ready-ops made g first now home frame h =
    h.ready.is ∙ ap (λ (l : List Op). record first { ops = l ++ h.ready.op ∷ []; owned = owning frame Raw first.owned; scan = h.ready.scan; raises = first.raises + 1 }) h.may.alone

-- the page is ready: the first flush runs
pub runs-flushing : (made : PrepareMade) (g : Geometry) (first now later : View) (home frame : ℕ) → IsTxnBegun made g first now → HasReady made g now home frame later → RunsTxn made (Flushing home frame) (FlushesFirst g made home frame) g first later
runs-flushing made g first now later home frame h left =
    let V : View → Type 0 = λ v. HasReady made g v home frame later in
    let r : IsReadied made g first later home frame = record { may = h.may; ready = subst V h.begun left } in
    let is = ready-ops made g first later home frame r in
    let B : View → Type 0 = λ v. v.bumps < own_bumps in
    let D : View → Type 0 = λ v. AreDueDry v.ops in
    let few = bumps-few made first r.ready.worn (spent-bumps made g first h.may) in
    let some : first.bumps < own_bumps = omega arith in
    flush-run (IsPlanPlaced txn_piece TxnKnown g made (Flushing home frame)) (λ g. Copies g made home frame) g.cpus g first later
    (record { all = refl; bump = record { few = subst B (sym is) some; dry = subst D (sym is) (dry-only r.ready.op r.ready.ready.dry) } })
    (record { geometry = refl; is = refl; holds = r }) (can-copies g made home frame)

flushed-view : (g : Geometry) (view now later : View) (number : ℕ) (op : Op) (owned : List Owned) (scan : Scanned) (bumps raises : ℕ) → (f : IsFlushed g now number later) → now ≡ moving op owned scan bumps raises view
    → later ≡ record view { ops = f.flushed op ∷ []; owned = owned; scan = scan; bumps = view.bumps + bumps + 1; raises = view.raises + raises }
flushed-view g view now later number op owned scan bumps raises f is = f.is ∙ ap (λ (v : View). record v { bumps = v.bumps + 1; ops = map f.flushed v.ops }) is

more-one : (a b : ℕ) → a + b + 1 ≡ a + (b + 1)
more-one a b = omega arith

no-more : (a : ℕ) → a ≡ a + 0
no-more a = omega arith

-- 8. The copy.

-- after the first flush
first-flushed : (made : PrepareMade) (g : Geometry) (first now later : View) (home frame number : ℕ) → IsReadied made g first now home frame → IsFlushed g now number later → IsMovingWith made g first later home frame (IsUncopiedOp g made.page made.vpage home) Raw 1 1
first-flushed made g first now later home frame number h f =
    let is = ready-ops made g first now home frame h in
    let at : now ≡ moving h.ready.op (owning frame Raw first.owned) h.ready.scan 0 1 first =
    is ∙ ap (λ (n : ℕ). record first { ops = h.ready.op ∷ []; owned = owning frame Raw first.owned; scan = h.ready.scan; bumps = n; raises = first.raises + 1 }) (no-more first.bumps) in
    record {
      facts = record { may = h.may; worn = h.ready.worn; backing = h.ready.backing; range = h.ready.range; unowned = h.ready.unowned; new = h.ready.new };
      op = f.flushed h.ready.op;
      kind = flushed-ready g made.page made.vpage home number h.ready.op (f.flushed h.ready.op) (f.each h.ready.op) h.ready.ready;
      scan = h.ready.scan;
      is = flushed-view g first now later number h.ready.op (owning frame Raw first.owned) h.ready.scan 0 1 f at
          ∙ ap (λ (n : ℕ). record first { ops = f.flushed h.ready.op ∷ []; owned = owning frame Raw first.owned; scan = h.ready.scan; bumps = n; raises = first.raises + 1 }) (more-one first.bumps 0);
    }

-- the page is copied
pub runs-copying : (made : PrepareMade) (g : Geometry) (first now later : View) (home frame number : ℕ) → IsReadied made g first now home frame → IsFlushed g now number later → RunsTxn made (Copying home frame) (Copies g made home frame) g first later
runs-copying made g first now later home frame number h f =
    let m = first-flushed made g first now later home frame number h f in
    let F : View → Type 0 = λ v. fill_of v frame ≡ Some Raw in
    let O : View → Type 0 = λ v. IsSomeAnd (op_on v made.page) (MayCopyPage g) in
    let on : IsSomeAnd (find page_of made.page (m.op ∷ [])) (MayCopyPage g) = some-and (MayCopyPage g) (find page_of made.page (m.op ∷ [])) m.op (find-only made.page m.op m.kind.op.page_is) (uncopied-may g made.page made.vpage home m.op m.kind) in
    copy-run (IsPlanPlaced txn_piece TxnKnown g made (Copying home frame)) (λ g. Unmaps g made home frame) (record { page = made.page; frame = frame; words = g.words }) g first later
    (record {
      geometry = h.may.prepare.geometry;
      words = refl;
      page = h.may.prepare.page;
      frame = h.ready.new.range;
      fill = subst F (sym m.is) (fill-owning frame Raw first.owned);
      op = subst O (sym m.is) on;
    })
    (record { geometry = refl; is = refl; holds = m }) (can-unmaps g made home frame)

-- 9. The unmapping.

copied-now : (made : PrepareMade) (g : Geometry) (first now later : View) (home frame : ℕ) → IsMovingWith made g first now home frame (IsUncopiedOp g made.page made.vpage home) Raw 1 1 → IsCopied (record { page = made.page; frame = frame; words = g.words }) now later
    → IsMovingWith made g first later home frame (IsClearedOp g made.page made.vpage home) (Copied made.page g.words) 1 1
copied-now made g first now later home frame m left =
    let new : Op = copied_to g.words None m.op in
    let fill : copied_fill made.page g.words ≡ Copied made.page g.words = copied-all made.page g.words (some-words g m.facts.may.prepare.geometry) in
    let c : CopiesMade = record { page = made.page; frame = frame; words = g.words } in
    record {
      facts = m.facts;
      op = new;
      kind = copied-cleared g made.page made.vpage home g.words m.op m.kind.op;
      scan = m.scan;
      is = left.is
          ∙ (ap (copying c g.words None) m.is
          ∙ (ap (λ (l : List Op). record first { ops = l; owned = edit owned_frame frame (filled (copied_fill made.page g.words)) (owning frame Raw first.owned); scan = m.scan; bumps = first.bumps + 1; raises = first.raises + 1 }) (edit-only made.page (copied_to g.words None) m.op m.kind.op.page_is)
          ∙ (ap (λ (l : List Owned). record first { ops = new ∷ []; owned = l; scan = m.scan; bumps = first.bumps + 1; raises = first.raises + 1 }) (edit-owning frame Raw (copied_fill made.page g.words) first.owned m.facts.new.fresh)
          ∙ ap (λ (f : Fill). record first { ops = new ∷ []; owned = owning frame f first.owned; scan = m.scan; bumps = first.bumps + 1; raises = first.raises + 1 }) fill)));
    }

-- v is unmapped
pub runs-unmapping : (made : PrepareMade) (g : Geometry) (first now later : View) (home frame : ℕ) → IsMovingWith made g first now home frame (IsUncopiedOp g made.page made.vpage home) Raw 1 1 → IsCopied (record { page = made.page; frame = frame; words = g.words }) now later
    → RunsTxn made (Unmapping home frame) (Unmaps g made home frame) g first later
runs-unmapping made g first now later home frame m left =
    let c = copied-now made g first now later home frame m left in
    let O : View → Type 0 = λ v. IsSomeAnd (op_on v made.page) (MayUnmap g made.vpage) in
    let R : View → Type 0 = λ v. v.raises < own_raises in
    let on : IsSomeAnd (find page_of made.page (c.op ∷ [])) (MayUnmap g made.vpage) = some-and (MayUnmap g made.vpage) (find page_of made.page (c.op ∷ [])) c.op (find-only made.page c.op c.kind.page_is) (cleared-may g made.page made.vpage home c.op c.kind) in
    unmap-run (IsPlanPlaced txn_piece TxnKnown g made (Unmapping home frame)) (λ g word. FlushesAgain g made home frame word) (record { page = made.page; vpage = made.vpage }) g first later
    (record {
      backing = c.facts.backing;
      op = subst O (sym c.is) on;
      few = subst R (sym c.is) (raises-few made first c.facts.worn (spent-raises made g first c.facts.may));
    })
    (record { geometry = refl; is = refl; holds = c }) (λ word. can-flushes-again g made home frame word)

-- 10. The second flush.

two-more : (a : ℕ) → a + 1 + 1 ≡ a + 2
two-more a = omega arith

unmapped-now : (made : PrepareMade) (g : Geometry) (first now later : View) (home frame word : ℕ) → IsMovingWith made g first now home frame (IsClearedOp g made.page made.vpage home) (Copied made.page g.words) 1 1 → IsUnmappedOne (record { page = made.page; vpage = made.vpage }) g now word later
    → IsMovingWith made g first later home frame (IsTakenOp g made.page made.vpage word home) (Copied made.page g.words) 1 2 × IsRightful g made.vpage word
unmapped-now made g first now later home frame word m left =
    let f : Op → Op = unmapped_at made.vpage word left.number in
    let owned = owning frame (Copied made.page g.words) first.owned in (
      record {
        facts = m.facts;
        op = f m.op;
        kind = unmapped-taken g made.page made.vpage home word left.number m.op m.kind;
        scan = m.scan;
        is = left.is
            ∙ (ap (λ (v : View). record v { ops = edit page_of made.page f v.ops; raises = v.raises + 1 }) m.is
            ∙ (ap (λ (l : List Op). record first { ops = l; owned = owned; scan = m.scan; bumps = first.bumps + 1; raises = first.raises + 1 + 1 }) (edit-only made.page f m.op m.kind.page_is)
            ∙ ap (λ (n : ℕ). record first { ops = f m.op ∷ []; owned = owned; scan = m.scan; bumps = first.bumps + 1; raises = n }) (two-more first.raises)));
      },
      record { writable = left.reply.carried.table.writable; saved = left.reply.carried.table.saved },
    )

-- the second flush runs
pub runs-flushing-again : (made : PrepareMade) (g : Geometry) (first now later : View) (home frame word : ℕ) → IsMovingWith made g first now home frame (IsClearedOp g made.page made.vpage home) (Copied made.page g.words) 1 1 → IsUnmappedOne (record { page = made.page; vpage = made.vpage }) g now word later
    → RunsTxn made (FlushingAgain home frame word) (FlushesAgain g made home frame word) g first later
runs-flushing-again made g first now later home frame word m left =
    let t = unmapped-now made g first now later home frame word m left in
    let B : View → Type 0 = λ v. v.bumps < own_bumps in
    let D : View → Type 0 = λ v. AreDueDry v.ops in
    flush-run (IsPlanPlaced txn_piece TxnKnown g made (FlushingAgain home frame word)) (λ g. Decides g made home frame word) g.cpus g first later
    (record { all = refl; bump = record { few = subst B (sym t.0.is) (bumps-few made first t.0.facts.worn (spent-bumps made g first t.0.facts.may)); dry = subst D (sym t.0.is) (dry-only t.0.op t.0.kind.dry) } })
    (record { geometry = refl; is = refl; holds = t }) (can-decides g made home frame word)

-- 11, 12. The decision.

flushed-again : (made : PrepareMade) (g : Geometry) (first now later : View) (home frame word number : ℕ) → IsMovingWith made g first now home frame (IsTakenOp g made.page made.vpage word home) (Copied made.page g.words) 1 2 → IsFlushed g now number later
    → IsMovingWith made g first later home frame (IsSwapped g made.page made.vpage word home) (Copied made.page g.words) 2 2
flushed-again made g first now later home frame word number m f = record {
  facts = m.facts;
  op = f.flushed m.op;
  kind = flushed-taken g made.page made.vpage word home number m.op (f.flushed m.op) (f.each m.op) m.kind;
  scan = m.scan;
  is = flushed-view g first now later number m.op (owning frame (Copied made.page g.words) first.owned) m.scan 1 2 f m.is
      ∙ ap (λ (n : ℕ). record first { ops = f.flushed m.op ∷ []; owned = owning frame (Copied made.page g.words) first.owned; scan = m.scan; bumps = n; raises = first.raises + 2 }) (two-more first.bumps);
}

-- the decision runs
pub runs-deciding : (made : PrepareMade) (g : Geometry) (first now later : View) (home frame word number : ℕ) → IsMovingWith made g first now home frame (IsTakenOp g made.page made.vpage word home) (Copied made.page g.words) 1 2 × IsRightful g made.vpage word → IsFlushed g now number later
    → RunsTxn made (Deciding home frame word) (Decides g made home frame word) g first later
runs-deciding made g first now later home frame word number (m, right) f =
    let s = flushed-again made g first now later home frame word number m f in
    let owned = owning frame (Copied made.page g.words) first.owned in
    let F : View → Type 0 = λ v. fill_of v frame ≡ Some (Copied made.page g.words) in
    let N : View → Type 0 = λ v. IsNotOwned v home in
    let O : View → Type 0 = λ v. IsSomeAnd (op_on v made.page) (IsSwapped g made.page made.vpage word home) in
    let on : IsSomeAnd (find page_of made.page (s.op ∷ [])) (IsSwapped g made.page made.vpage word home) = some-and (IsSwapped g made.page made.vpage word home) (find page_of made.page (s.op ∷ [])) s.op (find-only made.page s.op s.kind.page_is) s.kind in
    decide-run (IsPlanPlaced txn_piece TxnKnown g made (Deciding home frame word)) (λ g decided. Ends (decided_end decided)) (record { 0 = g; 1 = deciding made home frame word }) g first later
    (record {
      same = refl;
      geometry = s.facts.may.prepare.geometry;
      page = s.facts.may.prepare.page;
      backing = s.facts.backing;
      home = s.facts.range;
      frame = s.facts.new.range;
      faster = s.facts.new.faster;
      writable = right.writable;
      saved = right.saved;
      fill = subst F (sym s.is) (fill-owning frame (Copied made.page g.words) first.owned);
      unowned = subst N (sym s.is) (owning-other frame home (Copied made.page g.words) first.owned (apart-by-tiers g frame home s.facts.new.faster) s.facts.unowned);
      op = subst O (sym s.is) on;
      turn = ap (λ (v : View). v.turn) s.is ∙ s.facts.may.prepare.turn;
    })
    (record { geometry = refl; is = refl; holds = (s, right) }) (λ decided. can-ends (decided_end decided))

decided-now : (made : PrepareMade) (g : Geometry) (first now later : View) (home frame word : ℕ) → IsMovingWith made g first now home frame (IsSwapped g made.page made.vpage word home) (Copied made.page g.words) 2 2 → IsDecision (deciding made home frame word) now later → HasDecided made.page first later
decided-now made g first now later home frame word m left =
    let owned = owning frame (Copied made.page g.words) first.owned in
    record {
      scan = left.scan;
      is = left.is
          ∙ (ap (λ (v : View). record v { ops = erase page_of made.page v.ops; owned = spoiled made.page (erase owned_frame frame v.owned); scan = left.scan }) m.is
          ∙ (ap (λ (l : List Op). record first { ops = l; owned = spoiled made.page (erase owned_frame frame owned); scan = left.scan; bumps = first.bumps + 2; raises = first.raises + 2 }) (erase-only made.page m.op m.kind.page_is ∙ sym m.facts.may.alone)
          ∙ ap (λ (l : List Owned). record first { owned = spoiled made.page l; scan = left.scan; bumps = first.bumps + 2; raises = first.raises + 2 }) (owning-erased frame (Copied made.page g.words) first.owned m.facts.new.fresh)));
    }

-- what was decided
pub decided-left : (made : PrepareMade) (g : Geometry) (first now later : View) (home frame word : ℕ) (end : Decided) → IsMovingWith made g first now home frame (IsSwapped g made.page made.vpage word home) (Copied made.page g.words) 2 2 → IsDecision (deciding made home frame word) now later → IsTxnLeft made first (decided_end end) later
decided-left made g first now later home frame word decided.Committed m left = decided-now made g first now later home frame word m left
decided-left made g first now later home frame word (decided.Aborted taken) m left = decided-now made g first now later home frame word m left
