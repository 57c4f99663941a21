-- The pages of the ready pieces are copied, one after the other.
use Rattle.std.proofs.Common.{◌≡◌, ℕ, ◌+◌, List, [], ◌∷◌, ◌++◌, length, drop, map, All, Some, None, IsSomeAnd, refl, sym, ap, ◌∙◌, subst, arith, length-append}
use Rattle.std.proofs.lemmas.List.{append-nil, length-map, map-append}
use Rattle.nm_base.specs.Geometry.{Geometry}
use Rattle.nm_view.specs.declared.view.Fill.{Fill}
use Rattle.nm_view.specs.declared.view.Fill.TheVariants.{Raw}
use Rattle.nm_view.specs.declared.view.Owned.{Owned}
use Rattle.nm_view.specs.Lists.{find, edit}
use Rattle.nm_view.specs.Views.{Op, View}
use Rattle.nm_view.specs.Operations.{page_of, owned_frame, op_on, fill_of}
use Rattle.nm_view.proofs.Items.{all_head, all_tail, all_join, all_map, none_left}
use Rattle.nm_event.specs.After.{filled}
use Rattle.nm_part.specs.Patterns.{Follows}
use Rattle.nm_shoot.specs.Flushed.{IsFlushed}
use Rattle.nm_copying.specs.Copying.{copied_to, copied_fill, copying, MayCopyPage, MayCopies, IsCopying, IsCopied}
use Rattle.nm_copying.specs.declared.copies.CopiesMade.{CopiesMade}
use Rattle.nm_copying.proofs.Copied.{some-words}
use Rattle.nm_prepare.specs.Placing.{IsPlanPlaced}
use Rattle.nm_prepare.proofs.Lists.{some-and}
use Rattle.nm_txn.specs.declared.batch.ReadyPiece.{ReadyPiece}
use Rattle.nm_txn.specs.Stages.{IsUncopiedOp}
use Rattle.nm_txn.specs.Batches.{BatchMade, CopiesEach}
use Rattle.nm_txn.proofs.Ops.{flushed-ready, uncopied-may, copied-cleared}
use Rattle.nm_txn.proofs.Frames.{copied-all}
use Rattle.nm_txn.proofs.Runs.{copy-run}
use Rattle.nm_batch.specs.declared.batch.BatchPlace.{BatchPlace}
use Rattle.nm_batch.specs.declared.batch.BatchStage.TheVariants.{Copying}
use Rattle.nm_batch.specs.Leaving.{spoiled_each}
use Rattle.nm_batch.specs.Places.{batch_piece_at, copy_stage_by, copy_stage, unmap_stage, CopiesFromPiece, UnmapsFrom}
use Rattle.nm_batch.specs.Opened.{OpenPiece, open_ready, open_op, owned_with, IsOpenPiece, HasOpen, IsReadyOpen, IsUncopiedOpen, IsCopiedOpen, IsTakenOpen, IsUnderway, IsBatchReady, HasCopied, HasUnmapped, IsBatchCopying, idle, BatchKnown}
use Rattle.nm_batch.proofs.Lists.{drop-next, empty-list}
use Rattle.nm_batch.proofs.Opened.{all-middle, op-at, fill-at, changed, ops-changed, owned-changed, open-changed, with_op, ops-mapped, owned-mapped, ready-mapped, open-mapped}
use Rattle.nm_batch.proofs.Ending.{can-copy}
use Rattle.nm_batch.proofs.Steps.{RunsBatch, BatchGoes}
use Rattle.nm_batch.proofs.Unmapping.{rest-ready, one-done, goes-unmap}

-- One page is copied.

abbrev pub copy_made : Geometry → ReadyPiece → CopiesMade
copy_made g p = record { page = p.page; frame = p.frame; words = g.words }

abbrev MayCopyOf : Geometry → View → ReadyPiece → Type 0
MayCopyOf g now p = MayCopies (copy_made g p) g now

may-copy-next : (made : BatchMade) (g : Geometry) (first now : View) (done rest : List OpenPiece) (x : OpenPiece) (bumps raises : ℕ) → HasOpen made g first now (done ++ x ∷ rest) bumps raises → IsUncopiedOpen g x → MayCopyOf g now x.piece
may-copy-next made g first now done rest x bumps raises h k =
    let base = spoiled_each h.pages first.owned in
    let e : IsOpenPiece made g x = all-middle (IsOpenPiece made g) done rest x h.each in
    let F : View → Type 0 = λ v. fill_of v x.piece.frame ≡ Some Raw in
    let O : View → Type 0 = λ v. IsSomeAnd (op_on v x.piece.page) (MayCopyPage g) in
    record {
      geometry = h.may.geometry;
      words = refl;
      page = e.page;
      frame = e.frame;
      fill = subst F (sym h.is) (fill-at base done rest x h.apart ∙ ap (λ (f : Fill). Some f) k.fill);
      op = subst O (sym h.is) (some-and (MayCopyPage g) (find page_of x.piece.page (map open_op (done ++ x ∷ rest))) x.op (op-at made g base done rest x h.each h.apart) (uncopied-may g x.piece.page x.piece.vpage x.piece.home x.op k.op));
    }

may-copy-piece : (made : BatchMade) (g : Geometry) (first now : View) (done rest : List OpenPiece) (p : ReadyPiece) (ps : List ReadyPiece) (bumps raises : ℕ) → HasOpen made g first now (done ++ rest) bumps raises → All (IsUncopiedOpen g) rest → map open_ready rest ≡ p ∷ ps → MayCopyOf g now p
may-copy-piece made g first now done [] p ps bumps raises h k e = cc
may-copy-piece made g first now done (x ∷ rest) p ps bumps raises h k e =
    let same : x.piece ≡ p = cc in
    subst (MayCopyOf g now) same (may-copy-next made g first now done rest x bumps raises h (all_head (IsUncopiedOpen g) x rest k))

-- The next step.

-- all pages are copied, and no word was taken yet
all-copied : (made : BatchMade) (place : BatchPlace) (index : ℕ) (g : Geometry) (first now : View) → HasCopied made (idle place) index g first now → drop index place.ready ≡ [] → HasUnmapped made (idle place) g first now
all-copied made place index g first now h none =
    let left : map open_ready h.rest ≡ [] = rest-ready h.done h.rest place.ready index h.ready h.at ∙ none in
    let empty : h.rest ≡ [] = empty-list h.rest (sym (length-map h.rest open_ready) ∙ ap length left) in
    let same : h.done ++ h.rest ≡ h.done = ap (λ (l : List OpenPiece). h.done ++ l) empty ∙ append-nil h.done in
    let H : List OpenPiece → Type 0 = λ l. HasOpen made g first now l 1 (length place.ready) in
    let N : ℕ → Type 0 = λ n. HasOpen made g first now h.done 1 n in
    let R : List OpenPiece → Type 0 = λ l. map open_ready l ≡ place.ready in
    let none_taken : length place.words ≡ 0 = ap length h.words in
    let raises : length place.ready ≡ length place.ready + length place.words = omega arith in
    record {
      underway = h.underway;
      decided = h.decided;
      done = [];
      rest = h.done;
      has = subst N raises (subst H same h.has);
      ready = subst R same h.ready;
      words = sym h.words;
      taken = none_left (IsTakenOpen g);
      copied = h.copied;
    }

pub goes-copy : (made : BatchMade) (place : BatchPlace) (index : ℕ) (rest : List ReadyPiece) (g : Geometry) (first now : View) → HasCopied made (idle place) index g first now → drop index place.ready ≡ rest
    → BatchGoes made place (copy_stage_by index rest (unmap_stage place)) (CopiesFromPiece g place.prepared place.ready rest) g first now
goes-copy made place index [] g first now h next =
    let G : List ℕ → Type 0 = λ l. BatchGoes made place (unmap_stage place) (UnmapsFrom g place.prepared place.ready (drop (length l) place.ready) l) g first now in
    subst G h.words (goes-unmap made place (drop (length place.words) place.ready) g first now (all-copied made place index g first now h next) refl)
goes-copy made place index (p ∷ ps) g first now h next =
    let D = drop (index + 1) place.ready in
    let tail : D ≡ ps = drop-next index place.ready ps p next in
    let known : IsBatchCopying made (idle place) index p g first now = record { has = h; next = next ∙ ap (λ (l : List ReadyPiece). p ∷ l) (sym tail) } in
    let left : map open_ready h.rest ≡ p ∷ ps = rest-ready h.done h.rest place.ready index h.ready h.at ∙ next in
    let run = copy-run (IsPlanPlaced batch_piece_at BatchKnown g made (record place { stage = Copying index p })) (λ g. CopiesFromPiece g place.prepared place.ready (drop (index + 1) place.ready)) (copy_made g p) g first now
    (may-copy-piece made g first now h.done h.rest p ps 1 (length place.ready) h.has h.uncopied left) (record { geometry = refl; is = refl; holds = known }) (can-copy g place.prepared place.ready D) in
    let L : List ReadyPiece → Type 0 = λ l. RunsBatch made (record place { stage = Copying index p }) (Follows (IsCopying (copy_made g p) g) (λ copied. CopiesFromPiece g place.prepared place.ready l)) g first now in
    subst L tail run

-- After the first flush.

zero-one : (a : ℕ) → a + 0 + 1 ≡ a + 1
zero-one a = omega arith

uncopied-open : (g : Geometry) (x : OpenPiece) (op : Op) → IsReadyOpen g x → IsUncopiedOp g x.piece.page x.piece.vpage x.piece.home op → IsUncopiedOpen g (record x { op = op })
uncopied-open g x op k h = record { op = h; fill = k.fill }

flushed-once : (made : BatchMade) (place : BatchPlace) (number : ℕ) (g : Geometry) (first now later : View) → IsBatchReady made (idle place) g first now → IsFlushed g now number later → HasCopied made (idle place) 0 g first later
flushed-once made place number g first now later h f =
    let o = h.has in
    let base = spoiled_each o.pages first.owned in
    let r = length place.ready in
    let new = map (with_op f.flushed) h.held in
    record {
      underway = h.underway;
      words = h.words;
      decided = h.decided;
      done = [];
      rest = new;
      has = open-mapped made g first now later h.held f.flushed 0 r 1 r o.scan o (λ x. ap (λ (y : Op). y.page) (f.each x).same)
          (f.is ∙ (ap (λ (w : View). record w { bumps = w.bumps + 1; ops = map f.flushed w.ops }) o.is
          ∙ (ap (λ (l : List Op). record first { ops = l; owned = owned_with base h.held; scan = o.scan; bumps = first.bumps + 0 + 1; raises = first.raises + r }) (ops-mapped f.flushed h.held)
          ∙ (ap (λ (l : List Owned). record first { ops = map open_op new; owned = base ++ l; scan = o.scan; bumps = first.bumps + 0 + 1; raises = first.raises + r }) (owned-mapped f.flushed h.held)
          ∙ ap (λ (n : ℕ). record first { ops = map open_op new; owned = owned_with base new; scan = o.scan; bumps = n; raises = first.raises + r }) (zero-one first.bumps)))));
      ready = ready-mapped f.flushed h.held ∙ h.ready;
      at = refl;
      copied = none_left (IsCopiedOpen g);
      uncopied = all_map (IsReadyOpen g) (IsUncopiedOpen g) (with_op f.flushed) h.held (λ x k. uncopied-open g x (f.flushed x.op) k (flushed-ready g x.piece.page x.piece.vpage x.piece.home number x.op (f.flushed x.op) (f.each x.op) k.op)) h.kind;
    }

pub after-flushing-first : (made : BatchMade) (place : BatchPlace) (number : ℕ) (g : Geometry) (first now later : View) → IsBatchReady made (idle place) g first now → IsFlushed g now number later
    → BatchGoes made place (copy_stage place 0) (CopiesEach g place.prepared place.ready) g first later
after-flushing-first made place number g first now later h f = goes-copy made place 0 (drop 0 place.ready) g first later (flushed-once made place number g first now later h f) refl

-- After a copy.

copied-open : (made : BatchMade) (g : Geometry) (first now later : View) (done rest : List OpenPiece) (x : OpenPiece) (raises : ℕ) → HasOpen made g first now (done ++ x ∷ rest) 1 raises → IsCopied (copy_made g x.piece) now later
    → HasOpen made g first later ((done ++ changed x (copied_to g.words None x.op) (copied_fill x.piece.page g.words) x.word ∷ []) ++ rest) 1 raises
copied-open made g first now later done rest x raises h left =
    let base = spoiled_each h.pages first.owned in
    let f : Op → Op = copied_to g.words None in
    let fill : Fill = copied_fill x.piece.page g.words in
    let z = changed x (f x.op) fill x.word in
    let H : List OpenPiece → Type 0 = λ l. HasOpen made g first later l 1 raises in
    subst H (sym (one-done done rest z))
    (open-changed made g first now later done rest x (f x.op) fill x.word 1 raises 1 raises h.scan h refl
    (left.is ∙ (ap (copying (copy_made g x.piece) g.words None) h.is
    ∙ (ap (λ (l : List Op). record first { ops = l; owned = edit owned_frame x.piece.frame (filled fill) (owned_with base (done ++ x ∷ rest)); scan = h.scan; bumps = first.bumps + 1; raises = first.raises + raises }) (ops-changed made g base done rest x f fill x.word h.each h.apart)
    ∙ ap (λ (l : List Owned). record first { ops = map open_op (done ++ z ∷ rest); owned = l; scan = h.scan; bumps = first.bumps + 1; raises = first.raises + raises }) (owned-changed base done rest x (f x.op) fill x.word h.apart)))))

copied-first : (made : BatchMade) (place : BatchPlace) (index : ℕ) (p : ReadyPiece) (ps : List ReadyPiece) (g : Geometry) (first now later : View) (done rest : List OpenPiece) → IsUnderway made (idle place) first → place.words ≡ [] → place.decided ≡ []
    → HasOpen made g first now (done ++ rest) 1 (length place.ready) → map open_ready (done ++ rest) ≡ place.ready → length done ≡ index → All (IsCopiedOpen g) done → All (IsUncopiedOpen g) rest → map open_ready rest ≡ p ∷ ps
    → IsCopied (copy_made g p) now later → HasCopied made (idle place) (index + 1) g first later
copied-first made place index p ps g first now later done [] under words none has ready at copied uncopied left c = cc
copied-first made place index p ps g first now later done (x ∷ rest) under words none has ready at copied uncopied left c =
    let same : p ≡ x.piece = cc in
    let C : ReadyPiece → Type 0 = λ q. IsCopied (copy_made g q) now later in
    let z = changed x (copied_to g.words None x.op) (copied_fill x.piece.page g.words) x.word in
    let k : IsUncopiedOpen g x = all_head (IsUncopiedOpen g) x rest uncopied in
    let copied_z : IsCopiedOpen g z = record {
      op = copied-cleared g x.piece.page x.piece.vpage x.piece.home g.words x.op k.op.op;
      fill = copied-all x.piece.page g.words (some-words g has.may.geometry);
    } in
    record {
      underway = under;
      words = words;
      decided = none;
      done = done ++ z ∷ [];
      rest = rest;
      has = copied-open made g first now later done rest x (length place.ready) has (subst C same c);
      ready = ap (map open_ready) (one-done done rest z) ∙ (map-append open_ready done (z ∷ rest) ∙ (sym (map-append open_ready done (x ∷ rest)) ∙ ready));
      at = length-append done (z ∷ []) ∙ ap (λ (n : ℕ). n + 1) at;
      copied = all_join (IsCopiedOpen g) done z copied copied_z;
      uncopied = all_tail (IsUncopiedOpen g) x rest uncopied;
    }

pub after-copying-piece : (made : BatchMade) (place : BatchPlace) (index : ℕ) (p : ReadyPiece) (g : Geometry) (first now later : View) → IsBatchCopying made (idle place) index p g first now → IsCopied (copy_made g p) now later
    → BatchGoes made place (copy_stage place (index + 1)) (CopiesFromPiece g place.prepared place.ready (drop (index + 1) place.ready)) g first later
after-copying-piece made place index p g first now later h c =
    let left = rest-ready h.has.done h.has.rest place.ready index h.has.ready h.has.at ∙ h.next in
    let s = copied-first made place index p (drop (index + 1) place.ready) g first now later h.has.done h.has.rest h.has.underway h.has.words h.has.decided h.has.has h.has.ready h.has.at h.has.copied h.has.uncopied left c in
    goes-copy made place (index + 1) (drop (index + 1) place.ready) g first later s refl
