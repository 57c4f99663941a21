-- The pieces of a batch are prepared, one after the other.
use Rattle.std.proofs.Common.{◌≡◌, ◌≢◌, ℕ, suc, ◌+◌, ◌*◌, ◌^◌, ◌<◌, ◌≤◌, false, List, [], ◌∷◌, ◌++◌, length, drop, map, All, Some, None, IsSome, IsTrue, ◌⊎◌, inl, inr, refl, sym, ap, ◌∙◌, subst, arith, length-append}
use Rattle.std.proofs.lemmas.List.{map-append, length-map, append-nil}
use Rattle.nm_base.specs.Geometry.{Geometry}
use Rattle.nm_base.specs.Ranges.{IsPage}
use Rattle.nm_base.specs.HomeWord.{home_word}
use Rattle.nm_action.specs.declared.spent.Spent.{Spent}
use Rattle.nm_view.specs.declared.view.Fill.TheVariants.{Raw}
use Rattle.nm_view.specs.declared.view.Owned.{Owned}
use Rattle.nm_view.specs.declared.view.Scanned.{Scanned}
use Rattle.nm_view.specs.Lists.{find, Once}
use Rattle.nm_view.specs.Views.{Op, View, own_bumps}
use Rattle.nm_view.specs.Operations.{page_of, owned_frame, op_on}
use Rattle.nm_view.proofs.Items.{more, none_left, all_join, all_same, all_map}
use Rattle.nm_view.proofs.Places.{put-new}
use Rattle.nm_permit.specs.Permitted.{AreDueDry}
use Rattle.nm_event.specs.After.{owning, spoiled, spoiled_fill}
use Rattle.nm_part.specs.Patterns.{Follows}
use Rattle.nm_shoot.specs.Shootdown.{IsShootdown}
use Rattle.nm_prepare.specs.Placing.{IsPlanPlaced}
use Rattle.nm_prepare.specs.Preparing.{IsPrepare}
use Rattle.nm_prepare.specs.Worn.{is_worn, worn_bumps, worn_raises}
use Rattle.nm_prepare.specs.Ready.{MayPrepare, HasReady, HasClosed, IsPrepared, spent_by, IsReadyOp}
use Rattle.nm_prepare.specs.declared.prepare.Prepared.{Prepared}
use Rattle.nm_prepare.specs.declared.prepare.Prepared.TheVariants.{Busy, Closed, Ready}
use Rattle.nm_prepare.proofs.Clearing.{not-worn}
use Rattle.nm_txn.specs.declared.batch.ReadyPiece.{ReadyPiece}
use Rattle.nm_txn.specs.Batches.{BatchMade, count_ready, drawn_after, drawn_with, ready_with, ready_of, ends_of, CopiesEach, AfterPrepares}
use Rattle.nm_txn.proofs.Frames.{apart-by-tiers}
use Rattle.nm_txn.proofs.Runs.{prepare-run, flush-run}
use Rattle.nm_batch.specs.declared.batch.BatchPlace.{BatchPlace}
use Rattle.nm_batch.specs.declared.batch.BatchStage.TheVariants.{Preparing, Flushing}
use Rattle.nm_batch.specs.Leaving.{most_pieces, asked_page, MayBatch, spoiled_each, IsBatchLeft, flush_bumps, count_decided}
use Rattle.nm_batch.specs.Places.{new_batch_place, batch_piece_at, piece_noted, CanNoteEnd, CanNotePiece, prepare_stage_by, prepare_stage, PreparesFrom}
use Rattle.nm_batch.specs.Opened.{OpenPiece, open_ready, open_page, open_op, owned_with, with_open, IsOpenPiece, HasOpen, IsReadyOpen, IsUnworn, HasPrepared, IsBatchReady, IsBatchPreparing, idle, BatchKnown}
use Rattle.nm_batch.proofs.Lists.{absent-made, absent-all, absent-head, absent-tail, all-with, all-origin, drop-next, drop-within, drop-over, once-drop, all-drop, found-drop, empty-list}
use Rattle.nm_batch.proofs.Pieces.{drawn-more, ready-more, ready-count, ends-count, decided-count}
use Rattle.nm_batch.proofs.Opened.{owned-joined, apart-joined, apart-spoiled, owned-spoiled, raw-kept}
use Rattle.nm_batch.proofs.Ending.{can-prepare, can-copy}
use Rattle.nm_batch.proofs.Steps.{RunsBatch, BatchGoes}

-- The next piece may be prepared.

-- as many pieces are open as are ready
pub open-count : (held : List OpenPiece) (ready : List ReadyPiece) → map open_ready held ≡ ready → length held ≡ length ready
open-count held ready e = sym (length-map held open_ready) ∙ ap length e

-- its page is not open
pub page-fresh : (made : BatchMade) (g : Geometry) (held : List OpenPiece) (p : ℕ × ℕ) (ps : List (ℕ × ℕ)) → All (IsOpenPiece made g) held → All (λ x. find asked_page x.piece.page (p ∷ ps) ≡ None) held → find open_page p.0 held ≡ None × find page_of p.0 (map open_op held) ≡ None
page-fresh made g held p ps each later =
    let L : OpenPiece → Type 0 = λ x. find asked_page x.piece.page (p ∷ ps) ≡ None in
    let O : OpenPiece → Type 0 = λ x. open_page x ≢ p.0 in
    let none = absent-all open_page p.0 held (all_same L O held (λ x h e. absent-head asked_page x.piece.page p ps h (sym e)) later) in
    (none, absent-made open_page page_of open_op p.0 held (all_same (IsOpenPiece made g) (λ (x : OpenPiece). page_of (open_op x) ≡ open_page x) held (λ x h. h.of) each) none)

may-prepare : (made : BatchMade) (place : BatchPlace) (g : Geometry) (first now : View) (p : ℕ × ℕ) (ps : List (ℕ × ℕ)) → HasPrepared made place g first now → drop (length place.prepared) made.pieces ≡ p ∷ ps
    → MayPrepare g (record { page = p.0; vpage = p.1; spent = place.drawn }) g now
may-prepare made place g first now p ps h next =
    let D : List (ℕ × ℕ) → Type 0 = λ l. All (λ x. find asked_page x.piece.page l ≡ None) h.held in
    let F : View → Type 0 = λ v. op_on v p.0 ≡ None in
    let few : length place.prepared < length made.pieces = drop-within (length place.prepared) made.pieces ps p next in
    let count : length h.held ≡ length place.ready = open-count h.held place.ready h.ready in
    let ops : length (map open_op h.held) ≡ length h.held = length-map h.held open_op in
    let most : length made.pieces ≤ 8 = h.has.may.few in
    let room : length place.ready ≤ length place.prepared = h.few in
    let C : View → Type 0 = λ v. length v.ops < 10 in
    let small : length (map open_op h.held) < 10 = omega arith in
    record {
      same = refl;
      geometry = h.has.may.geometry;
      page = all-drop (λ (q : ℕ × ℕ). IsPage g (asked_page q)) (length place.prepared) made.pieces ps p next h.has.may.pages;
      fresh = subst F (sym h.has.is) (page-fresh made g h.held p ps h.has.each (subst D next h.later)).1;
      few = subst C (sym h.has.is) small;
      turn = ap (λ (v : View). v.turn) h.has.is ∙ h.has.may.turn;
      spent = h.spent;
    }

-- no operation is left
none-open : (held : List OpenPiece) → length held ≡ 0 → (base : List Owned) (scan : Scanned) (first : View) → first.ops ≡ [] → with_open held base scan 0 (length held) first ≡ record first { owned = base; scan = scan; bumps = first.bumps + 0; raises = first.raises + 0 }
none-open held count base scan first alone =
    ap (λ (l : List OpenPiece). with_open l base scan 0 (length l) first) (empty-list held count)
    ∙ (ap (λ (l : List Op). record first { ops = l; owned = owned_with base []; scan = scan; bumps = first.bumps + 0; raises = first.raises + 0 }) (sym alone)
    ∙ ap (λ (l : List Owned). record first { owned = l; scan = scan; bumps = first.bumps + 0; raises = first.raises + 0 }) (append-nil base))

-- the batch is over, where no piece is ready
over-early : (made : BatchMade) (place : BatchPlace) (g : Geometry) (first now : View) → HasPrepared made (idle place) g first now → drop (length place.prepared) made.pieces ≡ [] → place.ready ≡ [] → IsBatchLeft made first (ends_of place.prepared place.decided) now
over-early made place g first now h none empty =
    let open-none : length h.held ≡ 0 = open-count h.held place.ready h.ready ∙ ap length empty in
    let all : length made.pieces ≤ length place.prepared = drop-over (length place.prepared) made.pieces none in
    let within : length place.prepared ≤ length made.pieces = h.within in
    let counted : length (ready_of made.pieces place.prepared) ≡ count_ready place.prepared = ready-count made.pieces place.prepared h.within in
    let zero_is : length (ready_of made.pieces place.prepared) ≡ 0 = ap length (sym h.ready_is) ∙ ap length empty in
    let some : count_ready place.prepared ≤ length place.decided = omega arith in
    let ends : length (ends_of place.prepared place.decided) ≡ length place.prepared = ends-count place.prepared place.decided some in
    let count : length (ends_of place.prepared place.decided) ≡ length made.pieces = omega arith in
    let many : count_decided (ends_of place.prepared place.decided) ≡ count_ready place.prepared = decided-count place.prepared place.decided some in
    let same : 0 ≡ count_decided (ends_of place.prepared place.decided) = omega arith in
    record {
      count = count;
      pages = h.has.pages;
      of = h.has.named;
      scan = h.has.scan;
      is = h.has.is ∙ (none-open h.held open-none (spoiled_each h.has.pages first.owned) h.has.scan first h.has.may.alone
          ∙ ap (λ (n : ℕ). record first { owned = spoiled_each h.has.pages first.owned; scan = h.has.scan; bumps = first.bumps + flush_bumps n; raises = first.raises + 2 * n }) same);
    }

-- The first flush.

-- a wet page is dried, so a flush may be made
ready-dry : (g : Geometry) (held : List OpenPiece) → All (IsReadyOpen g) held → AreDueDry (map open_op held)
ready-dry g held h = all_map (IsReadyOpen g) (λ (o : Op). IsTrue o.due → o.wet ≡ []) open_op held (λ x k due. k.op.dry) h

pub unworn-some : (place : BatchPlace) (first : View) (r : ReadyPiece) (rs : List ReadyPiece) → place.ready ≡ r ∷ rs → (place.ready ≡ []) ⊎ IsUnworn first → IsUnworn first
unworn-some place first r rs e h = elim h [ inl none ↦ absurd (let bad : r ∷ rs ≡ [] = sym e ∙ none in cc) | inr u ↦ u ]

runs-batch-flush : (made : BatchMade) (place : BatchPlace) (g : Geometry) (first now : View) (r : ReadyPiece) (rs : List ReadyPiece) → HasPrepared made (idle place) g first now → drop (length place.prepared) made.pieces ≡ [] → place.ready ≡ r ∷ rs
    → RunsBatch made (record place { stage = Flushing }) (Follows (IsShootdown g.cpus) (λ number. CopiesEach g place.prepared place.ready)) g first now
runs-batch-flush made place g first now r rs h none some =
    let u : IsUnworn first = unworn-some place first r rs some h.unworn in
    let all : length made.pieces ≤ length place.prepared = drop-over (length place.prepared) made.pieces none in
    let within : length place.prepared ≤ length made.pieces = h.within in
    let count : length h.held ≡ length place.ready = open-count h.held place.ready h.ready in
    let full : length place.prepared ≡ length made.pieces = omega arith in
    let long : length place.ready ≡ suc (length rs) = ap length some in
    let empty : length place.decided ≡ 0 = ap length h.decided in
    let there : 0 < length place.ready = omega arith in
    let no_more : length place.decided ≤ length place.ready = omega arith in
    let bumps : first.bumps < worn_bumps = u.bumps in
    let few : first.bumps + 0 < own_bumps = omega arith in
    let B : View → Type 0 = λ v. v.bumps < own_bumps in
    let D : View → Type 0 = λ v. AreDueDry v.ops in
    let R : ℕ → Type 0 = λ n. HasOpen made g first now h.held 0 n in
    let ready : IsBatchReady made (idle place) g first now = record {
      underway = record { ready_is = h.ready_is; all = full; few = h.few; some = there; unworn = u; decided = no_more };
      words = h.words;
      decided = h.decided;
      held = h.held;
      has = subst R count h.has;
      ready = h.ready;
      kind = h.kind;
    } in
    flush-run (IsPlanPlaced batch_piece_at BatchKnown g made (record place { stage = Flushing })) (λ g. CopiesEach g place.prepared place.ready) g.cpus g first now
    (record { all = refl; bump = record { few = subst B (sym h.has.is) few; dry = subst D (sym h.has.is) (ready-dry g h.held h.kind) } })
    (record { geometry = refl; is = refl; holds = ready }) (can-copy g place.prepared place.ready place.ready)

-- The next step.

ended-early : (made : BatchMade) (place : BatchPlace) (ready : List ReadyPiece) (g : Geometry) (first now : View) → HasPrepared made (idle place) g first now → drop (length place.prepared) made.pieces ≡ [] → place.ready ≡ ready
    → BatchGoes made place (prepare_stage_by [] ready) (AfterPrepares g place.prepared ready) g first now
ended-early made place [] g first now h none is =
    record {
      shown = record { none = refl; is = ap (ends_of place.prepared) h.decided };
      left = over-early made place g first now h none is;
      over = tt;
    }
ended-early made place (r ∷ rs) g first now h none is =
    let W : List ReadyPiece → Type 0 = λ l. RunsBatch made (record place { stage = Flushing }) (Follows (IsShootdown g.cpus) (λ number. CopiesEach g place.prepared l)) g first now in
    subst W is (runs-batch-flush made place g first now r rs h none is)

pub goes-prepare : (made : BatchMade) (place : BatchPlace) (rest : List (ℕ × ℕ)) (g : Geometry) (first now : View) → HasPrepared made (idle place) g first now → drop (length place.prepared) made.pieces ≡ rest
    → BatchGoes made place (prepare_stage_by rest place.ready) (PreparesFrom g made rest place.prepared) g first now
goes-prepare made place [] g first now h next =
    let A : List ReadyPiece → Type 0 = λ l. BatchGoes made place (prepare_stage_by [] place.ready) (AfterPrepares g place.prepared l) g first now in
    subst A h.ready_is (ended-early made place place.ready g first now h next refl)
goes-prepare made place (p ∷ ps) g first now h next =
    let D = drop (length place.prepared + 1) made.pieces in
    let tail : D ≡ ps = drop-next (length place.prepared) made.pieces ps p next in
    let known : IsBatchPreparing made (idle place) p.0 p.1 g first now = record { has = h; next = next ∙ ap (λ (l : List (ℕ × ℕ)). p ∷ l) (sym tail) } in
    let run = prepare-run (IsPlanPlaced batch_piece_at BatchKnown g made (record place { stage = Preparing p.0 p.1 })) (λ g end. PreparesFrom g made (drop (length place.prepared + 1) made.pieces) (place.prepared ++ end ∷ [])) (record { 0 = g; 1 = record { page = p.0; vpage = p.1; spent = place.drawn } }) g first now
    (may-prepare made (idle place) g first now p ps h next) (record { geometry = refl; is = refl; holds = known }) (λ end. can-prepare g made D (place.prepared ++ end ∷ []) h.has.may.geometry) in
    let W : Spent → Type 0 = λ s. RunsBatch made (record place { stage = Preparing p.0 p.1 }) (Follows (IsPrepare (record { page = p.0; vpage = p.1; spent = s }) g) (λ end. PreparesFrom g made D (place.prepared ++ end ∷ []))) g first now in
    let L : List (ℕ × ℕ) → Type 0 = λ l. RunsBatch made (record place { stage = Preparing p.0 p.1 }) (Follows (IsPrepare (record { page = p.0; vpage = p.1; spent = drawn_with made.spent place.prepared }) g) (λ end. PreparesFrom g made l (place.prepared ++ end ∷ []))) g first now in
    subst L tail (subst W h.drawn run)

-- What is noted of a piece.

-- a piece that is not ready changes none of the open ones
prepared-early : (made : BatchMade) (place : BatchPlace) (end : Prepared) (page v : ℕ) (g : Geometry) (first now later : View) → (h : IsBatchPreparing made (idle place) page v g first now) → ((d : Spent) → drawn_after d end ≡ d) → ready_with (page, v) end [] ≡ []
    → HasOpen made g first later h.has.held 0 (length h.has.held) → spent_by later ≡ spent_by now
    → HasPrepared made (idle (record place { prepared = place.prepared ++ end ∷ [] })) g first later
prepared-early made place end page v g first now later h drawn none has spent =
    let D = drop (length place.prepared + 1) made.pieces in
    let P : List Prepared = place.prepared ++ end ∷ [] in
    let long : length P ≡ length place.prepared + 1 = length-append place.prepared (end ∷ []) in
    let within : length place.prepared < length made.pieces = drop-within (length place.prepared) made.pieces D (page, v) h.next in
    let few : length place.ready ≤ length place.prepared = h.has.few in
    let in_all : length P ≤ length made.pieces = omega arith in
    let in_few : length place.ready ≤ length P = omega arith in
    let O : ℕ → Type 0 = λ n. All (λ x. find asked_page x.piece.page (drop n made.pieces) ≡ None) h.has.held in
    let L : List (ℕ × ℕ) → Type 0 = λ l. All (λ x. find asked_page x.piece.page l ≡ None) h.has.held in
    record {
      held = h.has.held;
      has = has;
      kind = h.has.kind;
      unworn = h.has.unworn;
      ready = h.has.ready;
      ready_is = h.has.ready_is ∙ sym (ready-more made.pieces place.prepared end (page, v) D h.next ∙ (ap (λ (l : List ReadyPiece). ready_of made.pieces place.prepared ++ l) none ∙ append-nil (ready_of made.pieces place.prepared)));
      within = in_all;
      few = in_few;
      words = h.has.words;
      decided = h.has.decided;
      drawn = h.has.drawn ∙ sym (drawn-more made.spent place.prepared end ∙ drawn (drawn_with made.spent place.prepared));
      spent = h.has.spent ∙ sym spent;
      later = subst O (sym long) (all_same (λ (x : OpenPiece). find asked_page x.piece.page ((page, v) ∷ D) ≡ None) (λ (x : OpenPiece). find asked_page x.piece.page D ≡ None) h.has.held (λ x e. absent-tail asked_page x.piece.page (page, v) D e) (subst L h.next h.has.later));
    }

-- the early end of a piece
closed-open : (made : BatchMade) (place : BatchPlace) (page v : ℕ) (g : Geometry) (first now later : View) → (h : IsBatchPreparing made (idle place) page v g first now) → HasClosed page now later → HasOpen made g first later h.has.held 0 (length h.has.held)
closed-open made place page v g first now later h left =
    let o = h.has.has in
    let base = spoiled_each o.pages first.owned in
    let n = length h.has.held in
    let kept = owned-spoiled page base h.has.held (all_same (IsReadyOpen g) (λ (x : OpenPiece). spoiled_fill page x.fill ≡ x.fill) h.has.held (λ x k. raw-kept page x.fill k.fill) h.has.kind) in
    record {
      may = o.may;
      pages = page ∷ o.pages;
      named = more (λ b. IsSome (find asked_page b made.pieces)) page o.pages (found-drop asked_page (length place.prepared) made.pieces (drop (length place.prepared + 1) made.pieces) (page, v) h.next) o.named;
      each = o.each;
      apart = apart-spoiled page base h.has.held o.apart;
      scan = left.scan;
      is = left.is ∙ (ap (λ (w : View). record w { owned = spoiled page w.owned; scan = left.scan }) o.is ∙ ap (λ (l : List Owned). record first { ops = map open_op h.has.held; owned = l; scan = left.scan; bumps = first.bumps + 0; raises = first.raises + n }) kept);
    }

-- the piece that is ready
abbrev pub new_piece : ℕ → ℕ → ℕ → ℕ → Op → OpenPiece
new_piece page v home frame op = record { piece = record { page = page; vpage = v; home = home; frame = frame }; op = op; fill = Raw; word = 0 }

one-raise : (a b : ℕ) (c : ℕ) → c ≡ b + 1 → a + b + 1 ≡ a + c
one-raise a b c e = omega arith

-- its frame is no home of another
other-homes : (g : Geometry) (frame : ℕ) (held : List OpenPiece) → All (IsReadyOpen g) held → All (λ o. o.home ≢ Some (home_word frame)) (map open_op held) → All (λ x. frame ≢ x.piece.home) held
other-homes g frame held kind homeless =
    let H : OpenPiece → Type 0 = λ x. x.op.home ≢ Some (home_word frame) in
    let F : OpenPiece → Type 0 = λ x. frame ≢ x.piece.home in
    all-with (IsReadyOpen g) H F held (λ x k free e. free (k.op.home_is ∙ ap (λ (n : ℕ). Some (home_word n)) (sym e))) kind (all-origin (λ (o : Op). o.home ≢ Some (home_word frame)) open_op held homeless)

ready-open : (made : BatchMade) (place : BatchPlace) (page v home frame : ℕ) (g : Geometry) (first now later : View) → (h : IsBatchPreparing made (idle place) page v g first now) → (r : HasReady (record { page = page; vpage = v; spent = place.drawn }) g now home frame later)
    → HasOpen made g first later (h.has.held ++ new_piece page v home frame r.op ∷ []) 0 (length (h.has.held ++ new_piece page v home frame r.op ∷ []))
ready-open made place page v home frame g first now later h r =
    let o = h.has.has in
    let held = h.has.held in
    let base = spoiled_each o.pages first.owned in
    let z = new_piece page v home frame r.op in
    let D = drop (length place.prepared + 1) made.pieces in
    let L : List (ℕ × ℕ) → Type 0 = λ l. All (λ x. find asked_page x.piece.page l ≡ None) held in
    let N : ℕ → View → Type 0 = λ k w. find owned_frame k w.owned ≡ None in
    let H : View → Type 0 = λ w. All (λ (x : Op). x.home ≢ Some (home_word frame)) w.ops in
    let fresh : find owned_frame frame (owned_with base held) ≡ None = subst (N frame) o.is r.new.fresh in
    let unowned : find owned_frame home (owned_with base held) ≡ None = subst (N home) o.is r.unowned in
    let long : length (held ++ z ∷ []) ≡ length held + 1 = length-append held (z ∷ []) in
    record {
      may = o.may;
      pages = o.pages;
      named = o.named;
      each = all_join (IsOpenPiece made g) held z o.each (record {
        page = all-drop (λ (q : ℕ × ℕ). IsPage g (asked_page q)) (length place.prepared) made.pieces D (page, v) h.next o.may.pages;
        asked = found-drop asked_page (length place.prepared) made.pieces D (page, v) h.next;
        backing = r.backing;
        home = r.range;
        frame = r.new.range;
        faster = r.new.faster;
        of = r.ready.page_is;
      });
      apart = apart-joined base held z o.apart (page-fresh made g held (page, v) D o.each (subst L h.next h.has.later)).0 fresh unowned (apart-by-tiers g frame home r.new.faster) (other-homes g frame held h.has.kind (subst H o.is r.new.homeless));
      scan = r.scan;
      is = r.is
          ∙ (ap (λ (w : View). record w { ops = w.ops ++ r.op ∷ []; owned = owning frame Raw w.owned; scan = r.scan; raises = w.raises + 1 }) o.is
          ∙ (ap (λ (l : List Op). record first { ops = l; owned = owning frame Raw (owned_with base held); scan = r.scan; bumps = first.bumps + 0; raises = first.raises + length held + 1 }) (sym (map-append open_op held (z ∷ [])))
          ∙ (ap (λ (l : List Owned). record first { ops = map open_op (held ++ z ∷ []); owned = l; scan = r.scan; bumps = first.bumps + 0; raises = first.raises + length held + 1 }) (put-new owned_frame (record { frame = frame; fill = Raw }) (owned_with base held) fresh ∙ sym (owned-joined base held z))
          ∙ ap (λ (n : ℕ). record first { ops = map open_op (held ++ z ∷ []); owned = owned_with base (held ++ z ∷ []); scan = r.scan; bumps = first.bumps + 0; raises = n }) (one-raise first.raises (length held) (length (held ++ z ∷ [])) long))));
    }

-- an actor with bumps and raises left
unworn-now : (made : BatchMade) (place : BatchPlace) (page v : ℕ) (g : Geometry) (first now : View) → (h : IsBatchPreparing made (idle place) page v g first now) → is_worn place.drawn ≡ false → IsUnworn first
unworn-now made place page v g first now h worn =
    let n = not-worn place.drawn worn in
    let b : place.drawn.bumps ≡ first.bumps + 0 = ap (λ (s : Spent). s.bumps) h.has.spent ∙ ap (λ (w : View). w.bumps) h.has.has.is in
    let r : place.drawn.raises ≡ first.raises + length h.has.held = ap (λ (s : Spent). s.raises) h.has.spent ∙ ap (λ (w : View). w.raises) h.has.has.is in
    let nb : place.drawn.bumps < worn_bumps = n.0 in
    let nr : place.drawn.raises < worn_raises = n.1 in
    let few : first.bumps < worn_bumps = omega arith in
    let low : first.raises < worn_raises = omega arith in
    record { bumps = few; raises = low }

new-ready : (page v home frame : ℕ) (g : Geometry) (op : Op) → IsReadyOp g page v home op → IsReadyOpen g (new_piece page v home frame op)
new-ready page v home frame g op h = record { op = h; fill = refl }

ready-new : (held : List OpenPiece) (ready : List ReadyPiece) (page v home frame : ℕ) (op : Op) → map open_ready held ≡ ready → map open_ready held ++ map open_ready (new_piece page v home frame op ∷ []) ≡ ready ++ record { page = page; vpage = v; home = home; frame = frame } ∷ []
ready-new held ready page v home frame op e = ap (λ (l : List ReadyPiece). l ++ record { page = page; vpage = v; home = home; frame = frame } ∷ []) e

new-later : (page v home frame : ℕ) (op : Op) (D : List (ℕ × ℕ)) → find asked_page page D ≡ None → find asked_page (open_page (new_piece page v home frame op)) D ≡ None
new-later page v home frame op D e = e

prepared-ready : (made : BatchMade) (place : BatchPlace) (page v home frame : ℕ) (g : Geometry) (first now later : View) → (h : IsBatchPreparing made (idle place) page v g first now) → (r : HasReady (record { page = page; vpage = v; spent = place.drawn }) g now home frame later)
    → HasPrepared made (idle (piece_noted page v (Ready home frame) place)) g first later
prepared-ready made place page v home frame g first now later h r =
    let held = h.has.held in
    let z = new_piece page v home frame r.op in
    let end : Prepared = Ready home frame in
    let D = drop (length place.prepared + 1) made.pieces in
    let P : List Prepared = place.prepared ++ end ∷ [] in
    let piece : ReadyPiece = record { page = page; vpage = v; home = home; frame = frame } in
    let R : List ReadyPiece = place.ready ++ piece ∷ [] in
    let long : length P ≡ length place.prepared + 1 = length-append place.prepared (end ∷ []) in
    let longer : length R ≡ length place.ready + 1 = length-append place.ready (piece ∷ []) in
    let within : length place.prepared < length made.pieces = drop-within (length place.prepared) made.pieces D (page, v) h.next in
    let few : length place.ready ≤ length place.prepared = h.has.few in
    let in_all : length P ≤ length made.pieces = omega arith in
    let in_few : length R ≤ length P = omega arith in
    let A : OpenPiece → Type 0 = λ x. find asked_page x.piece.page D ≡ None in
    let O : ℕ → Type 0 = λ n. All (λ x. find asked_page x.piece.page (drop n made.pieces) ≡ None) (held ++ z ∷ []) in
    let L : List (ℕ × ℕ) → Type 0 = λ l. All (λ x. find asked_page x.piece.page l ≡ None) held in
    let C : List (ℕ × ℕ) → Type 0 = λ l. Once asked_page l in
    let once : Once asked_page ((page, v) ∷ D) = subst C h.next (once-drop asked_page (length place.prepared) made.pieces h.has.has.may.once) in
    record {
      held = held ++ z ∷ [];
      has = ready-open made place page v home frame g first now later h r;
      kind = all_join (IsReadyOpen g) held z h.has.kind (new-ready page v home frame g r.op r.ready);
      unworn = inr (unworn-now made place page v g first now h r.worn);
      ready = map-append open_ready held (z ∷ []) ∙ ready-new held place.ready page v home frame r.op h.has.ready;
      ready_is = ap (λ (l : List ReadyPiece). l ++ piece ∷ []) h.has.ready_is ∙ sym (ready-more made.pieces place.prepared end (page, v) D h.next);
      within = in_all;
      few = in_few;
      words = h.has.words;
      decided = h.has.decided;
      drawn = ap (λ (s : Spent). record s { raises = s.raises + 1 }) h.has.drawn ∙ sym (drawn-more made.spent place.prepared end);
      spent = ap (λ (s : Spent). record s { raises = s.raises + 1 }) h.has.spent ∙ sym (ap spent_by r.is);
      later = subst O (sym long) (all_join A held z (all_same (λ (x : OpenPiece). find asked_page x.piece.page ((page, v) ∷ D) ≡ None) A held (λ x e. absent-tail asked_page x.piece.page (page, v) D e) (subst L h.next h.has.later)) (new-later page v home frame r.op D once.0));
    }

goes-noted : (made : BatchMade) (place next : BatchPlace) (end : Prepared) (g : Geometry) (first later : View) → next.prepared ≡ place.prepared ++ end ∷ [] → HasPrepared made (idle next) g first later
    → BatchGoes made next (prepare_stage made next) (PreparesFrom g made (drop (length place.prepared + 1) made.pieces) (place.prepared ++ end ∷ [])) g first later
goes-noted made place next end g first later is h =
    let P : List Prepared = place.prepared ++ end ∷ [] in
    let long : length P ≡ length place.prepared + 1 = length-append place.prepared (end ∷ []) in
    let G : ℕ → List Prepared → Type 0 = λ n l. BatchGoes made next (prepare_stage made next) (PreparesFrom g made (drop n made.pieces) l) g first later in
    subst (λ (n : ℕ). G n P) long (subst (λ (l : List Prepared). G (length l) l) is (goes-prepare made next (drop (length next.prepared) made.pieces) g first later h refl))

note-room : (made : BatchMade) (place : BatchPlace) (page v : ℕ) (g : Geometry) (first now : View) → IsBatchPreparing made (idle place) page v g first now → length place.prepared < most_pieces
note-room made place page v g first now h =
    let within : length place.prepared < length made.pieces = drop-within (length place.prepared) made.pieces (drop (length place.prepared + 1) made.pieces) (page, v) h.next in
    let most : length made.pieces ≤ most_pieces = h.has.has.may.few in
    omega arith

can-note-end : (made : BatchMade) (place : BatchPlace) (end : Prepared) (page v : ℕ) (g : Geometry) (first now later : View) → IsBatchPreparing made (idle place) page v g first now → IsPrepared (record { page = page; vpage = v; spent = place.drawn }) g now end later → CanNoteEnd place end
can-note-end made place Busy page v g first now later h left = tt
can-note-end made place (Closed early) page v g first now later h left = tt
can-note-end made place (Ready home frame) page v g first now later h left =
    let room : length place.prepared < most_pieces = note-room made place page v g first now h in
    let few : length place.ready ≤ length place.prepared = h.has.few in
    let raises : place.drawn.raises < worn_raises = (not-worn place.drawn left.worn).1 in
    let fits : length place.ready < most_pieces = omega arith in
    let low : place.drawn.raises + 1 < 2 ^ 64 = omega arith in
    record { room = fits; few = low }

-- the next piece is prepared, by how this one was
pub after-preparing : (made : BatchMade) (place : BatchPlace) (end : Prepared) (page v : ℕ) (g : Geometry) (first now later : View) → IsBatchPreparing made (idle place) page v g first now → IsPrepared (record { page = page; vpage = v; spent = place.drawn }) g now end later
    → BatchGoes made (piece_noted page v end place) (prepare_stage made (piece_noted page v end place)) (PreparesFrom g made (drop (length place.prepared + 1) made.pieces) (place.prepared ++ end ∷ [])) g first later
after-preparing made place Busy page v g first now later h left =
    let V : View → Type 0 = λ w. HasOpen made g first w h.has.held 0 (length h.has.held) in
    goes-noted made place (record place { prepared = place.prepared ++ Busy ∷ [] }) Busy g first later refl
    (prepared-early made place Busy page v g first now later h (λ d. refl) refl (subst V (sym left) h.has.has) (ap spent_by left))
after-preparing made place (Closed early) page v g first now later h left =
    goes-noted made place (record place { prepared = place.prepared ++ Closed early ∷ [] }) (Closed early) g first later refl
    (prepared-early made place (Closed early) page v g first now later h (λ d. refl) refl (closed-open made place page v g first now later h left) (ap spent_by left.is))
after-preparing made place (Ready home frame) page v g first now later h left =
    goes-noted made place (piece_noted page v (Ready home frame) place) (Ready home frame) g first later refl (prepared-ready made place page v home frame g first now later h left)

-- there is room for the note
pub can-note : (made : BatchMade) (place : BatchPlace) (end : Prepared) (page v : ℕ) (g : Geometry) (first now later : View) → IsBatchPreparing made (idle place) page v g first now → IsPrepared (record { page = page; vpage = v; spent = place.drawn }) g now end later → CanNotePiece place end
can-note made place end page v g first now later h left = record { room = note-room made place page v g first now h; ready = can-note-end made place end page v g first now later h left }

-- The beginning.

no-more : (a : ℕ) → a + 0 ≡ a
no-more a = omega arith

none-more : (view : View) → view.ops ≡ [] → view ≡ with_open [] view.owned view.scan 0 0 view
none-more view alone = sym (none-open [] refl view.owned view.scan view alone ∙ (ap (λ (n : ℕ). record view { bumps = n; raises = view.raises + 0 }) (no-more view.bumps) ∙ ap (λ (n : ℕ). record view { raises = n }) (no-more view.raises)))

ready-none : (pieces : List (ℕ × ℕ)) → [] ≡ ready_of pieces []
ready-none [] = refl
ready-none (p ∷ ps) = refl

new-prepared : (made : BatchMade) (g : Geometry) (view : View) → MayBatch g made g view → HasPrepared made (idle (new_batch_place made.spent)) g view view
new-prepared made g view may =
    let least : 0 ≤ length made.pieces = omega arith in
    let same : 0 ≤ 0 = omega arith in
    record {
      held = [];
      has = record {
        may = may;
        pages = [];
        named = none_left (λ b. IsSome (find asked_page b made.pieces));
        each = none_left (IsOpenPiece made g);
        apart = record { pages = tt; frames = tt; fresh = none_left (λ (x : OpenPiece). find owned_frame x.piece.frame view.owned ≡ None); homes = none_left (λ (x : OpenPiece). find owned_frame x.piece.home (owned_with view.owned []) ≡ None) };
        scan = view.scan;
        is = none-more view may.alone;
      };
      kind = none_left (IsReadyOpen g);
      unworn = inl refl;
      ready = refl;
      ready_is = ready-none made.pieces;
      within = least;
      few = same;
      words = refl;
      decided = refl;
      drawn = refl;
      spent = may.spent;
      later = none_left (λ (x : OpenPiece). find asked_page x.piece.page made.pieces ≡ None);
    }

-- the first piece is prepared
pub begins-batch : (made : BatchMade) (page v : ℕ) (rest : List (ℕ × ℕ)) (g : Geometry) (view : View) → made.pieces ≡ (page, v) ∷ rest → MayBatch g made g view
    → RunsBatch made (record (new_batch_place made.spent) { stage = Preparing page v }) (PreparesFrom g made made.pieces []) g view view
begins-batch made page v rest g view is may =
    let W : List (ℕ × ℕ) → Type 0 = λ l. RunsBatch made (record (new_batch_place made.spent) { stage = Preparing page v }) (PreparesFrom g made l []) g view view in
    subst W (sym is) (goes-prepare made (new_batch_place made.spent) ((page, v) ∷ rest) g view view (new-prepared made g view may) is)

-- the plan was made for the geometry in which it begins
pub batch-here : (mine : Geometry) (made : BatchMade) (g : Geometry) (view : View) → MayBatch mine made g view → MayBatch g made g view
batch-here mine made g view h = record { same = refl; geometry = h.geometry; few = h.few; pages = h.pages; once = h.once; alone = h.alone; turn = h.turn; spent = h.spent }
