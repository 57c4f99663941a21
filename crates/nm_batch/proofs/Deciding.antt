-- The ready pieces of a batch are decided, one after the other.
use Rattle.std.proofs.Common.{◌≡◌, ℕ, zero, suc, ◌+◌, ◌*◌, ◌<◌, ◌≤◌, List, [], ◌∷◌, ◌++◌, length, drop, map, All, Some, None, IsSome, IsSomeAnd, refl, sym, ap, ◌∙◌, subst, arith, length-append}
use Rattle.std.proofs.lemmas.List.{append-nil, length-map}
use Rattle.nm_base.specs.Geometry.{Geometry}
use Rattle.nm_view.specs.declared.view.Fill.{Fill}
use Rattle.nm_view.specs.declared.view.Fill.TheVariants.{Copied}
use Rattle.nm_view.specs.declared.view.Owned.{Owned}
use Rattle.nm_view.specs.declared.view.Scanned.{Scanned}
use Rattle.nm_view.specs.Lists.{find, erase}
use Rattle.nm_view.specs.Views.{Op, View}
use Rattle.nm_view.specs.Operations.{page_of, owned_frame, op_on, fill_of}
use Rattle.nm_view.proofs.Items.{all_head, all_tail, more, all_map}
use Rattle.nm_event.specs.After.{spoiled, spoiled_fill}
use Rattle.nm_event.specs.Fitting.{IsNotOwned}
use Rattle.nm_part.specs.Patterns.{Follows}
use Rattle.nm_part.proofs.Patterns.{ends-now}
use Rattle.nm_shoot.specs.Flushed.{IsFlushed}
use Rattle.nm_prepare.specs.Placing.{IsPlanPlaced}
use Rattle.nm_prepare.proofs.Lists.{some-and}
use Rattle.nm_commit.specs.Deciding.{MayDecide, IsDeciding, IsDecision, IsSwapped}
use Rattle.nm_commit.specs.declared.decide.DecideMade.{DecideMade}
use Rattle.nm_commit.specs.declared.decide.Decided.{Decided}
use Rattle.nm_txn.specs.declared.batch.ReadyPiece.{ReadyPiece}
use Rattle.nm_txn.specs.Batches.{BatchMade, count_ready, ready_of, taken_of, ends_of, DecidesEach}
use Rattle.nm_txn.proofs.Ops.{flushed-taken}
use Rattle.nm_txn.proofs.Runs.{decide-run}
use Rattle.nm_batch.specs.declared.batch.BatchPlace.{BatchPlace}
use Rattle.nm_batch.specs.declared.batch.BatchStage.TheVariants.{Deciding}
use Rattle.nm_batch.specs.Leaving.{most_pieces, asked_page, spoiled_each, flush_bumps, IsBatchLeft, count_decided}
use Rattle.nm_batch.specs.Places.{batch_piece_at, decide_stage_by, decide_stage, DecidesFrom}
use Rattle.nm_batch.specs.Opened.{OpenPiece, open_ready, open_page, open_op, open_word, open_made, owned_with, with_open, IsOpenPiece, HasOpen, IsTakenOpen, IsSwappedOpen, IsUnderway, IsBatchTaken, HasDecidedSome, IsBatchDeciding, idle, BatchKnown}
use Rattle.nm_batch.proofs.Lists.{absent-head, absent-tail, drop-next, drop-within, drop-over, empty-list, erase-middle}
use Rattle.nm_batch.proofs.Pieces.{ready-count, ends-count, made-taken, taken-length, decided-count}
use Rattle.nm_batch.proofs.Opened.{op-at, fill-at, with_op, ops-mapped, owned-mapped, open-mapped, ready-mapped, word-mapped, copied-kept, owned-spoiled, apart-spoiled, apart-rest, owned-rest}
use Rattle.nm_batch.proofs.Ending.{can-decide}
use Rattle.nm_batch.proofs.Steps.{RunsBatch, BatchGoes}

-- One piece is decided.

abbrev MayDecideOf : Geometry → View → DecideMade → Type 0
MayDecideOf g now d = MayDecide g d g now

may-first : (made : BatchMade) (g : Geometry) (first now : View) (p : OpenPiece) (rest : List OpenPiece) (bumps raises : ℕ) → HasOpen made g first now (p ∷ rest) bumps raises → IsSwappedOpen g p → MayDecideOf g now (open_made p)
may-first made g first now p rest bumps raises h k =
    let base = spoiled_each h.pages first.owned in
    let e : IsOpenPiece made g p = all_head (IsOpenPiece made g) p rest h.each in
    let F : View → Type 0 = λ v. fill_of v p.piece.frame ≡ Some (Copied p.piece.page g.words) in
    let N : View → Type 0 = λ v. IsNotOwned v p.piece.home in
    let O : View → Type 0 = λ v. IsSomeAnd (op_on v p.piece.page) (IsSwapped g p.piece.page p.piece.vpage p.word p.piece.home) in
    let H : OpenPiece → Type 0 = λ x. find owned_frame x.piece.home (owned_with base (p ∷ rest)) ≡ None in
    record {
      same = refl;
      geometry = h.may.geometry;
      page = e.page;
      backing = e.backing;
      home = e.home;
      frame = e.frame;
      faster = e.faster;
      writable = k.right.writable;
      saved = k.right.saved;
      fill = subst F (sym h.is) (fill-at base [] rest p h.apart ∙ ap (λ (f : Fill). Some f) k.fill);
      unowned = subst N (sym h.is) (all_head H p rest h.apart.homes);
      op = subst O (sym h.is) (some-and (IsSwapped g p.piece.page p.piece.vpage p.word p.piece.home) (find page_of p.piece.page (map open_op (p ∷ rest))) p.op (op-at made g base [] rest p h.each h.apart) k.op);
      turn = ap (λ (v : View). v.turn) h.is ∙ h.may.turn;
    }

may-decide : (made : BatchMade) (g : Geometry) (first now : View) (held : List OpenPiece) (d : DecideMade) (ds : List DecideMade) (bumps raises : ℕ) → HasOpen made g first now held bumps raises → All (IsSwappedOpen g) held → map open_made held ≡ d ∷ ds → MayDecideOf g now d
may-decide made g first now [] d ds bumps raises h k e = cc
may-decide made g first now (p ∷ rest) d ds bumps raises h k e =
    let same : open_made p ≡ d = cc in
    subst (MayDecideOf g now) same (may-first made g first now p rest bumps raises h (all_head (IsSwappedOpen g) p rest k))

-- the others keep what is known of their frames
others-kept : (g : Geometry) (p : OpenPiece) (rest : List OpenPiece) → find open_page p.piece.page rest ≡ None → All (IsSwappedOpen g) rest → All (λ x. spoiled_fill p.piece.page x.fill ≡ x.fill) rest
others-kept g p [] none k = λ i d lt. let bad : ⊥ = omega (arith, lt) in absurd bad
others-kept g p (x ∷ xs) none k =
    more (λ (y : OpenPiece). spoiled_fill p.piece.page y.fill ≡ y.fill) x xs
    (copied-kept p.piece.page x.piece.page g.words x.fill (all_head (IsSwappedOpen g) x xs k).fill (absent-head open_page p.piece.page x xs none))
    (others-kept g p xs (absent-tail open_page p.piece.page x xs none) (all_tail (IsSwappedOpen g) x xs k))

-- it is open no more
decided-open : (made : BatchMade) (g : Geometry) (first now later : View) (p : OpenPiece) (rest : List OpenPiece) (bumps raises : ℕ) → HasOpen made g first now (p ∷ rest) bumps raises → All (IsSwappedOpen g) (p ∷ rest) → IsDecision (open_made p) now later
    → HasOpen made g first later rest bumps raises
decided-open made g first now later p rest bumps raises h k left =
    let base = spoiled_each h.pages first.owned in
    let page = p.piece.page in
    let e : IsOpenPiece made g p = all_head (IsOpenPiece made g) p rest h.each in
    record {
      may = h.may;
      pages = page ∷ h.pages;
      named = more (λ b. IsSome (find asked_page b made.pieces)) page h.pages e.asked h.named;
      each = all_tail (IsOpenPiece made g) p rest h.each;
      apart = apart-spoiled page base rest (apart-rest base p rest h.apart);
      scan = left.scan;
      is = left.is
          ∙ (ap (λ (w : View). record w { ops = erase page_of page w.ops; owned = spoiled page (erase owned_frame p.piece.frame w.owned); scan = left.scan }) h.is
          ∙ (ap (λ (l : List Op). record first { ops = l; owned = spoiled page (erase owned_frame p.piece.frame (owned_with base (p ∷ rest))); scan = left.scan; bumps = first.bumps + bumps; raises = first.raises + raises }) (erase-middle page_of page p.op [] (map open_op rest) refl e.of)
          ∙ ap (λ (l : List Owned). record first { ops = map open_op rest; owned = l; scan = left.scan; bumps = first.bumps + bumps; raises = first.raises + raises })
          (ap (spoiled page) (owned-rest base p rest h.apart) ∙ owned-spoiled page base rest (others-kept g p rest h.apart.pages.0 (all_tail (IsSwappedOpen g) p rest k)))));
    }

-- The end.

both-flushes : (n : ℕ) → 0 < n → 2 ≡ flush_bumps n
both-flushes zero some = let bad : ⊥ = omega arith in absurd bad
both-flushes (suc n) some = refl

twice : (a b c : ℕ) → b ≡ c → a + (c + b) ≡ a + 2 * c
twice a b c e = omega arith

-- no operation is left
all-closed : (held : List OpenPiece) → length held ≡ 0 → (base : List Owned) (scan : Scanned) (first : View) (ready words : ℕ) → 0 < ready → words ≡ ready → first.ops ≡ []
    → with_open held base scan 2 (ready + words) first ≡ record first { owned = base; scan = scan; bumps = first.bumps + flush_bumps ready; raises = first.raises + 2 * ready }
all-closed held count base scan first ready words some even alone =
    ap (λ (l : List OpenPiece). with_open l base scan 2 (ready + words) first) (empty-list held count)
    ∙ (ap (λ (l : List Op). record first { ops = l; owned = owned_with base []; scan = scan; bumps = first.bumps + 2; raises = first.raises + (ready + words) }) (sym alone)
    ∙ (ap (λ (l : List Owned). record first { owned = l; scan = scan; bumps = first.bumps + 2; raises = first.raises + (ready + words) }) (append-nil base)
    ∙ (ap (λ (n : ℕ). record first { owned = base; scan = scan; bumps = first.bumps + n; raises = first.raises + (ready + words) }) (both-flushes ready some)
    ∙ ap (λ (n : ℕ). record first { owned = base; scan = scan; bumps = first.bumps + flush_bumps ready; raises = n }) (twice first.raises words ready even))))

-- all pieces have ends
all-ended : (made : BatchMade) (place : BatchPlace) (g : Geometry) (first now : View) → HasDecidedSome made (idle place) g first now → drop (length place.decided) (taken_of place.ready place.words) ≡ [] → IsBatchLeft made first (ends_of place.prepared place.decided) now
all-ended made place g first now h none =
    let taken : length (taken_of place.ready place.words) ≡ length place.ready = taken-length place.ready place.words h.even in
    let over : length (taken_of place.ready place.words) ≤ length place.decided = drop-over (length place.decided) (taken_of place.ready place.words) none in
    let all : length place.prepared ≡ length made.pieces = h.underway.all in
    let within : length place.prepared ≤ length made.pieces = omega arith in
    let counted : length (ready_of made.pieces place.prepared) ≡ count_ready place.prepared = ready-count made.pieces place.prepared within in
    let ready : length place.ready ≡ length (ready_of made.pieces place.prepared) = ap length h.underway.ready_is in
    let some : count_ready place.prepared ≤ length place.decided = omega arith in
    let ends : length (ends_of place.prepared place.decided) ≡ length place.prepared = ends-count place.prepared place.decided some in
    let count : length (ends_of place.prepared place.decided) ≡ length made.pieces = omega arith in
    let many : count_decided (ends_of place.prepared place.decided) ≡ count_ready place.prepared = decided-count place.prepared place.decided some in
    let same : length place.ready ≡ count_decided (ends_of place.prepared place.decided) = omega arith in
    let closed : length h.held ≡ 0 = sym (length-map h.held open_made) ∙ ap length (h.rest ∙ none) in
    let there : 0 < length place.ready = h.underway.some in
    let even : length place.words ≡ length place.ready = h.even in
    record {
      count = count;
      pages = h.has.pages;
      of = h.has.named;
      scan = h.has.scan;
      is = h.has.is ∙ (all-closed h.held closed (spoiled_each h.has.pages first.owned) h.has.scan first (length place.ready) (length place.words) there even h.has.may.alone
          ∙ ap (λ (n : ℕ). record first { owned = spoiled_each h.has.pages first.owned; scan = h.has.scan; bumps = first.bumps + flush_bumps n; raises = first.raises + 2 * n }) same);
    }

-- The next step.

pub goes-decide : (made : BatchMade) (place : BatchPlace) (rest : List DecideMade) (g : Geometry) (first now : View) → HasDecidedSome made (idle place) g first now → drop (length place.decided) (taken_of place.ready place.words) ≡ rest
    → BatchGoes made place (decide_stage_by rest) (DecidesFrom g place.prepared rest place.decided) g first now
goes-decide made place [] g first now h next = record { shown = ends-now (ends_of place.prepared place.decided); left = all-ended made place g first now h next; over = tt }
goes-decide made place (d ∷ ds) g first now h next =
    let D = drop (length place.decided + 1) (taken_of place.ready place.words) in
    let tail : D ≡ ds = drop-next (length place.decided) (taken_of place.ready place.words) ds d next in
    let known : IsBatchDeciding made (idle place) d g first now = record { has = h; next = next ∙ ap (λ (l : List DecideMade). d ∷ l) (sym tail) } in
    let run = decide-run (IsPlanPlaced batch_piece_at BatchKnown g made (record place { stage = Deciding d })) (λ g end. DecidesFrom g place.prepared (drop (length place.decided + 1) (taken_of place.ready place.words)) (place.decided ++ end ∷ [])) (record { 0 = g; 1 = d }) g first now
    (may-decide made g first now h.held d ds 2 (length place.ready + length place.words) h.has h.swapped (h.rest ∙ next)) (record { geometry = refl; is = refl; holds = known }) (λ end. can-decide g place.prepared D (place.decided ++ end ∷ [])) in
    let L : List DecideMade → Type 0 = λ l. RunsBatch made (record place { stage = Deciding d }) (Follows (IsDeciding d g) (λ end. DecidesFrom g place.prepared l (place.decided ++ end ∷ []))) g first now in
    subst L tail run

one-two : (a : ℕ) → a + 1 + 1 ≡ a + 2
one-two a = omega arith

swapped-open : (g : Geometry) (number : ℕ) (x : OpenPiece) (op : Op) → IsTakenOpen g x → IsSwapped g x.piece.page x.piece.vpage x.word x.piece.home op → IsSwappedOpen g (record x { op = op })
swapped-open g number x op k h = record { op = h; fill = k.fill; right = k.right }

-- after the second flush
flushed-twice : (made : BatchMade) (place : BatchPlace) (number : ℕ) (g : Geometry) (first now later : View) → IsBatchTaken made (idle place) g first now → IsFlushed g now number later → HasDecidedSome made (idle place) g first later
flushed-twice made place number g first now later h f =
    let o = h.has in
    let base = spoiled_each o.pages first.owned in
    let r = length place.ready + length place.words in
    let new = map (with_op f.flushed) h.held in
    let none : length place.decided ≡ 0 = ap length h.decided in
    let T : List Decided → Type 0 = λ l. map open_made new ≡ drop (length l) (taken_of place.ready place.words) in
    let W : List ReadyPiece → List ℕ → Type 0 = λ a b. map open_made new ≡ taken_of a b in
    let all : map open_made new ≡ taken_of place.ready place.words =
    subst (λ (b : List ℕ). W place.ready b) (word-mapped f.flushed h.held ∙ h.words) (subst (λ (a : List ReadyPiece). W a (map open_word new)) (ready-mapped f.flushed h.held ∙ h.ready) (made-taken new)) in
    let many : length place.words ≡ length place.ready = ap length (sym h.words) ∙ (length-map h.held open_word ∙ (sym (length-map h.held open_ready) ∙ ap length h.ready)) in
    record {
      underway = h.underway;
      even = many;
      held = new;
      has = open-mapped made g first now later h.held f.flushed 1 r 2 r o.scan o (λ x. ap (λ (y : Op). y.page) (f.each x).same)
          (f.is ∙ (ap (λ (w : View). record w { bumps = w.bumps + 1; ops = map f.flushed w.ops }) o.is
          ∙ (ap (λ (l : List Op). record first { ops = l; owned = owned_with base h.held; scan = o.scan; bumps = first.bumps + 1 + 1; raises = first.raises + r }) (ops-mapped f.flushed h.held)
          ∙ (ap (λ (l : List Owned). record first { ops = map open_op new; owned = base ++ l; scan = o.scan; bumps = first.bumps + 1 + 1; raises = first.raises + r }) (owned-mapped f.flushed h.held)
          ∙ ap (λ (n : ℕ). record first { ops = map open_op new; owned = owned_with base new; scan = o.scan; bumps = n; raises = first.raises + r }) (one-two first.bumps)))));
      rest = subst T (sym h.decided) all;
      swapped = all_map (IsTakenOpen g) (IsSwappedOpen g) (with_op f.flushed) h.held (λ x k. swapped-open g number x (f.flushed x.op) k (flushed-taken g x.piece.page x.piece.vpage x.word x.piece.home number x.op (f.flushed x.op) (f.each x.op) k.op)) h.taken;
    }

pub after-flushing-again : (made : BatchMade) (place : BatchPlace) (number : ℕ) (g : Geometry) (first now later : View) → IsBatchTaken made (idle place) g first now → IsFlushed g now number later
    → BatchGoes made place (decide_stage place) (DecidesEach g place.prepared (taken_of place.ready place.words)) g first later
after-flushing-again made place number g first now later h f =
    let s = flushed-twice made place number g first now later h f in
    let G : List Decided → Type 0 = λ l. BatchGoes made place (decide_stage place) (DecidesFrom g place.prepared (drop (length l) (taken_of place.ready place.words)) l) g first later in
    subst G h.decided (goes-decide made place (drop (length place.decided) (taken_of place.ready place.words)) g first later s refl)

-- after a decision
first-decided : (made : BatchMade) (place : BatchPlace) (end : Decided) (d : DecideMade) (ds : List DecideMade) (g : Geometry) (first now later : View) (held : List OpenPiece) → IsUnderway made (idle place) first → length place.words ≡ length place.ready
    → HasOpen made g first now held 2 (length place.ready + length place.words) → map open_made held ≡ d ∷ ds → All (IsSwappedOpen g) held → drop (length place.decided) (taken_of place.ready place.words) ≡ d ∷ ds → IsDecision d now later
    → HasDecidedSome made (idle (record place { decided = place.decided ++ end ∷ [] })) g first later
first-decided made place end d ds g first now later [] u even has rest k next left = cc
first-decided made place end d ds g first now later (p ∷ held) u even has rest k next left =
    let same : open_made p ≡ d = cc in
    let others : map open_made held ≡ ds = cc in
    let D : DecideMade → Type 0 = λ m. IsDecision m now later in
    let long : length (place.decided ++ end ∷ []) ≡ length place.decided + 1 = length-append place.decided (end ∷ []) in
    let within : length place.decided < length (taken_of place.ready place.words) = drop-within (length place.decided) (taken_of place.ready place.words) ds d next in
    let taken : length (taken_of place.ready place.words) ≡ length place.ready = taken-length place.ready place.words even in
    let fits : length (place.decided ++ end ∷ []) ≤ length place.ready = omega arith in
    let R : ℕ → Type 0 = λ n. map open_made held ≡ drop n (taken_of place.ready place.words) in
    record {
      underway = record { ready_is = u.ready_is; all = u.all; few = u.few; some = u.some; unworn = u.unworn; decided = fits };
      even = even;
      held = held;
      has = decided-open made g first now later p held 2 (length place.ready + length place.words) has k (subst D (sym same) left);
      rest = subst R (sym long) (others ∙ sym (drop-next (length place.decided) (taken_of place.ready place.words) ds d next));
      swapped = all_tail (IsSwappedOpen g) p held k;
    }

pub after-deciding-piece : (made : BatchMade) (place : BatchPlace) (d : DecideMade) (end : Decided) (g : Geometry) (first now later : View) → IsBatchDeciding made (idle place) d g first now → IsDecision d now later
    → BatchGoes made (record place { decided = place.decided ++ end ∷ [] }) (decide_stage (record place { decided = place.decided ++ end ∷ [] })) (DecidesFrom g place.prepared (drop (length place.decided + 1) (taken_of place.ready place.words)) (place.decided ++ end ∷ [])) g first later
after-deciding-piece made place d end g first now later h left =
    let new : BatchPlace = record place { decided = place.decided ++ end ∷ [] } in
    let long : length (place.decided ++ end ∷ []) ≡ length place.decided + 1 = length-append place.decided (end ∷ []) in
    let s = first-decided made place end d (drop (length place.decided + 1) (taken_of place.ready place.words)) g first now later h.has.held h.has.underway h.has.even h.has.has (h.has.rest ∙ h.next) h.has.swapped h.next left in
    let G : ℕ → Type 0 = λ n. BatchGoes made new (decide_stage new) (DecidesFrom g place.prepared (drop n (taken_of place.ready place.words)) (place.decided ++ end ∷ [])) g first later in
    subst G long (goes-decide made new (drop (length (place.decided ++ end ∷ [])) (taken_of place.ready place.words)) g first later s refl)

-- there is room for how it was decided
pub room-decided : (made : BatchMade) (place : BatchPlace) (d : DecideMade) (g : Geometry) (first now : View) → IsBatchDeciding made (idle place) d g first now → length place.decided < most_pieces
room-decided made place d g first now h =
    let within : length place.decided < length (taken_of place.ready place.words) = drop-within (length place.decided) (taken_of place.ready place.words) (drop (length place.decided + 1) (taken_of place.ready place.words)) d h.next in
    let taken : length (taken_of place.ready place.words) ≡ length place.ready = taken-length place.ready place.words h.has.even in
    let few : length place.ready ≤ length place.prepared = h.has.underway.few in
    let all : length place.prepared ≡ length made.pieces = h.has.underway.all in
    let most : length made.pieces ≤ most_pieces = h.has.has.may.few in
    omega arith
