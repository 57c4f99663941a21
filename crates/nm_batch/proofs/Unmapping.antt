-- The virtual pages of the ready pieces are unmapped, one after the other.
use Rattle.std.proofs.Common.{◌≡◌, ℕ, ◌+◌, ◌<◌, ◌≤◌, List, [], ◌∷◌, ◌++◌, length, drop, map, All, IsSomeAnd, IsTrue, refl, sym, ap, ◌∙◌, subst, arith, length-append, append_assoc}
use Rattle.std.proofs.lemmas.List.{append-nil, length-map, map-append, drop-map}
use Rattle.std.proofs.Math.Seq.{drop-append_seam}
use Rattle.nm_base.specs.Geometry.{Geometry}
use Rattle.nm_view.specs.declared.view.Owned.{Owned}
use Rattle.nm_view.specs.Lists.{find, edit}
use Rattle.nm_view.specs.Views.{Op, View, own_bumps, own_raises}
use Rattle.nm_view.specs.Operations.{page_of, op_on}
use Rattle.nm_view.proofs.Items.{all_head, all_tail, all_join, all_map}
use Rattle.nm_permit.specs.Permitted.{AreDueDry, MayUnmap}
use Rattle.nm_part.specs.Patterns.{Follows}
use Rattle.nm_prepare.specs.Placing.{IsPlanPlaced}
use Rattle.nm_prepare.specs.Worn.{worn_bumps, worn_raises}
use Rattle.nm_prepare.proofs.Lists.{some-and}
use Rattle.nm_commit.specs.Unmapping.{UnmapsOne, unmapped_at, MayUnmapping, IsUnmappedOne}
use Rattle.nm_txn.specs.declared.batch.ReadyPiece.{ReadyPiece}
use Rattle.nm_txn.specs.Batches.{BatchMade, taken_of, DecidesEach, FlushesAgain}
use Rattle.nm_txn.proofs.Ops.{cleared-may, unmapped-taken}
use Rattle.nm_txn.proofs.Runs.{unmap-run, flush-run}
use Rattle.nm_batch.specs.declared.batch.BatchPlace.{BatchPlace}
use Rattle.nm_batch.specs.declared.batch.BatchStage.TheVariants.{Unmapping, FlushingAgain}
use Rattle.nm_batch.specs.Leaving.{most_pieces, spoiled_each}
use Rattle.nm_batch.specs.Places.{batch_piece_at, unmap_stage_by, unmap_stage, UnmapsFrom}
use Rattle.nm_batch.specs.Opened.{OpenPiece, open_ready, open_op, open_word, owned_with, IsOpenPiece, HasOpen, IsCopiedOpen, IsTakenOpen, IsUnworn, IsUnderway, HasUnmapped, IsBatchTaken, IsBatchUnmapping, idle, BatchKnown}
use Rattle.nm_batch.proofs.Lists.{drop-next, drop-within, empty-list}
use Rattle.nm_batch.proofs.Opened.{all-middle, op-at, changed, ops-changed, owned-kept, open-changed}
use Rattle.nm_batch.proofs.Ending.{can-unmap, can-decide}
use Rattle.nm_batch.proofs.Steps.{RunsBatch, BatchGoes}

-- The open pieces of which nothing is done yet are those of the ready pieces that are left.

pub rest-ready : (done rest : List OpenPiece) (ready : List ReadyPiece) (n : ℕ) → map open_ready (done ++ rest) ≡ ready → length done ≡ n → map open_ready rest ≡ drop n ready
rest-ready done rest ready n e long =
    ap (map open_ready) (sym (drop-append_seam done rest)) ∙ (sym (drop-map open_ready (length done) (done ++ rest)) ∙ (ap (drop (length done)) e ∙ ap (λ (k : ℕ). drop k ready) long))

pub done-words : (done : List OpenPiece) (words : List ℕ) → map open_word done ≡ words → length done ≡ length words
done-words done words e = sym (length-map done open_word) ∙ ap length e

-- the list with one piece more done
pub one-done : (done rest : List OpenPiece) (x : OpenPiece) → (done ++ x ∷ []) ++ rest ≡ done ++ x ∷ rest
one-done done rest x = append_assoc done (x ∷ []) rest

-- One piece is unmapped.

abbrev MayUnmapOf : Geometry → View → ReadyPiece → Type 0
MayUnmapOf g now p = MayUnmapping (record { page = p.page; vpage = p.vpage }) g now

raises-left : (first : View) (most ready words : ℕ) → IsUnworn first → ready ≤ most → most ≤ 8 → words ≤ ready → first.raises + (ready + words) < own_raises
raises-left first most ready words u few eight less = let low : first.raises < worn_raises = u.raises in omega arith

may-unmap-next : (made : BatchMade) (g : Geometry) (first now : View) (done : List OpenPiece) (x : OpenPiece) (rest : List OpenPiece) (bumps raises : ℕ) → HasOpen made g first now (done ++ x ∷ rest) bumps raises → IsCopiedOpen g x → first.raises + raises < own_raises → MayUnmapOf g now x.piece
may-unmap-next made g first now done x rest bumps raises h k few =
    let base = spoiled_each h.pages first.owned in
    let e : IsOpenPiece made g x = all-middle (IsOpenPiece made g) done rest x h.each in
    let O : View → Type 0 = λ v. IsSomeAnd (op_on v x.piece.page) (MayUnmap g x.piece.vpage) in
    let R : View → Type 0 = λ v. v.raises < own_raises in
    record {
      backing = e.backing;
      op = subst O (sym h.is) (some-and (MayUnmap g x.piece.vpage) (find page_of x.piece.page (map open_op (done ++ x ∷ rest))) x.op (op-at made g base done rest x h.each h.apart) (cleared-may g x.piece.page x.piece.vpage x.piece.home x.op k.op));
      few = subst R (sym h.is) few;
    }

may-unmap-piece : (made : BatchMade) (g : Geometry) (first now : View) (done rest : List OpenPiece) (p : ReadyPiece) (ps : List ReadyPiece) (bumps raises : ℕ) → HasOpen made g first now (done ++ rest) bumps raises → All (IsCopiedOpen g) rest → first.raises + raises < own_raises → map open_ready rest ≡ p ∷ ps → MayUnmapOf g now p
may-unmap-piece made g first now done [] p ps bumps raises h k few e = cc
may-unmap-piece made g first now done (x ∷ rest) p ps bumps raises h k few e =
    let same : x.piece ≡ p = cc in
    subst (MayUnmapOf g now) same (may-unmap-next made g first now done x rest bumps raises h (all_head (IsCopiedOpen g) x rest k) few)

-- how many words were taken
words-within : (made : BatchMade) (place : BatchPlace) (g : Geometry) (first now : View) → HasUnmapped made (idle place) g first now → length place.words ≤ length place.ready
words-within made place g first now h =
    let done : length h.done ≡ length place.words = done-words h.done place.words h.words in
    let all : length (h.done ++ h.rest) ≡ length place.ready = sym (length-map (h.done ++ h.rest) open_ready) ∙ ap length h.ready in
    let both : length (h.done ++ h.rest) ≡ length h.done + length h.rest = length-append h.done h.rest in
    omega arith

raises-unmap : (made : BatchMade) (place : BatchPlace) (g : Geometry) (first now : View) → HasUnmapped made (idle place) g first now → first.raises + (length place.ready + length place.words) < own_raises
raises-unmap made place g first now h =
    let few : length place.ready ≤ length place.prepared = h.underway.few in
    let all : length place.prepared ≡ length made.pieces = h.underway.all in
    let most : length made.pieces ≤ 8 = h.has.may.few in
    let less : length place.words ≤ length place.ready = words-within made place g first now h in
    let fits : length place.ready ≤ length made.pieces = omega arith in
    raises-left first (length made.pieces) (length place.ready) (length place.words) h.underway.unworn fits most less

-- The second flush.

taken-dry : (g : Geometry) (held : List OpenPiece) → All (IsTakenOpen g) held → AreDueDry (map open_op held)
taken-dry g held h = all_map (IsTakenOpen g) (λ (o : Op). IsTrue o.due → o.wet ≡ []) open_op held (λ x k due. k.op.dry) h

all-done : (done rest : List OpenPiece) → rest ≡ [] → done ++ rest ≡ done
all-done done rest e = ap (λ (l : List OpenPiece). done ++ l) e ∙ append-nil done

all-taken : (made : BatchMade) (place : BatchPlace) (g : Geometry) (first now : View) → HasUnmapped made (idle place) g first now → drop (length place.words) place.ready ≡ [] → IsBatchTaken made (idle place) g first now
all-taken made place g first now h none =
    let left : map open_ready h.rest ≡ [] = rest-ready h.done h.rest place.ready (length place.words) h.ready (done-words h.done place.words h.words) ∙ none in
    let empty : h.rest ≡ [] = empty-list h.rest (sym (length-map h.rest open_ready) ∙ ap length left) in
    let same = all-done h.done h.rest empty in
    let H : List OpenPiece → Type 0 = λ l. HasOpen made g first now l 1 (length place.ready + length place.words) in
    let R : List OpenPiece → Type 0 = λ l. map open_ready l ≡ place.ready in
    record { underway = h.underway; decided = h.decided; held = h.done; has = subst H same h.has; ready = subst R same h.ready; words = h.words; taken = h.taken }

runs-flush-again : (made : BatchMade) (place : BatchPlace) (g : Geometry) (first now : View) → IsBatchTaken made (idle place) g first now → RunsBatch made (record place { stage = FlushingAgain }) (FlushesAgain g place.prepared (taken_of place.ready place.words)) g first now
runs-flush-again made place g first now h =
    let B : View → Type 0 = λ v. v.bumps < own_bumps in
    let D : View → Type 0 = λ v. AreDueDry v.ops in
    let bumps : first.bumps < worn_bumps = h.underway.unworn.bumps in
    let few : first.bumps + 1 < own_bumps = omega arith in
    flush-run (IsPlanPlaced batch_piece_at BatchKnown g made (record place { stage = FlushingAgain })) (λ g. DecidesEach g place.prepared (taken_of place.ready place.words)) g.cpus g first now
    (record { all = refl; bump = record { few = subst B (sym h.has.is) few; dry = subst D (sym h.has.is) (taken-dry g h.held h.taken) } })
    (record { geometry = refl; is = refl; holds = h }) (can-decide g place.prepared (taken_of place.ready place.words) [])

-- The next step.

pub goes-unmap : (made : BatchMade) (place : BatchPlace) (rest : List ReadyPiece) (g : Geometry) (first now : View) → HasUnmapped made (idle place) g first now → drop (length place.words) place.ready ≡ rest
    → BatchGoes made place (unmap_stage_by rest) (UnmapsFrom g place.prepared place.ready rest place.words) g first now
goes-unmap made place [] g first now h next = runs-flush-again made place g first now (all-taken made place g first now h next)
goes-unmap made place (p ∷ ps) g first now h next =
    let D = drop (length place.words + 1) place.ready in
    let tail : D ≡ ps = drop-next (length place.words) place.ready ps p next in
    let known : IsBatchUnmapping made (idle place) p g first now = record { has = h; next = next ∙ ap (λ (l : List ReadyPiece). p ∷ l) (sym tail) } in
    let left : map open_ready h.rest ≡ p ∷ ps = rest-ready h.done h.rest place.ready (length place.words) h.ready (done-words h.done place.words h.words) ∙ next in
    let run = unmap-run (IsPlanPlaced batch_piece_at BatchKnown g made (record place { stage = Unmapping p })) (λ g word. UnmapsFrom g place.prepared place.ready (drop (length place.words + 1) place.ready) (place.words ++ word ∷ [])) (record { page = p.page; vpage = p.vpage }) g first now
    (may-unmap-piece made g first now h.done h.rest p ps 1 (length place.ready + length place.words) h.has h.copied (raises-unmap made place g first now h) left)
    (record { geometry = refl; is = refl; holds = known }) (λ word. can-unmap g place.prepared place.ready D (place.words ++ word ∷ [])) in
    let L : List ReadyPiece → Type 0 = λ l. RunsBatch made (record place { stage = Unmapping p }) (Follows (UnmapsOne (record { page = p.page; vpage = p.vpage }) g) (λ word. UnmapsFrom g place.prepared place.ready l (place.words ++ word ∷ []))) g first now in
    subst L tail run

-- After an unmapping.

one-raise-more : (a ready words more : ℕ) → more ≡ words + 1 → a + (ready + words) + 1 ≡ a + (ready + more)
one-raise-more a ready words more e = omega arith

unmapped-open : (made : BatchMade) (g : Geometry) (first now later : View) (done rest : List OpenPiece) (x : OpenPiece) (ready words more word : ℕ) → more ≡ words + 1 → HasOpen made g first now (done ++ x ∷ rest) 1 (ready + words) → (u : IsUnmappedOne (record { page = x.piece.page; vpage = x.piece.vpage }) g now word later)
    → HasOpen made g first later ((done ++ changed x (unmapped_at x.piece.vpage word u.number x.op) x.fill word ∷ []) ++ rest) 1 (ready + more)
unmapped-open made g first now later done rest x ready words more word e h u =
    let base = spoiled_each h.pages first.owned in
    let f : Op → Op = unmapped_at x.piece.vpage word u.number in
    let z = changed x (f x.op) x.fill word in
    let H : List OpenPiece → Type 0 = λ l. HasOpen made g first later l 1 (ready + more) in
    subst H (sym (one-done done rest z))
    (open-changed made g first now later done rest x (f x.op) x.fill word 1 (ready + words) 1 (ready + more) h.scan h refl
    (u.is ∙ (ap (λ (w : View). record w { ops = edit page_of x.piece.page f w.ops; raises = w.raises + 1 }) h.is
    ∙ (ap (λ (l : List Op). record first { ops = l; owned = owned_with base (done ++ x ∷ rest); scan = h.scan; bumps = first.bumps + 1; raises = first.raises + (ready + words) + 1 }) (ops-changed made g base done rest x f x.fill word h.each h.apart)
    ∙ (ap (λ (l : List Owned). record first { ops = map open_op (done ++ z ∷ rest); owned = l; scan = h.scan; bumps = first.bumps + 1; raises = first.raises + (ready + words) + 1 }) (owned-kept base done rest x (f x.op) word)
    ∙ ap (λ (n : ℕ). record first { ops = map open_op (done ++ z ∷ rest); owned = owned_with base (done ++ z ∷ rest); scan = h.scan; bumps = first.bumps + 1; raises = n }) (one-raise-more first.raises ready words more e))))))

unmapped-first : (made : BatchMade) (place : BatchPlace) (word : ℕ) (p : ReadyPiece) (ps : List ReadyPiece) (g : Geometry) (first now later : View) (done rest : List OpenPiece) → IsUnderway made (idle place) first → place.decided ≡ []
    → HasOpen made g first now (done ++ rest) 1 (length place.ready + length place.words) → map open_ready (done ++ rest) ≡ place.ready → map open_word done ≡ place.words → All (IsTakenOpen g) done → All (IsCopiedOpen g) rest → map open_ready rest ≡ p ∷ ps
    → IsUnmappedOne (record { page = p.page; vpage = p.vpage }) g now word later → HasUnmapped made (idle (record place { words = place.words ++ word ∷ [] })) g first later
unmapped-first made place word p ps g first now later done [] under none has ready words taken copied left u = cc
unmapped-first made place word p ps g first now later done (x ∷ rest) under none has ready words taken copied left u =
    let same : p ≡ x.piece = cc in
    let U : ReadyPiece → Type 0 = λ q. IsUnmappedOne (record { page = q.page; vpage = q.vpage }) g now word later in
    let v : U x.piece = subst U same u in
    let z = changed x (unmapped_at x.piece.vpage word v.number x.op) x.fill word in
    let k : IsCopiedOpen g x = all_head (IsCopiedOpen g) x rest copied in
    let long : length (place.words ++ word ∷ []) ≡ length place.words + 1 = length-append place.words (word ∷ []) in
    let taken_z : IsTakenOpen g z = record {
      op = unmapped-taken g x.piece.page x.piece.vpage x.piece.home word v.number x.op k.op;
      fill = k.fill;
      right = record { writable = v.reply.carried.table.writable; saved = v.reply.carried.table.saved };
    } in
    record {
      underway = record { ready_is = under.ready_is; all = under.all; few = under.few; some = under.some; unworn = under.unworn; decided = under.decided };
      decided = none;
      done = done ++ z ∷ [];
      rest = rest;
      has = unmapped-open made g first now later done rest x (length place.ready) (length place.words) (length (place.words ++ word ∷ [])) word long has v;
      ready = ap (map open_ready) (one-done done rest z) ∙ (map-append open_ready done (z ∷ rest) ∙ (sym (map-append open_ready done (x ∷ rest)) ∙ ready));
      words = map-append open_word done (z ∷ []) ∙ ap (λ (l : List ℕ). l ++ word ∷ []) words;
      taken = all_join (IsTakenOpen g) done z taken taken_z;
      copied = all_tail (IsCopiedOpen g) x rest copied;
    }

pub after-unmapping-piece : (made : BatchMade) (place : BatchPlace) (p : ReadyPiece) (word : ℕ) (g : Geometry) (first now later : View) → IsBatchUnmapping made (idle place) p g first now → IsUnmappedOne (record { page = p.page; vpage = p.vpage }) g now word later
    → BatchGoes made (record place { words = place.words ++ word ∷ [] }) (unmap_stage (record place { words = place.words ++ word ∷ [] })) (UnmapsFrom g place.prepared place.ready (drop (length place.words + 1) place.ready) (place.words ++ word ∷ [])) g first later
after-unmapping-piece made place p word g first now later h u =
    let new : BatchPlace = record place { words = place.words ++ word ∷ [] } in
    let long : length (place.words ++ word ∷ []) ≡ length place.words + 1 = length-append place.words (word ∷ []) in
    let left = rest-ready h.has.done h.has.rest place.ready (length place.words) h.has.ready (done-words h.has.done place.words h.has.words) ∙ h.next in
    let s = unmapped-first made place word p (drop (length place.words + 1) place.ready) g first now later h.has.done h.has.rest h.has.underway h.has.decided h.has.has h.has.ready h.has.words h.has.taken h.has.copied left u in
    let G : ℕ → Type 0 = λ n. BatchGoes made new (unmap_stage new) (UnmapsFrom g place.prepared place.ready (drop n place.ready) (place.words ++ word ∷ [])) g first later in
    subst G long (goes-unmap made new (drop (length (place.words ++ word ∷ [])) place.ready) g first later s refl)

-- there is room for the word
pub room-word : (made : BatchMade) (place : BatchPlace) (p : ReadyPiece) (g : Geometry) (first now : View) → IsBatchUnmapping made (idle place) p g first now → length place.words < most_pieces
room-word made place p g first now h =
    let within : length place.words < length place.ready = drop-within (length place.words) place.ready (drop (length place.words + 1) place.ready) p h.next in
    let few : length place.ready ≤ length place.prepared = h.has.underway.few in
    let all : length place.prepared ≡ length made.pieces = h.has.underway.all in
    let most : length made.pieces ≤ most_pieces = h.has.has.may.few in
    omega arith
