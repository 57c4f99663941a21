-- The views along a batch.
use Rattle.std.proofs.Common.{◌≡◌, ◌≢◌, ℕ, ◌==◌, false, List, [], ◌∷◌, ◌++◌, map, All, Some, None, option_map, refl, sym, ap, ◌∙◌, subst, append_assoc, arith}
use Rattle.std.proofs.lemmas.List.{map-append}
use Rattle.nm_base.specs.Geometry.{Geometry}
use Rattle.nm_view.specs.declared.view.Fill.{Fill}
use Rattle.nm_view.specs.declared.view.Fill.TheVariants.{Raw, Copied}
use Rattle.nm_view.specs.declared.view.Owned.{Owned}
use Rattle.nm_view.specs.declared.view.Scanned.{Scanned}
use Rattle.nm_view.specs.Lists.{find, edit, erase}
use Rattle.nm_view.specs.Views.{Op, View}
use Rattle.nm_view.specs.Operations.{page_of, owned_frame}
use Rattle.nm_view.proofs.Finds.{once_map, once_join, absent_map}
use Rattle.nm_view.proofs.Items.{all_head, all_tail, all_join, all_map, all_same}
use Rattle.nm_event.specs.After.{filled, spoiled, spoiled_frame, spoiled_fill}
use Rattle.nm_txn.specs.declared.batch.ReadyPiece.{ReadyPiece}
use Rattle.nm_txn.specs.Batches.{BatchMade}
use Rattle.nm_batch.specs.Leaving.{spoiled_each}
use Rattle.nm_batch.specs.Opened.{OpenPiece, open_ready, open_page, open_frame, open_op, open_word, open_owned, owned_with, with_open, IsOpenPiece, AreApart, HasOpen}
use Rattle.nm_batch.proofs.Lists.{find-middle, edit-middle, erase-middle, absent-both, absent-front, absent-rest, absent-tail, absent-more, absent-made, absent-origin, once-front, once-swap, absent-swap, all-front, all-rest, all-swap, all-with}

-- The piece in the middle.

pub all-middle : {A : Type 0} (P : A → Type 0) (xs ys : List A) (y : A) → All P (xs ++ y ∷ ys) → P y
all-middle P xs ys y h = all_head P y ys (all-rest P xs (y ∷ ys) h)

-- no operation before it is on its page
page-free : (made : BatchMade) (g : Geometry) (base : List Owned) (done rest : List OpenPiece) (p : OpenPiece) → All (IsOpenPiece made g) (done ++ p ∷ rest) → AreApart base (done ++ p ∷ rest) → find page_of p.piece.page (map open_op done) ≡ None
page-free made g base done rest p each apart =
    absent-made open_page page_of open_op p.piece.page done
    (all_same (IsOpenPiece made g) (λ (x : OpenPiece). page_of (open_op x) ≡ open_page x) done (λ x h. h.of) (all-front (IsOpenPiece made g) done (p ∷ rest) each))
    (once-front open_page p done rest apart.pages)

-- its frame is not owned before it
frame-free : (base : List Owned) (done rest : List OpenPiece) (p : OpenPiece) → AreApart base (done ++ p ∷ rest) → find owned_frame p.piece.frame (base ++ map open_owned done) ≡ None
frame-free base done rest p apart =
    absent-both owned_frame p.piece.frame base (map open_owned done)
    (all-middle (λ (x : OpenPiece). find owned_frame x.piece.frame base ≡ None) done rest p apart.fresh)
    (absent-made open_frame owned_frame open_owned p.piece.frame done (λ i d lt. refl) (once-front open_frame p done rest apart.frames))

-- its operation
pub op-at : (made : BatchMade) (g : Geometry) (base : List Owned) (done rest : List OpenPiece) (p : OpenPiece) → All (IsOpenPiece made g) (done ++ p ∷ rest) → AreApart base (done ++ p ∷ rest) → find page_of p.piece.page (map open_op (done ++ p ∷ rest)) ≡ Some p.op
op-at made g base done rest p each apart =
    ap (find page_of p.piece.page) (map-append open_op done (p ∷ rest))
    ∙ find-middle page_of p.piece.page p.op (map open_op done) (map open_op rest) (page-free made g base done rest p each apart) (all-middle (IsOpenPiece made g) done rest p each).of

owned-split : (base : List Owned) (done rest : List OpenPiece) (p : OpenPiece) → owned_with base (done ++ p ∷ rest) ≡ (base ++ map open_owned done) ++ open_owned p ∷ map open_owned rest
owned-split base done rest p = ap (λ (l : List Owned). base ++ l) (map-append open_owned done (p ∷ rest)) ∙ sym (append_assoc base (map open_owned done) (open_owned p ∷ map open_owned rest))

-- what is known of its frame
pub fill-at : (base : List Owned) (done rest : List OpenPiece) (p : OpenPiece) → AreApart base (done ++ p ∷ rest) → option_map (λ (w : Owned). w.fill) (find owned_frame p.piece.frame (owned_with base (done ++ p ∷ rest))) ≡ Some p.fill
fill-at base done rest p apart =
    ap (λ (l : List Owned). option_map (λ (w : Owned). w.fill) (find owned_frame p.piece.frame l)) (owned-split base done rest p)
    ∙ ap (option_map (λ (w : Owned). w.fill)) (find-middle owned_frame p.piece.frame (open_owned p) (base ++ map open_owned done) (map open_owned rest) (frame-free base done rest p apart) refl)

-- The piece in the middle is changed.

abbrev pub changed : OpenPiece → Op → Fill → ℕ → OpenPiece
changed p op fill word = record { piece = p.piece; op = op; fill = fill; word = word }

pub ops-changed : (made : BatchMade) (g : Geometry) (base : List Owned) (done rest : List OpenPiece) (p : OpenPiece) (f : Op → Op) (fill : Fill) (word : ℕ) → All (IsOpenPiece made g) (done ++ p ∷ rest) → AreApart base (done ++ p ∷ rest)
    → edit page_of p.piece.page f (map open_op (done ++ p ∷ rest)) ≡ map open_op (done ++ changed p (f p.op) fill word ∷ rest)
ops-changed made g base done rest p f fill word each apart =
    ap (edit page_of p.piece.page f) (map-append open_op done (p ∷ rest))
    ∙ (edit-middle page_of p.piece.page f p.op (map open_op done) (map open_op rest) (page-free made g base done rest p each apart) (all-middle (IsOpenPiece made g) done rest p each).of
    ∙ sym (map-append open_op done (changed p (f p.op) fill word ∷ rest)))

pub owned-changed : (base : List Owned) (done rest : List OpenPiece) (p : OpenPiece) (op : Op) (fill : Fill) (word : ℕ) → AreApart base (done ++ p ∷ rest)
    → edit owned_frame p.piece.frame (filled fill) (owned_with base (done ++ p ∷ rest)) ≡ owned_with base (done ++ changed p op fill word ∷ rest)
owned-changed base done rest p op fill word apart =
    ap (edit owned_frame p.piece.frame (filled fill)) (owned-split base done rest p)
    ∙ (edit-middle owned_frame p.piece.frame (filled fill) (open_owned p) (base ++ map open_owned done) (map open_owned rest) (frame-free base done rest p apart) refl
    ∙ sym (owned-split base done rest (changed p op fill word)))

-- where its fill is the same, so are the owned frames
pub owned-kept : (base : List Owned) (done rest : List OpenPiece) (p : OpenPiece) (op : Op) (word : ℕ) → owned_with base (done ++ p ∷ rest) ≡ owned_with base (done ++ changed p op p.fill word ∷ rest)
owned-kept base done rest p op word = owned-split base done rest p ∙ sym (owned-split base done rest (changed p op p.fill word))

absent-changed : (base : List Owned) (done rest : List OpenPiece) (p : OpenPiece) (op : Op) (fill : Fill) (word k : ℕ) → find owned_frame k (owned_with base (done ++ p ∷ rest)) ≡ None → find owned_frame k (owned_with base (done ++ changed p op fill word ∷ rest)) ≡ None
absent-changed base done rest p op fill word k h =
    let N : List Owned → Type 0 = λ l. find owned_frame k l ≡ None in
    subst N (sym (owned-split base done rest (changed p op fill word)))
    (absent-swap owned_frame k (open_owned p) (open_owned (changed p op fill word)) (base ++ map open_owned done) (map open_owned rest) refl (subst N (owned-split base done rest p) h))

apart-changed : (base : List Owned) (done rest : List OpenPiece) (p : OpenPiece) (op : Op) (fill : Fill) (word : ℕ) → AreApart base (done ++ p ∷ rest) → AreApart base (done ++ changed p op fill word ∷ rest)
apart-changed base done rest p op fill word h =
    let F : OpenPiece → Type 0 = λ x. find owned_frame x.piece.frame base ≡ None in
    let H : OpenPiece → Type 0 = λ x. find owned_frame x.piece.home (owned_with base (done ++ p ∷ rest)) ≡ None in
    let N : OpenPiece → Type 0 = λ x. find owned_frame x.piece.home (owned_with base (done ++ changed p op fill word ∷ rest)) ≡ None in
    record {
      pages = once-swap open_page p (changed p op fill word) done rest refl h.pages;
      frames = once-swap open_frame p (changed p op fill word) done rest refl h.frames;
      fresh = all-swap F F p (changed p op fill word) done rest (λ x f. f) (all-middle F done rest p h.fresh) h.fresh;
      homes = all-swap H N p (changed p op fill word) done rest (λ x n. absent-changed base done rest p op fill word x.piece.home n) (absent-changed base done rest p op fill word p.piece.home (all-middle H done rest p h.homes)) h.homes;
    }

-- the piece with another operation, on its page
pub open-changed : (made : BatchMade) (g : Geometry) (first now later : View) (done rest : List OpenPiece) (p : OpenPiece) (op : Op) (fill : Fill) (word bumps raises more_bumps more_raises : ℕ) (scan : Scanned)
    → (h : HasOpen made g first now (done ++ p ∷ rest) bumps raises) → op.page ≡ p.op.page → later ≡ with_open (done ++ changed p op fill word ∷ rest) (spoiled_each h.pages first.owned) scan more_bumps more_raises first
    → HasOpen made g first later (done ++ changed p op fill word ∷ rest) more_bumps more_raises
open-changed made g first now later done rest p op fill word bumps raises more_bumps more_raises scan h of is =
    let e : IsOpenPiece made g p = all-middle (IsOpenPiece made g) done rest p h.each in
    record {
      may = h.may;
      pages = h.pages;
      named = h.named;
      each = all-swap (IsOpenPiece made g) (IsOpenPiece made g) p (changed p op fill word) done rest (λ x i. i)
          (record { page = e.page; asked = e.asked; backing = e.backing; home = e.home; frame = e.frame; faster = e.faster; of = of ∙ e.of }) h.each;
      apart = apart-changed (spoiled_each h.pages first.owned) done rest p op fill word h.apart;
      scan = scan;
      is = is;
    }

-- All operations are changed, as by a flush.

abbrev pub with_op : (Op → Op) → OpenPiece → OpenPiece
with_op f p = record p { op = f p.op }

pub ops-mapped : (f : Op → Op) (pieces : List OpenPiece) → map f (map open_op pieces) ≡ map open_op (map (with_op f) pieces)
ops-mapped f [] = refl
ops-mapped f (p ∷ ps) = ap (λ (l : List Op). f p.op ∷ l) (ops-mapped f ps)

pub owned-mapped : (f : Op → Op) (pieces : List OpenPiece) → map open_owned pieces ≡ map open_owned (map (with_op f) pieces)
owned-mapped f [] = refl
owned-mapped f (p ∷ ps) = ap (λ (l : List Owned). open_owned p ∷ l) (owned-mapped f ps)

pub ready-mapped : (f : Op → Op) (pieces : List OpenPiece) → map open_ready (map (with_op f) pieces) ≡ map open_ready pieces
ready-mapped f [] = refl
ready-mapped f (p ∷ ps) = ap (λ (l : List ReadyPiece). p.piece ∷ l) (ready-mapped f ps)

pub word-mapped : (f : Op → Op) (pieces : List OpenPiece) → map open_word (map (with_op f) pieces) ≡ map open_word pieces
word-mapped f [] = refl
word-mapped f (p ∷ ps) = ap (λ (l : List ℕ). p.word ∷ l) (word-mapped f ps)

pub open-mapped : (made : BatchMade) (g : Geometry) (first now later : View) (pieces : List OpenPiece) (f : Op → Op) (bumps raises more_bumps more_raises : ℕ) (scan : Scanned)
    → (h : HasOpen made g first now pieces bumps raises) → ((o : Op) → (f o).page ≡ o.page) → later ≡ with_open (map (with_op f) pieces) (spoiled_each h.pages first.owned) scan more_bumps more_raises first
    → HasOpen made g first later (map (with_op f) pieces) more_bumps more_raises
open-mapped made g first now later pieces f bumps raises more_bumps more_raises scan h of is =
    let base = spoiled_each h.pages first.owned in
    let F : OpenPiece → Type 0 = λ x. find owned_frame x.piece.frame base ≡ None in
    let H : OpenPiece → Type 0 = λ x. find owned_frame x.piece.home (owned_with base pieces) ≡ None in
    let N : OpenPiece → Type 0 = λ x. find owned_frame x.piece.home (owned_with base (map (with_op f) pieces)) ≡ None in
    record {
      may = h.may;
      pages = h.pages;
      named = h.named;
      each = all_map (IsOpenPiece made g) (IsOpenPiece made g) (with_op f) pieces (λ x e. record { page = e.page; asked = e.asked; backing = e.backing; home = e.home; frame = e.frame; faster = e.faster; of = of x.op ∙ e.of }) h.each;
      apart = record {
        pages = once_map open_page (with_op f) pieces (λ x. refl) h.apart.pages;
        frames = once_map open_frame (with_op f) pieces (λ x. refl) h.apart.frames;
        fresh = all_map F F (with_op f) pieces (λ x e. e) h.apart.fresh;
        homes = all_map H N (with_op f) pieces (λ x e. let O : List Owned → Type 0 = λ l. find owned_frame x.piece.home (base ++ l) ≡ None in subst O (owned-mapped f pieces) e) h.apart.homes;
      };
      scan = scan;
      is = is;
    }

-- What is known of frames as copies of a page is forgotten.

pub spoiled-kept : (page : ℕ) (pieces : List OpenPiece) → All (λ x. spoiled_fill page x.fill ≡ x.fill) pieces → map (spoiled_frame page) (map open_owned pieces) ≡ map open_owned pieces
spoiled-kept page [] h = refl
spoiled-kept page (p ∷ ps) h =
    let K : OpenPiece → Type 0 = λ x. spoiled_fill page x.fill ≡ x.fill in
    ap (λ (f : Fill). record { frame = p.piece.frame; fill = f } ∷ map (spoiled_frame page) (map open_owned ps)) (all_head K p ps h)
    ∙ ap (λ (l : List Owned). open_owned p ∷ l) (spoiled-kept page ps (all_tail K p ps h))

pub raw-kept : (page : ℕ) (fill : Fill) → fill ≡ Raw → spoiled_fill page fill ≡ fill
raw-kept page fill e = ap (spoiled_fill page) e ∙ sym e

other-kept : (page other count : ℕ) → other ≢ page → spoiled_fill page (Copied other count) ≡ Copied other count
other-kept page other count apart = let t : (other == page) ≡ false = grind (arith, apart) in rw t refl

pub copied-kept : (page other count : ℕ) (fill : Fill) → fill ≡ Copied other count → other ≢ page → spoiled_fill page fill ≡ fill
copied-kept page other count fill e apart = ap (spoiled_fill page) e ∙ (other-kept page other count apart ∙ sym e)

-- the frames of the pieces are kept
pub owned-spoiled : (page : ℕ) (base : List Owned) (pieces : List OpenPiece) → All (λ x. spoiled_fill page x.fill ≡ x.fill) pieces → spoiled page (owned_with base pieces) ≡ owned_with (spoiled page base) pieces
owned-spoiled page base pieces h = map-append (spoiled_frame page) base (map open_owned pieces) ∙ ap (λ (l : List Owned). spoiled page base ++ l) (spoiled-kept page pieces h)

absent-spoiled : (page k : ℕ) (base : List Owned) (pieces : List OpenPiece) → find owned_frame k (owned_with base pieces) ≡ None → find owned_frame k (owned_with (spoiled page base) pieces) ≡ None
absent-spoiled page k base pieces h =
    absent-both owned_frame k (spoiled page base) (map open_owned pieces)
    (absent_map owned_frame (spoiled_frame page) k base (λ w. refl) (absent-front owned_frame k base (map open_owned pieces) h))
    (absent-rest owned_frame k base (map open_owned pieces) h)

pub apart-spoiled : (page : ℕ) (base : List Owned) (pieces : List OpenPiece) → AreApart base pieces → AreApart (spoiled page base) pieces
apart-spoiled page base pieces h =
    let F : OpenPiece → Type 0 = λ x. find owned_frame x.piece.frame base ≡ None in
    let G : OpenPiece → Type 0 = λ x. find owned_frame x.piece.frame (spoiled page base) ≡ None in
    let H : OpenPiece → Type 0 = λ x. find owned_frame x.piece.home (owned_with base pieces) ≡ None in
    let N : OpenPiece → Type 0 = λ x. find owned_frame x.piece.home (owned_with (spoiled page base) pieces) ≡ None in
    record {
      pages = h.pages;
      frames = h.frames;
      fresh = all_same F G pieces (λ x e. absent_map owned_frame (spoiled_frame page) x.piece.frame base (λ w. refl) e) h.fresh;
      homes = all_same H N pieces (λ x e. absent-spoiled page x.piece.home base pieces e) h.homes;
    }

-- One piece more, at the end.

pub owned-joined : (base : List Owned) (pieces : List OpenPiece) (p : OpenPiece) → owned_with base (pieces ++ p ∷ []) ≡ owned_with base pieces ++ open_owned p ∷ []
owned-joined base pieces p = owned-split base pieces [] p

pub apart-joined : (base : List Owned) (pieces : List OpenPiece) (p : OpenPiece) → AreApart base pieces → find open_page p.piece.page pieces ≡ None → find owned_frame p.piece.frame (owned_with base pieces) ≡ None → find owned_frame p.piece.home (owned_with base pieces) ≡ None
    → p.piece.frame ≢ p.piece.home → All (λ x. p.piece.frame ≢ x.piece.home) pieces → AreApart base (pieces ++ p ∷ [])
apart-joined base pieces p h page frame home own others =
    let F : OpenPiece → Type 0 = λ x. find owned_frame x.piece.frame base ≡ None in
    let D : OpenPiece → Type 0 = λ x. p.piece.frame ≢ x.piece.home in
    let H : OpenPiece → Type 0 = λ x. find owned_frame x.piece.home (owned_with base pieces) ≡ None in
    let N : OpenPiece → Type 0 = λ x. find owned_frame x.piece.home (owned_with base (pieces ++ p ∷ [])) ≡ None in
    let show = λ (x : OpenPiece) (e : H x) (d : D x).
    (let O : List Owned → Type 0 = λ l. find owned_frame x.piece.home l ≡ None in
    subst O (sym (owned-joined base pieces p)) (absent-both owned_frame x.piece.home (owned_with base pieces) (open_owned p ∷ []) e (absent-more owned_frame x.piece.home (open_owned p) [] d refl))) in
    record {
      pages = once_join open_page p pieces h.pages page;
      frames = once_join open_frame p pieces h.frames (absent-origin open_frame owned_frame open_owned p.piece.frame pieces (λ i d lt. refl) (absent-rest owned_frame p.piece.frame base (map open_owned pieces) frame));
      fresh = all_join F pieces p h.fresh (absent-front owned_frame p.piece.frame base (map open_owned pieces) frame);
      homes = all_join N pieces p (all-with H D N pieces show h.homes others) (show p home own);
    }

-- The first piece is taken away.

pub apart-rest : (base : List Owned) (p : OpenPiece) (rest : List OpenPiece) → AreApart base (p ∷ rest) → AreApart base rest
apart-rest base p rest h =
    let F : OpenPiece → Type 0 = λ x. find owned_frame x.piece.frame base ≡ None in
    let H : OpenPiece → Type 0 = λ x. find owned_frame x.piece.home (owned_with base (p ∷ rest)) ≡ None in
    let N : OpenPiece → Type 0 = λ x. find owned_frame x.piece.home (owned_with base rest) ≡ None in
    record {
      pages = h.pages.1;
      frames = h.frames.1;
      fresh = all_tail F p rest h.fresh;
      homes = all_same H N rest (λ x e. absent-both owned_frame x.piece.home base (map open_owned rest) (absent-front owned_frame x.piece.home base (open_owned p ∷ map open_owned rest) e)
          (absent-tail owned_frame x.piece.home (open_owned p) (map open_owned rest) (absent-rest owned_frame x.piece.home base (open_owned p ∷ map open_owned rest) e))) (all_tail H p rest h.homes);
    }

pub owned-rest : (base : List Owned) (p : OpenPiece) (rest : List OpenPiece) → AreApart base (p ∷ rest) → erase owned_frame p.piece.frame (owned_with base (p ∷ rest)) ≡ owned_with base rest
owned-rest base p rest h =
    let F : OpenPiece → Type 0 = λ x. find owned_frame x.piece.frame base ≡ None in
    erase-middle owned_frame p.piece.frame (open_owned p) base (map open_owned rest) (all_head F p rest h.fresh) refl
