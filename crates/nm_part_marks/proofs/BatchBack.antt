-- Each page of a batch whose piece is over was taken from pending to none.
use Rattle.std.proofs.Common.{◌≡◌, ℕ, List, [], ◌∷◌, ◌++◌, refl, sym, ap, subst, ◌∙◌, append_assoc}
use Rattle.std.proofs.lemmas.List.{append-nil}
use Rattle.nm_base.specs.Geometry.{Geometry}
use Rattle.nm_action.specs.Own.{Own}
use Rattle.nm_part.specs.Patterns.{Ends, Follows, Each}
use Rattle.nm_prepare.specs.declared.prepare.Prepared.{Prepared}
use Rattle.nm_prepare.specs.declared.prepare.Prepared.TheVariants as prepared
use Rattle.nm_prepare.specs.Preparing.{IsPrepare}
use Rattle.nm_commit.specs.declared.decide.DecideMade.{DecideMade}
use Rattle.nm_commit.specs.declared.decide.Decided.{Decided}
use Rattle.nm_commit.specs.Unmapping.{UnmapsOne}
use Rattle.nm_commit.specs.Deciding.{IsDeciding}
use Rattle.nm_txn.specs.declared.batch.ReadyPiece.{ReadyPiece}
use Rattle.nm_txn.specs.declared.end.TxnEnd.{TxnEnd}
use Rattle.nm_txn.specs.Batches.{BatchMade, drawn_with, ready_of, taken_of, ends_of, CopiesNext, UnmapsEach, FlushesAgain, DecidesEach, AfterPrepares, IsBatch}
use Rattle.nm_marks.specs.Contents.{HasEvent}
use Rattle.nm_marks.specs.Marks.{IsTakenBack}
use Rattle.nm_marks.proofs.Contents.{has-left, has-right}
use Rattle.nm_part_marks.specs.Ends.{IsClosed, IsCommitted, ArePiecesBack}
use Rattle.nm_part_marks.proofs.Back.{prepare-back, deciding-back, over-committed}

-- ---- lists of which each item gives one outcome

-- the items and their outcomes, one each, with what holds of them and a list
abbrev AreMade : {A X : Type 0} → (A → X → Own → Type 0) → List A → List X → Own → Type 0
AreMade P [] [] own = Unit {0}
AreMade P [] (x ∷ xs) own = ⊥
AreMade P (a ∷ items) [] own = ⊥
AreMade P (a ∷ items) (x ∷ xs) own = P a x own × AreMade P items xs own

-- what holds of a list holds of a longer one
record Grows {A X : Type 0} (P : A → X → Own → Type 0) : Type 0 where
  left : (a : A) (x : X) (xs ys : Own) → P a x xs → P a x (xs ++ ys)
  right : (a : A) (x : X) (xs ys : Own) → P a x ys → P a x (xs ++ ys)

made-right : {A X : Type 0} (P : A → X → Own → Type 0) → Grows P → (items : List A) (found : List X) (xs ys : Own) → AreMade P items found ys → AreMade P items found (xs ++ ys)
made-right P grows [] [] xs ys h = tt
made-right P grows [] (x ∷ found) xs ys h = absurd h
made-right P grows (a ∷ items) [] xs ys h = absurd h
made-right P grows (a ∷ items) (x ∷ found) xs ys h = (grows.right a x xs ys h.0, made-right P grows items found xs ys h.1)

made-left : {A X : Type 0} (P : A → X → Own → Type 0) → Grows P → (items : List A) (found : List X) (xs ys : Own) → AreMade P items found xs → AreMade P items found (xs ++ ys)
made-left P grows [] [] xs ys h = tt
made-left P grows [] (x ∷ found) xs ys h = absurd h
made-left P grows (a ∷ items) [] xs ys h = absurd h
made-left P grows (a ∷ items) (x ∷ found) xs ys h = (grows.left a x xs ys h.0, made-left P grows items found xs ys h.1)

-- a list of a loop splits into that of the items and that of what comes after them
record Collected {A X O : Type 0} (P : A → X → Own → Type 0) (after : List X → Own → O → Type 0) (items : List A) (kept : List X) (own : Own) (outcome : O) : Type 0 where
  found : List X
  front : Own
  back : Own
  is : own ≡ front ++ back
  made : AreMade P items found front
  rest : after (kept ++ found) back outcome

-- a body that runs one thing and keeps its outcome behind the others
abbrev Keeping : {A X O : Type 0} → (A → List X → Own → X → Type 0) → A → List X → (List X → Own → O → Type 0) → Own → O → Type 0
Keeping one item kept next = Follows (one item kept) (λ x. next (kept ++ x ∷ []))

collect : {A X O : Type 0} (one : A → List X → Own → X → Type 0) (P : A → X → Own → Type 0) (after : List X → Own → O → Type 0)
    → ((item : A) (kept : List X) (own : Own) (x : X) → one item kept own x → P item x own) → Grows P
    → (items : List A) (kept : List X) (own : Own) (outcome : O) → Each (Keeping one) items kept after own outcome → Collected P after items kept own outcome
collect {A} {X} {O} one P after shows grows [] kept own outcome h =
    let F : List X → Type 0 = λ l. after l own outcome in
    record { found = []; front = []; back = own; is = refl; made = tt; rest = subst F (sym (append-nil kept)) h }
collect {A} {X} {O} one P after shows grows (item ∷ items) kept own outcome h =
    let r = collect one P after shows grows items (kept ++ h.end ∷ []) h.back outcome h.rest in
    let F : List X → Type 0 = λ l. after l r.back outcome in
    record {
      found = h.end ∷ r.found;
      front = h.front ++ r.front;
      back = r.back;
      is = h.is ∙ ap (λ (l : Own). h.front ++ l) r.is ∙ sym (append_assoc h.front r.front r.back);
      made = (grows.left item h.end h.front r.front (shows item kept h.front h.end h.shown), made-right P grows items r.found h.front r.front r.made);
      rest = subst F (append_assoc kept (h.end ∷ []) r.found) r.rest;
    }

-- ---- the two things that are shown of pieces

abbrev ClosedBack : ℕ × ℕ → Prepared → Own → Type 0
ClosedBack piece end own = IsClosed end → HasEvent (IsTakenBack piece.0) own

abbrev CommittedBack : DecideMade → Decided → Own → Type 0
CommittedBack made end own = IsCommitted end → HasEvent (IsTakenBack made.page) own

abbrev NothingShown : ReadyPiece → ℕ → Own → Type 0
NothingShown piece word own = Unit {0}

closed-grows : Grows ClosedBack
closed-grows = record {
  left = λ piece end xs ys h closed. has-left (IsTakenBack piece.0) xs ys (h closed);
  right = λ piece end xs ys h closed. has-right (IsTakenBack piece.0) xs ys (h closed);
}

committed-grows : Grows CommittedBack
committed-grows = record {
  left = λ made end xs ys h committed. has-left (IsTakenBack made.page) xs ys (h committed);
  right = λ made end xs ys h committed. has-right (IsTakenBack made.page) xs ys (h committed);
}

nothing-grows : Grows NothingShown
nothing-grows = record { left = λ piece word xs ys h. tt; right = λ piece word xs ys h. tt }

-- ---- after the pieces were prepared

-- the ready pieces, each with its word and how it was decided
record AreDecided (ends : List Prepared) (ready : List ReadyPiece) (own : Own) (outcome : List TxnEnd) : Type 0 where
  words : List ℕ
  decided : List Decided
  unmapped : AreMade NothingShown ready words []
  made : AreMade CommittedBack (taken_of ready words) decided own
  is : outcome ≡ ends_of ends decided

grown : (ends : List Prepared) (ready : List ReadyPiece) (xs ys : Own) (outcome : List TxnEnd) → AreDecided ends ready ys outcome → AreDecided ends ready (xs ++ ys) outcome
grown ends ready xs ys outcome h = record {
  words = h.words;
  decided = h.decided;
  unmapped = h.unmapped;
  made = made-right CommittedBack committed-grows (taken_of ready h.words) h.decided xs ys h.made;
  is = h.is;
}

made-none : (ready : List ReadyPiece) (words : List ℕ) (own : Own) → AreMade NothingShown ready words own → AreMade NothingShown ready words []
made-none [] [] own h = tt
made-none [] (w ∷ words) own h = absurd h
made-none (p ∷ ready) [] own h = absurd h
made-none (p ∷ ready) (w ∷ words) own h = (tt, made-none ready words own h.1)

decides-each : (g : Geometry) (ends : List Prepared) (ready : List ReadyPiece) (words : List ℕ) (own : Own) (outcome : List TxnEnd) → AreMade NothingShown ready words [] → DecidesEach g ends (taken_of ready words) own outcome → AreDecided ends ready own outcome
decides-each g ends ready words own outcome all h =
    let D : Own → Type 0 = λ l. AreDecided ends ready l outcome in
    let c = collect (λ made kept own end. IsDeciding made g own end) CommittedBack (λ decided own outcome. Ends (ends_of ends decided) own outcome) (λ made kept own end shown committed. deciding-back made g own end shown committed) committed-grows (taken_of ready words) [] own outcome h in
    subst D (sym c.is) (record { words = words; decided = c.found; unmapped = all; made = made-left CommittedBack committed-grows (taken_of ready words) c.found c.front c.back c.made; is = c.rest.is })

unmaps-each : (g : Geometry) (ends : List Prepared) (ready : List ReadyPiece) (own : Own) (outcome : List TxnEnd) → UnmapsEach g ends ready own outcome → AreDecided ends ready own outcome
unmaps-each g ends ready own outcome h =
    let D : Own → Type 0 = λ l. AreDecided ends ready l outcome in
    let c = collect (λ (piece : ReadyPiece) (kept : List ℕ) own word. UnmapsOne (record { page = piece.page; vpage = piece.vpage }) g own word) NothingShown (λ words own outcome. FlushesAgain g ends (taken_of ready words) own outcome) (λ piece kept own word shown. tt) nothing-grows ready [] own outcome h in
    let f = c.rest in
    let E : Own → Type 0 = λ l. AreDecided ends ready (c.front ++ l) outcome in
    subst D (sym c.is) (subst E (sym f.is) (grown ends ready c.front (f.front ++ f.back) outcome (grown ends ready f.front f.back outcome (decides-each g ends ready c.found f.back outcome (made-none ready c.found c.front c.made) f.rest))))

copies-from : (g : Geometry) (ends : List Prepared) (ready items : List ReadyPiece) (own : Own) (outcome : List TxnEnd) → Each (CopiesNext g) items tt (λ kept. UnmapsEach g ends ready) own outcome → AreDecided ends ready own outcome
copies-from g ends ready [] own outcome h = unmaps-each g ends ready own outcome h
copies-from g ends ready (piece ∷ items) own outcome h =
    let D : Own → Type 0 = λ l. AreDecided ends ready l outcome in
    subst D (sym h.is) (grown ends ready h.front h.back outcome (copies-from g ends ready items h.back outcome h.rest))

after-prepares : (g : Geometry) (ends : List Prepared) (ready : List ReadyPiece) (own : Own) (outcome : List TxnEnd) → AfterPrepares g ends ready own outcome → AreDecided ends ready own outcome
after-prepares g ends [] own outcome h = record { words = []; decided = []; unmapped = tt; made = tt; is = h.is }
after-prepares g ends (piece ∷ pieces) own outcome h =
    let D : Own → Type 0 = λ l. AreDecided ends (piece ∷ pieces) l outcome in
    subst D (sym h.is) (grown ends (piece ∷ pieces) h.front h.back outcome (copies-from g ends (piece ∷ pieces) (piece ∷ pieces) h.back outcome h.rest))

-- ---- the whole

all-back : (pieces : List (ℕ × ℕ)) (ends : List Prepared) (words : List ℕ) (decided : List Decided) (own : Own) → AreMade ClosedBack pieces ends own → AreMade NothingShown (ready_of pieces ends) words [] → AreMade CommittedBack (taken_of (ready_of pieces ends) words) decided own → ArePiecesBack pieces (ends_of ends decided) own
all-back [] ends words decided own closed all made = tt
all-back (piece ∷ pieces) [] words decided own closed all made = absurd closed
all-back (piece ∷ pieces) (prepared.Busy ∷ ends) words decided own closed all made = ((λ over. absurd over), all-back pieces ends words decided own closed.1 all made)
all-back (piece ∷ pieces) (prepared.Closed why ∷ ends) words decided own closed all made = ((λ over. closed.0 tt), all-back pieces ends words decided own closed.1 all made)
all-back (piece ∷ pieces) (prepared.Ready home frame ∷ ends) [] decided own closed all made = absurd all
all-back (piece ∷ pieces) (prepared.Ready home frame ∷ ends) (w ∷ words) [] own closed all made = absurd made
all-back (piece ∷ pieces) (prepared.Ready home frame ∷ ends) (w ∷ words) (d ∷ decided) own closed all made = ((λ over. made.0 (over-committed d over)), all-back pieces ends words decided own closed.1 all.1 made.1)

pub batch-back : (made : BatchMade) (g : Geometry) (own : Own) (outcome : List TxnEnd) → IsBatch made g own outcome → ArePiecesBack made.pieces outcome own
batch-back made g own outcome h =
    let c = collect (λ (piece : ℕ × ℕ) (kept : List Prepared) own end. IsPrepare (record { page = piece.0; vpage = piece.1; spent = drawn_with made.spent kept }) g own end) ClosedBack (λ ends own outcome. AfterPrepares g ends (ready_of made.pieces ends) own outcome)
    (λ piece kept own end shown closed. prepare-back (record { page = piece.0; vpage = piece.1; spent = drawn_with made.spent kept }) g own end shown closed) closed-grows made.pieces [] own outcome h in
    let d = after-prepares g c.found (ready_of made.pieces c.found) c.back outcome c.rest in
    let B : List TxnEnd → Type 0 = λ l. ArePiecesBack made.pieces l own in
    let O : Own → Type 0 = λ l. ArePiecesBack made.pieces (ends_of c.found d.decided) l in
    subst B (sym d.is) (subst O (sym c.is) (all-back made.pieces c.found d.words d.decided (c.front ++ c.back)
    (made-left ClosedBack closed-grows made.pieces c.found c.front c.back c.made) d.unmapped (made-right CommittedBack committed-grows (taken_of (ready_of made.pieces c.found) d.words) d.decided c.front c.back d.made)))
