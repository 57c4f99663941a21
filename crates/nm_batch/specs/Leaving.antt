-- When a batch may begin, and what it leaves.
use Rattle.std.specs.Prelude.{◌≡◌, ℕ, zero, suc, ◌+◌, ◌*◌, ◌≤◌, List, [], ◌∷◌, length, All, None, IsSome}
use Rattle.nm_base.specs.Geometry.{Geometry, IsGeometry}
use Rattle.nm_base.specs.Ranges.{IsPage}
use Rattle.nm_view.specs.declared.view.Owned.{Owned}
use Rattle.nm_view.specs.declared.view.Scanned.{Scanned}
use Rattle.nm_view.specs.Lists.{find, Once}
use Rattle.nm_view.specs.Views.{View}
use Rattle.nm_event.specs.After.{spoiled}
use Rattle.nm_prepare.specs.Ready.{spent_by}
use Rattle.nm_txn.specs.declared.end.TxnEnd.{TxnEnd}
use Rattle.nm_txn.specs.Batches.{BatchMade}
use Rattle.nm_txn.specs.declared.end.TxnEnd.TheVariants.{Committed, Aborted, NoFrame, Gone, Worn, Busy}

-- a batch has at most so many pieces
abbrev pub most_pieces : ℕ
most_pieces = 8

-- the page of a piece
abbrev pub asked_page : ℕ × ℕ → ℕ
asked_page p = p.0

-- it may begin: there are no more pieces than that, their pages are there and no page stands twice; the view has no open
-- operation and holds no turn; and what was drawn is told
pub record MayBatch (mine : Geometry) (made : BatchMade) (g : Geometry) (view : View) : Type 0 where
  pub same : mine ≡ g
  pub geometry : IsGeometry g
  pub few : length made.pieces ≤ most_pieces
  pub pages : All (λ p. IsPage g (asked_page p)) made.pieces
  pub once : Once asked_page made.pieces
  pub alone : view.ops ≡ []
  pub turn : view.turn ≡ None
  pub spent : made.spent ≡ spent_by view

-- what is known of the words of owned frames as copies of these pages is forgotten
abbrev pub spoiled_each : List ℕ → List Owned → List Owned
spoiled_each [] owned = owned
spoiled_each (page ∷ pages) owned = spoiled page (spoiled_each pages owned)

-- the bumps of a batch of which so many pieces were decided: those of two flushes, or none
abbrev pub flush_bumps : ℕ → ℕ
flush_bumps zero = 0
flush_bumps (suc n) = 2

-- how many of these ends are those of pieces that were decided: they committed or aborted
abbrev pub count_decided : List TxnEnd → ℕ
count_decided [] = 0
count_decided (Committed ∷ ends) = suc (count_decided ends)
count_decided (Aborted word ∷ ends) = suc (count_decided ends)
count_decided (NoFrame free ∷ ends) = count_decided ends
count_decided (Gone ∷ ends) = count_decided ends
count_decided (Worn ∷ ends) = count_decided ends
count_decided (Busy ∷ ends) = count_decided ends

-- it leaves each piece with an end, and no operation and no frame of its own; the pieces that committed or aborted were
-- decided, each with two raises
pub record IsBatchLeft (made : BatchMade) (view : View) (ends : List TxnEnd) (left : View) : Type 0 where
  pub count : length ends ≡ length made.pieces
  pub pages : List ℕ
  pub of : All (λ b. IsSome (find asked_page b made.pieces)) pages
  pub scan : Scanned
  pub is : left ≡ record view { owned = spoiled_each pages view.owned; scan = scan; bumps = view.bumps + flush_bumps (count_decided ends); raises = view.raises + 2 * count_decided ends }
