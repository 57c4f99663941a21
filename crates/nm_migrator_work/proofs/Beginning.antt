-- When the works may begin: in a view without operations, frames and turns.
use Rattle.std.proofs.Common.{◌≡◌, ◌≢◌, ℕ, ◌<◌, ◌≤◌, ◌⊎◌, inl, inr, List, [], ◌∷◌, length, All, Some, None, refl, sym, subst, arith}
use Rattle.nm_base.specs.Geometry.{Geometry, IsGeometry, backing_page}
use Rattle.nm_base.specs.Ranges.{IsPage}
use Rattle.nm_base.proofs.Pages.{backing_page-lt}
use Rattle.nm_action.specs.declared.spent.Spent.{Spent}
use Rattle.nm_view.specs.Lists.{find, Once}
use Rattle.nm_view.specs.Views.{Op, View, most_ops}
use Rattle.nm_view.specs.Operations.{page_of}
use Rattle.nm_view.proofs.Items.{all_head}
use Rattle.nm_permit.specs.Permitted.{MayLock}
use Rattle.nm_vpages.specs.VPages.{vpages_of}
use Rattle.nm_prepare.specs.Ready.{spent_by}
use Rattle.nm_prepare.proofs.Found.{vpages-all}
use Rattle.nm_batch.specs.Leaving.{most_pieces, asked_page}
use Rattle.nm_worker.specs.Routines.{IsDrawn, IsLeftEmpty}
use Rattle.nm_migrator_work.specs.Works.{MayMigratorWork, made_mark, made_looks, made_cool, made_batch, made_move, made_ask}

-- the mark of a candidate may be taken away, or made that of a page to be moved
pub may-mark : (g : Geometry) (page to : ℕ) (view : View) → IsPage g page → (to ≡ 0) ⊎ (to ≡ 2) → MayMigratorWork (made_mark page 1 to) g view
may-mark g page to view there (inl none) = record { quiet = tt; allowed = record { range = there; permitted = inl (inr (inl (record { old_is = refl; new_is = none }))) } }
may-mark g page to view there (inr pending) = record { quiet = tt; allowed = record { range = there; permitted = inl (inr (inr (record { old_is = refl; new_is = pending }))) } }

pub may-looks : (g : Geometry) (page : ℕ) (view : View) → MayMigratorWork (made_looks g page) g view
may-looks g page view = record { same = refl; of = vpages-all g page }

may-lock : (page : ℕ) (view : View) → view.ops ≡ [] → MayLock view page
may-lock page view none =
    let F : List Op → Type 0 = λ ops. find page_of page ops ≡ None in
    let N : List Op → Type 0 = λ ops. length ops < most_ops in
    record { fresh = subst F (sym none) refl; few = subst N (sym none) (omega arith) }

pub may-cool : (g : Geometry) (page : ℕ) (view : View) → IsPage g page → vpages_of g page ≢ [] → IsLeftEmpty view → MayMigratorWork (made_cool g page) g view
may-cool g page view there some rests = record { same = refl; page = there; some = some; lock = may-lock page view rests.ops }

spent-is : (spent : Spent) (view : View) → IsDrawn spent view → spent ≡ spent_by view
spent-is spent view h = rw (sym h.bumps, sym h.raises) refl

pub may-batch : (g : Geometry) (pieces : List (ℕ × ℕ)) (spent : Spent) (view : View)
    → IsGeometry g → IsLeftEmpty view → IsDrawn spent view → length pieces ≤ most_pieces → All (λ p. IsPage g (asked_page p)) pieces → Once asked_page pieces
    → MayMigratorWork (made_batch g pieces spent) g view
may-batch g pieces spent view is rests drawn few pages once = record {
  piece = record { same = refl; geometry = is; few = few; pages = pages; once = once; alone = rests.ops; turn = rests.turn; spent = spent-is spent view drawn };
  drawn = drawn;
}

pub may-move : (g : Geometry) (page count : ℕ) (spent : Spent) (view : View)
    → IsGeometry g → IsLeftEmpty view → IsDrawn spent view → IsPage g page → 1 ≤ count → MayMigratorWork (made_move g page count spent) g view
may-move g page count spent view is rests drawn there some = record {
  piece = record { same = refl; geometry = is; page = there; none = rests.ops; turn = rests.turn; spent = spent-is spent view drawn; count = some };
  drawn = drawn;
}

pub may-ask : (g : Geometry) (view : View) → IsGeometry g → IsLeftEmpty view → MayMigratorWork (made_ask g) g view
may-ask g view is rests = record { all = refl; some = omega (arith, is.ranges.2.0); ops = rests.ops }

mapped-head : (g : Geometry) (page : ℕ) (pages : List ℕ) → All (λ v. backing_page g v ≡ Some page) pages → pages ≢ [] → IsPage g page
mapped-head g page [] all some = absurd (some refl)
mapped-head g page (v ∷ vs) all some = backing_page-lt g v page (all_head (λ v. backing_page g v ≡ Some page) v vs all)

-- a page that has a virtual page is there
pub mapped-is-page : (g : Geometry) (page : ℕ) → vpages_of g page ≢ [] → IsPage g page
mapped-is-page g page some = mapped-head g page (vpages_of g page) (vpages-all g page) some
