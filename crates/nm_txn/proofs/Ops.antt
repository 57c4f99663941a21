-- The operation of a transaction, from the first flush on.
use Rattle.std.proofs.Common.{◌≡◌, ◌≢◌, ℕ, ◌+◌, ◌==◌, if◌then◌else◌, Bool, true, false, List, [], ◌∷◌, ◌++◌, map, All, Option, Some, None, IsSomeAnd, IsTrue, refl, sym, ap, ◌∙◌, subst, arith}
use Rattle.nm_base.specs.Geometry.{Geometry}
use Rattle.nm_view.specs.Lists.{find, edit, erase, put, first, itself}
use Rattle.nm_view.specs.Views.{Op, View}
use Rattle.nm_view.specs.Operations.{page_of, op_on, IsFlushEnded, IsLookedMapped}
use Rattle.nm_view.proofs.Items.{more, none_left}
use Rattle.nm_permit.specs.Permitted.{AreDueDry, IsFreeOfShadow, IsCopyingPhase, IsTakingPhase, MayUnmap}
use Rattle.nm_shoot.specs.Flushed.{IsFlushOf}
use Rattle.nm_copying.specs.Copying.{copied_to, MayCopyPage}
use Rattle.nm_prepare.specs.Ready.{IsReadyOp}
use Rattle.nm_prepare.proofs.Lists.{find-last, edit-last, erase-last, erase-put}
use Rattle.nm_commit.specs.Unmapping.{unmapped_at}
use Rattle.nm_commit.specs.Deciding.{IsSwapped}
use Rattle.nm_view.specs.declared.view.Phase.{Phase}
use Rattle.nm_view.specs.declared.view.Phase.TheVariants.{Cleared}
use Rattle.nm_txn.specs.Stages.{IsClearedOp, IsUncopiedOp, IsTakenOp}

-- A list of one operation.

pub find-only : (page : ℕ) (op : Op) → op.page ≡ page → find page_of page (op ∷ []) ≡ Some op
find-only page op is = find-last page_of page op [] refl is

pub edit-only : (page : ℕ) (f : Op → Op) (op : Op) → op.page ≡ page → edit page_of page f (op ∷ []) ≡ f op ∷ []
edit-only page f op is = edit-last page_of page f op [] refl is

pub erase-only : (page : ℕ) (op : Op) → op.page ≡ page → erase page_of page (op ∷ []) ≡ []
erase-only page op is = erase-last page_of page op [] refl is

-- it is dry: a flush may be made
pub dry-only : (op : Op) → op.wet ≡ [] → AreDueDry (op ∷ [])
dry-only op dry = let P : Op → Type 0 = λ o. IsTrue o.due → o.wet ≡ [] in more P op [] (λ due. dry) (none_left P)

-- A flush.

-- the first flush
pub flushed-ready : (g : Geometry) (page v home number : ℕ) (o new : Op) → IsFlushOf g number o new → IsReadyOp g page v home o → IsUncopiedOp g page v home new
flushed-ready g page v home number o new f h =
    let S : Op → Type 0 = λ x. IsFreeOfShadow g x in
    let L : Op → Type 0 = λ x. IsSomeAnd (find first v x.looked) (λ p. p.1 ≢ 0) in
    record {
      op = record {
        page_is = ap (λ (x : Op). x.page) f.same ∙ h.page_is;
        home_is = ap (λ (x : Op). x.home) f.same ∙ h.home_is;
        shadow = subst S (sym f.same) h.shadow;
        looked = subst L (sym f.same) h.looked;
        taken = ap (λ (x : Op). x.taken) f.same ∙ h.taken;
        phase = ap (λ (x : Op). x.phase) f.same ∙ h.phase;
        cleared = ap (λ (x : Op). x.cleared) f.same ∙ h.cleared;
        moved = ap (λ (x : Op). x.moved) f.same ∙ h.moved;
        dry = ap (λ (x : Op). x.wet) f.same ∙ h.dry;
        flushed = f.due h.due;
      };
      copied = ap (λ (x : Op). x.copied) f.same ∙ h.copied;
      last = ap (λ (x : Op). x.last) f.same ∙ h.last;
    }

-- the second
pub flushed-taken : (g : Geometry) (page v word home number : ℕ) (o new : Op) → IsFlushOf g number o new → IsTakenOp g page v word home o → IsSwapped g page v word home new
flushed-taken g page v word home number o new f h =
    let S : Op → Type 0 = λ x. IsFreeOfShadow g x in
    record {
      page_is = ap (λ (x : Op). x.page) f.same ∙ h.page_is;
      home_is = ap (λ (x : Op). x.home) f.same ∙ h.home_is;
      shadow = subst S (sym f.same) h.shadow;
      taken = ap (λ (x : Op). x.taken) f.same ∙ h.taken;
      phase = ap (λ (x : Op). x.phase) f.same ∙ h.phase;
      cleared = ap (λ (x : Op). x.cleared) f.same ∙ h.cleared;
      moved = ap (λ (x : Op). x.moved) f.same ∙ h.moved;
      flushed = f.due h.due;
    }

-- The copy.

cleared-copies : (g : Geometry) (o : Op) (phase : Phase) → phase ≡ Cleared → IsCopyingPhase g o phase
cleared-copies g o phase e = let P : Phase → Type 0 = λ p. IsCopyingPhase g o p in subst P (sym e) tt

home-some : (home : ℕ) (word : Option ℕ) → word ≡ Some (home + 1) → IsSomeAnd word (λ h. h ≢ 0)
home-some home word e = let O : Option ℕ → Type 0 = λ o. IsSomeAnd o (λ h. h ≢ 0) in let some : home + 1 ≢ 0 = omega arith in subst O (sym e) some

-- it may be copied
pub uncopied-may : (g : Geometry) (page v home : ℕ) (o : Op) → IsUncopiedOp g page v home o → MayCopyPage g o
uncopied-may g page v home o h = record {
  home = home-some home o.home h.op.home_is;
  none = h.copied;
  last = h.last;
  flushed = h.op.flushed;
  phase = cleared-copies g o o.phase h.op.phase;
}

-- after the copy
pub copied-cleared : (g : Geometry) (page v home count : ℕ) (o : Op) → IsClearedOp g page v home o → IsClearedOp g page v home (copied_to count None o)
copied-cleared g page v home count o h = record {
  page_is = h.page_is;
  home_is = h.home_is;
  shadow = h.shadow;
  looked = h.looked;
  taken = h.taken;
  phase = h.phase;
  cleared = h.cleared;
  moved = h.moved;
  dry = h.dry;
  flushed = record { made = h.flushed.made; seen = h.flushed.seen };
}

-- The unmapping.

cleared-takes : (g : Geometry) (o : Op) (phase : Phase) → phase ≡ Cleared → IsFlushEnded g o → IsTakingPhase g o phase
cleared-takes g o phase e h = let P : Phase → Type 0 = λ p. IsTakingPhase g o p in subst P (sym e) h

not-taken : (v : ℕ) (taken : List (ℕ × ℕ)) → taken ≡ [] → find first v taken ≡ None
not-taken v taken e = ap (find first v) e

-- it may be unmapped
pub cleared-may : (g : Geometry) (page v home : ℕ) (o : Op) → IsClearedOp g page v home o → MayUnmap g v o
cleared-may g page v home o h = record {
  mapped = record { looked = h.looked; there = not-taken v o.taken h.taken };
  unmoved = h.moved;
  phase = cleared-takes g o o.phase h.phase h.flushed;
}

dried : (v : ℕ) (wet : List ℕ) → wet ≡ [] → erase itself v (put itself v wet) ≡ []
dried v wet e = ap (λ (l : List ℕ). erase itself v (put itself v l)) e ∙ erase-put itself v [] refl

-- after the unmapping
pub unmapped-taken : (g : Geometry) (page v home word number : ℕ) (o : Op) → IsClearedOp g page v home o → IsTakenOp g page v word home (unmapped_at v word number o)
unmapped-taken g page v home word number o h = record {
  page_is = h.page_is;
  home_is = h.home_is;
  shadow = h.shadow;
  taken = ap (λ (l : List (ℕ × ℕ)). l ++ (v, word) ∷ []) h.taken;
  phase = refl;
  cleared = h.cleared;
  moved = h.moved;
  due = refl;
  dry = dried v o.wet h.dry;
}
