-- The pages that are left to visit.
use Rattle.std.proofs.Common.{◌≡◌, ℕ, suc, ◌+◌, ◌-◌, ◌<◌, ◌≤◌, ◌==◌, ◌&&◌, not, nat_lt, if◌then◌else◌, Bool, true, false, List, [], ◌∷◌, Option, Some, None, All, ◌⊎◌, inl, inr, refl, sym, ◌∙◌, subst, arith}
use Rattle.std.proofs.lemmas.Bool.{ltb-true, ltb-false}
use Rattle.std.specs.List.{filter, range_with_len}
use Rattle.nm_base.specs.Geometry.{Geometry, page_count}
use Rattle.nm_view.specs.Lists.{find}
use Rattle.nm_view.specs.Views.{Op}
use Rattle.nm_view.proofs.Items.{all_head, all_tail, some_same}
use Rattle.nm_view.specs.Operations.{page_of}
use Rattle.nm_reclaim.specs.declared.sweep.ReclaimMade.{ReclaimMade}
use Rattle.nm_reclaim.specs.Reclaims.{is_skipped, pages_from, most_freed}
use Rattle.nm_reclaim.specs.Sweeping.{after_skip, next_visited}

-- no operation is on a page that is not skipped
pub alone-fresh : (skip : Option ℕ) (page : ℕ) (ops : List Op) → All (λ o. skip ≡ Some o.page) ops → is_skipped skip page ≡ false → find page_of page ops ≡ None
alone-fresh skip page [] named other = refl
alone-fresh skip page (o ∷ ops) named other =
    let S : Option ℕ → Type 0 = λ s. is_skipped s page ≡ false in
    let apart : (o.page == page) ≡ false = subst S (all_head (λ (x : Op). skip ≡ Some x.page) o ops named) other in
    rw apart (alone-fresh skip page ops (all_tail (λ (x : Op). skip ≡ Some x.page) o ops named) other)

pages-cons : (g : Geometry) (skip : Option ℕ) (page : ℕ) → page < page_count g
    → pages_from g skip page ≡ filter (λ b. not (is_skipped skip b)) (page ∷ range_with_len (page + 1) (page_count g - (page + 1)))
pages-cons g skip page within = let e : page_count g - page ≡ suc (page_count g - (page + 1)) = omega arith in rw e refl

pub pages-next : (g : Geometry) (skip : Option ℕ) (page : ℕ) → page < page_count g → is_skipped skip page ≡ false → pages_from g skip page ≡ page ∷ pages_from g skip (page + 1)
pages-next g skip page within other = pages-cons g skip page within ∙ rw other refl

pages-skip : (g : Geometry) (skip : Option ℕ) (page : ℕ) → page < page_count g → is_skipped skip page ≡ true → pages_from g skip page ≡ pages_from g skip (page + 1)
pages-skip g skip page within is = pages-cons g skip page within ∙ rw is refl

pub pages-none : (g : Geometry) (skip : Option ℕ) (page : ℕ) → page_count g ≤ page → pages_from g skip page ≡ []
pages-none g skip page over = let e : page_count g - page ≡ 0 = omega arith in rw e refl

skip-test : (g : Geometry) (skip : Option ℕ) (page : ℕ) (within test : Bool) → nat_lt page (page_count g) ≡ within → is_skipped skip page ≡ test → pages_from g skip page ≡ pages_from g skip (if test then page + 1 else page)
skip-test g skip page within false w is = refl
skip-test g skip page true true w is = pages-skip g skip page (ltb-true page (page_count g) w) is
skip-test g skip page false true w is = let over = ltb-false page (page_count g) w in pages-none g skip page over ∙ sym (pages-none g skip (page + 1) (omega arith))

-- past the skipped page the same pages are left
pub pages-after : (g : Geometry) (skip : Option ℕ) (page : ℕ) → pages_from g skip page ≡ pages_from g skip (after_skip skip page)
pages-after g skip page = skip-test g skip page (nat_lt page (page_count g)) (is_skipped skip page) refl refl

after-test : (skip : ℕ) (page : ℕ) (test : Bool) → (skip == page) ≡ test → (skip == (if test then page + 1 else page)) ≡ false
after-test skip page true is = grind arith
after-test skip page false is = is

-- the page after the skipped one is not skipped
pub other-after : (skip : Option ℕ) (page : ℕ) → is_skipped skip (after_skip skip page) ≡ false
other-after None page = refl
other-after (Some skip) page = after-test skip page (skip == page) refl

up-test : (page : ℕ) (test : Bool) → page ≤ (if test then page + 1 else page)
up-test page true = omega arith
up-test page false = omega arith

after-up : (skip : Option ℕ) (page : ℕ) → page ≤ after_skip skip page
after-up skip page = up-test page (is_skipped skip page)

-- a page that is visited next
pub record IsNextPage (g : Geometry) (asked : ReclaimMade) (page freed next : ℕ) : Type 0 where
  pub few : nat_lt freed (most_freed asked) ≡ true
  pub within : next < page_count g
  pub other : is_skipped asked.skip next ≡ false
  pub up : page ≤ next
  pub left : pages_from g asked.skip page ≡ next ∷ pages_from g asked.skip (next + 1)

next-found : (g : Geometry) (asked : ReclaimMade) (page freed next : ℕ) (few within : Bool) → nat_lt freed (most_freed asked) ≡ few → nat_lt (after_skip asked.skip page) (page_count g) ≡ within
    → (if few && within then Some (after_skip asked.skip page) else None) ≡ Some next → IsNextPage g asked page freed next
next-found g asked page freed next true true f w is =
    let N : ℕ → Type 0 = λ n. IsNextPage g asked page freed n in
    let lt = ltb-true (after_skip asked.skip page) (page_count g) w in
    let other = other-after asked.skip page in
    subst N (some_same (after_skip asked.skip page) next is) (record {
      few = f;
      within = lt;
      other = other;
      up = after-up asked.skip page;
      left = pages-after g asked.skip page ∙ pages-next g asked.skip (after_skip asked.skip page) lt other;
    })
next-found g asked page freed next true false f w is = cc is
next-found g asked page freed next false true f w is = cc is
next-found g asked page freed next false false f w is = cc is

pub next-page : (g : Geometry) (asked : ReclaimMade) (page freed next : ℕ) → next_visited g asked page freed ≡ Some next → IsNextPage g asked page freed next
next-page g asked page freed next is = next-found g asked page freed next (nat_lt freed (most_freed asked)) (nat_lt (after_skip asked.skip page) (page_count g)) refl refl is

over-found : (g : Geometry) (asked : ReclaimMade) (page freed : ℕ) (few within : Bool) → nat_lt freed (most_freed asked) ≡ few → nat_lt (after_skip asked.skip page) (page_count g) ≡ within
    → (if few && within then Some (after_skip asked.skip page) else None) ≡ None → (nat_lt freed (most_freed asked) ≡ false) ⊎ (pages_from g asked.skip page ≡ [])
over-found g asked page freed true true f w is = cc is
over-found g asked page freed true false f w is = inr (pages-after g asked.skip page ∙ pages-none g asked.skip (after_skip asked.skip page) (ltb-false (after_skip asked.skip page) (page_count g) w))
over-found g asked page freed false within f w is = inl f

-- where none is visited next, enough are freed, or no page is left
pub page-over : (g : Geometry) (asked : ReclaimMade) (page freed : ℕ) → next_visited g asked page freed ≡ None → (nat_lt freed (most_freed asked) ≡ false) ⊎ (pages_from g asked.skip page ≡ [])
page-over g asked page freed is = over-found g asked page freed (nat_lt freed (most_freed asked)) (nat_lt (after_skip asked.skip page) (page_count g)) refl refl is
