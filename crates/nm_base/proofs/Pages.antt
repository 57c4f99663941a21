-- Backing pages, counted over the virtual pages.
use Rattle.std.proofs.Common.{◌≡◌, ℕ, zero, suc, ◌+◌, ◌<◌, ◌≤◌, max, List, [], ◌∷◌, length, take, get_or, Option, Some, None, ap, arith}
use Rattle.std.specs.Prelude.{option_map}
use Rattle.std.proofs.lemmas.Nat.{pow_pos}
use Rattle.std.proofs.Math.Pow.{pow_mono}
use Rattle.nm_base.specs.declared.geometry.VPage.{VPage}
use Rattle.nm_base.specs.Geometry.{Geometry, IsPageSize, pages_of, page_end, page_count, backing_among, backing_page}

-- one more virtual page
pub pages_of_more : (vs : List (Option VPage)) (i : ℕ) (d : Option VPage) → i < length vs → pages_of (take (i + 1) vs) ≡ max (pages_of (take i vs)) (page_end (get_or vs i d))
pages_of_more [] i d h = absurd (omega arith)
pages_of_more (v ∷ vs) zero d h = omega arith
pages_of_more (v ∷ vs) (suc i) d h = let e = pages_of_more vs i d (omega arith) in grind (arith, e)

page_end-le : (vs : List (Option VPage)) (v : ℕ) → page_end (get_or vs v None) ≤ pages_of vs
page_end-le [] v = omega arith
page_end-le (x ∷ vs) zero = omega arith
page_end-le (x ∷ vs) (suc v) = omega (arith, page_end-le vs v)

some_end : (o : Option VPage) (b : ℕ) → option_map (λ p. p.page) o ≡ Some b → b < page_end o
some_end None b e = absurd (cc)
some_end (Some p) b e = let same : p.page ≡ b = cc in omega arith

pub backing_among-lt : (vs : List (Option VPage)) (v b : ℕ) → backing_among vs v ≡ Some b → b < pages_of vs
backing_among-lt vs v b e = omega (arith, some_end (get_or vs v None) b e, page_end-le vs v)

-- the backing page of a mapped virtual page
pub mapped_below_pages : (vs : List (Option VPage)) (v : ℕ) (p : VPage) → get_or vs v None ≡ Some p → p.page < pages_of vs
mapped_below_pages vs v p e = backing_among-lt vs v p.page (ap (option_map (λ (p : VPage). p.page)) e)

-- each mapped virtual page has a backing page
pub backing_page-lt : (g : Geometry) (v b : ℕ) → backing_page g v ≡ Some b → b < page_count g
backing_page-lt g v b e = backing_among-lt g.vpages v b e

-- words of a page: at least one, and at most 512
pub page_size : (words : ℕ) → IsPageSize words → (1 ≤ words) × (words ≤ 512)
page_size words h = rw h.2 (pow_pos h.0, pow_mono h.1)
