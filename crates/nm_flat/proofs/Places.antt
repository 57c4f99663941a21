-- The places of words in the flat list.
use Rattle.std.proofs.Common.{◌≡◌, ℕ, ◌*◌, ◌/◌, ◌<◌, Option, Some, None, refl, ap, sym, ◌∙◌, arith}
use Rattle.std.specs.Prelude.{IsSome, unwrap_or}
use Rattle.std.proofs.lemmas.Nat.{mul-add-lt, div-mul-add}
use Rattle.nm_base.specs.Geometry.{Geometry, page_count, backing_page}
use Rattle.nm_base.proofs.Pages.{backing_page-lt}
use Rattle.nm_flat.specs.Memory.{place, mapped_page, flat_size}

-- each word of each page has its place in the list
pub place-lt : (g : Geometry) (b i : ℕ) → b < page_count g → i < g.words → place g b i < flat_size g
place-lt g b i page word = omega (arith, mul-add-lt b g.words i (page_count g) page word)

-- no two words have one place
pub place-same : (g : Geometry) (b i c j : ℕ) → i < g.words → j < g.words → place g b i ≡ place g c j → (b ≡ c) × (i ≡ j)
place-same g b i c j first second same =
    let page : b ≡ c = sym (div-mul-add b g.words i first) ∙ ap (λ n. n / g.words) same ∙ div-mul-add c g.words j second in
    let before : b * g.words ≡ c * g.words = ap (λ n. n * g.words) page in
    (page, omega arith)

some_backing : (o : Option ℕ) → IsSome o → o ≡ Some (unwrap_or o 0)
some_backing None some = absurd (cc)
some_backing (Some b) some = refl

-- a mapped virtual page has a backing page
pub page_of-some : (g : Geometry) (v : ℕ) → IsSome (backing_page g v) → backing_page g v ≡ Some (mapped_page g v)
page_of-some g v mapped = some_backing (backing_page g v) mapped

-- the backing page of a virtual page that is mapped to b
pub page_of-at : (g : Geometry) (v b : ℕ) → backing_page g v ≡ Some b → mapped_page g v ≡ b
page_of-at g v b is = ap (λ o. unwrap_or o 0) is

-- the backing page of a mapped virtual page is one of the pages
pub page_of-lt : (g : Geometry) (v : ℕ) → IsSome (backing_page g v) → mapped_page g v < page_count g
page_of-lt g v mapped = backing_page-lt g v (mapped_page g v) (page_of-some g v mapped)

-- the place of a mapped virtual page's word is in the list
pub place-page_of-lt : (g : Geometry) (v i : ℕ) → IsSome (backing_page g v) → i < g.words → place g (mapped_page g v) i < flat_size g
place-page_of-lt g v i mapped word = place-lt g (mapped_page g v) i (page_of-lt g v mapped) word
