-- The geometry of an import is one that a machine can have.
use Rattle.std.proofs.Common.{◌≡◌, ℕ, zero, suc, ◌+◌, ◌≤◌, [], ◌∷◌, map, refl, arith, lit≤, ◌∙◌}
use Rattle.std.specs.List.{range_with_len}
use Rattle.std.proofs.lemmas.List.FromFn.{length-map-range_with_len}
use Rattle.std.proofs.lemmas.List.Elements.{All-from_recursion}
use Rattle.nm_base.specs.declared.geometry.Field.{Field}
use Rattle.nm_base.specs.declared.geometry.Field.TheVariants.{Words, Tiers, Cpus, VPages}
use Rattle.nm_base.specs.Geometry.{Geometry, IsGeometry, HasRanges, IsFirstOutside, IsCrowded, AreTiers, AreVPages, made, pages_of}
use Rattle.nm_trace.specs.Imports.{own_page}

-- the geometry for this many processors and pages
abbrev pub geometry_for : ℕ → ℕ → ℕ → ℕ → Geometry
geometry_for fast slow cpus pages = made 512 (fast ∷ slow ∷ []) cpus (map own_page (range_with_len 0 pages))

pages-from : (a n : ℕ) → 1 ≤ n → pages_of (map own_page (range_with_len a n)) ≡ a + n
pages-from a zero h = absurd (omega (arith, h))
pages-from a (suc zero) h = omega arith
pages-from a (suc (suc n)) h = omega (arith, pages-from (a + 1) (suc n) (omega arith))

-- the sizes that are asked for
pub record AreSizes (fast slow cpus pages : ℕ) : Type 0 where
  pub some_fast : 1 ≤ fast
  pub some_slow : 1 ≤ slow
  pub sum : fast + slow ≤ 4096
  pub some_cpus : (1 ≤ cpus) × (cpus ≤ 16)
  pub some_pages : 1 ≤ pages
  pub room : pages + cpus + 9 ≤ fast + slow

module _ (fast slow cpus pages : ℕ) (h : AreSizes fast slow cpus pages) where
  tiers-fit : AreTiers (fast ∷ slow ∷ [])
  tiers-fit = (lit≤ tt, lit≤ tt, All-from_recursion (λ n. (1 ≤ n) × (n ≤ 4095)) (fast ∷ slow ∷ []) ((h.some_fast, omega (arith, h.some_slow, h.sum)), ((h.some_slow, omega (arith, h.some_fast, h.sum)), tt)), omega (arith, h.sum))

  count : pages_of (map own_page (range_with_len 0 pages)) ≡ pages
  count = let same : 0 + pages ≡ pages = omega arith in pages-from 0 pages h.some_pages ∙ same

  vpages-fit : AreVPages (map own_page (range_with_len 0 pages))
  vpages-fit =
      let long = length-map-range_with_len own_page 0 pages in
      (omega (arith, long, h.room, h.sum), omega (arith, count, h.some_pages), omega (arith, count, h.room, h.sum))

  ranges-fit : HasRanges (geometry_for fast slow cpus pages)
  ranges-fit = ((9, lit≤ tt, refl), tiers-fit, h.some_cpus, vpages-fit)

  pub geometry-is : IsGeometry (geometry_for fast slow cpus pages)
  geometry-is = record { ranges = ranges-fit; room = omega (arith, count, h.room) }

  pub not-outside : (f : Field) → IsFirstOutside (geometry_for fast slow cpus pages) f → ⊥
  not-outside Words o = o ranges-fit.0
  not-outside Tiers o = o.1 ranges-fit.1
  not-outside Cpus o = o.2 ranges-fit.2
  not-outside VPages o = o.3 ranges-fit.3

  pub not-crowded : (n : ℕ) → IsCrowded (geometry_for fast slow cpus pages) n → ⊥
  not-crowded n o = omega (arith, o.few, o.count, geometry-is.room)
