-- A geometry's fields, and what holds of them.
use Rattle.std.specs.Prelude.{◌≡◌}
use Rattle.nm_base.specs.Geometry.{Geometry, IsGeometry, page_count, frame_count}
use Rattle.nm_base.specs.Chains.{IsReverseMap}
use Rattle.nm_base.specs.declared.geometry.Geometry.TheInside.{Inside}

-- the geometry as contracts see it
abbrev pub plain_of : Inside → Geometry
plain_of g = record { words = g.words; tiers = g.tiers.items; cpus = g.cpus; vpages = g.vpages.items }

-- a machine can have it, and its two counts and the chains of its virtual pages are kept beside it
pub record IsGeometryKept (g : Inside) : Type 0 where
  pub geometry : IsGeometry (plain_of g)
  pub pages : g.pages ≡ page_count (plain_of g)
  pub frames : g.frames ≡ frame_count (plain_of g)
  pub reverse : IsReverseMap (plain_of g).vpages g.reverse
