use Rattle.std.proofs.Common.{sym, subst}
use Rattle.nm_base.specs.Geometry.{IsGeometry, made}
use Rattle.nm_script.specs.Told.{Told}
use Rattle.nm_script.proofs.Finished.{told-geometry}
use Rattle.nm_script.proofs.draft.Draft.finish.Goals as goal

pub make_geometry-requires : goal.make_geometry-requires
make_geometry-requires c =
    rw (c.deref.ensures.value, c.deref-2.ensures.value) (subst (λ (t : Told). IsGeometry (made t.words t.tiers t.cpus t.vpages)) (sym c.self.view_is) (told-geometry c.args.self c.requires.told c.requires.whole))
