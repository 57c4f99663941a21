use Rattle.nm_shape.proofs.Laws.{kept_geometry, fits_in_range}
use Rattle.nm_shape.proofs.Shaped.{shape_after}
use Rattle.nm_shape.proofs.advancing.advance.Goals as goal

pub advance_keyed-requires-clause-keyed : goal.advance_keyed-requires-clause-keyed
advance_keyed-requires-clause-keyed c = c.requires.shape.keyed

pub advance_keyed-requires-clause-range : goal.advance_keyed-requires-clause-range
advance_keyed-requires-clause-range c = fits_in_range c.args.g.now c.args.view.now c.args.action c.args.reply (kept_geometry c.g.inside c.args.g.now c.g.view_is c.g.invariant) c.requires.shape.keyed c.requires.allowed c.requires.fits

pub returns-clause-shape : goal.returns-clause-shape
returns-clause-shape c = rw c.advance_keyed.ensures.view (shape_after c.args.g.now c.args.view.now c.args.action c.args.reply (kept_geometry c.g.inside c.args.g.now c.g.view_is c.g.invariant) c.requires.shape c.requires.allowed c.requires.fits)
