use Rattle.nm_shape.proofs.Laws.{kept_geometry, keyed_after, keyed_room}
use Rattle.nm_shape.proofs.advancing.advance_keyed.Goals as goal

pub after-requires-clause-room : goal.after-requires-clause-room
after-requires-clause-room c = keyed_room c.args.g.now c.args.view.now c.args.action c.args.reply (kept_geometry c.g.inside c.args.g.now c.g.view_is c.g.invariant) c.requires.keyed c.requires.allowed c.requires.range

pub returns-clause-keyed : goal.returns-clause-keyed
returns-clause-keyed c = rw c.after.ensures (keyed_after c.args.g.now c.args.view.now c.args.action c.args.reply (kept_geometry c.g.inside c.args.g.now c.g.view_is c.g.invariant) c.requires.keyed c.requires.allowed c.requires.range)
