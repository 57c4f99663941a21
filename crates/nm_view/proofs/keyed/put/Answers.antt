use Rattle.std.proofs.Common.{arith}
use Rattle.std.proofs.lemmas.Grind.{common_steps}
use Rattle.nm_view.proofs.Places.{put_found, put-new}
use Rattle.nm_view.proofs.keyed.put.Goals as goal

pub push_reserved-requires : goal.push_reserved-requires
push_reserved-requires g c = grind (arith, common_steps, put-new g.T.Keyed.key c.args.item c.args.items.now.items)

pub returns-in-Some-clause-items : goal.returns-in-Some-clause-items
returns-in-Some-clause-items g c = grind (arith, put_found g.T.Keyed.key c.args.item c.in-Some.i c.args.items.now.items)

pub returns-in-None-clause-items : goal.returns-in-None-clause-items
returns-in-None-clause-items g c = grind (arith, put-new g.T.Keyed.key c.args.item c.args.items.now.items)
