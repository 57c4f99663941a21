-- The word of a CopyLoad lies in the frame that is known as home.
use Rattle.std.proofs.Common.{subst}
use Rattle.nm_action.specs.declared.action.Action.{Action}
use Rattle.nm_words.specs.Names.{IsPlace}
use Rattle.nm_step.specs.Table.{where_of}
use Rattle.nm_step.proofs.table.exchange_of.Goals as goal

pub home_frame-requires : goal.home_frame-requires
home_frame-requires c =
    let HasPlace : Action → Type 0 = λ a. IsPlace c.args.g.now (where_of c.args.g.now c.args.view.now a) in
    (subst HasPlace c.in-CopyLoad.is c.requires.place).0
