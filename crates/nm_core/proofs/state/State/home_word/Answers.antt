-- A home word names a frame.
use Rattle.std.proofs.Common.{arith}
use Rattle.nm_core.specs.State.{state_of}
use Rattle.nm_core.proofs.Readers.{home_few}
use Rattle.nm_core.proofs.state.State.home_word.Goals as goal

pub returns-clause-bound : goal.returns-clause-bound
returns-clause-bound c =
    let s = state_of c.self.inside.geometry c.self.inside.words c.self.inside.views.items in
    omega (arith, c.load.ensures, home_few s c.args.self.now c.args.page c.self.view_is c.self.invariant c.requires)
