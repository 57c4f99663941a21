use Rattle.std.proofs.Common.{ap, ◌∙◌}
use Rattle.nm_view.specs.Views.{View}
use Rattle.nm_event.proofs.Steps.{within_found}
use Rattle.nm_event.proofs.frames.change_op.Goals as goal

pub change_in-requires : goal.change_in-requires
change_in-requires c = λ o e. within_found c.args.view.now.room.aliases c.args.page c.args.change c.args.view.now.ops c.deref_mut.result.now o (c.deref_mut.ensures.value ∙ ap (λ (v : View). v.ops) c.view.view_is) c.requires e
