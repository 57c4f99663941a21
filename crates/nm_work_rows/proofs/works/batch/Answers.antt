use Rattle.std.proofs.Common.{ap, ◌∙◌}
use Rattle.nm_core.specs.State.{view_of}
use Rattle.nm_prepare.specs.Ready.{spent_by}
use Rattle.nm_batch.specs.Tasks.{batch_of}
use Rattle.nm_work_rows.proofs.Begun.{begun-three}
use Rattle.nm_work_rows.proofs.works.batch.Goals as goal

pub play-count-requires-clause-begin : goal.play-count-requires-clause-begin
play-count-requires-clause-begin g c =
    begun-three (batch_of c.begin.new.self) c.in_ok-part.part.geometry.now c.args.g.now c.args.actor _ _ _ c.spent_by.result (view_of c.args.state.now c.args.actor)
    c.begin.ensures.made c.in_ok-part.ensures.geometry c.requires.limits (c.spent_by.ensures ∙ ap spent_by c.view.ensures) (c.are_pieces.ensures c.if-not-are_pieces.false)
