use Rattle.std.proofs.Common.{◌≡◌, length, map, ap, ◌∙◌}
use Rattle.std.proofs.lemmas.List.{length-map}
use Rattle.std.proofs.lemmas.Simd.{map-map}
use Rattle.nm_thread_crew.proofs.Lasting.{others-stood}
use Rattle.nm_thread_crew.proofs.running.stand_crew.Goals as goal

pub finish-migrator-requires-clause-stood : goal.finish-migrator-requires-clause-stood
finish-migrator-requires-clause-stood g c κs within =
    let b0 = g.B.Board.board c.args.board.now in
    let state = g.B.Chair.Tells.state in
    let many : length c.stand_all.new.cpus.items ≡ b0.geometry.cpus = ap length c.stand_all.ensures.actors ∙ length-map c.args.desks.items _ ∙ c.requires.many in
    others-stood b0 (g.B.Board.board c.stand_all.new.board) (g.B.Board.board c.stand_up-reclaimer.new.board) (state c.args.reclaimer.chair) g.C.Actor.agrees c.stand_all.new.cpus.items
    many c.stand_all.ensures.same c.stand_all.ensures.stood c.stand_up-reclaimer.ensures.board c.requires.reclaimer.at.sitter

pub returns-clause-made : goal.returns-clause-made
returns-clause-made g c = ap (map g.C.Actor.made) c.stand_all.ensures.actors ∙ map-map g.C.Actor.made (λ d. d.actor) c.args.desks.items
