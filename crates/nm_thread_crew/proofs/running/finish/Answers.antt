use Rattle.std.proofs.Common.{refl, ◌∙◌, arith}
use Rattle.nm_thread_crew.proofs.Seats.{chair-of}
use Rattle.nm_thread_crew.proofs.Finishing.{last-chair-of, finished, stood-last, only-left}
use Rattle.nm_thread_crew.proofs.running.finish.Goals as goal

pub rest-requires-clause-of : goal.rest-requires-clause-of
rest-requires-clause-of g c = chair-of _ _ _ _ _ _ c.requires.seated.at c.requires.seated.others c.requires.before (record { is = refl }) c.requires.sits

pub rest-requires-clause-last : goal.rest-requires-clause-last
rest-requires-clause-last g c = only-left (g.B.Board.board c.args.board.now) (g.B.Board.board c.args.board.now).geometry.cpus (g.B.Chair.Tells.state c.args.desk.chair) c.requires.seated.at.sitter c.requires.stood c.requires.nobody

pub stand-requires : goal.stand-requires
stand-requires g c = last-chair-of g.M.Actor.geometry g.M.Actor.number _ _ _ _ _ _ _ _ _ _ (c.resume.ensures.geometry ∙ c.requires.seated.machine) (c.resume.ensures.number ∙ c.requires.seated.same)
    (chair-of _ _ _ _ _ _ c.requires.seated.at c.requires.seated.others c.requires.before (record { is = refl }) c.requires.sits)
    c.rest.ensures.board c.rest.ensures.chair c.requires.seated.at c.resume.ensures.agrees c.drive.ensures.driven

pub returns-clause-finished : goal.returns-clause-finished
returns-clause-finished g c = finished g.M.Actor.geometry g.M.Actor.number _ _ _ _ _ _ _ _ _ _ _ (c.resume.ensures.geometry ∙ c.requires.seated.machine) (c.resume.ensures.number ∙ c.requires.seated.same) c.requires.seated.others c.rest.ensures.board c.rest.ensures.chair c.requires.seated.at c.resume.ensures.agrees c.drive.ensures.driven c.stand.ensures

pub returns-clause-last : goal.returns-clause-last
returns-clause-last g c = stood-last g.M.Actor.geometry g.M.Actor.number g.M.Actor.made g.M.Resumes.resumed g.M.Actor.agrees _ _ _ _ _ _ _ _ _ _ (c.resume.ensures.geometry ∙ c.requires.seated.machine) (c.resume.ensures.number ∙ c.requires.seated.same) c.resume.ensures.made c.drive.ensures.made
    c.requires.seated.others (omega arith) c.requires.sits c.requires.stood c.rest.ensures.board c.rest.ensures.chair c.requires.seated.at c.resume.ensures.agrees c.drive.ensures.driven c.stand.ensures
