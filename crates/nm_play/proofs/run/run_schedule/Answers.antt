use Rattle.std.proofs.Common.{ap, ◌∙◌}
use Rattle.nm_play.proofs.Starting.{run-at}
use Rattle.nm_play.proofs.run.run_schedule.Goals as goal

pub returns-clause-run : goal.returns-clause-run
returns-clause-run g c =
    run-at c.args.g.now (g.K.Crew.geometry (g.K.Crew.made c.in_ok-play.play.crew)) c.args.schedule.now (g.K.Crew.agrees c.play_all.new.play.crew) c.play_all.new.play.state c.play_all.new.play.lanes c.play_all.new.play.given.items (g.W.Watcher.kept c.play_all.new.play.watcher) _
    (ap g.K.Crew.geometry c.in_ok-play.ensures.made ∙ c.requires.machine) c.in_ok-turns.ensures.played

pub play_all-requires-clause-fits : goal.play_all-requires-clause-fits
play_all-requires-clause-fits g c = c.each_reply_of_a_run_fits.ensures
