use Rattle.std.proofs.Common.{refl}
use Rattle.nm_play.proofs.Playing.{turn-exists, turn-permitted, turn-heard, given-turn, playing-more}
use Rattle.nm_play.proofs.run.Play.turn.Goals as goal

pub sees-requires-clause-exists : goal.sees-requires-clause-exists
sees-requires-clause-exists g c =
    turn-exists (g.K.Crew.geometry (g.K.Crew.made c.args.self.now.crew)) (g.K.Crew.agrees c.args.self.now.crew) c.args.self.now.state c.args.self.now.lanes c.args.self.now.given.items (g.W.Watcher.kept c.args.self.now.watcher (g.K.Crew.geometry (g.K.Crew.made c.args.self.now.crew))) c.args.actor c.requires.has

pub sees-requires-clause-permitted : goal.sees-requires-clause-permitted
sees-requires-clause-permitted g c =
    turn-permitted (g.K.Crew.geometry (g.K.Crew.made c.args.self.now.crew)) (g.K.Crew.agrees c.args.self.now.crew) c.args.self.now.state c.args.self.now.lanes c.args.self.now.given.items (g.W.Watcher.kept c.args.self.now.watcher (g.K.Crew.geometry (g.K.Crew.made c.args.self.now.crew))) c.args.actor c.index-turn.result.now
    c.own_list_tells_the_view.ensures c.requires.has c.index-turn.ensures

pub answer-heard-requires-clause-exists : goal.answer-heard-requires-clause-exists
answer-heard-requires-clause-exists g c =
    turn-exists (g.K.Crew.geometry (g.K.Crew.made c.args.self.now.crew)) (g.K.Crew.agrees c.args.self.now.crew) c.args.self.now.state c.args.self.now.lanes c.args.self.now.given.items (g.W.Watcher.kept c.args.self.now.watcher (g.K.Crew.geometry (g.K.Crew.made c.args.self.now.crew))) c.args.actor c.requires.has

pub answer-heard-requires-clause-permitted : goal.answer-heard-requires-clause-permitted
answer-heard-requires-clause-permitted g c =
    turn-permitted (g.K.Crew.geometry (g.K.Crew.made c.args.self.now.crew)) (g.K.Crew.agrees c.args.self.now.crew) c.args.self.now.state c.args.self.now.lanes c.args.self.now.given.items (g.W.Watcher.kept c.args.self.now.watcher (g.K.Crew.geometry (g.K.Crew.made c.args.self.now.crew))) c.args.actor c.index-turn.result.now
    c.own_list_tells_the_view.ensures c.requires.has c.index-turn.ensures

pub next-next-requires-clause-heard : goal.next-next-requires-clause-heard
next-next-requires-clause-heard g c =
    turn-heard (g.K.Crew.geometry (g.K.Crew.made c.args.self.now.crew)) (g.K.Crew.agrees c.args.self.now.crew) c.args.self.now.state c.answer-heard.new.state c.args.self.now.lanes c.answer-heard.new.lanes c.args.self.now.given.items (g.W.Watcher.kept c.args.self.now.watcher (g.K.Crew.geometry (g.K.Crew.made c.args.self.now.crew))) c.args.actor c.index-turn.result.now c.answer-heard.result
    c.own_list_tells_the_view.ensures c.requires.fits c.requires.limits c.requires.has c.index-turn.ensures c.answer-heard.ensures

pub returns-clause-played : goal.returns-clause-played
returns-clause-played g c = λ before playing active.
    playing-more (g.K.Crew.geometry (g.K.Crew.made c.args.self.now.crew)) (g.K.Crew.agrees c.args.self.now.crew) (g.K.Crew.agrees c.next-next.new.self) c.args.self.now.state c.answer-heard.new.state c.args.self.now.lanes c.answer-heard.new.lanes
    c.args.self.now.given.items _ (g.W.Watcher.kept c.args.self.now.watcher (g.K.Crew.geometry (g.K.Crew.made c.args.self.now.crew))) (g.W.Watcher.kept c.hears.new.self (g.K.Crew.geometry (g.K.Crew.made c.args.self.now.crew))) before c.args.actor c.index-turn.result.now c.next-next.result c.answer-heard.result c.is_end.result
    c.own_list_tells_the_view.ensures c.requires.fits c.requires.limits playing c.requires.has.exists active
    (given-turn (g.K.Crew.geometry (g.K.Crew.made c.args.self.now.crew)) (g.K.Crew.agrees c.args.self.now.crew) c.args.self.now.state c.args.self.now.lanes c.args.self.now.given.items (g.W.Watcher.kept c.args.self.now.watcher (g.K.Crew.geometry (g.K.Crew.made c.args.self.now.crew))) before c.args.actor c.index-turn.result.now playing c.requires.has.exists c.index-turn.ensures)
    c.answer-heard.ensures c.next-next.ensures.turn c.next-next.ensures.others refl c.is_end.ensures
    (c.in_ok-hears.ensures (g.K.Crew.geometry (g.K.Crew.made c.args.self.now.crew)) before (c.in_ok-sees.ensures (g.K.Crew.geometry (g.K.Crew.made c.args.self.now.crew)) before playing.told (record { run = playing.run; reached = playing.reached })))
