use Rattle.std.proofs.Common.{◌≡◌, ◌+◌, [], ◌∙◌, ap, rules}
use Rattle.nm_base.specs.Geometry.{page_count}
use Rattle.nm_core.specs.State.{actor_count}
use Rattle.nm_queue.specs.Ports.{PortLanes}
use Rattle.nm_schedule.specs.declared.limits.TheConstants.{MOST_CANDIDATES}
use Rattle.nm_play.proofs.Starting.{started-of}
use Rattle.nm_play.proofs.run.Play.start.Goals as goal

pub returns-clause-started : goal.returns-clause-started
returns-clause-started g c =
    let lanes : ◌≡◌ {A = PortLanes} c.in_ok-lanes.lanes (record { candidates = record { capacity = MOST_CANDIDATES; pages = [] }; pending = record { capacity = page_count c.args.g.now; pages = [] } }) =
    c.in_ok-lanes.ensures ∙ ap (λ n. record { candidates = record { capacity = MOST_CANDIDATES; pages = [] }; pending = record { capacity = n; pages = [] } }) c.pages.ensures in
    let many : c.g.inside.cpus + 2 ≡ actor_count c.args.g.now = search rules in
    started-of g.K.Crew.geometry g.K.Crew.made c.args.g.now (c.g.inside.cpus + 2) g.K.Crew.agrees c.args.crew c.first_turns.new.crew c.in_ok-state.state c.in_ok-lanes.lanes c.in_ok-given.given.items (g.W.Watcher.kept c.args.watcher c.args.g.now)
    c.requires.machine c.requires.may c.in_ok-state.ensures lanes many c.in_ok-given.ensures.given c.requires.nothing
