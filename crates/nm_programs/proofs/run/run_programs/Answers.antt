use Rattle.std.proofs.Common.{[], map, refl, sym, ap, subst, ◌∙◌}
use Rattle.nm_base.specs.Geometry.{Geometry}
use Rattle.nm_cpu.proofs.Starting.{acts-first}
use Rattle.nm_programs.proofs.Playing.{made-after}
use Rattle.nm_programs.proofs.Running.{cpu-done, watched-of-script, watched-moved}
use Rattle.nm_programs.proofs.run.run_programs.Goals as goal

pub run_crew-requires-clause-each : goal.run_crew-requires-clause-each
run_crew-requires-clause-each g c = λ cpu d lt. (
    let at = c.in_ok-cpus.ensures.each cpu d lt in
    record { machine = at.made_so.machine ∙ sym (ap (λ s. s.geometry) c.script.view_is); same = at.made_so.same; new = at.opens })

pub run_crew-requires-clause-cpu_acts : goal.run_crew-requires-clause-cpu_acts
run_crew-requires-clause-cpu_acts g c = λ x h. acts-first _ _ _ x h

pub run_crew-requires-clause-nothing : goal.run_crew-requires-clause-nothing
run_crew-requires-clause-nothing g c = subst (λ (k : Geometry). g.W.Watcher.kept c.args.watcher k []) (sym (ap (λ s. s.geometry) c.script.view_is)) c.requires.nothing

pub returns : goal.returns
returns g c =
    let run = c.in_ok-run in
    let crew = watched-moved _ _ _ _ c.args.script.now.geometry _ c.args.script.now.schedule run.run'.crew.cpus.items (g.W.Watcher.kept run.run'.watcher) run.run'.turns run.run'.end (ap (λ s. s.geometry) c.script.view_is) (ap (λ s. s.schedule) c.script.view_is) run.ensures.run in
    watched-of-script _ _ _ _ _ c.args.script.now (g.W.Watcher.kept run.run'.watcher c.args.script.now.geometry) (map (λ r. r.items) c.in_ok-results.results.items) run.run'.end run.run'.tally run.run'.turns run.run'.crew.cpus.items (λ p. p.results.items) _ _ _ c.requires.script crew c.in_ok-results.ensures run.ensures.tally
    (λ cpu d turns ended lt h. cpu-done _ _ c.args.script.now cpu _ turns ended (made-after _ _ c.args.script.now c.in_ok-cpus.cpus.items run.run'.crew.cpus.items cpu d c.in_ok-cpus.ensures.each run.ensures.cpus lt) h)
    (λ turns ended h. record { actor = run.run'.crew.migrator; same = run.ensures.migrator; agreed = h; counts_so = refl })
    (λ turns ended h. record { actor = run.run'.crew.reclaimer; same = run.ensures.reclaimer; agreed = h; counts_so = refl })
