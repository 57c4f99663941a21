use Rattle.std.proofs.Common.{ℕ, ◌+◌, List, map, sym, ap, subst, ◌∙◌, Some, None}
use Rattle.std.proofs.lemmas.List.{with_items_is}
use Rattle.nm_action.specs.declared.turn.Turn.TheVariants.{End}
use Rattle.nm_threads.specs.declared.desks.Desk.{Desk}
use Rattle.nm_threads.specs.Desks.{IsDeskReady, IsDeskDone}
use Rattle.nm_crew.specs.Crewed.{AtEach}
use Rattle.nm_thread_crew.specs.Boarded.{IsSeated}
use Rattle.nm_thread_crew.proofs.Crewing.{seated-ready, seated-done, all-of, each-ran, made-ran}
use Rattle.nm_thread_crew.proofs.running.run_seated.Goals as goal

pub run_actors-requires-clause-cpus : goal.run_actors-requires-clause-cpus
run_actors-requires-clause-cpus g c κs within =
    let b0 = g.B.Board.board c.args.board.now in
    let state = g.B.Chair.Tells.state in
    let A = g.C.Actor in
    let D : Type 0 = Desk g.row.B-Chair.Denot g.row.C.Denot in
    let P : D → Type 0 = λ d. IsDeskReady A.geometry A.number (A.made d.actor) (A.agrees d.actor) (state d.chair) in
    let E : List D → Type 0 = λ l. AtEach (λ n d. P d) l in
    all-of P c.deref_mut.result.now (subst E (sym c.deref_mut.ensures.value) (λ place beyond lt. seated-ready b0 place A.geometry A.number _ _ _ (c.open_crew-migrator.ensures.cpus place beyond lt)))

pub returns-clause-cpus : goal.returns-clause-cpus
returns-clause-cpus g c =
    let b0 = g.B.Board.board c.args.board.now in
    let state = g.B.Chair.Tells.state in
    let A = g.C.Actor in
    let D : Type 0 = Desk g.row.B-Chair.Denot g.row.C.Denot in
    let P : ℕ → D → Type 0 = λ n d. IsSeated b0 n A.geometry A.number (A.made d.actor) (A.agrees d.actor) None (state d.chair) in
    let Q : ℕ → D → Type 0 = λ n d. IsSeated b0 n A.geometry A.number (A.made d.actor) (A.agrees d.actor) (Some End) (state d.chair) in
    let R : D → D → Type 0 = λ d e. IsDeskDone A.geometry A.number (A.made d.actor) (A.made e.actor) (A.agrees d.actor) (A.agrees e.actor) (state d.chair) (state e.chair) in
    let E : List D → Type 0 = λ l. AtEach P l in
    subst (AtEach Q) (sym (with_items_is c.open_crew-migrator.new.desks c.run_actors.new.cpus (c.run_actors.ensures.cpus.many ∙ c.deref_mut.ensures.len))) (each-ran R P Q c.deref_mut.result.now c.run_actors.new.cpus c.run_actors.ensures.cpus (subst E (sym c.deref_mut.ensures.value) c.open_crew-migrator.ensures.cpus) (λ n d e s ran. seated-done b0 n A.geometry A.number _ _ _ _ _ _ s ran))

pub returns-clause-migrator : goal.returns-clause-migrator
returns-clause-migrator g c = let b0 = g.B.Board.board c.args.board.now in seated-done b0 b0.geometry.cpus g.M.Actor.geometry g.M.Actor.number _ _ _ _ _ _ c.open_crew-migrator.ensures.migrator c.run_actors.ensures.migrator

pub returns-clause-reclaimer : goal.returns-clause-reclaimer
returns-clause-reclaimer g c = let b0 = g.B.Board.board c.args.board.now in seated-done b0 (b0.geometry.cpus + 1) g.R.Actor.geometry g.R.Actor.number _ _ _ _ _ _ c.open_crew-migrator.ensures.reclaimer c.run_actors.ensures.reclaimer

pub returns-clause-made : goal.returns-clause-made
returns-clause-made g c =
    let state = g.B.Chair.Tells.state in
    let A = g.C.Actor in
    let D : Type 0 = Desk g.row.B-Chair.Denot g.row.C.Denot in
    let F : D → g.row.C-Made.Denot = λ d. A.made d.actor in
    let R : D → D → Type 0 = λ d e. IsDeskDone A.geometry A.number (A.made d.actor) (A.made e.actor) (A.agrees d.actor) (A.agrees e.actor) (state d.chair) (state e.chair) in
    ap (map F) (with_items_is c.open_crew-migrator.new.desks c.run_actors.new.cpus (c.run_actors.ensures.cpus.many ∙ c.deref_mut.ensures.len))
    ∙ made-ran F R c.deref_mut.result.now c.run_actors.new.cpus c.run_actors.ensures.cpus (λ d e ran. ran.same)
    ∙ ap (map F) c.deref_mut.ensures.value
    ∙ c.open_crew-migrator.ensures.made
