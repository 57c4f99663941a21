use Rattle.std.proofs.Common.{ℕ, ◌+◌, List, length, map, ap, sym, subst, ◌∙◌}
use Rattle.std.proofs.lemmas.List.{length-map}
use Rattle.std.proofs.lemmas.Simd.{map-map}
use Rattle.nm_threads.specs.declared.desks.Desk.{Desk}
use Rattle.nm_crew.specs.Crewed.{AtEach, IsNewAt}
use Rattle.nm_thread_crew.proofs.Crewing.{seated-first, each-of-map}
use Rattle.nm_thread_crew.proofs.running.open_crew.Goals as goal

pub returns-clause-many : goal.returns-clause-many
returns-clause-many g c = sym (length-map c.seat_crew.new.desks.items _) ∙ ap length c.seat_crew.ensures.actors ∙ c.requires.many

pub returns-clause-cpus : goal.returns-clause-cpus
returns-clause-cpus g c =
    let b0 = g.B.Board.board c.args.board.now in
    let A = g.C.Actor in
    let D : Type 0 = Desk g.row.B-Chair.Denot g.row.C.Denot in
    let desks : List D = c.seat_crew.new.desks.items in
    let new : AtEach (λ n d. IsNewAt A.geometry A.number (A.made d.actor) (A.is_new d.actor) b0.geometry n) desks =
    each-of-map (λ d. d.actor) (λ n a. IsNewAt A.geometry A.number (A.made a) (A.is_new a) b0.geometry n) desks c.args.cpus.items c.seat_crew.ensures.actors c.requires.cpus in
    λ place beyond lt. seated-first A.geometry A.number _ _ _ b0 place _ (c.seat_crew.ensures.chairs place beyond lt) (new place beyond lt) (g.met.C.Actor.opens _)

pub returns-clause-migrator : goal.returns-clause-migrator
returns-clause-migrator g c =
    let b0 = g.B.Board.board c.args.board.now in
    let A = g.M.Actor in
    let P : g.row.M.Denot → Type 0 = λ a. IsNewAt A.geometry A.number (A.made a) (A.is_new a) b0.geometry b0.geometry.cpus in
    let e = c.seat_crew.ensures.migrator in
    seated-first A.geometry A.number _ _ _ b0 b0.geometry.cpus _ e.0 (subst P (sym e.1) c.requires.migrator) (g.met.M.Actor.opens _)

pub returns-clause-reclaimer : goal.returns-clause-reclaimer
returns-clause-reclaimer g c =
    let b0 = g.B.Board.board c.args.board.now in
    let A = g.R.Actor in
    let n : ℕ = b0.geometry.cpus + 1 in
    let P : g.row.R.Denot → Type 0 = λ a. IsNewAt A.geometry A.number (A.made a) (A.is_new a) b0.geometry n in
    let e = c.seat_crew.ensures.reclaimer in
    seated-first A.geometry A.number _ _ _ b0 n _ e.0 (subst P (sym e.1) c.requires.reclaimer) (g.met.R.Actor.opens _)

pub returns-clause-made : goal.returns-clause-made
returns-clause-made g c = sym (map-map g.C.Actor.made (λ d. d.actor) c.seat_crew.new.desks.items) ∙ ap (map g.C.Actor.made) c.seat_crew.ensures.actors
