-- The word of a permitted action is one of the machine's.
use Rattle.std.proofs.Common.{sym, subst, arith}
use Rattle.nm_words.specs.Names.{IsPlace}
use Rattle.nm_core.proofs.InPlace.{IsPlace-where_of}
use Rattle.nm_arena.proofs.Faced.{seated}
use Rattle.nm_arena.proofs.arena.Arena.step.Goals as goal

pub exchange_of-name-requires-clause-place : goal.exchange_of-name-requires-clause-place
exchange_of-name-requires-clause-place c =
    let is = seated c.self.inside.geometry c.self.inside.board.shared.table_id c.seat.inside.place.table_id c.seat.inside.held c.in-Actor.view c.seat.inside.place.me.0 c.args.self.now c.args.seat.now c.args.action c.self.view_is c.in-Actor.is c.seat.view_is c.requires.actor c.requires.allowed in
    IsPlace-where_of c.self.inside.geometry c.in-Actor.view c.args.action is.shape.keyed is.allowed

pub at-word-requires-clause-there : goal.at-word-requires-clause-there
at-word-requires-clause-there c =
    let is = seated c.self.inside.geometry c.self.inside.board.shared.table_id c.seat.inside.place.table_id c.seat.inside.held c.in-Actor.view c.seat.inside.place.me.0 c.args.self.now c.args.seat.now c.args.action c.self.view_is c.in-Actor.is c.seat.view_is c.requires.actor c.requires.allowed in
    subst (λ p. IsPlace c.self.inside.geometry p.0) (sym c.exchange_of-name.ensures) (IsPlace-where_of c.self.inside.geometry c.in-Actor.view c.args.action is.shape.keyed is.allowed)

pub exchange-found-requires-clause-table : goal.exchange-found-requires-clause-table
exchange-found-requires-clause-table c =
    let is = seated c.self.inside.geometry c.self.inside.board.shared.table_id c.seat.inside.place.table_id c.seat.inside.held c.in-Actor.view c.seat.inside.place.me.0 c.args.self.now c.args.seat.now c.args.action c.self.view_is c.in-Actor.is c.seat.view_is c.requires.actor c.requires.allowed in
    (is.table_is, omega (arith, c.at-word.ensures.within, c.self.invariant.count))
