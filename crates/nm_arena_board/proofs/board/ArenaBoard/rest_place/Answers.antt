use Rattle.nm_arena_board.proofs.Giving.{giving, candidates_join, pending_join, last_once, is_rested}
use Rattle.nm_arena_board.proofs.board.ArenaBoard.rest_place.Goals as goal

pub give_rest-requires-clause-candidates : goal.give_rest-requires-clause-candidates
give_rest-requires-clause-candidates g c =
    candidates_join _ c.args.place.now _ (giving c.args.self.now _ c.args.place.now c.in-Some.main _ c.self.view_is c.in-Some.ensures.value c.main.view_is c.requires.before c.requires.of c.requires.last c.self.invariant)

pub give_rest-requires-clause-pending : goal.give_rest-requires-clause-pending
give_rest-requires-clause-pending g c =
    pending_join _ c.args.place.now _ (giving c.args.self.now _ c.args.place.now c.in-Some.main _ c.self.view_is c.in-Some.ensures.value c.main.view_is c.requires.before c.requires.of c.requires.last c.self.invariant)

pub give_rest-requires-clause-once : goal.give_rest-requires-clause-once
give_rest-requires-clause-once g c =
    last_once _ c.args.place.now _ (giving c.args.self.now _ c.args.place.now c.in-Some.main _ c.self.view_is c.in-Some.ensures.value c.main.view_is c.requires.before c.requires.of c.requires.last c.self.invariant)

pub returns-clause-chair : goal.returns-clause-chair
returns-clause-chair g c =
    is_rested c.args.self.now _ c.args.place.now c.give_rest.new.self _ c.self.view_is
    (giving c.args.self.now _ c.args.place.now c.in-Some.main _ c.self.view_is c.in-Some.ensures.value c.main.view_is c.requires.before c.requires.of c.requires.last c.self.invariant)
    c.requires.of c.give_rest.ensures.candidates_before c.give_rest.ensures.pending_before c.give_rest.ensures.given c.give_rest.ensures.candidates c.give_rest.ensures.pending
