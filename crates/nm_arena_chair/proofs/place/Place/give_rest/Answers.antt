use Rattle.nm_arena_chair.proofs.Order.{rested_kept, rested_whole, singles}
use Rattle.nm_arena_chair.proofs.place.Place.give_rest.Goals as goal

pub invariant_of-self : goal.invariant_of-self
invariant_of-self g c = rested_kept c.args.self.now _ c.args.candidates.now c.args.pending.now c.args.candidate_pass c.args.pending_pass c.join.new.into c.join-2.new.into c.args.order.items
    c.self.view_is c.requires.before c.self.invariant c.requires.candidate_queue c.requires.pending_queue c.requires.candidates c.requires.pending c.requires.once c.join.ensures.joined c.join-2.ensures.joined

pub returns-clause-candidates : goal.returns-clause-candidates
returns-clause-candidates g c = (rested_whole c.args.self.now _ c.args.candidates.now c.args.pending.now c.args.candidate_pass c.args.pending_pass c.join.new.into c.join-2.new.into _
    c.self.view_is c.requires.before c.self.invariant c.requires.candidates c.requires.pending c.join.ensures.joined c.join-2.ensures.joined c.join.ensures.whole c.join-2.ensures.whole).0

pub returns-clause-pending : goal.returns-clause-pending
returns-clause-pending g c = (rested_whole c.args.self.now _ c.args.candidates.now c.args.pending.now c.args.candidate_pass c.args.pending_pass c.join.new.into c.join-2.new.into _
    c.self.view_is c.requires.before c.self.invariant c.requires.candidates c.requires.pending c.join.ensures.joined c.join-2.ensures.joined c.join.ensures.whole c.join-2.ensures.whole).1

pub returns-clause-candidates_before : goal.returns-clause-candidates_before
returns-clause-candidates_before g c = (singles c.args.self.now _ c.self.view_is c.requires.before c.self.invariant).0

pub returns-clause-pending_before : goal.returns-clause-pending_before
returns-clause-pending_before g c = (singles c.args.self.now _ c.self.view_is c.requires.before c.self.invariant).1
