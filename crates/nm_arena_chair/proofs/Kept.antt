-- What a put or a take changes of the chair beside its lane: nothing.
use Rattle.std.proofs.Common.{◌≡◌, ap, ◌∙◌}
use Rattle.std.specs.Option.{option_map}
use Rattle.nm_action.specs.declared.turn.Lane.TheVariants.{Candidates, Pending}
use Rattle.nm_actor.specs.Chairs.{lane_of, with_lane}
use Rattle.nm_queue.specs.Passes.{PassState}
use Rattle.nm_arena_chair.specs.ChairFaces.{ChairFace, chair_state, stood_table, joined_later}

pub candidates_kept : (now inner : ChairFace) (p : PassState) → inner ≡ now → p.known.joined ≡ inner.candidate_pass.known.joined
    → chair_state (record inner { candidate_pass = p }) ≡ with_lane Candidates (lane_of Candidates (chair_state (record inner { candidate_pass = p }))) (chair_state now)
candidates_kept now inner p same joined =
    (λ i. record (chair_state (record inner { candidate_pass = p })) {
      others = option_map (λ order. stood_table order (joined_later (joined i)) (joined_later inner.pending_pass.known.joined)) inner.others;
    })
    ∙ ap (λ (c : ChairFace). with_lane Candidates (lane_of Candidates (chair_state (record inner { candidate_pass = p }))) (chair_state c)) same

pub pending_kept : (now inner : ChairFace) (p : PassState) → inner ≡ now → p.known.joined ≡ inner.pending_pass.known.joined
    → chair_state (record inner { pending_pass = p }) ≡ with_lane Pending (lane_of Pending (chair_state (record inner { pending_pass = p }))) (chair_state now)
pending_kept now inner p same joined =
    (λ i. record (chair_state (record inner { pending_pass = p })) {
      others = option_map (λ order. stood_table order (joined_later inner.candidate_pass.known.joined) (joined_later (joined i))) inner.others;
    })
    ∙ ap (λ (c : ChairFace). with_lane Pending (lane_of Pending (chair_state (record inner { pending_pass = p }))) (chair_state c)) same
