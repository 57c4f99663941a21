-- One tier more is formed, and one quotient fewer is left.
use Rattle.std.proofs.Common.{List, ℕ, ◌++◌, map, sym, ap, ◌∙◌, append_assoc, append-nil, arith}
use Rattle.nm_tiers.specs.Tiers.{frames_at}
use Rattle.nm_tiers.proofs.Quotients.{next-some, next-none}
use Rattle.nm_tiers.proofs.nodes.form_tiers.Goals as goal

pub loop-quotient-preserved : goal.loop-quotient-preserved
loop-quotient-preserved c =
    let frames : ℕ → ℕ = frames_at c.args.nodes.now in
    let left = next-some c.args.nodes.now c.loop-quotient.from c.in-Some.quotient (sym c.in-Some.ensures.next) in
    let formed = ap (λ qs. c.loop-quotient.tiers.items ++ map frames qs) (sym left) ∙ c.loop-quotient.invariant.formed in
    record {
      formed = rw (c.in_ok-push.ensures.items, c.count_frames.ensures, append_assoc) formed;
      narrow = omega (arith, c.in-Some.ensures.narrow);
    }

pub returns : goal.returns
returns c =
    let items : List ℕ = c.loop-quotient.tiers.items in
    let frames : ℕ → ℕ = frames_at c.args.nodes.now in
    let over = next-none c.args.nodes.now c.loop-quotient.from (sym c.next_quotient.ensures.next ∙ c.in_default.is) in
    sym (append-nil items) ∙ ap (λ qs. items ++ map frames qs) (sym over) ∙ c.loop-quotient.invariant.formed
