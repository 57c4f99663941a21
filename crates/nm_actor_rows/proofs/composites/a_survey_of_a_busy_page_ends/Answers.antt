use Rattle.std.proofs.Common.{ap, ◌∙◌, arith}
use Rattle.nm_action.specs.declared.action.Action.TheVariants.{Lock}
use Rattle.nm_view.specs.Opening.{opening}
use Rattle.nm_actor_rows.proofs.Surveyed.{awaited-at, may-survey, fits-busy}
use Rattle.nm_actor_rows.proofs.composites.a_survey_of_a_busy_page_ends.Goals as goal

pub first-requires-clause-begin : goal.first-requires-clause-begin
first-requires-clause-begin w c =
    let g = c.in_ok-g.g in
    record { geometry = g; view = opening g 0; allowed = may-survey c.new-part.result.plan.made g (c.new-part.ensures.made ∙ c.new.ensures.made) c.in_ok-g.ensures }

pub after-requires : goal.after-requires
after-requires w c =
    let g = c.in_ok-g.g in
    let v = opening g 0 in
    let may = may-survey c.new-part.result.plan.made g (c.new-part.ensures.made ∙ c.new.ensures.made) c.in_ok-g.ensures in
    let s0 = awaited-at (c.in-Do-Lock-eq0.ensures.step g v may) (Lock 0) (c.in-Do-Lock-eq0.field-0-is ∙ ap Lock c.in-Do-Lock-eq0.field-0-0-test) in
    record { geometry = g; view = v; own = _; action = Lock 0; awaited = s0; fits = fits-busy g _ 0 2 (omega arith) (omega arith) }
