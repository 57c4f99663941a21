use Rattle.std.proofs.Common.{refl, ap, ◌∙◌}
use Rattle.nm_action.specs.declared.action.Action.TheVariants.{Lock, Look, Unlock}
use Rattle.nm_view.specs.Opening.{opening}
use Rattle.nm_actor_rows.proofs.Surveyed.{awaited-at, may-survey, fits-locked, fits-looked, fits-unlocked}
use Rattle.nm_actor_rows.proofs.composites.a_survey_locks_looks_and_unlocks.Goals as goal

pub first-requires-clause-begin : goal.first-requires-clause-begin
first-requires-clause-begin w c =
    let g = c.in_ok-g.g in
    record { geometry = g; view = opening g 0; allowed = may-survey c.new-2.result.plan.made g (c.new-2.ensures.made ∙ c.new.ensures.made) c.in_ok-g.ensures }

pub after-requires : goal.after-requires
after-requires w c =
    let g = c.in_ok-g.g in
    let v = opening g 0 in
    let may = may-survey c.new-2.result.plan.made g (c.new-2.ensures.made ∙ c.new.ensures.made) c.in_ok-g.ensures in
    let s0 = awaited-at (c.in-Do-Lock-eq0.ensures.step g v may) (Lock 0) (c.in-Do-Lock-eq0.field-0-is ∙ ap Lock c.in-Do-Lock-eq0.field-0-0-test) in
    record { geometry = g; view = v; own = _; action = Lock 0; awaited = s0; fits = fits-locked g _ 0 }

pub after-requires-2 : goal.after-requires-2
after-requires-2 w c =
    let g = c.in_ok-g.g in
    let v = opening g 0 in
    let may = may-survey c.new-2.result.plan.made g (c.new-2.ensures.made ∙ c.new.ensures.made) c.in_ok-g.ensures in
    let s0 = awaited-at (c.in-Do-Lock-eq0.ensures.step g v may) (Lock 0) (c.in-Do-Lock-eq0.field-0-is ∙ ap Lock c.in-Do-Lock-eq0.field-0-0-test) in
    let s1 = awaited-at (c.in-Do-Look-eq0.ensures.step g v _ (Lock 0) s0 (fits-locked g _ 0)) (Look 0) (c.in-Do-Look-eq0.field-0-is ∙ ap Look c.in-Do-Look-eq0.field-0-0-test) in
    record { geometry = g; view = v; own = _; action = Look 0; awaited = s1; fits = fits-looked g _ 0 _ 0 refl }

pub after-requires-3 : goal.after-requires-3
after-requires-3 w c =
    let g = c.in_ok-g.g in
    let v = opening g 0 in
    let may = may-survey c.new-2.result.plan.made g (c.new-2.ensures.made ∙ c.new.ensures.made) c.in_ok-g.ensures in
    let s0 = awaited-at (c.in-Do-Lock-eq0.ensures.step g v may) (Lock 0) (c.in-Do-Lock-eq0.field-0-is ∙ ap Lock c.in-Do-Lock-eq0.field-0-0-test) in
    let s1 = awaited-at (c.in-Do-Look-eq0.ensures.step g v _ (Lock 0) s0 (fits-locked g _ 0)) (Look 0) (c.in-Do-Look-eq0.field-0-is ∙ ap Look c.in-Do-Look-eq0.field-0-0-test) in
    let s2 = awaited-at (c.in-Do-Unlock-eq0.ensures.step g v _ (Look 0) s1 (fits-looked g _ 0 _ 0 refl)) (Unlock 0) (c.in-Do-Unlock-eq0.field-0-is ∙ ap Unlock c.in-Do-Unlock-eq0.field-0-0-test) in
    record { geometry = g; view = v; own = _; action = Unlock 0; awaited = s2; fits = fits-unlocked g _ 0 }
