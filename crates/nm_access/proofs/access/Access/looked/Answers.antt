-- The word decides what comes next.
use Rattle.std.proofs.Common.{refl, sym, ◌∙◌}
use Rattle.std.proofs.lemmas.Bool.{eq-eqb, ne_eqb}
use Rattle.nm_access.proofs.Going.{gone}
use Rattle.nm_access.proofs.Answers.{after-look}
use Rattle.nm_access.proofs.Faulting.{fault-starts}
use Rattle.nm_access.proofs.Looking.{missing-begins, shadowed-begins, has-begin, look-softens, look-walks}
use Rattle.nm_access.proofs.access.Access.looked.Goals as goal

pub start-action-requires-clause-begin : goal.start-action-requires-clause-begin
start-action-requires-clause-begin g c =
    let r = c.requires.heard in
    has-begin _ g.F.Part.may_begin c.args.self.now _ r.geometry r.was r.view _
    (missing-begins _ g.F.Part.may_begin c.args.self.now _ c.args.stamp c.args.word r.geometry r.was r.view _ (eq-eqb c.args.word 0 c.if-word-eq0.true) c.on_missing.ensures.made c.on_missing.ensures.may c.on_missing.ensures.leaves
    (after-look _ g.F.Part.made g.F.Part.awaits c.args.self.now _ c.args.stamp c.args.word r.geometry r.was r.view r.turns r.turn c.requires.stage refl r.awaited r.answer))

pub returns-then-word-eq0-clause-step : goal.returns-then-word-eq0-clause-step
returns-then-word-eq0-clause-step g c = λ g' was view turns turn h answer.
    let b = missing-begins _ g.F.Part.may_begin c.args.self.now _ c.args.stamp c.args.word g' was view _ (eq-eqb c.args.word 0 c.if-word-eq0.true) c.on_missing.ensures.made c.on_missing.ensures.may c.on_missing.ensures.leaves
    (after-look _ g.F.Part.made g.F.Part.awaits c.args.self.now _ c.args.stamp c.args.word g' was view turns turn c.requires.stage refl h answer) in
    c.give.ensures.step g' was view _ (fault-starts _ g.F.Part.made g.F.Part.awaits g.F.Part.may_begin c.args.self.now c.on_missing.result c.start-action.new.self c.start-action.result g' was view _ c.start-action.ensures.made c.start-action.ensures.step b.faulting b.begin b.frees)

pub returns-then-has_hint-clause-step : goal.returns-then-has_hint-clause-step
returns-then-has_hint-clause-step g c = λ g' was view turns turn h answer.
    gone _ g.F.Part.made g.F.Part.awaits c.go.new.self _ c.go.result _ g' was view _ c.go.ensures.stage c.go.ensures.turn
    (look-softens _ g.F.Part.made g.F.Part.awaits c.args.self.now c.args.stamp c.args.word g' was view _ (ne_eqb c.args.word 0 c.if-word-eq0.false) (sym c.has_hint.ensures ∙ c.if-has_hint.true)
    (after-look _ g.F.Part.made g.F.Part.awaits c.args.self.now _ c.args.stamp c.args.word g' was view turns turn c.requires.stage refl h answer))

pub start-action-requires-then-needs_right-clause-begin : goal.start-action-requires-then-needs_right-clause-begin
start-action-requires-then-needs_right-clause-begin g c =
    let r = c.requires.heard in
    has-begin _ g.F.Part.may_begin c.args.self.now _ r.geometry r.was r.view _
    (shadowed-begins _ g.F.Part.may_begin c.args.self.now _ c.args.stamp c.args.word r.geometry r.was r.view _ (ne_eqb c.args.word 0 c.if-word-eq0.false) (sym c.has_hint.ensures ∙ c.if-has_hint.false) (sym c.needs_right.ensures ∙ c.if-needs_right.true) c.on_shadowed.ensures.made c.on_shadowed.ensures.may c.on_shadowed.ensures.leaves
    (after-look _ g.F.Part.made g.F.Part.awaits c.args.self.now _ c.args.stamp c.args.word r.geometry r.was r.view r.turns r.turn c.requires.stage refl r.awaited r.answer))

pub returns-then-needs_right-clause-step : goal.returns-then-needs_right-clause-step
returns-then-needs_right-clause-step g c = λ g' was view turns turn h answer.
    let b = shadowed-begins _ g.F.Part.may_begin c.args.self.now _ c.args.stamp c.args.word g' was view _ (ne_eqb c.args.word 0 c.if-word-eq0.false) (sym c.has_hint.ensures ∙ c.if-has_hint.false) (sym c.needs_right.ensures ∙ c.if-needs_right.true) c.on_shadowed.ensures.made c.on_shadowed.ensures.may c.on_shadowed.ensures.leaves
    (after-look _ g.F.Part.made g.F.Part.awaits c.args.self.now _ c.args.stamp c.args.word g' was view turns turn c.requires.stage refl h answer) in
    c.give-then-needs_right.ensures.step g' was view _ (fault-starts _ g.F.Part.made g.F.Part.awaits g.F.Part.may_begin c.args.self.now c.on_shadowed.result c.start-action-then-needs_right.new.self c.start-action-then-needs_right.result g' was view _ c.start-action-then-needs_right.ensures.made c.start-action-then-needs_right.ensures.step b.faulting b.begin b.frees)

pub returns-else-needs_right-clause-step : goal.returns-else-needs_right-clause-step
returns-else-needs_right-clause-step g c = λ g' was view turns turn h answer.
    gone _ g.F.Part.made g.F.Part.awaits c.go-else-needs_right.new.self _ c.go-else-needs_right.result _ g' was view _ c.go-else-needs_right.ensures.stage c.go-else-needs_right.ensures.turn
    (look-walks _ g.F.Part.made g.F.Part.awaits c.args.self.now c.args.stamp c.args.word g' was view _ (ne_eqb c.args.word 0 c.if-word-eq0.false) (sym c.has_hint.ensures ∙ c.if-has_hint.false) (sym c.needs_right.ensures ∙ c.if-needs_right.false)
    (after-look _ g.F.Part.made g.F.Part.awaits c.args.self.now _ c.args.stamp c.args.word g' was view turns turn c.requires.stage refl h answer))
