-- A step of one actor, at its view among all views.
use Rattle.std.proofs.lemmas.List.{get_or_default}
use Rattle.nm_view.specs.Opening.{opening}
use Rattle.nm_core.specs.State.{state_of}
use Rattle.nm_core.proofs.Steps.{step_place, step_range, step_kept}
use Rattle.nm_core.proofs.state.make_step.Goals as goal

pub act-requires-clause-place : goal.act-requires-clause-place
act-requires-clause-place c =
    let s = state_of c.args.g.now c.args.words.now c.args.views.now in
    step_place s c.args.actor c.args.action _ (get_or_default c.args.views.now c.args.actor c.index-views-actor.result (opening c.args.g.now c.args.actor) c.requires.actor) c.requires.kept c.requires.actor c.requires.allowed

pub act-requires-clause-range : goal.act-requires-clause-range
act-requires-clause-range c =
    let s = state_of c.args.g.now c.args.words.now c.args.views.now in
    step_range s c.args.actor c.args.action _ (get_or_default c.args.views.now c.args.actor c.index-views-actor.result (opening c.args.g.now c.args.actor) c.requires.actor) c.requires.kept c.requires.actor c.requires.allowed

pub returns-clause-kept : goal.returns-clause-kept
returns-clause-kept c =
    let s = state_of c.args.g.now c.args.words.now c.args.views.now in
    step_kept s c.args.actor c.args.action _ c.act.new.view c.act.new.words (get_or_default c.args.views.now c.args.actor c.index-views-actor.result (opening c.args.g.now c.args.actor) c.requires.actor) c.act.ensures.words c.act.ensures.view c.requires.kept c.requires.actor c.requires.allowed c.act.ensures.keyed
