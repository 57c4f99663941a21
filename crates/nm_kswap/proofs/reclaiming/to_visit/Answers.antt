use Rattle.std.proofs.Common.{◌≡◌, refl, sym, ap, ◌∙◌, arith}
use Rattle.nm_kswap.specs.Reclaiming.{marks_of}
use Rattle.nm_kswap.specs.Stages.{Going}
use Rattle.nm_kswap.proofs.Visiting.{visits-none, visits-found, visits-more, hands-put-on, not-enough, hand-small}
use Rattle.nm_kswap.proofs.reclaiming.to_visit.Goals as goal

pub loop-left-init : goal.loop-left-init
loop-left-init c = (refl, c.requires.hands)

pub overflow_add-kept : goal.overflow_add-kept
overflow_add-kept c = let small = hand-small c.args.g.now c.args.tier c.loop-left.kept c.requires.geometry c.requires.tier c.loop-left.invariant.1 in search (arith, small)

pub loop-left-preserved : goal.loop-left-preserved
loop-left-preserved c =
    let low = not-enough c.enough.result (marks_of c.args.g.now c.args.tier).high c.args.level (rw c.marks_of.ensures at c.enough.ensures) c.if-enough.false in (
      visits-more c.args.g.now c.args.last c.args.tier c.args.level c.loop-left.left c.pages.result c.loop-left.kept low (sym c.has_vpage.ensures ∙ c.if-has_vpage.false) c.loop-left-test.true c.pages.ensures ∙ c.loop-left.invariant.0,
      hands-put-on c.args.g.now c.args.tier c.pages.result c.loop-left.kept c.pages.ensures c.requires.geometry c.loop-left.invariant.1,
    )

pub returns-then-has_vpage-clause-stage : goal.returns-then-has_vpage-clause-stage
returns-then-has_vpage-clause-stage c =
    let low = not-enough c.enough.result (marks_of c.args.g.now c.args.tier).high c.args.level (rw c.marks_of.ensures at c.enough.ensures) c.if-enough.false in
    ap (λ (x : Going). x.stage) (sym (visits-found c.args.g.now c.args.last c.args.tier c.args.level c.loop-left.left c.pages.result c.loop-left.kept low (sym c.has_vpage.ensures ∙ c.if-has_vpage.true) c.loop-left-test.true c.pages.ensures) ∙ c.loop-left.invariant.0)

pub returns-then-has_vpage-clause-kept : goal.returns-then-has_vpage-clause-kept
returns-then-has_vpage-clause-kept c =
    let low = not-enough c.enough.result (marks_of c.args.g.now c.args.tier).high c.args.level (rw c.marks_of.ensures at c.enough.ensures) c.if-enough.false in
    ap (λ (x : Going). x.kept) (sym (visits-found c.args.g.now c.args.last c.args.tier c.args.level c.loop-left.left c.pages.result c.loop-left.kept low (sym c.has_vpage.ensures ∙ c.if-has_vpage.true) c.loop-left-test.true c.pages.ensures) ∙ c.loop-left.invariant.0)

pub returns-clause-stage : goal.returns-clause-stage
returns-clause-stage c =
    let none : c.loop-left.left ≡ 0 = omega (arith, c.loop-left-test.false) in
    c.tier_stage-2.ensures ∙ ap (λ (x : Going). x.stage) (sym (visits-none c.args.g.now c.args.last c.args.tier c.args.level c.loop-left.left c.loop-left.kept none) ∙ c.loop-left.invariant.0)

pub returns-clause-kept : goal.returns-clause-kept
returns-clause-kept c =
    let none : c.loop-left.left ≡ 0 = omega (arith, c.loop-left-test.false) in
    ap (λ (x : Going). x.kept) (sym (visits-none c.args.g.now c.args.last c.args.tier c.args.level c.loop-left.left c.loop-left.kept none) ∙ c.loop-left.invariant.0)
