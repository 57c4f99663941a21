use Rattle.nm_schedule.proofs.Noting.{begins-so, passed-so, seeks-first}
use Rattle.nm_schedule.proofs.Actives.{drop-past}
use Rattle.nm_schedule.proofs.picker.way_from.Goals as goal

pub returns-then-may_begin : goal.returns-then-may_begin
returns-then-may_begin c = λ schedule actors before active plan carry.
    begins-so schedule actors c.args.items.now c.loop-place.place before c.args.active.now _ active (c.loop-place.invariant schedule actors before active plan carry) c.loop-place-test.true (c.may_begin.ensures.0 c.if-may_begin.true)

pub loop-place-preserved : goal.loop-place-preserved
loop-place-preserved c = λ schedule actors before active plan carry.
    passed-so schedule actors c.args.items.now c.loop-place.place before c.args.active.now _ active plan (c.loop-place.invariant schedule actors before active plan carry) c.loop-place-test.true (λ m. let t = c.may_begin.ensures.1 m in let f = c.if-may_begin.false in cc (t, f))

pub returns : goal.returns
returns c = λ schedule actors before active plan carry.
    seeks-first schedule actors _ before (c.loop-place.invariant schedule actors before active plan carry) (drop-past c.args.items.now c.loop-place.place c.loop-place-test.false)
