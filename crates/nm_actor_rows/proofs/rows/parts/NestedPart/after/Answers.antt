use Rattle.nm_actor_rows.proofs.Nesting.{nested-more, nested-begins}
use Rattle.nm_actor_rows.proofs.rows.parts.NestedPart.after.Goals as goal

pub returns-then-self-clause-step : goal.returns-then-self-clause-step
returns-then-self-clause-step w c = λ g v own action a f.
    let i = rw c.if-self.true at a in
    rw c.if-self.true (nested-more (w.P.Part.awaits c.args.self.now.inner) (w.P.Part.awaits c.after.new.self) (w.P.Part.shape (w.P.Part.made c.args.self.now.inner)) (w.P.Part.leaves (w.P.Part.made c.args.self.now.inner)) (w.P.Part.ended c.after.new.self) c.args.self.now.vpage g v own action c.args.reply c.after.result i f c.after.ensures.step)

pub returns-clause-step : goal.returns-clause-step
returns-clause-step w c = λ g v own action a f.
    let l = rw c.if-self.false at a in
    nested-begins w.P.Part.may_begin w.P.Part.shape (w.P.Part.awaits c.first.new.self) (w.P.Part.shape (w.P.Part.made c.args.self.now.inner)) (w.P.Part.leaves (w.P.Part.made c.args.self.now.inner)) (w.P.Part.ended c.first.new.self) c.args.self.now.vpage (w.P.Part.made c.args.self.now.inner) g v own action c.args.reply c.first.result l.1 f c.first.ensures.step
