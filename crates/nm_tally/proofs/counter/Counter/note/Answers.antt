use Rattle.std.proofs.Common.{List, Bool, ap, subst, ◌∙◌, rules}
use Rattle.nm_action.specs.Tally.{sum_of}
use Rattle.nm_tally.specs.declared.counter.Counter.{Counter}
use Rattle.nm_tally.specs.Counting.{reclaiming_with, AreFlags}
use Rattle.nm_tally.proofs.Noting.{counted-more, counted-nothing}
use Rattle.nm_tally.proofs.counter.Counter.note.Goals as goal
use Rattle.nm_tally.proofs.counter.Counter.note.Goals.{then-may_count, else-may_count}

pub returns-clause-counted : goal.returns-clause-counted
returns-clause-counted c =
    let rest = c.keep_lock.ensures.rest in
    let tally = ap (λ (k : Counter). k.tally) rest in
    let with = ap (λ (k : Counter). k.reclaiming) rest ∙ c.with-self.ensures in
    let Flags : List Bool → Type 0 = λ flags. AreFlags c.args.action c.args.reply flags c.keep_lock.new.self.locked.items in
    elim c.if-may_count.branch [
      | then-may_count w ↦
          counted-more c.args.self.now c.keep_lock.new.self c.args.action c.args.reply w.is_inside-inside.result w.is_inside-inside.ensures
          (tally ∙ ap (λ (k : Counter). k.tally) w.self-is ∙ w.plus-self.ensures ∙ ap (λ t. sum_of c.args.self.now.tally t) w.event_counts-counts.ensures)
          (with ∙ ap (λ (k : Counter). reclaiming_with c.args.action k.reclaiming) w.self-is) (subst Flags (ap (λ (k : Counter). k.locked.items) w.self-is) c.keep_lock.ensures.flags)
      | else-may_count w ↦
          counted-nothing c.args.self.now c.keep_lock.new.self c.args.action c.args.reply (search rules) (tally ∙ ap (λ (k : Counter). k.tally) w.self-is)
          (with ∙ ap (λ (k : Counter). reclaiming_with c.args.action k.reclaiming) w.self-is) (subst Flags (ap (λ (k : Counter). k.locked.items) w.self-is) c.keep_lock.ensures.flags)
    ]
