use Rattle.std.proofs.Common.{◌≡◌, ◌≤◌, ◌∙◌, min, length, take, drop, Ok, arith, ap, length-take-le, rules}
use Rattle.std.proofs.lemmas.List.{take_rest}
use Rattle.std.proofs.lemmas.Grind.{common_steps}
use Rattle.nm_io.proofs.MemReads.{front_moved, moved_front, moved_none}
use Rattle.nm_io.specs.Source.{moved_bytes}
use Rattle.nm_io.specs.SourceState.{read_result}
use Rattle.nm_io.proofs.mem_source.MemSourceSource.read.Goals as goal

pub returns-clause-bytes : goal.returns-clause-bytes
returns-clause-bytes c =
    let n = c.min-n.result in
    let into = c.args.into.now in
    let left : drop c.self.inside.taken c.self.inside.bytes.items ≡ c.args.self.now.left = ap (λ s. s.left) c.self.view_is in
    let rest = take_rest c.deref-2.result.now c.self.inside.taken ∙ ap (drop c.self.inside.taken) c.deref-2.ensures.value ∙ left in
    let copied = c.copy_from_slice.ensures.after ∙ ap (take n) rest in
    let within : n ≤ length into = omega arith in
    let long = c.copy_from_slice.ensures.len ∙ length-take-le n into within in
    let count = c.min-n.ensures ∙ ap (λ l. min c.min.result (length l)) rest in
    (moved_front _ _ _ _ _ _ left copied long, moved_none _ into _ c.self.inside.piece c.min.result n long c.self.invariant.1 c.min.ensures count)

pub returns-clause-gives : goal.returns-clause-gives
returns-clause-gives c = λ some.
    let n = c.min-n.result in
    let into = c.args.into.now in
    let left : drop c.self.inside.taken c.self.inside.bytes.items ≡ c.args.self.now.left = ap (λ s. s.left) c.self.view_is in
    let rest = take_rest c.deref-2.result.now c.self.inside.taken ∙ ap (drop c.self.inside.taken) c.deref-2.ensures.value ∙ left in
    let copied = c.copy_from_slice.ensures.after ∙ ap (take n) rest in
    let within : n ≤ length into = omega arith in
    let long = c.copy_from_slice.ensures.len ∙ length-take-le n into within in
    let value : Ok n ≡ read_result c.args.self.now (length into) = search rules in
    record {
      room = length into;
      some = some;
      answer = ap Ok (front_moved c.args.self.now.left into _ n copied long) ∙ ap (λ r. moved_bytes r c.args.self.now.left) value;
      after = grind (arith, common_steps);
    }
