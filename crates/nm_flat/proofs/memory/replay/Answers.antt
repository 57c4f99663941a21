-- The list is legal as far as each access told the truth, and not from the first that did not.
use Rattle.std.proofs.Common.{◌≡◌, take, length, sym, arith, subst}
use Rattle.std.proofs.Math.Seq.{take-append_seam}
use Rattle.nm_flat.specs.Memory.{IsMemory, memory_after}
use Rattle.nm_flat.proofs.Legal.{IsLegal-get_or, IsLegal-take, memory_after-take}
use Rattle.nm_flat.proofs.memory.replay.Goals as goal

pub returns-then-not-apply-clause-none : goal.returns-then-not-apply-clause-none
returns-then-not-apply-clause-none c = λ legal.
    let g = c.args.g.now in
    let memory : IsMemory g c.deref_mut.result.now (memory_after g (take c.loop-access.access-index c.args.list.now)) = rw c.deref_mut.ensures.value c.loop-access.invariant.memory in
    let told = (c.apply.ensures.truth _ memory).1 (IsLegal-get_or g c.args.list.now c.loop-access.access-index _ c.loop-access-test.true legal) in
    cc

pub loop-access-preserved : goal.loop-access-preserved
loop-access-preserved c =
    let g = c.args.g.now in
    let within = c.loop-access-test.true in
    let memory : IsMemory g c.deref_mut.result.now (memory_after g (take c.loop-access.access-index c.args.list.now)) = rw c.deref_mut.ensures.value c.loop-access.invariant.memory in
    let told = (c.apply.ensures.truth _ memory).0 c.if-not-apply.false in
    let len : c.loop-access.words.len ≡ length c.apply.new.words = omega arith in
    record {
      legal = IsLegal-take g c.args.list.now c.loop-access.access-index _ within c.loop-access.invariant.legal told;
      memory = rw (len, take-append_seam c.apply.new.words _) (subst (IsMemory g c.apply.new.words) (sym (memory_after-take g c.args.list.now c.loop-access.access-index _ within)) (c.apply.ensures.memory _ memory));
    }
