-- The bytes that were read to their end are a journal that was judged, or their script part has a first fault.
use Rattle.std.proofs.Common.{◌≤◌, length, subst, sym, rules}
use Rattle.nm_io.specs.declared.sources.TheConstants.{MOST_BYTES}
use Rattle.nm_answer.proofs.Causes.{HasRead}
use Rattle.nm_check_call.proofs.Judging.{IsJudging-verdict, IsJudging-refused}
use Rattle.nm_check_call.proofs.checking.judged.Goals as goal

pub returns-in-Ok-check : goal.returns-in-Ok-check
returns-in-Ok-check g c =
    let few : length c.in-Ok.bytes.items ≤ MOST_BYTES = search rules in
    let read : HasRead (record { left = g.S.Source.left; faults = g.S.Source.faults; gives = g.S.Source.read_gives }) c.args.source.now c.read_all.new.src c.in-Ok.bytes.items
    = record { few = few; reads = c.in-Ok.ensures.calls; all = c.in-Ok.ensures.reads.all; kept = c.in-Ok.ensures.kept (λ e. absurd (cc)) } in
    IsJudging-verdict _ _ _ c.deref.result.now _ (subst (HasRead _ c.args.source.now c.read_all.new.src) (sym c.deref.ensures.value) read) c.in-Ok-check.ensures.cause c.in-Ok-check.ensures.answers

pub returns : goal.returns
returns g c =
    let few : length c.in-Ok.bytes.items ≤ MOST_BYTES = search rules in
    let read : HasRead (record { left = g.S.Source.left; faults = g.S.Source.faults; gives = g.S.Source.read_gives }) c.args.source.now c.read_all.new.src c.in-Ok.bytes.items
    = record { few = few; reads = c.in-Ok.ensures.calls; all = c.in-Ok.ensures.reads.all; kept = c.in-Ok.ensures.kept (λ e. absurd (cc)) } in
    rw c.status_of_text.ensures (IsJudging-refused _ _ _ c.deref.result.now c.in-Err-check.refusal (subst (HasRead _ c.args.source.now c.read_all.new.src) (sym c.deref.ensures.value) read) c.in-Err-check.ensures.cause c.in-Err-check.ensures.answers)
