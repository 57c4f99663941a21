-- The draft of a trace has a processor and a page, and its script is one that a text can say.
use Rattle.std.proofs.Common.{◌≡◌, length, ap, sym, subst, ◌∙◌, refl, inr, arith}
use Rattle.nm_script.specs.Script.{IsScript, script_text}
use Rattle.nm_trace.specs.Imports.{pages_seen, cpus_seen, script_for}
use Rattle.nm_trace.proofs.Geometries.{AreSizes}
use Rattle.nm_trace.proofs.Validity.{IsScript-script_for, some-cpus, some-pages}
use Rattle.nm_trace.proofs.importing.read_script.Goals as goal

pub finish-requires-clause-cpus : goal.finish-requires-clause-cpus
finish-requires-clause-cpus c =
    let read = c.in_ok-draft.ensures.read in
    (omega (arith, read.2.cpus, some-cpus read.0 read.1.some), omega (arith, read.2.cpus, read.2.few))

pub finish-requires-clause-pages : goal.finish-requires-clause-pages
finish-requires-clause-pages c =
    let read = c.in_ok-draft.ensures.read in
    omega (arith, ap length read.2.pages, some-pages read.0 read.1.some read.2.seen)

pub print-requires : goal.print-requires
print-requires c =
    let read = c.in_ok-draft.ensures.read in
    let refs = read.0 in
    let sizes : AreSizes c.args.fast c.args.slow (cpus_seen refs) (length (pages_seen refs)) = record {
      some_fast = c.requires.fast;
      some_slow = c.requires.slow;
      sum = c.requires.sum;
      some_cpus = (some-cpus refs read.1.some, read.2.few);
      some_pages = some-pages refs read.1.some read.2.seen;
      room = read.1.are.room read.1.some;
    } in
    subst IsScript (sym (c.in-Ok.ensures.script refs read.2)) (IsScript-script_for c.args.fast c.args.slow refs sizes read.1.are.each read.2.seen)

pub returns-then-len-gt-MOST_BYTES-clause-fault : goal.returns-then-len-gt-MOST_BYTES-clause-fault
returns-then-len-gt-MOST_BYTES-clause-fault c =
    let read = c.in_ok-draft.ensures.read in
    let same : length c.in-Ok-print.text.items ≡ length (script_text (script_for c.args.fast c.args.slow read.0)) =
    ap length (c.in-Ok-print.ensures.text ∙ ap script_text (c.in-Ok.ensures.script read.0 read.2)) in
    inr (inr (inr (refl, refl, record { refs = read.0; trace = read.1; long = omega (arith, same, c.if-len-gt-MOST_BYTES.true, c.in-Ok-print.text.ok.0) })))
