-- Each row tells the draft one reference more, but for the header.
use Rattle.std.proofs.Common.{Bor, ◌≡◌, ◌+◌, List, ℕ, [], ◌∷◌, ◌++◌, length, Some, refl, sym, ◌∙◌, inl, inr, rules, arith, length-append}
use Rattle.csv.specs.Reading.{Reached, default_config, strip_bom}
use Rattle.csv.specs.Records.{fields_of}
use Rattle.csv.specs.declared.parser.State.TheVariants as st
use Rattle.csv.proofs.ReadFacts.{rows-end, rows-more}
use Rattle.nm_trace.specs.Imports.{IsTraceRefusal, HasRecords}
use Rattle.nm_trace.proofs.Rows.{rows-few, strip-shorter}
use Rattle.nm_trace.proofs.Progress.{some-draft, told-more, fault-told, ends-empty, ends-header, ends-trace}
use Rattle.nm_trace.proofs.importing.read_records.Goals as goal

pub loop-item-init : goal.loop-item-init
unfolding Reached
loop-item-init c =
    let fr = c.from_reader-rdr.ensures in
    let start = c.into_iter-item-iterator.ensures.into_iter_gives ∙ refl in
    let rdr = c.into_byte_records-item-items.ensures.rdr in
    rw (start, rdr) (record {
      trim = rw (c.flexible.ensures, c.has_headers.ensures) at fr.trim ∙ c.new-2.ensures.trim;
      ready = inr (inr (rw (c.flexible.ensures, c.has_headers.ensures) at fr.has_headers, fr.headers));
      left = c.into_byte_records-item-items.ensures.left;
      config = rw (c.flexible.ensures, c.has_headers.ensures) at fr.config ∙ c.new-2.ensures.config;
      read = record {
        rest = strip_bom c.args.bytes.now;
        rows = [];
        source_is = fr.source;
        reached = (sym fr.state, refl);
        count = refl;
        told = inl (refl, c.in-Ok.ensures);
      };
    })

pub overflow_add-row : goal.overflow_add-row
overflow_add-row c =
    let read = c.loop-item.invariant.read in
    omega (arith, read.count, c.requires.short, strip-shorter c.args.bytes.now, rows-few st.StartRecord c.loop-item.item-iterator.rdr.state (strip_bom c.args.bytes.now) read.rest read.rows refl read.reached)

pub take_record-requires-clause-draft : goal.take_record-requires-clause-draft
take_record-requires-clause-draft c =
    let read = c.loop-item.invariant.read in
    some-draft (c.args.fast + c.args.slow) c.loop-item.draft read.rows read.told

pub loop-item-preserved : goal.loop-item-preserved
loop-item-preserved c =
    let inv = c.loop-item.invariant in
    let read = inv.read in
    let fields = fields_of c.in-Ok-item.fields in
    let s = rw (c.in-Some.is, c.in-Ok-item.is) at ((c.next.ensures.steps inv.left inv.trim).0 inv.ready) in
    let m = rows-more (λ (s : Bor (List ℕ)). Some s.now) c.loop-item.item-iterator.rdr c.next.new.self.rdr fields default_config st.StartRecord (strip_bom c.args.bytes.now) read.rest read.rows inv.config read.source_is read.reached s.0 in
    let next : c.loop-item.row + 1 ≡ length read.rows + 1 = omega (arith, read.count) in
    record {
      trim = s.0.3 ∙ inv.trim;
      ready = inl s.1;
      left = s.2;
      config = s.0.2 ∙ inv.config;
      read = record {
        rest = m.0;
        rows = read.rows ++ fields ∷ [];
        source_is = m.1;
        reached = m.2;
        count = omega (arith, next, length-append read.rows (fields ∷ []));
        told = told-more (c.args.fast + c.args.slow) (c.loop-item.row + 1) c.loop-item.draft c.take_record.new.draft read.rows fields read.told next c.in_ok-take_record.ensures.header c.in_ok-take_record.ensures.taken;
      };
    }

pub returns-in_err-take_record-clause-fault : goal.returns-in_err-take_record-clause-fault
returns-in_err-take_record-clause-fault c =
    let inv = c.loop-item.invariant in
    let read = inv.read in
    let fields = fields_of c.in-Ok-item.fields in
    let s = rw (c.in-Some.is, c.in-Ok-item.is) at ((c.next.ensures.steps inv.left inv.trim).0 inv.ready) in
    let m = rows-more (λ (s : Bor (List ℕ)). Some s.now) c.loop-item.item-iterator.rdr c.next.new.self.rdr fields default_config st.StartRecord (strip_bom c.args.bytes.now) read.rest read.rows inv.config read.source_is read.reached s.0 in
    let next : c.loop-item.row + 1 ≡ length read.rows + 1 = omega (arith, read.count) in
    let h : IsTraceRefusal c.args.bytes.now c.args.fast c.args.slow c.in_err-take_record.field-0.0 =
    fault-told c.args.bytes.now c.args.fast c.args.slow (c.loop-item.row + 1) c.loop-item.draft read.rows fields c.in_err-take_record.field-0.0 read.told next
    (c.next.new.self.rdr.state, m.0, m.2) c.in_err-take_record.ensures.no_header c.in_err-take_record.ensures.untaken in
    search (rules, h)

pub returns-then-row-eq0-clause-fault : goal.returns-then-row-eq0-clause-fault
returns-then-row-eq0-clause-fault c =
    let inv = c.loop-item.invariant in
    let read = inv.read in
    let s = rw c.in-None.is at ((c.next.ensures.steps inv.left inv.trim).0 inv.ready) in
    let all : HasRecords c.args.bytes.now read.rows = (c.loop-item.item-iterator.rdr.state, read.rest, read.reached, rows-end (λ (s : Bor (List ℕ)). Some s.now) c.loop-item.item-iterator.rdr c.next.new.self.rdr [] default_config read.rest inv.config read.source_is s) in
    ends-empty c.args.bytes.now c.args.fast c.args.slow c.loop-item.draft read.rows read.told (omega (arith, read.count, c.if-row-eq0.true)) all

pub returns-then-row-eq1-clause-fault : goal.returns-then-row-eq1-clause-fault
returns-then-row-eq1-clause-fault c =
    let inv = c.loop-item.invariant in
    let read = inv.read in
    let s = rw c.in-None.is at ((c.next.ensures.steps inv.left inv.trim).0 inv.ready) in
    let all : HasRecords c.args.bytes.now read.rows = (c.loop-item.item-iterator.rdr.state, read.rest, read.reached, rows-end (λ (s : Bor (List ℕ)). Some s.now) c.loop-item.item-iterator.rdr c.next.new.self.rdr [] default_config read.rest inv.config read.source_is s) in
    ends-header c.args.bytes.now c.args.fast c.args.slow c.loop-item.draft read.rows read.told (omega (arith, read.count, c.if-row-eq1.true)) all

pub returns-clause-read : goal.returns-clause-read
returns-clause-read c =
    let inv = c.loop-item.invariant in
    let read = inv.read in
    let s = rw c.in-None.is at ((c.next.ensures.steps inv.left inv.trim).0 inv.ready) in
    let all : HasRecords c.args.bytes.now read.rows = (c.loop-item.item-iterator.rdr.state, read.rest, read.reached, rows-end (λ (s : Bor (List ℕ)). Some s.now) c.loop-item.item-iterator.rdr c.next.new.self.rdr [] default_config read.rest inv.config read.source_is s) in
    ends-trace c.args.bytes.now c.args.fast c.args.slow c.loop-item.draft read.rows read.told (omega (arith, read.count, c.if-row-eq0.false, c.if-row-eq1.false)) all
