-- A record of four fields has its first four.
use Rattle.std.proofs.Common.{arith}
use Rattle.csv.specs.Records.{fields_of}
use Rattle.nm_trace.proofs.Records.{four_fields, field_missing}
use Rattle.nm_trace.proofs.reading.four_fields.Goals as goal

pub returns-in_err-a-clause-none : goal.returns-in_err-a-clause-none
returns-in_err-a-clause-none c = rw c.from_residual.ensures (λ four. field_missing (fields_of c.args.fields.now) 0 (omega (arith, four)) c.in_err-a.ensures.value)

pub returns-in_err-b-clause-none : goal.returns-in_err-b-clause-none
returns-in_err-b-clause-none c = rw c.from_residual-in_err-b.ensures (λ four. field_missing (fields_of c.args.fields.now) 1 (omega (arith, four)) c.in_err-b.ensures.value)

pub returns-in_err-c-clause-none : goal.returns-in_err-c-clause-none
returns-in_err-c-clause-none c = rw c.from_residual-in_err-c.ensures (λ four. field_missing (fields_of c.args.fields.now) 2 (omega (arith, four)) c.in_err-c.ensures.value)

pub returns-in_err-d-clause-none : goal.returns-in_err-d-clause-none
returns-in_err-d-clause-none c = rw c.from_residual-in_err-d.ensures (λ four. field_missing (fields_of c.args.fields.now) 3 (omega (arith, four)) c.in_err-d.ensures.value)

pub returns-clause-some : goal.returns-clause-some
returns-clause-some c =
    four_fields (fields_of c.args.fields.now) c.in_ok-a.a.now c.in_ok-b.b.now c.in_ok-c.c.now c.in_ok-d.d.now (omega (arith, c.if-len-ne4.false, c.len.ensures))
    c.in_ok-a.ensures.value c.in_ok-b.ensures.value c.in_ok-c.ensures.value c.in_ok-d.ensures.value
