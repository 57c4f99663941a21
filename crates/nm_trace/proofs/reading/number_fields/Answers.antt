-- By the fields of a record of four.
use Rattle.std.proofs.Common.{Some, None, sym, option_map}
use Rattle.csv.specs.Records.{fields_of}
use Rattle.nm_trace.proofs.Records.{fields_in-none, fields_in-four}
use Rattle.nm_trace.proofs.reading.number_fields.Goals as goal

pub returns-in_err-cpu-clause-none : goal.returns-in_err-cpu-clause-none
returns-in_err-cpu-clause-none c = rw c.from_residual.ensures (fields_in-none (fields_of c.args.fields.now) c.in_err-cpu.ensures.none)

pub returns-in_err-value-clause-none : goal.returns-in_err-value-clause-none
returns-in_err-value-clause-none c =
    rw c.from_residual-in_err-value.ensures
    (fields_in-four (fields_of c.args.fields.now) c.in_ok-cpu.cpu.now c.in_ok-cpu.kind.now c.in_ok-cpu.address.now c.in_ok-cpu.value.now None c.in_ok-cpu.ensures.some (sym c.in_err-value.ensures))

pub returns-clause-some : goal.returns-clause-some
returns-clause-some c =
    fields_in-four (fields_of c.args.fields.now) c.in_ok-cpu.cpu.now c.in_ok-cpu.kind.now c.in_ok-cpu.address.now c.in_ok-cpu.value.now (Some (option_map (λ s. s.now) c.in_ok-value.value))
    c.in_ok-cpu.ensures.some (sym c.in_ok-value.ensures)
