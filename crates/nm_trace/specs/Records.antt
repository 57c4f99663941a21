-- What one record of a trace says, or which fault it has by itself.
use Rattle.std.specs.Prelude.{ℕ, ◌%◌, ◌==◌, ◌&&◌, nat_lt, if◌then◌else◌, List, [], ◌∷◌, Option, Some, None, option_map, Result, Ok, Err, codes}
use Rattle.std.specs.Str.{bytes_eq}
use Rattle.nm_text.specs.Fields.{◌>>=◌}
use Rattle.nm_text.specs.Numbers.{number_of}
use Rattle.nm_trace.specs.declared.fault.TraceFault.{TraceFault}
use Rattle.nm_trace.specs.declared.fault.TraceFault.TheVariants as faults
use Rattle.nm_trace.specs.declared.reference.Reference.{Reference}

-- the fields that are to be numbers: the processor, the address, and for a store the value
abbrev pub NumberFields : Type 0
NumberFields = List ℕ × List ℕ × Option (List ℕ)

-- the value that is to be a number: that of a store; a load has none
abbrev pub value_in : List ℕ → List ℕ → Option (Option (List ℕ))
value_in kind value =
    if bytes_eq kind (codes "w") then Some (Some value)
    else if bytes_eq kind (codes "r") && bytes_eq value [] then Some None
    else None

-- the number fields of a record of four fields, whose kind is r with no value, or w
unfoldable pub fields_in : List (List ℕ) → Option NumberFields
fields_in [] = None
fields_in (a ∷ []) = None
fields_in (a ∷ b ∷ []) = None
fields_in (a ∷ b ∷ c ∷ []) = None
fields_in (cpu ∷ kind ∷ address ∷ value ∷ []) = option_map (λ v. (cpu, address, v)) (value_in kind value)
fields_in (a ∷ b ∷ c ∷ d ∷ e ∷ fs) = None

abbrev pub number_at : Option (List ℕ) → Option (Option ℕ)
number_at None = Some None
number_at (Some field) = option_map (λ n. Some n) (number_of field)

-- the numbers that the fields spell
unfoldable pub numbers_in : NumberFields → Option Reference
numbers_in f = do
  c ← number_of f.0
  a ← number_of f.1
  v ← number_at f.2
  Some (record { cpu = c; address = a; value = v })

-- one of sixteen processors, and the address of a word
abbrev pub ranged_reference : Reference → Result Reference TraceFault
ranged_reference r = if nat_lt r.cpu 16 && (r.address % 8 == 0) then Ok r else Err faults.OutOfRange

abbrev pub ranged_numbers : Option Reference → Result Reference TraceFault
ranged_numbers None = Err faults.BadNumber
ranged_numbers (Some r) = ranged_reference r

abbrev pub reference_of : Option NumberFields → Result Reference TraceFault
reference_of None = Err faults.BadRecord
reference_of (Some f) = ranged_numbers (numbers_in f)

-- the reference of a record; else the form, then that the fields are numbers, then their ranges
abbrev pub reference_in : List (List ℕ) → Result Reference TraceFault
reference_in row = reference_of (fields_in row)
