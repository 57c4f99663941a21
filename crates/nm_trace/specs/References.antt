-- Memory references, and how a record of a trace spells one.
use Rattle.std.specs.Prelude.{◌≡◌, ℕ, ◌%◌, ◌^◌, ◌<◌, ◌≤◌, List, [], ◌∷◌, ◌++◌, Option, Some, None, IfSome, codes}
use Rattle.std.specs.Fmt.{decimal}
use Rattle.nm_trace.specs.declared.reference.Reference.{Reference}

-- a reference that a trace can have: one of 16 processors, and the address of a word
pub record IsReference (r : Reference) : Type 0 where
  pub cpu : r.cpu ≤ 15
  pub address : r.address < 2 ^ 64
  pub aligned : r.address % 8 ≡ 0
  pub value : IfSome r.value (λ x. x < 2 ^ 64)

-- r for a load, and w for a store
abbrev pub kind_field : Option ℕ → List ℕ
kind_field None = codes "r"
kind_field (Some x) = codes "w"

-- nothing for a load, and the value for a store
abbrev pub value_field : Option ℕ → List ℕ
value_field None = []
value_field (Some x) = decimal x

-- the fields of the record of a reference: the processor, the kind, the address and the value
abbrev pub record_of : Reference → List (List ℕ)
record_of r = decimal r.cpu ∷ kind_field r.value ∷ decimal r.address ∷ value_field r.value ∷ []

-- the fields of the first record
abbrev pub header : List (List ℕ)
header = codes "cpu" ∷ codes "kind" ∷ codes "address" ∷ codes "value" ∷ []

-- the bytes of the record of a reference, where no field has quotes
abbrev pub reference_text : Reference → List ℕ
reference_text r =
    decimal r.cpu ++ 44 ∷ (kind_field r.value ++ 44 ∷ (decimal r.address ++ 44 ∷ (value_field r.value ++ 10 ∷ [])))
