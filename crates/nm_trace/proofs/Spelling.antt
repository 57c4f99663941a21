-- A record that is read as a reference is the record of it.
use Rattle.std.proofs.Common.{◌≡◌, ◌<◌, ◌^◌, ◌%◌, ◌==◌, ◌&&◌, ℕ, Bool, true, false, cond, nat_lt, List, [], ◌∷◌, Option, Some, None, IfSome, Result, Ok, Err, IfOk, option_map, option_and_then, codes, refl, sym, ap, subst, ◌∙◌, arith}
use Rattle.std.specs.Fmt.{decimal}
use Rattle.std.specs.Str.{bytes_eq}
use Rattle.std.proofs.lemmas.Bool.{eqb-true, ltb-true}
use Rattle.std.proofs.lemmas.Slice.Eq.{bytes_eq-Decides}
use Rattle.nm_text.specs.Numbers.{number_of}
use Rattle.nm_text.proofs.NumberLemmas.{number_of-some}
use Rattle.nm_trace.specs.declared.fault.TraceFault.{TraceFault}
use Rattle.nm_trace.specs.declared.fault.TraceFault.TheVariants as faults
use Rattle.nm_trace.specs.declared.reference.Reference.{Reference}
use Rattle.nm_trace.specs.References.{IsReference, kind_field, value_field, record_of}
use Rattle.nm_trace.specs.Records.{NumberFields, value_in, fields_in, number_at, numbers_in, ranged_numbers, reference_of, reference_in}

-- the kind and the value of a record with this value that is to be a number
abbrev kind_text : Option (List ℕ) → List ℕ
kind_text None = codes "r"
kind_text (Some v) = codes "w"

abbrev value_text : Option (List ℕ) → List ℕ
value_text None = []
value_text (Some v) = v

value-case : (w r n : Bool) (kind value : List ℕ) (v : Option (List ℕ)) → bytes_eq kind (codes "w") ≡ w → bytes_eq kind (codes "r") ≡ r → bytes_eq value [] ≡ n
    → ◌≡◌ {A = Option (Option (List ℕ))} (cond w (Some (Some value)) (cond (r && n) (Some None) None)) (Some v) → (kind ≡ kind_text v) × (value ≡ value_text v)
value-case true r n kind value None a b c e = cc e
value-case true r n kind value (Some v) a b c e = ((bytes_eq-Decides kind (codes "w")).0 a, cc e)
value-case false true true kind value None a b c e = ((bytes_eq-Decides kind (codes "r")).0 b, (bytes_eq-Decides value []).0 c)
value-case false true true kind value (Some v) a b c e = cc e
value-case false true false kind value v a b c e = cc e
value-case false false n kind value v a b c e = cc e

four-back : (cpu kind address value : List ℕ) (o : Option (Option (List ℕ))) (f : NumberFields) → value_in kind value ≡ o → ◌≡◌ {A = Option NumberFields} (option_map (λ v. (cpu, address, v)) o) (Some f)
    → cpu ∷ kind ∷ address ∷ value ∷ [] ≡ f.0 ∷ kind_text f.2 ∷ f.1 ∷ value_text f.2 ∷ []
four-back cpu kind address value None f a e = cc e
four-back cpu kind address value (Some v) f a e =
    let same : ◌≡◌ {A = NumberFields} (cpu, address, v) f = cc e in
    let back = value-case (bytes_eq kind (codes "w")) (bytes_eq kind (codes "r")) (bytes_eq value []) kind value v refl refl refl a in
    subst (λ (g : NumberFields). cpu ∷ kind ∷ address ∷ value ∷ [] ≡ g.0 ∷ kind_text g.2 ∷ g.1 ∷ value_text g.2 ∷ []) same (ap (λ k. cpu ∷ k ∷ address ∷ value ∷ []) back.0 ∙ ap (λ x. cpu ∷ kind_text v ∷ address ∷ x ∷ []) back.1)

-- the fields of a record, from those that are to be numbers
fields-back : (row : List (List ℕ)) (f : NumberFields) → fields_in row ≡ Some f → row ≡ f.0 ∷ kind_text f.2 ∷ f.1 ∷ value_text f.2 ∷ []
unfolding fields_in
fields-back [] f e = cc e
fields-back (a ∷ []) f e = cc e
fields-back (a ∷ b ∷ []) f e = cc e
fields-back (a ∷ b ∷ c ∷ []) f e = cc e
fields-back (a ∷ b ∷ c ∷ d ∷ []) f e = four-back a b c d (value_in b d) f refl e
fields-back (a ∷ b ∷ c ∷ d ∷ g ∷ fs) f e = cc e

-- the fields spell these numbers
record AreNumbersOf (f : NumberFields) (r : Reference) : Type 0 where
  cpu_is : f.0 ≡ decimal r.cpu
  address_is : f.1 ≡ decimal r.address
  value_is : f.2 ≡ option_map decimal r.value
  address_fits : r.address < 2 ^ 64
  value_fits : IfSome r.value (λ x. x < 2 ^ 64)

some-back : (o : Option ℕ) (field : List ℕ) (v : Option ℕ) → number_of field ≡ o → ◌≡◌ {A = Option (Option ℕ)} (option_map (λ n. Some n) o) (Some v)
    → (Some field ≡ option_map decimal v) × IfSome v (λ x. x < 2 ^ 64)
some-back None field v a e = cc e
some-back (Some n) field v a e =
    let same : Some n ≡ v = cc e in
    let is = number_of-some field n a in
    subst (λ (u : Option ℕ). (Some field ≡ option_map decimal u) × IfSome u (λ x. x < 2 ^ 64)) same (ap (λ t. Some t) is.0, is.1)

at-back : (o : Option (List ℕ)) (v : Option ℕ) → number_at o ≡ Some v → (o ≡ option_map decimal v) × IfSome v (λ x. x < 2 ^ 64)
at-back None v e =
    let same : ◌≡◌ {A = Option ℕ} None v = cc e in
    subst (λ (u : Option ℕ). (None ≡ option_map decimal u) × IfSome u (λ x. x < 2 ^ 64)) same (refl, tt)
at-back (Some field) v e = some-back (number_of field) field v refl e

numbers-case : (c a : Option ℕ) (v : Option (Option ℕ)) (f : NumberFields) (r : Reference) → number_of f.0 ≡ c → number_of f.1 ≡ a → number_at f.2 ≡ v
    → ◌≡◌ {A = Option Reference} (option_and_then (λ n. option_and_then (λ m. option_and_then (λ x. Some (record { cpu = n; address = m; value = x })) v) a) c) (Some r) → AreNumbersOf f r
numbers-case None a v f r h k l e = cc e
numbers-case (Some c) None v f r h k l e = cc e
numbers-case (Some c) (Some a) None f r h k l e = cc e
numbers-case (Some c) (Some a) (Some v) f r h k l e =
    let same : ◌≡◌ {A = Reference} (record { cpu = c; address = a; value = v }) r = cc e in
    let cpu = number_of-some f.0 c h in
    let address = number_of-some f.1 a k in
    let value = at-back f.2 v l in
    subst (AreNumbersOf f) same (record { cpu_is = cpu.0; address_is = address.0; value_is = value.0; address_fits = address.1; value_fits = value.1 })

numbers-back : (f : NumberFields) (r : Reference) → numbers_in f ≡ Some r → AreNumbersOf f r
unfolding numbers_in
numbers-back f r e = numbers-case (number_of f.0) (number_of f.1) (number_at f.2) f r refl refl refl e

ranged-case : (b c : Bool) (s r : Reference) → nat_lt s.cpu 16 ≡ b → (s.address % 8 == 0) ≡ c → ◌≡◌ {A = Result Reference TraceFault} (cond (b && c) (Ok s) (Err faults.OutOfRange)) (Ok r)
    → (s ≡ r) × (s.cpu < 16) × (s.address % 8 ≡ 0)
ranged-case true true s r h k e = (cc e, ltb-true s.cpu 16 h, eqb-true (s.address % 8) 0 k)
ranged-case true false s r h k e = cc e
ranged-case false c s r h k e = cc e

kind-same : (v : Option ℕ) → kind_text (option_map decimal v) ≡ kind_field v
kind-same None = refl
kind-same (Some x) = refl

value-same : (v : Option ℕ) → value_text (option_map decimal v) ≡ value_field v
value-same None = refl
value-same (Some x) = refl

numbers-ok : (row : List (List ℕ)) (f : NumberFields) (n : Option Reference) (r : Reference) → fields_in row ≡ Some f → numbers_in f ≡ n → ranged_numbers n ≡ Ok r → (row ≡ record_of r) × IsReference r
numbers-ok row f None r a b e = cc e
numbers-ok row f (Some s) r a b e =
    let ranged = ranged-case (nat_lt s.cpu 16) (s.address % 8 == 0) s r refl refl e in
    let is = numbers-back f s b in
    subst (λ (t : Reference). (row ≡ record_of t) × IsReference t) ranged.0 (
      fields-back row f a ∙ ap (λ x. x ∷ kind_text f.2 ∷ f.1 ∷ value_text f.2 ∷ []) is.cpu_is
          ∙ ap (λ x. decimal s.cpu ∷ kind_text f.2 ∷ x ∷ value_text f.2 ∷ []) is.address_is
          ∙ ap (λ x. decimal s.cpu ∷ kind_text x ∷ decimal s.address ∷ value_text x ∷ []) is.value_is
          ∙ ap (λ x. decimal s.cpu ∷ x ∷ decimal s.address ∷ value_text (option_map decimal s.value) ∷ []) (kind-same s.value)
          ∙ ap (λ x. decimal s.cpu ∷ kind_field s.value ∷ decimal s.address ∷ x ∷ []) (value-same s.value),
      record { cpu = omega (arith, ranged.1); address = is.address_fits; aligned = ranged.2; value = is.value_fits },
    )

fields-ok : (row : List (List ℕ)) (o : Option NumberFields) (r : Reference) → fields_in row ≡ o → reference_of o ≡ Ok r → (row ≡ record_of r) × IsReference r
fields-ok row None r a e = cc e
fields-ok row (Some f) r a e = numbers-ok row f (numbers_in f) r a refl e

pub reference_in-ok : (row : List (List ℕ)) (r : Reference) → reference_in row ≡ Ok r → (row ≡ record_of r) × IsReference r
reference_in-ok row r e = fields-ok row (fields_in row) r refl e

-- whatever is read
pub spelled : (read : Result Reference TraceFault) (row : List (List ℕ)) → read ≡ reference_in row → IfOk read (λ r. (row ≡ record_of r) × IsReference r)
spelled (Ok r) row e = reference_in-ok row r (sym e)
spelled (Err f) row e = tt
