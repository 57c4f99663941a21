-- A record of four fields.
use Rattle.std.proofs.Common.{◌≡◌, ◌≢◌, ◌<◌, ℕ, zero, suc, List, [], ◌∷◌, length, Some, None, Option, ap, refl, arith, option_map}
use Rattle.csv.specs.Records.{field_at}
use Rattle.nm_trace.specs.Records.{fields_in, value_in}

-- its fields, as they are got one by one
pub four_fields : (fs : List (List ℕ)) (a b c d : List ℕ) → length fs ≡ 4 → Some a ≡ field_at fs 0 → Some b ≡ field_at fs 1 → Some c ≡ field_at fs 2 → Some d ≡ field_at fs 3
    → fs ≡ a ∷ b ∷ c ∷ d ∷ []
unfolding field_at
four_fields [] a b c d n e f g h = cc n
four_fields (p ∷ []) a b c d n e f g h = absurd (omega (arith, n))
four_fields (p ∷ q ∷ []) a b c d n e f g h = absurd (omega (arith, n))
four_fields (p ∷ q ∷ r ∷ []) a b c d n e f g h = absurd (omega (arith, n))
four_fields (p ∷ q ∷ r ∷ s ∷ []) a b c d n e f g h = cc (e, f, g, h)
four_fields (p ∷ q ∷ r ∷ s ∷ t ∷ fs) a b c d n e f g h = absurd (omega (arith, n))

-- a field that is not there is not one of the first ones
pub field_missing : (fs : List (List ℕ)) (i : ℕ) → i < length fs → ◌≡◌ {A = Option (List ℕ)} None (field_at fs i) → ⊥
unfolding field_at
field_missing [] i h e = omega (arith, h)
field_missing (f ∷ fs) zero h e = cc e
field_missing (f ∷ fs) (suc i) h e = field_missing fs i (omega (arith, h)) e

-- a record of another number of fields is no reference
pub fields_in-none : (fs : List (List ℕ)) → length fs ≢ 4 → fields_in fs ≡ None
unfolding fields_in
fields_in-none [] n = refl
fields_in-none (p ∷ []) n = refl
fields_in-none (p ∷ q ∷ []) n = refl
fields_in-none (p ∷ q ∷ r ∷ []) n = refl
fields_in-none (p ∷ q ∷ r ∷ s ∷ []) n = absurd (n refl)
fields_in-none (p ∷ q ∷ r ∷ s ∷ t ∷ fs) n = refl

-- the number fields of a record of four, by its kind and value
pub fields_in-four : (fs : List (List ℕ)) (cpu kind address value : List ℕ) (o : Option (Option (List ℕ))) → fs ≡ cpu ∷ kind ∷ address ∷ value ∷ [] → value_in kind value ≡ o
    → fields_in fs ≡ option_map (λ v. (cpu, address, v)) o
unfolding fields_in
fields_in-four fs cpu kind address value o e v = rw e (ap (option_map (λ (x : Option (List ℕ)). (cpu, address, x))) v)
