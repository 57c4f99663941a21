-- The fault of a line is the one with which it is refused.
use Rattle.std.proofs.Common.{◌≡◌, ℕ, ◌⊎◌, Bool, true, false, List, [], ◌∷◌, Option, Some, None, Result, Ok, Err, codes, refl, sym, ap, ◌∙◌, inl, inr}
use Rattle.std.specs.Bool.{if◌then◌else◌}
use Rattle.std.specs.Str.{bytes_eq}
use Rattle.std.proofs.lemmas.Option.{none-some}
use Rattle.std.proofs.lemmas.Slice.Eq.{bytes_eq-Decides}
use Rattle.nm_script.specs.declared.fault.ScriptFault.{ScriptFault}
use Rattle.nm_script.specs.declared.fault.ScriptFault.TheVariants as faults
use Rattle.nm_script.specs.declared.item.Item.{Item}
use Rattle.nm_script.specs.declared.item.Item.TheVariants as items
use Rattle.nm_script.specs.declared.item.Place.{Place}
use Rattle.nm_script.specs.declared.item.Place.TheVariants as places
use Rattle.nm_script.specs.Told.{Told, with_item}
use Rattle.nm_script.specs.Holds.{IsToldSoFar}
use Rattle.nm_script.specs.LineFaults.{IsHeader, Form, item_of, IsFormOf, MayStand, questions, IsLineFault}
use Rattle.nm_script.specs.Reading.{◌>>=◌, header_in, form_at, or_bad_line, item_at, ruled, told_with}
use Rattle.nm_script.proofs.Tellings.{opened, few_nodes}
use Rattle.nm_script.proofs.Questions.{read_as, form-asks, no-refuses, refused-no}
use Rattle.nm_script.proofs.Forms.{form-reads}
use Rattle.nm_script.proofs.FormsFound.{Early, form-found}

early : (s : Told) → IsToldSoFar s → Early s s.place
early s told one =
    let h = opened s (places.Version ∷ places.Page ∷ []) ((λ x. cc), ((λ x. cc), tt)) one told in
    (λ v. elim h.machine.parts [ inl q ↦ absurd (v q.0) | inr t ↦ t.0 ], few_nodes s told one)

-- what a reading of the line gives
abbrev Taken : Told → Option (Result Item ScriptFault) → Result Told ScriptFault
Taken s o = or_bad_line o >>= ruled s

step-is : (s : Told) (line : List ℕ) → told_with s line ≡ Taken s (form_at s s.place line)
unfolding told_with item_at
step-is s line = refl

-- ---- the first line

header_bad : (a b : Bool) (s : Told) (line : List ℕ) → bytes_eq line (codes "nomad 1") ≡ a → bytes_eq line (codes "nomad 2") ≡ b → ¬ IsHeader line
    → ((if a then Ok (items.Version 1) else if b then Ok (items.Version 2) else Err faults.BadHeader) >>= ruled s) ≡ Err faults.BadHeader
header_bad true b s line x y none = absurd (none (inl ((bytes_eq-Decides line (codes "nomad 1")).0 x)))
header_bad false true s line x y none = absurd (none (inr ((bytes_eq-Decides line (codes "nomad 2")).0 y)))
header_bad false false s line x y none = refl

header-refused : (s : Told) (line : List ℕ) → ¬ IsHeader line → Taken s (form_at s places.Begin line) ≡ Err faults.BadHeader
unfolding form_at header_in
header-refused s line none = header_bad (bytes_eq line (codes "nomad 1")) (bytes_eq line (codes "nomad 2")) s line refl refl none

other : (line word : List ℕ) → bytes_eq line word ≡ false → ¬ (line ≡ word)
other line word e is = let same = (bytes_eq-Decides line word).1 is in absurd (cc)

header_case : (a b : Bool) (s : Told) (line : List ℕ) (f : ScriptFault) → bytes_eq line (codes "nomad 1") ≡ a → bytes_eq line (codes "nomad 2") ≡ b → ((if a then Ok (items.Version 1) else if b then Ok (items.Version 2) else Err faults.BadHeader) >>= ruled s) ≡ Err f → ¬ IsHeader line × (f ≡ faults.BadHeader)
header_case true b s line f x y e = absurd (cc)
header_case false true s line f x y e = absurd (cc)
header_case false false s line f x y e = (λ h. elim h [ inl p ↦ other line (codes "nomad 1") x p | inr q ↦ other line (codes "nomad 2") y q ], cc)

refused-header : (s : Told) (line : List ℕ) (f : ScriptFault) → Taken s (form_at s places.Begin line) ≡ Err f → ¬ IsHeader line × (f ≡ faults.BadHeader)
unfolding form_at header_in
refused-header s line f e = header_case (bytes_eq line (codes "nomad 1")) (bytes_eq line (codes "nomad 2")) s line f refl refl e

-- ---- a further line

unread : (s : Told) (line : List ℕ) (o : Option (Result Item ScriptFault)) → IsToldSoFar s → (s.place ≡ places.Begin → ⊥) → ((form : Form) → MayStand s form → ¬ IsFormOf line form) → form_at s s.place line ≡ o → o ≡ None
unread s line None told begun none e = refl
unread s line (Some r) told begun none e = let h = form-found s line r begun (early s told) e in absurd (none h.0 h.1.0 h.1.1)

form-refused : (s : Told) (line : List ℕ) (form : Form) (f : ScriptFault) → Taken s (Some (read_as s form)) ≡ Err f → MayStand s form → IsFormOf line form → IsLineFault s line f
form-refused s line form f e may is =
    let asks = form-asks s form in
    inr (inr (form, may, is, refused-no (questions s form) f (with_item s (item_of s.cpus form)) (sym asks ∙ e)))

refused_case : (s : Told) (line : List ℕ) (f : ScriptFault) (o : Option (Result Item ScriptFault)) → IsToldSoFar s → (s.place ≡ places.Begin → ⊥) → form_at s s.place line ≡ o → Taken s o ≡ Err f → IsLineFault s line f
refused_case s line f None told begun is e =
    inr (inl (begun, (λ form may has. none-some (read_as s form) (sym is ∙ form-reads s line form may has)), cc))
refused_case s line f (Some r) told begun is e =
    let h = form-found s line r begun (early s told) is in
    form-refused s line h.0 f (ap (λ t. Taken s (Some t)) h.1.2 ∙ e) h.1.0 h.1.1

-- ---- both

begins : (p : Place) → (p ≡ places.Begin) ⊎ (p ≡ places.Begin → ⊥)
begins places.Begin = inl refl
begins places.Version = inr (λ e. cc)
begins places.Page = inr (λ e. cc)
begins places.Tier = inr (λ e. cc)
begins places.Cpus = inr (λ e. cc)
begins places.Retry = inr (λ e. cc)
begins places.Order = inr (λ e. cc)
begins places.Plan = inr (λ e. cc)
begins places.Map = inr (λ e. cc)
begins places.Program = inr (λ e. cc)

-- a line with this fault is refused with it
pub line-refused : (s : Told) (line : List ℕ) (f : ScriptFault) → IsToldSoFar s → IsLineFault s line f → told_with s line ≡ Err f
line-refused s line f told fault =
    step-is s line ∙ elim fault [
      | inl a ↦ ap (λ p. Taken s (form_at s p line)) a.0 ∙ header-refused s line a.1 ∙ ap (λ g. Err g) (sym a.2)
      | inr t ↦ elim t [
        | inl b ↦ ap (λ o. Taken s o) (unread s line (form_at s s.place line) told b.0 b.1 refl) ∙ ap (λ g. Err g) (sym b.2)
        | inr c ↦ (
            let asks = form-asks s c.0 in
            ap (λ o. Taken s o) (form-reads s line c.0 c.1 c.2) ∙ asks ∙ no-refuses (questions s c.0) f (with_item s (item_of s.cpus c.0)) c.3)
      ]
    ]

-- a line that is refused has this fault
pub refused-line : (s : Told) (line : List ℕ) (f : ScriptFault) → IsToldSoFar s → told_with s line ≡ Err f → IsLineFault s line f
refused-line s line f told e =
    let read : Taken s (form_at s s.place line) ≡ Err f = sym (step-is s line) ∙ e in
    elim (begins s.place) [
      | inl b ↦ (let h = refused-header s line f (ap (λ p. Taken s (form_at s p line)) (sym b) ∙ read) in inl (b, h.0, h.1))
      | inr begun ↦ refused_case s line f (form_at s s.place line) told begun refl read
    ]

-- a line has one fault
pub one-fault : (s : Told) (line : List ℕ) (f g : ScriptFault) → IsToldSoFar s → IsLineFault s line f → IsLineFault s line g → f ≡ g
one-fault s line f g told a b =
    let x = line-refused s line f told a in
    let y = line-refused s line g told b in
    cc
