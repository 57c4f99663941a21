-- What was read of a text so far.
use Rattle.std.proofs.Common.{◌≡◌, ◌≢◌, ◌⊎◌, ◌+◌, ◌≤◌, ℕ, List, [], ◌∷◌, ◌++◌, length, Option, Some, refl, sym, ap, subst, ◌∙◌, inl, inr, arith}
use Rattle.std.proofs.lemmas.List.{map-append, length-map}
use Rattle.csv.specs.Reading.{Reached, default_config}
use Rattle.csv.specs.declared.parser.State.{State}
use Rattle.csv.specs.declared.parser.State.TheVariants as st
use Rattle.nm_trace.specs.declared.draft.Draft.{Draft}
use Rattle.nm_trace.specs.declared.fault.TraceFault.TheVariants as faults
use Rattle.nm_trace.specs.declared.fault.TraceRefusal.{TraceRefusal}
use Rattle.nm_trace.specs.declared.fault.TraceRefusal.TheVariants as refusals
use Rattle.nm_trace.specs.declared.reference.Reference.{Reference}
use Rattle.nm_trace.specs.References.{IsReference, record_of, header}
use Rattle.nm_trace.specs.Imports.{AreReferences, IsTraceOf, IsFirstTraceFault, IsTraceRefusal, HasRecords, BeginsWith, trace_rows}
use Rattle.nm_trace.specs.Drafts.{IsDraftOf, TakesReference, IsRowRefusal}
use Rattle.nm_trace.proofs.Pages.{all-push}

-- the rows are none, or the header and the records of the references that the draft holds
abbrev pub HasTold : ℕ → Draft → List (List (List ℕ)) → Type 0
HasTold frames draft rows =
    ((rows ≡ []) × IsDraftOf draft [])
    ⊎ ((refs : List Reference) × (rows ≡ trace_rows refs) × AreReferences frames refs × IsDraftOf draft refs)

-- this many rows were read of the text, and told the draft
pub record IsHalfRead (text : List ℕ) (frames : ℕ) (draft : Draft) (row : ℕ) (state : State) (source : Option (List ℕ)) : Type 0 where
  pub rest : List ℕ
  pub rows : List (List (List ℕ))
  pub source_is : source ≡ Some rest
  pub reached : Reached default_config st.StartRecord text rows state rest
  pub count : row ≡ length rows
  pub told : HasTold frames draft rows

pub some-draft : (frames : ℕ) (draft : Draft) (rows : List (List (List ℕ))) → HasTold frames draft rows → (refs : List Reference) × IsDraftOf draft refs
some-draft frames draft rows (inl none) = ([], none.1)
some-draft frames draft rows (inr (refs, is, are, held)) = (refs, held)

no-references : (frames : ℕ) → AreReferences frames []
no-references frames = record { each = tt; room = λ some. absurd (some refl) }

length-rows : (refs : List Reference) → length (trace_rows refs) ≡ length refs + 1
length-rows refs = omega (arith, length-map refs record_of)

-- one row more
pub told-more : (frames n : ℕ) (old new : Draft) (rows : List (List (List ℕ))) (row : List (List ℕ)) → HasTold frames old rows → n ≡ length rows + 1
    → (n ≡ 1 → (new ≡ old) × (row ≡ header)) → (n ≢ 1 → (refs : List Reference) → IsDraftOf old refs → TakesReference new row frames refs) → HasTold frames new (rows ++ row ∷ [])
told-more frames n old new rows row (inl (none, held)) count first later =
    let one : n ≡ 1 = omega (arith, count, ap length none) in
    let (same, head) = first one in
    inr ([], rw (none, head) refl, no-references frames, subst (λ d. IsDraftOf d []) (sym same) held)
told-more frames n old new rows row (inr (refs, is, are, held)) count first later =
    let more : n ≢ 1 = λ one. omega (arith, one, count, ap length is, length-rows refs) in
    let t = later more refs held in
    inr (
      refs ++ t.reference ∷ [],
      ap (λ rs. rs ++ row ∷ []) is ∙ ap (λ r. trace_rows refs ++ r ∷ []) t.spelled ∙ ap (λ rs. header ∷ rs) (sym (map-append record_of refs (t.reference ∷ []))),
      record { each = all-push IsReference refs t.reference are.each t.is; room = λ some. t.room },
      t.held,
    )

refusal-told : (bytes : List ℕ) (fast slow n : ℕ) (refs : List Reference) (row : List (List ℕ)) (e : TraceRefusal) → AreReferences (fast + slow) refs → n ≡ length refs + 2
    → BeginsWith bytes (trace_rows refs ++ row ∷ []) → IsRowRefusal (fast + slow) refs row n e → IsTraceRefusal bytes fast slow e
refusal-told bytes fast slow n refs row refusals.Memory are count begins h = tt
refusal-told bytes fast slow n refs row (refusals.At f k) are count begins h =
    inr (inl (record { front = refs; row = row; rows = begins; are = are; fault = h.1; count = h.0 ∙ count }))

-- the first row with a fault
pub fault-told : (bytes : List ℕ) (fast slow n : ℕ) (old : Draft) (rows : List (List (List ℕ))) (row : List (List ℕ)) (e : TraceRefusal) → HasTold (fast + slow) old rows → n ≡ length rows + 1
    → BeginsWith bytes (rows ++ row ∷ [])
    → (n ≡ 1 → (e ≡ refusals.At faults.BadHeader 1) × (row ≢ header)) → (n ≢ 1 → (refs : List Reference) → IsDraftOf old refs → IsRowRefusal (fast + slow) refs row n e) → IsTraceRefusal bytes fast slow e
fault-told bytes fast slow n old rows row e (inl (none, held)) count begins first later =
    let one : n ≡ 1 = omega (arith, count, ap length none) in
    let (same, other) = first one in
    subst (IsTraceRefusal bytes fast slow) (sym same) (inl (refl, refl, inr (row, subst (λ rs. BeginsWith bytes (rs ++ row ∷ [])) none begins, other)))
fault-told bytes fast slow n old rows row e (inr (refs, is, are, held)) count begins first later =
    let more : n ≢ 1 = λ one. omega (arith, one, count, ap length is, length-rows refs) in
    refusal-told bytes fast slow n refs row e are (omega (arith, count, ap length is, length-rows refs)) (subst (λ rs. BeginsWith bytes (rs ++ row ∷ [])) is begins) (later more refs held)

-- the end of the text, after no row, after the header alone, or after references
pub ends-empty : (bytes : List ℕ) (fast slow : ℕ) (draft : Draft) (rows : List (List (List ℕ))) → HasTold (fast + slow) draft rows → length rows ≡ 0 → HasRecords bytes rows
    → IsFirstTraceFault bytes fast slow faults.BadHeader 1
ends-empty bytes fast slow draft rows (inl (none, held)) count all = inl (refl, refl, inl (subst (HasRecords bytes) none all))
ends-empty bytes fast slow draft rows (inr (refs, is, are, held)) count all = absurd (omega (arith, count, ap length is, length-rows refs))

empty-list : {A : Type 0} (xs : List A) → length xs ≡ 0 → xs ≡ []
empty-list [] e = refl
empty-list (x ∷ xs) e = absurd (omega (arith, e))

pub ends-header : (bytes : List ℕ) (fast slow : ℕ) (draft : Draft) (rows : List (List (List ℕ))) → HasTold (fast + slow) draft rows → length rows ≡ 1 → HasRecords bytes rows
    → IsFirstTraceFault bytes fast slow faults.Empty 2
ends-header bytes fast slow draft rows (inl (none, held)) count all = absurd (omega (arith, count, ap length none))
ends-header bytes fast slow draft rows (inr (refs, is, are, held)) count all =
    let none : refs ≡ [] = empty-list refs (omega (arith, count, ap length is, length-rows refs)) in
    inr (inr (inl (refl, refl, subst (HasRecords bytes) (is ∙ ap trace_rows none) all)))

pub ends-trace : (bytes : List ℕ) (fast slow : ℕ) (draft : Draft) (rows : List (List (List ℕ))) → HasTold (fast + slow) draft rows → 2 ≤ length rows → HasRecords bytes rows
    → (refs : List Reference) × IsTraceOf bytes (fast + slow) refs × IsDraftOf draft refs
ends-trace bytes fast slow draft rows (inl (none, held)) count all = absurd (omega (arith, count, ap length none))
ends-trace bytes fast slow draft rows (inr (refs, is, are, held)) count all =
    (refs, record { rows = subst (HasRecords bytes) is all; some = λ none. omega (arith, count, ap length is, length-rows refs, ap length none); are = are }, held)
