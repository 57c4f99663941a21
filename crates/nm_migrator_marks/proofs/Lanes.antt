-- Puts and takes: a page that is put lies in the lane, and the first page of the lane is held when it is taken.
use Rattle.std.proofs.Common.{◌≡◌, ℕ, zero, suc, ◌⊎◌, Bool, true, false, List, [], ◌∷◌, ◌++◌, Option, Some, None, inl, inr, refl, sym, ap, subst, ◌∙◌}
use Rattle.nm_base.specs.Geometry.{Geometry}
use Rattle.nm_action.specs.declared.turn.Lane.TheVariants.{Candidates, Pending}
use Rattle.nm_action.specs.declared.turn.Turn.{Turn}
use Rattle.nm_action.specs.declared.turn.Turn.TheVariants as turn
use Rattle.nm_action.specs.declared.turn.Heard.{Heard}
use Rattle.nm_action.specs.declared.turn.Heard.TheVariants.{PutDone, PutFull, Took, TookNone}
use Rattle.nm_action.specs.Own.{Own}
use Rattle.nm_part.specs.Patterns.{Either}
use Rattle.nm_actor.specs.Turns.{Turns, own_list}
use Rattle.nm_actor.specs.Alone.{FitsLane}
use Rattle.nm_worker.specs.Notes.{Notes, noted_turns, IsPut, IsTake}
use Rattle.nm_migrator_work.specs.Planned.{is_mapped}
use Rattle.nm_migrator.specs.Migrating.{Sequence, PutsTry, Puts, Taken, TakesMappedTry, TakesMapped}
use Rattle.nm_note_marks.specs.Contents.{own_noted}
use Rattle.nm_note_marks.proofs.Patterns.{noted-append}
use Rattle.nm_migrator_marks.proofs.Among.{IsAmong, among-left, among-right}
use Rattle.nm_migrator_marks.proofs.Clearing.{MigratorOutcome, Clears, ClearsWith, ClearsAfter, fits-parts, owed-more}

-- notes of which the first is a turn that is no action
record StartsWith (pages left : List ℕ) (notes back : Notes) (given : Turn) (heard : Heard) : Type 0 where
  own : own_noted notes ≡ own_noted back
  fits : FitsLane Pending pages ((given, heard) ∷ noted_turns back) left

one-turn : (pages left : List ℕ) (notes front back : Notes) (given : Turn) (heard : Heard) → notes ≡ front ++ back → front ≡ record { turn = given; heard = heard; counts = None } ∷ [] → own_list ((given, heard) ∷ []) ≡ []
    → FitsLane Pending pages (noted_turns notes) left → StartsWith pages left notes back given heard
one-turn pages left notes front back given heard is first none fits =
    let F : Turns → Type 0 = λ l. FitsLane Pending pages (l ++ noted_turns back) left in
    record {
      own = ap own_noted is ∙ noted-append front back ∙ ap (λ (l : Own). l ++ own_noted back) (ap own_noted first ∙ none);
      fits = subst F (ap noted_turns first) (fits-parts pages left notes front back is fits);
    }

-- ---- puts into the pending pages

-- what was held with the page, or lay in the lane, is held, or lies in the lane with the page
put-owed : (page : ℕ) (held pages : List ℕ) (b : ℕ) → IsAmong b (page ∷ held) ⊎ IsAmong b pages → IsAmong b held ⊎ IsAmong b (pages ++ page ∷ [])
put-owed page held pages b (inl (inl same)) = inr (among-right b pages (page ∷ []) (inl same))
put-owed page held pages b (inl (inr mine)) = inl mine
put-owed page held pages b (inr there) = inr (among-left b pages (page ∷ []) there)

put-by : (g : Geometry) (held : List ℕ) (page : ℕ) (after : Sequence) → ClearsAfter g held after → (n : ℕ) → ClearsAfter g (page ∷ held) (PutsTry page after n) → (before : Own) (pages : List ℕ) (full : Bool) (notes front back : Notes) (outcome : MigratorOutcome) (left : List ℕ)
    → notes ≡ front ++ back → IsPut Pending page front full → Either full (PutsTry page after n) after back outcome → FitsLane Pending pages (noted_turns notes) left → Clears g before (page ∷ held) pages (own_noted notes) left
put-by g held page after rest n again before pages true notes front back outcome left is put h fits =
    let s = one-turn pages left notes front back (turn.Put Pending page) PutFull is put.is refl fits in
    let C : Own → Type 0 = λ l. Clears g before (page ∷ held) pages l left in
    subst C (sym s.own) (again before pages back outcome left h s.fits)
put-by g held page after rest n again before pages false notes front back outcome left is put h fits =
    let s = one-turn pages left notes front back (turn.Put Pending page) PutDone is put.is refl fits in
    let C : Own → Type 0 = λ l. Clears g before (page ∷ held) pages l left in
    subst C (sym s.own) (owed-more g before (page ∷ held) held pages (pages ++ page ∷ []) (own_noted back) left (λ b mapped owed. put-owed page held pages b owed) (rest before (pages ++ page ∷ []) back outcome left h s.fits))

puts-try : (g : Geometry) (held : List ℕ) (page : ℕ) (after : Sequence) → ClearsAfter g held after → (n : ℕ) → ClearsAfter g (page ∷ held) (PutsTry page after n)
puts-try g held page after rest zero before pages notes outcome left h fits = absurd h
puts-try g held page after rest (suc n) before pages notes outcome left h fits = put-by g held page after rest n (puts-try g held page after rest n) before pages h.end notes h.front h.back outcome left h.is h.shown h.rest fits

pub puts-clears : (g : Geometry) (held : List ℕ) (page : ℕ) (after : Sequence) → ClearsAfter g held after → ClearsAfter g (page ∷ held) (Puts page after)
puts-clears g held page after rest before pages notes outcome left h fits = puts-try g held page after rest h.tries before pages notes outcome left h.is fits

-- a put into the candidates leaves the pending pages
pub put-candidate : (g : Geometry) (held : List ℕ) (page : ℕ) (after : Bool → Sequence) → ((full : Bool) → ClearsAfter g held (after full)) → (before : Own) (pages : List ℕ) (full : Bool) (notes front back : Notes) (outcome : MigratorOutcome) (left : List ℕ)
    → notes ≡ front ++ back → IsPut Candidates page front full → after full back outcome → FitsLane Pending pages (noted_turns notes) left → Clears g before held pages (own_noted notes) left
put-candidate g held page after rest before pages true notes front back outcome left is put h fits =
    let s = one-turn pages left notes front back (turn.Put Candidates page) PutFull is put.is refl fits in
    let C : Own → Type 0 = λ l. Clears g before held pages l left in
    subst C (sym s.own) (rest true before pages back outcome left h s.fits)
put-candidate g held page after rest before pages false notes front back outcome left is put h fits =
    let s = one-turn pages left notes front back (turn.Put Candidates page) PutDone is put.is refl fits in
    let C : Own → Type 0 = λ l. Clears g before held pages l left in
    subst C (sym s.own) (rest false before pages back outcome left h s.fits)

-- ---- takes from the candidates

-- a taken page, by whether some virtual page is mapped to it
taken-by : (g : Geometry) (held pages : List ℕ) (before : Own) (page : ℕ) (one other : Sequence) → (is_mapped g page ≡ true → ClearsWith g before held pages one) → (is_mapped g page ≡ false → ClearsWith g before held pages other)
    → (b : Bool) → is_mapped g page ≡ b → ClearsWith g before held pages (Either b one other)
taken-by g held pages before page one other so then true is = so is
taken-by g held pages before page one other so then false is = then is

take-by : (g : Geometry) (held pages : List ℕ) (before : Own) (after : Option ℕ → Sequence) → ((page : ℕ) → is_mapped g page ≡ true → ClearsWith g before held pages (after (Some page))) → ClearsWith g before held pages (after None)
    → (n : ℕ) → ClearsWith g before held pages (TakesMappedTry g Candidates after n) → (end : Option ℕ) (notes front back : Notes) (outcome : MigratorOutcome) (left : List ℕ) → notes ≡ front ++ back → IsTake Candidates front end → Taken g (TakesMappedTry g Candidates after n) after end back outcome
    → FitsLane Pending pages (noted_turns notes) left → Clears g before held pages (own_noted notes) left
take-by g held pages before after some none n again None notes front back outcome left is take h fits =
    let s = one-turn pages left notes front back (turn.Take Candidates) TookNone is take.is refl fits in
    let C : Own → Type 0 = λ l. Clears g before held pages l left in
    subst C (sym s.own) (none back outcome left h s.fits)
take-by g held pages before after some none n again (Some page) notes front back outcome left is take h fits =
    let s = one-turn pages left notes front back (turn.Take Candidates) (Took page) is take.is refl fits in
    let C : Own → Type 0 = λ l. Clears g before held pages l left in
    subst C (sym s.own) (taken-by g held pages before page (after (Some page)) (TakesMappedTry g Candidates after n) (some page) (λ unmapped. again)
    (is_mapped g page) refl back outcome left h s.fits)

take-candidates-try : (g : Geometry) (held pages : List ℕ) (before : Own) (after : Option ℕ → Sequence) → ((page : ℕ) → is_mapped g page ≡ true → ClearsWith g before held pages (after (Some page))) → ClearsWith g before held pages (after None)
    → (n : ℕ) → ClearsWith g before held pages (TakesMappedTry g Candidates after n)
take-candidates-try g held pages before after some none zero notes outcome left h fits = absurd h
take-candidates-try g held pages before after some none (suc n) notes outcome left h fits = take-by g held pages before after some none n (take-candidates-try g held pages before after some none n) h.end notes h.front h.back outcome left h.is h.shown h.rest fits

pub takes-candidates : (g : Geometry) (held pages : List ℕ) (before : Own) (after : Option ℕ → Sequence) → ((page : ℕ) → is_mapped g page ≡ true → ClearsWith g before held pages (after (Some page))) → ClearsWith g before held pages (after None)
    → ClearsWith g before held pages (TakesMapped g Candidates after)
takes-candidates g held pages before after some none notes outcome left h fits = take-candidates-try g held pages before after some none h.tries notes outcome left h.is fits

-- ---- takes from the pending pages

-- what lay in the lane is the page that was taken, or lies there still
took-owed : (page : ℕ) (held pages rest : List ℕ) (b : ℕ) → pages ≡ page ∷ rest → IsAmong b held ⊎ IsAmong b pages → IsAmong b (page ∷ held) ⊎ IsAmong b rest
took-owed page held pages rest b is (inl mine) = inl (inr mine)
took-owed page held pages rest b is (inr there) =
    let A : List ℕ → Type 0 = λ l. IsAmong b l in
    elim (subst A is there) [
      | inl same ↦ inl (inl same)
      | inr left ↦ inr left
    ]

-- a page that was dropped is no mapped one
dropped-owed : (g : Geometry) (page : ℕ) (held pages rest : List ℕ) (b : ℕ) → pages ≡ page ∷ rest → is_mapped g page ≡ false → is_mapped g b ≡ true → IsAmong b held ⊎ IsAmong b pages → IsAmong b held ⊎ IsAmong b rest
dropped-owed g page held pages rest b is unmapped mapped (inl mine) = inl mine
dropped-owed g page held pages rest b is unmapped mapped (inr there) =
    let A : List ℕ → Type 0 = λ l. IsAmong b l in
    elim (subst A is there) [
      | inl same ↦ absurd (let both : true ≡ false = sym mapped ∙ ap (λ (n : ℕ). is_mapped g n) same ∙ unmapped in cc)
      | inr left ↦ inr left
    ]

took-by : (g : Geometry) (held : List ℕ) (after : Option ℕ → Sequence) → ((page : ℕ) → is_mapped g page ≡ true → ClearsAfter g (page ∷ held) (after (Some page)))
    → (n : ℕ) → ClearsAfter g held (TakesMappedTry g Pending after n) → (before : Own) (pages rest : List ℕ) (page : ℕ) → pages ≡ page ∷ rest → (b : Bool) → is_mapped g page ≡ b → (back : Notes) (outcome : MigratorOutcome) (left : List ℕ) → Either b (after (Some page)) (TakesMappedTry g Pending after n) back outcome
    → FitsLane Pending rest (noted_turns back) left → Clears g before held pages (own_noted back) left
took-by g held after some n again before pages rest page first true is back outcome left h fits =
    owed-more g before held (page ∷ held) pages rest (own_noted back) left (λ b mapped owed. took-owed page held pages rest b first owed) (some page is before rest back outcome left h fits)
took-by g held after some n again before pages rest page first false is back outcome left h fits =
    owed-more g before held held pages rest (own_noted back) left (λ b mapped owed. dropped-owed g page held pages rest b first is mapped owed) (again before rest back outcome left h fits)

take-pending-by : (g : Geometry) (held : List ℕ) (after : Option ℕ → Sequence) → ((page : ℕ) → is_mapped g page ≡ true → ClearsAfter g (page ∷ held) (after (Some page))) → ClearsAfter g held (after None)
    → (n : ℕ) → ClearsAfter g held (TakesMappedTry g Pending after n) → (before : Own) (pages : List ℕ) (end : Option ℕ) (notes front back : Notes) (outcome : MigratorOutcome) (left : List ℕ) → notes ≡ front ++ back → IsTake Pending front end → Taken g (TakesMappedTry g Pending after n) after end back outcome
    → FitsLane Pending pages (noted_turns notes) left → Clears g before held pages (own_noted notes) left
take-pending-by g held after some none n again before pages None notes front back outcome left is take h fits =
    let s = one-turn pages left notes front back (turn.Take Pending) TookNone is take.is refl fits in
    let C : Own → Type 0 = λ l. Clears g before held pages l left in
    subst C (sym s.own) (none before pages back outcome left h s.fits)
take-pending-by g held after some none n again before pages (Some page) notes front back outcome left is take h fits =
    let s = one-turn pages left notes front back (turn.Take Pending) (Took page) is take.is refl fits in
    let C : Own → Type 0 = λ l. Clears g before held pages l left in
    subst C (sym s.own) (took-by g held after some n again before pages s.fits.0 page s.fits.1 (is_mapped g page) refl back outcome left h s.fits.2)

take-pending-try : (g : Geometry) (held : List ℕ) (after : Option ℕ → Sequence) → ((page : ℕ) → is_mapped g page ≡ true → ClearsAfter g (page ∷ held) (after (Some page))) → ClearsAfter g held (after None)
    → (n : ℕ) → ClearsAfter g held (TakesMappedTry g Pending after n)
take-pending-try g held after some none zero before pages notes outcome left h fits = absurd h
take-pending-try g held after some none (suc n) before pages notes outcome left h fits = take-pending-by g held after some none n (take-pending-try g held after some none n) before pages h.end notes h.front h.back outcome left h.is h.shown h.rest fits

pub takes-pending : (g : Geometry) (held : List ℕ) (after : Option ℕ → Sequence) → ((page : ℕ) → is_mapped g page ≡ true → ClearsAfter g (page ∷ held) (after (Some page))) → ClearsAfter g held (after None)
    → ClearsAfter g held (TakesMapped g Pending after)
takes-pending g held after some none before pages notes outcome left h fits = take-pending-try g held after some none h.tries before pages notes outcome left h.is fits
