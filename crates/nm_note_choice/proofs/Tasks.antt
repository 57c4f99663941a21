-- Tasks leave no choice.
use Rattle.std.proofs.Common.{◌≡◌, ◌≢◌, ◌⊎◌, inl, inr, ⊎_elim, ℕ, Bool, true, false, List, [], ◌∷◌, ◌++◌, Option, Some, None, refl, sym, ap, ap₂, ◌∙◌}
use Rattle.std.proofs.lemmas.Bool.{cases_eq}
use Rattle.nm_base.specs.Geometry.{Geometry}
use Rattle.nm_action.specs.declared.action.Action.{Action}
use Rattle.nm_action.specs.declared.action.Reply.{Reply}
use Rattle.nm_action.specs.declared.tally.Tally.{Tally}
use Rattle.nm_action.specs.declared.turn.Lane.{Lane}
use Rattle.nm_action.specs.declared.turn.Turn.{Turn}
use Rattle.nm_action.specs.declared.turn.Turn.TheVariants as turn
use Rattle.nm_action.specs.declared.turn.Heard.{Heard}
use Rattle.nm_action.specs.declared.turn.Heard.TheVariants.{Answer}
use Rattle.nm_action.specs.Own.{Own}
use Rattle.nm_worker.specs.Notes.{Noted, Notes, uncounted, counts_last, worked, IsWorkDone, put_heard, IsPut, take_heard, IsTake}
use Rattle.nm_worker.proofs.NoteLists.{worked-with}
use Rattle.nm_choice.specs.Deterministic.{Diverge, Coincide, AreRepliesApart, AgreeOnTold}
use Rattle.nm_choice.proofs.Diverging.{part-here, part-behind, part-as, both-same}
use Rattle.nm_choice.proofs.Answers.{answers-apart, pages-apart, took-not-none, done-not-full}
use Rattle.nm_note_choice.specs.NotesApart.{AreNotesApart, IsDeterministicRoutine}

-- ---- a piece of work

-- lists that diverge do so as notes, whatever is counted at their ends
worked-apart : (one two : Tally) (own other : Own) → Diverge AreRepliesApart own other → Diverge AreNotesApart (worked one own) (worked two other)
worked-apart one two own other d =
    let here : Noted = record { turn = turn.Do d.here.0; heard = Answer d.here.1; counts = counts_last one d.rest } in
    let there : Noted = record { turn = turn.Do d.there.0; heard = Answer d.there.1; counts = counts_last two d.more } in
    part-as AreNotesApart (worked one own) (worked two other) (uncounted d.front ++ here ∷ worked one d.rest) (uncounted d.front ++ there ∷ worked two d.more)
    (ap (worked one) d.is ∙ worked-with one d.front d.here d.rest) (ap (worked two) d.other_is ∙ worked-with two d.front d.there d.more)
    (part-behind AreNotesApart (uncounted d.front) (here ∷ worked one d.rest) (there ∷ worked two d.more)
    (part-here AreNotesApart here there (worked one d.rest) (worked two d.more)
    (record { same = ap turn.Do d.parts.same; differ = answers-apart d.here.1 d.there.1 d.parts.differ })))

-- a piece of work of which this is told, by which the end is counted
pub work-told : {M X Y : Type 0} (shape : M → Geometry → Own → X → Type 0) (counts : X → Tally) (work : M) (g : Geometry) (tell : X → Y) → ((one two : X) → tell one ≡ tell two → counts one ≡ counts two)
    → AgreeOnTold AreRepliesApart tell (shape work g) (shape work g) → AgreeOnTold AreNotesApart tell (IsWorkDone shape counts work g) (IsWorkDone shape counts work g)
work-told shape counts work g tell counted so notes others one two h k =
    ⊎_elim
    (λ d. inl (part-as AreNotesApart notes others (worked (counts one) h.own) (worked (counts two) k.own) h.is k.is (worked-apart (counts one) (counts two) h.own k.own d)))
    (λ s. inr (both-same notes others (tell one) (tell two) (h.is ∙ ap₂ (λ (t : Tally) (l : Own). worked t l) (counted one two s.ends) s.list ∙ sym k.is) s.ends))
    (so h.own k.own one two h.shown k.shown)

-- ---- puts and takes

-- one turn that was heard in two ways, or not
one_note : {X : Type 0} (given : Turn) (heard : X → Heard) (one two : X) (notes others : Notes) → notes ≡ record { turn = given; heard = heard one; counts = None } ∷ [] → others ≡ record { turn = given; heard = heard two; counts = None } ∷ []
    → (one ≡ two) ⊎ (heard one ≢ heard two) → Diverge AreNotesApart notes others ⊎ Coincide notes one others two
one_note {X} given heard one two notes others is other_is (inl same) =
    inr (both-same notes others one two (is ∙ ap (λ (x : X). record { turn = given; heard = heard x; counts = None } ∷ []) same ∙ sym other_is) same)
one_note given heard one two notes others is other_is (inr differ) =
    let here : Noted = record { turn = given; heard = heard one; counts = None } in
    let there : Noted = record { turn = given; heard = heard two; counts = None } in
    inl (part-as AreNotesApart notes others (here ∷ []) (there ∷ []) is other_is (part-here AreNotesApart here there [] [] (record { same = refl; differ = differ })))

one_put : (one two : Bool) → (one ≡ two) ⊎ (put_heard one ≢ put_heard two)
one_put true true = inl refl
one_put false false = inl refl
one_put true false = inr (λ same. done-not-full (sym same))
one_put false true = inr done-not-full

pub put-one : (lane : Lane) (page : ℕ) → IsDeterministicRoutine (IsPut lane page)
put-one lane page notes others one two h k = one_note (turn.Put lane page) put_heard one two notes others h.is k.is (one_put one two)

one_page : (one two : ℕ) → (one ≡ two) ⊎ (one ≢ two) → (Some one ≡ Some two) ⊎ (take_heard (Some one) ≢ take_heard (Some two))
one_page one two (inl same) = inl (ap Some same)
one_page one two (inr differ) = inr (pages-apart one two differ)

one_take : (one two : Option ℕ) → (one ≡ two) ⊎ (take_heard one ≢ take_heard two)
one_take None None = inl refl
one_take None (Some page) = inr (λ same. took-not-none page (sym same))
one_take (Some page) None = inr (took-not-none page)
one_take (Some page) (Some other) = one_page page other (cases_eq page other)

pub take-one : (lane : Lane) → IsDeterministicRoutine (IsTake lane)
take-one lane notes others one two h k = one_note (turn.Take lane) take_heard one two notes others h.is k.is (one_take one two)
