-- Which next line no journal that holds goes on with.
use Rattle.std.proofs.Common.{◌≡◌, ◌≢◌, ℕ, ◌+◌, ◌<◌, Bool, true, false, List, [], ◌∷◌, ◌++◌, map, Option, Some, None, codes, refl, sym, ap, ◌∙◌, subst, arith, append_assoc, append-nil, inl, inr}
use Rattle.std.specs.Prelude.{◌⊎◌, IfSome}
use Rattle.std.specs.List.{AllByRecursion}
use Rattle.std.proofs.lemmas.Option.{same_Some}
use Rattle.nm_action.specs.declared.action.Event.{Event}
use Rattle.nm_core.specs.State.{State}
use Rattle.nm_core.specs.Runs.{IsStep, access_of, state_after}
use Rattle.nm_core.specs.EndWords.{EndWords, IsEndOf}
use Rattle.nm_script.specs.Plain.{Script}
use Rattle.nm_script.specs.Items.{line}
use Rattle.nm_report.specs.declared.line_result.LineResult.{LineResult}
use Rattle.nm_text.specs.Cuts.{Lacks, cut_of}
use Rattle.nm_text.proofs.CutLemmas.{cut_of-again}
use Rattle.nm_event_text.specs.Events.{FitsEvent, event_text, IsEventLine}
use Rattle.nm_event_text.proofs.Readings.{one_event}
use Rattle.nm_event_text.proofs.Newlines.{event_lacks, event_other}
use Rattle.nm_follow.specs.Cursors.{Cursor}
use Rattle.nm_journal_text.specs.Journals.{told_text, events_text, body_text, TellsOfEvents, IsBody}
use Rattle.nm_journal_text.specs.Taken.{AreTaken, results_in, AreWhole, IsEventRefused}
use Rattle.nm_journal_text.specs.Verdicts.{joined, IsBegun}
use Rattle.nm_journal_text.proofs.Ends.{one_end}
use Rattle.nm_journal_text.proofs.Beginning.{lines-events, told_taken, taken_told}
use Rattle.nm_journal_text.proofs.More.{refused_more}

-- a line and what follows it
pub one_line : (a b x y : List ℕ) → Lacks 10 a → Lacks 10 b → a ++ 10 ∷ x ≡ b ++ 10 ∷ y → (a ≡ b) × (x ≡ y)
one_line a b x y h k e =
    let same : (a, x) ≡ (b, y) = same_Some _ _ (sym (cut_of-again 10 a x h) ∙ ap (cut_of 10) e ∙ cut_of-again 10 b y k) in
    (ap (λ (p : List ℕ × List ℕ). p.0) same, ap (λ (p : List ℕ × List ℕ). p.1) same)

-- a text that begins with a line
pub front_line : (a x : List ℕ) → line a ++ x ≡ a ++ 10 ∷ x
front_line a x = append_assoc a (10 ∷ []) x

abbrev GoesOn : List Event → List Event → List ℕ → Type 0
GoesOn events all l = (e : Event) × (more : List Event) × (all ≡ events ++ e ∷ more) × IsEventLine l e

abbrev Reports : List Event → List Event → List ℕ → List ℕ → List ℕ → Type 0
Reports events all l x y = (all ≡ events) × (l ≡ codes "report") × (x ≡ y)

-- behind the lines of some events stands the line of one more, or the line report
next_line : (events all : List Event) (l x y : List ℕ) → AllByRecursion FitsEvent events → AllByRecursion FitsEvent all → Lacks 10 l
    → events_text events ++ (l ++ 10 ∷ x) ≡ events_text all ++ (codes "report" ++ 10 ∷ y) → GoesOn events all l ⊎ Reports events all l x y
next_line [] [] l x y h k lacks e = let s = one_line l (codes "report") x y lacks refl e in inr (refl, s.0, s.1)
next_line [] (a ∷ all) l x y h k lacks e =
    let s = one_line l (event_text a) x (events_text all ++ (codes "report" ++ 10 ∷ y)) lacks (event_lacks a k.0)
    (e ∙ append_assoc (line (event_text a)) (events_text all) (codes "report" ++ 10 ∷ y) ∙ front_line (event_text a) (events_text all ++ (codes "report" ++ 10 ∷ y))) in
    inl (a, all, refl, record { fits = k.0; is = s.0 })
next_line (a ∷ events) [] l x y h k lacks e =
    let s = one_line (event_text a) (codes "report") (events_text events ++ (l ++ 10 ∷ x)) y (event_lacks a h.0) refl
    (sym (append_assoc (line (event_text a)) (events_text events) (l ++ 10 ∷ x) ∙ front_line (event_text a) (events_text events ++ (l ++ 10 ∷ x))) ∙ e) in
    absurd (event_other a h.0 s.0)
next_line (a ∷ events) (b ∷ all) l x y h k lacks e =
    let s = one_line (event_text a) (event_text b) (events_text events ++ (l ++ 10 ∷ x)) (events_text all ++ (codes "report" ++ 10 ∷ y)) (event_lacks a h.0) (event_lacks b k.0)
    (sym (append_assoc (line (event_text a)) (events_text events) (l ++ 10 ∷ x) ∙ front_line (event_text a) (events_text events ++ (l ++ 10 ∷ x))) ∙ e
    ∙ append_assoc (line (event_text b)) (events_text all) (codes "report" ++ 10 ∷ y) ∙ front_line (event_text b) (events_text all ++ (codes "report" ++ 10 ∷ y))) in
    let same : b ≡ a = one_event (event_text a) b a (record { fits = k.0; is = s.0 }) (record { fits = h.0; is = refl }) in
    elim (next_line events all l x y h.1 k.1 lacks s.1) as (λ _. GoesOn (a ∷ events) (b ∷ all) l ⊎ Reports (a ∷ events) (b ∷ all) l x y) [
      | inl g ↦ inl (g.0, g.1, cons b a all (events ++ g.0 ∷ g.1) same g.2, g.3)
      | inr r ↦ inr (cons b a all events same r.0, r.1, r.2)
    ]
  where
    cons : (b a : Event) (xs ys : List Event) → b ≡ a → xs ≡ ys → b ∷ xs ≡ a ∷ ys
    cons b a xs ys e f = cc

-- what stands first in a body, line by line
pub body_front : (script : Script) (all : List Event) (results : List (List LineResult)) (end : EndWords) → body_text script all results end ≡ codes "events" ++ 10 ∷ (events_text all ++ (codes "report" ++ 10 ∷ told_text script results end))
body_front script all results end =
    front_line (codes "events") (events_text all ++ (line (codes "report") ++ told_text script results end)) ∙ ap (λ t. codes "events" ++ 10 ∷ (events_text all ++ t)) (front_line (codes "report") (told_text script results end))

pub joined_more : (lines : List (List ℕ)) (l : List ℕ) → joined (lines ++ l ∷ []) ≡ joined lines ++ line l
joined_more [] l = append-nil (line l)
joined_more (m ∷ lines) l = ap (λ t. line m ++ t) (joined_more lines l) ∙ sym (append_assoc (line m) (joined lines) (line l))

pub begun_front : (events : List Event) (l more : List ℕ) → joined ((codes "events" ∷ map event_text events) ++ l ∷ []) ++ more ≡ codes "events" ++ 10 ∷ (events_text events ++ (l ++ 10 ∷ more))
begun_front events l more =
    append_assoc (line (codes "events")) (joined (map event_text events ++ l ∷ [])) more
    ∙ front_line (codes "events") (joined (map event_text events ++ l ∷ []) ++ more)
    ∙ ap (λ t. codes "events" ++ 10 ∷ (t ++ more)) (joined_more (map event_text events) l ∙ ap (λ t. t ++ line l) (lines-events events))
    ∙ ap (λ t. codes "events" ++ 10 ∷ t) (append_assoc (events_text events) (line l) more ∙ ap (λ t. events_text events ++ t) (front_line l more))

-- a journal that holds tells of the events, of this one and of more
record Continues (script : Script) (events : List Event) (l : List ℕ) : Type 0 where
  event : Event
  more : List Event
  results : List (List LineResult)
  end : EndWords
  is : IsEventLine l event
  tells : TellsOfEvents script (events ++ event ∷ more) results end

abbrev NextData : Script → List Event → List Cursor → List ℕ → Type 0
NextData script events cursors l = Continues script events l ⊎ ((l ≡ codes "report") × AreWhole script (state_after script.geometry events) cursors)

-- the line behind some events of a journal that holds is that of an event with which it goes on; or it is report, and each processor
-- that has ended made its whole program
next_data : (script : Script) (events : List Event) (cursors : List Cursor) (l : List ℕ) → AreTaken script events cursors → Lacks 10 l → IsBegun script ((codes "events" ∷ map event_text events) ++ l ∷ []) → NextData script events cursors l
next_data script events cursors l h lacks b =
    let k = b.holds in
    let joint : codes "events" ++ 10 ∷ (events_text events ++ (l ++ 10 ∷ b.more)) ≡ codes "events" ++ 10 ∷ (events_text k.events ++ (codes "report" ++ 10 ∷ told_text script k.results k.end))
    = sym (begun_front events l b.more) ∙ k.is ∙ body_front script k.events k.results k.end in
    let tail = (one_line (codes "events") (codes "events") _ _ refl refl joint).1 in
    elim (next_line events k.events l b.more (told_text script k.results k.end) h.fits k.tells.fits lacks tail) as (λ _. NextData script events cursors l) [
      | inl g ↦ inl (record { event = g.0; more = g.1; results = k.results; end = k.end; is = g.3; tells = subst (λ (es : List Event). TellsOfEvents script es k.results k.end) g.2 k.tells })
      | inr r ↦ inr (r.1, (told_taken script events cursors k.results k.end h (subst (λ (es : List Event). TellsOfEvents script es k.results k.end) r.0 k.tells)).whole)
    ]

-- a line that is neither that of an event nor report
pub wrong_line : (script : Script) (events : List Event) (cursors : List Cursor) (l : List ℕ) → AreTaken script events cursors → Lacks 10 l → l ≢ codes "report" → ((e : Event) → ¬ IsEventLine l e) → ¬ IsBegun script ((codes "events" ∷ map event_text events) ++ l ∷ [])
wrong_line script events cursors l h lacks other none b = elim (next_data script events cursors l h lacks b) as (λ _. ⊥) [ inl g ↦ none g.event g.is | inr r ↦ other r.0 ]

-- the line of an event that is refused
pub wrong_event : (script : Script) (events : List Event) (cursors : List Cursor) (s : State) (l : List ℕ) (e : Event) → AreTaken script events cursors → Lacks 10 l → IsEventLine l e → s ≡ state_after script.geometry events
    → (IsStep s e → IfSome (access_of e) (λ a. a.cpu < script.geometry.cpus)) → IsEventRefused script s cursors e → ¬ IsBegun script ((codes "events" ∷ map event_text events) ++ l ∷ [])
wrong_event script events cursors s l e h lacks is at there refused b = elim (next_data script events cursors l h lacks b) as (λ _. ⊥) [
  | inl g ↦
      let same : g.event ≡ e = one_event l g.event e g.is is in
      refused_more script events s cursors e g.more g.results g.end h at there refused (subst (λ (x : Event). TellsOfEvents script (events ++ x ∷ g.more) g.results g.end) same g.tells)
  | inr r ↦ event_other e is.fits (sym is.is ∙ r.0)
]

-- the line report, where a processor that has ended has lines left
pub wrong_report : (script : Script) (events : List Event) (cursors : List Cursor) → AreTaken script events cursors → ¬ AreWhole script (state_after script.geometry events) cursors → ¬ IsBegun script ((codes "events" ∷ map event_text events) ++ codes "report" ∷ [])
wrong_report script events cursors h left b = elim (next_data script events cursors (codes "report") h refl b) as (λ _. ⊥) [ inl g ↦ event_other g.event g.is.fits (sym g.is.is) | inr r ↦ left r.1 ]

-- ---- behind report

abbrev pub reported : List Event → List (List ℕ)
reported events = (codes "events" ∷ map event_text events) ++ codes "report" ∷ []

-- what stands behind report is told by the events alone
pub one_report : (script : Script) (events : List Event) (cursors : List Cursor) (end : EndWords) (rest : List ℕ) → AreTaken script events cursors → IsEndOf (state_after script.geometry events) end → IsBody script (joined (reported events) ++ rest) → rest ≡ told_text script (results_in cursors) end
one_report script events cursors end rest h ends k =
    let joint : codes "events" ++ 10 ∷ (events_text events ++ (codes "report" ++ 10 ∷ rest)) ≡ codes "events" ++ 10 ∷ (events_text k.events ++ (codes "report" ++ 10 ∷ told_text script k.results k.end))
    = sym (begun_front events (codes "report") rest) ∙ k.is ∙ body_front script k.events k.results k.end in
    let tail = (one_line (codes "events") (codes "events") _ _ refl refl joint).1 in
    elim (next_line events k.events (codes "report") rest (told_text script k.results k.end) h.fits k.tells.fits refl tail) as (λ _. rest ≡ told_text script (results_in cursors) end) [
      | inl g ↦ absurd (event_other g.0 g.3.fits (sym g.3.is))
      | inr r ↦
          let tells = subst (λ (es : List Event). TellsOfEvents script es k.results k.end) r.0 k.tells in
          let told = told_taken script events cursors k.results k.end h tells in
          r.2 ∙ ap (λ q. told_text script q k.end) told.same ∙ ap (λ e. told_text script (results_in cursors) e) (one_end (state_after script.geometry events) k.end end tells.ends ends)
    ]

-- and it may stand there
pub report_stands : (script : Script) (events : List Event) (cursors : List Cursor) (end : EndWords) → AreTaken script events cursors → AreWhole script (state_after script.geometry events) cursors → IsEndOf (state_after script.geometry events) end → IsBody script (joined (reported events) ++ told_text script (results_in cursors) end)
report_stands script events cursors end h whole ends = record {
  events = events;
  results = results_in cursors;
  end = end;
  tells = taken_told script events cursors end h whole ends;
  is = begun_front events (codes "report") (told_text script (results_in cursors) end) ∙ sym (body_front script events (results_in cursors) end);
}
