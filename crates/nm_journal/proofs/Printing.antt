-- What the cursors of a run gave can be printed.
use Rattle.std.proofs.Common.{◌≡◌, ℕ, zero, suc, ◌<◌, ◌≤◌, List, [], ◌∷◌, length, get_or, refl, sym, ap, ◌∙◌, subst, arith, inl, inr}
use Rattle.std.proofs.lemmas.Bool.{cases_order}
use Rattle.std.proofs.lemmas.List.{length-map}
use Rattle.nm_flat.specs.declared.access.Access.{Access}
use Rattle.nm_flat.specs.Memory.{own_part_of}
use Rattle.nm_base.specs.Geometry.{Geometry}
use Rattle.nm_action.specs.declared.action.Event.{Event}
use Rattle.nm_core.specs.State.{State}
use Rattle.nm_core.specs.Kept.{IsKept}
use Rattle.nm_core.specs.Runs.{accesses_of, state_after}
use Rattle.nm_core.specs.EndWords.{EndWords, IsEndOf, HasEndRoom}
use Rattle.nm_runs.proofs.EachRun.{lawful_run}
use Rattle.nm_script.specs.declared.script.Line.{Line}
use Rattle.nm_script.specs.declared.script.Line.TheVariants.{Load, Store, Add, Await}
use Rattle.nm_script.specs.Plain.{Script}
use Rattle.nm_script.specs.Script.{IsScript}
use Rattle.nm_report.specs.declared.line_result.LineResult.{LineResult}
use Rattle.nm_report.specs.declared.line_result.LineResult.TheVariants.{Loaded, Stored, Added, Met, Missed}
use Rattle.nm_report.specs.Ends.{NamesInRange}
use Rattle.nm_report.specs.Follows.{IsPiece, AreMade}
use Rattle.nm_report.specs.Texts.{IsResultOf, AllFit, IsPrintable}
use Rattle.nm_follow.specs.Cursors.{Cursor}
use Rattle.nm_follow.proofs.Steps.{made_so_far}
use Rattle.nm_journal_text.specs.Journals.{program_of, results_at}
use Rattle.nm_journal_text.specs.Taken.{cursor_of, AreTaken, results_in, zero_tally}
use Rattle.nm_journal_text.proofs.Beginning.{results-at}
use Rattle.nm_journal.proofs.Room.{room-of, names-of}

result_fits : (p : ℕ) (l : Line) (r : LineResult) (piece : List Access) → IsPiece p l r piece → IsResultOf l r
result_fits p (Load v w) (Loaded x) piece h = tt
result_fits p (Load v w) r piece h = elim h [ ]
result_fits p (Store v w x) Stored piece h = tt
result_fits p (Store v w x) r piece h = elim h [ ]
result_fits p (Add v w x) (Added y) piece h = tt
result_fits p (Add v w x) r piece h = elim h [ ]
result_fits p (Await v w x max) (Met n) piece h = tt
result_fits p (Await v w x max) (Missed n) piece h = tt
result_fits p (Await v w x max) r piece h = elim h [ ]

all_fit : (p : ℕ) (lines : List Line) (rs : List LineResult) (list : List Access) → AreMade p lines rs list → AllFit lines rs
all_fit p lines [] list h = tt
all_fit p [] (r ∷ rs) list h = elim h [ ]
all_fit p (l ∷ lines) (r ∷ rs) list h = (result_fits p l r h.piece h.made, all_fit p lines rs h.rest h.follows)

past : {A : Type 0} (xs : List (List A)) (i : ℕ) → length xs ≤ i → get_or xs i [] ≡ []
past [] i le = refl
past (x ∷ xs) zero le = absurd (omega (arith, le))
past (x ∷ xs) (suc i) le = past xs i (omega (arith, le))

no_results : (lines : List Line) (rs : List LineResult) → rs ≡ [] → AllFit lines rs
no_results lines rs none = subst (AllFit lines) (sym none) tt

pub printable : (script : Script) (events : List Event) (s : State) (cursors : List Cursor) (end : EndWords) → IsScript script → AreTaken script events cursors → s ≡ state_after script.geometry events → IsEndOf s end
    → IsPrintable (record { script = script; results = results_in cursors; end = end; tally = zero_tally })
printable script events s cursors end is h at ends =
    let law = lawful_run script.geometry events is.geometry h.run in
    let kept : IsKept s = subst IsKept (sym at) law.kept in
    let machine : s.geometry ≡ script.geometry = ap (λ q. q.geometry) at ∙ law.machine in
    let many : length (results_in cursors) ≡ script.geometry.cpus = length-map cursors (λ c. c.results) ∙ h.cpus in
    record {
      programs = is.programs;
      results = many;
      fits = λ p. elim (cases_order p script.geometry.cpus) as (λ _. AllFit (program_of script p) (results_at (results_in cursors) p)) [
        | inl same ↦ no_results (program_of script p) (results_at (results_in cursors) p) (past (results_in cursors) p (omega (arith, many, same)))
        | inr other ↦ elim other as (λ _. AllFit (program_of script p) (results_at (results_in cursors) p)) [
          | inl lt ↦
              let c : Cursor = cursor_of cursors p in
              let there : p < length cursors = omega (arith, h.cpus, lt) in
              subst (AllFit (program_of script p)) (sym (results-at cursors p there)) (all_fit p (program_of script p) c.results (own_part_of p (accesses_of events)) (made_so_far p (program_of script p) c.results c.tries (own_part_of p (accesses_of events)) (h.made p lt)))
          | inr gt ↦ no_results (program_of script p) (results_at (results_in cursors) p) (past (results_in cursors) p (omega (arith, many, gt)))
        ]
      ];
      room = subst (λ (g : Geometry). HasEndRoom g end) machine (room-of s end kept ends);
      names = subst (λ (g : Geometry). NamesInRange g end) machine (names-of s end kept ends (omega (arith, kept.geometry.ranges)));
    }
