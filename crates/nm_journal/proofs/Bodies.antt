-- What stands behind a script part, and does not begin with the line events.
use Rattle.std.proofs.Common.{◌≡◌, ◌≢◌, ℕ, List, [], ◌∷◌, ◌++◌, codes, refl, sym, ap, ◌∙◌, arith, append-nil}
use Rattle.std.specs.Prelude.{replicate}
use Rattle.std.proofs.lemmas.List.{length-replicate}
use Rattle.nm_script.specs.Plain.{Script}
use Rattle.nm_script.specs.Script.{IsScript}
use Rattle.nm_script.specs.Items.{line}
use Rattle.nm_follow.specs.Cursors.{new_cursor}
use Rattle.nm_journal_text.specs.Journals.{IsBody}
use Rattle.nm_journal_text.specs.Verdicts.{joined, IsBegun, IsFirstWrong}
use Rattle.nm_journal_text.specs.Following.{event_lines}
use Rattle.nm_journal_text.proofs.Lines.{taken_none}
use Rattle.nm_journal_text.proofs.Beginning.{begun_events}
use Rattle.nm_journal_text.proofs.Wrong.{one_line, front_line, body_front}
use Rattle.nm_journal_text.proofs.OneVerdict.{begun_part}
use Rattle.nm_journal.proofs.Answering.{each_new}

-- a text that holds begins with the line events
pub begins : (script : Script) (body : List ℕ) → IsBody script body → (rest : List ℕ) × (body ≡ codes "events" ++ 10 ∷ rest)
begins script body h = (_, h.is ∙ body_front script h.events h.results h.end)

-- some journal of the script holds
some_begun : (script : Script) → IsScript script → IsBegun script []
some_begun script is =
    let cursors = replicate script.geometry.cpus new_cursor in
    begun_part script [] (event_lines []) (begun_events script [] cursors is.geometry (omega (arith, is.geometry.ranges)) (taken_none script cursors is (length-replicate script.geometry.cpus new_cursor) (each_new script.geometry.cpus)))

-- the first line of the text is wrong
pub not_events : (script : Script) (body : List ℕ) → IsScript script → ((rest : List ℕ) → body ≢ codes "events\n" ++ rest) → IsFirstWrong script body 0
not_events script body is none = record {
  front = [];
  rest = body;
  is = refl;
  lines = tt;
  count = refl;
  begun = some_begun script is;
  wrong = λ l more lacks at b.
      let k = begins script (joined (l ∷ []) ++ b.more) b.holds in
      let first = one_line l (codes "events") b.more k.0 lacks refl (sym (ap (λ t. t ++ b.more) (append-nil (line l)) ∙ front_line l b.more) ∙ k.1) in
      none more (at ∙ ap (λ t. t ++ 10 ∷ more) first.0);
  short = λ empty h. let k = begins script body h in none k.0 k.1;
}
