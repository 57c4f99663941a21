-- Where the reader of the lines of events stops.
use Rattle.std.proofs.Common.{◌≡◌, ◌≢◌, ℕ, ◌+◌, List, [], ◌∷◌, ◌++◌, Option, Some, None, codes, sym, ap, ◌∙◌, subst, arith, length-append}
use Rattle.std.proofs.lemmas.Option.{none-some, same_Some}
use Rattle.nm_core.specs.State.{State}
use Rattle.nm_script.specs.Plain.{Script}
use Rattle.nm_script.specs.Script.{IsScript}
use Rattle.nm_text.specs.Cuts.{cut_of}
use Rattle.nm_text.proofs.CutLemmas.{cut_of-again, cut_of-some}
use Rattle.nm_follow.specs.Cursors.{Cursor}
use Rattle.nm_journal_text.specs.Taken.{IsLineTaken, IsLineRefused}
use Rattle.nm_journal_text.specs.Following.{IsStop, IsFollowed, IsTakenTo}
use Rattle.nm_journal_text.proofs.Beginning.{begun_events}
use Rattle.nm_journal_text.proofs.Lines.{line_more, line_wrong, text_more}

module _ (script : Script) (script_is : IsScript script) (text rest : List ℕ) (count : ℕ) (s : State) (cursors : List Cursor) where
  stopped : (after : Option (List ℕ)) (s' : State) (cursors' : List Cursor) → (h : IsTakenTo script text rest count s cursors) → IsStop script h.events rest s' cursors' after → IsFollowed script text count after s' cursors'
  stopped after s' cursors' h stop = record {
    events = h.events;
    rest = rest;
    is = h.is;
    many = h.many;
    fits = h.taken.fits;
    begun = begun_events script h.events cursors script_is.geometry (omega (arith, script_is.geometry.ranges)) h.taken;
    stop = stop;
  }

  -- the line report stands there
  pub followed_report : (l after : List ℕ) → IsTakenTo script text rest count s cursors → cut_of 10 rest ≡ Some (l, after) → l ≡ codes "report" → IsFollowed script text count (Some after) s cursors
  followed_report l after h cut is = stopped (Some after) s cursors h ((cut_of-some 10 rest (l, after) cut).0 ∙ ap (λ t. t ++ 10 ∷ after) is, h.state, h.taken)

  -- a line that is refused
  pub followed_wrong : (l after : List ℕ) (s' : State) (cursors' : List Cursor) → IsTakenTo script text rest count s cursors → cut_of 10 rest ≡ Some (l, after) → l ≢ codes "report" → IsLineRefused script s cursors l → IsFollowed script text count None s' cursors'
  followed_wrong l after s' cursors' h cut other refused = stopped None s' cursors' h (λ m more lacks is.
      let same : (l, after) ≡ (m, more) = same_Some _ _ (sym cut ∙ ap (cut_of 10) is ∙ cut_of-again 10 m more lacks) in
      let first : m ≡ l = ap (λ (p : List ℕ × List ℕ). p.0) (sym same) in
      line_wrong script h.events m s cursors script_is h.taken h.state lacks (λ e. other (sym first ∙ e)) (subst (IsLineRefused script s cursors) (sym first) refused))

  -- no line is left that has its newline
  pub followed_last : IsTakenTo script text rest count s cursors → cut_of 10 rest ≡ None → IsFollowed script text count None s cursors
  followed_last h cut = stopped None s cursors h (λ m more lacks is. absurd (none-some _ (sym cut ∙ ap (cut_of 10) is ∙ cut_of-again 10 m more lacks)))

  -- a line that is taken
  pub followed_more : (l after : List ℕ) (s' : State) (new : List Cursor) → IsTakenTo script text rest count s cursors → cut_of 10 rest ≡ Some (l, after) → IsLineTaken script s cursors l s' new → IsTakenTo script text after (count + 1) s' new
  followed_more l after s' new h cut t =
      let more = line_more script h.events l s s' cursors new script_is h.taken h.state t in
      record {
        events = h.events ++ more.event ∷ [];
        is = text_more text h.events more.event l rest after h.is (cut_of-some 10 rest (l, after) cut).0 more.is;
        many = ap (λ n. n + 1) h.many ∙ sym (length-append h.events (more.event ∷ []));
        taken = more.taken;
        state = more.state;
      }
