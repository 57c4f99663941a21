-- Two texts, line by line; and a report that differs from the one that is told.
use Rattle.std.proofs.Common.{◌≡◌, ◌≢◌, ℕ, ◌+◌, List, [], ◌∷◌, ◌++◌, length, map, Option, Some, None, codes, refl, sym, ap, ◌∙◌, subst, arith, append_assoc, append-nil, length-append}
use Rattle.std.specs.List.{AllByRecursion}
use Rattle.std.proofs.lemmas.List.{length-map}
use Rattle.std.proofs.lemmas.Option.{none-some, same_Some}
use Rattle.nm_action.specs.declared.action.Event.{Event}
use Rattle.nm_core.specs.Runs.{state_after}
use Rattle.nm_core.specs.EndWords.{EndWords, IsEndOf}
use Rattle.nm_script.specs.Plain.{Script}
use Rattle.nm_script.specs.Items.{line}
use Rattle.nm_text.specs.Cuts.{Lacks, cut_of}
use Rattle.nm_text.proofs.CutLemmas.{cut_of-again, cut_of-some}
use Rattle.nm_event_text.specs.Events.{event_text}
use Rattle.nm_follow.specs.Cursors.{Cursor}
use Rattle.nm_journal_text.specs.Journals.{told_text, IsBody}
use Rattle.nm_journal_text.specs.Taken.{AreTaken, results_in, AreWhole}
use Rattle.nm_journal_text.specs.Verdicts.{joined, IsBegun, IsFirstWrong}
use Rattle.nm_journal_text.specs.Differing.{IsDifferentAt, AreSameTo}
use Rattle.nm_journal_text.proofs.Wrong.{front_line, joined_more, reported, one_report, report_stands}
use Rattle.nm_journal_text.proofs.OneVerdict.{joined_both}
use Rattle.nm_journal_text.proofs.Firsts.{lines_lack}

lacks-more : (lines : List (List ℕ)) (l : List ℕ) → AllByRecursion (Lacks 10) lines → Lacks 10 l → AllByRecursion (Lacks 10) (lines ++ l ∷ [])
lacks-more [] l h k = (k, tt)
lacks-more (x ∷ lines) l h k = (h.0, lacks-more lines l h.1 k)

pub behind : (front : List (List ℕ)) (l more text tail : List ℕ) → text ≡ joined front ++ tail → tail ≡ l ++ 10 ∷ more → text ≡ joined (front ++ l ∷ []) ++ more
behind front l more text tail is cut =
    is ∙ ap (λ t. joined front ++ t) (cut ∙ sym (front_line l more)) ∙ sym (append_assoc (joined front) (line l) more) ∙ ap (λ t. t ++ more) (sym (joined_more front l))

-- one line more is the same
pub same_more : (told text tail rest : List ℕ) (n : ℕ) (l m more other : List ℕ) → AreSameTo told text tail rest n → cut_of 10 tail ≡ Some (l, more) → cut_of 10 rest ≡ Some (m, other) → l ≡ m → AreSameTo told text more other (n + 1)
same_more told text tail rest n l m more other h a b is =
    let x = cut_of-some 10 tail (l, more) a in
    let y = cut_of-some 10 rest (m, other) b in
    record {
      front = h.front ++ l ∷ [];
      lines = lacks-more h.front l h.lines x.1;
      told_is = behind h.front l more told tail h.told_is x.0;
      text_is = behind h.front l other text rest h.text_is (y.0 ∙ ap (λ t. t ++ 10 ∷ other) (sym is));
      count = omega (arith, h.count, length-append h.front (l ∷ []));
    }

differs : (told text tail rest : List ℕ) (n : ℕ) → AreSameTo told text tail rest n → ((l more m : List ℕ) → Lacks 10 l → rest ≡ l ++ 10 ∷ more → tail ≢ l ++ 10 ∷ m) → (rest ≡ [] → tail ≢ []) → IsDifferentAt told text n
differs told text tail rest n h differ short = record { front = h.front; tail = tail; rest = rest; lines = h.lines; told_is = h.told_is; text_is = h.text_is; count = h.count; differ = differ; short = short }

cut_none : cut_of 10 [] ≡ None
unfolding cut_of
cut_none = refl

pub not_empty : (text : List ℕ) (p : List ℕ × List ℕ) → cut_of 10 text ≡ Some p → text ≢ []
not_empty text p cut none = none-some p (sym cut_none ∙ ap (cut_of 10) (sym none) ∙ cut)

-- both go on with a line, and with another one each
pub differ_lines : (told text tail rest : List ℕ) (n : ℕ) (a b more other : List ℕ) → AreSameTo told text tail rest n → cut_of 10 tail ≡ Some (a, more) → cut_of 10 rest ≡ Some (b, other) → a ≢ b → IsDifferentAt told text n
differ_lines told text tail rest n a b more other h x y apart = differs told text tail rest n h
    (λ l m k lacks is also.
    let one : (b, other) ≡ (l, m) = same_Some _ _ (sym y ∙ ap (cut_of 10) is ∙ cut_of-again 10 l m lacks) in
    let two : (a, more) ≡ (l, k) = same_Some _ _ (sym x ∙ ap (cut_of 10) also ∙ cut_of-again 10 l k lacks) in
    apart (ap (λ (p : List ℕ × List ℕ). p.0) two ∙ sym (ap (λ (p : List ℕ × List ℕ). p.0) one)))
    (λ none. absurd (not_empty rest (b, other) y none))

-- the text has no line more that has its newline, and the other text is not at its end
pub differ_last : (told text tail rest : List ℕ) (n : ℕ) → AreSameTo told text tail rest n → cut_of 10 rest ≡ None → tail ≢ [] → IsDifferentAt told text n
differ_last told text tail rest n h y some = differs told text tail rest n h
    (λ l m k lacks is also. none-some _ (sym y ∙ ap (cut_of 10) is ∙ cut_of-again 10 l m lacks)) (λ none. some)

-- the other text has no line more that has its newline, and is not at its end
pub differ_told : (told text tail rest : List ℕ) (n : ℕ) → AreSameTo told text tail rest n → cut_of 10 tail ≡ None → tail ≢ [] → IsDifferentAt told text n
differ_told told text tail rest n h x some = differs told text tail rest n h
    (λ l m k lacks is also. none-some _ (sym x ∙ ap (cut_of 10) also ∙ cut_of-again 10 l k lacks)) (λ none. some)

-- the other text is at its end, and this one isn't
pub differ_more : (told text rest : List ℕ) (n : ℕ) → AreSameTo told text [] rest n → rest ≢ [] → IsDifferentAt told text n
differ_more told text rest n h some = differs told text [] rest n h
    (λ l m k lacks is also. none-some _ (sym cut_none ∙ ap (cut_of 10) also ∙ cut_of-again 10 l k lacks)) (λ none. absurd (some none))

-- both are at their end
pub same_whole : (told text : List ℕ) (n : ℕ) → AreSameTo told text [] [] n → told ≡ text
same_whole told text n h = h.told_is ∙ sym h.text_is

-- ---- a report

lacks-both : (xs ys : List (List ℕ)) → AllByRecursion (Lacks 10) xs → AllByRecursion (Lacks 10) ys → AllByRecursion (Lacks 10) (xs ++ ys)
lacks-both [] ys h k = k
lacks-both (x ∷ xs) ys h k = (h.0, lacks-both xs ys h.1 k)

-- where the lines behind report differ from those that are told, the first that differs is the first wrong line of the body
pub report_wrong : (script : Script) (events : List Event) (cursors : List Cursor) (end : EndWords) (text : List ℕ) (n : ℕ) → AreTaken script events cursors → AreWhole script (state_after script.geometry events) cursors → IsEndOf (state_after script.geometry events) end
    → IsDifferentAt (told_text script (results_in cursors) end) text n → IsFirstWrong script (joined (reported events) ++ text) (length events + 2 + n)
report_wrong script events cursors end text n h whole ends d =
    let told = told_text script (results_in cursors) end in
    record {
      front = reported events ++ d.front;
      rest = d.rest;
      is = ap (λ t. joined (reported events) ++ t) d.text_is ∙ sym (split (joined (reported events)) d.front d.rest (joined_both (reported events) d.front));
      lines = lacks-both (reported events) d.front (lacks-more (codes "events" ∷ map event_text events) (codes "report") (refl, lines_lack events h.fits) refl) d.lines;
      count = omega (arith, d.count, length-append (reported events) d.front, length-append (codes "events" ∷ map event_text events) (codes "report" ∷ []), length-map events event_text);
      begun = record { more = d.tail; holds = subst (IsBody script) (ap (λ t. joined (reported events) ++ t) d.told_is ∙ sym (split (joined (reported events)) d.front d.tail (joined_both (reported events) d.front))) (report_stands script events cursors end h whole ends) };
      wrong = λ l more lacks is b.
          let body = subst (IsBody script) (again l b.more) b.holds in
          let tells = one_report script events cursors end (joined (d.front ++ l ∷ []) ++ b.more) h ends body in
          let tail : joined d.front ++ d.tail ≡ joined d.front ++ (l ++ 10 ∷ b.more) = sym d.told_is ∙ sym tells ∙ ap (λ t. t ++ b.more) (joined_more d.front l) ∙ append_assoc (joined d.front) (line l) b.more ∙ ap (λ t. joined d.front ++ t) (front_line l b.more) in
          d.differ l more b.more lacks is (cancel (joined d.front) d.tail (l ++ 10 ∷ b.more) tail);
      short = λ none b.
          let tells = one_report script events cursors end text h ends b in
          let tail : joined d.front ++ d.tail ≡ joined d.front ++ [] = sym d.told_is ∙ sym tells ∙ d.text_is ∙ ap (λ t. joined d.front ++ t) none in
          d.short none (cancel (joined d.front) d.tail [] tail);
    }
  where
    split : (a : List ℕ) (front : List (List ℕ)) (rest : List ℕ) {ab : List ℕ} → ab ≡ a ++ joined front → ab ++ rest ≡ a ++ (joined front ++ rest)
    split a front rest e = ap (λ t. t ++ rest) e ∙ append_assoc a (joined front) rest

    cancel : (a x y : List ℕ) → a ++ x ≡ a ++ y → x ≡ y
    cancel [] x y e = e
    cancel (c ∷ a) x y e = let f : a ++ x ≡ a ++ y = cc in cancel a x y f

    again : (l more : List ℕ) → joined ((reported events ++ d.front) ++ l ∷ []) ++ more ≡ joined (reported events) ++ (joined (d.front ++ l ∷ []) ++ more)
    again l more = ap (λ t. joined t ++ more) (append_assoc (reported events) d.front (l ∷ [])) ∙ split (joined (reported events)) (d.front ++ l ∷ []) more (joined_both (reported events) (d.front ++ l ∷ []))
