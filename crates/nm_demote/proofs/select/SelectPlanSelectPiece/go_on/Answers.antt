use Rattle.std.proofs.Common.{◌≡◌, ◌≢◌, ℕ, Bool, true, false, List, [], sym, ap, ◌∙◌, subst, refl}
use Rattle.nm_base.specs.Geometry.{Geometry}
use Rattle.nm_action.specs.declared.action.Reply.TheVariants.{Done}
use Rattle.nm_action.specs.declared.action.Reply.TheVariants as replies
use Rattle.nm_compose.specs.declared.or.Or.TheVariants.{This, Other}
use Rattle.nm_part.proofs.Patterns.{ends-now}
use Rattle.nm_obtain.specs.declared.obtain.Obtained.TheVariants.{Got, AtFloor}
use Rattle.nm_transfer.specs.declared.transfer.Source.TheVariants as sources
use Rattle.nm_demote.specs.declared.select.Early.TheVariants.{NoFrame, Gone}
use Rattle.nm_demote.specs.declared.select.Selected.TheVariants as ends
use Rattle.nm_demote.specs.declared.select.Stage.{Stage}
use Rattle.nm_demote.specs.declared.select.Stage.TheVariants.{Locking, Unlocking, ReadingHome, ReadingShadow, Looking, Obtaining}
use Rattle.nm_demote.specs.Selecting.{AfterLooksToDemote}
use Rattle.nm_demote.specs.Stages.{select_piece_made, told_in_selecting, found_in_selecting, demote_home_stage, demote_look_stage, select_left}
use Rattle.nm_demote.proofs.Runs.{RunsSelect, IsSelectOver, step-select, over-select}
use Rattle.nm_demote.proofs.Steps.{after-unlocking, after-locking, after-busy, after-reading-home, after-reading-shadow, has-looked, after-looking-none, after-looking-plain, after-looking-shadow, after-got, after-floor}
use Rattle.nm_demote.proofs.select.SelectPlanSelectPiece.go_on.Goals as goal

not-empty : (empty : Bool) → empty ≡ true → empty ≡ false → ⊥
not-empty empty is other = cc

pub returns-in-Done-clause-next : goal.returns-in-Done-clause-next
returns-in-Done-clause-next c = λ g first now later own known shown left over. record {
  new = c.go.ensures.new;
  run = let old = c.args.self.now in
      let at = sym c.replace.ensures.value ∙ c.in-Locking.is in
      step-select old c.go.new.self Locking c.demote_lock_stage.result c.args.end (This Done) _ (select_piece_made c.go.result) g first now later own at (c.in-This.is ∙ ap This c.in-Done.is) known left shown c.go.ensures.stage c.go.ensures.made
      (λ k a. subst (λ (s : Stage). RunsSelect old.made s (select_left old.made Locking g (This Done)) g first later) (sym c.demote_lock_stage.ensures) (after-locking old.made g first now later own k a));
}

pub returns-in-Busy-clause-next : goal.returns-in-Busy-clause-next
returns-in-Busy-clause-next c = λ g first now later own known shown left over.
    let old = c.args.self.now in
    let at = sym c.replace.ensures.value ∙ c.in-Locking.is in
    over-select old Locking c.args.end (This (replies.Busy c.in-Busy.field-0)) _ ends.Busy g first now later own at (c.in-This.is ∙ ap This c.in-Busy.is) known left shown
    (λ k a. record { shown = ends-now ends.Busy; left = after-busy old.made g first now later own c.in-Busy.field-0 k a; over = tt })

pub returns-in-Unlocking-clause-next : goal.returns-in-Unlocking-clause-next
returns-in-Unlocking-clause-next c = λ g first now later own known shown left over.
    let old = c.args.self.now in
    let at = sym c.replace.ensures.value ∙ c.in-Unlocking.is in
    over-select old (Unlocking c.in-Unlocking.early) c.args.end c.args.end _ (ends.Closed c.in-Unlocking.early) g first now later own at refl known left shown
    (λ k a. record { shown = ends-now (ends.Closed c.in-Unlocking.early); left = after-unlocking old.made g first now later own c.args.end k a; over = tt })

pub returns-in-ReadingHome-clause-next : goal.returns-in-ReadingHome-clause-next
returns-in-ReadingHome-clause-next c = λ g first now later own known shown left over. record {
  new = c.go-in-ReadingHome.ensures.new;
  run = let old = c.args.self.now in
      let at = sym c.replace.ensures.value ∙ c.in-ReadingHome.is in
      step-select old c.go-in-ReadingHome.new.self ReadingHome c.demote_home_stage-stage.result c.args.end c.args.end _ (select_piece_made c.go-in-ReadingHome.result) g first now later own at refl known left shown c.go-in-ReadingHome.ensures.stage c.go-in-ReadingHome.ensures.made
      (λ k a.
      let e : c.demote_home_stage-stage.result ≡ demote_home_stage g (told_in_selecting c.args.end) =
      c.demote_home_stage-stage.ensures ∙ (ap (λ (w : ℕ). demote_home_stage old.geometry.now w) c.told_in_selecting.ensures ∙ ap (λ (h : Geometry). demote_home_stage h (told_in_selecting c.args.end)) known.geometry) in
      subst (λ (s : Stage). RunsSelect old.made s (select_left old.made ReadingHome g c.args.end) g first later) (sym e) (after-reading-home old.made g first now later own c.args.end k a));
}

pub returns-in-ReadingShadow-clause-next : goal.returns-in-ReadingShadow-clause-next
returns-in-ReadingShadow-clause-next c = λ g first now later own known shown left over. record {
  new = c.go-in-ReadingShadow.ensures.new;
  run = let old = c.args.self.now in
      let home = c.in-ReadingShadow.home in
      let at = sym c.replace.ensures.value ∙ c.in-ReadingShadow.is in
      step-select old c.go-in-ReadingShadow.new.self (ReadingShadow home) c.demote_look_stage-stage.result c.args.end c.args.end _ (select_piece_made c.go-in-ReadingShadow.result) g first now later own at refl known left shown c.go-in-ReadingShadow.ensures.stage c.go-in-ReadingShadow.ensures.made
      (λ k a.
      let e : c.demote_look_stage-stage.result ≡ demote_look_stage g old.made home (told_in_selecting c.args.end) =
      c.demote_look_stage-stage.ensures ∙ (ap (λ (w : ℕ). demote_look_stage old.geometry.now old.made home w) c.told_in_selecting-in-ReadingShadow.ensures ∙ ap (λ (h : Geometry). demote_look_stage h old.made home (told_in_selecting c.args.end)) known.geometry) in
      subst (λ (s : Stage). RunsSelect old.made s (select_left old.made (ReadingShadow home) g c.args.end) g first later) (sym e) (after-reading-shadow old.made home g first now later own c.args.end k a));
}

pub returns-then-is_empty-clause-next : goal.returns-then-is_empty-clause-next
returns-then-is_empty-clause-next c = λ g first now later own known shown left over. record {
  new = c.go-then-is_empty.ensures.new;
  run = let old = c.args.self.now in
      let home = c.in-Looking.home in
      let shadow = c.in-Looking.shadow in
      let at = sym c.replace.ensures.value ∙ c.in-Looking.is in
      let none : found_in_selecting c.args.end ≡ [] = sym c.found_in_selecting-pages.ensures ∙ c.is_empty.ensures.0 c.if-is_empty.true in
      step-select old c.go-then-is_empty.new.self (Looking home shadow) (Unlocking Gone) c.args.end c.args.end _ (select_piece_made c.go-then-is_empty.result) g first now later own at refl known left shown c.go-then-is_empty.ensures.stage c.go-then-is_empty.ensures.made
      (λ k a. after-looking-none old.made home shadow (found_in_selecting c.args.end) g first later (has-looked old.made home shadow g first now later own c.args.end k a) none);
}

pub returns-then-shadow-eq0-clause-next : goal.returns-then-shadow-eq0-clause-next
returns-then-shadow-eq0-clause-next c = λ g first now later own known shown left over. record {
  new = c.go-then-shadow-eq0.ensures.new;
  run = let old = c.args.self.now in
      let home = c.in-Looking.home in
      let shadow = c.in-Looking.shadow in
      let pages = c.found_in_selecting-pages.result in
      let found = c.found_in_selecting-pages.ensures in
      let at = sym c.replace.ensures.value ∙ c.in-Looking.is in
      let some : found_in_selecting c.args.end ≢ [] = λ e. not-empty c.is_empty.result (c.is_empty.ensures.1 (c.found_in_selecting-pages.ensures ∙ e)) c.if-is_empty.false in
      step-select old c.go-then-shadow-eq0.new.self (Looking home shadow) (Obtaining home pages) c.args.end c.args.end _ (select_piece_made c.go-then-shadow-eq0.result) g first now later own at refl known left shown c.go-then-shadow-eq0.ensures.stage c.go-then-shadow-eq0.ensures.made
      (λ k a. subst (λ (l : List ℕ). RunsSelect old.made (Obtaining home l) (select_left old.made (Looking home shadow) g c.args.end) g first later) (sym found)
      (after-looking-plain old.made home shadow (found_in_selecting c.args.end) g first later (has-looked old.made home shadow g first now later own c.args.end k a) some c.if-shadow-eq0.true));
}

pub returns-else-shadow-eq0-clause-next : goal.returns-else-shadow-eq0-clause-next
returns-else-shadow-eq0-clause-next c = λ g first now later own known shown left over.
    let old = c.args.self.now in
    let home = c.in-Looking.home in
    let shadow = c.in-Looking.shadow in
    let pages = c.found_in_selecting-pages.result in
    let found = c.found_in_selecting-pages.ensures in
    let at = sym c.replace.ensures.value ∙ c.in-Looking.is in
    let some : found_in_selecting c.args.end ≢ [] = λ e. not-empty c.is_empty.result (c.is_empty.ensures.1 (c.found_in_selecting-pages.ensures ∙ e)) c.if-is_empty.false in
    over-select old (Looking home shadow) c.args.end c.args.end _ (ends.Ready home c.shadow_frame.result sources.Shadow pages) g first now later own at refl known left shown
    (λ k a. subst (λ (l : List ℕ). IsSelectOver old (AfterLooksToDemote g old.made home shadow (found_in_selecting c.args.end)) g first later (ends.Ready home c.shadow_frame.result sources.Shadow l)) (sym found)
    (after-looking-shadow old home shadow c.shadow_frame.result (found_in_selecting c.args.end) g first later (has-looked old.made home shadow g first now later own c.args.end k a) some c.if-shadow-eq0.false c.shadow_frame.ensures))

pub returns-in-Got-clause-next : goal.returns-in-Got-clause-next
returns-in-Got-clause-next c = λ g first now later own known shown left over.
    let old = c.args.self.now in
    let home = c.in-Obtaining.home in
    let pages = c.in-Obtaining.pages in
    let at = sym c.replace.ensures.value ∙ c.in-Obtaining.is in
    over-select old (Obtaining home pages) c.args.end (Other (Other (Got c.in-Got.frame))) _ (ends.Ready home c.in-Got.frame sources.Copy pages) g first now later own at (c.in-Other.is ∙ (ap Other c.in-Other-end.is ∙ ap (λ e. Other (Other e)) c.in-Got.is)) known left shown
    (λ k a. after-got old home c.in-Got.frame pages g first now later own k a)

pub returns-in-AtFloor-clause-next : goal.returns-in-AtFloor-clause-next
returns-in-AtFloor-clause-next c = λ g first now later own known shown left over. record {
  new = c.go-in-AtFloor.ensures.new;
  run = let old = c.args.self.now in
      let home = c.in-Obtaining.home in
      let pages = c.in-Obtaining.pages in
      let at = sym c.replace.ensures.value ∙ c.in-Obtaining.is in
      step-select old c.go-in-AtFloor.new.self (Obtaining home pages) (Unlocking (NoFrame c.in-AtFloor.n)) c.args.end (Other (Other (AtFloor c.in-AtFloor.n))) _ (select_piece_made c.go-in-AtFloor.result) g first now later own at (c.in-Other.is ∙ (ap Other c.in-Other-end.is ∙ ap (λ e. Other (Other e)) c.in-AtFloor.is)) known left shown c.go-in-AtFloor.ensures.stage c.go-in-AtFloor.ensures.made
      (λ k a. after-floor old.made home c.in-AtFloor.n pages g first now later own k a);
}
