use Rattle.std.proofs.Common.{◌≡◌, ◌≢◌, ℕ, List, sym, ap, ◌∙◌, subst, refl}
use Rattle.nm_base.specs.Geometry.{Geometry}
use Rattle.nm_action.specs.declared.action.Reply.TheVariants.{Done}
use Rattle.nm_action.specs.declared.action.Reply.TheVariants as replies
use Rattle.nm_compose.specs.declared.or.Or.TheVariants.{This, Other}
use Rattle.nm_pool.specs.declared.job.PoolEnd.TheVariants.{Got, AtFloor}
use Rattle.nm_locked.specs.declared.choose.Early.TheVariants.{NoFrame, Gone}
use Rattle.nm_locked.specs.declared.choose.Chosen.TheVariants as ends
use Rattle.nm_locked.specs.declared.choose.Stage.{Stage}
use Rattle.nm_locked.specs.declared.choose.Stage.TheVariants.{Locking, Marking, Unlocking, ReadingHome, Looking, Arming, Taking, ReadingShadow, Unshading, PuttingBack}
use Rattle.nm_locked.specs.Stages.{move_piece_made, move_told_in, move_found_in, move_home_stage, move_looked_stage, choose_left}
use Rattle.nm_part.proofs.Patterns.{ends-now}
use Rattle.nm_locked.proofs.Runs.{step-choose, over-choose, RunsChoose}
use Rattle.nm_locked.proofs.Steps.{after-marking, after-unlocking, after-arming, after-locking, after-busy, after-looking, after-reading-home, after-got, after-floor, after-no-shadow, after-shadow, after-unshading, after-putting-back, discards-none}
use Rattle.nm_locked.proofs.choose.ChoosePlanChoosePiece.go_on.Goals as goal

pub returns-in-Done-clause-next : goal.returns-in-Done-clause-next
returns-in-Done-clause-next c = λ g first now later own known shown left over. record {
  new = c.go.ensures.new;
  run = let old = c.args.self.now in
      let at = sym c.replace.ensures.value ∙ c.in-Locking.is in
      step-choose old c.go.new.self Locking c.move_lock_stage.result c.args.end (This Done) _ (move_piece_made c.go.result) g first now later own at (c.in-This.is ∙ ap This c.in-Done.is) known left shown c.go.ensures.stage c.go.ensures.made
      (λ k a. subst (λ (s : Stage). RunsChoose old.made s (choose_left old.made Locking g (This Done)) g first later) (sym c.move_lock_stage.ensures) (after-locking old.made g first now later own k a));
}

pub returns-in-Busy-clause-next : goal.returns-in-Busy-clause-next
returns-in-Busy-clause-next c = λ g first now later own known shown left over.
    let old = c.args.self.now in
    let at = sym c.replace.ensures.value ∙ c.in-Locking.is in
    over-choose old Locking c.args.end (This (replies.Busy c.in-Busy.field-0)) _ ends.Busy g first now later own at (c.in-This.is ∙ ap This c.in-Busy.is) known left shown
    (λ k a. record { shown = ends-now ends.Busy; left = after-busy old.made g first now later own c.in-Busy.field-0 k a; over = tt })

pub returns-in-Marking-clause-next : goal.returns-in-Marking-clause-next
returns-in-Marking-clause-next c = λ g first now later own known shown left over. record {
  new = c.go-in-Marking.ensures.new;
  run = let old = c.args.self.now in
      let at = sym c.replace.ensures.value ∙ c.in-Marking.is in
      step-choose old c.go-in-Marking.new.self (Marking c.in-Marking.early) (Unlocking c.in-Marking.early) c.args.end c.args.end _ (move_piece_made c.go-in-Marking.result) g first now later own at refl known left shown c.go-in-Marking.ensures.stage c.go-in-Marking.ensures.made
      (λ k a. after-marking old.made c.in-Marking.early g first now later own c.args.end k a);
}

pub returns-in-Unlocking-clause-next : goal.returns-in-Unlocking-clause-next
returns-in-Unlocking-clause-next c = λ g first now later own known shown left over.
    let old = c.args.self.now in
    let at = sym c.replace.ensures.value ∙ c.in-Unlocking.is in
    over-choose old (Unlocking c.in-Unlocking.early) c.args.end c.args.end _ (ends.Closed c.in-Unlocking.early) g first now later own at refl known left shown
    (λ k a. record { shown = ends-now (ends.Closed c.in-Unlocking.early); left = after-unlocking old.made g first now later own c.args.end k a; over = tt })

pub returns-in-ReadingHome-clause-next : goal.returns-in-ReadingHome-clause-next
returns-in-ReadingHome-clause-next c = λ g first now later own known shown left over. record {
  new = c.go-in-ReadingHome.ensures.new;
  run = let old = c.args.self.now in
      let at = sym c.replace.ensures.value ∙ c.in-ReadingHome.is in
      step-choose old c.go-in-ReadingHome.new.self ReadingHome c.move_home_stage-stage.result c.args.end c.args.end _ (move_piece_made c.go-in-ReadingHome.result) g first now later own at refl known left shown c.go-in-ReadingHome.ensures.stage c.go-in-ReadingHome.ensures.made
      (λ k a. let e : c.move_home_stage-stage.result ≡ move_home_stage g old.made (move_told_in c.args.end) = c.move_home_stage-stage.ensures ∙ (ap (λ (w : ℕ). move_home_stage old.geometry.now old.made w) c.move_told_in.ensures ∙ ap (λ (h : Geometry). move_home_stage h old.made (move_told_in c.args.end)) known.geometry) in subst (λ (s : Stage). RunsChoose old.made s (choose_left old.made ReadingHome g c.args.end) g first later) (sym e) (after-reading-home old.made g first now later own c.args.end k a));
}

pub returns-in-Looking-clause-next : goal.returns-in-Looking-clause-next
returns-in-Looking-clause-next c = λ g first now later own known shown left over. record {
  new = c.go-in-Looking.ensures.new;
  run = let old = c.args.self.now in
      let at = sym c.replace.ensures.value ∙ c.in-Looking.is in
      step-choose old c.go-in-Looking.new.self (Looking c.in-Looking.home) c.move_looked_stage-stage.result c.args.end c.args.end _ (move_piece_made c.go-in-Looking.result) g first now later own at refl known left shown c.go-in-Looking.ensures.stage c.go-in-Looking.ensures.made
      (λ k a. let e : c.move_looked_stage-stage.result ≡ move_looked_stage old.made c.in-Looking.home (move_found_in c.args.end) = c.move_looked_stage-stage.ensures ∙ ap (λ (l : List ℕ). move_looked_stage old.made c.in-Looking.home l) c.move_found_in.ensures in subst (λ (s : Stage). RunsChoose old.made s (choose_left old.made (Looking c.in-Looking.home) g c.args.end) g first later) (sym e) (after-looking old.made c.in-Looking.home g first now later own c.args.end k a));
}

pub returns-in-Arming-clause-next : goal.returns-in-Arming-clause-next
returns-in-Arming-clause-next c = λ g first now later own known shown left over. record {
  new = c.go-in-Arming.ensures.new;
  run = let old = c.args.self.now in
      let at = sym c.replace.ensures.value ∙ c.in-Arming.is in
      step-choose old c.go-in-Arming.new.self (Arming c.in-Arming.early c.in-Arming.pages) (Marking c.in-Arming.early) c.args.end c.args.end _ (move_piece_made c.go-in-Arming.result) g first now later own at refl known left shown c.go-in-Arming.ensures.stage c.go-in-Arming.ensures.made
      (λ k a. after-arming old.made c.in-Arming.early c.in-Arming.pages g first now later own c.args.end k a);
}

pub returns-in-Got-clause-next : goal.returns-in-Got-clause-next
returns-in-Got-clause-next c = λ g first now later own known shown left over. record {
  new = c.go-in-Got.ensures.new;
  run = let old = c.args.self.now in
      let at = sym c.replace.ensures.value ∙ c.in-Taking.is in
      step-choose old c.go-in-Got.new.self (Taking c.in-Taking.home c.in-Taking.pages) (ReadingShadow c.in-Taking.home c.in-Got.frame c.in-Taking.pages) c.args.end (Other (Other (Got c.in-Got.frame))) _ (move_piece_made c.go-in-Got.result) g first now later own at (c.in-Other.is ∙ (ap Other c.in-Other-end.is ∙ ap (λ e. Other (Other e)) c.in-Got.is)) known left shown c.go-in-Got.ensures.stage c.go-in-Got.ensures.made
      (λ k a. after-got old.made c.in-Taking.home c.in-Got.frame c.in-Taking.pages g first now later own k a);
}

pub returns-in-AtFloor-clause-next : goal.returns-in-AtFloor-clause-next
returns-in-AtFloor-clause-next c = λ g first now later own known shown left over. record {
  new = c.go-in-AtFloor.ensures.new;
  run = let old = c.args.self.now in
      let at = sym c.replace.ensures.value ∙ c.in-Taking.is in
      step-choose old c.go-in-AtFloor.new.self (Taking c.in-Taking.home c.in-Taking.pages) c.move_arm_stage.result c.args.end (Other (Other (AtFloor c.in-AtFloor.n))) _ (move_piece_made c.go-in-AtFloor.result) g first now later own at (c.in-Other.is ∙ (ap Other c.in-Other-end.is ∙ ap (λ e. Other (Other e)) c.in-AtFloor.is)) known left shown c.go-in-AtFloor.ensures.stage c.go-in-AtFloor.ensures.made
      (λ k a. subst (λ (s : Stage). RunsChoose old.made s (choose_left old.made (Taking c.in-Taking.home c.in-Taking.pages) g (Other (Other (AtFloor c.in-AtFloor.n)))) g first later) (sym c.move_arm_stage.ensures) (after-floor old.made c.in-Taking.home c.in-AtFloor.n c.in-Taking.pages g first now later own k a));
}

pub returns-then-shadow-eq0-clause-next : goal.returns-then-shadow-eq0-clause-next
returns-then-shadow-eq0-clause-next c = λ g first now later own known shown left over.
    let old = c.args.self.now in
    let r = c.in-ReadingShadow in
    let at = sym c.replace.ensures.value ∙ r.is in
    let none : move_told_in c.args.end ≡ 0 = sym c.move_told_in-shadow.ensures ∙ c.if-shadow-eq0.true in
    over-choose old (ReadingShadow r.home r.frame r.pages) c.args.end c.args.end _ (ends.Ready r.home r.frame r.pages) g first now later own at refl known left shown
    (λ k a. record { shown = discards-none old.made r.home (move_told_in c.args.end) r.frame r.pages g none; left = after-no-shadow old.made r.home r.frame r.pages g first now later own c.args.end k a none; over = tt })

pub returns-else-shadow-eq0-clause-next : goal.returns-else-shadow-eq0-clause-next
returns-else-shadow-eq0-clause-next c = λ g first now later own known shown left over. record {
  new = c.go-else-shadow-eq0.ensures.new;
  run = let old = c.args.self.now in
      let r = c.in-ReadingShadow in
      let go = c.go-else-shadow-eq0 in
      let at = sym c.replace.ensures.value ∙ r.is in
      let some : move_told_in c.args.end ≢ 0 = λ e. c.if-shadow-eq0.false (c.move_told_in-shadow.ensures ∙ e) in
      step-choose old go.new.self (ReadingShadow r.home r.frame r.pages) (Unshading r.home c.move_told_in-shadow.result r.frame r.pages) c.args.end c.args.end _ (move_piece_made go.result) g first now later own at refl known left shown go.ensures.stage go.ensures.made
      (λ k a. subst (λ (w : ℕ). RunsChoose old.made (Unshading r.home w r.frame r.pages) (choose_left old.made (ReadingShadow r.home r.frame r.pages) g c.args.end) g first later) (sym c.move_told_in-shadow.ensures) (after-shadow old.made r.home r.frame r.pages g first now later own c.args.end k a some));
}

pub returns-in-Unshading-clause-next : goal.returns-in-Unshading-clause-next
returns-in-Unshading-clause-next c = λ g first now later own known shown left over. record {
  new = c.go-in-Unshading.ensures.new;
  run = let old = c.args.self.now in
      let at = sym c.replace.ensures.value ∙ c.in-Unshading.is in
      step-choose old c.go-in-Unshading.new.self (Unshading c.in-Unshading.home c.in-Unshading.shadow c.in-Unshading.frame c.in-Unshading.pages) (PuttingBack c.in-Unshading.home c.in-Unshading.shadow c.in-Unshading.frame c.in-Unshading.pages) c.args.end c.args.end _ (move_piece_made c.go-in-Unshading.result) g first now later own at refl known left shown c.go-in-Unshading.ensures.stage c.go-in-Unshading.ensures.made
      (λ k a. after-unshading old.made c.in-Unshading.home c.in-Unshading.shadow c.in-Unshading.frame c.in-Unshading.pages g first now later own c.args.end k a);
}

pub returns-in-PuttingBack-clause-next : goal.returns-in-PuttingBack-clause-next
returns-in-PuttingBack-clause-next c = λ g first now later own known shown left over.
    let old = c.args.self.now in
    let r = c.in-PuttingBack in
    let at = sym c.replace.ensures.value ∙ r.is in
    over-choose old (PuttingBack r.home r.shadow r.frame r.pages) c.args.end c.args.end _ (ends.Ready r.home r.frame r.pages) g first now later own at refl known left shown
    (λ k a. record { shown = ends-now (ends.Ready r.home r.frame r.pages); left = after-putting-back old.made r.home r.shadow r.frame r.pages g first now later own c.args.end k a; over = tt })
