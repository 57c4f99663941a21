use Rattle.std.proofs.Common.{◌≡◌, length, take, drop, ◌+◌, ◌++◌, ◌∷◌, ℕ, List, Option, Some, None, Bor, codes, refl, sym, ap, ◌∙◌, subst, arith, true, false}
use Rattle.nm_follow.specs.Cursors.{Cursor}
use Rattle.std.specs.Option.{option_map}
use Rattle.std.proofs.Math.Seq.{take-append_seam}
use Rattle.nm_journal_text.specs.Following.{IsFollowed}
use Rattle.nm_journal_text.specs.Taken.{AreWhole}
use Rattle.nm_journal_text.specs.Verdicts.{IsFirstWrong}
use Rattle.nm_journal_text.proofs.Firsts.{first_wrong}
use Rattle.nm_journal.proofs.Answering.{not_whole, followed_machine, followed_acked}
use Rattle.nm_journal.proofs.body.check_lines.Goals as goal
use Rattle.nm_journal.proofs.body.check_lines.Goals.{in_default-via-in-Some+else-are_whole, in_default-via-in_default}

pub are_whole-requires-clause-machine : goal.are_whole-requires-clause-machine
are_whole-requires-clause-machine c =
    let h = subst (λ (o : Option (Bor (List ℕ))). IsFollowed c.args.script.now c.args.text.now c.in_ok-count.count (option_map (λ a. a.now) o) c.follow.new.state c.follow.new.cursors) c.in-Some.is c.in_ok-count.ensures.followed in
    followed_machine c.args.script.now c.args.text.now c.in-Some.after.now c.in_ok-count.count c.follow.new.state c.follow.new.cursors h c.requires.script

pub are_whole-requires-clause-acked : goal.are_whole-requires-clause-acked
are_whole-requires-clause-acked c =
    let h = subst (λ (o : Option (Bor (List ℕ))). IsFollowed c.args.script.now c.args.text.now c.in_ok-count.count (option_map (λ a. a.now) o) c.follow.new.state c.follow.new.cursors) c.in-Some.is c.in_ok-count.ensures.followed in
    followed_acked c.args.script.now c.args.text.now c.in-Some.after.now c.in_ok-count.count c.follow.new.state c.follow.new.cursors h c.requires.script

none_left : {A : Type 0} (o : Option A) → ((x : A) → o ≡ Some x → ⊥) → o ≡ None
none_left None h = refl
none_left (Some x) h = absurd (h x refl)

pub returns-in_default-clause-wrong : goal.returns-in_default-clause-wrong
returns-in_default-clause-wrong c = λ n e.
    let at : c.in_ok-count.count + 1 ≡ n = cc in
    let script = c.args.script.now in
    let text = c.args.text.now in
    let wrong : IsFirstWrong script (codes "events" ++ 10 ∷ text) (c.in_ok-count.count + 1) = elim c.in_default.branch [
      | in_default-via-in-Some+else-are_whole w ↦
          let h = subst (λ (o : Option (Bor (List ℕ))). IsFollowed script text c.in_ok-count.count (option_map (λ a. a.now) o) c.follow.new.state c.follow.new.cursors) w.in-Some.is c.in_ok-count.ensures.followed in
          let same : w.deref.result.now ≡ c.follow.new.cursors =
          let len : c.args.cursors.len ≡ length c.follow.new.cursors = omega arith in
          w.deref.ensures.value ∙ ap (λ n. take n (c.follow.new.cursors ++ drop (length c.follow.new.cursors) c.args.cursors.items)) len ∙ take-append_seam c.follow.new.cursors _ in
          let left : ¬ AreWhole script c.follow.new.state w.deref.result.now = λ whole. let hit : w.are_whole.result ≡ true = w.are_whole.ensures.1 whole in let miss = w.if-are_whole.false in let f : true ≡ false = sym hit ∙ miss in absurd cc in
          not_whole script text w.in-Some.after.now c.in_ok-count.count c.follow.new.state c.follow.new.cursors h (subst (λ (q : List Cursor). ¬ AreWhole script c.follow.new.state q) same left)
      | in_default-via-in_default w ↦
          let none : c.in_ok-count.after ≡ None = none_left c.in_ok-count.after w.in_default.not-Some in
          first_wrong script text c.in_ok-count.count c.follow.new.state c.follow.new.cursors
          (subst (λ (o : Option (Bor (List ℕ))). IsFollowed script text c.in_ok-count.count (option_map (λ a. a.now) o) c.follow.new.state c.follow.new.cursors) none c.in_ok-count.ensures.followed)
    ] in
    subst (IsFirstWrong script (codes "events" ++ 10 ∷ text)) at wrong
