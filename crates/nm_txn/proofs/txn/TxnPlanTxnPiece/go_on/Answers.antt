use Rattle.std.proofs.Common.{◌≡◌, ℕ, sym, ap, ◌∙◌, subst, refl}
use Rattle.nm_part.proofs.Patterns.{ends-now}
use Rattle.nm_compose.specs.declared.or.Or.TheVariants.{This, Other}
use Rattle.nm_prepare.specs.declared.prepare.Prepared.TheVariants.{Busy, Closed, Ready}
use Rattle.nm_txn.specs.declared.end.TxnEnd.{TxnEnd}
use Rattle.nm_txn.specs.declared.end.TxnEnd.TheVariants as ends
use Rattle.nm_txn.specs.declared.txn.TxnStage.TheVariants.{Preparing, Flushing, Copying, Unmapping, FlushingAgain, Deciding}
use Rattle.nm_txn.specs.Transactions.{early_end}
use Rattle.nm_txn.specs.Pieces.{txn_parts}
use Rattle.nm_txn.specs.Stages.{txn_word_in, end_in, txn_left}
use Rattle.nm_txn.proofs.Runs.{step-txn, over-txn, IsTxnOver, RunsTxn}
use Rattle.nm_txn.proofs.Moving.{runs-flushing}
use Rattle.nm_txn.proofs.Steps.{after-closed, after-flushing, after-copying, after-unmapping, after-flushing-again, after-deciding}
use Rattle.nm_txn.proofs.txn.TxnPlanTxnPiece.go_on.Goals as goal

pub returns-in-Busy-clause-next : goal.returns-in-Busy-clause-next
returns-in-Busy-clause-next c = λ g first now later own known shown left over.
    over-txn c.args.self.now Preparing c.args.end (This Busy) (txn_parts c.args._piece.now) ends.Busy g first now later c.in-Preparing.is (c.in-This.is ∙ ap This c.in-Busy.is) known left
    (λ k a. record { shown = ends-now ends.Busy; left = a ∙ k.begun; over = tt })

pub returns-in-Closed-clause-next : goal.returns-in-Closed-clause-next
returns-in-Closed-clause-next c = λ g first now later own known shown left over.
    let T : TxnEnd → Type 0 = λ t. IsTxnOver c.args.self.now (txn_left c.args.self.now.made c.args.self.now.stage g c.args.end) g first later t in
    subst T (sym c.of_early.ensures)
    (over-txn c.args.self.now Preparing c.args.end (This (Closed c.in-Closed.early)) (txn_parts c.args._piece.now) (early_end c.in-Closed.early) g first now later c.in-Preparing.is (c.in-This.is ∙ ap This c.in-Closed.is) known left
    (λ k a. record { shown = ends-now (early_end c.in-Closed.early); left = after-closed c.args.self.now.made g first now later c.in-Closed.early k a; over = tt }))

pub returns-in-Ready-clause-next : goal.returns-in-Ready-clause-next
returns-in-Ready-clause-next c = λ g first now later own known shown left over. record {
  new = c.go.ensures.new;
  run = step-txn c.args.self.now c.go.new.self Preparing (Flushing c.in-Ready.home c.in-Ready.frame) c.args.end (This (Ready c.in-Ready.home c.in-Ready.frame)) (txn_parts c.args._piece.now) (txn_parts c.go.result) g first now later c.in-Preparing.is (c.in-This.is ∙ ap This c.in-Ready.is) known left c.go.ensures.stage c.go.ensures.made
      (λ k a. runs-flushing c.args.self.now.made g first now later c.in-Ready.home c.in-Ready.frame k a);
}

pub returns-in-Flushing-clause-next : goal.returns-in-Flushing-clause-next
returns-in-Flushing-clause-next c = λ g first now later own known shown left over. record {
  new = c.go-in-Flushing.ensures.new;
  run = step-txn c.args.self.now c.go-in-Flushing.new.self (Flushing c.in-Flushing.home c.in-Flushing.frame) (Copying c.in-Flushing.home c.in-Flushing.frame) c.args.end c.args.end (txn_parts c.args._piece.now) (txn_parts c.go-in-Flushing.result) g first now later c.in-Flushing.is refl known left c.go-in-Flushing.ensures.stage c.go-in-Flushing.ensures.made
      (λ k a. after-flushing c.args.self.now.made g first now later c.in-Flushing.home c.in-Flushing.frame c.args.end k a);
}

pub returns-in-Copying-clause-next : goal.returns-in-Copying-clause-next
returns-in-Copying-clause-next c = λ g first now later own known shown left over. record {
  new = c.go-in-Copying.ensures.new;
  run = step-txn c.args.self.now c.go-in-Copying.new.self (Copying c.in-Copying.home c.in-Copying.frame) (Unmapping c.in-Copying.home c.in-Copying.frame) c.args.end c.args.end (txn_parts c.args._piece.now) (txn_parts c.go-in-Copying.result) g first now later c.in-Copying.is refl known left c.go-in-Copying.ensures.stage c.go-in-Copying.ensures.made
      (λ k a. after-copying c.args.self.now.made g first now later c.in-Copying.home c.in-Copying.frame c.args.end k a);
}

pub returns-in-Unmapping-clause-next : goal.returns-in-Unmapping-clause-next
returns-in-Unmapping-clause-next c = λ g first now later own known shown left over. record {
  new = c.go-in-Unmapping.ensures.new;
  run = step-txn c.args.self.now c.go-in-Unmapping.new.self (Unmapping c.in-Unmapping.home c.in-Unmapping.frame) (FlushingAgain c.in-Unmapping.home c.in-Unmapping.frame c.txn_word_in-word.result) c.args.end c.args.end (txn_parts c.args._piece.now) (txn_parts c.go-in-Unmapping.result) g first now later c.in-Unmapping.is refl known left c.go-in-Unmapping.ensures.stage c.go-in-Unmapping.ensures.made
      (λ k a. let W : ℕ → Type 0 = λ w. RunsTxn c.args.self.now.made (FlushingAgain c.in-Unmapping.home c.in-Unmapping.frame w) (txn_left c.args.self.now.made (Unmapping c.in-Unmapping.home c.in-Unmapping.frame) g c.args.end) g first later in subst W (sym c.txn_word_in-word.ensures) (after-unmapping c.args.self.now.made g first now later c.in-Unmapping.home c.in-Unmapping.frame c.args.end k a));
}

pub returns-in-FlushingAgain-clause-next : goal.returns-in-FlushingAgain-clause-next
returns-in-FlushingAgain-clause-next c = λ g first now later own known shown left over. record {
  new = c.go-in-FlushingAgain.ensures.new;
  run = step-txn c.args.self.now c.go-in-FlushingAgain.new.self (FlushingAgain c.in-FlushingAgain.home c.in-FlushingAgain.frame c.in-FlushingAgain.word) (Deciding c.in-FlushingAgain.home c.in-FlushingAgain.frame c.in-FlushingAgain.word) c.args.end c.args.end (txn_parts c.args._piece.now) (txn_parts c.go-in-FlushingAgain.result) g first now later c.in-FlushingAgain.is refl known left c.go-in-FlushingAgain.ensures.stage c.go-in-FlushingAgain.ensures.made
      (λ k a. after-flushing-again c.args.self.now.made g first now later c.in-FlushingAgain.home c.in-FlushingAgain.frame c.in-FlushingAgain.word c.args.end k a);
}

pub returns-in-Deciding-clause-next : goal.returns-in-Deciding-clause-next
returns-in-Deciding-clause-next c = λ g first now later own known shown left over.
    let T : TxnEnd → Type 0 = λ t. IsTxnOver c.args.self.now (txn_left c.args.self.now.made c.args.self.now.stage g c.args.end) g first later t in
    subst T (sym c.end_in.ensures)
    (over-txn c.args.self.now (Deciding c.in-Deciding.home c.in-Deciding.frame c.in-Deciding.word) c.args.end c.args.end (txn_parts c.args._piece.now) (end_in c.args.end) g first now later c.in-Deciding.is refl known left
    (λ k a. after-deciding c.args.self.now.made g first now later c.in-Deciding.home c.in-Deciding.frame c.in-Deciding.word c.args.end k a))
