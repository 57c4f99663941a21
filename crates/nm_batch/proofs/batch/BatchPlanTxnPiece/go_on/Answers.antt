use Rattle.std.proofs.Common.{ℕ, ◌++◌, ◌∷◌, [], ap, ◌∙◌, refl}
use Rattle.nm_compose.specs.declared.or.Or.TheVariants.{This}
use Rattle.nm_txn.specs.Pieces.{txn_parts}
use Rattle.nm_txn.specs.Stages.{txn_word_in}
use Rattle.nm_batch.specs.declared.batch.Batch.{Batch}
use Rattle.nm_batch.specs.declared.batch.BatchPlace.{BatchPlace}
use Rattle.nm_batch.specs.declared.batch.BatchStage.TheVariants.{Preparing, Flushing, Copying, Unmapping, FlushingAgain, Deciding}
use Rattle.nm_commit.specs.declared.decide.Decided.{Decided}
use Rattle.nm_batch.specs.Places.{batch_made, piece_noted, decided_in, prepare_stage, unmap_stage, decide_stage}
use Rattle.nm_batch.proofs.Steps.{after-batch}
use Rattle.nm_batch.proofs.Preparing.{after-preparing}
use Rattle.nm_batch.proofs.Arms.{goes-as, goes-flushed, goes-copied, goes-unmapped, goes-flushed-again, goes-decided, can-note-here, room-word-here, room-decided-here}
use Rattle.nm_batch.proofs.batch.BatchPlanTxnPiece.go_on.Goals as goal

pub note-requires : goal.note-requires
note-requires c =
    can-note-here c.args.self.now c.in-This.prepared c.in-Preparing.page c.in-Preparing.vpage c.args.end c.requires.geometry c.requires.first c.requires.now c.requires.later _ c.in-Preparing.is c.in-This.is c.requires.known c.requires.left

pub note_word-requires : goal.note_word-requires
note_word-requires c = room-word-here c.args.self.now c.in-Unmapping.field-0 c.requires.geometry c.requires.first c.requires.now _ c.in-Unmapping.is c.requires.known

pub note_decided-requires : goal.note_decided-requires
note_decided-requires c = room-decided-here c.args.self.now c.in-Deciding.field-0 c.requires.geometry c.requires.first c.requires.now _ c.in-Deciding.is c.requires.known

pub returns-in-This-clause-next : goal.returns-in-This-clause-next
returns-in-This-clause-next c = λ g first now later own known shown left over.
    let old = c.args.self.now in
    after-batch old c.note.new.self c.step.new.self (Preparing c.in-Preparing.page c.in-Preparing.vpage) c.args.end (This c.in-This.prepared) (txn_parts c.args._piece.now) c.prepare_stage-stage.result g first now later c.step.result
    c.in-Preparing.is c.in-This.is known left (ap (λ (s : Batch). s.geometry.now) c.note.ensures) (ap (λ (s : Batch). s.asked) c.note.ensures) c.step.ensures
    (λ k a. goes-as (batch_made old.asked) (piece_noted c.in-Preparing.page c.in-Preparing.vpage c.in-This.prepared old.place) c.note.new.self.place _ c.prepare_stage-stage.result _ g first later (ap (λ (s : Batch). s.place) c.note.ensures)
    (c.prepare_stage-stage.ensures ∙ ap (λ (s : Batch). prepare_stage (batch_made s.asked) s.place) c.note.ensures)
    (after-preparing (batch_made old.asked) old.place c.in-This.prepared c.in-Preparing.page c.in-Preparing.vpage g first now later k a))

pub returns-in-Flushing-clause-next : goal.returns-in-Flushing-clause-next
returns-in-Flushing-clause-next c = λ g first now later own known shown left over.
    let old = c.args.self.now in
    after-batch old old c.step-in-Flushing.new.self Flushing c.args.end c.args.end (txn_parts c.args._piece.now) c.copy_stage-stage.result g first now later c.step-in-Flushing.result
    c.in-Flushing.is refl known left refl refl c.step-in-Flushing.ensures
    (λ k a. goes-as (batch_made old.asked) old.place old.place _ c.copy_stage-stage.result _ g first later refl c.copy_stage-stage.ensures (goes-flushed (batch_made old.asked) old.place c.args.end g first now later k a))

pub returns-in-Copying-clause-next : goal.returns-in-Copying-clause-next
returns-in-Copying-clause-next c = λ g first now later own known shown left over.
    let old = c.args.self.now in
    after-batch old old c.step-in-Copying.new.self (Copying c.in-Copying.index c.in-Copying.piece) c.args.end c.args.end (txn_parts c.args._piece.now) c.copy_stage-stage-in-Copying.result g first now later c.step-in-Copying.result
    c.in-Copying.is refl known left refl refl c.step-in-Copying.ensures
    (λ k a. goes-as (batch_made old.asked) old.place old.place _ c.copy_stage-stage-in-Copying.result _ g first later refl c.copy_stage-stage-in-Copying.ensures (goes-copied (batch_made old.asked) old.place c.in-Copying.index c.in-Copying.piece c.args.end g first now later k a))

pub returns-in-Unmapping-clause-next : goal.returns-in-Unmapping-clause-next
returns-in-Unmapping-clause-next c = λ g first now later own known shown left over.
    let old = c.args.self.now in
    let place = λ (w : ℕ). (let p : BatchPlace = record old.place { words = old.place.words ++ w ∷ [] } in p) in
    let word = c.txn_word_in.ensures in
    after-batch old c.note_word.new.self c.step-in-Unmapping.new.self (Unmapping c.in-Unmapping.field-0) c.args.end c.args.end (txn_parts c.args._piece.now) c.unmap_stage-stage.result g first now later c.step-in-Unmapping.result
    c.in-Unmapping.is refl known left (ap (λ (s : Batch). s.geometry.now) c.note_word.ensures) (ap (λ (s : Batch). s.asked) c.note_word.ensures) c.step-in-Unmapping.ensures
    (λ k a. goes-as (batch_made old.asked) (place (txn_word_in c.args.end)) c.note_word.new.self.place (unmap_stage (place (txn_word_in c.args.end))) c.unmap_stage-stage.result _ g first later
    (ap (λ (s : Batch). s.place) c.note_word.ensures ∙ ap place word)
    (c.unmap_stage-stage.ensures ∙ (ap (λ (s : Batch). unmap_stage s.place) c.note_word.ensures ∙ ap (λ (w : ℕ). unmap_stage (place w)) word))
    (goes-unmapped (batch_made old.asked) old.place c.in-Unmapping.field-0 c.args.end g first now later k a))

pub returns-in-FlushingAgain-clause-next : goal.returns-in-FlushingAgain-clause-next
returns-in-FlushingAgain-clause-next c = λ g first now later own known shown left over.
    let old = c.args.self.now in
    after-batch old old c.step-in-FlushingAgain.new.self FlushingAgain c.args.end c.args.end (txn_parts c.args._piece.now) c.decide_stage-stage.result g first now later c.step-in-FlushingAgain.result
    c.in-FlushingAgain.is refl known left refl refl c.step-in-FlushingAgain.ensures
    (λ k a. goes-as (batch_made old.asked) old.place old.place _ c.decide_stage-stage.result _ g first later refl c.decide_stage-stage.ensures (goes-flushed-again (batch_made old.asked) old.place c.args.end g first now later k a))

pub returns-in-Deciding-clause-next : goal.returns-in-Deciding-clause-next
returns-in-Deciding-clause-next c = λ g first now later own known shown left over.
    let old = c.args.self.now in
    let place = λ (d : Decided). (let p : BatchPlace = record old.place { decided = old.place.decided ++ d ∷ [] } in p) in
    let end = c.decided_in.ensures in
    after-batch old c.note_decided.new.self c.step-in-Deciding.new.self (Deciding c.in-Deciding.field-0) c.args.end c.args.end (txn_parts c.args._piece.now) c.decide_stage-stage-in-Deciding.result g first now later c.step-in-Deciding.result
    c.in-Deciding.is refl known left (ap (λ (s : Batch). s.geometry.now) c.note_decided.ensures) (ap (λ (s : Batch). s.asked) c.note_decided.ensures) c.step-in-Deciding.ensures
    (λ k a. goes-as (batch_made old.asked) (place (decided_in c.args.end)) c.note_decided.new.self.place (decide_stage (place (decided_in c.args.end))) c.decide_stage-stage-in-Deciding.result _ g first later
    (ap (λ (s : Batch). s.place) c.note_decided.ensures ∙ ap place end)
    (c.decide_stage-stage-in-Deciding.ensures ∙ (ap (λ (s : Batch). decide_stage s.place) c.note_decided.ensures ∙ ap (λ (d : Decided). decide_stage (place d)) end))
    (goes-decided (batch_made old.asked) old.place c.in-Deciding.field-0 c.args.end g first now later k a))
