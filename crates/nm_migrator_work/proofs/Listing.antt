-- Every work has a finished list.
use Rattle.std.proofs.Common.{ℕ, zero, suc, ◌+◌, [], ◌∷◌, ◌++◌, List, true, refl}
use Rattle.nm_base.specs.Geometry.{Geometry}
use Rattle.nm_action.specs.declared.action.Action.TheVariants.{Lock, SeeAck}
use Rattle.nm_action.specs.declared.action.Reply.TheVariants as replies
use Rattle.nm_action.specs.declared.spent.Spent.{Spent}
use Rattle.nm_action.specs.Own.{Own}
use Rattle.nm_view.specs.Views.{end_word}
use Rattle.nm_part.specs.Patterns.{CanEnd}
use Rattle.nm_part.proofs.Patterns.{ends-now, can-follow, each-can, can-ends}
use Rattle.nm_compose.specs.Acts.{IsAct}
use Rattle.nm_compose.proofs.Acting.{some-act}
use Rattle.nm_looks.proofs.Looking.{some-looks}
use Rattle.nm_cool.proofs.Ending.{some-cooling}
use Rattle.nm_prepare.specs.declared.prepare.PrepareMade.{PrepareMade}
use Rattle.nm_prepare.specs.declared.prepare.Prepared.{Prepared}
use Rattle.nm_prepare.specs.declared.prepare.Prepared.TheVariants as prepared
use Rattle.nm_prepare.specs.Preparing.{IsPrepare}
use Rattle.nm_txn.specs.Batches.{BatchMade, IsBatch, PreparesNext, AfterPrepares, drawn_with, ready_of}
use Rattle.nm_batch.proofs.Ending.{can-flush-first}
use Rattle.nm_batch.specs.Places.{batch_made}
use Rattle.nm_locked.specs.declared.choose.ChooseMade.{ChooseMade}
use Rattle.nm_locked.specs.declared.choose.Chosen.TheVariants as chosen
use Rattle.nm_locked.specs.declared.locked.LockedEnd.{LockedEnd}
use Rattle.nm_locked.specs.declared.locked.LockedEnd.TheVariants as ends
use Rattle.nm_locked.specs.declared.locked.LockedOver.{LockedOver}
use Rattle.nm_locked.specs.Choosing.{IsChoosing}
use Rattle.nm_locked.specs.Moves.{AfterChoosing, IsLockedInMove}
use Rattle.nm_ended.specs.Asking.{AsksFrom}
use Rattle.nm_ended.proofs.Asking.{some-asking}
use Rattle.nm_drawing.specs.declared.drawing.Drawn.{Drawn}
use Rattle.nm_drawing.specs.Draws.{IsDrawingList, drawn_over}
use Rattle.nm_migrator_work.specs.declared.work.MigratorWork.TheVariants as works
use Rattle.nm_migrator_work.specs.Works.{MigratorWorkMade, IsMigratorWork, made_ask}

-- A page whose lock is held.

busy-lock : (page : ℕ) (g : Geometry) → IsAct (Lock page) g ((Lock page, replies.Busy 0) ∷ []) (replies.Busy 0)
busy-lock page g = record { is = refl; kind = λ view. tt }

busy-prepare : (made : PrepareMade) (g : Geometry) → CanEnd (IsPrepare made g)
busy-prepare made g = record {
  rest = (Lock made.page, replies.Busy 0) ∷ [];
  outcome = prepared.Busy;
  shown = record { end = replies.Busy 0; front = (Lock made.page, replies.Busy 0) ∷ []; back = []; shown = busy-lock made.page g; rest = ends-now prepared.Busy; is = refl };
}

some-batch : (made : BatchMade) (g : Geometry) → CanEnd (IsBatch made g)
unfolding busy-prepare
some-batch made g =
    let m = λ (p : ℕ × ℕ) (now : List Prepared). (let q : PrepareMade = record { page = p.0; vpage = p.1; spent = drawn_with made.spent now } in q) in
    each-can (PreparesNext g made) made.pieces [] (λ ends. AfterPrepares g ends (ready_of made.pieces ends))
    (λ p now later can. can-follow (IsPrepare (m p now) g) (λ end. later (now ++ end ∷ [])) (busy-prepare (m p now) g) (can (now ++ prepared.Busy ∷ [])))
    (λ ends. can-flush-first g ends (ready_of made.pieces ends))

busy-choose : (made : ChooseMade) (g : Geometry) → CanEnd (IsChoosing made g)
busy-choose made g = record {
  rest = (Lock made.page, replies.Busy 0) ∷ [];
  outcome = chosen.Busy;
  shown = record { end = replies.Busy 0; front = (Lock made.page, replies.Busy 0) ∷ []; back = []; shown = busy-lock made.page g; rest = ends-now chosen.Busy; is = refl };
}

busy-move : (made : ChooseMade) (g : Geometry) → CanEnd (IsLockedInMove made g)
unfolding busy-choose
busy-move made g = can-follow (IsChoosing made g) (AfterChoosing g made) (busy-choose made g) (can-ends ends.Busy)

-- A list of a piece that tells what was drawn.
with-drawn : {X : Type 0} (finished : Own → X → Type 0) (begun : Spent) → CanEnd finished → CanEnd (λ own (told : Drawn X). IsDrawingList (finished own) begun own told)
with-drawn finished begun can = record {
  rest = can.rest;
  outcome = record { end = can.outcome; spent = drawn_over begun can.rest };
  shown = record { shown = can.shown; drawn = refl };
}

with-words : (pattern : Own → LockedEnd → Type 0) → CanEnd pattern → CanEnd (λ own (over : LockedOver). pattern own over.end)
with-words pattern can = record { rest = can.rest; outcome = record { end = can.outcome; taken = [] }; shown = can.shown }

-- every work has a finished list
pub some-migrator-work : (work : MigratorWorkMade) (g : Geometry) → CanEnd (IsMigratorWork work g)
some-migrator-work (works.Mark action) g = let can = some-act action g in record { rest = can.rest; outcome = works.Mark can.outcome; shown = can.shown }
some-migrator-work (works.Looks made) g = let can = some-looks made g in record { rest = can.rest; outcome = works.Looks can.outcome; shown = can.shown }
some-migrator-work (works.Cool made) g = let can = some-cooling made g in record { rest = can.rest; outcome = works.Cool can.outcome; shown = can.shown }
some-migrator-work (works.Batch made) g =
    let can = with-drawn (IsBatch (batch_made made.0.1) g) made.1 (some-batch (batch_made made.0.1) g) in
    record { rest = can.rest; outcome = works.Batch can.outcome; shown = can.shown }
some-migrator-work (works.Move made) g =
    let can = with-drawn (λ own (over : LockedOver). IsLockedInMove made.0.1 g own over.end) made.1 (with-words (IsLockedInMove made.0.1 g) (busy-move made.0.1 g)) in
    record { rest = can.rest; outcome = works.Move can.outcome; shown = can.shown }
some-migrator-work (works.Ask cpus) g = let can = some-asking cpus g in record { rest = can.rest; outcome = works.Ask can.outcome; shown = can.shown }

-- every processor answers that it has ended
all-asked : (g : Geometry) (cpu more : ℕ) → (own : Own) × (AsksFrom g cpu more own true)
all-asked g cpu zero = ([], ends-now true)
all-asked g cpu (suc more) =
    let rest = all-asked g (cpu + 1) more in (
      (SeeAck cpu, replies.Word end_word) ∷ [] ++ rest.0,
      record { end = replies.Word end_word; front = (SeeAck cpu, replies.Word end_word) ∷ []; back = rest.0; shown = record { is = refl; kind = λ view. tt }; rest = rest.1; is = refl },
    )

-- there is a list in which all have ended
pub all-ended : (g : Geometry) → (own : Own) × (IsMigratorWork (made_ask g) g own (works.Ask true))
all-ended g = all-asked g 0 g.cpus
