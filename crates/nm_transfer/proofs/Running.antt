-- The steps of a transfer.
use Rattle.std.proofs.Common.{◌≡◌, ℕ, ◌+◌, ◌<◌, List, [], ◌∷◌, ◌++◌, drop, Option, Some, None, refl, sym, ap, ◌∙◌, subst, arith}
use Rattle.nm_base.specs.Geometry.{Geometry}
use Rattle.nm_action.specs.declared.action.Action.TheVariants.{Unmap, SetShadow, SetHome, Map}
use Rattle.nm_action.specs.Own.{Own}
use Rattle.nm_view.specs.Views.{View}
use Rattle.nm_part.specs.Patterns.{Ends, CanEnd}
use Rattle.nm_part.proofs.Patterns.{ends-now, can-ends, can-follow, each-can}
use Rattle.nm_compose.specs.Acts.{IsAct}
use Rattle.nm_compose.specs.Choices.{IsOr}
use Rattle.nm_compose.specs.Plans.{IsNewRun, IsOver, IsNext}
use Rattle.nm_compose.specs.Stages.{IsPieceAt, RunsAt}
use Rattle.nm_compose.specs.declared.or.Or.{Or}
use Rattle.nm_compose.specs.declared.or.Or.TheVariants.{This, Other}
use Rattle.nm_compose.specs.declared.plan.Next.{Next}
use Rattle.nm_compose.specs.declared.plan.Next.TheVariants.{Run, Over}
use Rattle.nm_compose.proofs.Acting.{some-act}
use Rattle.nm_compose.proofs.Choosing.{this-follows, other-follows}
use Rattle.nm_compose.proofs.Staging.{runs-new}
use Rattle.nm_shoot.specs.Shootdown.{IsShootdown}
use Rattle.nm_shoot.proofs.Steps.{some-shootdown}
use Rattle.nm_copying.specs.Copying.{IsCopying}
use Rattle.nm_copying.proofs.Copied.{some-copies}
use Rattle.nm_copying.specs.declared.copies.CopiesMade.{CopiesMade}
use Rattle.nm_mappings.specs.declared.visits.VisitsMade.{VisitsMade}
use Rattle.nm_vpages.specs.VPages.{most_vpages, at_or_after}
use Rattle.nm_vpages.proofs.Numbers.{at-least-zero}
use Rattle.nm_mappings.specs.Visits.{IsVisits, raises_made}
use Rattle.nm_mappings.proofs.Visiting.{some-visits}
use Rattle.nm_transfer.specs.declared.transfer.Source.{Source}
use Rattle.nm_transfer.specs.declared.transfer.Source.TheVariants as sources
use Rattle.nm_transfer.specs.declared.transfer.Stage.{Stage}
use Rattle.nm_transfer.specs.declared.transfer.Stage.TheVariants.{Unmapping, Raising, Flushing, Copying, Unshading, Homing, Mapping}
use Rattle.nm_transfer.specs.declared.transfer.TransferMade.{TransferMade}
use Rattle.nm_transfer.specs.declared.transfer.Transfer.{Transfer}
use Rattle.nm_transfer.specs.Words.{mapped_word}
use Rattle.nm_transfer.specs.Transferring.{MapAt, MapsOf, HomesPage, FillsFrom, Fills, Flushes, Raises, UnmapAt, UnmapsOf, IsTransfer, taken_after}
use Rattle.nm_transfer.specs.Moving.{MayTransfer, IsTransferred}
use Rattle.nm_transfer.specs.Stages.{TransferPieceMade, TransferPieceEnd, MayTransferPiece, IsTransferPiece, TransferPieceLeaves, PieceOfTransfer, transfer_piece_made, IsNewTransferPiece, transfer_told, taken_in, HoldsWords, CanNote, TransferPlace, transfer_place, noted, transfer_piece, filling_from, IsMapNext, transfer_left_of, transfer_left, IsUnmapping, IsRaisingAll, IsFlushing, IsFilling, IsHoming, IsMapped, IsMappingBack, KnownIn, KnownInTransfer, transfer_stages}
use Rattle.nm_transfer.proofs.Lists.{drop-within}
use Rattle.nm_transfer.proofs.Taking.{unmap-first, unmap-may, unmap-next, unmap-all, raise-may, raise-ended}
use Rattle.nm_transfer.proofs.Filling.{shoot-may, shoot-ended, copy-may, copy-ended, unshade-may, unshade-ended, home-may, home-ended}
use Rattle.nm_transfer.proofs.Mapping.{map-may, map-ended, map-over}

-- What is left can end.

can-maps : (g : Geometry) (made : TransferMade) (rest taken : List (ℕ × ℕ)) → CanEnd (MapsOf g made rest taken)
can-maps g made rest taken = each-can (MapAt g made) rest tt (λ kept. Ends taken)
    (λ p now later can. can-follow (IsAct (Map p.0 (mapped_word made.rights made.frame made.hint p.1)) g) (λ reply. later now) (some-act (Map p.0 (mapped_word made.rights made.frame made.hint p.1)) g) (can now))
    (λ kept. can-ends taken)

can-home : (g : Geometry) (made : TransferMade) (taken : List (ℕ × ℕ)) → CanEnd (HomesPage g made taken)
can-home g made taken = can-follow (IsAct (SetHome made.page made.frame) g) (λ reply. MapsOf g made taken taken) (some-act (SetHome made.page made.frame) g) (can-maps g made taken taken)

can-fills : (source : Source) (g : Geometry) (made : TransferMade) (taken : List (ℕ × ℕ)) → CanEnd (FillsFrom source g made taken)
can-fills sources.Copy g made taken = can-follow (IsCopying made.copies.made g) (λ copied. HomesPage g made taken) (some-copies made.copies.made g) (can-home g made taken)
can-fills sources.Shadow g made taken = can-follow (IsAct (SetShadow made.page made.home None) g) (λ reply. HomesPage g made taken) (some-act (SetShadow made.page made.home None) g) (can-home g made taken)

can-shoot : (cpus : ℕ) → CanEnd (IsShootdown cpus)
can-shoot cpus = let some = some-shootdown cpus in record { rest = some.rest; outcome = some.outcome; shown = some.whole }

can-flushes : (g : Geometry) (made : TransferMade) (taken : List (ℕ × ℕ)) → CanEnd (Flushes g made taken)
can-flushes g made taken = can-follow (IsShootdown made.cpus) (λ number. Fills g made taken) (can-shoot made.cpus) (can-fills made.source g made taken)

can-raises : (g : Geometry) (made : TransferMade) (taken : List (ℕ × ℕ)) → CanEnd (Raises g made taken)
can-raises g made taken = can-follow (IsVisits (raises_made made.page made.pages) g) (λ found. Flushes g made taken) (some-visits (raises_made made.page made.pages) g) (can-flushes g made taken)

can-unmaps : (g : Geometry) (made : TransferMade) (pages : List ℕ) (taken : List (ℕ × ℕ)) → CanEnd (UnmapsOf g made pages taken)
can-unmaps g made pages taken = each-can (UnmapAt g) pages taken (Raises g made)
    (λ v now later can. can-follow (IsAct (Unmap v) g) (λ reply. later (taken_after v reply now)) (some-act (Unmap v) g) (can (taken_after v (some-act (Unmap v) g).outcome now)))
    (λ all. can-raises g made all)

-- the pattern has a list
pub some-transfer : (made : TransferMade) (g : Geometry) → CanEnd (IsTransfer made g)
some-transfer made g = can-unmaps g made made.pages []

-- The pieces.

abbrev IsShoot : ℕ → Geometry → Own → ℕ → Type 0
IsShoot cpus g own number = IsShootdown cpus own number

abbrev IsLast : Or ℕ CopiesMade → Geometry → Own → Or ℕ (Unit {0}) → Type 0
IsLast = IsOr IsShoot IsCopying

abbrev IsOthers : Or VisitsMade (Or ℕ CopiesMade) → Geometry → Own → Or (List ℕ) (Or ℕ (Unit {0})) → Type 0
IsOthers = IsOr IsVisits IsLast

abbrev pub RunsTransfer : TransferMade → TransferPlace → (Own → List (ℕ × ℕ) → Type 0) → Geometry → View → View → Type 0
RunsTransfer = RunsAt MayTransferPiece IsTransferPiece transfer_stages

abbrev place : Stage → List (ℕ × ℕ) → TransferPlace
place stage taken = record { stage = stage; taken = Some taken }

runs-unmap : (made : TransferMade) (v : ℕ) (taken : List (ℕ × ℕ)) (g : Geometry) (first now : View) (rest : List ℕ) → IsUnmapping made v taken g first now → rest ≡ v ∷ at_or_after (v + 1) made.pages
    → RunsTransfer made (place (Unmapping v) taken) (UnmapsOf g made rest taken) g first now
runs-unmap made v taken g first now rest at next = record {
  begin = unmap-may made v taken g first now at;
  known = record { is = refl; known = at };
  can = λ own end shown. can-unmaps g made (at_or_after (v + 1) made.pages) (taken ++ (v, transfer_told end) ∷ []);
  fits = λ own outcome f. rw next (this-follows IsAct IsOthers (transfer_left_of made (Unmapping v) taken g) (Unmap v) g own outcome f);
}

runs-raise : (made : TransferMade) (taken : List (ℕ × ℕ)) (g : Geometry) (first now : View) → IsRaisingAll made taken g first now → RunsTransfer made (place Raising taken) (Raises g made taken) g first now
runs-raise made taken g first now at = record {
  begin = raise-may made taken g first now at;
  known = record { is = refl; known = at };
  can = λ own end shown. can-flushes g made taken;
  fits = λ own outcome f. this-follows IsVisits IsLast (λ end. transfer_left_of made Raising taken g (Other end)) (raises_made made.page made.pages) g own outcome (other-follows IsAct IsOthers (transfer_left_of made Raising taken g) (This (raises_made made.page made.pages)) g own outcome f);
}

runs-shoot : (made : TransferMade) (taken : List (ℕ × ℕ)) (g : Geometry) (first now : View) → IsFlushing made taken g first now → RunsTransfer made (place Flushing taken) (Flushes g made taken) g first now
runs-shoot made taken g first now at = record {
  begin = shoot-may made taken g first now at;
  known = record { is = refl; known = at };
  can = λ own end shown. can-fills made.source g made taken;
  fits = λ own outcome f. this-follows IsShoot IsCopying (λ end. transfer_left_of made Flushing taken g (Other (Other end))) made.cpus g own outcome
      (other-follows IsVisits IsLast (λ end. transfer_left_of made Flushing taken g (Other end)) (This made.cpus) g own outcome (other-follows IsAct IsOthers (transfer_left_of made Flushing taken g) (Other (This made.cpus)) g own outcome f));
}

runs-copy : (made : TransferMade) (taken : List (ℕ × ℕ)) (g : Geometry) (first now : View) → IsFilling made sources.Copy taken g first now → RunsTransfer made (place Copying taken) (FillsFrom sources.Copy g made taken) g first now
runs-copy made taken g first now at = record {
  begin = copy-may made taken g first now at;
  known = record { is = refl; known = at };
  can = λ own end shown. can-home g made taken;
  fits = λ own outcome f. other-follows IsShoot IsCopying (λ end. transfer_left_of made Copying taken g (Other (Other end))) made.copies.made g own outcome
      (other-follows IsVisits IsLast (λ end. transfer_left_of made Copying taken g (Other end)) (Other made.copies.made) g own outcome (other-follows IsAct IsOthers (transfer_left_of made Copying taken g) (Other (Other made.copies.made)) g own outcome f));
}

runs-unshade : (made : TransferMade) (taken : List (ℕ × ℕ)) (g : Geometry) (first now : View) → IsFilling made sources.Shadow taken g first now → RunsTransfer made (place Unshading taken) (FillsFrom sources.Shadow g made taken) g first now
runs-unshade made taken g first now at = record {
  begin = unshade-may made taken g first now at;
  known = record { is = refl; known = at };
  can = λ own end shown. can-home g made taken;
  fits = λ own outcome f. this-follows IsAct IsOthers (transfer_left_of made Unshading taken g) (SetShadow made.page made.home None) g own outcome f;
}

-- where the new home gets its words
runs-fill : (made : TransferMade) (source : Source) (taken : List (ℕ × ℕ)) (g : Geometry) (first now : View) → IsFilling made source taken g first now → RunsTransfer made (place (filling_from source) taken) (FillsFrom source g made taken) g first now
runs-fill made sources.Copy taken g first now at = runs-copy made taken g first now at
runs-fill made sources.Shadow taken g first now at = runs-unshade made taken g first now at

runs-home : (made : TransferMade) (taken : List (ℕ × ℕ)) (g : Geometry) (first now : View) → IsHoming made taken g first now → RunsTransfer made (place Homing taken) (HomesPage g made taken) g first now
runs-home made taken g first now at = record {
  begin = home-may made taken g first now at;
  known = record { is = refl; known = at };
  can = λ own end shown. can-maps g made taken taken;
  fits = λ own outcome f. this-follows IsAct IsOthers (transfer_left_of made Homing taken g) (SetHome made.page made.frame) g own outcome f;
}

runs-map : (made : TransferMade) (index v word : ℕ) (taken : List (ℕ × ℕ)) (g : Geometry) (first now : View) → IsMappingBack made index v word taken g first now
    → RunsTransfer made (place (Mapping index v word) taken) (MapsOf g made (drop index taken) taken) g first now
runs-map made index v word taken g first now at = record {
  begin = map-may made index v word taken g first now at;
  known = record { is = refl; known = at };
  can = λ own end shown. can-maps g made (drop (index + 1) taken) taken;
  fits = λ own outcome f. rw at.next (this-follows IsAct IsOthers (transfer_left_of made (Mapping index v word) taken g) (Map v (mapped_word made.rights made.frame made.hint word)) g own outcome f);
}

-- The transfer gives this piece, where this was left.
abbrev pub Gives : Transfer → PieceOfTransfer → (Own → List (ℕ × ℕ) → Type 0) → Geometry → View → View → Type 0
Gives new piece was g first now = IsNewRun transfer_piece_made IsNewTransferPiece MayTransferPiece IsTransferPiece (IsPieceAt transfer_stages new.made (transfer_place new)) (transfer_left new.made (transfer_place new)) was piece g first now

gives-at : (given : TransferMade) (new : Transfer) (piece : PieceOfTransfer) (was : Own → List (ℕ × ℕ) → Type 0) (g : Geometry) (first now : View) (stage : Stage) (taken : List (ℕ × ℕ))
    → new.made ≡ given → new.stage ≡ stage → new.taken ≡ Some taken → transfer_piece_made piece ≡ transfer_piece given stage → IsNewTransferPiece piece → RunsTransfer given (place stage taken) was g first now → Gives new piece was g first now
gives-at given new piece was g first now stage taken made-is stage-is taken-is runs-is fresh run =
    let here : transfer_place new ≡ place stage taken = ap (λ (s : Stage). record { stage = s; taken = new.taken }) stage-is ∙ ap (λ (t : Option (List (ℕ × ℕ))). record { stage = stage; taken = t }) taken-is in
    runs-new transfer_piece_made IsNewTransferPiece MayTransferPiece IsTransferPiece transfer_stages was given new.made (place stage taken) (transfer_place new) piece g first now made-is here runs-is fresh run

-- the first piece
pub begins : (given : TransferMade) (new : Transfer) (piece : PieceOfTransfer) (v : ℕ) (g : Geometry) (view : View)
    → new.made ≡ given → new.stage ≡ Unmapping v → new.taken ≡ Some [] → transfer_piece_made piece ≡ transfer_piece given (Unmapping v) → IsNewTransferPiece piece
    → v < most_vpages → at_or_after 0 given.pages ≡ v ∷ at_or_after (v + 1) given.pages → MayTransfer given g view → Gives new piece (IsTransfer given g) g view view
begins given new piece v g view made-is stage-is taken-is runs-is fresh small next may =
    gives-at given new piece (IsTransfer given g) g view view (Unmapping v) [] made-is stage-is taken-is runs-is fresh
    (runs-unmap given v [] g view view given.pages (unmap-first given g view v may small next) (sym (at-least-zero given.pages) ∙ next))

-- what is to be shown after a piece, at its stage and with the words that the transfer holds
at-stage : (made : TransferMade) (stage here : Stage) (transfer_held : Option (List (ℕ × ℕ))) (end : TransferPieceEnd) (g : Geometry) (first now later : View) (piece : TransferPieceMade) (goal : Stage → Option (List (ℕ × ℕ)) → Type 0)
    → stage ≡ here → IsPieceAt transfer_stages made (record { stage = stage; taken = transfer_held }) g first now piece → TransferPieceLeaves piece g now end later
    → ((taken : List (ℕ × ℕ)) → KnownIn made here taken g first now → TransferPieceLeaves (transfer_piece made here) g now end later → goal here (Some taken)) → goal stage transfer_held
at-stage made stage here None end g first now later piece goal at known left show = absurd known.known
at-stage made stage here (Some taken) end g first now later piece goal at known left show =
    let leaves = subst (λ (s : Stage). TransferPieceLeaves (transfer_piece made s) g now end later) at (subst (λ (m : TransferPieceMade). TransferPieceLeaves m g now end later) known.is left) in
    subst (λ (s : Stage). goal s (Some taken)) (sym at) (show taken (subst (λ (s : Stage). KnownIn made s taken g first now) at known.known) leaves)

abbrev IsHere : Transfer → Geometry → View → View → TransferPieceMade → Type 0
IsHere old g first now piece = IsPieceAt transfer_stages old.made (transfer_place old) g first now piece

-- the next word is taken
pub after-unmap-next : (old new : Transfer) (piece : PieceOfTransfer) (v u : ℕ) (end : TransferPieceEnd) (g : Geometry) (first now later : View) (runs : TransferPieceMade)
    → old.stage ≡ Unmapping v → IsHere old g first now runs → TransferPieceLeaves runs g now end later
    → new.made ≡ old.made → new.stage ≡ Unmapping u → new.taken ≡ noted v (transfer_told end) old.taken → transfer_piece_made piece ≡ transfer_piece old.made (Unmapping u) → IsNewTransferPiece piece
    → u < most_vpages → at_or_after (v + 1) old.made.pages ≡ u ∷ at_or_after (u + 1) old.made.pages → Gives new piece (transfer_left old.made (transfer_place old) g end) g first later
after-unmap-next old new piece v u end g first now later runs at known left made-is stage-is taken-is runs-is fresh small next =
    at-stage old.made old.stage (Unmapping v) old.taken end g first now later runs
    (λ stage words. new.taken ≡ noted v (transfer_told end) words → Gives new piece (transfer_left old.made (record { stage = stage; taken = words }) g end) g first later) at known left
    (λ taken k l words-is. gives-at old.made new piece (UnmapsOf g old.made (at_or_after (v + 1) old.made.pages) (taken ++ (v, transfer_told end) ∷ [])) g first later (Unmapping u) (taken ++ (v, transfer_told end) ∷ []) made-is stage-is words-is runs-is fresh
    (runs-unmap old.made u (taken ++ (v, transfer_told end) ∷ []) g first later (at_or_after (v + 1) old.made.pages) (unmap-next old.made v u taken end g first now later k l small next) next)) taken-is

-- all words are taken: the virtual pages are raised
pub after-unmap-all : (old new : Transfer) (piece : PieceOfTransfer) (v : ℕ) (end : TransferPieceEnd) (g : Geometry) (first now later : View) (runs : TransferPieceMade)
    → old.stage ≡ Unmapping v → IsHere old g first now runs → TransferPieceLeaves runs g now end later
    → new.made ≡ old.made → new.stage ≡ Raising → new.taken ≡ noted v (transfer_told end) old.taken → transfer_piece_made piece ≡ transfer_piece old.made Raising → IsNewTransferPiece piece
    → at_or_after (v + 1) old.made.pages ≡ [] → Gives new piece (transfer_left old.made (transfer_place old) g end) g first later
after-unmap-all old new piece v end g first now later runs at known left made-is stage-is taken-is runs-is fresh none =
    at-stage old.made old.stage (Unmapping v) old.taken end g first now later runs
    (λ stage words. new.taken ≡ noted v (transfer_told end) words → Gives new piece (transfer_left old.made (record { stage = stage; taken = words }) g end) g first later) at known left
    (λ taken k l words-is.
    let more : List (ℕ × ℕ) = taken ++ (v, transfer_told end) ∷ [] in
    let given = gives-at old.made new piece (Raises g old.made more) g first later Raising more made-is stage-is words-is runs-is fresh (runs-raise old.made more g first later (unmap-all old.made v taken end g first now later k l none)) in
    subst (λ (pages : List ℕ). Gives new piece (UnmapsOf g old.made pages more) g first later) (sym none) given) taken-is

-- the virtual pages are raised: the shootdown
pub after-raise : (old new : Transfer) (piece : PieceOfTransfer) (end : TransferPieceEnd) (g : Geometry) (first now later : View) (runs : TransferPieceMade)
    → old.stage ≡ Raising → IsHere old g first now runs → TransferPieceLeaves runs g now end later
    → new ≡ record old { stage = Flushing } → transfer_piece_made piece ≡ transfer_piece old.made Flushing → IsNewTransferPiece piece → Gives new piece (transfer_left old.made (transfer_place old) g end) g first later
after-raise old new piece end g first now later runs at known left is runs-is fresh =
    at-stage old.made old.stage Raising old.taken end g first now later runs
    (λ stage words. new.taken ≡ words → Gives new piece (transfer_left old.made (record { stage = stage; taken = words }) g end) g first later) at known left
    (λ taken k l words-is. gives-at old.made new piece (Flushes g old.made taken) g first later Flushing taken (ap (λ (t : Transfer). t.made) is) (ap (λ (t : Transfer). t.stage) is) words-is runs-is fresh
    (runs-shoot old.made taken g first later (raise-ended old.made taken g first now end later k l))) (ap (λ (t : Transfer). t.taken) is)

-- the shootdown is made: the new home gets its words
pub after-shoot : (old new : Transfer) (piece : PieceOfTransfer) (stage : Stage) (end : TransferPieceEnd) (g : Geometry) (first now later : View) (runs : TransferPieceMade)
    → old.stage ≡ Flushing → stage ≡ filling_from old.made.source → IsHere old g first now runs → TransferPieceLeaves runs g now end later
    → new ≡ record old { stage = stage } → transfer_piece_made piece ≡ transfer_piece old.made stage → IsNewTransferPiece piece → Gives new piece (transfer_left old.made (transfer_place old) g end) g first later
after-shoot old new piece stage end g first now later runs at chosen known left is runs-is fresh =
    at-stage old.made old.stage Flushing old.taken end g first now later runs
    (λ stage words. new.taken ≡ words → Gives new piece (transfer_left old.made (record { stage = stage; taken = words }) g end) g first later) at known left
    (λ taken k l words-is. gives-at old.made new piece (Fills g old.made taken) g first later (filling_from old.made.source) taken (ap (λ (t : Transfer). t.made) is) (ap (λ (t : Transfer). t.stage) is ∙ chosen) words-is
    (runs-is ∙ ap (transfer_piece old.made) chosen) fresh (runs-fill old.made old.made.source taken g first later (shoot-ended old.made old.made.source taken g first now end later k refl l))) (ap (λ (t : Transfer). t.taken) is)

-- it has its words: the new home is set
pub after-copy : (old new : Transfer) (piece : PieceOfTransfer) (end : TransferPieceEnd) (g : Geometry) (first now later : View) (runs : TransferPieceMade)
    → old.stage ≡ Copying → IsHere old g first now runs → TransferPieceLeaves runs g now end later
    → new ≡ record old { stage = Homing } → transfer_piece_made piece ≡ transfer_piece old.made Homing → IsNewTransferPiece piece → Gives new piece (transfer_left old.made (transfer_place old) g end) g first later
after-copy old new piece end g first now later runs at known left is runs-is fresh =
    at-stage old.made old.stage Copying old.taken end g first now later runs
    (λ stage words. new.taken ≡ words → Gives new piece (transfer_left old.made (record { stage = stage; taken = words }) g end) g first later) at known left
    (λ taken k l words-is. gives-at old.made new piece (HomesPage g old.made taken) g first later Homing taken (ap (λ (t : Transfer). t.made) is) (ap (λ (t : Transfer). t.stage) is) words-is runs-is fresh
    (runs-home old.made taken g first later (copy-ended old.made taken g first now end later k l))) (ap (λ (t : Transfer). t.taken) is)

pub after-unshade : (old new : Transfer) (piece : PieceOfTransfer) (end : TransferPieceEnd) (g : Geometry) (first now later : View) (runs : TransferPieceMade)
    → old.stage ≡ Unshading → IsHere old g first now runs → TransferPieceLeaves runs g now end later
    → new ≡ record old { stage = Homing } → transfer_piece_made piece ≡ transfer_piece old.made Homing → IsNewTransferPiece piece → Gives new piece (transfer_left old.made (transfer_place old) g end) g first later
after-unshade old new piece end g first now later runs at known left is runs-is fresh =
    at-stage old.made old.stage Unshading old.taken end g first now later runs
    (λ stage words. new.taken ≡ words → Gives new piece (transfer_left old.made (record { stage = stage; taken = words }) g end) g first later) at known left
    (λ taken k l words-is. gives-at old.made new piece (HomesPage g old.made taken) g first later Homing taken (ap (λ (t : Transfer). t.made) is) (ap (λ (t : Transfer). t.stage) is) words-is runs-is fresh
    (runs-home old.made taken g first later (unshade-ended old.made taken g first now end later k l))) (ap (λ (t : Transfer). t.taken) is)

-- What a transfer does next.
abbrev pub DoesNext : Transfer → (Own → List (ℕ × ℕ) → Type 0) → TransferMade → Geometry → View → View → Next PieceOfTransfer (List (ℕ × ℕ)) → Type 0
DoesNext new was made g first now next = IsNext transfer_piece_made IsNewTransferPiece MayTransferPiece IsTransferPiece (IsPieceAt transfer_stages new.made (transfer_place new)) (transfer_left new.made (transfer_place new)) was (λ g view taken left. IsTransferred made g view taken left) (λ g taken. Unit {0}) g first now next

maps-next : (old new : Transfer) (index : ℕ) (taken : List (ℕ × ℕ)) (g : Geometry) (first later : View) (next : Next PieceOfTransfer (List (ℕ × ℕ)))
    → old.taken ≡ Some taken → IsMapped old.made index taken g first later → IsMapNext old index new next → DoesNext new (MapsOf g old.made (drop index taken) taken) old.made g first later next
maps-next old new index taken g first later (Run piece) words at h =
    let drops = ap (λ (o : Option (List (ℕ × ℕ))). drop index (taken_in o)) words in
    let after = ap (λ (o : Option (List (ℕ × ℕ))). (h.from_place.vpage, h.from_place.word) ∷ drop (index + 1) (taken_in o)) words in
    let mapping : IsMappingBack old.made index h.from_place.vpage h.from_place.word taken g first later = record { mapped = at; next = sym drops ∙ h.from_place.next ∙ after } in
    gives-at old.made new piece (MapsOf g old.made (drop index taken) taken) g first later (Mapping index h.from_place.vpage h.from_place.word) taken
    (ap (λ (t : Transfer). t.made) h.is) (ap (λ (t : Transfer). t.stage) h.is ∙ h.from_place.is) (ap (λ (t : Transfer). t.taken) h.is ∙ words) (h.made ∙ ap (transfer_piece old.made) h.from_place.is) h.new_piece
    (runs-map old.made index h.from_place.vpage h.from_place.word taken g first later mapping)
maps-next old new index taken g first later (Over end) words at h =
    let drops = ap (λ (o : Option (List (ℕ × ℕ))). drop index (taken_in o)) words in
    let none : drop index taken ≡ [] = sym drops ∙ h.none in
    let outcome : end ≡ taken = h.outcome ∙ ap taken_in words in
    let over : IsOver (MapsOf g old.made [] taken) (λ g view taken left. IsTransferred old.made g view taken left) (λ g taken. Unit {0}) g first later taken = record { shown = ends-now taken; left = map-over old.made index taken g first later at none; over = tt } in
    subst (λ (l : List (ℕ × ℕ)). IsOver (MapsOf g old.made l taken) (λ g view taken left. IsTransferred old.made g view taken left) (λ g taken. Unit {0}) g first later end) (sym none)
    (subst (λ (l : List (ℕ × ℕ)). IsOver (MapsOf g old.made [] taken) (λ g view taken left. IsTransferred old.made g view taken left) (λ g taken. Unit {0}) g first later l) (sym outcome) over)

-- the new home is set: the first virtual page is mapped
pub after-home : (old new : Transfer) (next : Next PieceOfTransfer (List (ℕ × ℕ))) (end : TransferPieceEnd) (g : Geometry) (first now later : View) (runs : TransferPieceMade)
    → old.stage ≡ Homing → IsHere old g first now runs → TransferPieceLeaves runs g now end later → IsMapNext old 0 new next → DoesNext new (transfer_left old.made (transfer_place old) g end) old.made g first later next
after-home old new next end g first now later runs at known left maps =
    at-stage old.made old.stage Homing old.taken end g first now later runs
    (λ stage words. old.taken ≡ words → DoesNext new (transfer_left old.made (record { stage = stage; taken = words }) g end) old.made g first later next) at known left
    (λ taken k l words-is. maps-next old new 0 taken g first later next words-is (home-ended old.made taken g first now end later k l) maps) refl

-- a virtual page is mapped: the next one
pub after-map : (old new : Transfer) (index v word : ℕ) (next : Next PieceOfTransfer (List (ℕ × ℕ))) (end : TransferPieceEnd) (g : Geometry) (first now later : View) (runs : TransferPieceMade)
    → old.stage ≡ Mapping index v word → IsHere old g first now runs → TransferPieceLeaves runs g now end later → IsMapNext old (index + 1) new next → DoesNext new (transfer_left old.made (transfer_place old) g end) old.made g first later next
after-map old new index v word next end g first now later runs at known left maps =
    at-stage old.made old.stage (Mapping index v word) old.taken end g first now later runs
    (λ stage words. old.taken ≡ words → DoesNext new (transfer_left old.made (record { stage = stage; taken = words }) g end) old.made g first later next) at known left
    (λ taken k l words-is. maps-next old new (index + 1) taken g first later next words-is (map-ended old.made index v word taken g first now end later k l) maps) refl

-- What is needed for the calls.

held-some : (made : TransferMade) (stage : Stage) (transfer_held : Option (List (ℕ × ℕ))) (g : Geometry) (first now : View) → KnownInTransfer made stage transfer_held g first now → HoldsWords transfer_held
held-some made stage None g first now k = k
held-some made stage (Some taken) g first now k = tt

note-room : (made : TransferMade) (v : ℕ) (transfer_held : Option (List (ℕ × ℕ))) (g : Geometry) (first now : View) → KnownInTransfer made (Unmapping v) transfer_held g first now → CanNote transfer_held
note-room made v None g first now k = k
note-room made v (Some taken) g first now k = omega (arith, k.few, k.small)

-- it holds words
pub holds-words : (old : Transfer) (stage : Stage) (g : Geometry) (first now : View) (runs : TransferPieceMade) → IsHere old g first now runs → HoldsWords old.taken
holds-words old stage g first now runs known = held-some old.made old.stage old.taken g first now known.known

-- and has room for the next
pub can-note : (old : Transfer) (v : ℕ) (g : Geometry) (first now : View) (runs : TransferPieceMade) → old.stage ≡ Unmapping v → IsHere old g first now runs → CanNote old.taken
can-note old v g first now runs at known = note-room old.made v old.taken g first now (subst (λ (s : Stage). KnownInTransfer old.made s old.taken g first now) at known.known)

map-room : (made : TransferMade) (index v word : ℕ) (transfer_held : Option (List (ℕ × ℕ))) (g : Geometry) (first now : View) → KnownInTransfer made (Mapping index v word) transfer_held g first now → index < most_vpages
map-room made index v word None g first now k = absurd k
map-room made index v word (Some taken) g first now k = let within = drop-within taken index (v, word) (drop (index + 1) taken) k.next in omega (arith, within, k.mapped.has.few)

-- there are few places
pub few-places : (old : Transfer) (index v word : ℕ) (g : Geometry) (first now : View) (runs : TransferPieceMade) → old.stage ≡ Mapping index v word → IsHere old g first now runs → index < most_vpages
few-places old index v word g first now runs at known = map-room old.made index v word old.taken g first now (subst (λ (s : Stage). KnownInTransfer old.made s old.taken g first now) at known.known)
