-- The steps of the cooling of a candidate, each at its stage.
use Rattle.std.proofs.Common.{◌≡◌, ℕ, List, [], ◌∷◌, All, Some, inl, inr, refl, sym, ap, ◌∙◌, subst}
use Rattle.nm_base.specs.Geometry.{Geometry, backing_page}
use Rattle.nm_action.specs.declared.action.Action.{Action}
use Rattle.nm_action.specs.declared.action.Action.TheVariants.{Lock, Unlock, Mark}
use Rattle.nm_action.specs.declared.action.Reply.TheVariants.{Done, Word, Busy, Lost}
use Rattle.nm_action.specs.Own.{Own}
use Rattle.nm_view.specs.Views.{View}
use Rattle.nm_view.specs.Operations.{IsLookedMapped}
use Rattle.nm_permit.specs.Permitted.{MayUnlock}
use Rattle.nm_event.specs.After.{after_of}
use Rattle.nm_part.specs.Patterns.{Follows, CanEnd}
use Rattle.nm_part.proofs.Patterns.{ends-now, over-at-once, can-ends}
use Rattle.nm_compose.specs.Acts.{MayAct, IsAct}
use Rattle.nm_compose.specs.Choices.{IsOr}
use Rattle.nm_compose.specs.Plans.{IsNewRun, IsOver}
use Rattle.nm_compose.specs.Stages.{IsPieceAt, RunsAt}
use Rattle.nm_compose.specs.declared.or.Or.{Or}
use Rattle.nm_compose.specs.declared.or.Or.TheVariants.{This, Other}
use Rattle.nm_compose.proofs.Choosing.{this-follows, other-follows}
use Rattle.nm_compose.proofs.Staging.{by-stage, runs-new}
use Rattle.nm_vpages.specs.VPages.{vpages_of}
use Rattle.nm_mappings.specs.Visits.{IsVisits, MayVisit, arms_made}
use Rattle.nm_mappings.specs.declared.visits.VisitsMade.{VisitsMade}
use Rattle.nm_mappings.proofs.Visited.{arms-left}
use Rattle.nm_prepare.proofs.Found.{vpages-all}
use Rattle.nm_looks.specs.declared.seen.Seen.{Seen}
use Rattle.nm_looks.specs.Seeing.{LooksData, IsLooks, seen_view, HasLooked}
use Rattle.nm_looks.specs.Parts.{page_looks}
use Rattle.nm_looks.proofs.Leaving.{outside-told, outside-all}
use Rattle.nm_cool.specs.declared.cool.Cool.{Cool}
use Rattle.nm_cool.specs.declared.cool.CoolStage.{CoolStage}
use Rattle.nm_cool.specs.declared.cool.CoolStage.TheVariants.{Locking, Looking, Arming, Marking, Unlocking}
use Rattle.nm_cool.specs.declared.cool.Cooled.{Cooled}
use Rattle.nm_cool.specs.declared.cool.Cooled.TheVariants as ends
use Rattle.nm_cool.specs.Cooling.{CoolData, UnlocksCold, MarksCold, ArmsCold, LooksCold, AfterColdLock, IsCooling, MayCool, IsCooledLeft}
use Rattle.nm_cool.specs.Stages.{cool_data, CoolPieceMade, CoolPieceEnd, MayCoolPiece, IsCoolPiece, CoolPieceLeaves, CoolPiece, cool_piece_made, IsNewCoolPiece, cool_reply, outside_in, cool_piece, cool_arm_stage, cool_left, IsColdLocking, cold_op, IsColdOpen, IsColdArming, IsColdArmed, KnownInCool, cool_stages}
use Rattle.nm_cool.proofs.Ending.{can-unlocks, can-marks, can-arms, can-after-lock}
use Rattle.nm_cool.proofs.Opened.{cold-some, cold-seen, cold-unlocked, looked-each}

-- The pieces.

abbrev pub RunsCool : CoolData → CoolStage → (Own → Cooled → Type 0) → Geometry → View → View → Type 0
RunsCool = RunsAt MayCoolPiece IsCoolPiece cool_stages

abbrev IsOthers : Or LooksData VisitsMade → Geometry → Own → Or Seen (List ℕ) → Type 0
IsOthers = IsOr IsLooks IsVisits

-- an action runs
act-run : (made : CoolData) (stage : CoolStage) (action : Action) (g : Geometry) (first now : View)
    → cool_piece made stage ≡ This action → MayAct g now action → KnownInCool made stage g first now → ((end : CoolPieceEnd) → CanEnd (cool_left made stage g end))
    → RunsCool made stage (Follows (IsAct action g) (λ reply. cool_left made stage g (This reply))) g first now
act-run made stage action g first now is may known can = record {
  begin = subst (λ (m : CoolPieceMade). MayCoolPiece m g now) (sym is) may;
  known = record { is = refl; known = known };
  can = λ own end shown. can end;
  fits = λ own outcome f. this-follows IsAct IsOthers (cool_left made stage g) action g own outcome (subst (λ (m : CoolPieceMade). Follows (IsCoolPiece m g) (cool_left made stage g) own outcome) is f);
}

-- The views.

-- the operation may be closed
unlock-cold : (made : CoolData) (looked : List (ℕ × ℕ)) (g : Geometry) (view : View) → MayUnlock g (cold_op made.1 view.room.aliases looked)
unlock-cold made looked g view = record { back = refl; flushed = record { made = refl; seen = tt }; phase = λ e. cc }

open-same : (made : CoolData) (looked : List (ℕ × ℕ)) (g : Geometry) (view now later : View) → later ≡ now → IsColdOpen made looked g view now → IsColdOpen made looked g view later
open-same made looked g view now later e h = subst (λ (v : View). IsColdOpen made looked g view v) (sym e) h

-- 1. The Lock.

pub runs-locking : (made : CoolData) (g : Geometry) (view : View) → MayCool made g view → RunsCool made Locking (IsCooling made g) g view view
runs-locking made g view may =
    act-run made Locking (Lock made.1) g view view refl (record { quiet = tt; allowed = record { range = may.page; permitted = may.lock } }) (record { may = may; begun = refl })
    (λ end. can-after-lock made g (cool_reply end))

-- what is known of a piece that has ended: the view that it left, and its list
abbrev pub EndsSo : Own → CoolPieceMade → Geometry → View → CoolPieceEnd → View → Type 0
EndsSo own runs g now end later = CoolPieceLeaves runs g now end later × IsCoolPiece runs g own end

-- 2. The Looks.

looks-run : (made : CoolData) (g : Geometry) (view now : View) → IsColdOpen made [] g view now → RunsCool made Looking (LooksCold made g) g view now
looks-run made g view now h =
    let of = vpages-all made.0 made.1 in
    record {
      begin = record { same = h.may.same; of = subst (λ (k : Geometry). All (λ v. backing_page k v ≡ Some made.1) (vpages_of made.0 made.1)) h.may.same of };
      known = record { is = refl; known = h };
      can = λ own end shown. can-arms made g (outside_in end);
      fits = λ own outcome f. this-follows IsLooks IsVisits (λ end. cool_left made Looking g (Other end)) (page_looks made.0 made.1 0) g own outcome
          (other-follows IsAct IsOthers (cool_left made Looking g) (This (page_looks made.0 made.1 0)) g own outcome f);
    }

pub after-locking : (made : CoolData) (g : Geometry) (view now later : View) (own : Own) → IsColdLocking made g view now → EndsSo own (This (Lock made.1)) g now (This Done) later
    → RunsCool made Looking (AfterColdLock made g Done) g view later
after-locking made g view now later own h a =
    looks-run made g view later (record { may = h.may; is = a.0.is ∙ ap (λ (v : View). after_of g v (Lock made.1) Done) h.begun })

pub after-busy : (made : CoolData) (g : Geometry) (view now later : View) (own : Own) (word : ℕ) → IsColdLocking made g view now → EndsSo own (This (Lock made.1)) g now (This (Busy word)) later → later ≡ view
after-busy made g view now later own word h a = a.0.is ∙ h.begun

-- 4. The Mark.

marks-run : (made : CoolData) (looked : List (ℕ × ℕ)) (g : Geometry) (view now : View) → IsColdOpen made looked g view now → RunsCool made Marking (MarksCold made g) g view now
marks-run made looked g view now h =
    act-run made Marking (Mark made.1 1 0) g view now refl
    (record { quiet = tt; allowed = record { range = h.may.page; permitted = inl (inr (inl (record { old_is = refl; new_is = refl }))) } }) (record { looked = looked; opened = h })
    (λ end. can-unlocks made g)

-- 3. The Arms.

-- these virtual pages are armed, if there are any
arms-run : (made : CoolData) (pages : List ℕ) (g : Geometry) (view now : View) → IsColdArming made pages g view now → RunsCool made (cool_arm_stage pages) (ArmsCold made g pages) g view now
arms-run made [] g view now h =
    let run = marks-run made h.looked g view now h.opened in
    record {
      begin = run.begin;
      known = run.known;
      can = run.can;
      fits = λ own outcome f. over-at-once (IsVisits (arms_made made.1 []) g) (λ armed. MarksCold made g) [] own outcome (ends-now []) (run.fits own outcome f);
    }
arms-run made (v ∷ vs) g view now h =
    let may : MayVisit (arms_made made.1 (v ∷ vs)) g now = record {
      of = h.of;
      each = cold-some made.1 h.looked view now (λ o. All (λ u. IsLookedMapped o.looked o.taken u) (v ∷ vs)) h.opened.may.lock.fresh h.opened.is (looked-each (v ∷ vs) h.looked h.mapped);
    } in
    record {
      begin = may;
      known = record { is = refl; known = h };
      can = λ own end shown. can-marks made g;
      fits = λ own outcome f. other-follows IsLooks IsVisits (λ end. cool_left made (Arming (v ∷ vs)) g (Other end)) (arms_made made.1 (v ∷ vs)) g own outcome
          (other-follows IsAct IsOthers (cool_left made (Arming (v ∷ vs)) g) (Other (arms_made made.1 (v ∷ vs))) g own outcome f);
    }

looked-at : (made : CoolData) (g : Geometry) (view now later : View) (seen : Seen) → IsColdOpen made [] g view now → (a : HasLooked (page_looks made.0 made.1 0) now seen later) → IsColdOpen made a.told g view later
looked-at made g view now later seen h a = record {
  may = h.may;
  is = a.is ∙ ap (λ (v : View). seen_view made.1 a.told v) h.is ∙ cold-seen made.1 a.told view h.may.lock.fresh a.once;
}

pub after-looking : (made : CoolData) (g : Geometry) (view now later : View) (own : Own) (end : CoolPieceEnd) → IsColdOpen made [] g view now → EndsSo own (Other (This (page_looks made.0 made.1 0))) g now end later
    → RunsCool made (cool_arm_stage (outside_in end)) (ArmsCold made g (outside_in end)) g view later
after-looking made g view now later own (This x) h a = absurd a.0
after-looking made g view now later own (Other (Other x)) h a = absurd a.0
after-looking made g view now later own (Other (This seen)) h a =
    let all = vpages-all made.0 made.1 in
    arms-run made seen.outside g view later (record {
      looked = a.0.told;
      opened = looked-at made g view now later seen h a.0;
      of = outside-all (λ v. backing_page g v ≡ Some made.1) (page_looks made.0 made.1 0) now later seen a.0 (subst (λ (k : Geometry). All (λ v. backing_page k v ≡ Some made.1) (vpages_of made.0 made.1)) h.may.same all);
      mapped = outside-told (page_looks made.0 made.1 0) now later seen a.0;
    })

pub after-arming : (made : CoolData) (pages : List ℕ) (g : Geometry) (view now later : View) (own : Own) (end : CoolPieceEnd) → IsColdArming made pages g view now → EndsSo own (Other (Other (arms_made made.1 pages))) g now end later
    → RunsCool made Marking (MarksCold made g) g view later
after-arming made pages g view now later own (This x) h a = absurd a.0
after-arming made pages g view now later own (Other (This x)) h a = absurd a.0
after-arming made pages g view now later own (Other (Other found)) h a =
    marks-run made h.looked g view later (open-same made h.looked g view now later (arms-left made.1 pages now found later a.0) h.opened)

pub after-marking : (made : CoolData) (g : Geometry) (view now later : View) (own : Own) (end : CoolPieceEnd) → IsColdArmed made g view now → EndsSo own (This (Mark made.1 1 0)) g now end later
    → RunsCool made Unlocking (UnlocksCold made g) g view later
after-marking made g view now later own (Other x) h a = absurd a.0
after-marking made g view now later own (This reply) h a =
    let still = open-same made h.looked g view now later a.0.is h.opened in
    act-run made Unlocking (Unlock made.1) g view later refl
    (record { quiet = tt; allowed = record { range = still.may.page; permitted = cold-some made.1 h.looked view later (MayUnlock g) still.may.lock.fresh still.is (unlock-cold made h.looked g view) } }) (record { looked = h.looked; opened = still })
    (λ end. can-ends ends.Cold)

-- 5. The Unlock.

pub after-unlocking : (made : CoolData) (g : Geometry) (view now later : View) (own : Own) (end : CoolPieceEnd) → IsColdArmed made g view now → EndsSo own (This (Unlock made.1)) g now end later → IsCooledLeft made view ends.Cold later
after-unlocking made g view now later own (This Done) h a =
    a.0.is ∙ ap (λ (v : View). after_of g v (Unlock made.1) Done) h.opened.is ∙ cold-unlocked g made.1 h.looked view h.opened.may.lock.fresh
after-unlocking made g view now later own (This (Word w)) h a = absurd a.0.fits.kind
after-unlocking made g view now later own (This (Busy w)) h a = absurd a.0.fits.kind
after-unlocking made g view now later own (This (Lost w)) h a = absurd a.0.fits.kind
after-unlocking made g view now later own (Other x) h a = absurd a.0

-- The steps of the plan.

abbrev pub AtStage : Cool → Geometry → View → View → CoolPieceMade → Type 0
AtStage s = IsPieceAt cool_stages (cool_data s) s.stage

-- the plan gives this piece, where this was left
abbrev pub GivesCool : Cool → CoolPiece → (Own → Cooled → Type 0) → Geometry → View → View → Type 0
GivesCool new piece was g first now = IsNewRun cool_piece_made IsNewCoolPiece MayCoolPiece IsCoolPiece (AtStage new) (cool_left (cool_data new) new.stage) was piece g first now

abbrev pub IsCoolOver : Cool → (Own → Cooled → Type 0) → Geometry → View → View → Cooled → Type 0
IsCoolOver old was g first now outcome = IsOver was (λ g view outcome left. IsCooledLeft (cool_data old) view outcome left) (λ g outcome. Unit {0}) g first now outcome

-- as it comes to a stage
pub gives-cool : (old new : Cool) (next : CoolStage) (piece : CoolPiece) (was : Own → Cooled → Type 0) (g : Geometry) (first now : View)
    → new ≡ record old { stage = next } → cool_piece_made piece ≡ cool_piece (cool_data old) next → IsNewCoolPiece piece → RunsCool (cool_data old) next was g first now → GivesCool new piece was g first now
gives-cool old new next piece was g first now is acts fresh run =
    runs-new cool_piece_made IsNewCoolPiece MayCoolPiece IsCoolPiece cool_stages was (cool_data old) (cool_data new) next new.stage piece g first now (ap cool_data is) (ap (λ (s : Cool). s.stage) is) acts fresh run

-- after a piece: shown at its stage, for its end
pub step-cool : (old new : Cool) (here next : CoolStage) (end so : CoolPieceEnd) (runs : CoolPieceMade) (piece : CoolPiece) (g : Geometry) (first now later : View) (own : Own)
    → old.stage ≡ here → end ≡ so → AtStage old g first now runs → CoolPieceLeaves runs g now end later → IsCoolPiece runs g own end
    → new ≡ record old { stage = next } → cool_piece_made piece ≡ cool_piece (cool_data old) next → IsNewCoolPiece piece
    → (KnownInCool (cool_data old) here g first now → EndsSo own (cool_piece (cool_data old) here) g now so later → RunsCool (cool_data old) next (cool_left (cool_data old) here g so) g first later)
    → GivesCool new piece (cool_left (cool_data old) old.stage g end) g first later
step-cool old new here next end so runs piece g first now later own at ended placed left shown is acts fresh show =
    by-stage cool_stages (EndsSo own) (λ stage end. GivesCool new piece (cool_left (cool_data old) stage g end) g first later) (cool_data old) old.stage here end so g first now later runs at ended placed (left, shown)
    (λ k a. gives-cool old new next piece (cool_left (cool_data old) here g so) g first later is acts fresh (show k a))

-- after a piece, the end
pub over-cool : (old : Cool) (here : CoolStage) (end so : CoolPieceEnd) (runs : CoolPieceMade) (outcome : Cooled) (g : Geometry) (first now later : View) (own : Own)
    → old.stage ≡ here → end ≡ so → AtStage old g first now runs → CoolPieceLeaves runs g now end later → IsCoolPiece runs g own end
    → (KnownInCool (cool_data old) here g first now → EndsSo own (cool_piece (cool_data old) here) g now so later → IsCoolOver old (cool_left (cool_data old) here g so) g first later outcome)
    → IsCoolOver old (cool_left (cool_data old) old.stage g end) g first later outcome
over-cool old here end so runs outcome g first now later own at ended placed left shown show =
    by-stage cool_stages (EndsSo own) (λ stage end. IsCoolOver old (cool_left (cool_data old) stage g end) g first later outcome) (cool_data old) old.stage here end so g first now later runs at ended placed (left, shown) show
