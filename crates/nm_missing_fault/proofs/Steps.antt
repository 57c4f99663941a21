-- The steps of the fault on a virtual page that is not mapped, each at its stage, whatever its piece ends with.
use Rattle.std.proofs.Common.{◌≡◌, ◌≢◌, ℕ, ◌-◌, ◌==◌, not, Bool, false, refl, sym, subst}
use Rattle.nm_base.specs.Geometry.{Geometry}
use Rattle.nm_base.specs.Ranges.{IsFrame}
use Rattle.nm_action.specs.declared.action.Action.{Action}
use Rattle.nm_action.specs.declared.action.Action.TheVariants.{Unlock, Look, Read, Map, SetHome}
use Rattle.nm_action.specs.declared.action.Cell.TheVariants.{Home, Shadow}
use Rattle.nm_action.specs.declared.action.Reply.{Reply}
use Rattle.nm_action.specs.declared.action.Reply.TheVariants.{Done, Word, Busy, Lost}
use Rattle.nm_view.specs.declared.view.Fill.TheVariants.{Zeroed}
use Rattle.nm_view.specs.Views.{View}
use Rattle.nm_part.proofs.Patterns.{ends-now}
use Rattle.nm_compose.specs.declared.or.Or.TheVariants.{This, Other}
use Rattle.nm_compose.specs.Acts.{IsActed}
use Rattle.nm_copying.specs.declared.zeroes.ZeroesMade.{ZeroesMade}
use Rattle.nm_copying.specs.Zeroing.{IsZeroed}
use Rattle.nm_missing_fault.specs.declared.search.SearchMade.{SearchMade}
use Rattle.nm_missing_fault.specs.Found.{IsFound}
use Rattle.nm_shadow_fault.specs.declared.fault.FaultEnd.{FaultEnd}
use Rattle.nm_shadow_fault.specs.declared.fault.FaultEnd.TheVariants.{Demand, Alias, Ready}
use Rattle.nm_shadow_fault.specs.declared.fault.FaultMade.{FaultMade}
use Rattle.nm_shadow_fault.specs.Locking.{LeavesLocked}
use Rattle.nm_shadow_fault.specs.Granting.{fault_made, MayFault}
use Rattle.nm_shadow_fault.proofs.Granting.{looked-view, left-ready}
use Rattle.nm_missing_fault.specs.declared.missing.MissingFault.{MissingFault}
use Rattle.nm_missing_fault.specs.declared.missing.MissingStage.{MissingStage}
use Rattle.nm_missing_fault.specs.declared.missing.MissingStage.TheVariants.{Locking, Looking, Leaving, ReadingHome, ReadingShadow, Searching, Zeroing, SettingHome, Mapping, Unlocking}
use Rattle.nm_missing_fault.specs.MissingFault.{missing_word}
use Rattle.nm_missing_fault.specs.Pieces.{MissingPieceMade, MissingPieceEnd, LeavesMissingPiece, missing_told, missing_found}
use Rattle.nm_missing_fault.specs.Stages.{missing_piece_of, missing_left, IsAtShadowOf, IsWithFrame, KnownInMissing}
use Rattle.nm_missing_fault.proofs.Views.{locked-view, looked-none, home-none, home-some, shadow-told, found-view, zeroed-view, home-set, mapped-view, unlocked-end}
use Rattle.nm_missing_fault.proofs.Runs.{RunsMissing, AtMissing, IsMissingOver, runs-look, runs-leave, runs-home, runs-shadow, runs-search, runs-zeroes, runs-set, runs-map, runs-unlock}

-- after each sort of piece

by-lock : (page : ℕ) (g : Geometry) (now later : View) (goal : MissingPieceEnd → Type 0) (end : MissingPieceEnd) → LeavesMissingPiece (This page) g now end later → ((locked : Unit {0}) → LeavesLocked page now later → goal (This locked)) → goal end
by-lock page g now later goal (This locked) left show = show locked left
by-lock page g now later goal (Other end) left show = absurd left

by-act : (action : Action) (g : Geometry) (now later : View) (goal : MissingPieceEnd → Type 0) (end : MissingPieceEnd) → LeavesMissingPiece (Other (This action)) g now end later → ((reply : Reply) → IsActed g now action reply later → goal (Other (This reply))) → goal end
by-act action g now later goal (This locked) left show = absurd left
by-act action g now later goal (Other (This reply)) left show = show reply left
by-act action g now later goal (Other (Other end)) left show = absurd left

by-search : (made : Geometry × SearchMade) (g : Geometry) (now later : View) (goal : MissingPieceEnd → Type 0) (end : MissingPieceEnd) → LeavesMissingPiece (Other (Other (This made))) g now end later → ((frame : ℕ) → IsFound made.1 g now frame later → goal (Other (Other (This frame)))) → goal end
by-search made g now later goal (This locked) left show = absurd left
by-search made g now later goal (Other (This reply)) left show = absurd left
by-search made g now later goal (Other (Other (This frame))) left show = show frame left
by-search made g now later goal (Other (Other (Other end))) left show = absurd left

by-zeroes : (made : ZeroesMade) (g : Geometry) (now later : View) (goal : MissingPieceEnd → Type 0) (end : MissingPieceEnd) → LeavesMissingPiece (Other (Other (Other made))) g now end later → ((done : Unit {0}) → IsZeroed made now later → goal (Other (Other (Other done)))) → goal end
by-zeroes made g now later goal (This locked) left show = absurd left
by-zeroes made g now later goal (Other (This reply)) left show = absurd left
by-zeroes made g now later goal (Other (Other (This frame))) left show = absurd left
by-zeroes made g now later goal (Other (Other (Other end))) left show = show end left

-- after each sort of action

by-look : (g : Geometry) (now later : View) (v : ℕ) (goal : Reply → Type 0) (reply : Reply) → IsActed g now (Look v) reply later → ((word : ℕ) → IsActed g now (Look v) (Word word) later → goal (Word word)) → goal reply
by-look g now later v goal Done a show = absurd a.fits.kind
by-look g now later v goal (Word word) a show = show word a
by-look g now later v goal (Busy word) a show = absurd a.fits.kind
by-look g now later v goal (Lost word) a show = absurd a.fits.kind

by-home : (g : Geometry) (now later : View) (page : ℕ) (goal : Reply → Type 0) (reply : Reply) → IsActed g now (Read page (Home page)) reply later → ((word : ℕ) → IsActed g now (Read page (Home page)) (Word word) later → goal (Word word)) → goal reply
by-home g now later page goal Done a show = absurd a.fits.kind
by-home g now later page goal (Word word) a show = show word a
by-home g now later page goal (Busy word) a show = absurd a.fits.kind
by-home g now later page goal (Lost word) a show = absurd a.fits.kind

by-shadow : (g : Geometry) (now later : View) (page home : ℕ) (goal : Reply → Type 0) (reply : Reply) → IsActed g now (Read page (Shadow home)) reply later → ((word : ℕ) → IsActed g now (Read page (Shadow home)) (Word word) later → goal (Word word)) → goal reply
by-shadow g now later page home goal Done a show = absurd a.fits.kind
by-shadow g now later page home goal (Word word) a show = show word a
by-shadow g now later page home goal (Busy word) a show = absurd a.fits.kind
by-shadow g now later page home goal (Lost word) a show = absurd a.fits.kind

set-done : (g : Geometry) (now later : View) (page frame : ℕ) (reply : Reply) → IsActed g now (SetHome page frame) reply later → IsActed g now (SetHome page frame) Done later
set-done g now later page frame Done a = a
set-done g now later page frame (Word word) a = absurd a.fits.kind
set-done g now later page frame (Busy word) a = absurd a.fits.kind
set-done g now later page frame (Lost word) a = absurd a.fits.kind

map-done : (g : Geometry) (now later : View) (v word : ℕ) (reply : Reply) → IsActed g now (Map v word) reply later → IsActed g now (Map v word) Done later
map-done g now later v word Done a = a
map-done g now later v word (Word w) a = absurd a.fits.kind
map-done g now later v word (Busy w) a = absurd a.fits.kind
map-done g now later v word (Lost w) a = absurd a.fits.kind

unlock-done : (g : Geometry) (now later : View) (page : ℕ) (reply : Reply) → IsActed g now (Unlock page) reply later → IsActed g now (Unlock page) Done later
unlock-done g now later page Done a = a
unlock-done g now later page (Word w) a = absurd a.fits.kind
unlock-done g now later page (Busy w) a = absurd a.fits.kind
unlock-done g now later page (Lost w) a = absurd a.fits.kind

-- The steps.

pub after-locking : (made : FaultMade) (g : Geometry) (first now later : View) (end : MissingPieceEnd) → KnownInMissing made Locking g first now → LeavesMissingPiece (missing_piece_of g made Locking) g now end later
    → RunsMissing made Looking (missing_left made Locking g end) g first later
after-locking made g first now later end k a =
    by-lock made.page g now later (λ e. RunsMissing made Looking (missing_left made Locking g e) g first later) end a
    (λ locked l. runs-look made (This locked) g first later (locked-view made g first now later k l))

pub after-looking : (made : FaultMade) (g : Geometry) (first now later : View) (end : MissingPieceEnd) → missing_told end ≡ 0 → KnownInMissing made Looking g first now → LeavesMissingPiece (missing_piece_of g made Looking) g now end later
    → RunsMissing made ReadingHome (missing_left made Looking g end) g first later
after-looking made g first now later end none k a =
    by-act (Look made.vpage) g now later (λ e. missing_told e ≡ 0 → RunsMissing made ReadingHome (missing_left made Looking g e) g first later) end a
    (λ reply l. by-look g now later made.vpage (λ r. missing_told (Other (This r)) ≡ 0 → RunsMissing made ReadingHome (missing_left made Looking g (Other (This r))) g first later) reply l
    (λ word w none. runs-home made word g first later none (looked-none made g first now later word none k w))) none

pub after-looking-mapped : (made : FaultMade) (g : Geometry) (first now later : View) (end : MissingPieceEnd) → missing_told end ≢ 0 → KnownInMissing made Looking g first now → LeavesMissingPiece (missing_piece_of g made Looking) g now end later
    → RunsMissing made Leaving (missing_left made Looking g end) g first later
after-looking-mapped made g first now later end some k a =
    by-act (Look made.vpage) g now later (λ e. missing_told e ≢ 0 → RunsMissing made Leaving (missing_left made Looking g e) g first later) end a
    (λ reply l. by-look g now later made.vpage (λ r. missing_told (Other (This r)) ≢ 0 → RunsMissing made Leaving (missing_left made Looking g (Other (This r))) g first later) reply l
    (λ word w some. runs-leave made word g first later some (record { may = k.may; look = word; is = looked-view (fault_made g made) g first now later word k w }))) some

pub after-leaving : (made : FaultMade) (g : Geometry) (first now later : View) (end : MissingPieceEnd) → KnownInMissing made Leaving g first now → LeavesMissingPiece (missing_piece_of g made Leaving) g now end later
    → IsMissingOver (missing_left made Leaving g end) g first later Ready
after-leaving made g first now later end k a =
    by-act (Unlock made.page) g now later (λ e. IsMissingOver (missing_left made Leaving g e) g first later Ready) end a
    (λ reply l. record { shown = ends-now Ready; left = left-ready (fault_made g made) g first now later k (unlock-done g now later made.page reply l); over = tt })

pub after-home : (made : FaultMade) (g : Geometry) (first now later : View) (end : MissingPieceEnd) → missing_told end ≡ 0 → KnownInMissing made ReadingHome g first now → LeavesMissingPiece (missing_piece_of g made ReadingHome) g now end later
    → RunsMissing made Searching (missing_left made ReadingHome g end) g first later
after-home made g first now later end none k a =
    by-act (Read made.page (Home made.page)) g now later (λ e. missing_told e ≡ 0 → RunsMissing made Searching (missing_left made ReadingHome g e) g first later) end a
    (λ reply l. by-home g now later made.page (λ r. missing_told (Other (This r)) ≡ 0 → RunsMissing made Searching (missing_left made ReadingHome g (Other (This r))) g first later) reply l
    (λ word w none. runs-search made word g first later none (home-none made g first now later word none k w))) none

pub after-home-known : (made : FaultMade) (g : Geometry) (first now later : View) (end : MissingPieceEnd) → missing_told end ≢ 0 → KnownInMissing made ReadingHome g first now → LeavesMissingPiece (missing_piece_of g made ReadingHome) g now end later
    → RunsMissing made (ReadingShadow (missing_told end - 1)) (missing_left made ReadingHome g end) g first later
after-home-known made g first now later end some k a =
    by-act (Read made.page (Home made.page)) g now later (λ e. missing_told e ≢ 0 → RunsMissing made (ReadingShadow (missing_told e - 1)) (missing_left made ReadingHome g e) g first later) end a
    (λ reply l. by-home g now later made.page (λ r. missing_told (Other (This r)) ≢ 0 → RunsMissing made (ReadingShadow (missing_told (Other (This r)) - 1)) (missing_left made ReadingHome g (Other (This r))) g first later) reply l
    (λ word w some. runs-shadow made word g first later some (home-some made g first now later word some k w))) some

pub after-shadow : (made : FaultMade) (g : Geometry) (first now later : View) (home : ℕ) (end : MissingPieceEnd) → KnownInMissing made (ReadingShadow home) g first now → LeavesMissingPiece (missing_piece_of g made (ReadingShadow home)) g now end later
    → RunsMissing made (Mapping home (not (missing_told end == 0)) Alias) (missing_left made (ReadingShadow home) g end) g first later
after-shadow made g first now later home end k a =
    by-act (Read made.page (Shadow home)) g now later (λ e. RunsMissing made (Mapping home (not (missing_told e == 0)) Alias) (missing_left made (ReadingShadow home) g e) g first later) end a
    (λ reply l. by-shadow g now later made.page home (λ r. RunsMissing made (Mapping home (not (missing_told (Other (This r)) == 0)) Alias) (missing_left made (ReadingShadow home) g (Other (This r))) g first later) reply l
    (λ word w. runs-map made home (not (word == 0)) Alias g first later (shadow-told made home g first now later word k w)))

pub after-search : (made : FaultMade) (g : Geometry) (first now later : View) (end : MissingPieceEnd) → KnownInMissing made Searching g first now → LeavesMissingPiece (missing_piece_of g made Searching) g now end later
    → RunsMissing made (Zeroing (missing_found end)) (missing_left made Searching g end) g first later
after-search made g first now later end k a =
    by-search (record { 0 = g; 1 = record { page = made.page } }) g now later (λ e. RunsMissing made (Zeroing (missing_found e)) (missing_left made Searching g e) g first later) end a
    (λ frame f. runs-zeroes made frame g first later (found-view made frame g first now later k f))

pub after-zeroes : (made : FaultMade) (g : Geometry) (first now later : View) (frame : ℕ) (end : MissingPieceEnd) → KnownInMissing made (Zeroing frame) g first now → LeavesMissingPiece (missing_piece_of g made (Zeroing frame)) g now end later
    → RunsMissing made (SettingHome frame) (missing_left made (Zeroing frame) g end) g first later
after-zeroes made g first now later frame end k a =
    by-zeroes (record { frame = frame; words = g.words }) g now later (λ e. RunsMissing made (SettingHome frame) (missing_left made (Zeroing frame) g e) g first later) end a
    (λ done z. runs-set made frame g first later (zeroed-view made frame g first now later k z))

pub after-set : (made : FaultMade) (g : Geometry) (first now later : View) (frame : ℕ) (end : MissingPieceEnd) → KnownInMissing made (SettingHome frame) g first now → LeavesMissingPiece (missing_piece_of g made (SettingHome frame)) g now end later
    → RunsMissing made (Mapping frame false Demand) (missing_left made (SettingHome frame) g end) g first later
after-set made g first now later frame end k a =
    by-act (SetHome made.page frame) g now later (λ e. RunsMissing made (Mapping frame false Demand) (missing_left made (SettingHome frame) g e) g first later) end a
    (λ reply l. runs-map made frame false Demand g first later (home-set made frame g first now later k (set-done g now later made.page frame reply l)))

pub after-map : (made : FaultMade) (g : Geometry) (first now later : View) (frame : ℕ) (shadowed : Bool) (outcome : FaultEnd) (end : MissingPieceEnd) → KnownInMissing made (Mapping frame shadowed outcome) g first now
    → LeavesMissingPiece (missing_piece_of g made (Mapping frame shadowed outcome)) g now end later → RunsMissing made (Unlocking outcome) (missing_left made (Mapping frame shadowed outcome) g end) g first later
after-map made g first now later frame shadowed outcome end k a =
    by-act (Map made.vpage (missing_word g made.vpage frame shadowed)) g now later (λ e. RunsMissing made (Unlocking outcome) (missing_left made (Mapping frame shadowed outcome) g e) g first later) end a
    (λ reply l. runs-unlock made frame shadowed outcome (Other (This reply)) g first later
    (mapped-view made frame shadowed (missing_word g made.vpage frame shadowed) g first now later k (map-done g now later made.vpage (missing_word g made.vpage frame shadowed) reply l)))

pub after-unlock : (made : FaultMade) (g : Geometry) (first now later : View) (outcome : FaultEnd) (end : MissingPieceEnd) → KnownInMissing made (Unlocking outcome) g first now → LeavesMissingPiece (missing_piece_of g made (Unlocking outcome)) g now end later
    → IsMissingOver (missing_left made (Unlocking outcome) g end) g first later outcome
after-unlock made g first now later outcome end k a =
    by-act (Unlock made.page) g now later (λ e. IsMissingOver (missing_left made (Unlocking outcome) g e) g first later outcome) end a
    (λ reply l. record { shown = ends-now outcome; left = unlocked-end made g first now later k (unlock-done g now later made.page reply l); over = tt })

-- The frames to which stages map are there.

pub shadow-frame : (old : MissingFault) (home : ℕ) (g : Geometry) (first now : View) (runs : MissingPieceMade) → old.stage ≡ ReadingShadow home → AtMissing old g first now runs → IsFrame old.geometry.now home
shadow-frame old home g first now runs at placed =
    let K : MissingStage → Type 0 = λ s. KnownInMissing old.made s g first now in
    let G : Geometry → Type 0 = λ h. IsFrame h home in
    let k : IsAtShadowOf old.made home g first now = subst K at placed.holds in
    subst G (sym placed.geometry) k.frame

pub set-frame : (old : MissingFault) (frame : ℕ) (g : Geometry) (first now : View) (runs : MissingPieceMade) → old.stage ≡ SettingHome frame → AtMissing old g first now runs → IsFrame old.geometry.now frame
set-frame old frame g first now runs at placed =
    let K : MissingStage → Type 0 = λ s. KnownInMissing old.made s g first now in
    let G : Geometry → Type 0 = λ h. IsFrame h frame in
    let k : IsWithFrame old.made frame (Zeroed g.words) g first now = subst K at placed.holds in
    subst G (sym placed.geometry) k.exists

-- the plan was made for the geometry in which it begins
pub missing-here : (mine : Geometry) (made : FaultMade) (g : Geometry) (view : View) → MayFault (fault_made mine made) g view → MayFault (fault_made g made) g view
missing-here mine made g view h = record { same = refl; geometry = h.geometry; vpage = h.vpage; mapped = h.mapped; page = h.page; ops = h.ops; turn = h.turn }
