-- The steps of an inspection, each at its stage.
use Rattle.std.proofs.Common.{◌≡◌, ℕ, ◌&&◌, ◌||◌, if◌then◌else◌, Bool, true, false, List, [], ◌∷◌, map, All, Some, refl, sym, ap, ◌∙◌, subst}
use Rattle.std.specs.List.{filter, list_any}
use Rattle.nm_base.specs.Geometry.{Geometry, backing_page}
use Rattle.nm_base.specs.Ranges.{IsVPage}
use Rattle.nm_action.specs.Own.{Own}
use Rattle.nm_view.specs.Lists.{first}
use Rattle.nm_view.specs.Views.{View}
use Rattle.nm_view.proofs.Items.{all_same}
use Rattle.nm_part.specs.Patterns.{Ends, Either, CanEnd}
use Rattle.nm_part.proofs.Patterns.{ends-now, can-ends, can-follow, can-either}
use Rattle.nm_compose.specs.Plans.{IsNewRun, IsOver}
use Rattle.nm_compose.specs.Stages.{IsPieceAt, RunsAt}
use Rattle.nm_compose.specs.declared.or.Or.TheVariants.{This, Other}
use Rattle.nm_compose.proofs.Choosing.{this-follows, other-follows}
use Rattle.nm_compose.proofs.Staging.{by-stage, runs-new}
use Rattle.nm_vpages.specs.VPages.{vpages_of}
use Rattle.nm_mappings.proofs.Lists.{vpage-there}
use Rattle.nm_prepare.proofs.Found.{vpages-all}
use Rattle.nm_looks.specs.declared.seen.Seen.{Seen}
use Rattle.nm_looks.specs.Seeing.{is_mapped_word, is_in_tier, IsLooks, HasLooked}
use Rattle.nm_looks.specs.Softening.{IsSoftens}
use Rattle.nm_looks.specs.Parts.{page_looks}
use Rattle.nm_looks.proofs.Leaving.{seen-alone, mapped-all}
use Rattle.nm_looks.proofs.Looking.{some-looks}
use Rattle.nm_looks.proofs.Softening.{some-softens}
use Rattle.nm_inspect.specs.declared.inspect.Inspect.{Inspect}
use Rattle.nm_inspect.specs.declared.inspect.InspectStage.{InspectStage}
use Rattle.nm_inspect.specs.declared.inspect.InspectStage.TheVariants.{Looking, Softening}
use Rattle.nm_inspect.specs.declared.inspect.Inspected.{Inspected}
use Rattle.nm_inspect.specs.declared.inspect.Inspected.TheVariants.{Elsewhere, InUse, Idle}
use Rattle.nm_inspect.specs.Inspecting.{InspectData, SoftensInUse, AfterInspectLooks, IsInspection, MayInspect}
use Rattle.nm_inspect.specs.Stages.{inspect_data, InspectPieceMade, InspectPieceEnd, MayInspectPiece, IsInspectPiece, InspectPieceLeaves, InspectPiece, inspect_piece_made, IsNewInspectPiece, seen_in, inspect_piece, inspect_left, IsInspecting, inspect_stages}

-- What is left.

can-softens : (g : Geometry) (seen : Seen) → CanEnd (SoftensInUse g seen)
can-softens g seen = can-follow (IsSoftens seen.mapped g) (λ softened. Ends InUse) (some-softens seen.mapped g) (can-ends InUse)

can-after-looks : (g : Geometry) (seen : Seen) → CanEnd (AfterInspectLooks g seen)
can-after-looks g seen = can-either seen.inside (Either seen.accessed (SoftensInUse g seen) (Ends Idle)) (Ends Elsewhere)
    (can-either seen.accessed (SoftensInUse g seen) (Ends Idle) (can-softens g seen) (can-ends Idle)) (can-ends Elsewhere)

-- the pattern has a list
pub some-inspection : (made : InspectData) (g : Geometry) → CanEnd (IsInspection made g)
some-inspection made g =
    let some = some-looks (page_looks made.0 made.1.page made.1.tier) g in
    can-follow (IsLooks (page_looks made.0 made.1.page made.1.tier) g) (AfterInspectLooks g) some (can-after-looks g some.outcome)

-- Where a word is in the tier, one is mapped.

some-go : (p : ℕ × ℕ) (g : Geometry) (tier : ℕ) (ps : List (ℕ × ℕ)) (m t : Bool) → ((m && t) || list_any (λ q. is_in_tier g tier q.1) ps) ≡ true
    → (list_any (λ q. is_in_tier g tier q.1) ps ≡ true → map first (filter (λ q. is_mapped_word q.1) ps) ≡ [] → ⊥)
    → map first (if m then p ∷ filter (λ q. is_mapped_word q.1) ps else filter (λ q. is_mapped_word q.1) ps) ≡ [] → ⊥
some-go p g tier ps true t some later none = cc
some-go p g tier ps false t some later none = later some none

inside-some : (g : Geometry) (tier : ℕ) (told : List (ℕ × ℕ)) → list_any (λ q. is_in_tier g tier q.1) told ≡ true → map first (filter (λ q. is_mapped_word q.1) told) ≡ [] → ⊥
inside-some g tier [] some none = cc
inside-some g tier (p ∷ ps) some none = some-go p g tier ps (is_mapped_word p.1) _ some (inside-some g tier ps) none

seen-some : (made : InspectData) (view left : View) (seen : Seen) → HasLooked (page_looks made.0 made.1.page made.1.tier) view seen left → seen.inside ≡ true → seen.mapped ≡ [] → ⊥
seen-some made view left seen h some none =
    inside-some made.0 made.1.tier h.told (sym (ap (λ (s : Seen). s.inside) h.shown) ∙ some) (sym (ap (λ (s : Seen). s.mapped) h.shown) ∙ none)

-- The pieces.

abbrev pub RunsInspect : InspectData → InspectStage → (Own → Inspected → Type 0) → Geometry → View → View → Type 0
RunsInspect = RunsAt MayInspectPiece IsInspectPiece inspect_stages

pub runs-looks : (made : InspectData) (g : Geometry) (view : View) → MayInspect made g view → RunsInspect made Looking (IsInspection made g) g view view
runs-looks made g view may = record {
  begin = record { same = may.same; of = subst (λ (k : Geometry). All (λ v. backing_page k v ≡ Some made.1.page) (vpages_of made.0 made.1.page)) may.same (vpages-all made.0 made.1.page) };
  known = record { is = refl; known = record { may = may; is = refl } };
  can = λ own end shown. can-after-looks g (seen_in end);
  fits = λ own outcome f. this-follows IsLooks IsSoftens (inspect_left made Looking g) (page_looks made.0 made.1.page made.1.tier) g own outcome f;
}

-- what is known of a piece that has ended: the view that it left, and its list
abbrev pub EndsSo : Own → InspectPieceMade → Geometry → View → InspectPieceEnd → View → Type 0
EndsSo own runs g now end later = InspectPieceLeaves runs g now end later × IsInspectPiece runs g own end

-- the virtual pages of the page are in range
all-there : (made : InspectData) (g : Geometry) → made.0 ≡ g → All (IsVPage g) (vpages_of made.0 made.1.page)
all-there made g same =
    subst (λ (k : Geometry). All (IsVPage k) (vpages_of made.0 made.1.page)) same
    (all_same (λ v. backing_page made.0 v ≡ Some made.1.page) (IsVPage made.0) (vpages_of made.0 made.1.page) (λ v of. vpage-there made.0 v made.1.page of) (vpages-all made.0 made.1.page))

-- after the Looks
looked-same : (made : InspectData) (g : Geometry) (view now later : View) (seen : Seen) → IsInspecting made g view now → HasLooked (page_looks made.0 made.1.page made.1.tier) now seen later → later ≡ view
looked-same made g view now later seen h a =
    let alone = subst (λ (v : View). MayInspect made g v) (sym h.is) h.may in
    seen-alone (page_looks made.0 made.1.page made.1.tier) now later seen a alone.alone ∙ h.is

pub after-looks : (made : InspectData) (g : Geometry) (view now later : View) (own : Own) (seen : Seen) → IsInspecting made g view now → EndsSo own (This (page_looks made.0 made.1.page made.1.tier)) g now (This seen) later
    → seen.inside ≡ true → seen.accessed ≡ true → RunsInspect made (Softening seen.mapped) (AfterInspectLooks g seen) g view later
after-looks made g view now later own seen h a inside accessed = record {
  begin = mapped-all (IsVPage g) (page_looks made.0 made.1.page made.1.tier) now later seen a.0 (all-there made g h.may.same);
  known = record { is = refl; known = record { may = h.may; is = looked-same made g view now later seen h a.0 } };
  can = λ own end shown. can-ends InUse;
  fits = λ own outcome f. rw (inside, accessed) (other-follows IsLooks IsSoftens (inspect_left made (Softening seen.mapped) g) seen.mapped g own outcome f);
}

-- The steps of the plan.

abbrev pub AtStage : Inspect → Geometry → View → View → InspectPieceMade → Type 0
AtStage s = IsPieceAt inspect_stages (inspect_data s) s.stage

abbrev pub GivesInspect : Inspect → InspectPiece → (Own → Inspected → Type 0) → Geometry → View → View → Type 0
GivesInspect new piece was g first now = IsNewRun inspect_piece_made IsNewInspectPiece MayInspectPiece IsInspectPiece (AtStage new) (inspect_left (inspect_data new) new.stage) was piece g first now

abbrev pub IsInspectOver : (Own → Inspected → Type 0) → Geometry → View → View → Inspected → Type 0
IsInspectOver was g first now outcome = IsOver was (λ g view outcome left. left ≡ view) (λ g outcome. Unit {0}) g first now outcome

-- as it comes to a stage
pub gives-inspect : (old new : Inspect) (next : InspectStage) (piece : InspectPiece) (was : Own → Inspected → Type 0) (g : Geometry) (first now : View)
    → new ≡ record old { stage = next } → inspect_piece_made piece ≡ inspect_piece (inspect_data old) next → IsNewInspectPiece piece → RunsInspect (inspect_data old) next was g first now → GivesInspect new piece was g first now
gives-inspect old new next piece was g first now is acts fresh run =
    runs-new inspect_piece_made IsNewInspectPiece MayInspectPiece IsInspectPiece inspect_stages was (inspect_data old) (inspect_data new) next new.stage piece g first now (ap inspect_data is) (ap (λ (s : Inspect). s.stage) is) acts fresh run

-- some word is in the tier and some was accessed: the Softens
pub softens-next : (old new : Inspect) (end : InspectPieceEnd) (seen : Seen) (runs : InspectPieceMade) (piece : InspectPiece) (g : Geometry) (first now later : View) (own : Own)
    → old.stage ≡ Looking → end ≡ This seen → AtStage old g first now runs → InspectPieceLeaves runs g now end later → IsInspectPiece runs g own end
    → new ≡ record old { stage = Softening seen.mapped } → inspect_piece_made piece ≡ inspect_piece (inspect_data old) (Softening seen.mapped) → IsNewInspectPiece piece → seen.inside ≡ true → seen.accessed ≡ true
    → GivesInspect new piece (inspect_left (inspect_data old) old.stage g end) g first later
softens-next old new end seen runs piece g first now later own at ended placed left shown is acts fresh inside accessed =
    by-stage inspect_stages (EndsSo own) (λ stage end. GivesInspect new piece (inspect_left (inspect_data old) stage g end) g first later) (inspect_data old) old.stage Looking end (This seen) g first now later runs at ended placed (left, shown)
    (λ k a. gives-inspect old new (Softening seen.mapped) piece (AfterInspectLooks g seen) g first later is acts fresh (after-looks (inspect_data old) g first now later own seen k a inside accessed))

-- there is something to soften
pub softens-some : (old : Inspect) (end : InspectPieceEnd) (seen : Seen) (runs : InspectPieceMade) (g : Geometry) (first now later : View) (own : Own)
    → old.stage ≡ Looking → end ≡ This seen → AtStage old g first now runs → InspectPieceLeaves runs g now end later → IsInspectPiece runs g own end → seen.inside ≡ true → seen.mapped ≡ [] → ⊥
softens-some old end seen runs g first now later own at ended placed left shown inside none =
    by-stage inspect_stages (EndsSo own) (λ stage end. ⊥) (inspect_data old) old.stage Looking end (This seen) g first now later runs at ended placed (left, shown)
    (λ k a. seen-some (inspect_data old) now later seen a.0 inside none)

-- no word is in the tier, or none was accessed: the end
pub looks-end : (old : Inspect) (outcome : Inspected) (end : InspectPieceEnd) (seen : Seen) (runs : InspectPieceMade) (g : Geometry) (first now later : View) (own : Own)
    → old.stage ≡ Looking → end ≡ This seen → AtStage old g first now runs → InspectPieceLeaves runs g now end later → IsInspectPiece runs g own end
    → AfterInspectLooks g seen [] outcome → IsInspectOver (inspect_left (inspect_data old) old.stage g end) g first later outcome
looks-end old outcome end seen runs g first now later own at ended placed left shown ends =
    by-stage inspect_stages (EndsSo own) (λ stage end. IsInspectOver (inspect_left (inspect_data old) stage g end) g first later outcome) (inspect_data old) old.stage Looking end (This seen) g first now later runs at ended placed (left, shown)
    (λ k a. record { shown = ends; left = looked-same (inspect_data old) g first now later seen k a.0; over = tt })

softened-same : (made : InspectData) (pages : List ℕ) (g : Geometry) (view now later : View) (own : Own) (end : InspectPieceEnd) → IsInspecting made g view now → EndsSo own (Other pages) g now end later → later ≡ view
softened-same made pages g view now later own (This seen) h a = absurd a.0
softened-same made pages g view now later own (Other end) h a = a.0 ∙ h.is

-- after the Softens: the end
pub softens-end : (old : Inspect) (pages : List ℕ) (end : InspectPieceEnd) (runs : InspectPieceMade) (g : Geometry) (first now later : View) (own : Own)
    → old.stage ≡ Softening pages → AtStage old g first now runs → InspectPieceLeaves runs g now end later → IsInspectPiece runs g own end
    → IsInspectOver (inspect_left (inspect_data old) old.stage g end) g first later InUse
softens-end old pages end runs g first now later own at placed left shown =
    by-stage inspect_stages (EndsSo own) (λ stage end. IsInspectOver (inspect_left (inspect_data old) stage g end) g first later InUse) (inspect_data old) old.stage (Softening pages) end end g first now later runs at refl placed (left, shown)
    (λ k a. record { shown = ends-now InUse; left = softened-same (inspect_data old) pages g first now later own end k a; over = tt })

-- the ends of the Looks
pub ends-elsewhere : (g : Geometry) (seen : Seen) → seen.inside ≡ false → AfterInspectLooks g seen [] Elsewhere
ends-elsewhere g seen outside = rw outside (ends-now Elsewhere)

pub ends-idle : (g : Geometry) (seen : Seen) → seen.inside ≡ true → seen.accessed ≡ false → AfterInspectLooks g seen [] Idle
ends-idle g seen inside idle = rw (inside, idle) (ends-now Idle)
