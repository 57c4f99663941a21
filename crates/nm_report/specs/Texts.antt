-- The text of a report, and which reports have one.
use Rattle.std.specs.Prelude.{◌≡◌, ℕ, Bool, true, false, List, [], ◌∷◌, ◌++◌, length, flat_map, slice_index_or, zip, count_by, codes, Option, Some, None}
use Rattle.std.specs.List.{range_with_len}
use Rattle.std.specs.Fmt.{decimal}
use Rattle.nm_base.specs.Geometry.{Geometry, page_count}
use Rattle.nm_action.specs.declared.tally.Tally.{Tally}
use Rattle.nm_script.specs.declared.script.Line.{Line}
use Rattle.nm_script.specs.declared.script.Line.TheVariants.{Load, Store, Add, Await}
use Rattle.nm_script.specs.Items.{line, place_text}
use Rattle.nm_core.specs.declared.ends.Role.{Role}
use Rattle.nm_report.specs.declared.line_result.LineResult.{LineResult}
use Rattle.nm_report.specs.declared.line_result.LineResult.TheVariants.{Loaded, Stored, Added, Met, Missed}
use Rattle.nm_core.specs.EndWords.{EndWords, HasEndRoom}
use Rattle.nm_report.specs.Plain.{Report}
use Rattle.nm_report.specs.Ends.{NamesInRange, is_free_role, is_mapped_role, is_shadow_role, is_held_role, tier_frames, tier_roles, end_home, end_shadow}

-- ---- the lines of the processors

-- what a line asks for: load V.w, store V.w X, add V.w X, or await V.w X
abbrev pub asked_text : Line → List ℕ
asked_text (Load v w) = codes "load " ++ place_text v w
asked_text (Store v w x) = codes "store " ++ place_text v w ++ 32 ∷ decimal x
asked_text (Add v w x) = codes "add " ++ place_text v w ++ 32 ∷ decimal x
asked_text (Await v w x max) = codes "await " ++ place_text v w ++ 32 ∷ decimal x

-- what it gave: a value, nothing, gave Y, met n, or missed n
abbrev pub given_text : LineResult → List ℕ
given_text (Loaded x) = 32 ∷ decimal x
given_text Stored = []
given_text (Added y) = codes " gave " ++ decimal y
given_text (Met n) = codes " met " ++ decimal n
given_text (Missed n) = codes " missed " ++ decimal n

-- the line of an access
abbrev pub made_text : Line → LineResult → List ℕ
made_text l r = line (asked_text l ++ given_text r)

-- the lines of a program that have a result, in order
abbrev pub all_made_text : List Line → List LineResult → List ℕ
all_made_text lines results = flat_map (λ pair. made_text pair.0 pair.1) (zip lines results)

-- a processor and its accesses
abbrev pub cpu_text : ℕ → List Line → List LineResult → List ℕ
cpu_text p lines results = line (codes "cpu " ++ decimal p) ++ all_made_text lines results

-- the first n processors, by the lists of their programs and results
abbrev pub cpus_text : List (List Line) → List (List LineResult) → ℕ → List ℕ
cpus_text programs results n = flat_map (λ p. cpu_text p (slice_index_or programs p []) (slice_index_or results p [])) (range_with_len 0 n)

-- ---- the lines of the tiers and pages

-- tier t free a mapped b shadow c held d of n, where the four count these roles
abbrev pub roles_text : ℕ → List Role → ℕ → List ℕ
roles_text t roles n =
    line (codes "tier " ++ decimal t ++ codes " free " ++ decimal (count_by is_free_role roles) ++ codes " mapped " ++ decimal (count_by is_mapped_role roles) ++ codes " shadow " ++ decimal (count_by is_shadow_role roles) ++ codes " held " ++ decimal (count_by is_held_role roles) ++ codes " of " ++ decimal n)

-- the line of tier t
abbrev pub tier_text : Geometry → List Role → ℕ → List ℕ
tier_text g roles t = roles_text t (tier_roles g roles t) (tier_frames g t)

-- every tier
abbrev pub tiers_text : Geometry → List Role → List ℕ
tiers_text g roles = flat_map (λ t. tier_text g roles t) (range_with_len 0 (length g.tiers))

-- the shadow of a page, where it has one
abbrev pub shadow_text : Option ℕ → List ℕ
shadow_text None = []
shadow_text (Some s) = codes " shadow " ++ decimal s

-- none, or the frame and the shadow of page b
abbrev pub home_text : EndWords → ℕ → Option ℕ → List ℕ
home_text e b None = codes " none"
home_text e b (Some f) = codes " frame " ++ decimal f ++ shadow_text (end_shadow e b f)

-- the line of page b
abbrev pub page_text : EndWords → ℕ → List ℕ
page_text e b = line (codes "page " ++ decimal b ++ home_text e b (end_home e b))

-- every backing page
abbrev pub pages_text : Geometry → EndWords → List ℕ
pages_text g e = flat_map (λ b. page_text e b) (range_with_len 0 (page_count g))

-- ---- the lines after them

abbrev pub faults_text : Tally → List ℕ
faults_text t = line (codes "faults demand " ++ decimal t.demand ++ codes " alias " ++ decimal t.alias ++ codes " hint " ++ decimal t.hint ++ codes " shadow " ++ decimal t.shadow)

abbrev pub marks_text : Tally → List ℕ
marks_text t =
    line (codes "marks set " ++ decimal t.marked ++ codes " spilled " ++ decimal t.spilled ++ codes " cold " ++ decimal t.cold ++ codes " committed " ++ decimal t.committed ++ codes " moved " ++ decimal t.moved ++ codes " noframe " ++ decimal t.noframe ++ codes " gone " ++ decimal t.gone ++ codes " worn " ++ decimal t.worn)

abbrev pub moves_text : Tally → List ℕ
moves_text t = line (codes "moves aborted " ++ decimal t.aborted ++ codes " remapped " ++ decimal t.remapped ++ codes " copied " ++ decimal t.copied ++ codes " words " ++ decimal t.words)

abbrev pub work_text : Tally → List ℕ
work_text t = line (codes "work flushes " ++ decimal t.flushes ++ codes " reclaimed " ++ decimal t.reclaimed)

-- the four lines of counts
abbrev pub tally_text : Tally → List ℕ
tally_text t = faults_text t ++ marks_text t ++ moves_text t ++ work_text t

abbrev pub settled_text : Bool → List ℕ
settled_text true = line (codes "settled yes")
settled_text false = line (codes "settled no")

-- the lines after those of the tiers and pages
abbrev pub counts_text : Report → List ℕ
counts_text r = tally_text r.tally ++ settled_text r.end.settled

-- ---- the report

-- the text of a report
abbrev pub report_text : Report → List ℕ
report_text r =
    cpus_text r.script.programs r.results r.script.geometry.cpus ++ tiers_text r.script.geometry r.end.roles ++ pages_text r.script.geometry r.end ++ counts_text r

-- its lines but for the four of the counts
abbrev pub told_text : Report → List ℕ
told_text r =
    cpus_text r.script.programs r.results r.script.geometry.cpus ++ tiers_text r.script.geometry r.end.roles ++ pages_text r.script.geometry r.end ++ settled_text r.end.settled

-- a result is of a kind that the line can have
abbrev pub IsResultOf : Line → LineResult → Type 0
IsResultOf (Load v w) (Loaded x) = Unit {0}
IsResultOf (Store v w x) Stored = Unit {0}
IsResultOf (Add v w x) (Added y) = Unit {0}
IsResultOf (Await v w x max) (Met n) = Unit {0}
IsResultOf (Await v w x max) (Missed n) = Unit {0}
IsResultOf l r = ⊥

-- the results are no more than the lines, and each fits its line
abbrev pub AllFit : List Line → List LineResult → Type 0
AllFit lines [] = Unit {0}
AllFit [] (r ∷ results) = ⊥
AllFit (l ∷ lines) (r ∷ results) = IsResultOf l r × AllFit lines results

-- each processor's results fit its program
abbrev pub EachFits : List (List Line) → List (List LineResult) → Type 0
EachFits programs results = (p : ℕ) → AllFit (slice_index_or programs p []) (slice_index_or results p [])

-- a report that has a text: each processor has a program and a list of results that fit it, and the end words are of
-- the geometry
pub record IsPrintable (r : Report) : Type 0 where
  pub programs : length r.script.programs ≡ r.script.geometry.cpus
  pub results : length r.results ≡ r.script.geometry.cpus
  pub fits : EachFits r.script.programs r.results
  pub room : HasEndRoom r.script.geometry r.end
  pub names : NamesInRange r.script.geometry r.end
