-- Reclaim, as a finished list of actions and replies.
use Rattle.std.specs.Prelude.{ℕ, ◌+◌, ◌-◌, ◌*◌, ◌==◌, ◌&&◌, not, nat_lt, if◌then◌else◌, Bool, false, List, [], Option, Some, None}
use Rattle.std.specs.List.{filter, range_with_len}
use Rattle.nm_base.specs.Geometry.{Geometry, page_count, tier_of}
use Rattle.nm_base.specs.ShadowWord.{shadow_frame}
use Rattle.nm_action.specs.declared.action.Action.TheVariants.{Lock, Unlock, Read, SetShadow}
use Rattle.nm_action.specs.declared.action.Cell.TheVariants.{Home, Shadow}
use Rattle.nm_action.specs.declared.action.Reply.{Reply}
use Rattle.nm_action.specs.declared.action.Reply.TheVariants.{Done, Word}
use Rattle.nm_action.specs.Own.{Own}
use Rattle.nm_part.specs.Patterns.{Ends, Follows, Either, Each}
use Rattle.nm_compose.specs.Acts.{IsAct}
use Rattle.nm_pool.specs.declared.job.PoolJob.TheVariants.{Back}
use Rattle.nm_pool.specs.Pool.{IsPool}
use Rattle.nm_reclaim.specs.declared.sweep.ReclaimMade.{ReclaimMade}

-- Which pages are visited.

-- a page is the one that is skipped
abbrev pub is_skipped : Option ℕ → ℕ → Bool
is_skipped None page = false
is_skipped (Some skip) page = skip == page

-- the backing pages from this one on, but for the skipped one
abbrev pub pages_from : Geometry → Option ℕ → ℕ → List ℕ
pages_from g skip page = filter (λ b. not (is_skipped skip b)) (range_with_len page (page_count g - page))

-- the backing pages that Reclaim may visit, in order; none where the tier is the fastest, in which no frame is a shadow
abbrev pub pages_visited : Geometry → ReclaimMade → List ℕ
pages_visited g made = if made.tier == 0 then [] else pages_from g made.skip 0

-- so many are freed at most
abbrev pub most_freed : ReclaimMade → ℕ
most_freed made = 10 * made.want

-- What is done at a page, last step first.

-- the word of a reply
abbrev pub word_in : Reply → ℕ
word_in (Word word) = word
word_in _ = 0

-- a shadow word names a shadow in the tier
abbrev pub is_shadow_in : Geometry → ℕ → ℕ → Bool
is_shadow_in g tier word = not (word == 0) && (tier_of g (shadow_frame word) == tier)

-- the frame of the shadow is put back: one more is freed
abbrev pub PutsBack : Geometry → ℕ → ℕ → (ℕ → Own → ℕ → Type 0) → Own → ℕ → Type 0
PutsBack g shadow freed after = Follows (IsPool g (Back shadow)) (λ end. after (freed + 1))

-- the page loses its shadow, and is unlocked
abbrev pub DiscardsShadow : Geometry → ℕ → ℕ → ℕ → ℕ → (ℕ → Own → ℕ → Type 0) → Own → ℕ → Type 0
DiscardsShadow g page master shadow freed after = Follows (IsAct (SetShadow page master None) g) (λ set. Follows (IsAct (Unlock page) g) (λ unlocked. PutsBack g shadow freed after))

-- the page is unlocked as it is
abbrev pub LeavesPage : Geometry → ℕ → ℕ → (ℕ → Own → ℕ → Type 0) → Own → ℕ → Type 0
LeavesPage g page freed after = Follows (IsAct (Unlock page) g) (λ unlocked. after freed)

-- by the shadow word of its home
abbrev pub VisitAfterShadow : Geometry → ReclaimMade → ℕ → ℕ → ℕ → ℕ → (ℕ → Own → ℕ → Type 0) → Own → ℕ → Type 0
VisitAfterShadow g made page master word freed after = Either (is_shadow_in g made.tier word) (DiscardsShadow g page master (shadow_frame word) freed after) (LeavesPage g page freed after)

-- by its home word
abbrev pub VisitAfterHome : Geometry → ReclaimMade → ℕ → ℕ → ℕ → (ℕ → Own → ℕ → Type 0) → Own → ℕ → Type 0
VisitAfterHome g made page word freed after =
    Either (word == 0) (LeavesPage g page freed after) (Follows (IsAct (Read page (Shadow (word - 1))) g) (λ reply. VisitAfterShadow g made page (word - 1) (word_in reply) freed after))

-- by the answer to Lock: where that is Busy, the next page
abbrev pub VisitAfterLock : Geometry → ReclaimMade → ℕ → Reply → ℕ → (ℕ → Own → ℕ → Type 0) → Own → ℕ → Type 0
VisitAfterLock g made page Done freed after = Follows (IsAct (Read page (Home page)) g) (λ reply. VisitAfterHome g made page (word_in reply) freed after)
VisitAfterLock g made page _ freed after = after freed

-- a page is visited unless enough are freed
abbrev pub Visits : Geometry → ReclaimMade → ℕ → ℕ → (ℕ → Own → ℕ → Type 0) → Own → ℕ → Type 0
Visits g made page freed after = Either (nat_lt freed (most_freed made)) (Follows (IsAct (Lock page) g) (λ reply. VisitAfterLock g made page reply freed after)) (after freed)

-- the pages of a list are visited in order, and the outcome is the number freed
abbrev pub VisitsAll : Geometry → ReclaimMade → List ℕ → ℕ → Own → ℕ → Type 0
VisitsAll g made pages freed = Each (Visits g made) pages freed (λ all. Ends all)

abbrev pub IsReclaim : Geometry → ReclaimMade → Own → ℕ → Type 0
IsReclaim g made = VisitsAll g made (pages_visited g made) 0
