-- Each of several virtual pages of a backing page is looked at, in ascending order, and what their words show is summed up.
use Rattle.std.specs.Prelude.{◌≡◌, ℕ, ◌==◌, ◌&&◌, ◌||◌, not, Bool, true, false, List, [], ◌∷◌, ◌++◌, map, All, Some}
use Rattle.std.specs.List.{filter, list_any}
use Rattle.nm_base.specs.Geometry.{Geometry, backing_page, tier_of}
use Rattle.nm_base.specs.PageWord.{is_present, is_accessed, frame_of}
use Rattle.nm_action.specs.declared.action.Action.{Action}
use Rattle.nm_action.specs.declared.action.Action.TheVariants.{Look}
use Rattle.nm_action.specs.declared.action.Reply.{Reply}
use Rattle.nm_action.specs.declared.action.Reply.TheVariants.{Word}
use Rattle.nm_action.specs.Own.{Own}
use Rattle.nm_view.specs.Lists.{first, Once}
use Rattle.nm_view.specs.Views.{View}
use Rattle.nm_part.specs.Patterns.{Ends, Follows, Each}
use Rattle.nm_compose.specs.Acts.{IsAct}
use Rattle.nm_mappings.specs.declared.visits.Visit.TheVariants as visits
use Rattle.nm_mappings.specs.Visits.{visited_view}
use Rattle.nm_looks.specs.declared.looks.LooksMade.{LooksMade}
use Rattle.nm_looks.specs.declared.seen.Seen.{Seen}

-- What a word shows.

abbrev pub is_mapped_word : ℕ → Bool
is_mapped_word word = not (word == 0)

-- it maps a frame of this tier, or of another
abbrev pub is_in_tier : Geometry → ℕ → ℕ → Bool
is_in_tier g tier word = is_mapped_word word && (tier_of g (frame_of word) == tier)

abbrev pub is_outside : Geometry → ℕ → ℕ → Bool
is_outside g tier word = is_mapped_word word && not (tier_of g (frame_of word) == tier)

-- it is hot: present and accessed
abbrev pub is_hot_word : ℕ → Bool
is_hot_word word = is_present word && is_accessed word

abbrev pub is_accessed_word : ℕ → Bool
is_accessed_word word = is_mapped_word word && is_accessed word

-- What is seen.

-- before any word was told
abbrev pub nothing_seen : Seen
nothing_seen = record { mapped = []; outside = []; inside = false; hot = false; accessed = false }

-- a virtual page more, where a test holds
abbrev pub where_so : Bool → ℕ → List ℕ → List ℕ
where_so true v pages = pages ++ v ∷ []
where_so false v pages = pages

-- after the word of one virtual page more
abbrev pub seen_with_word : Geometry → ℕ → ℕ → ℕ → Seen → Seen
seen_with_word g tier v word seen = record {
  mapped = where_so (is_mapped_word word) v seen.mapped;
  outside = where_so (is_outside g tier word) v seen.outside;
  inside = seen.inside || is_in_tier g tier word;
  hot = seen.hot || is_hot_word word;
  accessed = seen.accessed || is_accessed_word word;
}

-- after this reply to a Look
abbrev pub seen_after : Geometry → ℕ → ℕ → Reply → Seen → Seen
seen_after g tier v (Word word) seen = seen_with_word g tier v word seen
seen_after g tier v _ seen = seen

-- after all that was told, by pairs of a virtual page and its word
abbrev pub seen_of : Geometry → ℕ → List (ℕ × ℕ) → Seen
seen_of g tier told = record {
  mapped = map first (filter (λ p. is_mapped_word p.1) told);
  outside = map first (filter (λ p. is_outside g tier p.1) told);
  inside = list_any (λ p. is_in_tier g tier p.1) told;
  hot = list_any (λ p. is_hot_word p.1) told;
  accessed = list_any (λ p. is_accessed_word p.1) told;
}

-- The pattern. Looks are made with a geometry and their data.

abbrev pub LooksData : Type 0
LooksData = Geometry × LooksMade

abbrev pub tier_looks_made : ℕ → ℕ → List ℕ → LooksMade
tier_looks_made page tier pages = record { page = page; tier = tier; pages = pages }

abbrev pub look_at : ℕ → Action
look_at v = Look v

-- the Look at one virtual page, and what comes after it by what is seen
abbrev pub LookAt : LooksData → Geometry → ℕ → Seen → (Seen → Own → Seen → Type 0) → Own → Seen → Type 0
LookAt made g v seen after = Follows (IsAct (look_at v) g) (λ reply. after (seen_after made.0 made.1.tier v reply seen))

-- the Looks at these virtual pages, in order, and the end with what is seen
abbrev pub LooksFrom : LooksData → Geometry → List ℕ → Seen → Own → Seen → Type 0
LooksFrom made g pages seen = Each (LookAt made g) pages seen (λ all. Ends all)

abbrev pub IsLooks : LooksData → Geometry → Own → Seen → Type 0
IsLooks made g = LooksFrom made g made.1.pages nothing_seen

-- The views.

-- they may begin: the geometry is theirs, and the virtual pages are of the page
pub record MayLooks (made : LooksData) (g : Geometry) (view : View) : Type 0 where
  pub same : made.0 ≡ g
  pub of : All (λ v. backing_page g v ≡ Some made.1.page) made.1.pages

-- the view after these words were told: an operation on the page has noted them, and nothing else has changed
abbrev pub seen_view : ℕ → List (ℕ × ℕ) → View → View
seen_view page told view = visited_view visits.Look page told view

-- what they leave: for each virtual page, once and in order, a word was told; the outcome is what these words show; and the
-- view is the one after them
pub record HasLooked (made : LooksData) (view : View) (seen : Seen) (left : View) : Type 0 where
  pub told : List (ℕ × ℕ)
  pub pages : map first told ≡ made.1.pages
  pub once : Once first told
  pub shown : seen ≡ seen_of made.0 made.1.tier told
  pub is : left ≡ seen_view made.1.page told view
