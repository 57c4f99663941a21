-- How far a catch up has come.
use Rattle.std.specs.Prelude.{◌≡◌, ◌≢◌, ℕ, ◌<◌, ◌≤◌, ◌+◌, true, length, Some, IsSome, IfSome}
use Rattle.nm_base.specs.Geometry.{Geometry, IsGeometry}
use Rattle.nm_base.specs.Ranges.{IsVPage}
use Rattle.nm_action.specs.declared.action.AckTo.TheVariants.{Seen}
use Rattle.nm_action.specs.declared.action.Action.{Action}
use Rattle.nm_action.specs.declared.action.Action.TheVariants.{Peek, Poll, Ack}
use Rattle.nm_action.specs.declared.action.Reply.{Reply}
use Rattle.nm_action.specs.declared.turn.Step.{Step}
use Rattle.nm_action.specs.declared.turn.Step.TheVariants.{Do, Over}
use Rattle.nm_action.specs.Own.{Own}
use Rattle.nm_view.specs.declared.view.CacheEntry.{CacheEntry}
use Rattle.nm_view.specs.declared.view.Peeked.{Peeked}
use Rattle.nm_view.specs.Lists.{find}
use Rattle.nm_view.specs.Views.{View, most_bumps, end_word}
use Rattle.nm_view.specs.Operations.{IsProcessor, cached_page, peeked_page}
use Rattle.nm_permit.specs.Permitted.{Allowed}
use Rattle.nm_event.specs.Fitting.{Fits}
use Rattle.nm_event.specs.After.{view_after}
use Rattle.nm_part.specs.Parts.{IsBegunWith}
use Rattle.nm_part.specs.Patterns.{Ends, Follows, Either, IsLeft}
use Rattle.nm_compose.specs.Acts.{IsAct}
use Rattle.nm_xlat.specs.declared.translations.Entry.{Entry}
use Rattle.nm_desk.specs.Desk.{desk}
use Rattle.nm_catchup.specs.declared.cache.TranslationCache.{TranslationCache}
use Rattle.nm_catchup.specs.declared.cache.CatchStage.{CatchStage}
use Rattle.nm_catchup.specs.declared.cache.CatchStage.TheVariants.{Resting, Polling, Peeking, Acknowledging}
use Rattle.nm_catchup.specs.CatchUp.{Kept, entry_of, is_news, peeked_with, told_word, PeeksFrom, CatchesUp}

-- what the translations of a processor keep
abbrev pub kept_of : TranslationCache → Kept
kept_of c = record { cache = c.entries; acked = c.acked }

-- What is kept, beside the view.

-- an entry of a page, as a view has it
abbrev pub entry_in : ℕ → Entry → CacheEntry
entry_in page e = record { vpage = page; frame = e.frame; dirty = e.dirty; stamp = e.stamp }

-- each entry that is kept stands in the view's cache
abbrev pub AreCached : Kept → View → Type 0
AreCached kept view = (page : ℕ) (e : Entry) → entry_of kept page ≡ Some e → find cached_page page view.cache ≡ Some (entry_in page e)

-- only virtual pages have entries
abbrev pub AreCachedVPages : Geometry → Kept → Type 0
AreCachedVPages g kept = (page : ℕ) → IsSome (entry_of kept page) → IsVPage g page

-- a number is what the view acknowledged last
pub record IsAcked (view : View) (number : ℕ) : Type 0 where
  pub is : view.acked ≡ number
  pub most : number ≤ most_bumps

-- a processor with this view keeps this
pub record IsKeptWith (g : Geometry) (kept : Kept) (view : View) : Type 0 where
  pub geometry : IsGeometry g
  pub processor : IsProcessor g view
  pub range : AreCachedVPages g kept
  pub cached : AreCached kept view
  pub acked : IfSome kept.acked (IsAcked view)

-- a fresh peek of a page gave this stamp
abbrev pub fresh_peek : ℕ → ℕ → Peeked
fresh_peek page stamp = record { vpage = page; stamp = stamp; fresh = true }

-- each entry of a page before this one has the stamp of a fresh peek
abbrev pub ArePeeked : ℕ → Kept → View → Type 0
ArePeeked from kept view = (page : ℕ) (e : Entry) → page < from → entry_of kept page ≡ Some e → find peeked_page page view.peeked ≡ Some (fresh_peek page e.stamp)

-- a number that is news was polled, and the pages before this one were peeked
pub record HasPeeked (g : Geometry) (number from : ℕ) (kept : Kept) (view : View) : Type 0 where
  pub all : IsKeptWith g kept view
  pub polled : view.req_seen ≡ number
  pub most : number ≤ most_bumps
  pub peeked : ArePeeked from kept view

-- the cached page that is next is peeked
pub record IsAtPeek (g : Geometry) (number page : ℕ) (kept : Kept) (view : View) : Type 0 where
  pub has : HasPeeked g number page kept view
  pub cached : IsSome (entry_of kept page)

-- Stages.

-- what is known at a stage
abbrev pub KnownInCatch : Geometry → CatchStage → Kept → View → Type 0
KnownInCatch g Resting kept view = ⊥
KnownInCatch g Polling kept view = IsKeptWith g kept view
KnownInCatch g (Peeking number page) kept view = IsAtPeek g number page kept view
KnownInCatch g (Acknowledging number) kept view = HasPeeked g number (length g.vpages) kept view

-- the action of a stage
abbrev pub catch_action : CatchStage → Action
catch_action Resting = Poll
catch_action Polling = Poll
catch_action (Peeking number page) = Peek page
catch_action (Acknowledging number) = Ack Seen

-- what is left after the action of a stage, by its reply
abbrev pub catch_left : Geometry → CatchStage → Kept → Reply → Own → Kept → Type 0
catch_left g Resting kept reply = Ends kept
catch_left g Polling kept reply = Either (is_news kept.acked (told_word reply)) (PeeksFrom g (told_word reply) 0 kept) (Ends kept)
catch_left g (Peeking number page) kept reply = PeeksFrom g number (page + 1) (peeked_with page (told_word reply) kept)
catch_left g (Acknowledging number) kept reply = Ends (record kept { acked = Some number })

-- In all of these `was` is what was kept, and `view` the view, when the catch up began, and `own` the list since then.

-- a processor that had not ended when a catch up began has not ended since
abbrev pub GoesOn : Geometry → View → Own → Type 0
GoesOn g view own = view.acked ≢ end_word → (view_after g view own).acked ≢ end_word

-- the answer to an action is awaited at a stage, where this is kept
pub record IsCatching (stage : CatchStage) (kept was : Kept) (g : Geometry) (view : View) (own : Own) (action : Action) : Type 0 where
  pub is : action ≡ catch_action stage
  pub due : IsLeft (CatchesUp g was) own (Follows (IsAct (catch_action stage) g) (catch_left g stage kept))
  pub known : KnownInCatch g stage kept (view_after g view own)
  pub seat : desk g (view_after g view own) ≡ desk g view
  pub running : GoesOn g view own

-- the same of the translations
abbrev pub AwaitsCatch : TranslationCache → Kept → Geometry → View → Own → Action → Type 0
AwaitsCatch c = IsCatching c.stage (kept_of c)

-- an action of a catch up is permitted, and its answer is awaited
pub record IsCatchAsked (c : TranslationCache) (was : Kept) (g : Geometry) (view : View) (own : Own) (action : Action) : Type 0 where
  pub permitted : Allowed g (view_after g view own) action
  pub awaited : AwaitsCatch c was g view own action
  pub begun : IsBegunWith (CatchesUp g was) own action

-- a catch up is over
pub record IsCaughtUp (c : TranslationCache) (was : Kept) (g : Geometry) (view : View) (own : Own) : Type 0 where
  pub shown : CatchesUp g was own (kept_of c)
  pub all : IsKeptWith g (kept_of c) (view_after g view own)
  pub on : IsSome c.acked
  pub seat : desk g (view_after g view own) ≡ desk g view

-- a step of a catch up
abbrev pub IsCatchStep : TranslationCache → Kept → Geometry → View → Own → Step (Unit {0}) → Type 0
IsCatchStep c was g view own (Do action) = IsCatchAsked c was g view own action
IsCatchStep c was g view own (Over _) = IsCaughtUp c was g view own

-- the answer that is heard fits an action whose answer is awaited
pub record IsCatchHeard (c : TranslationCache) (reply : Reply) : Type 0 where
  pub was : Kept
  pub geometry : Geometry
  pub view : View
  pub own : Own
  pub action : Action
  pub awaited : AwaitsCatch c was geometry view own action
  pub fits : Fits geometry (view_after geometry view own) action reply

-- the pages from this one on are yet to be peeked
pub record IsPeekingFrom (g : Geometry) (number from : ℕ) (kept was : Kept) (view : View) (own : Own) : Type 0 where
  pub due : IsLeft (CatchesUp g was) own (PeeksFrom g number from kept)
  pub has : HasPeeked g number from kept (view_after g view own)
  pub seat : desk g (view_after g view own) ≡ desk g view
  pub running : GoesOn g view own
