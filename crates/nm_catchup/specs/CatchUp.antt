-- What a processor keeps of its translations, and how it catches up.
use Rattle.std.specs.Prelude.{ℕ, ◌-◌, ◌==◌, Bool, true, false, nat_lt, if◌then◌else◌, length, is_some, Option, Some, None}
use Rattle.std.specs.List.{range_with_len}
use Rattle.nm_base.specs.Geometry.{Geometry}
use Rattle.nm_action.specs.declared.action.AckTo.TheVariants.{Seen}
use Rattle.nm_action.specs.declared.action.Action.TheVariants.{Peek, Poll, Ack}
use Rattle.nm_action.specs.declared.action.Reply.{Reply}
use Rattle.nm_action.specs.declared.action.Reply.TheVariants.{Word}
use Rattle.nm_action.specs.Own.{Own}
use Rattle.nm_part.specs.Patterns.{Ends, Follows, Either, Each}
use Rattle.nm_compose.specs.Acts.{IsAct}
use Rattle.nm_xlat.specs.declared.translations.Entry.{Entry}
use Rattle.nm_xlat.specs.Entries.{entry_at, entries_without}
use Rattle.nm_setcache.specs.SetAssociative.{SetAssociative}

-- what a processor keeps: its cached translations, and the number of bumps that it acknowledged last
pub record Kept : Type 0 where
  pub cache : SetAssociative
  pub acked : Option ℕ

-- the entry that is kept of a page
abbrev pub entry_of : Kept → ℕ → Option Entry
entry_of kept page = entry_at page kept.cache.entries

-- a number of bumps is news: it is greater than the one that was acknowledged last, or none was
abbrev pub is_news : Option ℕ → ℕ → Bool
is_news None number = true
is_news (Some acked) number = nat_lt acked number

-- an entry has this stamp
abbrev pub has_stamp : Option Entry → ℕ → Bool
has_stamp None stamp = false
has_stamp (Some entry) stamp = entry.stamp == stamp

-- without the entry of a page
abbrev pub kept_without : ℕ → Kept → Kept
kept_without page kept = record kept { cache = record kept.cache { entries = entries_without page kept.cache.entries } }

-- after a Peek of a page gave this stamp: its entry is dropped where that has another stamp
abbrev pub peeked_with : ℕ → ℕ → Kept → Kept
peeked_with page stamp kept = if has_stamp (entry_of kept page) stamp then kept else kept_without page kept

-- the word that was told
abbrev pub told_word : Reply → ℕ
told_word (Word word) = word
told_word _ = 0

-- a page that is cached is peeked; and what comes after it
abbrev pub PeeksAt : Geometry → ℕ → Kept → (Kept → Own → Kept → Type 0) → Own → Kept → Type 0
PeeksAt g page kept after = Either (is_some (entry_of kept page)) (Follows (IsAct (Peek page) g) (λ reply. after (peeked_with page (told_word reply) kept))) (after kept)

-- the number is acknowledged
abbrev pub Acknowledges : Geometry → ℕ → Kept → Own → Kept → Type 0
Acknowledges g number kept = Follows (IsAct (Ack Seen) g) (λ reply. Ends (record kept { acked = Some number }))

-- the cached pages from this one on are peeked, by ascending number, and the number is acknowledged
abbrev pub PeeksFrom : Geometry → ℕ → ℕ → Kept → Own → Kept → Type 0
PeeksFrom g number from kept = Each (PeeksAt g) (range_with_len from (length g.vpages - from)) kept (Acknowledges g number)

-- a processor catches up: it polls; where the number is news, it peeks each cached page, drops each entry that has another
-- stamp, and acknowledges the number. The outcome is what it keeps then.
abbrev pub CatchesUp : Geometry → Kept → Own → Kept → Type 0
CatchesUp g kept = Follows (IsAct Poll g) (λ reply. Either (is_news kept.acked (told_word reply)) (PeeksFrom g (told_word reply) 0 kept) (Ends kept))
