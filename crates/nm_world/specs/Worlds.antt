-- A machine as two functions: each word by its name, and each actor's view by the actor's number; and one step of it.
use Rattle.std.specs.Prelude.{ℕ, ◌==◌, ◌&&◌, if◌then◌else◌, Bool, true, false, Option}
use Rattle.nm_base.specs.Geometry.{Geometry}
use Rattle.nm_action.specs.declared.action.Action.{Action}
use Rattle.nm_action.specs.declared.action.Reply.{Reply}
use Rattle.nm_view.specs.Views.{Op, View}
use Rattle.nm_view.specs.Operations.{op_on}
use Rattle.nm_words.specs.declared.names.Where.{Where}
use Rattle.nm_words.specs.declared.names.Where.TheVariants.{Req, Pte, Stamp, Home, Shadow, Lock, Mark, Ack, Turn, Free, Mem}
use Rattle.nm_words.specs.Exchanges.{changed}
use Rattle.nm_step.specs.Table.{where_of, change_of, reply_of}
use Rattle.nm_event.specs.After.{after_of}

-- each word of a machine by its name, and each view by the number of its actor
pub record World : Type 0 where
  pub word : Where → ℕ
  pub view : ℕ → View

-- two names are the same
abbrev pub is_same : Where → Where → Bool
is_same Req Req = true
is_same (Pte v) (Pte u) = u == v
is_same (Stamp v) (Stamp u) = u == v
is_same (Home b) (Home c) = c == b
is_same (Shadow m) (Shadow n) = n == m
is_same (Lock b) (Lock c) = c == b
is_same (Mark b) (Mark c) = c == b
is_same (Ack p) (Ack q) = q == p
is_same (Turn t) (Turn u) = u == t
is_same (Free t k) (Free u j) = (u == t) && (j == k)
is_same (Mem f i) (Mem h j) = (h == f) && (j == i)
is_same _ _ = false

-- the words with x at a name
abbrev pub written : Where → ℕ → (Where → ℕ) → Where → ℕ
written c x word d = if is_same c d then x else word d

-- the views with a new one for an actor
abbrev pub viewing : ℕ → View → (ℕ → View) → ℕ → View
viewing a new view d = if d == a then new else view d

-- the word on which an action of an actor is an exchange
abbrev pub exchange_place : Geometry → World → ℕ → Action → Where
exchange_place g m a action = where_of g (m.view a) action

-- what this word is before the exchange, and after it
abbrev pub found_in : Geometry → World → ℕ → Action → ℕ
found_in g m a action = m.word (exchange_place g m a action)

abbrev pub left_in : Geometry → World → ℕ → Action → ℕ
left_in g m a action = changed (change_of g (m.view a) action) (found_in g m a action)

-- the reply
abbrev pub reply_in : Geometry → World → ℕ → Action → Reply
reply_in g m a action = reply_of (change_of g (m.view a) action) (found_in g m a action)

-- the world after an action of an actor
abbrev pub moved : Geometry → World → ℕ → Action → World
moved g m a action = record {
  word = written (exchange_place g m a action) (left_in g m a action) m.word;
  view = viewing a (after_of g (m.view a) action (reply_in g m a action)) m.view;
}

-- Readers.

abbrev pub pte_at : World → ℕ → ℕ
pte_at m v = m.word (Pte v)

abbrev pub stamp_at : World → ℕ → ℕ
stamp_at m v = m.word (Stamp v)

abbrev pub home_at : World → ℕ → ℕ
home_at m b = m.word (Home b)

abbrev pub shadow_at : World → ℕ → ℕ
shadow_at m k = m.word (Shadow k)

abbrev pub lock_at : World → ℕ → ℕ
lock_at m b = m.word (Lock b)

abbrev pub ack_at : World → ℕ → ℕ
ack_at m p = m.word (Ack p)

abbrev pub turn_at : World → ℕ → ℕ
turn_at m t = m.word (Turn t)

abbrev pub mem_at : World → ℕ → ℕ → ℕ
mem_at m f i = m.word (Mem f i)

-- an actor's operation on a page
abbrev pub op_at : World → ℕ → ℕ → Option Op
op_at m a b = op_on (m.view a) b
