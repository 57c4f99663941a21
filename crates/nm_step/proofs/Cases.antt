-- By cases on a group of words: only these kinds of action exchange a word of the group, each on this word and by this
-- change. What is proved of each of them (a record for each group) holds of every action whose exchange is in the group.
use Rattle.std.proofs.Common.{ℕ, ◌+◌, ◌^◌, Bool, Option}
use Rattle.nm_base.specs.Geometry.{Geometry, tier_of}
use Rattle.nm_base.specs.PageWord.{hint_mask, dirty_mask, grant_mask, all_but, walked_word}
use Rattle.nm_base.specs.HomeWord.{home_word}
use Rattle.nm_base.specs.FreeWords.{free_index, free_bit}
use Rattle.nm_base.specs.ShadowWord.{shadow_word}
use Rattle.nm_action.specs.declared.action.AckTo.{AckTo}
use Rattle.nm_action.specs.declared.action.Bit.{Bit}
use Rattle.nm_action.specs.declared.action.Cell.TheVariants as cells
use Rattle.nm_action.specs.declared.action.Action.{Action}
use Rattle.nm_action.specs.declared.action.Action.TheVariants as kinds
use Rattle.nm_view.specs.Views.{View}
use Rattle.nm_words.specs.declared.names.Where.{Where}
use Rattle.nm_words.specs.declared.names.Where.TheVariants.{Req, Pte, Stamp, Home, Shadow, Lock, Mark, Ack, Turn, Free, Mem}
use Rattle.nm_words.specs.declared.exchanges.Change.{Change}
use Rattle.nm_words.specs.declared.exchanges.Change.TheVariants as changes
use Rattle.nm_step.specs.Table.{where_of, change_of, cached_frame, home_frame, acked_word, bit_mask}

-- what is claimed of an action, of its word and of its change
abbrev pub Claim : Type 1
Claim = Action → Where → Change → Type 0

-- The groups.

abbrev pub InReq : Where → Type 0
InReq Req = Unit {0}
InReq c = ⊥

abbrev pub InPte : Where → Type 0
InPte (Pte v) = Unit {0}
InPte c = ⊥

abbrev pub InStamp : Where → Type 0
InStamp (Stamp v) = Unit {0}
InStamp c = ⊥

abbrev pub InHome : Where → Type 0
InHome (Home b) = Unit {0}
InHome c = ⊥

abbrev pub InShadow : Where → Type 0
InShadow (Shadow m) = Unit {0}
InShadow c = ⊥

abbrev pub InLock : Where → Type 0
InLock (Lock b) = Unit {0}
InLock c = ⊥

abbrev pub InMark : Where → Type 0
InMark (Mark b) = Unit {0}
InMark c = ⊥

abbrev pub InAck : Where → Type 0
InAck (Ack p) = Unit {0}
InAck c = ⊥

abbrev pub InTurn : Where → Type 0
InTurn (Turn t) = Unit {0}
InTurn c = ⊥

abbrev pub InFree : Where → Type 0
InFree (Free t k) = Unit {0}
InFree c = ⊥

abbrev pub InMem : Where → Type 0
InMem (Mem f i) = Unit {0}
InMem c = ⊥

-- The kinds of each group.

pub record OnReq (P : Claim) : Type 0 where
  pub poll : P kinds.Poll Req changes.Keep
  pub bump : P kinds.Bump Req (changes.Add 1)

pub record OnPte (P : Claim) : Type 0 where
  pub look : (v : ℕ) → P (kinds.Look v) (Pte v) changes.Keep
  pub walk : (v expect : ℕ) (write : Bool) → P (kinds.Walk v expect write) (Pte v) (changes.IfIs expect (walked_word expect write))
  pub soften : (v : ℕ) (bit : Bit) → P (kinds.Soften v bit) (Pte v) (changes.And (all_but (bit_mask bit)))
  pub arm : (v : ℕ) → P (kinds.Arm v) (Pte v) (changes.Or hint_mask)
  pub clear_dirty : (v : ℕ) → P (kinds.ClearDirty v) (Pte v) (changes.And (all_but dirty_mask))
  pub unmap : (v : ℕ) → P (kinds.Unmap v) (Pte v) (changes.Swap 0)
  pub map : (v word : ℕ) → P (kinds.Map v word) (Pte v) (changes.Put word)
  pub grant : (v : ℕ) → P (kinds.Grant v) (Pte v) (changes.Xor grant_mask)

pub record OnStamp (P : Claim) : Type 0 where
  pub peek : (v : ℕ) → P (kinds.Peek v) (Stamp v) changes.Keep
  pub raise : (v : ℕ) → P (kinds.Raise v) (Stamp v) (changes.Add 1)

pub record OnHome (P : Claim) : Type 0 where
  pub set : (b f : ℕ) → P (kinds.SetHome b f) (Home b) (changes.Put (home_word f))
  pub read : (b page : ℕ) → P (kinds.Read b (cells.Home page)) (Home page) changes.Keep

pub record OnShadow (P : Claim) : Type 0 where
  pub set : (b m : ℕ) (shadow : Option ℕ) → P (kinds.SetShadow b m shadow) (Shadow m) (changes.Put (shadow_word b shadow))
  pub read : (b frame : ℕ) → P (kinds.Read b (cells.Shadow frame)) (Shadow frame) changes.Keep

pub record OnLock (view : View) (P : Claim) : Type 0 where
  pub lock : (b : ℕ) → P (kinds.Lock b) (Lock b) (changes.Take (view.number + 1))
  pub unlock : (b : ℕ) → P (kinds.Unlock b) (Lock b) (changes.Put 0)

pub record OnMark (P : Claim) : Type 0 where
  pub mark : (b old new : ℕ) → P (kinds.Mark b old new) (Mark b) (changes.IfIs old new)

pub record OnAck (view : View) (P : Claim) : Type 0 where
  pub ack : (to : AckTo) → P (kinds.Ack to) (Ack view.number) (changes.Put (acked_word view to))
  pub see : (p : ℕ) → P (kinds.SeeAck p) (Ack p) changes.Keep

pub record OnTurn (view : View) (P : Claim) : Type 0 where
  pub take : (t : ℕ) → P (kinds.TakeTurn t) (Turn t) (changes.Take (view.number + 1))
  pub release : (t : ℕ) → P (kinds.ReleaseTurn t) (Turn t) (changes.Put 0)

pub record OnFree (g : Geometry) (P : Claim) : Type 0 where
  pub scan : (t k : ℕ) → P (kinds.Scan t k) (Free t k) changes.Keep
  pub give : (f : ℕ) → P (kinds.GiveFrame f) (Free (tier_of g f) (free_index g f)) (changes.And (all_but (2 ^ free_bit g f)))
  pub put : (f : ℕ) → P (kinds.PutFrame f) (Free (tier_of g f) (free_index g f)) (changes.Or (2 ^ free_bit g f))

pub record OnMem (view : View) (P : Claim) : Type 0 where
  pub load : (v i : ℕ) → P (kinds.Load v i) (Mem (cached_frame view v) i) changes.Keep
  pub store : (v i x : ℕ) → P (kinds.Store v i x) (Mem (cached_frame view v) i) (changes.Swap x)
  pub add : (v i x : ℕ) → P (kinds.Add v i x) (Mem (cached_frame view v) i) (changes.Add x)
  pub copy_load : (b i : ℕ) → P (kinds.CopyLoad b i) (Mem (home_frame view b) i) changes.Keep
  pub copy_store : (b : Option ℕ) (f i x : ℕ) → P (kinds.CopyStore b f i x) (Mem f i) (changes.Put x)

-- The principles.

pub by_req : (g : Geometry) (view : View) (P : Claim) → OnReq P → (a : Action) → InReq (where_of g view a) → P a (where_of g view a) (change_of g view a)
by_req g view P h kinds.Poll here = h.poll
by_req g view P h kinds.Bump here = h.bump
by_req g view P h (kinds.Read b (cells.Home page)) here = absurd here
by_req g view P h (kinds.Read b (cells.Shadow frame)) here = absurd here
by_req g view P h a here = absurd here

pub by_pte : (g : Geometry) (view : View) (P : Claim) → OnPte P → (a : Action) → InPte (where_of g view a) → P a (where_of g view a) (change_of g view a)
by_pte g view P h (kinds.Look v) here = h.look v
by_pte g view P h (kinds.Walk v expect write) here = h.walk v expect write
by_pte g view P h (kinds.Soften v bit) here = h.soften v bit
by_pte g view P h (kinds.Arm v) here = h.arm v
by_pte g view P h (kinds.ClearDirty v) here = h.clear_dirty v
by_pte g view P h (kinds.Unmap v) here = h.unmap v
by_pte g view P h (kinds.Map v word) here = h.map v word
by_pte g view P h (kinds.Grant v) here = h.grant v
by_pte g view P h (kinds.Read b (cells.Home page)) here = absurd here
by_pte g view P h (kinds.Read b (cells.Shadow frame)) here = absurd here
by_pte g view P h a here = absurd here

pub by_stamp : (g : Geometry) (view : View) (P : Claim) → OnStamp P → (a : Action) → InStamp (where_of g view a) → P a (where_of g view a) (change_of g view a)
by_stamp g view P h (kinds.Peek v) here = h.peek v
by_stamp g view P h (kinds.Raise v) here = h.raise v
by_stamp g view P h (kinds.Read b (cells.Home page)) here = absurd here
by_stamp g view P h (kinds.Read b (cells.Shadow frame)) here = absurd here
by_stamp g view P h a here = absurd here

pub by_home : (g : Geometry) (view : View) (P : Claim) → OnHome P → (a : Action) → InHome (where_of g view a) → P a (where_of g view a) (change_of g view a)
by_home g view P h (kinds.SetHome b f) here = h.set b f
by_home g view P h (kinds.Read b (cells.Home page)) here = h.read b page
by_home g view P h (kinds.Read b (cells.Shadow frame)) here = absurd here
by_home g view P h a here = absurd here

pub by_shadow : (g : Geometry) (view : View) (P : Claim) → OnShadow P → (a : Action) → InShadow (where_of g view a) → P a (where_of g view a) (change_of g view a)
by_shadow g view P h (kinds.SetShadow b m shadow) here = h.set b m shadow
by_shadow g view P h (kinds.Read b (cells.Home page)) here = absurd here
by_shadow g view P h (kinds.Read b (cells.Shadow frame)) here = h.read b frame
by_shadow g view P h a here = absurd here

pub by_lock : (g : Geometry) (view : View) (P : Claim) → OnLock view P → (a : Action) → InLock (where_of g view a) → P a (where_of g view a) (change_of g view a)
by_lock g view P h (kinds.Lock b) here = h.lock b
by_lock g view P h (kinds.Unlock b) here = h.unlock b
by_lock g view P h (kinds.Read b (cells.Home page)) here = absurd here
by_lock g view P h (kinds.Read b (cells.Shadow frame)) here = absurd here
by_lock g view P h a here = absurd here

pub by_mark : (g : Geometry) (view : View) (P : Claim) → OnMark P → (a : Action) → InMark (where_of g view a) → P a (where_of g view a) (change_of g view a)
by_mark g view P h (kinds.Mark b old new) here = h.mark b old new
by_mark g view P h (kinds.Read b (cells.Home page)) here = absurd here
by_mark g view P h (kinds.Read b (cells.Shadow frame)) here = absurd here
by_mark g view P h a here = absurd here

pub by_ack : (g : Geometry) (view : View) (P : Claim) → OnAck view P → (a : Action) → InAck (where_of g view a) → P a (where_of g view a) (change_of g view a)
by_ack g view P h (kinds.Ack to) here = h.ack to
by_ack g view P h (kinds.SeeAck p) here = h.see p
by_ack g view P h (kinds.Read b (cells.Home page)) here = absurd here
by_ack g view P h (kinds.Read b (cells.Shadow frame)) here = absurd here
by_ack g view P h a here = absurd here

pub by_turn : (g : Geometry) (view : View) (P : Claim) → OnTurn view P → (a : Action) → InTurn (where_of g view a) → P a (where_of g view a) (change_of g view a)
by_turn g view P h (kinds.TakeTurn t) here = h.take t
by_turn g view P h (kinds.ReleaseTurn t) here = h.release t
by_turn g view P h (kinds.Read b (cells.Home page)) here = absurd here
by_turn g view P h (kinds.Read b (cells.Shadow frame)) here = absurd here
by_turn g view P h a here = absurd here

pub by_free : (g : Geometry) (view : View) (P : Claim) → OnFree g P → (a : Action) → InFree (where_of g view a) → P a (where_of g view a) (change_of g view a)
by_free g view P h (kinds.Scan t k) here = h.scan t k
by_free g view P h (kinds.GiveFrame f) here = h.give f
by_free g view P h (kinds.PutFrame f) here = h.put f
by_free g view P h (kinds.Read b (cells.Home page)) here = absurd here
by_free g view P h (kinds.Read b (cells.Shadow frame)) here = absurd here
by_free g view P h a here = absurd here

pub by_mem : (g : Geometry) (view : View) (P : Claim) → OnMem view P → (a : Action) → InMem (where_of g view a) → P a (where_of g view a) (change_of g view a)
by_mem g view P h (kinds.Load v i) here = h.load v i
by_mem g view P h (kinds.Store v i x) here = h.store v i x
by_mem g view P h (kinds.Add v i x) here = h.add v i x
by_mem g view P h (kinds.CopyLoad b i) here = h.copy_load b i
by_mem g view P h (kinds.CopyStore b f i x) here = h.copy_store b f i x
by_mem g view P h (kinds.Read b (cells.Home page)) here = absurd here
by_mem g view P h (kinds.Read b (cells.Shadow frame)) here = absurd here
by_mem g view P h a here = absurd here
