-- Table words at each step: a word that maps a frame goes on mapping it, and becomes dirty with a dirty Walk alone.
use Rattle.std.proofs.Common.{◌≡◌, ◌≢◌, ℕ, ◌==◌, ◌||◌, if◌then◌else◌, bit_and, bit_or, bit_xor, Bool, true, false, List, [], ◌∷◌, ◌++◌, refl, sym, ap, subst, ◌∙◌, ◌⊎◌, inl, inr, arith}
use Rattle.std.specs.Prelude.{Any}
use Rattle.std.specs.Int.{bit_at}
use Rattle.std.proofs.lemmas.Bool.{eqb-true, eq-eqb, ne_eqb, or_left, or_right}
use Rattle.std.proofs.lemmas.Nat.Bits.{bit_at_or, bit_at-lt}
use Rattle.std.proofs.lemmas.List.Quantifiers.{Any-push}
use Rattle.nm_base.specs.Geometry.{Geometry}
use Rattle.nm_base.specs.PageWord.{is_dirty, all_but, walked_word, walk_mask, hint_mask, accessed_mask, grant_mask}
use Rattle.nm_action.specs.declared.action.Action.{Action}
use Rattle.nm_action.specs.declared.action.Action.TheVariants.{Load, Store, Add, Look, Walk, Peek, Poll, Ack, Lock, Unlock, Bump, SeeAck, Raise, Soften, Arm, ClearDirty, Unmap, Map, Grant, CopyLoad, CopyStore, SetHome, SetShadow, TakeTurn, Scan, GiveFrame, PutFrame, ReleaseTurn, Mark, Read}
use Rattle.nm_action.specs.declared.action.Bit.{Bit}
use Rattle.nm_action.specs.declared.action.Bit.TheVariants.{Hint, Accessed}
use Rattle.nm_action.specs.declared.action.Cell.TheVariants as cells
use Rattle.nm_action.specs.declared.action.Reply.{Reply}
use Rattle.nm_action.specs.declared.action.Reply.TheVariants.{Done, Lost}
use Rattle.nm_action.specs.declared.action.Event.{Event}
use Rattle.nm_step.specs.Table.{bit_mask}
use Rattle.nm_world.specs.Worlds.{World, moved, pte_at, reply_in}
use Rattle.nm_world.proofs.Choose.{choose}
use Rattle.nm_world.proofs.Bits.{bit_and_kept, bit_or_kept, bit_or_set, bit_xor_kept}
use Rattle.nm_transactions.specs.TransactionLaw.{WalksDirty, IsDirtyWalk}
use Rattle.nm_transactions.proofs.Lists.{any_nil, any_longer, any_before}

-- whether an action with its reply is a dirty Walk of v
abbrev pub walks_dirty : ℕ → Action → Reply → Bool
walks_dirty v (Walk u _ true) Done = u == v
walks_dirty v _ _ = false

dirty_walk_is : (v : ℕ) (action : Action) (reply : Reply) → WalksDirty v action reply → walks_dirty v action reply ≡ true
dirty_walk_is v (Walk u e true) Done is = eq-eqb u v is
dirty_walk_is v action reply is = absurd is

is_dirty_walk : (v : ℕ) (action : Action) (reply : Reply) → walks_dirty v action reply ≡ true → WalksDirty v action reply
is_dirty_walk v (Walk u e true) Done is = eqb-true u v is
is_dirty_walk v action reply is = absurd (let no : false ≡ true = is in cc)

-- the dirty bit of a word is set exactly where some event was a dirty Walk of v
pub record TellsWalks (v : ℕ) (events : List Event) (dirty : Bool) : Type 0 where
  pub set : Any (IsDirtyWalk v) events → dirty ≡ true
  pub by : dirty ≡ true → Any (IsDirtyWalk v) events

pub walks_begun : (v : ℕ) → TellsWalks v [] false
walks_begun v = record { set = λ some. absurd (any_nil (IsDirtyWalk v) some); by = λ is. absurd (let no : false ≡ true = is in cc) }

either : (x y : Bool) → (x || y) ≡ true → (x ≡ true) ⊎ (y ≡ true)
either true y is = inl refl
either false y is = inr is

pub walks_more : (v : ℕ) (events : List Event) (e : Event) (dirty : Bool) → TellsWalks v events dirty → TellsWalks v (events ++ e ∷ []) (dirty || walks_dirty v e.action e.reply)
walks_more v events e dirty h =
    let walk : Bool = walks_dirty v e.action e.reply in
    record {
      set = λ some. elim (any_before (IsDirtyWalk v) events e some) [
        | inl old ↦ or_left dirty walk (h.set old)
        | inr last ↦ or_right dirty walk (dirty_walk_is v e.action e.reply last)
      ];
      by = λ is. elim (either dirty walk is) [
        | inl old ↦ any_longer (IsDirtyWalk v) events (e ∷ []) (h.by old)
        | inr last ↦ Any-push (IsDirtyWalk v) events e (is_dirty_walk v e.action e.reply last)
      ];
    }

-- a table word after a step that is a dirty Walk of it, or none
pub record IsCarriedOn (word new : ℕ) (walk : Bool) : Type 0 where
  pub present : bit_at word 0 ≡ 1 → bit_at new 0 ≡ 1
  pub dirty : is_dirty new ≡ (is_dirty word || walk)

or_none : (d : Bool) → d ≡ (d || false)
or_none true = refl
or_none false = refl

or_set : (d w : Bool) → w ≡ true → true ≡ (d || w)
or_set true w is = refl
or_set false w is = sym is

same_word : (word : ℕ) → IsCarriedOn word word false
same_word word = record { present = λ bit. bit; dirty = or_none (is_dirty word) }

-- a word whose bits 0 and 3 stay
bits_kept : (word new : ℕ) → bit_at new 0 ≡ bit_at word 0 → bit_at new 3 ≡ bit_at word 3 → IsCarriedOn word new false
bits_kept word new zero three = record { present = λ bit. zero ∙ bit; dirty = ap (λ n. n == 1) three ∙ or_none (is_dirty word) }

-- the table word of v after x was written to that of u
written_word : (m : World) (u v x : ℕ) → IsCarriedOn (pte_at m u) x false → IsCarriedOn (pte_at m v) (if v == u then x else pte_at m v) false
written_word m u v x h =
    choose (λ n. IsCarriedOn (pte_at m v) n false) v u x (pte_at m v)
    (λ same. subst (λ (k : ℕ). IsCarriedOn (pte_at m k) x false) (sym same) h) (λ other. same_word (pte_at m v))

-- a Walk of u, by whether the word was the one expected
walked : (m : World) (u v e : ℕ) (write t : Bool) → (pte_at m u == e) ≡ t → IsCarriedOn (pte_at m v) (if v == u then (if t then walked_word e write else pte_at m u) else pte_at m v) (walks_dirty v (Walk u e write) (if t then Done else Lost (pte_at m u)))
walked m u v e true false is = written_word m u v (pte_at m u) (same_word (pte_at m u))
walked m u v e false false is = written_word m u v (pte_at m u) (same_word (pte_at m u))
walked m u v e false true is =
    let found : pte_at m u ≡ e = eqb-true (pte_at m u) e is in
    written_word m u v (walked_word e false)
    (subst (λ (n : ℕ). IsCarriedOn n (walked_word e false) false) (sym found) (bits_kept e (walked_word e false) (bit_or_kept e (walk_mask false) 0 refl) (bit_or_kept e (walk_mask false) 3 refl)))
walked m u v e true true is =
    let found : pte_at m u ≡ e = eqb-true (pte_at m u) e is in
    let one : bit_at (walk_mask true) 3 ≡ 1 = refl in
    let set : bit_at (walked_word e true) 3 ≡ 1 = omega (arith, one, bit_at_or e (walk_mask true) 3, bit_at-lt e 3) in
    choose (λ n. IsCarriedOn (pte_at m v) n (u == v)) v u (walked_word e true) (pte_at m v)
    (λ same. record {
      present = λ bit. bit_or_set e (walk_mask true) 0 (subst (λ (n : ℕ). bit_at n 0 ≡ 1) (ap (pte_at m) same ∙ found) bit);
      dirty = eq-eqb (bit_at (walked_word e true) 3) 1 set ∙ or_set (is_dirty (pte_at m v)) (u == v) (eq-eqb u v (sym same));
    })
    (λ other. subst (IsCarriedOn (pte_at m v) (pte_at m v)) (sym (ne_eqb u v (λ same. other (sym same)))) (same_word (pte_at m v)))

-- flags of u are cleared, set or turned, and not bit 0 or 3
softened : (word : ℕ) (bit : Bit) → IsCarriedOn word (bit_and word (all_but (bit_mask bit))) false
softened word Hint = bits_kept word (bit_and word (all_but hint_mask)) (bit_and_kept word (all_but hint_mask) 0 refl) (bit_and_kept word (all_but hint_mask) 3 refl)
softened word Accessed = bits_kept word (bit_and word (all_but accessed_mask)) (bit_and_kept word (all_but accessed_mask) 0 refl) (bit_and_kept word (all_but accessed_mask) 3 refl)

armed : (word : ℕ) → IsCarriedOn word (bit_or word hint_mask) false
armed word = bits_kept word (bit_or word hint_mask) (bit_or_kept word hint_mask 0 refl) (bit_or_kept word hint_mask 3 refl)

granted : (word : ℕ) → IsCarriedOn word (bit_xor word grant_mask) false
granted word = bits_kept word (bit_xor word grant_mask) (bit_xor_kept word grant_mask 0 refl) (bit_xor_kept word grant_mask 3 refl)

-- another table word is written
apart : (m : World) (u v x : ℕ) → u ≢ v → IsCarriedOn (pte_at m v) (if v == u then x else pte_at m v) false
apart m u v x other = choose (λ n. IsCarriedOn (pte_at m v) n false) v u x (pte_at m v) (λ same. absurd (other (sym same))) (λ _. same_word (pte_at m v))

-- an action clears, takes or maps no word of v
abbrev pub LeavesWord : ℕ → Action → Type 0
LeavesWord v (ClearDirty u) = u ≢ v
LeavesWord v (Unmap u) = u ≢ v
LeavesWord v (Map u _) = u ≢ v
LeavesWord v _ = Unit {0}

-- the table word of v after such a step
pub table_moved : (g : Geometry) (m : World) (c : ℕ) (action : Action) (v : ℕ) → LeavesWord v action → IsCarriedOn (pte_at m v) (pte_at (moved g m c action) v) (walks_dirty v action (reply_in g m c action))
table_moved g m c (Look u) v h = written_word m u v (pte_at m u) (same_word (pte_at m u))
table_moved g m c (Walk u e write) v h = walked m u v e write (pte_at m u == e) refl
table_moved g m c (Soften u bit) v h = written_word m u v (bit_and (pte_at m u) (all_but (bit_mask bit))) (softened (pte_at m u) bit)
table_moved g m c (Arm u) v h = written_word m u v (bit_or (pte_at m u) hint_mask) (armed (pte_at m u))
table_moved g m c (Grant u) v h = written_word m u v (bit_xor (pte_at m u) grant_mask) (granted (pte_at m u))
table_moved g m c (ClearDirty u) v h = apart m u v _ h
table_moved g m c (Unmap u) v h = apart m u v _ h
table_moved g m c (Map u word) v h = apart m u v _ h
table_moved g m c (Read b (cells.Home page)) v h = same_word (pte_at m v)
table_moved g m c (Read b (cells.Shadow k)) v h = same_word (pte_at m v)
table_moved g m c (Load u i) v h = same_word (pte_at m v)
table_moved g m c (Store u i x) v h = same_word (pte_at m v)
table_moved g m c (Add u i x) v h = same_word (pte_at m v)
table_moved g m c (Peek u) v h = same_word (pte_at m v)
table_moved g m c Poll v h = same_word (pte_at m v)
table_moved g m c (Ack to) v h = same_word (pte_at m v)
table_moved g m c (Lock b) v h = same_word (pte_at m v)
table_moved g m c (Unlock b) v h = same_word (pte_at m v)
table_moved g m c Bump v h = same_word (pte_at m v)
table_moved g m c (SeeAck p) v h = same_word (pte_at m v)
table_moved g m c (Raise u) v h = same_word (pte_at m v)
table_moved g m c (CopyLoad b i) v h = same_word (pte_at m v)
table_moved g m c (CopyStore b f i x) v h = same_word (pte_at m v)
table_moved g m c (SetHome b f) v h = same_word (pte_at m v)
table_moved g m c (SetShadow b k s) v h = same_word (pte_at m v)
table_moved g m c (TakeTurn t) v h = same_word (pte_at m v)
table_moved g m c (Scan t k) v h = same_word (pte_at m v)
table_moved g m c (GiveFrame f) v h = same_word (pte_at m v)
table_moved g m c (PutFrame f) v h = same_word (pte_at m v)
table_moved g m c (ReleaseTurn t) v h = same_word (pte_at m v)
table_moved g m c (Mark b old new) v h = same_word (pte_at m v)
