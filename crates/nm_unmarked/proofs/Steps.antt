-- What one step does to a mark, and to what a processor has acknowledged.
use Rattle.std.proofs.Common.{◌≡◌, ◌≢◌, ℕ, ◌≤◌, ◌⊎◌, refl, sym, ap, subst, inl, inr, ◌∙◌, arith}
use Rattle.nm_base.specs.Geometry.{Geometry}
use Rattle.nm_action.specs.declared.action.AckTo.TheVariants.{Seen, Off, End}
use Rattle.nm_action.specs.declared.action.Action.{Action}
use Rattle.nm_action.specs.declared.action.Action.TheVariants.{Ack, SeeAck, Mark, Read}
use Rattle.nm_action.specs.declared.action.Cell.TheVariants.{Home, Shadow}
use Rattle.nm_action.specs.declared.action.Reply.{Reply}
use Rattle.nm_action.specs.declared.action.Reply.TheVariants.{Done, Word, Busy, Lost}
use Rattle.nm_view.specs.Views.{View, off_word, end_word, most_bumps}
use Rattle.nm_permit.specs.Permitted.{Allowed, IsMarkStep, IsMarkDone}
use Rattle.nm_words.specs.declared.names.Where.TheVariants as words
use Rattle.nm_event.specs.After.{after_of}
use Rattle.nm_world.specs.Worlds.{World, moved, reply_in, ack_at}
use Rattle.nm_world.proofs.Choose.{choose}

-- ---- marks

abbrev pub mark_at : World → ℕ → ℕ
mark_at m b = m.word (words.Mark b)

-- a Mark was made
pub record IsMade (b : ℕ) (action : Action) (before after : ℕ) : Type 0 where
  pub old : ℕ
  pub new : ℕ
  pub is : action ≡ Mark b old new
  pub found : before ≡ old
  pub left : after ≡ new

-- a step leaves a mark, or is a Mark that was made
pub mark-step : (g : Geometry) (m : World) (a : ℕ) (action : Action) (b : ℕ) → (mark_at (moved g m a action) b ≡ mark_at m b) ⊎ IsMade b action (mark_at m b) (mark_at (moved g m a action) b)
mark-step g m a (Mark c old new) b =
    let P : ℕ → Type 0 = λ n. (n ≡ mark_at m b) ⊎ IsMade b (Mark c old new) (mark_at m b) n in
    choose P b c _ (mark_at m b)
    (λ same. choose P (mark_at m c) old new (mark_at m c)
    (λ found. inr (record { old = old; new = new; is = ap (λ (k : ℕ). Mark k old new) (sym same); found = ap (mark_at m) same ∙ found; left = refl }))
    (λ other. inl (ap (mark_at m) (sym same))))
    (λ other. inl refl)
mark-step g m a (Read c (Home n)) b = inl refl
mark-step g m a (Read c (Shadow k)) b = inl refl
mark-step g m a _ b = inl refl

-- a Mark of a mark that is as expected is made
pub mark-made : (g : Geometry) (m : World) (a : ℕ) (action : Action) (b old new : ℕ) → action ≡ Mark b old new → mark_at m b ≡ old → mark_at (moved g m a action) b ≡ new
mark-made g m a action b old new is found =
    let M : Action → Type 0 = λ x. mark_at (moved g m a x) b ≡ new in
    subst M (sym is) (choose (λ n. n ≡ new) b b _ (mark_at m b)
    (λ same. choose (λ n. n ≡ new) (mark_at m b) old new (mark_at m b) (λ e. refl) (λ other. absurd (other found)))
    (λ other. absurd (other refl)))

pub mark-told : (g : Geometry) (m : World) (a : ℕ) (action : Action) (b old new : ℕ) → action ≡ Mark b old new → mark_at m b ≡ old → reply_in g m a action ≡ Done
mark-told g m a action b old new is found =
    let R : Action → Type 0 = λ x. reply_in g m a x ≡ Done in
    subst R (sym is) (choose (λ r. r ≡ Done) (mark_at m b) old Done (Lost (mark_at m b)) (λ e. refl) (λ other. absurd (other found)))

-- which values a Mark may set
pub record MayMark (old new : ℕ) : Type 0 where
  pub few : new ≤ 2
  pub one : new ≡ 1 → old ≡ 0
  pub two : new ≡ 2 → old ≡ 1

may-mark : (view : View) (b old new : ℕ) → IsMarkStep old new ⊎ IsMarkDone view b old new → MayMark old new
may-mark view b old new (inl (inl h)) = record { few = omega (arith, h.new_is); one = λ e. h.old_is; two = λ e. absurd (omega (arith, e, h.new_is)) }
may-mark view b old new (inl (inr (inl h))) = record { few = omega (arith, h.new_is); one = λ e. absurd (omega (arith, e, h.new_is)); two = λ e. absurd (omega (arith, e, h.new_is)) }
may-mark view b old new (inl (inr (inr h))) = record { few = omega (arith, h.new_is); one = λ e. absurd (omega (arith, e, h.new_is)); two = λ e. h.old_is }
may-mark view b old new (inr h) = record { few = omega (arith, h.none); one = λ e. absurd (omega (arith, e, h.none)); two = λ e. absurd (omega (arith, e, h.none)) }

pub mark-allowed : (g : Geometry) (view : View) (action : Action) (b old new : ℕ) → Allowed g view action → action ≡ Mark b old new → MayMark old new
mark-allowed g view action b old new may is =
    let A : Action → Type 0 = λ x. Allowed g view x in
    let h : Allowed g view (Mark b old new) = subst A is may in
    may-mark view b old new h.permitted

-- ---- acknowledgements

-- the view of a processor says that it has ended, since it said so before or has now acknowledged its end
pub acked-step : (g : Geometry) (view : View) (action : Action) (reply : Reply) → view.req_seen ≢ end_word → (after_of g view action reply).acked ≡ end_word → (view.acked ≡ end_word) ⊎ (action ≡ Ack End)
acked-step g view (Ack Seen) Done on h = absurd (on h)
acked-step g view (Ack Off) Done on h = absurd (omega (arith, h))
acked-step g view (Ack End) Done on h = inr refl
acked-step g view (Ack to) (Word n) on h = inl h
acked-step g view (Ack to) (Busy n) on h = inl h
acked-step g view (Ack to) (Lost n) on h = inl h
acked-step g view _ (Word n) on h = inl h
acked-step g view _ Done on h = inl h
acked-step g view _ (Busy n) on h = inl h
acked-step g view _ (Lost n) on h = inl h

pub polled-on : (n : ℕ) → (n ≡ off_word) ⊎ (n ≤ most_bumps) → n ≢ end_word
polled-on n (inl off) e = omega (arith, off, e)
polled-on n (inr few) e = omega (arith, few, e)

word-of : (m n : ℕ) → Word m ≡ Word n → m ≡ n
word-of m n is = cc

-- a SeeAck that tells of an end finds it
pub seen-end : (g : Geometry) (m : World) (a p : ℕ) (action : Action) (reply : Reply) → reply ≡ reply_in g m a action → action ≡ SeeAck p → reply ≡ Word end_word → ack_at m p ≡ end_word
seen-end g m a p action reply told is end = word-of (ack_at m p) end_word (sym (told ∙ ap (λ (x : Action). reply_in g m a x) is) ∙ end)
