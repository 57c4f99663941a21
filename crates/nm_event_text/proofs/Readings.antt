-- What is read of a line is spelled so, and what is spelled so is read.
use Rattle.std.proofs.Common.{◌≡◌, ◌≢◌, ℕ, ◌<◌, length, ◌^◌, nat_lt, Bool, true, false, List, [], ◌∷◌, ◌++◌, Option, Some, None, codes, decimal, refl, sym, ap, ◌∙◌, subst, arith}
use Rattle.std.specs.Bool.{if◌then◌else◌}
use Rattle.std.specs.Prelude.{IfSome, IfNone}
use Rattle.std.specs.Str.{bytes_eq}
use Rattle.std.proofs.lemmas.Bool.{ltb-true, lt-ltb}
use Rattle.std.proofs.lemmas.Option.{none-some, same_Some, cond_some}
use Rattle.std.proofs.lemmas.Slice.Eq.{bytes_eq-Decides}
use Rattle.nm_action.specs.declared.action.AckTo.{AckTo}
use Rattle.nm_action.specs.declared.action.AckTo.TheVariants.{Seen, Off, End}
use Rattle.nm_action.specs.declared.action.Bit.{Bit}
use Rattle.nm_action.specs.declared.action.Bit.TheVariants.{Hint, Accessed}
use Rattle.nm_action.specs.declared.action.Cell.{Cell}
use Rattle.nm_action.specs.declared.action.Cell.TheVariants.{Home, Shadow}
use Rattle.nm_action.specs.declared.action.Action.{Action}
use Rattle.nm_action.specs.declared.action.Action.TheVariants.{Load, Store, Add, Look, Walk, Peek, Poll, Ack, Lock, Unlock, Bump, SeeAck, Raise, Soften, Arm, ClearDirty, Unmap, Map, Grant, CopyLoad, CopyStore, SetHome, SetShadow, TakeTurn, Scan, GiveFrame, PutFrame, ReleaseTurn, Mark, Read}
use Rattle.nm_action.specs.declared.action.Reply.{Reply}
use Rattle.nm_action.specs.declared.action.Reply.TheVariants.{Done, Word, Busy, Lost}
use Rattle.nm_action.specs.declared.action.Event.{Event}
use Rattle.nm_action.specs.declared.kind.ActionKind.{ActionKind}
use Rattle.nm_action.specs.declared.kind.ActionKind.TheVariants as kinds
use Rattle.nm_action.specs.Kinds.{kind_of}
use Rattle.nm_text.specs.Cuts.{Lacks, cut_of, strip_of}
use Rattle.nm_text.specs.Fields.{◌>>=◌}
use Rattle.nm_text.specs.Numbers.{number_of}
use Rattle.nm_text.specs.Kinds.{kind_text, all_kinds, kind_among}
use Rattle.nm_text.proofs.CutLemmas.{Lacks-first, strip_of-apart, cut_of-some, cut_of-again, strip_of-some, strip_of-again}
use Rattle.nm_text.proofs.NumberLemmas.{number_of-form, number_of-some, number_of-decimal, decimal-lacks}
use Rattle.nm_text.proofs.KindLemmas.{kind_among-some, kind-again}
use Rattle.nm_text.proofs.FieldLemmas.{chained_option}
use Rattle.nm_event_text.specs.Events.{flag_number, ack_number, bit_number, fields_of, fields_before, reply_text, event_text, IsSmall, IsWide, HasSmallCell, FitsAction, FitsReply, FitsEvent, IsEventLine}
use Rattle.nm_event_text.specs.Reading.{wide_in, small_in, maybe_in, ack_of, flag_of, bit_of, cell_of, ack_in, flag_in, bit_in, cell_in, two_in, word_in, value_in, action_in, word_of, number_reply_of, reply_of, act_in, event_of}

-- ---- fields

pub wide_in-some : (text : List ℕ) (p : ℕ × List ℕ) → wide_in text ≡ Some p → (text ≡ decimal p.0 ++ 32 ∷ p.1) × IsWide p.0
unfolding wide_in
wide_in-some text p e =
    let a = chained_option _ _ _ e in
    let b = chained_option _ _ _ a.1.1 in
    let x = cut_of-some 32 text a.0 a.1.0 in
    let n = number_of-some a.0.0 b.0 b.1.0 in
    subst (λ (q : ℕ × List ℕ). (text ≡ decimal q.0 ++ 32 ∷ q.1) × IsWide q.0) (same_Some _ _ b.1.1)
    (x.0 ∙ ap (λ f. f ++ 32 ∷ a.0.1) n.0, n.1)

pub wide_in-again : (n : ℕ) (rest : List ℕ) → IsWide n → wide_in (decimal n ++ 32 ∷ rest) ≡ Some (n, rest)
unfolding wide_in
wide_in-again n rest h = rw (cut_of-again 32 (decimal n) rest (decimal-lacks n 32 h refl)) (rw (number_of-decimal n h) refl)

pub small_in-some : (text : List ℕ) (p : ℕ × List ℕ) → small_in text ≡ Some p → (text ≡ decimal p.0 ++ 32 ∷ p.1) × IsSmall p.0
unfolding small_in
small_in-some text p e =
    let a = chained_option _ _ _ e in
    let t = cond_some (nat_lt a.0.0 (2 ^ 32)) a.0 p a.1.1 in
    let w = wide_in-some text a.0 a.1.0 in
    subst (λ (q : ℕ × List ℕ). (text ≡ decimal q.0 ++ 32 ∷ q.1) × IsSmall q.0) t.1 (w.0, ltb-true _ _ t.0)

pub small_in-again : (n : ℕ) (rest : List ℕ) → IsSmall n → small_in (decimal n ++ 32 ∷ rest) ≡ Some (n, rest)
unfolding small_in
small_in-again n rest h =
    let wide : IsWide n = omega (arith, h) in
    rw (wide_in-again n rest wide) (rw (lt-ltb n (2 ^ 32) h) refl)

-- a text that begins with a number begins with no dash
digits_apart : (ds rest r : List ℕ) → 0 < length ds → Lacks 45 ds → ds ++ 32 ∷ rest ≢ codes "- " ++ r
digits_apart [] rest r some lacks e = absurd (omega (arith, some))
digits_apart (d ∷ ds) rest r some lacks e = let head : d ≡ 45 = cc in (Lacks-first 45 d ds lacks).0 head

number_apart : (n : ℕ) (rest r : List ℕ) → IsWide n → decimal n ++ 32 ∷ rest ≢ codes "- " ++ r
number_apart n rest r h = digits_apart (decimal n) rest r (number_of-form (decimal n) n (h, refl)).0 (decimal-lacks n 45 h refl)

abbrev IsMaybe : List ℕ → Option ℕ × List ℕ → Type 0
IsMaybe text p = (text ≡ fields_before (p.0 ∷ []) p.1) × IfSome p.0 IsSmall

maybe_case : (o : Option (List ℕ)) (text : List ℕ) (p : Option ℕ × List ℕ) → strip_of (codes "- ") text ≡ o → (elim o as (λ _. Option (Option ℕ × List ℕ)) [ Some rest ↦ Some (None, rest) | None ↦ small_in text >>= (λ q. Some (Some q.0, q.1)) ]) ≡ Some p → IsMaybe text p
maybe_case (Some rest) text p is e = subst (λ (q : Option ℕ × List ℕ). IsMaybe text q) (same_Some _ _ e) (strip_of-some (codes "- ") text rest is, tt)
maybe_case None text p is e =
    let a = chained_option _ _ _ e in
    let s = small_in-some text a.0 a.1.0 in
    subst (λ (q : Option ℕ × List ℕ). IsMaybe text q) (same_Some _ _ a.1.1) (s.0, s.1)

pub maybe_in-some : (text : List ℕ) (p : Option ℕ × List ℕ) → maybe_in text ≡ Some p → IsMaybe text p
unfolding maybe_in
maybe_in-some text p e = maybe_case (strip_of (codes "- ") text) text p refl e

maybe_none : (o : Option (List ℕ)) (text : List ℕ) (n : ℕ) (rest : List ℕ) → o ≡ None → small_in text ≡ Some (n, rest) → (elim o as (λ _. Option (Option ℕ × List ℕ)) [ Some r ↦ Some (None, r) | None ↦ small_in text >>= (λ q. Some (Some q.0, q.1)) ]) ≡ Some (Some n, rest)
maybe_none None text n rest none e = rw e refl
maybe_none (Some r) text n rest none e = absurd (none-some r (sym none))

pub maybe_in-again : (o : Option ℕ) (rest : List ℕ) → IfSome o IsSmall → maybe_in (fields_before (o ∷ []) rest) ≡ Some (o, rest)
unfolding maybe_in strip_of
maybe_in-again None rest h = refl
maybe_in-again (Some n) rest h =
    let wide : IsWide n = omega (arith, h) in
    let none : strip_of (codes "- ") (decimal n ++ 32 ∷ rest) ≡ None = strip_of-apart (codes "- ") (decimal n ++ 32 ∷ rest) (λ r. number_apart n rest r wide) in
    maybe_none (strip_of (codes "- ") (decimal n ++ 32 ∷ rest)) (decimal n ++ 32 ∷ rest) n rest none (small_in-again n rest h)

-- ---- fields of a few values

ack_of-some : (n : ℕ) (to : AckTo) → ack_of n ≡ Some to → n ≡ ack_number to
ack_of-some n to e = grind arith

flag_of-some : (n : ℕ) (flag : Bool) → flag_of n ≡ Some flag → n ≡ flag_number flag
flag_of-some n flag e = grind arith

bit_of-some : (n : ℕ) (bit : Bit) → bit_of n ≡ Some bit → n ≡ bit_number bit
bit_of-some n bit e = grind arith

abbrev cell_number : Cell → ℕ
cell_number (Home n) = 0
cell_number (Shadow n) = 1

abbrev cell_place : Cell → ℕ
cell_place (Home n) = n
cell_place (Shadow n) = n

cell_of-some : (n m : ℕ) (cell : Cell) → cell_of n m ≡ Some cell → (n ≡ cell_number cell) × (m ≡ cell_place cell)
cell_of-some n m cell e = grind arith

pub ack_in-some : (text : List ℕ) (p : AckTo × List ℕ) → ack_in text ≡ Some p → text ≡ decimal (ack_number p.0) ++ 32 ∷ p.1
unfolding ack_in
ack_in-some text p e =
    let a = chained_option _ _ _ e in
    let b = chained_option _ _ _ a.1.1 in
    let w = wide_in-some text a.0 a.1.0 in
    subst (λ (q : AckTo × List ℕ). text ≡ decimal (ack_number q.0) ++ 32 ∷ q.1) (same_Some _ _ b.1.1)
    (w.0 ∙ ap (λ n. decimal n ++ 32 ∷ a.0.1) (ack_of-some a.0.0 b.0 b.1.0))

pub flag_in-some : (text : List ℕ) (p : Bool × List ℕ) → flag_in text ≡ Some p → text ≡ decimal (flag_number p.0) ++ 32 ∷ p.1
unfolding flag_in
flag_in-some text p e =
    let a = chained_option _ _ _ e in
    let b = chained_option _ _ _ a.1.1 in
    let w = wide_in-some text a.0 a.1.0 in
    subst (λ (q : Bool × List ℕ). text ≡ decimal (flag_number q.0) ++ 32 ∷ q.1) (same_Some _ _ b.1.1)
    (w.0 ∙ ap (λ n. decimal n ++ 32 ∷ a.0.1) (flag_of-some a.0.0 b.0 b.1.0))

pub bit_in-some : (text : List ℕ) (p : Bit × List ℕ) → bit_in text ≡ Some p → text ≡ decimal (bit_number p.0) ++ 32 ∷ p.1
unfolding bit_in
bit_in-some text p e =
    let a = chained_option _ _ _ e in
    let b = chained_option _ _ _ a.1.1 in
    let w = wide_in-some text a.0 a.1.0 in
    subst (λ (q : Bit × List ℕ). text ≡ decimal (bit_number q.0) ++ 32 ∷ q.1) (same_Some _ _ b.1.1)
    (w.0 ∙ ap (λ n. decimal n ++ 32 ∷ a.0.1) (bit_of-some a.0.0 b.0 b.1.0))

abbrev cell_text : Cell → List ℕ → List ℕ
cell_text cell rest = fields_before (Some (cell_number cell) ∷ Some (cell_place cell) ∷ []) rest

pub cell_in-some : (text : List ℕ) (p : Cell × List ℕ) → cell_in text ≡ Some p → (text ≡ cell_text p.0 p.1) × IsSmall (cell_place p.0)
unfolding cell_in
cell_in-some text p e =
    let a = chained_option _ _ _ e in
    let b = chained_option _ _ _ a.1.1 in
    let c = chained_option _ _ _ b.1.1 in
    let w = wide_in-some text a.0 a.1.0 in
    let s = small_in-some a.0.1 b.0 b.1.0 in
    let n = cell_of-some a.0.0 b.0.0 c.0 c.1.0 in
    subst (λ (q : Cell × List ℕ). (text ≡ cell_text q.0 q.1) × IsSmall (cell_place q.0)) (same_Some _ _ c.1.1)
    (w.0 ∙ ap (λ t. decimal a.0.0 ++ 32 ∷ t) s.0 ∙ ap (λ k. decimal k ++ 32 ∷ (decimal b.0.0 ++ 32 ∷ b.0.1)) n.0 ∙ ap (λ k. decimal (cell_number c.0) ++ 32 ∷ (decimal k ++ 32 ∷ b.0.1)) n.1, subst IsSmall n.1 s.1)

pub ack_in-again : (to : AckTo) (rest : List ℕ) → ack_in (decimal (ack_number to) ++ 32 ∷ rest) ≡ Some (to, rest)
unfolding ack_in
ack_in-again Seen rest = rw (wide_in-again 0 rest (omega arith)) refl
ack_in-again Off rest = rw (wide_in-again 1 rest (omega arith)) refl
ack_in-again End rest = rw (wide_in-again 2 rest (omega arith)) refl

pub flag_in-again : (flag : Bool) (rest : List ℕ) → flag_in (decimal (flag_number flag) ++ 32 ∷ rest) ≡ Some (flag, rest)
unfolding flag_in
flag_in-again false rest = rw (wide_in-again 0 rest (omega arith)) refl
flag_in-again true rest = rw (wide_in-again 1 rest (omega arith)) refl

pub bit_in-again : (bit : Bit) (rest : List ℕ) → bit_in (decimal (bit_number bit) ++ 32 ∷ rest) ≡ Some (bit, rest)
unfolding bit_in
bit_in-again Hint rest = rw (wide_in-again 0 rest (omega arith)) refl
bit_in-again Accessed rest = rw (wide_in-again 1 rest (omega arith)) refl

pub cell_in-again : (cell : Cell) (rest : List ℕ) → IsSmall (cell_place cell) → cell_in (cell_text cell rest) ≡ Some (cell, rest)
unfolding cell_in
cell_in-again (Home n) rest h = rw (wide_in-again 0 (decimal n ++ 32 ∷ rest) (omega arith)) (rw (small_in-again n rest h) refl)
cell_in-again (Shadow n) rest h = rw (wide_in-again 1 (decimal n ++ 32 ∷ rest) (omega arith)) (rw (small_in-again n rest h) refl)

-- ---- several fields

pub two_in-some : (text : List ℕ) (p : ℕ × ℕ × List ℕ) → two_in text ≡ Some p → (text ≡ fields_before (Some p.0 ∷ Some p.1 ∷ []) p.2) × IsSmall p.0 × IsSmall p.1
unfolding two_in
two_in-some text p e =
    let a = chained_option _ _ _ e in
    let b = chained_option _ _ _ a.1.1 in
    let x = small_in-some text a.0 a.1.0 in
    let y = small_in-some a.0.1 b.0 b.1.0 in
    subst (λ (q : ℕ × ℕ × List ℕ). (text ≡ fields_before (Some q.0 ∷ Some q.1 ∷ []) q.2) × IsSmall q.0 × IsSmall q.1) (same_Some _ _ b.1.1)
    (x.0 ∙ ap (λ t. decimal a.0.0 ++ 32 ∷ t) y.0, x.1, y.1)

pub two_in-again : (m n : ℕ) (rest : List ℕ) → IsSmall m → IsSmall n → two_in (fields_before (Some m ∷ Some n ∷ []) rest) ≡ Some (m, n, rest)
unfolding two_in
two_in-again m n rest h k = rw (small_in-again m (decimal n ++ 32 ∷ rest) h) (rw (small_in-again n rest k) refl)

pub word_in-some : (text : List ℕ) (p : ℕ × ℕ × List ℕ) → word_in text ≡ Some p → (text ≡ fields_before (Some p.0 ∷ Some p.1 ∷ []) p.2) × IsSmall p.0 × IsWide p.1
unfolding word_in
word_in-some text p e =
    let a = chained_option _ _ _ e in
    let b = chained_option _ _ _ a.1.1 in
    let x = small_in-some text a.0 a.1.0 in
    let y = wide_in-some a.0.1 b.0 b.1.0 in
    subst (λ (q : ℕ × ℕ × List ℕ). (text ≡ fields_before (Some q.0 ∷ Some q.1 ∷ []) q.2) × IsSmall q.0 × IsWide q.1) (same_Some _ _ b.1.1)
    (x.0 ∙ ap (λ t. decimal a.0.0 ++ 32 ∷ t) y.0, x.1, y.1)

pub word_in-again : (m n : ℕ) (rest : List ℕ) → IsSmall m → IsWide n → word_in (fields_before (Some m ∷ Some n ∷ []) rest) ≡ Some (m, n, rest)
unfolding word_in
word_in-again m n rest h k = rw (small_in-again m (decimal n ++ 32 ∷ rest) h) (rw (wide_in-again n rest k) refl)

pub value_in-some : (text : List ℕ) (p : ℕ × ℕ × ℕ × List ℕ) → value_in text ≡ Some p → (text ≡ fields_before (Some p.0 ∷ Some p.1 ∷ Some p.2 ∷ []) p.3) × IsSmall p.0 × IsSmall p.1 × IsWide p.2
unfolding value_in
value_in-some text p e =
    let a = chained_option _ _ _ e in
    let b = chained_option _ _ _ a.1.1 in
    let x = two_in-some text a.0 a.1.0 in
    let y = wide_in-some a.0.2 b.0 b.1.0 in
    subst (λ (q : ℕ × ℕ × ℕ × List ℕ). (text ≡ fields_before (Some q.0 ∷ Some q.1 ∷ Some q.2 ∷ []) q.3) × IsSmall q.0 × IsSmall q.1 × IsWide q.2) (same_Some _ _ b.1.1)
    (x.0 ∙ ap (λ t. fields_before (Some a.0.0 ∷ Some a.0.1 ∷ []) t) y.0, x.1, x.2, y.1)

pub value_in-again : (l m n : ℕ) (rest : List ℕ) → IsSmall l → IsSmall m → IsWide n → value_in (fields_before (Some l ∷ Some m ∷ Some n ∷ []) rest) ≡ Some (l, m, n, rest)
unfolding value_in
value_in-again l m n rest h k w = rw (two_in-again l m (decimal n ++ 32 ∷ rest) h k) (rw (wide_in-again n rest w) refl)

-- ---- actions

-- an action of the kind stands first in the text, by its fields
abbrev IsActionIn : ActionKind → List ℕ → Action × List ℕ → Type 0
IsActionIn kind text p = (text ≡ fields_before (fields_of p.0) p.1) × (kind_of p.0 ≡ kind) × FitsAction p.0

read_action : (text : List ℕ) (b : ℕ) (cell : Cell) (rest more : List ℕ) → text ≡ decimal b ++ 32 ∷ more → IsSmall b → more ≡ cell_text cell rest → IsSmall (cell_place cell) → IsActionIn kinds.Read text (Read b cell, rest)
read_action text b (Home n) rest more e h f k = (e ∙ ap (λ t. decimal b ++ 32 ∷ t) f, refl, (h, k))
read_action text b (Shadow n) rest more e h f k = (e ∙ ap (λ t. decimal b ++ 32 ∷ t) f, refl, (h, k))

pub action_in-some : (kind : ActionKind) (text : List ℕ) (p : Action × List ℕ) → action_in kind text ≡ Some p → IsActionIn kind text p
unfolding action_in
action_in-some kinds.Load text p e =
    let a = chained_option _ _ _ e in
    let x = two_in-some text a.0 a.1.0 in
    subst (λ (q : Action × List ℕ). IsActionIn kinds.Load text q) (same_Some _ _ a.1.1) (x.0, refl, (x.1, x.2))
action_in-some kinds.Store text p e =
    let a = chained_option _ _ _ e in
    let x = value_in-some text a.0 a.1.0 in
    subst (λ (q : Action × List ℕ). IsActionIn kinds.Store text q) (same_Some _ _ a.1.1) (x.0, refl, (x.1, x.2, x.3))
action_in-some kinds.Add text p e =
    let a = chained_option _ _ _ e in
    let x = value_in-some text a.0 a.1.0 in
    subst (λ (q : Action × List ℕ). IsActionIn kinds.Add text q) (same_Some _ _ a.1.1) (x.0, refl, (x.1, x.2, x.3))
action_in-some kinds.Look text p e =
    let a = chained_option _ _ _ e in
    let x = small_in-some text a.0 a.1.0 in
    subst (λ (q : Action × List ℕ). IsActionIn kinds.Look text q) (same_Some _ _ a.1.1) (x.0, refl, x.1)
action_in-some kinds.Walk text p e =
    let a = chained_option _ _ _ e in
    let b = chained_option _ _ _ a.1.1 in
    let x = word_in-some text a.0 a.1.0 in
    let y = flag_in-some a.0.2 b.0 b.1.0 in
    subst (λ (q : Action × List ℕ). IsActionIn kinds.Walk text q) (same_Some _ _ b.1.1) (x.0 ∙ ap (λ t. fields_before (Some a.0.0 ∷ Some a.0.1 ∷ []) t) y, refl, (x.1, x.2))
action_in-some kinds.Peek text p e =
    let a = chained_option _ _ _ e in
    let x = small_in-some text a.0 a.1.0 in
    subst (λ (q : Action × List ℕ). IsActionIn kinds.Peek text q) (same_Some _ _ a.1.1) (x.0, refl, x.1)
action_in-some kinds.Poll text p e = subst (λ (q : Action × List ℕ). IsActionIn kinds.Poll text q) (same_Some _ _ e) (refl, refl, tt)
action_in-some kinds.Ack text p e =
    let a = chained_option _ _ _ e in
    subst (λ (q : Action × List ℕ). IsActionIn kinds.Ack text q) (same_Some _ _ a.1.1) (ack_in-some text a.0 a.1.0, refl, tt)
action_in-some kinds.Lock text p e =
    let a = chained_option _ _ _ e in
    let x = small_in-some text a.0 a.1.0 in
    subst (λ (q : Action × List ℕ). IsActionIn kinds.Lock text q) (same_Some _ _ a.1.1) (x.0, refl, x.1)
action_in-some kinds.Unlock text p e =
    let a = chained_option _ _ _ e in
    let x = small_in-some text a.0 a.1.0 in
    subst (λ (q : Action × List ℕ). IsActionIn kinds.Unlock text q) (same_Some _ _ a.1.1) (x.0, refl, x.1)
action_in-some kinds.Bump text p e = subst (λ (q : Action × List ℕ). IsActionIn kinds.Bump text q) (same_Some _ _ e) (refl, refl, tt)
action_in-some kinds.SeeAck text p e =
    let a = chained_option _ _ _ e in
    let x = small_in-some text a.0 a.1.0 in
    subst (λ (q : Action × List ℕ). IsActionIn kinds.SeeAck text q) (same_Some _ _ a.1.1) (x.0, refl, x.1)
action_in-some kinds.Raise text p e =
    let a = chained_option _ _ _ e in
    let x = small_in-some text a.0 a.1.0 in
    subst (λ (q : Action × List ℕ). IsActionIn kinds.Raise text q) (same_Some _ _ a.1.1) (x.0, refl, x.1)
action_in-some kinds.Soften text p e =
    let a = chained_option _ _ _ e in
    let b = chained_option _ _ _ a.1.1 in
    let x = small_in-some text a.0 a.1.0 in
    let y = bit_in-some a.0.1 b.0 b.1.0 in
    subst (λ (q : Action × List ℕ). IsActionIn kinds.Soften text q) (same_Some _ _ b.1.1) (x.0 ∙ ap (λ t. fields_before (Some a.0.0 ∷ []) t) y, refl, x.1)
action_in-some kinds.Arm text p e =
    let a = chained_option _ _ _ e in
    let x = small_in-some text a.0 a.1.0 in
    subst (λ (q : Action × List ℕ). IsActionIn kinds.Arm text q) (same_Some _ _ a.1.1) (x.0, refl, x.1)
action_in-some kinds.ClearDirty text p e =
    let a = chained_option _ _ _ e in
    let x = small_in-some text a.0 a.1.0 in
    subst (λ (q : Action × List ℕ). IsActionIn kinds.ClearDirty text q) (same_Some _ _ a.1.1) (x.0, refl, x.1)
action_in-some kinds.Unmap text p e =
    let a = chained_option _ _ _ e in
    let x = small_in-some text a.0 a.1.0 in
    subst (λ (q : Action × List ℕ). IsActionIn kinds.Unmap text q) (same_Some _ _ a.1.1) (x.0, refl, x.1)
action_in-some kinds.Map text p e =
    let a = chained_option _ _ _ e in
    let x = word_in-some text a.0 a.1.0 in
    subst (λ (q : Action × List ℕ). IsActionIn kinds.Map text q) (same_Some _ _ a.1.1) (x.0, refl, (x.1, x.2))
action_in-some kinds.Grant text p e =
    let a = chained_option _ _ _ e in
    let x = small_in-some text a.0 a.1.0 in
    subst (λ (q : Action × List ℕ). IsActionIn kinds.Grant text q) (same_Some _ _ a.1.1) (x.0, refl, x.1)
action_in-some kinds.CopyLoad text p e =
    let a = chained_option _ _ _ e in
    let x = two_in-some text a.0 a.1.0 in
    subst (λ (q : Action × List ℕ). IsActionIn kinds.CopyLoad text q) (same_Some _ _ a.1.1) (x.0, refl, (x.1, x.2))
action_in-some kinds.CopyStore text p e =
    let a = chained_option _ _ _ e in
    let b = chained_option _ _ _ a.1.1 in
    let x = maybe_in-some text a.0 a.1.0 in
    let y = value_in-some a.0.1 b.0 b.1.0 in
    subst (λ (q : Action × List ℕ). IsActionIn kinds.CopyStore text q) (same_Some _ _ b.1.1) (x.0 ∙ ap (λ t. fields_before (a.0.0 ∷ []) t) y.0, refl, (x.1, y.1, y.2, y.3))
action_in-some kinds.SetHome text p e =
    let a = chained_option _ _ _ e in
    let x = two_in-some text a.0 a.1.0 in
    subst (λ (q : Action × List ℕ). IsActionIn kinds.SetHome text q) (same_Some _ _ a.1.1) (x.0, refl, (x.1, x.2))
action_in-some kinds.SetShadow text p e =
    let a = chained_option _ _ _ e in
    let b = chained_option _ _ _ a.1.1 in
    let x = two_in-some text a.0 a.1.0 in
    let y = maybe_in-some a.0.2 b.0 b.1.0 in
    subst (λ (q : Action × List ℕ). IsActionIn kinds.SetShadow text q) (same_Some _ _ b.1.1) (x.0 ∙ ap (λ t. fields_before (Some a.0.0 ∷ Some a.0.1 ∷ []) t) y.0, refl, (x.1, x.2, y.1))
action_in-some kinds.TakeTurn text p e =
    let a = chained_option _ _ _ e in
    let x = small_in-some text a.0 a.1.0 in
    subst (λ (q : Action × List ℕ). IsActionIn kinds.TakeTurn text q) (same_Some _ _ a.1.1) (x.0, refl, x.1)
action_in-some kinds.Scan text p e =
    let a = chained_option _ _ _ e in
    let x = two_in-some text a.0 a.1.0 in
    subst (λ (q : Action × List ℕ). IsActionIn kinds.Scan text q) (same_Some _ _ a.1.1) (x.0, refl, (x.1, x.2))
action_in-some kinds.GiveFrame text p e =
    let a = chained_option _ _ _ e in
    let x = small_in-some text a.0 a.1.0 in
    subst (λ (q : Action × List ℕ). IsActionIn kinds.GiveFrame text q) (same_Some _ _ a.1.1) (x.0, refl, x.1)
action_in-some kinds.PutFrame text p e =
    let a = chained_option _ _ _ e in
    let x = small_in-some text a.0 a.1.0 in
    subst (λ (q : Action × List ℕ). IsActionIn kinds.PutFrame text q) (same_Some _ _ a.1.1) (x.0, refl, x.1)
action_in-some kinds.ReleaseTurn text p e =
    let a = chained_option _ _ _ e in
    let x = small_in-some text a.0 a.1.0 in
    subst (λ (q : Action × List ℕ). IsActionIn kinds.ReleaseTurn text q) (same_Some _ _ a.1.1) (x.0, refl, x.1)
action_in-some kinds.Mark text p e =
    let a = chained_option _ _ _ e in
    let b = chained_option _ _ _ a.1.1 in
    let x = word_in-some text a.0 a.1.0 in
    let y = wide_in-some a.0.2 b.0 b.1.0 in
    subst (λ (q : Action × List ℕ). IsActionIn kinds.Mark text q) (same_Some _ _ b.1.1) (x.0 ∙ ap (λ t. fields_before (Some a.0.0 ∷ Some a.0.1 ∷ []) t) y.0, refl, (x.1, x.2, y.1))
action_in-some kinds.Read text p e =
    let a = chained_option _ _ _ e in
    let b = chained_option _ _ _ a.1.1 in
    let x = small_in-some text a.0 a.1.0 in
    let y = cell_in-some a.0.1 b.0 b.1.0 in
    subst (λ (q : Action × List ℕ). IsActionIn kinds.Read text q) (same_Some _ _ b.1.1) (read_action text a.0.0 b.0.0 b.0.1 a.0.1 x.0 x.1 y.0 y.1)

pub action_in-again : (action : Action) (rest : List ℕ) → FitsAction action → action_in (kind_of action) (fields_before (fields_of action) rest) ≡ Some (action, rest)
unfolding action_in
action_in-again (Load m n) rest h = rw (two_in-again m n rest h.0 h.1) refl
action_in-again (Store l m n) rest h = rw (value_in-again l m n rest h.0 h.1 h.2) refl
action_in-again (Add l m n) rest h = rw (value_in-again l m n rest h.0 h.1 h.2) refl
action_in-again (Look n) rest h = rw (small_in-again n rest h) refl
action_in-again (Walk v x flag) rest h = rw (word_in-again v x (decimal (flag_number flag) ++ 32 ∷ rest) h.0 h.1) (rw (flag_in-again flag rest) refl)
action_in-again (Peek n) rest h = rw (small_in-again n rest h) refl
action_in-again Poll rest h = refl
action_in-again (Ack to) rest h = rw (ack_in-again to rest) refl
action_in-again (Lock n) rest h = rw (small_in-again n rest h) refl
action_in-again (Unlock n) rest h = rw (small_in-again n rest h) refl
action_in-again Bump rest h = refl
action_in-again (SeeAck n) rest h = rw (small_in-again n rest h) refl
action_in-again (Raise n) rest h = rw (small_in-again n rest h) refl
action_in-again (Soften v bit) rest h = rw (small_in-again v (decimal (bit_number bit) ++ 32 ∷ rest) h) (rw (bit_in-again bit rest) refl)
action_in-again (Arm n) rest h = rw (small_in-again n rest h) refl
action_in-again (ClearDirty n) rest h = rw (small_in-again n rest h) refl
action_in-again (Unmap n) rest h = rw (small_in-again n rest h) refl
action_in-again (Map m n) rest h = rw (word_in-again m n rest h.0 h.1) refl
action_in-again (Grant n) rest h = rw (small_in-again n rest h) refl
action_in-again (CopyLoad m n) rest h = rw (two_in-again m n rest h.0 h.1) refl
action_in-again (CopyStore b f i x) rest h = rw (maybe_in-again b (fields_before (Some f ∷ Some i ∷ Some x ∷ []) rest) h.0) (rw (value_in-again f i x rest h.1 h.2 h.3) refl)
action_in-again (SetHome m n) rest h = rw (two_in-again m n rest h.0 h.1) refl
action_in-again (SetShadow b m s) rest h = rw (two_in-again b m (fields_before (s ∷ []) rest) h.0 h.1) (rw (maybe_in-again s rest h.2) refl)
action_in-again (TakeTurn n) rest h = rw (small_in-again n rest h) refl
action_in-again (Scan m n) rest h = rw (two_in-again m n rest h.0 h.1) refl
action_in-again (GiveFrame n) rest h = rw (small_in-again n rest h) refl
action_in-again (PutFrame n) rest h = rw (small_in-again n rest h) refl
action_in-again (ReleaseTurn n) rest h = rw (small_in-again n rest h) refl
action_in-again (Mark b x y) rest h = rw (word_in-again b x (decimal y ++ 32 ∷ rest) h.0 h.1) (rw (wide_in-again y rest h.2) refl)
action_in-again (Read b (Home n)) rest h = rw (small_in-again b (cell_text (Home n) rest) h.0) (rw (cell_in-again (Home n) rest h.1) refl)
action_in-again (Read b (Shadow n)) rest h = rw (small_in-again b (cell_text (Shadow n) rest) h.0) (rw (cell_in-again (Shadow n) rest h.1) refl)

-- ---- replies

word_of-some : (word text : List ℕ) (n : ℕ) → word_of word text ≡ Some n → (text ≡ word ++ decimal n) × IsWide n
unfolding word_of
word_of-some word text n e =
    let a = chained_option _ _ _ e in
    let k = number_of-some a.0 n a.1.1 in
    (strip_of-some word text a.0 a.1.0 ∙ ap (λ t. word ++ t) k.0, k.1)

word_of-again : (word : List ℕ) (n : ℕ) → IsWide n → word_of word (word ++ decimal n) ≡ Some n
unfolding word_of
word_of-again word n h = rw (strip_of-again word (decimal n)) (number_of-decimal n h)

abbrev IsReplyText : List ℕ → Reply → Type 0
IsReplyText text reply = (text ≡ reply_text reply) × FitsReply reply

lost_case : (text : List ℕ) (reply : Reply) → (word_of (codes "lost ") text >>= (λ n. Some (Lost n))) ≡ Some reply → IsReplyText text reply
lost_case text reply e =
    let a = chained_option _ _ _ e in
    subst (IsReplyText text) (same_Some _ _ a.1.1) (word_of-some (codes "lost ") text a.0 a.1.0)

busy_case : (o : Option ℕ) (text : List ℕ) (reply : Reply) → word_of (codes "busy ") text ≡ o → (elim o as (λ _. Option Reply) [ Some n ↦ Some (Busy n) | None ↦ word_of (codes "lost ") text >>= (λ n. Some (Lost n)) ]) ≡ Some reply → IsReplyText text reply
busy_case (Some n) text reply is e = subst (IsReplyText text) (same_Some _ _ e) (word_of-some (codes "busy ") text n is)
busy_case None text reply is e = lost_case text reply e

word_case : (o : Option ℕ) (text : List ℕ) (reply : Reply) → word_of (codes "word ") text ≡ o → (elim o as (λ _. Option Reply) [ Some n ↦ Some (Word n) | None ↦ elim (word_of (codes "busy ") text) as (λ _. Option Reply) [ Some n ↦ Some (Busy n) | None ↦ word_of (codes "lost ") text >>= (λ n. Some (Lost n)) ] ]) ≡ Some reply → IsReplyText text reply
word_case (Some n) text reply is e = subst (IsReplyText text) (same_Some _ _ e) (word_of-some (codes "word ") text n is)
word_case None text reply is e = busy_case (word_of (codes "busy ") text) text reply refl e

number_reply_of-some : (text : List ℕ) (reply : Reply) → number_reply_of text ≡ Some reply → IsReplyText text reply
unfolding number_reply_of
number_reply_of-some text reply e = word_case (word_of (codes "word ") text) text reply refl e

done_case : (b : Bool) (text : List ℕ) (reply : Reply) → bytes_eq text (codes "done") ≡ b → (if b then Some Done else number_reply_of text) ≡ Some reply → IsReplyText text reply
done_case true text reply is e = subst (IsReplyText text) (same_Some _ _ e) ((bytes_eq-Decides text (codes "done")).0 is, tt)
done_case false text reply is e = number_reply_of-some text reply e

pub reply_of-some : (text : List ℕ) (reply : Reply) → reply_of text ≡ Some reply → IsReplyText text reply
unfolding reply_of
reply_of-some text reply e = done_case (bytes_eq text (codes "done")) text reply refl e

abbrev lost_or : Option ℕ → Option Reply
lost_or o = o >>= (λ n. Some (Lost n))

abbrev busy_or : Option ℕ → List ℕ → Option Reply
busy_or o text = elim o as (λ _. Option Reply) [ Some n ↦ Some (Busy n) | None ↦ lost_or (word_of (codes "lost ") text) ]

abbrev word_or : Option ℕ → List ℕ → Option Reply
word_or o text = elim o as (λ _. Option Reply) [ Some n ↦ Some (Word n) | None ↦ busy_or (word_of (codes "busy ") text) text ]

pub reply_of-again : (reply : Reply) → FitsReply reply → reply_of (reply_text reply) ≡ Some reply
unfolding reply_of number_reply_of word_of strip_of
reply_of-again Done h = refl
reply_of-again (Word n) h = ap (λ o. word_or o (codes "word " ++ decimal n)) (word_of-again (codes "word ") n h)
reply_of-again (Busy n) h = ap (λ o. busy_or o (codes "busy " ++ decimal n)) (word_of-again (codes "busy ") n h)
reply_of-again (Lost n) h = ap (λ o. lost_or o) (word_of-again (codes "lost ") n h)

-- ---- lines

abbrev IsActIn : List ℕ → Action × List ℕ → Type 0
IsActIn text p = (text ≡ kind_text (kind_of p.0) ++ 32 ∷ fields_before (fields_of p.0) p.1) × FitsAction p.0

pub act_in-some : (text : List ℕ) (p : Action × List ℕ) → act_in text ≡ Some p → IsActIn text p
unfolding act_in
act_in-some text p e =
    let a = chained_option _ _ _ e in
    let b = chained_option _ _ _ a.1.1 in
    let x = cut_of-some 32 text a.0 a.1.0 in
    let k = kind_among-some all_kinds a.0.0 b.0 b.1.0 in
    let r = action_in-some b.0 a.0.1 p b.1.1 in
    (x.0 ∙ ap (λ w. w ++ 32 ∷ a.0.1) k ∙ ap (λ t. kind_text b.0 ++ 32 ∷ t) r.0 ∙ ap (λ kind. kind_text kind ++ 32 ∷ fields_before (fields_of p.0) p.1) (sym r.1), r.2)

pub act_in-again : (action : Action) (rest : List ℕ) → FitsAction action → act_in (kind_text (kind_of action) ++ 32 ∷ fields_before (fields_of action) rest) ≡ Some (action, rest)
unfolding act_in
act_in-again action rest h =
    let k = kind-again (kind_of action) in
    rw (cut_of-again 32 (kind_text (kind_of action)) (fields_before (fields_of action) rest) k.1) (rw k.0 (action_in-again action rest h))

-- what is read is the event of the line
pub event_of-some : (line : List ℕ) (e : Event) → event_of line ≡ Some e → IsEventLine line e
unfolding event_of
event_of-some line e is =
    let a = chained_option _ _ _ is in
    let b = chained_option _ _ _ a.1.1 in
    let c = chained_option _ _ _ b.1.1 in
    let d = chained_option _ _ _ c.1.1 in
    let actor = small_in-some line a.0 a.1.0 in
    let act = act_in-some a.0.1 b.0 b.1.0 in
    let rest = strip_of-some (codes "= ") b.0.1 c.0 c.1.0 in
    let reply = reply_of-some c.0 d.0 d.1.0 in
    subst (IsEventLine line) (same_Some _ _ d.1.1) (record {
      fits = record { actor = actor.1; action = act.1; reply = reply.1 };
      is = actor.0 ∙ ap (λ t. decimal a.0.0 ++ 32 ∷ t) (act.0 ∙ ap (λ t. kind_text (kind_of b.0.0) ++ 32 ∷ fields_before (fields_of b.0.0) t) (rest ∙ ap (λ t. codes "= " ++ t) reply.0));
    })

-- the event of a line is read
pub event_of-again : (e : Event) → FitsEvent e → event_of (event_text e) ≡ Some e
unfolding event_of
event_of-again e h =
    rw (small_in-again e.actor (kind_text (kind_of e.action) ++ 32 ∷ fields_before (fields_of e.action) (codes "= " ++ reply_text e.reply)) h.actor)
    (rw (act_in-again e.action (codes "= " ++ reply_text e.reply) h.action)
    (rw (strip_of-again (codes "= ") (reply_text e.reply))
    (rw (reply_of-again e.reply h.reply) refl)))

-- a line is that of an event exactly where this is read
pub event_of-line : (line : List ℕ) (e : Event) → IsEventLine line e → event_of line ≡ Some e
event_of-line line e h = ap event_of h.is ∙ event_of-again e h.fits

-- a line is that of one event
pub one_event : (line : List ℕ) (e f : Event) → IsEventLine line e → IsEventLine line f → e ≡ f
one_event line e f h k = same_Some _ _ (sym (event_of-line line e h) ∙ event_of-line line f k)

pub event_of-none : (line : List ℕ) → event_of line ≡ None → (e : Event) → ¬ IsEventLine line e
event_of-none line lack e h = none-some e (sym lack ∙ event_of-line line e h)

-- what a reader that gives this says of the line
pub told_event : (line : List ℕ) (r : Option Event) → r ≡ event_of line → IfSome r (IsEventLine line)
told_event line None is = tt
told_event line (Some e) is = event_of-some line e (sym is)

pub told_only : (line : List ℕ) (r : Option Event) → r ≡ event_of line → (e : Event) → IsEventLine line e → r ≡ Some e
told_only line r is e h = is ∙ event_of-line line e h

pub told_none : (line : List ℕ) (r : Option Event) → r ≡ event_of line → IfNone r ((e : Event) → ¬ IsEventLine line e)
told_none line None is = event_of-none line (sym is)
told_none line (Some e) is = tt
