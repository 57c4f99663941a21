-- Flushes, turn by turn.
use Rattle.std.proofs.Common.{◌≡◌, ◌+◌, ◌↔◌, ◌⊎◌, ◌==◌, not, ℕ, Bool, true, false, inl, inr, IsTrue, [], ◌∷◌, ◌++◌, Option, Some, None, refl, sym, ap, subst, ◌∙◌, append_assoc, arith}
use Rattle.std.specs.Prelude.{nat_le}
use Rattle.std.proofs.lemmas.Bool.{leb-true, le-leb, eq-eqb, eqb-true}
use Rattle.std.specs.List.{AllByRecursion}
use Rattle.nm_action.specs.declared.action.Action.{Action}
use Rattle.nm_action.specs.declared.action.Action.TheVariants.{Bump, SeeAck}
use Rattle.nm_action.specs.declared.action.Reply.{Reply}
use Rattle.nm_action.specs.declared.action.Reply.TheVariants.{Word, Busy}
use Rattle.nm_action.specs.declared.turn.Turn.{Turn}
use Rattle.nm_action.specs.declared.turn.Turn.TheVariants.{Do}
use Rattle.nm_action.specs.declared.turn.Heard.{Heard}
use Rattle.nm_action.specs.declared.turn.Heard.TheVariants.{Answer}
use Rattle.nm_view.specs.Views.{end_word}
use Rattle.nm_actor.specs.Turns.{Turns}
use Rattle.nm_schedule.specs.Stalls.{IsSeeAck, IsInFlush, IsStalledAck, StallsAt, Stalls}
use Rattle.nm_schedule.specs.Standing.{IsBumped, bumped_by, stalls_ack, stalls_at, stalls_by}
use Rattle.nm_schedule.proofs.Snoc.{cons-same, snoc-same, last-or-none, all-snoc, all-push, all-mid}

abbrev Acks : Turns → Type 0
Acks turns = AllByRecursion (λ t. IsSeeAck t.0) turns

abbrev bump : ℕ → Turn × Heard
bump word = (Do Bump, Answer (Word word))

empty-mid : (xs : Turns) (x : Turn × Heard) (ys : Turns) → [] ≡ xs ++ x ∷ ys → ⊥
empty-mid [] x ys e = cc e
empty-mid (y ∷ xs) x ys e = cc e

-- two last Bumps are one
same-bump : (front other : Turns) (word word' : ℕ) (acks acks' : Turns) → front ++ bump word ∷ acks ≡ other ++ bump word' ∷ acks' → Acks acks → Acks acks' → word ≡ word'
same-bump [] [] word word' acks acks' e a a' = let p = ap (λ (t : Turn × Heard). t.1) (cons-same (bump word) (bump word') acks acks' e).0 in cc p
same-bump [] (x ∷ other) word word' acks acks' e a a' =
    absurd (all-mid (λ t. IsSeeAck t.0) other (bump word') acks' (subst Acks (cons-same (bump word) x acks (other ++ bump word' ∷ acks') e).1 a))
same-bump (x ∷ front) [] word word' acks acks' e a a' =
    absurd (all-mid (λ t. IsSeeAck t.0) front (bump word) acks (subst Acks (sym (cons-same x (bump word') (front ++ bump word ∷ acks) acks' e).1) a'))
same-bump (x ∷ front) (y ∷ other) word word' acks acks' e a a' =
    same-bump front other word word' acks acks' (cons-same x y (front ++ bump word ∷ acks) (other ++ bump word' ∷ acks') e).1 a a'

pub one-flush : (turns : Turns) (n m : ℕ) → IsInFlush turns n → IsInFlush turns m → n ≡ m
one-flush turns n m h k =
    let e : h.word ≡ k.word = same-bump h.front k.front h.word k.word h.acks k.acks (sym h.list ∙ k.list) h.all k.all in
    omega (arith, e, h.drawn, k.drawn)

pub flush-begins : (turns : Turns) (word : ℕ) → IsInFlush (turns ++ bump word ∷ []) (word + 1)
flush-begins turns word = record { front = turns; word = word; acks = []; list = refl; all = tt; drawn = refl }

pub flush-goes-on : (turns : Turns) (t : Turn × Heard) (n : ℕ) → IsSeeAck t.0 → IsInFlush turns n → IsInFlush (turns ++ t ∷ []) n
flush-goes-on turns t n ack h = record {
  front = h.front;
  word = h.word;
  acks = h.acks ++ t ∷ [];
  list = ap (λ (l : Turns). l ++ t ∷ []) h.list ∙ append_assoc h.front (bump h.word ∷ h.acks) (t ∷ []);
  all = all-push (λ t. IsSeeAck t.0) h.acks t h.all ack;
  drawn = h.drawn;
}

-- the last turn of an actor in a flush is its Bump, or a SeeAck in that flush
pub record IsAckIn (turns : Turns) (t : Turn × Heard) (n : ℕ) : Type 0 where
  pub ack : IsSeeAck t.0
  pub flush : IsInFlush turns n

pub flush-back : (turns : Turns) (t : Turn × Heard) (n : ℕ) → IsInFlush (turns ++ t ∷ []) n → ((word : ℕ) × (t ≡ bump word)) ⊎ IsAckIn turns t n
flush-back turns t n h = elim (last-or-none h.acks) [
  | inl none ↦ inl (h.word, (snoc-same turns h.front t (bump h.word) (h.list ∙ ap (λ (l : Turns). h.front ++ bump h.word ∷ l) none)).1)
  | inr l ↦ (
      let e : turns ++ t ∷ [] ≡ (h.front ++ bump h.word ∷ l.front) ++ l.last ∷ [] =
      h.list ∙ ap (λ (k : Turns). h.front ++ bump h.word ∷ k) l.is ∙ sym (append_assoc h.front (bump h.word ∷ l.front) (l.last ∷ [])) in
      let s = snoc-same turns (h.front ++ bump h.word ∷ l.front) t l.last e in
      let a = all-snoc (λ t. IsSeeAck t.0) l.front l.last (subst Acks l.is h.all) in
      let P : Turn × Heard → Type 0 = λ t. IsSeeAck t.0 in
      inr (record {
        ack = subst P (sym s.1) a.1;
        flush = record { front = h.front; word = h.word; acks = l.front; list = s.0; all = a.0; drawn = h.drawn };
      }))
]

-- outside a flush: any turn but a Bump that was answered by a word, and a SeeAck
out : (turns : Turns) (turn : Turn) (heard : Heard) → ((word : ℕ) → (turn, heard) ≡ bump word → ⊥) → (IsSeeAck turn → ⊥) → (n : ℕ) → ¬ IsInFlush (turns ++ (turn, heard) ∷ []) n
out turns turn heard other ack n h = elim (flush-back turns (turn, heard) n h) [ inl b ↦ other b.0 b.1 | inr a ↦ ack a.ack ]

none-goes-on : (turns : Turns) (t : Turn × Heard) → IsSeeAck t.0 → ((word : ℕ) → t ≡ bump word → ⊥) → ((n : ℕ) → ¬ IsInFlush turns n) → (n : ℕ) → ¬ IsInFlush (turns ++ t ∷ []) n
none-goes-on turns t ack other none n h = elim (flush-back turns t n h) [ inl b ↦ other b.0 b.1 | inr a ↦ none n a.flush ]

fst : (t u : Turn × Heard) → t ≡ u → t.0 ≡ u.0
fst t u e = ap (λ (t : Turn × Heard). t.0) e

snd : (t u : Turn × Heard) → t ≡ u → t.1 ≡ u.1
snd t u e = ap (λ (t : Turn × Heard). t.1) e

-- the word of a flush after a turn more
pub bumped-step : (bumped : Option ℕ) (turns : Turns) (turn : Turn) (heard : Heard) → IsBumped bumped turns → IsBumped (bumped_by bumped turn heard) (turns ++ (turn, heard) ∷ [])
bumped-step bumped turns (Do Bump) (Answer (Word word)) h = flush-begins turns word
bumped-step (Some word) turns (Do (SeeAck c)) heard h = flush-goes-on turns (Do (SeeAck c), heard) (word + 1) tt h
bumped-step None turns (Do (SeeAck c)) heard h = none-goes-on turns (Do (SeeAck c), heard) tt (λ w e. let p = fst (Do (SeeAck c), heard) (bump w) e in cc p) h
bumped-step bumped turns turn heard h = out turns turn heard (λ w e. let p = fst (turn, heard) (bump w) e in let q = snd (turn, heard) (bump w) e in cc (p, q)) (λ a. absurd a)

stalled-ack : (found word : ℕ) (turns : Turns) → IsInFlush turns (found + 1) → IsTrue (nat_le word found) ↔ IsStalledAck turns word
stalled-ack found word turns h = (
  (λ t. inl (found + 1, h, omega (arith, leb-true word found t))),
  (λ s. elim s [
    | inl f ↦ (let e = one-flush turns (found + 1) f.0 h f.1 in le-leb word found (omega (arith, e, f.2)))
    | inr o ↦ absurd (o.0 (found + 1) h)
  ]),
)

not-true : (b : Bool) → not b ≡ true → b ≡ true → ⊥
not-true true e f = cc
not-true false e f = cc

true-not : (b : Bool) → (b ≡ true → ⊥) → not b ≡ true
true-not true f = absurd (f refl)
true-not false f = refl

stalled-out : (word : ℕ) (turns : Turns) → ((n : ℕ) → ¬ IsInFlush turns n) → IsTrue (not (word == end_word)) ↔ IsStalledAck turns word
stalled-out word turns none = (
  (λ t. inr (none, λ e. not-true (word == end_word) t (eq-eqb word end_word e))),
  (λ s. elim s [
    | inl f ↦ absurd (none f.0 f.1)
    | inr o ↦ true-not (word == end_word) (λ t. o.1 (eqb-true word end_word t))
  ]),
)

stalls-ack : (bumped : Option ℕ) (turns : Turns) (word : ℕ) → IsBumped bumped turns → IsTrue (stalls_ack bumped word) ↔ IsStalledAck turns word
stalls-ack (Some found) turns word h = stalled-ack found word turns h
stalls-ack None turns word h = stalled-out word turns h

stalls-reply : (bumped : Option ℕ) (turns : Turns) (action : Action) (reply : Reply) → IsBumped bumped turns → IsTrue (stalls_at bumped action reply) ↔ StallsAt turns action reply
stalls-reply bumped turns action (Busy w) h = ((λ t. tt), (λ t. refl))
stalls-reply bumped turns (SeeAck c) (Word word) h = stalls-ack bumped turns word h
stalls-reply bumped turns action reply h = ((λ t. cc), (λ t. absurd t))

-- whether a turn stalls, by the word of its actor's flush
pub stalls-so : (bumped : Option ℕ) (turns : Turns) (turn : Turn) (heard : Heard) → IsBumped bumped turns → IsTrue (stalls_by bumped turn heard) ↔ Stalls turns turn heard
stalls-so bumped turns (Do action) (Answer reply) h = stalls-reply bumped turns action reply h
stalls-so bumped turns turn heard h = ((λ t. cc), (λ t. absurd t))

-- an actor without turns is in no flush
pub no-flush : (n : ℕ) → ¬ IsInFlush [] n
no-flush n h = empty-mid h.front (bump h.word) h.acks h.list
