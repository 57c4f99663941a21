-- How many turns of an item count.
use Rattle.std.proofs.Common.{◌≡◌, ◌+◌, ◌≤◌, length, ℕ, inl, inr, List, [], ◌∷◌, ◌++◌, refl, sym, ap, ◌∙◌, arith}
use Rattle.nm_action.specs.declared.kind.ActionKind.{ActionKind}
use Rattle.nm_schedule.specs.declared.turn.Played.{Played}
use Rattle.nm_schedule.specs.Picks.{IsCounted, CountIs}

pub count-more : (kind : ActionKind) (played : List Played) (p : Played) (n : ℕ) → IsCounted kind p.turn p.heard → CountIs kind played n → CountIs kind (played ++ p ∷ []) (n + 1)
count-more kind [] p n so h = inl (so, (0, (refl, ap (λ k. k + 1) h)))
count-more kind (x ∷ played) p n so h = elim h [
  | inl k ↦ inl (k.0, (k.1.0 + 1, (count-more kind played p k.1.0 so k.1.1.0, ap (λ m. m + 1) k.1.1.1)))
  | inr k ↦ inr (k.0, count-more kind played p n so k.1)
]

pub count-same : (kind : ActionKind) (played : List Played) (p : Played) (n : ℕ) → (¬ IsCounted kind p.turn p.heard) → CountIs kind played n → CountIs kind (played ++ p ∷ []) n
count-same kind [] p n not-so h = inr (not-so, h)
count-same kind (x ∷ played) p n not-so h = elim h [
  | inl k ↦ inl (k.0, (k.1.0, (count-same kind played p k.1.0 not-so k.1.1.0, k.1.1.1)))
  | inr k ↦ inr (k.0, count-same kind played p n not-so k.1)
]

-- a list has one count
pub one-count : (kind : ActionKind) (played : List Played) (n m : ℕ) → CountIs kind played n → CountIs kind played m → n ≡ m
one-count kind [] n m h k = h ∙ sym k
one-count kind (x ∷ played) n m h k = elim h [
  | inl a ↦ elim k [
    | inl b ↦ a.1.1.1 ∙ ap (λ i. i + 1) (one-count kind played a.1.0 b.1.0 a.1.1.0 b.1.1.0) ∙ sym b.1.1.1
    | inr b ↦ absurd (b.0 a.0)
  ]
  | inr a ↦ elim k [
    | inl b ↦ absurd (a.0 b.0)
    | inr b ↦ one-count kind played n m a.1 b.1
  ]
]

-- no more turns count than there are
pub count-most : (kind : ActionKind) (played : List Played) (n : ℕ) → CountIs kind played n → n ≤ length played
count-most kind [] n h = omega (arith, h)
count-most kind (x ∷ played) n h = elim h [
  | inl k ↦ (let r = count-most kind played k.1.0 k.1.1.0 in omega (arith, r, k.1.1.1))
  | inr k ↦ (let r = count-most kind played n k.1 in omega (arith, r))
]
