-- The kinds that take and leave a lock.
use Rattle.std.proofs.Common.{◌≡◌, ◌↔◌, ℕ, ◌+◌, ◌==◌, if◌then◌else◌, Bool, [], Option, Some, None, IsSome, refl, sym, ap, subst, ◌∙◌, inl, inr, arith}
use Rattle.std.proofs.lemmas.Bool.{cases_eq, eqb-true}
use Rattle.nm_base.specs.Geometry.{Geometry}
use Rattle.nm_action.specs.declared.action.Reply.TheVariants.{Done, Busy}
use Rattle.nm_action.specs.declared.action.Action.TheVariants.{Lock, Unlock}
use Rattle.nm_view.specs.Lists.{find, first}
use Rattle.nm_view.specs.Views.{Op, View}
use Rattle.nm_view.specs.Opening.{opened}
use Rattle.nm_view.specs.Operations.{op_on}
use Rattle.nm_words.specs.declared.names.Where.TheVariants as words
use Rattle.nm_event.specs.After.{after_of}
use Rattle.nm_world.specs.Worlds.{World, moved, viewing, written, lock_at, op_at}
use Rattle.nm_world.specs.Parts.{Lore, lore_of}
use Rattle.nm_world.specs.Sights.{Sets}
use Rattle.nm_world.specs.LockLaw.{LockLaw, IsTrueOp, IsStaged}
use Rattle.nm_world.specs.Laws.{IsReady}
use Rattle.nm_world.proofs.Choose.{choose}
use Rattle.nm_world.proofs.Writing.{open_sets, close_sets}
use Rattle.nm_world.proofs.Moves.{edited, gone, some_op}
use Rattle.nm_locks.proofs.Still.{same_view, KeepsTurns, turns_still, least_still, lock_quiet, read_keeps, view_part}
use Rattle.nm_locks.proofs.Edits.{by_op, op_lore}
use Rattle.nm_locks.proofs.Turns.{cases_on, not_both}
use Rattle.nm_world.proofs.Options.{some_and}

none_there : {A : Type 0} (found : Option A) → found ≡ None → IsSome found → ⊥
none_there None is some = cc
none_there (Some x) is some = cc

-- nothing is known in an operation that was just opened
true_opened : (m : World) (b room : ℕ) → IsTrueOp m b (lore_of (opened b room))
true_opened m b room = record { home = tt; shadow = tt; taken = λ v there. absurd (none_there (find first v []) refl there); looked = λ v none. tt }

staged_opened : (g : Geometry) (b room : ℕ) → IsStaged g (lore_of (opened b room))
staged_opened g b room = record { held_taken = λ _. refl; held_cleared = λ _. refl; cleared = λ is. absurd cc; over = λ is. absurd cc; alone = λ is. absurd cc }

-- the turns where a lock is written
turns_there : (g : Geometry) (m : World) (b x a : ℕ) (new : View) → new.turn ≡ (m.view a).turn → new.scan.least ≡ (m.view a).scan.least → KeepsTurns g m (record { word = written (words.Lock b) x m.word; view = viewing a new m.view })
turns_there g m b x a new turn least = record { word = λ t. refl; turn = view_part (λ v. v.turn) a new m.view turn; least = view_part (λ v. v.scan.least) a new m.view least; free = λ f. refl }

-- locks agree with operations after one was opened on a page that nobody held
locks_opened : (g : Geometry) (m m' : World) (a b k : ℕ) (o : Op) → k ≡ a + 1 → Sets (op_at m) (op_at m') a b (Some o) → lock_at m b ≡ 0 → LockLaw g m → (c j : ℕ) → ((if j == b then k else lock_at m j) ≡ c + 1) ↔ IsSome (op_at m' c j)
locks_opened g m m' a b k o number sets zero h c j =
    choose (λ n. (n ≡ c + 1) ↔ IsSome (op_at m' c j)) j b k (lock_at m j)
    (λ jb. elim (cases_eq c a) [
      | inl ca ↦
          let here : op_at m' c j ≡ Some o = ap (λ n. op_at m' n j) ca ∙ ap (op_at m' a) jb ∙ sets.here in
          (λ _. some_op (op_at m' c j) o here, λ _. omega (arith, number, ca))
      | inr ca ↦ (
        λ mine. absurd (not_both k a c number mine ca),
        λ theirs. absurd (
            let before : IsSome (op_at m c j) = subst IsSome (sets.others c j ca) theirs in
            let word : lock_at m b ≡ c + 1 = subst (λ (n : ℕ). lock_at m n ≡ c + 1) jb ((h.locks c j).1 before) in
            omega (arith, zero, word)),
      )
    ])
    (λ jb. elim (cases_eq c a) [
      | inl ca ↦
          let same : op_at m' c j ≡ op_at m c j = ap (λ n. op_at m' n j) ca ∙ sets.rest j jb ∙ ap (λ n. op_at m n j) (sym ca) in
          (λ mine. subst IsSome (sym same) ((h.locks c j).0 mine), λ theirs. (h.locks c j).1 (subst IsSome same theirs))
      | inr ca ↦
          let same = sets.others c j ca in
          (λ mine. subst IsSome (sym same) ((h.locks c j).0 mine), λ theirs. (h.locks c j).1 (subst IsSome same theirs))
    ])

-- locks agree with operations after one was closed
locks_closed : (g : Geometry) (m m' : World) (a b : ℕ) (o : Op) → Sets (op_at m) (op_at m') a b None → op_at m a b ≡ Some o → LockLaw g m → (c j : ℕ) → ((if j == b then 0 else lock_at m j) ≡ c + 1) ↔ IsSome (op_at m' c j)
locks_closed g m m' a b o sets here h c j =
    choose (λ n. (n ≡ c + 1) ↔ IsSome (op_at m' c j)) j b 0 (lock_at m j)
    (λ jb. (
      λ mine. absurd (omega (arith, mine)),
      λ theirs. absurd (elim (cases_eq c a) [
        | inl ca ↦ none_there (op_at m' c j) (ap (λ n. op_at m' n j) ca ∙ ap (op_at m' a) jb ∙ sets.here) theirs
        | inr ca ↦
            let before : IsSome (op_at m c j) = subst IsSome (sets.others c j ca) theirs in
            let word : lock_at m b ≡ c + 1 = subst (λ (n : ℕ). lock_at m n ≡ c + 1) jb ((h.locks c j).1 before) in
            not_both (lock_at m b) a c ((h.locks a b).1 (some_op (op_at m a b) o here)) word ca
      ]),
    ))
    (λ jb. elim (cases_eq c a) [
      | inl ca ↦
          let same : op_at m' c j ≡ op_at m c j = ap (λ n. op_at m' n j) ca ∙ sets.rest j jb ∙ ap (λ n. op_at m n j) (sym ca) in
          (λ mine. subst IsSome (sym same) ((h.locks c j).0 mine), λ theirs. (h.locks c j).1 (subst IsSome same theirs))
      | inr ca ↦
          let same = sets.others c j ca in
          (λ mine. subst IsSome (sym same) ((h.locks c j).0 mine), λ theirs. (h.locks c j).1 (subst IsSome same theirs))
    ])

-- what an operation knows does not hang on locks
true_there : (m : World) (b x : ℕ) (views : ℕ → View) (j : ℕ) (o : Lore) → IsTrueOp m j o → IsTrueOp (record { word = written (words.Lock b) x m.word; view = views }) j o
true_there m b x views j o h = record { home = h.home; shadow = h.shadow; taken = h.taken; looked = h.looked }

pub lock_lock : (g : Geometry) (m : World) (a b : ℕ) → IsReady g m a (Lock b) → LockLaw g m → LockLaw g (moved g m a (Lock b))
lock_lock g m a b r h =
    let n : ℕ = lock_at m b in
    let view : View = m.view a in
    let k : ℕ = view.number + 1 in
    let Left : Bool → Type 0 = λ t. LockLaw g (record { word = written (words.Lock b) (if t then k else n) m.word; view = viewing a (after_of g view (Lock b) (if t then Done else Busy n)) m.view }) in
    cases_on Left (n == 0)
    (λ zero.
    let new : View = after_of g view (Lock b) Done in
    let o : Op = opened b view.room.aliases in
    let m' : World = record { word = written (words.Lock b) k m.word; view = viewing a new m.view } in
    let sets : Sets (op_at m) (op_at m') a b (Some o) = open_sets a o new m.view refl r.allowed.permitted.fresh in
    let turns = turns_there g m b k a new refl refl in
    record {
      locks = locks_opened g m m' a b k o (omega (arith, r.shaped.number a)) sets (eqb-true n 0 zero) h;
      turns = turns_still g m m' turns h;
      known = by_op m' (λ c j p. IsTrueOp m' j p) (edited (λ c j p. IsTrueOp m' j (lore_of p)) (op_at m) (op_at m') a b o sets (true_opened m' b view.room.aliases)
          (λ c j p apart is. true_there m b k m'.view j (lore_of p) (h.known c j (lore_of p) (op_lore m c j p is))));
      least = least_still g m m' turns h;
      staged = by_op m' (λ c j p. IsStaged g p) (edited (λ c j p. IsStaged g (lore_of p)) (op_at m) (op_at m') a b o sets (staged_opened g b view.room.aliases)
          (λ c j p apart is. h.staged c j (lore_of p) (op_lore m c j p is)));
    })
    (λ held. lock_quiet g m (written (words.Lock b) n m.word) a view (read_keeps g (words.Lock b) m.word) (same_view view) h)

pub lock_unlock : (g : Geometry) (m : World) (a b : ℕ) → IsReady g m a (Unlock b) → LockLaw g m → LockLaw g (moved g m a (Unlock b))
lock_unlock g m a b r h =
    let view : View = m.view a in
    let new : View = after_of g view (Unlock b) Done in
    let m' : World = record { word = written (words.Lock b) 0 m.word; view = viewing a new m.view } in
    let own = some_and (op_on view b) _ r.allowed.permitted in
    let sets : Sets (op_at m) (op_at m') a b None = close_sets a b new m.view refl (r.shaped.shape a r.actor).keyed.ops_once in
    let turns = turns_there g m b 0 a new refl refl in
    record {
      locks = locks_closed g m m' a b own.0 sets own.1.0 h;
      turns = turns_still g m m' turns h;
      known = by_op m' (λ c j p. IsTrueOp m' j p) (λ c j p is.
          let was = (gone (op_at m) (op_at m') a b sets c j p is).1 in
          true_there m b 0 m'.view j (lore_of p) (h.known c j (lore_of p) (op_lore m c j p was)));
      least = least_still g m m' turns h;
      staged = by_op m' (λ c j p. IsStaged g p) (λ c j p is.
          let was = (gone (op_at m) (op_at m') a b sets c j p is).1 in
          h.staged c j (lore_of p) (op_lore m c j p was));
    }
