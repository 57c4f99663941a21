-- The kinds that change flags of a table word: Soften, Arm, Walk.
use Rattle.std.proofs.Common.{◌≡◌, ◌≢◌, ℕ, ◌^◌, ◌<◌, ◌==◌, if◌then◌else◌, bit_and, bit_or, Bool, true, false, refl, sym, ap, subst, ◌∙◌, inl, inr, arith}
use Rattle.std.specs.Int.{bit_at}
use Rattle.std.proofs.lemmas.Bool.{eqb-true}
use Rattle.std.proofs.lemmas.Nat.{and_le_l}
use Rattle.nm_base.specs.Geometry.{Geometry}
use Rattle.nm_base.specs.PageWord.{IsPageWord, all_but, hint_mask, walk_mask, walked_word}
use Rattle.nm_action.specs.declared.action.Bit.{Bit}
use Rattle.nm_action.specs.declared.action.Bit.TheVariants.{Hint, Accessed}
use Rattle.nm_action.specs.declared.action.Reply.TheVariants.{Done, Lost}
use Rattle.nm_action.specs.declared.action.Action.TheVariants.{Soften, Arm, Walk}
use Rattle.nm_view.specs.Lists.{find, first}
use Rattle.nm_view.specs.Views.{View}
use Rattle.nm_words.specs.declared.names.Where.TheVariants as words
use Rattle.nm_step.specs.Table.{bit_mask}
use Rattle.nm_event.specs.After.{after_of}
use Rattle.nm_event.specs.Fitting.{Agrees}
use Rattle.nm_world.specs.Worlds.{World, moved, viewing, written, pte_at}
use Rattle.nm_world.specs.Parts.{Lore, lore_of, lore_at}
use Rattle.nm_world.specs.LockLaw.{LockLaw, IsTrueOp}
use Rattle.nm_world.specs.Laws.{IsReady}
use Rattle.nm_world.proofs.Choose.{choose}
use Rattle.nm_world.proofs.Bits.{agrees_and, agrees_or}
use Rattle.nm_locks.specs.Facts.{LockFacts}
use Rattle.nm_locks.proofs.Still.{KeepsView, same_view, KeepsTurns, turns_still, least_still, locks_still, lock_quiet, read_keeps, view_part}
use Rattle.nm_locks.proofs.Turns.{cases_on}
use Rattle.nm_world.proofs.Options.{if_more}

-- a table word is changed only in what no comparison reads: 0 stays 0, and what agreed goes on agreeing
pub record Softens (word new : ℕ) : Type 0 where
  pub zero : word ≡ 0 → new ≡ 0
  pub agrees : (old : ℕ) → Agrees old word → Agrees old new

-- a step that softens one table word, and leaves what else the lock law reads, keeps it
lock_softened : (g : Geometry) (m : World) (a v x : ℕ) (new : View) → Softens (pte_at m v) x → KeepsView (m.view a) new → LockLaw g m → LockLaw g (record { word = written (words.Pte v) x m.word; view = viewing a new m.view })
lock_softened g m a v x new soft view h =
    let m' : World = record { word = written (words.Pte v) x m.word; view = viewing a new m.view } in
    let lore : (c b : ℕ) → lore_at m' c b ≡ lore_at m c b = λ c b. view_part (λ w. lore_at (record { word = m.word; view = λ i. w }) 0 b) a new m.view (view.lore b) c in
    let turns : KeepsTurns g m m' = record { word = λ t. refl; turn = view_part (λ w. w.turn) a new m.view view.turn; least = view_part (λ w. w.scan.least) a new m.view view.least; free = λ f. refl } in
    let zero : (u : ℕ) → pte_at m u ≡ 0 → pte_at m' u ≡ 0 = λ u was. choose (λ n. n ≡ 0) u v x (pte_at m u) (λ same. soft.zero (ap (pte_at m) (sym same) ∙ was)) (λ other. was) in
    let agrees : (u old : ℕ) → Agrees old (pte_at m u) → Agrees old (pte_at m' u) = λ u old was. choose (Agrees old) u v x (pte_at m u) (λ same. soft.agrees old (subst (λ (n : ℕ). Agrees old (pte_at m n)) same was)) (λ other. was) in
    let known : (b : ℕ) (o : Lore) → IsTrueOp m b o → IsTrueOp m' b o = λ b o k. record {
      home = k.home;
      shadow = k.shadow;
      taken = λ u there. zero u (k.taken u there);
      looked = λ u there. if_more (find first u o.looked) _ _ (λ p _ was. agrees u p.1 was) (k.looked u there);
    } in
    record {
      locks = locks_still lore_of g m m' (λ b. refl) lore h;
      turns = turns_still g m m' turns h;
      known = λ c b o is. known b o (h.known c b o (sym (lore c b) ∙ is));
      least = least_still g m m' turns h;
      staged = λ c b o is. h.staged c b o (sym (lore c b) ∙ is);
    }

-- a cleared flag
pub softens_and : (word flags : ℕ) → flags < 2 ^ 12 → bit_at (all_but flags) 0 ≡ 1 → bit_at (all_but flags) 2 ≡ 1 → bit_at (all_but flags) 5 ≡ 1 → IsPageWord word → Softens word (bit_and word (all_but flags))
softens_and word flags low zero two five page = record {
  zero = λ none. omega (arith, none, and_le_l word (all_but flags));
  agrees = λ old was. agrees_and old word flags low zero two five page was;
}

-- a flag that is set in a word that maps a frame
softens_or : (word flags : ℕ) → flags < 2 ^ 12 → bit_at flags 2 ≡ 0 → bit_at flags 5 ≡ 0 → word ≢ 0 → IsPageWord word → Softens word (bit_or word flags)
softens_or word flags low two five some page = record {
  zero = λ none. absurd (some none);
  agrees = λ old was. elim page [ inl none ↦ absurd (some none) | inr present ↦ agrees_or old word flags low two five present was ];
}

soft_bit : (word : ℕ) (bit : Bit) → IsPageWord word → Softens word (bit_and word (all_but (bit_mask bit)))
soft_bit word Hint page = softens_and word (bit_mask Hint) (omega arith) refl refl refl page
soft_bit word Accessed page = softens_and word (bit_mask Accessed) (omega arith) refl refl refl page

pub lock_soften : (g : Geometry) (m : World) (a v : ℕ) (bit : Bit) → LockFacts g m → LockLaw g m → LockLaw g (moved g m a (Soften v bit))
lock_soften g m a v bit facts h =
    lock_softened g m a v (bit_and (pte_at m v) (all_but (bit_mask bit))) (m.view a) (soft_bit (pte_at m v) bit (facts.page_words v)) (same_view (m.view a)) h

pub lock_arm : (g : Geometry) (m : World) (a v : ℕ) → LockFacts g m → IsReady g m a (Arm v) → LockLaw g m → LockLaw g (moved g m a (Arm v))
lock_arm g m a v facts r h =
    lock_softened g m a v (bit_or (pte_at m v) hint_mask) (m.view a) (softens_or (pte_at m v) hint_mask (omega arith) refl refl r.fits.told.said.mapped (facts.page_words v)) (same_view (m.view a)) h

soft_walk : (word : ℕ) (write : Bool) → word ≢ 0 → IsPageWord word → Softens word (walked_word word write)
soft_walk word true some page = softens_or word (walk_mask true) (omega arith) refl refl some page
soft_walk word false some page = softens_or word (walk_mask false) (omega arith) refl refl some page

pub lock_walk : (g : Geometry) (m : World) (a v e : ℕ) (write : Bool) → LockFacts g m → IsReady g m a (Walk v e write) → LockLaw g m → LockLaw g (moved g m a (Walk v e write))
lock_walk g m a v e write facts r h =
    let n : ℕ = pte_at m v in
    let view : View = m.view a in
    let Left : Bool → Type 0 = λ b. LockLaw g (record { word = written (words.Pte v) (if b then walked_word e write else n) m.word; view = viewing a (after_of g view (Walk v e write) (if b then Done else Lost n)) m.view }) in
    cases_on Left (n == e)
    (λ found.
    let same : n ≡ e = eqb-true n e found in
    let some : e ≢ 0 = λ none. (let bit : bit_at e 0 ≡ 1 = eqb-true (bit_at e 0) 1 r.allowed.permitted.present in absurd (omega (arith, bit, ap (λ k. bit_at k 0) none))) in
    let new : View = after_of g view (Walk v e write) Done in
    lock_softened g m a v (walked_word e write) new
    (subst (λ (k : ℕ). Softens k (walked_word e write)) (sym same) (soft_walk e write some (subst IsPageWord same (facts.page_words v))))
    (record { turn = refl; least = refl; lore = λ b. refl }) h)
    (λ lost. lock_quiet g m (written (words.Pte v) n m.word) a view (read_keeps g (words.Pte v) m.word) (same_view view) h)
