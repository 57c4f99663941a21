-- CopyLoad and CopyStore.
use Rattle.std.proofs.Common.{◌≡◌, ◌≢◌, ℕ, ◌-◌, ◌==◌, not, if◌then◌else◌, Bool, true, false, Option, Some, None, IsSomeAnd, refl, sym, ap, ◌∙◌, inr}
use Rattle.std.proofs.lemmas.Bool.{eqb-true}
use Rattle.nm_base.specs.Geometry.{Geometry}
use Rattle.nm_action.specs.declared.action.Reply.TheVariants.{Word}
use Rattle.nm_action.specs.declared.action.Action.TheVariants.{CopyLoad}
use Rattle.nm_words.specs.declared.names.Where.{Where}
use Rattle.nm_words.specs.declared.names.Where.TheVariants as words
use Rattle.nm_step.specs.Table.{home_frame, named_frame}
use Rattle.nm_view.specs.declared.view.Phase.{Phase}
use Rattle.nm_view.specs.declared.view.Phase.TheVariants.{Held, Cleared, Taken}
use Rattle.nm_view.specs.Views.{Op, View}
use Rattle.nm_view.specs.Operations.{fill_of, op_on, known_home, names_one, is_early, is_flush_ended, IsUnmapped}
use Rattle.nm_view.proofs.Known.{is-IsFlushEnded}
use Rattle.nm_permit.specs.Permitted.{MayCopyLoad, IsCopyingPhase}
use Rattle.nm_event.specs.After.{after_of, loaded}
use Rattle.nm_world.specs.Worlds.{World, moved, viewing, written}
use Rattle.nm_world.specs.Parts.{copier_of}
use Rattle.nm_world.specs.Sights.{Sight, sight_of, sight_at}
use Rattle.nm_world.specs.Notions.{IsClean, IsOut, page_value}
use Rattle.nm_world.specs.CopyLaw.{CopyLaw, CopySight, copy_sight, OpCopies}
use Rattle.nm_world.specs.Laws.{IsReady}
use Rattle.nm_world.proofs.Writing.{edit_sets}
use Rattle.nm_copies.specs.Facts.{HasHolders, HasInformed, HasStanding, IsInformed}
use Rattle.nm_copies.proofs.Still.{Stays, stays_tame, tame_leaves, copies_left}
use Rattle.nm_copies.proofs.Quiet.{read_keeps, view_part, entries_before}
use Rattle.nm_copies.proofs.Flags.{by_flag}
use Rattle.nm_copies.proofs.Edits.{law_table}
use Rattle.nm_copies.proofs.Emptied.{emptied, uncached}

-- the operation of a permission
pub known_op : (P : Op → Type 0) (found : Option Op) → IsSomeAnd found P → (o : Op) × ((found ≡ Some o) × P o)
known_op P None h = absurd h
known_op P (Some o) h = (o, (refl, h))

value_if : (t : Bool) (x : ℕ) → t ≡ false → (if t then 0 else x) ≡ x
value_if t x is = rw is refl

not_zero : (n : ℕ) → n ≢ 0 → (n == 0) ≡ false
not_zero n some = by_flag (n == 0) (λ zero. some (eqb-true n 0 zero))

-- the value of a page with a home is the word of its home
pub value_home : (home : ℕ → ℕ) (mem : ℕ → ℕ → ℕ) (b i : ℕ) → home b ≢ 0 → page_value home mem b i ≡ mem (home b - 1) i
value_home home mem b i some = value_if (home b == 0) (mem (home b - 1) i) (not_zero (home b) some)

-- where words may be copied, the first flush ended; where no virtual page is named then, the page is out of the table
copying_late : (g : Geometry) (o : Op) (phase : Phase) → o.phase ≡ phase → IsCopyingPhase g o phase → is_flush_ended g o ≡ true → is_early o.phase (is_flush_ended g o) ≡ false
copying_late g o Held is may ended = absurd may
copying_late g o Cleared is may ended = ap (λ p. is_early p (is_flush_ended g o)) is ∙ ap not ended
copying_late g o Taken is may ended = ap (λ p. is_early p (is_flush_ended g o)) is

copying_unmapped : (g : Geometry) (o : Op) (phase : Phase) → o.phase ≡ phase → IsCopyingPhase g o phase → names_one o.phase o.cleared o.moved ≡ false → IsUnmapped g o
copying_unmapped g o Held is may unnamed = absurd may
copying_unmapped g o Cleared is may unnamed = absurd (let both : true ≡ false = sym (ap (λ p. names_one p o.cleared o.moved) is) ∙ unnamed in cc)
copying_unmapped g o Taken is may unnamed = may.unmapped

some_number : (n x : ℕ) → Some n ≡ Some x → n ≡ x
some_number n x is = cc

-- after a CopyLoad of word n, which is the page's
load_own : (g : Geometry) (k : CopySight) (a b n : ℕ) (o : Op) → OpCopies g k a b (copier_of g o) → is_early o.phase (is_flush_ended g o) ≡ false → (names_one o.phase o.cleared o.moved ≡ false → IsOut g k.pte b) → (names_one o.phase o.cleared o.moved ≡ false → IsClean g k.entry b) → n ≡ page_value k.home k.mem b o.copied → OpCopies g k a b (copier_of g (loaded n o))
load_own g k a b n o h late out clean value = record {
  early = λ early. let both : true ≡ false = sym early ∙ late in absurd cc;
  last = λ x is index u. let same : n ≡ x = some_number n x is in sym same ∙ value;
  copied = h.copied;
  dirty = h.dirty;
  out = λ unnamed has. out unnamed;
  out_clean = λ unnamed has. clean unnamed;
  equal = h.equal;
}

pub known_word : (o : Option ℕ) (P : ℕ → Type 0) → IsSomeAnd o P → (h : ℕ) × ((o ≡ Some h) × P h)
known_word None P h = absurd h
known_word (Some h) P is = (h, (refl, is))

-- the frame that an operation knows as home holds the words of its page
load_value : (g : Geometry) (m : Sight) (view : View) (b i : ℕ) (o : Op) → op_on view b ≡ Some o → IsInformed g m b o → MayCopyLoad g i o → m.mem (home_frame view b) i ≡ page_value m.home m.mem b o.copied
load_value g m view b i o here informed may =
    let home = known_word o.home (λ h. h ≢ 0) may.home in
    let stands : home.0 ≡ m.home b = informed.home home.0 home.1.0 in
    let frame : home_frame view b ≡ m.home b - 1 = ap (λ f. named_frame (known_home f)) here ∙ ap named_frame home.1.0 ∙ ap (λ n. n - 1) stands in
    let some : m.home b ≢ 0 = λ none. home.1.1 (stands ∙ none) in
    ap (λ f. m.mem f i) frame ∙ ap (m.mem (m.home b - 1)) may.next ∙ sym (value_home m.home m.mem b o.copied some)

pub copies-copy_load : (g : Geometry) (m : World) (a b i : ℕ) → HasHolders (sight_of g m).op → HasInformed g (sight_of g m) → HasStanding g (sight_of g m) → IsReady g m a (CopyLoad b i) → CopyLaw g (sight_of g m) → CopyLaw g (sight_of g (moved g m a (CopyLoad b i)))
copies-copy_load g m a b i holders knows standing r h =
    let view : View = m.view a in
    let n : ℕ = m.word (words.Mem (home_frame view b) i) in
    let new : View = after_of g view (CopyLoad b i) (Word n) in
    let word : Where → ℕ = written (words.Mem (home_frame view b) i) n m.word in
    let before : Sight = sight_of g m in
    let after : Sight = sight_at g word (viewing a new m.view) in
    let k = copy_sight before in
    let kept = copy_sight after in
    let keeps = read_keeps (words.Mem (home_frame view b) i) m.word in
    let fill : (c f : ℕ) → after.fill c f ≡ before.fill c f = λ c f. view_part (λ v. fill_of v f) a new m.view refl c in
    let s : Stays g k kept = record { pte = keeps.pte; home = keeps.home; mem = keeps.mem; fill = fill; entry = entries_before a new m.view (λ v e is. is) } in
    let on = known_op (MayCopyLoad g i) (op_on view b) r.allowed.permitted in
    let o : Op = on.0 in
    let may : MayCopyLoad g i o = on.1.1 in
    let informed = knows.informed a b o on.1.0 in
    let own : OpCopies g k a b (copier_of g (loaded n o)) =
    load_own g k a b n o (h.ops a b o on.1.0)
    (copying_late g o o.phase refl may.phase (is-IsFlushEnded g o may.flushed))
    (λ unnamed. emptied g before b o (copying_unmapped g o o.phase refl may.phase unnamed) informed)
    (λ unnamed. uncached g before a b o on.1.0 (copying_unmapped g o o.phase refl may.phase unnamed) informed standing)
    (load_value g before view b i o on.1.0 informed may) in
    law_table g before after a b o (loaded n o) holders
    (edit_sets a b (loaded n) o new m.view (λ o. refl) refl on.1.0) on.1.0
    (record { home = keeps.home; mem = keeps.mem; entry = s.entry })
    (λ c f x is. inr (sym (fill c f) ∙ is))
    (λ j v other of. keeps.pte v)
    (copies_left g k kept a b (copier_of g (loaded n o)) (tame_leaves g k kept (stays_tame g k kept s) a b) own) h
