-- The words that replies carry, by what they are.
use Rattle.std.proofs.Common.{◌≡◌, ◌≢◌, ℕ, false, Option, Some, None, IsSome, IfSome, ◌⊎◌, refl, sym, ap, ◌∙◌, inl, inr, arith}
use Rattle.std.specs.Prelude.{option_map}
use Rattle.std.specs.Int.{bit_at}
use Rattle.std.proofs.lemmas.Bool.{cases_eq, eqb-true}
use Rattle.std.proofs.lemmas.Nat.Bits.{bit_at-zero}
use Rattle.nm_base.specs.Geometry.{Geometry, backing_page}
use Rattle.nm_base.specs.HomeWord.{home_word}
use Rattle.nm_base.specs.PageWord.{is_writable, frame_of}
use Rattle.nm_base.specs.Ranges.{IsFrame}
use Rattle.nm_view.specs.declared.view.Owned.{Owned}
use Rattle.nm_view.specs.Lists.{find}
use Rattle.nm_view.specs.Views.{Op}
use Rattle.nm_view.specs.Operations.{op_on, op_under, owned_frame, fill_of}
use Rattle.nm_view.proofs.Items.{some_same}
use Rattle.nm_event.specs.Fitting.{IsTableWord, IsAsKnown, IsTableReply, IsNotOwned}
use Rattle.nm_world.specs.Worlds.{World, pte_at, home_at, shadow_at, op_at}
use Rattle.nm_world.specs.Parts.{lore_of}
use Rattle.nm_world.specs.Sights.{sight_of}
use Rattle.nm_world.specs.FrameLaw.{Claim, Bit, AtHome, AtShadow, By, Claims, names_of}
use Rattle.nm_world.specs.LockLaw.{IsTrueOp}
use Rattle.nm_world.specs.Laws.{AreAll}
use Rattle.nm_world.proofs.Options.{if_more, if_all}
use Rattle.nm_world.proofs.Roles.{one_claim}

-- Table words.

zero_flags : (b : ℕ) (k : ℕ) → b ≡ 0 → bit_at b k ≡ 1 → ⊥
zero_flags b k zero set = omega (arith, set, ap (λ n. bit_at n k) zero ∙ bit_at-zero k)

-- each table word is one of v
table_word : (g : Geometry) (m : World) (v : ℕ) → AreAll g m → IsTableWord g v (pte_at m v)
table_word g m v h =
    elim (cases_eq (pte_at m v) 0) [
      | inl zero ↦ record {
        layout = inl zero;
        frame = λ some. absurd (some zero);
        writable = λ on. absurd (zero_flags (pte_at m v) 2 zero (eqb-true (bit_at (pte_at m v) 2) 1 on));
        saved = λ on. absurd (zero_flags (pte_at m v) 5 zero (eqb-true (bit_at (pte_at m v) 5) 1 on));
      }
      | inr some ↦
          let is = (h.frames.words v some).is in
          record {
            layout = inr is.layout;
            frame = λ _. (h.bounds.table v).frame;
            writable = is.writable;
            saved = is.saved;
          }
    ]

-- beside a shadow word of the home that is not 0 no table word of the page is writable
unwritable : (g : Geometry) (m : World) (v page s : ℕ) → backing_page g v ≡ Some page → AreAll g m → ((f : ℕ) → home_at m page ≡ home_word f → s ≡ shadow_at m f) → s ≢ 0 → is_writable (pte_at m v) ≡ false
unwritable g m v page s of h word_of some =
    elim (cases_eq (pte_at m v) 0) [
      | inl zero ↦ ap is_writable zero
      | inr mapped ↦
          let map = h.frames.words v mapped in
          let same : map.page ≡ page = some_same map.page page (sym map.of ∙ of) in
          let home : home_at m page ≡ home_word (frame_of (pte_at m v)) = ap (home_at m) (sym same) ∙ map.is.home in
          let at : s ≡ shadow_at m (frame_of (pte_at m v)) = word_of (frame_of (pte_at m v)) home in
          map.is.unshaded (λ none. some (at ∙ none))
    ]

-- what an operation on the page of v knows of its table word is so
as_known : (g : Geometry) (m : World) (a v page : ℕ) (o : Op) → backing_page g v ≡ Some page → op_at m a page ≡ Some o → AreAll g m → IsAsKnown v (pte_at m v) o
as_known g m a v page o of here h =
    let known : IsTrueOp m page (lore_of o) = h.locks.known a page (lore_of o) (ap (option_map lore_of) here) in
    record {
      looked = known.looked v;
      taken = known.taken v;
      home = if_more o.home _ _ (λ x _ is. elim (cases_eq (pte_at m v) 0) [
        | inl zero ↦ inl zero
        | inr some ↦
            let map = h.frames.words v some in
            let same : map.page ≡ page = some_same map.page page (sym map.of ∙ of) in
            inr (sym map.is.home ∙ ap (home_at m) same ∙ sym is)
      ]) known.home;
      shadow = if_more o.shadow _ _ (λ s at word_of some. unwritable g m v page s of h word_of some) known.shadow;
    }

known_under : (g : Geometry) (m : World) (a v : ℕ) (page : Option ℕ) → backing_page g v ≡ page → AreAll g m → IfSome (op_under (m.view a) page) (IsAsKnown v (pte_at m v))
known_under g m a v None of h = tt
known_under g m a v (Some page) of h = if_all (op_on (m.view a) page) (IsAsKnown v (pte_at m v)) (λ o here. as_known g m a v page o of here h)

-- a table word fits, whichever action carries it
pub table_reply : (g : Geometry) (m : World) (a v : ℕ) → AreAll g m → IsTableReply g (m.view a) v (pte_at m v)
table_reply g m a v h = record { table = table_word g m v h; known = known_under g m a v (backing_page g v) refl h }

-- Owned frames are no homes, no shadows, and not free.

is_there : {A : Type 0} (o : Option A) → (o ≡ None) ⊎ IsSome o
is_there None = inl refl
is_there (Some x) = inr cc

mapped_there : {A B : Type 0} (f : A → B) (o : Option A) → IsSome o → IsSome (option_map f o)
mapped_there f None h = absurd (let none : ⊥ = cc in none)
mapped_there f (Some x) h = cc

not_by : (c : Claim) (a : ℕ) → (c ≡ Bit) ⊎ (((b : ℕ) × (c ≡ AtHome b)) ⊎ ((k : ℕ) × (c ≡ AtShadow k))) → By a ≡ c → ⊥
not_by c a (inl e) is = cc
not_by c a (inr (inl (b, e))) is = cc
not_by c a (inr (inr (k, e))) is = cc

-- a frame that has another name is owned by nobody
pub not_owned : (g : Geometry) (m : World) (a f : ℕ) (c : Claim) → AreAll g m → IsFrame g f → Claims (names_of (sight_of g m)) c f → (c ≡ Bit) ⊎ (((b : ℕ) × (c ≡ AtHome b)) ⊎ ((k : ℕ) × (c ≡ AtShadow k))) → IsNotOwned (m.view a) f
not_owned g m a f c h frame is other =
    elim (is_there (find owned_frame f (m.view a).owned)) [
      | inl none ↦ none
      | inr some ↦
          let mine : IsSome (fill_of (m.view a) f) = mapped_there (λ (w : Owned). w.fill) (find owned_frame f (m.view a).owned) some in
          absurd (not_by c a other (one_claim g (names_of (sight_of g m)) f (By a) c h.frames.roles frame mine is))
    ]
