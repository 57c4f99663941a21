-- Replies that name frames: Scan and Read.
use Rattle.std.proofs.Common.{◌≡◌, ◌≢◌, ℕ, ◌+◌, ◌-◌, ◌*◌, ◌<◌, ◌≤◌, true, Option, Some, None, IfSome, refl, sym, ap, subst, ◌∙◌, inl, inr, arith}
use Rattle.std.specs.Prelude.{option_map}
use Rattle.std.specs.Int.{bit_at}
use Rattle.std.proofs.lemmas.Bool.{cases_eq, cases_lt, eq-eqb, lt-ltb}
use Rattle.std.proofs.lemmas.Nat.Bits.{bit_at_above}
use Rattle.nm_base.specs.Geometry.{Geometry, IsInTier, backing_page, first_frame, tier_of, frame_count}
use Rattle.nm_base.specs.HomeWord.{home_word}
use Rattle.nm_base.specs.PageWord.{frame_of}
use Rattle.nm_base.specs.Ranges.{IsFrame, IsTier}
use Rattle.nm_base.specs.FreeWords.{free_base, free_index, free_bit}
use Rattle.nm_base.specs.ShadowWord.{NamesShadow, shadow_frame}
use Rattle.nm_base.proofs.ShadowWords.{shadow_frame-NamesShadow}
use Rattle.nm_base.proofs.Tiers.{tier_of-IsInTier, IsInTier-from_first, IsInTier-lt}
use Rattle.nm_view.specs.Lists.{find, first}
use Rattle.nm_view.specs.Views.{Op}
use Rattle.nm_view.specs.Opening.{IsActor}
use Rattle.nm_view.specs.Operations.{page_of}
use Rattle.nm_view.proofs.Items.{all_find, some_same, not_none}
use Rattle.nm_view.proofs.Finds.{find_number}
use Rattle.nm_words.specs.declared.names.Where.TheVariants as words
use Rattle.nm_step.specs.Table.{free_word_of}
use Rattle.nm_shape.specs.Keyed.{IsOpKeyed}
use Rattle.nm_event.specs.Fitting.{IsHomeRead, IsShadowRead, IsScanOf, Agrees}
use Rattle.nm_world.specs.Worlds.{World, pte_at, home_at, shadow_at, op_at}
use Rattle.nm_world.specs.Parts.{lore_of}
use Rattle.nm_world.specs.Sights.{sight_of, free_in}
use Rattle.nm_world.specs.FrameLaw.{Bit, AtHome, AtShadow, names_of}
use Rattle.nm_world.specs.LockLaw.{IsTrueOp}
use Rattle.nm_world.specs.Laws.{AreAll}
use Rattle.nm_world.proofs.Roles.{one_claim}
use Rattle.nm_world.proofs.Options.{if_more}
use Rattle.nm_fits.proofs.Words.{not_owned}
use Rattle.nm_fits.proofs.Sums.{all_found}

-- what an operation that is found knows is so
pub known_op : (g : Geometry) (m : World) (a b : ℕ) (o : Op) → AreAll g m → op_at m a b ≡ Some o → IsTrueOp m b (lore_of o)
known_op g m a b o h is = h.locks.known a b (lore_of o) (ap (option_map lore_of) is)

-- a known home is what is found
known_home : (o : Option ℕ) (x n : ℕ) → o ≡ Some x → IfSome o (λ h. h ≡ n) → x ≡ n
known_home None x n is h = absurd (not_none x is)
known_home (Some y) x n is h = sym (some_same y x is) ∙ h

both_free : (t u k j : ℕ) → t ≡ u → k ≡ j → words.Free t k ≡ words.Free u j
both_free t u k j e h = cc

bit_or_home : (b : ℕ) → AtHome b ≡ Bit → ⊥
bit_or_home b e = cc

-- the frame of a set bit is free
scanned_free : (g : Geometry) (m : World) (t k bit : ℕ) → AreAll g m → IsTier g t → bit_at (m.word (words.Free t k)) bit ≡ 1 → (free_in g m.word (free_base g t k + bit) ≡ true) × IsFrame g (free_base g t k + bit)
scanned_free g m t k bit h tier set =
    let f : ℕ = free_base g t k + bit in
    let low : bit < 64 = elim (cases_lt bit 64) [ inl low ↦ low | inr high ↦ absurd (omega (arith, set, bit_at_above (m.word (words.Free t k)) 64 bit (h.bounds.words (words.Free t k)) high)) ] in
    let at : first_frame g t + (64 * k + bit) ≡ f = omega arith in
    let lies : IsInTier g f t = subst (λ (x : ℕ). IsInTier g x t) at (IsInTier-from_first g t (64 * k + bit) tier (h.bounds.free t k bit set)) in
    let of : tier_of g f ≡ t = sym (tier_of-IsInTier g f t lies) in
    let start : first_frame g (tier_of g f) ≡ first_frame g t = ap (first_frame g) of in
    let index : free_index g f ≡ k = omega (arith, start, low) in
    let place : free_bit g f ≡ bit = omega (arith, start, low) in
    let there : free_word_of g f ≡ words.Free t k = both_free (tier_of g f) t (free_index g f) k of index in
    let on : bit_at (m.word (free_word_of g f)) (free_bit g f) ≡ 1 = ap (λ c. bit_at (m.word c) (free_bit g f)) there ∙ ap (bit_at (m.word (words.Free t k))) place ∙ set in
    let frame : IsFrame g f = IsInTier-lt g f t lies in
    (rw (lt-ltb f (frame_count g) frame) (eq-eqb _ 1 on), frame)

-- what a scan gives may be free
pub scan_fits : (g : Geometry) (m : World) (a t k : ℕ) → AreAll g m → IsActor g a → IsTier g t → IsScanOf g (m.view a) t k (m.word (words.Free t k))
scan_fits g m a t k h actor tier bit set =
    let f : ℕ = free_base g t k + bit in
    let free = scanned_free g m t k bit h tier set in
    record {
      within = h.bounds.free t k bit set;
      owned = not_owned g m a f Bit h free.1 free.0 (inl refl);
      home = all_found page_of (λ o. o.home ≢ Some (home_word f)) (m.view a).ops (h.shape.shape a actor).keyed.ops_once
          (λ b o is knows.
          let home : home_word f ≡ home_at m b = known_home o.home (home_word f) (home_at m b) knows (known_op g m a b o h is).home in
          bit_or_home b (one_claim g (names_of (sight_of g m)) f (AtHome b) Bit h.frames.roles free.1 (sym home) free.0));
    }

-- what a Read of the home gives fits
pub home_read_fits : (g : Geometry) (m : World) (a b : ℕ) (o : Op) → AreAll g m → IsActor g a → op_at m a b ≡ Some o → IsHomeRead g (m.view a) (home_at m b) o
home_read_fits g m a b o h actor is =
    let known = known_op g m a b o h is in
    let keyed : IsOpKeyed g o = all_find page_of b (IsOpKeyed g) (m.view a).ops o (h.shape.shape a actor).keyed.ops is in
    let page : o.page ≡ b = find_number page_of b (m.view a).ops o is in
    record {
      known = if_more o.home _ _ (λ x _ at. sym at) known.home;
      news = λ _. record {
        range = h.bounds.homes b;
        mapped = all_found first (λ p. p.1 ≢ 0 → find first p.0 o.taken ≡ None → home_word (frame_of p.1) ≡ home_at m b) o.looked keyed.looked.once
            (λ v p found some none.
            let same : p.0 ≡ v = find_number first v o.looked p found in
            let agrees : Agrees p.1 (pte_at m v) = subst (λ (q : Option (ℕ × ℕ)). IfSome q (λ p. Agrees p.1 (pte_at m v))) found (known.looked v (ap (λ k. find first k o.taken) (sym same) ∙ none)) in
            let map = h.frames.words v (λ zero. some (agrees.absent.1 zero)) in
            let of : backing_page g v ≡ Some o.page = ap (backing_page g) (sym same) ∙ all_find first v (λ p. backing_page g p.0 ≡ Some o.page) o.looked p keyed.looked.own found in
            let at : map.page ≡ b = some_same map.page o.page (sym map.of ∙ of) ∙ page in
            ap home_word (sym agrees.frame) ∙ sym map.is.home ∙ ap (home_at m) at);
      };
      free = λ some.
          let f : ℕ = home_at m b - 1 in
          let home : home_at m b ≡ home_word f = omega (arith, some) in
          let frame : IsFrame g f = omega (arith, some, h.bounds.homes b) in
          not_owned g m a f (AtHome b) h frame home (inr (inl (b, refl)));
    }

same_page : (b c : ℕ) → AtHome b ≡ AtHome c → b ≡ c
same_page b c e = cc

-- what a Read of the home's shadow word gives fits
pub shadow_read_fits : (g : Geometry) (m : World) (a b k : ℕ) (o : Op) → frame_count g ≤ 4096 → AreAll g m → IsFrame g k → op_at m a b ≡ Some o → o.home ≡ Some (home_word k) → IsShadowRead g (m.view a) k (shadow_at m k) o
shadow_read_fits g m a b k o few h frame is knows =
    let known = known_op g m a b o h is in
    let page : o.page ≡ b = find_number page_of b (m.view a).ops o is in
    let home : home_at m b ≡ home_word k = sym (known_home o.home (home_word k) (home_at m b) knows known.home) in
    record {
      known = if_more o.shadow _ _ (λ x _ word_of. sym (word_of k home)) known.shadow;
      news = λ _. elim (cases_eq (shadow_at m k) 0) [
        | inl zero ↦ inl zero
        | inr some ↦
            let master = h.shadows.masters k some in
            let same : master.page ≡ o.page = same_page master.page b (one_claim g (names_of (sight_of g m)) k (AtHome master.page) (AtHome b) h.frames.roles frame master.home home) ∙ sym page in
            inr (master.frame, record { names = subst (λ (n : ℕ). NamesShadow g (shadow_at m k) n master.frame) same master.names; slower = master.slower })
      ];
      free = λ some.
          let master = h.shadows.masters k some in
          let f : ℕ = shadow_frame (shadow_at m k) in
          let at : f ≡ master.frame = shadow_frame-NamesShadow g (shadow_at m k) master.page master.frame few master.names in
          not_owned g m a f (AtShadow k) h (subst (IsFrame g) (sym at) master.names.range) (record { some = some; is = refl }) (inr (inr (k, refl)));
    }
