-- How the words of a machine are read and written by name.
use Rattle.std.proofs.Common.{◌≡◌, ◌≢◌, ℕ, ◌*◌, ◌<◌, length, refl, ap, ◌∙◌, sym, arith}
use Rattle.std.proofs.lemmas.List.{length-set, length-replicate, set-get_or, get_or-set_same, get_or-set_other}
use Rattle.nm_base.specs.Geometry.{Geometry, page_count, frame_count}
use Rattle.nm_view.specs.Views.{off_word}
use Rattle.nm_words.specs.declared.names.Where.{Where}
use Rattle.nm_words.specs.declared.names.Where.TheVariants.{Req, Pte, Stamp, Home, Shadow, Lock, Mark, Ack, Turn, Free, Mem}
use Rattle.nm_words.specs.Names.{IsPlace, free_place, mem_place}
use Rattle.nm_words.specs.declared.exchanges.Change.{Change}
use Rattle.nm_words.specs.declared.exchanges.Change.TheVariants.{Keep}
use Rattle.nm_words.specs.Exchanges.{changed}
use Rattle.nm_words.specs.Words.{Words, word_at, with_word, exchanged, HasSizes, opening_words}
use Rattle.nm_words.proofs.Places.{free_place-lt, mem_place-lt, free-same, mem-same, length-full}

pub ap2 : {A B C : Type 0} (f : A → B → C) {a b : A} {c d : B} → a ≡ b → c ≡ d → f a c ≡ f b d
ap2 f e h = cc

-- a write keeps the sizes
pub HasSizes-with_word : (g : Geometry) (w : Words) (c : Where) (x : ℕ) → HasSizes g w → HasSizes g (with_word g w c x)
HasSizes-with_word g w Req x h = record { pte = h.pte; stamp = h.stamp; home = h.home; shadow = h.shadow; lock = h.lock; mark = h.mark; ack = h.ack; turn = h.turn; free = h.free; mem = h.mem }
HasSizes-with_word g w (Pte v) x h = record { pte = length-set w.pte v x ∙ h.pte; stamp = h.stamp; home = h.home; shadow = h.shadow; lock = h.lock; mark = h.mark; ack = h.ack; turn = h.turn; free = h.free; mem = h.mem }
HasSizes-with_word g w (Stamp v) x h = record { pte = h.pte; stamp = length-set w.stamp v x ∙ h.stamp; home = h.home; shadow = h.shadow; lock = h.lock; mark = h.mark; ack = h.ack; turn = h.turn; free = h.free; mem = h.mem }
HasSizes-with_word g w (Home b) x h = record { pte = h.pte; stamp = h.stamp; home = length-set w.home b x ∙ h.home; shadow = h.shadow; lock = h.lock; mark = h.mark; ack = h.ack; turn = h.turn; free = h.free; mem = h.mem }
HasSizes-with_word g w (Shadow m) x h = record { pte = h.pte; stamp = h.stamp; home = h.home; shadow = length-set w.shadow m x ∙ h.shadow; lock = h.lock; mark = h.mark; ack = h.ack; turn = h.turn; free = h.free; mem = h.mem }
HasSizes-with_word g w (Lock b) x h = record { pte = h.pte; stamp = h.stamp; home = h.home; shadow = h.shadow; lock = length-set w.lock b x ∙ h.lock; mark = h.mark; ack = h.ack; turn = h.turn; free = h.free; mem = h.mem }
HasSizes-with_word g w (Mark b) x h = record { pte = h.pte; stamp = h.stamp; home = h.home; shadow = h.shadow; lock = h.lock; mark = length-set w.mark b x ∙ h.mark; ack = h.ack; turn = h.turn; free = h.free; mem = h.mem }
HasSizes-with_word g w (Ack p) x h = record { pte = h.pte; stamp = h.stamp; home = h.home; shadow = h.shadow; lock = h.lock; mark = h.mark; ack = length-set w.ack p x ∙ h.ack; turn = h.turn; free = h.free; mem = h.mem }
HasSizes-with_word g w (Turn t) x h = record { pte = h.pte; stamp = h.stamp; home = h.home; shadow = h.shadow; lock = h.lock; mark = h.mark; ack = h.ack; turn = length-set w.turn t x ∙ h.turn; free = h.free; mem = h.mem }
HasSizes-with_word g w (Free t k) x h = record { pte = h.pte; stamp = h.stamp; home = h.home; shadow = h.shadow; lock = h.lock; mark = h.mark; ack = h.ack; turn = h.turn; free = length-set w.free (free_place g t k) x ∙ h.free; mem = h.mem }
HasSizes-with_word g w (Mem f i) x h = record { pte = h.pte; stamp = h.stamp; home = h.home; shadow = h.shadow; lock = h.lock; mark = h.mark; ack = h.ack; turn = h.turn; free = h.free; mem = length-set w.mem (mem_place g f i) x ∙ h.mem }

-- at first the sizes are right
pub HasSizes-opening : (g : Geometry) → HasSizes g (opening_words g)
HasSizes-opening g = record {
  pte = length-replicate (length g.vpages) 0;
  stamp = length-replicate (length g.vpages) 0;
  home = length-replicate (page_count g) 0;
  shadow = length-replicate (frame_count g) 0;
  lock = length-replicate (page_count g) 0;
  mark = length-replicate (page_count g) 0;
  ack = length-replicate g.cpus off_word;
  turn = length-replicate (length g.tiers) 0;
  free = length-full g.tiers;
  mem = length-replicate (frame_count g * g.words) 0;
}

-- the word that was written is read
pub word_at-same : (g : Geometry) (w : Words) (c : Where) (x : ℕ) → HasSizes g w → IsPlace g c → word_at g (with_word g w c x) c ≡ x
word_at-same g w Req x h p = refl
word_at-same g w (Pte v) x h p = let lt : v < length w.pte = omega (arith, p, h.pte) in get_or-set_same w.pte v x 0 lt
word_at-same g w (Stamp v) x h p = let lt : v < length w.stamp = omega (arith, p, h.stamp) in get_or-set_same w.stamp v x 0 lt
word_at-same g w (Home b) x h p = let lt : b < length w.home = omega (arith, p, h.home) in get_or-set_same w.home b x 0 lt
word_at-same g w (Shadow m) x h p = let lt : m < length w.shadow = omega (arith, p, h.shadow) in get_or-set_same w.shadow m x 0 lt
word_at-same g w (Lock b) x h p = let lt : b < length w.lock = omega (arith, p, h.lock) in get_or-set_same w.lock b x 0 lt
word_at-same g w (Mark b) x h p = let lt : b < length w.mark = omega (arith, p, h.mark) in get_or-set_same w.mark b x 0 lt
word_at-same g w (Ack p) x h q = let lt : p < length w.ack = omega (arith, q, h.ack) in get_or-set_same w.ack p x 0 lt
word_at-same g w (Turn t) x h p = let lt : t < length w.turn = omega (arith, p, h.turn) in get_or-set_same w.turn t x 0 lt
word_at-same g w (Free t k) x h p = let lt : free_place g t k < length w.free = omega (arith, free_place-lt g t k p.0 p.1, h.free) in get_or-set_same w.free (free_place g t k) x 0 lt
word_at-same g w (Mem f i) x h p = let lt : mem_place g f i < length w.mem = omega (arith, mem_place-lt g f i p.0 p.1, h.mem) in get_or-set_same w.mem (mem_place g f i) x 0 lt

-- every other word is as before
pub word_at-other : (g : Geometry) (w : Words) (c : Where) (x : ℕ) (d : Where) → IsPlace g c → IsPlace g d → d ≢ c → word_at g (with_word g w c x) d ≡ word_at g w d
word_at-other g w Req x Req p q ne = absurd (ne refl)
word_at-other g w (Pte v) x (Pte u) p q ne = get_or-set_other w.pte v u x 0 (λ e. ne (ap Pte e))
word_at-other g w (Stamp v) x (Stamp u) p q ne = get_or-set_other w.stamp v u x 0 (λ e. ne (ap Stamp e))
word_at-other g w (Home b) x (Home a) p q ne = get_or-set_other w.home b a x 0 (λ e. ne (ap Home e))
word_at-other g w (Shadow m) x (Shadow n) p q ne = get_or-set_other w.shadow m n x 0 (λ e. ne (ap Shadow e))
word_at-other g w (Lock b) x (Lock a) p q ne = get_or-set_other w.lock b a x 0 (λ e. ne (ap Lock e))
word_at-other g w (Mark b) x (Mark a) p q ne = get_or-set_other w.mark b a x 0 (λ e. ne (ap Mark e))
word_at-other g w (Ack b) x (Ack a) p q ne = get_or-set_other w.ack b a x 0 (λ e. ne (ap Ack e))
word_at-other g w (Turn t) x (Turn u) p q ne = get_or-set_other w.turn t u x 0 (λ e. ne (ap Turn e))
word_at-other g w (Free t k) x (Free u j) p q ne = get_or-set_other w.free (free_place g t k) (free_place g u j) x 0 (λ e. let same = free-same g u j t k q.0 p.0 q.1 p.1 e in ne (ap2 Free same.0 same.1))
word_at-other g w (Mem f i) x (Mem m j) p q ne = get_or-set_other w.mem (mem_place g f i) (mem_place g m j) x 0 (λ e. let same = mem-same g m j f i q.1 p.1 e in ne (ap2 Mem same.0 same.1))
word_at-other g w c x d p q ne = refl

-- a word that is written again leaves the words
pub with_word-same : (g : Geometry) (w : Words) (c : Where) → with_word g w c (word_at g w c) ≡ w
with_word-same g w Req = refl
with_word-same g w (Pte v) = ap (λ xs. record w { pte = xs }) (set-get_or w.pte v 0)
with_word-same g w (Stamp v) = ap (λ xs. record w { stamp = xs }) (set-get_or w.stamp v 0)
with_word-same g w (Home b) = ap (λ xs. record w { home = xs }) (set-get_or w.home b 0)
with_word-same g w (Shadow m) = ap (λ xs. record w { shadow = xs }) (set-get_or w.shadow m 0)
with_word-same g w (Lock b) = ap (λ xs. record w { lock = xs }) (set-get_or w.lock b 0)
with_word-same g w (Mark b) = ap (λ xs. record w { mark = xs }) (set-get_or w.mark b 0)
with_word-same g w (Ack p) = ap (λ xs. record w { ack = xs }) (set-get_or w.ack p 0)
with_word-same g w (Turn t) = ap (λ xs. record w { turn = xs }) (set-get_or w.turn t 0)
with_word-same g w (Free t k) = ap (λ xs. record w { free = xs }) (set-get_or w.free (free_place g t k) 0)
with_word-same g w (Mem f i) = ap (λ xs. record w { mem = xs }) (set-get_or w.mem (mem_place g f i) 0)

-- each exchange, a read among them, is a write of the changed word
pub exchanged-with_word : (g : Geometry) (w : Words) (c : Where) (change : Change) → exchanged g c change w ≡ with_word g w c (changed change (word_at g w c))
exchanged-with_word g w c Keep = sym (with_word-same g w c)
exchanged-with_word g w c change = refl
