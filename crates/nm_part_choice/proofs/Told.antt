-- Actions that are made again and again, or one after the other, each with the word that it was answered.
use Rattle.std.proofs.Common.{◌≡◌, ◌≢◌, ◌⊎◌, inl, inr, ⊎_elim, ℕ, suc, pred, ◌+◌, ◌<◌, ◌≤◌, List, [], ◌∷◌, ◌++◌, length, All, refl, sym, ap, ap₂, ◌∙◌, arith, append_assoc}
use Rattle.std.proofs.lemmas.Bool.{cases_eq}
use Rattle.std.proofs.lemmas.List.Elements.{All-head, All-tail}
use Rattle.nm_action.specs.declared.action.Action.{Action}
use Rattle.nm_action.specs.declared.action.Action.TheVariants.{TakeTurn, Scan, SeeAck, Lock}
use Rattle.nm_action.specs.declared.action.Reply.{Reply}
use Rattle.nm_action.specs.declared.action.Reply.TheVariants.{Done, Word, Busy}
use Rattle.nm_action.specs.Own.{Own}
use Rattle.nm_shoot.specs.Shootdown.{asked, asked_from, IsAnswered}
use Rattle.nm_pool.specs.Pool.{refused, scanned}
use Rattle.nm_shadow_fault.specs.Locking.{lock_refused}
use Rattle.nm_choice.specs.Deterministic.{Diverge, AreRepliesApart}
use Rattle.nm_choice.proofs.Diverging.{part-here, part-next, part-behind, part-as}
use Rattle.nm_choice.proofs.Answers.{words-apart, busies-apart, done-not-busy, busy-not-done}
use Rattle.nm_choice.proofs.Acts.{part-replies}

-- the lists of these words diverge, or the words are the same
abbrev pub AreToldSo : Own → Own → List ℕ → List ℕ → Type 0
AreToldSo own other words others = Diverge AreRepliesApart own other ⊎ (words ≡ others)

-- one answer more, of a kind of reply that tells its word
one_more : (action : Action) (reply : ℕ → Reply) (w v : ℕ) (words others : List ℕ) (own other : Own)
    → (w ≢ v → reply w ≢ reply v) → (w ≡ v) ⊎ (w ≢ v) → AreToldSo own other words others → AreToldSo ((action, reply w) ∷ own) ((action, reply v) ∷ other) (w ∷ words) (v ∷ others)
one_more action reply w v words others own other apart (inl same) (inl d) =
    inl (part-next AreRepliesApart (action, reply w) (action, reply v) own other (ap (λ (n : ℕ). (action, reply n)) same) d)
one_more action reply w v words others own other apart (inl same) (inr rest) = inr (ap₂ (λ (n : ℕ) (l : List ℕ). n ∷ l) same rest)
one_more action reply w v words others own other apart (inr differ) rest = inl (part-replies action (reply w) (reply v) own other (apart differ))

-- a turn is taken after some refusals
pub turn-one : (tier : ℕ) (words others : List ℕ) (rest more : Own) → AreToldSo (refused tier words ++ (TakeTurn tier, Done) ∷ rest) (refused tier others ++ (TakeTurn tier, Done) ∷ more) words others
turn-one tier [] [] rest more = inr refl
turn-one tier [] (v ∷ others) rest more = inl (part-replies (TakeTurn tier) Done (Busy v) rest (refused tier others ++ (TakeTurn tier, Done) ∷ more) (done-not-busy v))
turn-one tier (w ∷ words) [] rest more = inl (part-replies (TakeTurn tier) (Busy w) Done (refused tier words ++ (TakeTurn tier, Done) ∷ rest) more (busy-not-done w))
turn-one tier (w ∷ words) (v ∷ others) rest more =
    one_more (TakeTurn tier) Busy w v words others (refused tier words ++ (TakeTurn tier, Done) ∷ rest) (refused tier others ++ (TakeTurn tier, Done) ∷ more) (busies-apart w v) (cases_eq w v) (turn-one tier words others rest more)

-- so is a lock
pub lock-one : (page : ℕ) (words others : List ℕ) (rest more : Own) → AreToldSo (lock_refused page words ++ (Lock page, Done) ∷ rest) (lock_refused page others ++ (Lock page, Done) ∷ more) words others
lock-one page [] [] rest more = inr refl
lock-one page [] (v ∷ others) rest more = inl (part-replies (Lock page) Done (Busy v) rest (lock_refused page others ++ (Lock page, Done) ∷ more) (done-not-busy v))
lock-one page (w ∷ words) [] rest more = inl (part-replies (Lock page) (Busy w) Done (lock_refused page words ++ (Lock page, Done) ∷ rest) more (busy-not-done w))
lock-one page (w ∷ words) (v ∷ others) rest more =
    one_more (Lock page) Busy w v words others (lock_refused page words ++ (Lock page, Done) ∷ rest) (lock_refused page others ++ (Lock page, Done) ∷ more) (busies-apart w v) (cases_eq w v) (lock-one page words others rest more)

-- a tier is scanned
pub scan-one : (tier k : ℕ) (words others : List ℕ) → length words ≡ length others → AreToldSo (scanned tier k words) (scanned tier k others) words others
scan-one tier k [] [] same = inr refl
scan-one tier k [] (v ∷ others) same = absurd (omega (arith, same))
scan-one tier k (w ∷ words) [] same = absurd (omega (arith, same))
scan-one tier k (w ∷ words) (v ∷ others) same =
    one_more (Scan tier k) Word w v words others (scanned tier (k + 1) words) (scanned tier (k + 1) others) (words-apart w v) (cases_eq w v) (scan-one tier (k + 1) words others (omega (arith, same)))

-- the acknowledgement of a processor is read up to the first that is at least a number
apart_by : (number w v : ℕ) → w < number → number ≤ v → w ≢ v
apart_by number w v small large same = omega (arith, small, large, same)

up_to : (p number : ℕ) (early others : List ℕ) (last end : ℕ) (rest more : Own) → All (λ w. w < number) early → All (λ w. w < number) others → number ≤ last → number ≤ end
    → AreToldSo (asked p (early ++ last ∷ []) ++ rest) (asked p (others ++ end ∷ []) ++ more) (early ++ last ∷ []) (others ++ end ∷ [])
up_to p number [] [] last end rest more below below_too enough enough_too =
    one_more (SeeAck p) Word last end [] [] rest more (words-apart last end) (cases_eq last end) (inr refl)
up_to p number [] (v ∷ others) last end rest more below below_too enough enough_too =
    inl (part-replies (SeeAck p) (Word last) (Word v) rest (asked p (others ++ end ∷ []) ++ more)
    (words-apart last v (λ same. apart_by number v last (All-head (λ w. w < number) v others below_too) enough (sym same))))
up_to p number (w ∷ early) [] last end rest more below below_too enough enough_too =
    inl (part-replies (SeeAck p) (Word w) (Word end) (asked p (early ++ last ∷ []) ++ rest) more
    (words-apart w end (apart_by number w end (All-head (λ w. w < number) w early below) enough_too)))
up_to p number (w ∷ early) (v ∷ others) last end rest more below below_too enough enough_too =
    one_more (SeeAck p) Word w v (early ++ last ∷ []) (others ++ end ∷ []) (asked p (early ++ last ∷ []) ++ rest) (asked p (others ++ end ∷ []) ++ more) (words-apart w v) (cases_eq w v)
    (up_to p number early others last end rest more (All-tail (λ w. w < number) w early below) (All-tail (λ w. w < number) v others below_too) enough enough_too)

ask_one : (p number : ℕ) (words others : List ℕ) (rest more : Own) → IsAnswered number words → IsAnswered number others
    → AreToldSo (asked p words ++ rest) (asked p others ++ more) words others
ask_one p number words others rest more h k =
    ⊎_elim
    (λ d. inl (part-as AreRepliesApart (asked p words ++ rest) (asked p others ++ more) (asked p (h.early ++ h.last ∷ []) ++ rest) (asked p (k.early ++ k.last ∷ []) ++ more) (ap (λ (l : List ℕ). asked p l ++ rest) h.is) (ap (λ (l : List ℕ). asked p l ++ more) k.is) d))
    (λ same. inr (h.is ∙ same ∙ sym k.is))
    (up_to p number h.early k.early h.last k.last rest more h.below k.below h.enough k.enough)

from_next : (p : ℕ) (ws vs : List ℕ) (words others : List (List ℕ)) → Diverge AreRepliesApart (asked p ws ++ asked_from (p + 1) words) (asked p vs ++ asked_from (p + 1) others) ⊎ (ws ≡ vs)
    → Diverge AreRepliesApart (asked_from (p + 1) words) (asked_from (p + 1) others) ⊎ (words ≡ others)
    → Diverge AreRepliesApart (asked p ws ++ asked_from (p + 1) words) (asked p vs ++ asked_from (p + 1) others) ⊎ (ws ∷ words ≡ vs ∷ others)
from_next p ws vs words others (inl d) rest = inl d
from_next p ws vs words others (inr same) (inl d) =
    inl (part-as AreRepliesApart (asked p ws ++ asked_from (p + 1) words) (asked p vs ++ asked_from (p + 1) others) (asked p ws ++ asked_from (p + 1) words) (asked p ws ++ asked_from (p + 1) others)
    refl (ap (λ (l : List ℕ). asked p l ++ asked_from (p + 1) others) (sym same)) (part-behind AreRepliesApart (asked p ws) (asked_from (p + 1) words) (asked_from (p + 1) others) d))
from_next p ws vs words others (inr same) (inr rest) = inr (ap₂ (λ (l : List ℕ) (m : List (List ℕ)). l ∷ m) same rest)

-- all processors are asked
pub asks-one : (p number : ℕ) (words others : List (List ℕ)) → length words ≡ length others → All (IsAnswered number) words → All (IsAnswered number) others
    → Diverge AreRepliesApart (asked_from p words) (asked_from p others) ⊎ (words ≡ others)
asks-one p number [] [] size h k = inr refl
asks-one p number [] (vs ∷ others) size h k = absurd (omega (arith, size))
asks-one p number (ws ∷ words) [] size h k = absurd (omega (arith, size))
asks-one p number (ws ∷ words) (vs ∷ others) size h k =
    from_next p ws vs words others (ask_one p number ws vs (asked_from (p + 1) words) (asked_from (p + 1) others) (All-head (IsAnswered number) ws words h) (All-head (IsAnswered number) vs others k))
    (asks-one (p + 1) number words others (omega (arith, size)) (All-tail (IsAnswered number) ws words h) (All-tail (IsAnswered number) vs others k))
