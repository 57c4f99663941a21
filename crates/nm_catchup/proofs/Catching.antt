-- The steps of a catch up.
use Rattle.std.proofs.Common.{◌≡◌, inl, inr, ℕ, ◌+◌, ◌<◌, ◌++◌, ◌∷◌, [], true, false, Option, Some, None, IsSome, refl, sym, ap, ◌∙◌, subst, arith}
use Rattle.std.proofs.lemmas.Bool.{cases_lt}
use Rattle.std.proofs.lemmas.List.{append-nil}
use Rattle.nm_base.specs.Geometry.{Geometry}
use Rattle.nm_action.specs.declared.action.AckTo.TheVariants.{Seen}
use Rattle.nm_action.specs.declared.action.Action.{Action}
use Rattle.nm_action.specs.declared.action.Action.TheVariants.{Peek, Poll, Ack}
use Rattle.nm_action.specs.declared.action.Reply.{Reply}
use Rattle.nm_action.specs.declared.action.Reply.TheVariants.{Done, Word, Busy, Lost}
use Rattle.nm_action.specs.declared.turn.Step.{Step}
use Rattle.nm_action.specs.Own.{Own}
use Rattle.nm_view.specs.Lists.{find}
use Rattle.nm_view.specs.Views.{View}
use Rattle.nm_view.specs.Operations.{peeked_page}
use Rattle.nm_permit.specs.Permitted.{Allowed}
use Rattle.nm_event.specs.Fitting.{Fits}
use Rattle.nm_event.specs.After.{after_of, view_after}
use Rattle.nm_part.specs.Patterns.{Ends, Follows, IsLeft}
use Rattle.nm_part.proofs.OwnLemmas.{view-push}
use Rattle.nm_part.proofs.Patterns.{left-as, either-yes, either-other, ends-now}
use Rattle.nm_compose.specs.Acts.{IsAct}
use Rattle.nm_xlat.specs.declared.translations.Entry.{Entry}
use Rattle.nm_xlat.specs.Translations.{IsLeastFrom, HasNoneFrom}
use Rattle.nm_desk.specs.Desk.{desk, IsLoud}
use Rattle.nm_desk.proofs.AtDesk.{desk-stays}
use Rattle.nm_catchup.specs.declared.cache.TranslationCache.{TranslationCache}
use Rattle.nm_catchup.specs.declared.cache.CatchStage.{CatchStage}
use Rattle.nm_catchup.specs.declared.cache.CatchStage.TheVariants.{Resting, Polling, Peeking, Acknowledging}
use Rattle.nm_catchup.specs.CatchUp.{Kept, entry_of, is_news, peeked_with, told_word, Acknowledges, PeeksFrom, CatchesUp}
use Rattle.nm_catchup.specs.Catching.{kept_of, fresh_peek, GoesOn, IsKeptWith, HasPeeked, KnownInCatch, catch_action, catch_left, IsCatching, AwaitsCatch, IsCatchAsked, IsCaughtUp, IsCatchStep, IsPeekingFrom}
use Rattle.nm_catchup.proofs.Acts.{left-acts, begun-acts}
use Rattle.nm_catchup.proofs.Entries.{kept-as, polled-news, peeked-one, acknowledged}
use Rattle.nm_catchup.proofs.Loops.{peek-next, ack-next, left-can}

-- The pages that have no entry between those that were peeked and the next.

none-is : (o : Option Entry) (e : Entry) → o ≡ None → o ≡ Some e → ⊥
none-is o e n s = cc

peeked-below : (g : Geometry) (number from page w : ℕ) (kept : Kept) (view : View) → HasPeeked g number from kept view → IsLeastFrom (entry_of kept) from page → (e : Entry) → w < page → entry_of kept w ≡ Some e
    → find peeked_page w view.peeked ≡ Some (fresh_peek w e.stamp)
peeked-below g number from page w kept view has least e lt there = elim (cases_lt w from) [
  | inl before ↦ has.peeked w e before there
  | inr after ↦ absurd (none-is (entry_of kept w) e (least.least w after lt) there)
]

peeked-all : (g : Geometry) (number from w : ℕ) (kept : Kept) (view : View) → HasPeeked g number from kept view → HasNoneFrom (entry_of kept) from → (e : Entry) → entry_of kept w ≡ Some e
    → find peeked_page w view.peeked ≡ Some (fresh_peek w e.stamp)
peeked-all g number from w kept view has none e there = elim (cases_lt w from) [
  | inl before ↦ has.peeked w e before there
  | inr after ↦ absurd (none-is (entry_of kept w) e (none w after) there)
]

-- An action is given.

permitted-at : (g : Geometry) (stage : CatchStage) (kept : Kept) (view : View) → KnownInCatch g stage kept view → Allowed g view (catch_action stage)
permitted-at g Resting kept view known = absurd known
permitted-at g Polling kept view known = record { range = tt; permitted = known.processor }
permitted-at g (Peeking number page) kept view known = record { range = known.has.all.range page known.cached; permitted = known.has.all.processor }
permitted-at g (Acknowledging number) kept view known = record { range = tt; permitted = record { processor = known.all.processor; polled = λ off. omega (arith, off, known.polled, known.most) } }

-- the translations come to a stage, and give its action
pub goes : (c : TranslationCache) (was : Kept) (g : Geometry) (view : View) (own : Own)
    → IsLeft (CatchesUp g was) own (Follows (IsAct (catch_action c.stage) g) (catch_left g c.stage (kept_of c)))
    → KnownInCatch g c.stage (kept_of c) (view_after g view own) → desk g (view_after g view own) ≡ desk g view → GoesOn g view own → IsCatchAsked c was g view own (catch_action c.stage)
goes c was g view own due known seat running = record {
  permitted = permitted-at g c.stage (kept_of c) (view_after g view own) known;
  awaited = record { is = refl; due = due; known = known; seat = seat; running = running };
  begun = begun-acts g (CatchesUp g was) own (catch_action c.stage) (catch_left g c.stage (kept_of c)) due (left-can g c.stage (kept_of c));
}

-- the least cached page is peeked
pub goes-peek : (c : TranslationCache) (from number page : ℕ) (was : Kept) (g : Geometry) (view : View) (own : Own) → c.stage ≡ Peeking number page → IsLeastFrom (entry_of (kept_of c)) from page
    → IsPeekingFrom g number from (kept_of c) was view own → IsCatchAsked c was g view own (Peek page)
goes-peek c from number page was g view own at least h =
    let kept = kept_of c in
    let S : CatchStage → Type 0 = λ stage. IsCatchAsked (record c { stage = stage }) was g view own (Peek page) in
    subst S (sym at) (goes (record c { stage = Peeking number page }) was g view own
    (left-as (CatchesUp g was) own (PeeksFrom g number from kept) (Follows (IsAct (Peek page) g) (λ reply. PeeksFrom g number (page + 1) (peeked_with page (told_word reply) kept))) h.due
    (λ rest o. peek-next g number from page kept rest o least.within (h.has.all.range page least.cached) least.cached least.least))
    (record {
      has = record { all = h.has.all; polled = h.has.polled; most = h.has.most; peeked = λ w e lt there. peeked-below g number from page w kept (view_after g view own) h.has least e lt there };
      cached = least.cached;
    })
    h.seat h.running)

-- no cached page is left, and the number is acknowledged
pub goes-ack : (c : TranslationCache) (from number : ℕ) (was : Kept) (g : Geometry) (view : View) (own : Own) → c.stage ≡ Acknowledging number → HasNoneFrom (entry_of (kept_of c)) from
    → IsPeekingFrom g number from (kept_of c) was view own → IsCatchAsked c was g view own (Ack Seen)
goes-ack c from number was g view own at none h =
    let kept = kept_of c in
    let S : CatchStage → Type 0 = λ stage. IsCatchAsked (record c { stage = stage }) was g view own (Ack Seen) in
    subst S (sym at) (goes (record c { stage = Acknowledging number }) was g view own
    (left-as (CatchesUp g was) own (PeeksFrom g number from kept) (Acknowledges g number kept) h.due (λ rest o. ack-next g number from kept rest o none))
    (record { all = h.has.all; polled = h.has.polled; most = h.has.most; peeked = λ w e lt there. peeked-all g number from w kept (view_after g view own) h.has none e there })
    h.seat h.running)

-- An action was answered.

-- a list of which nothing is left is finished
whole-now : (whole : Own → Kept → Type 0) (own : Own) (left : Own → Kept → Type 0) (o : Kept) → IsLeft whole own left → left [] o → whole own o
whole-now whole own left o due now = subst (λ (l : Own). whole l o) (append-nil own) (due.carry [] o now)

heard-seat : (stage : CatchStage) (kept was : Kept) (g : Geometry) (view : View) (own : Own) (action : Action) (reply : Reply) → IsLoud action
    → IsCatching stage kept was g view own action → desk g (view_after g view (own ++ (action, reply) ∷ [])) ≡ desk g view
heard-seat stage kept was g view own action reply loud h = ap (λ (v : View). desk g v) (view-push g view own action reply) ∙ (desk-stays g (view_after g view own) action reply loud ∙ h.seat)

-- an answer that leaves what was acknowledged as it is leaves a processor going on
heard-running : (stage : CatchStage) (kept was : Kept) (g : Geometry) (view : View) (own : Own) (action : Action) (reply : Reply)
    → (after_of g (view_after g view own) action reply).acked ≡ (view_after g view own).acked → IsCatching stage kept was g view own action → GoesOn g view (own ++ (action, reply) ∷ [])
heard-running stage kept was g view own action reply same h = λ began ended.
    h.running began (sym same ∙ ap (λ (v : View). v.acked) (sym (view-push g view own action reply)) ∙ ended)

heard-due : (stage : CatchStage) (kept was : Kept) (g : Geometry) (view : View) (own : Own) (action : Action) (reply : Reply)
    → IsCatching stage kept was g view own action → Fits g (view_after g view own) action reply → IsLeft (CatchesUp g was) (own ++ (action, reply) ∷ []) (catch_left g stage kept reply)
heard-due stage kept was g view own action reply h fits =
    let A : Action → Type 0 = λ a. IsLeft (CatchesUp g was) own (Follows (IsAct a g) (catch_left g stage kept)) in
    left-acts g (view_after g view own) (CatchesUp g was) own action reply (catch_left g stage kept) (subst A (sym h.is) h.due) fits

-- the number is news
news-now : (kept was : Kept) (g : Geometry) (view : View) (own : Own) (number : ℕ) → is_news kept.acked number ≡ true → IsCatching Polling kept was g view own Poll → Fits g (view_after g view own) Poll (Word number)
    → IsPeekingFrom g number 0 kept was view (own ++ (Poll, Word number) ∷ [])
news-now kept was g view own number news h fits = record {
  due = left-as (CatchesUp g was) (own ++ (Poll, Word number) ∷ []) (catch_left g Polling kept (Word number)) (PeeksFrom g number 0 kept) (heard-due Polling kept was g view own Poll (Word number) h fits)
      (λ rest o r. either-yes (is_news kept.acked number) (PeeksFrom g number 0 kept) (Ends kept) rest o news r);
  has = subst (λ (v : View). HasPeeked g number 0 kept v) (sym (view-push g view own Poll (Word number))) (polled-news g kept (view_after g view own) number h.known fits.told.said);
  seat = heard-seat Polling kept was g view own Poll (Word number) (λ q. q) h;
  running = heard-running Polling kept was g view own Poll (Word number) refl h;
}

true-false : true ≡ false → ⊥
true-false e = cc

acked-some : (acked : Option ℕ) (number : ℕ) → is_news acked number ≡ false → IsSome acked
acked-some None number old = absurd (true-false old)
acked-some (Some a) number old = refl

-- the number is no news
old-now : (c : TranslationCache) (was : Kept) (g : Geometry) (view : View) (own : Own) (number : ℕ) → is_news c.acked number ≡ false → IsCatching Polling (kept_of c) was g view own Poll → Fits g (view_after g view own) Poll (Word number)
    → IsCaughtUp c was g view (own ++ (Poll, Word number) ∷ [])
old-now c was g view own number old h fits = record {
  shown = whole-now (CatchesUp g was) (own ++ (Poll, Word number) ∷ []) (catch_left g Polling (kept_of c) (Word number)) (kept_of c) (heard-due Polling (kept_of c) was g view own Poll (Word number) h fits)
      (either-other (is_news c.acked number) (PeeksFrom g number 0 (kept_of c)) (Ends (kept_of c)) [] (kept_of c) old (ends-now (kept_of c)));
  all = subst (λ (v : View). IsKeptWith g (kept_of c) v) (sym (view-push g view own Poll (Word number)))
      (kept-as g (kept_of c) (view_after g view own) (after_of g (view_after g view own) Poll (Word number)) refl refl refl h.known);
  on = acked-some c.acked number old;
  seat = heard-seat Polling (kept_of c) was g view own Poll (Word number) (λ q. q) h;
}

-- a page was peeked
peek-now : (kept was : Kept) (g : Geometry) (view : View) (own : Own) (number page stamp : ℕ) → IsCatching (Peeking number page) kept was g view own (Peek page) → Fits g (view_after g view own) (Peek page) (Word stamp)
    → IsPeekingFrom g number (page + 1) (peeked_with page stamp kept) was view (own ++ (Peek page, Word stamp) ∷ [])
peek-now kept was g view own number page stamp h fits = record {
  due = heard-due (Peeking number page) kept was g view own (Peek page) (Word stamp) h fits;
  has = subst (λ (v : View). HasPeeked g number (page + 1) (peeked_with page stamp kept) v) (sym (view-push g view own (Peek page) (Word stamp))) (peeked-one g kept (view_after g view own) number page stamp h.known.has);
  seat = heard-seat (Peeking number page) kept was g view own (Peek page) (Word stamp) (λ q. q) h;
  running = heard-running (Peeking number page) kept was g view own (Peek page) (Word stamp) refl h;
}

-- the number was acknowledged
ack-now : (c : TranslationCache) (was : Kept) (g : Geometry) (view : View) (own : Own) (number : ℕ) (reply : Reply) → IsCatching (Acknowledging number) (kept_of c) was g view own (Ack Seen) → Fits g (view_after g view own) (Ack Seen) reply
    → IsCaughtUp (record c { acked = Some number }) was g view (own ++ (Ack Seen, reply) ∷ [])
ack-now c was g view own number Done h fits =
    let now : Kept = record (kept_of c) { acked = Some number } in
    record {
      shown = whole-now (CatchesUp g was) (own ++ (Ack Seen, Done) ∷ []) (Ends now) now (heard-due (Acknowledging number) (kept_of c) was g view own (Ack Seen) Done h fits) (ends-now now);
      all = subst (λ (v : View). IsKeptWith g now v) (sym (view-push g view own (Ack Seen) Done)) (acknowledged g (kept_of c) (view_after g view own) number h.known);
      on = refl;
      seat = heard-seat (Acknowledging number) (kept_of c) was g view own (Ack Seen) Done (λ q. q) h;
    }
ack-now c was g view own number (Word n) h fits = absurd fits.kind
ack-now c was g view own number (Busy n) h fits = absurd fits.kind
ack-now c was g view own number (Lost n) h fits = absurd fits.kind

-- The same, by what the code knows.

at-stage : (c : TranslationCache) (stage : CatchStage) (was : Kept) (g : Geometry) (view : View) (own : Own) (action : Action) → c.stage ≡ stage → AwaitsCatch c was g view own action → IsCatching stage (kept_of c) was g view own action
at-stage c stage was g view own action at h = subst (λ (s : CatchStage). IsCatching s (kept_of c) was g view own action) at h

-- what holds after the action of a stage and a reply holds of those that were given and heard
by-answer : (c : TranslationCache) (stage : CatchStage) (was : Kept) (g : Geometry) (view : View) (own : Own) (action : Action) (reply heard : Reply) (R : Own → Type 0) → c.stage ≡ stage → reply ≡ heard
    → AwaitsCatch c was g view own action → Fits g (view_after g view own) action reply
    → (IsCatching stage (kept_of c) was g view own (catch_action stage) → Fits g (view_after g view own) (catch_action stage) heard → R (own ++ (catch_action stage, heard) ∷ [])) → R (own ++ (action, reply) ∷ [])
by-answer c stage was g view own action reply heard R at is h fits then =
    let here = at-stage c stage was g view own action at h in
    let F : Action → Reply → Type 0 = λ a r. IsCatching stage (kept_of c) was g view own a → Fits g (view_after g view own) a r → R (own ++ (a, r) ∷ []) in
    (subst (λ a. F a reply) (sym here.is) (subst (λ r. F (catch_action stage) r) (sym is) then)) here fits

pub after-news : (c later : TranslationCache) (number : ℕ) (reply : Reply) (result : Step (Unit {0})) (was : Kept) (g : Geometry) (view : View) (own : Own) (action : Action) → c.stage ≡ Polling → reply ≡ Word number → is_news c.acked number ≡ true
    → AwaitsCatch c was g view own action → Fits g (view_after g view own) action reply
    → ((g : Geometry) (was : Kept) (view : View) (own : Own) → IsPeekingFrom g number 0 (kept_of c) was view own → IsCatchStep later was g view own result) → IsCatchStep later was g view (own ++ (action, reply) ∷ []) result
after-news c later number reply result was g view own action at is news h fits peeks =
    by-answer c Polling was g view own action reply (Word number) (λ l. IsCatchStep later was g view l result) at is h fits
    (λ here f. peeks g was view (own ++ (Poll, Word number) ∷ []) (news-now (kept_of c) was g view own number news here f))

pub after-old : (c : TranslationCache) (number : ℕ) (reply : Reply) (was : Kept) (g : Geometry) (view : View) (own : Own) (action : Action) → c.stage ≡ Polling → reply ≡ Word number → is_news c.acked number ≡ false
    → AwaitsCatch c was g view own action → Fits g (view_after g view own) action reply → IsCaughtUp c was g view (own ++ (action, reply) ∷ [])
after-old c number reply was g view own action at is old h fits =
    by-answer c Polling was g view own action reply (Word number) (λ l. IsCaughtUp c was g view l) at is h fits (λ here f. old-now c was g view own number old here f)

pub after-peek : (c checked later : TranslationCache) (number page stamp : ℕ) (reply : Reply) (result : Step (Unit {0})) (was : Kept) (g : Geometry) (view : View) (own : Own) (action : Action)
    → c.stage ≡ Peeking number page → reply ≡ Word stamp → kept_of checked ≡ peeked_with page stamp (kept_of c)
    → AwaitsCatch c was g view own action → Fits g (view_after g view own) action reply
    → ((g : Geometry) (was : Kept) (view : View) (own : Own) → IsPeekingFrom g number (page + 1) (kept_of checked) was view own → IsCatchStep later was g view own result) → IsCatchStep later was g view (own ++ (action, reply) ∷ []) result
after-peek c checked later number page stamp reply result was g view own action at is same h fits peeks =
    by-answer c (Peeking number page) was g view own action reply (Word stamp) (λ l. IsCatchStep later was g view l result) at is h fits
    (λ here f. peeks g was view (own ++ (Peek page, Word stamp) ∷ []) (subst (λ (k : Kept). IsPeekingFrom g number (page + 1) k was view (own ++ (Peek page, Word stamp) ∷ [])) (sym same) (peek-now (kept_of c) was g view own number page stamp here f)))

pub after-ack : (c : TranslationCache) (number : ℕ) (reply : Reply) (was : Kept) (g : Geometry) (view : View) (own : Own) (action : Action) → c.stage ≡ Acknowledging number
    → AwaitsCatch c was g view own action → Fits g (view_after g view own) action reply → IsCaughtUp (record c { acked = Some number }) was g view (own ++ (action, reply) ∷ [])
after-ack c number reply was g view own action at h fits =
    by-answer c (Acknowledging number) was g view own action reply reply (λ l. IsCaughtUp (record c { acked = Some number }) was g view l) at refl h fits (λ here f. ack-now c was g view own number reply here f)
