-- Replies, and what else is heard, are the same or not.
use Rattle.std.proofs.Common.{◌≡◌, ◌≢◌, ◌⊎◌, inl, inr, ℕ, zero, suc, refl, sym, ap, ap₂, ◌∙◌, arith}
use Rattle.std.proofs.lemmas.Bool.{cases_eq}
use Rattle.nm_action.specs.declared.action.Reply.{Reply}
use Rattle.nm_action.specs.declared.action.Reply.TheVariants.{Done, Word, Busy, Lost}
use Rattle.nm_action.specs.declared.turn.Heard.{Heard}
use Rattle.nm_action.specs.declared.turn.Heard.TheVariants.{Start, Answer, PutDone, PutFull, Took, TookNone}

abbrev reply_kind : Reply → ℕ
reply_kind Done = 0
reply_kind (Word n) = 1
reply_kind (Busy n) = 2
reply_kind (Lost n) = 3

abbrev reply_number : Reply → ℕ
reply_number Done = 0
reply_number (Word n) = n
reply_number (Busy n) = n
reply_number (Lost n) = n

abbrev reply_made : ℕ → ℕ → Reply
reply_made zero n = Done
reply_made (suc zero) n = Word n
reply_made (suc (suc zero)) n = Busy n
reply_made (suc (suc (suc k))) n = Lost n

reply_again : (reply : Reply) → reply_made (reply_kind reply) (reply_number reply) ≡ reply
reply_again Done = refl
reply_again (Word n) = refl
reply_again (Busy n) = refl
reply_again (Lost n) = refl

by_parts : (one two : Reply) → (reply_kind one ≡ reply_kind two) ⊎ (reply_kind one ≢ reply_kind two) → (reply_number one ≡ reply_number two) ⊎ (reply_number one ≢ reply_number two) → (one ≡ two) ⊎ (one ≢ two)
by_parts one two (inl kind) (inl number) = inl (sym (reply_again one) ∙ ap₂ reply_made kind number ∙ reply_again two)
by_parts one two (inl kind) (inr other) = inr (λ same. other (ap reply_number same))
by_parts one two (inr other) number = inr (λ same. other (ap reply_kind same))

pub same-reply : (one two : Reply) → (one ≡ two) ⊎ (one ≢ two)
same-reply one two = by_parts one two (cases_eq (reply_kind one) (reply_kind two)) (cases_eq (reply_number one) (reply_number two))

pub words-apart : (n m : ℕ) → n ≢ m → Word n ≢ Word m
words-apart n m other same = other (ap reply_number same)

pub busies-apart : (n m : ℕ) → n ≢ m → Busy n ≢ Busy m
busies-apart n m other same = other (ap reply_number same)

pub done-not-busy : (n : ℕ) → Done ≢ Busy n
done-not-busy n same = let bad : 0 ≡ 2 = ap reply_kind same in absurd (omega (arith, bad))

pub busy-not-done : (n : ℕ) → Busy n ≢ Done
busy-not-done n same = done-not-busy n (sym same)

-- ---- what a turn hears

abbrev heard_kind : Heard → ℕ
heard_kind Start = 0
heard_kind (Answer reply) = 1
heard_kind PutDone = 2
heard_kind PutFull = 3
heard_kind (Took page) = 4
heard_kind TookNone = 5

abbrev heard_reply : Heard → Reply
heard_reply Start = Done
heard_reply (Answer reply) = reply
heard_reply PutDone = Done
heard_reply PutFull = Done
heard_reply (Took page) = Word page
heard_reply TookNone = Done

abbrev heard_made : ℕ → Reply → Heard
heard_made zero reply = Start
heard_made (suc zero) reply = Answer reply
heard_made (suc (suc zero)) reply = PutDone
heard_made (suc (suc (suc zero))) reply = PutFull
heard_made (suc (suc (suc (suc zero)))) reply = Took (reply_number reply)
heard_made (suc (suc (suc (suc (suc k))))) reply = TookNone

heard_again : (heard : Heard) → heard_made (heard_kind heard) (heard_reply heard) ≡ heard
heard_again Start = refl
heard_again (Answer reply) = refl
heard_again PutDone = refl
heard_again PutFull = refl
heard_again (Took page) = refl
heard_again TookNone = refl

heard_by : (one two : Heard) → (heard_kind one ≡ heard_kind two) ⊎ (heard_kind one ≢ heard_kind two) → (heard_reply one ≡ heard_reply two) ⊎ (heard_reply one ≢ heard_reply two) → (one ≡ two) ⊎ (one ≢ two)
heard_by one two (inl kind) (inl reply) = inl (sym (heard_again one) ∙ ap₂ heard_made kind reply ∙ heard_again two)
heard_by one two (inl kind) (inr other) = inr (λ same. other (ap heard_reply same))
heard_by one two (inr other) reply = inr (λ same. other (ap heard_kind same))

pub same-heard : (one two : Heard) → (one ≡ two) ⊎ (one ≢ two)
same-heard one two = heard_by one two (cases_eq (heard_kind one) (heard_kind two)) (same-reply (heard_reply one) (heard_reply two))

pub answers-apart : (one two : Reply) → one ≢ two → Answer one ≢ Answer two
answers-apart one two other same = other (ap heard_reply same)

pub pages-apart : (one two : ℕ) → one ≢ two → Took one ≢ Took two
pages-apart one two other same = words-apart one two other (ap heard_reply same)

pub took-not-none : (page : ℕ) → Took page ≢ TookNone
took-not-none page same = let bad : 4 ≡ 5 = ap heard_kind same in absurd (omega (arith, bad))

pub done-not-full : PutDone ≢ PutFull
done-not-full same = let bad : 2 ≡ 3 = ap heard_kind same in absurd (omega (arith, bad))
