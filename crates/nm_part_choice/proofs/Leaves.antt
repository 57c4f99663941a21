-- Parts that other parts are made of leave no choice.
use Rattle.std.proofs.Common.{◌≡◌, ◌≢◌, ◌⊎◌, inl, inr, ⊎_elim, ℕ, ◌+◌, ◌-◌, ◌≤◌, List, [], ◌∷◌, ◌++◌, All, Some, None, refl, sym, ap, ap₂, subst, ◌∙◌, arith, append-nil, le_antisymm}
use Rattle.std.proofs.lemmas.Bool.{cases_eq}
use Rattle.std.specs.List.{range_with_len}
use Rattle.nm_base.specs.Geometry.{Geometry}
use Rattle.nm_action.specs.declared.action.Action.{Action}
use Rattle.nm_action.specs.declared.action.Action.TheVariants.{Bump, PutFrame, TakeTurn, GiveFrame, ReleaseTurn, CopyLoad, CopyStore, Unmap, Raise, Map, SetHome, SetShadow, Lock}
use Rattle.nm_action.specs.declared.action.Reply.{Reply}
use Rattle.nm_action.specs.declared.action.Reply.TheVariants.{Done, Word}
use Rattle.nm_action.specs.Own.{Own}
use Rattle.nm_part.specs.Patterns.{Ends, Follows}
use Rattle.nm_compose.specs.Acts.{IsAct}
use Rattle.nm_shoot.specs.Shootdown.{asked_from, IsAnswered, IsShootdown}
use Rattle.nm_pool.specs.Pool.{tier_for, refused, scanned, free_bits, IsLeastFree, IsFrameTaken, IsSummed, IsPutting, IsWork, IsPool}
use Rattle.nm_pool.specs.declared.job.PoolJob.{PoolJob}
use Rattle.nm_pool.specs.declared.job.PoolJob.TheVariants.{Take, Level, Back}
use Rattle.nm_pool.specs.declared.job.PoolEnd.{PoolEnd}
use Rattle.nm_pool.specs.declared.job.PoolEnd.TheVariants as ends
use Rattle.nm_copying.specs.declared.copies.CopiesMade.{CopiesMade}
use Rattle.nm_copying.specs.declared.zeroes.ZeroesMade.{ZeroesMade}
use Rattle.nm_copying.specs.Copying.{told, CopyOf, IsCopying}
use Rattle.nm_copying.specs.Zeroing.{ZeroOf, IsZeroing}
use Rattle.nm_commit.specs.declared.unmap.UnmapMade.{UnmapMade}
use Rattle.nm_commit.specs.Unmapping.{RaisesOne, UnmapsOne}
use Rattle.nm_mappings.specs.declared.visits.VisitsMade.{VisitsMade}
use Rattle.nm_mappings.specs.Visits.{visit_action, found_after, VisitAt, IsVisits, raises_made}
use Rattle.nm_looks.specs.Seeing.{LooksData, look_at, nothing_seen, seen_after, LookAt, IsLooks}
use Rattle.nm_looks.specs.Softening.{soften_at, SoftenAt, IsSoftens}
use Rattle.nm_shadow_fault.specs.Locking.{lock_refused, LocksPage}
use Rattle.nm_transfer.specs.declared.transfer.Source.{Source}
use Rattle.nm_transfer.specs.declared.transfer.Source.TheVariants as sources
use Rattle.nm_transfer.specs.declared.transfer.TransferMade.{TransferMade}
use Rattle.nm_transfer.specs.Words.{mapped_word}
use Rattle.nm_transfer.specs.Transferring.{MapAt, MapsOf, HomesPage, FillsFrom, Fills, Flushes, Raises, UnmapAt, taken_after, IsTransfer}
use Rattle.nm_choice.specs.Deterministic.{Diverge, Coincide, AreRepliesApart, IsDeterministicPart}
use Rattle.nm_choice.proofs.Diverging.{part-next, part-behind, part-more, part-as, both-same}
use Rattle.nm_choice.proofs.Answers.{words-apart}
use Rattle.nm_choice.proofs.Patterns.{one-ends, one-follows, one-each}
use Rattle.nm_choice.proofs.Acts.{part-replies, one-then}
use Rattle.nm_part_choice.proofs.Told.{turn-one, lock-one, scan-one, asks-one}

-- ---- shootdowns

after_bump : (cpus : ℕ) (own other : Own) (number end : ℕ) → (h : IsShootdown cpus own number) → (k : IsShootdown cpus other end) → (h.old ≡ k.old) ⊎ (h.old ≢ k.old) → Diverge AreRepliesApart own other ⊎ Coincide own number other end
after_bump cpus own other number end h k (inr differ) =
    inl (part-as AreRepliesApart own other ((Bump, Word h.old) ∷ asked_from 0 h.words) ((Bump, Word k.old) ∷ asked_from 0 k.words) h.is k.is
    (part-replies Bump (Word h.old) (Word k.old) (asked_from 0 h.words) (asked_from 0 k.words) (words-apart h.old k.old differ)))
after_bump cpus own other number end h k (inl same) =
    let ends : number ≡ end = h.drawn ∙ ap (λ (n : ℕ). n + 1) same ∙ sym k.drawn in
    let first : (Bump, Word h.old) ≡ (Bump, Word k.old) = ap (λ (n : ℕ). (Bump, Word n)) same in
    ⊎_elim
    (λ d. inl (part-as AreRepliesApart own other ((Bump, Word h.old) ∷ asked_from 0 h.words) ((Bump, Word k.old) ∷ asked_from 0 k.words) h.is k.is
    (part-next AreRepliesApart (Bump, Word h.old) (Bump, Word k.old) (asked_from 0 h.words) (asked_from 0 k.words) first d)))
    (λ words. inr (both-same own other number end (h.is ∙ ap₂ (λ (e : Action × Reply) (l : List (List ℕ)). e ∷ asked_from 0 l) first words ∙ sym k.is) ends))
    (asks-one 0 number h.words k.words (h.each ∙ sym k.each) h.answered (subst (λ n. All (IsAnswered n) k.words) (sym ends) k.answered))

pub shootdown-one : (cpus : ℕ) → IsDeterministicPart (IsShootdown cpus)
shootdown-one cpus own other number end h k = after_bump cpus own other number end h k (cases_eq h.old k.old)

-- ---- pool tasks

scanned_apart : (tier : ℕ) (words others : List ℕ) (own other back more : Own) → own ≡ scanned tier 0 words ++ back → other ≡ scanned tier 0 others ++ more
    → Diverge AreRepliesApart (scanned tier 0 words) (scanned tier 0 others) → Diverge AreRepliesApart own other
scanned_apart tier words others own other back more is other_is d =
    part-as AreRepliesApart own other (scanned tier 0 words ++ back) (scanned tier 0 others ++ more) is other_is (part-more AreRepliesApart (scanned tier 0 words) (scanned tier 0 others) back more d)

whole_scan : (tier : ℕ) (words : List ℕ) (own : Own) → own ≡ scanned tier 0 words → own ≡ scanned tier 0 words ++ []
whole_scan tier words own is = is ∙ sym (append-nil (scanned tier 0 words))

-- the frame is given that is the least of the free ones
least_one : (g : Geometry) (tier : ℕ) (words others : List ℕ) (frame taken : ℕ) → words ≡ others → IsLeastFree g tier words frame → IsLeastFree g tier others taken → frame ≡ taken
least_one g tier words others frame taken same h k =
    let here : IsLeastFree g tier words taken = subst (λ l. IsLeastFree g tier l taken) (sym same) k in
    le_antisymm (h.least taken here.free) (here.least frame h.free)

gives_one : (tier : ℕ) (words others : List ℕ) (frame taken old word : ℕ) (own other : Own) → own ≡ scanned tier 0 words ++ (GiveFrame frame, Word old) ∷ [] → other ≡ scanned tier 0 others ++ (GiveFrame taken, Word word) ∷ []
    → words ≡ others → frame ≡ taken → (old ≡ word) ⊎ (old ≢ word) → Diverge AreRepliesApart own other ⊎ Coincide own (ends.Got frame) other (ends.Got taken)
gives_one tier words others frame taken old word own other is other_is same frames (inl told_so) =
    let last : (GiveFrame frame, Word old) ≡ (GiveFrame taken, Word word) = ap₂ (λ (f n : ℕ). (GiveFrame f, Word n)) frames told_so in
    inr (both-same own other (ends.Got frame) (ends.Got taken) (is ∙ ap₂ (λ (l : List ℕ) (e : Action × Reply). scanned tier 0 l ++ e ∷ []) same last ∙ sym other_is) (ap ends.Got frames))
gives_one tier words others frame taken old word own other is other_is same frames (inr differ) =
    let again : scanned tier 0 others ++ (GiveFrame taken, Word word) ∷ [] ≡ scanned tier 0 words ++ (GiveFrame frame, Word word) ∷ [] = ap₂ (λ (l : List ℕ) (f : ℕ). scanned tier 0 l ++ (GiveFrame f, Word word) ∷ []) (sym same) (sym frames) in
    inl (part-as AreRepliesApart own other (scanned tier 0 words ++ (GiveFrame frame, Word old) ∷ []) (scanned tier 0 words ++ (GiveFrame frame, Word word) ∷ []) is (other_is ∙ again)
    (part-behind AreRepliesApart (scanned tier 0 words) ((GiveFrame frame, Word old) ∷ []) ((GiveFrame frame, Word word) ∷ [])
    (part-replies (GiveFrame frame) (Word old) (Word word) [] [] (words-apart old word differ))))

takes_both : (g : Geometry) (tier floor : ℕ) (own other : Own) (frame taken : ℕ) → IsFrameTaken g tier floor own frame → IsFrameTaken g tier floor other taken
    → Diverge AreRepliesApart own other ⊎ Coincide own (ends.Got frame) other (ends.Got taken)
takes_both g tier floor own other frame taken h k =
    ⊎_elim
    (λ d. inl (scanned_apart tier h.words k.words own other ((GiveFrame frame, Word h.old) ∷ []) ((GiveFrame taken, Word k.old) ∷ []) h.is k.is d))
    (λ same. gives_one tier h.words k.words frame taken h.old k.old own other h.is k.is same (least_one g tier h.words k.words frame taken same h.least k.least) (cases_eq h.old k.old))
    (scan-one tier 0 h.words k.words (h.all ∙ sym k.all))

sums_both : (g : Geometry) (tier : ℕ) (own other : Own) (n m : ℕ) → IsSummed g tier own n → IsSummed g tier other m → Diverge AreRepliesApart own other ⊎ Coincide own n other m
sums_both g tier own other n m h k =
    ⊎_elim
    (λ d. inl (part-as AreRepliesApart own other (scanned tier 0 h.words) (scanned tier 0 k.words) h.is k.is d))
    (λ same. inr (both-same own other n m (h.is ∙ ap (λ (l : List ℕ). scanned tier 0 l) same ∙ sym k.is) (h.sum ∙ ap free_bits same ∙ sym k.sum)))
    (scan-one tier 0 h.words k.words (h.all ∙ sym k.all))

-- more frames than the floor are free, or not
takes_apart : (g : Geometry) (tier floor : ℕ) (own other : Own) (frame n : ℕ) → IsFrameTaken g tier floor own frame → IsSummed g tier other n → n ≤ floor → Diverge AreRepliesApart own other
takes_apart g tier floor own other frame n h k few =
    ⊎_elim
    (λ d. scanned_apart tier h.words k.words own other ((GiveFrame frame, Word h.old) ∷ []) [] h.is (whole_scan tier k.words other k.is) d)
    (λ same. let sums : free_bits h.words ≡ free_bits k.words = ap free_bits same in absurd (omega (arith, sums, few, h.more, k.sum)))
    (scan-one tier 0 h.words k.words (h.all ∙ sym k.all))

sums_apart : (g : Geometry) (tier floor : ℕ) (own other : Own) (n frame : ℕ) → IsSummed g tier own n → n ≤ floor → IsFrameTaken g tier floor other frame → Diverge AreRepliesApart own other
sums_apart g tier floor own other n frame h few k =
    ⊎_elim
    (λ d. scanned_apart tier h.words k.words own other [] ((GiveFrame frame, Word k.old) ∷ []) (whole_scan tier h.words own h.is) k.is d)
    (λ same. let sums : free_bits h.words ≡ free_bits k.words = ap free_bits same in absurd (omega (arith, sums, few, k.more, h.sum)))
    (scan-one tier 0 h.words k.words (h.all ∙ sym k.all))

as_end : (end : ℕ → PoolEnd) (own other : Own) (n m : ℕ) → Diverge AreRepliesApart own other ⊎ Coincide own n other m → Diverge AreRepliesApart own other ⊎ Coincide own (end n) other (end m)
as_end end own other n m (inl d) = inl d
as_end end own other n m (inr same) = inr (both-same own other (end n) (end m) same.list (ap end same.ends))

puts_both : (frame : ℕ) (own other : Own) → (h : IsPutting frame own) → (k : IsPutting frame other) → (h.old ≡ k.old) ⊎ (h.old ≢ k.old) → Diverge AreRepliesApart own other ⊎ Coincide own ends.Back other ends.Back
puts_both frame own other h k (inl same) = inr (both-same own other ends.Back ends.Back (h.is ∙ ap (λ (n : ℕ). (PutFrame frame, Word n) ∷ []) same ∙ sym k.is) refl)
puts_both frame own other h k (inr differ) =
    inl (part-as AreRepliesApart own other ((PutFrame frame, Word h.old) ∷ []) ((PutFrame frame, Word k.old) ∷ []) h.is k.is
    (part-replies (PutFrame frame) (Word h.old) (Word k.old) [] [] (words-apart h.old k.old differ)))

takes_work : (g : Geometry) (tier floor : ℕ) → IsDeterministicPart (IsWork g (Take tier floor))
takes_work g tier floor own other (ends.Got frame) (ends.Got taken) h k = takes_both g tier floor own other frame taken h k
takes_work g tier floor own other (ends.Got frame) (ends.AtFloor m) h k = inl (takes_apart g tier floor own other frame m h k.0 k.1)
takes_work g tier floor own other (ends.Got frame) (ends.Level m) h k = absurd k
takes_work g tier floor own other (ends.Got frame) ends.Back h k = absurd k
takes_work g tier floor own other (ends.AtFloor n) (ends.Got taken) h k = inl (sums_apart g tier floor own other n taken h.0 h.1 k)
takes_work g tier floor own other (ends.AtFloor n) (ends.AtFloor m) h k = as_end ends.AtFloor own other n m (sums_both g tier own other n m h.0 k.0)
takes_work g tier floor own other (ends.AtFloor n) (ends.Level m) h k = absurd k
takes_work g tier floor own other (ends.AtFloor n) ends.Back h k = absurd k
takes_work g tier floor own other (ends.Level n) end h k = absurd h
takes_work g tier floor own other ends.Back end h k = absurd h

levels_work : (g : Geometry) (tier : ℕ) → IsDeterministicPart (IsWork g (Level tier))
levels_work g tier own other (ends.Level n) (ends.Level m) h k = as_end ends.Level own other n m (sums_both g tier own other n m h k)
levels_work g tier own other (ends.Level n) (ends.Got frame) h k = absurd k
levels_work g tier own other (ends.Level n) (ends.AtFloor m) h k = absurd k
levels_work g tier own other (ends.Level n) ends.Back h k = absurd k
levels_work g tier own other (ends.Got frame) end h k = absurd h
levels_work g tier own other (ends.AtFloor n) end h k = absurd h
levels_work g tier own other ends.Back end h k = absurd h

backs_work : (g : Geometry) (frame : ℕ) → IsDeterministicPart (IsWork g (Back frame))
backs_work g frame own other ends.Back ends.Back h k = puts_both frame own other h k (cases_eq h.old k.old)
backs_work g frame own other ends.Back (ends.Got f) h k = absurd k
backs_work g frame own other ends.Back (ends.AtFloor m) h k = absurd k
backs_work g frame own other ends.Back (ends.Level m) h k = absurd k
backs_work g frame own other (ends.Got f) end h k = absurd h
backs_work g frame own other (ends.AtFloor n) end h k = absurd h
backs_work g frame own other (ends.Level n) end h k = absurd h

work_one : (g : Geometry) (job : PoolJob) → IsDeterministicPart (IsWork g job)
work_one g (Take tier floor) = takes_work g tier floor
work_one g (Level tier) = levels_work g tier
work_one g (Back frame) = backs_work g frame

-- a whole task, with its turn
abbrev in_turn : ℕ → List ℕ → Own → Own
in_turn tier busy inner = refused tier busy ++ (TakeTurn tier, Done) ∷ inner ++ (ReleaseTurn tier, Done) ∷ []

under_turn : (tier : ℕ) (busy waited : List ℕ) (inner work own other : Own) (end last : PoolEnd) → own ≡ in_turn tier busy inner → other ≡ in_turn tier waited work → busy ≡ waited
    → Diverge AreRepliesApart inner work ⊎ Coincide inner end work last → Diverge AreRepliesApart own other ⊎ Coincide own end other last
under_turn tier busy waited inner work own other end last is other_is same (inl d) =
    let over : Own = (ReleaseTurn tier, Done) ∷ [] in
    inl (part-as AreRepliesApart own other (in_turn tier busy inner) (in_turn tier busy work) is (other_is ∙ ap (λ (l : List ℕ). in_turn tier l work) (sym same))
    (part-more AreRepliesApart (refused tier busy ++ (TakeTurn tier, Done) ∷ inner) (refused tier busy ++ (TakeTurn tier, Done) ∷ work) over over
    (part-behind AreRepliesApart (refused tier busy) ((TakeTurn tier, Done) ∷ inner) ((TakeTurn tier, Done) ∷ work)
    (part-behind AreRepliesApart ((TakeTurn tier, Done) ∷ []) inner work d))))
under_turn tier busy waited inner work own other end last is other_is same (inr s) =
    inr (both-same own other end last (is ∙ ap₂ (λ (l : List ℕ) (m : Own). in_turn tier l m) same s.list ∙ sym other_is) s.ends)

pub pool-one : (g : Geometry) (job : PoolJob) → IsDeterministicPart (IsPool g job)
pool-one g job own other end last h k =
    let tier : ℕ = tier_for g job in
    let over : Own = (ReleaseTurn tier, Done) ∷ [] in
    ⊎_elim
    (λ d. inl (part-as AreRepliesApart own other (in_turn tier h.busy h.inner) (in_turn tier k.busy k.inner) h.is k.is
    (part-more AreRepliesApart (refused tier h.busy ++ (TakeTurn tier, Done) ∷ h.inner) (refused tier k.busy ++ (TakeTurn tier, Done) ∷ k.inner) over over d)))
    (λ same. under_turn tier h.busy k.busy h.inner k.inner own other end last h.is k.is same (work_one g job h.inner k.inner end last h.work k.work))
    (turn-one tier h.busy k.busy h.inner k.inner)

-- ---- locks

pub locks-one : (page : ℕ) → IsDeterministicPart (LocksPage page)
locks-one page own other one two h k =
    ⊎_elim
    (λ d. inl (part-as AreRepliesApart own other (lock_refused page h.busy ++ (Lock page, Done) ∷ []) (lock_refused page k.busy ++ (Lock page, Done) ∷ []) h.is k.is d))
    (λ same. inr (both-same own other one two (h.is ∙ ap (λ (l : List ℕ). lock_refused page l ++ (Lock page, Done) ∷ []) same ∙ sym k.is) refl))
    (lock-one page h.busy k.busy [] [])

-- ---- copies and zeroes

pub copying-one : (made : CopiesMade) (g : Geometry) → IsDeterministicPart (IsCopying made g)
copying-one made g =
    one-each AreRepliesApart (CopyOf made g) (range_with_len 0 (made.words - 0)) (λ kept. Ends tt)
    (λ index kept next rest. one-then (CopyLoad made.page index) g (λ reply. Follows (IsAct (CopyStore (Some made.page) made.frame index (told reply)) g) (λ stored. next kept))
    (λ reply. one-then (CopyStore (Some made.page) made.frame index (told reply)) g (λ stored. next kept) (λ stored. rest kept)))
    (λ kept. one-ends AreRepliesApart tt) tt

pub zeroing-one : (made : ZeroesMade) (g : Geometry) → IsDeterministicPart (IsZeroing made g)
zeroing-one made g =
    one-each AreRepliesApart (ZeroOf made g) (range_with_len 0 (made.words - 0)) (λ kept. Ends tt)
    (λ index kept next rest. one-then (CopyStore None made.frame index 0) g (λ stored. next kept) (λ stored. rest kept))
    (λ kept. one-ends AreRepliesApart tt) tt

-- ---- table words

pub unmaps-one : (made : UnmapMade) (g : Geometry) → IsDeterministicPart (UnmapsOne made g)
unmaps-one made g =
    one-then (Unmap made.vpage) g (λ reply. RaisesOne made g (told reply))
    (λ reply. one-then (Raise made.vpage) g (λ raised. Ends (told reply)) (λ raised. one-ends AreRepliesApart (told reply)))

pub visits-one : (made : VisitsMade) (g : Geometry) → IsDeterministicPart (IsVisits made g)
visits-one made g =
    one-each AreRepliesApart (VisitAt g made.visit) made.pages (λ all. Ends all)
    (λ v found next rest. one-then (visit_action made.visit v) g (λ reply. next (found_after v reply found)) (λ reply. rest (found_after v reply found)))
    (λ all. one-ends AreRepliesApart all) []

pub looks-one : (made : LooksData) (g : Geometry) → IsDeterministicPart (IsLooks made g)
looks-one made g =
    one-each AreRepliesApart (LookAt made g) made.1.pages (λ all. Ends all)
    (λ v seen next rest. one-then (look_at v) g (λ reply. next (seen_after made.0 made.1.tier v reply seen)) (λ reply. rest (seen_after made.0 made.1.tier v reply seen)))
    (λ all. one-ends AreRepliesApart all) nothing_seen

pub softens-one : (pages : List ℕ) (g : Geometry) → IsDeterministicPart (IsSoftens pages g)
softens-one pages g =
    one-each AreRepliesApart (SoftenAt g) pages (λ kept. Ends tt)
    (λ v kept next rest. one-then (soften_at v) g (λ reply. next kept) (λ reply. rest kept))
    (λ kept. one-ends AreRepliesApart tt) tt

-- ---- transfers

maps-one : (g : Geometry) (made : TransferMade) (rest taken : List (ℕ × ℕ)) → IsDeterministicPart (MapsOf g made rest taken)
maps-one g made all taken =
    one-each AreRepliesApart (MapAt g made) all (λ kept. Ends taken)
    (λ p kept next rest. one-then (Map p.0 (mapped_word made.rights made.frame made.hint p.1)) g (λ reply. next kept) (λ reply. rest kept))
    (λ kept. one-ends AreRepliesApart taken) tt

homes-one : (g : Geometry) (made : TransferMade) (taken : List (ℕ × ℕ)) → IsDeterministicPart (HomesPage g made taken)
homes-one g made taken = one-then (SetHome made.page made.frame) g (λ reply. MapsOf g made taken taken) (λ reply. maps-one g made taken taken)

fills-one : (source : Source) (g : Geometry) (made : TransferMade) (taken : List (ℕ × ℕ)) → IsDeterministicPart (FillsFrom source g made taken)
fills-one sources.Copy g made taken = one-follows AreRepliesApart (IsCopying made.copies.made g) (λ copied. HomesPage g made taken) (copying-one made.copies.made g) (λ copied. homes-one g made taken)
fills-one sources.Shadow g made taken = one-then (SetShadow made.page made.home None) g (λ reply. HomesPage g made taken) (λ reply. homes-one g made taken)

raises-one : (g : Geometry) (made : TransferMade) (taken : List (ℕ × ℕ)) → IsDeterministicPart (Raises g made taken)
raises-one g made taken =
    one-follows AreRepliesApart (IsVisits (raises_made made.page made.pages) g) (λ found. Flushes g made taken) (visits-one (raises_made made.page made.pages) g)
    (λ found. one-follows AreRepliesApart (IsShootdown made.cpus) (λ number. Fills g made taken) (shootdown-one made.cpus) (λ number. fills-one made.source g made taken))

pub transfer-one : (made : TransferMade) (g : Geometry) → IsDeterministicPart (IsTransfer made g)
transfer-one made g =
    one-each AreRepliesApart (UnmapAt g) made.pages (Raises g made)
    (λ v taken next rest. one-then (Unmap v) g (λ reply. next (taken_after v reply taken)) (λ reply. rest (taken_after v reply taken)))
    (raises-one g made) []
