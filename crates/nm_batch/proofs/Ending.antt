-- What is left of a batch has a list.
use Rattle.std.proofs.Common.{ℕ, List, [], ◌∷◌, ◌++◌}
use Rattle.nm_base.specs.Geometry.{Geometry, IsGeometry}
use Rattle.nm_part.specs.Patterns.{CanEnd}
use Rattle.nm_part.proofs.Patterns.{can-ends, can-follow, each-can}
use Rattle.nm_shoot.specs.Shootdown.{IsShootdown}
use Rattle.nm_copying.specs.Copying.{IsCopying}
use Rattle.nm_copying.specs.declared.copies.CopiesMade.{CopiesMade}
use Rattle.nm_copying.proofs.Copied.{some-copies}
use Rattle.nm_prepare.specs.declared.prepare.PrepareMade.{PrepareMade}
use Rattle.nm_prepare.specs.declared.prepare.Prepared.{Prepared}
use Rattle.nm_prepare.specs.Preparing.{IsPrepare}
use Rattle.nm_prepare.proofs.Ending.{some-prepare}
use Rattle.nm_commit.specs.Unmapping.{UnmapsOne}
use Rattle.nm_commit.specs.Deciding.{IsDeciding}
use Rattle.nm_commit.specs.declared.decide.DecideMade.{DecideMade}
use Rattle.nm_commit.specs.declared.decide.Decided.{Decided}
use Rattle.nm_commit.specs.declared.unmap.UnmapMade.{UnmapMade}
use Rattle.nm_commit.proofs.Unmapped.{some-unmapping}
use Rattle.nm_commit.proofs.Runs.{some-deciding}
use Rattle.nm_txn.specs.declared.batch.ReadyPiece.{ReadyPiece}
use Rattle.nm_txn.specs.Batches.{BatchMade, drawn_with, ready_of, taken_of, ends_of, DecidesNext, DecidesEach, FlushesAgain, UnmapsNext, CopiesNext, CopiesEach, UnmapsEach, AfterPrepares, PreparesNext}
use Rattle.nm_txn.proofs.Ending.{some-flush}
use Rattle.nm_batch.specs.Places.{PreparesFrom, CopiesFromPiece, UnmapsFrom, DecidesFrom}
use Rattle.nm_part.specs.Patterns.{Ends}

pub can-decide : (g : Geometry) (ends : List Prepared) (rest : List DecideMade) (kept : List Decided) → CanEnd (DecidesFrom g ends rest kept)
can-decide g ends rest kept =
    each-can (DecidesNext g) rest kept (λ decided. Ends (ends_of ends decided))
    (λ d now later can. can-follow (IsDeciding d g) (λ end. later (now ++ end ∷ [])) (some-deciding d g) (can (now ++ (some-deciding d g).outcome ∷ [])))
    (λ decided. can-ends (ends_of ends decided))

pub can-flush-again : (g : Geometry) (ends : List Prepared) (taken : List DecideMade) → CanEnd (FlushesAgain g ends taken)
can-flush-again g ends taken = can-follow (IsShootdown g.cpus) (λ number. DecidesEach g ends taken) (some-flush g.cpus) (can-decide g ends taken [])

pub can-unmap : (g : Geometry) (ends : List Prepared) (ready rest : List ReadyPiece) (words : List ℕ) → CanEnd (UnmapsFrom g ends ready rest words)
can-unmap g ends ready rest words =
    let made = λ (p : ReadyPiece). (let u : UnmapMade = record { page = p.page; vpage = p.vpage } in u) in
    each-can (UnmapsNext g) rest words (λ words. FlushesAgain g ends (taken_of ready words))
    (λ p now later can. can-follow (UnmapsOne (made p) g) (λ word. later (now ++ word ∷ [])) (some-unmapping (made p) g) (can (now ++ (some-unmapping (made p) g).outcome ∷ [])))
    (λ words. can-flush-again g ends (taken_of ready words))

pub can-copy : (g : Geometry) (ends : List Prepared) (ready rest : List ReadyPiece) → CanEnd (CopiesFromPiece g ends ready rest)
can-copy g ends ready rest =
    let made = λ (p : ReadyPiece). (let c : CopiesMade = record { page = p.page; frame = p.frame; words = g.words } in c) in
    each-can (CopiesNext g) rest tt (λ kept. UnmapsEach g ends ready)
    (λ p now later can. can-follow (IsCopying (made p) g) (λ copied. later now) (some-copies (made p) g) (can now))
    (λ kept. can-unmap g ends ready ready [])

pub can-flush-first : (g : Geometry) (ends : List Prepared) (ready : List ReadyPiece) → CanEnd (AfterPrepares g ends ready)
can-flush-first g ends [] = can-ends (ends_of ends [])
can-flush-first g ends (p ∷ ps) = can-follow (IsShootdown g.cpus) (λ number. CopiesEach g ends (p ∷ ps)) (some-flush g.cpus) (can-copy g ends (p ∷ ps) (p ∷ ps))

pub can-prepare : (g : Geometry) (made : BatchMade) (pieces : List (ℕ × ℕ)) (kept : List Prepared) → IsGeometry g → CanEnd (PreparesFrom g made pieces kept)
can-prepare g made pieces kept h =
    let m = λ (p : ℕ × ℕ) (now : List Prepared). (let q : PrepareMade = record { page = p.0; vpage = p.1; spent = drawn_with made.spent now } in q) in
    each-can (PreparesNext g made) pieces kept (λ ends. AfterPrepares g ends (ready_of made.pieces ends))
    (λ p now later can. can-follow (IsPrepare (m p now) g) (λ end. later (now ++ end ∷ [])) (some-prepare (m p now) g h) (can (now ++ (some-prepare (m p now) g h).outcome ∷ [])))
    (λ ends. can-flush-first g ends (ready_of made.pieces ends))
