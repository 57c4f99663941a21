-- Faults and batches that may begin.
use Rattle.std.proofs.Common.{◌≡◌, ◌≤◌, ℕ, List, length, Some, refl, sym, ap, subst, ◌∙◌, arith}
use Rattle.nm_base.specs.Geometry.{Geometry, IsGeometry, backing_page}
use Rattle.nm_base.specs.Ranges.{IsPage, IsVPage}
use Rattle.nm_action.specs.declared.spent.Spent.{Spent}
use Rattle.nm_view.specs.Views.{View}
use Rattle.nm_compose.specs.declared.or.Or.TheVariants.{This, Other}
use Rattle.nm_prepare.specs.Ready.{spent_by}
use Rattle.nm_shadow_fault.specs.Granting.{MayFault}
use Rattle.nm_fault.specs.Tasks.{FaultBegun, fault_in, fault_at, page_or}
use Rattle.nm_batch.specs.declared.batch.BatchAsked.{BatchAsked}
use Rattle.nm_batch.specs.Leaving.{most_pieces, MayBatch}
use Rattle.nm_batch.specs.Places.{batch_made}
use Rattle.nm_work_rows.specs.Reached.{IsFreeActor, MayBeginFault, pieces_of, ArePieces}

-- a fault on a mapped virtual page may begin
pub may-begin-fault : (g : Geometry) (actor vpage page : ℕ) (view : View) → IsGeometry g → backing_page g vpage ≡ Some page → IsVPage g vpage → IsPage g page → IsFreeActor g actor view → MayBeginFault g actor vpage view
may-begin-fault g actor vpage page view limits mapped there paged free =
    let P : ℕ → Type 0 = λ b. IsPage g b in
    let is : page ≡ page_or (backing_page g vpage) = sym (ap page_or mapped) in
    record {
      free = free;
      may = record { same = refl; geometry = limits; vpage = there; mapped = mapped ∙ ap Some is; page = subst P is paged; ops = free.none; turn = free.turn };
    }

-- a task that was begun with it may
pub begun-missing : (m : FaultBegun) (k g : Geometry) (actor vpage : ℕ) (view : View) → m ≡ This (record { 0 = k; 1 = fault_at k vpage }) → k ≡ g → MayBeginFault g actor vpage view → MayFault (fault_in m) g view
begun-missing m k g actor vpage view is same h =
    let M : FaultBegun → Type 0 = λ x. MayFault (fault_in x) g view in
    let K : Geometry → Type 0 = λ x. M (This (record { 0 = x; 1 = fault_at x vpage })) in
    subst M (sym is) (subst K (sym same) h.may)

pub begun-shadow : (m : FaultBegun) (k g : Geometry) (actor vpage : ℕ) (view : View) → m ≡ Other (record { 0 = k; 1 = fault_at k vpage }) → k ≡ g → MayBeginFault g actor vpage view → MayFault (fault_in m) g view
begun-shadow m k g actor vpage view is same h =
    let M : FaultBegun → Type 0 = λ x. MayFault (fault_in x) g view in
    let K : Geometry → Type 0 = λ x. M (Other (record { 0 = x; 1 = fault_at x vpage })) in
    subst M (sym is) (subst K (sym same) h.may)

-- a batch of pieces that may begin
pub begun-batch : (x : Geometry × BatchAsked) (k g : Geometry) (actor : ℕ) (pieces : List (ℕ × ℕ)) (spent : Spent) (view : View)
    → x ≡ record { 0 = k; 1 = record { pieces = pieces; spent = spent } } → k ≡ g → IsGeometry g → length pieces ≤ most_pieces → spent ≡ spent_by view → ArePieces g actor pieces view
    → MayBatch x.0 (batch_made x.1) g view
begun-batch x k g actor pieces spent view is same limits few drawn h =
    let M : Geometry × BatchAsked → Type 0 = λ y. MayBatch y.0 (batch_made y.1) g view in
    subst M (sym is) (record { same = same; geometry = limits; few = few; pages = h.pages; once = h.once; alone = h.free.none; turn = h.free.turn; spent = drawn })

-- three of them are few
pub begun-three : (x : Geometry × BatchAsked) (k g : Geometry) (actor a b d : ℕ) (spent : Spent) (view : View)
    → x ≡ record { 0 = k; 1 = record { pieces = pieces_of a b d; spent = spent } } → k ≡ g → IsGeometry g → spent ≡ spent_by view → ArePieces g actor (pieces_of a b d) view
    → MayBatch x.0 (batch_made x.1) g view
begun-three x k g actor a b d spent view is same limits drawn h =
    begun-batch x k g actor (pieces_of a b d) spent view is same limits (omega arith) drawn h
