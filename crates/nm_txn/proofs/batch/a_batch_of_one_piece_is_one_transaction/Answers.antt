use Rattle.nm_txn.proofs.Single.{one-transaction}
use Rattle.nm_txn.proofs.batch.a_batch_of_one_piece_is_one_transaction.Goals as goal

pub returns : goal.returns
returns c = one-transaction
