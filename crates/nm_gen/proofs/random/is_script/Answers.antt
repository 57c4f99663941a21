-- By its fields, one by one.
use Rattle.nm_gen.proofs.Valid.{IsScript-generated}
use Rattle.nm_gen.proofs.random.is_script.Goals as goal

pub returns : goal.returns
returns c = IsScript-generated
