use Rattle.std.proofs.Common.{rules}
use Rattle.nm_script.proofs.Tellings.{item-fits}
use Rattle.nm_script.proofs.draft.Draft.take.Goals as goal

pub add-requires : goal.add-requires
add-requires c = item-fits c.args.self.now c.args.line.now c.in_ok-item.item c.requires (search rules)
