use Rattle.nm_report.proofs.Pieces.{AllFit-made}
use Rattle.nm_report.proofs.follows.follows_fits.Goals as goal

pub returns : goal.returns
returns c = AllFit-made c.args.cpu c.args.program.now c.args.results.now c.args.list.now c.requires.pieces
