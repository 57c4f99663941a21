-- Each reply fits.
use Rattle.nm_fits.proofs.EachReply.{Fits-reply_in}
use Rattle.nm_fits.proofs.reply.each_reply_fits.Goals as goal

pub returns : goal.returns
returns c = Fits-reply_in
