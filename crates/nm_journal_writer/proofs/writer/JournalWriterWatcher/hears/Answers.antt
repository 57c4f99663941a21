use Rattle.nm_journal_writer.proofs.Writing.{written-more}
use Rattle.nm_journal_writer.proofs.writer.JournalWriterWatcher.hears.Goals as goal

pub returns : goal.returns
returns c = λ machine before h. written-more c.args.self.now.lines.items c.push_played.new.out.items before c.args.played h c.in_ok-push_played.ensures.text c.in_ok-push_played.ensures.fits
