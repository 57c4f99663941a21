use Rattle.std.proofs.Common.{rules}
use Rattle.nm_report.specs.Texts.{page_text}
use Rattle.nm_report.proofs.Made.{numbers-pushed}
use Rattle.nm_report.proofs.printing.push_each_page.Goals as goal

pub loop-b-preserved : goal.loop-b-preserved
loop-b-preserved c =
    numbers-pushed (λ b. page_text c.args.end.now b) c.args.out.now.items c.loop-b.out.items c.push_page.new.out.items c.loop-b.b c.loop-b.invariant (search rules)
