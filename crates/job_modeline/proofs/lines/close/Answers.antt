-- `close` meets its contract. Assumes nothing.
use borrow.Author.Tests.{eq-eqb, ne_eqb}
use Rattle.job_modeline.specs.Job.{closing_part}
use Rattle.job_modeline.proofs.lines.close.Goals as goal

pub returns-then-before-eq0 : goal.returns-then-before-eq0
unfolding closing_part
returns-then-before-eq0 c =
    let before = c.args.before in record {
      lines_step = rw (eq-eqb before.count 0 c.if-before-eq0.true) c.feed.ensures.lines_step;
      prefix_len = c.feed.ensures.prefix_len;
    }

pub returns : goal.returns
unfolding closing_part
returns c =
    let before = c.args.before in record {
      lines_step = rw (ne_eqb before.count 0 c.if-before-eq0.false) c.feed-2.ensures.lines_step;
      prefix_len = c.feed-2.ensures.prefix_len;
    }
