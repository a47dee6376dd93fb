-- `put_lines` meets its contract: each turn writes the line of one number more.
use Rattle.std.proofs.Common.{arith}
use mathlib.Core.List.{flat_map}
use Rattle.file.proofs.TextLaws.{no_text}
use Rattle.month_starts.proofs.LineLaws.{line_more}
use Rattle.month_starts.proofs.put_lines.Goals as goal

pub loop-number-init : goal.loop-number-init
unfolding flat_map
loop-number-init c = no_text _ (omega arith)

pub loop-number-preserved : goal.loop-number-preserved
loop-number-preserved c = line_more c.args.numbers.now _ c.loop-number-test.true c.loop-number.invariant c.number_then.ensures
