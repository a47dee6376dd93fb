-- What is handed over for writing is the front of the text's places, which is the text.
use Rattle.std.proofs.Common.{ap, ◌∙◌}
use Rattle.month_starts.specs.MonthStarts.{number_lines}
use Rattle.month_starts.proofs.LineLaws.{text-front}
use Rattle.month_starts.proofs.write_month_starts.Goals as goal

pub returns : goal.returns
returns g c =
    let text = text-front c.put_lines-count.ensures ∙ ap number_lines c.month_starts-starts.ensures in
    rw text at c.write_whole.ensures
