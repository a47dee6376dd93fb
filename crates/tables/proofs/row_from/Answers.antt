-- `tables::row_from` meets its contract: the row at the place is the first that is not below.
use Rattle.std.proofs.Common.{◌∙◌}
use Rattle.tables.proofs.Found.{from_at, got}
use Rattle.tables.proofs.row_from.Goals as goal

pub returns : goal.returns
returns c =
    let rows = c.args.rows.now in
    c.copied.ensures ∙ got (λ x. x.now) rows c.place.result c.get.result c.get.ensures.lookup
    ∙ rw c.place.ensures.is (from_at c.args.word rows)
