-- `tables::values_apart` meets its contract: each two neighbours are tested.
use Rattle.std.proofs.Common.{◌≡◌, rules}
use Rattle.std.proofs.lemmas.Fn.{always_returns_same}
use Rattle.rules.specs.WellFormed.{earlier}
use Rattle.tables.proofs.Right.{chained_answer}
use Rattle.tables.proofs.values_apart.Goals as goal

pub returns : goal.returns
unfolding earlier
returns c =
    let order = earlier c.args.size in
    chained_answer order _ _
    (c.is_sorted_by.ensures.cases order (always_returns_same _ (λ a r. r ≡ order a.0.now a.1.0.now) _ (λ a r f k. search rules)))
