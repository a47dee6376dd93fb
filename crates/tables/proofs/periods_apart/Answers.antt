-- `tables::periods_apart` meets its contract: each two neighbours are tested.
use Rattle.std.proofs.Common.{◌≡◌, rules}
use Rattle.std.proofs.lemmas.Fn.{always_returns_same}
use Rattle.rules.specs.WellFormed.{apart}
use Rattle.tables.proofs.Right.{chained_answer}
use Rattle.tables.proofs.periods_apart.Goals as goal

pub returns : goal.returns
returns c =
    chained_answer apart _ _
    (c.is_sorted_by.ensures.cases apart (always_returns_same _ (λ a r. r ≡ apart a.0.now a.1.0.now) _ (λ a r f k. search rules)))
