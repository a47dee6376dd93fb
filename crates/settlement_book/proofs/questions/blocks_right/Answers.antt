-- `blocks_right` meets its contract: what the chain finds of the marks is what the rules ask of them.
use Rattle.std.proofs.Common.{ℕ, rules, ◌∙◌, sym, leb}
use Rattle.std.proofs.lemmas.Iterator.{YieldsList-from_slice}
use Rattle.std.proofs.lemmas.Iterator.Search.{all_from_yields_List}
use Rattle.rules.proofs.Chains.{all_in-list}
use Rattle.rules.proofs.Tests.{tests}
use Rattle.settlement_book.proofs.questions.blocks_right.Goals as goal

pub returns : goal.returns
returns c =
    let f = λ (x : ℕ). leb x 1 in
    all_from_yields_List f _ _ _ c.all.ensures.ran (YieldsList-from_slice c.args.blocks.now cc) (λ x b q k. search (rules, tests))
    ∙ sym (all_in-list f c.args.blocks.now)
