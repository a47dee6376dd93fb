-- `read_element` meets its contract: the prices, of which there are 24, stand in their places of the table.
use Rattle.std.proofs.Common.{arith}
use Rattle.std.proofs.lemmas.Grind.{common_steps}
use Rattle.file.specs.Bytes.{placed}
use Rattle.file.specs.Element.{element_prices}
use Rattle.file.proofs.ElementLaws.{length_prices}
use Rattle.file.proofs.fields.read_element.Goals as goal

pub returns-clause-priced : goal.returns-clause-priced
unfolding element_prices placed
returns-clause-priced c = grind (arith, common_steps, length_prices)
