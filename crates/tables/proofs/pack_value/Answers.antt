-- `tables::pack_value` meets its contract: the words of the point fit 64 bits, and this is one of them.
use native.Mathlib.Omega.{arith}
use borrow.Author.Rules.{rules}
use Rattle.rules.specs.Rows.{pack_value}
use Rattle.tables.proofs.Values.{point-small, word_small}
use Rattle.tables.proofs.pack_value.Goals as goal

pub overflow_mul-result : goal.overflow_mul-result
overflow_mul-result c = let h = point-small c.requires.point_fits in omega arith

pub overflow_add-result : goal.overflow_add-result
overflow_add-result c = let h = point-small c.requires.point_fits in omega arith

pub overflow_mul-result-2 : goal.overflow_mul-result-2
overflow_mul-result-2 c =
    let h = word_small c.requires.point_fits c.requires.first_lt_day_room.0 c.requires.first_lt_day_room.1 in
    omega arith

pub overflow_add-result-2 : goal.overflow_add-result-2
overflow_add-result-2 c =
    let h = word_small c.requires.point_fits c.requires.first_lt_day_room.0 c.requires.first_lt_day_room.1 in
    omega arith

pub returns : goal.returns
unfolding pack_value
returns c = search rules
