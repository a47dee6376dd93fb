-- The records stand as numbers at the front of the local array, and the list is written from them; a refusal writes nothing.
use mathlib.Core.Path.{sym, ap, ◌∙◌}
use Rattle.std.specs.Prelude.{Result}
use Rattle.std.proofs.lemmas.Result.{err_from_is_err_and}
use Rattle.settlement.specs.Replies.{count_of}
use Rattle.listing.proofs.Rooms.{listed, listed_none}
use Rattle.listing.proofs.message.Goals as goal

pub returns-in_err-count-clause-listed : goal.returns-in_err-count-clause-listed
returns-in_err-count-clause-listed c =
    let p = err_from_is_err_and c.from_residual.result c.from_residual.ensures.1 in
    let e = p.1 ∙ ap Result.Err p.2 ∙ sym c.in_err-count.was in
    rw e (listed_none _ _ c.args.fields c.message_numbers.result c.args.records.now _ c.message_numbers.ensures.numbered
    (ap count_of c.in_err-count.was))

pub returns-clause-listed : goal.returns-clause-listed
returns-clause-listed c =
    let n = rw c.in_ok-count.was at c.message_numbers.ensures.numbered in
    listed _ _ c.args.fields (Result.Ok c.in_ok-count.count) _ _ _ n c.put_list.ensures
