-- What is read of the element is what the lent book's opening says of it.
use Rattle.rules.specs.Lent.{lists_of}
use Rattle.rules.specs.World.{is_tariff, marked}
use Rattle.validation.proofs.questions.element_at.Goals as goal

pub returns : goal.returns
unfolding is_tariff marked
returns c =
    let b = c.args.lent.now.book in
    let o = lists_of c.args.lent.now in
    record {
      owner = c.owner_of.ensures b o;
      tariff = rw (← c.kind_of.ensures b o);
      tax = rw (← c.marks_of.ensures b o) c.is_marked.ensures;
    }
