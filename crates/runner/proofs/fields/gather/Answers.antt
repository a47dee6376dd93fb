-- An element, whose value lies within the bytes; what opens the book; or a field that is not in its place.
use mathlib.Core.Path.{refl}
use Rattle.runner.specs.Stages.{elements, is_more, move_on}
use Rattle.runner.specs.Parts.{lists_in}
use Rattle.runner.proofs.FoundLaws.{not_more, elements_else}
use Rattle.runner.proofs.ArmLaws.{place_is, value_inside, waits, takes, arm_element}
use Rattle.runner.proofs.fields.gather.Goals as goal

pub take_element-book-requires-clause-size_in_bounds : goal.take_element-book-requires-clause-size_in_bounds
take_element-book-requires-clause-size_in_bounds c =
    value_inside _ _ _ _ _ c.read-found.ensures c.requires.bounds.0 _ c.in-Element.is

pub returns-in-More-clause-steps : goal.returns-in-More-clause-steps
unfolding is_more
returns-in-More-clause-steps c h values v =
    waits (elements h values) _ _ _ _ c.read-found.ensures (lists_in c.args.store.now) _ c.args.from _ c.in-More.is refl

pub returns-in-Element-clause-steps : goal.returns-in-Element-clause-steps
unfolding is_more
returns-in-Element-clause-steps c h values v =
    let l = c.read-found in
    takes (elements h values) _ _ _ _ l.ensures (lists_in c.args.store.now) _ _ _ c.in-Element.is refl
    (arm_element _ _ _ _ h values _ _ _ _ (c.take_element-book.ensures h values v) (place_is _ _ _ _ _ l.ensures _ c.in-Element.is))

pub returns-in-Message-clause-steps : goal.returns-in-Message-clause-steps
unfolding is_more move_on
returns-in-Message-clause-steps c h values v =
    takes (elements h values) _ _ _ _ c.read-found.ensures (lists_in c.args.store.now) _ _ _ c.in-Message.is refl
    (c.open_book.ensures.advances h values v)

pub returns-in-End-clause-steps : goal.returns-in-End-clause-steps
unfolding is_more move_on
returns-in-End-clause-steps c h values v =
    takes (elements h values) _ _ _ _ c.read-found.ensures (lists_in c.args.store.now) _ _ _ c.in-End.is refl
    (c.open_book-in-End.ensures.advances h values v)

pub returns-in_default-clause-steps : goal.returns-in_default-clause-steps
returns-in_default-clause-steps c h values v =
    let d = c.in_default in
    let t = lists_in c.args.store.now in
    takes (elements h values) _ _ _ _ c.read-found.ensures t _ _ _ refl (not_more _ d.not-More)
    (rw (elements_else _ _ h values _ d.not-More d.not-Element d.not-Message d.not-End) (c.refuse.ensures t))
