-- Questions 2, 3 and 4 in order; each finds what those before it passed.
use Rattle.std.proofs.Common.{arith, ◌≡◌, sym, ◌∙◌}
use Rattle.std.proofs.lemmas.Grind.{common_steps}
use mathlib.Core.Bool.{true}
use Rattle.rules.specs.WellFormed.{question2, question4}
use Rattle.rules.specs.Effects.{ask}
use Rattle.rules.specs.Opening.{opening_answer}
use Rattle.rules.specs.Lent.{Lists, world_in, lend_elements}
use Rattle.rules.proofs.Passed.{asked_passed}
use Rattle.rules.proofs.Parts.{lengths_asked}
use Rattle.validation.proofs.Next.{refuses}
use Rattle.settlement_book.proofs.Measures.{limited}
use Rattle.settlement_book.proofs.questions.check_opening.Goals as goal
use Rattle.settlement_book.proofs.questions.check_opening.Goals.{In_ok-ask, Start}

-- what is lent, and any other tables
abbrev lent : Start → Lists → Lists
lent s o = lend_elements s.args.element_data.now s.args.prices.now o

-- question 2 has passed, whatever is lent
first : (c : In_ok-ask) (o : Lists) → question2 (world_in c.args.book o) ≡ true
first c o =
    sym (c.is_within_limits.ensures o)
    ∙ (asked_passed c.is_within_limits.result 2 0 0 (λ z. omega arith) (sym c.in_ok-ask.ensures)).0

pub returns-in_err-ask : goal.returns-in_err-ask
unfolding ask opening_answer
returns-in_err-ask c o h =
    let e = c.in_err-ask.ensures in
    let q = c.is_within_limits.ensures (lent (goal.at.returns-in_err-ask c).Start o) in
    let r = refuses c.in_err-ask.field-0.0 in
    grind (arith, common_steps)

pub is_sized-requires : goal.is_sized-requires
is_sized-requires c o = limited c.args.book o (first (goal.at.is_sized-requires c).In_ok-ask o)

pub returns-in_err-ask-2 : goal.returns-in_err-ask-2
unfolding ask opening_answer
returns-in_err-ask-2 c o h =
    let e = c.in_err-ask-2.ensures in
    let t = lent (goal.at.returns-in_err-ask-2 c).Start o in
    let q = c.is_within_limits.ensures t in
    let s = c.is_sized.ensures t h in
    let r = refuses c.in_err-ask-2.field-0.0 in
    grind (arith, common_steps)

pub elements_right-requires : goal.elements_right-requires
elements_right-requires c =
    let t = lent (goal.at.elements_right-requires c).Start c.requires.0 in
    let n = lengths_asked (world_in c.args.book t) (first (goal.at.elements_right-requires c).In_ok-ask t)
    (sym (c.is_sized.ensures t c.requires.1)
    ∙ (asked_passed c.is_sized.result 3 0 0 (λ z. omega arith) (sym c.in_ok-ask-2.ensures)).0) in
    record { few = n.limited.elements; described = n.element_data; priced = n.prices }

pub returns : goal.returns
unfolding ask opening_answer question4
returns c o h =
    let t = lent (goal.at.returns c).Start o in
    let q = c.is_within_limits.ensures t in
    let s = c.is_sized.ensures t h in
    let k = c.elements_right.ensures o in
    grind (arith, common_steps)
