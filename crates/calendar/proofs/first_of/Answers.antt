-- `calendar::first_of` meets its contract: the test of the table is computed over its 1,201 entries. Assumes nothing.
use Prim.Native.Nat.{◌<◌}
use borrow.Author.Rules.{rules}
use Rattle.calendar.specs.Gregorian.{is_leap, has_thirty, days_of_month, listed_months}
use Rattle.calendar.proofs.Entries.{at}
use Rattle.calendar.proofs.first_of.Goals as goal

pub returns : goal.returns
unfolding is_leap has_thirty days_of_month
returns c = let h : c.args.number < listed_months = search rules in search at
