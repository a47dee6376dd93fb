-- Opening: "Opening asks 1 to 4", question 1 being the file's. "Opening sets lines, sent totals, readings, blocks and these tables to 0;
-- the fixing comes next."
use Rattle.std.specs.Prelude.{ℕ, cond, [], pos, replicate, eqb}
use Rattle.rules.specs.World.{World, table_of, month_dates}
use Rattle.rules.specs.WellFormed.{reading_count, line_places, question2, question3, question4}
use Rattle.rules.specs.Effects.{ask}

-- a world as it is lent for an opening: whatever stands in its tables, no row is in use
unfoldable pub opening_answer : World → ℕ
opening_answer w = ask (question2 w) 2 (ask (question3 w) 3 (ask (question4 w) 4 0))

-- the world as an opening leaves it
unfoldable pub opened : World → World
opened w =
    record {
      opening = w.opening;
      position = record {
        tables = record {
          links = table_of [];
          holders = table_of [];
          states = table_of [];
          readings = replicate (reading_count w.opening) 0;
          blocks = replicate w.opening.points 0;
        };
        lines = replicate (line_places w.opening) (pos 0);
      };
      sent = record { totals = replicate (line_places w.opening) (pos 0); round = 1 };
      dates = month_dates w.opening;
    }

-- and a refused one as it was lent
unfoldable pub after_opening : World → World
after_opening w = cond (eqb (opening_answer w) 0) (opened w) w
