-- Lines and short inputs of document 01, the record with its balance, as one table: what the definitions give, and the bytes that are
-- printed. The listing itself is run by a program against stored output: its messages take the checker too long.
use Rattle.std.specs.Prelude.{ℕ, Bool, true, false, ◌&&◌, List, [], ◌∷◌, ◌++◌, pos, negsuc, eqb}
use Rattle.file.specs.Lines.{book_line, record_line, refused_line}
use Rattle.file.specs.Encode.{encode_month, encode_element}
use Rattle.file.specs.Program.{settled}

pub record Case : Type 0 where
  pub given : List ℕ
  pub stated : List ℕ

-- March 2024, one point, two suppliers
unfoldable pub march : List ℕ
march = encode_month 2024 3 1 2

-- a subscription at 20,000,000 and a day tariff at 500,000, both the grid company's
unfoldable pub elements : List ℕ
elements = encode_element 1 1 0 (pos 20000000 ∷ []) ++ encode_element 3 1 0 (pos 500000 ∷ [])

unfoldable pub cases : List Case
cases =
    -- `book 2024 3 31 8826`
    record {
      given = book_line 2024 3 31 8826;
      stated = 98 ∷ 111 ∷ 111 ∷ 107 ∷ 32 ∷ 50 ∷ 48 ∷ 50 ∷ 52 ∷ 32 ∷ 51 ∷ 32 ∷ 51 ∷ 49 ∷ 32 ∷ 56 ∷ 56 ∷ 50 ∷ 54 ∷ 10 ∷ [];
    }
    -- `record 2 2 1 -500 -1 750000000 2500 1 250000000`
    ∷ record {
      given = record_line (record {
        kind = 2;
        supplier = 2;
        element = 1;
        moved = record { quantity = negsuc 499; kroner = negsuc 0; billionths = 750000000 };
        balance = record { quantity = pos 2500; kroner = pos 1; billionths = 250000000 };
      });
      stated = 114 ∷ 101 ∷ 99 ∷ 111 ∷ 114 ∷ 100 ∷ 32 ∷ 50 ∷ 32 ∷ 50 ∷ 32 ∷ 49 ∷ 32
          ∷ 45 ∷ 53 ∷ 48 ∷ 48 ∷ 32 ∷ 45 ∷ 49 ∷ 32 ∷ 55 ∷ 53 ∷ 48 ∷ 48 ∷ 48 ∷ 48 ∷ 48 ∷ 48 ∷ 48 ∷ 32
          ∷ 50 ∷ 53 ∷ 48 ∷ 48 ∷ 32 ∷ 49 ∷ 32 ∷ 50 ∷ 53 ∷ 48 ∷ 48 ∷ 48 ∷ 48 ∷ 48 ∷ 48 ∷ 48 ∷ 10 ∷ [];
    }
    -- `refused 11 13`
    ∷ record { given = refused_line 11 13; stated = 114 ∷ 101 ∷ 102 ∷ 117 ∷ 115 ∷ 101 ∷ 100 ∷ 32 ∷ 49 ∷ 49 ∷ 32 ∷ 49 ∷ 51 ∷ 10 ∷ [] }
    -- "No tag 1 is question 1"
    ∷ record { given = settled []; stated = refused_line 0 1 }
    -- "no tag 2 question 2"
    ∷ record { given = settled march; stated = refused_line 0 2 }
    -- "The book opens, printing its line, at .. the end"
    ∷ record { given = settled (march ++ elements); stated = book_line 2024 3 31 8826 }
    -- a field cut off by the end of the input
    ∷ record { given = settled (march ++ elements ++ (3 ∷ 0 ∷ [])); stated = refused_line 0 1 }
    ∷ []

-- ---- a case holds where the two lists are the same

unfoldable pub same_bytes : (given stated : List ℕ) → Bool
same_bytes [] [] = true
same_bytes [] (y ∷ ys) = false
same_bytes (x ∷ xs) [] = false
same_bytes (x ∷ xs) (y ∷ ys) = eqb x y && same_bytes xs ys

unfoldable pub holds : Case → Bool
holds c = same_bytes c.given c.stated
