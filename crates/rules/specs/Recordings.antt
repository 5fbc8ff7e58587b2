-- Calls with what each must give, as lines of a table; and document 01's starred recordings, R1 to R11, as one table: what the document
-- says, and document 02 where it changed R8 and R9. That the written rules give just that is proved in rules/proofs/Recordings. Assumes
-- nothing.
use Rattle.std.specs.Prelude.{ℕ, zero, suc, ◌-◌, ◌/◌, ◌%◌, ◌^◌, Bool, true, false, ◌&&◌, List, [], ◌∷◌, ◌++◌, length, eqb}
use Rattle.std.specs.Float.{Format, binary32, binary64}
use Rattle.digits.specs.Digits.{every_digit}
use Rattle.rules.specs.Kind.{max_values}
use Rattle.rules.specs.Decimal.{all_decimal}
use Rattle.rules.specs.Vector.{all_vector}
use Rattle.rules.specs.Page.{all_page}
use Rattle.rules.specs.Verdict.{Point, the_page, in_vector, Result, done, refused, done_with}
use Rattle.rules.specs.Read.{read_of, all_read}
use Rattle.rules.specs.ReadVector.{read_vector_of, all_read_vector}
use Rattle.rules.specs.Examine.{examine_of, all_examine}
use Rattle.rules.specs.Write.{pairs_of, write_of, all_write}
use Rattle.rules.specs.Choose.{choose_of, all_choose}
use Rattle.rules.specs.Calls.{measure_of}
use Rattle.rules.specs.Older.{older_tried, page_by, all_older}
use Rattle.rules.specs.declared.Answer.{Answer}
use Rattle.rules.specs.declared.Choice.{Choice}

-- k bytes in the order in which they are written down, the first byte first: `hex 4 0x01_00_00_0A` is 1, 0, 0, 10
unfoldable pub hex : ℕ → ℕ → List ℕ
hex zero n = []
hex (suc k) n = n / 256 ^ k % 256 ∷ hex k n

-- ---- lines

-- calls, and what they must give. Pairs are bytes: exponent, then factor, for each vector
pub data Line : Type 0 where
  -- one call: the writer (kind, s, pairs, values, and the room that it is lent), measuring, the reader (kind, page, room), the reading of one
  -- vector (kind, page, number, room), the examiner
  writes : Format → ℕ → List ℕ → List ℕ → ℕ → Result → Line
  measures : Format → ℕ → List ℕ → List ℕ → Answer → Line
  reads : Format → List ℕ → ℕ → Result → Line
  reads_vector : Format → List ℕ → ℕ → ℕ → Result → Line
  examines : Format → List ℕ → Result → Line
  -- the choosing of a vector's pair (kind, values)
  chooses : Format → List ℕ → Choice → Line
  -- kind, s, pairs, values, page: measuring gives the page's length; the writer, lent just that, gives the page, and lent a byte less it
  -- refuses by 15; the reader, lent just the count, gives the values; and the examiner is done with them
  written : Format → ℕ → List ℕ → List ℕ → List ℕ → Line
  -- kind, page, values, row, point: the reader gives the values, and the examiner refuses the page
  flawed : Format → List ℕ → List ℕ → ℕ → Point → Line
  -- kind, s, pairs, values, page, row, point: by the older rule this was the page of the values; reader and examiner as in the line above
  moved : Format → ℕ → List ℕ → List ℕ → List ℕ → ℕ → Point → Line
  -- kind, page, row, point: the reader, lent room for any page, and the examiner both refuse the page
  faulty : Format → List ℕ → ℕ → Point → Line

-- ---- whether a line holds

abbrev pub same : List ℕ → List ℕ → Bool
same [] [] = true
same [] (y ∷ ys) = false
same (x ∷ xs) [] = false
same (x ∷ xs) (y ∷ ys) = eqb x y && same xs ys

abbrev pub gives : Result → Result → Bool
gives (done xs) (done ys) = same xs ys
gives (done xs) (refused b q) = false
gives (refused a p) (done ys) = false
gives (refused a p) (refused b q) = eqb a b && eqb p.vector q.vector && eqb p.place q.place

abbrev pub answers : Answer → Answer → Bool
answers a b = eqb a.number b.number && eqb a.vector b.vector && eqb a.place b.place

abbrev pub same_choice : Choice → Choice → Bool
same_choice c d = answers c.answer d.answer && eqb c.exponent d.exponent && eqb c.factor d.factor

unfoldable pub holds : Line → Bool
holds (writes fmt s pairs vs room r) = gives (write_of fmt s pairs vs room) r
holds (measures fmt s pairs vs a) = answers (measure_of fmt s pairs vs) a
holds (reads fmt page room r) = gives (read_of fmt room page) r
holds (reads_vector fmt page v room r) = gives (read_vector_of fmt v room page) r
holds (examines fmt page r) = gives (examine_of fmt page) r
holds (chooses fmt vs c) = same_choice (choose_of fmt vs) c
holds (written fmt s pairs vs page) =
    answers (measure_of fmt s pairs vs) (done_with (length page))
    && gives (write_of fmt s pairs vs (length page)) (done page)
    && gives (write_of fmt s pairs vs (length page - 1)) (refused 15 the_page)
    && gives (read_of fmt (length vs) page) (done vs)
    && gives (examine_of fmt page) (done vs)
holds (flawed fmt page vs a p) = gives (read_of fmt (length vs) page) (done vs) && gives (examine_of fmt page) (refused a p)
holds (moved fmt s pairs vs page a p) =
    same (page_by fmt (older_tried fmt) s (pairs_of pairs) vs) page
    && gives (read_of fmt (length vs) page) (done vs)
    && gives (examine_of fmt page) (refused a p)
holds (faulty fmt page a p) = gives (read_of fmt max_values page) (refused a p) && gives (examine_of fmt page) (refused a p)

unfoldable pub all_hold : List Line → Bool
all_hold [] = true
all_hold (l ∷ ls) = holds l && all_hold ls

-- to unfold this is to unfold all of the above, and all rules
unfoldable pub all_rules : Unit {0}
unfolding hex holds all_hold every_digit all_decimal all_vector all_page all_read all_read_vector all_examine all_write all_choose all_older measure_of
all_rules = tt

-- ---- the starred recordings. A page is cut as document 01 cuts it: header, offsets, pair and count of exceptions, frame and width, packed
-- fields, positions, exceptions

unfoldable pub starred : List Line
starred =
    -- R1 (004, 6.1): 1.23, 4.56, 7.89, 0.12; 26 bytes
    written binary32 10 (2 ∷ 0 ∷ []) (0x3F9D70A4 ∷ 0x4091EB85 ∷ 0x40FC7AE1 ∷ 0x3DF5C28F ∷ [])
    (hex 8 0x01_00_00_0A_04_00_00_00 ++ hex 4 0x04_00_00_00 ++ hex 4 0x02_00_00_00 ++ hex 5 0x0C_00_00_00_0A ++ hex 5 0x6F_F0_96_30_00)
    -- R2 (004, 6.2): 1.5, a NaN, 2.5, 0.33333334; 35 bytes
    ∷ written binary32 10 (1 ∷ 0 ∷ []) (0x3FC00000 ∷ 0x7FC00000 ∷ 0x40200000 ∷ 0x3EAAAAAB ∷ [])
    (hex 8 0x01_00_00_0A_04_00_00_00 ++ hex 4 0x04_00_00_00 ++ hex 4 0x01_00_02_00 ++ hex 5 0x0F_00_00_00_04 ++ hex 2 0x00_0A
    ++ hex 4 0x01_00_03_00 ++ hex 8 0x00_00_C0_7F_AB_AA_AA_3E)
    -- R3: no values
    ∷ written binary32 10 [] [] (hex 8 0x01_00_00_0A_00_00_00_00)
    -- R4: -0.0, an exception; frame 0, width 0; 27 bytes
    ∷ written binary32 10 (0 ∷ 0 ∷ []) (0x80000000 ∷ [])
    (hex 8 0x01_00_00_0A_01_00_00_00 ++ hex 4 0x04_00_00_00 ++ hex 4 0x00_00_01_00 ++ hex 5 0x00_00_00_00_00
    ++ hex 2 0x00_00 ++ hex 4 0x00_00_00_80)
    -- R5: 7.0, 7.0; frame 7, width 0; 21 bytes
    ∷ written binary32 10 (0 ∷ 0 ∷ []) (0x40E00000 ∷ 0x40E00000 ∷ [])
    (hex 8 0x01_00_00_0A_02_00_00_00 ++ hex 4 0x04_00_00_00 ++ hex 4 0x00_00_00_00 ++ hex 5 0x07_00_00_00_00)
    -- R6: -1.0, 1.0; frame -1, width 2; 22 bytes
    ∷ written binary32 10 (0 ∷ 0 ∷ []) (0xBF800000 ∷ 0x3F800000 ∷ [])
    (hex 8 0x01_00_00_0A_02_00_00_00 ++ hex 4 0x04_00_00_00 ++ hex 4 0x00_00_00_00 ++ hex 5 0xFF_FF_FF_FF_02 ++ hex 1 0x08)
    -- R7: 64-bit 1.5; frame 15, width 0; 25 bytes
    ∷ written binary64 10 (1 ∷ 0 ∷ []) (0x3FF8000000000000 ∷ [])
    (hex 8 0x01_00_00_0A_01_00_00_00 ++ hex 4 0x04_00_00_00 ++ hex 4 0x01_00_00_00 ++ hex 9 0x0F_00_00_00_00_00_00_00_00)
    -- R8 (T-05): 4194305.0; rounded to 4,194,304, and so an exception
    ∷ written binary32 10 (0 ∷ 0 ∷ []) (0x4A800002 ∷ [])
    (hex 8 0x01_00_00_0A_01_00_00_00 ++ hex 4 0x04_00_00_00 ++ hex 4 0x00_00_01_00 ++ hex 5 0x00_00_00_00_00
    ++ hex 2 0x00_00 ++ hex 4 0x02_00_80_4A)
    -- R9 (T-05): 2147483520.0, which is L; rounded to 2^31, and so an exception
    ∷ written binary32 10 (0 ∷ 0 ∷ []) (0x4EFFFFFF ∷ [])
    (hex 8 0x01_00_00_0A_01_00_00_00 ++ hex 4 0x04_00_00_00 ++ hex 4 0x00_00_01_00 ++ hex 5 0x00_00_00_00_00
    ++ hex 2 0x00_00 ++ hex 4 0xFF_FF_FF_4E)
    -- R9: 2147483648.0; an exception
    ∷ written binary32 10 (0 ∷ 0 ∷ []) (0x4F000000 ∷ [])
    (hex 8 0x01_00_00_0A_01_00_00_00 ++ hex 4 0x04_00_00_00 ++ hex 4 0x00_00_01_00 ++ hex 5 0x00_00_00_00_00
    ++ hex 2 0x00_00 ++ hex 4 0x00_00_00_4F)
    -- R10: R6 with packed 18; reads as -1.0, 1.0
    ∷ flawed binary32
    (hex 8 0x01_00_00_0A_02_00_00_00 ++ hex 4 0x04_00_00_00 ++ hex 4 0x00_00_00_00 ++ hex 5 0xFF_FF_FF_FF_02 ++ hex 1 0x18)
    (0xBF800000 ∷ 0x3F800000 ∷ [])
    20 (in_vector 0)
    -- R11: R5 as frame 6, width 1, packed 03; reads as 7.0, 7.0
    ∷ flawed binary32
    (hex 8 0x01_00_00_0A_02_00_00_00 ++ hex 4 0x04_00_00_00 ++ hex 4 0x00_00_00_00 ++ hex 5 0x06_00_00_00_01 ++ hex 1 0x03)
    (0x40E00000 ∷ 0x40E00000 ∷ [])
    24 (in_vector 0)
    ∷ []
