-- A second table of calls with what each must give: what the starred recordings leave open. It pins the arithmetic where a likely mistake
-- shows, the shapes of a page, every row with its vector number and place, and the order of the rows. That the written rules give just that
-- is proved in rules/proofs/Edges. Assumes nothing.
use Rattle.std.specs.Prelude.{ℕ, zero, suc, ◌+◌, ◌-◌, ◌*◌, ◌/◌, List, [], ◌∷◌, ◌++◌, length, replicate, ℤ, pos, neg_ℤ}
use Rattle.std.specs.Float.{Format, binary32, binary64}
use Rattle.std.proofs.Common.{of_z}
use Rattle.digits.specs.Digits.{le}
use Rattle.rules.specs.Kind.{word, word_bits, word_bytes}
use Rattle.rules.specs.Verdict.{Point, the_page, in_vector, in_vector_at, done, refused, done_with, refusal}
use Rattle.rules.specs.Recordings.{hex, Line, writes, measures, reads, reads_vector, examines, chooses, written, flawed, moved, faulty}
use Rattle.rules.specs.declared.Choice.{Choice}

-- ---- parts that many pages share, so that a line shows what is its own

-- header and offset of a page of one vector at s 10, of n values (n below 256)
abbrev pub front : ℕ → List ℕ
front n = hex 4 0x01_00_00_0A ++ (n ∷ hex 3 0) ++ hex 4 0x04_00_00_00

-- a 32-bit page of two vectors at s 3 up to its second vector, of n values: header, offsets, and a first vector of eight times 7.0
abbrev pub behind : ℕ → List ℕ
behind n =
    hex 4 0x01_00_00_03 ++ ((8 + n) ∷ hex 3 0) ++ hex 8 0x08_00_00_00_11_00_00_00 ++ hex 4 0x00_00_00_00 ++ hex 5 0x07_00_00_00_00

abbrev pub sevens : List ℕ
sevens = replicate 8 0x40E00000

-- a page of one value with its pair: the value turns into a whole number, or it is listed
abbrev pub turns : Format → ℕ → ℕ → ℕ → ℤ → Line
turns fmt e f v z =
    written fmt 10 (e ∷ f ∷ []) (v ∷ []) (front 1 ++ (e ∷ f ∷ hex 2 0x00_00) ++ le (word_bytes fmt) (of_z (word fmt) z) ++ hex 1 0x00)

abbrev pub lists : Format → ℕ → ℕ → ℕ → Line
lists fmt e f v =
    written fmt 10 (e ∷ f ∷ []) (v ∷ [])
    (front 1 ++ (e ∷ f ∷ hex 2 0x01_00) ++ hex (word_bytes fmt + 1) 0 ++ hex 2 0x00_00 ++ le (word_bytes fmt) v)

-- n positions from i on, two bytes each (below 256)
unfoldable pub rising : ℕ → ℕ → List ℕ
rising i zero = []
rising i (suc n) = i ∷ 0 ∷ rising (suc i) n

-- ---- from a value to a whole number: pages of one value, so that the frame is its whole number (or the value is listed)

unfoldable pub arithmetic : List Line
arithmetic =
    -- 34.46559, e 8, f 3: 3,446,559.5 after two multiplications, and so 3,446,560, which does not come back; after one, 3,446,559, which would
    written binary32 10 (8 ∷ 3 ∷ []) (0x4209DCC4 ∷ [])
    (front 1 ++ hex 4 0x08_03_01_00 ++ hex 5 0x00_00_00_00_00 ++ hex 2 0x00_00 ++ hex 4 0xC4_DC_09_42)
    -- -1483887.625, e 2, f 1: -14,838,877 after two multiplications, -14,838,876 after one; above zero the constant would hide it
    ∷ written binary32 10 (2 ∷ 1 ∷ []) (0xC9B5237D ∷ []) (front 1 ++ hex 4 0x02_01_00_00 ++ hex 5 0xA3_93_1D_FF_00)
    -- 64-bit 2096.520641153297, e 17, f 5: as in the first line, with 2,096,520,641,153,297.5 after two multiplications
    ∷ written binary64 10 (17 ∷ 5 ∷ []) (0x40A0610A917A2CBA ∷ [])
    (front 1 ++ hex 4 0x11_05_01_00 ++ hex 9 0x00_00_00_00_00_00_00_00_00 ++ hex 2 0x00_00 ++ hex 8 0xBA_2C_7A_91_0A_61_A0_40)
    -- -5751.0, e 5, f 1: -57,510,004 where each product is rounded, -57,510,000 where only the last is
    ∷ written binary32 10 (5 ∷ 1 ∷ []) (0xC5B3B800 ∷ []) (front 1 ++ hex 4 0x05_01_00_00 ++ hex 5 0x8C_77_92_FC_00)
    -- 64-bit -684.2, e 14, f 1: -6,842,000,000,000,001 after two multiplications, one more after one
    ∷ written binary64 10 (14 ∷ 1 ∷ []) (0xC08561999999999A ∷ []) (front 1 ++ hex 4 0x0E_01_00_00 ++ hex 9 0xFF_5F_72_BC_3C_B1_E7_FF_00)
    -- -94.0, e 6, f 1: -9,400,000; an exception if 10^-f came first
    ∷ written binary32 10 (6 ∷ 1 ∷ []) (0xC2BC0000 ∷ []) (front 1 ++ hex 4 0x06_01_00_00 ++ hex 5 0x40_91_70_FF_00)
    -- 4980337.0, e 2, f 1: 49,803,372 by the nearest float to 0.1; an exception by a division by 10
    ∷ written binary32 10 (2 ∷ 1 ∷ []) (0x4A97FCE2 ∷ []) (front 1 ++ hex 4 0x02_01_00_00 ++ hex 5 0x6C_F0_F7_02_00)
    -- 0.9, e 1: 9 times the nearest float to 0.1 is another value; a division by 10 would bring it back
    ∷ written binary32 10 (1 ∷ 0 ∷ []) (0x3F666666 ∷ [])
    (front 1 ++ hex 4 0x01_00_01_00 ++ hex 5 0x00_00_00_00_00 ++ hex 2 0x00_00 ++ hex 4 0x66_66_66_3F)
    -- 0.9, e 2, f 1: 9, which comes back as 9 x 10 x 0.01
    ∷ written binary32 10 (2 ∷ 1 ∷ []) (0x3F666666 ∷ []) (front 1 ++ hex 4 0x02_01_00_00 ++ hex 5 0x09_00_00_00_00)
    -- 64-bit 0.3, e 1: an exception, as 0.9 is above
    ∷ written binary64 10 (1 ∷ 0 ∷ []) (0x3FD3333333333333 ∷ [])
    (front 1 ++ hex 4 0x01_00_01_00 ++ hex 9 0x00_00_00_00_00_00_00_00_00 ++ hex 2 0x00_00 ++ hex 8 0x33_33_33_33_33_33_D3_3F)
    -- 64-bit 0.3, e 2, f 1: 3
    ∷ written binary64 10 (2 ∷ 1 ∷ []) (0x3FD3333333333333 ∷ []) (front 1 ++ hex 4 0x02_01_00_00 ++ hex 9 0x03_00_00_00_00_00_00_00_00)
    -- 0.36, e 10, f 3: 3,600,000.5, a tie, to even, which is down
    ∷ written binary32 10 (10 ∷ 3 ∷ []) (0x3EB851EC ∷ []) (front 1 ++ hex 4 0x0A_03_00_00 ++ hex 5 0x80_EE_36_00_00)
    -- 4.141, e 8, f 2: 4,140,999.5, a tie, to even, which is up
    ∷ written binary32 10 (8 ∷ 2 ∷ []) (0x40848312 ∷ []) (front 1 ++ hex 4 0x08_02_00_00 ++ hex 5 0xC8_2F_3F_00_00)
    -- -0.36, e 10, f 3: the first of the two below zero
    ∷ written binary32 10 (10 ∷ 3 ∷ []) (0xBEB851EC ∷ []) (front 1 ++ hex 4 0x0A_03_00_00 ++ hex 5 0x80_11_C9_FF_00)
    -- 35192.547, e 8, f 6: 3,519,254.5, to even 3,519,254, which does not come back; 3,519,255 would
    ∷ written binary32 10 (8 ∷ 6 ∷ []) (0x4709788C ∷ [])
    (front 1 ++ hex 4 0x08_06_01_00 ++ hex 5 0x00_00_00_00_00 ++ hex 2 0x00_00 ++ hex 4 0x8C_78_09_47)
    -- 64-bit 2105674.99, e 18, f 9: 2,105,674,990,000,000.5, a tie, down
    ∷ written binary64 10 (18 ∷ 9 ∷ []) (0x414010A57EB851EC ∷ []) (front 1 ++ hex 4 0x12_09_00_00 ++ hex 9 0x80_97_CA_A9_19_7B_07_00_00)
    -- 64-bit 2175399.3, e 16, f 7: 2,175,399,299,999,999.5, a tie, up
    ∷ written binary64 10 (16 ∷ 7 ∷ []) (0x414098D3A6666666 ∷ []) (front 1 ++ hex 4 0x10_07_00_00 ++ hex 9 0x00_69_85_9E_83_BA_07_00_00)
    -- 1e-10, e 10, the largest exponent: 1
    ∷ written binary32 10 (10 ∷ 0 ∷ []) (0x2EDBE6FF ∷ []) (front 1 ++ hex 4 0x0A_00_00_00 ++ hex 5 0x01_00_00_00_00)
    -- 3.0, e 10, f 10: 3.0000002 after two multiplications, whose 3 comes back as another value
    ∷ written binary32 10 (10 ∷ 10 ∷ []) (0x40400000 ∷ [])
    (front 1 ++ hex 4 0x0A_0A_01_00 ++ hex 5 0x00_00_00_00_00 ++ hex 2 0x00_00 ++ hex 4 0x00_00_40_40)
    -- 64-bit 1.23e-16, e 18, the largest exponent: 123
    ∷ written binary64 10 (18 ∷ 0 ∷ []) (0x3CA1B9E627A00D07 ∷ []) (front 1 ++ hex 4 0x12_00_00_00 ++ hex 9 0x7B_00_00_00_00_00_00_00_00)
    -- 64-bit 3.0, e 18, f 18: 3
    ∷ written binary64 10 (18 ∷ 18 ∷ []) (0x4008000000000000 ∷ []) (front 1 ++ hex 4 0x12_12_00_00 ++ hex 9 0x03_00_00_00_00_00_00_00_00)
    -- 16777216.0, e 0: 2^24
    ∷ written binary32 10 (0 ∷ 0 ∷ []) (0x4B800000 ∷ []) (front 1 ++ hex 4 0x00_00_00_00 ++ hex 5 0x00_00_00_01_00)
    -- -0.3, e 0: its whole number is 0, which comes back as 0.0
    ∷ written binary32 10 (0 ∷ 0 ∷ []) (0xBE99999A ∷ [])
    (front 1 ++ hex 4 0x00_00_01_00 ++ hex 5 0x00_00_00_00_00 ++ hex 2 0x00_00 ++ hex 4 0x9A_99_99_BE)
    -- -0.3, e 1: -3
    ∷ written binary32 10 (1 ∷ 0 ∷ []) (0xBE99999A ∷ []) (front 1 ++ hex 4 0x01_00_00_00 ++ hex 5 0xFD_FF_FF_FF_00)
    -- 64-bit -0.3, e 0: the same
    ∷ written binary64 10 (0 ∷ 0 ∷ []) (0xBFD3333333333333 ∷ [])
    (front 1 ++ hex 4 0x00_00_01_00 ++ hex 9 0x00_00_00_00_00_00_00_00_00 ++ hex 2 0x00_00 ++ hex 8 0x33_33_33_33_33_33_D3_BF)
    -- 64-bit -0.3, e 2, f 1: -3
    ∷ written binary64 10 (2 ∷ 1 ∷ []) (0xBFD3333333333333 ∷ []) (front 1 ++ hex 4 0x02_01_00_00 ++ hex 9 0xFD_FF_FF_FF_FF_FF_FF_FF_00)
    -- the smallest value, 2^-149, e 10
    ∷ written binary32 10 (10 ∷ 0 ∷ []) (0x00000001 ∷ [])
    (front 1 ++ hex 4 0x0A_00_01_00 ++ hex 5 0x00_00_00_00_00 ++ hex 2 0x00_00 ++ hex 4 0x01_00_00_00)
    -- the largest subnormal, below zero, e 10
    ∷ written binary32 10 (10 ∷ 0 ∷ []) (0x807FFFFF ∷ [])
    (front 1 ++ hex 4 0x0A_00_01_00 ++ hex 5 0x00_00_00_00_00 ++ hex 2 0x00_00 ++ hex 4 0xFF_FF_7F_80)
    -- 64-bit: the smallest value, 2^-1074, e 18
    ∷ written binary64 10 (18 ∷ 0 ∷ []) (0x0000000000000001 ∷ [])
    (front 1 ++ hex 4 0x12_00_01_00 ++ hex 9 0x00_00_00_00_00_00_00_00_00 ++ hex 2 0x00_00 ++ hex 8 0x01_00_00_00_00_00_00_00)
    -- 64-bit: the largest subnormal, e 18
    ∷ written binary64 10 (18 ∷ 0 ∷ []) (0x000FFFFFFFFFFFFF ∷ [])
    (front 1 ++ hex 4 0x12_00_01_00 ++ hex 9 0x00_00_00_00_00_00_00_00_00 ++ hex 2 0x00_00 ++ hex 8 0xFF_FF_FF_FF_FF_FF_0F_00)
    -- the largest value, e 10, f 10: its first product is infinite
    ∷ written binary32 10 (10 ∷ 10 ∷ []) (0x7F7FFFFF ∷ [])
    (front 1 ++ hex 4 0x0A_0A_01_00 ++ hex 5 0x00_00_00_00_00 ++ hex 2 0x00_00 ++ hex 4 0xFF_FF_7F_7F)
    -- 64-bit: the largest value, below zero, e 18, f 18: its first product is infinite
    ∷ written binary64 10 (18 ∷ 18 ∷ []) (0xFFEFFFFFFFFFFFFF ∷ [])
    (front 1 ++ hex 4 0x12_12_01_00 ++ hex 9 0x00_00_00_00_00_00_00_00_00 ++ hex 2 0x00_00 ++ hex 8 0xFF_FF_FF_FF_FF_FF_EF_FF)
    -- -214748352.0, e 1: scaled to -L
    ∷ written binary32 10 (1 ∷ 0 ∷ []) (0xCD4CCCCC ∷ []) (front 1 ++ hex 4 0x01_00_00_00 ++ hex 5 0x80_00_00_80_00)
    -- -214748368.0, e 1: scaled to the float below -L
    ∷ written binary32 10 (1 ∷ 0 ∷ []) (0xCD4CCCCD ∷ [])
    (front 1 ++ hex 4 0x01_00_01_00 ++ hex 5 0x00_00_00_00_00 ++ hex 2 0x00_00 ++ hex 4 0xCD_CC_4C_CD)
    -- -2147483520.0, e 1, f 1: the first product is below -L, the scaled value is not
    ∷ written binary32 10 (1 ∷ 1 ∷ []) (0xCEFFFFFF ∷ []) (front 1 ++ hex 4 0x01_01_00_00 ++ hex 5 0x80_00_00_80_00)
    -- 64-bit -(2^63 - 1024), e 0: -L
    ∷ written binary64 10 (0 ∷ 0 ∷ []) (0xC3DFFFFFFFFFFFFF ∷ []) (front 1 ++ hex 4 0x00_00_00_00 ++ hex 9 0x00_04_00_00_00_00_00_80_00)
    -- 64-bit 2^63, e 0: the float above L
    ∷ written binary64 10 (0 ∷ 0 ∷ []) (0x43E0000000000000 ∷ [])
    (front 1 ++ hex 4 0x00_00_01_00 ++ hex 9 0x00_00_00_00_00_00_00_00_00 ++ hex 2 0x00_00 ++ hex 8 0x00_00_00_00_00_00_E0_43)
    -- 64-bit -2^63, e 0: its whole number would fit, its magnitude is above L
    ∷ written binary64 10 (0 ∷ 0 ∷ []) (0xC3E0000000000000 ∷ [])
    (front 1 ++ hex 4 0x00_00_01_00 ++ hex 9 0x00_00_00_00_00_00_00_00_00 ++ hex 2 0x00_00 ++ hex 8 0x00_00_00_00_00_00_E0_C3)
    -- 64-bit -922337203685477478.4, e 1: scaled to -L
    ∷ written binary64 10 (1 ∷ 0 ∷ []) (0xC3A9999999999999 ∷ []) (front 1 ++ hex 4 0x01_00_00_00 ++ hex 9 0x00_04_00_00_00_00_00_80_00)
    -- 64-bit 2^62, e 0
    ∷ written binary64 10 (0 ∷ 0 ∷ []) (0x43D0000000000000 ∷ []) (front 1 ++ hex 4 0x00_00_00_00 ++ hex 9 0x00_00_00_00_00_00_00_40_00)
    -- 64-bit -2^62, e 0
    ∷ written binary64 10 (0 ∷ 0 ∷ []) (0xC3D0000000000000 ∷ []) (front 1 ++ hex 4 0x00_00_00_00 ++ hex 9 0x00_00_00_00_00_00_00_C0_00)
    -- 64-bit 1.5 x 2^62, e 0
    ∷ written binary64 10 (0 ∷ 0 ∷ []) (0x43D8000000000000 ∷ []) (front 1 ++ hex 4 0x00_00_00_00 ++ hex 9 0x00_00_00_00_00_00_00_60_00)
    ∷ []

-- ---- the constant added and subtracted, and the fraction dropped: pages of one value. "The nearest" is the whole number nearest to the
-- scaled value, which the rule took before

unfoldable pub rounding : List Line
rounding =
    -- 2^22 - 1; 2^22 - 0.5, a tie, up; 2^22; 2^22 + 0.5. From 2^22 on the sum keeps even whole numbers alone
    turns binary32 0 0 0x4A7FFFFC (pos 4194303)
    ∷ lists binary32 0 0 0x4A7FFFFE
    ∷ turns binary32 0 0 0x4A800000 (pos 4194304)
    ∷ lists binary32 0 0 0x4A800001
    -- 4194305.0 (R8): the sum is a tie, to even, which is down; 4194306.0; 4194307.0: a tie, up
    ∷ lists binary32 0 0 0x4A800002
    ∷ turns binary32 0 0 0x4A800004 (pos 4194306)
    ∷ lists binary32 0 0 0x4A800006
    -- below zero: -(2^22 - 1); -(2^22 - 0.5), a tie; -2^22; -(2^22 + 0.5), whose half is left and dropped; -4194305.0
    ∷ turns binary32 0 0 0xCA7FFFFC (neg_ℤ (pos 4194303))
    ∷ lists binary32 0 0 0xCA7FFFFE
    ∷ turns binary32 0 0 0xCA800000 (neg_ℤ (pos 4194304))
    ∷ lists binary32 0 0 0xCA800001
    ∷ turns binary32 0 0 0xCA800002 (neg_ℤ (pos 4194305))
    -- 2^23 - 2; 2^23 - 1, a tie, up; 2^23; 2^23 + 1, a tie, down; 2^23 + 2
    ∷ turns binary32 0 0 0x4AFFFFFC (pos 8388606)
    ∷ lists binary32 0 0 0x4AFFFFFE
    ∷ turns binary32 0 0 0x4B000000 (pos 8388608)
    ∷ lists binary32 0 0 0x4B000001
    ∷ turns binary32 0 0 0x4B000002 (pos 8388610)
    -- below zero: -(2^23 - 1); -(2^23 - 0.5), whose half is dropped; -2^23; -(2^23 + 1)
    ∷ turns binary32 0 0 0xCAFFFFFE (neg_ℤ (pos 8388607))
    ∷ lists binary32 0 0 0xCAFFFFFF
    ∷ turns binary32 0 0 0xCB000000 (neg_ℤ (pos 8388608))
    ∷ turns binary32 0 0 0xCB000001 (neg_ℤ (pos 8388609))
    -- 5 x 2^22, from which on the sum keeps every fourth; 2 more, a tie, down; the same below zero, where it keeps every second
    ∷ turns binary32 0 0 0x4BA00000 (pos 20971520)
    ∷ lists binary32 0 0 0x4BA00001
    ∷ turns binary32 0 0 0xCBA00001 (neg_ℤ (pos 20971522))
    -- e 1: 419430.4, which is 2^22, 419430.5, 419430.6; then -419430.5
    ∷ turns binary32 1 0 0x48CCCCCD (pos 4194304)
    ∷ lists binary32 1 0 0x48CCCCD0
    ∷ turns binary32 1 0 0x48CCCCD3 (pos 4194306)
    ∷ turns binary32 1 0 0xC8CCCCD0 (neg_ℤ (pos 4194305))
    -- e 1: 838860.7, one below 2^23, 838860.8; then -838860.7
    ∷ lists binary32 1 0 0x494CCCCB
    ∷ turns binary32 1 0 0x494CCCCD (pos 8388608)
    ∷ turns binary32 1 0 0xC94CCCCB (neg_ℤ (pos 8388607))
    -- 9.1697, e 10, f 4: 9,169,699, to even 9,169,700, which comes back; the nearest, 9,169,699, would not
    ∷ turns binary32 10 4 0x4112B717 (pos 9169700)
    -- 90607.0, e 5, f 3: 9,060,701, to even 9,060,700, which comes back; the nearest would not
    ∷ turns binary32 5 3 0x47B0F780 (pos 9060700)
    -- 1483887.625, e 2, f 1: 14,838,877, to even 14,838,876; both come back
    ∷ turns binary32 2 1 0x49B5237D (pos 14838876)
    -- 5751.0, e 5, f 1: 57,510,004, to a multiple of 8 in the sum, 57,510,000; both come back
    ∷ turns binary32 5 1 0x45B3B800 (pos 57510000)
    -- 7.0, e 9, f 3: 7,000,000.5, down; 55.3, e 9, f 4: 5,529,999.5, up
    ∷ turns binary32 9 3 0x40E00000 (pos 7000000)
    ∷ turns binary32 9 4 0x425D3333 (pos 5530000)
    -- -481.9323, e 5, f 1: -4,819,323.5, whose half is dropped; -4,819,323 comes back, and -4,819,324 would not
    ∷ turns binary32 5 1 0xC3F0F756 (neg_ℤ (pos 4819323))
    -- -79321.3, e 2: -7,932,129.5; -7,932,129 does not come back, and -7,932,130 would
    ∷ lists binary32 2 0 0xC79AECA6
    -- -71874.41, e 2: -7,187,440.5; -7,187,440 does not come back, and -7,187,441 would
    ∷ lists binary32 2 0 0xC78C6134
    -- -8359.9, e 3: -8,359,900.5; -8,359,900 comes back, and -8,359,901 would not
    ∷ turns binary32 3 0 0xC6029F9A (neg_ℤ (pos 8359900))
    -- -74.437, e 7, f 2: -7,443,699.5; -7,443,699, though -7,443,700 would come back too
    ∷ turns binary32 7 2 0xC294DFBE (neg_ℤ (pos 7443699))
    -- -39.6, e 9, f 4: -3,959,999.5, a tie, to even; with 2^23 for the constant a half would be left and dropped
    ∷ turns binary32 9 4 0xC21E6666 (neg_ℤ (pos 3960000))
    -- 2147483392.0, which is L - 128, the largest that is no exception; 2147483520.0 (R9), which is L, rounded to 2^31; -L
    ∷ turns binary32 0 0 0x4EFFFFFE (pos 2147483392)
    ∷ lists binary32 0 0 0x4EFFFFFF
    ∷ turns binary32 0 0 0xCEFFFFFF (neg_ℤ (pos 2147483520))
    -- 214748352.0, e 2, f 1: scaled to L, rounded to 2^31, which would come back; 2147483.5, e 4, f 1: the same, and L would come back too
    ∷ lists binary32 2 1 0x4D4CCCCC
    ∷ lists binary32 4 1 0x4A03126E
    -- 64-bit, about 2^51 as about 2^22: a half and one below it, 2^51, a half and one above it, then two and three
    ∷ turns binary64 0 0 0x431FFFFFFFFFFFFC (pos 2251799813685247)
    ∷ lists binary64 0 0 0x431FFFFFFFFFFFFE
    ∷ turns binary64 0 0 0x4320000000000000 (pos 2251799813685248)
    ∷ lists binary64 0 0 0x4320000000000001
    ∷ lists binary64 0 0 0x4320000000000002
    ∷ turns binary64 0 0 0x4320000000000004 (pos 2251799813685250)
    ∷ lists binary64 0 0 0x4320000000000006
    -- below zero
    ∷ turns binary64 0 0 0xC31FFFFFFFFFFFFC (neg_ℤ (pos 2251799813685247))
    ∷ lists binary64 0 0 0xC31FFFFFFFFFFFFE
    ∷ turns binary64 0 0 0xC320000000000000 (neg_ℤ (pos 2251799813685248))
    ∷ lists binary64 0 0 0xC320000000000001
    ∷ turns binary64 0 0 0xC320000000000002 (neg_ℤ (pos 2251799813685249))
    -- about 2^52 as about 2^23
    ∷ turns binary64 0 0 0x432FFFFFFFFFFFFC (pos 4503599627370494)
    ∷ lists binary64 0 0 0x432FFFFFFFFFFFFE
    ∷ turns binary64 0 0 0x4330000000000000 (pos 4503599627370496)
    ∷ lists binary64 0 0 0x4330000000000001
    ∷ turns binary64 0 0 0x4330000000000002 (pos 4503599627370498)
    -- below zero
    ∷ turns binary64 0 0 0xC32FFFFFFFFFFFFE (neg_ℤ (pos 4503599627370495))
    ∷ lists binary64 0 0 0xC32FFFFFFFFFFFFF
    ∷ turns binary64 0 0 0xC330000000000000 (neg_ℤ (pos 4503599627370496))
    ∷ turns binary64 0 0 0xC330000000000001 (neg_ℤ (pos 4503599627370497))
    -- e 1: 225179981368524.8, which is 2^51, 225179981368524.9, 225179981368525.0; then -225179981368524.9
    ∷ turns binary64 1 0 0x42E999999999999A (pos 2251799813685248)
    ∷ lists binary64 1 0 0x42E999999999999D
    ∷ turns binary64 1 0 0x42E99999999999A0 (pos 2251799813685250)
    ∷ turns binary64 1 0 0xC2E999999999999D (neg_ℤ (pos 2251799813685249))
    -- 493229154708972.0, e 8, f 7: 4,932,291,547,089,719, to even ...,720, which comes back; the nearest would not
    ∷ turns binary64 8 7 0x42FC096DC8F2DEC0 (pos 4932291547089720)
    -- 54251423.982445, e 11, f 3: 5,425,142,398,244,501, to even ...,500, which comes back; the nearest would not
    ∷ turns binary64 11 3 0x4189DE7CFFDC0C20 (pos 5425142398244500)
    -- 684.2, e 14, f 1: 6,842,000,000,000,001, to even 6,842,000,000,000,000; both come back
    ∷ turns binary64 14 1 0x408561999999999A (pos 6842000000000000)
    -- 72.272900772191, e 14: 7,227,290,077,219,099, to even ...,100; both come back
    ∷ turns binary64 14 0 0x4052117734CCE743 (pos 7227290077219100)
    -- -4.1, e 15: -4,099,999,999,999,999.5; -4,099,999,999,999,999 comes back, and -4,100,000,000,000,000 would not
    ∷ turns binary64 15 0 0xC010666666666666 (neg_ℤ (pos 4099999999999999))
    -- -346274320.55028, e 7: -3,462,743,205,502,799.5; -...,799 does not come back, and -...,800 would
    ∷ lists binary64 7 0 0xC1B4A3BA108CDF26
    -- -39400880.402, e 8: -3,940,088,040,200,000.5; -3,940,088,040,200,000 comes back, and one less would not
    ∷ turns binary64 8 0 0xC182C9AD83374BC7 (neg_ℤ (pos 3940088040200000))
    -- -4439176.0, e 15, f 6: -4,439,175,999,999,999.5; -4,439,175,999,999,999, though one less would come back too
    ∷ turns binary64 15 6 0xC150EF2200000000 (neg_ℤ (pos 4439175999999999))
    -- -2173527729.7, e 12, f 6: -2,173,527,729,699,999.5, a tie, to even; with 2^52 for the constant a half would be dropped
    ∷ turns binary64 12 6 0xC1E031ACD6366666 (neg_ℤ (pos 2173527729700000))
    -- -83644.01, e 2: -8,364,400.999999999; with the constant of 32-bit floats it would be dropped to -8,364,400
    ∷ turns binary64 2 0 0xC0F46BC028F5C28F (neg_ℤ (pos 8364401))
    -- 2^63 - 2,048, which is L - 1,024, the largest that is no exception; 2^63 - 1,024, which is L, rounded to 2^63
    ∷ turns binary64 0 0 0x43DFFFFFFFFFFFFE (pos 9223372036854773760)
    ∷ lists binary64 0 0 0x43DFFFFFFFFFFFFF
    -- 922337203685477478.4, e 6, f 5: scaled to L, rounded to 2^63, which would come back; 92233720.36854775, e 14, f 3: L would too
    ∷ lists binary64 6 5 0x43A9999999999999
    ∷ lists binary64 14 3 0x4195FD7FE1796495
    ∷ []

-- ---- from a whole number to a value: the reader, also on whole numbers that the writer never gives

unfoldable pub returns : List Line
returns =
    -- 2^30 and 64, 65, 192 above it: the nearest float, ties to even
    reads binary32 (front 4 ++ hex 4 0x00_00_00_00 ++ hex 5 0x00_00_00_40_08 ++ hex 4 0x00_40_41_C0)
    4 (done (0x4E800000 ∷ 0x4E800000 ∷ 0x4E800001 ∷ 0x4E800002 ∷ []))
    -- -2^30 - 192 and 127, 128, 192 above it: the same below zero
    ∷ reads binary32 (front 4 ++ hex 4 0x00_00_00_00 ++ hex 5 0x40_FF_FF_BF_08 ++ hex 4 0x00_7F_80_C0)
    4 (done (0xCE800002 ∷ 0xCE800001 ∷ 0xCE800000 ∷ 0xCE800000 ∷ []))
    -- 64-bit, 2^62 and 512, 513, 1,536 above it
    ∷ reads binary64 (front 4 ++ hex 4 0x00_00_00_00 ++ hex 9 0x00_00_00_00_00_00_00_40_0B ++ hex 6 0x00_00_50_80_00_0C)
    4 (done (0x43D0000000000000 ∷ 0x43D0000000000000 ∷ 0x43D0000000000001 ∷ 0x43D0000000000002 ∷ []))
    -- -2^31, e 10
    ∷ reads binary32 (front 1 ++ hex 4 0x0A_00_00_00 ++ hex 5 0x00_00_00_80_00) 1 (done (0xBE5BE6FF ∷ []))
    -- 64-bit -2^63, e 18
    ∷ reads binary64 (front 1 ++ hex 4 0x12_00_00_00 ++ hex 9 0x00_00_00_00_00_00_00_80_00) 1 (done (0xC022725DD1D243AC ∷ []))
    ∷ []

-- ---- vectors and pages, both ways

unfoldable pub shapes : List Line
shapes =
    -- the largest and the smallest that are no exceptions, L - 128 and -L, and the next to them, L and -2^31, which are; frame -L, width 32
    written binary32 10 (0 ∷ 0 ∷ []) (0x4EFFFFFE ∷ 0xCEFFFFFF ∷ 0x4EFFFFFF ∷ 0xCF000000 ∷ [])
    (front 4 ++ hex 4 0x00_00_02_00 ++ hex 5 0x80_00_00_80_20 ++ hex 16 0x80_FE_FF_FF_00_00_00_00_80_FE_FF_FF_80_FE_FF_FF
    ++ hex 4 0x02_00_03_00 ++ hex 8 0xFF_FF_FF_4E_00_00_00_CF)
    -- 64-bit, the same, with L - 1,024; width 64
    ∷ written binary64 10 (0 ∷ 0 ∷ []) (0x43DFFFFFFFFFFFFE ∷ 0xC3DFFFFFFFFFFFFF ∷ 0x43DFFFFFFFFFFFFF ∷ 0xC3E0000000000000 ∷ [])
    (front 4 ++ hex 4 0x00_00_02_00 ++ hex 9 0x00_04_00_00_00_00_00_80_40
    ++ hex 32 0x00_F4_FF_FF_FF_FF_FF_FF_00_00_00_00_00_00_00_00_00_F4_FF_FF_FF_FF_FF_FF_00_F4_FF_FF_FF_FF_FF_FF ++ hex 4 0x02_00_03_00
    ++ hex 16 0xFF_FF_FF_FF_FF_FF_DF_43_00_00_00_00_00_00_E0_C3)
    -- 0.0 and -0.0
    ∷ written binary32 10 (0 ∷ 0 ∷ []) (0x00000000 ∷ 0x80000000 ∷ [])
    (front 2 ++ hex 4 0x00_00_01_00 ++ hex 5 0x00_00_00_00_00 ++ hex 2 0x01_00 ++ hex 4 0x00_00_00_80)
    -- 64-bit 0.0 and -0.0
    ∷ written binary64 10 (0 ∷ 0 ∷ []) (0x0000000000000000 ∷ 0x8000000000000000 ∷ [])
    (front 2 ++ hex 4 0x00_00_01_00 ++ hex 9 0x00_00_00_00_00_00_00_00_00 ++ hex 2 0x01_00 ++ hex 8 0x00_00_00_00_00_00_00_80)
    -- all exceptions: infinities, quiet and signalling NaNs with payload and sign, -0.0, a subnormal
    ∷ written binary32 10 (0 ∷ 0 ∷ [])
    (0x7F800000 ∷ 0xFF800000 ∷ 0x7FC00001 ∷ 0xFFC00000 ∷ 0x7F800001 ∷ 0xFFBFFFFF ∷ 0x80000000 ∷ 0x00000001 ∷ [])
    (front 8 ++ hex 4 0x00_00_08_00 ++ hex 5 0x00_00_00_00_00 ++ hex 16 0x00_00_01_00_02_00_03_00_04_00_05_00_06_00_07_00
    ++ hex 32 0x00_00_80_7F_00_00_80_FF_01_00_C0_7F_00_00_C0_FF_01_00_80_7F_FF_FF_BF_FF_00_00_00_80_01_00_00_00)
    -- 64-bit, the same
    ∷ written binary64 10 (0 ∷ 0 ∷ [])
    (0x7FF0000000000000 ∷ 0xFFF0000000000000 ∷ 0x7FF8000000000001 ∷ 0xFFF8000000000000
    ∷ 0x7FF0000000000001 ∷ 0xFFF7FFFFFFFFFFFF ∷ 0x8000000000000000 ∷ 0x0000000000000001 ∷ [])
    (front 8 ++ hex 4 0x00_00_08_00 ++ hex 9 0x00_00_00_00_00_00_00_00_00 ++ hex 16 0x00_00_01_00_02_00_03_00_04_00_05_00_06_00_07_00
    ++ hex 32 0x00_00_00_00_00_00_F0_7F_00_00_00_00_00_00_F0_FF_01_00_00_00_00_00_F8_7F_00_00_00_00_00_00_F8_FF
    ++ hex 32 0x01_00_00_00_00_00_F0_7F_FF_FF_FF_FF_FF_FF_F7_FF_00_00_00_00_00_00_00_80_01_00_00_00_00_00_00_00)
    -- a NaN before -1.5, 2.5, e 1: the stand-in -15 is below zero
    ∷ written binary32 10 (1 ∷ 0 ∷ []) (0x7FC00000 ∷ 0xBFC00000 ∷ 0x40200000 ∷ [])
    (front 3 ++ hex 4 0x01_00_01_00 ++ hex 5 0xF1_FF_FF_FF_06 ++ hex 3 0x00_80_02 ++ hex 2 0x00_00 ++ hex 4 0x00_00_C0_7F)
    -- 64-bit, the same
    ∷ written binary64 10 (1 ∷ 0 ∷ []) (0x7FF8000000000000 ∷ 0xBFF8000000000000 ∷ 0x4004000000000000 ∷ [])
    (front 3 ++ hex 4 0x01_00_01_00 ++ hex 9 0xF1_FF_FF_FF_FF_FF_FF_FF_06 ++ hex 3 0x00_80_02 ++ hex 2 0x00_00
    ++ hex 8 0x00_00_00_00_00_00_F8_7F)
    -- a NaN before 8.0, 7.0, 9.0: the stand-in is the first, not the smallest
    ∷ written binary32 10 (0 ∷ 0 ∷ []) (0x7FC00000 ∷ 0x41000000 ∷ 0x40E00000 ∷ 0x41100000 ∷ [])
    (front 4 ++ hex 4 0x00_00_01_00 ++ hex 5 0x07_00_00_00_02 ++ hex 1 0x85 ++ hex 2 0x00_00 ++ hex 4 0x00_00_C0_7F)
    -- 8.0, 7.0, a NaN: a stand-in for a later place is the first all the same
    ∷ written binary32 10 (0 ∷ 0 ∷ []) (0x41000000 ∷ 0x40E00000 ∷ 0x7FC00000 ∷ [])
    (front 3 ++ hex 4 0x00_00_01_00 ++ hex 5 0x07_00_00_00_01 ++ hex 1 0x05 ++ hex 2 0x02_00 ++ hex 4 0x00_00_C0_7F)
    -- 0.0 to 7.0 and 2.0, width 3: 27 bits in four bytes
    ∷ written binary32 10 (0 ∷ 0 ∷ [])
    (0x00000000 ∷ 0x3F800000 ∷ 0x40000000 ∷ 0x40400000 ∷ 0x40800000 ∷ 0x40A00000 ∷ 0x40C00000 ∷ 0x40E00000 ∷ 0x40000000 ∷ [])
    (front 9 ++ hex 4 0x00_00_00_00 ++ hex 5 0x00_00_00_00_03 ++ hex 4 0x88_C6_FA_02)
    -- 256 times 0.0, then a NaN: 257 values, position 256
    ∷ written binary32 10 (0 ∷ 0 ∷ []) (replicate 256 0x00000000 ++ 0x7FC00000 ∷ []) (hex 8 0x01_00_00_0A_01_01_00_00 ++ hex 4 0x04_00_00_00
    ++ hex 4 0x00_00_01_00 ++ hex 5 0x00_00_00_00_00 ++ hex 2 0x00_01 ++ hex 4 0x00_00_C0_7F)
    -- s 8, 256 NaNs: the count of exceptions needs its second byte
    ∷ writes binary32 8 (0 ∷ 0 ∷ []) (replicate 256 0xFFFFFFFF) 2581
    (done (hex 8 0x01_00_00_08_00_01_00_00 ++ hex 4 0x04_00_00_00 ++ hex 4 0x00_00_00_01 ++ hex 5 0x00_00_00_00_00 ++ rising 0 256
    ++ replicate 1024 0xFF))
    -- no values at s 3
    ∷ written binary32 3 [] [] (hex 8 0x01_00_00_03_00_00_00_00)
    -- 64-bit, no values
    ∷ written binary64 3 [] [] (hex 8 0x01_00_00_03_00_00_00_00)
    -- s 3, eight values: one full vector
    ∷ written binary32 3 (1 ∷ 0 ∷ [])
    (0x3F000000 ∷ 0x3FC00000 ∷ 0x40200000 ∷ 0x40600000 ∷ 0x40900000 ∷ 0x40B00000 ∷ 0x40D00000 ∷ 0x40F00000 ∷ [])
    (hex 8 0x01_00_00_03_08_00_00_00 ++ hex 4 0x04_00_00_00
    ++ hex 4 0x01_00_00_00 ++ hex 5 0x05_00_00_00_07 ++ hex 7 0x00_05_C5_83_92_F1_8C)
    -- s 3, nine values: a full vector and one value more
    ∷ written binary32 3 (0 ∷ 0 ∷ 1 ∷ 0 ∷ []) (replicate 8 0x40E00000 ++ 0x3FC00000 ∷ [])
    (hex 8 0x01_00_00_03_09_00_00_00 ++ hex 8 0x08_00_00_00_11_00_00_00
    ++ hex 4 0x00_00_00_00 ++ hex 5 0x07_00_00_00_00
    ++ hex 4 0x01_00_00_00 ++ hex 5 0x0F_00_00_00_00)
    -- s 3, 20 values: three vectors, each with a pair of its own, the last with the remainder 0.25, 0.5, -0.75, 1.0
    ∷ written binary32 3 (1 ∷ 0 ∷ 1 ∷ 1 ∷ 2 ∷ 0 ∷ [])
    (0x3FC00000 ∷ 0xC0200000 ∷ 0x7FC00000 ∷ 0x40600000 ∷ 0x3F000000 ∷ 0x40800000 ∷ 0x42C90000 ∷ 0x00000000
    ∷ 0x40E00000 ∷ 0x41000000 ∷ 0x40E00000 ∷ 0x41000000 ∷ 0x41100000 ∷ 0xFF800000 ∷ 0x40E00000 ∷ 0x3EAAAAAB
    ∷ 0x3E800000 ∷ 0x3F000000 ∷ 0xBF400000 ∷ 0x3F800000 ∷ [])
    (hex 8 0x01_00_00_03_14_00_00_00 ++ hex 12 0x0C_00_00_00_26_00_00_00_3D_00_00_00
    ++ hex 4 0x01_00_01_00 ++ hex 5 0xE7_FF_FF_FF_0B ++ hex 11 0x28_00_00_0A_78_E0_81_20_18_30_03 ++ hex 2 0x02_00 ++ hex 4 0x00_00_C0_7F
    ++ hex 4 0x01_01_02_00 ++ hex 5 0x07_00_00_00_02 ++ hex 2 0x44_02 ++ hex 4 0x05_00_07_00 ++ hex 8 0x00_00_80_FF_AB_AA_AA_3E
    ++ hex 4 0x02_00_00_00 ++ hex 5 0xB5_FF_FF_FF_08 ++ hex 4 0x64_7D_00_AF)
    -- s 3, 24 values: the remainder is 0, and all three vectors are full
    ∷ written binary32 3 (1 ∷ 0 ∷ 1 ∷ 1 ∷ 2 ∷ 0 ∷ [])
    (0x3FC00000 ∷ 0xC0200000 ∷ 0x7FC00000 ∷ 0x40600000 ∷ 0x3F000000 ∷ 0x40800000 ∷ 0x42C90000 ∷ 0x00000000
    ∷ 0x40E00000 ∷ 0x41000000 ∷ 0x40E00000 ∷ 0x41000000 ∷ 0x41100000 ∷ 0xFF800000 ∷ 0x40E00000 ∷ 0x3EAAAAAB
    ∷ 0x3E800000 ∷ 0x3F000000 ∷ 0xBF400000 ∷ 0x3F800000 ∷ 0x40000000 ∷ 0x3F000000 ∷ 0x3FA00000 ∷ 0xBF400000 ∷ [])
    (hex 8 0x01_00_00_03_18_00_00_00 ++ hex 12 0x0C_00_00_00_26_00_00_00_3D_00_00_00
    ++ hex 4 0x01_00_01_00 ++ hex 5 0xE7_FF_FF_FF_0B ++ hex 11 0x28_00_00_0A_78_E0_81_20_18_30_03 ++ hex 2 0x02_00 ++ hex 4 0x00_00_C0_7F
    ++ hex 4 0x01_01_02_00 ++ hex 5 0x07_00_00_00_02 ++ hex 2 0x44_02 ++ hex 4 0x05_00_07_00 ++ hex 8 0x00_00_80_FF_AB_AA_AA_3E
    ++ hex 4 0x02_00_00_00 ++ hex 5 0xB5_FF_FF_FF_09 ++ hex 9 0x64_FA_00_78_35_B1_0F_32_00)
    -- 64-bit, s 3, the same 20 values
    ∷ written binary64 3 (1 ∷ 0 ∷ 1 ∷ 1 ∷ 2 ∷ 0 ∷ [])
    (0x3FF8000000000000 ∷ 0xC004000000000000 ∷ 0x7FF8000000000000 ∷ 0x400C000000000000
    ∷ 0x3FE0000000000000 ∷ 0x4010000000000000 ∷ 0x4059200000000000 ∷ 0x0000000000000000
    ∷ 0x401C000000000000 ∷ 0x4020000000000000 ∷ 0x401C000000000000 ∷ 0x4020000000000000
    ∷ 0x4022000000000000 ∷ 0xFFF0000000000000 ∷ 0x401C000000000000 ∷ 0x3FD5555555555555
    ∷ 0x3FD0000000000000 ∷ 0x3FE0000000000000 ∷ 0xBFE8000000000000 ∷ 0x3FF0000000000000 ∷ [])
    (hex 8 0x01_00_00_03_14_00_00_00 ++ hex 12 0x0C_00_00_00_2E_00_00_00_51_00_00_00
    ++ hex 4 0x01_00_01_00 ++ hex 9 0xE7_FF_FF_FF_FF_FF_FF_FF_0B ++ hex 11 0x28_00_00_0A_78_E0_81_20_18_30_03 ++ hex 2 0x02_00
    ++ hex 8 0x00_00_00_00_00_00_F8_7F
    ++ hex 4 0x01_01_02_00 ++ hex 9 0x07_00_00_00_00_00_00_00_02 ++ hex 2 0x44_02 ++ hex 4 0x05_00_07_00
    ++ hex 16 0x00_00_00_00_00_00_F0_FF_55_55_55_55_55_55_D5_3F
    ++ hex 4 0x02_00_00_00 ++ hex 9 0xB5_FF_FF_FF_FF_FF_FF_FF_08 ++ hex 4 0x64_7D_00_AF)
    -- 64-bit, s 3, the same 24 values
    ∷ written binary64 3 (1 ∷ 0 ∷ 1 ∷ 1 ∷ 2 ∷ 0 ∷ [])
    (0x3FF8000000000000 ∷ 0xC004000000000000 ∷ 0x7FF8000000000000 ∷ 0x400C000000000000
    ∷ 0x3FE0000000000000 ∷ 0x4010000000000000 ∷ 0x4059200000000000 ∷ 0x0000000000000000
    ∷ 0x401C000000000000 ∷ 0x4020000000000000 ∷ 0x401C000000000000 ∷ 0x4020000000000000
    ∷ 0x4022000000000000 ∷ 0xFFF0000000000000 ∷ 0x401C000000000000 ∷ 0x3FD5555555555555
    ∷ 0x3FD0000000000000 ∷ 0x3FE0000000000000 ∷ 0xBFE8000000000000 ∷ 0x3FF0000000000000
    ∷ 0x4000000000000000 ∷ 0x3FE0000000000000 ∷ 0x3FF4000000000000 ∷ 0xBFE8000000000000 ∷ [])
    (hex 8 0x01_00_00_03_18_00_00_00 ++ hex 12 0x0C_00_00_00_2E_00_00_00_51_00_00_00
    ++ hex 4 0x01_00_01_00 ++ hex 9 0xE7_FF_FF_FF_FF_FF_FF_FF_0B ++ hex 11 0x28_00_00_0A_78_E0_81_20_18_30_03 ++ hex 2 0x02_00
    ++ hex 8 0x00_00_00_00_00_00_F8_7F
    ++ hex 4 0x01_01_02_00 ++ hex 9 0x07_00_00_00_00_00_00_00_02 ++ hex 2 0x44_02 ++ hex 4 0x05_00_07_00
    ++ hex 16 0x00_00_00_00_00_00_F0_FF_55_55_55_55_55_55_D5_3F
    ++ hex 4 0x02_00_00_00 ++ hex 9 0xB5_FF_FF_FF_FF_FF_FF_FF_09 ++ hex 9 0x64_FA_00_78_35_B1_0F_32_00)
    ∷ []

-- ---- rows 1 to 15, from the reader and (but for 15) from the examiner

unfoldable pub refusals : List Line
refusals =
    -- 1: no bytes
    faulty binary32 [] 1 the_page
    -- 1: seven bytes (R14)
    ∷ faulty binary32 (hex 7 0x01_00_00_0A_00_00_00) 1 the_page
    -- 1: seven bytes, and version 2
    ∷ faulty binary32 (hex 7 0x02_00_00_0A_00_00_00) 1 the_page
    -- 2: version 2, and mode 1
    ∷ faulty binary32 (hex 8 0x02_01_00_0A_00_00_00_00) 2 the_page
    -- 2: version 0
    ∷ faulty binary32 (hex 8 0x00_00_00_0A_00_00_00_00) 2 the_page
    -- 3: mode 1, and integer encoding 1
    ∷ faulty binary32 (hex 8 0x01_01_01_0A_00_00_00_00) 3 the_page
    -- 4: integer encoding 1, and s 2
    ∷ faulty binary32 (hex 8 0x01_00_01_02_00_00_00_00) 4 the_page
    -- 5: s 2 (R15; s 3 and 10 pass, above and in R3)
    ∷ faulty binary32 (hex 8 0x01_00_00_02_00_00_00_00) 5 the_page
    -- 5: s 11 (R15)
    ∷ faulty binary32 (hex 8 0x01_00_00_0B_00_00_00_00) 5 the_page
    -- 5: s 2, and 16,385 values
    ∷ faulty binary32 (hex 8 0x01_00_00_02_01_40_00_00) 5 the_page
    -- 6: 16,385 values (R16), and no offsets
    ∷ faulty binary32 (hex 8 0x01_00_00_0A_01_40_00_00) 6 the_page
    -- 6: 2^24 values
    ∷ faulty binary32 (hex 8 0x01_00_00_0A_00_00_00_01) 6 the_page
    -- 7 for the offsets: 16,384 values pass row 6 (R16)
    ∷ faulty binary32 (hex 8 0x01_00_00_0A_00_40_00_00) 7 the_page
    -- 7 for the offsets: three bytes of four
    ∷ faulty binary32 (hex 8 0x01_00_00_0A_01_00_00_00 ++ hex 3 0x04_00_00) 7 the_page
    -- 7 for the offsets: three bytes of the second, and the first is wrong
    ∷ faulty binary32 (hex 8 0x01_00_00_03_09_00_00_00 ++ hex 7 0x09_00_00_00_11_00_00) 7 the_page
    -- 8: R5 with offset 5
    ∷ faulty binary32 (hex 8 0x01_00_00_0A_02_00_00_00 ++ hex 4 0x05_00_00_00 ++ hex 4 0x00_00_00_00 ++ hex 5 0x07_00_00_00_00)
    8 (in_vector 0)
    -- 8: R5 with an offset wrong in its last byte
    ∷ faulty binary32 (hex 8 0x01_00_00_0A_02_00_00_00 ++ hex 4 0x04_00_00_01 ++ hex 4 0x00_00_00_00 ++ hex 5 0x07_00_00_00_00)
    8 (in_vector 0)
    -- 8 in vector 2: its offset is 31 in place of 30
    ∷ faulty binary32
    (hex 8 0x01_00_00_03_11_00_00_00 ++ hex 12 0x0C_00_00_00_15_00_00_00_1F_00_00_00 ++ hex 4 0x00_00_00_00 ++ hex 5 0x07_00_00_00_00
    ++ hex 4 0x00_00_00_00 ++ hex 5 0x07_00_00_00_00 ++ hex 4 0x00_00_00_00 ++ hex 5 0x07_00_00_00_00) 8 (in_vector 2)
    -- 8 in vector 1, and its metadata is missing
    ∷ faulty binary32 (hex 8 0x01_00_00_03_09_00_00_00 ++ hex 8 0x08_00_00_00_12_00_00_00 ++ hex 4 0x00_00_00_00 ++ hex 5 0x07_00_00_00_00)
    8 (in_vector 1)
    -- 7 for metadata in vector 0: none
    ∷ faulty binary32 (front 1) 7 (in_vector 0)
    -- 7 for metadata in vector 1: eight bytes of nine, and an exponent above E
    ∷ faulty binary32 (behind 2 ++ hex 4 0x0B_00_00_00 ++ hex 4 0x07_00_00_00) 7 (in_vector 1)
    -- 7 for metadata, 64-bit: twelve bytes of thirteen
    ∷ faulty binary64 (front 1 ++ hex 4 0x00_00_00_00 ++ hex 8 0x07_00_00_00_00_00_00_00) 7 (in_vector 0)
    -- 9 in vector 1: exponent 11, and a factor above it
    ∷ faulty binary32 (behind 2 ++ hex 4 0x0B_0C_00_00 ++ hex 5 0x07_00_00_00_00) 9 (in_vector 1)
    -- 9, 64-bit: exponent 19
    ∷ faulty binary64 (front 1 ++ hex 4 0x13_00_00_00 ++ hex 9 0x07_00_00_00_00_00_00_00_00) 9 (in_vector 0)
    -- 9: R6 with e 11 (R17)
    ∷ faulty binary32 (front 2 ++ hex 4 0x0B_00_00_00 ++ hex 5 0xFF_FF_FF_FF_02 ++ hex 1 0x08) 9 (in_vector 0)
    -- 10: R6 with e 1, f 2 (R17)
    ∷ faulty binary32 (front 2 ++ hex 4 0x01_02_00_00 ++ hex 5 0xFF_FF_FF_FF_02 ++ hex 1 0x08) 10 (in_vector 0)
    -- 10 in vector 1: e 1, f 2, and three exceptions of two values
    ∷ faulty binary32 (behind 2 ++ hex 4 0x01_02_03_00 ++ hex 5 0x07_00_00_00_00) 10 (in_vector 1)
    -- 11 in vector 1: three exceptions of two values, and width 33
    ∷ faulty binary32 (behind 2 ++ hex 4 0x00_00_03_00 ++ hex 5 0x07_00_00_00_21) 11 (in_vector 1)
    -- 11 in vector 1: 256 exceptions
    ∷ faulty binary32 (behind 2 ++ hex 4 0x00_00_00_01 ++ hex 5 0x07_00_00_00_00) 11 (in_vector 1)
    -- 12 in vector 1: width 33, and no data
    ∷ faulty binary32 (behind 2 ++ hex 4 0x00_00_00_00 ++ hex 5 0x07_00_00_00_21) 12 (in_vector 1)
    -- 12, 64-bit: width 65
    ∷ faulty binary64 (front 1 ++ hex 4 0x00_00_00_00 ++ hex 9 0x07_00_00_00_00_00_00_00_41 ++ hex 9 0x00_00_00_00_00_00_00_00_00)
    12 (in_vector 0)
    -- 7 for data in vector 1: width 1, and no packed byte
    ∷ faulty binary32 (behind 2 ++ hex 4 0x00_00_00_00 ++ hex 5 0x07_00_00_00_01) 7 (in_vector 1)
    -- 7 for data in vector 1: its last byte is missing, and its position is wrong
    ∷ faulty binary32 (behind 2 ++ hex 4 0x00_00_01_00 ++ hex 5 0x07_00_00_00_00 ++ hex 2 0x02_00 ++ hex 3 0x00_00_C0) 7 (in_vector 1)
    -- 13, place 1: R2 with positions 3, 1 (R12)
    ∷ faulty binary32
    (front 4 ++ hex 4 0x01_00_02_00 ++ hex 5 0x0F_00_00_00_04 ++ hex 2 0x00_0A ++ hex 4 0x03_00_01_00 ++ hex 8 0x00_00_C0_7F_AB_AA_AA_3E)
    13 (in_vector_at 0 1)
    -- 13 in vector 1, place 0: position 2 is below the vector size, not below its count
    ∷ faulty binary32 (behind 2 ++ hex 4 0x00_00_01_00 ++ hex 5 0x07_00_00_00_00 ++ hex 2 0x02_00 ++ hex 4 0x00_00_C0_7F)
    13 (in_vector_at 1 0)
    -- 13 in vector 1, place 0: position 256
    ∷ faulty binary32 (behind 2 ++ hex 4 0x00_00_01_00 ++ hex 5 0x07_00_00_00_00 ++ hex 2 0x00_01 ++ hex 4 0x00_00_C0_7F)
    13 (in_vector_at 1 0)
    -- 13 in vector 1, place 1: position 4 of four values, and a byte after the last vector
    ∷ faulty binary32
    (behind 4 ++ hex 4 0x00_00_02_00 ++ hex 5 0x07_00_00_00_00 ++ hex 4 0x00_00_04_00 ++ hex 8 0x00_00_C0_7F_00_00_C0_7F ++ hex 1 0x00)
    13 (in_vector_at 1 1)
    -- 13 in vector 1, place 2: position 1 equals the one before
    ∷ faulty binary32 (behind 4 ++ hex 4 0x00_00_03_00 ++ hex 5 0x07_00_00_00_00 ++ hex 6 0x00_00_01_00_01_00
    ++ hex 12 0x00_00_C0_7F_00_00_C0_7F_00_00_C0_7F) 13 (in_vector_at 1 2)
    -- 13 in vector 0, before vector 1 with its wrong offset
    ∷ faulty binary32 (hex 8 0x01_00_00_03_09_00_00_00 ++ hex 8 0x08_00_00_00_00_00_00_00 ++ hex 4 0x00_00_01_00 ++ hex 5 0x07_00_00_00_00
    ++ hex 2 0x08_00 ++ hex 4 0x00_00_C0_7F ++ hex 4 0x00_00_00_00 ++ hex 5 0x07_00_00_00_00) 13 (in_vector_at 0 0)
    -- 14: a header of no values, and one byte more
    ∷ faulty binary32 (hex 8 0x01_00_00_0A_00_00_00_00 ++ hex 1 0x00) 14 the_page
    -- 14: R1 and one byte more (R13)
    ∷ faulty binary32 (front 4 ++ hex 4 0x02_00_00_00 ++ hex 5 0x0C_00_00_00_0A ++ hex 5 0x6F_F0_96_30_00 ++ hex 1 0x00) 14 the_page
    -- 14: a byte after vector 1
    ∷ faulty binary32 (behind 2 ++ hex 4 0x00_00_00_00 ++ hex 5 0x07_00_00_00_00 ++ hex 1 0xFF) 14 the_page
    -- 14 before 15: room for none
    ∷ reads binary32 (front 2 ++ hex 4 0x00_00_00_00 ++ hex 5 0x07_00_00_00_00 ++ hex 1 0x00) 0 (refused 14 the_page)
    -- 15: room for one of two values
    ∷ reads binary32 (front 2 ++ hex 4 0x00_00_00_00 ++ hex 5 0x07_00_00_00_00) 1 (refused 15 the_page)
    -- 15: room for nine of ten values in two vectors
    ∷ reads binary32 (behind 2 ++ hex 4 0x00_00_00_00 ++ hex 5 0x07_00_00_00_00) 9 (refused 15 the_page)
    -- room for more than the values
    ∷ reads binary32 (front 2 ++ hex 4 0x00_00_00_00 ++ hex 5 0x07_00_00_00_00) 3 (done (0x40E00000 ∷ 0x40E00000 ∷ []))
    -- no values, and no room
    ∷ reads binary32 (hex 8 0x01_00_00_0A_00_00_00_00) 0 (done [])
    -- the examiner needs no room
    ∷ examines binary32 (behind 2 ++ hex 4 0x00_00_00_00 ++ hex 5 0x07_00_00_00_00) (done (replicate 10 0x40E00000))
    ∷ []

-- ---- row 17, from the reader, the examiner and the reading of one vector: frame plus field leaves the kind's signed range. Every page is made
-- for both kinds; in brackets the mistake that would answer otherwise

-- the largest whole number of the kind, and the value that it comes back as, which is an exception
abbrev pub top : Format → ℕ
top binary32 = 2147483647
top binary64 = 9223372036854775807

abbrev pub top_back : Format → ℕ
top_back binary32 = 0x4F000000
top_back binary64 = 0x43E0000000000000

-- a vector by its count of exceptions, frame and width; then its packed fields, positions and exceptions
abbrev pub body : Format → ℕ → ℤ → ℕ → List ℕ → List ℕ
body fmt k z w rest = (0 ∷ 0 ∷ k ∷ 0 ∷ le (word_bytes fmt) (of_z (word fmt) z)) ++ (w ∷ rest)

abbrev pub zeros : Format → List ℕ
zeros fmt = body fmt 0 (pos 0) 0 []

-- on the largest frame with fields of one bit: a position leaves the range where its bit is 1
abbrev pub at_top : Format → ℕ → List ℕ → List ℕ
at_top fmt k rest = body fmt k (pos (top fmt)) 1 rest

abbrev pub nan : Format → List ℕ
nan fmt = replicate (word_bytes fmt) 0xFF

-- a page of one value: frame z, and field d in w bits
abbrev pub sum : Format → ℤ → ℕ → ℕ → List ℕ
sum fmt z w d = front 1 ++ body fmt 0 z w (le ((w + 7) / 8) d)

-- a page at s 3 of two vectors: a of eight values, b of n
abbrev pub two : List ℕ → ℕ → List ℕ → List ℕ
two a n b = hex 4 0x01_00_00_03 ++ ((8 + n) ∷ hex 3 0) ++ hex 4 0x08_00_00_00 ++ le 4 (8 + length a) ++ a ++ b

-- the sum is the top of the range: both readings give its value, and the examiner comes to row 21
abbrev pub stays : Format → List ℕ → List Line
stays fmt page =
    flawed fmt page (top_back fmt ∷ []) 21 (in_vector_at 0 0) ∷ reads_vector fmt page 0 1 (done (top_back fmt ∷ [])) ∷ []

-- all three calls refuse, for that vector
abbrev pub thrice : Format → List ℕ → ℕ → Point → List Line
thrice fmt page a p = faulty fmt page a p ∷ reads_vector fmt page p.vector 8 (refused a p) ∷ []

abbrev pub leaves : Format → List ℕ → ℕ → ℕ → List Line
leaves fmt page v i = thrice fmt page 17 (in_vector_at v i)

unfoldable pub ranges : Format → List Line
ranges fmt =
    -- frame 2^(W - 1) - 1 and field 0; frame 2^(W - 1) - 2 and field 1 (a range that ends one below)
    stays fmt (sum fmt (pos (top fmt)) 0 0)
    ++ stays fmt (sum fmt (pos (top fmt - 1)) 1 1)
    -- width W: frame -1 and field 2^(W - 1); frame -2^(W - 1) and field 2^W - 1 (a field read as signed, a frame read as unsigned)
    ++ stays fmt (sum fmt (neg_ℤ (pos 1)) (word_bits fmt) (top fmt + 1))
    ++ stays fmt (sum fmt (neg_ℤ (pos (top fmt + 1))) (word_bits fmt) (2 * top fmt + 1))
    -- each one more: 2^(W - 1) (the modulo kept, the unsigned range, a range that ends one above)
    ++ leaves fmt (sum fmt (pos (top fmt)) 1 1) 0 0
    ++ leaves fmt (sum fmt (neg_ℤ (pos 1)) (word_bits fmt) (top fmt + 2)) 0 0
    -- field 2^W - 1 on frame -1 and on the largest: modulo 2^W they make -2 and 2^(W - 1) - 2 (a wrap told by a sign other than the frame's)
    ++ leaves fmt (sum fmt (neg_ℤ (pos 1)) (word_bits fmt) (2 * top fmt + 1)) 0 0
    ++ leaves fmt (sum fmt (pos (top fmt)) (word_bits fmt) (2 * top fmt + 1)) 0 0
    -- vector 1, the second of three positions (a place counted from the first value of the page, vector number 0)
    ++ leaves fmt (two (zeros fmt) 3 (at_top fmt 0 (hex 1 0x02))) 1 1
    -- two positions with fields 1 and 3, neither listed (the last or the largest in place of the first)
    ++ leaves fmt (front 3 ++ body fmt 0 (pos (top fmt)) 2 (hex 1 0x34)) 0 1
    -- two positions, the first listed (unlisted positions only, or before the others)
    ++ leaves fmt (front 3 ++ at_top fmt 1 (hex 1 0x06 ++ hex 2 0x01_00 ++ nan fmt)) 0 1
    -- two positions, the second listed (listed positions only, or before the others)
    ++ leaves fmt (front 3 ++ at_top fmt 1 (hex 1 0x06 ++ hex 2 0x02_00 ++ nan fmt)) 0 1
    -- one position, listed (unlisted positions only, since a listed one takes its stored bits)
    ++ leaves fmt (front 3 ++ at_top fmt 1 (hex 1 0x02 ++ hex 2 0x01_00 ++ nan fmt)) 0 1
    -- 7 for data, the last byte of the exception, before 17 (the sums looked at once the packed part is there)
    ++ thrice fmt (front 3 ++ at_top fmt 1 (hex 1 0x06 ++ hex 2 0x01_00 ++ hex (word_bytes fmt - 1) 0)) 7 (in_vector 0)
    -- 13, position 3 of three values, before 17 (17 before 13)
    ++ thrice fmt (front 3 ++ at_top fmt 1 (hex 1 0x06 ++ hex 2 0x03_00 ++ nan fmt)) 13 (in_vector_at 0 0)
    -- 17 before 20 (sums among the examiner's own rows)
    ++ leaves fmt (front 2 ++ at_top fmt 0 (hex 1 0xFE)) 0 1

unfoldable pub ranks : Format → List Line
ranks fmt =
    -- fields 0 and 0, all unused bits 1 (as many sums as the packed bytes hold, the largest field of that width in place of each)
    flawed fmt (front 2 ++ at_top fmt 0 (hex 1 0xFC)) (top_back fmt ∷ top_back fmt ∷ []) 20 (in_vector 0)
    -- 17 before 14, a byte after the last vector; of one vector 8 again before 17 (17 behind 14, 17 before the second 8)
    ∷ faulty fmt (front 2 ++ at_top fmt 0 (hex 1 0x02) ++ hex 1 0x00) 17 (in_vector_at 0 1)
    ∷ reads_vector fmt (front 2 ++ at_top fmt 0 (hex 1 0x02) ++ hex 1 0x00) 0 8 (refused 8 (in_vector 0))
    -- 17 before 15: no room (17 found while values are written)
    ∷ reads fmt (front 2 ++ at_top fmt 0 (hex 1 0x02)) 0 (refused 17 (in_vector_at 0 1))
    ∷ reads_vector fmt (front 2 ++ at_top fmt 0 (hex 1 0x02)) 0 0 (refused 17 (in_vector_at 0 1))
    -- 17 in vector 1 before 21, 22, 23 and 24 in vector 0 (sums among the examiner's own rows)
    ∷ faulty fmt (two (body fmt 0 (pos (top fmt)) 0 []) 2 (at_top fmt 0 (hex 1 0x02))) 17 (in_vector_at 1 1)
    ∷ faulty fmt (two (body fmt 1 (pos 0) 0 (hex 2 0x00_00 ++ hex (word_bytes fmt) 0)) 2 (at_top fmt 0 (hex 1 0x02))) 17 (in_vector_at 1 1)
    ∷ faulty fmt (two (body fmt 1 (pos 0) 1 (hex 1 0x01 ++ hex 2 0x00_00 ++ nan fmt)) 2 (at_top fmt 0 (hex 1 0x02))) 17 (in_vector_at 1 1)
    ∷ faulty fmt (two (body fmt 0 (pos 0) 1 (hex 1 0x00)) 2 (at_top fmt 0 (hex 1 0x02))) 17 (in_vector_at 1 1)
    -- 17 in vector 0 before 8, 7, 9 and 13 in vector 1 (sums looked at once all vectors have passed their other rows)
    ∷ faulty fmt (hex 8 0x01_00_00_03_09_00_00_00 ++ hex 8 0x08_00_00_00_00_00_00_00 ++ at_top fmt 0 (hex 1 0x10) ++ zeros fmt) 17 (in_vector_at 0 4)
    ∷ faulty fmt (two (at_top fmt 0 (hex 1 0x10)) 1 []) 17 (in_vector_at 0 4)
    ∷ faulty fmt (two (at_top fmt 0 (hex 1 0x10)) 1 (hex 1 0x13 ++ hex (4 + word_bytes fmt) 0)) 17 (in_vector_at 0 4)
    ∷ faulty fmt (two (at_top fmt 0 (hex 1 0x10)) 1 (body fmt 1 (pos 0) 0 (hex 2 0x01_00 ++ nan fmt))) 17 (in_vector_at 0 4)
    -- 17 in vector 0 is nothing to vector 1 (the sums of the whole page)
    ∷ reads_vector fmt (two (at_top fmt 0 (hex 1 0x10)) 1 (zeros fmt)) 0 8 (refused 17 (in_vector_at 0 4))
    ∷ reads_vector fmt (two (at_top fmt 0 (hex 1 0x10)) 1 (zeros fmt)) 1 8 (done (0 ∷ []))
    ∷ []

unfoldable pub sums : List Line
sums = ranges binary32 ++ ranks binary32 ++ ranges binary64 ++ ranks binary64

-- ---- rows 20 to 24, from the examiner alone; the reader gives the values

unfoldable pub flaws : List Line
flaws =
    -- 20 in vector 1: 7.0, 8.0, 7.0 with the lowest unused bit
    flawed binary32 (behind 3 ++ hex 4 0x00_00_00_00 ++ hex 5 0x07_00_00_00_01 ++ hex 1 0x0A)
    (sevens ++ 0x40E00000 ∷ 0x41000000 ∷ 0x40E00000 ∷ []) 20 (in_vector 1)
    -- 20 in vector 1: the highest unused bit of the last of two packed bytes
    ∷ flawed binary32 (behind 3 ++ hex 4 0x00_00_00_00 ++ hex 5 0x07_00_00_00_03 ++ hex 2 0xC8_81)
    (sevens ++ 0x40E00000 ∷ 0x41000000 ∷ 0x41600000 ∷ []) 20 (in_vector 1)
    -- 20 before 21: the vector of the next line, with an unused bit
    ∷ flawed binary32 (behind 3 ++ hex 4 0x00_00_00_00 ++ hex 5 0x00_00_00_01_01 ++ hex 1 0x84)
    (sevens ++ 0x4B800000 ∷ 0x4B800000 ∷ 0x4B800000 ∷ []) 20 (in_vector 1)
    -- 21 in vector 1, place 2: 16,777,217 comes back as 16777216.0, which turns into another whole number
    ∷ flawed binary32 (behind 3 ++ hex 4 0x00_00_00_00 ++ hex 5 0x00_00_00_01_01 ++ hex 1 0x04)
    (sevens ++ 0x4B800000 ∷ 0x4B800000 ∷ 0x4B800000 ∷ []) 21 (in_vector_at 1 2)
    -- 21 in vector 1, place 1: 2,147,483,647, behind L - 128, comes back as 2147483648.0, which is an exception
    ∷ flawed binary32 (behind 2 ++ hex 4 0x00_00_00_00 ++ hex 5 0x00_FF_FF_7F_08 ++ hex 2 0x00_FF) (sevens ++ 0x4EFFFFFE ∷ 0x4F000000 ∷ [])
    21 (in_vector_at 1 1)
    -- 21, place 1, 64-bit: 2^53 + 1
    ∷ flawed binary64 (front 2 ++ hex 4 0x00_00_00_00 ++ hex 9 0x00_00_00_00_00_00_20_00_01 ++ hex 1 0x02)
    (0x4340000000000000 ∷ 0x4340000000000000 ∷ []) 21 (in_vector_at 0 1)
    -- 21 at place 1 before 22 at place 0
    ∷ flawed binary32 (behind 2 ++ hex 4 0x00_00_01_00 ++ hex 5 0x00_00_00_01_01 ++ hex 1 0x02 ++ hex 2 0x00_00 ++ hex 4 0x00_00_E0_40)
    (sevens ++ 0x40E00000 ∷ 0x4B800000 ∷ []) 21 (in_vector_at 1 1)
    -- 22 in vector 1, place 1: a listed 7.0 is no exception
    ∷ flawed binary32 (behind 2 ++ hex 4 0x00_00_01_00 ++ hex 5 0x07_00_00_00_00 ++ hex 2 0x01_00 ++ hex 4 0x00_00_E0_40)
    (sevens ++ 0x40E00000 ∷ 0x40E00000 ∷ []) 22 (in_vector_at 1 1)
    -- 22, place 2, 64-bit: a NaN is listed at 0, rightly, and 1.5 at 2
    ∷ flawed binary64 (front 3 ++ hex 4 0x01_00_02_00 ++ hex 9 0x0F_00_00_00_00_00_00_00_00 ++ hex 4 0x00_00_02_00
    ++ hex 16 0x00_00_00_00_00_00_F8_7F_00_00_00_00_00_00_F8_3F)
    (0x7FF8000000000000 ∷ 0x3FF8000000000000 ∷ 0x3FF8000000000000 ∷ []) 22 (in_vector_at 0 2)
    -- 22 at place 2 before 23 at place 1
    ∷ flawed binary32
    (behind 3 ++ hex 4 0x00_00_02_00 ++ hex 5 0x07_00_00_00_01 ++ hex 1 0x02 ++ hex 4 0x01_00_02_00 ++ hex 8 0x00_00_C0_7F_00_00_00_41)
    (sevens ++ 0x40E00000 ∷ 0x7FC00000 ∷ 0x41000000 ∷ []) 22 (in_vector_at 1 2)
    -- 23 in vector 1, place 1: 7.0, a NaN, 8.0, where 8 stands in for the NaN in place of 7
    ∷ flawed binary32 (behind 3 ++ hex 4 0x00_00_01_00 ++ hex 5 0x07_00_00_00_01 ++ hex 1 0x06 ++ hex 2 0x01_00 ++ hex 4 0x00_00_C0_7F)
    (sevens ++ 0x40E00000 ∷ 0x7FC00000 ∷ 0x41000000 ∷ []) 23 (in_vector_at 1 1)
    -- 23, place 0: a NaN, 8.0, 7.0, where the smallest stands in
    ∷ flawed binary32 (front 3 ++ hex 4 0x00_00_01_00 ++ hex 5 0x07_00_00_00_01 ++ hex 1 0x02 ++ hex 2 0x00_00 ++ hex 4 0x00_00_C0_7F)
    (0x7FC00000 ∷ 0x41000000 ∷ 0x40E00000 ∷ []) 23 (in_vector_at 0 0)
    -- 23 in vector 1, place 0: all values are listed, and 5 stands in place of 0
    ∷ flawed binary32 (behind 2 ++ hex 4 0x00_00_02_00 ++ hex 5 0x05_00_00_00_00 ++ hex 4 0x00_00_01_00 ++ hex 8 0x00_00_C0_7F_00_00_80_7F)
    (sevens ++ 0x7FC00000 ∷ 0x7F800000 ∷ []) 23 (in_vector_at 1 0)
    -- 23 in vector 1, place 1: a NaN whose place holds 16,777,217; row 21 is for unlisted ones
    ∷ flawed binary32 (behind 2 ++ hex 4 0x00_00_01_00 ++ hex 5 0x00_00_00_01_01 ++ hex 1 0x02 ++ hex 2 0x01_00 ++ hex 4 0x00_00_C0_7F)
    (sevens ++ 0x4B800000 ∷ 0x7FC00000 ∷ []) 23 (in_vector_at 1 1)
    -- 23 before 24: the wrong stand-in, and width 2 where 1 is enough
    ∷ flawed binary32 (behind 3 ++ hex 4 0x00_00_01_00 ++ hex 5 0x07_00_00_00_02 ++ hex 1 0x14 ++ hex 2 0x01_00 ++ hex 4 0x00_00_C0_7F)
    (sevens ++ 0x40E00000 ∷ 0x7FC00000 ∷ 0x41000000 ∷ []) 23 (in_vector_at 1 1)
    -- 24 in vector 1: frame 6 for 7.0, 8.0, whose width 2 is that of their fields
    ∷ flawed binary32 (behind 2 ++ hex 4 0x00_00_00_00 ++ hex 5 0x06_00_00_00_02 ++ hex 1 0x09) (sevens ++ 0x40E00000 ∷ 0x41000000 ∷ [])
    24 (in_vector 1)
    -- 24 in vector 1: width 2 for 7.0, 8.0
    ∷ flawed binary32 (behind 2 ++ hex 4 0x00_00_00_00 ++ hex 5 0x07_00_00_00_02 ++ hex 1 0x04) (sevens ++ 0x40E00000 ∷ 0x41000000 ∷ [])
    24 (in_vector 1)
    -- 24 in vector 1: width 1 for 7.0, 7.0
    ∷ flawed binary32 (behind 2 ++ hex 4 0x00_00_00_00 ++ hex 5 0x07_00_00_00_01 ++ hex 1 0x00) (sevens ++ 0x40E00000 ∷ 0x40E00000 ∷ [])
    24 (in_vector 1)
    -- 24, 64-bit: frame -2 for -1.0, 1.0, whose width 2 is that of their fields; none of them is 0
    ∷ flawed binary64 (front 2 ++ hex 4 0x00_00_00_00 ++ hex 9 0xFE_FF_FF_FF_FF_FF_FF_FF_02 ++ hex 1 0x0D)
    (0xBFF0000000000000 ∷ 0x3FF0000000000000 ∷ []) 24 (in_vector 0)
    -- 24, 64-bit: width 64 for 7.0
    ∷ flawed binary64 (front 1 ++ hex 4 0x00_00_00_00 ++ hex 9 0x07_00_00_00_00_00_00_00_40 ++ hex 8 0x00_00_00_00_00_00_00_00)
    (0x401C000000000000 ∷ []) 24 (in_vector 0)
    -- 24 in vector 0 before 20 in vector 1
    ∷ flawed binary32
    (hex 8 0x01_00_00_03_09_00_00_00 ++ hex 8 0x08_00_00_00_12_00_00_00 ++ hex 4 0x00_00_00_00 ++ hex 5 0x07_00_00_00_01 ++ hex 1 0x00
    ++ hex 4 0x00_00_00_00 ++ hex 5 0x07_00_00_00_01 ++ hex 1 0x02) (sevens ++ 0x40E00000 ∷ []) 24 (in_vector 0)
    -- 13 in vector 1 before 24 in vector 0
    ∷ faulty binary32
    (hex 8 0x01_00_00_03_09_00_00_00 ++ hex 8 0x08_00_00_00_12_00_00_00 ++ hex 4 0x00_00_00_00 ++ hex 5 0x07_00_00_00_01 ++ hex 1 0x00
    ++ hex 4 0x00_00_01_00 ++ hex 5 0x07_00_00_00_00 ++ hex 2 0x01_00 ++ hex 4 0x00_00_C0_7F) 13 (in_vector_at 1 0)
    ∷ []

-- ---- pages by the older rule, under which the whole number was the nearest: the reader gives their values, and the examiner refuses those
-- that the rule would now write otherwise

unfoldable pub older : List Line
older =
    -- 21: R8 as document 01 has it, with frame 4,194,305
    moved binary32 10 (0 ∷ 0 ∷ []) (0x4A800002 ∷ []) (front 1 ++ hex 4 0x00_00_00_00 ++ hex 5 0x01_00_40_00_00) 21 (in_vector_at 0 0)
    -- 21: R9 as document 01 has it, with frame L
    ∷ moved binary32 10 (0 ∷ 0 ∷ []) (0x4EFFFFFF ∷ []) (front 1 ++ hex 4 0x00_00_00_00 ++ hex 5 0x80_FF_FF_7F_00) 21 (in_vector_at 0 0)
    -- 21 in vector 1, place 2: 4194304.0, 4194306.0, 4194307.0
    ∷ moved binary32 3 (0 ∷ 0 ∷ 0 ∷ 0 ∷ []) (sevens ++ 0x4A800000 ∷ 0x4A800004 ∷ 0x4A800006 ∷ [])
    (behind 3 ++ hex 4 0x00_00_00_00 ++ hex 5 0x00_00_40_00_02 ++ hex 1 0x38) 21 (in_vector_at 1 2)
    -- 21: 1483887.625, e 2, f 1, with frame 14,838,877; it turns into another whole number, and comes back from both
    ∷ moved binary32 10 (2 ∷ 1 ∷ []) (0x49B5237D ∷ []) (front 1 ++ hex 4 0x02_01_00_00 ++ hex 5 0x5D_6C_E2_00_00) 21 (in_vector_at 0 0)
    -- 21: -79321.3, e 2, with frame -7,932,130
    ∷ moved binary32 10 (2 ∷ 0 ∷ []) (0xC79AECA6 ∷ []) (front 1 ++ hex 4 0x02_00_00_00 ++ hex 5 0x1E_F7_86_FF_00) 21 (in_vector_at 0 0)
    -- 21, 64-bit: 2^51 + 1, e 0
    ∷ moved binary64 10 (0 ∷ 0 ∷ []) (0x4320000000000002 ∷ [])
    (front 1 ++ hex 4 0x00_00_00_00 ++ hex 9 0x01_00_00_00_00_00_08_00_00) 21 (in_vector_at 0 0)
    -- 21, 64-bit: L, e 0
    ∷ moved binary64 10 (0 ∷ 0 ∷ []) (0x43DFFFFFFFFFFFFF ∷ [])
    (front 1 ++ hex 4 0x00_00_00_00 ++ hex 9 0x00_FC_FF_FF_FF_FF_FF_7F_00) 21 (in_vector_at 0 0)
    -- 22: -481.9323, e 5, f 1, listed
    ∷ moved binary32 10 (5 ∷ 1 ∷ []) (0xC3F0F756 ∷ [])
    (front 1 ++ hex 4 0x05_01_01_00 ++ hex 5 0x00_00_00_00_00 ++ hex 2 0x00_00 ++ hex 4 0x56_F7_F0_C3) 22 (in_vector_at 0 0)
    -- 22, place 1: 1.0, 9.1697, e 10, f 4, the second listed
    ∷ moved binary32 10 (10 ∷ 4 ∷ []) (0x3F800000 ∷ 0x4112B717 ∷ [])
    (front 2 ++ hex 4 0x0A_04_01_00 ++ hex 5 0x40_42_0F_00_00 ++ hex 2 0x01_00 ++ hex 4 0x17_B7_12_41) 22 (in_vector_at 0 1)
    -- 21 at place 1 before 22 at place 0: -481.9323, listed, and 5751.0, e 5, f 1, with frame 57,510,004
    ∷ moved binary32 10 (5 ∷ 1 ∷ []) (0xC3F0F756 ∷ 0x45B3B800 ∷ [])
    (front 2 ++ hex 4 0x05_01_01_00 ++ hex 5 0x74_88_6D_03_00 ++ hex 2 0x00_00 ++ hex 4 0x56_F7_F0_C3) 21 (in_vector_at 0 1)
    -- 22 in vector 0 before 21 in vector 1: eight times 90607.0, e 5, f 3, listed, and R8's value
    ∷ moved binary32 3 (5 ∷ 3 ∷ 0 ∷ 0 ∷ []) (replicate 8 0x47B0F780 ++ 0x4A800002 ∷ [])
    (hex 8 0x01_00_00_03_09_00_00_00 ++ hex 8 0x08_00_00_00_41_00_00_00
    ++ hex 4 0x05_03_08_00 ++ hex 5 0x00_00_00_00_00 ++ rising 0 8
    ++ hex 32 0x80_F7_B0_47_80_F7_B0_47_80_F7_B0_47_80_F7_B0_47_80_F7_B0_47_80_F7_B0_47_80_F7_B0_47_80_F7_B0_47
    ++ hex 4 0x00_00_00_00 ++ hex 5 0x01_00_40_00_00) 22 (in_vector_at 0 0)
    -- 22, 64-bit: -4.1, e 15, listed
    ∷ moved binary64 10 (15 ∷ 0 ∷ []) (0xC010666666666666 ∷ [])
    (front 1 ++ hex 4 0x0F_00_01_00 ++ hex 9 0x00_00_00_00_00_00_00_00_00 ++ hex 2 0x00_00 ++ hex 8 0x66_66_66_66_66_66_10_C0)
    22 (in_vector_at 0 0)
    ∷ []

-- ---- rows 5, 6, 16, 9, 10 and 15 from the writer and (but for 15) from measuring

unfoldable pub settings : List Line
settings =
    -- 5: s 2, though all else is right
    writes binary32 2 (0 ∷ 0 ∷ []) (0x40E00000 ∷ []) 100 (refused 5 the_page)
    -- 5: s 11
    ∷ writes binary32 11 (0 ∷ 0 ∷ []) (0x40E00000 ∷ []) 100 (refused 5 the_page)
    -- 5: s 2
    ∷ measures binary32 2 (0 ∷ 0 ∷ []) (0x40E00000 ∷ []) (refusal 5 the_page)
    -- 5: s 11
    ∷ measures binary32 11 (0 ∷ 0 ∷ []) (0x40E00000 ∷ []) (refusal 5 the_page)
    -- 5 before 6: s 11, and 16,385 values
    ∷ writes binary32 11 [] (replicate 16385 0x00000000) 0 (refused 5 the_page)
    -- 6: 16,385 values, and no pairs
    ∷ writes binary32 10 [] (replicate 16385 0x00000000) 0 (refused 6 the_page)
    -- 6, 64-bit
    ∷ measures binary64 10 [] (replicate 16385 0x0000000000000000) (refusal 6 the_page)
    -- 16: 16,384 values pass row 6
    ∷ measures binary32 10 [] (replicate 16384 0x00000000) (refusal 16 the_page)
    -- 16,384 values: 8 + 16 x 4 + 16 x 9
    ∷ measures binary32 10 (replicate 32 0) (replicate 16384 0x00000000) (done_with 216)
    -- 16: an odd count of bytes
    ∷ writes binary32 10 (0 ∷ 0 ∷ 0 ∷ []) (0x40E00000 ∷ []) 100 (refused 16 the_page)
    -- 16: one pair too few, its exponent above E
    ∷ writes binary32 3 (11 ∷ 0 ∷ []) (replicate 9 0x40E00000) 200 (refused 16 the_page)
    -- 16: one pair too many
    ∷ writes binary32 3 (0 ∷ 0 ∷ 0 ∷ 0 ∷ []) (replicate 8 0x40E00000) 200 (refused 16 the_page)
    -- 16: a pair for no values
    ∷ measures binary64 3 (0 ∷ 0 ∷ []) [] (refusal 16 the_page)
    -- 9 in vector 1: exponent 11, and a factor above it
    ∷ writes binary32 3 (10 ∷ 10 ∷ 11 ∷ 12 ∷ []) (replicate 9 0x40E00000) 200 (refused 9 (in_vector 1))
    -- 9, 64-bit: exponent 19
    ∷ writes binary64 3 (19 ∷ 0 ∷ []) (0x401C000000000000 ∷ []) 200 (refused 9 (in_vector 0))
    -- 10 in vector 2
    ∷ writes binary32 3 (0 ∷ 0 ∷ 1 ∷ 1 ∷ 1 ∷ 2 ∷ []) (replicate 17 0x40E00000) 300 (refused 10 (in_vector 2))
    -- 9 in vector 1
    ∷ measures binary32 3 (10 ∷ 10 ∷ 11 ∷ 0 ∷ []) (replicate 9 0x40E00000) (refusal 9 (in_vector 1))
    -- 10 in vector 0 before 9 in vector 1
    ∷ measures binary32 3 (1 ∷ 2 ∷ 11 ∷ 0 ∷ []) (replicate 9 0x40E00000) (refusal 10 (in_vector 0))
    -- 10 before 15: no room
    ∷ writes binary32 3 (1 ∷ 2 ∷ []) (0x40E00000 ∷ []) 0 (refused 10 (in_vector 0))
    -- 15: one byte less than the page has
    ∷ writes binary32 10 (0 ∷ 0 ∷ []) (0x40E00000 ∷ 0x40E00000 ∷ []) 20 (refused 15 the_page)
    -- just the page
    ∷ writes binary32 10 (0 ∷ 0 ∷ []) (0x40E00000 ∷ 0x40E00000 ∷ []) 21
    (done (hex 8 0x01_00_00_0A_02_00_00_00 ++ hex 4 0x04_00_00_00 ++ hex 4 0x00_00_00_00 ++ hex 5 0x07_00_00_00_00))
    -- more than the page, and one byte below the bound
    ∷ writes binary32 10 (0 ∷ 0 ∷ []) (0x40E00000 ∷ 0x40E00000 ∷ []) 40
    (done (hex 8 0x01_00_00_0A_02_00_00_00 ++ hex 4 0x04_00_00_00 ++ hex 4 0x00_00_00_00 ++ hex 5 0x07_00_00_00_00))
    -- more than the bound
    ∷ writes binary32 10 (0 ∷ 0 ∷ []) (0x40E00000 ∷ 0x40E00000 ∷ []) 50
    (done (hex 8 0x01_00_00_0A_02_00_00_00 ++ hex 4 0x04_00_00_00 ++ hex 4 0x00_00_00_00 ++ hex 5 0x07_00_00_00_00))
    -- 15, 64-bit
    ∷ writes binary64 10 (0 ∷ 0 ∷ []) (0x401C000000000000 ∷ []) 24 (refused 15 the_page)
    -- 15: the exceptions count, 6 bytes each
    ∷ writes binary32 10 (0 ∷ 0 ∷ []) (0x80000000 ∷ 0x7FC00000 ∷ []) 32 (refused 15 the_page)
    -- 15: no values need eight bytes
    ∷ writes binary32 3 [] [] 7 (refused 15 the_page)
    -- 8 bytes for no values
    ∷ measures binary32 3 [] [] (done_with 8)
    -- 8 + 4 + 9
    ∷ measures binary32 10 (0 ∷ 0 ∷ []) (0x40E00000 ∷ 0x40E00000 ∷ []) (done_with 21)
    -- -1.0 and 1.0: 8 + 4 + 9, and two fields of 2 bits
    ∷ measures binary32 10 (0 ∷ 0 ∷ []) (0xBF800000 ∷ 0x3F800000 ∷ []) (done_with 22)
    -- two exceptions: 8 + 4 + 9 + 2 x 6
    ∷ measures binary32 10 (0 ∷ 0 ∷ []) (0x80000000 ∷ 0x7FC00000 ∷ []) (done_with 33)
    -- three vectors: 8 + 3 x 4 + 3 x 9
    ∷ measures binary32 3 (1 ∷ 0 ∷ 0 ∷ 0 ∷ 10 ∷ 10 ∷ []) (replicate 20 0x40E00000) (done_with 47)
    -- 64-bit, the first and the last vector all exceptions: 8 + 3 x 4 + 3 x 13 + 16 x 10
    ∷ measures binary64 3 (18 ∷ 0 ∷ 0 ∷ 0 ∷ 18 ∷ 18 ∷ []) (replicate 24 0x401C000000000000) (done_with 219)
    ∷ []

-- ---- one vector by its number

-- a 32-bit page at s 3 up to its vectors: 17 values, so three vectors, and these offsets; sound are 12, 21, 30
abbrev pub three : ℕ → List ℕ
three offsets = hex 8 0x01_00_00_03_11_00_00_00 ++ hex 12 offsets

-- a vector whose values are all 7.0, 8.0 or 9.0: nine bytes, however many values it holds
abbrev pub all7 : List ℕ
all7 = hex 4 0x00_00_00_00 ++ hex 5 0x07_00_00_00_00

abbrev pub all8 : List ℕ
all8 = hex 4 0x00_00_00_00 ++ hex 5 0x08_00_00_00_00

abbrev pub all9 : List ℕ
all9 = hex 4 0x00_00_00_00 ++ hex 5 0x09_00_00_00_00

unfoldable pub alone : List Line
alone =
    -- the first, the middle and the last of three
    reads_vector binary32 (three 0x0C_00_00_00_15_00_00_00_1E_00_00_00 ++ all7 ++ all8 ++ all9) 0 8 (done sevens)
    ∷ reads_vector binary32 (three 0x0C_00_00_00_15_00_00_00_1E_00_00_00 ++ all7 ++ all8 ++ all9) 1 8 (done (replicate 8 0x41000000))
    ∷ reads_vector binary32 (three 0x0C_00_00_00_15_00_00_00_1E_00_00_00 ++ all7 ++ all8 ++ all9) 2 1 (done (0x41100000 ∷ []))
    -- room for more than its values
    ∷ reads_vector binary32 (three 0x0C_00_00_00_15_00_00_00_1E_00_00_00 ++ all7 ++ all8 ++ all9) 2 17 (done (0x41100000 ∷ []))
    -- 64-bit: the last of two, with an exception
    ∷ reads_vector binary64
    (hex 8 0x01_00_00_03_0A_00_00_00 ++ hex 8 0x08_00_00_00_15_00_00_00 ++ hex 4 0x00_00_00_00 ++ hex 9 0x07_00_00_00_00_00_00_00_00
    ++ hex 4 0x00_00_01_00 ++ hex 9 0x08_00_00_00_00_00_00_00_00 ++ hex 2 0x01_00 ++ hex 8 0x00_00_00_00_00_00_00_80)
    1 2 (done (0x4020000000000000 ∷ 0x8000000000000000 ∷ []))
    -- 1 to 6, each before 30
    ∷ reads_vector binary32 (hex 7 0x01_00_00_0A_00_00_00) 0 8 (refused 1 the_page)
    ∷ reads_vector binary32 (hex 8 0x02_01_00_0A_00_00_00_00) 0 8 (refused 2 the_page)
    ∷ reads_vector binary32 (hex 8 0x01_01_01_0A_00_00_00_00) 0 8 (refused 3 the_page)
    ∷ reads_vector binary32 (hex 8 0x01_00_01_02_00_00_00_00) 0 8 (refused 4 the_page)
    ∷ reads_vector binary32 (hex 8 0x01_00_00_02_00_00_00_00) 0 8 (refused 5 the_page)
    ∷ reads_vector binary64 (hex 8 0x01_00_00_0A_01_40_00_00) 17 8 (refused 6 the_page)
    -- 30: a page of no values has no vector 0, whatever stands behind its header
    ∷ reads_vector binary32 (hex 8 0x01_00_00_0A_00_00_00_00) 0 8 (refused 30 the_page)
    ∷ reads_vector binary64 (hex 8 0x01_00_00_0A_00_00_00_00 ++ hex 1 0x00) 0 0 (refused 30 the_page)
    -- 30: number 3 of three vectors, and the largest number of 64 bits
    ∷ reads_vector binary32 (three 0x0C_00_00_00_15_00_00_00_1E_00_00_00 ++ all7 ++ all8 ++ all9) 3 8 (refused 30 the_page)
    ∷ reads_vector binary32 (three 0x0C_00_00_00_15_00_00_00_1E_00_00_00 ++ all7 ++ all8 ++ all9) 18446744073709551615 8 (refused 30 the_page)
    -- 30 before 7 for the offsets, of which there are none; and 7 for a number that is there
    ∷ reads_vector binary32 (hex 8 0x01_00_00_03_11_00_00_00) 3 8 (refused 30 the_page)
    ∷ reads_vector binary32 (hex 8 0x01_00_00_03_11_00_00_00) 2 8 (refused 7 the_page)
    -- 7 for the whole of the offsets, though the first two are there: the last byte of the third is not
    ∷ reads_vector binary32 (hex 8 0x01_00_00_03_11_00_00_00 ++ hex 11 0x0C_00_00_00_15_00_00_00_1E_00_00) 0 8 (refused 7 the_page)
    -- 8: vector 1 starts one byte before the end of the offsets, where a vector could be read
    ∷ reads_vector binary32 (three 0x0C_00_00_00_0B_00_00_00_14_00_00_00 ++ all7 ++ all8 ++ all9) 1 8 (refused 8 (in_vector 1))
    -- 8 before 7 for metadata: offset 0, and no vectors
    ∷ reads_vector binary32 (three 0x0C_00_00_00_15_00_00_00_00_00_00_00) 2 8 (refused 8 (in_vector 2))
    -- 7: vector 1 starts at the page's end, far past it, or eight bytes before it, with an exponent above E
    ∷ reads_vector binary32 (three 0x0C_00_00_00_27_00_00_00_1E_00_00_00 ++ all7 ++ all8 ++ all9) 1 8 (refused 7 (in_vector 1))
    ∷ reads_vector binary32 (three 0x0C_00_00_00_FF_FF_FF_FF_1E_00_00_00 ++ all7 ++ all8 ++ all9) 1 8 (refused 7 (in_vector 1))
    ∷ reads_vector binary32 (three 0x0C_00_00_00_15_00_00_00_1E_00_00_00 ++ all7 ++ hex 4 0x0B_00_00_00 ++ hex 4 0x07_00_00_00) 1 8 (refused 7 (in_vector 1))
    -- 9 to 12 in vector 1, each before the next
    ∷ reads_vector binary32 (three 0x0C_00_00_00_15_00_00_00_1E_00_00_00 ++ all7 ++ hex 4 0x0B_0C_00_00 ++ hex 5 0x07_00_00_00_00 ++ all9) 1 8 (refused 9 (in_vector 1))
    ∷ reads_vector binary32 (three 0x0C_00_00_00_15_00_00_00_1E_00_00_00 ++ all7 ++ hex 4 0x01_02_09_00 ++ hex 5 0x07_00_00_00_00 ++ all9) 1 8 (refused 10 (in_vector 1))
    ∷ reads_vector binary32 (three 0x0C_00_00_00_15_00_00_00_1E_00_00_00 ++ all7 ++ hex 4 0x00_00_09_00 ++ hex 5 0x07_00_00_00_21 ++ all9) 1 8 (refused 11 (in_vector 1))
    ∷ reads_vector binary32 (three 0x0C_00_00_00_15_00_00_00_1E_00_00_00 ++ all7 ++ hex 4 0x00_00_00_00 ++ hex 5 0x07_00_00_00_21 ++ all9) 1 8 (refused 12 (in_vector 1))
    -- 11: two exceptions of the last vector's one value, though a full one could have them
    ∷ reads_vector binary32 (three 0x0C_00_00_00_15_00_00_00_1E_00_00_00 ++ all7 ++ all8 ++ hex 4 0x00_00_02_00 ++ hex 5 0x09_00_00_00_00) 2 8 (refused 11 (in_vector 2))
    -- 7 for data before 8: width 32, whose 32 packed bytes are not there
    ∷ reads_vector binary32 (three 0x0C_00_00_00_15_00_00_00_1E_00_00_00 ++ all7 ++ hex 4 0x00_00_00_00 ++ hex 5 0x07_00_00_00_20 ++ all9) 1 8 (refused 7 (in_vector 1))
    -- 8 again: the next offset is one more or one less than where vector 1 ends; that is no fault of vector 0
    ∷ reads_vector binary32 (three 0x0C_00_00_00_15_00_00_00_1F_00_00_00 ++ all7 ++ all8 ++ all9) 1 8 (refused 8 (in_vector 1))
    ∷ reads_vector binary32 (three 0x0C_00_00_00_15_00_00_00_1D_00_00_00 ++ all7 ++ all8 ++ all9) 1 8 (refused 8 (in_vector 1))
    ∷ reads_vector binary32 (three 0x0C_00_00_00_15_00_00_00_1D_00_00_00 ++ all7 ++ all8 ++ all9) 0 8 (done sevens)
    -- 8 again: a byte behind the last vector, which is row 14 for a whole page
    ∷ reads_vector binary32 (three 0x0C_00_00_00_15_00_00_00_1E_00_00_00 ++ all7 ++ all8 ++ all9 ++ hex 1 0x00) 2 8 (refused 8 (in_vector 2))
    ∷ reads_vector binary32 (three 0x0C_00_00_00_15_00_00_00_1E_00_00_00 ++ all7 ++ all8 ++ all9 ++ hex 1 0x00) 1 8 (done (replicate 8 0x41000000))
    -- 8 again before 13: position 8 of eight values, and a byte between this vector and the next
    ∷ reads_vector binary32 (three 0x0C_00_00_00_15_00_00_00_25_00_00_00 ++ all7 ++ hex 4 0x00_00_01_00 ++ hex 5 0x08_00_00_00_00 ++ hex 2 0x08_00 ++ hex 4 0x00_00_C0_7F
    ++ hex 1 0x00 ++ all9) 1 8 (refused 8 (in_vector 1))
    -- 13, and before 15: no room
    ∷ reads_vector binary32 (three 0x0C_00_00_00_15_00_00_00_24_00_00_00 ++ all7 ++ hex 4 0x00_00_01_00 ++ hex 5 0x08_00_00_00_00 ++ hex 2 0x08_00 ++ hex 4 0x00_00_C0_7F
    ++ all9) 1 0 (refused 13 (in_vector_at 1 0))
    -- 15: room for seven of eight, and for none of one
    ∷ reads_vector binary32 (three 0x0C_00_00_00_15_00_00_00_1E_00_00_00 ++ all7 ++ all8 ++ all9) 1 7 (refused 15 the_page)
    ∷ reads_vector binary32 (three 0x0C_00_00_00_15_00_00_00_1E_00_00_00 ++ all7 ++ all8 ++ all9) 2 0 (refused 15 the_page)
    -- faults of others: vector 0 with an exponent above E, vector 2 with none of its bytes
    ∷ reads_vector binary32 (three 0x0C_00_00_00_15_00_00_00_1E_00_00_00 ++ hex 4 0x0B_00_00_00 ++ hex 5 0x07_00_00_00_00 ++ all8) 1 8 (done (replicate 8 0x41000000))
    -- a gap before vector 1 is a fault of vector 0 alone
    ∷ reads_vector binary32 (three 0x0C_00_00_00_16_00_00_00_1F_00_00_00 ++ all7 ++ hex 1 0xFF ++ all8 ++ all9) 1 8 (done (replicate 8 0x41000000))
    ∷ reads_vector binary32 (three 0x0C_00_00_00_16_00_00_00_1F_00_00_00 ++ all7 ++ hex 1 0xFF ++ all8 ++ all9) 0 8 (refused 8 (in_vector 0))
    -- the stored offset counts, not the sum of the sizes before it: vector 1 stands on vector 0's bytes
    ∷ reads_vector binary32 (three 0x0C_00_00_00_0C_00_00_00_15_00_00_00 ++ all7 ++ all8) 1 8 (done sevens)
    ∷ reads_vector binary32 (three 0x0C_00_00_00_0C_00_00_00_15_00_00_00 ++ all7 ++ all8) 2 8 (done (0x41000000 ∷ []))
    ∷ reads_vector binary32 (three 0x0C_00_00_00_0C_00_00_00_15_00_00_00 ++ all7 ++ all8) 0 8 (refused 8 (in_vector 0))
    ∷ []

-- ---- choosing

-- done with n values and the pair e, f
abbrev pub pair : ℕ → ℕ → ℕ → Choice
pair n e f = record { answer = done_with n; exponent = e; factor = f }

abbrev pub none_chosen : Choice
none_chosen = record { answer = refusal 31 the_page; exponent = 0; factor = 0 }

unfoldable pub choosing : List Line
choosing =
    -- 7.0: all pairs that bring it back have the same bytes, and 0, 0 is the first
    chooses binary32 (0x40E00000 ∷ []) (pair 1 0 0)
    -- 0.4142, 931.01: 15 bytes with 6, 2 and with 7, 0 and others; the lesser exponent comes first, whatever its factor
    ∷ chooses binary32 (0x3ED41206 ∷ 0x4468C0A4 ∷ []) (pair 2 6 2)
    -- 1.0, 3.0, 95.55: 15 bytes with 6, 4; with 0, 0 an exception, and 16 bytes, two of them its position
    ∷ chooses binary32 (0x3F800000 ∷ 0x40400000 ∷ 0x42BF199A ∷ []) (pair 3 6 4)
    -- 4194305.0 (R8): an exception with 0, 0, and the first pair that brings it back is 1, 0
    ∷ chooses binary32 (0x4A800002 ∷ []) (pair 1 1 0)
    -- exceptions with every pair: a NaN, -0.0, an infinity
    ∷ chooses binary32 (0x7FC00000 ∷ 0x80000000 ∷ 0xFF800000 ∷ []) (pair 3 0 0)
    -- 31: no values, and one more than a vector holds
    ∷ chooses binary32 [] none_chosen
    ∷ chooses binary64 [] none_chosen
    ∷ chooses binary32 (replicate 1025 0x40E00000) none_chosen
    ∷ chooses binary64 (replicate 1025 0) none_chosen
    ∷ []

-- ---- the table

unfoldable pub edges : List Line
edges = arithmetic ++ rounding ++ returns ++ shapes ++ refusals ++ sums ++ flaws ++ older ++ settings ++ alone
