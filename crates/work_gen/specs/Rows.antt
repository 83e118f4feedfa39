-- The class W at small sizes, worked out by hand.
use Rattle.std.specs.Prelude.{◌≡◌, [], ◌∷◌, ◌++◌, codes}
use Rattle.work_gen.specs.Work.{bytes_in, call_of, adder_pieces, called, main_end, main_pieces, bounds_text}

abbrev pub WorkRows : Type 0
WorkRows =
    -- m1 goes round twice and calls none; m10 goes round three times and calls m9
    (adder_pieces 1
    ≡ bytes_in (0x03 ∷ 0x3C ∷ 0x1B ∷ 0x10 ∷ 0x02 ∷ 0xA2 ∷ 0x00 ∷ 0x0D ∷ 0x1A ∷ 0x1B ∷ 0x60 ∷ 0x3B ∷ 0x84 ∷ 0x01 ∷ 0x01 ∷ 0xA7 ∷ 0xFF ∷ 0xF3 ∷ 0x1A ∷ 0xAC ∷ []))
    × (adder_pieces 10
    ≡ bytes_in (0x03 ∷ 0x3C ∷ 0x1B ∷ 0x10 ∷ 0x03 ∷ 0xA2 ∷ 0x00 ∷ 0x0D ∷ 0x1A ∷ 0x1B ∷ 0x60 ∷ 0x3B ∷ 0x84 ∷ 0x01 ∷ 0x01 ∷ 0xA7 ∷ 0xFF ∷ 0xF3 ∷ 0x1A ∷ [])
    ++ (call_of 9 ++ bytes_in (0xAC ∷ [])))
    -- the last of each ten, and the last
    × (called 1 ≡ 1 ∷ [])
    × (called 10 ≡ 10 ∷ [])
    × (called 25 ≡ 10 ∷ 20 ∷ 25 ∷ [])
    -- sipush 1 and one call; sipush 11 and two
    × (main_pieces 1 ≡ bytes_in (0x11 ∷ 0x00 ∷ 0x01 ∷ []) ++ (call_of 1 ++ main_end))
    × (main_pieces 11 ≡ bytes_in (0x11 ∷ 0x00 ∷ 0x0B ∷ []) ++ (call_of 10 ++ (call_of 11 ++ main_end)))
    × (bounds_text 2 ≡ codes "W.m1(I)I 2 loop<=2\nW.m2(I)I 2 loop<=3\n")
