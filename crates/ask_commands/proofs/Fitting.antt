-- The words of a microprogram are no more than the ROM has.
use Rattle.std.proofs.Common.{◌≡◌, ℕ, ◌≤◌, List, [], ◌∷◌, length, refl, ap, arith, length-append}
use Rattle.std.specs.List.{flat_map}
use Rattle.microcode_asm.specs.Statements.{Statement, nothing, word, branch, entry, raise, constant, turns, size_of, Line}
use Rattle.microcode_asm.specs.declared.Rom.{Rom}
use Rattle.microcode_asm.specs.Programs.{LabelPlaces, places_of, word_count}
use Rattle.microcode_asm.specs.Roms.{words_of, IsAssembled}

of_statement : (place : LabelPlaces) (s : Statement) → length (words_of place s) ≡ size_of s
of_statement place nothing = refl
of_statement place (word bits) = refl
of_statement place (branch how label) = refl
of_statement place (entry op) = refl
of_statement place raise = refl
of_statement place (constant number value) = refl
of_statement place (turns t) = refl

of_lines : (place : LabelPlaces) (lines : List Line) → length (flat_map (λ line. words_of place line.statement) lines) ≡ word_count lines
of_lines place [] = refl
of_lines place (line ∷ lines) =
    omega (arith, length-append (words_of place line.statement) (flat_map (λ line. words_of place line.statement) lines), of_statement place line.statement, of_lines place lines)

pub words_fit : (text : List ℕ) (rom : Rom) → IsAssembled text rom → length rom.words ≤ 2048
words_fit text rom is = omega (arith, ap length is.words, of_lines (places_of text) is.lines, is.fits)
