-- What the assembler keeps of the whole text, computed.
use Rattle.std.proofs.Common.{◌≡◌, ℕ, Bool, true, List, [], map, replicate, refl, sym, ap, ◌∙◌, arith, Option, Some, None}
use Rattle.std.specs.Prelude.{◌==◌, if◌then◌else◌}
use Rattle.std.specs.List.{list_all, zip}
use Rattle.ascii_text.specs.Line.{lines_of}
use Rattle.opcodes.specs.Row.{row_of}
use Rattle.microcode.specs.declared.TheConstants.{CONSTANTS, ENTRIES, RAISE, ROWS, TURNS, WORDS}
use Rattle.microcode_asm.specs.Statements.{line_of, operation_names}
use Rattle.microcode_asm.specs.Programs.{LabelPlaces, labels_from, places_in, places_of}
use Rattle.microcode_asm.specs.SoFar.{Kept, IsRomOf}
use Rattle.microcode_asm.proofs.ReadLemmas.{IsReadSoFar, read_first, assembled}
use Rattle.microcode_listing.specs.Names.{row_names, operation_text, row_number, row_text}
use Rattle.microcode_listing.specs.Listing.{listing_text}
use Rattle.microcode_listing.specs.Assembled.{core_rom, TheListingIsAssembled}
use Rattle.microcode_listing.proofs.ListingTexts.{Texts, all_lines, text_is}
use Rattle.microcode_listing.proofs.Reading.{has_no_feed, lines_back, run, run_reads}

-- the rows by their names
abbrev table : List (List ℕ × ℕ)
table = zip row_names (map (λ row. row.0) ROWS)

abbrev place : LabelPlaces
place = places_in table

abbrev nothing_kept : Kept
nothing_kept = record { names = []; words = []; entries = replicate 256 None; raise_entry = None; constants = replicate 32 None; turns_are = []; counting = None }

abbrev all_kept : Kept
all_kept = record {
  names = row_names;
  words = WORDS;
  entries = map Some ENTRIES;
  raise_entry = Some RAISE;
  constants = map (λ v. if v == 0 then None else Some v) CONSTANTS;
  turns_are = TURNS;
  counting = None;
}

abbrev Computed : Type 0
Computed = Bool × List (List ℕ × ℕ) × Option Kept

abbrev whole : Texts → Computed
whole lines = (list_all has_no_feed lines, labels_from 0 (map line_of lines), run place lines nothing_kept)

abbrev expected : Computed
expected = (true, table, Some all_kept)

computed : whole all_lines ≡ expected
unfolding all_lines row_text row_number operation_text row_of operation_names
computed = refl

lines_are : lines_of listing_text ≡ all_lines
lines_are = ap lines_of (sym text_is) ∙ lines_back all_lines (ap (λ (x : Computed). x.0) computed)

place_is : place ≡ places_of listing_text
place_is = ap places_in (sym (ap (λ ls. labels_from 0 (map line_of ls)) lines_are ∙ ap (λ (x : Computed). x.1) computed))

first : IsReadSoFar listing_text 0 all_lines place nothing_kept
first = read_first listing_text all_lines place nothing_kept (sym lines_are) (record { names = refl; words = refl; entries = refl; raise_entry = refl; constants = refl; turns_are = refl; counting = refl })

rom_is : IsRomOf all_kept core_rom
unfolding core_rom
rom_is = record { words = refl; entries = refl; raise_entry = refl; constants = refl; turns_are = refl; fits = omega arith }

pub assembled_text : TheListingIsAssembled
assembled_text =
    let r = run_reads listing_text place 0 all_lines nothing_kept all_kept first (ap (λ (x : Computed). x.2) computed) in
    assembled listing_text r.0 [] place all_kept core_rom place_is r.1 refl rom_is
