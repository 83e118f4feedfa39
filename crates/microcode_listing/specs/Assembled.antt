-- The text of the microcode is assembled to the ROM.
use Rattle.microcode.specs.declared.TheConstants.{CONSTANTS, ENTRIES, RAISE, TURNS, WORDS}
use Rattle.microcode_asm.specs.declared.Rom.{Rom}
use Rattle.microcode_asm.specs.Roms.{IsAssembled}
use Rattle.microcode_listing.specs.Listing.{listing_text}

-- the microprogram of the ROM
unfoldable pub core_rom : Rom
core_rom = record { words = WORDS; entries = ENTRIES; raise = RAISE; consts = CONSTANTS; turns = TURNS }

abbrev pub TheListingIsAssembled : Type 0
TheListingIsAssembled = IsAssembled listing_text core_rom
