-- What `asm` does: the text of an operand is assembled, and the text of its words is put.
use Rattle.std.specs.Prelude.{◌≡◌, ℕ, ◌<◌, ◌≤◌, List, length, take}
use Rattle.outside.specs.Outside.{Grew, Rose}
use Rattle.microcode_asm.specs.declared.Rom.{Rom}
use Rattle.microcode_asm.specs.Roms.{IsAssembled, IsFirstRefused, HasTooManyWords}
use Rattle.microcode_asm.specs.Listing.{listing_of}
use Rattle.endings.specs.declared.outcome.AsmRefusal.{AsmRefusal}
use Rattle.endings.specs.declared.outcome.AsmRefusal.TheVariants.{Line, TooLong}
use Rattle.endings.specs.declared.outcome.Refusal.{Refusal}
use Rattle.endings.specs.declared.outcome.Refusal.TheVariants.{TooBig, Asm}
use Rattle.endings.specs.declared.outcome.Ending.{Ending}
use Rattle.endings.specs.declared.outcome.Ending.TheVariants.{Written, Refused, ReadFault, WriteFault, NoMemory}
use Rattle.endings.specs.World.{World, IsQuiet, IsUntaken, FilesStayBut, Reads, IsTooBig}

-- this is the listing of the microprogram that a text is
pub record IsListing (text listing : List ℕ) : Type 0 where
  pub rom : Rom
  pub assembled : IsAssembled text rom
  pub is : listing ≡ listing_of rom.words

-- why a text is no microprogram
abbrev pub IsNoProgram : (text : List ℕ) → AsmRefusal → Type 0
IsNoProgram text (Line number kind) = IsFirstRefused text number kind
IsNoProgram text (TooLong words) = HasTooManyWords text words

-- why a text gives no listing
abbrev pub ListingFault : (text : List ℕ) → Ending → Type 0
ListingFault text (Refused (Asm refusal)) = IsNoProgram text refusal
ListingFault text NoMemory = Unit {0}
ListingFault text ending = ⊥

-- the file of a word was read, and this is the listing of its text
pub record Lists (word : ℕ) (listing : List ℕ) (old new : World) : Type 0 where
  pub text : List ℕ
  pub reads : Reads word text old new
  pub is : IsListing text listing

-- all of the listing was put
pub record PutsListing (word : ℕ) (old new : World) : Type 0 where
  pub listing : List ℕ
  pub lists : Lists word listing old new
  pub put : Grew old.out new.out listing
  pub later : old.out_faults ≤ new.out_faults
  pub watch : new.watch ≡ old.watch
  pub input : IsUntaken old new

-- a front of the listing was put, where out failed
pub record PutsListingFront (word : ℕ) (old new : World) : Type 0 where
  pub listing : List ℕ
  pub lists : Lists word listing old new
  pub count : ℕ
  pub part : count < length listing
  pub put : Grew old.out new.out (take count listing)
  pub rose : Rose old.out_faults new.out_faults
  pub watch : new.watch ≡ old.watch
  pub input : IsUntaken old new

-- How the text of a word is refused.
abbrev pub NotAssembled : (word : ℕ) → World → World → Refusal → Type 0
NotAssembled word old new (TooBig operand sum) = IsTooBig word old new operand sum
NotAssembled word old new (Asm refusal) = (text : List ℕ) × Reads word text old new × IsNoProgram text refusal
NotAssembled word old new refusal = ⊥

-- How the assembling of the text of a word ends, each ending with its cause.
abbrev pub Assembles : (word : ℕ) → World → World → Ending → Type 0
Assembles word old new Written = PutsListing word old new
Assembles word old new (Refused refusal) = NotAssembled word old new refusal × IsQuiet old new
Assembles word old new ReadFault = FilesStayBut word old new × Rose (old.file_faults word) (new.file_faults word) × IsQuiet old new
Assembles word old new WriteFault = PutsListingFront word old new
Assembles word old new NoMemory = FilesStayBut word old new × IsQuiet old new
Assembles word old new ending = ⊥
