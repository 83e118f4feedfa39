-- What `asm` promises.
use Rattle.std.specs.Prelude.{◌≡◌, ℕ, List, [], ◌⊎◌, Ok}
use Rattle.microcode_asm.specs.declared.Rom.{Rom}
use Rattle.microcode_asm.specs.Roms.{IsAssembled}
use Rattle.microcode_asm.specs.Listing.{listing_of}
use Rattle.command_line.specs.declared.command.Command.TheVariants.{Asm as Assemble}
use Rattle.endings.specs.declared.outcome.Ending.TheVariants as endings
use Rattle.endings.specs.declared.outcome.AsmRefusal.{AsmRefusal}
use Rattle.endings.specs.declared.outcome.Refusal.TheVariants.{Asm as NotAssembled}
use Rattle.ask_commands.specs.Assembling.{IsNoProgram, PutsListing}
use Rattle.jop_cli.specs.promises.Words.{Written, Call, PutsOut, command_of, NothingFailed, LacksMemory, Refused}
use Rattle.jop_cli.specs.Calls.{IsTold}
use Rattle.jop_cli.specs.promises.Answers.{AnswersEnding}

-- ---- `asm`

-- The listing was put, and no line.
pub record IsListed (c : Call) (listing : List ℕ) : Type 0 where
  pub outcome : c.outcome ≡ Written
  pub puts : PutsOut c listing []

-- The listing of the words that a text is assembled to is put; or there is no memory.
abbrev pub AssemblingIsComplete : Type 0
AssemblingIsComplete =
    (c : Call) (word : ℕ) (text : List ℕ) (rom : Rom) → command_of c.words ≡ Ok (Assemble word) → IsTold c word text → NothingFailed c → IsAssembled text rom
    → IsListed c (listing_of rom.words) ⊎ LacksMemory c

-- What refuses a text is answered; or there is no memory.
abbrev pub AsmRefusalsAreAnswered : Type 0
AsmRefusalsAreAnswered =
    (c : Call) (word : ℕ) (text : List ℕ) (refusal : AsmRefusal) → command_of c.words ≡ Ok (Assemble word) → IsTold c word text → NothingFailed c
    → IsNoProgram text refusal → AnswersEnding c (endings.Refused (NotAssembled refusal)) ⊎ LacksMemory c

-- For it is one refusal, and what is refused isn't assembled.
abbrev pub AsmRefusalsAreOne : Type 0
AsmRefusalsAreOne =
    (text : List ℕ) (refusal : AsmRefusal) → IsNoProgram text refusal
    → ((rom : Rom) → ¬ IsAssembled text rom) × ((other : AsmRefusal) → IsNoProgram text other → other ≡ refusal)

-- ---- `asm`

-- The listing was put of the microprogram that the text of the word's file is.
abbrev pub ListingsAreShown : Type 0
ListingsAreShown = (c : Call) (word : ℕ) → command_of c.words ≡ Ok (Assemble word) → c.outcome ≡ Written → PutsListing word c.old c.new
