-- The text of the microcode: what stands in it for the constants, the rows and the words of the ROM.
use Rattle.std.specs.Prelude.{ℕ, suc, Bool, ◌==◌, if◌then◌else◌, List, [], ◌∷◌, ◌++◌, codes, decimal, Option, Some, None}
use Rattle.std.specs.Option.{option_map_or}
use Rattle.opcodes.specs.Row.{row_of}
use Rattle.microcode.specs.declared.isa.Body.{Body}
use Rattle.microcode.specs.declared.isa.Body.TheVariants.{Plain, Stm, Ldm, Ldi, Bz, Bnz, Jmp}
use Rattle.microcode.specs.declared.isa.Micro.{Micro}
use Rattle.microcode.specs.declared.isa.Turns.{Turns}
use Rattle.microcode.specs.declared.isa.Turns.TheVariants.{Count, PerPair, PerEntry}
use Rattle.microcode.specs.Isa.Words.{micro_of}
use Rattle.microcode.specs.Tables.{turns_in}
use Rattle.microcode.specs.declared.TheConstants.{CONSTANTS, ENTRIES, RAISE, TURNS, WORDS}
use Rattle.microcode_listing.specs.Names.{operation_text, row_text}

-- ---- lines

-- what stands for items one after another, each with its number
unfoldable pub numbered : {A : Type 0} → (text : ℕ → A → List ℕ) → (first : ℕ) → List A → List ℕ
numbered text n [] = []
numbered text n (x ∷ xs) = text n x ++ numbered text (suc n) xs

-- a word, a number and what is behind them
abbrev pub with_number : (name : List ℕ) → ℕ → (behind : List ℕ) → List ℕ
with_number name n behind = name ++ (decimal n ++ behind)

-- a constant that isn't 0
unfoldable pub constant_text : (number value : ℕ) → List ℕ
constant_text number value = if value == 0 then [] else with_number (codes ".const ") number (with_number (codes " ") value (codes "\n"))

-- an opcode whose row begins at the address
unfoldable pub entry_text : (address : ℕ) → (op entry : ℕ) → List ℕ
entry_text address op entry = if entry == address then with_number (codes ".entry ") op (codes " ; " ++ ((row_of op).mnemonic ++ codes "\n")) else []

unfoldable pub raise_text : (address : ℕ) → List ℕ
raise_text address = if address == RAISE then codes ".raise\n" else []

-- that an address is where raising begins, and the opcodes whose row begins there
unfoldable pub opcodes_text : (address : ℕ) → List ℕ
opcodes_text address = raise_text address ++ numbered (entry_text address) 0 ENTRIES

-- what stands before the first word of a row
unfoldable pub head_text : (address : ℕ) → Option (List ℕ) → List ℕ
head_text address None = []
head_text address (Some name) = name ++ (with_number (codes ": ; address ") address (codes "\n") ++ opcodes_text address)

-- the turns of a branch
unfoldable pub turns_text : Option Turns → List ℕ
turns_text None = []
turns_text (Some (Count count)) = with_number (codes ".turns ") count (codes "\n")
turns_text (Some PerPair) = codes ".turns pairs\n"
turns_text (Some PerEntry) = codes ".turns entries\n"

abbrev pub target_text : (to : ℕ) → List ℕ
target_text to = option_map_or (λ name. name) (row_text to) []

unfoldable pub body_text : Body → List ℕ
body_text (Plain code) = operation_text code
body_text (Stm place) = with_number (codes "stm ") place []
body_text (Ldm place) = with_number (codes "ldm ") place []
body_text (Ldi number) = with_number (codes "ldi ") number []
body_text (Bz to) = codes "bz " ++ target_text to
body_text (Bnz to) = codes "bnz " ++ target_text to
body_text (Jmp to) = codes "jmp " ++ target_text to

abbrev pub flag_text : Bool → (name : List ℕ) → List ℕ
flag_text flag name = if flag then name else []

unfoldable pub micro_text : Option Micro → List ℕ
micro_text None = []
micro_text (Some micro) = codes "  " ++ (body_text micro.body ++ (flag_text micro.opd (codes " opd") ++ (flag_text micro.nxt (codes " nxt") ++ codes "\n")))

-- a word, with what stands before it
unfoldable pub word_text : (address word : ℕ) → List ℕ
word_text address word = head_text address (row_text address) ++ (turns_text (turns_in address TURNS) ++ micro_text (micro_of word))

-- ---- the whole

unfoldable pub listing_text : List ℕ
listing_text = numbered constant_text 0 CONSTANTS ++ numbered word_text 0 WORDS
