-- The line of each ending, which is empty where all was written.
use Rattle.std.specs.Prelude.{ℕ, Bool, true, false, List, [], ◌∷◌, get_or, codes, decimal}
use Rattle.std.specs.List.{concat}
use Rattle.endings.specs.declared.outcome.Refusal.{Refusal}
use Rattle.endings.specs.declared.outcome.Refusal.TheVariants.{Usage, TooBig, BadImage, Differs}
use Rattle.endings.specs.declared.outcome.Refusal.TheVariants.{MethodTooLong, MemoryTooSmall, BadBounds, TwiceBound, BadSizes}
use Rattle.endings.specs.declared.outcome.Refusal.TheVariants.{TwiceSize, BadLines, TwiceLines, BadFacts, TwiceFact, NoFact, BadTable, SlotCount, BadCert}
use Rattle.endings.specs.declared.outcome.Refusal.TheVariants.{Check, Price}
use Rattle.endings.specs.declared.outcome.Refusal.TheVariants.{Bound, Memory, NoLoop, NoCircuit, Plan, Asm, Link}
use Rattle.endings.specs.declared.outcome.AsmRefusal.TheVariants as asm
use Rattle.endings.specs.declared.outcome.Ending.{Ending}
use Rattle.endings.specs.declared.outcome.Ending.TheVariants.{Ended, Written, Linked, Holds, Uncaught}
use Rattle.endings.specs.declared.outcome.Ending.TheVariants.{Refused, TooLong, NotLinked, NotHeld, NotPriced, NotAnswered, Spent}
use Rattle.endings.specs.declared.outcome.Ending.TheVariants.{CycleEnded, CycleUncaught, CycleSpent}
use Rattle.endings.specs.declared.outcome.Ending.TheVariants.{ReadFault, InputFault, WriteFault, NoMemory}
use Rattle.microcode_asm.specs.declared.AsmKind.{AsmKind}
use Rattle.microcode_asm.specs.declared.AsmKind.TheVariants.{Form, NoLabel, LabelTwice, EntryTwice, ConstTwice, NoTurns}
use Rattle.answer_lines.specs.Line.{counts_parts, slot_counts_parts, word_text}
use Rattle.jopizer.specs.declared.refusal.LinkRefusal.{LinkRefusal}
use Rattle.jopizer.specs.declared.refusal.LinkRefusal.TheVariants as links
use Rattle.answer_lines.specs.AnalysisLines as analysis
use Rattle.answer_lines.specs.Unanswered.{unanswered_parts}
use Rattle.refusal_lines.specs.Lines as named
use Rattle.refusal_lines.specs.Lines.{failure_parts, limit_parts}

-- the text of a word
abbrev pub text_of_word : List (List ℕ) → ℕ → List ℕ
text_of_word words k = get_or words k []

-- the name of a rule of microprograms
abbrev pub kind_name : AsmKind → List ℕ
kind_name Form = codes "Form"
kind_name NoLabel = codes "NoLabel"
kind_name LabelTwice = codes "LabelTwice"
kind_name EntryTwice = codes "EntryTwice"
kind_name ConstTwice = codes "ConstTwice"
kind_name NoTurns = codes "NoTurns"

-- why files aren't linked; some of the lines name a class or a member
abbrev pub link_parts : LinkRefusal → (name : List ℕ) → List (List ℕ)
link_parts (links.Resolving refusal) name = named.refusal_parts refusal name
link_parts (links.NotVerified file method pc rule) name = failure_parts file method pc rule
link_parts (links.TooLarge what count limit) name = limit_parts what count limit
link_parts (links.FileTooLarge count limit) name = codes "link: too large " ∷ codes "ImageBytes" ∷ codes " count=" ∷ decimal count ∷ codes " limit="
    ∷ decimal limit ∷ codes "\n" ∷ []
link_parts links.NoMemory name = []

-- want of memory refuses no files
abbrev pub is_memory : LinkRefusal → Bool
is_memory (links.Resolving refusal) = named.is_want_of_memory refusal
is_memory refusal = false

-- a method's code takes more blocks than the method cache has
abbrev pub too_long_parts : (name : List ℕ) → (blocks limit : ℕ) → List (List ℕ)
too_long_parts name blocks limit = codes "method too long " ∷ name ∷ codes " blocks=" ∷ decimal blocks ∷ codes " limit=" ∷ decimal limit ∷ codes "\n" ∷ []

-- what refuses files, a condition that fails, and what forbids a bound, have endings of their own
abbrev pub refusal_parts : List (List ℕ) → Refusal → List (List ℕ)
refusal_parts words (Usage k) = codes "usage: word " ∷ decimal k ∷ codes "\n" ∷ []
refusal_parts words (TooBig operand sum) = codes "too big " ∷ text_of_word words operand ∷ codes " sum=" ∷ decimal sum ∷ codes "\n" ∷ []
refusal_parts words BadImage = codes "bad image\n" ∷ []
refusal_parts words (Differs word kept linked) = codes "differs word=" ∷ decimal word ∷ codes " kept=" ∷ word_text kept ∷ codes " linked=" ∷ word_text linked
    ∷ codes "\n" ∷ []
refusal_parts words (MethodTooLong method blocks limit) = too_long_parts (codes "boot") blocks limit
refusal_parts words (MemoryTooSmall count given) = codes "memory too small words=" ∷ decimal count ∷ codes " given=" ∷ decimal given ∷ codes "\n" ∷ []
refusal_parts words (BadBounds line) = analysis.bad_bounds_parts line
refusal_parts words (TwiceBound line) = analysis.twice_bound_parts line
refusal_parts words (BadSizes line) = analysis.bad_sizes_parts line
refusal_parts words (TwiceSize line) = analysis.twice_size_parts line
refusal_parts words (BadLines line) = analysis.bad_lines_parts line
refusal_parts words (TwiceLines line) = analysis.twice_lines_parts line
refusal_parts words (BadFacts line) = analysis.bad_facts_parts line
refusal_parts words (TwiceFact line) = analysis.twice_fact_parts line
refusal_parts words (NoFact line) = analysis.no_fact_parts line
refusal_parts words (BadTable line) = analysis.bad_table_parts line
refusal_parts words (SlotCount count) = analysis.slot_count_parts count
refusal_parts words (BadCert line) = analysis.bad_cert_parts line
refusal_parts words (Check fault) = []
refusal_parts words (Price method node) = []
refusal_parts words (Bound cause) = []
refusal_parts words (Memory cause) = []
refusal_parts words NoLoop = []
refusal_parts words NoCircuit = codes "rtl: no circuit\n" ∷ []
refusal_parts words (Plan cause) = []
refusal_parts words (Asm (asm.Line number kind)) = codes "asm: line=" ∷ decimal number ∷ codes " " ∷ kind_name kind ∷ codes "\n" ∷ []
refusal_parts words (Asm (asm.TooLong count)) = codes "asm: too long words=" ∷ decimal count ∷ codes "\n" ∷ []
refusal_parts words (Link refusal) = []

abbrev pub parts_of : List (List ℕ) → Ending → List (List ℕ)
parts_of words (Ended counts) = codes "ended" ∷ counts_parts counts
parts_of words Written = []
parts_of words (Linked sizes) =
    codes "linked classes=" ∷ decimal sizes.classes ∷ codes " methods=" ∷ decimal sizes.methods ∷ codes " words=" ∷ decimal sizes.words ∷ codes " bytes="
    ∷ decimal sizes.bytes ∷ codes "\n" ∷ []
parts_of words (Holds held) = analysis.held_parts held.name.items held.bound
parts_of words (Uncaught class name counts) = codes "uncaught " ∷ name.items ∷ counts_parts counts
parts_of words (TooLong method name blocks limit) = too_long_parts name.items blocks limit
parts_of words (Refused refusal) = refusal_parts words refusal
parts_of words (NotLinked refusal name) = link_parts refusal name.items
parts_of words (NotHeld fault name) = analysis.fault_parts fault name.items
parts_of words (NotPriced method node name) = analysis.price_parts name.items node
parts_of words (NotAnswered cause subject) = unanswered_parts cause subject.items
parts_of words (Spent counts) = codes "spent" ∷ counts_parts counts
parts_of words (CycleEnded slots) = codes "ended" ∷ slot_counts_parts slots
parts_of words (CycleUncaught class name slots) = codes "uncaught " ∷ name.items ∷ slot_counts_parts slots
parts_of words (CycleSpent slots) = codes "spent" ∷ slot_counts_parts slots
parts_of words ReadFault = codes "read fault\n" ∷ []
parts_of words InputFault = codes "read fault\n" ∷ []
parts_of words WriteFault = codes "write fault\n" ∷ []
parts_of words NoMemory = codes "no memory\n" ∷ []

-- the line of an ending, whose command's words these were
abbrev pub line_of : List (List ℕ) → Ending → List ℕ
line_of words ending = concat (parts_of words ending)

-- an ending whose line replaces no answer
abbrev pub is_fault : Ending → Bool
is_fault (Ended counts) = false
is_fault Written = false
is_fault (Linked sizes) = false
is_fault (Holds held) = false
is_fault (Uncaught class name counts) = false
is_fault (Refused refusal) = false
is_fault (TooLong method name blocks limit) = false
is_fault (NotLinked refusal name) = is_memory refusal
is_fault (NotHeld fault name) = false
is_fault (NotPriced method node name) = false
is_fault (NotAnswered cause subject) = false
is_fault (Spent counts) = false
is_fault (CycleEnded slots) = false
is_fault (CycleUncaught class name slots) = false
is_fault (CycleSpent slots) = false
is_fault ReadFault = true
is_fault InputFault = true
is_fault WriteFault = true
is_fault NoMemory = true
