-- What `loops` and `memory` find of an image, without settings of a machine.
use Rattle.std.specs.Prelude.{◌≡◌, ℕ, ◌+◌, Bool, true, false, List, [], length}
use Rattle.std.specs.Prelude.{Ok, Err, Vec}
use Rattle.std.specs.declared.alloc.Global.{Global}
use Rattle.std.specs.declared.result.Result.{Result}
use Rattle.base.specs.declared.no_memory.NoMemory.{NoMemory as Lacking}
use Rattle.class_pool.specs.declared.class.ClassFile.{ClassFile}
use Rattle.image_file.specs.Bare.{BareContent}
use Rattle.memory_rules.specs.declared.needs.Need.{Need}
use Rattle.jopizer.specs.Linked.{Parts}
use Rattle.answer_lines.specs.declared.unanswered.Cause.TheVariants.{Memory}
use Rattle.answer_lines.specs.MemoryLines.{memory_line}
use Rattle.analysis_commands.specs.declared.memory.Given.{Given}
use Rattle.analysis_commands.specs.declared.memory.MemoryRefusal.{MemoryRefusal}
use Rattle.analysis_commands.specs.declared.memory.MemoryRefusal.TheVariants as refusals
use Rattle.analysis_commands.specs.Loops.{AreLoopLines, AreFurtherLines}
use Rattle.analysis_commands.specs.Memory.{IsNeed, IsMemoryRefusal, IsGivenBy, IsBadText}
use Rattle.endings.specs.declared.outcome.Refusal.TheVariants.{BadBounds, TwiceBound, BadSizes, TwiceSize}
use Rattle.endings.specs.declared.outcome.Answer.{Answer}
use Rattle.endings.specs.declared.outcome.Answer.TheVariants.{Text, Ends}
use Rattle.endings.specs.declared.outcome.Ending.{Ending}
use Rattle.endings.specs.declared.outcome.Ending.TheVariants.{Refused, NotAnswered, NoMemory}

-- ---- `loops`

-- the lines of the loops that count, with what is known further or by constants alone, or there was no memory
abbrev pub AnswersLoops : (further : Bool) → List ClassFile → Answer → Type 0
AnswersLoops true cs (Text text) = AreFurtherLines cs text.items
AnswersLoops false cs (Text text) = AreLoopLines cs text.items
AnswersLoops further cs (Ends ending) = ending ≡ NoMemory

-- no line at all, of an image without classes
abbrev pub AnswersNothing : Answer → Type 0
AnswersNothing (Text text) = text.items ≡ []
AnswersNothing (Ends ending) = ⊥

-- ---- `memory`

-- this text, or there was no memory for it
abbrev pub IsLineAnswer : Result (Vec ℕ Global) Lacking → Answer → Type 0
IsLineAnswer (Ok line) (Text text) = text.items ≡ line.items
IsLineAnswer (Err lacking) (Ends ending) = ending ≡ NoMemory
IsLineAnswer line answer = ⊥

-- the ending that says why no need is given
abbrev pub memory_ending : MemoryRefusal → Ending
memory_ending (refusals.BadBounds line) = Refused (BadBounds line)
memory_ending (refusals.TwiceBound line) = Refused (TwiceBound line)
memory_ending (refusals.BadSizes line) = Refused (BadSizes line)
memory_ending (refusals.TwiceSize line) = Refused (TwiceSize line)
memory_ending (refusals.NoNeed cause subject) = NotAnswered (Memory cause) subject
memory_ending refusals.NoMemory = NoMemory

-- the line says what a run of the program needs, and how many words its image has
pub record SaysNeed (l : Parts) (bounds_text sizes_text text : List ℕ) : Type 0 where
  pub need : Need
  pub is : IsNeed l.classes bounds_text sizes_text need
  pub says : text ≡ memory_line need (length l.laid.words)

-- this refuses the texts, or forbids a need, and the ending says it
pub record EndsWithoutNeed (l : Parts) (bounds_text sizes_text : List ℕ) (ending : Ending) : Type 0 where
  pub refusal : MemoryRefusal
  pub is : IsMemoryRefusal l.classes bounds_text sizes_text refusal
  pub says : ending ≡ memory_ending refusal

abbrev pub AnswersNeed : Parts → (bounds_text sizes_text : List ℕ) → Answer → Type 0
AnswersNeed l bounds_text sizes_text (Text text) = SaysNeed l bounds_text sizes_text text.items
AnswersNeed l bounds_text sizes_text (Ends ending) = EndsWithoutNeed l bounds_text sizes_text ending

-- a run of a bare image has one frame, and makes no object
abbrev pub bare_need : BareContent → Need
bare_need image = record { stack = image.max_locals + 5 + image.max_stack; heap = 0 }

-- the texts give bounds and lengths, and the line says the need; no word of memory is its image's
pub record SaysBareNeed (image : BareContent) (bounds_text sizes_text text : List ℕ) : Type 0 where
  pub given : Given
  pub is_given : IsGivenBy bounds_text sizes_text given
  pub says : text ≡ memory_line (bare_need image) 0

-- this refuses the texts, and the ending says it
pub record EndsWithoutTexts (bounds_text sizes_text : List ℕ) (ending : Ending) : Type 0 where
  pub refusal : MemoryRefusal
  pub is : IsBadText bounds_text sizes_text refusal
  pub says : ending ≡ memory_ending refusal

abbrev pub AnswersBareNeed : BareContent → (bounds_text sizes_text : List ℕ) → Answer → Type 0
AnswersBareNeed image bounds_text sizes_text (Text text) = SaysBareNeed image bounds_text sizes_text text.items
AnswersBareNeed image bounds_text sizes_text (Ends ending) = EndsWithoutTexts bounds_text sizes_text ending
