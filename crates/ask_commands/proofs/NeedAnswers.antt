-- The answers to `loops` and `memory`.
use Rattle.std.proofs.Common.{◌≡◌, ℕ, List, length, ◌∙◌, ap}
use Rattle.std.specs.Prelude.{Result, Ok, Err, IfOk, Vec}
use Rattle.std.specs.declared.alloc.Global.{Global}
use Rattle.base.specs.declared.no_memory.NoMemory.{NoMemory as Lacking}
use Rattle.image_file.specs.Bare.{BareContent}
use Rattle.memory_rules.specs.declared.needs.Need.{Need}
use Rattle.answer_lines.specs.MemoryLines.{memory_line}
use Rattle.analysis_commands.specs.declared.memory.Given.{Given}
use Rattle.analysis_commands.specs.declared.memory.MemoryRefusal.TheVariants as refusals
use Rattle.analysis_commands.specs.Memory.{IsNeed, IsGivenBy}
use Rattle.jopizer.specs.Linked.{Parts}
use Rattle.endings.specs.declared.outcome.Answer.{Answer}
use Rattle.endings.specs.declared.outcome.Answer.TheVariants.{Text, Ends}
use Rattle.ask_commands.specs.Needs.{IsLineAnswer, bare_need, AnswersNeed, AnswersBareNeed}

pub line_says : (l : Parts) (bounds_text sizes_text : List ℕ) (need : Need) (words : ℕ) (line : Result (Vec ℕ Global) Lacking) (answer : Answer) → IsNeed l.classes bounds_text sizes_text need → words ≡ length l.laid.words
    → IfOk line (λ text. text.items ≡ memory_line need words) → IsLineAnswer line answer → AnswersNeed l bounds_text sizes_text answer
line_says l bounds_text sizes_text need words (Ok line) (Text text) is same made answers = record { need = need; is = is; says = answers ∙ (made ∙ ap (memory_line need) same) }
line_says l bounds_text sizes_text need words (Ok line) (Ends ending) is same made answers = absurd answers
line_says l bounds_text sizes_text need words (Err lacking) (Text text) is same made answers = absurd answers
line_says l bounds_text sizes_text need words (Err lacking) (Ends ending) is same made answers = record { refusal = refusals.NoMemory; is = tt; says = answers }

pub bare_line_says : (image : BareContent) (bounds_text sizes_text : List ℕ) (given : Given) (need : Need) (line : Result (Vec ℕ Global) Lacking) (answer : Answer) → IsGivenBy bounds_text sizes_text given → need ≡ bare_need image
    → IfOk line (λ text. text.items ≡ memory_line need 0) → IsLineAnswer line answer → AnswersBareNeed image bounds_text sizes_text answer
bare_line_says image bounds_text sizes_text given need (Ok line) (Text text) is same made answers =
    record { given = given; is_given = is; says = answers ∙ (made ∙ ap (λ (n : Need). memory_line n 0) same) }
bare_line_says image bounds_text sizes_text given need (Ok line) (Ends ending) is same made answers = absurd answers
bare_line_says image bounds_text sizes_text given need (Err lacking) (Text text) is same made answers = absurd answers
bare_line_says image bounds_text sizes_text given need (Err lacking) (Ends ending) is same made answers = record { refusal = refusals.NoMemory; is = tt; says = answers }
