use Rattle.std.proofs.Common.{ℕ, ◌≤◌, List, length, refl, subst, sym, inr, arith}
use Rattle.std.specs.Prelude.{sum_by, Vec}
use Rattle.std.specs.declared.alloc.Global.{Global}
use Rattle.outside.specs.Files.{contents}
use Rattle.command_line.specs.Command.{texts}
use Rattle.ask_commands.specs.Asking.{Answers}
use Rattle.endings.proofs.Texts.{within_all}
use Rattle.ask_commands.proofs.asking.ask_files.Goals as goal

pub answer_operands-requires-clause-short : goal.answer_operands-requires-clause-short
answer_operands-requires-clause-short g c k d below =
    let few = c.in-Ok.ensures.files.few in
    let Q : List (Vec ℕ Global) → Type 0 = λ files. sum_by length (contents files) ≤ 16777216 in
    let together = subst Q (sym c.deref.ensures.value) few in
    let one = within_all c.deref.result.now k d below in
    omega (arith, together, one)

pub returns-in-Ok-clause-asks : goal.returns-in-Ok-clause-asks
returns-in-Ok-clause-asks g c left read_faults watch =
    let T : List (Vec ℕ Global) → Type 0 = λ read. Answers (texts c.args.words.now) c.args.asked.now.question (contents read) c.answer_operands.result in
    inr (record {
      operands = contents c.in-Ok.operands.items;
      only = c.in-Ok.ensures.rest;
      are = c.in-Ok.ensures.files;
      answer = c.answer_operands.result;
      answers = subst T c.deref.ensures.value c.answer_operands.ensures;
      puts = c.put_answer.ensures.puts;
      watch = refl;
      input = record { left = refl; read_faults = refl };
    })
