use Rattle.std.proofs.Common.{◌≡◌, ℕ, ◌+◌, ◌≤◌, List, length, refl, subst, sym, ◌∙◌, ap, inr, arith}
use Rattle.std.specs.Prelude.{sum_by, Vec}
use Rattle.std.specs.declared.alloc.Global.{Global}
use Rattle.outside.specs.Outside.{IsWhole}
use Rattle.outside.specs.Files.{contents, files_told, most_bytes}
use Rattle.command_line.specs.Command.{texts}
use Rattle.endings.proofs.Texts.{within_all}
use Rattle.ask_commands.specs.PricedFiles.{AnswersWith}
use Rattle.ask_commands.proofs.priced_files.ask_files_with.Goals as goal

pub answer_operands_with-requires-clause-short : goal.answer_operands_with-requires-clause-short
answer_operands_with-requires-clause-short g c k d below =
    let few = c.in-Ok.ensures.files.few in
    let Q : List (Vec ℕ Global) → Type 0 = λ files. sum_by length (contents files) ≤ 16777216 in
    let together = subst Q (sym c.deref-in-Ok-read_facts_file.ensures.value) few in
    let one = within_all c.deref-in-Ok-read_facts_file.result.now k d below in
    omega (arith, together, one)

pub returns-in-Ok-read_facts_file-clause-asks : goal.returns-in-Ok-read_facts_file-clause-asks
returns-in-Ok-read_facts_file-clause-asks g c left read_faults watch =
    let read = c.in-Ok.operands.items in
    let facts = c.in-Ok-read_facts_file.facts.items in
    let between = files_told (g.F.Files.words c.read_operands.new.files) (g.F.Files.told c.read_operands.new.files) (g.F.Files.faults c.read_operands.new.files) in
    let T : List (Vec ℕ Global) → List ℕ → Type 0 = λ files text. AnswersWith (texts c.args.words.now) c.args.asked.now.question (contents files) text c.answer_operands_with.result in
    let of_files = subst (λ files. T files c.deref-in-Ok-read_facts_file-2.result.now) c.deref-in-Ok-read_facts_file.ensures.value c.answer_operands_with.ensures in
    let many : c.bytes_of.result ≡ sum_by length (contents read) = c.bytes_of.ensures ∙ ap (λ (files : List (Vec ℕ Global)). sum_by length (contents files)) c.deref.ensures.value in
    inr (inr (record {
      operands = contents read;
      facts = facts;
      reads = record { between = between; only = c.in-Ok.ensures.rest; are = c.in-Ok.ensures.files; then = c.read_facts_file.ensures.rest };
      facts_are = subst (λ told. IsWhole told facts) (c.in-Ok.ensures.rest.contents c.args.asked.now.facts) c.in-Ok-read_facts_file.ensures.text;
      few = subst (λ (n : ℕ). n + length facts ≤ most_bytes) many c.in-Ok-read_facts_file.ensures.within;
      answer = c.answer_operands_with.result;
      answers = subst (λ text. T read text) c.deref-in-Ok-read_facts_file-2.ensures.value of_files;
      puts = c.put_answer.ensures.puts;
      watch = refl;
      input = record { left = refl; read_faults = refl };
    }))
