use Rattle.std.proofs.Common.{◌≡◌, ◌↔◌, ℕ, ◌<◌, List, sym, subst}
use Rattle.std.specs.Prelude.{IsSome}
use Rattle.bytecode_model.specs.Program.{body_of}
use Rattle.call_regions.proofs.Sorting.{if_ok}
use Rattle.method_bounds.specs.declared.answer.BoundAnswer.{BoundAnswer}
use Rattle.method_bounds.specs.Lines.{name_in, lines_from}
use Rattle.method_bounds.proofs.bound_lines.Goals as goal

pub returns : goal.returns
returns c =
    let f = c.args.f.now in
    let answers = c.in_ok-answers.answers.items in
    if_ok c.lines_of.result _ _
    (λ text is P flow.
    let A : List BoundAnswer → Type 0 = λ xs. text.items ≡ lines_from f.boot (name_in f) 0 xs in
    let B : ℕ → Type 0 = λ boot. text.items ≡ lines_from boot (name_in f) 0 answers in
    record {
      answers = answers;
      coded = λ m. (let C : ℕ → Type 0 = λ n. IsSome (body_of P m) ↔ (m < n) in subst C (sym c.in_ok-answers.ensures.long) (flow.coded m));
      each = c.in_ok-answers.ensures.each P flow;
      text_is = subst B flow.boot (subst A c.deref.ensures.value is);
    })
    c.lines_of.ensures
