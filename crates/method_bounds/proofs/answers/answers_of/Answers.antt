use Rattle.std.proofs.Common.{◌≡◌, ℕ, List, length, map, Option, Some, sym, ap, ◌∙◌, subst, arith}
use Rattle.std.specs.Prelude.{slice_get}
use Rattle.std.specs.Vec.{with_items}
use Rattle.std.proofs.lemmas.List.{with_items_is}
use Rattle.bytecode_model.specs.Program.{Program}
use Rattle.method_flow.specs.Flow.{IsFlowOf}
use Rattle.node_costs.specs.Costs.{bounds_of}
use Rattle.answer_lines.specs.declared.bound.BoundCause.{BoundCause}
use Rattle.bound_finder.specs.declared.ending.MethodBound.{MethodBound}
use Rattle.method_bounds.specs.declared.answer.BoundAnswer.{BoundAnswer}
use Rattle.method_bounds.specs.Answers.{IsBoundAnswer}
use Rattle.method_bounds.specs.Answering.{refused_by, AreWritten}
use Rattle.method_bounds.proofs.Written.{answers_are}
use Rattle.method_bounds.proofs.answers.answers_of.Goals as goal

pub bounds_of_all-requires-clause-ready : goal.bounds_of_all-requires-clause-ready
bounds_of_all-requires-clause-ready c = λ P is. (c.requires.sorted.boundable P is).ready

pub returns-clause-each : goal.returns-clause-each
returns-clause-each c =
    let f = c.args.f.now in
    let b = c.args.b.now in
    let t = c.args.t in
    let order = c.args.sorted.now.order.methods in
    let causes = c.args.sorted.now.causes.items in
    let found = c.in_ok-bounds.bounds.items in
    let was = c.in_ok-answers.answers in
    let old = c.deref_mut.result.now in
    let new' = c.write_all.new.answers in
    let O : List ℕ → Type 0 = λ xs. AreWritten xs c.deref-2.result.now old new' in
    let F : List MethodBound → Type 0 = λ xs. AreWritten order xs old new' in
    let A : List BoundAnswer → Type 0 = λ xs. AreWritten order found xs new' in
    let G : List BoundAnswer → Type 0 = λ xs. (P : Program) → IsFlowOf P f → (m : ℕ) (x : BoundAnswer) → slice_get xs m ≡ Some x → IsBoundAnswer P t (bounds_of f b) m x in
    let refused : old ≡ map refused_by causes = c.deref_mut.ensures.value ∙ (c.in_ok-answers.ensures ∙ ap (λ (cs : List (Option BoundCause)). map refused_by cs) c.deref.ensures.value) in
    let written = subst A refused (subst F c.deref-2.ensures.value (subst O c.as_slice.ensures c.write_all.ensures)) in
    let ok = was.ok in
    let items : (with_items was new').items ≡ new' = with_items_is was new' (omega (arith, ok.0, ap length c.deref_mut.ensures.value, c.write_all.ensures.long)) in
    subst G (sym items) (answers_are f b t order causes found new' c.requires.sorted c.in_ok-bounds.ensures.bounds written)
