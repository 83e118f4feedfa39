use Rattle.std.proofs.Common.{sym, subst}
use Rattle.std.specs.Prelude.{IfNone}
use Rattle.bound_texts.specs.Sources.Notes.{Note}
use Rattle.bound_texts.specs.Sources.Meaning.{IsSourceNote}
use Rattle.bound_texts.proofs.sources.line.source_note.Goals as goal

pub returns-in_err-bound-clause-none : goal.returns-in_err-bound-clause-none
returns-in_err-bound-clause-none c =
    subst (λ o. IfNone o ((n : Note) → ¬ IsSourceNote c.args.source.now c.args.bound.now n)) (sym c.from_residual-in_err-bound.ensures) (λ n h. c.in_err-bound.ensures.none n.bound h.1)
