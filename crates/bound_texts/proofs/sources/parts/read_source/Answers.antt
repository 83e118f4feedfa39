use Rattle.std.proofs.Common.{ℕ, List, length, sym, subst, arith}
use Rattle.std.specs.Prelude.{IfNone}
use Rattle.bound_texts.specs.Loops.Lines.{IsNumber}
use Rattle.bound_texts.specs.Sources.Grammar.{IsSource}
use Rattle.bound_texts.proofs.SourcesLemmas.SourceLemmas.{IsLast, source_last, source_line, front_length, rest_of}
use Rattle.bound_texts.proofs.sources.parts.read_source.Goals as goal

pub returns-in_err-colon-clause-none : goal.returns-in_err-colon-clause-none
returns-in_err-colon-clause-none c =
    subst (λ o. IfNone o ((file : List ℕ) (line : ℕ) → ¬ IsSource c.args.text.now file line)) (sym c.from_residual.ensures)
    (λ file line s. let last = source_last c.args.text.now file line s in c.in_err-colon.ensures.none (length file) last.within last.colon)

pub returns-then-colon-eq0-clause-none : goal.returns-then-colon-eq0-clause-none
returns-then-colon-eq0-clause-none c file line s =
    let f = c.in_ok-colon.ensures.found in
    let last : IsLast c.args.text.now c.in_ok-colon.colon = record { within = f.0; colon = f.1; none_behind = f.2 } in
    omega (arith, front_length c.args.text.now file line c.in_ok-colon.colon s last, s.named, c.if-colon-eq0.true)

pub returns-in_err-line-clause-none : goal.returns-in_err-line-clause-none
returns-in_err-line-clause-none c =
    let f = c.in_ok-colon.ensures.found in
    let last : IsLast c.args.text.now c.in_ok-colon.colon = record { within = f.0; colon = f.1; none_behind = f.2 } in
    subst (λ o. IfNone o ((file : List ℕ) (line : ℕ) → ¬ IsSource c.args.text.now file line)) (sym c.from_residual-in_err-line.ensures)
    (λ file line s. c.in_err-line.ensures.none line
    (subst (λ (t : List ℕ). IsNumber t line) (sym (rest_of c.args.text.now c.in_ok-colon.colon)) (source_line c.args.text.now file line c.in_ok-colon.colon s last)))
