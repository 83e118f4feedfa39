use Rattle.std.specs.Prelude.{All}
use Rattle.certificates.specs.declared.lines.line.SectionKind.TheVariants.{Alone}
use Rattle.std.proofs.Common.{◌≡◌, ◌≢◌, ◌<◌, ◌^◌, List, None, refl, sym, subst, rules}
use Rattle.certificates.specs.Certificate.{Certificate, IsInGrammar}
use Rattle.bound_rules.specs.Conditions.{MeetsConditions}
use Rattle.bound_finder.specs.declared.known.Known.{Known}
use Rattle.bound_finder.specs.Known.{bounds_in, ForEach, known_at}
use Rattle.bound_finder.specs.Ending.{AreKnownWithin, IsPrintedSmall}
use Rattle.bound_finder.specs.Certified.{AreEmptyIfEndless}
use Rattle.bound_finder.proofs.Certifying.{root_known, in_grammar, meets, are_empty}
use Rattle.bound_finder.proofs.ending.certificate.Goals as goal

pub method_bound-requires-clause-known : goal.method_bound-requires-clause-known
method_bound-requires-clause-known c =
    let set = c.args.task.now in
    let root = c.args.root in
    let all = c.args.all in
    let K : List Known → Type 0 = λ tb. ForEach set (λ P. AreKnownWithin P set.timing (bounds_in set) tb all.least root) in
    subst K (sym c.deref.ensures.value) (root_known set root all c.requires.found c.requires.root)

pub returns-in-Printed-clause-grammar : goal.returns-in-Printed-clause-grammar
returns-in-Printed-clause-grammar c =
    let set = c.args.task.now in
    let root = c.args.root in
    let all = c.args.all in
    let bound = c.in-Printed.bound in
    let B : List Known → Type 0 = λ tb. (all.least ≡ None) × IsPrintedSmall set (known_at tb root).full bound in
    let by = subst B c.deref.ensures.value c.in-Printed.ensures.printed in
    let G : Certificate → Type 0 = λ x. IsInGrammar x × (x.version ≡ 2) × (x.root ≡ root) in
    let few : root < 2 ^ 32 = search rules in
    subst G (sym c.new.ensures) (in_grammar set root all c.requires.found bound by.0 by.1 few, refl, refl)

pub returns-in-Printed-clause-meets : goal.returns-in-Printed-clause-meets
returns-in-Printed-clause-meets c =
    λ P of.
    let set = c.args.task.now in
    let root = c.args.root in
    let all = c.args.all in
    let bound = c.in-Printed.bound in
    let B : List Known → Type 0 = λ tb. (all.least ≡ None) × IsPrintedSmall set (known_at tb root).full bound in
    let by = subst B c.deref.ensures.value c.in-Printed.ensures.printed in
    let M : Certificate → Type 0 = λ x. MeetsConditions P set.timing (bounds_in set) x in
    subst M (sym c.new.ensures) (meets set root all c.requires.found bound by.0 by.1 P of c.requires.root)

pub returns-in-Printed-clause-kinds : goal.returns-in-Printed-clause-kinds
returns-in-Printed-clause-kinds c =
    let K : Certificate → Type 0 = λ x. All (λ s. s.kind ≢ Alone) x.sections in
    subst K (sym c.new.ensures) c.requires.found.found.kinds

pub returns-in-Printed-clause-empty : goal.returns-in-Printed-clause-empty
returns-in-Printed-clause-empty c =
    λ P of.
    let set = c.args.task.now in
    let root = c.args.root in
    let all = c.args.all in
    let bound = c.in-Printed.bound in
    let B : List Known → Type 0 = λ tb. (all.least ≡ None) × IsPrintedSmall set (known_at tb root).full bound in
    let by = subst B c.deref.ensures.value c.in-Printed.ensures.printed in
    let E : Certificate → Type 0 = λ x. AreEmptyIfEndless P x.sections in
    subst E (sym c.new.ensures) (are_empty set root all c.requires.found bound by.0 by.1 P of)

pub returns-in-Printed-clause-kept : goal.returns-in-Printed-clause-kept
returns-in-Printed-clause-kept c = λ P of. (c.in-Printed.ensures.bound P of).1
