use Rattle.std.proofs.Common.{◌≡◌, ◌++◌, ℕ, List}
use Rattle.std.specs.Prelude.{codes}
use Rattle.std.proofs.lemmas.Result.{err_from_is_err_and}
use Rattle.slot_table.specs.Parts.{IsClassText, IsMethodText, IsNameOf}
use Rattle.slot_table.proofs.NameLemmas.{on_bad, no_name, other_end, suffix_is, is_name, other_class, other_method}
use Rattle.slot_table.proofs.name.parts_of.Goals as goal

pub returns-in_default-clause-bad : goal.returns-in_default-clause-bad
returns-in_default-clause-bad c = no_name c.args.text.now c.in_default.ensures

pub returns-in_default-strip_suffix-clause-bad : goal.returns-in_default-strip_suffix-clause-bad
returns-in_default-strip_suffix-clause-bad c = other_end c.args.text.now c.in-Some.class.now c.in-Some.behind.now c.in-Some.ensures c.in_default-strip_suffix.ensures.cases

pub returns-in_err-class-clause-bad : goal.returns-in_err-class-clause-bad
returns-in_err-class-clause-bad c =
    let p = err_from_is_err_and c.from_residual.result c.from_residual.ensures.1 in
    rw (p.1, p.2)
    (on_bad c.in_err-class.field-0.0 ((name : List ℕ) → ¬ IsClassText c.in-Some.class.now name) ((class : List ℕ) (method : List ℕ) → ¬ IsNameOf c.args.text.now class method)
    (other_class c.args.text.now c.in-Some.class.now c.in-Some.behind.now c.in-Some.ensures) c.in_err-class.ensures.bad)

pub returns-in_err-name-clause-bad : goal.returns-in_err-name-clause-bad
returns-in_err-name-clause-bad c =
    let p = err_from_is_err_and c.from_residual-in_err-name.result c.from_residual-in_err-name.ensures.1 in
    let end : c.in-Some.behind.now ≡ c.in-Some-strip_suffix.method.now ++ codes "()V" = suffix_is c.in-Some.behind.now c.in-Some-strip_suffix.method.now c.in-Some-strip_suffix.ensures.cases.0 c.in-Some-strip_suffix.ensures.cases.1 in
    rw (p.1, p.2)
    (on_bad c.in_err-name.field-0.0 ((name : List ℕ) → ¬ IsMethodText c.in-Some-strip_suffix.method.now name) ((class : List ℕ) (method : List ℕ) → ¬ IsNameOf c.args.text.now class method)
    (other_method c.args.text.now c.in-Some.class.now c.in-Some.behind.now c.in-Some-strip_suffix.method.now c.in-Some.ensures end) c.in_err-name.ensures.bad)

pub returns-clause-named : goal.returns-clause-named
returns-clause-named c =
    let end : c.in-Some.behind.now ≡ c.in-Some-strip_suffix.method.now ++ codes "()V" = suffix_is c.in-Some.behind.now c.in-Some-strip_suffix.method.now c.in-Some-strip_suffix.ensures.cases.0 c.in-Some-strip_suffix.ensures.cases.1 in
    is_name c.args.text.now c.in-Some.class.now c.in-Some.behind.now c.in-Some-strip_suffix.method.now c.in_ok-class.class c.in_ok-name.name c.in-Some.ensures end c.in_ok-class.ensures.named c.in_ok-name.ensures.named
