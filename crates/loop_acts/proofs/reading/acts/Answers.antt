-- What is read off the code is so of the method.
use Rattle.std.proofs.Common.{◌≡◌, ℕ, map, sym, subst}
use Rattle.std.proofs.lemmas.Result.{IfOk-weaker}
use Rattle.bytecode_model.specs.Program.{Program}
use Rattle.method_flow.specs.Flow.{IsCodedOf}
use Rattle.loop_acts.specs.Acts.{AreActs}
use Rattle.loop_acts.specs.Rules.{Given, rules_by}
use Rattle.loop_acts.specs.Reading.{AreIntsBy, AreLinesOf, act_if}
use Rattle.loop_acts.proofs.ActLemmas.{acts_are}
use Rattle.loop_acts.proofs.Ints.{ints_are}
use Rattle.loop_acts.proofs.reading.acts.Goals as goal

pub returns : goal.returns
returns c =
    let lines = c.deref.result.now in
    let s = c.in_ok-scan.scan in
    let x = c.args.ints.now in
    let one = c.lines_follow_one_another.ensures.one in
    let before_one = c.one_stands_before.ensures.line in
    IfOk-weaker c.acts_by.result (λ acts. acts.items ≡ map (act_if lines s x) lines)
    (λ acts. (P : Program) (given : Given) (m : ℕ) → IsCodedOf P m c.args.method.now → AreIntsBy P m x given → AreActs P (rules_by P given) m acts.items)
    (λ acts is P given m of ints.
    let scanned = c.in_ok-scan.ensures P m of in
    subst (AreActs P (rules_by P given) m) (sym is)
    (acts_are P (rules_by P given) m lines s x one before_one (subst (AreLinesOf P m) (sym c.deref.ensures.value) (c.in_ok-lines.ensures P m of)) scanned
    (ints_are P given m s x one before_one scanned ints)))
    c.acts_by.ensures
