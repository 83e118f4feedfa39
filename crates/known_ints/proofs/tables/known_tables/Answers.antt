use Rattle.std.proofs.Common.{◌≡◌, ℕ}
use Rattle.std.proofs.lemmas.Result.{IfOk-weaker}
use Rattle.bytecode_model.specs.Program.{Program}
use Rattle.method_flow.specs.Flow.{IsFlowOf}
use Rattle.loop_rules.specs.Sites.{AreIntSites, constants_in}
use Rattle.loop_rules.specs.Further.Known.{Known}
use Rattle.loop_rules.specs.Further.Arrays.{AreApart, AreMethodArrays, AreTables}
use Rattle.known_ints.specs.Tables.{AreTold}
use Rattle.known_ints.proofs.Tabling.{told_of}
use Rattle.known_ints.proofs.tables.known_tables.Goals as goal

pub returns : goal.returns
returns c =
    let f = c.args.f.now in
    let s = c.args.s.now in
    let xss = c.args.arrays.now in
    IfOk-weaker c.tables_by.result (λ tables. (P : Program) (known : Known) → AreTold P known f s xss → AreTables P known tables.items)
    (λ tables.
    (P : Program) (known : Known) → IsFlowOf P f → AreIntSites P s → ((field : ℕ) → known.constants field ≡ constants_in s field) → AreApart known → AreMethodArrays P known xss
    → AreTables P known tables.items)
    (λ tables h P known flow sites constants apart arrays.
    h P known (record { flow = flow; sites = sites; constants = constants; apart = apart; arrays = told_of P known f flow xss arrays })) c.tables_by.ensures
