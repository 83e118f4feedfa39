use Rattle.std.proofs.Common.{ℤ, List, [], Option, refl, subst}
use Rattle.std.proofs.lemmas.Result.{IfOk-weaker}
use Rattle.bytecode_model.specs.Program.{Program}
use Rattle.method_flow.specs.Flow.{IsFlowOf}
use Rattle.loop_rules.specs.Sites.{AreIntSites, constants_in}
use Rattle.loop_rules.specs.Further.Known.{Known}
use Rattle.loop_rules.specs.Further.Found.{only_constants}
use Rattle.loop_rules.specs.Further.Arrays.{AreArraysRead, AreTables}
use Rattle.known_ints.specs.Tables.{AreTold}
use Rattle.known_ints.proofs.Tabling.{none_told}
use Rattle.known_ints.proofs.tables.known_by_constants.Goals as goal

pub returns : goal.returns
returns c =
    let f = c.args.f.now in
    let s = c.args.s.now in
    let constants = constants_in s in
    IfOk-weaker c.tables_by.result (λ tables. (P : Program) (known : Known) → AreTold P known f s [] → AreTables P known tables.items)
    (λ tables. (P : Program) → IsFlowOf P f → AreIntSites P s → AreTables P (only_constants constants) tables.items)
    (λ tables h P flow sites.
    h P (only_constants constants)
    (record {
      flow = flow;
      sites = sites;
      constants = λ k. refl;
      apart = c.no_fields_are_read.ensures.apart constants;
      arrays = λ m lt.
          subst (λ (xs : List (Option ℤ)). AreArraysRead P (only_constants constants) m xs) (none_told m) (c.no_fields_are_read.ensures.read P constants m);
    }))
    c.tables_by.ensures
