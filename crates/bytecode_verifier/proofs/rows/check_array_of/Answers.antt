use Rattle.std.proofs.Common.{◌≡◌, suc, arith}
use Rattle.std.proofs.lemmas.Result.{IfOk-weaker}
use Rattle.program_tables.specs.Tables.{kind_seen, base_kind}
use Rattle.bytecode_verifier.proofs.FindLemmas.{one_more}
use Rattle.bytecode_verifier.proofs.rows.check_array_of.Goals as goal

pub returns-in-Some : goal.returns-in-Some
returns-in-Some c = IfOk-weaker c.check_new_array.result _ _ (λ x p s ls.
    let more : c.in-Some.dimensions ≡ suc c.args.component.dimensions = omega (arith, c.in-Some.ensures) in
    p s (kind_seen c.args.component) (one_more c.in-Some.dimensions c.args.component.dimensions (base_kind c.args.component.base) more) ls) c.check_new_array.ensures.references
