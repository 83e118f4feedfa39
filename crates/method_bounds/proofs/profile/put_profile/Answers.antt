use Rattle.std.proofs.Common.{arith}
use Rattle.outside.specs.Growing.{Grew-trans}
use Rattle.answer_lines.proofs.Joined.{PutLine-err}
use Rattle.method_bounds.specs.Lines.{name_in}
use Rattle.method_bounds.proofs.Profiles.{named, more_lines, front_lines}
use Rattle.method_bounds.proofs.profile.put_profile.Goals as goal

pub loop-m-preserved : goal.loop-m-preserved
loop-m-preserved g c =
    let f = c.args.f.now in
    let name = named f c.loop-m.m c.method.result.now c.name.result.now c.method.ensures c.name.ensures in
    let line = more_lines (name_in f) c.loop-m.m c.name.result.now c.args.rows.now c.args.answers.now _ _ name (omega (arith, c.requires.rows)) (omega (arith, c.requires.answers)) in
    record {
      put = Grew-trans _ _ _ _ _ _ c.loop-m.invariant.put c.in_ok-put_row.ensures.put line;
      later = omega (arith, c.loop-m.invariant.later, c.in_ok-put_row.ensures.cause.later);
    }

pub returns-in_err-put_row-clause-put : goal.returns-in_err-put_row-clause-put
returns-in_err-put_row-clause-put g c =
    let f = c.args.f.now in
    let name = named f c.loop-m.m c.method.result.now c.name.result.now c.method.ensures c.name.ensures in
    let failed = c.in_err-put_row.ensures.put in
    let front = front_lines (name_in f) c.loop-m.m failed.0 c.name.result.now c.args.rows.now c.args.answers.now _ _ name (omega (arith, c.requires.rows)) (omega (arith, c.requires.answers)) failed.1 in
    PutLine-err _ _ _ c.from_residual.result c.from_residual.ensures.0 front.count front.part (Grew-trans _ _ _ _ _ _ c.loop-m.invariant.put failed.2 front.is)
