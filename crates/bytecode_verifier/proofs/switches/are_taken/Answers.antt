use Rattle.std.proofs.Common.{sym, ap, ◌∙◌, arith}
use Rattle.opcodes.specs.Target.{cases_of}
use Rattle.verifier_types.specs.Frame.{frame_seen}
use Rattle.verifier_types.specs.Locals.{LocalTable, lists_seen}
use Rattle.bytecode_verifier.specs.Switched.{is_case_taken}
use Rattle.bytecode_verifier.proofs.SwitchLemmas.{case_fails, case_holds, no_case_left, cases_within}
use Rattle.bytecode_verifier.proofs.switches.are_taken.Goals as goal

pub returns-then-not-leads-clause-taken : goal.returns-then-not-leads-clause-taken
returns-then-not-leads-clause-taken c =
    let t = c.args.lists.now in
    let same = ap (λ (u : LocalTable). is_case_taken u c.args.maps.now c.args.place (frame_seen (lists_seen u) c.args.frame.now) c.case.result) c.loop-index.invariant.0 in
    sym (sym c.loop-index.invariant.1
    ∙ case_fails (is_case_taken t c.args.maps.now c.args.place (frame_seen (lists_seen t) c.args.frame.now)) (cases_of c.args.code.now c.args.instr.now) c.loop-index.index c.case.result c.case.ensures (sym (c.leads.ensures.taken ∙ same) ∙ c.if-not-leads.true))

pub returns-then-not-leads-clause-kept : goal.returns-then-not-leads-clause-kept
returns-then-not-leads-clause-kept c = c.leads.ensures.kept ∙ c.loop-index.invariant.0

pub loop-index-preserved : goal.loop-index-preserved
loop-index-preserved c =
    let t = c.args.lists.now in
    let same = ap (λ (u : LocalTable). is_case_taken u c.args.maps.now c.args.place (frame_seen (lists_seen u) c.args.frame.now) c.case.result) c.loop-index.invariant.0 in (
      c.leads.ensures.kept ∙ c.loop-index.invariant.0,
      case_holds (is_case_taken t c.args.maps.now c.args.place (frame_seen (lists_seen t) c.args.frame.now)) (cases_of c.args.code.now c.args.instr.now) c.loop-index.index c.case.result c.case.ensures (sym (c.leads.ensures.taken ∙ same) ∙ c.if-not-leads.false)
          ∙ c.loop-index.invariant.1,
    )

pub returns-clause-taken : goal.returns-clause-taken
returns-clause-taken c =
    let t = c.args.lists.now in
    let end = c.loop-index-test.false in
    sym (sym c.loop-index.invariant.1
    ∙ no_case_left (is_case_taken t c.args.maps.now c.args.place (frame_seen (lists_seen t) c.args.frame.now)) (cases_of c.args.code.now c.args.instr.now) c.loop-index.index (omega (arith, end, cases_within c.args.code.now c.args.instr.now)))
