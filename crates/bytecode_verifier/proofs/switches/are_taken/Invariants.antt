use Rattle.std.proofs.Common.{◌≡◌, drop}
use Rattle.std.specs.List.{list_all}
use Rattle.opcodes.specs.Target.{cases_of}
use Rattle.verifier_types.specs.Frame.{frame_seen}
use Rattle.verifier_types.specs.Locals.{lists_seen}
use Rattle.bytecode_verifier.specs.Switched.{is_case_taken}
use Rattle.bytecode_verifier.proofs.switches.are_taken.Given as goal

abbrev pub invariant-loop-index : goal.invariant-loop-index
invariant-loop-index l =
    let t = l.initial.lists in
    (l.lists ≡ t)
    × (list_all (is_case_taken t l.maps l.place (frame_seen (lists_seen t) l.frame)) (drop l.index (cases_of l.code l.instr)) ≡ list_all (is_case_taken t l.maps l.place (frame_seen (lists_seen t) l.frame)) (cases_of l.code l.instr))
