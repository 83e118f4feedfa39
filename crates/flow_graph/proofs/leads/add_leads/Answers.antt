use Rattle.std.proofs.Common.{◌≡◌, ◌+◌, true, refl, subst, arith}
use Rattle.std.proofs.lemmas.Result.{on_ok_weaker}
use Rattle.opcodes.specs.declared.instruction.Instr.{Instr}
use Rattle.opcodes.specs.declared.table.Kind.{Kind}
use Rattle.opcodes.specs.Row as opcodes
use Rattle.opcodes.specs.Target.{targets_of}
use Rattle.flow_graph.specs.Edges.{InstructionLeads, IsEdgeFrom}
use Rattle.flow_graph.specs.Growing.{Grows}
use Rattle.flow_graph.specs.Naming.{IsNextBy, goes_on}
use Rattle.flow_graph.proofs.Joining.{same_instr}
use Rattle.flow_graph.proofs.Leading.{kind_then, named_leads, next_leads}
use Rattle.flow_graph.proofs.leads.add_leads.Goals as goal

pub add_targets-requires-clause-targets : goal.add_targets-requires-clause-targets
add_targets-requires-clause-targets c = λ goes q has.
    let code = c.args.code.now in
    let p = c.args.pc in
    let i = c.args.instr.now in
    let kind = (opcodes.row_of i.op).kind in
    let s = c.requires.stays in
    let P : Instr → Type 0 = λ x. InstructionLeads code p x q in
    let start = s.leads q (subst P (same_instr code p i s.instr c.requires.is s.is) (named_leads kind (targets_of code p i) (p + i.length) q (goes, has))) in
    let below = (c.starts_follow_one_another.ensures code).within_code q start in
    let short = c.requires.short in
    omega arith

pub add_next-requires-clause-next : goal.add_next-requires-clause-next
add_next-requires-clause-next c = λ goes.
    let code = c.args.code.now in
    let p = c.args.pc in
    let i = c.args.instr.now in
    let kind = (opcodes.row_of i.op).kind in
    let next = p + i.length in
    let s = c.requires.stays in
    let P : Instr → Type 0 = λ x. InstructionLeads code p x next in
    let G : Kind → Type 0 = λ k. goes_on k ≡ true in
    let start = s.leads next (subst P (same_instr code p i s.instr c.requires.is s.is) (next_leads kind (targets_of code p i) next next (subst G c.kind.ensures goes, refl))) in
    let below = (c.starts_follow_one_another.ensures code).within_code next start in
    let short = c.requires.short in
    omega arith

pub returns : goal.returns
returns c =
    let code = c.args.code.now in
    let p = c.args.pc in
    let i = c.args.instr.now in
    let kind = (opcodes.row_of i.op).kind in
    let next = p + i.length in
    let mid = c.add_targets.new.edges.items in
    let new' = c.add_next.new.edges.items in
    let K : Kind → Type 0 = λ k. Grows mid new' (IsEdgeFrom p (IsNextBy k next)) in
    on_ok_weaker c.add_next.result (λ d. kind_then c.args.edges.now.items mid new' p kind (targets_of code p i) next c.in_ok-add_targets.ensures (subst K c.kind.ensures d)) c.add_next.ensures
