use Rattle.std.proofs.Common.{◌∷◌, [], ℕ, List, subst}
use Rattle.work_gen.specs.Work.{class_name}
use Rattle.endings.specs.Linking.{LinkFault}
use Rattle.run_commands.proofs.working.linked_file.Goals as goal

pub returns-clause-fault : goal.returns-clause-fault
returns-clause-fault c =
    let L : List ℕ → Type 0 = λ file. LinkFault (file ∷ []) class_name c.not_linked.result in
    subst L c.requires (c.not_linked.ensures class_name c.in-Err.ensures.refused)
