-- Nodes that write a local variable, by acts and as the method has them.
use Rattle.std.proofs.Common.{◌↔◌, ℕ, List, Option, Some, None, IsTrue, MatchOption, refl, sym, subst}
use Rattle.std.proofs.lemmas.Bool.{false≢true}
use Rattle.std.specs.Option.{is_some}
use Rattle.bytecode_model.specs.Program.{Program}
use Rattle.method_flow.specs.Nodes.{Node, At, RaiseAt, number_of}
use Rattle.code_lines.specs.Lines.{Writes}
use Rattle.code_lines.specs.Laws.{LinesAreOne}
use Rattle.loop_rules.specs.Further.Writing.{NodeWrites}
use Rattle.loop_rules.specs.Further.Last.{StopsAtWritesAlone}
use Rattle.loop_acts.specs.declared.effects.Act.{Act}
use Rattle.loop_acts.specs.Acts.{AreActs}
use Rattle.loop_acts.specs.Writing.{IsWriterAt}
use Rattle.loop_acts.specs.Rules.{Rules}
use Rattle.loop_finder.proofs.LastWrites.{half}
use Rattle.loop_finder.proofs.Meeting.{odd_is_none, writes, writes_at}

-- it is told whether a writer that is looked for is there
pub writer_there : (acts : List Act) (u k : ℕ) (found : Option ℕ) → MatchOption found ((p : ℕ) → ¬ IsWriterAt acts u k p) (IsWriterAt acts u k)
    → IsTrue (is_some found) ↔ ((p : ℕ) × IsWriterAt acts u k p)
writer_there acts u k None none = (λ t. absurd (false≢true t), λ w. absurd (none w.0 w.1))
writer_there acts u k (Some p) is = (λ t. (p, is), λ w. refl)

module _ (P : Program) (rules : Rules) (m : ℕ) (acts : List Act) (one : LinesAreOne) (are : AreActs P rules m acts) (k : ℕ) where
  to : (u : Node) → (p : ℕ) × IsWriterAt acts (number_of u) k p → NodeWrites P m u k
  to (At p) w = subst (λ (q : ℕ). Writes P m q k) (sym (half p w.0 w.1.0)) (writes P rules m acts one are w.0 k w.1.1)
  to (RaiseAt p) w = absurd (odd_is_none p w.0 w.1.0)

  from : (u : Node) → NodeWrites P m u k → (p : ℕ) × IsWriterAt acts (number_of u) k p
  from (At p) w = (p, (refl, writes_at P rules m acts one are p k w))
  from (RaiseAt p) w = absurd w

  pub stops_at_writes : StopsAtWritesAlone P m k (λ x. (p : ℕ) × IsWriterAt acts x k p)
  stops_at_writes u = (to u, from u)
