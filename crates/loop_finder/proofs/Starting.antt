-- What is stored before a loop by acts and numbers of nodes is what the loop rules say of it.
use Rattle.std.proofs.Common.{◌≡◌, ◌↔◌, ℕ, ◌*◌, ℤ, List, [], ◌∷◌, Contains, sym, ◌∙◌, subst, inl, inr}
use Rattle.lists.specs.Members.{cons_cases, nil_contains}
use Rattle.bytecode_model.specs.Program.{Program}
use Rattle.bytecode_model.specs.Rows as rows
use Rattle.bytecode_model.specs.Types.{IntType, Numbers}
use Rattle.loop_nest.specs.Digraph.{Digraph}
use Rattle.loop_nest.specs.Walks.{IsEntering}
use Rattle.method_flow.specs.Nodes.{number_of}
use Rattle.code_lines.specs.Lines.{IsLine}
use Rattle.code_lines.specs.Laws.{LinesAreOne, OneIsPushedBefore}
use Rattle.loop_rules.specs.Tests.{Constants}
use Rattle.loop_rules.specs.Iterations.{IsSetBefore}
use Rattle.loop_acts.specs.Rules.{Rules, plain}
use Rattle.loop_acts.specs.declared.effects.Act.{Act}
use Rattle.loop_acts.specs.Acts.{written, AreActs}
use Rattle.loop_finder.specs.Setting.{IsSetTo}
use Rattle.loop_finder.proofs.Meeting.{node_with, last_found, last_is, last_writes, store_is, stored_is}

module _ (P : Program) (constants : Constants) (m : ℕ) (acts : List Act) (one : LinesAreOne) (one_int : OneIsPushedBefore) (are : AreActs P (plain P constants) m acts) where
  abbrev rules : Rules
  rules = plain P constants

  module _ (g : Digraph) (h k : ℕ) (c : ℤ) where
    pub set_found : IsSetBefore P m g h k c → IsSetTo acts g h k c
    set_found b = record {
      source = number_of b.source;
      entry = record { enters = b.enters; alone = b.alone };
      place = b.place;
      last = last_found P rules m acts one are g k b.last;
      stored = k;
      store = store_is P rules m acts one are (one_int P m) b.place b.next k c b.store b.pushed;
    }

    pub set_is : IsSetTo acts g h k c → IsSetBefore P m g h k c
    set_is s =
        let n = node_with s.source in
        let row = stored_is P rules m acts one are s.place s.stored c s.store in
        let wrote : Contains (s.stored ∷ []) k = subst (λ (a : Act). Contains (written a) k) s.store (last_writes P rules m acts one are g k s.last) in
        let local : s.stored ≡ k = elim (cons_cases s.stored k [] wrote) [ inl same ↦ same | inr none ↦ absurd (nil_contains k none) ] in
        record {
          source = n.0;
          enters = subst (λ (z : ℕ). IsEntering g h z h) (sym n.1) s.entry.enters;
          alone = λ other e. s.entry.alone other e ∙ sym n.1;
          place = s.place;
          last = last_is P rules m acts one are g k s.last n.0 n.1;
          next = row.0.0;
          store = subst (λ (i : ℕ). IsLine P m s.place row.0.0 (rows.Store (Numbers IntType) i)) local row.0.1;
          pushed = row.1;
        }

  -- both ways
  pub set_as : (g : Digraph) (h k : ℕ) (c : ℤ) → IsSetBefore P m g (2 * h) k c ↔ IsSetTo acts g (2 * h) k c
  set_as g h k c = (set_found g (2 * h) k c, set_is g (2 * h) k c)
