-- The order of all that may run while a root does, targets first, is one for which all is ready.
use Rattle.std.proofs.Common.{ℕ, List}
use Rattle.bytecode_model.specs.Program.{Program}
use Rattle.method_flow.specs.Keeping.{BoundOf}
use Rattle.method_flow.specs.Regions.{IsWithin}
use Rattle.method_flow.specs.Regions.IsWithin.{itself, calls}
use Rattle.bound_finder.specs.Ready.{AreReady, IsReadyOrder}

-- what may run while a method within does is within
pub within_all : (P : Program) (m x y : ℕ) → IsWithin P m x → IsWithin P x y → IsWithin P m y
within_all P m x y (itself {m = z}) rest = rest
within_all P m x y (calls {m = a} {t = t} {x = b} p start invoke target within) rest = calls p start invoke target (within_all P t b y within rest)

pub are_ready : (P : Program) (bound_of : BoundOf) (root : ℕ) (order : List ℕ) → IsReadyOrder P bound_of root order → AreReady P bound_of order
are_ready P bound_of root order ready = record {
  behind = ready.order.first;
  reducible = λ m has x within. ready.reducible x (within_all P root m x ((ready.order.methods.each m).0 has) within);
  lines = λ m has x p lacks.
      ready.lines x p (record {
        within = within_all P root m x ((ready.order.methods.each m).0 has) lacks.within;
        graph = lacks.graph;
        is_graph = lacks.is_graph;
        header = lacks.header;
        none = lacks.none;
      });
}
