-- Numbers of methods exist.
use Rattle.std.proofs.Common.{◌≡◌, ℕ, length, Option, Some, None, IsSome, refl}
use Rattle.bytecode_model.specs.Program.{Program, body_of}
use Rattle.bytecode_typing.specs.Typed.{Typing, Typed}
use Rattle.bytecode_typing.specs.Lawful.{Lawful}
use Rattle.method_flow.specs.Keeping.{BoundOf}
use Rattle.method_flow.specs.Regions.{IsWithin}
use Rattle.method_flow.specs.declared.timing.Timing.{Timing}
use Rattle.method_runs.specs.TypedGraphs.Laws.{LiveGraphsExist, TypedMethodsReachStarts}
use Rattle.std.proofs.lemmas.Bool.{false≢true}
use Rattle.lists.proofs.Lemmas.{some_in}
use Rattle.opcodes.specs.Start.{IsStart}
use Rattle.bound_rules.specs.Bounding.{HasNoRecursion, AreReducible, HaveLines}
use Rattle.bound_rules.specs.Laws.{MethodsHaveCode}
use Rattle.bound_rules.specs.Numbers.{Numbers, AreNumbers}
use Rattle.bound_laws.specs.Walking.{GreatestWalksExist}
use Rattle.bound_laws.specs.Existing.{HaveOwnCosts, CallsEndWithoutRecursion, NumbersExist}
use Rattle.bound_laws.proofs.Calls.{calls_end, coded_below}
use Rattle.bound_laws.proofs.Living.{reached_whole}
use Rattle.bound_laws.proofs.Flows.{GraphLaws}
use Rattle.bound_laws.proofs.Numbers.{IsGround}
use Rattle.bound_laws.proofs.Families.{family_exists}

-- a value that is there
there : {X : Type 0} (o : Option X) → IsSome o → (x : X) × (o ≡ Some x)
there None h = absurd (false≢true h)
there (Some x) h = (x, refl)

pub calls_end_without_recursion : MethodsHaveCode → CallsEndWithoutRecursion
calls_end_without_recursion have_code P root lawful coded none =
    calls_end P root (length P.methods) none (λ x within. coded_below P x (have_code P lawful root x coded within))

module _ (laws : GraphLaws) (greatest : GreatestWalksExist) (have_code : MethodsHaveCode) (live : LiveGraphsExist) (reach : TypedMethodsReachStarts) (P : Program) (types : Typing) (t : Timing) (bound_of : BoundOf) (root : ℕ) (typed : Typed P types)
    (lawful : Lawful P) (costs : HaveOwnCosts P t) (coded : IsSome (body_of P root)) (none : HasNoRecursion P root) (reducible : AreReducible P root) (lines : HaveLines P bound_of root) where
  ground : (m : ℕ) → IsWithin P root m → IsGround P t bound_of m
  ground m within =
      let b = there (body_of P m) (have_code P lawful root m coded within) in
      let left = reducible m within in
      record {
        left = left;
        lines = λ p header none'. lines m p (record { within = within; graph = left.graph; is_graph = left.is_graph; header = header; none = none' });
        graphs = live P types typed m b.0 b.1;
        own = λ u reached. costs m (have_code P lawful root m coded within) u (reached_whole reached);
        starts = λ p reached. some_in (body_of P m) b.0 (λ c. IsStart c.code p) b.1 (reach P types typed m b.0 b.1 p reached);
      }

  pub numbers : ((N : Numbers) × AreNumbers P t bound_of root N → ⊥) → ⊥
  numbers missing =
      family_exists laws greatest P t bound_of root (length P.methods) (calls_end_without_recursion have_code P root lawful coded none) (λ x within. coded_below P x (have_code P lawful root x coded within)) ground missing

pub numbers_exist : GraphLaws → GreatestWalksExist → MethodsHaveCode → LiveGraphsExist → TypedMethodsReachStarts → NumbersExist
numbers_exist laws greatest have_code live reach P types t bound_of root typed lawful costs coded none reducible lines missing =
    numbers laws greatest have_code live reach P types t bound_of root typed lawful costs coded none reducible lines missing
