-- What the table says of the loops of methods stands against a bound of the method that they run for, or nothing in their loops does.
use Rattle.std.proofs.Common.{◌≡◌, ℕ, ◌<◌, List, [], length, get_or, Option, Some, None, refl, subst, inl, inr}
use Rattle.std.specs.Prelude.{slice_get}
use Rattle.std.proofs.lemmas.Option.{slice_get-get_or}
use Rattle.bound_texts.specs.Loops.Bounds.{LoopBound}
use Rattle.bytecode_model.specs.Program.{Program}
use Rattle.method_flow.specs.Flow.{Flow, IsFlowOf}
use Rattle.method_flow.specs.Keeping.{BoundOf}
use Rattle.method_flow.specs.Regions.{IsWithin}
use Rattle.method_flow.specs.declared.timing.Timing.{Timing}
use Rattle.node_costs.specs.Costs.{bounds_of}
use Rattle.answer_lines.specs.declared.bound.BoundCause.{BoundCause}
use Rattle.answer_lines.specs.declared.bound.BoundCause.TheVariants as causes
use Rattle.bound_rules.specs.Bounding.{HasNoRecursion, IsLeftWith, AreReducible, LacksLine, HaveLines}
use Rattle.bound_causes.specs.Headers.{HeadsUnbounded}
use Rattle.bound_causes.specs.Causes.{IsUnboundedIn}
use Rattle.method_bounds.specs.declared.loops.Loops.{Loops}
use Rattle.method_bounds.specs.declared.loops.Loops.TheVariants.{Bounded, Lacking, Irreducible}
use Rattle.method_bounds.specs.Answers.{IsCauseFor}
use Rattle.method_bounds.specs.Loops.{AreLoops, AreLoopsOf, AreSingle, IsLacking, IsIrreducible, IsLoopCauseIn}

-- among fewer methods there is no cause either
pub no_cause_below : (loops : List Loops) (K L : ℕ → Type 0) → ((x : ℕ) → L x → K x) → IsLoopCauseIn loops K None → (cause : Option BoundCause) → IsLoopCauseIn loops L cause → cause ≡ None
no_cause_below loops K L part none None h = refl
no_cause_below loops K L part none (Some causes.NoMethod) h = absurd h
no_cause_below loops K L part none (Some causes.Recursion) h = absurd h
no_cause_below loops K L part none (Some (causes.Irreducible m)) h = absurd (none.0 m (part m h.0.0, h.0.1))
no_cause_below loops K L part none (Some (causes.MissingBound m p)) h = let least = h.1 in absurd (none.1 m (part m least.0.0, least.0.1))
no_cause_below loops K L part none (Some (causes.TooLarge m)) h = absurd h

unbounded_of : (P : Program) (bound_of : BoundOf) (root m p : ℕ) → LacksLine P bound_of root m p → HeadsUnbounded P bound_of m p
unbounded_of P bound_of root m p l = record { heads = record { graph = l.graph; is_graph = l.is_graph; header = l.header }; none = l.none }

module _ (f : Flow) (bounds : List LoopBound) (loops : List Loops) (of_table : AreLoopsOf f bounds loops) (P : Program) (is : IsFlowOf P f) (root : ℕ) (known : (m : ℕ) → IsWithin P root m → m < length loops) where
  abbrev bound_of : BoundOf
  bound_of = bounds_of f bounds

  at : (m : ℕ) → IsWithin P root m → (x : Loops) × (slice_get loops m ≡ Some x) × AreLoops P bound_of m x
  at m within =
      let x = get_or loops m Bounded in
      let here = slice_get-get_or loops m Bounded (known m within) in
      (x, here, of_table m x here P is)

  -- where none of its loops has several entries
  single_loops : (m : ℕ) (x : Loops) → slice_get loops m ≡ Some x → AreLoops P bound_of m x → (IsIrreducible loops m → ⊥) → IsLeftWith P m []
  single_loops m Bounded here are single = are.0
  single_loops m (Lacking p) here are single = are.0
  single_loops m Irreducible here are single = absurd (single here)

  single_at : (m : ℕ) → IsWithin P root m → (IsIrreducible loops m → ⊥) → IsLeftWith P m []
  single_at m within single = let x = at m within in single_loops m x.0 x.1 x.2 single

  -- where one has no bound
  lacking : (m p : ℕ) (x : Loops) → slice_get loops m ≡ Some x → AreLoops P bound_of m x → (IsIrreducible loops m → ⊥) → HeadsUnbounded P bound_of m p → IsLacking loops m
  lacking m p Bounded here are single heads = absurd (are.1 p heads)
  lacking m p (Lacking q) here are single heads = (q, here)
  lacking m p Irreducible here are single heads = absurd (single here)

  lacking_at : (m p : ℕ) → IsWithin P root m → (IsIrreducible loops m → ⊥) → HeadsUnbounded P bound_of m p → IsLacking loops m
  lacking_at m p within single heads = let x = at m within in lacking m p x.0 x.1 x.2 single heads

  pub all_reducible : AreSingle loops (IsWithin P root) → AreReducible P root
  all_reducible single m within = single_at m within (λ here. single m (within, here))

  pub all_lines : IsLoopCauseIn loops (IsWithin P root) None → HaveLines P bound_of root
  all_lines none m p l = none.1 m (l.within, lacking_at m p l.within (λ here. none.0 m (l.within, here)) (unbounded_of P bound_of root m p l))

  pub cause_is : HasNoRecursion P root → (t : Timing) (cause : BoundCause) → IsLoopCauseIn loops (IsWithin P root) (Some cause) → IsCauseFor P t bound_of root cause
  cause_is calls t causes.NoMethod h = absurd h
  cause_is calls t causes.Recursion h = absurd h
  cause_is calls t (causes.Irreducible m) h =
      let left = of_table m Irreducible h.0.1 P is in (
        calls,
        (
          left.0,
          record {
            within = h.0.0;
            left = left.1;
            some = left.2;
            first = λ x less within. single_at x within (λ here. h.1 x less (within, here));
          },
        ),
      )
  cause_is calls t (causes.MissingBound m p) h =
      let least = h.1 in
      let found : IsUnboundedIn P bound_of m (Some p) = of_table m (Lacking p) h.2 P is in
      let heads : HeadsUnbounded P bound_of m p = found.1.0 in (
        calls,
        all_reducible h.0,
        record {
          lacks = record {
            within = least.0.0;
            graph = heads.heads.graph;
            is_graph = heads.heads.is_graph;
            header = heads.heads.header;
            none = heads.none;
          };
          first = λ x q before l.
              let other = unbounded_of P bound_of root x q l in
              elim before [
                | inl less ↦ least.1 x less (l.within, lacking_at x q l.within (λ here. h.0 x (l.within, here)) other)
                | inr here ↦ (let H : ℕ → Type 0 = λ y. HeadsUnbounded P bound_of y q in found.1.1 q here.1 (subst H here.0 other))
              ];
        },
      )
  cause_is calls t (causes.TooLarge m) h = absurd h
