-- What is answered of a method whose bound is asked for: what is printed of it where nothing forbids that, which a certificate says too, and else the
-- first cause that does.
use Rattle.std.specs.Prelude.{ℕ, List, Some, None}
use Rattle.bytecode_model.specs.Program.{Program}
use Rattle.method_flow.specs.Keeping.{BoundOf}
use Rattle.method_flow.specs.Recursion.{IsRecursion}
use Rattle.method_flow.specs.declared.timing.Timing.{Timing}
use Rattle.answer_lines.specs.declared.bound.BoundCause.{BoundCause}
use Rattle.answer_lines.specs.declared.bound.BoundCause.TheVariants.{NoMethod, Recursion, Irreducible, MissingBound, TooLarge}
use Rattle.bound_rules.specs.Bounding.{HasNoRecursion, AreReducible, HaveLines, HasNoCause, IsFirstIrreducible, IsFirstLacking, IsFirstTooLarge}
use Rattle.bound_rules.specs.Numbers.{IsPrinted}
use Rattle.bound_finder.specs.Certified.{IsCertified}
use Rattle.method_bounds.specs.declared.answer.BoundAnswer.{BoundAnswer}
use Rattle.method_bounds.specs.declared.answer.BoundAnswer.TheVariants.{Cycles, Never, Refused}

-- the cause stands against a bound of the method, and none that is tried before it does
abbrev pub IsCauseFor : Program → Timing → BoundOf → (method : ℕ) → BoundCause → Type 0
IsCauseFor P t bound_of m NoMethod = ⊥
IsCauseFor P t bound_of m Recursion = (cycle : List ℕ) × IsRecursion P m cycle
IsCauseFor P t bound_of m (Irreducible x) = HasNoRecursion P m × ((nodes : List ℕ) × IsFirstIrreducible P m x nodes)
IsCauseFor P t bound_of m (MissingBound x p) = HasNoRecursion P m × AreReducible P m × IsFirstLacking P bound_of m x p
IsCauseFor P t bound_of m (TooLarge x) = HasNoRecursion P m × AreReducible P m × HaveLines P bound_of m × IsFirstTooLarge P t bound_of m x

abbrev pub IsBoundAnswer : Program → Timing → BoundOf → (method : ℕ) → BoundAnswer → Type 0
IsBoundAnswer P t bound_of m (Cycles n) = HasNoCause P t bound_of m × IsPrinted P t bound_of m (Some n) × IsCertified P t bound_of m (Some n)
IsBoundAnswer P t bound_of m Never = HasNoCause P t bound_of m × IsPrinted P t bound_of m None × IsCertified P t bound_of m None
IsBoundAnswer P t bound_of m (Refused cause) = IsCauseFor P t bound_of m cause
