-- Two texts give one need or one cause of `memory`.
use Rattle.std.proofs.Common.{◌≡◌, ℕ, List, Some, refl, subst}
use Rattle.std.specs.Prelude.{Vec}
use Rattle.std.specs.declared.alloc.Global.{Global}
use Rattle.class_pool.specs.declared.class.ClassFile.{ClassFile}
use Rattle.program_tables.specs.Resolved.{resolved}
use Rattle.bytecode_model.specs.Program.{Program}
use Rattle.bound_texts.specs.declared.loops.BoundsFault.TheVariants as text_faults
use Rattle.bound_texts.specs.Loops.Bounds.{LoopBound}
use Rattle.bound_texts.specs.Loops.Laws.{GivesOne, ReadIsNotRefused, LengthsGiveOne, ReadLengthsAreNotRefused}
use Rattle.method_flow.specs.Keeping.{BoundOf}
use Rattle.memory_rules.specs.declared.causes.NeedCause.{NeedCause}
use Rattle.memory_rules.specs.declared.causes.NeedCause.TheVariants as causes
use Rattle.memory_rules.specs.declared.causes.NeedFault.{NeedFault}
use Rattle.memory_rules.specs.declared.causes.NeedFault.TheVariants as faults
use Rattle.memory_rules.specs.Heap.{OfMethod}
use Rattle.memory_rules.specs.Laws.{StackNeedsAreOne, MostIsOne}
use Rattle.memory_bound.specs.Causes.{IsNeedCause, IsNeedFault, IsNeedOf}
use Rattle.memory_bound.specs.Laws.{NeedCausesAreOne, NeedsHaveNoCause}
use Rattle.analysis_commands.specs.declared.memory.Given.{Given}
use Rattle.analysis_commands.specs.declared.memory.MemoryRefusal.TheVariants.{BadBounds, TwiceBound, BadSizes, TwiceSize, NoNeed, NoMemory}
use Rattle.analysis_commands.specs.Analysis.{bounds_of}
use Rattle.analysis_commands.specs.Memory.{IsGivenBy, IsNotMet, cause_of}
use Rattle.jop_cli.specs.promises.Memory.{NeedsAreOne, NeedsAreNotRefused, NeedCausesAreTold}

-- the cause of a fault that is right to answer
stands : (P : Program) (bounds lengths : BoundOf) (fault : NeedFault) (cause : NeedCause) → IsNeedFault P bounds lengths fault → cause_of fault ≡ Some cause
    → IsNeedCause P bounds lengths cause
stands P bounds lengths (faults.Recursion cycle) cause h e =
    let same : causes.Recursion ≡ cause = cc in subst (λ (c : NeedCause). IsNeedCause P bounds lengths c) same (cycle, h)
stands P bounds lengths (faults.Irreducible m nodes) cause h e =
    let same : causes.Irreducible m ≡ cause = cc in subst (λ (c : NeedCause). IsNeedCause P bounds lengths c) same (h.0, (nodes, h.1))
stands P bounds lengths (faults.MissingBound m p) cause h e =
    let same : causes.MissingBound m p ≡ cause = cc in subst (λ (c : NeedCause). IsNeedCause P bounds lengths c) same h
stands P bounds lengths (faults.MissingSize m p) cause h e =
    let same : causes.MissingSize m p ≡ cause = cc in subst (λ (c : NeedCause). IsNeedCause P bounds lengths c) same h
stands P bounds lengths (faults.TooLarge m) cause h e =
    let same : causes.TooLarge m ≡ cause = cc in subst (λ (c : NeedCause). IsNeedCause P bounds lengths c) same h
stands P bounds lengths faults.NoMemory cause h e = let bad : ⊥ = cc in absurd bad

module _ (gives : GivesOne) (lengths_give : LengthsGiveOne) where
  -- what is said with what one reading gives is said with what another does
  moved : (cs : List ClassFile) (bounds_text sizes_text : List ℕ) (a b : Given) → IsGivenBy bounds_text sizes_text a → IsGivenBy bounds_text sizes_text b
      → (Q : BoundOf → BoundOf → Type 0) → Q (bounds_of cs a.bounds) (bounds_of cs a.lengths) → Q (bounds_of cs b.bounds) (bounds_of cs b.lengths)
  moved cs bounds_text sizes_text a b is also Q h =
      subst (λ (ls : List LoopBound). Q (bounds_of cs b.bounds) (bounds_of cs ls)) (lengths_give sizes_text a.lengths b.lengths is.lengths also.lengths)
      (subst (λ (bs : List LoopBound). Q (bounds_of cs bs) (bounds_of cs a.lengths)) (gives bounds_text a.bounds b.bounds is.bounds also.bounds) h)

  pub needs_are_one : StackNeedsAreOne → MostIsOne → NeedsAreOne
  needs_are_one stack most cs bounds_text sizes_text a b is also =
      let P : Program = resolved cs in
      let there : IsNeedOf P (bounds_of cs also.given.bounds) (bounds_of cs also.given.lengths) a =
      moved cs bounds_text sizes_text is.given also.given is.is_given also.is_given (λ bs ls. IsNeedOf P bs ls a) is.is in (
        stack P P.boot a.stack b.stack there.stack also.is.stack,
        most P (bounds_of cs also.given.bounds) (bounds_of cs also.given.lengths) (OfMethod P.boot) a.heap b.heap there.heap also.is.heap,
      )

  -- the cause that is told stands with what another reading gives
  told_stands : (cs : List ClassFile) (bounds_text sizes_text : List ℕ) (given : Given) (cause : NeedCause) (subject : Vec ℕ Global) → IsGivenBy bounds_text sizes_text given
      → IsNotMet cs bounds_text sizes_text (NoNeed cause subject) → IsNeedCause (resolved cs) (bounds_of cs given.bounds) (bounds_of cs given.lengths) cause
  told_stands cs bounds_text sizes_text given cause subject is h =
      let P : Program = resolved cs in
      moved cs bounds_text sizes_text h.given given h.is_given is (λ bs ls. IsNeedCause P bs ls cause)
      (stands P (bounds_of cs h.given.bounds) (bounds_of cs h.given.lengths) h.is.fault cause h.is.is h.is.cause_is)

  pub needs_are_not_refused : ReadIsNotRefused → ReadLengthsAreNotRefused → NeedsHaveNoCause → NeedsAreNotRefused
  needs_are_not_refused read sizes none cs bounds_text sizes_text need (BadBounds line) is h =
      let same = read bounds_text is.given.bounds (text_faults.Line line) is.is_given.bounds h in let bad : ⊥ = cc in absurd bad
  needs_are_not_refused read sizes none cs bounds_text sizes_text need (TwiceBound line) is h =
      let same = read bounds_text is.given.bounds (text_faults.Twice line) is.is_given.bounds h in let bad : ⊥ = cc in absurd bad
  needs_are_not_refused read sizes none cs bounds_text sizes_text need (BadSizes line) is h =
      let same = sizes sizes_text is.given.lengths (text_faults.Line line) is.is_given.lengths h.1 in let bad : ⊥ = cc in absurd bad
  needs_are_not_refused read sizes none cs bounds_text sizes_text need (TwiceSize line) is h =
      let same = sizes sizes_text is.given.lengths (text_faults.Twice line) is.is_given.lengths h.1 in let bad : ⊥ = cc in absurd bad
  needs_are_not_refused read sizes none cs bounds_text sizes_text need (NoNeed cause subject) is h =
      absurd
      (none (resolved cs) (bounds_of cs is.given.bounds) (bounds_of cs is.given.lengths) need is.is cause
      (told_stands cs bounds_text sizes_text is.given cause subject is.is_given h))
  needs_are_not_refused read sizes none cs bounds_text sizes_text need NoMemory is h = refl

  pub need_causes_are_told : NeedCausesAreOne → NeedCausesAreTold
  need_causes_are_told one cs bounds_text sizes_text a b x y is also =
      let P : Program = resolved cs in
      one P (bounds_of cs also.given.bounds) (bounds_of cs also.given.lengths) a b (told_stands cs bounds_text sizes_text also.given a x also.is_given is) (told_stands cs bounds_text sizes_text also.given b y also.is_given also)
