-- What is found of memory by the table of a program holds of the program.
use Rattle.std.proofs.Common.{◌≡◌, ℕ, List, Some, sym, subst}
use Rattle.std.specs.Prelude.{slice_get, Result, Ok, Err, IfOk, IfErr}
use Rattle.std.proofs.Math.Path.{fun_ext}
use Rattle.class_pool.specs.declared.class.ClassFile.{ClassFile}
use Rattle.program_tables.specs.Resolved.{resolved}
use Rattle.name_laws.specs.Written.{written_name}
use Rattle.bytecode_model.specs.Program.{Program}
use Rattle.bound_texts.specs.Loops.Bounds.{LoopBound}
use Rattle.bound_texts.specs.Loops.Grammar.{IsRead, IsReadLengths}
use Rattle.method_flow.specs.Flow.{Coded, Flow, IsFlowOf}
use Rattle.method_flow.specs.Keeping.{BoundOf}
use Rattle.node_costs.specs.Costs as table
use Rattle.memory_rules.specs.declared.needs.Need.{Need}
use Rattle.memory_rules.specs.declared.causes.NeedFault.{NeedFault}
use Rattle.memory_bound.specs.Causes.{IsNeedFault, IsNeedOf}
use Rattle.analysis_commands.specs.declared.memory.Given.{Given}
use Rattle.analysis_commands.specs.declared.memory.MemoryRefusal.{MemoryRefusal}
use Rattle.analysis_commands.specs.declared.memory.MemoryRefusal.TheVariants as refusals
use Rattle.analysis_commands.specs.Analysis.{bounds_of, named_or_number}
use Rattle.analysis_commands.specs.Answers.{table_name}
use Rattle.analysis_commands.specs.Memory.{IsGivenBy, IsBadSizes, IsBadText, IsNoNeedBy, IsNotMetBy, IsNeed, IsMemoryRefusal}
use Rattle.analysis_commands.proofs.Lifting.{bounds_same, named}

-- ---- the texts

-- lengths that are refused behind bounds that are read
sizes_bad : (bounds_text sizes_text : List ℕ) (bounds : List LoopBound) (refusal : MemoryRefusal) → IsRead bounds_text bounds → IsBadSizes sizes_text refusal → IsBadText bounds_text sizes_text refusal
sizes_bad bounds_text sizes_text bounds (refusals.BadBounds line) read h = absurd h
sizes_bad bounds_text sizes_text bounds (refusals.TwiceBound line) read h = absurd h
sizes_bad bounds_text sizes_text bounds (refusals.BadSizes line) read h = ((bounds, read), h)
sizes_bad bounds_text sizes_text bounds (refusals.TwiceSize line) read h = ((bounds, read), h)
sizes_bad bounds_text sizes_text bounds (refusals.NoNeed cause subject) read h = absurd h
sizes_bad bounds_text sizes_text bounds refusals.NoMemory read h = tt

pub given_ok : (bounds_text sizes_text : List ℕ) (bounds : List LoopBound) (r : Result Given MemoryRefusal) → IsRead bounds_text bounds → IfOk r (λ g. (g.bounds ≡ bounds) × IsReadLengths sizes_text g.lengths) → IfOk r (IsGivenBy bounds_text sizes_text)
given_ok bounds_text sizes_text bounds (Ok g) read h = record { bounds = subst (IsRead bounds_text) (sym h.0) read; lengths = h.1 }
given_ok bounds_text sizes_text bounds (Err refusal) read h = tt

pub given_err : (bounds_text sizes_text : List ℕ) (bounds : List LoopBound) (r : Result Given MemoryRefusal) → IsRead bounds_text bounds → IfErr r (IsBadSizes sizes_text) → IfErr r (IsBadText bounds_text sizes_text)
given_err bounds_text sizes_text bounds (Ok g) read h = tt
given_err bounds_text sizes_text bounds (Err refusal) read h = sizes_bad bounds_text sizes_text bounds refusal read h

-- ---- the table

-- the refusal by a fault
pub not_met : (P : Program) (bounds lengths : BoundOf) (name : ℕ → List ℕ) (fault : NeedFault) (refusal : MemoryRefusal) → IsNeedFault P bounds lengths fault → IsNoNeedBy name fault refusal → IsNotMetBy P bounds lengths name refusal
not_met P bounds lengths name fault (refusals.NoNeed cause subject) is h = record { fault = fault; is = is; cause_is = h.0; subject_is = h.1 }
not_met P bounds lengths name fault refusals.NoMemory is h = tt
not_met P bounds lengths name fault (refusals.BadBounds line) is h = absurd h
not_met P bounds lengths name fault (refusals.TwiceBound line) is h = absurd h
not_met P bounds lengths name fault (refusals.BadSizes line) is h = absurd h
not_met P bounds lengths name fault (refusals.TwiceSize line) is h = absurd h

module _ (cs : List ClassFile) (f : Flow) (flow : IsFlowOf (resolved cs) f) (names : (m : ℕ) (k : Coded) → slice_get f.methods m ≡ Some k → k.name ≡ written_name cs m) (given : Given) where
  -- what is said with the table's bounds and names is said with the program's
  moved : (Q : BoundOf → BoundOf → (ℕ → List ℕ) → Type 0) → Q (table.bounds_of f given.bounds) (table.bounds_of f given.lengths) (table_name f)
      → Q (bounds_of cs given.bounds) (bounds_of cs given.lengths) (named_or_number cs)
  moved Q h =
      subst (λ (name : ℕ → List ℕ). Q (bounds_of cs given.bounds) (bounds_of cs given.lengths) name) (fun_ext (named cs f flow names))
      (subst (λ (b : BoundOf). Q (bounds_of cs given.bounds) b (table_name f)) (bounds_same cs f flow names given.lengths)
      (subst (λ (b : BoundOf). Q b (table.bounds_of f given.lengths) (table_name f)) (bounds_same cs f flow names given.bounds) h))

  pub need_ok : (r : Result Need MemoryRefusal) → IfOk r (IsNeedOf (resolved cs) (table.bounds_of f given.bounds) (table.bounds_of f given.lengths))
      → IfOk r (IsNeedOf (resolved cs) (bounds_of cs given.bounds) (bounds_of cs given.lengths))
  need_ok (Ok n) h = moved (λ a b name. IsNeedOf (resolved cs) a b n) h
  need_ok (Err refusal) h = tt

  pub need_err : (r : Result Need MemoryRefusal) → IfErr r (IsNotMetBy (resolved cs) (table.bounds_of f given.bounds) (table.bounds_of f given.lengths) (table_name f))
      → IfErr r (IsNotMetBy (resolved cs) (bounds_of cs given.bounds) (bounds_of cs given.lengths) (named_or_number cs))
  need_err (Ok n) h = tt
  need_err (Err refusal) h = moved (λ a b name. IsNotMetBy (resolved cs) a b name refusal) h

-- ---- the answers

module _ (cs : List ClassFile) (bounds_text sizes_text : List ℕ) (given : Given) (is : IsGivenBy bounds_text sizes_text given) where
  pub answer_ok : (r : Result Need MemoryRefusal) → IfOk r (IsNeedOf (resolved cs) (bounds_of cs given.bounds) (bounds_of cs given.lengths)) → IfOk r (IsNeed cs bounds_text sizes_text)
  answer_ok (Ok n) h = record { given = given; is_given = is; is = h }
  answer_ok (Err refusal) h = tt

  refused : (refusal : MemoryRefusal) → IsNotMetBy (resolved cs) (bounds_of cs given.bounds) (bounds_of cs given.lengths) (named_or_number cs) refusal → IsMemoryRefusal cs bounds_text sizes_text refusal
  refused (refusals.NoNeed cause subject) h = record { given = given; is_given = is; is = h }
  refused refusals.NoMemory h = tt
  refused (refusals.BadBounds line) h = absurd h
  refused (refusals.TwiceBound line) h = absurd h
  refused (refusals.BadSizes line) h = absurd h
  refused (refusals.TwiceSize line) h = absurd h

  pub answer_err : (r : Result Need MemoryRefusal) → IfErr r (IsNotMetBy (resolved cs) (bounds_of cs given.bounds) (bounds_of cs given.lengths) (named_or_number cs)) → IfErr r (IsMemoryRefusal cs bounds_text sizes_text)
  answer_err (Ok n) h = tt
  answer_err (Err refusal) h = refused refusal h

pub texts_refused : (cs : List ClassFile) (bounds_text sizes_text : List ℕ) (refusal : MemoryRefusal) → IsBadText bounds_text sizes_text refusal → IsMemoryRefusal cs bounds_text sizes_text refusal
texts_refused cs bounds_text sizes_text (refusals.BadBounds line) h = h
texts_refused cs bounds_text sizes_text (refusals.TwiceBound line) h = h
texts_refused cs bounds_text sizes_text (refusals.BadSizes line) h = h
texts_refused cs bounds_text sizes_text (refusals.TwiceSize line) h = h
texts_refused cs bounds_text sizes_text (refusals.NoNeed cause subject) h = absurd h
texts_refused cs bounds_text sizes_text refusals.NoMemory h = tt
