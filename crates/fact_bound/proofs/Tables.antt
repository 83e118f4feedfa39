-- What is known of all methods.
use Rattle.std.proofs.Common.{◌≡◌, ℕ, true, false, List, length, replicate, sym, ap, ◌∙◌, subst}
use Rattle.std.specs.Prelude.{◌↔◌, All, IsTrue, slice_set}
use Rattle.std.proofs.lemmas.List.{length-replicate, length-set}
use Rattle.std.proofs.lemmas.List.Elements.{All-set, All-replicate}
use Rattle.bytecode_model.specs.Program.{Program}
use Rattle.method_flow.specs.declared.timing.Timing.{Timing}
use Rattle.bound_rules.specs.Fitting.{RegionFits}
use Rattle.bound_finder.specs.declared.fit.Fit.{Fit}
use Rattle.bound_finder.specs.declared.known.Known.{Known}
use Rattle.bound_finder.specs.Found.{IsFitOf}
use Rattle.bound_finder.specs.Found.IsFitOf.{fits, exceeds}
use Rattle.bound_finder.specs.Known.{BoundSetting, IsLimited, unknown}
use Rattle.fact_bound.specs.Search.{IsTable}

-- whether what may run while the method does fits the cache together is told
pub fit_told : (P : Program) (t : Timing) (m : ℕ) (fit : Fit) → IsFitOf P t m fit → IsTrue fit.fits ↔ RegionFits P t m
fit_told P t m fit (fits e together more) = (λ yes'. together, λ region. e)
fit_told P t m fit (exceeds e apart more) = (λ yes'. let bad : false ≡ true = sym e ∙ yes' in absurd (cc), λ region. absurd (apart region))

-- of no method anything is known
pub none_table : (set : BoundSetting) (table : List Known) (count : ℕ) → table ≡ replicate count unknown → count ≡ length set.flow.methods → IsTable set table
none_table set table count are all = record {
  long = ap length are ∙ length-replicate count unknown ∙ all;
  limited = subst (λ (ks : List Known). All IsLimited ks) (sym are) (All-replicate IsLimited count unknown (record { asked = tt; full = tt }));
}

-- and then of one more
pub table_set : (set : BoundSetting) (table next : List Known) (m : ℕ) (k : Known) → next ≡ slice_set table m k → IsLimited k → IsTable set table → IsTable set next
table_set set table next m k is small h = record {
  long = ap length is ∙ length-set table m k ∙ h.long;
  limited = subst (λ (ks : List Known). All IsLimited ks) (sym is) (All-set IsLimited table m k small h.limited);
}
