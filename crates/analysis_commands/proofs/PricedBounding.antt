-- What is answered by facts of a method that is asked for, by the table of a program, holds of the program.
use Rattle.std.proofs.Common.{◌≡◌, ℕ, List, Option, Some, None, sym, ◌∙◌, ap, subst, arith}
use Rattle.std.specs.Result.{is_ok}
use Rattle.std.proofs.lemmas.Bool.{true≢false}
use Rattle.std.specs.Prelude.{true, slice_get, Result, Ok, Err, IfOk, IfErr, Vec}
use Rattle.std.specs.declared.alloc.Global.{Global}
use Rattle.class_pool.specs.declared.class.ClassFile.{ClassFile}
use Rattle.program_tables.specs.Resolved.{resolved}
use Rattle.name_laws.specs.Written.{written_name}
use Rattle.command_line.specs.declared.command.Settings.{Settings}
use Rattle.bytecode_model.specs.Program.{Program}
use Rattle.method_flow.specs.declared.timing.Timing.{Timing}
use Rattle.method_flow.specs.Flow.{Coded, Flow, IsFlowOf}
use Rattle.method_flow.specs.Keeping.{BoundOf}
use Rattle.node_costs.specs.Costs as table
use Rattle.certificates.specs.Certificate.{Certificate}
use Rattle.bound_rules.specs.Conditions.{MeetsConditions}
use Rattle.bound_rules.specs.Numbers.{IsPrinted}
use Rattle.bound_rules.specs.declared.faults.BoundRefusal.{BoundRefusal}
use Rattle.bound_rules.specs.Bounding.{IsAsked, HasNoCause}
use Rattle.bound_causes.specs.declared.causes.Asked.{Asked}
use Rattle.bound_causes.specs.Naming.{IsNamedBy}
use Rattle.bound_finder.specs.Certified.{AreEmptyIfEndless}
use Rattle.flow_facts.specs.Facts.{Facts}
use Rattle.priced_cert.specs.Certificate.{PricedCertificate}
use Rattle.fact_rules.specs.Conditions.{MeetsPrices}
use Rattle.fact_rules.specs.Laws.{unpriced}
use Rattle.fact_bound.specs.Plain as plain
use Rattle.analysis_commands.specs.declared.analysis.Analysis.{Analysis}
use Rattle.analysis_commands.specs.declared.bound.NotBounded.TheVariants as refusals
use Rattle.analysis_commands.specs.declared.priced_bound.NotPriced.{NotPriced}
use Rattle.analysis_commands.specs.declared.priced_bound.NotPriced.TheVariants.{NoFacts, NotBound}
use Rattle.analysis_commands.specs.Analysis.{IsAnalysisOf}
use Rattle.analysis_commands.specs.Bounding.{MethodHasName}
use Rattle.analysis_commands.specs.BoundAnswers.{IsAskedOf, IsCertificateFor}
use Rattle.analysis_commands.specs.PricedBounds.{IsAtMost, IsBoundWith, IsCertTextWith, IsNotBoundedWith, MeetsOf, IsFoundFor, IsPricedFor, IsPricedOf, IsBoundTextBy, IsNotPricedBy}
use Rattle.analysis_commands.proofs.Lifting.{moved}
use Rattle.analysis_commands.proofs.Bounding.{asked_out, forbidden}
use Rattle.analysis_commands.proofs.FactLines.{facts_by, facts_refused}

-- ---- bounds

plain_at_most : (a b : Option ℕ) → plain.IsAtMost a b → IsAtMost a b
plain_at_most None b h = tt
plain_at_most (Some x) (Some y) h = h
plain_at_most (Some x) None h = absurd h

at_most_both : (a b c : Option ℕ) → IsAtMost a b → IsAtMost b c → IsAtMost a c
at_most_both None b c h k = tt
at_most_both (Some x) None c h k = absurd h
at_most_both (Some x) (Some y) None h k = absurd k
at_most_both (Some x) (Some y) (Some z) h k = omega (arith, h, k)

pub ok_met : {T E : Type 0} (Q : Type 0) (r : Result T E) → is_ok r ≡ true → IfOk r (λ _. Q) → Q
ok_met Q (Ok x) is h = h
ok_met Q (Err e) is h = absurd (true≢false (sym is))

-- ---- the certificate, by the table

-- the one without prices
pub plain_for : (a : Analysis) (root : ℕ) (c : Certificate) (p : PricedCertificate) (facts : Facts) → IsCertificateFor a root c → p ≡ unpriced c p.plain.bound
    → plain.IsAtMost p.plain.bound c.bound
    → ((P : Program) (bound_of : BoundOf) (facts : Facts) → IsFlowOf P a.flow → AreEmptyIfEndless P c.sections → MeetsConditions P a.timing bound_of c → MeetsPrices P a.timing bound_of facts p)
    → IsPricedFor a facts root p
plain_for a root c p facts h same at_most met = record {
  root_is = ap (λ (x : PricedCertificate). x.plain.root) same ∙ h.root_is;
  none_in_root = ap (λ (x : PricedCertificate). x.root_prices) same;
  meets = λ P of. met P (table.bounds_of a.flow a.bounds) facts of (h.empty P of) (h.meets P of);
  printed = c.bound;
  is_printed = h.printed;
  most = plain_at_most p.plain.bound c.bound at_most;
  kept = h.kept;
}

-- one that is found, and isn't above it
pub found_for : (a : Analysis) (facts : Facts) (root : ℕ) (found p : PricedCertificate) → IsFoundFor root found → MeetsOf a facts found
    → IsAtMost found.plain.bound p.plain.bound → IsPricedFor a facts root p → IsPricedFor a facts root found
found_for a facts root found p is meets below h = record {
  root_is = is.1;
  none_in_root = is.2;
  meets = meets;
  printed = h.printed;
  is_printed = h.is_printed;
  most = at_most_both found.plain.bound p.plain.bound h.printed below h.most;
  kept = h.kept;
}

-- the method that is asked for is of the certificate, and nothing forbids its bound
pub priced_asked : (a : Analysis) (facts : Facts) (named : ℕ → Type 0) (found : Asked) (r : Result PricedCertificate BoundRefusal) → IsAskedOf a named found
    → IfOk r (IsPricedFor a facts found.root) → IfOk r (IsPricedOf a facts named)
priced_asked a facts named found (Err refusal) is h = tt
priced_asked a facts named found (Ok c) is h =
    λ P of.
    let ready = is.ready P of in
    let no_cause : HasNoCause P a.timing (table.bounds_of a.flow a.bounds) found.root = record { calls = ready.calls; reducible = ready.reducible; lines = ready.lines; size = h.kept P of } in
    record {
      asked = subst (λ (m : ℕ). IsAsked P named m) (sym h.root_is) (is.asked P of);
      no_cause = subst (λ (m : ℕ). HasNoCause P a.timing (table.bounds_of a.flow a.bounds) m) (sym h.root_is) no_cause;
      none_in_root = h.none_in_root;
      meets = h.meets P of;
      printed = h.printed;
      is_printed = subst (λ (m : ℕ). IsPrinted P a.timing (table.bounds_of a.flow a.bounds) m h.printed) (sym h.root_is) (h.is_printed P of);
      most = h.most;
    }

-- ---- the answers

with_out : (cs : List ClassFile) (f : Flow) → IsFlowOf (resolved cs) f → ((m : ℕ) (k : Coded) → slice_get f.methods m ≡ Some k → k.name ≡ written_name cs m) → (name : List ℕ) (t : Timing) (b : BoundOf) (facts : Facts) (c : PricedCertificate)
    → IsBoundWith (resolved cs) t b facts (IsNamedBy f name) c → IsBoundWith (resolved cs) t b facts (MethodHasName cs name) c
with_out cs f flow names name t b facts c h = record {
  asked = asked_out cs f flow names name c.plain.root h.asked;
  no_cause = h.no_cause;
  none_in_root = h.none_in_root;
  meets = h.meets;
  printed = h.printed;
  is_printed = h.is_printed;
  most = h.most;
}

module _ (cs : List ClassFile) (s : Settings) (bounds_text : List ℕ) (a : Analysis) (is : IsAnalysisOf cs s bounds_text a) (facts_text name : List ℕ) where
  bound : (text : List ℕ) → IsBoundTextBy a facts_text name text → IsCertTextWith cs s bounds_text facts_text name text
  bound text h =
      let c = h.is.certificate in
      let by_table = with_out cs a.flow is.flow is.names name a.timing (table.bounds_of a.flow a.bounds) h.facts c (h.is.is (resolved cs) is.flow) in
      record {
        codes_fit = is.codes_fit;
        bounds = a.bounds;
        bounds_read = is.bounds;
        facts = h.facts;
        facts_are = facts_by cs a.flow is.flow is.names facts_text h.facts h.facts_are;
        certificate = c;
        is = moved cs s bounds_text a is (λ t b. IsBoundWith (resolved cs) t b h.facts (MethodHasName cs name) c) by_table;
        reads = h.is.reads;
        text_is = h.is.text_is;
      }

  not_priced : (r : NotPriced) → IsNotPricedBy a facts_text name r → IsNotBoundedWith cs s bounds_text facts_text name r
  not_priced (NoFacts refusal) h = ((is.codes_fit, (a.bounds, is.bounds)), facts_refused cs a.flow is.flow is.names facts_text refusal h)
  not_priced (NotBound (refusals.NoAnalysis fault)) h = absurd h.1
  not_priced (NotBound (refusals.Forbidden cause subject)) h =
      let given = h.0 in
      ((given.0, facts_by cs a.flow is.flow is.names facts_text given.0 given.1), forbidden cs s bounds_text a is name cause subject.items h.1)
  not_priced (NotBound refusals.NoMemory) h = tt

  pub bound_with_ok : (r : Result (Vec ℕ Global) NotPriced) → IfOk r (λ text. IsBoundTextBy a facts_text name text.items)
      → IfOk r (λ text. IsCertTextWith cs s bounds_text facts_text name text.items)
  bound_with_ok (Ok text) h = bound text.items h
  bound_with_ok (Err refusal) h = tt

  pub not_priced_err : {T : Type 0} (r : Result T NotPriced) → IfErr r (IsNotPricedBy a facts_text name) → IfErr r (IsNotBoundedWith cs s bounds_text facts_text name)
  not_priced_err (Ok x) h = tt
  not_priced_err (Err refusal) h = not_priced refusal h
