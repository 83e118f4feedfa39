-- What is answered of a method that is asked for, by the table of a program, holds of the program.
use Rattle.std.proofs.Common.{◌≡◌, ℕ, ◌<◌, List, length, Option, Some, refl, sym, ◌∙◌, ap, subst}
use Rattle.std.specs.Prelude.{◌≢◌, All, IsSome, IsSomeAnd, slice_get, Result, Ok, Err, IfOk, IfErr, Vec}
use Rattle.std.specs.declared.alloc.Global.{Global}
use Rattle.std.proofs.Math.Path.{fun_ext}
use Rattle.std.proofs.lemmas.Bool.{true≢false}
use Rattle.class_pool.specs.declared.class.ClassFile.{ClassFile}
use Rattle.program_tables.specs.Resolved.{resolved}
use Rattle.name_laws.specs.Written.{written_name}
use Rattle.command_line.specs.declared.command.Settings.{Settings}
use Rattle.bytecode_model.specs.Program.{Program, Body, body_of}
use Rattle.method_flow.specs.declared.timing.Timing.{Timing}
use Rattle.method_flow.specs.Flow.{Coded, Flow, IsFlowOf}
use Rattle.method_flow.specs.Keeping.{BoundOf}
use Rattle.node_costs.specs.Costs as table
use Rattle.certificates.specs.declared.lines.line.SectionKind.TheVariants.{Alone}
use Rattle.certificates.specs.Certificate.{Certificate, IsInGrammar}
use Rattle.bound_rules.specs.Conditions.{MeetsConditions}
use Rattle.bound_rules.specs.Numbers.{IsPrinted}
use Rattle.bound_rules.specs.declared.faults.BoundRefusal.{BoundRefusal}
use Rattle.bound_rules.specs.declared.faults.BoundRefusal.TheVariants.{NoMethod, Recursion, Irreducible, MissingBound, TooLarge, NoMemory}
use Rattle.bound_rules.specs.Bounding.{IsAsked, HasNoRecursion, AreReducible, HaveLines, KeepSize, HasNoCause, IsCause}
use Rattle.bound_causes.specs.declared.causes.Asked.{Asked}
use Rattle.bound_causes.specs.Naming.{IsNamedBy}
use Rattle.bound_causes.specs.Causes.{IsRootCause}
use Rattle.bound_finder.specs.Certified.{AreEmptyIfEndless}
use Rattle.bound_finder.specs.Ready.{IsSizeCause}
use Rattle.answer_lines.specs.declared.bound.BoundCause.{BoundCause}
use Rattle.analysis_commands.specs.declared.analysis.Analysis.{Analysis}
use Rattle.analysis_commands.specs.declared.bound.NotBounded.{NotBounded}
use Rattle.analysis_commands.specs.declared.bound.NotBounded.TheVariants as refusals
use Rattle.analysis_commands.specs.Analysis.{IsAnalysisOf}
use Rattle.analysis_commands.specs.Bounding.{MethodHasName, IsBoundBy, IsCertText, IsBoundNumber, subject_of, IsForbidden, IsNotBounded}
use Rattle.analysis_commands.specs.BoundAnswers.{IsAskedOf, IsCertificateOf, IsCauseOf, IsCertificateFor}
use Rattle.analysis_commands.specs.BoundAnswers.{IsSizeCauseOf, IsBoundText, IsBoundNumberOf, IsForbiddenBy, IsNotBoundedBy}
use Rattle.analysis_commands.proofs.Lifting.{AreAlike, none, some, are_alike, named, moved}

-- ---- the certificate, by the table

-- the method that is asked for is of the certificate, and nothing forbids its bound
pub certified : (a : Analysis) (named : ℕ → Type 0) (found : Asked) (r : Result Certificate BoundRefusal) → IsAskedOf a named found → IfOk r (IsCertificateFor a found.root)
    → IfOk r (IsCertificateOf a named)
certified a named found (Err refusal) is h = tt
certified a named found (Ok c) is h =
    λ P of.
    let ready = is.ready P of in
    let no_cause : HasNoCause P a.timing (table.bounds_of a.flow a.bounds) found.root = record { calls = ready.calls; reducible = ready.reducible; lines = ready.lines; size = h.kept P of } in
    record {
      asked = subst (λ (m : ℕ). IsAsked P named m) (sym h.root_is) (is.asked P of);
      no_cause = subst (λ (m : ℕ). HasNoCause P a.timing (table.bounds_of a.flow a.bounds) m) (sym h.root_is) no_cause;
      version = h.version;
      meets = h.meets P of;
      printed = subst (λ (m : ℕ). IsPrinted P a.timing (table.bounds_of a.flow a.bounds) m c.bound) (sym h.root_is) (h.printed P of);
    }

-- the certificate of a method for which all is ready
pub certified_for : (a : Analysis) (root : ℕ) (r : Result Certificate BoundRefusal) → IfOk r (λ c. IsInGrammar c × (c.version ≡ 2) × (c.root ≡ root))
    → IfOk r (λ c. (P : Program) → IsFlowOf P a.flow → MeetsConditions P a.timing (table.bounds_of a.flow a.bounds) c)
    → IfOk r (λ c. All (λ s. s.kind ≢ Alone) c.sections)
    → IfOk r (λ c. (P : Program) → IsFlowOf P a.flow → AreEmptyIfEndless P c.sections)
    → IfOk r (λ c. (P : Program) → IsFlowOf P a.flow → IsPrinted P a.timing (table.bounds_of a.flow a.bounds) root c.bound)
    → IfOk r (λ _. (P : Program) → IsFlowOf P a.flow → KeepSize P a.timing (table.bounds_of a.flow a.bounds) root)
    → IfOk r (IsCertificateFor a root)
certified_for a root (Err refusal) grammar meets kinds empty printed kept = tt
certified_for a root (Ok c) grammar meets kinds empty printed kept =
    record { version = grammar.1; root_is = grammar.2; meets = meets; kinds = kinds; empty = empty; printed = printed; kept = kept }

size_cause : (P : Program) (t : Timing) (b : BoundOf) (asked : ℕ → Type 0) (root : ℕ) (e : BoundRefusal) → IsAsked P asked root → HasNoRecursion P root → AreReducible P root → HaveLines P b root → IsSizeCause P t b root e
    → IsCause P t b asked e
size_cause P t b asked root NoMethod is calls reducible lines h = absurd h
size_cause P t b asked root (Recursion cycle) is calls reducible lines h = absurd h
size_cause P t b asked root (Irreducible m nodes) is calls reducible lines h = absurd h
size_cause P t b asked root (MissingBound m p) is calls reducible lines h = absurd h
size_cause P t b asked root (TooLarge m) is calls reducible lines h = (root, is, calls, reducible, lines, h)
size_cause P t b asked root NoMemory is calls reducible lines h = tt

-- its size forbids one
pub too_large : {T : Type 0} (a : Analysis) (named : ℕ → Type 0) (found : Asked) (r : Result T BoundRefusal) → IsAskedOf a named found → IfErr r (IsSizeCauseOf a found.root) → IfErr r (IsCauseOf a named)
too_large a named found (Ok c) is h = tt
too_large a named found (Err e) is h =
    λ P of.
    let ready = is.ready P of in
    size_cause P a.timing (table.bounds_of a.flow a.bounds) named found.root e (is.asked P of) ready.calls ready.reducible ready.lines (h P of)

-- ---- a method that is asked for by its number

root_cause : (P : Program) (t : Timing) (b : BoundOf) (asked : ℕ → Type 0) (root : ℕ) (e : BoundRefusal) → IsAsked P asked root → IsRootCause P b root e → IsCause P t b asked e
root_cause P t b asked root NoMethod is h = absurd h
root_cause P t b asked root (Recursion cycle) is h = (root, is, h)
root_cause P t b asked root (Irreducible m nodes) is h = (root, is, h.0, h.1)
root_cause P t b asked root (MissingBound m p) is h = (root, is, h.0, h.1, h.2)
root_cause P t b asked root (TooLarge m) is h = absurd h
root_cause P t b asked root NoMemory is h = tt

-- this forbids its bound
pub asked_number_err : (a : Analysis) (method : ℕ) (r : Result Asked BoundRefusal) → method < length a.flow.methods → (method ≡ a.flow.boot → ⊥)
    → IfErr r (λ e. (P : Program) → IsFlowOf P a.flow → IsRootCause P (table.bounds_of a.flow a.bounds) method e) → IfErr r (IsCauseOf a (λ m. m ≡ method))
asked_number_err a method (Ok found) below other h = tt
asked_number_err a method (Err e) below other h =
    λ P of.
    let asked : IsAsked P (λ m. m ≡ method) method = record { coded = (of.coded method).1 below; not_boot = λ same. other (same ∙ sym of.boot); is_named = refl } in
    root_cause P a.timing (table.bounds_of a.flow a.bounds) (λ m. m ≡ method) method e asked (h P of)

-- ---- names of the table, and of the program

named_out : (name have : List ℕ) (o : Option Coded) (q : Option Body) → AreAlike have o q → IsSome q → IsSomeAnd o (λ k. k.name ≡ name) → have ≡ name
named_out name have o q (none e f) coded h = absurd (true≢false (sym (subst (λ (x : Option Body). IsSome x) f coded)))
named_out name have o q (some k b e f is) coded h = sym is ∙ subst (λ (x : Option Coded). IsSomeAnd x (λ k. k.name ≡ name)) e h

named_in : (name have : List ℕ) (o : Option Coded) (q : Option Body) → AreAlike have o q → IsSome q → have ≡ name → IsSomeAnd o (λ k. k.name ≡ name)
named_in name have o q (none e f) coded h = absurd (true≢false (sym (subst (λ (x : Option Body). IsSome x) f coded)))
named_in name have o q (some k b e f is) coded h = subst (λ (x : Option Coded). IsSomeAnd x (λ k. k.name ≡ name)) (sym e) (is ∙ h)

module _ (cs : List ClassFile) (f : Flow) (flow : IsFlowOf (resolved cs) f) (names : (m : ℕ) (k : Coded) → slice_get f.methods m ≡ Some k → k.name ≡ written_name cs m) (name : List ℕ) where
  pub asked_out : (root : ℕ) → IsAsked (resolved cs) (IsNamedBy f name) root → IsAsked (resolved cs) (MethodHasName cs name) root
  asked_out root h = record {
    coded = h.coded;
    not_boot = h.not_boot;
    is_named = named_out name (written_name cs root) (slice_get f.methods root) (body_of (resolved cs) root) (are_alike cs f flow names root) h.coded h.is_named;
  }

  asked_in : (root : ℕ) → IsAsked (resolved cs) (MethodHasName cs name) root → IsAsked (resolved cs) (IsNamedBy f name) root
  asked_in root h = record {
    coded = h.coded;
    not_boot = h.not_boot;
    is_named = named_in name (written_name cs root) (slice_get f.methods root) (body_of (resolved cs) root) (are_alike cs f flow names root) h.coded h.is_named;
  }

  cause_out : (t : Timing) (b : BoundOf) (r : BoundRefusal) → IsCause (resolved cs) t b (IsNamedBy f name) r → IsCause (resolved cs) t b (MethodHasName cs name) r
  cause_out t b NoMethod h = λ root asked. h root (asked_in root asked)
  cause_out t b (Recursion cycle) h = (h.0, asked_out h.0 h.1, h.2)
  cause_out t b (Irreducible m nodes) h = (h.0, asked_out h.0 h.1, h.2, h.3)
  cause_out t b (MissingBound m p) h = (h.0, asked_out h.0 h.1, h.2, h.3, h.4)
  cause_out t b (TooLarge m) h = (h.0, asked_out h.0 h.1, h.2, h.3, h.4, h.5)
  cause_out t b NoMemory h = tt

  bound_out : (t : Timing) (b : BoundOf) (c : Certificate) → IsBoundBy (resolved cs) t b (IsNamedBy f name) c → IsBoundBy (resolved cs) t b (MethodHasName cs name) c
  bound_out t b c h = record { asked = asked_out c.root h.asked; no_cause = h.no_cause; version = h.version; meets = h.meets; printed = h.printed }

-- ---- the answers

module _ (cs : List ClassFile) (s : Settings) (bounds_text : List ℕ) (a : Analysis) (is : IsAnalysisOf cs s bounds_text a) (name : List ℕ) where
  bound : (text : List ℕ) → IsBoundText a name text → IsCertText cs s bounds_text name text
  bound text h =
      let by_table = bound_out cs a.flow is.flow is.names name a.timing (table.bounds_of a.flow a.bounds) h.certificate (h.is (resolved cs) is.flow) in
      record {
        codes_fit = is.codes_fit;
        bounds = a.bounds;
        bounds_read = is.bounds;
        certificate = h.certificate;
        is = moved cs s bounds_text a is (λ t b. IsBoundBy (resolved cs) t b (MethodHasName cs name) h.certificate) by_table;
        reads = h.reads;
        text_is = h.text_is;
      }

  number : (found : Option ℕ) → IsBoundNumberOf a name found → IsBoundNumber cs s bounds_text name found
  number found h =
      let by_table = bound_out cs a.flow is.flow is.names name a.timing (table.bounds_of a.flow a.bounds) h.certificate (h.is (resolved cs) is.flow) in
      record {
        codes_fit = is.codes_fit;
        bounds = a.bounds;
        bounds_read = is.bounds;
        certificate = h.certificate;
        is = moved cs s bounds_text a is (λ t b. IsBoundBy (resolved cs) t b (MethodHasName cs name) h.certificate) by_table;
        bound_is = h.bound_is;
      }

  pub forbidden : (cause : BoundCause) (subject : List ℕ) → IsForbiddenBy a name cause subject → IsForbidden cs s bounds_text name cause subject
  forbidden cause subject h =
      let by_table = cause_out cs a.flow is.flow is.names name a.timing (table.bounds_of a.flow a.bounds) h.refusal (h.is (resolved cs) is.flow) in
      record {
        codes_fit = is.codes_fit;
        bounds = a.bounds;
        bounds_read = is.bounds;
        refusal = h.refusal;
        is = moved cs s bounds_text a is (λ t b. IsCause (resolved cs) t b (MethodHasName cs name) h.refusal) by_table;
        cause_is = h.cause_is;
        subject_is = h.subject_is ∙ ap (λ (n : ℕ → List ℕ). subject_of n h.refusal) (fun_ext (named cs a.flow is.flow is.names));
      }

  pub not_bounded : (r : NotBounded) → IsNotBoundedBy a name r → IsNotBounded cs s bounds_text name r
  not_bounded (refusals.NoAnalysis fault) h = absurd h
  not_bounded (refusals.Forbidden cause subject) h = forbidden cause subject.items h
  not_bounded refusals.NoMemory h = tt

  pub bound_ok : (r : Result (Vec ℕ Global) NotBounded) → IfOk r (λ text. IsBoundText a name text.items) → IfOk r (λ text. IsCertText cs s bounds_text name text.items)
  bound_ok (Ok text) h = bound text.items h
  bound_ok (Err refusal) h = tt

  pub number_ok : (r : Result (Option ℕ) NotBounded) → IfOk r (IsBoundNumberOf a name) → IfOk r (IsBoundNumber cs s bounds_text name)
  number_ok (Ok found) h = number found h
  number_ok (Err refusal) h = tt

  pub refused_err : {T : Type 0} (r : Result T NotBounded) → IfErr r (IsNotBoundedBy a name) → IfErr r (IsNotBounded cs s bounds_text name)
  refused_err (Ok x) h = tt
  refused_err (Err refusal) h = not_bounded refusal h
