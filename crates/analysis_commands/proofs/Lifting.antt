-- What holds by the table of a program holds of the program.
use Rattle.std.proofs.Common.{◌≡◌, ℕ, ◌<◌, List, [], length, Option, Some, None, refl, sym, ◌∙◌, ap, subst, ⊎_elim, arith}
use Rattle.std.specs.Prelude.{◌↔◌, IsSome, IsSomeAnd, slice_get, Result, Ok, Err, IfOk, IfErr}
use Rattle.std.specs.Option.{option_map_or}
use Rattle.std.proofs.Math.Path.{fun_ext}
use Rattle.std.proofs.lemmas.Bool.{true≢false}
use Rattle.std.proofs.lemmas.Option.{slice_get_within, slice_get_cases}
use Rattle.lists.proofs.Lemmas.{none≢some}
use Rattle.class_pool.specs.declared.class.ClassFile.{ClassFile}
use Rattle.program_tables.specs.Resolved.{resolved}
use Rattle.name_laws.specs.Written.{written_name}
use Rattle.jopizer.specs.declared.methods.fitting.TooLong.{TooLong}
use Rattle.jopizer.specs.Methods.Fitting.{IsFirst}
use Rattle.command_line.specs.declared.command.Settings.{Settings}
use Rattle.bound_texts.specs.Loops.Bounds.{LoopBound, bound_in}
use Rattle.bound_texts.specs.Loops.Grammar.{IsRead}
use Rattle.bytecode_model.specs.Lists.{onto}
use Rattle.bytecode_model.specs.Program.{Program, Body, body_of}
use Rattle.method_flow.specs.declared.timing.Timing.{Timing}
use Rattle.method_flow.specs.Flow.{Coded, Flow, IsFlowOf}
use Rattle.method_flow.specs.Keeping.{BoundOf}
use Rattle.node_costs.specs.Costs as table
use Rattle.ascii_text.specs.Line.{lines_of as text_lines}
use Rattle.certificates.specs.Certificate.{Certificate}
use Rattle.certificates.specs.Texts.{AreLinesOf}
use Rattle.bound_rules.specs.declared.faults.CheckFault.{CheckFault}
use Rattle.bound_rules.specs.declared.faults.CheckFault.TheVariants as faults
use Rattle.bound_rules.specs.Conditions.{MeetsConditions}
use Rattle.bound_rules.specs.Refused.{IsCertRefused, IsRefusedOrMemory}
use Rattle.analysis_commands.specs.declared.analysis.Analysis.{Analysis}
use Rattle.answer_lines.specs.declared.analysis.AnalysisFault.{AnalysisFault}
use Rattle.answer_lines.specs.declared.analysis.AnalysisFault.TheVariants.{MethodTooLong, BadBounds, TwiceBound, NoMemory}
use Rattle.answer_lines.specs.declared.analysis.Held.{Held}
use Rattle.analysis_commands.specs.declared.check.CheckRefusal.{CheckRefusal}
use Rattle.analysis_commands.specs.declared.check.CheckRefusal.TheVariants as check
use Rattle.analysis_commands.specs.Analysis.{EachFits, timing_of, number_text, named_or_number, bounds_of, IsAnalysisOf, IsAnalysisFault}
use Rattle.answer_lines.specs.BoundsFaults.{IsBoundsFault}
use Rattle.analysis_commands.specs.Checking.{method_of, ReadsBoth, IsHeld, IsCheckRefusal}
use Rattle.analysis_commands.specs.Answers.{table_name, IsMethodTooLong, IsHeldInText, IsTextFault, FailsInText, IsRefusedInText}

-- ---- a method of the table and the program's

-- both there, or both not
pub data AreAlike (name : List ℕ) (o : Option Coded) (q : Option Body) : Type 0 where
  none : o ≡ None → q ≡ None → AreAlike name o q
  some : (k : Coded) (b : Body) → o ≡ Some k → q ≡ Some b → k.name ≡ name → AreAlike name o q

pub there : (xs : List Coded) (m : ℕ) → slice_get xs m ≡ None → m < length xs → ⊥
there xs m is h = ⊎_elim (λ found. none≢some found.0 (sym is ∙ found.2)) (λ past. omega (arith, h, past.0)) (slice_get_cases xs m).1

alike : (xs : List Coded) (m : ℕ) (name : List ℕ) (o : Option Coded) (q : Option Body) → slice_get xs m ≡ o → IsSome q ↔ (m < length xs) → ((k : Coded) → o ≡ Some k → k.name ≡ name) → AreAlike name o q
alike xs m name None None e coded names = none refl refl
alike xs m name (Some k) (Some b) e coded names = some k b refl refl (names k refl)
alike xs m name None (Some b) e coded names = absurd (there xs m e (coded.0 refl))
alike xs m name (Some k) None e coded names = absurd (true≢false (sym (coded.1 (slice_get_within xs m k e))))

bound_alike : (name : List ℕ) (p : ℕ) (lines : List LoopBound) (o : Option Coded) (q : Option Body) → AreAlike name o q → onto o (λ k. bound_in k.name p lines) ≡ onto q (λ b. bound_in name p lines)
bound_alike name p lines o q (none e f) = ap (λ (x : Option Coded). onto x (λ k. bound_in k.name p lines)) e ∙ sym (ap (λ (x : Option Body). onto x (λ b. bound_in name p lines)) f)
bound_alike name p lines o q (some k b e f is) =
    ap (λ (x : Option Coded). onto x (λ k. bound_in k.name p lines)) e ∙ (ap (λ (n : List ℕ). bound_in n p lines) is ∙ sym (ap (λ (x : Option Body). onto x (λ b. bound_in name p lines)) f))

name_or : List ℕ → Option Coded → List ℕ
name_or number o = elim o [ None ↦ number | Some k ↦ k.name ]

name_if : List ℕ → (name : List ℕ) → Option Body → List ℕ
name_if number name q = elim q [ None ↦ number | Some b ↦ name ]

name_alike : (number name : List ℕ) (o : Option Coded) (q : Option Body) → AreAlike name o q → name_or number o ≡ name_if number name q
unfolding name_or name_if
name_alike number name o q (none e f) = ap (name_or number) e ∙ sym (ap (name_if number name) f)
name_alike number name o q (some k b e f is) = ap (name_or number) e ∙ (is ∙ sym (ap (name_if number name) f))

name_some : (number name : List ℕ) (q : Option Body) → IsSome q → name_if number name q ≡ name
unfolding name_if
name_some number name None is = absurd (true≢false (sym is))
name_some number name (Some b) is = refl

some_body : (q : Option Body) (Q : Body → Type 0) → IsSomeAnd q Q → IsSome q
some_body None Q h = absurd h
some_body (Some b) Q h = refl

-- ---- the table

module _ (cs : List ClassFile) (f : Flow) (flow : IsFlowOf (resolved cs) f) (names : (m : ℕ) (k : Coded) → slice_get f.methods m ≡ Some k → k.name ≡ written_name cs m) where
  pub are_alike : (m : ℕ) → AreAlike (written_name cs m) (slice_get f.methods m) (body_of (resolved cs) m)
  are_alike m = alike f.methods m (written_name cs m) (slice_get f.methods m) (body_of (resolved cs) m) refl (flow.coded m) (names m)

  pub bounds_same : (lines : List LoopBound) → table.bounds_of f lines ≡ bounds_of cs lines
  bounds_same lines = fun_ext (λ m. fun_ext (λ p. bound_alike (written_name cs m) p lines (slice_get f.methods m) (body_of (resolved cs) m) (are_alike m)))

  pub named : (m : ℕ) → table_name f m ≡ named_or_number cs m
  unfolding name_or name_if
  named m = name_alike (number_text m) (written_name cs m) (slice_get f.methods m) (body_of (resolved cs) m) (are_alike m)

  pub named_coded : (m : ℕ) → IsSome (body_of (resolved cs) m) → table_name f m ≡ written_name cs m
  unfolding name_or name_if
  named_coded m coded = named m ∙ name_some (number_text m) (written_name cs m) (body_of (resolved cs) m) coded

  -- ---- why there is no analysis

  first_at : (s : Settings) (long : TooLong) (m blocks : ℕ) → m ≡ long.method → blocks ≡ long.blocks → IsFirst (resolved cs) s.blocks s.block_words long → IsFirst (resolved cs) s.blocks s.block_words (record { method = m; blocks = blocks })
  first_at s long m blocks is_m is_blocks first =
      let N : ℕ → Type 0 = λ n. IsFirst (resolved cs) s.blocks s.block_words (record { method = n; blocks = blocks }) in
      let B : ℕ → Type 0 = λ n. IsFirst (resolved cs) s.blocks s.block_words (record { method = long.method; blocks = n }) in
      subst N (sym is_m) (subst B (sym is_blocks) first)

  pub too_long : (s : Settings) (text : List ℕ) (long : TooLong) (fault : AnalysisFault) → IsFirst (resolved cs) s.blocks s.block_words long → IsMethodTooLong f long fault → IsAnalysisFault cs s text fault
  too_long s text long (MethodTooLong m name blocks) first is =
      let at = first_at s long m blocks is.0 is.1 first in
      (at, is.2 ∙ named_coded m (some_body (body_of (resolved cs) m) _ at.code))
  too_long s text long (BadBounds line) first is = absurd is
  too_long s text long (TwiceBound line) first is = absurd is
  too_long s text long NoMemory first is = tt

pub bounds_refused : (cs : List ClassFile) (s : Settings) (text : List ℕ) (fault : AnalysisFault) → EachFits s cs → IsBoundsFault text fault → IsAnalysisFault cs s text fault
bounds_refused cs s text (MethodTooLong m name blocks) fits is = absurd is
bounds_refused cs s text (BadBounds line) fits is = (fits, is)
bounds_refused cs s text (TwiceBound line) fits is = (fits, is)
bounds_refused cs s text NoMemory fits is = tt

pub analysed : (cs : List ClassFile) (s : Settings) (text : List ℕ) (f : Flow) (t : Timing) (a : Analysis) → IsFlowOf (resolved cs) f → ((m : ℕ) (k : Coded) → slice_get f.methods m ≡ Some k → k.name ≡ written_name cs m)
    → EachFits s cs → t ≡ timing_of s → a.flow ≡ f → a.timing ≡ t → IsRead text a.bounds → IsAnalysisOf cs s text a
analysed cs s text f t a flow names fits timing same_flow same_timing read = record {
  codes_fit = fits;
  flow = subst (λ (x : Flow). IsFlowOf (resolved cs) x) (sym same_flow) flow;
  names = subst (λ (x : Flow). (m : ℕ) (k : Coded) → slice_get x.methods m ≡ Some k → k.name ≡ written_name cs m) (sym same_flow) names;
  bounds = read;
  timing = same_timing ∙ timing;
}

pub analysed_ok : (cs : List ClassFile) (s : Settings) (text : List ℕ) (f : Flow) (t : Timing) (r : Result Analysis AnalysisFault) → IsFlowOf (resolved cs) f → ((m : ℕ) (k : Coded) → slice_get f.methods m ≡ Some k → k.name ≡ written_name cs m)
    → EachFits s cs → t ≡ timing_of s → IfOk r (λ a. (a.flow ≡ f) × (a.timing ≡ t) × IsRead text a.bounds) → IfOk r (IsAnalysisOf cs s text)
analysed_ok cs s text f t (Ok a) flow names fits timing parts = analysed cs s text f t a flow names fits timing parts.0 parts.1 parts.2
analysed_ok cs s text f t (Err fault) flow names fits timing parts = tt

-- ---- the conditions

not_memory : (P : Program) (t : Timing) (b : BoundOf) (c : Certificate) (fault : CheckFault) (m : ℕ) → method_of fault ≡ Some m → IsRefusedOrMemory P t b c fault → IsCertRefused P t b c fault
not_memory P t b c (faults.Missing n) m e h = h
not_memory P t b c (faults.Member n u) m e h = h
not_memory P t b c (faults.Edge n u v) m e h = h
not_memory P t b c (faults.Exit n u) m e h = h
not_memory P t b c (faults.Region n) m e h = h
not_memory P t b c faults.NoMemory m e h = absurd (none≢some m e)

module _ (cs : List ClassFile) (s : Settings) (bounds_text : List ℕ) (a : Analysis) (is : IsAnalysisOf cs s bounds_text a) where
  reads : (cert_text : List ℕ) (c : Certificate) → AreLinesOf (text_lines cert_text) c → ReadsBoth cs s bounds_text cert_text a.bounds c
  reads cert_text c read = record { codes_fit = is.codes_fit; bounds_read = is.bounds; cert_read = read }

  same_bounds : table.bounds_of a.flow a.bounds ≡ bounds_of cs a.bounds
  same_bounds = bounds_same cs a.flow is.flow is.names a.bounds

  -- what is said with the table's bounds and timing is said with the settings'
  pub moved : (Q : Timing → BoundOf → Type 0) → Q a.timing (table.bounds_of a.flow a.bounds) → Q (timing_of s) (bounds_of cs a.bounds)
  moved Q h = subst (λ (t : Timing). Q t (bounds_of cs a.bounds)) is.timing (subst (λ (b : BoundOf). Q a.timing b) same_bounds h)

  pub held : (cert_text : List ℕ) (h : Held) → IsHeldInText a cert_text h → IsHeld cs s bounds_text cert_text h
  held cert_text h t =
      let c = t.certificate in
      let meets : MeetsConditions (resolved cs) (timing_of s) (bounds_of cs a.bounds) c = moved (λ t b. MeetsConditions (resolved cs) t b c) (t.held.meets (resolved cs) is.flow) in
      record {
        bounds = a.bounds;
        certificate = c;
        reads = reads cert_text c t.read;
        meets = meets;
        root = t.held.root;
        name = t.held.name ∙ named_coded cs a.flow is.flow is.names c.root meets.coded;
        bound = t.held.bound;
      }

  text_refused : (cert_text : List ℕ) (r : CheckRefusal) → IsTextFault cert_text r → IsCheckRefusal cs s bounds_text cert_text r
  text_refused cert_text (check.NoAnalysis fault) h = absurd h
  text_refused cert_text (check.BadCert line) h = (is.codes_fit, record { bounds = a.bounds; bounds_read = is.bounds; first = h })
  text_refused cert_text (check.Fails fault name) h = absurd h
  text_refused cert_text check.NoMemory h = tt

  fails : (cert_text : List ℕ) (r : CheckRefusal) → FailsInText a cert_text r → IsCheckRefusal cs s bounds_text cert_text r
  fails cert_text (check.NoAnalysis fault) h = absurd h.refused
  fails cert_text (check.BadCert line) h = absurd h.refused
  fails cert_text (check.Fails fault name) h =
      let c = h.certificate in
      let m = h.refused.0 in (
        record {
          bounds = a.bounds;
          certificate = c;
          reads = reads cert_text c h.read;
          refused = moved (λ t b. IsCertRefused (resolved cs) t b c fault) (not_memory (resolved cs) a.timing (table.bounds_of a.flow a.bounds) c fault m h.refused.1 (h.refused.2 (resolved cs) is.flow));
        },
        h.refused.3 ∙ (named cs a.flow is.flow is.names m ∙ ap (λ (o : Option ℕ). option_map_or (named_or_number cs) o []) (sym h.refused.1)),
      )
  fails cert_text check.NoMemory h = tt

  pub refused : (cert_text : List ℕ) (r : CheckRefusal) → IsRefusedInText a cert_text r → IsCheckRefusal cs s bounds_text cert_text r
  refused cert_text r h = ⊎_elim (text_refused cert_text r) (fails cert_text r) h

pub held_ok : (cs : List ClassFile) (s : Settings) (bounds_text cert_text : List ℕ) (a : Analysis) (r : Result Held CheckRefusal) → IsAnalysisOf cs s bounds_text a → IfOk r (IsHeldInText a cert_text) → IfOk r (IsHeld cs s bounds_text cert_text)
held_ok cs s bounds_text cert_text a (Ok h) is t = held cs s bounds_text a is cert_text h t
held_ok cs s bounds_text cert_text a (Err refusal) is t = tt

pub refused_err : (cs : List ClassFile) (s : Settings) (bounds_text cert_text : List ℕ) (a : Analysis) (r : Result Held CheckRefusal) → IsAnalysisOf cs s bounds_text a → IfErr r (IsRefusedInText a cert_text) → IfErr r (IsCheckRefusal cs s bounds_text cert_text)
refused_err cs s bounds_text cert_text a (Ok h) is t = tt
refused_err cs s bounds_text cert_text a (Err refusal) is t = refused cs s bounds_text a is cert_text refusal t
