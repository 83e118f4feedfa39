-- What is answered by facts of a certificate, by the table of a program, holds of the program.
use Rattle.std.proofs.Common.{◌≡◌, ℕ, List, Option, Some, sym, ◌∙◌, ap, subst, ⊎_elim, inl, inr, []}
use Rattle.std.specs.Prelude.{Result, Ok, Err, IfOk, IfErr}
use Rattle.std.specs.Option.{option_map_or}
use Rattle.lists.proofs.Lemmas.{none≢some}
use Rattle.class_pool.specs.declared.class.ClassFile.{ClassFile}
use Rattle.program_tables.specs.Resolved.{resolved}
use Rattle.command_line.specs.declared.command.Settings.{Settings}
use Rattle.bytecode_model.specs.Program.{Program}
use Rattle.method_flow.specs.declared.timing.Timing.{Timing}
use Rattle.method_flow.specs.Keeping.{BoundOf}
use Rattle.node_costs.specs.Costs as table
use Rattle.ascii_text.specs.Line.{lines_of as text_lines}
use Rattle.bound_rules.specs.declared.faults.CheckFault.{CheckFault}
use Rattle.bound_rules.specs.declared.faults.CheckFault.TheVariants as checks
use Rattle.flow_facts.specs.Facts.{Facts}
use Rattle.priced_cert.specs.Certificate.{PricedCertificate}
use Rattle.priced_cert.specs.Texts.{ArePricedLinesOf, SaysPriced}
use Rattle.fact_rules.specs.Conditions.{MeetsPrices}
use Rattle.fact_rules.specs.declared.faults.PricedFault.{PricedFault}
use Rattle.fact_rules.specs.declared.faults.PricedFault.TheVariants as faults
use Rattle.fact_rules.specs.Refused.{IsRefusedWithPrices, IsRefusedWithPricesOrMemory}
use Rattle.answer_lines.specs.declared.analysis.Held.{Held}
use Rattle.analysis_commands.specs.declared.analysis.Analysis.{Analysis}
use Rattle.analysis_commands.specs.declared.check.CheckRefusal.{CheckRefusal}
use Rattle.analysis_commands.specs.declared.check.CheckRefusal.TheVariants.{NoAnalysis, BadCert, Fails, NoMemory}
use Rattle.analysis_commands.specs.declared.priced_check.NotHeld.{NotHeld}
use Rattle.analysis_commands.specs.declared.priced_check.NotHeld.TheVariants.{NoFacts, NoPrice, Refused}
use Rattle.analysis_commands.specs.Analysis.{timing_of, bounds_of, named_or_number, IsAnalysisOf}
use Rattle.analysis_commands.specs.Answers.{table_name}
use Rattle.analysis_commands.specs.Checking.{method_of}
use Rattle.analysis_commands.specs.Facts.{AreFactsBy, AreFactsOf}
use Rattle.analysis_commands.specs.PricedChecks.{ReadsFacts, IsHeldWith, IsHeldByFacts, IsRefusedByFacts, IsPricedRefusal, IsNotHeldWith, RefusesOf, IsNoPriceOf, IsFailureOf}
use Rattle.analysis_commands.specs.PricedChecks.{IsUnheldPriced, IsPricedTextFault, IsHeldInPriced, IsUnheldInPriced, IsUnheldInBoth, IsHeldByTexts, IsUnheldByTexts}
use Rattle.analysis_commands.proofs.Lifting.{moved, held, refused, named, named_coded}
use Rattle.analysis_commands.proofs.FactLines.{facts_by, facts_refused}

-- ---- by the table

-- a price without a fact
pub no_price : (a : Analysis) (facts : Facts) (c : PricedCertificate) (m u : ℕ) (r : NotHeld) → RefusesOf a facts c (faults.Price m u) → IsNoPriceOf a.flow m u r
    → IsUnheldPriced a facts c r
no_price a facts c m u (NoFacts refusal) refuses h = absurd h
no_price a facts c m u (NoPrice method node name) refuses h =
    let at_node = subst (λ (n : ℕ). RefusesOf a facts c (faults.Price m n)) (sym h.1) refuses in
    (subst (λ (n : ℕ). RefusesOf a facts c (faults.Price n node)) (sym h.0) at_node, h.2 ∙ ap (table_name a.flow) (sym h.0))
no_price a facts c m u (Refused refusal) refuses h = subst (λ (x : CheckRefusal). IsUnheldPriced a facts c (Refused x)) (sym h) tt

-- a condition that fails
pub failure : (a : Analysis) (facts : Facts) (c : PricedCertificate) (fault : CheckFault) (r : NotHeld) → RefusesOf a facts c (faults.Check fault) → IsFailureOf a.flow fault r
    → IsUnheldPriced a facts c r
failure a facts c fault (NoFacts refusal) refuses h = absurd h
failure a facts c fault (NoPrice method node name) refuses h = absurd h
failure a facts c fault (Refused (Fails it name)) refuses h = (
  subst (λ (x : CheckFault). RefusesOf a facts c (faults.Check x)) (sym h.0) refuses,
  h.1,
  subst (λ (x : CheckFault). method_of x ≡ Some h.1) (sym h.0) h.2,
  h.3,
)
failure a facts c fault (Refused (NoAnalysis it)) refuses h = subst (λ (x : CheckRefusal). IsUnheldPriced a facts c (Refused x)) (sym h) tt
failure a facts c fault (Refused (BadCert line)) refuses h = subst (λ (x : CheckRefusal). IsUnheldPriced a facts c (Refused x)) (sym h) tt
failure a facts c fault (Refused NoMemory) refuses h = tt

-- ---- of the program

no_memory : (P : Program) (t : Timing) (b : BoundOf) (facts : Facts) (c : PricedCertificate) (fault : CheckFault) (m : ℕ) → method_of fault ≡ Some m
    → IsRefusedWithPricesOrMemory P t b facts c (faults.Check fault) → IsRefusedWithPrices P t b facts c (faults.Check fault)
no_memory P t b facts c (checks.Missing n) m e h = h
no_memory P t b facts c (checks.Member n u) m e h = h
no_memory P t b facts c (checks.Edge n u v) m e h = h
no_memory P t b facts c (checks.Exit n u) m e h = h
no_memory P t b facts c (checks.Region n) m e h = h
no_memory P t b facts c checks.NoMemory m e h = absurd (none≢some m e)

module _ (cs : List ClassFile) (s : Settings) (bounds_text : List ℕ) (a : Analysis) (is : IsAnalysisOf cs s bounds_text a) (facts_text cert_text : List ℕ) where
  facts_of : (facts : Facts) → AreFactsBy a.flow facts_text facts → AreFactsOf cs facts_text facts
  facts_of facts h = facts_by cs a.flow is.flow is.names facts_text facts h

  reads : (facts : Facts) → AreFactsBy a.flow facts_text facts → ReadsFacts cs s bounds_text facts_text a.bounds facts
  reads facts h = record { codes_fit = is.codes_fit; bounds_read = is.bounds; facts_are = facts_of facts h }

  held_priced : (facts : Facts) → AreFactsBy a.flow facts_text facts → (h : Held) → IsHeldInPriced a facts cert_text h → IsHeldWith cs s bounds_text facts_text cert_text h
  held_priced facts by h t =
      let c = t.0 in
      let meets : MeetsPrices (resolved cs) (timing_of s) (bounds_of cs a.bounds) facts c = moved cs s bounds_text a is (λ t b. MeetsPrices (resolved cs) t b facts c) (t.2.meets (resolved cs) is.flow) in
      record {
        bounds = a.bounds;
        facts = facts;
        reads = reads facts by;
        certificate = c;
        cert_read = t.1;
        meets = meets;
        root = t.2.root;
        name = t.2.name ∙ named_coded cs a.flow is.flow is.names c.plain.root meets.coded;
        bound = t.2.bound;
      }

  held_by_facts : (h : Held) → IsHeldByTexts a facts_text cert_text h → IsHeldByFacts cs s bounds_text facts_text cert_text h
  held_by_facts h t = ⊎_elim (λ p. inl ((t.0, facts_of t.0 t.1), held cs s bounds_text a is cert_text h p)) (λ q. inr (held_priced t.0 t.1 h q)) t.2

  -- ---- refusals

  by_facts : (facts : Facts) → AreFactsBy a.flow facts_text facts → (c : PricedCertificate) → ArePricedLinesOf (text_lines cert_text) c → (fault : PricedFault)
      → IsRefusedWithPrices (resolved cs) a.timing (table.bounds_of a.flow a.bounds) facts c fault → IsRefusedByFacts cs s bounds_text facts_text cert_text fault
  by_facts facts by c read fault h = record {
    bounds = a.bounds;
    facts = facts;
    reads = reads facts by;
    certificate = c;
    cert_read = read;
    refused = moved cs s bounds_text a is (λ t b. IsRefusedWithPrices (resolved cs) t b facts c fault) h;
  }

  bad_text : (facts : Facts) → AreFactsBy a.flow facts_text facts → SaysPriced (text_lines cert_text) → (r : CheckRefusal) → IsPricedTextFault cert_text r
      → IsPricedRefusal cs s bounds_text facts_text cert_text r
  bad_text facts by says (NoAnalysis fault) h = absurd h
  bad_text facts by says (BadCert line) h = record { bounds = a.bounds; facts = facts; reads = reads facts by; priced = says; first = h }
  bad_text facts by says (Fails fault name) h = absurd h
  bad_text facts by says NoMemory h = tt

  unheld_priced : (facts : Facts) → AreFactsBy a.flow facts_text facts → (c : PricedCertificate) → ArePricedLinesOf (text_lines cert_text) c → (r : NotHeld)
      → IsUnheldPriced a facts c r → IsNotHeldWith cs s bounds_text facts_text cert_text r
  unheld_priced facts by c read (NoFacts refusal) h = absurd h
  unheld_priced facts by c read (NoPrice m u name) h =
      (by_facts facts by c read (faults.Price m u) (h.0 (resolved cs) is.flow), h.1 ∙ named cs a.flow is.flow is.names m)
  unheld_priced facts by c read (Refused (NoAnalysis fault)) h = absurd h
  unheld_priced facts by c read (Refused (BadCert line)) h = absurd h
  unheld_priced facts by c read (Refused (Fails fault name)) h =
      let known = no_memory (resolved cs) a.timing (table.bounds_of a.flow a.bounds) facts c fault h.1 h.2 (h.0 (resolved cs) is.flow) in
      inr (
        by_facts facts by c read (faults.Check fault) known,
        h.3 ∙ (named cs a.flow is.flow is.names h.1 ∙ ap (λ (o : Option ℕ). option_map_or (named_or_number cs) o []) (sym h.2)),
      )
  unheld_priced facts by c read (Refused NoMemory) h = inr tt

  in_priced : (facts : Facts) → AreFactsBy a.flow facts_text facts → SaysPriced (text_lines cert_text) → (r : NotHeld) → IsUnheldInPriced a facts cert_text r
      → IsNotHeldWith cs s bounds_text facts_text cert_text r
  in_priced facts by says r h =
      ⊎_elim (λ x. subst (λ (y : NotHeld). IsNotHeldWith cs s bounds_text facts_text cert_text y) (sym x.1) (inr (bad_text facts by says x.0 x.2)))
      (λ x. unheld_priced facts by x.0 x.1 r x.2) h

  in_both : (facts : Facts) → AreFactsBy a.flow facts_text facts → (r : NotHeld) → IsUnheldInBoth a facts cert_text r → IsNotHeldWith cs s bounds_text facts_text cert_text r
  in_both facts by r h =
      ⊎_elim
      (λ x. subst (λ (y : NotHeld). IsNotHeldWith cs s bounds_text facts_text cert_text y) (sym x.1)
      (inl (record { other = x.2; facts = facts; facts_are = facts_of facts by; refused = refused cs s bounds_text a is cert_text x.0 x.3 })))
      (λ x. in_priced facts by x.0 r x.1) h

  unheld : (r : NotHeld) → IsUnheldByTexts a facts_text cert_text r → IsNotHeldWith cs s bounds_text facts_text cert_text r
  unheld r h =
      ⊎_elim
      (λ x. subst (λ (y : NotHeld). IsNotHeldWith cs s bounds_text facts_text cert_text y) (sym x.1)
      ((is.codes_fit, (a.bounds, is.bounds)), facts_refused cs a.flow is.flow is.names facts_text x.0 x.2))
      (λ x. in_both x.0 x.1 r x.2) h

  pub held_with_ok : (r : Result Held NotHeld) → IfOk r (IsHeldByTexts a facts_text cert_text) → IfOk r (IsHeldByFacts cs s bounds_text facts_text cert_text)
  held_with_ok (Ok h) t = held_by_facts h t
  held_with_ok (Err refusal) t = tt

  pub unheld_err : (r : Result Held NotHeld) → IfErr r (IsUnheldByTexts a facts_text cert_text) → IfErr r (IsNotHeldWith cs s bounds_text facts_text cert_text)
  unheld_err (Ok h) t = tt
  unheld_err (Err refusal) t = unheld refusal t
