-- What lines of facts say by the names that a table has they say by those of the program.
use Rattle.std.proofs.Common.{◌≡◌, ℕ, List, [], ◌∷◌, Option, Some, None, sym, ◌∙◌, ap, subst, ⊎_elim, inl, inr}
use Rattle.std.specs.Prelude.{IsSome, slice_get}
use Rattle.std.proofs.lemmas.Bool.{true≢false}
use Rattle.class_pool.specs.declared.class.ClassFile.{ClassFile}
use Rattle.program_tables.specs.Resolved.{resolved}
use Rattle.name_laws.specs.Written.{written_name}
use Rattle.bytecode_model.specs.Program.{Program, Body, body_of}
use Rattle.method_flow.specs.Flow.{Coded, Flow, IsFlowOf}
use Rattle.flow_facts.specs.declared.facts.Scope.{Scope}
use Rattle.flow_facts.specs.declared.line.FactLine.{FactLine}
use Rattle.flow_facts.specs.declared.line.FactLine.TheVariants.{Total, Only}
use Rattle.flow_facts.specs.declared.line.SaidScope.{SaidScope}
use Rattle.flow_facts.specs.declared.line.SaidScope.TheVariants.{Alone, PerLoop, InMethod}
use Rattle.flow_facts.specs.declared.line.TotalLine.{TotalLine}
use Rattle.flow_facts.specs.Facts.{Facts}
use Rattle.flow_facts.specs.Lines.{node_of}
use Rattle.fact_names.specs.declared.fault.NameFault.TheVariants as names
use Rattle.fact_names.specs.Named.{name_in, Names, IsScopeOf, AreTargets, IsSaidOf, Means, MeanAll, facts_said}
use Rattle.analysis_commands.specs.declared.facts.FactsRefusal.{FactsRefusal}
use Rattle.analysis_commands.specs.declared.facts.FactsRefusal.TheVariants.{BadFacts, TwiceFact, NoFact, NoMemory}
use Rattle.analysis_commands.specs.Facts.{AreFactsOf, IsNoFactOf, IsFactsRefusal, IsTextRefusal, AreFactsBy, IsUnnamedIn, IsRefusalBy}
use Rattle.analysis_commands.proofs.Lifting.{AreAlike, none, some, are_alike}

-- ---- two families of names of the methods with code

module _ (P : Program) (a b : ℕ → List ℕ) (same : (m : ℕ) → IsSome (body_of P m) → a m ≡ b m) where
  named_so : (text : List ℕ) (m : ℕ) → Names P a text m → Names P b text m
  named_so text m h = (h.0, sym (same m h.0) ∙ h.1)

  scoped : (m u : ℕ) (said : SaidScope) (scope : Scope) → IsScopeOf P a m u said scope → IsScopeOf P b m u said scope
  scoped m u Alone scope h = h
  scoped m u (PerLoop p) scope h = h
  scoped m u (InMethod text) scope h = (h.0, h.1, named_so text h.0 h.2)

  targeted : (m p : ℕ) (texts : List (List ℕ)) (ts : List ℕ) → AreTargets P a m p texts ts → AreTargets P b m p texts ts
  targeted m p [] ts h = h
  targeted m p (text ∷ texts) ts h = (h.0, h.1, h.2, named_so text h.0 h.3, h.4, targeted m p texts h.1 h.5)

  said_so : (t : TotalLine) (m : ℕ) (scope : Scope) → IsSaidOf P a t m scope → IsSaidOf P b t m scope
  said_so t m scope h = record { named = named_so t.name m h.named; node = h.node; scope_is = scoped m (node_of t.node) t.scope scope h.scope_is }

  pub means_so : (l : FactLine) (f : Facts) → Means P a l f → Means P b l f
  means_so (Total t) f h = (h.0, h.1, h.2, said_so t h.0 h.1 h.3)
  means_so (Only o) f h = record {
    method = h.method;
    targets = h.targets;
    named = named_so o.name h.method h.named;
    start = h.start;
    invokes = h.invokes;
    targets_are = targeted h.method o.place o.targets h.targets h.targets_are;
    fact_is = h.fact_is;
  }

  pub mean_so : (ls : List FactLine) (f : Facts) → MeanAll P a ls f → MeanAll P b ls f
  mean_so [] f h = h
  mean_so (l ∷ ls) f h = (h.0, h.1, h.2, means_so l h.0 h.3, mean_so ls h.1 h.4)

-- ---- the names of the table

name_or_none : Option Coded → List ℕ
name_or_none o = elim o [ None ↦ [] | Some k ↦ k.name ]

name_known : (name : List ℕ) (o : Option Coded) (q : Option Body) → AreAlike name o q → IsSome q → name_or_none o ≡ name
unfolding name_or_none
name_known name o q (none e f) coded = absurd (true≢false (sym (subst (λ (x : Option Body). IsSome x) f coded)))
name_known name o q (some k b e f is) coded = ap name_or_none e ∙ is

module _ (cs : List ClassFile) (f : Flow) (flow : IsFlowOf (resolved cs) f) (have_names : (m : ℕ) (k : Coded) → slice_get f.methods m ≡ Some k → k.name ≡ written_name cs m) where
  same_names : (m : ℕ) → IsSome (body_of (resolved cs) m) → name_in f m ≡ written_name cs m
  unfolding name_or_none
  same_names m coded = name_known (written_name cs m) (slice_get f.methods m) (body_of (resolved cs) m) (are_alike cs f flow have_names m) coded

  pub facts_by : (text : List ℕ) (facts : Facts) → AreFactsBy f text facts → AreFactsOf cs text facts
  facts_by text facts h = record {
    lines = h.lines;
    read = h.read;
    own = h.named.own;
    mean = mean_so (resolved cs) (name_in f) (written_name cs) same_names (facts_said h.lines) facts (h.named.mean (resolved cs) flow);
  }

  no_fact : (text : List ℕ) (number : ℕ) → IsUnnamedIn f text (names.Line number) → IsNoFactOf cs text number
  no_fact text number h =
      let u = h.unnamed in
      let before = u.before (resolved cs) flow in
      record {
        lines = h.lines;
        read = h.read;
        own = u.own;
        at = u.at;
        before = (before.0, mean_so (resolved cs) (name_in f) (written_name cs) same_names (facts_said u.at.before) before.0 before.1);
        nothing =
            λ facts says.
            u.nothing (resolved cs) flow facts (means_so (resolved cs) (written_name cs) (name_in f) (λ m coded. sym (same_names m coded)) u.at.line.fact facts says);
      }

  pub facts_refused : (text : List ℕ) (r : FactsRefusal) → IsRefusalBy f text r → IsFactsRefusal cs text r
  facts_refused text (BadFacts number) h = ⊎_elim (λ l. inl l) (λ u. inr (u.lines, u.read, u.unnamed)) h
  facts_refused text (TwiceFact number) h = h
  facts_refused text (NoFact number) h = no_fact text number h
  facts_refused text NoMemory h = tt

-- ---- the text alone

pub text_refused : (f : Flow) (text : List ℕ) (r : FactsRefusal) → IsTextRefusal text r → IsRefusalBy f text r
text_refused f text (BadFacts number) h = inl h
text_refused f text (TwiceFact number) h = h
text_refused f text (NoFact number) h = absurd h
text_refused f text NoMemory h = tt
