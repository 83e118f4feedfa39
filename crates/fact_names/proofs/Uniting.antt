-- Lines have one list of facts, and none of them says nothing.
use Rattle.std.proofs.Common.{◌≡◌, ℕ, List, [], ◌∷◌, ◌++◌, refl, sym, ap, ap₂, ◌∙◌, subst}
use Rattle.bytecode_model.specs.Program.{Program}
use Rattle.flow_facts.specs.declared.facts.Scope.{Scope}
use Rattle.flow_facts.specs.declared.facts.Scope.TheVariants.{In}
use Rattle.flow_facts.specs.declared.line.FactLine.{FactLine}
use Rattle.flow_facts.specs.declared.line.FactLine.TheVariants.{Total, Only}
use Rattle.flow_facts.specs.declared.line.OnlyLine.{OnlyLine}
use Rattle.flow_facts.specs.declared.line.SaidScope.{SaidScope}
use Rattle.flow_facts.specs.declared.line.SaidScope.TheVariants.{Alone, PerLoop, InMethod}
use Rattle.flow_facts.specs.declared.line.TotalLine.{TotalLine}
use Rattle.flow_facts.specs.Facts.{Facts}
use Rattle.fact_names.specs.Laws.{NamesAreOne, MeaningsAreOne, MeantIsNotRefused}
use Rattle.fact_names.specs.Named.{AreTargets, IsScopeOf, Means, MeanAll, MeansOnly, MeansTotal, Names, both_facts, count_fact}

module _ (P : Program) (name_of : ℕ → List ℕ) (one : NamesAreOne P name_of) where
  one_method : (text : List ℕ) (m n : ℕ) → Names P name_of text m → Names P name_of text n → m ≡ n
  one_method text m n a b = one m n a.0 b.0 (a.1 ∙ sym b.1)

  one_scope : (said : SaidScope) (m n u : ℕ) (a b : Scope) → IsScopeOf P name_of m u said a → IsScopeOf P name_of n u said b → a ≡ b
  one_scope Alone m n u a b x y = x ∙ sym y
  one_scope (PerLoop p) m n u a b x y = x.0 ∙ sym y.0
  one_scope (InMethod text) m n u a b x y = x.1 ∙ (ap (λ (root : ℕ). In root) (one_method text x.0 y.0 x.2 y.2) ∙ sym y.1)

  one_targets : (m n p : ℕ) (texts : List (List ℕ)) (ts us : List ℕ) → AreTargets P name_of m p texts ts → AreTargets P name_of n p texts us → ts ≡ us
  one_targets m n p [] ts us x y = x ∙ sym y
  one_targets m n p (text ∷ texts) ts us x y =
      x.2 ∙ (ap₂ (λ (t : ℕ) (others : List ℕ). t ∷ others) (one_method text x.0 y.0 x.3 y.3) (one_targets m n p texts x.1 y.1 x.5 y.5) ∙ sym y.2)

  abbrev the_targets : ℕ → ℕ → List ℕ → Facts
  the_targets p m ts = record { counts = []; targets = record { method = m; place = p; targets = ts } ∷ [] }

  one_total : (t : TotalLine) (a b : Facts) → MeansTotal P name_of t a → MeansTotal P name_of t b → a ≡ b
  one_total t a b x y =
      let m = one_method t.name x.0 y.0 x.3.named y.3.named in
      let s = one_scope t.scope x.0 y.0 _ x.1 y.1 x.3.scope_is (subst (λ (z : ℕ). IsScopeOf P name_of y.0 z t.scope y.1) refl y.3.scope_is) in
      x.2 ∙ (ap₂ (λ (z : ℕ) (scope : Scope). count_fact t z scope) m s ∙ sym y.2)

  one_only : (o : OnlyLine) (a b : Facts) → MeansOnly P name_of o a → MeansOnly P name_of o b → a ≡ b
  one_only o a b x y =
      let m = one_method o.name x.method y.method x.named y.named in
      let ts = one_targets x.method y.method o.place o.targets x.targets y.targets x.targets_are y.targets_are in
      x.fact_is ∙ (ap₂ (the_targets o.place) m ts ∙ sym y.fact_is)

  one_line : (l : FactLine) (a b : Facts) → Means P name_of l a → Means P name_of l b → a ≡ b
  one_line (Total t) a b x y = one_total t a b x y
  one_line (Only o) a b x y = one_only o a b x y

  one_list : (ls : List FactLine) (a b : Facts) → MeanAll P name_of ls a → MeanAll P name_of ls b → a ≡ b
  one_list [] a b x y = x ∙ sym y
  one_list (l ∷ ls) a b x y = x.2 ∙ (ap₂ both_facts (one_line l x.0 y.0 x.3 y.3) (one_list ls x.1 y.1 x.4 y.4) ∙ sym y.2)

pub meanings_are_one : MeaningsAreOne
meanings_are_one = λ P name_of one ls a b x y. one_list P name_of one ls a b x y

pub meant_is_not_refused : MeantIsNotRefused
meant_is_not_refused = λ P name_of before l after facts m never. refused P name_of before l after facts m never
  where
    refused : (P : Program) (name_of : ℕ → List ℕ) (before : List FactLine) (l : FactLine) (after : List FactLine) (facts : Facts) → MeanAll P name_of (before ++ l ∷ after) facts
        → ((f : Facts) → Means P name_of l f → ⊥) → ⊥
    refused P name_of [] l after facts m never = never m.0 m.3
    refused P name_of (k ∷ before) l after facts m never = refused P name_of before l after m.1 m.4 never
