-- One fact more.
use Rattle.std.proofs.Common.{◌≡◌, ◌≢◌, ℕ, Bool, true, false, List, [], ◌∷◌, ◌++◌, refl, sym, ◌∙◌, ap, subst}
use Rattle.std.specs.Prelude.{Contains, AllPairs}
use Rattle.std.proofs.lemmas.List.{map-append}
use Rattle.flow_facts.specs.declared.line.NumberedFact.{NumberedFact}
use Rattle.flow_facts.specs.declared.line.FactLine.{FactLine}
use Rattle.flow_facts.specs.declared.line.Subject.{Subject}
use Rattle.flow_facts.specs.declared.reading.Reading.{Reading}
use Rattle.flow_facts.specs.Lines.{subject_of, IsFactLine}
use Rattle.flow_facts.specs.Grammar.{subjects, SaysFacts}
use Rattle.flow_facts.specs.Adding.{AddsNew, IsReading, AddsFact}
use Rattle.flow_facts.proofs.AddingLemmas.{still_apart}

-- a subject that isn't new is that of a fact
pub again : (r : Reading) (s t : Subject) (keys : List Subject) (b : Bool) → IsReading r → s ≡ t → AddsNew r.subjects.keys s keys b → b ≡ false → Contains (subjects r.facts.items) t
again r s t keys b reading same adds e =
    let there : Contains r.subjects.keys s = (subst (AddsNew r.subjects.keys s keys) e adds).0 in
    subst (Contains (subjects r.facts.items)) same (subst (λ (ks : List Subject). Contains ks s) reading.kept there)

-- a fact whose subject is new goes behind the others
pub goes_behind : (r next : Reading) (fact : NumberedFact) (s : Subject) (b : Bool) → IsReading r → s ≡ subject_of fact.fact → AddsNew r.subjects.keys s next.subjects.keys b → b ≡ true
    → next.facts.items ≡ r.facts.items ++ fact ∷ [] → AddsFact r fact next
goes_behind r next fact s b reading same adds e is =
    let new = subst (AddsNew r.subjects.keys s next.subjects.keys) e adds in
    let more : subjects next.facts.items ≡ subjects r.facts.items ++ subject_of fact.fact ∷ [] = ap subjects is ∙ map-append (λ (f : NumberedFact). subject_of f.fact) r.facts.items (fact ∷ []) in
    let none : ¬ Contains (subjects r.facts.items) (subject_of fact.fact) = λ there.
    new.0 (subst (Contains r.subjects.keys) (sym same) (subst (λ (ks : List Subject). Contains ks (subject_of fact.fact)) (sym reading.kept) there)) in (
      record {
        kept = new.1 ∙ (ap (λ (ks : List Subject). ks ++ s ∷ []) reading.kept ∙ (ap (λ (x : Subject). subjects r.facts.items ++ x ∷ []) same ∙ sym more));
        different = subst (AllPairs (λ a b. a ≢ b)) (sym more) (still_apart (subjects r.facts.items) (subject_of fact.fact) reading.different none);
      },
      is,
    )

-- a fact of a line that none of the facts may say again
pub said_again : (r : Reading) (number : ℕ) (line : List ℕ) (fact : FactLine) → IsFactLine line fact → Contains (subjects r.facts.items) (subject_of fact)
    → (number ≡ number) × ((again : NumberedFact) × SaysFacts number line (again ∷ []) × Contains (subjects r.facts.items) (subject_of again.fact))
said_again r number line fact says there = (refl, (record { line = number; fact = fact }, (refl, says), there))
