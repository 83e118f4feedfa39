-- A text gives one list of facts, and then no line is refused.
use Rattle.std.proofs.Common.{◌≡◌, ◌≢◌, ℕ, suc, ◌+◌, List, [], ◌∷◌, ◌++◌, length, refl, sym, ◌∙◌, ap, ap₂, subst, append_assoc, arith, ◌<◌}
use Rattle.std.specs.Prelude.{Contains, AllPairs}
use Rattle.std.proofs.lemmas.List.{length-append, get_or_append_left, map-append}
use Rattle.std.proofs.Math.Seq.{get_or-append_seam}
use Rattle.ascii_text.specs.Line.{lines_of}
use Rattle.flow_facts.specs.declared.line.NumberedFact.{NumberedFact}
use Rattle.flow_facts.specs.declared.line.Subject.{Subject}
use Rattle.flow_facts.specs.declared.line.FactLine.{FactLine}
use Rattle.flow_facts.specs.declared.reading.FactsFault.{FactsFault}
use Rattle.flow_facts.specs.declared.reading.FactsFault.TheVariants as faults
use Rattle.flow_facts.specs.Lines.{words_in, IsNoFactLine, subject_of}
use Rattle.flow_facts.specs.Grammar.{SaysFacts, GiveFacts, subjects, AreFactsRead, AreFactsReadTo, IsFactTwice, AreFactsRefused}
use Rattle.flow_facts.specs.Laws.{GivesOne, ReadIsNotRefused}
use Rattle.flow_facts.proofs.WordLemmas.{one_fact}

-- ---- a line says one thing

same_fact : (n : ℕ) (line : List ℕ) (a b : NumberedFact) → SaysFacts n line (a ∷ []) → SaysFacts n line (b ∷ []) → a ≡ b
same_fact n line a b x y =
    ap₂ (λ (l : ℕ) (f : FactLine). record { line = l; fact = f }) (x.0 ∙ sym y.0) (one_fact (words_in line) a.fact b.fact x.1.1 y.1.1)

says_one : (n : ℕ) (line : List ℕ) (xs ys : List NumberedFact) → SaysFacts n line xs → SaysFacts n line ys → xs ≡ ys
says_one n line [] [] x y = refl
says_one n line [] (b ∷ []) x y = absurd (y.1.0 x)
says_one n line [] (b ∷ c ∷ cs) x y = absurd y
says_one n line (a ∷ []) [] x y = absurd (x.1.0 y)
says_one n line (a ∷ []) (b ∷ []) x y = ap (λ (z : NumberedFact). z ∷ []) (same_fact n line a b x y)
says_one n line (a ∷ []) (b ∷ c ∷ cs) x y = absurd y
says_one n line (a ∷ d ∷ ds) ys x y = absurd x

give_one : (n : ℕ) (lines : List (List ℕ)) (xs ys : List NumberedFact) → GiveFacts n lines xs → GiveFacts n lines ys → xs ≡ ys
give_one n [] xs ys x y = x ∙ sym y
give_one n (line ∷ lines) xs ys (first, rest, is, says, give) (first', rest', is', says', give') =
    is ∙ (ap₂ (λ (f r : List NumberedFact). f ++ r) (says_one n line first first' says says') (give_one (suc n) lines rest rest' give give') ∙ sym is')

pub gives_one : GivesOne
gives_one text a b x y = give_one 1 (lines_of text) a b x.given y.given

-- ---- no line is refused

-- what the lines before one gave, what it gave, and the rest
record IsSplit (n : ℕ) (before : List (List ℕ)) (line : List ℕ) (fs : List NumberedFact) : Type 0 where
  pub front : List NumberedFact
  pub said : List NumberedFact
  pub rest : List NumberedFact
  pub is : fs ≡ front ++ (said ++ rest)
  pub given : GiveFacts n before front
  pub says : SaysFacts (n + length before) line said

split : (n : ℕ) (before : List (List ℕ)) (line : List ℕ) (after : List (List ℕ)) (fs : List NumberedFact) → GiveFacts n (before ++ line ∷ after) fs → IsSplit n before line fs
split n [] line after fs (first, rest, is, says, give) =
    record { front = []; said = first; rest = rest; is = is; given = refl; says = subst (λ (k : ℕ). SaysFacts k line first) (omega arith) says }
split n (b ∷ before) line after fs (first, rest, is, says, give) =
    let s : IsSplit (suc n) before line rest = split (suc n) before line after rest give in
    record {
      front = first ++ s.front;
      said = s.said;
      rest = s.rest;
      is = is ∙ (ap (λ (r : List NumberedFact). first ++ r) s.is ∙ sym (append_assoc first s.front (s.said ++ s.rest)));
      given = (first, s.front, refl, says, s.given);
      says = subst (λ (k : ℕ). SaysFacts k line s.said) (omega arith) s.says;
    }

well_formed : (n : ℕ) (line : List ℕ) (said : List NumberedFact) → SaysFacts n line said → IsNoFactLine line → ⊥
well_formed n line [] says bad = bad.0 says
well_formed n line (b ∷ []) says bad = bad.1 b.fact says.1.1
well_formed n line (b ∷ c ∷ cs) says bad = says

pub clash : (front : List Subject) (s : Subject) (rest : List Subject) → AllPairs (λ a b. a ≢ b) (front ++ s ∷ rest) → Contains front s → ⊥
clash front s rest different (k, within, here) =
    let long : length front < length (front ++ s ∷ rest) = omega (arith, length-append front (s ∷ rest)) in
    different k (length front) s within long (get_or_append_left front (s ∷ rest) s k within ∙ (here ∙ sym (get_or-append_seam front s rest s)))

module _ (text : List ℕ) (fs : List NumberedFact) (read : AreFactsRead text fs) where
  split_at : (n : ℕ) (r : AreFactsReadTo text n) → IsSplit 1 r.before r.line fs
  split_at n r = split 1 r.before r.line r.after fs (subst (λ (ls : List (List ℕ)). GiveFacts 1 ls fs) r.lines read.given)

  not_malformed : (n : ℕ) (r : AreFactsReadTo text n) → IsNoFactLine r.line → ⊥
  not_malformed n r bad = let s = split_at n r in well_formed (1 + length r.before) r.line s.said s.says bad

  not_twice : (n : ℕ) → IsFactTwice text n → ⊥
  not_twice n t =
      let r = t.reached in
      let s = split_at n r in
      let at : n ≡ 1 + length r.before = omega (arith, r.number_is) in
      let front : r.facts ≡ s.front = give_one 1 r.before r.facts s.front r.given s.given in
      let said : s.said ≡ t.again ∷ [] = says_one (1 + length r.before) r.line s.said (t.again ∷ []) s.says (subst (λ (k : ℕ). SaysFacts k r.line (t.again ∷ [])) at t.says) in
      let is : fs ≡ s.front ++ t.again ∷ s.rest = s.is ∙ ap (λ (x : List NumberedFact). s.front ++ (x ++ s.rest)) said in
      let parts : subjects fs ≡ subjects s.front ++ subject_of t.again.fact ∷ subjects s.rest = ap subjects is ∙ map-append (λ (f : NumberedFact). subject_of f.fact) s.front (t.again ∷ s.rest) in
      clash (subjects s.front) (subject_of t.again.fact) (subjects s.rest) (subst (AllPairs (λ a b. a ≢ b)) parts read.different)
      (subst (λ (x : List NumberedFact). Contains (subjects x) (subject_of t.again.fact)) front t.there)

  not_refused : (fault : FactsFault) → AreFactsRefused text fault → fault ≡ faults.NoMemory
  not_refused (faults.Line n) (r, bad) = absurd (not_malformed n r bad)
  not_refused (faults.Twice n) t = absurd (not_twice n t)
  not_refused faults.NoMemory u = refl

pub read_is_not_refused : ReadIsNotRefused
read_is_not_refused text fs fault read refused = not_refused text fs read fault refused
