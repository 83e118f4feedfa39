-- Lines read one by one.
use Rattle.std.proofs.Common.{◌≡◌, ℕ, suc, ◌+◌, ◌≤◌, List, [], ◌∷◌, ◌++◌, length, append_assoc, append-nil, refl, sym, ◌∙◌, ap, subst, arith}
use Rattle.std.specs.Prelude.{◌==◌}
use Rattle.std.specs.List.{slice_split}
use Rattle.std.proofs.lemmas.List.{length-append}
use Rattle.std.proofs.lemmas.List.Splits.{length-slice_split}
use Rattle.std.proofs.lemmas.List.Sums.{count_by-le-length}
use Rattle.ascii_text.specs.Line.{lines_of, without_empty_last}
use Rattle.flow_facts.specs.declared.line.NumberedFact.{NumberedFact}
use Rattle.flow_facts.specs.declared.reading.FactsFault.{FactsFault}
use Rattle.flow_facts.specs.declared.reading.FactsFault.TheVariants as faults
use Rattle.flow_facts.specs.declared.reading.Reading.{Reading}
use Rattle.flow_facts.specs.Grammar.{SaysFacts, GiveFacts, AreFactsRead, AreFactsReadTo, AreFactsRefused}
use Rattle.flow_facts.specs.Adding.{IsReading, AddsLine, RefusesLine}

-- ---- one line more

give_more : (n : ℕ) (done : List (List ℕ)) (line : List ℕ) (fs first : List NumberedFact) → GiveFacts n done fs → SaysFacts (n + length done) line first → GiveFacts n (done ++ line ∷ []) (fs ++ first)
give_more n [] line fs first g s =
    (first, [], ap (λ b. b ++ first) g ∙ sym (append-nil first), subst (λ (k : ℕ). SaysFacts k line first) (omega arith) s, refl)
give_more n (x ∷ done) line fs first g s = (
  g.0,
  g.1 ++ first,
  ap (λ b. b ++ first) g.2 ∙ append_assoc g.0 g.1 first,
  g.3,
  give_more (suc n) done line g.1 first g.4 (subst (λ (k : ℕ). SaysFacts k line first) (omega arith) s),
)

-- the lines of a text that are read, so many, and those that are left
pub record IsReadSoFar (text : List ℕ) (number : ℕ) (left : List (List ℕ)) (r : Reading) : Type 0 where
  pub done : List (List ℕ)
  pub lines : lines_of text ≡ done ++ left
  pub count : number ≡ length done
  pub given : GiveFacts 1 done r.facts.items
  pub reading : IsReading r

pub at_first : (text : List ℕ) (left : List (List ℕ)) (r : Reading) → left ≡ lines_of text → IsReading r → r.facts.items ≡ [] → IsReadSoFar text 0 left r
at_first text left r e reading none = record { done = []; lines = sym e; count = refl; given = none; reading = reading }

pub at_last : (text : List ℕ) (number : ℕ) (left : List (List ℕ)) (r : Reading) → IsReadSoFar text number left r → left ≡ [] → AreFactsRead text r.facts.items
at_last text number left r h e = record {
  given = subst (λ ls. GiveFacts 1 ls r.facts.items) (sym (h.lines ∙ ap (λ l. h.done ++ l) e ∙ append-nil h.done)) h.given;
  different = h.reading.different;
}

reached : (text : List ℕ) (number : ℕ) (left rest : List (List ℕ)) (line : List ℕ) (r : Reading) → IsReadSoFar text number left r → left ≡ line ∷ rest → AreFactsReadTo text (number + 1)
reached text number left rest line r h e = record {
  before = h.done;
  line = line;
  after = rest;
  lines = h.lines ∙ ap (λ l. h.done ++ l) e;
  number_is = omega (arith, h.count);
  facts = r.facts.items;
  given = h.given;
  different = h.reading.different;
}

pub next_line : (text : List ℕ) (number : ℕ) (left rest : List (List ℕ)) (line : List ℕ) (r s : Reading) → IsReadSoFar text number left r → left ≡ line ∷ rest
    → IsReading s → AddsLine (number + 1) line r.facts.items s.facts.items → IsReadSoFar text (number + 1) rest s
next_line text number left rest line r s h e reading adds = record {
  done = h.done ++ line ∷ [];
  lines = h.lines ∙ ap (λ l. h.done ++ l) e ∙ sym (append_assoc h.done (line ∷ []) rest);
  count = omega (arith, h.count, length-append h.done (line ∷ []));
  given = subst (GiveFacts 1 (h.done ++ line ∷ [])) (sym adds.new_is)
      (give_more 1 h.done line r.facts.items adds.said h.given (subst (λ (k : ℕ). SaysFacts k line adds.said) (omega (arith, h.count)) adds.says));
  reading = reading;
}

-- ---- the number of lines

shorter : (pieces : List (List ℕ)) → length (without_empty_last pieces) ≤ length pieces
shorter [] = omega arith
shorter ([] ∷ []) = omega arith
shorter ((x ∷ xs) ∷ []) = omega arith
shorter (piece ∷ next ∷ pieces) = omega (arith, shorter (next ∷ pieces))

pub count_fits : (text : List ℕ) (number : ℕ) (left rest : List (List ℕ)) (line : List ℕ) (r : Reading) → IsReadSoFar text number left r → left ≡ line ∷ rest → number ≤ length text
count_fits text number left rest line r h e =
    omega (arith, shorter (slice_split (λ byte. byte == 10) text), length-slice_split (λ byte. byte == 10) text, count_by-le-length (λ byte. byte == 10) text, h.count, ap length h.lines, length-append h.done left, ap length e)

-- ---- what is refused

pub refused : (text : List ℕ) (number : ℕ) (left rest : List (List ℕ)) (line : List ℕ) (r : Reading) (fault : FactsFault) → IsReadSoFar text number left r → left ≡ line ∷ rest
    → RefusesLine (number + 1) line r.facts.items fault → AreFactsRefused text fault
unfolding reached
refused text number left rest line r (faults.Line n) h e (is, bad) =
    subst (λ (k : ℕ). AreFactsRefused text (faults.Line k)) (sym is) (reached text number left rest line r h e, bad)
refused text number left rest line r (faults.Twice n) h e (is, (again, says, there)) =
    subst (λ (k : ℕ). AreFactsRefused text (faults.Twice k)) (sym is)
    (record { reached = reached text number left rest line r h e; again = again; says = says; there = there })
refused text number left rest line r faults.NoMemory h e u = tt
