-- What lines mean, or the first that is refused, by what was found of each.
use Rattle.std.proofs.Common.{◌≡◌, ℕ, zero, suc, ◌+◌, ◌<◌, List, [], ◌∷◌, ◌++◌, length, get_or, take, drop, map, Option, Some, None, refl, sym, ap, ap₂, ◌∙◌, subst, add-one}
use Rattle.std.specs.Prelude.{slice_get}
use Rattle.std.proofs.Math.Seq.{take-suc}
use Rattle.std.proofs.lemmas.List.{map-append}
use Rattle.std.proofs.lemmas.List.Elements.{All-push, All-take}
use Rattle.std.proofs.lemmas.Option.{slice_get_within, get_or_from_slice_get}
use Rattle.method_flow.specs.Flow.{Flow}
use Rattle.flow_facts.specs.declared.line.NumberedFact.{NumberedFact}
use Rattle.flow_facts.specs.Facts.{Facts}
use Rattle.fact_names.specs.declared.fault.NameFault.{NameFault}
use Rattle.fact_names.specs.declared.fault.NameFault.TheVariants as faults
use Rattle.fact_names.specs.declared.naming.Found.{Found}
use Rattle.fact_names.specs.Named.{MeanAll, facts_said, name_in}
use Rattle.fact_names.specs.Refused.{AreNamed, AreOwn, AreUnnamed, IsFirstNoFact, IsFirstOther, IsOwn}
use Rattle.fact_names.specs.Found.{AreAllFound, AreFoundBelow, AreFoundIn, IsFirstMissing, IsFoundBelow, IsMissing, facts_of}
use Rattle.fact_names.proofs.Meaning.{mean_all, mean_before, means_nothing}

-- a list, parted at an item
pub parted : (ls : List NumberedFact) (i : ℕ) (l : NumberedFact) → slice_get ls i ≡ Some l → ls ≡ take i ls ++ l ∷ drop (suc i) ls
parted [] i l e = absurd (let h : None ≡ Some l = e in cc)
parted (k ∷ ls) zero l e = let same : k ≡ l = cc in ap (λ (z : NumberedFact). z ∷ ls) same
parted (k ∷ ls) (suc i) l e = ap (λ (zs : List NumberedFact). k ∷ zs) (parted ls i l e)

pub first_other : (ls : List NumberedFact) (i : ℕ) (l : NumberedFact) → slice_get ls i ≡ Some l → AreOwn (take i ls) → (IsOwn l.fact → ⊥) → IsFirstOther ls l.line
first_other ls i l e own other =
    record { at = record { before = take i ls; line = l; after = drop (suc i) ls; lines_are = parted ls i l e; number_is = refl }; own = own; other = other }

-- with one line more
pub next_own : (ls : List NumberedFact) (i : ℕ) (l : NumberedFact) → slice_get ls i ≡ Some l → AreOwn (take i ls) → IsOwn l.fact → AreOwn (take (i + 1) ls)
next_own ls i l e own is =
    let same : get_or ls i l ≡ l = get_or_from_slice_get ls i l l e in
    let more : take (i + 1) ls ≡ take i ls ++ l ∷ [] = ap (λ (n : ℕ). take n ls) (add-one i) ∙ (take-suc ls i l (slice_get_within ls i l e) ∙ ap (λ (z : NumberedFact). take i ls ++ z ∷ []) same) in
    subst (λ (zs : List NumberedFact). AreOwn zs) (sym more) (All-push (λ (z : NumberedFact). IsOwn z.fact) (take i ls) l own is)

pub next_found : (found : List (Option Found)) (i : ℕ) (xs : List Found) (x : Found) → i < length found → get_or found i None ≡ Some x → take i found ≡ map (λ x. Some x) xs
    → take (i + 1) found ≡ map (λ x. Some x) (xs ++ x ∷ [])
next_found found i xs x lt is before =
    ap (λ (n : ℕ). take n found) (add-one i)
    ∙ (take-suc found i None lt ∙ (ap₂ (λ (fs : List (Option Found)) (o : Option Found). fs ++ o ∷ []) before is ∙ sym (map-append (λ (y : Found). Some y) xs (x ∷ []))))

module _ (f : Flow) (lines : List NumberedFact) (found : List (Option Found)) (own : AreOwn lines) (in_table : AreFoundIn f lines (length f.methods) found) where
  pub named : (facts : Facts) → AreAllFound found facts → AreNamed f lines facts
  named facts a = record {
    own = own;
    mean = λ P flow.
        subst (λ (fs : Facts). MeanAll P (name_in f) (facts_said lines) fs) (sym a.facts_are)
        (mean_all P (name_in f) (length f.methods) lines a.items own (subst (λ (fs : List (Option Found)). AreFoundBelow P (name_in f) lines (length f.methods) fs) a.each (in_table P flow)));
  }

  own_line : (i : ℕ) (l : NumberedFact) → slice_get lines i ≡ Some l → IsOwn l.fact
  own_line i l e =
      let lt = slice_get_within lines i l e in
      let at = get_or_from_slice_get lines i l l e in
      subst (λ (z : NumberedFact). IsOwn z.fact) at (own i l lt)

  first_no_fact : (number : ℕ) → IsFirstMissing lines found number → IsFirstNoFact f lines number
  first_no_fact number m =
      record {
        own = own;
        at = record { before = take m.index lines; line = m.line; after = drop (suc m.index) lines; lines_are = parted lines m.index m.line m.there; number_is = m.number_is };
        before = λ P flow. (
          facts_of m.before,
          mean_before P (name_in f) (length f.methods) m.index lines found m.before (All-take (λ (l : NumberedFact). IsOwn l.fact) m.index lines own) m.found_before (in_table P flow),
        );
        nothing = λ P flow.
            means_nothing P f m.line.fact flow (own_line m.index m.line m.there)
            (subst (λ (z : Option Found). IsFoundBelow P (name_in f) m.line.fact (length f.methods) z) m.missing
            ((in_table P flow).each m.index m.line m.there (own_line m.index m.line m.there)));
      }

  pub unnamed : (fault : NameFault) → IsMissing lines found fault → AreUnnamed f lines fault
  unnamed (faults.Scope number) m = absurd m
  unnamed (faults.Line number) m = first_no_fact number m
  unnamed faults.NoMemory m = tt
