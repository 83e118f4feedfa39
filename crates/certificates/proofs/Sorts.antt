-- Sorts of sections: which of those that are kept are the same as another.
use Rattle.std.proofs.Common.{◌≡◌, ◌≢◌, ℕ, Bool, true, false, ◌&&◌, List, [], ◌∷◌, ◌++◌, sym, ◌∙◌, ap, ap₂, inl, inr, eqb}
use Rattle.std.specs.Prelude.{All, if◌then◌else◌}
use Rattle.std.specs.List.{list_any}
use Rattle.std.specs.Cmp.{booleans_Decides}
use Rattle.std.proofs.Math.Bool.{beq}
use Rattle.std.proofs.lemmas.Bool.{and_parts, and_from, or_parts, or_cases, eqb-true, eq-eqb, true≢false, false≢true}
use Rattle.std.proofs.lemmas.List.Elements.{All-nil, All-cons, All-head, All-tail}
use Rattle.indexmap.specs.IndexSet.{insert_key}
use Rattle.certificates.specs.declared.cert.SectionSort.{SectionSort}

abbrev pub same_sort : SectionSort → SectionSort → Bool
same_sort a b = eqb a.method b.method && beq a.inside b.inside

sort_is : (a b : SectionSort) → same_sort a b ≡ true → a ≡ b
sort_is a b h =
    let both = and_parts (eqb a.method b.method) (beq a.inside b.inside) h in
    let method : a.method ≡ b.method = eqb-true a.method b.method both.0 in
    let inside : a.inside ≡ b.inside = (booleans_Decides a.inside b.inside).0 both.1 in
    ap₂ (λ (m : ℕ) (i : Bool). record { method = m; inside = i }) method inside

is_sort : (a b : SectionSort) → a ≡ b → same_sort a b ≡ true
is_sort a b e = and_from (eqb a.method b.method) (beq a.inside b.inside) (eq-eqb a.method b.method (ap (λ (s : SectionSort). s.method) e)) ((booleans_Decides a.inside b.inside).1 (ap (λ (s : SectionSort). s.inside) e))

abbrev DiffersFrom : SectionSort → SectionSort → Type 0
DiffersFrom k a = a ≢ k

pub all_differ : (ks : List SectionSort) (k : SectionSort) → list_any (same_sort k) ks ≡ false → All (λ a. a ≢ k) ks
all_differ [] k h = All-nil (DiffersFrom k)
all_differ (x ∷ ks) k h =
    let both = or_parts (same_sort k x) (list_any (same_sort k) ks) h in
    All-cons (DiffersFrom k) x ks (λ e. true≢false (sym (is_sort k x (sym e)) ∙ both.0)) (all_differ ks k both.1)

pub some_same : (ks : List SectionSort) (k : SectionSort) → list_any (same_sort k) ks ≡ true → All (λ a. a ≢ k) ks → ⊥
some_same [] k h a = false≢true h
some_same (x ∷ ks) k h a = elim (or_cases (same_sort k x) (list_any (same_sort k) ks) h) [
  | inl e ↦ All-head (DiffersFrom k) x ks a (sym (sort_is k x e))
  | inr e ↦ some_same ks k e (All-tail (DiffersFrom k) x ks a)
]

-- a sort that is new goes behind the others
pub inserted : (ks more : List SectionSort) (k : SectionSort) → more ≡ insert_key same_sort ks k → list_any (same_sort k) ks ≡ false → more ≡ ks ++ k ∷ []
inserted ks more k e h = e ∙ ap (λ (t : Bool). if t then ks else ks ++ k ∷ []) h
