-- The lines of a method, one after another.
use Rattle.std.proofs.Common.{◌≡◌, ℕ, ◌+◌, ◌<◌, ◌≤◌, List, [], ◌∷◌, ◌++◌, length, map, take, get_or, Contains, Ok, sym, ap, ◌∙◌, subst, inl, inr, arith}
use Rattle.std.specs.Prelude.{Some}
use Rattle.std.specs.List.Sorted.{IsStrictlyIncreasing}
use Rattle.std.proofs.lemmas.List.{take_more, take_all, map-append, get_or-map, get_or_default, length-map}
use Rattle.std.proofs.lemmas.List.Elements.{Contains-append_cases}
use Rattle.opcodes.specs.declared.instruction.Instr.{Instr}
use Rattle.opcodes.specs.Instruction.{decoded}
use Rattle.opcodes.specs.Start.{IsStart, starts_of}
use Rattle.lists.specs.Members.{cons_cases, nil_contains, place_of}
use Rattle.bytecode_model.specs.Program.{Program, Operand}
use Rattle.bytecode_model.specs.Rows.{Row}
use Rattle.bytecode_model.specs.Table.{row_of}
use Rattle.method_flow.specs.Flow.{Coded, IsCodedOf}
use Rattle.code_lines.specs.Lines.{IsLine}
use Rattle.code_lines.specs.Laws.{LinesAreRead, LinesAreOne}
use Rattle.code_scan.specs.declared.rows.IntRow.{IntRow}
use Rattle.code_scan.specs.declared.rows.IntRow.TheVariants.{Other}
use Rattle.code_scan.specs.declared.lines.IntLine.{IntLine}
use Rattle.code_scan.specs.Rows.{Tells}
use Rattle.code_scan.specs.Lines.{IsIntLine, IsToldBy, AreIntLines}
use Rattle.code_scan.proofs.NamedPlaces.{row_here, start_here}

pub told_line : LinesAreRead → (k : Coded) (p : ℕ) → IsStart k.code p → (i : Instr) → decoded k.code p ≡ Ok i → (t : IntRow) → ((code : List ℕ) (o : Operand) (r : Row) → row_of code i o ≡ Some r → Tells t r)
    → (P : Program) (m : ℕ) → IsCodedOf P m k → IsIntLine P m (record { place = p; next = p + i.length; row = t })
told_line read k p start i is t tells P m of =
    let h = row_here read P m k of p start i is in
    (h.0, h.1, tells h.2.0 (P.operand m p) h.0 h.2.1)

-- the lines of the first so many starts
pub record AreFirst (k : Coded) (starts : List ℕ) (n : ℕ) (ls : List IntLine) : Type 0 where
  pub places : map (λ l. l.place) ls ≡ take n starts
  pub each : (l : IntLine) → Contains ls l → (P : Program) (m : ℕ) → IsCodedOf P m k → IsIntLine P m l

pub first_more : (k : Coded) (starts : List ℕ) (n : ℕ) (ls : List IntLine) (l : IntLine) → n < length starts → AreFirst k starts n ls → l.place ≡ get_or starts n 0 → ((P : Program) (m : ℕ) → IsCodedOf P m k → IsIntLine P m l)
    → AreFirst k starts (n + 1) (ls ++ l ∷ [])
first_more k starts n ls l lt h place is = record {
  places = map-append (λ (x : IntLine). x.place) ls (l ∷ []) ∙ (ap (λ (ps : List ℕ). ps ++ l.place ∷ []) h.places ∙ (ap (λ (p : ℕ). take n starts ++ p ∷ []) place ∙ sym (take_more starts n 0 lt)));
  each = λ x has. elim (Contains-append_cases ls (l ∷ []) x has) [
    | inl there ↦ h.each x there
    | inr last ↦ elim (cons_cases l x [] last) [
      | inl same ↦ subst (λ (y : IntLine). (P : Program) (m : ℕ) → IsCodedOf P m k → IsIntLine P m y) same is
      | inr none ↦ absurd (nil_contains x none)
    ]
  ];
}

pub all_lines : LinesAreRead → LinesAreOne → (k : Coded) (starts : List ℕ) (n : ℕ) (ls : List IntLine) → starts ≡ starts_of k.code → IsStrictlyIncreasing (starts_of k.code) → length starts ≤ n → AreFirst k starts n ls
    → (P : Program) (m : ℕ) → IsCodedOf P m k → AreIntLines P m ls
all_lines read one k starts n ls are up past h P m of = record {
  rising = subst IsStrictlyIncreasing (sym places) up;
  each = each;
  only = λ l has. h.each l has P m of;
}
  where
    places : map (λ l. l.place) ls ≡ starts_of k.code
    places = h.places ∙ (take_all n starts past ∙ are)

    at_index : (p next : ℕ) (r : Row) → IsLine P m p next r → (j : ℕ) → j < length ls → (l : IntLine) → get_or ls j l ≡ l → l.place ≡ p → IsToldBy ls p next r
    at_index p next r line j lt l here same =
        let has : Contains ls l = (j, lt, here) in
        let told = h.each l has P m of in
        let there : IsLine P m p l.next told.0 = subst (λ (x : ℕ). IsLine P m x l.next told.0) same told.1 in
        let e = one P m p l.next next told.0 r there line in
        (l, has, same, e.0, subst (Tells l.row) e.1 told.2)

    each : (p next : ℕ) (r : Row) → IsLine P m p next r → IsToldBy ls p next r
    each p next r line =
        let start = start_here read P m k of p next r line in
        let at = place_of (map (λ (x : IntLine). x.place) ls) p (subst (λ (ps : List ℕ). Contains ps p) (sym places) start) in
        let long = length-map ls (λ (x : IntLine). x.place) in
        let below = at.1 in
        let none : IntLine = record { place = 0; next = 0; row = Other } in
        let l = get_or ls at.0 none in
        let lt : at.0 < length ls = omega arith in
        let same : l.place ≡ p = sym (get_or-map (λ (x : IntLine). x.place) ls at.0 none 0 lt) ∙ at.2 in
        at_index p next r line at.0 lt l (get_or_default ls at.0 l none lt) same

pub no_lines : (k : Coded) (starts : List ℕ) (ls : List IntLine) → ls ≡ [] → AreFirst k starts 0 ls
no_lines k starts ls none = record {
  places = ap (λ (xs : List IntLine). map (λ (l : IntLine). l.place) xs) none;
  each = λ l has. absurd (nil_contains l (subst (λ (xs : List IntLine). Contains xs l) none has));
}
