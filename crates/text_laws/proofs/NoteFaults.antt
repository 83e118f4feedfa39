-- A text of bounds by lines of sources has one fault at most.
use Rattle.std.proofs.Common.{◌≡◌, ℕ, suc, Bool, List, [], ◌∷◌, ◌++◌, length, cond, Option, Some, refl, sym, ◌∙◌, ap, ap₂, subst, inl, inr, arith}
use Rattle.std.specs.Prelude.{codes, IsSome, ◌≢◌}
use Rattle.std.proofs.lemmas.Bool.{cases_Bool, true≢false}
use Rattle.std.proofs.lemmas.List.{append_cancel_left}
use Rattle.ascii_text.specs.Line.{lines_of}
use Rattle.bound_texts.specs.Loops.Lines.{IsNumber}
use Rattle.bound_texts.specs.declared.sources.SourceFault.{SourceFault}
use Rattle.bound_texts.specs.declared.sources.SourceFault.TheVariants as faults
use Rattle.bound_texts.specs.Sources.Notes.{Subject, AtLine, AtPlace, same_subject, Note, noted_bound, AreOfDifferentSubjects}
use Rattle.bound_texts.specs.Sources.Grammar.{IsSource, IsLoopWord, IsNoteLine, IsNote, SaysNotes, IsNoNoteLine, GiveNotes, AreNotesReadTo, IsNotedTwice, AreNotesRefused}
use Rattle.bound_texts.proofs.SourcesLemmas.ReadLemmas.{same_is, same_self}
use Rattle.bound_texts.proofs.SourcesLemmas.SourceLemmas.{IsLast, source_last, source_file, source_digits}
use Rattle.text_laws.specs.Faults.{NoteFaultsAreOne}
use Rattle.text_laws.proofs.FirstBad.{Give, BadLine, one_bad_line}
use Rattle.text_laws.proofs.FirstBad.BadLine.{no_line, twice}

-- ---- a line says one thing

one_number : (text : List ℕ) (n m : ℕ) → IsNumber text n → IsNumber text m → n ≡ m
one_number text n m a b = sym a.1 ∙ b.1

one_bound : (text : List ℕ) (n m : ℕ) → IsLoopWord text n → IsLoopWord text m → n ≡ m
one_bound text n m a b =
    let digits : a.digits ≡ b.digits = append_cancel_left (codes "loop<=") a.digits b.digits (sym a.text_is ∙ b.text_is) in
    one_number b.digits n m (subst (λ (d : List ℕ). IsNumber d n) digits a.number_is) b.number_is

one_source : (text f g : List ℕ) (n m : ℕ) → IsSource text f n → IsSource text g m → (f ≡ g) × (n ≡ m)
one_source text f g n m a b =
    let last : IsLast text (length f) = source_last text f n a in
    let file : f ≡ g = source_file text f n (length f) a last ∙ sym (source_file text g m (length f) b last) in
    let digits : a.digits ≡ b.digits = source_digits text f n (length f) a last ∙ sym (source_digits text g m (length f) b last) in
    (file, one_number b.digits n m (subst (λ (d : List ℕ). IsNumber d n) digits a.line_is) b.line_is)

one_subject : (line : List ℕ) (s t : Subject) (n m : ℕ) → IsNoteLine line s n → IsNoteLine line t m → (s ≡ t) × (n ≡ m)
one_subject line (AtLine f k) (AtLine g l) n m a b =
    let source : a.source ≡ b.source = cc (a.parts, b.parts) in
    let last : a.last ≡ b.last = cc (a.parts, b.parts) in
    let same = one_source b.source f g k l (subst (λ (t : List ℕ). IsSource t f k) source a.source_is) b.source_is in
    (ap₂ AtLine same.0 same.1, one_bound b.last n m (subst (λ (t : List ℕ). IsLoopWord t n) last a.bound_is) b.bound_is)
one_subject line (AtPlace f k) (AtPlace g l) n m a b =
    let parts : f ∷ a.pc_text ∷ (codes "loop<=" ++ a.bound_text) ∷ [] ≡ g ∷ b.pc_text ∷ (codes "loop<=" ++ b.bound_text) ∷ [] = sym a.parts ∙ b.parts in
    let name : f ≡ g = cc parts in
    let pc_text : a.pc_text ≡ b.pc_text = cc parts in
    let last : codes "loop<=" ++ a.bound_text ≡ codes "loop<=" ++ b.bound_text = cc parts in
    let bound_text : a.bound_text ≡ b.bound_text = append_cancel_left (codes "loop<=") a.bound_text b.bound_text last in (
      ap₂ AtPlace name (one_number b.pc_text k l (subst (λ (d : List ℕ). IsNumber d k) pc_text a.pc) b.pc),
      one_number b.bound_text n m (subst (λ (d : List ℕ). IsNumber d n) bound_text a.bound) b.bound,
    )
one_subject line (AtLine f k) (AtPlace g l) n m a b = absurd (let e = ap length (sym a.parts ∙ b.parts) in omega (arith, e))
one_subject line (AtPlace f k) (AtLine g l) n m a b = absurd (let e = ap length (sym a.parts ∙ b.parts) in omega (arith, e))

same_note : (line : List ℕ) (a b : Note) → IsNote line a → IsNote line b → a ≡ b
same_note line a b x y =
    let same = one_subject line a.subject b.subject a.bound b.bound x y in
    ap₂ (λ (s : Subject) (n : ℕ). record { subject = s; bound = n }) same.0 same.1

says_one : (line : List ℕ) (xs ys : List Note) → SaysNotes line xs → SaysNotes line ys → xs ≡ ys
says_one line [] [] x y = refl
says_one line [] (b ∷ []) x y = absurd (y.0 x)
says_one line [] (b ∷ c ∷ cs) x y = absurd y
says_one line (a ∷ []) [] x y = absurd (x.0 y)
says_one line (a ∷ []) (b ∷ []) x y = ap (λ (z : Note). z ∷ []) (same_note line a b x.1 y.1)
says_one line (a ∷ []) (b ∷ c ∷ cs) x y = absurd y
says_one line (a ∷ d ∷ ds) ys x y = absurd x

says_none : (line : List ℕ) → IsNoNoteLine line → (said : List Note) → SaysNotes line said → ⊥
says_none line bad [] says = bad.0 says
says_none line bad (b ∷ []) says = bad.1 b says.1
says_none line bad (b ∷ c ∷ cs) says = says

-- ---- nothing is bounded twice

abbrev IsThere : Note → List Note → Type 0
IsThere a front = IsSome (noted_bound a.subject front)

found : (a : Note) (front rest : List Note) → IsSome (noted_bound a.subject (front ++ a ∷ rest))
found a [] rest = subst (λ (t : Bool). IsSome (cond t (Some a.bound) (noted_bound a.subject rest))) (sym (same_self a.subject)) refl
found a (b ∷ front) rest = elim (cases_Bool (same_subject a.subject b.subject)) [
  | inl e ↦ subst (λ (t : Bool). IsSome (cond t (Some b.bound) (noted_bound a.subject (front ++ a ∷ rest)))) (sym e) refl
  | inr e ↦ subst (λ (t : Bool). IsSome (cond t (Some b.bound) (noted_bound a.subject (front ++ a ∷ rest)))) (sym e) (found a front rest)
]

clash : (a : Note) (front rest : List Note) → AreOfDifferentSubjects (front ++ a ∷ rest) → IsSome (noted_bound a.subject front) → ⊥
clash a [] rest different some = true≢false (sym some)
clash a (b ∷ front) rest different some = elim (cases_Bool (same_subject a.subject b.subject)) [
  | inl e ↦
      let there : IsSome (noted_bound b.subject (front ++ a ∷ rest)) = subst (λ (s : Subject). IsSome (noted_bound s (front ++ a ∷ rest))) (same_is a.subject b.subject e) (found a front rest) in
      true≢false (sym (subst (λ (o : Option ℕ). IsSome o) different.0 there))
  | inr e ↦ clash a front rest different.1 (subst (λ (t : Bool). IsSome (cond t (Some b.bound) (noted_bound a.subject front))) e some)
]

-- ---- the first line that is refused

given_so : (lines : List (List ℕ)) (ns : List Note) → GiveNotes lines ns → Give SaysNotes lines ns
given_so [] ns given = given
given_so (line ∷ lines) ns (first, rest, is, says, give) = (first, rest, is, says, given_so lines rest give)

module _ (text : List ℕ) where
  abbrev IsBadAt : (n : ℕ) → AreNotesReadTo text n → Type 0
  IsBadAt n r = BadLine Note SaysNotes IsThere r.before r.line

  bad_twice : (n : ℕ) (t : IsNotedTwice text n) → IsBadAt n t.reached
  bad_twice n t = let r = t.reached in twice r.notes t.again (given_so r.before r.notes r.given) t.says t.there

  bad_line : (n : ℕ) (r : AreNotesReadTo text n) → IsNoNoteLine r.line → IsBadAt n r
  bad_line n r bad = no_line (says_none r.line bad)

  one_line : (n m : ℕ) (r : AreNotesReadTo text n) (s : AreNotesReadTo text m) → IsBadAt n r → IsBadAt m s → (n ≡ m) × (r.line ≡ s.line)
  one_line n m r s bad bad' =
      let same =
      one_bad_line Note SaysNotes AreOfDifferentSubjects IsThere says_one clash (lines_of text) r.before r.line r.after s.before s.line s.after r.notes s.notes
      r.lines s.lines bad bad' (given_so r.before r.notes r.given) r.different (given_so s.before s.notes s.given) s.different in
      (r.number_is ∙ (ap (λ (ls : List (List ℕ)). suc (length ls)) same.0 ∙ sym s.number_is), same.1)

  not_both : (n m : ℕ) (r : AreNotesReadTo text n) → IsNoNoteLine r.line → IsNotedTwice text m → ⊥
  not_both n m r bad t =
      let same = one_line n m r t.reached (bad_line n r bad) (bad_twice m t) in
      says_none t.reached.line (subst IsNoNoteLine same.1 bad) (t.again ∷ []) t.says

  one_fault : (a b : SourceFault) → a ≢ faults.NoMemory → b ≢ faults.NoMemory → AreNotesRefused text a → AreNotesRefused text b → a ≡ b
  one_fault (faults.Line n) (faults.Line m) u v (r, bad) (s, bad') = ap faults.Line (one_line n m r s (bad_line n r bad) (bad_line m s bad')).0
  one_fault (faults.Line n) (faults.Twice m) u v (r, bad) t = absurd (not_both n m r bad t)
  one_fault (faults.Twice n) (faults.Line m) u v t (s, bad) = absurd (not_both m n s bad t)
  one_fault (faults.Twice n) (faults.Twice m) u v t w = ap faults.Twice (one_line n m t.reached w.reached (bad_twice n t) (bad_twice m w)).0
  one_fault faults.NoMemory b u v x y = absurd (u refl)
  one_fault (faults.Line n) faults.NoMemory u v x y = absurd (v refl)
  one_fault (faults.Twice n) faults.NoMemory u v x y = absurd (v refl)

pub note_faults_are_one : NoteFaultsAreOne
note_faults_are_one text a b u v x y = one_fault text a b u v x y
