-- A text gives one list of bounds, and then no line is refused; a text of bounds by places gives the same ones.
use Rattle.std.proofs.Common.{◌≡◌, ℕ, Bool, List, [], ◌∷◌, ◌++◌, map, length, cond, Option, Some, refl, sym, ◌∙◌, ap, ap₂, subst, append_assoc, inl, inr, arith}
use Rattle.std.specs.Prelude.{codes, IsSome}
use Rattle.std.proofs.lemmas.Bool.{cases_Bool, true≢false}
use Rattle.std.proofs.lemmas.List.{append_cancel_left}
use Rattle.ascii_text.specs.Line.{lines_of}
use Rattle.bound_texts.specs.Loops.Bounds.{LoopBound, bound_in as bound_by_place, AreOfDifferentLoops}
use Rattle.bound_texts.specs.Loops.Grammar.{SaysLoopBound as SaysByPlace, Give as GiveByPlace}
use Rattle.bound_texts.specs.Loops.Lines.{IsNumber}
use Rattle.bound_texts.specs.declared.sources.SourceFault.{SourceFault}
use Rattle.bound_texts.specs.declared.sources.SourceFault.TheVariants as faults
use Rattle.bound_texts.specs.Sources.Notes.{Subject, AtLine, AtPlace, same_subject, Note, noted_bound, AreOfDifferentSubjects}
use Rattle.bound_texts.specs.Sources.Grammar.{IsSource, IsLoopWord, IsNoteLine, IsNote, SaysNotes, IsNoNoteLine, GiveNotes, AreNotesRead, AreNotesReadTo, IsNotedTwice, AreNotesRefused}
use Rattle.bound_texts.specs.Sources.Laws.{NotesGiveOne, ReadNotesAreNotRefused, at_place, BoundsAreRead}
use Rattle.bound_texts.proofs.SourcesLemmas.ReadLemmas.{same_is, same_self}
use Rattle.bound_texts.proofs.SourcesLemmas.SourceLemmas.{IsLast, source_last, source_file, source_digits}

-- ---- a line says one thing

one_number : (text : List ℕ) (n m : ℕ) → IsNumber text n → IsNumber text m → n ≡ m
one_number text n m a b = sym a.1 ∙ b.1

one_bound : (text : List ℕ) (n m : ℕ) → IsLoopWord text n → IsLoopWord text m → n ≡ m
one_bound text n m a b =
    let digits : a.digits ≡ b.digits = append_cancel_left (codes "loop<=") a.digits b.digits (sym a.text_is ∙ b.text_is) in
    one_number b.digits n m (subst (λ (d : List ℕ). IsNumber d n) digits a.number_is) b.number_is

one_source : (text f g : List ℕ) (n m : ℕ) → IsSource text f n → IsSource text g m → (f ≡ g) × (n ≡ m)
one_source text f g n m a b =
    let last : IsLast text (length f) = source_last text f n a in
    let file : f ≡ g = source_file text f n (length f) a last ∙ sym (source_file text g m (length f) b last) in
    let digits : a.digits ≡ b.digits = source_digits text f n (length f) a last ∙ sym (source_digits text g m (length f) b last) in
    (file, one_number b.digits n m (subst (λ (d : List ℕ). IsNumber d n) digits a.line_is) b.line_is)

one_subject : (line : List ℕ) (s t : Subject) (n m : ℕ) → IsNoteLine line s n → IsNoteLine line t m → (s ≡ t) × (n ≡ m)
one_subject line (AtLine f k) (AtLine g l) n m a b =
    let source : a.source ≡ b.source = cc (a.parts, b.parts) in
    let last : a.last ≡ b.last = cc (a.parts, b.parts) in
    let same = one_source b.source f g k l (subst (λ (t : List ℕ). IsSource t f k) source a.source_is) b.source_is in
    (ap₂ AtLine same.0 same.1, one_bound b.last n m (subst (λ (t : List ℕ). IsLoopWord t n) last a.bound_is) b.bound_is)
one_subject line (AtPlace f k) (AtPlace g l) n m a b =
    let parts : f ∷ a.pc_text ∷ (codes "loop<=" ++ a.bound_text) ∷ [] ≡ g ∷ b.pc_text ∷ (codes "loop<=" ++ b.bound_text) ∷ [] = sym a.parts ∙ b.parts in
    let name : f ≡ g = cc parts in
    let pc_text : a.pc_text ≡ b.pc_text = cc parts in
    let last : codes "loop<=" ++ a.bound_text ≡ codes "loop<=" ++ b.bound_text = cc parts in
    let bound_text : a.bound_text ≡ b.bound_text = append_cancel_left (codes "loop<=") a.bound_text b.bound_text last in (
      ap₂ AtPlace name (one_number b.pc_text k l (subst (λ (d : List ℕ). IsNumber d k) pc_text a.pc) b.pc),
      one_number b.bound_text n m (subst (λ (d : List ℕ). IsNumber d n) bound_text a.bound) b.bound,
    )
one_subject line (AtLine f k) (AtPlace g l) n m a b = absurd (let e = ap length (sym a.parts ∙ b.parts) in omega (arith, e))
one_subject line (AtPlace f k) (AtLine g l) n m a b = absurd (let e = ap length (sym a.parts ∙ b.parts) in omega (arith, e))

same_note : (line : List ℕ) (a b : Note) → IsNote line a → IsNote line b → a ≡ b
same_note line a b x y =
    let same = one_subject line a.subject b.subject a.bound b.bound x y in
    ap₂ (λ (s : Subject) (n : ℕ). record { subject = s; bound = n }) same.0 same.1

says_one : (line : List ℕ) (xs ys : List Note) → SaysNotes line xs → SaysNotes line ys → xs ≡ ys
says_one line [] [] x y = refl
says_one line [] (b ∷ []) x y = absurd (y.0 x)
says_one line [] (b ∷ c ∷ cs) x y = absurd y
says_one line (a ∷ []) [] x y = absurd (x.0 y)
says_one line (a ∷ []) (b ∷ []) x y = ap (λ (z : Note). z ∷ []) (same_note line a b x.1 y.1)
says_one line (a ∷ []) (b ∷ c ∷ cs) x y = absurd y
says_one line (a ∷ d ∷ ds) ys x y = absurd x

give_one : (lines : List (List ℕ)) (xs ys : List Note) → GiveNotes lines xs → GiveNotes lines ys → xs ≡ ys
give_one [] xs ys x y = x ∙ sym y
give_one (line ∷ lines) xs ys (first, rest, is, says, give) (first', rest', is', says', give') =
    is ∙ (ap₂ (λ (f r : List Note). f ++ r) (says_one line first first' says says') (give_one lines rest rest' give give') ∙ sym is')

pub gives_one : NotesGiveOne
gives_one text a b x y = give_one (lines_of text) a b x.given y.given

-- ---- no line is refused

-- what the lines before one gave, what it gave, and the rest
record IsSplit (before : List (List ℕ)) (line : List ℕ) (bs : List Note) : Type 0 where
  pub front : List Note
  pub said : List Note
  pub rest : List Note
  pub is : bs ≡ front ++ (said ++ rest)
  pub given : GiveNotes before front
  pub says : SaysNotes line said

split : (before : List (List ℕ)) (line : List ℕ) (after : List (List ℕ)) (bs : List Note) → GiveNotes (before ++ line ∷ after) bs → IsSplit before line bs
split [] line after bs (first, rest, is, says, give) = record { front = []; said = first; rest = rest; is = is; given = refl; says = says }
split (b ∷ before) line after bs (first, rest, is, says, give) =
    let s : IsSplit before line rest = split before line after rest give in
    record {
      front = first ++ s.front;
      said = s.said;
      rest = s.rest;
      is = is ∙ (ap (λ (r : List Note). first ++ r) s.is ∙ sym (append_assoc first s.front (s.said ++ s.rest)));
      given = (first, s.front, refl, says, s.given);
      says = s.says;
    }

well_formed : (line : List ℕ) (said : List Note) → SaysNotes line said → IsNoNoteLine line → ⊥
well_formed line [] says bad = bad.0 says
well_formed line (b ∷ []) says bad = bad.1 b says.1
well_formed line (b ∷ c ∷ cs) says bad = says

found : (a : Note) (front rest : List Note) → IsSome (noted_bound a.subject (front ++ a ∷ rest))
found a [] rest = subst (λ (t : Bool). IsSome (cond t (Some a.bound) (noted_bound a.subject rest))) (sym (same_self a.subject)) refl
found a (b ∷ front) rest = elim (cases_Bool (same_subject a.subject b.subject)) [
  | inl e ↦ subst (λ (t : Bool). IsSome (cond t (Some b.bound) (noted_bound a.subject (front ++ a ∷ rest)))) (sym e) refl
  | inr e ↦ subst (λ (t : Bool). IsSome (cond t (Some b.bound) (noted_bound a.subject (front ++ a ∷ rest)))) (sym e) (found a front rest)
]

clash : (a : Note) (front rest : List Note) → AreOfDifferentSubjects (front ++ a ∷ rest) → IsSome (noted_bound a.subject front) → ⊥
clash a [] rest different some = true≢false (sym some)
clash a (b ∷ front) rest different some = elim (cases_Bool (same_subject a.subject b.subject)) [
  | inl e ↦
      let there : IsSome (noted_bound b.subject (front ++ a ∷ rest)) = subst (λ (s : Subject). IsSome (noted_bound s (front ++ a ∷ rest))) (same_is a.subject b.subject e) (found a front rest) in
      true≢false (sym (subst (λ (o : Option ℕ). IsSome o) different.0 there))
  | inr e ↦ clash a front rest different.1 (subst (λ (t : Bool). IsSome (cond t (Some b.bound) (noted_bound a.subject front))) e some)
]

module _ (text : List ℕ) (bs : List Note) (read : AreNotesRead text bs) where
  split_at : (n : ℕ) (r : AreNotesReadTo text n) → IsSplit r.before r.line bs
  split_at n r = split r.before r.line r.after bs (subst (λ (ls : List (List ℕ)). GiveNotes ls bs) r.lines read.given)

  not_malformed : (n : ℕ) (r : AreNotesReadTo text n) → IsNoNoteLine r.line → ⊥
  not_malformed n r bad = let s = split_at n r in well_formed r.line s.said s.says bad

  not_twice : (n : ℕ) → IsNotedTwice text n → ⊥
  not_twice n t =
      let r = t.reached in
      let s = split_at n r in
      let front : r.notes ≡ s.front = give_one r.before r.notes s.front r.given s.given in
      let said : s.said ≡ t.again ∷ [] = says_one r.line s.said (t.again ∷ []) s.says t.says in
      let is : bs ≡ s.front ++ t.again ∷ s.rest = s.is ∙ ap (λ (x : List Note). s.front ++ (x ++ s.rest)) said in
      clash t.again s.front s.rest (subst AreOfDifferentSubjects is read.different) (subst (λ (x : List Note). IsSome (noted_bound t.again.subject x)) front t.there)

  not_refused : (fault : SourceFault) → AreNotesRefused text fault → fault ≡ faults.NoMemory
  not_refused (faults.Line n) (r, bad) = absurd (not_malformed n r bad)
  not_refused (faults.Twice n) t = absurd (not_twice n t)
  not_refused faults.NoMemory u = refl

pub read_is_not_refused : ReadNotesAreNotRefused
read_is_not_refused text bs fault read refused = not_refused text bs read fault refused

-- ---- bounds by places

says_too : (line : List ℕ) (bs : List LoopBound) → SaysByPlace line bs → SaysNotes line (map at_place bs)
says_too line [] s = s
says_too line (b ∷ []) s = s
says_too line (b ∷ c ∷ cs) s = absurd s

map_parts : (xs ys : List LoopBound) → map at_place (xs ++ ys) ≡ map at_place xs ++ map at_place ys
map_parts [] ys = refl
map_parts (x ∷ xs) ys = ap (λ (ns : List Note). at_place x ∷ ns) (map_parts xs ys)

give_too : (lines : List (List ℕ)) (bs : List LoopBound) → GiveByPlace lines bs → GiveNotes lines (map at_place bs)
give_too [] bs g = ap (map at_place) g
give_too (line ∷ lines) bs (first, rest, is, says, give) =
    (map at_place first, map at_place rest, ap (map at_place) is ∙ map_parts first rest, says_too line first says, give_too lines rest give)

bound_too : (name : List ℕ) (pc : ℕ) (bs : List LoopBound) → noted_bound (AtPlace name pc) (map at_place bs) ≡ bound_by_place name pc bs
bound_too name pc [] = refl
bound_too name pc (b ∷ bs) = ap (λ (o : Option ℕ). cond (same_subject (AtPlace name pc) (AtPlace b.name b.pc)) (Some b.bound) o) (bound_too name pc bs)

different_too : (bs : List LoopBound) → AreOfDifferentLoops bs → AreOfDifferentSubjects (map at_place bs)
different_too [] d = tt
different_too (b ∷ bs) d = (bound_too b.name b.pc bs ∙ d.0, different_too bs d.1)

pub bounds_are_read : BoundsAreRead
bounds_are_read text bs r = record { given = give_too (lines_of text) bs r.given; different = different_too bs r.different }
