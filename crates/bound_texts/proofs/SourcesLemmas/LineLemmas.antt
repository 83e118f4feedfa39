-- What lines of two and of three parts bound.
use Rattle.std.proofs.Common.{◌≡◌, ℕ, List, [], ◌∷◌, ◌++◌, length, Option, Some, None, sym, ap, ◌∙◌, subst, arith}
use Rattle.std.specs.Prelude.{◌==◌, codes, IfNone}
use Rattle.std.specs.List.{slice_split}
use Rattle.bound_texts.specs.Loops.Lines.{IsNumber}
use Rattle.bound_texts.specs.Sources.Notes.{Subject, AtLine, AtPlace, Note}
use Rattle.bound_texts.specs.Sources.Grammar.{IsSource, IsLoopWord, IsNoteLine, IsNote}
use Rattle.bound_texts.specs.Sources.Meaning.{IsOfSource, IsSourceNote, IsOfPlace, IsPlaceNote}

pub if_none : {A P Q : Type 0} (o : Option A) → (P → Q) → IfNone o P → IfNone o Q
if_none None f p = f p
if_none (Some x) f p = tt

of_two : (line a b : List ℕ) (s : Subject) (n : ℕ) → slice_split (λ byte. byte == 32) line ≡ a ∷ b ∷ [] → IsNoteLine line s n → IsOfSource a s × IsLoopWord b n
of_two line a b (AtLine file k) n split l =
    let parts : l.source ∷ l.last ∷ [] ≡ a ∷ b ∷ [] = sym l.parts ∙ split in
    let source : l.source ≡ a = cc parts in
    let last : l.last ≡ b = cc parts in
    (subst (λ (t : List ℕ). IsSource t file k) source l.source_is, subst (λ (t : List ℕ). IsLoopWord t n) last l.bound_is)
of_two line a b (AtPlace method pc) n split l = absurd (let e = ap length (sym l.parts ∙ split) in omega (arith, e))

of_three : (line a b c : List ℕ) (s : Subject) (n : ℕ) → slice_split (λ byte. byte == 32) line ≡ a ∷ b ∷ c ∷ [] → IsNoteLine line s n → IsOfPlace a b s × IsLoopWord c n
of_three line a b c (AtPlace method pc) n split l =
    let parts : method ∷ l.pc_text ∷ (codes "loop<=" ++ l.bound_text) ∷ [] ≡ a ∷ b ∷ c ∷ [] = sym l.parts ∙ split in
    let name : method ≡ a = cc parts in
    let pc_text : l.pc_text ≡ b = cc parts in
    let last : codes "loop<=" ++ l.bound_text ≡ c = cc parts in
    ((name, l.named, subst (λ (t : List ℕ). IsNumber t pc) pc_text l.pc), record { digits = l.bound_text; text_is = sym last; number_is = l.bound })
of_three line a b c (AtLine file k) n split l = absurd (let e = ap length (sym l.parts ∙ split) in omega (arith, e))

pub two_none : (line a b : List ℕ) → slice_split (λ byte. byte == 32) line ≡ a ∷ b ∷ [] → ((n : Note) → ¬ IsSourceNote a b n) → (n : Note) → ¬ IsNote line n
two_none line a b split none n l = none n (of_two line a b n.subject n.bound split l)

pub three_none : (line a b c : List ℕ) → slice_split (λ byte. byte == 32) line ≡ a ∷ b ∷ c ∷ [] → ((n : Note) → ¬ IsPlaceNote a b c n) → (n : Note) → ¬ IsNote line n
three_none line a b c split none n l = none n (of_three line a b c n.subject n.bound split l)
