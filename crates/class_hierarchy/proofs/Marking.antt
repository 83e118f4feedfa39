-- Rows of bits, one bit a class: bits are set and stay set.
use Rattle.std.proofs.Common.{◌≡◌, ℕ, ◌⊎◌, ◌+◌, ◌<◌, ◌≤◌, ◌&&◌, ◌||◌, Bool, true, false, eqb, List, [], ◌∷◌, ◌++◌, length, get_or, take, Option, Some, None, inl, inr, refl, sym, ap, ap₂, ◌∙◌, subst, take_all, arith}
use Rattle.std.specs.Prelude.{slice_get, is_some, if◌then◌else◌}
use Rattle.std.specs.Option.{option_map, option_or}
use Rattle.std.proofs.lemmas.Bool.{cases_lt, eq-eqb, false≢true, and_from, or_left, or_right}
use Rattle.std.proofs.lemmas.Grind.{take_at_read}
use Rattle.std.proofs.lemmas.Option.{slice_get_cases}
use Rattle.number_sets.specs.Bits.Bits.{has, is_in, is_pair}
use Rattle.number_sets.specs.Bits.Table.{BitTable, columns}
use Rattle.number_sets.specs.declared.bits.rows.Row.{Row}
use Rattle.class_pool.specs.declared.class.Member.{Member}
use Rattle.class_pool.specs.declared.class.ClassFile.{ClassFile}
use Rattle.lists.specs.Lists.{onto, index_of}
use Rattle.lists.proofs.Lemmas.{some_same, none≢some, index_append}
use Rattle.class_lookup.specs.Parts.{Signature, signature_of, same_signature}
use Rattle.class_pool.specs.Grammar.{text_at}
use Rattle.class_lookup.specs.Lookup.{Place, declared, declared_in}
use Rattle.class_lookup.specs.Symbols.{symbol}
use Rattle.class_hierarchy.specs.Marks.{HasMore, AreMarked, Tells}
use Rattle.class_hierarchy.proofs.Directly.{signature_same}

-- ---- marks stay

pub more_none : (m : BitTable) → HasMore m m
more_none m = record { wide = refl; kept = λ p c e. e }

pub more_more : (a b c : BitTable) → HasMore a b → HasMore b c → HasMore a c
more_more a b c h e = record { wide = e.wide ∙ h.wide; kept = λ p x s. e.kept p x (h.kept p x s) }

-- one bit is set, and no other
abbrev pub SetsBit : (old new : BitTable) → (row : ℕ × ℕ) → (column : ℕ) → Type 0
SetsBit old new q d = (p : ℕ × ℕ) (c : ℕ) → has new p c ≡ (has old p c || (is_pair p q && eqb c d))

pub more_set : (old new : BitTable) (q : ℕ × ℕ) (d : ℕ) → columns new ≡ columns old → SetsBit old new q d → HasMore old new
more_set old new q d w h = record { wide = w; kept = λ p c e. h p c ∙ or_left (has old p c) (is_pair p q && eqb c d) e }

pub own_set : (old new : BitTable) (q : ℕ × ℕ) (d : ℕ) → SetsBit old new q d → has new q d ≡ true
own_set old new q d h =
    h q d
    ∙ or_right (has old q d) (is_pair q q && eqb d d)
    (and_from (is_pair q q) (eqb d d) (and_from (eqb q.0 q.0) (eqb q.1 q.1) (eq-eqb q.0 q.0 refl) (eq-eqb q.1 q.1 refl)) (eq-eqb d d refl))

-- ---- the members of a class

-- those of these members that have a name and a descriptor are marked
abbrev pub MembersMarked : List ClassFile → (class : ℕ) → List Member → BitTable → Type 0
MembersMarked cs c ms m = (k : ClassFile) (s : Signature) (a b : ℕ) → slice_get cs c ≡ Some k → symbol cs s.name ≡ Some a → symbol cs s.descriptor ≡ Some b → is_some (declared_in (λ x. ms) s k) ≡ true → has m (a, b) c ≡ true

pub members_none : (cs : List ClassFile) (c : ℕ) (m : BitTable) → MembersMarked cs c [] m
members_none cs c m k s a b at n d h = absurd (false≢true h)

either : (o : Option ℕ) (t : Bool) (i : ℕ) → is_some (option_or o (if t then Some i else None)) ≡ true → (is_some o ≡ true) ⊎ (t ≡ true)
either (Some x) t i h = inl refl
either None true i h = inr refl
either None false i h = absurd (false≢true h)

pub members_more : (cs : List ClassFile) (c : ℕ) (ms : List Member) (i : ℕ) (x : Member) (n d : ℕ) (old new : BitTable) → i < length ms → x ≡ get_or ms i x
    → ((k : ClassFile) → slice_get cs c ≡ Some k → symbol cs (text_at k.pool x.name) ≡ Some n) → ((k : ClassFile) → slice_get cs c ≡ Some k → symbol cs (text_at k.pool x.descriptor) ≡ Some d)
    → HasMore old new → has new (n, d) c ≡ true → MembersMarked cs c (take i ms) old → MembersMarked cs c (take (i + 1) ms) new
members_more cs c ms i x n d old new lt is name descriptor more own h k s a b at e f some =
    let test : Member → Bool = λ y. same_signature (signature_of k y) s in
    let next : index_of test (take (i + 1) ms) ≡ option_or (index_of test (take i ms)) (if test x then Some (length (take i ms)) else None) =
    ap (index_of test) ((take_at_read ms i x lt).1 ∙ ap (λ (y : Member). take i ms ++ y ∷ []) (sym is)) ∙ index_append test (take i ms) x in
    elim (either (index_of test (take i ms)) (test x) (length (take i ms)) (ap is_some (sym next) ∙ some)) [
      | inl o ↦ more.kept (a, b) c (h k s a b at e f o)
      | inr o ↦
          let same = signature_same (signature_of k x) s o in
          let first : n ≡ a = some_same n a (sym (name k at) ∙ (ap (λ (t : Signature). symbol cs t.name) same ∙ e)) in
          let second : d ≡ b = some_same d b (sym (descriptor k at) ∙ (ap (λ (t : Signature). symbol cs t.descriptor) same ∙ f)) in
          ap₂ (λ (p : ℕ) (q : ℕ). has new (p, q) c) (sym first) (sym second) ∙ own
    ]

pub members_all : (cs : List ClassFile) (c : ℕ) (ms : List Member) (i : ℕ) (m : BitTable) → length ms ≤ i → MembersMarked cs c (take i ms) m → MembersMarked cs c ms m
members_all cs c ms i m g h = subst (λ (xs : List Member). MembersMarked cs c xs m) (take_all i ms g) h

-- ---- one class after another

abbrev pub MarkedBelow : (members : ClassFile → List Member) → List ClassFile → (limit : ℕ) → BitTable → Type 0
MarkedBelow members cs n m = (s : Signature) (a b c : ℕ) → symbol cs s.name ≡ Some a → symbol cs s.descriptor ≡ Some b → c < n → is_some (declared members cs s c) ≡ true → has m (a, b) c ≡ true

abbrev placed : (class : ℕ) → Option ℕ → Option Place
placed c o = option_map (λ i. (c, i)) o

placed_some : (c : ℕ) (o : Option ℕ) → is_some (placed c o) ≡ is_some o
placed_some c None = refl
placed_some c (Some i) = refl

declared_case : (members : ClassFile → List Member) (s : Signature) (c : ℕ) (o : Option ClassFile) → is_some (onto {B = Place} o (λ k. option_map (λ i. (c, i)) (declared_in members s k))) ≡ true
    → (k : ClassFile) × (o ≡ Some k) × (is_some (declared_in members s k) ≡ true)
declared_case members s c None h = absurd (false≢true h)
declared_case members s c (Some k) h = (k, refl, sym (placed_some c (declared_in members s k)) ∙ h)

pub class_more : (members : ClassFile → List Member) (cs : List ClassFile) (n : ℕ) (k : ClassFile) (ms : List Member) (old new : BitTable) → slice_get cs n ≡ Some k → ms ≡ members k
    → HasMore old new → MembersMarked cs n ms new → MarkedBelow members cs n old → MarkedBelow members cs (n + 1) new
class_more members cs n k ms old new at is more own h s a b c e f lt some =
    elim (cases_lt c n) [
      | inl l ↦ more.kept (a, b) c (h s a b c e f l some)
      | inr g ↦
          let same : c ≡ n = omega (arith, lt, g) in
          let r = declared_case members s c (slice_get cs c) some in
          let there : slice_get cs n ≡ Some r.0 = ap (slice_get cs) (sym same) ∙ r.1 in
          let own_list : ms ≡ members r.0 = is ∙ ap members (some_same k r.0 (sym at ∙ there)) in
          ap (has new (a, b)) same ∙ own r.0 s a b there e f (ap (λ xs. is_some (index_of (λ y. same_signature (signature_of r.0 y) s) xs)) own_list ∙ r.2)
    ]

pub classes_all : (members : ClassFile → List Member) (cs : List ClassFile) (n : ℕ) (m : BitTable) → length cs ≤ n → MarkedBelow members cs n m → AreMarked members cs m
classes_all members cs n m g h = record {
  each = λ s a b c e f some.
      let r = declared_case members s c (slice_get cs c) some in
      h s a b c e f (below cs c r.0 n g r.1) some;
}
  where
    below : {A : Type 0} (xs : List A) (i : ℕ) (x : A) (n : ℕ) → length xs ≤ n → slice_get xs i ≡ Some x → i < n
    below xs i x n g at = elim (slice_get_cases xs i).1 [ inl w ↦ let lt = w.1 in omega (arith, lt, g) | inr w ↦ absurd (none≢some x (sym w.1 ∙ at)) ]

-- ---- a row tells

not_there : (o : Option Place) (b : Bool) → (is_some o ≡ true → b ≡ true) → b ≡ false → o ≡ None
not_there None b h e = refl
not_there (Some p) b h e = absurd (false≢true (sym e ∙ h refl))

pub row_tells : (members : ClassFile → List Member) (cs : List ClassFile) (m : BitTable) (a b : ℕ) (row : Row) → AreMarked members cs m → ((c : ℕ) → has m (a, b) c ≡ is_in row c) → Tells members cs a b row
row_tells members cs m a b row h is s c e f clear =
    not_there (declared members cs s c) (has m (a, b) c) (h.each s a b c e f) (is c ∙ clear)

-- and there is no row where no class declares such a member
pub no_row : (members : ClassFile → List Member) (cs : List ClassFile) (m : BitTable) (a b : ℕ) → AreMarked members cs m → ((c : ℕ) → has m (a, b) c ≡ false)
    → (s : Signature) (c : ℕ) → symbol cs s.name ≡ Some a → symbol cs s.descriptor ≡ Some b → declared members cs s c ≡ None
no_row members cs m a b h is s c e f = not_there (declared members cs s c) (has m (a, b) c) (h.each s a b c e f) (is c)
