-- What a line says, and where it says nothing.
use Rattle.std.proofs.Common.{◌≡◌, ◌≢◌, ℕ, suc, ◌*◌, ◌/◌, ◌%◌, ◌<◌, ◌^◌, Bool, true, false, List, [], ◌∷◌, ◌++◌, refl, sym, ◌∙◌, ap, ap₂, subst, arith, Option, Some, None, decimal, ℤ, pos, negsuc, inl, inr, take, length, not}
use Rattle.std.specs.Prelude.{◌==◌, nat_eq, if◌then◌else◌, codes}
use Rattle.std.specs.List.{AllByRecursion, list_all, All}
use Rattle.std.proofs.lemmas.List.Elements.{All-head, All-tail}
use Rattle.lists.specs.Tests.{and_left, and_right, not_true}
use Rattle.std.specs.Fmt.{signed_decimal}
use Rattle.std.proofs.lemmas.Bool.{eq-eqb, true≢false}
use lib.Pointwise.{pointwise, bytes_decides}
use Rattle.std.proofs.lemmas.Fmt.{decimal_injective}
use Rattle.certificates.specs.declared.lines.line.SectionKind.{SectionKind}
use Rattle.certificates.specs.declared.lines.line.SectionKind.TheVariants.{Inside, Alone, Loops}
use Rattle.certificates.specs.declared.lines.line.CertLine.{CertLine}
use Rattle.certificates.specs.declared.lines.line.CertLine.TheVariants.{Version, Root, Start, Node, Loop, Bound}
use Rattle.certificates.specs.Finding.{HasNoSpace, IsBehindPart, Finds}
use Rattle.certificates.specs.Loop.{LoopSaid, AreLoopMembers}
use Rattle.certificates.specs.CertLines.{kind_text, members_text, bound_text, line_text, IsVersion, IsBoundValue, IsLineInRange}
use Rattle.section_check.specs.Section.{IsPotential}
use Rattle.certificates.specs.Rests.{node_rest, IsNodeRest, loop_rest, IsLoopRest, IsFrame}
use Rattle.certificates.proofs.PartLemmas.{each_append, each_weaker, one_first_part, no_space_there, no_space_by_test}
use Rattle.certificates.proofs.NumberLemmas.{IsDigit, digits_are, odd_same, decimal_no_space, negative_small, positive_small, first_digit}
use Rattle.certificates.proofs.MemberLemmas.{behind_all, same_members}
use Rattle.certificates.proofs.WordLemmas.{apart, node_word, loop_word, node_word_is, loop_word_is, node_line_is, loop_line_is, word_of, rest_of, line_parts, by_word, word_no_space, only_version, only_root, only_start, only_node, only_loop, only_bound}

pub kind_no_space : (k : SectionKind) → HasNoSpace (kind_text k)
kind_no_space Inside = no_space_by_test (codes "inside") refl
kind_no_space Alone = no_space_by_test (codes "alone") refl
kind_no_space Loops = no_space_by_test (codes "loops") refl

-- what stands behind the word of a line
rest_is : (line : CertLine) (r : List ℕ) (e : CertLine) → word_of line ++ 32 ∷ r ≡ line_text e → (word_of line ≡ word_of e) × (r ≡ rest_of e)
rest_is line r e f = by_word (word_of line) r e (word_no_space line) f

-- ---- sections

absent_start : (r : List ℕ) → ((k : SectionKind) (m : ℕ) → m < 2 ^ 32 → r ≢ kind_text k ++ 32 ∷ decimal m) → (e : CertLine) → IsLineInRange e → codes "section " ++ r ≢ line_text e
absent_start r none e range f =
    let p = rest_is (Start Inside 0) r e f in
    only_start (λ e. IsLineInRange e → r ≡ rest_of e → ⊥) (λ k m small same. none k m small same) e p.0 range p.1

pub no_kind : (r word number : List ℕ) → r ≡ word ++ 32 ∷ number → HasNoSpace word → ((k : SectionKind) → Unit {0} → word ≢ kind_text k) → (e : CertLine) → IsLineInRange e → codes "section " ++ r ≢ line_text e
no_kind r word number is h none =
    absent_start r (λ k m small same. none k tt (one_first_part word (kind_text k) (32 ∷ number) (32 ∷ decimal m) h (kind_no_space k) refl refl (sym is ∙ same)).0)

-- ---- nodes

pub no_place : (text number sum : List ℕ) → text ≡ number ++ 32 ∷ sum → HasNoSpace number → ((p : ℕ) → p < 2 ^ 31 → number ≢ decimal p) → (x : ℕ × ℤ) → IsNodeRest x → text ≢ node_rest x
no_place text number sum is h none x range same =
    none x.0 range.0 (one_first_part number (decimal x.0) (32 ∷ sum) (32 ∷ signed_decimal x.1) h (decimal_no_space x.0 (omega (arith, range.0))) refl refl (sym is ∙ same)).0

pub no_potential : (text number sum : List ℕ) → text ≡ number ++ 32 ∷ sum → HasNoSpace number → ((z : ℤ) → IsPotential z → sum ≢ signed_decimal z) → (x : ℕ × ℤ) → IsNodeRest x → text ≢ node_rest x
no_potential text number sum is h none x range same =
    let p = one_first_part number (decimal x.0) (32 ∷ sum) (32 ∷ signed_decimal x.1) h (decimal_no_space x.0 (omega (arith, range.0))) refl refl (sym is ∙ same) in
    let q : 32 ∷ sum ≡ 32 ∷ signed_decimal x.1 = p.1 in
    none x.1 range.1 (cc)

pub absent_node : (raise : Bool) (r : List ℕ) → ((x : ℕ × ℤ) → IsNodeRest x → r ≢ node_rest x) → (e : CertLine) → IsLineInRange e → (if raise then codes "raise " else codes "node ") ++ r ≢ line_text e
absent_node raise r none e range f =
    let p = by_word (node_word raise) r e (node_word_is raise) (sym (node_line_is raise r) ∙ f) in
    only_node raise (λ e. IsLineInRange e → r ≡ rest_of e → ⊥) (λ u z odd small same. none (u / 2, z) (omega (arith, small.0), small.1) same) e p.0 range p.1

no_front : (text : List ℕ) → HasNoSpace text → (number rest : List ℕ) → text ≢ number ++ 32 ∷ rest
no_front text h number rest e = no_space_there number rest (subst HasNoSpace e h)

pub no_sum : (text : List ℕ) → HasNoSpace text → (x : ℕ × ℤ) → IsNodeRest x → text ≢ node_rest x
no_sum text h x range e = no_front text h (decimal x.0) (signed_decimal x.1) e

-- ---- loops

pub no_cost : (text : List ℕ) → HasNoSpace text → (x : ℕ × ℕ × List ℕ) → IsLoopRest x → text ≢ loop_rest x
no_cost text h x range e = no_front text h (decimal x.0) (decimal x.1 ++ x.2) e

-- the parts of a text that is of a loop
loop_parts_are : (text header rest : List ℕ) → text ≡ header ++ 32 ∷ rest → HasNoSpace header → (x : ℕ × ℕ × List ℕ) → IsLoopRest x → text ≡ loop_rest x → (header ≡ decimal x.0) × (rest ≡ decimal x.1 ++ x.2)
loop_parts_are text header rest is h x range e =
    let p = one_first_part header (decimal x.0) (32 ∷ rest) (32 ∷ (decimal x.1 ++ x.2)) h (decimal_no_space x.0 (omega (arith, range.0))) refl refl (sym is ∙ e) in
    let later : 32 ∷ rest ≡ 32 ∷ (decimal x.1 ++ x.2) = p.1 in
    (p.0, cc)

pub no_header : (text header rest : List ℕ) → text ≡ header ++ 32 ∷ rest → HasNoSpace header → ((p : ℕ) → p < 2 ^ 31 → header ≢ decimal p) → (x : ℕ × ℕ × List ℕ) → IsLoopRest x → text ≢ loop_rest x
no_header text header rest is h none x range e = none x.0 range.0 (loop_parts_are text header rest is h x range e).0

pub no_iteration : (text header rest cost members : List ℕ) → text ≡ header ++ 32 ∷ rest → HasNoSpace header → rest ≡ cost ++ members → HasNoSpace cost → IsBehindPart members → ((n : ℕ) → n < 2 ^ 64 → cost ≢ decimal n) → (x : ℕ × ℕ × List ℕ) → IsLoopRest x → text ≢ loop_rest x
no_iteration text header rest cost members is h split k behind none x range e =
    let p = loop_parts_are text header rest is h x range e in
    none x.1 range.1 (one_first_part cost (decimal x.1) members x.2 k (decimal_no_space x.1 range.1) behind range.2 (sym split ∙ p.1)).0

pub absent_loop : (region : Bool) (r : List ℕ) → ((x : ℕ × ℕ × List ℕ) → IsLoopRest x → r ≢ loop_rest x) → (e : CertLine) → IsLineInRange e → (if region then codes "region " else codes "loop ") ++ r ≢ line_text e
absent_loop region r none e range f =
    let p = by_word (loop_word region) r e (loop_word_is region) (sym (loop_line_is region r) ∙ f) in
    only_loop region (λ e. IsLineInRange e → r ≡ rest_of e → ⊥)
    (λ l is small same. let header = small.header in none (l.header / 2, l.cost, members_text l.members) (omega arith, small.cost, behind_all l.members) same) e p.0 range p.1

-- the text of a loop's parts is that of one place, cost and list of members
one_loop_rest : (x y : ℕ × ℕ × List ℕ) → IsLoopRest x → IsLoopRest y → loop_rest x ≡ loop_rest y → (x.0 ≡ y.0) × (x.1 ≡ y.1) × (x.2 ≡ y.2)
one_loop_rest x y h k e =
    let hx : x.0 < 2 ^ 64 = omega (arith, h.0) in
    let ky : y.0 < 2 ^ 64 = omega (arith, k.0) in
    let p = one_first_part (decimal x.0) (decimal y.0) (32 ∷ (decimal x.1 ++ x.2)) (32 ∷ (decimal y.1 ++ y.2)) (decimal_no_space x.0 hx) (decimal_no_space y.0 ky) refl refl e in
    let later : 32 ∷ (decimal x.1 ++ x.2) ≡ 32 ∷ (decimal y.1 ++ y.2) = p.1 in
    let inner : decimal x.1 ++ x.2 ≡ decimal y.1 ++ y.2 = cc in
    let q = one_first_part (decimal x.1) (decimal y.1) x.2 y.2 (decimal_no_space x.1 h.1) (decimal_no_space y.1 k.1) h.2 k.2 inner in
    (decimal_injective x.0 y.0 hx ky p.0, decimal_injective x.1 y.1 h.1 k.1 q.0, q.1)

pub no_members : (region : Bool) (r text : List ℕ) (place cost : ℕ) → r ≡ loop_rest (place, cost, text) → IsLoopRest (place, cost, text) → ((ms : List ℕ) → AreLoopMembers ms → text ≢ members_text ms)
    → (e : CertLine) → IsLineInRange e → (if region then codes "region " else codes "loop ") ++ r ≢ line_text e
no_members region r text place cost is h none e range f =
    let p = by_word (loop_word region) r e (loop_word_is region) (sym (loop_line_is region r) ∙ f) in
    only_loop region (λ e. IsLineInRange e → r ≡ rest_of e → ⊥)
    (λ l region_is small same.
    let header = small.header in
    none l.members small.members (one_loop_rest (place, cost, text) (l.header / 2, l.cost, members_text l.members) h (omega arith, small.cost, behind_all l.members) (sym is ∙ same)).2) e p.0 range p.1

pub loop_found : (region : Bool) (r text : List ℕ) (place cost : ℕ) (members : List ℕ) → r ≡ loop_rest (place, cost, text) → IsLoopRest (place, cost, text) → text ≡ members_text members → AreLoopMembers members
    → Finds line_text IsLineInRange ((if region then codes "region " else codes "loop ") ++ r) (Some (Loop (record { region = region; header = 2 * place; cost = cost; members = members })))
loop_found region r text place cost members is h f m =
    let small = h.0 in
    let half : 2 * place / 2 ≡ place = omega arith in (
      ap (λ (t : List ℕ). (if region then codes "region " else codes "loop ") ++ t)
          (is ∙ (ap (λ (t : List ℕ). decimal place ++ 32 ∷ (decimal cost ++ t)) f ∙ ap (λ (p : ℕ). decimal p ++ 32 ∷ (decimal cost ++ members_text members)) (sym half))),
      record { instruction = omega arith; header = omega arith; cost = h.1; members = m },
    )

-- ---- a line without a space, and one that begins with another word

pub no_space_no_line : (line : List ℕ) → HasNoSpace line → (e : CertLine) → IsLineInRange e → line ≢ line_text e
no_space_no_line line h e range f = no_space_there (word_of e) (rest_of e) (subst HasNoSpace (f ∙ line_parts e) h)

-- ---- a line says one thing

one_kind : (k l : SectionKind) → kind_text k ≡ kind_text l → k ≡ l
one_kind Inside Inside e = refl
one_kind Alone Alone e = refl
one_kind Loops Loops e = refl
one_kind Inside Alone e = absurd (apart (codes "inside") (codes "alone") refl e)
one_kind Inside Loops e = absurd (apart (codes "inside") (codes "loops") refl e)
one_kind Alone Inside e = absurd (apart (codes "alone") (codes "inside") refl e)
one_kind Alone Loops e = absurd (apart (codes "alone") (codes "loops") refl e)
one_kind Loops Inside e = absurd (apart (codes "loops") (codes "inside") refl e)
one_kind Loops Alone e = absurd (apart (codes "loops") (codes "alone") refl e)

one_potential : (y z : ℤ) → IsPotential y → IsPotential z → signed_decimal y ≡ signed_decimal z → y ≡ z
one_potential (pos m) (pos n) h k e = ap pos (decimal_injective m n (positive_small m h) (positive_small n k) e)
one_potential (pos m) (negsuc n) h k e = absurd (first_digit (decimal m) (decimal (suc n)) m (positive_small m h) (sym e))
one_potential (negsuc m) (pos n) h k e = absurd (first_digit (decimal n) (decimal (suc m)) n (positive_small n k) e)
one_potential (negsuc m) (negsuc n) h k e =
    let digits : decimal (suc m) ≡ decimal (suc n) = cc in
    let same : suc m ≡ suc n = decimal_injective (suc m) (suc n) (negative_small m h) (negative_small n k) digits in
    cc

never_number : (n : ℕ) → n < 2 ^ 64 → codes "never" ≡ decimal n → ⊥
never_number n h e =
    let each : AllByRecursion IsDigit (codes "never") = subst (AllByRecursion IsDigit) (sym e) (digits_are n h) in
    let high = each.0.1 in
    omega arith

one_bound : (a b : Option ℕ) → IsBoundValue a → IsBoundValue b → bound_text a ≡ bound_text b → a ≡ b
one_bound None None h k e = refl
one_bound None (Some n) h k e = absurd (never_number n k e)
one_bound (Some n) None h k e = absurd (never_number n h (sym e))
one_bound (Some m) (Some n) h k e = ap Some (decimal_injective m n h k e)

version_small : (n : ℕ) → IsVersion n → n < 2 ^ 64
version_small n (inl e) = omega arith
version_small n (inr e) = omega arith

-- two numbers with the same half that are as odd
whole : (u v : ℕ) (s t : Bool) → s ≡ (u % 2 == 1) → t ≡ (v % 2 == 1) → s ≡ t → u / 2 ≡ v / 2 → u ≡ v
whole u v s t a b e halves = let parities : u % 2 ≡ v % 2 = odd_same u v (sym a ∙ (e ∙ b)) in omega arith

says_version : (n : ℕ) (b : CertLine) → IsLineInRange (Version n) → IsLineInRange b → line_text (Version n) ≡ line_text b → Version n ≡ b
says_version n b h k e =
    let p = rest_is (Version n) (decimal n) b e in
    only_version (λ b. IsLineInRange b → decimal n ≡ rest_of b → Version n ≡ b) (λ m range same. ap Version (decimal_injective n m (version_small n h) (version_small m range) same)) b p.0 k p.1

says_root : (n : ℕ) (b : CertLine) → IsLineInRange (Root n) → IsLineInRange b → line_text (Root n) ≡ line_text b → Root n ≡ b
says_root n b h k e =
    let p = rest_is (Root n) (decimal n) b e in
    only_root (λ b. IsLineInRange b → decimal n ≡ rest_of b → Root n ≡ b) (λ m range same. ap Root (decimal_injective n m (omega arith) (omega arith) same)) b p.0 k p.1

says_start : (kind : SectionKind) (n : ℕ) (b : CertLine) → IsLineInRange (Start kind n) → IsLineInRange b → line_text (Start kind n) ≡ line_text b → Start kind n ≡ b
says_start kind n b h k e =
    let p = rest_is (Start kind n) (rest_of (Start kind n)) b e in
    only_start (λ b. IsLineInRange b → rest_of (Start kind n) ≡ rest_of b → Start kind n ≡ b)
    (λ l m range same.
    let q = one_first_part (kind_text kind) (kind_text l) (32 ∷ decimal n) (32 ∷ decimal m) (kind_no_space kind) (kind_no_space l) refl refl same in
    let later : 32 ∷ decimal n ≡ 32 ∷ decimal m = q.1 in
    let digits : decimal n ≡ decimal m = cc in
    ap₂ (λ (x : SectionKind) (y : ℕ). Start x y) (one_kind kind l q.0) (decimal_injective n m (omega arith) (omega arith) digits)) b p.0 k p.1

says_node : (u : ℕ) (z : ℤ) (b : CertLine) → IsLineInRange (Node u z) → IsLineInRange b → line_text (Node u z) ≡ line_text b → Node u z ≡ b
says_node u z b h k e =
    let p = rest_is (Node u z) (rest_of (Node u z)) b (sym (line_parts (Node u z)) ∙ e) in
    only_node (u % 2 == 1) (λ b. IsLineInRange b → rest_of (Node u z) ≡ rest_of b → Node u z ≡ b)
    (λ v y odd range same.
    let hu : u / 2 < 2 ^ 64 = omega (arith, h.0) in
    let kv : v / 2 < 2 ^ 64 = omega (arith, range.0) in
    let q = one_first_part (decimal (u / 2)) (decimal (v / 2)) (32 ∷ signed_decimal z) (32 ∷ signed_decimal y) (decimal_no_space (u / 2) hu) (decimal_no_space (v / 2) kv) refl refl same in
    let later : 32 ∷ signed_decimal z ≡ 32 ∷ signed_decimal y = q.1 in
    let digits : signed_decimal z ≡ signed_decimal y = cc in
    ap₂ (λ (x : ℕ) (y : ℤ). Node x y) (whole u v (u % 2 == 1) (v % 2 == 1) refl refl odd (decimal_injective (u / 2) (v / 2) hu kv q.0)) (one_potential z y h.1 range.1 digits)) b p.0 k p.1

same_loop : (l m : LoopSaid) → l.region ≡ m.region → l.header ≡ m.header → l.cost ≡ m.cost → l.members ≡ m.members → l ≡ m
same_loop l m a b c d = λ i. record { region = a i; header = b i; cost = c i; members = d i }

says_loop : (l : LoopSaid) (b : CertLine) → IsLineInRange (Loop l) → IsLineInRange b → line_text (Loop l) ≡ line_text b → Loop l ≡ b
says_loop l b h k e =
    let p = rest_is (Loop l) (rest_of (Loop l)) b (sym (line_parts (Loop l)) ∙ e) in
    only_loop l.region (λ b. IsLineInRange b → rest_of (Loop l) ≡ rest_of b → Loop l ≡ b)
    (λ m region range same.
    let header = h.header in
    let header_too = range.header in
    let even = h.instruction in
    let even_too = range.instruction in
    let q = one_loop_rest (l.header / 2, l.cost, members_text l.members) (m.header / 2, m.cost, members_text m.members) (omega arith, h.cost, behind_all l.members) (omega arith, range.cost, behind_all m.members) same in
    let halves = q.0 in
    ap Loop (same_loop l m region (omega arith) q.1 (same_members l.members m.members h.members.small range.members.small q.2))) b p.0 k p.1

says_bound : (n : Option ℕ) (b : CertLine) → IsLineInRange (Bound n) → IsLineInRange b → line_text (Bound n) ≡ line_text b → Bound n ≡ b
says_bound n b h k e =
    let p = rest_is (Bound n) (bound_text n) b e in
    only_bound (λ b. IsLineInRange b → bound_text n ≡ rest_of b → Bound n ≡ b) (λ m range same. ap Bound (one_bound n m h range same)) b p.0 k p.1

pub says_one_thing : (a b : CertLine) → IsLineInRange a → IsLineInRange b → line_text a ≡ line_text b → a ≡ b
says_one_thing (Version n) b h k e = says_version n b h k e
says_one_thing (Root n) b h k e = says_root n b h k e
says_one_thing (Start kind n) b h k e = says_start kind n b h k e
says_one_thing (Node u z) b h k e = says_node u z b h k e
says_one_thing (Loop l) b h k e = says_loop l b h k e
says_one_thing (Bound n) b h k e = says_bound n b h k e

-- ---- a line that begins with none of the words

take-append_all : (xs ys : List ℕ) → take (length xs) (xs ++ ys) ≡ xs
take-append_all [] ys = refl
take-append_all (x ∷ xs) ys = ap (λ (zs : List ℕ). x ∷ zs) (take-append_all xs ys)

pub other_start : (line word rest : List ℕ) → pointwise nat_eq (take (length word) line) word ≡ false → line ≡ word ++ rest → ⊥
other_start line word rest f e =
    let begins : take (length word) line ≡ word = ap (take (length word)) e ∙ take-append_all word rest in
    true≢false (sym ((bytes_decides (take (length word) line) word).1 begins) ∙ f)

other_node_start : (line : List ℕ) (raise : Bool) (rest : List ℕ) → pointwise nat_eq (take 5 line) (codes "node ") ≡ false → pointwise nat_eq (take 6 line) (codes "raise ") ≡ false → line ≡ (if raise then codes "raise " else codes "node ") ++ rest → ⊥
other_node_start line true rest f g e = other_start line (codes "raise ") rest g e
other_node_start line false rest f g e = other_start line (codes "node ") rest f e

other_loop_start : (line : List ℕ) (region : Bool) (rest : List ℕ) → pointwise nat_eq (take 5 line) (codes "loop ") ≡ false → pointwise nat_eq (take 7 line) (codes "region ") ≡ false → line ≡ (if region then codes "region " else codes "loop ") ++ rest → ⊥
other_loop_start line true rest f g e = other_start line (codes "region ") rest g e
other_loop_start line false rest f g e = other_start line (codes "loop ") rest f e

-- which of the words a line doesn't begin with
pub record IsOther (line : List ℕ) : Type 0 where
  pub start : pointwise nat_eq (take 8 line) (codes "section ") ≡ false
  pub version : pointwise nat_eq (take 5 line) (codes "JOPC ") ≡ false
  pub root : pointwise nat_eq (take 5 line) (codes "root ") ≡ false
  pub bound : pointwise nat_eq (take 6 line) (codes "bound ") ≡ false

pub no_frame : (line : List ℕ) → IsOther line → (e : CertLine) → IsLineInRange e × IsFrame e → line ≢ line_text e
no_frame line o (Version n) h e = other_start line (codes "JOPC ") (decimal n) o.version e
no_frame line o (Root n) h e = other_start line (codes "root ") (decimal n) o.root e
no_frame line o (Start k n) h e = other_start line (codes "section ") (kind_text k ++ 32 ∷ decimal n) o.start e
no_frame line o (Node u p) h e = h.1
no_frame line o (Loop l) h e = h.1
no_frame line o (Bound b) h e = other_start line (codes "bound ") (bound_text b) o.bound e

-- what is found of a frame is found of any line that isn't of a node or a loop
pub record IsNeither (line : List ℕ) : Type 0 where
  pub node : pointwise nat_eq (take 5 line) (codes "node ") ≡ false
  pub raise : pointwise nat_eq (take 6 line) (codes "raise ") ≡ false
  pub iteration : pointwise nat_eq (take 5 line) (codes "loop ") ≡ false
  pub region : pointwise nat_eq (take 7 line) (codes "region ") ≡ false

pub frame_found : (line : List ℕ) (r : Option CertLine) → IsNeither line → Finds line_text (λ e. IsLineInRange e × IsFrame e) line r → Finds line_text IsLineInRange line r
frame_found line (Some e) o h = (h.0, h.1.0)
frame_found line None o h = absent line o h
  where
    absent : (line : List ℕ) → IsNeither line → ((e : CertLine) → IsLineInRange e × IsFrame e → line ≢ line_text e) → (e : CertLine) → IsLineInRange e → line ≢ line_text e
    absent line o none (Version n) k f = none (Version n) (k, tt) f
    absent line o none (Root n) k f = none (Root n) (k, tt) f
    absent line o none (Start kind n) k f = none (Start kind n) (k, tt) f
    absent line o none (Node u p) k f = other_node_start line (u % 2 == 1) (rest_of (Node u p)) o.node o.raise f
    absent line o none (Loop l) k f = other_loop_start line l.region (rest_of (Loop l)) o.iteration o.region f
    absent line o none (Bound b) k f = none (Bound b) (k, tt) f

-- ---- no line has a line feed in it

abbrev pub HasNoFeed : List ℕ → Type 0
HasNoFeed = AllByRecursion (λ byte. byte ≢ 10)

no_feed_by_test : (xs : List ℕ) → list_all (λ byte. not (byte == 10)) xs ≡ true → HasNoFeed xs
no_feed_by_test [] h = tt
no_feed_by_test (x ∷ xs) h =
    let other = not_true (x == 10) (and_left (not (x == 10)) (list_all (λ byte. not (byte == 10)) xs) h) in
    (λ e. true≢false (sym (eq-eqb x 10 e) ∙ other), no_feed_by_test xs (and_right (not (x == 10)) (list_all (λ byte. not (byte == 10)) xs) h))

digit_no_feed : (x : ℕ) → IsDigit x → x ≢ 10
digit_no_feed x h e = omega (arith, h.0)

decimal_no_feed : (n : ℕ) → n < 2 ^ 64 → HasNoFeed (decimal n)
decimal_no_feed n small = each_weaker IsDigit (λ byte. byte ≢ 10) digit_no_feed (decimal n) (digits_are n small)

no_feed_append : (xs ys : List ℕ) → HasNoFeed xs → HasNoFeed ys → HasNoFeed (xs ++ ys)
no_feed_append xs ys h k = each_append (λ byte. byte ≢ 10) xs ys h k

space_no_feed : (xs : List ℕ) → HasNoFeed xs → HasNoFeed (32 ∷ xs)
space_no_feed xs h = (λ e. omega (arith, e), h)

suffix_no_feed : (t : Bool) → HasNoFeed (if t then codes "r" else [])
suffix_no_feed true = no_feed_by_test (codes "r") refl
suffix_no_feed false = tt

kind_no_feed : (k : SectionKind) → HasNoFeed (kind_text k)
kind_no_feed Inside = no_feed_by_test (codes "inside") refl
kind_no_feed Alone = no_feed_by_test (codes "alone") refl
kind_no_feed Loops = no_feed_by_test (codes "loops") refl

potential_no_feed : (z : ℤ) → IsPotential z → HasNoFeed (signed_decimal z)
potential_no_feed (pos n) h = decimal_no_feed n (positive_small n h)
potential_no_feed (negsuc n) h = (λ e. omega (arith, e), decimal_no_feed (suc n) (negative_small n h))

members_no_feed : (ms : List ℕ) → All (λ u. u < 2 ^ 32) ms → HasNoFeed (members_text ms)
members_no_feed [] h = tt
members_no_feed (u ∷ ms) h =
    let small : u < 2 ^ 32 = All-head (λ u. u < 2 ^ 32) u ms h in
    no_feed_append (32 ∷ (decimal (u / 2) ++ (if u % 2 == 1 then codes "r" else []))) (members_text ms)
    (space_no_feed (decimal (u / 2) ++ (if u % 2 == 1 then codes "r" else [])) (no_feed_append (decimal (u / 2)) (if u % 2 == 1 then codes "r" else []) (decimal_no_feed (u / 2) (omega arith)) (suffix_no_feed (u % 2 == 1))))
    (members_no_feed ms (All-tail (λ u. u < 2 ^ 32) u ms h))

bound_no_feed : (b : Option ℕ) → IsBoundValue b → HasNoFeed (bound_text b)
bound_no_feed None h = no_feed_by_test (codes "never") refl
bound_no_feed (Some n) h = decimal_no_feed n h

node_word_no_feed : (t : Bool) → HasNoFeed (if t then codes "raise " else codes "node ")
node_word_no_feed true = no_feed_by_test (codes "raise ") refl
node_word_no_feed false = no_feed_by_test (codes "node ") refl

loop_word_no_feed : (t : Bool) → HasNoFeed (if t then codes "region " else codes "loop ")
loop_word_no_feed true = no_feed_by_test (codes "region ") refl
loop_word_no_feed false = no_feed_by_test (codes "loop ") refl

pub line_no_feed : (e : CertLine) → IsLineInRange e → HasNoFeed (line_text e)
line_no_feed (Version n) h = no_feed_append (codes "JOPC ") (decimal n) (no_feed_by_test (codes "JOPC ") refl) (decimal_no_feed n (version_small n h))
line_no_feed (Root n) h = no_feed_append (codes "root ") (decimal n) (no_feed_by_test (codes "root ") refl) (decimal_no_feed n (omega (arith, h)))
line_no_feed (Start k n) h =
    no_feed_append (codes "section ") (kind_text k ++ 32 ∷ decimal n) (no_feed_by_test (codes "section ") refl) (no_feed_append (kind_text k) (32 ∷ decimal n) (kind_no_feed k) (space_no_feed (decimal n) (decimal_no_feed n (omega (arith, h)))))
line_no_feed (Node u z) h =
    no_feed_append (if u % 2 == 1 then codes "raise " else codes "node ") (decimal (u / 2) ++ 32 ∷ signed_decimal z) (node_word_no_feed (u % 2 == 1))
    (no_feed_append (decimal (u / 2)) (32 ∷ signed_decimal z) (decimal_no_feed (u / 2) (omega (arith, h.0))) (space_no_feed (signed_decimal z) (potential_no_feed z h.1)))
line_no_feed (Loop l) h =
    let small = h.header in
    no_feed_append (if l.region then codes "region " else codes "loop ") (decimal (l.header / 2) ++ 32 ∷ (decimal l.cost ++ members_text l.members)) (loop_word_no_feed l.region)
    (no_feed_append (decimal (l.header / 2)) (32 ∷ (decimal l.cost ++ members_text l.members)) (decimal_no_feed (l.header / 2) (omega arith))
    (space_no_feed (decimal l.cost ++ members_text l.members) (no_feed_append (decimal l.cost) (members_text l.members) (decimal_no_feed l.cost h.cost) (members_no_feed l.members h.members.small))))
line_no_feed (Bound b) h = no_feed_append (codes "bound ") (bound_text b) (no_feed_by_test (codes "bound ") refl) (bound_no_feed b h)
