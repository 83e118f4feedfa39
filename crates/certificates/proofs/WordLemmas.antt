-- The first word of a line, and what stands behind it.
use Rattle.std.proofs.Common.{◌≡◌, ℕ, ◌/◌, ◌%◌, Bool, true, false, List, ◌∷◌, ◌++◌, refl, sym, ◌∙◌, decimal, ℤ, Option}
use Rattle.std.specs.Prelude.{◌==◌, nat_eq, if◌then◌else◌, codes}
use Rattle.std.specs.Fmt.{signed_decimal}
use Rattle.std.proofs.lemmas.Bool.{true≢false}
use lib.Pointwise.{pointwise, bytes_decides}
use Rattle.certificates.specs.declared.lines.line.CertLine.{CertLine}
use Rattle.certificates.specs.declared.lines.line.CertLine.TheVariants.{Version, Root, Start, Node, Loop, Bound}
use Rattle.certificates.specs.declared.lines.line.SectionKind.{SectionKind}
use Rattle.certificates.specs.Loop.{LoopSaid}
use Rattle.certificates.specs.Finding.{HasNoSpace}
use Rattle.certificates.specs.CertLines.{kind_text, members_text, bound_text, line_text}
use Rattle.certificates.proofs.PartLemmas.{one_first_part, no_space_by_test}

abbrev pub node_word : Bool → List ℕ
node_word raise = if raise then codes "raise" else codes "node"

abbrev pub loop_word : Bool → List ℕ
loop_word region = if region then codes "region" else codes "loop"

abbrev pub word_of : CertLine → List ℕ
word_of (Version version) = codes "JOPC"
word_of (Root method) = codes "root"
word_of (Start kind method) = codes "section"
word_of (Node u potential) = node_word (u % 2 == 1)
word_of (Loop l) = loop_word l.region
word_of (Bound bound) = codes "bound"

abbrev pub rest_of : CertLine → List ℕ
rest_of (Version version) = decimal version
rest_of (Root method) = decimal method
rest_of (Start kind method) = kind_text kind ++ 32 ∷ decimal method
rest_of (Node u potential) = decimal (u / 2) ++ 32 ∷ signed_decimal potential
rest_of (Loop l) = decimal (l.header / 2) ++ 32 ∷ (decimal l.cost ++ members_text l.members)
rest_of (Bound bound) = bound_text bound

pub node_line_is : (raise : Bool) (rest : List ℕ) → (if raise then codes "raise " else codes "node ") ++ rest ≡ node_word raise ++ 32 ∷ rest
node_line_is true rest = refl
node_line_is false rest = refl

pub loop_line_is : (region : Bool) (rest : List ℕ) → (if region then codes "region " else codes "loop ") ++ rest ≡ loop_word region ++ 32 ∷ rest
loop_line_is true rest = refl
loop_line_is false rest = refl

pub line_parts : (e : CertLine) → line_text e ≡ word_of e ++ 32 ∷ rest_of e
line_parts (Version version) = refl
line_parts (Root method) = refl
line_parts (Start kind method) = refl
line_parts (Node u potential) = node_line_is (u % 2 == 1) (rest_of (Node u potential))
line_parts (Loop l) = loop_line_is l.region (rest_of (Loop l))
line_parts (Bound bound) = refl

-- ---- words are apart

pub apart : (w v : List ℕ) → pointwise nat_eq w v ≡ false → w ≡ v → ⊥
apart w v f e = true≢false (sym ((bytes_decides w v).1 e) ∙ f)

apart_both : (w a b : List ℕ) (t : Bool) → pointwise nat_eq w a ≡ false → pointwise nat_eq w b ≡ false → w ≡ (if t then a else b) → ⊥
apart_both w a b true f g e = apart w a f e
apart_both w a b false f g e = apart w b g e

pub node_word_is : (raise : Bool) → HasNoSpace (node_word raise)
node_word_is true = no_space_by_test (codes "raise") refl
node_word_is false = no_space_by_test (codes "node") refl

pub loop_word_is : (region : Bool) → HasNoSpace (loop_word region)
loop_word_is true = no_space_by_test (codes "region") refl
loop_word_is false = no_space_by_test (codes "loop") refl

pub word_no_space : (e : CertLine) → HasNoSpace (word_of e)
word_no_space (Version version) = no_space_by_test (codes "JOPC") refl
word_no_space (Root method) = no_space_by_test (codes "root") refl
word_no_space (Start kind method) = no_space_by_test (codes "section") refl
word_no_space (Node u potential) = node_word_is (u % 2 == 1)
word_no_space (Loop l) = loop_word_is l.region
word_no_space (Bound bound) = no_space_by_test (codes "bound") refl

pub by_word : (w r : List ℕ) (e : CertLine) → HasNoSpace w → w ++ 32 ∷ r ≡ line_text e → (w ≡ word_of e) × (r ≡ rest_of e)
by_word w r e h f =
    let p = one_first_part w (word_of e) (32 ∷ r) (32 ∷ rest_of e) h (word_no_space e) refl refl (f ∙ line_parts e) in
    let q : 32 ∷ r ≡ 32 ∷ rest_of e = p.1 in
    (p.0, cc)

-- ---- the lines of a word

pub only_version : (P : CertLine → Type 0) → ((n : ℕ) → P (Version n)) → (e : CertLine) → codes "JOPC" ≡ word_of e → P e
only_version P f (Version n) w = f n
only_version P f (Root m) w = absurd (apart (codes "JOPC") (codes "root") refl w)
only_version P f (Start k m) w = absurd (apart (codes "JOPC") (codes "section") refl w)
only_version P f (Node u p) w = absurd (apart_both (codes "JOPC") (codes "raise") (codes "node") (u % 2 == 1) refl refl w)
only_version P f (Loop l) w = absurd (apart_both (codes "JOPC") (codes "region") (codes "loop") l.region refl refl w)
only_version P f (Bound b) w = absurd (apart (codes "JOPC") (codes "bound") refl w)

pub only_root : (P : CertLine → Type 0) → ((n : ℕ) → P (Root n)) → (e : CertLine) → codes "root" ≡ word_of e → P e
only_root P f (Version n) w = absurd (apart (codes "root") (codes "JOPC") refl w)
only_root P f (Root m) w = f m
only_root P f (Start k m) w = absurd (apart (codes "root") (codes "section") refl w)
only_root P f (Node u p) w = absurd (apart_both (codes "root") (codes "raise") (codes "node") (u % 2 == 1) refl refl w)
only_root P f (Loop l) w = absurd (apart_both (codes "root") (codes "region") (codes "loop") l.region refl refl w)
only_root P f (Bound b) w = absurd (apart (codes "root") (codes "bound") refl w)

pub only_start : (P : CertLine → Type 0) → ((k : SectionKind) (n : ℕ) → P (Start k n)) → (e : CertLine) → codes "section" ≡ word_of e → P e
only_start P f (Version n) w = absurd (apart (codes "section") (codes "JOPC") refl w)
only_start P f (Root m) w = absurd (apart (codes "section") (codes "root") refl w)
only_start P f (Start k m) w = f k m
only_start P f (Node u p) w = absurd (apart_both (codes "section") (codes "raise") (codes "node") (u % 2 == 1) refl refl w)
only_start P f (Loop l) w = absurd (apart_both (codes "section") (codes "region") (codes "loop") l.region refl refl w)
only_start P f (Bound b) w = absurd (apart (codes "section") (codes "bound") refl w)

pub only_bound : (P : CertLine → Type 0) → ((b : Option ℕ) → P (Bound b)) → (e : CertLine) → codes "bound" ≡ word_of e → P e
only_bound P f (Version n) w = absurd (apart (codes "bound") (codes "JOPC") refl w)
only_bound P f (Root m) w = absurd (apart (codes "bound") (codes "root") refl w)
only_bound P f (Start k m) w = absurd (apart (codes "bound") (codes "section") refl w)
only_bound P f (Node u p) w = absurd (apart_both (codes "bound") (codes "raise") (codes "node") (u % 2 == 1) refl refl w)
only_bound P f (Loop l) w = absurd (apart_both (codes "bound") (codes "region") (codes "loop") l.region refl refl w)
only_bound P f (Bound b) w = f b

other_node : (r t : Bool) → node_word r ≡ node_word t → r ≡ t
other_node true true e = refl
other_node false false e = refl
other_node true false e = absurd (apart (codes "raise") (codes "node") refl e)
other_node false true e = absurd (apart (codes "node") (codes "raise") refl e)

node_apart : (r : Bool) (v : List ℕ) → pointwise nat_eq (codes "raise") v ≡ false → pointwise nat_eq (codes "node") v ≡ false → node_word r ≡ v → ⊥
node_apart true v f g e = apart (codes "raise") v f e
node_apart false v f g e = apart (codes "node") v g e

node_loop : (r t : Bool) → node_word r ≡ loop_word t → ⊥
node_loop r true e = node_apart r (codes "region") refl refl e
node_loop r false e = node_apart r (codes "loop") refl refl e

pub only_node : (raise : Bool) (P : CertLine → Type 0) → ((u : ℕ) (p : ℤ) → raise ≡ (u % 2 == 1) → P (Node u p)) → (e : CertLine) → node_word raise ≡ word_of e → P e
only_node raise P f (Version n) w = absurd (node_apart raise (codes "JOPC") refl refl w)
only_node raise P f (Root m) w = absurd (node_apart raise (codes "root") refl refl w)
only_node raise P f (Start k m) w = absurd (node_apart raise (codes "section") refl refl w)
only_node raise P f (Node u p) w = f u p (other_node raise (u % 2 == 1) w)
only_node raise P f (Loop l) w = absurd (node_loop raise l.region w)
only_node raise P f (Bound b) w = absurd (node_apart raise (codes "bound") refl refl w)

other_loop : (r t : Bool) → loop_word r ≡ loop_word t → r ≡ t
other_loop true true e = refl
other_loop false false e = refl
other_loop true false e = absurd (apart (codes "region") (codes "loop") refl e)
other_loop false true e = absurd (apart (codes "loop") (codes "region") refl e)

loop_apart : (r : Bool) (v : List ℕ) → pointwise nat_eq (codes "region") v ≡ false → pointwise nat_eq (codes "loop") v ≡ false → loop_word r ≡ v → ⊥
loop_apart true v f g e = apart (codes "region") v f e
loop_apart false v f g e = apart (codes "loop") v g e

pub only_loop : (region : Bool) (P : CertLine → Type 0) → ((l : LoopSaid) → region ≡ l.region → P (Loop l)) → (e : CertLine) → loop_word region ≡ word_of e → P e
only_loop region P f (Version n) w = absurd (loop_apart region (codes "JOPC") refl refl w)
only_loop region P f (Root m) w = absurd (loop_apart region (codes "root") refl refl w)
only_loop region P f (Start k m) w = absurd (loop_apart region (codes "section") refl refl w)
only_loop region P f (Node u p) w = absurd (node_loop (u % 2 == 1) region (sym w))
only_loop region P f (Loop l) w = f l (other_loop region l.region w)
only_loop region P f (Bound b) w = absurd (loop_apart region (codes "bound") refl refl w)
