-- The name of a slot's method, part by part.
use Rattle.std.proofs.Common.{◌≡◌, ◌≢◌, ℕ, ◌+◌, ◌-◌, ◌/◌, ◌%◌, ◌≤◌, nat_lt, Bool, true, false, not, cond, ◌&&◌, List, [], ◌∷◌, ◌++◌, length, take, drop, All, refl, sym, ◌∙◌, ap, ap₂, subst, arith, length-append}
use Rattle.std.specs.Prelude.{◌==◌, codes, nat_eq, Result, Ok, Err, IfOk, IfErr}
use Rattle.lists.proofs.Lemmas.{none≢some, some_same}
use Prim.Native.Char.{code}
use Rattle.std.proofs.lemmas.Bool.{eqb-true, true≢false, and_parts}
use Rattle.std.proofs.lemmas.List.{append_cancel_right, take-append-drop, drop_at}
use Rattle.std.proofs.lemmas.List.Elements.{All-nil, All-cons, All-append}
use lib.Pointwise.{pointwise, bytes_decides}
use Rattle.class_pool.specs.Utf8.{is_single, unit_bytes, utf8_bytes, AreUnits}
use Rattle.descriptors.specs.Names.{is_plain, is_path, is_class_name, is_method_name}
use Rattle.name_laws.specs.Written.{written, name_in}
use Rattle.slot_table.specs.Parts.{IsCut, IsTextOf, IsClassText, IsMethodText, IsNameOf, IsWordOf}
use Rattle.base.specs.declared.fault.FormatFault.{FormatFault}
use Rattle.base.specs.declared.fault.FormatFault.TheVariants as formats
use Rattle.base.specs.Reading.{Gives}
use Rattle.class_pool.specs.NumberLaws.{IsBytes}
use Rattle.class_pool.specs.Reading.{units_in}
use Rattle.class_pool.proofs.TextLaws.{units_take, units_again}
use Rattle.slot_table.specs.Grammar.{OnBad}
use Rattle.slot_table.proofs.Cuts.{IsOther, no_cut, one_cut}

-- ---- the name of a class holds no dot

-- a byte of a unit that takes more than one is at least 128
unit_case : (u : ℕ) (single short : Bool) → is_single u ≡ single → u ≢ 46
    → All (IsOther 46) (cond single (u ∷ []) (cond short ((192 + u / 64) ∷ (128 + u % 64) ∷ []) ((224 + u / 4096) ∷ (128 + u / 64 % 64) ∷ (128 + u % 64) ∷ [])))
unit_case u true short e ne = All-cons (IsOther 46) u [] ne (All-nil (IsOther 46))
unit_case u false true e ne = All-cons (IsOther 46) (192 + u / 64) ((128 + u % 64) ∷ []) (λ same. omega arith) (All-cons (IsOther 46) (128 + u % 64) [] (λ same. omega arith) (All-nil (IsOther 46)))
unit_case u false false e ne =
    All-cons (IsOther 46) (224 + u / 4096) ((128 + u / 64 % 64) ∷ (128 + u % 64) ∷ []) (λ same. omega arith)
    (All-cons (IsOther 46) (128 + u / 64 % 64) ((128 + u % 64) ∷ []) (λ same. omega arith) (All-cons (IsOther 46) (128 + u % 64) [] (λ same. omega arith) (All-nil (IsOther 46))))

no_dot_in : (u : ℕ) → u ≢ 46 → All (IsOther 46) (unit_bytes u)
no_dot_in u ne = unit_case u (is_single u) (nat_lt u 2048) refl ne

plain_is_no_dot : (u : ℕ) → is_plain u ≡ true → u ≢ 46
plain_is_no_dot u plain same = true≢false (sym plain ∙ ap is_plain same)

path_case : (u : ℕ) (fresh slash : Bool) (us : List ℕ) → u == code "/" ≡ slash → cond slash (not fresh && is_path true us) (is_plain u && is_path false us) ≡ true
    → (u ≢ 46) × ((next : Bool) × (is_path next us ≡ true))
path_case u fresh true us e h =
    let same : u ≡ 47 = eqb-true u 47 e in
    (λ dot. omega arith, (true, (and_parts (not fresh) (is_path true us) h).1))
path_case u fresh false us e h =
    let both = and_parts (is_plain u) (is_path false us) h in
    (plain_is_no_dot u both.0, (false, both.1))

path_has_no_dot : (fresh : Bool) (us : List ℕ) → is_path fresh us ≡ true → All (IsOther 46) (utf8_bytes us)
path_has_no_dot fresh [] h = All-nil (IsOther 46)
path_has_no_dot fresh (u ∷ us) h =
    let here = path_case u fresh (u == code "/") us refl h in
    All-append (IsOther 46) (unit_bytes u) (utf8_bytes us) (no_dot_in u here.0) (path_has_no_dot here.1.0 us here.1.1)

pub class_has_no_dot : (text name : List ℕ) → IsClassText text name → All (IsOther 46) text
class_has_no_dot text name h = subst (All (IsOther 46)) (sym h.text.bytes_are) (path_has_no_dot true name h.class)

-- ---- what stands before and behind the dot

pub name_cut : (text class method : List ℕ) (n : IsNameOf text class method) → IsCut 46 text n.class_text (n.method_text ++ codes "()V")
name_cut text class method n = record { text_is = n.text_is; first = class_has_no_dot n.class_text class n.class_is }

pub no_name : (text : List ℕ) → All (IsOther 46) text → (class method : List ℕ) → ¬ IsNameOf text class method
no_name text none class method n = no_cut 46 text n.class_text (n.method_text ++ codes "()V") none (name_cut text class method n)

pub other_end : (text before behind : List ℕ) → IsCut 46 text before behind → pointwise nat_eq (drop (length behind - 3) behind) (codes "()V") ≡ false → (class method : List ℕ) → ¬ IsNameOf text class method
other_end text before behind cut other class method n =
    let same : behind ≡ n.method_text ++ codes "()V" = (one_cut 46 text before behind n.class_text (n.method_text ++ codes "()V") cut (name_cut text class method n)).1 in
    let long : length behind ≡ length n.method_text + 3 = ap length same ∙ length-append n.method_text (codes "()V") in
    let end : drop (length behind - 3) behind ≡ codes "()V" =
    ap (drop (length behind - 3)) same ∙ drop_at n.method_text (codes "()V") (length behind - 3) (omega arith) in
    true≢false (sym ((bytes_decides (drop (length behind - 3) behind) (codes "()V")).1 end) ∙ other)

-- the text is put together of its parts
pub suffix_is : (behind method : List ℕ) → pointwise nat_eq (drop (length behind - 3) behind) (codes "()V") ≡ true → method ≡ take (length behind - 3) behind → behind ≡ method ++ codes "()V"
suffix_is behind method same is =
    sym (take-append-drop (length behind - 3) behind) ∙ ap₂ (λ (xs ys : List ℕ). xs ++ ys) (sym is) ((bytes_decides (drop (length behind - 3) behind) (codes "()V")).0 same)

pub is_name : (text before behind method class name : List ℕ) → IsCut 46 text before behind → behind ≡ method ++ codes "()V" → IsClassText before class → IsMethodText method name → IsNameOf text class name
is_name text before behind method class name cut end c m = record {
  class_text = before;
  method_text = method;
  text_is = cut.text_is ∙ ap (λ (xs : List ℕ). before ++ 46 ∷ xs) end;
  class_is = c;
  method_is = m;
}

pub other_class : (text before behind : List ℕ) → IsCut 46 text before behind → ((name : List ℕ) → ¬ IsClassText before name) → (class method : List ℕ) → ¬ IsNameOf text class method
other_class text before behind cut other class method n =
    let same : before ≡ n.class_text = (one_cut 46 text before behind n.class_text (n.method_text ++ codes "()V") cut (name_cut text class method n)).0 in
    other class (subst (λ (t : List ℕ). IsClassText t class) (sym same) n.class_is)

pub other_method : (text before behind method : List ℕ) → IsCut 46 text before behind → behind ≡ method ++ codes "()V" → ((name : List ℕ) → ¬ IsMethodText method name) → (class name : List ℕ) → ¬ IsNameOf text class name
other_method text before behind method cut end other class name n =
    let same : behind ≡ n.method_text ++ codes "()V" = (one_cut 46 text before behind n.class_text (n.method_text ++ codes "()V") cut (name_cut text class name n)).1 in
    let parts : method ≡ n.method_text = append_cancel_right method n.method_text (codes "()V") (sym end ∙ same) in
    other name (subst (λ (t : List ℕ). IsMethodText t name) (sym parts) n.method_is)

-- ---- texts

pub on_bad : (fault : FormatFault) (P Q : Type 0) → (P → Q) → OnBad fault P → OnBad fault Q
on_bad formats.Bad P Q f h = f h
on_bad formats.NoMemory P Q f h = h

pub text_given : (bytes : List ℕ) (r : Result (List ℕ) FormatFault) → IsBytes bytes → length bytes ≤ 65535 → Gives (λ x. x) r (units_in bytes) → IfOk r (IsTextOf bytes)
text_given bytes (Ok text) fits short gives =
    let spelled = units_take bytes text fits gives in
    let long = ap length spelled.0 in
    record { bytes_are = spelled.0; fits = (spelled.1, omega arith) }
text_given bytes (Err fault) fits short gives = tt

pub text_refused : (bytes : List ℕ) (r : Result (List ℕ) FormatFault) → Gives (λ x. x) r (units_in bytes) → IfErr r (λ fault. OnBad fault ((text : List ℕ) → ¬ IsTextOf bytes text))
text_refused bytes (Ok text) gives = tt
text_refused bytes (Err formats.Bad) gives = λ text is. none≢some text (sym gives ∙ ap units_in is.bytes_are ∙ units_again text is.fits.0)
text_refused bytes (Err formats.NoMemory) gives = tt

-- bytes spell one text
pub same_text : (a b : List ℕ) → AreUnits a → AreUnits b → utf8_bytes a ≡ utf8_bytes b → a ≡ b
same_text a b x y same = some_same a b (sym (units_again a x) ∙ ap units_in same ∙ units_again b y)

pub one_text : (bytes a b : List ℕ) → IsTextOf bytes a → IsTextOf bytes b → a ≡ b
one_text bytes a b x y = same_text a b x.fits.0 y.fits.0 (sym x.bytes_are ∙ y.bytes_are)

pub no_class : (bytes text : List ℕ) → IsTextOf bytes text → is_class_name text ≡ false → (name : List ℕ) → ¬ IsClassText bytes name
no_class bytes text is other name named = true≢false (sym named.class ∙ ap is_class_name (one_text bytes name text named.text is) ∙ other)

pub no_method : (bytes text : List ℕ) → IsTextOf bytes text → is_method_name text ≡ false → (name : List ℕ) → ¬ IsMethodText bytes name
no_method bytes text is other name named = true≢false (sym named.method ∙ ap is_method_name (one_text bytes name text named.text is) ∙ other)

-- ---- a word

word_names : (word text class method : List ℕ) → ((name : List ℕ) → name_in (written name) ≡ name) → text ≡ name_in word → IsWordOf word class method → IsNameOf text class method
word_names word text class method read is w =
    subst (λ (t : List ℕ). IsNameOf t class method) (sym (is ∙ ap name_in (sym w.written_so) ∙ read w.text)) w.name

pub word_refused : {A : Type 0} (word text : List ℕ) (r : Result A FormatFault) → ((name : List ℕ) → name_in (written name) ≡ name) → text ≡ name_in word
    → IfErr r (λ fault. OnBad fault ((class : List ℕ) (method : List ℕ) → ¬ IsNameOf text class method))
    → IfErr r (λ fault. OnBad fault ((class : List ℕ) (method : List ℕ) → ¬ IsWordOf word class method))
word_refused word text (Ok x) read is h = tt
word_refused word text (Err fault) read is h =
    on_bad fault ((class : List ℕ) (method : List ℕ) → ¬ IsNameOf text class method) ((class : List ℕ) (method : List ℕ) → ¬ IsWordOf word class method)
    (λ none class method w. none class method (word_names word text class method read is w)) h
