-- The reasons in the words of this crate, for the class that an entry names.
use Rattle.std.proofs.Common.{◌≡◌, ℕ, Bool, true, false, not, ◌&&◌, ◌||◌, ◌==◌, List, [], ◌∷◌, ◌++◌, Option, Some, None, refl, sym, ap, ap₂, ◌∙◌}
use Rattle.std.specs.Prelude.{option_map}
use Rattle.std.specs.Option.{option_map_or}
use Rattle.program_tables.proofs.TextLemmas.{all_of_both}
use Rattle.lists.specs.Lists.{first_some}
use Rattle.bytecode_model.specs.Lists.{onto}
use Rattle.class_pool.specs.declared.entry.Entry.{Entry}
use Rattle.class_pool.specs.Grammar.{entry_at, name_and_type_of}
use Rattle.class_pool.specs.declared.class.Member.{Member}
use Rattle.class_pool.specs.declared.class.ClassFile.{ClassFile}
use Rattle.class_lookup.specs.Parts.{Signature, is_static, is_private}
use Rattle.class_lookup.specs.Lookup.{Place, field_at, method_at, find_field, find_method}
use Rattle.class_lookup.specs.Access.{is_accessible_member, is_writable_field}
use Rattle.program_tables.specs.declared.named.Named.{Named as Seen}
use Rattle.program_tables.specs.declared.named.Named.TheVariants as found
use Rattle.program_tables.specs.declared.refusal.Why.{Why}
use Rattle.program_tables.specs.declared.refusal.Why.TheVariants as reasons
use Rattle.program_tables.specs.Instructions as named
use Rattle.program_tables.specs.Instructions.{signature_in}
use Rattle.program_tables.specs.Kinds.{class_in_entry, classes_in_field_descriptor, classes_in_method_descriptor}
use Rattle.program_tables.specs.Operands.{class_named}
use Rattle.program_tables.specs.Tables.{seen_in}
use Rattle.program_tables.specs.Unresolved.{unless, are_there, is_there, is_free, may_name_entry, writes_field, needs_static_field, calls_no_private, is_callable_name, why_field_named, why_field_found, why_method_named, why_method_found}
use Rattle.bytecode_model.specs.Effects.{same_bool}
use Rattle.unresolved_names.specs.Causes.{signature_at}
use Rattle.unresolved_names.specs.Words.{accessible_member, nameable_entry, usable_field, found_field_reason, field_reason, usable_method, rightly_named, rightly_special, right_method, found_method_reason, method_reason, class_use_reason, named_reason}

-- ---- judged by two tests

-- two reasons, the first that applies
abbrev pub judged : (first second : Bool) → (Why × Why) → Option Why
judged true second w = unless second w.1
judged false second w = Some w.0

judged_is : (a b : Bool) (v w : Why) → first_some (unless a v ∷ unless b w ∷ []) ≡ judged a b (v, w)
judged_is true true v w = refl
judged_is true false v w = refl
judged_is false b v w = refl

there_both : (cs : List ClassFile) (xs ys : List (List ℕ)) → are_there cs xs ≡ true → are_there cs ys ≡ true → are_there cs (xs ++ ys) ≡ true
there_both cs xs ys a b = all_of_both (is_there cs) xs ys ∙ ap₂ (λ (p q : Bool). p && q) a b

first_there : (o : Option Why) → first_some (None ∷ o ∷ []) ≡ o
first_there None = refl
first_there (Some w) = refl

-- ---- fields

pub field_used : (cs : List ClassFile) (caller : ℕ) (c : ClassFile) (method : Signature) (op index : ℕ) (f : Place) (k : Member) (n : ℕ) → class_named cs c index ≡ Some n
    → usable_field cs caller c method op index f k
    ≡ (is_free cs caller || (nameable_entry cs caller c index && accessible_member cs caller n f.0 k && (not (writes_field op) || is_writable_field caller f.0 method k)))
unfolding usable_field nameable_entry accessible_member
field_used cs caller c method op index f k n e =
    ap (λ (o : Option ℕ). is_free cs caller || (may_name_entry cs caller c index && option_map_or (λ d. is_accessible_member cs caller d f.0 k) o false && (not (writes_field op) || is_writable_field caller f.0 method k))) e

pub field_judged : (cs : List ClassFile) (caller : ℕ) (c : ClassFile) (method : Signature) (op index : ℕ) (f : Place) (k : Member) → field_at cs f ≡ Some k
    → found_field_reason cs caller c method op index f (field_at cs f)
    ≡ judged (usable_field cs caller c method op index f k) (same_bool (needs_static_field op) (is_static k)) (reasons.NotAccessible, reasons.WrongKind)
unfolding found_field_reason usable_field
field_judged cs caller c method op index f k e =
    ap (why_field_found cs caller c method op index f) e
    ∙ judged_is (usable_field cs caller c method op index f k) (same_bool (needs_static_field op) (is_static k)) reasons.NotAccessible reasons.WrongKind

pub field_found : (cs : List ClassFile) (caller : ℕ) (c : ClassFile) (method : Signature) (op index : ℕ) (s : Signature) (n : ℕ) (f : Place)
    → are_there cs (class_in_entry c.pool index) ≡ true → are_there cs (classes_in_field_descriptor s.descriptor) ≡ true → class_named cs c index ≡ Some n → find_field cs n s ≡ Some f
    → found_field_reason cs caller c method op index f (field_at cs f) ≡ field_reason cs caller c method op index s
unfolding found_field_reason field_reason
field_found cs caller c method op index s n f entry descriptor named is =
    let one : why_field_named cs caller c method op index (onto (class_named cs c index) (λ d. find_field cs d s)) ≡ why_field_found cs caller c method op index f (field_at cs f)
    = ap (λ (o : Option ℕ). why_field_named cs caller c method op index (onto o (λ d. find_field cs d s))) named ∙ ap (why_field_named cs caller c method op index) is in
    sym (ap₂ (λ (b : Bool) (o : Option Why). first_some (unless b reasons.NoClass ∷ o ∷ [])) (there_both cs (class_in_entry c.pool index) (classes_in_field_descriptor s.descriptor) entry descriptor) one
    ∙ first_there (why_field_found cs caller c method op index f (field_at cs f)))

-- ---- methods

pub method_used : (cs : List ClassFile) (caller : ℕ) (c : ClassFile) (index : ℕ) (m : Place) (k : Member) (n : ℕ) → class_named cs c index ≡ Some n
    → usable_method cs caller c index m k ≡ (is_free cs caller || (nameable_entry cs caller c index && accessible_member cs caller n m.0 k))
unfolding usable_method nameable_entry accessible_member
method_used cs caller c index m k n e =
    ap (λ (o : Option ℕ). is_free cs caller || (may_name_entry cs caller c index && option_map_or (λ d. is_accessible_member cs caller d m.0 k) o false)) e

pub right_kind : (cs : List ClassFile) (caller : ℕ) (c : ClassFile) (of_interface : Bool) (op index : ℕ) (s : Signature) (m : Place) (k : Member)
    → right_method cs caller c of_interface op index s m k
    ≡ (rightly_named cs caller c of_interface op index
    && same_bool (op == 184) (is_static k)
    && (not (calls_no_private op) || not (is_private k))
    && (not (op == 183) || rightly_special cs caller c index m)
    && is_callable_name cs caller op s)
unfolding right_method rightly_named rightly_special
right_kind cs caller c of_interface op index s m k = refl

pub method_judged : (cs : List ClassFile) (caller : ℕ) (c : ClassFile) (of_interface : Bool) (op index : ℕ) (s : Signature) (m : Place) (k : Member) → method_at cs m ≡ Some k
    → found_method_reason cs caller c of_interface op index s m (method_at cs m)
    ≡ judged (usable_method cs caller c index m k) (right_method cs caller c of_interface op index s m k) (reasons.NotAccessible, reasons.WrongKind)
unfolding found_method_reason usable_method right_method
method_judged cs caller c of_interface op index s m k e =
    ap (why_method_found cs caller c of_interface op index s m) e
    ∙ judged_is (usable_method cs caller c index m k) (right_method cs caller c of_interface op index s m k) reasons.NotAccessible reasons.WrongKind

pub method_found : (cs : List ClassFile) (caller : ℕ) (c : ClassFile) (of_interface : Bool) (op index : ℕ) (s : Signature) (n : ℕ) (m : Place)
    → are_there cs (class_in_entry c.pool index) ≡ true → are_there cs (classes_in_method_descriptor s.descriptor) ≡ true → class_named cs c index ≡ Some n → find_method cs n s ≡ Some m
    → found_method_reason cs caller c of_interface op index s m (method_at cs m) ≡ method_reason cs caller c of_interface op index s
unfolding found_method_reason method_reason
method_found cs caller c of_interface op index s n m entry descriptor named is =
    let one : why_method_named cs caller c of_interface op index s (onto (class_named cs c index) (λ d. find_method cs d s)) ≡ why_method_found cs caller c of_interface op index s m (method_at cs m)
    = ap (λ (o : Option ℕ). why_method_named cs caller c of_interface op index s (onto o (λ d. find_method cs d s))) named ∙ ap (why_method_named cs caller c of_interface op index s) is in
    sym (ap₂ (λ (b : Bool) (o : Option Why). first_some (unless b reasons.NoClass ∷ o ∷ [])) (there_both cs (class_in_entry c.pool index) (classes_in_method_descriptor s.descriptor) entry descriptor) one
    ∙ first_there (why_method_found cs caller c of_interface op index s m (method_at cs m)))

-- ---- what is named

pub class_named_reason : (cs : List ClassFile) (caller : ℕ) (c : ClassFile) (method : Signature) (op index : ℕ) → class_use_reason cs caller c op index ≡ named_reason cs caller c method op (seen_in c.pool (found.Class index))
unfolding class_use_reason named_reason
class_named_reason cs caller c method op index = refl

pub field_named_reason : (cs : List ClassFile) (caller : ℕ) (c : ClassFile) (method : Signature) (op index member : ℕ) (s : Signature) → Some s ≡ signature_in c.pool member
    → field_reason cs caller c method op index s ≡ named_reason cs caller c method op (seen_in c.pool (found.Field index member))
unfolding field_reason named_reason
field_named_reason cs caller c method op index member s e = ap (λ (o : Option Signature). named_reason cs caller c method op (option_map (named.Field index) o)) e

pub method_named_reason : (cs : List ClassFile) (caller : ℕ) (c : ClassFile) (method : Signature) (op index member : ℕ) (s : Signature) → Some s ≡ signature_in c.pool member
    → method_reason cs caller c false op index s ≡ named_reason cs caller c method op (seen_in c.pool (found.Method index member))
unfolding method_reason named_reason
method_named_reason cs caller c method op index member s e = ap (λ (o : Option Signature). named_reason cs caller c method op (option_map (named.Method false index) o)) e

pub interface_named_reason : (cs : List ClassFile) (caller : ℕ) (c : ClassFile) (method : Signature) (op index member : ℕ) (s : Signature) → Some s ≡ signature_in c.pool member
    → method_reason cs caller c true op index s ≡ named_reason cs caller c method op (seen_in c.pool (found.InterfaceMethod index member))
unfolding method_reason named_reason
interface_named_reason cs caller c method op index member s e = ap (λ (o : Option Signature). named_reason cs caller c method op (option_map (named.Method true index) o)) e

-- ---- decided from what is known one after the other

free_used : (a b d w e : Bool) → a ≡ true → true ≡ (a || (b && d && (not w || e)))
free_used a b d w e h = rw h refl

unnamed_unused : (a b d w e : Bool) → a ≡ false → b ≡ false → false ≡ (a || (b && d && (not w || e)))
unnamed_unused a b d w e h i = rw (h, i) refl

closed_unused : (a b d w e : Bool) → a ≡ false → b ≡ true → d ≡ false → false ≡ (a || (b && d && (not w || e)))
closed_unused a b d w e h i j = rw (h, i, j) refl

read_used : (a b d w e : Bool) → a ≡ false → b ≡ true → d ≡ true → w ≡ false → true ≡ (a || (b && d && (not w || e)))
read_used a b d w e h i j k = rw (h, i, j, k) refl

written_used : (a b d w e : Bool) → a ≡ false → b ≡ true → d ≡ true → w ≡ true → e ≡ (a || (b && d && (not w || e)))
written_used a b d w e h i j k = rw (h, i, j, k) refl

not_free : (cs listed : List ClassFile) (caller : ℕ) (b : Bool) → listed ≡ cs → b ≡ is_free listed caller → is_free cs caller ≡ b
not_free cs listed caller b same h = sym (h ∙ ap (λ (xs : List ClassFile). is_free xs caller) same)

open_at : (cs : List ClassFile) (caller n owner : ℕ) (f : Place) (k : Member) (b : Bool) → owner ≡ f.0 → b ≡ accessible_member cs caller n owner k → accessible_member cs caller n f.0 k ≡ b
open_at cs caller n owner f k b same h = sym (h ∙ ap (λ (o : ℕ). accessible_member cs caller n o k) same)

pub field_free : (cs listed : List ClassFile) (caller : ℕ) (c : ClassFile) (method : Signature) (op index : ℕ) (f : Place) (k : Member) (n : ℕ) → listed ≡ cs → class_named cs c index ≡ Some n
    → true ≡ is_free listed caller → true ≡ usable_field cs caller c method op index f k
field_free cs listed caller c method op index f k n same named free =
    free_used (is_free cs caller) (nameable_entry cs caller c index) (accessible_member cs caller n f.0 k) (writes_field op) (is_writable_field caller f.0 method k) (not_free cs listed caller true same free)
    ∙ sym (field_used cs caller c method op index f k n named)

pub field_unnamed : (cs listed : List ClassFile) (caller : ℕ) (c : ClassFile) (method : Signature) (op index : ℕ) (f : Place) (k : Member) (n : ℕ) (may : Bool) → listed ≡ cs → class_named cs c index ≡ Some n
    → false ≡ is_free listed caller → may ≡ nameable_entry cs caller c index → may ≡ false → false ≡ usable_field cs caller c method op index f k
field_unnamed cs listed caller c method op index f k n may same named free is may_not =
    unnamed_unused (is_free cs caller) (nameable_entry cs caller c index) (accessible_member cs caller n f.0 k) (writes_field op) (is_writable_field caller f.0 method k) (not_free cs listed caller false same free) (sym is ∙ may_not)
    ∙ sym (field_used cs caller c method op index f k n named)

pub field_closed : (cs listed : List ClassFile) (caller : ℕ) (c : ClassFile) (method : Signature) (op index : ℕ) (f : Place) (k : Member) (n : ℕ) (may : Bool) (owner : ℕ) → listed ≡ cs → class_named cs c index ≡ Some n
    → false ≡ is_free listed caller → may ≡ nameable_entry cs caller c index → may ≡ true → owner ≡ f.0 → false ≡ accessible_member cs caller n owner k → false ≡ usable_field cs caller c method op index f k
field_closed cs listed caller c method op index f k n may owner same named free is may_be at closed =
    closed_unused (is_free cs caller) (nameable_entry cs caller c index) (accessible_member cs caller n f.0 k) (writes_field op) (is_writable_field caller f.0 method k) (not_free cs listed caller false same free) (sym is ∙ may_be) (open_at cs caller n owner f k false at closed)
    ∙ sym (field_used cs caller c method op index f k n named)

pub field_read : (cs listed : List ClassFile) (caller : ℕ) (c : ClassFile) (method : Signature) (op index : ℕ) (f : Place) (k : Member) (n : ℕ) (may : Bool) (owner : ℕ) → listed ≡ cs → class_named cs c index ≡ Some n
    → false ≡ is_free listed caller → may ≡ nameable_entry cs caller c index → may ≡ true → owner ≡ f.0 → true ≡ accessible_member cs caller n owner k → false ≡ writes_field op → true ≡ usable_field cs caller c method op index f k
field_read cs listed caller c method op index f k n may owner same named free is may_be at opened reads =
    read_used (is_free cs caller) (nameable_entry cs caller c index) (accessible_member cs caller n f.0 k) (writes_field op) (is_writable_field caller f.0 method k) (not_free cs listed caller false same free) (sym is ∙ may_be) (open_at cs caller n owner f k true at opened) (sym reads)
    ∙ sym (field_used cs caller c method op index f k n named)

pub field_written : (cs listed : List ClassFile) (caller : ℕ) (c : ClassFile) (method : Signature) (op index : ℕ) (f : Place) (k : Member) (n : ℕ) (may : Bool) (owner : ℕ) (r : Bool) → listed ≡ cs → class_named cs c index ≡ Some n
    → false ≡ is_free listed caller → may ≡ nameable_entry cs caller c index → may ≡ true → owner ≡ f.0 → true ≡ accessible_member cs caller n owner k → true ≡ writes_field op → r ≡ is_writable_field caller owner method k
    → r ≡ usable_field cs caller c method op index f k
field_written cs listed caller c method op index f k n may owner r same named free is may_be at opened writes writable =
    (writable ∙ ap (λ (o : ℕ). is_writable_field caller o method k) at)
    ∙ (written_used (is_free cs caller) (nameable_entry cs caller c index) (accessible_member cs caller n f.0 k) (writes_field op) (is_writable_field caller f.0 method k) (not_free cs listed caller false same free) (sym is ∙ may_be) (open_at cs caller n owner f k true at opened) (sym writes)
    ∙ sym (field_used cs caller c method op index f k n named))

pub method_free : (cs listed : List ClassFile) (caller : ℕ) (c : ClassFile) (index : ℕ) (m : Place) (k : Member) (n : ℕ) → listed ≡ cs → class_named cs c index ≡ Some n
    → true ≡ is_free listed caller → true ≡ usable_method cs caller c index m k
method_free cs listed caller c index m k n same named free =
    let a = is_free cs caller in let b = nameable_entry cs caller c index in let d = accessible_member cs caller n m.0 k in
    free_method a b d (not_free cs listed caller true same free) ∙ sym (method_used cs caller c index m k n named)
  where
    free_method : (a b d : Bool) → a ≡ true → true ≡ (a || (b && d))
    free_method a b d h = rw h refl

pub method_unnamed : (cs listed : List ClassFile) (caller : ℕ) (c : ClassFile) (index : ℕ) (m : Place) (k : Member) (n : ℕ) (may : Bool) → listed ≡ cs → class_named cs c index ≡ Some n
    → false ≡ is_free listed caller → may ≡ nameable_entry cs caller c index → may ≡ false → false ≡ usable_method cs caller c index m k
method_unnamed cs listed caller c index m k n may same named free is may_not =
    let a = is_free cs caller in let b = nameable_entry cs caller c index in let d = accessible_member cs caller n m.0 k in
    unnamed_method a b d (not_free cs listed caller false same free) (sym is ∙ may_not) ∙ sym (method_used cs caller c index m k n named)
  where
    unnamed_method : (a b d : Bool) → a ≡ false → b ≡ false → false ≡ (a || (b && d))
    unnamed_method a b d h i = rw (h, i) refl

pub method_open : (cs listed : List ClassFile) (caller : ℕ) (c : ClassFile) (index : ℕ) (m : Place) (k : Member) (n : ℕ) (may : Bool) (owner : ℕ) (r : Bool) → listed ≡ cs → class_named cs c index ≡ Some n
    → false ≡ is_free listed caller → may ≡ nameable_entry cs caller c index → may ≡ true → owner ≡ m.0 → r ≡ accessible_member cs caller n owner k → r ≡ usable_method cs caller c index m k
method_open cs listed caller c index m k n may owner r same named free is may_be at opened =
    let a = is_free cs caller in let b = nameable_entry cs caller c index in let d = accessible_member cs caller n m.0 k in
    (sym (open_at cs caller n owner m k r at opened))
    ∙ (open_method a b d (not_free cs listed caller false same free) (sym is ∙ may_be) ∙ sym (method_used cs caller c index m k n named))
  where
    open_method : (a b d : Bool) → a ≡ false → b ≡ true → d ≡ (a || (b && d))
    open_method a b d h i = rw (h, i) refl

pub kind_is_right : (a b d e r : Bool) → true ≡ a → true ≡ b → true ≡ d → true ≡ e → r ≡ (a && b && d && e && r)
kind_is_right a b d e r h i j k = rw (sym h, sym i, sym j, sym k) refl

-- ---- judged

pub refused_use : (listed cs : List ClassFile) (caller : ℕ) (c : ClassFile) (method : Signature) (op index : ℕ) (f : Place) (k : Member) → listed ≡ cs → Some k ≡ field_at listed f
    → false ≡ usable_field cs caller c method op index f k → Some reasons.NotAccessible ≡ found_field_reason cs caller c method op index f (field_at cs f)
refused_use listed cs caller c method op index f k same at closed =
    ap (λ (b : Bool). judged b (same_bool (needs_static_field op) (is_static k)) (reasons.NotAccessible, reasons.WrongKind)) closed
    ∙ sym (field_judged cs caller c method op index f k (sym (at ∙ ap (λ (xs : List ClassFile). field_at xs f) same)))

pub judged_use : (listed cs : List ClassFile) (caller : ℕ) (c : ClassFile) (method : Signature) (op index : ℕ) (f : Place) (k : Member) (b : Bool) → listed ≡ cs → Some k ≡ field_at listed f
    → true ≡ usable_field cs caller c method op index f k → b ≡ same_bool (needs_static_field op) (is_static k) → unless b reasons.WrongKind ≡ found_field_reason cs caller c method op index f (field_at cs f)
judged_use listed cs caller c method op index f k b same at opened kind =
    ap₂ (λ (a e : Bool). judged a e (reasons.NotAccessible, reasons.WrongKind)) opened kind
    ∙ sym (field_judged cs caller c method op index f k (sym (at ∙ ap (λ (xs : List ClassFile). field_at xs f) same)))

pub refused_call : (listed cs : List ClassFile) (caller : ℕ) (c : ClassFile) (of_interface : Bool) (op index : ℕ) (s : Signature) (m : Place) (k : Member) → listed ≡ cs → Some k ≡ method_at listed m
    → false ≡ usable_method cs caller c index m k → Some reasons.NotAccessible ≡ found_method_reason cs caller c of_interface op index s m (method_at cs m)
refused_call listed cs caller c of_interface op index s m k same at closed =
    ap (λ (b : Bool). judged b (right_method cs caller c of_interface op index s m k) (reasons.NotAccessible, reasons.WrongKind)) closed
    ∙ sym (method_judged cs caller c of_interface op index s m k (sym (at ∙ ap (λ (xs : List ClassFile). method_at xs m) same)))

pub judged_call : (listed cs : List ClassFile) (caller : ℕ) (c : ClassFile) (of_interface : Bool) (op index : ℕ) (s : Signature) (m : Place) (k : Member) (b : Bool) → listed ≡ cs → Some k ≡ method_at listed m
    → true ≡ usable_method cs caller c index m k → b ≡ right_method cs caller c of_interface op index s m k → unless b reasons.WrongKind ≡ found_method_reason cs caller c of_interface op index s m (method_at cs m)
judged_call listed cs caller c of_interface op index s m k b same at opened kind =
    ap₂ (λ (a e : Bool). judged a e (reasons.NotAccessible, reasons.WrongKind)) opened kind
    ∙ sym (method_judged cs caller c of_interface op index s m k (sym (at ∙ ap (λ (xs : List ClassFile). method_at xs m) same)))

pub field_lost : (listed cs : List ClassFile) (caller : ℕ) (c : ClassFile) (method : Signature) (op index : ℕ) (f : Place) → listed ≡ cs → None ≡ field_at listed f
    → Some reasons.NoField ≡ found_field_reason cs caller c method op index f (field_at cs f)
unfolding found_field_reason
field_lost listed cs caller c method op index f same at =
    ap (why_field_found cs caller c method op index f) (at ∙ ap (λ (xs : List ClassFile). field_at xs f) same)

pub method_lost : (listed cs : List ClassFile) (caller : ℕ) (c : ClassFile) (of_interface : Bool) (op index : ℕ) (s : Signature) (m : Place) → listed ≡ cs → None ≡ method_at listed m
    → Some reasons.NoMethod ≡ found_method_reason cs caller c of_interface op index s m (method_at cs m)
unfolding found_method_reason
method_lost listed cs caller c of_interface op index s m same at =
    ap (why_method_found cs caller c of_interface op index s m) (at ∙ ap (λ (xs : List ClassFile). method_at xs m) same)

-- ---- classes that are there

pub is_all_there : (listed cs : List ClassFile) (names : List (List ℕ)) → listed ≡ cs → true ≡ are_there listed names → are_there cs names ≡ true
is_all_there listed cs names same h = sym (h ∙ ap (λ (ks : List ClassFile). are_there ks names) same)

pub isnt_all_there : (listed cs : List ClassFile) (names : List (List ℕ)) → listed ≡ cs → false ≡ are_there listed names → are_there cs names ≡ false
isnt_all_there listed cs names same h = sym (h ∙ ap (λ (ks : List ClassFile). are_there ks names) same)

pub class_is_named : (listed cs : List ClassFile) (c : ClassFile) (index n : ℕ) → listed ≡ cs → Some n ≡ class_named listed c index → class_named cs c index ≡ Some n
class_is_named listed cs c index n same h = sym (h ∙ ap (λ (ks : List ClassFile). class_named ks c index) same)

-- ---- names and descriptors

pub signature_is : (pool : List Entry) (member name descriptor : ℕ) → Some (name, descriptor) ≡ name_and_type_of (entry_at pool member) → Some (signature_at pool name descriptor) ≡ signature_in pool member
signature_is pool member name descriptor e = ap (option_map (λ (n : ℕ × ℕ). signature_at pool n.0 n.1)) e

pub no_signature : (pool : List Entry) (member : ℕ) → None ≡ name_and_type_of (entry_at pool member) → None ≡ signature_in pool member
no_signature pool member e = ap (option_map (λ (n : ℕ × ℕ). signature_at pool n.0 n.1)) e

-- ---- where it is told what is named

along : (cs : List ClassFile) (caller : ℕ) (c : ClassFile) (method : Signature) (op : ℕ) (n m : Seen) → n ≡ m → named_reason cs caller c method op (seen_in c.pool m) ≡ named_reason cs caller c method op (seen_in c.pool n)
along cs caller c method op n m e = ap (λ (x : Seen). named_reason cs caller c method op (seen_in c.pool x)) (sym e)

constant_case : (cs : List ClassFile) (caller : ℕ) (c : ClassFile) (method : Signature) (op : ℕ) (o : Option Entry) → None ≡ named_reason cs caller c method op (option_map named.Constant o)
unfolding named_reason
constant_case cs caller c method op None = refl
constant_case cs caller c method op (Some e) = refl

pub constant_told : (cs : List ClassFile) (caller : ℕ) (c : ClassFile) (method : Signature) (op : ℕ) (n : Seen) (index : ℕ) → n ≡ found.Constant index → None ≡ named_reason cs caller c method op (seen_in c.pool n)
constant_told cs caller c method op n index e = constant_case cs caller c method op (entry_at c.pool index) ∙ along cs caller c method op n (found.Constant index) e

pub class_told : (listed cs : List ClassFile) (caller : ℕ) (c : ClassFile) (method : Signature) (op : ℕ) (n : Seen) (index : ℕ) → listed ≡ cs → n ≡ found.Class index
    → class_use_reason listed caller c op index ≡ named_reason cs caller c method op (seen_in c.pool n)
class_told listed cs caller c method op n index same e =
    ap (λ (ks : List ClassFile). class_use_reason ks caller c op index) same ∙ (class_named_reason cs caller c method op index ∙ along cs caller c method op n (found.Class index) e)

pub field_told : (cs : List ClassFile) (caller : ℕ) (c : ClassFile) (method : Signature) (op : ℕ) (n : Seen) (index member : ℕ) (s : Signature) → n ≡ found.Field index member → Some s ≡ signature_in c.pool member
    → field_reason cs caller c method op index s ≡ named_reason cs caller c method op (seen_in c.pool n)
field_told cs caller c method op n index member s e is = field_named_reason cs caller c method op index member s is ∙ along cs caller c method op n (found.Field index member) e

pub method_told : (cs : List ClassFile) (caller : ℕ) (c : ClassFile) (method : Signature) (op : ℕ) (n : Seen) (index member : ℕ) (s : Signature) → n ≡ found.Method index member → Some s ≡ signature_in c.pool member
    → method_reason cs caller c false op index s ≡ named_reason cs caller c method op (seen_in c.pool n)
method_told cs caller c method op n index member s e is = method_named_reason cs caller c method op index member s is ∙ along cs caller c method op n (found.Method index member) e

pub interface_told : (cs : List ClassFile) (caller : ℕ) (c : ClassFile) (method : Signature) (op : ℕ) (n : Seen) (index member : ℕ) (s : Signature) → n ≡ found.InterfaceMethod index member → Some s ≡ signature_in c.pool member
    → method_reason cs caller c true op index s ≡ named_reason cs caller c method op (seen_in c.pool n)
interface_told cs caller c method op n index member s e is = interface_named_reason cs caller c method op index member s is ∙ along cs caller c method op n (found.InterfaceMethod index member) e

pub no_field_told : (cs : List ClassFile) (caller : ℕ) (c : ClassFile) (method : Signature) (op : ℕ) (n : Seen) (index member : ℕ) → n ≡ found.Field index member → None ≡ signature_in c.pool member
    → None ≡ named_reason cs caller c method op (seen_in c.pool n)
unfolding named_reason
no_field_told cs caller c method op n index member e is =
    ap (λ (o : Option Signature). named_reason cs caller c method op (option_map (named.Field index) o)) is ∙ along cs caller c method op n (found.Field index member) e

pub no_method_told : (cs : List ClassFile) (caller : ℕ) (c : ClassFile) (method : Signature) (op : ℕ) (n : Seen) (index member : ℕ) → n ≡ found.Method index member → None ≡ signature_in c.pool member
    → None ≡ named_reason cs caller c method op (seen_in c.pool n)
unfolding named_reason
no_method_told cs caller c method op n index member e is =
    ap (λ (o : Option Signature). named_reason cs caller c method op (option_map (named.Method false index) o)) is ∙ along cs caller c method op n (found.Method index member) e

pub no_interface_told : (cs : List ClassFile) (caller : ℕ) (c : ClassFile) (method : Signature) (op : ℕ) (n : Seen) (index member : ℕ) → n ≡ found.InterfaceMethod index member → None ≡ signature_in c.pool member
    → None ≡ named_reason cs caller c method op (seen_in c.pool n)
unfolding named_reason
no_interface_told cs caller c method op n index member e is =
    ap (λ (o : Option Signature). named_reason cs caller c method op (option_map (named.Method true index) o)) is ∙ along cs caller c method op n (found.InterfaceMethod index member) e
