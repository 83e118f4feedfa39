-- The words of each entry of a pool mean what the instructions of the class name by it.
use Rattle.std.proofs.Common.{◌≡◌, ◌⊎◌, inl, inr, ℕ, ◌+◌, ◌*◌, ◌/◌, ◌%◌, ◌^◌, Bool, true, false, eqb, List, [], ◌∷◌, Option, Some, None, refl, sym, ap, ◌∙◌, subst}
use Rattle.std.specs.Prelude.{slice_get, Ok, is_some, nat_le, unsigned_abs, if◌then◌else◌}
use Rattle.std.specs.Option.{option_map, option_map_or}
use Rattle.std.proofs.lemmas.Bool.{false≢true, or_left, or_right, eq-eqb}
use Rattle.program_laws.proofs.Entries.{none_of}
use Rattle.program_laws.proofs.Rows.{instr_ok, operand_is}
use Rattle.class_pool.specs.declared.entry.Entry.{Entry}
use Rattle.class_pool.specs.declared.entry.Entry.TheVariants as entries
use Rattle.class_pool.specs.Grammar.{entry_at, text_at}
use Rattle.class_pool.specs.Spelling.{IsEntryInRange}
use Rattle.class_pool.specs.Found.{code_of}
use Rattle.class_pool.specs.declared.class.ClassFile.{ClassFile}
use Rattle.class_rules.specs.Found.{MethodsHaveCode}
use Rattle.class_rules.specs.Grammar.{IsClass}
use Rattle.opcodes.specs.declared.instruction.Instr.{Instr}
use Rattle.opcodes.specs.Instruction.{decoded}
use Rattle.opcodes.specs.Start.{IsStart}
use Rattle.bytecode_model.specs.Types.{OfReferences}
use Rattle.bytecode_model.specs.Program.{Method, Body, NoOperand, as_instr, body_of}
use Rattle.lists.specs.Lists.{onto}
use Rattle.lists.proofs.Lemmas.{none≢some, some_same, onto_some, map_some}
use Rattle.image_facts.specs.Places.{AreFixed}
use Rattle.image_facts.specs.Says.{argument_words_of, invokespecial, invokestatic, IsSlot, IsInterfaceNumber, SaysOperand}
use Rattle.class_lookup.specs.Parts.{Signature}
use Rattle.class_lookup.specs.Lookup.{find_method}
use Rattle.program_tables.specs.Instructions.{Placed, Named, Constant, Class, Field, Method as MethodNamed, signature_in, is_ldc, is_ldc2, is_class_use, is_field_access, takes_method, takes_interface_method, named_by, named_in, index_of_entry, instructions_of}
use Rattle.program_tables.specs.Kinds.{kind_of_entry}
use Rattle.program_tables.specs.Numbers.{string_number, method_number}
use Rattle.program_tables.specs.Operands.{class_named, field_named, method_named, operand_by, operand_in}
use Rattle.program_tables.specs.Resolved.{body_in, resolved}
use Rattle.program_tables.specs.Unresolved.{why_class_use, why_method, why_named}
use Rattle.program_tables.specs.Resolving.{IsResolved}
use Rattle.program_laws.proofs.ClassLaws.{ClassLaws}
use Rattle.program_laws.proofs.Facts.{all_at}
use Rattle.program_laws.proofs.Numbering.{numbered}
use Rattle.program_laws.proofs.Objects.{in_range}
use Rattle.program_laws.proofs.Statics.{ReadFields, range_of}
use Rattle.program_laws.proofs.Calls.{IsNamed, method_is_named}
use Rattle.image_words.specs.Layout.{pool_place, outline_of}
use Rattle.image_words.specs.Pools.{no_words, string_words, numbered_place, field_words, is_fixed_call, taken_place, method_word, interface_word, instructions_in, words_of_entry, entry_words}
use Rattle.image_words.specs.Regions.{places_of}
use Rattle.image_words.specs.Laws.{EntriesLie}
use Rattle.image_laws.specs.Laws.{EntriesAreNamed, IntsAreSaid, StringsAreSaid, ClassesAreSaid, InstanceFieldsAreSaid, StaticFieldsAreSaid, IsCalled, VirtualCallsAreSaid, InterfaceCallsAreSaid, IsSmall, OperandsLaw}
use Rattle.image_laws.proofs.Instructions.{placed, among_instructions, flat_get, IsLinked, all_linked, entry_within}
use Rattle.image_laws.proofs.Mentioned.{kind_there}
use Rattle.image_laws.proofs.Operands.{Both, says_by, text_case, class_case, field_named_case, SaysCall, method_means, NamesAlike, taken_is}

-- the laws from which it follows
pub record EntryLaws : Type 0 where
  pub classes : ClassLaws
  pub read : ReadFields
  pub code : MethodsHaveCode
  pub lie : EntriesLie
  pub named : EntriesAreNamed
  pub ints : IntsAreSaid
  pub strings : StringsAreSaid
  pub types : ClassesAreSaid
  pub instances : InstanceFieldsAreSaid
  pub statics : StaticFieldsAreSaid
  pub virtuals : VirtualCallsAreSaid
  pub interfaces : InterfaceCallsAreSaid

-- an instruction of a class, and what it names by an entry
record IsAt (cs : List ClassFile) (cn : ℕ) (c : ClassFile) (n : ℕ) (q : Placed) (e : Entry) (named : Named) : Type 0 where
  class : slice_get cs cn ≡ Some c
  listed : slice_get (instructions_in c) n ≡ Some q
  entry : entry_at c.pool (index_of_entry q.instr) ≡ Some e
  names : named_by c.pool c.major q.instr.op (index_of_entry q.instr) e ≡ Some named
  linked : IsLinked cs cn c q

-- ---- what an entry gives under a condition

when_some : (b : Bool) (x named : Named) → (if b then Some x else None) ≡ Some named → (b ≡ true) × (x ≡ named)
when_some true x named h = (refl, some_same x named h)
when_some false x named h = absurd (none≢some named h)

two_whens : (a b : Bool) (x y named : Named) → (if a then Some x else if b then Some y else None) ≡ Some named → (x ≡ named) ⊎ ((b ≡ true) × (y ≡ named))
two_whens true b x y named h = inl (some_same x named h)
two_whens false b x y named h = inr (when_some b y named h)

pub record Names (b : Bool) (f : Signature → Named) (o : Option Signature) (named : Named) : Type 0 where
  pub holds : b ≡ true
  pub signature : Signature
  pub there : o ≡ Some signature
  pub is : f signature ≡ named

pub when_map : (b : Bool) (f : Signature → Named) (o : Option Signature) (named : Named) → (if b then option_map f o else None) ≡ Some named → Names b f o named
when_map true f o named h = let s = map_some f o named h in record { holds = refl; signature = s.0; there = s.1; is = s.2 }
when_map false f o named h = absurd (none≢some named h)

kept_map : (b : Bool) (f : Signature → Named) (o : Option Signature) (s : Signature) → o ≡ Some s → is_some (if b then option_map f o else None) ≡ true → (if b then option_map f o else None) ≡ Some (f s)
kept_map true f o s h e = ap (option_map f) h
kept_map false f o s h e = absurd (false≢true e)

pub named_at : (c : ClassFile) (i : Instr) (index : ℕ) (e : Entry) → index_of_entry i ≡ index → entry_at c.pool index ≡ Some e → named_in c i ≡ named_by c.pool c.major i.op index e
named_at c i index e h he =
    ap (λ x. onto (entry_at c.pool x) (named_by c.pool c.major i.op x)) h ∙ ap (λ o. onto o (named_by c.pool c.major i.op index)) he

method_alike : (c : ClassFile) (index owner member : ℕ) (s : Signature) → entry_at c.pool index ≡ Some (entries.Method owner member) → signature_in c.pool member ≡ Some s → NamesAlike c index (MethodNamed false owner s)
method_alike c index owner member s he hs i h some =
    let at = named_at c i.instr index (entries.Method owner member) h he in
    at ∙ kept_map (takes_method i.instr.op) (MethodNamed false owner) (signature_in c.pool member) s hs (ap is_some (sym at) ∙ some)

interface_alike : (c : ClassFile) (index owner member : ℕ) (s : Signature) → entry_at c.pool index ≡ Some (entries.InterfaceMethod owner member) → signature_in c.pool member ≡ Some s → NamesAlike c index (MethodNamed true owner s)
interface_alike c index owner member s he hs i h some =
    let at = named_at c i.instr index (entries.InterfaceMethod owner member) h he in
    at ∙ kept_map (takes_interface_method c.major i.instr.op) (MethodNamed true owner) (signature_in c.pool member) s hs (ap is_some (sym at) ∙ some)

-- ---- calls

fixed_is : (q : Placed) → (q.instr.op ≡ invokespecial) ⊎ (q.instr.op ≡ invokestatic) → is_fixed_call q ≡ true
fixed_is q (inl e) = or_left (eqb q.instr.op 183) (eqb q.instr.op 184) (eq-eqb q.instr.op 183 e)
fixed_is q (inr e) = or_right (eqb q.instr.op 183) (eqb q.instr.op 184) (eq-eqb q.instr.op 184 e)

-- the method that a call by a selection means is the one that is named
record SameCall (cs : List ClassFile) (k : ClassFile) (owner : ℕ) (s : Signature) (named j : ℕ) (m : Method) (named' j' : ℕ) (m' : Method) : Type 0 where
  class : named' ≡ named
  number : j' ≡ j
  method : m' ≡ m

same_call : (cs : List ClassFile) (cur : ℕ) (k : ClassFile) (ofi : Bool) (op owner : ℕ) (s : Signature) (n : IsNamed cs cur k ofi op owner s) (j : ℕ) (m : Method) → method_number cs n.place ≡ Some j → slice_get (resolved cs).methods j ≡ Some m
    → (named' j' : ℕ) (m' : Method) → IsCalled cs k owner s named' j' m' → SameCall cs k owner s n.named j m named' j' m'
same_call cs cur k ofi op owner s n j m hj hm named' j' m' c =
    let at : method_named cs k owner s ≡ Some n.place = ap (λ o. onto o (λ x. find_method cs x s)) n.class_is ∙ n.found_as in
    let number = some_same j' j (sym c.number ∙ (ap (λ o. onto o (method_number cs)) at ∙ hj)) in
    record {
      class = some_same named' n.named (sym c.class ∙ n.class_is);
      number = number;
      method = some_same m' m (sym c.method ∙ (ap (slice_get (resolved cs).methods) number ∙ hm));
    }

virtual_said : VirtualCallsAreSaid → (cs : List ClassFile) → IsResolved cs → IsSmall cs → (cn : ℕ) (c : ClassFile) (ofi : Bool) (op owner : ℕ) (s : Signature) (n : IsNamed cs cn c ofi op owner s) → slice_get cs cn ≡ Some c → why_method cs cn c false 182 owner s ≡ None
    → (j : ℕ) (m : Method) → method_number cs n.place ≡ Some j → slice_get (resolved cs).methods j ≡ Some m
    → let word = method_word cs (class_named cs c owner) (method_named cs c owner s) in (word / 2 ^ 24 ≡ argument_words_of m) × IsSlot (resolved cs) (places_of cs) n.named j (word % 2 ^ 24)
virtual_said law cs r small cn c ofi op owner s n hc why j m hj hm =
    let word = method_word cs (class_named cs c owner) (method_named cs c owner s) in
    let v = law cs r small cn c owner s hc why in
    let same = same_call cs cn c ofi op owner s n j m hj hm v.0 v.1 v.2 v.3 in
    (v.4 ∙ ap argument_words_of same.method, subst (λ x. IsSlot (resolved cs) (places_of cs) x j (word % 2 ^ 24)) same.class (subst (λ x. IsSlot (resolved cs) (places_of cs) v.0 x (word % 2 ^ 24)) same.number v.5))

interface_said : InterfaceCallsAreSaid → (cs : List ClassFile) → IsResolved cs → IsSmall cs → (cn : ℕ) (c : ClassFile) (ofi : Bool) (op owner : ℕ) (s : Signature) (n : IsNamed cs cn c ofi op owner s) → slice_get cs cn ≡ Some c → why_method cs cn c true 185 owner s ≡ None
    → (j : ℕ) (m : Method) → method_number cs n.place ≡ Some j → slice_get (resolved cs).methods j ≡ Some m
    → let word = interface_word cs (method_named cs c owner s) in (word / 2 ^ 24 ≡ argument_words_of m) × IsInterfaceNumber (resolved cs) (places_of cs) j m.owner (word % 2 ^ 24)
interface_said law cs r small cn c ofi op owner s n hc why j m hj hm =
    let word = interface_word cs (method_named cs c owner s) in
    let v = law cs r small cn c owner s hc why in
    let same = same_call cs cn c ofi op owner s n j m hj hm v.0 v.1 v.2 v.3 in
    (v.4 ∙ ap argument_words_of same.method, subst (λ (x : Method). IsInterfaceNumber (resolved cs) (places_of cs) j x.owner (word % 2 ^ 24)) same.method (subst (λ x. IsInterfaceNumber (resolved cs) (places_of cs) x v.2.owner (word % 2 ^ 24)) same.number v.5))

no_interface : (op : ℕ) → takes_method op ≡ true → op ≡ 185 → ⊥
no_interface op h e = false≢true (ap takes_method (sym e) ∙ h)

no_virtual : (major op : ℕ) → takes_interface_method major op ≡ true → op ≡ 182 → ⊥
no_virtual major op h e = false≢true (sym (none_of (nat_le 52 major)) ∙ (ap (takes_interface_method major) (sym e) ∙ h))

-- ---- each entry

module _ (laws : EntryLaws) (cs : List ClassFile) (r : IsResolved cs) (small : IsSmall cs) (cn : ℕ) (c : ClassFile) (n : ℕ) (q : Placed) where
  abbrev op : ℕ
  op = q.instr.op

  abbrev index : ℕ
  index = index_of_entry q.instr

  abbrev IsGood : Named → List ℕ → Type 0
  IsGood named words = Both cs op (operand_by cs cn c op named) words

  in_pool : (e : Entry) (named : Named) → IsAt cs cn c n q e named → IsEntryInRange e
  in_pool e named a = range_of (entry_at c.pool index) e (in_range c.pool index (all_at IsClass cs cn c r.grammar a.class).pool.in_range) a.entry

  names_it : (e : Entry) (named : Named) → IsAt cs cn c n q e named → named_in c q.instr ≡ Some named
  names_it e named a = named_at c q.instr index e refl a.entry ∙ a.names

  why_not : (e : Entry) (named : Named) (a : IsAt cs cn c n q e named) → why_named cs cn c a.linked.method op (Some named) ≡ None
  why_not e named a = ap (why_named cs cn c a.linked.method op) (sym (names_it e named a)) ∙ a.linked.resolved

  class_means : (name : ℕ) (named : Named) → IsAt cs cn c n q (entries.Class name) named → IsGood named (words_of_entry cs (outline_of cs) cn c index (Some (entries.Class name)))
  class_means name named a =
      let kind = kind_of_entry cs c.pool index in
      let pl = outline_of cs in
      let words = words_of_entry cs pl cn c index (Some (entries.Class name)) in
      elim (two_whens (is_ldc op) (is_class_use op) (Constant (entries.Class name)) (Class index) named a.names) [
        | inl e ↦ subst (λ x. IsGood x words) e (numbered_place cs pl kind, numbered_place cs pl (option_map OfReferences kind), refl, tt)
        | inr w ↦
            let names = names_it (entries.Class name) named a ∙ ap Some (sym w.1) in
            let why : why_class_use cs cn c op index ≡ None = ap (λ x. why_named cs cn c a.linked.method op (Some x)) w.1 ∙ why_not (entries.Class name) named a in
            subst (λ x. IsGood x words) w.1 (class_case laws.types cs op kind (λ k h. kind_there laws.classes cs r cn c n q index k a.class a.listed w.0 names h why))
      ]

  field_means : (owner member : ℕ) (named : Named) → IsAt cs cn c n q (entries.Field owner member) named → IsGood named (words_of_entry cs (outline_of cs) cn c index (Some (entries.Field owner member)))
  field_means owner member named a =
      let w = when_map (is_field_access op) (Field owner) (signature_in c.pool member) named a.names in
      let words : Option Signature → List ℕ = λ o. option_map_or (field_words cs (outline_of cs)) (onto o (field_named cs c owner)) no_words in
      subst (λ x. IsGood x (words (signature_in c.pool member))) w.is
      (subst (λ o. IsGood (Field owner w.signature) (words o)) (sym w.there) (field_named_case laws.read laws.statics laws.instances cs r op w.signature (class_named cs c owner)))

  method_means_by : (ofi : Bool) (owner : ℕ) (s : Signature) (second : ℕ) (is : IsNamed cs cn c ofi op owner s) → SaysCall cs op is.named is.place (operand_by cs cn c op (MethodNamed ofi owner s)) (taken_place cs (outline_of cs) cn c index) second
      → IsGood (MethodNamed ofi owner s) (taken_place cs (outline_of cs) cn c index ∷ second ∷ [])
  method_means_by ofi owner s second is says = (taken_place cs (outline_of cs) cn c index, second, refl, method_means laws.code cs r cn c ofi op owner s is (taken_place cs (outline_of cs) cn c index) second says)

  class_method_means : (owner member : ℕ) (named : Named) → IsAt cs cn c n q (entries.Method owner member) named → IsGood named (words_of_entry cs (outline_of cs) cn c index (Some (entries.Method owner member)))
  class_method_means owner member named a =
      let e = entries.Method owner member in
      let w = when_map (takes_method op) (MethodNamed false owner) (signature_in c.pool member) named a.names in
      let s = w.signature in
      let first = taken_place cs (outline_of cs) cn c index in
      let words : Option Signature → List ℕ = λ o. first ∷ method_word cs (class_named cs c owner) (onto o (method_named cs c owner)) ∷ [] in
      let names = names_it e named a ∙ ap Some (sym w.is) in
      let why : why_method cs cn c false op owner s ≡ None = ap (λ x. why_named cs cn c a.linked.method op (Some x)) w.is ∙ why_not e named a in
      let is = method_is_named laws.classes cs r cn c false op owner s why in
      let says : SaysCall cs op is.named is.place (operand_by cs cn c op (MethodNamed false owner s)) first (method_word cs (class_named cs c owner) (method_named cs c owner s)) = record {
        itself = λ j b o. taken_is laws.classes cs r cn c a.class n q a.listed false owner s (method_alike c index owner member s a.entry w.there) names (fixed_is q b) is is.named j o;
        virtual = λ j k x hj hk. virtual_said laws.virtuals cs r small cn c false op owner s is a.class (subst (λ o. why_method cs cn c false o owner s ≡ None) x why) j k hj hk;
        interface = λ j k x hj hk. absurd (no_interface op w.holds x);
      } in
      subst (λ x. IsGood x (words (signature_in c.pool member))) w.is (subst (λ o. IsGood (MethodNamed false owner s) (words o)) (sym w.there)
      (method_means_by false owner s (method_word cs (class_named cs c owner) (method_named cs c owner s)) is says))

  interface_method_means : (owner member : ℕ) (named : Named) → IsAt cs cn c n q (entries.InterfaceMethod owner member) named → IsGood named (words_of_entry cs (outline_of cs) cn c index (Some (entries.InterfaceMethod owner member)))
  interface_method_means owner member named a =
      let e = entries.InterfaceMethod owner member in
      let w = when_map (takes_interface_method c.major op) (MethodNamed true owner) (signature_in c.pool member) named a.names in
      let s = w.signature in
      let first = taken_place cs (outline_of cs) cn c index in
      let words : Option Signature → List ℕ = λ o. first ∷ interface_word cs (onto o (method_named cs c owner)) ∷ [] in
      let names = names_it e named a ∙ ap Some (sym w.is) in
      let why : why_method cs cn c true op owner s ≡ None = ap (λ x. why_named cs cn c a.linked.method op (Some x)) w.is ∙ why_not e named a in
      let is = method_is_named laws.classes cs r cn c true op owner s why in
      let says : SaysCall cs op is.named is.place (operand_by cs cn c op (MethodNamed true owner s)) first (interface_word cs (method_named cs c owner s)) = record {
        itself = λ j b o. taken_is laws.classes cs r cn c a.class n q a.listed true owner s (interface_alike c index owner member s a.entry w.there) names (fixed_is q b) is is.named j o;
        virtual = λ j k x hj hk. absurd (no_virtual c.major op w.holds x);
        interface = λ j k x hj hk. interface_said laws.interfaces cs r small cn c true op owner s is a.class (subst (λ o. why_method cs cn c true o owner s ≡ None) x why) j k hj hk;
      } in
      subst (λ x. IsGood x (words (signature_in c.pool member))) w.is (subst (λ o. IsGood (MethodNamed true owner s) (words o)) (sym w.there)
      (method_means_by true owner s (interface_word cs (method_named cs c owner s)) is says))

  constant : (b : Bool) (e : Entry) (named : Named) (words : List ℕ) → (if b then Some (Constant e) else None) ≡ Some named → IsGood (Constant e) words → IsGood named words
  constant b e named words h g = subst (λ x. IsGood x words) (when_some b (Constant e) named h).1 g

  entry_means : (e : Entry) (named : Named) → IsAt cs cn c n q e named → IsGood named (words_of_entry cs (outline_of cs) cn c index (Some e))
  entry_means (entries.Integer i) named a =
      constant (is_ldc op) (entries.Integer i) named (i ∷ 0 ∷ []) a.names (i, 0, refl, laws.ints.int i (in_pool (entries.Integer i) named a))
  entry_means (entries.Long i) named a =
      let lt = in_pool (entries.Long i) named a in
      constant (is_ldc2 op) (entries.Long i) named (i / 2 ^ 32 ∷ i % 2 ^ 32 ∷ []) a.names (i / 2 ^ 32, i % 2 ^ 32, refl, (laws.ints.high i lt, laws.ints.low i lt))
  entry_means (entries.Text units) named a =
      constant (is_ldc op) (entries.Text units) named (string_words cs (outline_of cs) (text_at c.pool units)) a.names (text_case laws.strings cs op (text_at c.pool units) (string_number cs (text_at c.pool units)) refl)
  entry_means (entries.Class name) named a = class_means name named a
  entry_means (entries.Field owner member) named a = field_means owner member named a
  entry_means (entries.Method owner member) named a = class_method_means owner member named a
  entry_means (entries.InterfaceMethod owner member) named a = interface_method_means owner member named a
  entry_means (entries.Float bits) named a = constant (is_ldc op) (entries.Float bits) named no_words a.names (0, 0, refl, tt)
  entry_means (entries.Double bits) named a = constant (is_ldc2 op) (entries.Double bits) named no_words a.names (0, 0, refl, tt)
  entry_means (entries.Handle kind reference) named a = constant (is_ldc op) (entries.Handle kind reference) named no_words a.names (0, 0, refl, tt)
  entry_means (entries.MethodType descriptor) named a = constant (is_ldc op) (entries.MethodType descriptor) named no_words a.names (0, 0, refl, tt)
  entry_means (entries.Utf8 units) named a = absurd (none≢some named a.names)
  entry_means (entries.NameAndType name descriptor) named a = absurd (none≢some named a.names)
  entry_means (entries.Dynamic bootstrap member) named a = absurd (none≢some named a.names)
  entry_means entries.Second named a = absurd (none≢some named a.names)

  -- ---- an instruction

  said_case : slice_get cs cn ≡ Some c → slice_get (instructions_in c) n ≡ Some q → (o : Option Named) → named_in c q.instr ≡ o
      → SaysOperand (resolved cs) (places_of cs) op (pool_place cs cn + 2 * index) (option_map_or (operand_by cs cn c op) o NoOperand)
  said_case hc hn None h = tt
  said_case hc hn (Some named) h =
      let e = onto_some (entry_at c.pool index) (named_by c.pool c.major op index) named h in
      let linked = all_at (IsLinked cs cn c) (instructions_in c) n q (all_linked cs r cn c hc) hn in
      let m = entry_means e.0 named (record { class = hc; listed = hn; entry = e.1; names = e.2; linked = linked }) in
      let words : entry_words cs (outline_of cs) cn c index ≡ m.0 ∷ m.1 ∷ [] =
      laws.named cs (outline_of cs) cn c n q hn (ap is_some h) ∙ (ap (words_of_entry cs (outline_of cs) cn c index) e.1 ∙ m.2) in
      let lie = laws.lie cs cn c index hc (entry_within c.pool index e.0 e.1) in
      says_by (resolved cs) (places_of cs) op (pool_place cs cn + 2 * index) (operand_by cs cn c op named) m.0 m.1 (subst (AreFixed (resolved cs) (places_of cs) (pool_place cs cn + 2 * index)) words lie) m.3

  pub instruction_said : slice_get cs cn ≡ Some c → slice_get (instructions_in c) n ≡ Some q → SaysOperand (resolved cs) (places_of cs) op (pool_place cs cn + 2 * index) (operand_in cs cn c q.instr)
  instruction_said hc hn = said_case hc hn (named_in c q.instr) refl

-- ---- all of them

pub operands : EntryLaws → OperandsLaw
unfolding places_of
operands laws cs r small m pc index k b i hm hb start hi first =
    let P = resolved cs in
    let p = numbered cs m k hm in
    let c = p.method.owner in
    let x = p.method.member in
    let code = map_some (body_in cs c) (code_of x) b (ap (λ (z : Method). z.body) (sym p.method.is) ∙ hb) in
    let same : code.0.code ≡ b.code = ap (λ (z : Body). z.code) code.2 in
    let body : body_of P m ≡ Some b = ap (λ o. onto o (λ (k : Method). k.body)) hm ∙ hb in
    let d = instr_ok (decoded b.code pc) i (sym (ap (λ o. onto o (λ (b : Body). as_instr (decoded b.code pc))) body) ∙ hi) in
    let there : decoded code.0.code pc ≡ Ok i = ap (λ z. decoded z pc) same ∙ d in
    let begins : IsStart code.0.code pc = subst (λ z. IsStart z pc) (sym same) start in
    let at = among_instructions x code.0 pc i code.1 begins there in
    let n = flat_get instructions_of c.methods p.place.1 x at.0 (placed pc i) p.method.there at.1 in
    let own : k.owner ≡ p.place.0 = ap (λ (z : Method). z.owner) p.method.is in
    let entry : index_of_entry i ≡ index = ap unsigned_abs first in
    let operand = operand_is cs m p.place c x code.0 pc i p.number p.method.class p.method.there code.1 there in
    let said = instruction_said laws cs r small p.place.0 c n.0 (placed pc i) p.method.class n.1 in
    let placed_at_owner = subst (λ z. SaysOperand P (places_of cs) i.op (pool_place cs z + 2 * index_of_entry i) (operand_in cs p.place.0 c i)) (sym own) said in
    let at_index = subst (λ z. SaysOperand P (places_of cs) i.op (pool_place cs k.owner + 2 * z) (operand_in cs p.place.0 c i)) entry placed_at_owner in
    subst (λ z. SaysOperand P (places_of cs) i.op (pool_place cs k.owner + 2 * index) z) (sym operand) at_index
