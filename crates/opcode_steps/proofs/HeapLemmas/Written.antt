-- What is written of the values of objects and of static fields.
use Rattle.std.proofs.Common.{◌≡◌, ℕ, zero, suc, ◌+◌, ◌<◌, ℤ, Bool, false, List, [], ◌∷◌, ◌++◌, Some, length, take, refl, sym, ◌∙◌, ap, subst, arith, add-zero, if◌then◌else◌}
use Rattle.std.specs.Prelude.{slice_get, slice_set, sum_by}
use Rattle.std.proofs.lemmas.Option.{none-some}
use Rattle.std.proofs.lemmas.List.Sums.{sum_by-cons}
use Rattle.machine_stands.proofs.Defined.{long_is}
use Rattle.machine_stands.proofs.Memory.{differ_padded}
use Rattle.lists.proofs.Lemmas.{onto_some, some_same}
use Rattle.bytecode_model.specs.declared.Value.{Value}
use Rattle.bytecode_model.specs.declared.Value.TheVariants.{Int, Long, Ref, Null, Unset}
use Rattle.bytecode_model.specs.Lists.{onto, replaced}
use Rattle.bytecode_model.specs.Types.{is_long}
use Rattle.bytecode_model.specs.State.{Object, State}
use Rattle.bytecode_model.specs.Program.{Program, kind_of}
use Rattle.bytecode_model.specs.Sizes.{value_words, header_words, object_words}
use Rattle.bytecode_model.specs.Steps.{written}
use Rattle.image_facts.specs.Within.{DifferAt}
use Rattle.image_facts.specs.Words.{words_of, high_word, low_word}
use Rattle.image_facts.specs.Places.{Places, static_place, object_place, objects_place, words_with}
use Rattle.image_facts.specs.Laws.{WordsAreWritten, PairsAreWritten, ListsGoOn, PartsDiffer, StaticsDiffer, part_place}
use Rattle.jop_core.specs.State as machine
use Rattle.machine_stands.specs.Frames.{IsWordOf}
use Rattle.machine_stands.specs.StandsFor.{StandsFor, memory_of}
use Rattle.opcode_steps.specs.Heap.Writing.{WritesLong, PartsAreWritten, LongPartsAreWritten, StaticsAreWritten, LongStaticsAreWritten, PlacesStay}

pub record WriteLaws : Type 0 where
  pub written : WordsAreWritten
  pub pairs : PairsAreWritten
  pub ahead : ListsGoOn
  pub parts : PartsDiffer
  pub statics : StaticsDiffer

-- ---- words

one_long : (place : ℕ → ℕ) (v : Value) → is_long v ≡ false → length (words_of place v) ≡ 1
one_long place (Int i) h = refl
one_long place (Long i) h = absurd (cc)
one_long place (Ref q) h = refl
one_long place Null h = refl
one_long place Unset h = refl

is_word : (place : ℕ → ℕ) (v : Value) (word : ℕ) → is_long v ≡ false → (v ≡ Unset → ⊥) → IsWordOf place v word → words_of place v ≡ word ∷ []
is_word place (Int i) word h set is = ap (λ (w : ℕ). w ∷ []) (sym is)
is_word place (Long i) word h set is = absurd (cc)
is_word place (Ref q) word h set is = ap (λ (w : ℕ). w ∷ []) (sym is)
is_word place Null word h set is = ap (λ (w : ℕ). w ∷ []) (sym is)
is_word place Unset word h set is = absurd (set refl)

of_one : (ws : List ℕ) (word : ℕ) → length ws ≡ 1 → slice_set ws 0 word ≡ word ∷ []
of_one [] word h = absurd (omega (arith, h))
of_one (a ∷ []) word h = refl
of_one (a ∷ b ∷ ws) word h = absurd (omega (arith, h))

-- one word is written in place of one
word_written : WriteLaws → (whole other : List ℕ) (place : ℕ) (words : List ℕ) (word : ℕ) → length words ≡ 1 → DifferAt whole other place words (word ∷ []) → slice_set whole place word ≡ other
word_written laws whole other place words word one d =
    let some : 0 < length words = omega (arith, one) in
    let there = subst (λ (ws : List ℕ). DifferAt whole other place words ws) (sym (of_one words word one)) d in
    ap (λ (k : ℕ). slice_set whole k word) (sym (add-zero place)) ∙ laws.written whole other place words 0 word some there

-- two are written in place of two
long_written : WriteLaws → (whole other : List ℕ) (place a b : ℕ) (n : ℤ) → DifferAt whole other place (a ∷ b ∷ []) (high_word n ∷ low_word n ∷ []) → WritesLong whole place n other
long_written laws whole other place a b n d =
    let high = high_word n in
    let low = low_word n in
    let mid = d.before ++ (high ∷ b ∷ d.after) in
    let one : DifferAt whole mid place (a ∷ b ∷ []) (high ∷ b ∷ []) = record { before = d.before; after = d.after; split = d.split; changed = refl; place_is = d.place_is } in
    let two : DifferAt mid other place (high ∷ b ∷ []) (high ∷ low ∷ []) = record { before = d.before; after = d.after; split = refl; changed = d.changed; place_is = d.place_is } in
    record {
      low_first = laws.pairs whole other place a b high low d;
      high_first =
          ap (λ (ws : List ℕ). slice_set ws (place + 1) low) (ap (λ (k : ℕ). slice_set whole k high) (sym (add-zero place)) ∙ laws.written whole mid place (a ∷ b ∷ []) 0 high (omega arith) one)
          ∙ laws.written mid other place (high ∷ b ∷ []) 1 low (omega arith) two;
    }

-- ---- the memory

same_words : (v w : Value) → is_long w ≡ is_long v → value_words w ≡ value_words v
same_words v w e = ap (λ (b : Bool). if b then 2 else 1) e

word_put : WriteLaws → (P : Program) (pl : Places) (n size : ℕ) (m : machine.MachineState) (s t : State) (place : ℕ) (v w : Value) (word : ℕ) → StandsFor P pl n size m s → is_long v ≡ false → is_long w ≡ false → (w ≡ Unset → ⊥)
    → IsWordOf (object_place P pl s.objects) w word
    → DifferAt (words_with P pl s.statics s.objects) (words_with P pl t.statics t.objects) place (words_of (object_place P pl s.objects) v) (words_of (object_place P pl s.objects) w)
    → slice_set m.port.words place word ≡ memory_of P pl size t
word_put laws P pl n size m s t place v w word st short new set is d =
    let of = words_of (object_place P pl s.objects) in
    let there = subst (λ (ws : List ℕ). DifferAt (words_with P pl s.statics s.objects) (words_with P pl t.statics t.objects) place (of v) ws) (is_word (object_place P pl s.objects) w word new set is) d in
    let one = one_long (object_place P pl s.objects) v short in
    ap (λ (ws : List ℕ). slice_set ws place word) st.memory
    ∙ word_written laws (memory_of P pl size s) (memory_of P pl size t) place (of v) word one
    (differ_padded size (words_with P pl s.statics s.objects) (words_with P pl t.statics t.objects) place (of v) (word ∷ []) laws.ahead there (sym one))

long_put : WriteLaws → (P : Program) (pl : Places) (n size : ℕ) (m : machine.MachineState) (s t : State) (place : ℕ) (old w : ℤ) → StandsFor P pl n size m s
    → DifferAt (words_with P pl s.statics s.objects) (words_with P pl t.statics t.objects) place (high_word old ∷ low_word old ∷ []) (high_word w ∷ low_word w ∷ [])
    → WritesLong m.port.words place w (memory_of P pl size t)
long_put laws P pl n size m s t place old w st d =
    subst (λ (ws : List ℕ). WritesLong ws place w (memory_of P pl size t)) (sym st.memory)
    (long_written laws (memory_of P pl size s) (memory_of P pl size t) place (high_word old) (low_word old) w
    (differ_padded size (words_with P pl s.statics s.objects) (words_with P pl t.statics t.objects) place _ _ laws.ahead d refl))

pub parts_written : WriteLaws → PartsAreWritten
parts_written laws P pl n size m s p o k v w word changed st well at part short new set is h =
    word_put laws P pl n size m s (record s { objects = changed }) (part_place P pl s.objects p o k) v w word st short new set is
    (laws.parts P pl s.statics s.objects changed p o k v w well.statics at part (same_words v w (new ∙ sym short)) h)

pub long_parts_written : WriteLaws → LongPartsAreWritten
long_parts_written laws P pl n size m s p o k v w changed st well at part long h =
    let old = long_is v long in
    long_put laws P pl n size m s (record s { objects = changed }) (part_place P pl s.objects p o k) old.0 w st
    (laws.parts P pl s.statics s.objects changed p o k (Long old.0) (Long w) well.statics at (part ∙ ap (λ u. Some u) old.1) refl h)

pub statics_written : WriteLaws → StaticsAreWritten
statics_written laws P pl n size m s k v w word changed st well at short new set is h =
    word_put laws P pl n size m s (record s { statics = changed }) (static_place P pl k) v w word st short new set is
    (laws.statics P pl s.statics changed s.objects k v w well.statics at h)

pub long_statics_written : WriteLaws → LongStaticsAreWritten
long_statics_written laws P pl n size m s k v w changed st well at long h =
    let old = long_is v long in
    long_put laws P pl n size m s (record s { statics = changed }) (static_place P pl k) old.0 w st
    (laws.statics P pl s.statics changed s.objects k (Long old.0) (Long w) well.statics (at ∙ ap (λ u. Some u) old.1) h)

-- ---- places

take_sum : {X : Type 0} (f : X → ℕ) (xs ys : List X) (k : ℕ) (x y : X) (q : ℕ) → slice_get xs k ≡ Some x → replaced xs k y ≡ Some ys → f y ≡ f x → sum_by f (take q ys) ≡ sum_by f (take q xs)
take_sum f [] ys k x y q e h same = absurd (none-some x e)
take_sum f (a ∷ xs) ys zero x y zero e h same = let is = some_same (y ∷ xs) ys h in ap (λ zs. sum_by f (take 0 zs)) (sym is)
take_sum f (a ∷ xs) ys zero x y (suc q) e h same =
    let is = some_same (y ∷ xs) ys h in
    let one : f y ≡ f a = same ∙ ap f (sym (some_same a x e)) in
    ap (λ zs. sum_by f (take (suc q) zs)) (sym is) ∙ sum_by-cons f y (take q xs) ∙ ap (λ (k : ℕ). k + sum_by f (take q xs)) one ∙ sym (sum_by-cons f a (take q xs))
take_sum f (a ∷ xs) ys (suc k) x y zero e h same =
    let r = onto_some (replaced xs k y) (λ zs. Some (a ∷ zs)) ys h in
    ap (λ zs. sum_by f (take 0 zs)) (sym (some_same (a ∷ r.0) ys r.2))
take_sum f (a ∷ xs) ys (suc k) x y (suc q) e h same =
    let r = onto_some (replaced xs k y) (λ zs. Some (a ∷ zs)) ys h in
    ap (λ zs. sum_by f (take (suc q) zs)) (sym (some_same (a ∷ r.0) ys r.2)) ∙ sum_by-cons f a (take q r.0)
    ∙ ap (λ (k : ℕ). f a + k) (take_sum f xs r.0 k x y q e r.1 same) ∙ sym (sum_by-cons f a (take q xs))

whole_sum : {X : Type 0} (f : X → ℕ) (xs ys : List X) (k : ℕ) (x y : X) → slice_get xs k ≡ Some x → replaced xs k y ≡ Some ys → f y ≡ f x → sum_by f ys ≡ sum_by f xs
whole_sum f [] ys k x y e h same = absurd (none-some x e)
whole_sum f (a ∷ xs) ys zero x y e h same =
    let one : f y ≡ f a = same ∙ ap f (sym (some_same a x e)) in
    ap (sum_by f) (sym (some_same (y ∷ xs) ys h)) ∙ sum_by-cons f y xs ∙ ap (λ (k : ℕ). k + sum_by f xs) one ∙ sym (sum_by-cons f a xs)
whole_sum f (a ∷ xs) ys (suc k) x y e h same =
    let r = onto_some (replaced xs k y) (λ zs. Some (a ∷ zs)) ys h in
    ap (sum_by f) (sym (some_same (a ∷ r.0) ys r.2)) ∙ sum_by-cons f a r.0 ∙ ap (λ (k : ℕ). f a + k) (whole_sum f xs r.0 k x y e r.1 same) ∙ sym (sum_by-cons f a xs)

pub places_stay : PlacesStay
places_stay P pl objects changed p o k v w at part width h =
    let r = onto_some (replaced o.parts k w) (λ ps. replaced objects p (record o { parts = ps })) changed
    (sym (ap (λ x. onto x (λ (u : Object). onto (replaced u.parts k w) (λ ps. replaced objects p (record u { parts = ps })))) at) ∙ h) in
    let made : Object = record o { parts = r.0 } in
    let same : object_words P made ≡ object_words P o = ap (λ (q : ℕ). header_words (kind_of P o) + q) (whole_sum value_words o.parts r.0 k v w part r.1 (same_words v w width)) in
    let each : (q : ℕ) → object_place P pl changed q ≡ object_place P pl objects q = λ q. ap (λ (z : ℕ). objects_place P pl + z) (take_sum (object_words P) objects changed p o made q at r.2 same) in
    record { places = λ i q. each q i; end = ap (λ (z : ℕ). objects_place P pl + z) (whole_sum (object_words P) objects changed p o made at r.2 same) }
