-- An entry that is read is spelled so, and an entry that is spelled so is read.
use Rattle.std.proofs.Common.{◌≡◌, ℕ, ◌^◌, ◌<◌, Bool, true, false, cond, ◌==◌, List, [], ◌∷◌, ◌++◌, length, Option, Some, None, refl, sym, ap, subst, ◌∙◌, eqb-true}
use Rattle.class_pool.specs.declared.entry.Entry.{Entry}
use Rattle.class_pool.specs.declared.entry.Entry.TheVariants as entries
use Rattle.class_pool.specs.declared.tag.Tag.{Tag}
use Rattle.class_pool.specs.declared.tag.Tag.TheVariants.{Utf8, Integer, Float, Long, Double, Class, Text, Field, Method, InterfaceMethod, NameAndType, Handle, MethodType, Dynamic}
use Rattle.class_pool.specs.Utf8.{utf8_bytes, AreUnits}
use Rattle.class_pool.specs.Spelling.{u2, u4, u8, entry_bytes, IsEntryInRange}
use Rattle.class_pool.specs.Grammar.{is_second}
use Rattle.base.specs.Reading.{◌>>=◌}
use Rattle.class_pool.specs.Reading.{number_in, byte_in, utf8_in, indexes_in, handle_in, tag_number, tags, first_with, tag_in, as_entry, parts_in, place_in}
use Rattle.class_pool.specs.NumberLaws.{IsBytes, IsBytes-rest, bind_some, same_some, Takes, Takes-then, wide_2, wide_4, wide_8, number_takes, number_again, byte_takes}
use Rattle.class_pool.proofs.TextLaws.{utf8_takes, utf8_again}

-- a part that is read is spelled so
abbrev IsTaken : {X : Type 0} → (X → List ℕ) → (X → Type 0) → (List ℕ → Option (X × List ℕ)) → Type 0
IsTaken {X} spelled fits read = (bytes : List ℕ) (x : X) (rest : List ℕ) → IsBytes bytes → read bytes ≡ Some (x, rest) → Takes bytes (spelled x) rest × fits x

-- a part that is spelled is read
abbrev IsAgain : {X : Type 0} → (X → List ℕ) → (X → Type 0) → (List ℕ → Option (X × List ℕ)) → Type 0
IsAgain {X} spelled fits read = (x : X) (rest : List ℕ) → fits x → read (spelled x ++ rest) ≡ Some (x, rest)

abbrev AreIndexes : ℕ × ℕ → Type 0
AreIndexes x = (x.0 < 2 ^ 16) × (x.1 < 2 ^ 16)

indexes_take : IsTaken (λ x. u2 x.0 ++ u2 x.1) AreIndexes indexes_in
unfolding indexes_in
indexes_take bytes x rest fits e =
    let a = bind_some (number_in 2 bytes) (λ m. number_in 2 m.1 >>= λ n. Some ((m.0, n.0), n.1)) (x, rest) e in
    let b = bind_some (number_in 2 a.0.1) (λ n. Some ((a.0.0, n.0), n.1)) (x, rest) a.2 in
    let t0 = number_takes 2 wide_2 bytes a.0.0 a.0.1 fits a.1 in
    let t1 = number_takes 2 wide_2 a.0.1 b.0.0 b.0.1 t0.0.rest_fits b.1 in
    let P : (ℕ × ℕ) × List ℕ → Type 0 = λ p. Takes bytes (u2 p.0.0 ++ u2 p.0.1) p.1 × AreIndexes p.0 in
    subst P (same_some ((a.0.0, b.0.0), b.0.1) (x, rest) b.2) (Takes-then bytes (u2 a.0.0) a.0.1 (u2 b.0.0) b.0.1 t0.0 t1.0, (t0.1, t1.1))

indexes_again : IsAgain (λ x. u2 x.0 ++ u2 x.1) AreIndexes indexes_in
unfolding indexes_in
indexes_again x rest fits =
    ap (λ (read : Option (ℕ × List ℕ)). read >>= λ m. number_in 2 m.1 >>= λ n. Some ((m.0, n.0), n.1)) (number_again 2 wide_2 x.0 (u2 x.1 ++ rest) fits.0)
    ∙ ap (λ (read : Option (ℕ × List ℕ)). read >>= λ n. Some ((x.0, n.0), n.1)) (number_again 2 wide_2 x.1 rest fits.1)

abbrev IsHandle : ℕ × ℕ → Type 0
IsHandle x = (x.0 < 2 ^ 8) × (x.1 < 2 ^ 16)

handle_takes : IsTaken (λ x. x.0 ∷ u2 x.1) IsHandle handle_in
unfolding handle_in
handle_takes bytes x rest fits e =
    let a = bind_some (byte_in bytes) (λ m. number_in 2 m.1 >>= λ n. Some ((m.0, n.0), n.1)) (x, rest) e in
    let b = bind_some (number_in 2 a.0.1) (λ n. Some ((a.0.0, n.0), n.1)) (x, rest) a.2 in
    let t0 = byte_takes bytes a.0.0 a.0.1 fits a.1 in
    let t1 = number_takes 2 wide_2 a.0.1 b.0.0 b.0.1 t0.0.rest_fits b.1 in
    let P : (ℕ × ℕ) × List ℕ → Type 0 = λ p. Takes bytes (p.0.0 ∷ u2 p.0.1) p.1 × IsHandle p.0 in
    subst P (same_some ((a.0.0, b.0.0), b.0.1) (x, rest) b.2) (Takes-then bytes (a.0.0 ∷ []) a.0.1 (u2 b.0.0) b.0.1 t0.0 t1.0, (t0.1, t1.1))

handle_again : IsAgain (λ x. x.0 ∷ u2 x.1) IsHandle handle_in
unfolding handle_in
handle_again x rest fits =
    ap (λ (read : Option (ℕ × List ℕ)). read >>= λ n. Some ((x.0, n.0), n.1)) (number_again 2 wide_2 x.1 rest fits.1)

-- ---- entries by tag

-- what an entry behind a tag is
abbrev IsEntry : ℕ → List ℕ → Entry × List ℕ → Type 0
IsEntry number bytes found = Takes (number ∷ bytes) (entry_bytes found.0) found.1 × IsEntryInRange found.0 × (is_second found.0 ≡ false)

entry_takes : {X : Type 0} (number : ℕ) (f : X → Entry) (spelled : X → List ℕ) (fits : X → Type 0) (read : List ℕ → Option (X × List ℕ)) → IsTaken spelled fits read
    → ((x : X) → entry_bytes (f x) ≡ number ∷ spelled x) → ((x : X) → fits x → IsEntryInRange (f x)) → ((x : X) → is_second (f x) ≡ false)
    → (bytes : List ℕ) (found : Entry × List ℕ) → IsBytes bytes → as_entry f (read bytes) ≡ Some found → IsEntry number bytes found
entry_takes number f spelled fits read takes is range first bytes found small e =
    let a = bind_some (read bytes) (λ x. Some (f x.0, x.1)) found e in
    let t = takes bytes a.0.0 a.0.1 small a.1 in
    let made : Takes (number ∷ bytes) (entry_bytes (f a.0.0)) a.0.1 = record {
      parts = ap (λ (b : List ℕ). number ∷ b) t.0.parts ∙ ap (λ (b : List ℕ). b ++ a.0.1) (sym (is a.0.0));
      rest_fits = t.0.rest_fits;
    } in
    subst (IsEntry number bytes) (same_some (f a.0.0, a.0.1) found a.2) (made, range a.0.0 t.1, first a.0.0)

abbrev number_fits : ℕ → ℕ → Type 0
number_fits n x = x < 256 ^ n

parts_take : (tag : Tag) (bytes : List ℕ) (found : Entry × List ℕ) → IsBytes bytes → parts_in tag bytes ≡ Some found → IsEntry (tag_number tag) bytes found
unfolding parts_in tag_number
parts_take Utf8 bytes found fits e = entry_takes 1 entries.Utf8 (λ us. u2 (length (utf8_bytes us)) ++ utf8_bytes us) (λ us. AreUnits us × (length (utf8_bytes us) < 2 ^ 16)) utf8_in utf8_takes (λ x. refl) (λ x h. h) (λ x. refl) bytes found fits e
parts_take Integer bytes found fits e = entry_takes 3 entries.Integer u4 (number_fits 4) (number_in 4) (number_takes 4 wide_4) (λ x. refl) (λ x h. h) (λ x. refl) bytes found fits e
parts_take Float bytes found fits e = entry_takes 4 entries.Float u4 (number_fits 4) (number_in 4) (number_takes 4 wide_4) (λ x. refl) (λ x h. h) (λ x. refl) bytes found fits e
parts_take Long bytes found fits e = entry_takes 5 entries.Long u8 (number_fits 8) (number_in 8) (number_takes 8 wide_8) (λ x. refl) (λ x h. h) (λ x. refl) bytes found fits e
parts_take Double bytes found fits e = entry_takes 6 entries.Double u8 (number_fits 8) (number_in 8) (number_takes 8 wide_8) (λ x. refl) (λ x h. h) (λ x. refl) bytes found fits e
parts_take Class bytes found fits e = entry_takes 7 entries.Class u2 (number_fits 2) (number_in 2) (number_takes 2 wide_2) (λ x. refl) (λ x h. h) (λ x. refl) bytes found fits e
parts_take Text bytes found fits e = entry_takes 8 entries.Text u2 (number_fits 2) (number_in 2) (number_takes 2 wide_2) (λ x. refl) (λ x h. h) (λ x. refl) bytes found fits e
parts_take Field bytes found fits e = entry_takes 9 (λ x. entries.Field x.0 x.1) (λ x. u2 x.0 ++ u2 x.1) AreIndexes indexes_in indexes_take (λ x. refl) (λ x h. h) (λ x. refl) bytes found fits e
parts_take Method bytes found fits e = entry_takes 10 (λ x. entries.Method x.0 x.1) (λ x. u2 x.0 ++ u2 x.1) AreIndexes indexes_in indexes_take (λ x. refl) (λ x h. h) (λ x. refl) bytes found fits e
parts_take InterfaceMethod bytes found fits e = entry_takes 11 (λ x. entries.InterfaceMethod x.0 x.1) (λ x. u2 x.0 ++ u2 x.1) AreIndexes indexes_in indexes_take (λ x. refl) (λ x h. h) (λ x. refl) bytes found fits e
parts_take NameAndType bytes found fits e = entry_takes 12 (λ x. entries.NameAndType x.0 x.1) (λ x. u2 x.0 ++ u2 x.1) AreIndexes indexes_in indexes_take (λ x. refl) (λ x h. h) (λ x. refl) bytes found fits e
parts_take Handle bytes found fits e = entry_takes 15 (λ x. entries.Handle x.0 x.1) (λ x. x.0 ∷ u2 x.1) IsHandle handle_in handle_takes (λ x. refl) (λ x h. h) (λ x. refl) bytes found fits e
parts_take MethodType bytes found fits e = entry_takes 16 entries.MethodType u2 (number_fits 2) (number_in 2) (number_takes 2 wide_2) (λ x. refl) (λ x h. h) (λ x. refl) bytes found fits e
parts_take Dynamic bytes found fits e = entry_takes 18 (λ x. entries.Dynamic x.0 x.1) (λ x. u2 x.0 ++ u2 x.1) AreIndexes indexes_in indexes_take (λ x. refl) (λ x h. h) (λ x. refl) bytes found fits e

with_first : (number : ℕ) (t tag : Tag) (others : Option Tag) → (others ≡ Some tag → number ≡ tag_number tag)
    → (b : Bool) → (number == tag_number t) ≡ b → cond b (Some t) others ≡ Some tag → number ≡ tag_number tag
with_first number t tag others rest true is e = eqb-true number (tag_number t) is ∙ ap tag_number (same_some t tag e)
with_first number t tag others rest false is e = rest e

found_with : (number : ℕ) (ts : List Tag) (tag : Tag) → first_with number ts ≡ Some tag → number ≡ tag_number tag
found_with number [] tag e = absurd (let f : None ≡ Some tag = e in cc)
found_with number (t ∷ ts) tag e = with_first number t tag (first_with number ts) (found_with number ts tag) (number == tag_number t) refl e

tag_is : (number : ℕ) (tag : Tag) → tag_in number ≡ Some tag → number ≡ tag_number tag
unfolding tag_in
tag_is number tag e = found_with number tags tag e

-- what the entry of a place is
pub record IsPlace (due : Bool) (bytes : List ℕ) (found : Entry × List ℕ) : Type 0 where
  pub takes : Takes bytes (entry_bytes found.0) found.1
  pub in_range : IsEntryInRange found.0
  pub is_due : is_second found.0 ≡ due

pub place_takes : (due : Bool) (bytes : List ℕ) (found : Entry × List ℕ) → IsBytes bytes → place_in due bytes ≡ Some found → IsPlace due bytes found
unfolding place_in
place_takes true bytes found fits e = subst (IsPlace true bytes) (same_some (entries.Second, bytes) found e) (record { takes = record { parts = refl; rest_fits = fits }; in_range = tt; is_due = refl })
place_takes false [] found fits e = absurd (let f : None ≡ Some found = e in cc)
place_takes false (number ∷ bytes) found fits e =
    let b = bind_some (tag_in number) (λ tag. parts_in tag bytes) found e in
    let p = parts_take b.0 bytes found (IsBytes-rest number bytes fits) b.2 in
    let same : number ≡ tag_number b.0 = tag_is number b.0 b.1 in
    let taken : Takes (number ∷ bytes) (entry_bytes found.0) found.1 = subst (λ (n : ℕ). Takes (n ∷ bytes) (entry_bytes found.0) found.1) (sym same) p.0 in
    record { takes = taken; in_range = p.1; is_due = p.2 }

-- an entry that is spelled behind its tag is read
again : {X : Type 0} (f : X → Entry) (x : X) (rest : List ℕ) (read : Option (X × List ℕ)) → read ≡ Some (x, rest) → as_entry f read ≡ Some (f x, rest)
again f x rest read e = ap (as_entry f) e

pub place_again : (e : Entry) (rest : List ℕ) → IsEntryInRange e → place_in (is_second e) (entry_bytes e ++ rest) ≡ Some (e, rest)
unfolding place_in tag_in tag_number parts_in
place_again (entries.Utf8 us) rest h = again entries.Utf8 us rest _ (utf8_again us rest h)
place_again (entries.Integer n) rest h = again entries.Integer n rest _ (number_again 4 wide_4 n rest h)
place_again (entries.Float n) rest h = again entries.Float n rest _ (number_again 4 wide_4 n rest h)
place_again (entries.Long n) rest h = again entries.Long n rest _ (number_again 8 wide_8 n rest h)
place_again (entries.Double n) rest h = again entries.Double n rest _ (number_again 8 wide_8 n rest h)
place_again (entries.Class n) rest h = again entries.Class n rest _ (number_again 2 wide_2 n rest h)
place_again (entries.Text n) rest h = again entries.Text n rest _ (number_again 2 wide_2 n rest h)
place_again (entries.Field m n) rest h = again (λ x. entries.Field x.0 x.1) (m, n) rest _ (indexes_again (m, n) rest h)
place_again (entries.Method m n) rest h = again (λ x. entries.Method x.0 x.1) (m, n) rest _ (indexes_again (m, n) rest h)
place_again (entries.InterfaceMethod m n) rest h = again (λ x. entries.InterfaceMethod x.0 x.1) (m, n) rest _ (indexes_again (m, n) rest h)
place_again (entries.NameAndType m n) rest h = again (λ x. entries.NameAndType x.0 x.1) (m, n) rest _ (indexes_again (m, n) rest h)
place_again (entries.Handle m n) rest h = again (λ x. entries.Handle x.0 x.1) (m, n) rest _ (handle_again (m, n) rest h)
place_again (entries.MethodType n) rest h = again entries.MethodType n rest _ (number_again 2 wide_2 n rest h)
place_again (entries.Dynamic m n) rest h = again (λ x. entries.Dynamic x.0 x.1) (m, n) rest _ (indexes_again (m, n) rest h)
place_again entries.Second rest h = refl
