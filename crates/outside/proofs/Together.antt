-- Files one after another.
use Rattle.std.proofs.Common.{◌≡◌, ℕ, zero, suc, ◌+◌, ◌-◌, ◌<◌, ◌≤◌, List, [], ◌∷◌, ◌++◌, length, get_or, refl, sym, ap, ◌∙◌, subst, arith, add-zero, length-append}
use Rattle.std.specs.Prelude.{sum_by, Vec, Err, IfErr}
use Rattle.std.specs.declared.result.Result.{Result}
use Rattle.std.specs.declared.option.Option.{Option}
use Rattle.std.specs.declared.alloc.Global.{Global}
use Rattle.std.proofs.lemmas.List.Sums.{sum_by-append, sum_by-cons}
use Rattle.outside.specs.Outside.{Rose, IsWhole, HasFileLength}
use Rattle.outside.specs.declared.operands.FilesFault.{FilesFault}
use Rattle.outside.specs.declared.operands.FilesFault.TheVariants.{TooBig, ReadFault, NoMemory}
use Rattle.outside.specs.Files.{FilesTold, OnlyWords, most_bytes, AreFiles, IsTooBigAt, FailsAt, IsFilesCause, FileCause, contents}

-- ---- calls on words one after another

pub only_none : (old : FilesTold) (first : ℕ) → OnlyWords old old first first
only_none old first = record { same_words = refl; contents = λ k. refl; counts = λ k h. refl; later = λ k. omega arith }

pub only_more : (old mid new : FilesTold) (first word : ℕ) → first ≤ word → OnlyWords old mid first word → OnlyWords mid new word (word + 1) → OnlyWords old new first (word + 1)
only_more old mid new first word order before now = record {
  same_words = now.same_words ∙ before.same_words;
  contents = λ k. now.contents k ∙ before.contents k;
  counts = λ k other. now.counts k (λ low high. other (omega (arith, order, low)) high) ∙ before.counts k (λ low high. other low (omega (arith, high)));
  later = λ k. omega (arith, before.later k, now.later k);
}

pub only_wider : (old new : FilesTold) (first word end : ℕ) → word ≤ end → OnlyWords old new first word → OnlyWords old new first end
only_wider old new first word end order only = record {
  same_words = only.same_words;
  contents = only.contents;
  counts = λ k other. only.counts k (λ low high. other low (omega (arith, high, order)));
  later = only.later;
}

-- ---- files

pub contents_push : (files : List (Vec ℕ Global)) (file : Vec ℕ Global) → contents (files ++ file ∷ []) ≡ contents files ++ file.items ∷ []
contents_push [] file = refl
contents_push (f ∷ files) file = ap (λ r. f.items ∷ r) (contents_push files file)

pub files_none : (told : ℕ → Option (List ℕ)) (first : ℕ) → AreFiles told first first []
files_none told first = record { many = omega arith; whole = λ k lt. absurd (omega (arith, lt)); few = omega arith }

whole_push : (told : ℕ → Option (List ℕ)) (first : ℕ) (files : List (List ℕ)) (bytes : List ℕ) → ((k : ℕ) → k < length files → IsWhole (told (first + k)) (get_or files k [])) → IsWhole (told (first + length files)) bytes
    → (k : ℕ) → k < length (files ++ bytes ∷ []) → IsWhole (told (first + k)) (get_or (files ++ bytes ∷ []) k [])
whole_push told first [] bytes each last zero lt = last
whole_push told first [] bytes each last (suc k) lt = absurd (omega (arith, lt))
whole_push told first (f ∷ files) bytes each last zero lt = each 0 (omega arith)
whole_push told first (f ∷ files) bytes each last (suc k) lt =
    let P : ℕ → Type 0 = λ i. IsWhole (told i) (get_or (files ++ bytes ∷ []) k []) in
    let Q : ℕ → Type 0 = λ i. IsWhole (told i) bytes in
    let here : suc first + k ≡ first + suc k = omega arith in
    let end : first + length (f ∷ files) ≡ suc first + length files = omega arith in
    subst P here (whole_push told (suc first) files bytes (λ j h. let R : ℕ → Type 0 = λ i. IsWhole (told i) (get_or files j []) in let at : first + suc j ≡ suc first + j = omega arith in subst R at (each (suc j) (omega (arith, h)))) (subst Q end last) k (omega (arith, lt)))

sum_push : (files : List (List ℕ)) (bytes : List ℕ) → sum_by length (files ++ bytes ∷ []) ≡ sum_by length files + length bytes
sum_push files bytes = sum_by-append length files (bytes ∷ []) ∙ ap (λ n. sum_by length files + n) (sum_by-cons length bytes [] ∙ add-zero (length bytes))

pub files_more : (told : ℕ → Option (List ℕ)) (first word left : ℕ) (files : List (List ℕ)) (bytes : List ℕ) → sum_by length files + left ≡ most_bytes → AreFiles told first word files → IsWhole (told word) bytes → length bytes ≤ left
    → AreFiles told first (word + 1) (files ++ bytes ∷ []) × (sum_by length (files ++ bytes ∷ []) + (left - length bytes) ≡ most_bytes)
files_more told first word left files bytes sum are whole fits =
    let Q : ℕ → Type 0 = λ i. IsWhole (told i) bytes in
    let all = sum_push files bytes in (
      record {
        many = omega (arith, are.many, length-append files (bytes ∷ []));
        whole = whole_push told first files bytes are.whole (subst Q (sym are.many) whole);
        few = omega (arith, all, sum, fits);
      },
      omega (arith, all, sum, fits),
    )

-- ---- why they weren't read

pub cause_more : (old mid new : FilesTold) (first word end left : ℕ) (files : List (List ℕ)) (fault : FilesFault) → first ≤ word → word < end → sum_by length files + left ≡ most_bytes → AreFiles old.told first word files
    → OnlyWords old mid first word → FileCause mid new word left fault → OnlyWords mid new word (word + 1) → IsFilesCause old new first end fault
cause_more old mid new first word end left files (TooBig operand sum) order below all are before cause now =
    let T : Option (List ℕ) → Type 0 = λ told. HasFileLength told cause.1 in
    let P : ℕ → Type 0 = λ i. IsTooBigAt old first end i sum × OnlyWords old new first (i + 1) in
    let is = cause.3 in
    let many = cause.4 in
    let total : sum ≡ sum_by length files + cause.1 = omega (arith, is, all) in
    subst P (sym cause.0) (record { below = below; before = files; read = are; bytes = cause.1; length_is = subst T (before.contents word) cause.2; sum_is = total; past = omega (arith, total, many, all) }, only_more old mid new first word order before now)
cause_more old mid new first word end left files (ReadFault operand) order below all are before cause now =
    let F : ℕ → Type 0 = λ n. Rose n (new.faults word) in
    let P : ℕ → Type 0 = λ i. FailsAt old new first end i × OnlyWords old new first (i + 1) in
    let same : mid.faults word ≡ old.faults word = before.counts word (λ low high. omega (arith, high)) in
    subst P (sym cause.0) (record { below = below; before = files; read = are; rose = subst F same cause.1 }, only_more old mid new first word order before now)
cause_more old mid new first word end left files NoMemory order below all are before cause now = only_wider old new first (word + 1) end (omega (arith, below)) (only_more old mid new first word order before now)

pub err_cause : {A : Type 0} (old new : FilesTold) (first end : ℕ) (r : Result A FilesFault) (fault : FilesFault) → r ≡ Err fault → IsFilesCause old new first end fault → IfErr r (IsFilesCause old new first end)
err_cause {A} old new first end r fault is cause = let P : Result A FilesFault → Type 0 = λ q. IfErr q (IsFilesCause old new first end) in subst P (sym is) cause
