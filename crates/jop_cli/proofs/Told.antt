-- What is read of the files of operands that are told.
use Rattle.std.proofs.Common.{◌≡◌, ℕ, ◌+◌, ◌<◌, ◌≤◌, List, [], ◌∷◌, length, take, get_or, Some, refl, sym, ◌∙◌, ap, ap₂, subst, arith, ◌⊎◌, inl, inr, ⊎_elim}
use Rattle.std.specs.Prelude.{sum_by}
use Rattle.std.proofs.lemmas.Bool.{cases_lt}
use Rattle.std.proofs.lemmas.List.{ext_get_or, length-take-le, get_or-take, take_all}
use Rattle.std.proofs.lemmas.List.Sums.{sum_by_more_le}
use Rattle.outside.specs.Outside.{Rose}
use Rattle.outside.specs.Files.{AreFiles, IsTooBigAt}
use Rattle.endings.specs.declared.outcome.Refusal.TheVariants as refusals
use Rattle.endings.specs.declared.outcome.Ending.{Ending}
use Rattle.endings.specs.declared.outcome.Ending.TheVariants as endings
use Rattle.endings.specs.World.{IsQuiet, Reads, IsTooBig}
use Rattle.endings.specs.Linking.{files_of, OperandsFault}
use Rattle.jop_cli.specs.Answer.{FileFault}
use Rattle.jop_cli.specs.Calls.{Call, NothingFailed, LacksMemory, IsTold}
use Rattle.jop_cli.specs.promises.Answers.{AnswersEnding}
use Rattle.jop_cli.specs.promises.Refusals.{TellsFiles, PassesMost}
use Rattle.jop_cli.proofs.Wholly.{IsWholly, lacks, whole_told, length_told, file_read}

-- ---- what is answered

-- a call ends so, or for want of memory, and nothing was done
pub record EndsSo (c : Call) (ending e : Ending) : Type 0 where
  pub is : (ending ≡ e) ⊎ (ending ≡ endings.NoMemory)
  pub quiet : IsQuiet c.old c.new

pub answers_so : (c : Call) (ending e : Ending) → IsWholly c ending → EndsSo c ending e → AnswersEnding c e ⊎ LacksMemory c
answers_so c ending e w h =
    ⊎_elim
    (λ is. let a : AnswersEnding c ending = record { outcome = w.outcome; line = w.line; quiet = h.quiet } in inl (subst (AnswersEnding c) is a))
    (λ is. inr (lacks c ending w is h.quiet))
    h.is

-- ---- files that are told

module _ (c : Call) (first : ℕ) (files : List (List ℕ)) (tells : TellsFiles c first files) where
  same_at : (end : ℕ) (read : List (List ℕ)) → AreFiles c.old.files first end read → (k : ℕ) → k < length read → k < length files → get_or read k [] ≡ get_or files k []
  same_at end read are k within there = whole_told (c.old.files (first + k)) (get_or files k []) (get_or read k []) (tells.told k there) (are.whole k within)

  -- what is read up to a word is as much of them
  pub same_front : (end : ℕ) (read : List (List ℕ)) → AreFiles c.old.files first end read → length read ≤ length files → read ≡ take (length read) files
  same_front end read are short =
      let long : length (take (length read) files) ≡ length read = length-take-le (length read) files short in
      ext_get_or [] read (take (length read) files) (sym long) (λ k within.
      same_at end read are k within (omega (arith, short, within)) ∙ sym (get_or-take (length read) files k [] within))

  -- and up to the end is all
  pub same_told : (end : ℕ) (read : List (List ℕ)) → first + length files ≡ end → AreFiles c.old.files first end read → read ≡ files
  same_told end read many are =
      let long : length read ≡ length files = omega (arith, many, are.many) in
      ext_get_or [] read files long (λ k within. same_at end read are k within (omega (arith, long, within)))

  pub not_too_big : (end operand sum : ℕ) → (big : IsTooBigAt (files_of c.old) first end operand sum) → length big.before < length files → ⊥
  not_too_big end operand sum big short =
      let n : ℕ = length big.before in
      let at : c.old.files operand ≡ Some (get_or files n []) = subst (λ (k : ℕ). c.old.files k ≡ Some (get_or files n [])) big.read.many (tells.told n short) in
      let long : big.bytes ≡ length (get_or files n []) = length_told (c.old.files operand) (get_or files n []) big.bytes at big.length_is in
      let sums : sum_by length big.before ≡ sum_by length (take n files) = ap (sum_by length) (same_front operand big.before big.read (omega (arith, short))) in
      let most : sum_by length (take n files) + length (get_or files n []) ≤ sum_by length files = sum_by_more_le length files n [] short in
      omega (arith, tells.few, big.sum_is, big.past, long, sums, most)

  -- so they are read, unless there is no memory
  pub told_are_read : NothingFailed c → (end : ℕ) → first + length files ≡ end → (ending : Ending) → OperandsFault first end (files_of c.old) (files_of c.new) ending → ending ≡ endings.NoMemory
  told_are_read n end many (endings.Refused (refusals.TooBig operand sum)) h = absurd (not_too_big end operand sum h.0 (omega (arith, many, h.0.read.many, h.0.below)))
  told_are_read n end many endings.ReadFault h =
      let fails = h.1 in
      let k : ℕ = length fails.before in
      let short : k < length files = omega (arith, many, fails.read.many, fails.below) in
      let at : c.old.files h.0 ≡ Some (get_or files k []) = subst (λ (x : ℕ). c.old.files x ≡ Some (get_or files k [])) fails.read.many (tells.told k short) in
      absurd (n.files h.0 (get_or files k []) at fails.rose)
  told_are_read n end many endings.NoMemory h = refl
  told_are_read n end many ending h = absurd h

-- ---- the first of them

module _ (c : Call) (word : ℕ) (bytes : List ℕ) (others : List (List ℕ)) (tells : TellsFiles c word (bytes ∷ others)) where
  pub first_told : c.old.files word ≡ Some bytes
  first_told =
      let here : word + 0 ≡ word = omega arith in
      subst (λ (k : ℕ). c.old.files k ≡ Some bytes) here (tells.told 0 (omega arith))

  pub told_is_read : NothingFailed c → (ending : Ending) → FileFault word c.old c.new ending → ending ≡ endings.NoMemory
  told_is_read n ending fault =
      let few : sum_by length (take 0 (bytes ∷ others)) + length bytes ≤ sum_by length (bytes ∷ others) = sum_by_more_le length (bytes ∷ others) 0 [] (omega arith) in
      let told : IsTold c word bytes = record { told = first_told; short = omega (arith, few, tells.few) } in
      file_read c word bytes told n ending fault

-- ---- files that are too long together

none_sum : (xs : List (List ℕ)) → length xs ≡ 0 → sum_by length xs ≡ 0
none_sum [] e = refl
none_sum (x ∷ xs) e = absurd (omega (arith, e))

too_big_is : (a b s t : ℕ) → a ≡ b → s ≡ t → endings.Refused (refusals.TooBig a s) ≡ endings.Refused (refusals.TooBig b t)
too_big_is a b s t operand sum = ap₂ (λ (o m : ℕ). endings.Refused (refusals.TooBig o m)) operand sum

module _ (c : Call) (first operand sum : ℕ) (h : PassesMost c first operand sum) where
  at_operand : c.old.files (first + length h.before) ≡ Some h.bytes
  at_operand = subst (λ (k : ℕ). c.old.files k ≡ Some h.bytes) (sym h.many) h.told

  -- no more are read than stand before the operand
  not_past : (end : ℕ) (read : List (List ℕ)) → AreFiles c.old.files first end read → length h.before < length read → ⊥
  not_past end read are past =
      let n : ℕ = length h.before in
      let long : length (take n read) ≡ n = length-take-le n read (omega (arith, past)) in
      let same : take n read ≡ h.before = ext_get_or [] (take n read) h.before long (λ k within.
      let there : k < n = omega (arith, long, within) in
      get_or-take n read k [] there ∙ whole_told (c.old.files (first + k)) (get_or h.before k []) (get_or read k []) (h.tells.told k there) (are.whole k (omega (arith, there, past)))) in
      let last : get_or read n [] ≡ h.bytes = whole_told (c.old.files (first + n)) h.bytes (get_or read n []) at_operand (are.whole n past) in
      let sums : sum_by length (take n read) ≡ sum_by length h.before = ap (sum_by length) same in
      let same_long : length (get_or read n []) ≡ length h.bytes = ap length last in
      let most : sum_by length (take n read) + length (get_or read n []) ≤ sum_by length read = sum_by_more_le length read n [] past in
      omega (arith, sums, same_long, most, h.sum_is, h.past, are.few)

  -- so not all are
  pub not_all : (end : ℕ) → operand < end → (read : List (List ℕ)) → AreFiles c.old.files first end read → ⊥
  not_all end below read are = not_past end read are (omega (arith, below, are.many, h.many))

  too_big_there : (end other total : ℕ) (big : IsTooBigAt (files_of c.old) first end other total) → length big.before ≡ length h.before → endings.Refused (refusals.TooBig other total) ≡ endings.Refused (refusals.TooBig operand sum)
  too_big_there end other total big as_many =
      let same_operand : other ≡ operand = omega (arith, big.read.many, h.many, as_many) in
      let told : c.old.files other ≡ Some h.bytes = subst (λ (k : ℕ). c.old.files k ≡ Some h.bytes) (sym same_operand) h.told in
      let long : big.bytes ≡ length h.bytes = length_told (c.old.files other) h.bytes big.bytes told big.length_is in
      let front : big.before ≡ take (length big.before) h.before = same_front c first h.before h.tells other big.before big.read (omega (arith, as_many)) in
      let sums : sum_by length big.before ≡ sum_by length (take (length big.before) h.before) = ap (sum_by length) front in
      let whole : sum_by length (take (length big.before) h.before) ≡ sum_by length h.before = ap (sum_by length) (take_all (length big.before) h.before (omega (arith, as_many))) in
      too_big_is other operand total sum same_operand (omega (arith, big.sum_is, h.sum_is, long, sums, whole))

  too_big_same : (end other total : ℕ) → IsTooBigAt (files_of c.old) first end other total → endings.Refused (refusals.TooBig other total) ≡ endings.Refused (refusals.TooBig operand sum)
  too_big_same end other total big =
      ⊎_elim
      (λ less. absurd (not_too_big c first h.before h.tells end other total big less))
      (λ not_less. ⊎_elim
      (λ past. absurd (not_past other big.before big.read past))
      (λ at_most. too_big_there end other total big (omega (arith, not_less, at_most)))
      (cases_lt (length h.before) (length big.before)))
      (cases_lt (length big.before) (length h.before))

  module _ (n : NothingFailed c) where
    not_failed : (other : ℕ) (before : List (List ℕ)) → AreFiles c.old.files first other before → ¬ Rose (c.old.file_faults other) (c.new.file_faults other)
    not_failed other before read rose =
        let k : ℕ = length before in
        ⊎_elim
        (λ less. let at : c.old.files other ≡ Some (get_or h.before k []) = subst (λ (x : ℕ). c.old.files x ≡ Some (get_or h.before k [])) read.many (h.tells.told k less) in n.files other (get_or h.before k []) at rose)
        (λ not_less. ⊎_elim
        (λ past. not_past other before read past)
        (λ at_most.
        let same : operand ≡ other = omega (arith, read.many, h.many, not_less, at_most) in
        n.files other h.bytes (subst (λ (x : ℕ). c.old.files x ≡ Some h.bytes) same h.told) rose)
        (cases_lt (length h.before) k))
        (cases_lt k (length h.before))

    -- why the operands aren't read
    pub operands_end : (end : ℕ) (ending : Ending) → IsQuiet c.old c.new → OperandsFault first end (files_of c.old) (files_of c.new) ending → EndsSo c ending (endings.Refused (refusals.TooBig operand sum))
    operands_end end (endings.Refused (refusals.TooBig other total)) quiet fault = record { is = inl (too_big_same end other total fault.0); quiet = quiet }
    operands_end end endings.ReadFault quiet fault = absurd (not_failed fault.0 fault.1.before fault.1.read fault.1.rose)
    operands_end end endings.NoMemory quiet fault = record { is = inr refl; quiet = quiet }
    operands_end end ending quiet fault = absurd fault

-- ---- one file

-- where the first operand's alone is too long
module _ (c : Call) (word operand sum : ℕ) (below : operand < word + 1) (h : PassesMost c word operand sum) where
  alone : length h.before ≡ 0
  alone = omega (arith, below, h.many)

  is_word : operand ≡ word
  is_word = omega (arith, alone, h.many)

  sum_alone : sum ≡ length h.bytes
  sum_alone = omega (arith, h.sum_is, none_sum h.before alone)

  told_word : c.old.files word ≡ Some h.bytes
  told_word = subst (λ (k : ℕ). c.old.files k ≡ Some h.bytes) is_word h.told

  pub not_read : (bytes : List ℕ) → Reads word bytes c.old c.new → ⊥
  not_read bytes reads =
      let same : bytes ≡ h.bytes = whole_told (c.old.files word) h.bytes bytes told_word reads.whole in
      let long : length bytes ≡ length h.bytes = ap length same in
      omega (arith, long, reads.short, h.past, sum_alone)

  pub too_big_alone : (other total : ℕ) → IsTooBig word c.old c.new other total → endings.Refused (refusals.TooBig other total) ≡ endings.Refused (refusals.TooBig operand sum)
  too_big_alone other total big =
      let long : total ≡ length h.bytes = length_told (c.old.files word) h.bytes total told_word big.length_is in
      too_big_is other operand total sum (big.operand_is ∙ sym is_word) (long ∙ sym sum_alone)

  pub not_failed_alone : NothingFailed c → ¬ Rose (c.old.file_faults word) (c.new.file_faults word)
  not_failed_alone n rose = n.files word h.bytes told_word rose

  pub file_ends : NothingFailed c → (ending : Ending) → IsQuiet c.old c.new → FileFault word c.old c.new ending → EndsSo c ending (endings.Refused (refusals.TooBig operand sum))
  file_ends n (endings.Refused (refusals.TooBig other total)) quiet fault = record { is = inl (too_big_alone other total fault); quiet = quiet }
  file_ends n endings.ReadFault quiet fault = absurd (not_failed_alone n fault.1)
  file_ends n endings.NoMemory quiet fault = record { is = inr refl; quiet = quiet }
  file_ends n ending quiet fault = absurd fault
